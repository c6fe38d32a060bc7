-- Laws of lanes in rows.
use Rattle.std.specs.Prelude.{◌≡◌, ◌⊎◌, set, take, drop}
use Rattle.std.proofs.Math.Path.{refl, ap, ap₂, subst}
use Rattle.std.proofs.Common.{sym, ◌∙◌, inl, inr, eq-or-lt_of_le, add-one, length-append, get_or-set_same, get_or-set_other, ext_get_or}
use Rattle.std.proofs.Math.Logic.{⊎_elim}
use mathlib.Core.List.{List, [], ◌∷◌, ◌++◌}
use Prim.Native.Nat.{ℕ, zero, suc, ◌+◌, ◌-◌, ◌*◌, ◌/◌, ◌≤◌, ◌<◌}
use Rattle.std.proofs.Math.Nat.{add-suc}
use native.Mathlib.Omega.{arith}
use Rattle.std.specs.Int.Bits.{bit_xor}
use Rattle.std.proofs.Math.ListN.{length, get_or, length-set, get_or-append}
use Rattle.std.proofs.lemmas.List.{get_or_at}
use Rattle.std.proofs.lemmas.Simd.{put_chunk_is, length-put_chunk, get_or-put_chunk_below, get_or-put_chunk_at, get_or-put_chunk_above}
use lib.Lanes.{put_chunk}
use Rattle.octets.specs.OctetsLaws.{as_eight}
use Rattle.fips180.specs.Constants.{constants}
use Rattle.fips180.specs.FormsLaws.{maj-any}
use Rattle.fips180.specs.Fips as Fips
use Rattle.sha256_lanes.specs.Rows.{Two, column, Same, Alike, scheduled_at, share_at, Shares, Resumed, Common, eight, State, place, temp1_at, temp2_at, round_at, Unchanged, Rounded, Compressed}

-- ---- words of a list, by index

abbrev pub Apart : ℕ → ℕ → Type 0
Apart i j = (i < j) ⊎ (j < i)

moved : (d i n j m : ℕ) → j ≡ i + d → m ≡ n + d → Apart i n → Apart j m
moved d i n j m p q h = ⊎_elim (λ a. inl (omega arith)) (λ a. inr (omega arith)) h

-- a word written at one index is not seen at another
pub set_other : (xs : List ℕ) (i j x : ℕ) → Apart j i → get_or (set xs i x) j 0 ≡ get_or xs j 0
set_other xs i j x h = get_or-set_other xs i j x 0 (λ e. ⊎_elim (λ k. omega arith) (λ k. omega arith) h)

pub set_below : (xs : List ℕ) (i j x : ℕ) → j < i → get_or (set xs i x) j 0 ≡ get_or xs j 0
set_below xs i j x h = set_other xs i j x (inl h)

pub set-above : (xs : List ℕ) (i j x : ℕ) → i < j → get_or (set xs i x) j 0 ≡ get_or xs j 0
set-above xs i j x h = set_other xs i j x (inr h)

pub set_there : (xs : List ℕ) (i j x : ℕ) → j ≡ i → i < length xs → get_or (set xs i x) j 0 ≡ x
set_there xs i j x e h = rw e (get_or-set_same xs i x 0 h)

-- what holds below n and at n holds below n + 1
pub one_more : (P : ℕ → Type 0) (n : ℕ) → ((i : ℕ) → i < n → P i) → P n → (i : ℕ) → i < n + 1 → P i
one_more P n f e i h =
    let fits : i ≤ n = omega arith in
    ⊎_elim (λ p. rw p e) (f i) (eq-or-lt_of_le fits)

-- one more element of those at the indices g 0, g 1 and so on
pub fill_next : (g f : ℕ → ℕ) (xs : List ℕ) (n a x : ℕ) → a ≡ g n → ((i : ℕ) → i < n → g i < a) → a < length xs → x ≡ f n
    → ((i : ℕ) → i < n → get_or xs (g i) 0 ≡ f i) → (i : ℕ) → i < n + 1 → get_or (set xs a x) (g i) 0 ≡ f i
fill_next g f xs n a x at rise h e old =
    one_more (λ i. get_or (set xs a x) (g i) 0 ≡ f i) n (λ i b. set_below xs a (g i) x (rise i b) ∙ old i b) (set_there xs a (g n) x (sym at) h ∙ e)

-- one more element of a list that is filled from the front
pub front_next : (f : ℕ → ℕ) (xs : List ℕ) (n x : ℕ) → ((i : ℕ) → i < n → get_or xs i 0 ≡ f i) → n < length xs → x ≡ f n
    → (i : ℕ) → i < n + 1 → get_or (set xs n x) i 0 ≡ f i
front_next f xs n x old h e = fill_next (λ i. i) f xs n n x refl (λ i a. a) h e old

-- the n words of s from p on after `copy_from_slice`, which put ys there
module _ (p n : ℕ) (s ys : List ℕ) (long : length ys ≡ n) (fits : p + n ≤ length s) where
  as_chunk : take p s ++ (ys ++ drop n (drop p s)) ≡ put_chunk p s ys
  as_chunk = rw (← long) (sym (put_chunk_is p s ys (omega arith)))

  pub length-copied : length (take p s ++ (ys ++ drop n (drop p s))) ≡ length s
  length-copied = ap length as_chunk ∙ length-put_chunk p s ys

  pub copied_below : (i : ℕ) → i < p → get_or (take p s ++ (ys ++ drop n (drop p s))) i 0 ≡ get_or s i 0
  copied_below i h = ap (λ (l : List ℕ). get_or l i 0) as_chunk ∙ get_or-put_chunk_below p s ys i 0 h

  pub copied_at : (i : ℕ) → i < n → get_or (take p s ++ (ys ++ drop n (drop p s))) (p + i) 0 ≡ get_or ys i 0
  copied_at i h = ap (λ (l : List ℕ). get_or l (p + i) 0) as_chunk ∙ get_or-put_chunk_at p s ys i 0 (omega arith) (omega arith)

  pub copied-above : (i : ℕ) → p + n ≤ i → get_or (take p s ++ (ys ++ drop n (drop p s))) i 0 ≡ get_or s i 0
  copied-above i h = ap (λ (l : List ℕ). get_or l i 0) as_chunk ∙ get_or-put_chunk_above p s ys i 0 (omega arith)

pub two_none : (p q c : ℕ) (f g : ℕ → ℕ) (s : List ℕ) → Two p q c f g 0 s s
two_none p q c f g s =
    record {
      long = refl;
      first = λ i h. absurd (omega arith);
      second = λ i h. absurd (omega arith);
      low = λ i h. refl;
      mid = λ i h k. refl;
      high = λ i h. refl;
    }

pub two_next : (p q c : ℕ) (f g : ℕ → ℕ) (n : ℕ) (s z : List ℕ) (a b x y : ℕ) → n < c → p + c ≤ q → q + c ≤ length s → a ≡ p + n → b ≡ q + n
    → x ≡ f n → y ≡ g n → Two p q c f g n s z → Two p q c f g (n + 1) s (set (set z a x) b y)
two_next p q c f g n s z a b x y h k l ea eb ex ey t =
    let u = set z a x in
    let lz : length z ≡ length s = t.long in
    let lu : length u ≡ length s = simp length-set lz in
    record {
      long = simp length-set lz;
      first = λ i m. set_below u b (p + i) y (omega arith) ∙ fill_next (λ j. p + j) f z n a x ea (λ j d. omega arith) (omega arith) ex t.first i m;
      second =
          fill_next (λ j. q + j) g u n b y eb (λ j d. omega arith) (omega arith) ey
          (λ j d. set-above z a (q + j) x (omega arith) ∙ t.second j d);
      low = λ i m. set_below u b i y (omega arith) ∙ set_below z a i x (omega arith) ∙ t.low i m;
      mid = λ i m o. set_below u b i y (omega arith) ∙ set-above z a i x (omega arith) ∙ t.mid i m o;
      high = λ i m. set-above u b i y (omega arith) ∙ set-above z a i x (omega arith) ∙ t.high i m;
    }

-- ---- columns

pub length-column : (l n : ℕ) (xs : List ℕ) → length (column l n xs) ≡ n
unfolding column
length-column l zero xs = refl
length-column l (suc n) xs = rw (length-append, length-column l n xs) (omega arith)

pub get_d_column : (l n : ℕ) (xs : List ℕ) (t : ℕ) → t < n → get_or (column l n xs) t 0 ≡ get_or xs (16 * t + l) 0
unfolding column
get_d_column l zero xs t h = absurd (omega arith)
get_d_column l (suc n) xs t h =
    let fits : t ≤ n = omega arith in
    let last : List ℕ = get_or xs (16 * n + l) 0 ∷ [] in
    ⊎_elim
    (λ e. rw e (get_or_at (column l n xs) (get_or xs (16 * n + l) 0) [] 0 n (length-column l n xs)))
    (λ k. get_or-append (column l n xs) last 0 t (rw length-column k) ∙ get_d_column l n xs t k)
    (eq-or-lt_of_le fits)

pub column_same : (l n : ℕ) (xs ys : List ℕ) → ((t : ℕ) → t < n → get_or ys (16 * t + l) 0 ≡ get_or xs (16 * t + l) 0) → column l n ys ≡ column l n xs
unfolding column
column_same l zero xs ys h = refl
column_same l (suc n) xs ys h =
    ap₂ (λ (c : List ℕ) (x : ℕ). c ++ (x ∷ [])) (column_same l n xs ys (λ t k. h t (omega arith))) (h n (omega arith))

-- ---- the schedule

module _ (w : List ℕ) (l u n : ℕ) (e : 16 * (16 + u) + l ≡ n) where
  word_of : (d m : ℕ) → 0 < d → d ≤ 16 → m ≡ n - 16 * d → get_or (column l (16 + u) w) (16 + u - d) 0 ≡ get_or w m 0
  word_of d m h k p =
      get_d_column l (16 + u) w (16 + u - d) (omega arith) ∙ ap (λ (i : ℕ). get_or w i 0) (let q : 16 * (16 + u - d) + l ≡ m = omega arith in q)

  scheduled-column : scheduled_at w n ≡ Fips.scheduled (column l (16 + u) w) (16 + u)
  unfolding scheduled_at Fips.scheduled
  scheduled-column =
      rw (
        word_of 2 (n - 32) (omega arith) (omega arith) (omega arith),
        word_of 7 (n - 112) (omega arith) (omega arith) (omega arith),
        word_of 15 (n - 240) (omega arith) (omega arith) (omega arith),
        word_of 16 (n - 256) (omega arith) (omega arith) (omega arith),
      )

-- the words before index n are those of the schedules of the blocks in m
pub Filled : ℕ → List ℕ → List ℕ → Type 0
Filled n m w = (l t : ℕ) → l < 16 → 16 * (16 + t) + l < n + 16 → column l (16 + t) w ≡ Fips.schedule (column l 16 m) t

filled_none : (m : List ℕ) → Filled 256 m m
unfolding Filled Fips.schedule
filled_none m l zero h k = refl
filled_none m l (suc t) h k = absurd (omega arith)

module _ (m w : List ℕ) (n x : ℕ) (f : Filled n m w) (hn : 256 ≤ n) (in-w : n < length w) (p : x ≡ scheduled_at w n) where
  before : (l t : ℕ) → 16 * (16 + t) + l < n + 16 → column l (16 + t) (set w n x) ≡ column l (16 + t) w
  before l t h = column_same l (16 + t) w (set w n x) (λ j k. set_below w n (16 * j + l) x (omega arith))

  next : (l u : ℕ) → l < 16 → 16 * (16 + u) + l ≡ n → column l (suc (16 + u)) (set w n x) ≡ Fips.schedule (column l 16 m) (suc u)
  unfolding Filled column Fips.schedule
  next l u h e =
      let old : column l (16 + u) w ≡ Fips.schedule (column l 16 m) u = f l u h (omega arith) in
      let word : get_or (set w n x) (16 * (16 + u) + l) 0 ≡ Fips.scheduled (Fips.schedule (column l 16 m) u) (16 + u) =
      set_there w n (16 * (16 + u) + l) x e in-w ∙ p ∙ scheduled-column w l u n e ∙ ap (λ (c : List ℕ). Fips.scheduled c (16 + u)) old in
      ap₂ (λ (c : List ℕ) (y : ℕ). c ++ (y ∷ [])) (before l u (omega arith) ∙ old) word

  filled_next : Filled (n + 1) m (set w n x)
  unfolding Filled
  filled_next l zero h k = before l zero (omega arith) ∙ f l zero h (omega arith)
  filled_next l (suc u) h k =
      let fits : 16 * (16 + u) + l ≤ n = omega arith in
      ⊎_elim
      (λ e. rw add-suc (next l u h e))
      (λ a. before l (suc u) (omega arith) ∙ f l (suc u) h (omega arith))
      (eq-or-lt_of_le fits)

same_next : (m w : List ℕ) (n x : ℕ) → Same 256 m w → 256 ≤ n → Same 256 m (set w n x)
unfolding Same
same_next m w n x f h i k = set_below w n i x (omega arith) ∙ f i k

-- ---- sums of words

add_group : (a b c : ℕ) → Fips.add a (Fips.add b c) ≡ Fips.add (Fips.add a b) c
unfolding Fips.add
add_group a b c = omega arith

add-swap : (a b : ℕ) → Fips.add a b ≡ Fips.add b a
unfolding Fips.add
add-swap a b = omega arith

add_nothing : (a b : ℕ) → Fips.add (Fips.add a 0) b ≡ Fips.add a b
unfolding Fips.add
add_nothing a b = omega arith

add-later : (a b c : ℕ) → Fips.add (Fips.add (Fips.add a 0) c) b ≡ Fips.add (Fips.add a b) c
add-later a b c = ap (λ (y : ℕ). Fips.add y b) (add_nothing a c) ∙ sym (add_group a c b) ∙ ap (Fips.add a) (add-swap c b) ∙ add_group a b c

add-across : (a b c d : ℕ) → Fips.add b (Fips.add a (Fips.add c d)) ≡ Fips.add (Fips.add (Fips.add a b) c) d
add-across a b c d = add_group b a (Fips.add c d) ∙ ap (λ (y : ℕ). Fips.add y (Fips.add c d)) (add-swap b a) ∙ add_group (Fips.add a b) c d

-- ---- shares of the schedule

-- the share of words 0 to 2, 14 and 15 in words 16 and 17
unfoldable pub first_share : List ℕ → ℕ → ℕ
first_share w n = Fips.add (Fips.small_sigma1 (get_or w (n + 224) 0)) (share_at w n)

-- the share of words 2 to 4 in words 18 and 19
unfoldable pub next_share : List ℕ → ℕ → ℕ
next_share w n = share_at w (n + 32)

pub shares-done : (n : ℕ) (w y x : List ℕ) → n ≡ 32 → Two 0 32 32 (first_share w) (next_share w) n y x → Shares w x
unfolding first_share next_share
shares-done n w y x e t =
    record {
      first = λ i h. (let p : i ≡ 0 + i = omega arith in ap (λ (m : ℕ). get_or x m 0) p) ∙ t.first i (omega arith);
      second = λ i h. (let p : i + 32 ≡ 32 + i = omega arith in ap (λ (m : ℕ). get_or x m 0) p) ∙ t.second i (omega arith);
    }

module _ (w x : List ℕ) (n : ℕ) (f : Shares w x) where
  share_of : (i : ℕ) → n ≡ i + 256 → share_at w i ≡ Fips.add (Fips.small_sigma0 (get_or w (n - 240) 0)) (get_or w (n - 256) 0)
  unfolding share_at
  share_of i e =
      let far : i + 16 ≡ n - 240 = omega arith in
      let last : i ≡ n - 256 = omega arith in
      rw (far, last)

  pub shared_first : 256 ≤ n → n < 288 → Fips.add (get_or w (n - 112) 0) (get_or x (n - 256) 0) ≡ scheduled_at w n
  unfolding scheduled_at
  shared_first h k =
      let near : n - 256 + 224 ≡ n - 32 = omega arith in
      let share = rw (near, share_of (n - 256) (omega arith)) at (f.first (n - 256) (omega arith)) in
      rw share (add-across _ _ _ _)

  pub shared_next : 288 ≤ n → n < 320
      → Fips.add (Fips.add (Fips.small_sigma1 (get_or w (n - 32) 0)) (get_or w (n - 112) 0)) (get_or x (n - 256) 0) ≡ scheduled_at w n
  unfolding scheduled_at
  shared_next h k =
      let at : n - 288 + 32 ≡ n - 256 = omega arith in
      let share = (rw at at (f.second (n - 288) (omega arith))) ∙ share_of (n - 256) (omega arith) in
      rw share (add_group _ _ _)

same_alike : (w z : List ℕ) → Same 256 w z → Alike w z
unfolding Same Alike
same_alike w z f i h k = f i k

shares-unchanged : (w x y : List ℕ) → Same 64 x y → Shares w x → Shares w y
unfolding Same
shares-unchanged w x y e f =
    record {
      first = λ n h. e n (omega arith) ∙ f.first n h;
      second = λ n h. e (n + 32) (omega arith) ∙ f.second n h;
    }

shares_alike : (w z x : List ℕ) → Alike w z → Shares w x → Shares z x
unfolding Alike share_at
shares_alike w z x e f =
    record {
      first =
          λ n h.
          rw (
            e (n + 224) (inr (omega arith)) (omega arith),
            e (n + 16) (inl (omega arith)) (omega arith),
            e n (inl (omega arith)) (omega arith),
          ) (f.first n h);
      second =
          λ n h. rw (e (n + 32 + 16) (inl (omega arith)) (omega arith), e (n + 32) (inl (omega arith)) (omega arith)) (f.second n h);
    }

-- the blocks m stand in w, and, if x has their shares, so do the words of their schedules before index n
pub record Going (x m : List ℕ) (n : ℕ) (w : List ℕ) : Type 0 where
  pub same : Same 256 m w
  pub filled : Shares m x → Filled n m w

pub going_none : (x m : List ℕ) → Going x m 256 m
unfolding Same
going_none x m = record { same = λ i h. refl; filled = λ h. filled_none m }

pub going_next : (x m w : List ℕ) (n y : ℕ) → 256 ≤ n → n < length w → (Shares w x → y ≡ scheduled_at w n) → Going x m n w → Going x m (n + 1) (set w n y)
going_next x m w n y h k e g =
    record {
      same = same_next m w n y g.same h;
      filled = λ f. filled_next m w n y (g.filled f) h k (e (shares_alike m w x (same_alike m w g.same) f));
    }

pub going_done : (x m w : List ℕ) (n : ℕ) → 1024 ≤ n → Going x m n w → Shares m x → (l : ℕ) → l < 16 → column l 64 w ≡ Fips.schedule (column l 16 m) 48
unfolding Filled
going_done x m w n h g f l k = g.filled f l 48 k (omega arith)

-- ---- a round of one lane

-- three words written: y at n + 2176, then e at n + 1088, then a at n
module _ (s : List ℕ) (n y e a : ℕ) (hn : n < 1024) (ls : length s ≡ 3264) where
  one : List ℕ
  one = set s (n + 2176) y

  two : List ℕ
  two = set one (n + 1088) e

  unfoldable three : List ℕ
  three = set two n a

  low : (i : ℕ) → Apart i n → i < n + 1088 → get_or three i 0 ≡ get_or s i 0
  unfolding one two three
  low i g h = set_other two n i a g ∙ set_below one (n + 1088) i e h ∙ set_below s (n + 2176) i y (omega arith)

  mid : (i : ℕ) → n < i → Apart i (n + 1088) → i < n + 2176 → get_or three i 0 ≡ get_or s i 0
  unfolding one two three
  mid i f g h = set-above two n i a f ∙ set_other one (n + 1088) i e g ∙ set_below s (n + 2176) i y h

  high : (i : ℕ) → n + 1088 < i → Apart i (n + 2176) → get_or three i 0 ≡ get_or s i 0
  unfolding one two three
  high i f g = set-above two n i a (omega arith) ∙ set-above one (n + 1088) i e f ∙ set_other s (n + 2176) i y g

  new-a : get_or three n 0 ≡ a
  unfolding one two three
  new-a = set_there two n n a refl (simp length-set (omega arith))

  new-e : get_or three (n + 1088) 0 ≡ e
  unfolding one two three
  new-e = set-above two n (n + 1088) a (omega arith) ∙ set_there one (n + 1088) (n + 1088) e refl (simp length-set (omega arith))

  new-y : get_or three (n + 2176) 0 ≡ y
  unfolding one two three
  new-y =
      set-above two n (n + 2176) a (omega arith) ∙ set-above one (n + 1088) (n + 2176) e (omega arith) ∙ set_there s (n + 2176) (n + 2176) y refl (omega arith)

  -- working variables that are not at n
  three-unchanged : (q : List ℕ) (m : ℕ) → m < 1040 → Apart m n → Apart (m + 16) n → Apart (m + 32) n → Apart (m + 48) n → State q m s → State q m three
  unfolding eight
  three-unchanged q m k s0 s1 s2 s3 g =
      record {
        words =
            rw (
              low m s0 (omega arith),
              low (m + 16) s1 (omega arith),
              low (m + 32) s2 (omega arith),
              low (m + 48) s3 (omega arith),
              mid (m + 1088) (omega arith) (moved 1088 m n (m + 1088) (n + 1088) refl refl s0) (omega arith),
              mid (m + 1088 + 16) (omega arith) (moved 1088 (m + 16) n (m + 1088 + 16) (n + 1088) (omega arith) refl s1) (omega arith),
              mid (m + 1088 + 32) (omega arith) (moved 1088 (m + 32) n (m + 1088 + 32) (n + 1088) (omega arith) refl s2) (omega arith),
              mid (m + 1088 + 48) (omega arith) (moved 1088 (m + 48) n (m + 1088 + 48) (n + 1088) (omega arith) refl s3) (omega arith),
            ) g.words;
        differ =
            rw (
              high (m + 2176) (omega arith) (moved 2176 m n (m + 2176) (n + 2176) refl refl s0),
              low (m + 16) s1 (omega arith),
              low (m + 32) s2 (omega arith),
            ) g.differ;
      }

  -- the words at n
  three-words : eight n (n + 1088) three
      ≡ a ∷ get_or s (n + 16) 0 ∷ get_or s (n + 32) 0 ∷ get_or s (n + 48) 0
      ∷ e ∷ get_or s (n + 1104) 0 ∷ get_or s (n + 1120) 0 ∷ get_or s (n + 1136) 0 ∷ []
  unfolding eight
  three-words =
      let old : (i j : ℕ) → i ≡ j → get_or s i 0 ≡ get_or s j 0 = λ i j p. ap (λ (m : ℕ). get_or s m 0) p in
      rw (
        new-a,
        low (n + 16) (inr (omega arith)) (omega arith),
        low (n + 32) (inr (omega arith)) (omega arith),
        low (n + 48) (inr (omega arith)) (omega arith),
        new-e,
        mid (n + 1088 + 16) (omega arith) (inr (omega arith)) (omega arith) ∙ old (n + 1088 + 16) (n + 1104) (omega arith),
        mid (n + 1088 + 32) (omega arith) (inr (omega arith)) (omega arith) ∙ old (n + 1088 + 32) (n + 1120) (omega arith),
        mid (n + 1088 + 48) (omega arith) (inr (omega arith)) (omega arith) ∙ old (n + 1088 + 48) (n + 1136) (omega arith),
      )

  three-differ : y ≡ bit_xor (get_or s (n + 16) 0) (get_or s (n + 32) 0)
      → get_or three (n + 2176) 0 ≡ bit_xor (get_or three (n + 16) 0) (get_or three (n + 32) 0)
  three-differ p = rw (new-y, low (n + 16) (inr (omega arith)) (omega arith), low (n + 32) (inr (omega arith)) (omega arith)) p

module _ (k x n : ℕ) (s : List ℕ) (hn : n < 1024) (ls : length s ≡ 3264) where
  -- working variables after index n
  round-unchanged : (q : List ℕ) (m : ℕ) → n < m → m < 1040 → State q m s → State q m (round_at k x n s)
  unfolding round_at three two one
  round-unchanged q m h i g = three-unchanged s n _ _ _ hn ls q m i (inr h) (inr (omega arith)) (inr (omega arith)) (inr (omega arith)) g

  -- those of a lane before it in the same row
  round-beside : (q : List ℕ) (m : ℕ) → m < n → n < m + 16 → State q m s → State q m (round_at k x n s)
  unfolding round_at three two one
  round-beside q m h i g = three-unchanged s n _ _ _ hn ls q m (omega arith) (inl h) (inr i) (inr (omega arith)) (inr (omega arith)) g

  round_state : (q : List ℕ) → State q (n + 16) s → State (Fips.round k x q) n (round_at k x n s)
  unfolding round_at three two one eight Fips.round temp1_at temp2_at Fips.temp2
  round_state q g =
      let t1 = temp1_at k x n s in
      let t2 = temp2_at n s in
      let y = bit_xor (get_or s (n + 16) 0) (get_or s (n + 32) 0) in
      let old : (i j : ℕ) → i ≡ j → get_or s i 0 ≡ get_or s j 0 = λ i j p. ap (λ (m : ℕ). get_or s m 0) p in
      let differ = rw (old (n + 16 + 2176) (n + 2192) (omega arith), old (n + 16 + 16) (n + 32) (omega arith), old (n + 16 + 32) (n + 48) (omega arith)) at g.differ in
      record {
        words =
            three-words s n y (Fips.add (get_or s (n + 64) 0) t1) (Fips.add t1 t2) hn ls
            ∙ rw (
              ← g.words,
              differ,
              maj-any,
              old (n + 16 + 16) (n + 32) (omega arith),
              old (n + 16 + 32) (n + 48) (omega arith),
              old (n + 16 + 48) (n + 64) (omega arith),
              old (n + 16 + 1088) (n + 1104) (omega arith),
              old (n + 16 + 1088 + 16) (n + 1120) (omega arith),
              old (n + 16 + 1088 + 32) (n + 1136) (omega arith),
              old (n + 16 + 1088 + 48) (n + 1152) (omega arith),
            );
        differ = three-differ s n y (Fips.add (get_or s (n + 64) 0) t1) (Fips.add t1 t2) hn ls refl;
      }

-- ---- a round of every lane

pub unchanged_all : (b : ℕ) (s : List ℕ) → Unchanged b s s
unfolding Unchanged
unchanged_all b s q m h k g = g

pub unchanged_then : (b d : ℕ) (s r z : List ℕ) → d ≤ b → Unchanged b s r → Unchanged d r z → Unchanged b s z
unfolding Unchanged
unchanged_then b d s r z h f g q m i k e = g q m (omega arith) k (f q m i k e)

-- round t, of which the lanes before l are done
unfoldable pub Part : ℕ → ℕ → ℕ → List ℕ → List ℕ → List ℕ → Type 0
Part k t l w s r =
    (j : ℕ) (q : List ℕ) → j < l → State q (place t j) s → State (Fips.round k (get_or w (16 * t + j) 0) q) (place (t + 1) j) r

pub part_none : (k t : ℕ) (w s r : List ℕ) → Part k t 0 w s r
unfolding Part
part_none k t w s r j q h g = absurd (omega arith)

module _ (k t l n x : ℕ) (w s r z : List ℕ) (ht : t < 64) (hl : l < 16) (e : n ≡ 1008 - 16 * t + l) (p : x ≡ get_or w (16 * t + l) 0)
    (lr : length r ≡ 3264) (unchanged : Unchanged (1024 - 16 * t) s r) (d : z ≡ round_at k x n r) where
  hn : n < 1024
  hn = omega arith

  pub part-unchanged : Unchanged (1024 - 16 * t) s z
  unfolding Unchanged
  part-unchanged q m h i g = rw d (round-unchanged k x n r hn lr q m (omega arith) i (unchanged q m h i g))

  pub part_next : Part k t l w s r → Part k t (l + 1) w s z
  unfolding Part Unchanged
  part_next f j q h g =
      let fits : j ≤ l = omega arith in
      ⊎_elim
      (λ i.
      let old : 16 * (64 - t) + j ≡ n + 16 = omega arith in
      let new : 16 * (64 - (t + 1)) + j ≡ n = omega arith in
      let word : x ≡ get_or w (16 * t + j) 0 = rw i p in
      rw (new, ← word, d) (round_state k x n r hn lr q (unchanged q (n + 16) (omega arith) (omega arith) (rw old at g))))
      (λ i. rw d (round-beside k x n r hn lr _ (place (t + 1) j) (omega arith) (omega arith) (f j q i g)))
      (eq-or-lt_of_le fits)

pub part-done : (k t l : ℕ) (w s r : List ℕ) → l ≡ 16 → t < 64 → k ≡ get_or constants t 0 → Part k t l w s r → Rounded w t (t + 1) s r
unfolding Part Rounded Fips.rounds
part-done k t l w s r e ht p f j h i g =
    subst (λ (q : List ℕ). State q (place (t + 1) j) r)
    (rw (add-one, get_d_column j 64 w t ht, ← p))
    (f j (Fips.rounds (column j 64 w) h t) (omega arith) g)

pub rounded_none : (w : List ℕ) (t : ℕ) (s : List ℕ) → Rounded w t t s s
unfolding Rounded
rounded_none w t s l h k g = g

pub rounded_then : (w : List ℕ) (a b d : ℕ) (s r z : List ℕ) → Rounded w a b s r → Rounded w b d r z → Rounded w a d s z
unfolding Rounded
rounded_then w a b d s r z f g l h k e = g l h k (f l h k e)

-- ---- round 5 without its word

-- a round's word is only added, to a and to e
round-word : (k w : ℕ) (q : List ℕ)
    → Fips.add (get_or (Fips.round k 0 q) 0 0) w ∷ get_or q 0 0 ∷ get_or q 1 0 ∷ get_or q 2 0
    ∷ Fips.add (get_or (Fips.round k 0 q) 4 0) w ∷ get_or q 4 0 ∷ get_or q 5 0 ∷ get_or q 6 0 ∷ []
    ≡ Fips.round k w q
unfolding Fips.round Fips.temp1
round-word k w q =
    let d = get_or q 3 0 in
    let t = Fips.add (Fips.add (Fips.add (get_or q 7 0) (Fips.big_sigma1 (get_or q 4 0))) (Fips.ch (get_or q 4 0) (get_or q 5 0) (get_or q 6 0))) k in
    let u = Fips.temp2 (get_or q 0 0) (get_or q 1 0) (get_or q 2 0) in
    rw (add-later t w u, ← add_group d (Fips.add t 0) w, add_nothing t w)

-- the rows of a and e after round 5 with its word
unfoldable pub worded_a : List ℕ → List ℕ → ℕ → ℕ
worded_a w x l = Fips.add (get_or x (64 + l) 0) (get_or w (80 + l) 0)

unfoldable pub worded_e : List ℕ → List ℕ → ℕ → ℕ
worded_e w x l = Fips.add (get_or x (80 + l) 0) (get_or w (80 + l) 0)

module _ (n : ℕ) (w x s r : List ℕ) (e : n ≡ 16) (t : Two 928 2016 16 (worded_a w x) (worded_e w x) n s r) where
  pub resume_unchanged : Unchanged 944 s r
  unfolding Unchanged eight
  resume_unchanged q m h k g =
      record {
        words =
            rw (
              t.mid m (omega arith) (omega arith),
              t.mid (m + 16) (omega arith) (omega arith),
              t.mid (m + 32) (omega arith) (omega arith),
              t.mid (m + 48) (omega arith) (omega arith),
              t.high (m + 1088) (omega arith),
              t.high (m + 1088 + 16) (omega arith),
              t.high (m + 1088 + 32) (omega arith),
              t.high (m + 1088 + 48) (omega arith),
            ) g.words;
        differ =
            rw (
              t.high (m + 2176) (omega arith),
              t.mid (m + 16) (omega arith) (omega arith),
              t.mid (m + 32) (omega arith) (omega arith),
            ) g.differ;
      }

  pub resume_done : Resumed w x s r
  unfolding Resumed eight worded_a worded_e
  resume_done l q in_row before held =
      let word = get_or w (80 + l) 0 in
      let old : (i j : ℕ) → i ≡ j → get_or s i 0 ≡ get_or s j 0 = λ i j p. ap (λ (m : ℕ). get_or s m 0) p in
      let five : (c : ℕ) → get_or (eight (944 + l) (944 + l + 1088) s) c 0 ≡ get_or q c 0 = λ c. ap (λ (p : List ℕ). get_or p c 0) before.words in
      let a = t.first l (omega arith) ∙ ap (λ (y : ℕ). Fips.add y word) held.a in
      let b = t.mid (928 + l + 16) (omega arith) (omega arith) ∙ old (928 + l + 16) (944 + l) (omega arith) ∙ five 0 in
      let c = t.mid (928 + l + 32) (omega arith) (omega arith) ∙ old (928 + l + 32) (944 + l + 16) (omega arith) ∙ five 1 in
      let d = t.mid (928 + l + 48) (omega arith) (omega arith) ∙ old (928 + l + 48) (944 + l + 32) (omega arith) ∙ five 2 in
      let at-e : 928 + l + 1088 ≡ 2016 + l = omega arith in
      let e = ap (λ (m : ℕ). get_or r m 0) at-e ∙ t.second l (omega arith) ∙ ap (λ (y : ℕ). Fips.add y word) held.e in
      let f = t.high (928 + l + 1088 + 16) (omega arith) ∙ old (928 + l + 1088 + 16) (944 + l + 1088) (omega arith) ∙ five 4 in
      let g = t.high (928 + l + 1088 + 32) (omega arith) ∙ old (928 + l + 1088 + 32) (944 + l + 1088 + 16) (omega arith) ∙ five 5 in
      let h = t.high (928 + l + 1088 + 48) (omega arith) ∙ old (928 + l + 1088 + 48) (944 + l + 1088 + 32) (omega arith) ∙ five 6 in
      record {
        words = rw (a, b, c, d, e, f, g, h) (round-word (get_or constants 5 0) word q);
        differ =
            rw (
              t.high (928 + l + 2176) (omega arith),
              t.mid (928 + l + 16) (omega arith) (omega arith),
              t.mid (928 + l + 32) (omega arith) (omega arith),
            ) held.differ;
      }

-- ---- the sums

-- the sums of the words before index n are made
pub record Summed (n : ℕ) (s v : List ℕ) : Type 0 where
  pub first : (i : ℕ) → i < n → get_or v i 0 ≡ Fips.add (get_or s (i + 1024) 0) (get_or s i 0)
  pub second : (i : ℕ) → i < n → get_or v (i + 64) 0 ≡ Fips.add (get_or s (i + 2112) 0) (get_or s (i + 1088) 0)

pub summed_none : (s v : List ℕ) → Summed 0 s v
summed_none s v = record { first = λ i h. absurd (omega arith); second = λ i h. absurd (omega arith) }

pub summed_next : (n : ℕ) (s v z : List ℕ) (x y : ℕ) → n < 64 → length v ≡ 128
    → x ≡ Fips.add (get_or s (n + 1024) 0) (get_or s n 0) → y ≡ Fips.add (get_or s (n + 2112) 0) (get_or s (n + 1088) 0)
    → z ≡ set (set v n x) (n + 64) y → Summed n s v → Summed (n + 1) s z
summed_next n s v z x y h l p q d f =
    let u = set v n x in
    let lu : length u ≡ 128 = simp length-set l in
    record {
      first =
          λ i k.
          rw d
          (set_below u (n + 64) i y (omega arith)
          ∙ front_next (λ j. Fips.add (get_or s (j + 1024) 0) (get_or s j 0)) v n x f.first (omega arith) p i k);
      second =
          λ i k.
          rw d
          (fill_next (λ j. j + 64) (λ j. Fips.add (get_or s (j + 2112) 0) (get_or s (j + 1088) 0)) u n (n + 64) y refl (λ j a. omega arith) (omega arith) q
          (λ j a. set-above v n (j + 64) x (omega arith) ∙ f.second j a) i k);
    }

-- the words of a column of eight
column-eight : (l : ℕ) (v : List ℕ)
    → column l 8 v
    ≡ get_or v (0 + l) 0 ∷ get_or v (16 + l) 0 ∷ get_or v (32 + l) 0 ∷ get_or v (48 + l) 0
    ∷ get_or v (64 + l) 0 ∷ get_or v (80 + l) 0 ∷ get_or v (96 + l) 0 ∷ get_or v (112 + l) 0 ∷ []
unfolding column
column-eight l v = refl

pub summed_done : (n : ℕ) (s v : List ℕ) → 64 ≤ n → Summed n s v → (l : ℕ) (h q : List ℕ) → l < 16 → State h (place 0 l) s → State q (place 64 l) s
    → column l 8 v ≡ Fips.sums h q
unfolding eight Fips.sums
summed_done n s v e f l h q k g u =
    let at : (i j o m : ℕ) → j ≡ i → o ≡ i + 1024 → m ≡ i → i < n → get_or v j 0 ≡ Fips.add (get_or s o 0) (get_or s m 0) =
    λ i j o m a b c d. rw (a, b, c) (f.first i d) in
    let by : (i j o m : ℕ) → j ≡ i + 64 → o ≡ i + 2112 → m ≡ i + 1088 → i < n → get_or v j 0 ≡ Fips.add (get_or s o 0) (get_or s m 0) =
    λ i j o m a b c d. rw (a, b, c) (f.second i d) in
    column-eight l v
    ∙ rw (
      ← g.words,
      ← u.words,
      at l (0 + l) (1024 + l) (0 + l) (omega arith) (omega arith) (omega arith) (omega arith),
      at (l + 16) (16 + l) (1024 + l + 16) (0 + l + 16) (omega arith) (omega arith) (omega arith) (omega arith),
      at (l + 32) (32 + l) (1024 + l + 32) (0 + l + 32) (omega arith) (omega arith) (omega arith) (omega arith),
      at (l + 48) (48 + l) (1024 + l + 48) (0 + l + 48) (omega arith) (omega arith) (omega arith) (omega arith),
      by l (64 + l) (1024 + l + 1088) (0 + l + 1088) (omega arith) (omega arith) (omega arith) (omega arith),
      by (l + 16) (80 + l) (1024 + l + 1088 + 16) (0 + l + 1088 + 16) (omega arith) (omega arith) (omega arith) (omega arith),
      by (l + 32) (96 + l) (1024 + l + 1088 + 32) (0 + l + 1088 + 32) (omega arith) (omega arith) (omega arith) (omega arith),
      by (l + 48) (112 + l) (1024 + l + 1088 + 48) (0 + l + 1088 + 48) (omega arith) (omega arith) (omega arith) (omega arith),
    )

-- ---- the compression

-- the first t rounds depend only on the first t words
rounds_first : (w m h : List ℕ) (t : ℕ) → ((i : ℕ) → i < t → get_or w i 0 ≡ get_or m i 0) → Fips.rounds w h t ≡ Fips.rounds m h t
unfolding Fips.rounds
rounds_first w m h zero e = refl
rounds_first w m h (suc t) e =
    ap₂ (λ (x : ℕ) (s : List ℕ). Fips.round (get_or constants t 0) x s) (e t (omega arith)) (rounds_first w m h t (λ i k. e i (omega arith)))

column-alike : (l : ℕ) (w z : List ℕ) → Alike w z → l < 16 → column l 5 z ≡ column l 5 w
unfolding Alike
column-alike l w z e k = column_same l 5 w z (λ t i. e (16 * t + l) (inl (omega arith)) (omega arith))

pub common-alike : (h w z x s : List ℕ) → Alike w z → Common h w x s → Common h z x s
common-alike h w z x s e c =
    record {
      shares = shares_alike w z x e c.shares;
      start = c.start;
      five = λ l k. rw (column-alike l w z e k) (c.five l k);
      held = λ l k. rw (column-alike l w z e k) (c.held l k);
    }

-- the first five rounds over a lane's schedule
five_first : (h m w : List ℕ) (l : ℕ) → Alike m w → l < 16 → Fips.rounds (column l 5 m) h 5 ≡ Fips.rounds (column l 64 w) h 5
unfolding Alike
five_first h m w l e k =
    rounds_first (column l 5 m) (column l 64 w) h 5
    (λ i a. get_d_column l 5 m i a ∙ sym (e (16 * i + l) (inl (omega arith)) (omega arith)) ∙ sym (get_d_column l 64 w i (omega arith)))

no_rounds : (w h s : List ℕ) (n : ℕ) → State h n s → State (Fips.rounds w h 0) n s
unfolding Fips.rounds
no_rounds w h s n x = x

-- the first six, with word 5 of w
six_first : (h m w : List ℕ) (l : ℕ) → Alike m w → l < 16
    → Fips.round (get_or constants 5 0) (get_or w (80 + l) 0) (Fips.rounds (column l 5 m) h 5) ≡ Fips.rounds (column l 64 w) h 6
unfolding Fips.rounds
six_first h m w l e k =
    ap₂ (λ (x : ℕ) (s : List ℕ). Fips.round (get_or constants 5 0) x s) (sym (get_d_column l 64 w 5 (omega arith))) (five_first h m w l e k)

module _ (h w x y s u r : List ℕ) (shared : Shares w x) (zeros : (l : ℕ) → l < 16 → get_or w (80 + l) 0 ≡ 0)
    (g : (l : ℕ) → l < 16 → State h (place 0 l) s) (unchanged-five : Unchanged (1024 - 16 * 0) s u) (five : Rounded w 0 5 s u)
    (unchanged-six : Unchanged (1024 - 16 * 5) u r) (six : Rounded w 5 6 u r) (same : Same 64 x y)
    (rows : (l : ℕ) → l < 16 → (get_or y (64 + l) 0 ≡ get_or r (928 + l) 0) × (get_or y (80 + l) 0 ≡ get_or r (2016 + l) 0)) where
  alike : Alike w w
  unfolding Same
  alike = same_alike w w (λ i a. refl)

  after_five : (l : ℕ) → l < 16 → State (Fips.rounds (column l 64 w) h 5) (place 5 l) u
  unfolding Rounded
  after_five l k = five l h k (no_rounds (column l 64 w) h s (place 0 l) (g l k))

  after_six : (l : ℕ) → l < 16 → State (Fips.round (get_or constants 5 0) 0 (Fips.rounds (column l 5 w) h 5)) (place 6 l) r
  unfolding Rounded
  after_six l k =
      subst (λ (q : List ℕ). State q (place 6 l) r)
      (sym (rw (zeros l k) at (six_first h w w l alike k)))
      (six l h k (after_five l k))

  pub common_by : Common h w y r
  unfolding Unchanged eight
  common_by =
      record {
        shares = shares-unchanged w x y same shared;
        start = λ l k. unchanged-six h (place 0 l) (omega arith) (omega arith) (unchanged-five h (place 0 l) (omega arith) (omega arith) (g l k));
        five =
            λ l k.
            subst (λ (q : List ℕ). State q (place 5 l) r) (sym (five_first h w w l alike k))
            (unchanged-six _ (place 5 l) (omega arith) (omega arith) (after_five l k));
        held =
            λ l k.
            let at-e : 2016 + l ≡ 928 + l + 1088 = omega arith in
            record {
              a = (rows l k).0 ∙ ap (λ (q : List ℕ). get_or q 0 0) (after_six l k).words;
              e = (rows l k).1 ∙ ap (λ (m : ℕ). get_or r m 0) at-e ∙ ap (λ (q : List ℕ). get_or q 4 0) (after_six l k).words;
              differ = (after_six l k).differ;
            };
      }

module _ (m x w s u r v : List ℕ) (same : Same 256 m w)
    (made : Shares m x → (l : ℕ) → l < 16 → column l 64 w ≡ Fips.schedule (column l 16 m) 48) (unchanged-five : Unchanged 944 s u) (six : Resumed w x s u)
    (unchanged : Unchanged (1024 - 16 * 6) u r) (done : Rounded w 6 64 u r)
    (summed : (l : ℕ) (h q : List ℕ) → l < 16 → State h (place 0 l) r → State q (place 64 l) r → column l 8 v ≡ Fips.sums h q) where
  resumed : (h : List ℕ) → Common h m x s → (l : ℕ) → l < 16 → State (Fips.rounds (column l 64 w) h 6) (place 6 l) u
  unfolding Resumed
  resumed h c l k =
      subst (λ (q : List ℕ). State q (place 6 l) u) (six_first h m w l (same_alike m w same) k) (six l _ k (c.five l k) (c.held l k))

  still-common : (h : List ℕ) → Common h m x s → Common h m x r
  unfolding Unchanged
  still-common h c =
      record {
        shares = c.shares;
        start = λ l k. unchanged h (place 0 l) (omega arith) (omega arith) (unchanged-five h (place 0 l) (omega arith) (omega arith) (c.start l k));
        five = λ l k. unchanged _ (place 5 l) (omega arith) (omega arith) (unchanged-five _ (place 5 l) (omega arith) (omega arith) (c.five l k));
        held =
            λ l k.
            record {
              a = (c.held l k).a;
              e = (c.held l k).e;
              differ = (unchanged _ (place 6 l) (omega arith) (omega arith) (resumed h c l k)).differ;
            };
      }

  pub compressed_by : Compressed m x s w r v
  unfolding Compressed Rounded Fips.compress
  compressed_by h c = (
    common-alike h m w x r (same_alike m w same) (still-common h c),
    λ l k.
        summed l h _ k ((still-common h c).start l k) (done l h k (resumed h c l k))
        ∙ ap (λ (c : List ℕ). Fips.sums h (Fips.rounds c h 64)) (made c.shares l k),
  )

-- ---- one block and one hash value in every lane

-- the rows before index n repeat the words of m
unfoldable pub Spread : ℕ → List ℕ → List ℕ → Type 0
Spread n m w = (i : ℕ) → i < n → get_or w i 0 ≡ get_or m (i / 16) 0

pub spread_none : (m w : List ℕ) → Spread 0 m w
unfolding Spread
spread_none m w i h = absurd (omega arith)

pub spread_next : (n : ℕ) (m w : List ℕ) → n < length w → Spread n m w → Spread (n + 1) m (set w n (get_or m (n / 16) 0))
unfolding Spread
spread_next n m w h f = front_next (λ i. get_or m (i / 16) 0) w n _ f h refl

pub spread_done : (n : ℕ) (m w : List ℕ) → 256 ≤ n → length m ≡ 16 → Spread n m w → (l : ℕ) → l < 16 → column l 16 w ≡ m
unfolding Spread
spread_done n m w h e f l k =
    ext_get_or 0 (column l 16 w) m (length-column l 16 w ∙ sym e)
    (λ t a.
    let in_rows : t < 16 = rw (length-column l 16 w) at a in
    let row : (16 * t + l) / 16 ≡ t = omega arith in
    get_d_column l 16 w t in_rows ∙ f (16 * t + l) (omega arith) ∙ rw row)

-- the rows of a, of e and of b xor c, of which the words before index n are those of the hash value h
pub record Begun (n : ℕ) (h s : List ℕ) : Type 0 where
  pub first : (i : ℕ) → i < n → get_or s (i + 1024) 0 ≡ get_or h (i / 16) 0
  pub second : (i : ℕ) → i < n → get_or s (i + 2112) 0 ≡ get_or h (4 + i / 16) 0
  pub third : (i : ℕ) → i < n → get_or s (i + 3200) 0 ≡ bit_xor (get_or h 1 0) (get_or h 2 0)

pub begun_none : (h s : List ℕ) → Begun 0 h s
begun_none h s = record { first = λ i k. absurd (omega arith); second = λ i k. absurd (omega arith); third = λ i k. absurd (omega arith) }

module _ (n : ℕ) (h s : List ℕ) (hn : n < 64) (ls : length s ≡ 3264) where
  begun-one : List ℕ
  begun-one = set s (n + 1024) (get_or h (n / 16) 0)

  begun-two : List ℕ
  begun-two = set begun-one (n + 2112) (get_or h (4 + n / 16) 0)

  pub begun_next : (z : List ℕ) → z ≡ set (set (set s (n + 1024) (get_or h (n / 16) 0)) (n + 2112) (get_or h (4 + n / 16) 0)) (n + 3200) (bit_xor (get_or h 1 0) (get_or h 2 0))
      → Begun n h s → Begun (n + 1) h z
  unfolding begun-one begun-two
  begun_next z d f =
      let x = get_or h (n / 16) 0 in
      let y = get_or h (4 + n / 16) 0 in
      let b = bit_xor (get_or h 1 0) (get_or h 2 0) in
      let l1 : length begun-one ≡ 3264 = simp length-set ls in
      let l2 : length begun-two ≡ 3264 = simp length-set ls in
      record {
        first =
            λ i k.
            rw d
            (set_below begun-two (n + 3200) (i + 1024) b (omega arith)
            ∙ set_below begun-one (n + 2112) (i + 1024) y (omega arith)
            ∙ fill_next (λ j. j + 1024) (λ j. get_or h (j / 16) 0) s n (n + 1024) x refl (λ j a. omega arith) (omega arith) refl f.first i k);
        second =
            λ i k.
            rw d
            (set_below begun-two (n + 3200) (i + 2112) b (omega arith)
            ∙ fill_next (λ j. j + 2112) (λ j. get_or h (4 + j / 16) 0) begun-one n (n + 2112) y refl (λ j a. omega arith) (omega arith) refl
            (λ j a. set-above s (n + 1024) (j + 2112) x (omega arith) ∙ f.second j a) i k);
        third =
            λ i k.
            rw d
            (fill_next (λ j. j + 3200) (λ j. b) begun-two n (n + 3200) b refl (λ j a. omega arith) (omega arith) refl
            (λ j a. set-above begun-one (n + 2112) (j + 3200) y (omega arith) ∙ set-above s (n + 1024) (j + 3200) x (omega arith) ∙ f.third j a) i k);
      }

pub begun-done : (n : ℕ) (h s : List ℕ) → 64 ≤ n → length h ≡ 8 → Begun n h s → (l : ℕ) → l < 16 → State h (place 0 l) s
unfolding eight
begun-done n h s k e f l a =
    let at : (c i j : ℕ) → j ≡ i + 1024 → i / 16 ≡ c → i < n → get_or s j 0 ≡ get_or h c 0 =
    λ c i j p q b. rw p (f.first i b ∙ rw q) in
    let by : (d i j : ℕ) → j ≡ i + 2112 → 4 + i / 16 ≡ d → i < n → get_or s j 0 ≡ get_or h d 0 =
    λ d i j p q b. rw p (f.second i b ∙ rw q) in
    let second = at 1 (l + 16) (1024 + l + 16) (omega arith) (omega arith) (omega arith) in
    let third = at 2 (l + 32) (1024 + l + 32) (omega arith) (omega arith) (omega arith) in
    record {
      words =
          rw (
            at 0 l (1024 + l) (omega arith) (omega arith) (omega arith),
            second,
            third,
            at 3 (l + 48) (1024 + l + 48) (omega arith) (omega arith) (omega arith),
            by 4 l (1024 + l + 1088) (omega arith) (omega arith) (omega arith),
            by 5 (l + 16) (1024 + l + 1088 + 16) (omega arith) (omega arith) (omega arith),
            by 6 (l + 32) (1024 + l + 1088 + 32) (omega arith) (omega arith) (omega arith),
            by 7 (l + 48) (1024 + l + 1088 + 48) (omega arith) (omega arith) (omega arith),
          ) (as_eight h e);
      differ = rw (second, third) (let p : 1024 + l + 2176 ≡ l + 3200 = omega arith in rw p (f.third l (omega arith)));
    }
