-- All chains of a leaf, sixteen at a time: whatever the order, each comes to its own end.
use Rattle.std.specs.Prelude.{◌≡◌, refl, Bool, true, false, ◌⊎◌, List, ℕ, ◌+◌, ◌-◌, ◌*◌, ◌≤◌, ◌<◌, ltb, take, set, replicate}
use Rattle.std.proofs.Common.{sym, ap, ◌∙◌, inl, inr, zero-add, eq-or-lt_of_le, ltb-true, ltb-false, ext_get_or}
use Rattle.std.proofs.Math.Logic.{⊎_elim}
use native.Mathlib.Omega.{arith}
use Rattle.std.proofs.Math.ListN.{length, get_or}
use Rattle.std.proofs.lemmas.List.{get_or-replicate}
use Rattle.octets.specs.Octets.{part, patch, bytes}
use Rattle.octets.specs.Strings.{joined}
use Rattle.octets.specs.OctetsLaws.{length_part, take-patch, length-bytes}
use Rattle.octets.specs.StringsLaws.{length-joined, joined_same}
use Rattle.octets.specs.WriteLaws.{part-own, part_before, part_after, joined-written}
use Rattle.sha256_lanes.specs.Rows.{column}
use Rattle.sha256_lanes.specs.RowsLaws.{Apart, set_other, set_there, fill_next, length-column, get_d_column, column_same}
use Rattle.rfc8554.specs.Ots.{chain}
use Rattle.rfc8554.specs.OtsLaws.{chain-add, length-chain}
use Rattle.lmots_chains.specs.Sixteen.{Walked}
use Rattle.lmots_batches.specs.Batches.{Ordered, Stayed, Advanced, Scattered, MovedAt, Moved, ended}

-- ---- indices

compare : (i j : ℕ) → (i ≡ j) ⊎ Apart i j
compare i j = go (ltb i j) refl
  where
    go : (b : Bool) → ltb i j ≡ b → (i ≡ j) ⊎ Apart i j
    go true e = inr (inl (ltb-true i j e))
    go false e = ⊎_elim (λ p. inl (sym p)) (λ h. inr (inr h)) (eq-or-lt_of_le (ltb-false i j e))

-- ---- slots of 32 bytes

module _ (z ws : List ℕ) (i : ℕ) (lz : length z ≡ 2144) (lw : length ws ≡ 32) (hi : i < 67) where
  slot_same : part (32 * i) 32 (patch (32 * i) ws z) ≡ ws
  slot_same = part-own (32 * i) 32 ws z (omega arith) lw

  slot-other : (j : ℕ) → Apart j i → part (32 * j) 32 (patch (32 * i) ws z) ≡ part (32 * j) 32 z
  slot-other j h =
      ⊎_elim
      (λ a. part_before (32 * j) 32 (32 * i) ws z (omega arith) (omega arith))
      (λ a. part_after (32 * j) 32 (32 * i) ws z (omega arith) (omega arith))
      h

-- one slot after the other
pub written_next : (f : ℕ → List ℕ) (i : ℕ) (z₀ z y z' : List ℕ) → length (joined f i) ≡ 32 * i → z ≡ patch 0 (joined f i) z₀ → y ≡ f i
    → z' ≡ patch (32 * i) y z → z' ≡ patch 0 (joined f (i + 1)) z₀
written_next f i z₀ z y z' l e k p =
    let zero : 0 + 32 * i ≡ 32 * i = zero-add (32 * i) in
    joined-written f 0 i z₀ z y z' l (omega arith) e k (rw zero p)

-- ---- columns

pub column-done : (v' y : List ℕ) (l r : ℕ) → 8 ≤ r → length y ≡ 8 → ((i : ℕ) → i < r → get_or v' (16 * i + l) 0 ≡ get_or y i 0) → column l 8 v' ≡ y
column-done v' y l r h e f =
    ext_get_or 0 (column l 8 v') y (length-column l 8 v' ∙ sym e)
    (λ i a. let k : i < 8 = rw (length-column l 8 v') at a in get_d_column l 8 v' i k ∙ f i (omega arith))

pub column-read : (v y : List ℕ) (l r : ℕ) → 8 ≤ r → length y ≡ 8 → ((i : ℕ) → i < r → get_or y i 0 ≡ get_or v (16 * i + l) 0) → y ≡ column l 8 v
column-read v y l r h e f = sym (column-done v y l r h e (λ i a. sym (f i a)))

-- a word of column l is in no column before it
beside : (i r j l : ℕ) → j < l → l < 16 → Apart (16 * i + j) (16 * r + l)
beside i r j l h k =
    ⊎_elim
    (λ e. inl (omega arith))
    (λ a. ⊎_elim (λ b. inl (omega arith)) (λ b. inr (omega arith)) a)
    (compare i r)

pub column_next : (v y : List ℕ) (l r : ℕ) → l < 16 → r < 8 → length v ≡ 128 → ((i : ℕ) → i < r → get_or v (16 * i + l) 0 ≡ get_or y i 0)
    → (i : ℕ) → i < r + 1 → get_or (set v (16 * r + l) (get_or y r 0)) (16 * i + l) 0 ≡ get_or y i 0
column_next v y l r h k lv f =
    fill_next (λ i. 16 * i + l) (λ i. get_or y i 0) v r (16 * r + l) (get_or y r 0) refl (λ i a. omega arith) (omega arith) refl f

pub column-others : (v v₀ : List ℕ) (l r x : ℕ) → l < 16 → ((j : ℕ) → j < l → column j 8 v ≡ column j 8 v₀) → (j : ℕ) → j < l
    → column j 8 (set v (16 * r + l) x) ≡ column j 8 v₀
column-others v v₀ l r x h f j k = column_same j 8 v (set v (16 * r + l) x) (λ t a. set_other v (16 * r + l) (16 * t + j) x (beside t r j l k h)) ∙ f j k

-- ---- columns to slots

pub scattered_none : (picks places : List ℕ) (count : ℕ) (v z : List ℕ) (i : ℕ) → Scattered 0 picks places count v z places z i
unfolding Scattered
scattered_none picks places count v z i = inl (record { on = refl; value = refl })

pub scattered_next : (l : ℕ) (picks places : List ℕ) (count : ℕ) (v z₀ next z y z' : List ℕ) (p : ℕ) → p ≡ get_or picks l 0 → p < 67 → length next ≡ 67 → length z ≡ 2144
    → y ≡ column l 8 v → z' ≡ patch (32 * p) (bytes y) z → ((i : ℕ) → i < 67 → Scattered l picks places count v z₀ next z i)
    → (i : ℕ) → i < 67 → Scattered (l + 1) picks places count v z₀ (set next p (get_or places p 0 + count)) z' i
unfolding Scattered
scattered_next l picks places count v z₀ next z y z' p ep hp ln lz ey ez f i hi =
    let long : length (bytes y) ≡ 32 = length-bytes y ∙ ap (λ (n : ℕ). 4 * n) (ap length ey ∙ length-column l 8 v) in
    ⊎_elim
    (λ e.
    inr
    (record {
      at = l;
      early = omega arith;
      mine = sym ep ∙ sym e;
      on = rw e (set_there next p p (get_or places p 0 + count) refl (omega arith));
      value = rw (e, ez) (slot_same z (bytes y) p lz long hp ∙ ap bytes ey);
    }))
    (λ a.
    let word : get_or (set next p (get_or places p 0 + count)) i 0 ≡ get_or next i 0 = set_other next p i (get_or places p 0 + count) a in
    let slot : part (32 * i) 32 z' ≡ part (32 * i) 32 z = rw ez (slot-other z (bytes y) p lz long hp i a) in
    ⊎_elim
    (λ s. inl (record { on = word ∙ s.on; value = slot ∙ s.value }))
    (λ g. inr (record { at = g.at; early = omega (arith, g.early); mine = g.mine; on = word ∙ g.on; value = slot ∙ g.value }))
    (f i hi))
    (compare i p)

-- ---- one batch of steps

-- steps that follow steps
chain-join : (I : List ℕ) (q i a b d : ℕ) (x : List ℕ) → a ≤ b → b ≤ d → chain I q i b (d - b) (chain I q i a (b - a) x) ≡ chain I q i a (d - a) x
chain-join I q i a b d x h k =
    let sum : a + (b - a) ≡ b = omega arith in
    let all : (b - a) + (d - b) ≡ d - a = omega arith in
    sym (rw (all, sum) at (chain-add I q i a (b - a) (d - b) x))

module _ (id : List ℕ) (q : ℕ) (places ends picks : List ℕ) (count : ℕ) (at v v' z next z' : List ℕ) (ordered : Ordered places ends)
    (some : (l : ℕ) → l < 16 → get_or picks l 0 < 67) (few : (l : ℕ) → l < 16 → count ≤ get_or ends (get_or picks l 0) 0 - get_or places (get_or picks l 0) 0)
    (there-at : (l : ℕ) → l < 16 → get_or at l 0 ≡ get_or picks l 0 * 65536 + get_or places (get_or picks l 0) 0 * 256)
    (gathered : (l : ℕ) → l < 16 → bytes (column l 8 v) ≡ part (32 * get_or picks l 0) 32 z) (walked : Walked id (replicate 16 q) at count v v')
    (f : (i : ℕ) → i < 67 → Scattered 16 picks places count v' z next z' i) where
  stayed_moved : (i : ℕ) → i < 67 → Stayed places z next z' i → MovedAt (bytes id) q ends places z next z' i
  unfolding chain
  stayed_moved i h s =
      let before = ordered.before i h in
      let on = s.on in
      let none : get_or next i 0 - get_or places i 0 ≡ 0 = omega arith in
      record { low = omega arith; high = omega arith; value = rw none s.value }

  advanced_moved : (i : ℕ) → i < 67 → Advanced 16 picks places count v' next z' i → MovedAt (bytes id) q ends places z next z' i
  unfolding Walked
  advanced_moved i h g =
      let l = g.at in
      let hl : l < 16 = g.early in
      let before = ordered.before i h in
      let within = ordered.within i h in
      let on = g.on in
      let room : count ≤ get_or ends i 0 - get_or places i 0 = rw g.mine at (few l hl) in
      let place : get_or at l 0 ≡ i * 65536 + get_or places i 0 * 256 = rw g.mine at (there-at l hl) in
      let start : bytes (column l 8 v) ≡ part (32 * i) 32 z = rw g.mine at (gathered l hl) in
      let steps : count ≡ get_or next i 0 - get_or places i 0 = omega arith in
      record {
        low = omega arith;
        high = omega arith;
        value = g.value ∙ walked l i (get_or places i 0) hl (omega arith) (omega arith) place ∙ rw (get_or-replicate 16 l q 0 hl, start, ← steps);
      }

  pub moved_by : Moved (bytes id) q ends places z next z'
  unfolding Moved Scattered
  moved_by i h = ⊎_elim (stayed_moved i h) (advanced_moved i h) (f i h)

-- ---- one batch after another

pub moved_none : (I : List ℕ) (q : ℕ) (ends places z : List ℕ) → Ordered places ends → Moved I q ends places z places z
unfolding Moved chain
moved_none I q ends places z o i h =
    let none : get_or places i 0 - get_or places i 0 ≡ 0 = omega arith in
    record { low = omega arith; high = o.before i h; value = rw none }

pub moved_then : (I : List ℕ) (q : ℕ) (ends a x b y d z : List ℕ) → Moved I q ends a x b y → Moved I q ends b y d z → Moved I q ends a x d z
unfolding Moved
moved_then I q ends a x b y d z f g i h =
    let first = f i h in
    let second = g i h in
    record {
      low = omega (arith, first.low, second.low);
      high = second.high;
      value =
          second.value
          ∙ rw first.value (chain-join I q i (get_or a i 0) (get_or b i 0) (get_or d i 0) (part (32 * i) 32 x) first.low second.low);
    }

pub moved-ordered : (I : List ℕ) (q : ℕ) (ends a x b y : List ℕ) → Ordered a ends → Moved I q ends a x b y → Ordered b ends
unfolding Moved
moved-ordered I q ends a x b y o f = record { before = λ i h. (f i h).high; within = o.within }

-- ---- the rest, chain by chain

module _ (I : List ℕ) (q : ℕ) (places ends z₀ : List ℕ) (l₀ : length z₀ ≡ 2144) where
  length-ended : (n : ℕ) → n ≤ 67 → length (joined (ended I q places ends z₀) n) ≡ 32 * n
  unfolding ended
  length-ended n h =
      length-joined 32 _ n (λ i k. length-chain I q i _ _ _ (length_part (32 * i) 32 z₀ (omega arith)))

  pub finish_next : (i a b : ℕ) (z y x z' : List ℕ) → i < 67 → z ≡ patch 0 (joined (ended I q places ends z₀) i) z₀ → bytes y ≡ part (32 * i) 32 z
      → a ≡ get_or places i 0 → b ≡ get_or ends i 0 - get_or places i 0 → bytes x ≡ chain I q i a b (bytes y)
      → z' ≡ patch (32 * i) (bytes x) z → z' ≡ patch 0 (joined (ended I q places ends z₀) (i + 1)) z₀
  unfolding ended
  finish_next i a b z y x z' h ez ey ea eb ex p =
      let f = ended I q places ends z₀ in
      let long : length (joined f i) ≡ 32 * i = length-ended i (omega arith) in
      let slot : bytes y ≡ part (32 * i) 32 z₀ = ey ∙ rw ez (part_after (32 * i) 32 0 (joined f i) z₀ (omega arith) (omega arith)) in
      written_next f i z₀ z (bytes x) z' long ez (ex ∙ rw (ea, eb, slot)) p

  pub finish-done : (n : ℕ) (z : List ℕ) → n ≤ 67 → z ≡ patch 0 (joined (ended I q places ends z₀) n) z₀ → take (32 * n) z ≡ joined (ended I q places ends z₀) n
  finish-done n z h e =
      let f = ended I q places ends z₀ in
      let long : 32 * n ≡ 0 + length (joined f n) = omega (arith, length-ended n h) in
      rw (e, long) (take-patch 0 (joined f n) z₀ (omega arith))

pub run_by : (I : List ℕ) (q : ℕ) (places ends z next z₁ z₂ : List ℕ) (n : ℕ) → n ≤ 67 → Moved I q ends places z next z₁
    → take (32 * n) z₂ ≡ joined (ended I q next ends z₁) n → take (32 * n) z₂ ≡ joined (ended I q places ends z) n
unfolding ended Moved
run_by I q places ends z next z₁ z₂ n h f e =
    e
    ∙ joined_same _ _ n
    (λ i k.
    let m = f i (omega arith) in
    rw m.value (chain-join I q i (get_or places i 0) (get_or next i 0) (get_or ends i 0) (part (32 * i) 32 z) m.low m.high))
