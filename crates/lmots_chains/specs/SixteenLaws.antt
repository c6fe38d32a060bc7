-- Sixteen chains side by side: every lane steps as its chain does.
use Rattle.std.specs.Prelude.{◌≡◌, ◌⊎◌, List, [], ◌∷◌, length, set}
use Rattle.std.proofs.Math.Path.{refl, ap}
use Rattle.std.proofs.Common.{sym, ◌∙◌, inl, inr, eq-or-lt_of_le, length-set}
use Rattle.std.proofs.Math.Logic.{⊎_elim}
use Prim.Native.Nat.{ℕ, zero, suc, ◌+◌, ◌*◌, ◌/◌, ◌%◌, ◌≤◌, ◌<◌}
use native.Mathlib.Omega.{arith}
use Rattle.std.proofs.Math.ListN.{get_or}
use Rattle.octets.specs.Octets.{bytes}
use Rattle.fips180.specs.Constants.{initial}
use Rattle.fips180.specs.Fips.{compress, pad, sha256}
use Rattle.sha256_lanes.specs.Rows.{column, Same, Alike, Common, Compressed}
use Rattle.sha256_lanes.specs.RowsLaws.{set_below, set-above, fill_next, length-column, get_d_column, common-alike}
use Rattle.rfc8554.specs.Ots.{chain, chain_input}
use Rattle.lmots_chains.specs.ChainLaws.{block-padded, compress-one-block, chain_next}
use Rattle.lmots_chains.specs.Pieces.{across}
use Rattle.lmots_chains.specs.Sixteen.{Filled, Slid, Placed, Numbered, five, Ready, Stepped, Walked, AllWalked}

-- ---- the loops that write the blocks

pub filled_none : (p q : ℕ) (f : ℕ → ℕ) (w : List ℕ) → length w ≡ 1024 → Filled p q f 0 w w
filled_none p q f w l = record { long = l; new = λ i h. absurd (omega arith); old = λ i h. refl }

pub filled_next : (p q : ℕ) (f : ℕ → ℕ) (n : ℕ) (w z : List ℕ) (a x : ℕ) → a ≡ p + n → a < q → q ≤ 1024 → x ≡ f n
    → Filled p q f n w z → Filled p q f (n + 1) w (set z a x)
filled_next p q f n w z a x e h k ex t =
    let lz : length z ≡ 1024 = t.long in
    record {
      long = simp length-set lz;
      new = fill_next (λ i. p + i) f z n a x e (λ i d. omega arith) (omega arith) ex t.new;
      old = λ i d. ⊎_elim (λ b. set_below z a i x (omega arith)) (λ b. set-above z a i x (omega arith)) d ∙ t.old i d;
    }

-- ---- one lane's block

-- every element is a word
data Words : List ℕ → Type 0 where
  none : Words []
  more : {x : ℕ} {xs : List ℕ} → x < 4294967296 → Words xs → Words (x ∷ xs)

word_lt : {xs : List ℕ} → Words xs → (i : ℕ) → get_or xs i 0 < 4294967296
word_lt none i = omega arith
word_lt (more h f) zero = h
word_lt (more h f) (suc i) = word_lt f i

column_sixteen : (l : ℕ) (w : List ℕ)
    → column l 16 w
    ≡ get_or w (0 + l) 0 ∷ get_or w (16 + l) 0 ∷ get_or w (32 + l) 0 ∷ get_or w (48 + l) 0 ∷ get_or w (64 + l) 0 ∷ get_or w (80 + l) 0
    ∷ get_or w (96 + l) 0 ∷ get_or w (112 + l) 0 ∷ get_or w (128 + l) 0 ∷ get_or w (144 + l) 0 ∷ get_or w (160 + l) 0 ∷ get_or w (176 + l) 0
    ∷ get_or w (192 + l) 0 ∷ get_or w (208 + l) 0 ∷ get_or w (224 + l) 0 ∷ get_or w (240 + l) 0 ∷ []
unfolding column
column_sixteen l w = refl

across_lt : (a b : ℕ) → across a b < 4294967296
unfolding across
across_lt a b = omega arith

-- a lane l of the blocks z, for places and values in v
module _ (id leaves places : List ℕ) (t : ℕ) (w x s v y z : List ℕ) (ready : Ready id leaves w x s) (placed : Placed 16 places t v w y)
    (slid : Slid 112 v y z) (l : ℕ) (hl : l < 16) where
  leaf : ℕ
  leaf = get_or leaves l 0

  value : (r : ℕ) → r < 8 → get_or (column l 8 v) r 0 ≡ get_or v (16 * r + l) 0
  value r h = get_d_column l 8 v r h

  at : (xs : List ℕ) (i j : ℕ) → i ≡ j → get_or xs i 0 ≡ get_or xs j 0
  at xs i j e = ap (λ (m : ℕ). get_or xs m 0) e

  front-word : (r : ℕ) → r < 5 → get_or z (16 * r + l) 0 ≡ get_or (five id leaf) r 0
  unfolding leaf
  front-word r h = slid.old (16 * r + l) (inl (omega arith)) ∙ placed.low (16 * r + l) (omega arith) ∙ ready.front l r hl h

  place-word : get_or z (80 + l) 0 ≡ get_or places l 0 + 256 * t + get_or (column l 8 v) 0 0 / 16777216 % 256
  place-word =
      slid.old (80 + l) (inl (omega arith)) ∙ placed.first l hl
      ∙ ap (λ (x : ℕ). get_or places l 0 + 256 * t + x / 16777216 % 256) (at v l (0 + l) (omega arith) ∙ sym (value 0 (omega arith)))

  value-word : (r n : ℕ) → r < 7 → n ≡ 16 * r + 96 → get_or z (n + l) 0 ≡ across (get_or (column l 8 v) r 0) (get_or (column l 8 v) (r + 1) 0)
  value-word r n h e =
      at z (n + l) (96 + (16 * r + l)) (omega arith) ∙ slid.new (16 * r + l) (omega arith)
      ∙ rw (value r (omega arith), value (r + 1) (omega arith), at v (16 * r + l + 16) (16 * (r + 1) + l) (omega arith))

  last_word : get_or z (208 + l) 0 ≡ get_or (column l 8 v) 7 0 % 16777216 * 256 + 128
  last_word =
      slid.old (208 + l) (inr (omega arith)) ∙ placed.second l hl
      ∙ ap (λ (x : ℕ). x % 16777216 * 256 + 128) (at v (l + 112) (112 + l) (omega arith) ∙ sym (value 7 (omega arith)))

  zero_word : get_or z (224 + l) 0 ≡ 0
  zero_word = slid.old (224 + l) (inr (omega arith)) ∙ placed.high (224 + l) (omega arith) ∙ ready.zero l hl

  bits-word : get_or z (240 + l) 0 ≡ 440
  bits-word = slid.old (240 + l) (inr (omega arith)) ∙ placed.high (240 + l) (omega arith) ∙ ready.bits l hl

  -- chain i at place j
  module _ (i j : ℕ) (hi : i < 65536) (hj : j + t < 256) (e : get_or places l 0 ≡ i * 65536 + j * 256) where
    words : List ℕ
    words =
        get_or id 0 0 ∷ get_or id 1 0 ∷ get_or id 2 0 ∷ get_or id 3 0 ∷ leaf ∷ (i * 65536 + (j + t) * 256 + get_or (column l 8 v) 0 0 / 16777216 % 256)
        ∷ across (get_or (column l 8 v) 0 0) (get_or (column l 8 v) 1 0) ∷ across (get_or (column l 8 v) 1 0) (get_or (column l 8 v) 2 0)
        ∷ across (get_or (column l 8 v) 2 0) (get_or (column l 8 v) 3 0) ∷ across (get_or (column l 8 v) 3 0) (get_or (column l 8 v) 4 0)
        ∷ across (get_or (column l 8 v) 4 0) (get_or (column l 8 v) 5 0) ∷ across (get_or (column l 8 v) 5 0) (get_or (column l 8 v) 6 0)
        ∷ across (get_or (column l 8 v) 6 0) (get_or (column l 8 v) 7 0) ∷ (get_or (column l 8 v) 7 0 % 16777216 * 256 + 128) ∷ 0 ∷ 440 ∷ []

    block : column l 16 z ≡ words
    unfolding words five
    block =
        let place_of : get_or z (80 + l) 0 ≡ i * 65536 + (j + t) * 256 + get_or (column l 8 v) 0 0 / 16777216 % 256 = place-word ∙ omega arith in
        column_sixteen l z
        ∙ rw (
          front-word 0 (omega arith),
          front-word 1 (omega arith),
          front-word 2 (omega arith),
          front-word 3 (omega arith),
          front-word 4 (omega arith),
          place_of,
          value-word 0 96 (omega arith) (omega arith),
          value-word 1 112 (omega arith) (omega arith),
          value-word 2 128 (omega arith) (omega arith),
          value-word 3 144 (omega arith) (omega arith),
          value-word 4 160 (omega arith) (omega arith),
          value-word 5 176 (omega arith) (omega arith),
          value-word 6 192 (omega arith) (omega arith),
          last_word,
          zero_word,
          bits-word,
        )

    small : Words words
    unfolding words leaf
    small =
        let fifth : i * 65536 + (j + t) * 256 + get_or (column l 8 v) 0 0 / 16777216 % 256 < 4294967296 = omega arith in
        let last : get_or (column l 8 v) 7 0 % 16777216 * 256 + 128 < 4294967296 = omega arith in
        let zeros : 0 < 4294967296 = omega arith in
        let bits : 440 < 4294967296 = omega arith in
        more (ready.words 0)
        (more (ready.words 1)
        (more (ready.words 2)
        (more (ready.words 3)
        (more (ready.numbers l)
        (more fifth
        (more (across_lt _ _)
        (more (across_lt _ _)
        (more (across_lt _ _)
        (more (across_lt _ _)
        (more (across_lt _ _)
        (more (across_lt _ _)
        (more (across_lt _ _) (more last (more zeros (more bits none)))))))))))))))

    padded : bytes (column l 16 z) ≡ pad (chain_input (bytes id) leaf i (j + t) (bytes (column l 8 v)))
    unfolding words
    padded =
        ap bytes block
        ∙ block-padded id (column l 8 v) leaf i (j + t) _ _ _ _ _ _ _ ready.long (length-column l 8 v) hi hj refl refl refl refl refl refl refl

    lane-stepped : (v' : List ℕ) → column l 8 v' ≡ compress initial (column l 16 z)
        → bytes (column l 8 v') ≡ sha256 (chain_input (bytes id) leaf i (j + t) (bytes (column l 8 v)))
    unfolding leaf
    lane-stepped v' f = compress-one-block (column l 16 z) initial (column l 8 v') _ (length-column l 16 z) (λ n. rw block (word_lt small n)) refl padded f

module _ (id leaves places : List ℕ) (t : ℕ) (w x s v y z w' s' v' : List ℕ) (placed : Placed 16 places t v w y) (slid : Slid 112 v y z)
    (same : Same 256 z w') (done : Compressed z x s w' s' v') (r : Ready id leaves w x s) where
  written : Alike w z
  unfolding Alike
  written i h k =
      ⊎_elim (λ a. slid.old i (inl (omega arith)) ∙ placed.low i a) (λ a. slid.old i (inr (omega arith)) ∙ placed.high i a) h

  still : (i : ℕ) → (i < 80) ⊎ (224 ≤ i) → i < 256 → get_or w' i 0 ≡ get_or w i 0
  unfolding Same Alike
  still i h k = same i k ∙ written i h k

  after : Common initial w' x s' × ((l : ℕ) → l < 16 → column l 8 v' ≡ compress initial (column l 16 z))
  unfolding Compressed
  after = done initial (common-alike initial w z x s written r.common)

  still-ready : Ready id leaves w' x s'
  still-ready =
      record {
        long = r.long;
        words = r.words;
        numbers = r.numbers;
        front = λ l n h k. still (16 * n + l) (inl (omega arith)) (omega arith) ∙ r.front l n h k;
        zero = λ l h. still (224 + l) (inr (omega arith)) (omega arith) ∙ r.zero l h;
        bits = λ l h. still (240 + l) (inr (omega arith)) (omega arith) ∙ r.bits l h;
        common = after.0;
      }

pub stepped_by : (places : List ℕ) (t : ℕ) (w x s v y z w' s' v' : List ℕ) → Placed 16 places t v w y → Slid 112 v y z → Same 256 z w'
    → Compressed z x s w' s' v' → Stepped places t w x s v w' s' v'
unfolding Stepped leaf
stepped_by places t w x s v y z w' s' v' placed slid same done id leaves ready = (
  still-ready id leaves places t w x s v y z w' s' v' placed slid same done ready,
  λ l i j hl hi hj e.
      lane-stepped id leaves places t w x s v y z ready placed slid l hl i j hi hj e v'
      ((after id leaves places t w x s v y z w' s' v' placed slid same done ready).1 l hl),
)

-- ---- the part made once

-- the lanes' blocks before the leaves' numbers are written
unfoldable pub unnumbered : List ℕ → List ℕ
unnumbered id = get_or id 0 0 ∷ get_or id 1 0 ∷ get_or id 2 0 ∷ get_or id 3 0 ∷ 0 ∷ 0 ∷ 0 ∷ 0 ∷ 0 ∷ 0 ∷ 0 ∷ 0 ∷ 0 ∷ 0 ∷ 0 ∷ 440 ∷ []

four_first : (id : List ℕ) (q n : ℕ) → n < 4 → get_or (unnumbered id) n 0 ≡ get_or (five id q) n 0
unfolding unnumbered five
four_first id q zero h = refl
four_first id q (suc zero) h = refl
four_first id q (suc (suc zero)) h = refl
four_first id q (suc (suc (suc zero))) h = refl
four_first id q (suc (suc (suc (suc n)))) h = absurd (omega arith)

fifth_word : (id : List ℕ) (q : ℕ) → get_or (five id q) 4 0 ≡ q
unfolding five
fifth_word id q = refl

module _ (id leaves m w₀ w : List ℕ) (e : m ≡ unnumbered id) (f : (l : ℕ) → l < 16 → column l 16 w₀ ≡ m) (n : Numbered 16 leaves w₀ w) where
  spread_word : (l n : ℕ) → l < 16 → n < 16 → get_or w₀ (16 * n + l) 0 ≡ get_or (unnumbered id) n 0
  spread_word l n h k = sym (get_d_column l 16 w₀ n k) ∙ ap (λ (c : List ℕ). get_or c n 0) (f l h ∙ e)

  five-word : (l r : ℕ) → l < 16 → r < 5 → get_or w (16 * r + l) 0 ≡ get_or (five id (get_or leaves l 0)) r 0
  five-word l r h k =
      let fits : r ≤ 4 = omega arith in
      let fourth : 16 * 4 + l ≡ 64 + l = omega arith in
      ⊎_elim
      (λ a.
      rw a (ap (λ (i : ℕ). get_or w i 0) fourth ∙ n.new l h ∙ sym (fifth_word id (get_or leaves l 0))))
      (λ a. n.old (16 * r + l) (inl (omega arith)) ∙ spread_word l r h (omega arith) ∙ four_first id (get_or leaves l 0) r a)
      (eq-or-lt_of_le fits)

  -- word 5, before the places are written
  pub no_place : (l : ℕ) → l < 16 → get_or w (80 + l) 0 ≡ 0
  unfolding unnumbered
  no_place l h = n.old (80 + l) (inr (omega arith)) ∙ spread_word l 5 h (omega arith)

  pub ready_by : (x s : List ℕ) → length id ≡ 4 → ((i : ℕ) → get_or id i 0 < 4294967296) → ((l : ℕ) → get_or leaves l 0 < 4294967296) → Common initial w x s
      → Ready id leaves w x s
  unfolding unnumbered
  ready_by x s li bi bl c =
      record {
        long = li;
        words = bi;
        numbers = bl;
        front = five-word;
        zero = λ l h. n.old (224 + l) (inr (omega arith)) ∙ spread_word l 14 h (omega arith);
        bits = λ l h. n.old (240 + l) (inr (omega arith)) ∙ spread_word l 15 h (omega arith);
        common = c;
      }

-- ---- chains

walked_none : (id leaves places v : List ℕ) → Walked id leaves places 0 v v
unfolding Walked chain
walked_none id leaves places v l i j hl hi hj e = refl

walked_next : (id leaves places : List ℕ) (t : ℕ) (w x s v₀ v w' s' v' : List ℕ) → Ready id leaves w x s → Stepped places t w x s v w' s' v'
    → Walked id leaves places t v₀ v → Walked id leaves places (t + 1) v₀ v'
unfolding Walked Stepped
walked_next id leaves places t w x s v₀ v w' s' v' ready stepped f l i j hl hi hj e =
    chain_next (bytes id) (bytes (column l 8 v₀)) (column l 8 v) (column l 8 v') (get_or leaves l 0) i j t (f l i j hl hi (omega arith) e)
    ((stepped id leaves ready).1 l i j hl hi (omega arith) e)

still_by : (id leaves places : List ℕ) (t : ℕ) (w x s v w' s' v' : List ℕ) → Ready id leaves w x s → Stepped places t w x s v w' s' v' → Ready id leaves w' x s'
unfolding Stepped
still_by id leaves places t w x s v w' s' v' ready stepped = (stepped id leaves ready).0

pub all_none : (places w x s v : List ℕ) → AllWalked places 0 w x s v w s v
unfolding AllWalked
all_none places w x s v id leaves r = (r, walked_none id leaves places v)

pub all_next : (places : List ℕ) (t : ℕ) (w₀ x s₀ v₀ w s v w' s' v' : List ℕ) → AllWalked places t w₀ x s₀ v₀ w s v → Stepped places t w x s v w' s' v'
    → AllWalked places (t + 1) w₀ x s₀ v₀ w' s' v'
unfolding AllWalked
all_next places t w₀ x s₀ v₀ w s v w' s' v' f g id leaves r =
    let now = f id leaves r in
    (still_by id leaves places t w x s v w' s' v' now.0 g, walked_next id leaves places t w x s v₀ v w' s' v' now.0 g now.1)

pub walked_for : (id leaves places : List ℕ) (count : ℕ) (w₀ x s₀ v₀ w s v : List ℕ) → Ready id leaves w₀ x s₀ → AllWalked places count w₀ x s₀ v₀ w s v
    → Walked id leaves places count v₀ v
unfolding AllWalked
walked_for id leaves places count w₀ x s₀ v₀ w s v r f = (f id leaves r).1
