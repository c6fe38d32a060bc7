-- Sixteen leaves, one in each column: every string comes to be the hash input of its leaf's key.
use Rattle.std.specs.Prelude.{◌≡◌, refl, List, ◌++◌, ℕ, ◌+◌, ◌*◌, ◌≤◌, ◌<◌, length, get_or, replicate}
use Rattle.std.proofs.Common.{sym, ap, ap₂, ◌∙◌, append_assoc, append-nil, add-one, arith}
use Rattle.std.proofs.lemmas.List.{get_or-replicate}
use Rattle.octets.specs.Octets.{part, patch, bytes}
use Rattle.octets.specs.OctetsLaws.{length-patch, length-bytes}
use Rattle.octets.specs.Strings.{joined}
use Rattle.octets.specs.StringsLaws.{length-joined, joined_same}
use Rattle.octets.specs.WriteLaws.{part-add, part-own, part_before, part_after, patch-whole}
use Rattle.fips180.specs.Fips.{sha256}
use Rattle.fips180.specs.FipsLaws.{length-sha256}
use Rattle.sha256_lanes.specs.Rows.{column}
use Rattle.sha256_lanes.specs.RowsLaws.{one_more}
use Rattle.rfc8554.specs.Ots.{H, chain_input, chain, start, key_input, chain_end, chains, ots_key, d_pblc}
use Rattle.lmots.specs.Leaves.{string, Put}
use Rattle.lmots_digits.specs.Pieces.{front}
use Rattle.lmots_chains.specs.Sixteen.{Walked}
use Rattle.lmots_batches.specs.BatchesLaws.{written_next}

-- ---- columns

-- the step over the seed and 255 more
pub ended_by : (id leaves seed : List ℕ) (i : ℕ) (v v₁ v₂ : List ℕ) → i < 34 → ((l : ℕ) → l < 16 → column l 8 v ≡ seed)
    → Walked id leaves (replicate 16 (i * 65536 + 65280)) 1 v v₁ → Walked id leaves (replicate 16 (i * 65536)) 255 v₁ v₂
    → (l : ℕ) → l < 16 → bytes (column l 8 v₂) ≡ chain_end (bytes id) (get_or leaves l 0) 8 (bytes seed) i
unfolding Walked chain chain_end start
ended_by id leaves seed i v v₁ v₂ hi filled first rest l h =
    let last : get_or (replicate 16 (i * 65536 + 65280)) l 0 ≡ i * 65536 + 255 * 256 = get_or-replicate 16 l (i * 65536 + 65280) 0 h ∙ omega arith in
    let none : get_or (replicate 16 (i * 65536)) l 0 ≡ i * 65536 + 0 * 256 = get_or-replicate 16 l (i * 65536) 0 h ∙ omega arith in
    let begun : bytes (column l 8 v₁) ≡ H (chain_input (bytes id) (get_or leaves l 0) i 255 (bytes seed)) =
    first l i 255 h (omega arith) (omega arith) last ∙ rw (filled l h) in
    rest l i 0 h (omega arith) (omega arith) none ∙ ap (chain (bytes id) (get_or leaves l 0) i 0 255) begun

-- ---- strings

-- a part extended by a write right after it
part-more : (a m : ℕ) (ws xs : List ℕ) → a + m ≤ length xs → part a (m + length ws) (patch (a + m) ws xs) ≡ part a m xs ++ ws
part-more a m ws xs h =
    part-add a m (length ws) (patch (a + m) ws xs)
    ∙ ap₂ (λ (x y : List ℕ). x ++ y) (part_before a m (a + m) ws xs (omega arith) h) (part-own (a + m) (length ws) ws xs h refl)

module _ (n i : ℕ) (v z z₁ y z₂ : List ℕ) (hn : n < 16) (hi : i < 34) (ly : length y ≡ 8) (e : y ≡ column n 8 v)
    (p : z₂ ≡ patch (1110 * n + 32 * i + 22) (bytes y) z₁) (f : Put n i v z z₁) where
  wide : length (bytes y) ≡ 32
  wide = length-bytes y ∙ ap (λ (m : ℕ). 4 * m) ly

  put_own : part (1110 * n) (22 + 32 * i + 32) z₂ ≡ part (1110 * n) (22 + 32 * i) z ++ bytes (column n 8 v)
  put_own =
      let here : 1110 * n + 32 * i + 22 ≡ 1110 * n + (22 + 32 * i) = omega arith in
      ap (λ (m : ℕ). part (1110 * n) (22 + 32 * i + m) z₂) (sym wide)
      ∙ rw (p, here) (part-more (1110 * n) (22 + 32 * i) (bytes y) z₁ (omega (arith, f.long)))
      ∙ ap₂ (λ (a b : List ℕ). a ++ b) (f.old n (omega arith) hn) (ap bytes e)

  pub put_next : Put (n + 1) i v z z₂
  put_next =
      let at = 1110 * n + 32 * i + 22 in
      record {
        long = ap length p ∙ length-patch at (bytes y) z₁ (omega (arith, wide, f.long)) ∙ f.long;
        new =
            one_more (λ l. part (1110 * l) (22 + 32 * i + 32) z₂ ≡ part (1110 * l) (22 + 32 * i) z ++ bytes (column l 8 v)) n
            (λ l b. rw p (part_before (1110 * l) (22 + 32 * i + 32) at (bytes y) z₁ (omega arith) (omega (arith, f.long))) ∙ f.new l b)
            put_own;
        old =
            λ l a b.
            rw p (part_after (1110 * l) (22 + 32 * i) at (bytes y) z₁ (omega (arith, wide)) (omega (arith, f.long))) ∙ f.old l (omega arith) b;
      }

pub fronts_next : (I leaves z x z₁ : List ℕ) (l : ℕ) → l < 16 → length z ≡ 17760 → length x ≡ 22 → x ≡ front I (get_or leaves l 0) d_pblc → z₁ ≡ patch (1110 * l) x z
    → ((j : ℕ) → j < l → part (1110 * j) 22 z ≡ front I (get_or leaves j 0) d_pblc)
    → (j : ℕ) → j < l + 1 → part (1110 * j) 22 z₁ ≡ front I (get_or leaves j 0) d_pblc
fronts_next I leaves z x z₁ l h lz lx e p f =
    one_more (λ j. part (1110 * j) 22 z₁ ≡ front I (get_or leaves j 0) d_pblc) l
    (λ j b. rw p (part_before (1110 * j) 22 (1110 * l) x z (omega arith) (omega arith)) ∙ f j b)
    (rw p (part-own (1110 * l) 22 x z (omega arith) lx) ∙ e)

-- the strings, up to the end of n chains
unfoldable pub Strings : List ℕ → List ℕ → List ℕ → ℕ → List ℕ → Type 0
Strings I leaves seed n z = (l : ℕ) → l < 16 → part (1110 * l) (22 + 32 * n) z ≡ string I (get_or leaves l 0) seed n

pub strings_none : (I leaves seed z : List ℕ) → ((l : ℕ) → l < 16 → part (1110 * l) 22 z ≡ front I (get_or leaves l 0) d_pblc) → Strings I leaves seed 0 z
unfolding Strings string key_input front joined
strings_none I leaves seed z f l h = f l h ∙ sym (append-nil _)

pub strings_next : (I leaves seed : List ℕ) (i : ℕ) (v z z₁ : List ℕ) → ((l : ℕ) → l < 16 → bytes (column l 8 v) ≡ chain_end I (get_or leaves l 0) 8 seed i)
    → Put 16 i v z z₁ → Strings I leaves seed i z → Strings I leaves seed (i + 1) z₁
unfolding Strings string key_input front joined
strings_next I leaves seed i v z z₁ ended put f l h =
    let q = get_or leaves l 0 in
    let ends = chain_end I q 8 seed in
    let wide : 22 + 32 * (i + 1) ≡ 22 + 32 * i + 32 = omega arith in
    rw (wide, add-one)
    (put.new l h ∙ ap₂ (λ (a b : List ℕ). a ++ b) (f l h) (ended l h) ∙ append_assoc (front I q d_pblc) (joined ends i) (ends i))

pub strings_done : (I leaves seed z : List ℕ) (i : ℕ) → i ≡ 34 → Strings I leaves seed i z
    → (l : ℕ) → l < 16 → part (1110 * l) 1110 z ≡ string I (get_or leaves l 0) seed 34
unfolding Strings
strings_done I leaves seed z i e f l h = (rw e at f) l h

-- ---- keys

-- the hash of string l
unfoldable pub hash : List ℕ → ℕ → List ℕ
hash z l = sha256 (part (1110 * l) 1110 z)

length_hashes : (z : List ℕ) (l : ℕ) → length (joined (hash z) l) ≡ 32 * l
unfolding hash
length_hashes z l = length-joined 32 (hash z) l (λ i h. length-sha256 _)

pub keys_next : (z out₀ out key new : List ℕ) (l : ℕ) → key ≡ sha256 (part (1110 * l) 1110 z) → out ≡ patch 0 (joined (hash z) l) out₀
    → new ≡ patch (32 * l) key out → new ≡ patch 0 (joined (hash z) (l + 1)) out₀
unfolding hash
keys_next z out₀ out key new l k p r = written_next (hash z) l out₀ out key new (length_hashes z l) p k r

pub keys-done : (I seed leaves z out₀ out : List ℕ) (q l : ℕ) → l ≡ 16 → length out₀ ≡ 512 → ((j : ℕ) → j < 16 → get_or leaves j 0 ≡ q + j)
    → ((j : ℕ) → j < 16 → part (1110 * j) 1110 z ≡ string I (get_or leaves j 0) seed 34) → out ≡ patch 0 (joined (hash z) l) out₀
    → out ≡ joined (λ j. ots_key I (q + j) 8 seed) 16
unfolding hash ots_key chains string
keys-done I seed leaves z out₀ out q l e n g f p =
    (rw e at p) ∙ patch-whole (joined (hash z) 16) out₀ (length_hashes z 16 ∙ sym n)
    ∙ joined_same _ _ 16 (λ j h. ap sha256 (f j h ∙ rw (g j h)))

pub length-ots_key : (I : List ℕ) (q w : ℕ) (seed : List ℕ) → length (ots_key I q w seed) ≡ 32
unfolding ots_key
length-ots_key I q w seed = length-sha256 _
