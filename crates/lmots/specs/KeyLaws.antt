-- The chains of a key, of a signature and of a candidate, and the hash input of a key.
use Rattle.std.specs.Prelude.{◌≡◌, List, ◌++◌, ℕ, ◌+◌, ◌-◌, ◌*◌, ◌^◌, ◌≤◌, ◌<◌, length, take, drop, get_or, replicate}
use Rattle.std.proofs.Common.{sym, ap, ◌∙◌, zero-add, arith, length-drop, drop-drop}
use Rattle.std.proofs.Math.Nat.{sub-zero}
use Rattle.std.proofs.lemmas.List.{get_or-replicate}
use Rattle.octets.specs.Octets.{part, patch, bytes}
use Rattle.octets.specs.Strings.{joined}
use Rattle.octets.specs.OctetsLaws.{take_rest}
use Rattle.octets.specs.StringsLaws.{length-joined, joined_same, part-patch, part-joined}
use Rattle.fips180.specs.Fips.{sha256}
use Rattle.rfc8554.specs.Ots.{coef, chains, ots_length, candidate, d_pblc, chain, start, key_input, digested, signed, completed}
use Rattle.rfc8554.specs.OtsLaws.{length-start}
use Rattle.lmots_digits.specs.Pieces.{front}
use Rattle.lmots_batches.specs.Batches.{Ordered, ended}
use Rattle.lmots_batches.specs.BatchesLaws.{written_next}

-- a signature: 36 bytes, then its values
pub length-values : (w : ℕ) → ots_length w ≡ 36 + 32 * chains w
unfolding ots_length
length-values w = omega arith

-- ---- chains of a key and of a signature

-- one more start
pub starts_next : (I seed z₀ z x z' : List ℕ) (q i : ℕ) → z ≡ patch 0 (joined (start I q seed) i) z₀ → bytes x ≡ start I q seed i
    → z' ≡ patch (32 * i) (bytes x) z → z' ≡ patch 0 (joined (start I q seed) (i + 1)) z₀
starts_next I seed z₀ z x z' q i e k p =
    written_next (start I q seed) i z₀ z (bytes x) z' (length-joined 32 _ i (λ j _. length-start I q seed j)) e k p

replicate_at : (i n a : ℕ) → i < n → get_or (replicate n a) i 0 ≡ a
replicate_at i n a h = get_or-replicate n i a 0 h

pub ordered-signed : (ends : List ℕ) → ((i : ℕ) → i < 67 → get_or ends i 0 ≤ 255) → Ordered (replicate 67 0) ends
ordered-signed ends f = record { before = λ i h. omega (arith, replicate_at i 67 0 h); within = f }

pub ordered-completed : (places : List ℕ) (w top : ℕ) → top ≡ 2 ^ w - 1 → top ≤ 255 → ((i : ℕ) → i < 67 → get_or places i 0 ≤ 2 ^ w - 1) → Ordered places (replicate 67 top)
ordered-completed places w top e h f =
    record { before = λ i k. omega (arith, replicate_at i 67 top k, f i k); within = λ i k. omega (arith, replicate_at i 67 top k) }

-- the chains of a signature, from their starts
pub signed_by : (I seed S ends x z r : List ℕ) (q : ℕ) → length x ≡ 2144 → ((i : ℕ) → i < 34 → get_or ends i 0 ≡ coef 8 S i)
    → z ≡ patch 0 (joined (start I q seed) 34) x → take 1088 r ≡ joined (ended I q (replicate 67 0) ends z) 34
    → take 1088 r ≡ joined (signed I q 8 seed S) 34
unfolding signed ended
signed_by I seed S ends x z r q l f p k =
    let long : length (joined (start I q seed) 34) ≡ 1088 = length-joined 32 _ 34 (λ i _. length-start I q seed i) in
    k
    ∙ joined_same _ _ 34
    (λ i h.
    let slot : part (32 * i) 32 z ≡ start I q seed i =
    rw p
    (ap (λ (a : ℕ). part a 32 (patch 0 (joined (start I q seed) 34) x)) (sym (zero-add (32 * i)))
    ∙ part-patch 0 (32 * i) 32 (joined (start I q seed) 34) x (omega arith) (omega arith)
    ∙ part-joined 32 (start I q seed) 34 (λ j _. length-start I q seed j) i h) in
    let digit : get_or ends i 0 - 0 ≡ coef 8 S i = sub-zero _ ∙ f i h in
    rw (replicate_at i 67 0 (omega arith), digit, slot))

-- the chains of a candidate, from the values of a signature
pub completed_by : (I S sig places x z r : List ℕ) (q w n top : ℕ) → length x ≡ 2144 → n ≡ chains w → n ≤ 67 → length sig ≡ ots_length w → top ≡ 2 ^ w - 1
    → ((i : ℕ) → i < chains w → get_or places i 0 ≡ coef w S i) → z ≡ patch 0 (take (length sig - 36) (drop 36 sig)) x
    → take (32 * n) r ≡ joined (ended I q places (replicate 67 top) z) n → take (32 * chains w) r ≡ joined (completed I q w S sig) (chains w)
unfolding completed ended part
completed_by I S sig places x z r q w n top l e h ls et f p k =
    let long : length (drop 36 sig) ≡ 32 * n = length-drop 36 sig ∙ omega (arith, ls, e, length-values w) in
    rw (← e)
    (k
    ∙ joined_same _ _ n
    (λ i a.
    let slot : part (32 * i) 32 z ≡ part (36 + 32 * i) 32 sig =
    rw (p, take_rest 36 sig)
    (ap (λ (b : ℕ). part b 32 (patch 0 (drop 36 sig) x)) (sym (zero-add (32 * i)))
    ∙ part-patch 0 (32 * i) 32 (drop 36 sig) x (omega arith) (omega arith)
    ∙ ap (take 32) (drop-drop (32 * i) 36 sig)) in
    rw (replicate_at i 67 top (omega arith), f i (omega arith), et) (ap (chain I q i (coef w S i) (2 ^ w - 1 - coef w S i)) slot)))

-- ---- keys

pub key_completed : (I message sig S a z r : List ℕ) (q w m : ℕ) → S ≡ digested I q w (part 4 32 sig) message → a ≡ front I q d_pblc → m ≡ chains w
    → take (32 * chains w) z ≡ joined (completed I q w S sig) (chains w) → r ≡ sha256 (a ++ take (32 * m) z) → r ≡ candidate I q w message sig
unfolding candidate key_input front
key_completed I message sig S a z r q w m s e n f p = p ∙ rw (e, n, f, s)
