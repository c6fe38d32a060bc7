-- Bytes of words.
use Rattle.std.specs.Prelude.{◌≡◌, refl, List, [], ◌∷◌, ◌++◌, ℕ, zero, suc, ◌+◌, ◌*◌, ◌/◌, ◌%◌, ◌≤◌, ◌<◌, length, take, get_or}
use Rattle.std.proofs.Common.{sym, ap₂, ◌∙◌, add-one, arith, take-suc}
use Rattle.std.proofs.Math.Numerals.{add-two, add-three}
use Rattle.octets.specs.Octets.{word_at, words, bytes}
use Rattle.octets.specs.OctetsLaws.{be-four}

word_of : (w : ℕ) → w < 4294967296 → w / 16777216 % 256 * 16777216 + w / 65536 % 256 * 65536 + w / 256 % 256 * 256 + w % 256 ≡ w
word_of w h =
    let p : w / 65536 ≡ w / 256 / 256 = omega arith in
    let q : w / 16777216 ≡ w / 65536 / 256 = omega arith in
    let r : w / 16777216 % 256 ≡ w / 16777216 = omega arith in
    omega arith

-- the word at place t
word_at-bytes : (ws : List ℕ) (t : ℕ) → t < length ws → get_or ws t 0 < 4294967296 → word_at (bytes ws) (4 * t) ≡ get_or ws t 0
unfolding bytes
word_at-bytes [] t h b = absurd (omega arith)
word_at-bytes (w ∷ ws) zero h b = rw be-four (word_of w b)
word_at-bytes (w ∷ ws) (suc t) h b =
    let n : 4 * suc t ≡ suc (suc (suc (suc (4 * t)))) = omega arith in
    let e = word_at-bytes ws t (omega arith) b in
    rw (n, add-one, add-two, add-three, be-four) (rw (add-one, add-two, add-three) at e)

pub words-bytes : (ws : List ℕ) (t : ℕ) → t ≤ length ws → ((i : ℕ) → get_or ws i 0 < 4294967296) → words t (bytes ws) ≡ take t ws
unfolding words
words-bytes ws zero h b = refl
words-bytes ws (suc t) h b =
    ap₂ (λ (l : List ℕ) (x : ℕ). l ++ (x ∷ [])) (words-bytes ws t (omega arith) b) (word_at-bytes ws t h (b t))
    ∙ sym (take-suc ws t 0 h)
