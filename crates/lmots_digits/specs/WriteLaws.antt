-- Buffers written piece by piece.
use Rattle.std.specs.Prelude.{◌≡◌, refl, List, ◌++◌, ℕ, ◌*◌, ◌≤◌, length, take, drop}
use Rattle.std.proofs.Common.{ap, ◌∙◌, append-nil, arith, length-append, drop_of_length-le, take_at, drop_at}
use Rattle.octets.specs.Octets.{patch, be, bytes}
use Rattle.octets.specs.OctetsLaws.{length-be, length-bytes, patch-mid}
use Rattle.octets.specs.WriteLaws.{patch_next, patch-whole}
use Rattle.lmots_digits.specs.Pieces.{front}

-- vs written in place of ds, as code makes it
pub two-written : (n k : ℕ) (us ds vs xs : List ℕ) → length us ≡ n → length ds ≡ k → vs ≡ xs → take n (us ++ ds) ++ (vs ++ drop k (drop n (us ++ ds))) ≡ us ++ xs
two-written n k us ds vs xs l m e =
    let none : length ds ≤ k = omega arith in
    rw (take_at us ds n l, drop_at us ds n l, drop_of_length-le ds {i = k} none, append-nil, e)

pub front-written : (id zs a b vs : List ℕ) (q d : ℕ) → length id ≡ 4 → length zs ≡ 22 → a ≡ patch 0 (bytes id) zs → b ≡ patch 16 (be 4 q) a → vs ≡ be 2 d
    → take 20 b ++ (vs ++ drop 2 (drop 20 b)) ≡ front (bytes id) q d
unfolding front
front-written id zs a b vs q d li lz pa pb e =
    let long : length (bytes id) ≡ 16 = length-bytes id ∙ ap (λ (n : ℕ). 4 * n) li in
    let begun = patch_next 0 16 (bytes id) (be 4 q) zs a b pa (omega arith) (omega arith) pb in
    patch-mid 20 2 (be 2 d) vs b e (omega (arith, length-be 2 d))
    ∙ patch_next 0 20 (bytes id ++ be 4 q) (be 2 d) zs b _ begun (simp (length-append, length-be) (omega arith)) (omega arith) refl
    ∙ patch-whole ((bytes id ++ be 4 q) ++ be 2 d) zs (simp (length-append, length-be) (omega arith))
