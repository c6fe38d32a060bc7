-- The key table: a loop over its keys, and the keys of a table that isn't refused.
-- Assumes nothing.
use Rattle.std.specs.Prelude.{◌≡◌, true, false, List, ℕ, ◌+◌, ◌≤◌, ◌<◌}
use Rattle.std.proofs.Math.Path.{ap}
use Rattle.std.proofs.Common.{◌∙◌, add-zero, arith, eq-eqb, ne_eqb}
use Rattle.std.proofs.Math.ListN.{length}
use Rattle.octets.specs.Octets.{part, number, word_at}
use Rattle.octets.specs.OctetsLaws.{length_part}
use Rattle.octets.specs.StringsLaws.{part-part, number-part-four}
use Rattle.rfc8554.specs.Ots.{known_ots}
use Rattle.rfc8554.specs.Tree.{known_lms}
use Rattle.rfc8554.specs.Verify.{lms_type_of, ots_type_of}
use Rattle.protocol.specs.Layout.{key_length, key_at}
use Rattle.protocol.specs.Entries.{each_below}
use Rattle.protocol.specs.EntriesLaws.{each_not}
use Rattle.protocol.specs.ConditionsLaws.{table_right}
use Rattle.protocol.specs.Signatures.{seat_key}
use Rattle.protocol.specs.Refusals.{key_allowed, keys_allowed, wrong_keys, wrong_key}

module _ (keys : List ℕ) where
  -- ---- the loop

  -- a table of another length
  pub keys_length : (n : ℕ) → (length keys ≡ key_at n → ⊥) → true ≡ wrong_keys n keys
  unfolding wrong_keys
  keys_length n h = rw (ne_eqb (length keys) (key_at n) h)

  module _ (n : ℕ) (l : length keys ≡ key_at n) where
    -- a key that isn't allowed
    pub keys_not : (seat : ℕ) → seat < n → key_allowed seat keys ≡ false → true ≡ wrong_keys n keys
    unfolding wrong_keys keys_allowed
    keys_not seat h e = rw (eq-eqb (length keys) (key_at n) l, each_not (λ (s : ℕ). key_allowed s keys) seat n h e)

    -- every key is allowed
    pub keys_all : each_below (λ (seat : ℕ). key_allowed seat keys) n ≡ true → false ≡ wrong_keys n keys
    unfolding wrong_keys keys_allowed
    keys_all e = rw (eq-eqb (length keys) (key_at n) l, e)

  -- ---- a table that isn't refused

  module _ (n seat : ℕ) (e : wrong_keys n keys ≡ false) (h : seat < n) where
    -- a seat's key lies in it
    pub key_inside : key_at seat + key_length ≤ length keys
    key_inside = omega (arith, ((table_right n keys).0 e).0)

    types : (word_at keys (key_at seat) ≡ 6) × (word_at keys (key_at seat + 4) ≡ 4)
    types = ((table_right n keys).0 e).1 seat h

    -- and is one that RFC 8554's check takes
    pub key_right : wrong_key (seat_key keys seat) ≡ false
    unfolding seat_key wrong_key known_lms known_ots
    key_right =
        let long : length (part (key_at seat) key_length keys) ≡ key_length = length_part (key_at seat) key_length keys key_inside in
        let lms : lms_type_of (part (key_at seat) key_length keys) ≡ 6 =
        ap number (part-part 0 4 (key_at seat) key_length keys (omega arith)) ∙ number-part-four (key_at seat + 0) keys (omega (arith, key_inside))
        ∙ ap (word_at keys) (add-zero (key_at seat)) ∙ types.0 in
        let ots : ots_type_of (part (key_at seat) key_length keys) ≡ 4 =
        ap number (part-part 4 4 (key_at seat) key_length keys (omega arith)) ∙ number-part-four (key_at seat + 4) keys (omega (arith, key_inside)) ∙ types.1 in
        rw (long, lms, ots)
