-- Refusals by the tests of the code: one law for each return.
use Rattle.std.specs.Prelude.{◌≡◌, Bool, not, ◌||◌, List, ℕ, ◌+◌, ◌*◌, ◌^◌, ◌<◌, leb}
use Rattle.std.proofs.Math.Path.{refl, sym, ap}
use Rattle.std.proofs.Common.{◌∙◌, arith}
use Rattle.std.proofs.Math.Bool.{true, false, or-true, or-false}
use Rattle.std.proofs.lemmas.Bool.{false≢true}
use borrow.Author.Tests.{le-ltb, eq-eqb, ne_eqb, eqb-true, leb-false}
use Rattle.std.proofs.Math.Dec.{eqb}
use Rattle.std.proofs.Math.ListN.{length}
use Rattle.octets.specs.Octets.{part, word_at}
use Rattle.octets.specs.Strings.{same}
use Rattle.octets.specs.StringsLaws.{number-part-four}
use Rattle.rfc8554.specs.Ots.{u32_at, known_ots, width, ots_length}
use Rattle.rfc8554.specs.Tree.{known_lms, height}
use Rattle.rfc8554.specs.Verify.{lms_type_of, ots_type_of, leaf_of, sig_type_of, root_candidate, signature_length, signature_invalid, valid}
use Rattle.rfc8554.specs.VerifyLaws.{ots_invalid-inside}
use Rattle.protocol.specs.Refusals.{wrong_key}
use Rattle.protocol.specs.Signatures.{signature_number}
use Rattle.protocol.specs.SignaturesLaws.{key_invalid-wrong_key}

-- ---- a key

module _ (key : List ℕ) where
  pub key_length_lem : (length key ≡ 56 → ⊥) → true ≡ wrong_key key
  unfolding wrong_key
  key_length_lem n = rw (ne_eqb (length key) 56 n)

  module _ (l : length key ≡ 56) (x : ℕ) (e : x ≡ word_at key 0) where
    lms_type : lms_type_of key ≡ x
    lms_type = number-part-four 0 key (omega arith) ∙ sym e

    pub key_lms : (b : Bool) → b ≡ known_lms x → b ≡ false → true ≡ wrong_key key
    unfolding wrong_key
    key_lms b f n = rw (eq-eqb (length key) 56 l, lms_type, ← f, n)

    pub key_types : (y : ℕ) → y ≡ word_at key 4 → (a b : Bool) → a ≡ known_lms x → a ≡ true → b ≡ known_ots y → not b ≡ wrong_key key
    unfolding wrong_key
    key_types y f a b g t k =
        let ots-type : ots_type_of key ≡ y = number-part-four 4 key (omega arith) ∙ sym f in
        rw (eq-eqb (length key) 56 l, lms_type, ots-type, ← g, t, ← k)

-- ---- a signature

module _ (lms ots : ℕ) (s : List ℕ) where
  -- the tests on a signature's length, types and leaf; Algorithm 4b's own add nothing to them
  module _ (w n h : ℕ) (p : w ≡ width ots) (q : n ≡ ots_length w) (u : h ≡ height lms) where
    size : 4 + n + 4 + 32 * h ≡ signature_length (height lms) (width ots)
    unfolding signature_length
    size = rw (← p, ← q, ← u) (omega arith)

    pub signature-length : (length s ≡ 4 + n + 4 + 32 * h → ⊥) → true ≡ signature_invalid lms ots s
    unfolding signature_invalid
    signature-length d = rw (ne_eqb (length s) (signature_length (height lms) (width ots)) (λ e. d (e ∙ sym size)), or-true)

    module _ (l : length s ≡ 4 + n + 4 + 32 * h) (x : ℕ) (e : x ≡ word_at s 4) where
      ots_field : u32_at 4 s ≡ x
      ots_field = number-part-four 4 s (omega arith) ∙ sym e

      pub signature_ots : (x ≡ ots → ⊥) → true ≡ signature_invalid lms ots s
      unfolding signature_invalid
      signature_ots d = rw (ne_eqb (u32_at 4 s) ots (λ i. d (sym ots_field ∙ i)), or-true)

      module _ (y : ℕ) (f : y ≡ word_at s (4 + n)) where
        lms_field : sig_type_of (width ots) s ≡ y
        lms_field = rw (← p, ← q) (number-part-four (4 + n) s (omega arith) ∙ sym f)

        pub signature_lms : (y ≡ lms → ⊥) → true ≡ signature_invalid lms ots s
        unfolding signature_invalid
        signature_lms d = rw (ne_eqb (sig_type_of (width ots) s) lms (λ i. d (sym lms_field ∙ i)), or-true)

        pub signature-leaf : x ≡ ots → y ≡ lms → (m z : ℕ) → m ≡ 2 ^ height lms → z ≡ word_at s 0 → leb m z ≡ signature_invalid lms ots s
        unfolding signature_invalid signature_length
        signature-leaf a b m z g k =
            let leaf : leaf_of s ≡ z = number-part-four 0 s (omega arith) ∙ sym k in
            let long : length s ≡ signature_length (height lms) (width ots) = l ∙ size in
            rw (
              le-ltb (length s) 8 (omega arith),
              eq-eqb (u32_at 4 s) ots (ots_field ∙ a),
              le-ltb (length s) (8 + ots_length (width ots)) (omega arith),
              eq-eqb (sig_type_of (width ots) s) lms (lms_field ∙ b),
              leaf,
              ← g,
              eq-eqb (length s) (signature_length (height lms) (width ots)) long,
              ots_invalid-inside (height lms) ots s (ots_field ∙ a) long,
              or-false (leb m z || false),
              or-false (leb m z),
            )

  -- a signature that isn't rejected has the length of its types and a leaf of the tree
  pub signature-fits : signature_invalid lms ots s ≡ false
      → (length s ≡ signature_length (height lms) (width ots)) × (leaf_of s < 2 ^ height lms)
  unfolding signature_invalid
  signature-fits e = (long (eqb (length s) (signature_length (height lms) (width ots))) refl, leaf (leb (2 ^ height lms) (leaf_of s)) refl)
    where
      long : (b : Bool) → eqb (length s) (signature_length (height lms) (width ots)) ≡ b → length s ≡ signature_length (height lms) (width ots)
      long true p = eqb-true _ _ p
      long false p = absurd (false≢true (sym (rw (p, or-true) at e)))

      leaf : (b : Bool) → leb (2 ^ height lms) (leaf_of s) ≡ b → leaf_of s < 2 ^ height lms
      leaf true p = absurd (false≢true (sym (rw (p, or-true) at e)))
      leaf false p = leb-false _ _ p

-- ---- the whole check

pub key_fits : (key : List ℕ) → wrong_key key ≡ false → length key ≡ 56
unfolding wrong_key
key_fits key known = go (eqb (length key) 56) refl
  where
    go : (b : Bool) → eqb (length key) 56 ≡ b → length key ≡ 56
    go true p = eqb-true _ _ p
    go false p = absurd (false≢true (sym (rw p at known)))

module _ (key message s : List ℕ) (l : length key ≡ 56) (known : wrong_key key ≡ false) where
  module _ (x y : ℕ) (e : x ≡ word_at key 0) (f : y ≡ word_at key 4) where
    key_field : lms_type_of key ≡ x
    key_field = number-part-four 0 key (omega arith) ∙ sym e

    key_field_ots : ots_type_of key ≡ y
    key_field_ots = number-part-four 4 key (omega arith) ∙ sym f

    pub signature_rejected : (b : Bool) → b ≡ signature_invalid x y s → b ≡ true → 14 ≡ signature_number (valid key message s)
    unfolding valid signature_number
    signature_rejected b g t = rw (key_invalid-wrong_key key, known, key_field, key_field_ots, ← g, t)

    pub signature_compared : (b : Bool) → b ≡ signature_invalid x y s → b ≡ false
        → (I root last : List ℕ) (r : Bool) → I ≡ part 8 16 key → root ≡ root_candidate (height x) (width y) I message s
        → last ≡ part 24 32 key → r ≡ same root last → (number : ℕ) → number ≡ signature_number r → number ≡ signature_number (valid key message s)
    unfolding valid
    signature_compared b g t I root last r i j k l number v =
        v ∙ ap signature_number (l ∙ rw (key_invalid-wrong_key key, known, key_field, key_field_ots, ← g, t, j, i, k))
