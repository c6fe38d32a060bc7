-- A fleet with keys by our key maker and signatures by our signer, from any seeds, identifiers and randomizers: its key table isn't
-- refused, and RFC 8554 accepts every signature. Deduced; no hash is computed.
-- Assumes nothing.
use Rattle.std.specs.Prelude.{ℕ, ◌+◌, ◌*◌, ◌≤◌, ◌<◌, ◌≡◌, Bool, true}
use Rattle.std.proofs.Math.Path.{sym, ap}
use Rattle.std.proofs.Common.{◌∙◌, add-zero, arith}
use mathlib.Core.List.{List}
use Rattle.std.proofs.Math.ListN.{length}
use Rattle.octets.specs.Octets.{part, number, word_at}
use Rattle.octets.specs.OctetsLaws.{word_at-part}
use Rattle.octets.specs.Strings.{joined}
use Rattle.octets.specs.StringsLaws.{number-part-four, length-joined, part-joined}
use Rattle.rfc8554.specs.Tree.{public_key, tree_filled}
use Rattle.rfc8554.specs.TreeLaws.{length-tree_filled}
use Rattle.rfc8554.specs.VerifyLaws.{length-public_key, lms_type_public_key, ots_type_public_key}
use Rattle.protocol.specs.Signatures.{MadeKey, MadeSignature, make_key, sign, signed_bytes, seat_key, checks}
use Rattle.protocol.specs.SignaturesLaws.{length-signed_bytes, length-lms_signature_six_four, make_key-unrefused, sign-unrefused}
use Rattle.protocol.specs.SignatureClaim.{made-signature-checks}
use Rattle.protocol.specs.Layout.{value_length, signature_length}
use Rattle.claims.specs.NotRefused.{Table}

-- arguments of key maker and signer: seed, identifier and tree of each seat, its randomizer for each layout, and the outs
pub record Material : Type 0 where
  pub seed : ℕ → List ℕ
  pub identifier : ℕ → List ℕ
  pub tree : ℕ → List ℕ
  pub randomizer : Bool → ℕ → List ℕ
  pub key_out : List ℕ
  pub sign_out : List ℕ

-- material of the stated lengths
pub record Stated (M : Material) : Type 0 where
  pub seeds : (s : ℕ) → length (M.seed s) ≡ 32
  pub identifiers : (s : ℕ) → length (M.identifier s) ≡ 16
  pub trees : (s : ℕ) → length (M.tree s) ≡ 65536
  pub randomizers : (side : Bool) (s : ℕ) → length (M.randomizer side s) ≡ 32
  pub key_room : 56 ≤ length M.key_out
  pub sign_room : signature_length ≤ length M.sign_out

module _ (M : Material) where
  -- the key of a seat, with its tree, and the table of n seats
  abbrev pub made_key : ℕ → MadeKey
  made_key s = make_key (M.seed s) (M.identifier s) (M.tree s) M.key_out

  abbrev pub made_keys : ℕ → List ℕ
  made_keys n = joined (λ s. (made_key s).written) n

  -- a seat's signature over the 36 bytes of round, seat and layout
  abbrev pub made_signature : ℕ → (Bool → List ℕ) → Bool → ℕ → List ℕ
  made_signature round layout side s =
      (sign round (signed_bytes round s (layout side)) (M.seed s) (M.identifier s) (M.randomizer side s) (made_key s).tree M.sign_out).written

  module _ (f : Stated M) where
    key_is : (s : ℕ) → made_key s ≡ record { refusal = 0; written = public_key 6 4 (M.identifier s) (M.seed s); tree = tree_filled (M.identifier s) (M.seed s) (M.tree s) }
    key_is s = make_key-unrefused (M.seed s) (M.identifier s) (M.tree s) M.key_out (f.seeds s) (f.identifiers s) (f.trees s) f.key_room

    written_is : (s : ℕ) → (made_key s).written ≡ public_key 6 4 (M.identifier s) (M.seed s)
    written_is s = ap (λ (m : MadeKey). m.written) (key_is s)

    key_length_lem : (s : ℕ) → length (made_key s).written ≡ 56
    key_length_lem s = ap length (written_is s) ∙ length-public_key 6 4 (M.identifier s) (M.seed s) (f.identifiers s)

    -- ---- the table

    seat_key_lem : (n s : ℕ) → s < n → seat_key (made_keys n) s ≡ (made_key s).written
    unfolding seat_key
    seat_key_lem n s h = part-joined 56 (λ i. (made_key i).written) n (λ i l. key_length_lem i) s h

    -- a word of a seat's key, in the table and as RFC 8554's check reads it
    key_word : (n s at : ℕ) → s < n → at + 4 ≤ 56 → word_at (made_keys n) (56 * s + at) ≡ number (part at 4 (public_key 6 4 (M.identifier s) (M.seed s)))
    unfolding seat_key
    key_word n s at h l =
        let key = public_key 6 4 (M.identifier s) (M.seed s) in
        let sized : length key ≡ 56 = length-public_key 6 4 (M.identifier s) (M.seed s) (f.identifiers s) in
        sym (word_at-part (56 * s) 56 at (made_keys n) l) ∙ ap (λ (x : List ℕ). word_at x at) (seat_key_lem n s h ∙ written_is s) ∙ sym (number-part-four at key (omega arith))

    pub made_table : (n : ℕ) → Table n (made_keys n)
    made_table n = record {
      sized = length-joined 56 (λ i. (made_key i).written) n (λ i l. key_length_lem i);
      types = λ s h. (
        ap (word_at (made_keys n)) (sym (add-zero (56 * s))) ∙ key_word n s 0 h (omega arith) ∙ lms_type_public_key 6 4 (M.identifier s) (M.seed s) (f.identifiers s) (omega arith),
        key_word n s 4 h (omega arith) ∙ ots_type_public_key 6 4 (M.identifier s) (M.seed s) (f.identifiers s) (omega arith),
      );
    }

    -- ---- the signatures

    module _ (round : ℕ) (early : round ≤ 1023) (layout : Bool → List ℕ) (layouts : (side : Bool) → length (layout side) ≡ value_length) where
      pub signature-sized : (side : Bool) (s : ℕ) → length (made_signature round layout side s) ≡ signature_length
      unfolding signature_length
      signature-sized side s =
          let id = M.identifier s in
          let message = signed_bytes round s (layout side) in
          let tree = tree_filled id (M.seed s) (M.tree s) in
          let filled = length-tree_filled id (M.seed s) (M.tree s) (f.trees s) in
          let short : length message ≤ 65535 = rw (length-signed_bytes round s (layout side) (layouts side)) (omega arith) in
          ap (λ (m : MadeKey). length (sign round message (M.seed s) id (M.randomizer side s) m.tree M.sign_out).written) (key_is s)
          ∙ ap (λ (g : MadeSignature). length g.written) (sign-unrefused (M.seed s) id tree M.sign_out (f.seeds s) (f.identifiers s) filled round message (M.randomizer side s) early short (f.randomizers side s) f.sign_room)
          ∙ length-lms_signature_six_four id round (M.seed s) (M.randomizer side s) message tree early (f.randomizers side s) filled

      pub signature-checks : (n : ℕ) (side : Bool) (s : ℕ) → s < n → checks (made_keys n) round s (layout side) (made_signature round layout side s) ≡ true
      unfolding signature_length
      signature-checks n side s h =
          made-signature-checks (M.seed s) (M.identifier s) (M.randomizer side s) (f.seeds s) (f.identifiers s) (f.randomizers side s) (M.tree s) M.key_out M.sign_out (f.trees s) f.key_room f.sign_room round early (made_keys n) s (layout side) (layouts side) (seat_key_lem n s h)
