-- Evidence and the lower certificate from two certificates, over plain values.
-- Assumes nothing.
use Rattle.std.specs.Prelude.{◌≡◌, refl, Bool, true, false, List, [], ℕ}
use Rattle.std.proofs.Common.{sym, ◌∙◌, arith}
use Rattle.quorum.specs.Quorum.{k, size, shared}
use Rattle.refusal.specs.Refusal.{first_of, unrefused, numbers, nonzero}
use Rattle.refusal.specs.RefusalLaws.{refused-old, refused_first}
use Rattle.protocol.specs.Layout.{evidence_out_length}
use Rattle.protocol.specs.Values.{is_lower}
use Rattle.protocol.specs.Message.{Message, render, read, entry_seats}
use Rattle.protocol.specs.Certificate.{Certificate, set_of, certificate_in, evidence_of, conflict_of}
use Rattle.protocol.specs.Refusals.{Condition, is_full, making_conditions, lower_conditions}
use Rattle.protocol.specs.Calls.{making, lower_of, lower_certificate}
use Rattle.protocol.specs.CallsLaws.{Gives, given-refused, later-refused, written}
use Rattle.store.specs.Sources.{Sound, Readable, certificate_from}
use Rattle.store.specs.SourcesLaws.{in_full, full-value, full-readable, full-certificate, full_size}
use Rattle.wire_write.specs.Writing.{Wrote}
use Rattle.validate.specs.Calls.{given_conditions}
use Rattle.validate.specs.GivenLaws.{given-nonzero}
use Rattle.forms.specs.Messages.{Formed}
use Rattle.forms.specs.MessagesLaws.{full-kind}
use Rattle.signatures.specs.Entries.{FullTaken}
use Rattle.signatures.specs.EntriesLaws.{full-taken}
use Rattle.wire.specs.declared.read.Kind.TheVariants as kind
use Rattle.evidence.specs.PassedLaws.{Call, check, outside, after_outside, two}
use Rattle.evidence.specs.Making.{lower_number, lower_first}

-- ---- a certificate as a source

pub sound-formed : {n round : ℕ} (bytes : List ℕ) → Formed n round (is_full (read n bytes)) (read n bytes) → Sound n bytes (certificate_in (read n bytes)).seats
sound-formed bytes f = record { full = f.is; known = f.known; ordered = f.ordered; set = refl }

module _ (n : ℕ) (bytes : List ℕ) {seats : ℕ} (s : Sound n bytes seats) where
  pub sound-taken : FullTaken n bytes
  sound-taken = full-taken n bytes kind.Full (full-kind (read n bytes) s.full) s.known refl

  module _ {mask : ℕ} (set : mask ≡ set_of (entry_seats (read n bytes))) where
    pub readable : Readable n (in_full mask) bytes
    readable = full-readable n bytes s.full s.known s.ordered mask set

    pub sized : size mask ≡ k n
    sized = full_size n bytes s.full s.known s.ordered mask set

    pub certificate_is : {value : List ℕ} → value ≡ (certificate_in (read n bytes)).value → certificate_from n (in_full mask) value bytes ≡ certificate_in (read n bytes)
    certificate_is {value} e = full-certificate n bytes s.full s.known s.ordered mask set value (e ∙ full-value n bytes s.full)

-- ---- evidence

-- EVIDENCE from the two certificates as read, for the seats that they share
pub wrote-evidence : (n round mask : ℕ) {ca cb a b : Certificate} {out after : List ℕ} {end : ℕ} → mask ≡ shared ca.seats cb.seats → ca ≡ a → cb ≡ b
    → Wrote 0 (render (evidence_of n round mask ca cb)) out after end → Wrote 0 (render (conflict_of n round a b)) out after end
unfolding conflict_of
wrote-evidence n round mask is e f w = rw (← e, ← f, ← is) w

module _ (c : Call) (a b out : List ℕ) where
  -- the rows of n, round, key table and out
  abbrev given : List Condition
  given = given_conditions c.n c.round c.keys (evidence_out_length c.n) out

  abbrev conflict : Message
  conflict = conflict_of c.n c.round (certificate_in (read c.n a)) (certificate_in (read c.n b))

  -- answer of the call, and `out` after it
  abbrev Makes : ℕ → ℕ → List ℕ → Type 0
  Makes = Gives (making (check c) c.n c.round c.keys a b out) out

  some : nonzero (numbers given) ≡ true
  some = given-nonzero c.n c.round c.keys (evidence_out_length c.n) out

  module _ {first : ℕ} (told : first ≡ first_of given) where
    pub making-given-refused : (first ≡ 0 → ⊥) → Makes first 0 out
    unfolding making making_conditions given_conditions
    making-given-refused h = given-refused given (two c a b) some conflict out told h

    module _ (none : first ≡ 0) {number : ℕ} (e : number ≡ first_of (two c a b)) where
      pub making-refused : (number ≡ 0 → ⊥) → Makes number 0 out
      unfolding making making_conditions given_conditions
      making-refused h = later-refused given (two c a b) some conflict out told none e h

      pub making-done : number ≡ 0 → {after : List ℕ} {end : ℕ} → Wrote 0 (render conflict) out after end → Makes 0 end after
      unfolding making making_conditions given_conditions
      making-done z w = written given (two c a b) some conflict out told none e z (omega (arith, w.ends)) w.wrote

-- ---- the lower certificate

pub lower-told : (n : ℕ) (a b : List ℕ) {va vb : List ℕ} → va ≡ (certificate_in (read n a)).value → vb ≡ (certificate_in (read n b)).value
    → is_lower va vb ≡ is_lower (certificate_in (read n a)).value (certificate_in (read n b)).value
lower-told n a b p q = rw (p, q)

module _ (c : Call) (a b : List ℕ) where
  abbrev call_number : ℕ
  call_number = lower_number (check c) c.n c.round c.keys a b

  -- the part that the call hands back, and its buffer
  abbrev Hands : List ℕ → Type 0 → Type 0
  Hands part buffer = (part ≡ lower_certificate (check c) c.n c.round c.keys a b) × (call_number ≡ 0 → buffer)

  -- a refusal hands back no byte
  module _ {part : List ℕ} (none : part ≡ []) {buffer : Type 0} {number : ℕ} where
    nothing_of : number ≡ call_number → (number ≡ 0 → ⊥) → Hands part buffer
    unfolding lower_certificate
    nothing_of e h = (none ∙ rw (← e, refused-old), λ z. absurd (h (e ∙ z)))

    pub lower-outside : number ≡ first_of (outside c) → (number ≡ 0 → ⊥) → Hands part buffer
    unfolding lower_conditions
    lower-outside e h = nothing_of (refused_first (outside c) (two c a b) number e h) h

module _ (c : Call) (clear : 0 ≡ first_of (outside c)) (a b : List ℕ) {number : ℕ} (e : number ≡ first_of (two c a b)) where
  told : number ≡ call_number c a b
  unfolding lower_conditions
  told = e ∙ after_outside c clear (two c a b)

  pub lower-refused : {part : List ℕ} → part ≡ [] → {buffer : Type 0} → (number ≡ 0 → ⊥) → Hands c a b part buffer
  lower-refused none h = nothing_of c a b none told h

  -- nothing is refused: the whole of the first, or of the second. x and y are the references to them.
  module _ (z : number ≡ 0) {t : Bool} (is : t ≡ is_lower (certificate_in (read c.n a)).value (certificate_in (read c.n b)).value) {A : Type 0} (x y : A) where
    is_none : call_number c a b ≡ 0
    is_none = sym told ∙ z

    pub first_lower : t ≡ true → Hands c a b a (x ≡ lower_first c.n a b x y)
    unfolding lower_certificate lower_of unrefused lower_first
    first_lower q = (rw (is_none, ← is, q), λ _. rw (← is, q))

    pub second-lower : t ≡ false → Hands c a b b (y ≡ lower_first c.n a b x y)
    unfolding lower_certificate lower_of unrefused lower_first
    second-lower q = (rw (is_none, ← is, q), λ _. rw (← is, q))
