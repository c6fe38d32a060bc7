-- Packs that may be joined: an EVIDENCE of the form 0x07, and its bytes.
-- Assumes nothing.
use Rattle.std.specs.Prelude.{◌≡◌, refl, true, List, ℕ}
use Rattle.std.proofs.lemmas.Bool.{false≢true}
use Rattle.protocol.specs.Entries.{read_entries}
use Rattle.protocol.specs.Message.{Pair, PackForm, ValuesOnce, ValuesEach, Message, Submit, Notice, Full, Evidence, Garbled, pack_in, form_of, count_of, read_round, read_evidence, fits_evidence, read}
use Rattle.protocol.specs.MessageLaws.{read_is_evidence}
use Rattle.protocol.specs.Refusals.{is_evidence, is_new_evidence}

-- the only case of a message that is an EVIDENCE of the form 0x07
pub new_cases : (P : Message → Type 0) (m : Message) → is_new_evidence m ≡ true → ((ρ : ℕ) (ps : List Pair) → P (Evidence ρ ValuesEach ps)) → P m
unfolding is_new_evidence
new_cases P (Submit ρ seat value signature) e f = absurd (false≢true e)
new_cases P (Notice ρ seat value) e f = absurd (false≢true e)
new_cases P (Full ρ sender value es) e f = absurd (false≢true e)
new_cases P (Evidence ρ (ValuesOnce values) ps) e f = absurd (false≢true e)
new_cases P (Evidence ρ ValuesEach ps) e f = f ρ ps
new_cases P Garbled e f = absurd (false≢true e)

pub new-evidence : (m : Message) → is_new_evidence m ≡ true → is_evidence m ≡ true
unfolding is_evidence
new-evidence m e = new_cases (λ x. is_evidence x ≡ true) m e (λ ρ ps. refl)

new-form : (ρ : ℕ) (form : PackForm) (ps : List Pair) → is_new_evidence (Evidence ρ form ps) ≡ true → form ≡ ValuesEach
unfolding is_new_evidence
new-form ρ (ValuesOnce values) ps e = absurd (false≢true e)
new-form ρ ValuesEach ps e = refl

-- the bytes of one
pub new-read : (n : ℕ) (bytes : List ℕ) → is_new_evidence (read n bytes) ≡ true
    → (read n bytes ≡ read_evidence bytes) × (fits_evidence n bytes ≡ true) × (pack_in bytes ≡ ValuesEach)
unfolding read_evidence
new-read n bytes e =
    let r = read_is_evidence n bytes (new-evidence (read n bytes) e) in
    (r.0, r.1, new-form (read_round bytes) (pack_in bytes) (read_entries (form_of bytes) (count_of bytes) bytes) (rw r.0 at e))
