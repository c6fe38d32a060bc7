-- Bytes that are read as a message are the bytes written for that message. (`MessageLaws` has the other way round: messages
-- written are read back the same.)
-- Assumes nothing.
use Rattle.std.specs.Prelude.{◌≡◌, Bool, true, false, cond, List, [], ◌∷◌, ◌++◌, ℕ, suc, ◌+◌, ◌-◌, ◌*◌, ◌/◌, ◌%◌, ◌≤◌, ◌<◌, eqb, length}
use Rattle.std.proofs.Math.Path.{refl, sym, ap}
use Rattle.std.proofs.Common.{ap₂, ◌∙◌, zero-add, add-one}
use native.Mathlib.Omega.{arith}
use Rattle.octets.specs.Octets.{part, be}
use Rattle.octets.specs.StringsLaws.{be-two, part-suc, part-zero, part_all}
use Rattle.octets.specs.WriteLaws.{part-add}
use Rattle.quorum.specs.Quorum.{k}
use Rattle.protocol.specs.Layout.{value_length, signature_length, round_at, operands_at, seat_at, value_at, submit_signature_at, submit_length, notice_length, entry_length, full_count_at, full_start, full_entry_length, full_entry_at, full_length, lower_at}
use Rattle.protocol.specs.Figures.{submit_figure, notice_figure, full_figure}
use Rattle.protocol.specs.Entries.{Form, place_of, render_entries, entry_commands, read_entries}
use Rattle.protocol.specs.EntriesLaws.{Faithful, length-read, entries_back}
use Rattle.protocol.specs.Message.{PackForm, ValuesOnce, ValuesEach, pack_command, pack_values, pack_count_at, pack_start, Garbled, full_form, evidence_form, read_values, pack_in, form_of, count_of, render, byte_at, read_round, read_value, read_signature, read_submit, read_notice, read_full, read_evidence, fits_submit, fits_notice, fits_full, fits_evidence, read}
use Rattle.protocol.specs.MessageLaws.{count_before_start, full_faithful, evidence_faithful, submit-fits, notice-fits, full-fits, evidence-fits, read_cases}

-- ---- parts one after another

module _ (bytes : List ℕ) where
  -- us and then vs, each a part of the bytes
  pub append_parts : (at a b n : ℕ) (us vs : List ℕ) → us ≡ part at a bytes → vs ≡ part (at + a) b bytes → n ≡ a + b → us ++ vs ≡ part at n bytes
  append_parts at a b n us vs e f q = ap₂ ◌++◌ e f ∙ rw q (sym (part-add at a b bytes))

  pub one_byte : (at b : ℕ) → at < length bytes → byte_at bytes at ≡ b → b ∷ [] ≡ part at 1 bytes
  unfolding part
  one_byte at b h e = sym (part-suc at 0 bytes h ∙ ap (λ (x : ℕ). x ∷ []) e)

  -- a number of two bytes
  pub two_bytes : ((i : ℕ) → byte_at bytes i < 256) → (at : ℕ) → at + 2 ≤ length bytes → be 2 (byte_at bytes at * 256 + byte_at bytes (at + 1)) ≡ part at 2 bytes
  two_bytes b at h =
      let x = byte_at bytes at in
      let y = byte_at bytes (at + 1) in
      let high : (x * 256 + y) / 256 % 256 ≡ x = omega (arith, b at, b (at + 1)) in
      let low : (x * 256 + y) % 256 ≡ y = omega (arith, b (at + 1)) in
      rw (be-two, high, low, add-one, part-suc at 1 bytes (omega arith), part-suc (suc at) 0 bytes (omega arith), part-zero)

  -- a front, and then the entries
  entries_after : {A : Type 0} (form : Form A) → Faithful form → (front : List ℕ) (t : ℕ) → front ≡ part 0 form.start bytes → length bytes ≡ place_of form t → entry_commands form t bytes ≡ true
      → front ++ render_entries form (read_entries form t bytes) ≡ bytes
  unfolding place_of
  entries_after form faithful front t f l c =
      let place : 0 + form.start ≡ form.start = omega arith in
      append_parts 0 form.start (entry_length form.held * t) (place_of form t) front (render_entries form (read_entries form t bytes)) f (rw place (entries_back form faithful bytes t (omega arith) c)) refl
      ∙ part_all bytes (place_of form t) l

-- ---- the start of a message

-- the command and the round
start_back : (bytes : List ℕ) (command : ℕ) → operands_at ≤ length bytes → ((i : ℕ) → byte_at bytes i < 256) → byte_at bytes 0 ≡ command → command ∷ be 2 (read_round bytes) ≡ part 0 operands_at bytes
unfolding read_round
start_back bytes command h b e =
    append_parts bytes 0 1 2 operands_at (command ∷ []) (be 2 (read_round bytes)) (one_byte bytes 0 command (omega arith) e) (two_bytes bytes b round_at (omega arith)) refl

-- SUBMIT, NOTICE and FULL go on with a seat and the value
head_back : (bytes : List ℕ) (command : ℕ) → value_at + value_length ≤ length bytes → ((i : ℕ) → byte_at bytes i < 256) → byte_at bytes 0 ≡ command
    → command ∷ be 2 (read_round bytes) ++ byte_at bytes seat_at ∷ [] ++ read_value value_at bytes ≡ part 0 (value_at + value_length) bytes
unfolding read_value
head_back bytes command h b e =
    let start = start_back bytes command (omega arith) b e in
    let seat = append_parts bytes 0 operands_at 1 value_at (command ∷ be 2 (read_round bytes)) (byte_at bytes seat_at ∷ []) start (one_byte bytes seat_at (byte_at bytes seat_at) (omega arith) refl) refl in
    append_parts bytes 0 value_at value_length (value_at + value_length) (command ∷ be 2 (read_round bytes) ++ byte_at bytes seat_at ∷ []) (part value_at value_length bytes) seat refl refl

-- ---- each command

submit_back : (bytes : List ℕ) → ((i : ℕ) → byte_at bytes i < 256) → fits_submit bytes ≡ true → render (read_submit bytes) ≡ bytes
unfolding render read_submit read_signature submit_length
submit_back bytes b h =
    let fits = submit-fits bytes h in
    let head = head_back bytes 0x01 (omega (arith, submit_figure)) b fits.1 in
    append_parts bytes 0 submit_signature_at signature_length submit_length (0x01 ∷ be 2 (read_round bytes) ++ byte_at bytes seat_at ∷ [] ++ read_value value_at bytes) (part submit_signature_at signature_length bytes) head refl refl
    ∙ part_all bytes submit_length fits.0

notice_back : (bytes : List ℕ) → ((i : ℕ) → byte_at bytes i < 256) → fits_notice bytes ≡ true → render (read_notice bytes) ≡ bytes
unfolding render read_notice notice_length
notice_back bytes b h =
    let fits = notice-fits bytes h in
    head_back bytes 0x02 (omega (arith, notice_figure)) b fits.1 ∙ part_all bytes notice_length fits.0

full_back : (n : ℕ) (bytes : List ℕ) → ((i : ℕ) → byte_at bytes i < 256) → fits_full n bytes ≡ true → render (read_full n bytes) ≡ bytes
unfolding render read_full full_form place_of full_length full_entry_at full_entry_length
full_back n bytes b h =
    let fits = full-fits n bytes h in
    let many = length (read_entries full_form (k n) bytes) in
    let count : byte_at bytes full_count_at ≡ many = fits.count ∙ sym (length-read full_form (k n) bytes) in
    let head = head_back bytes 0x03 (omega (arith, full_figure n)) b fits.code in
    let front = append_parts bytes 0 full_count_at 1 full_start (0x03 ∷ be 2 (read_round bytes) ++ byte_at bytes seat_at ∷ [] ++ read_value value_at bytes) (many ∷ []) head (one_byte bytes full_count_at many (omega (arith, full_figure n)) count) refl in
    entries_after bytes full_form full_faithful (0x03 ∷ be 2 (read_round bytes) ++ byte_at bytes seat_at ∷ [] ++ read_value value_at bytes ++ many ∷ []) (k n) front fits.size fits.commands

-- what stands between the round and the count of an EVIDENCE
values_back : (bytes : List ℕ) → pack_values (pack_in bytes) ≡ part operands_at (pack_count_at (pack_in bytes) - operands_at) bytes
unfolding pack_in read_value
values_back bytes = go (eqb (byte_at bytes 0) 0x05)
  where
    form : Bool → PackForm
    form b = cond b (ValuesOnce (read_values bytes)) ValuesEach

    go : (b : Bool) → pack_values (form b) ≡ part operands_at (pack_count_at (form b) - operands_at) bytes
    go true = sym (part-add lower_at value_length value_length bytes)
    go false = sym (part-zero operands_at bytes)

pack-count_at : (form : PackForm) → operands_at ≤ pack_count_at form
pack-count_at (ValuesOnce values) = omega arith
pack-count_at ValuesEach = omega arith

evidence_back : (n : ℕ) (bytes : List ℕ) → ((i : ℕ) → byte_at bytes i < 256) → fits_evidence n bytes ≡ true → render (read_evidence bytes) ≡ bytes
unfolding render read_evidence evidence_form place_of
evidence_back n bytes b h =
    let fits = evidence-fits n bytes h in
    let form = pack_in bytes in
    let count_at = pack_count_at form in
    let many = length (read_entries (form_of bytes) (count_of bytes) bytes) in
    let head = pack_command form ∷ be 2 (read_round bytes) in
    let after : operands_at ≤ count_at = pack-count_at form in
    let long : count_at + 1 ≤ length bytes = omega (arith, fits.size, count_before_start form) in
    let start = start_back bytes (pack_command form) (omega arith) b fits.code in
    let values = append_parts bytes 0 operands_at (count_at - operands_at) count_at head (pack_values form) start (values_back bytes) (omega arith) in
    let front = append_parts bytes 0 count_at 1 (pack_start form) (head ++ pack_values form) (many ∷ []) values (simp zero-add (one_byte bytes count_at many (omega arith) (sym (length-read (form_of bytes) (count_of bytes) bytes)))) (count_before_start form) in
    entries_after bytes (form_of bytes) (evidence_faithful form) (head ++ pack_values form ++ many ∷ []) (count_of bytes) front fits.size fits.commands

-- ---- any message

-- bytes that are not garbled are those of the message read from them
pub render-read : (n : ℕ) (bytes : List ℕ) → (read n bytes ≡ Garbled → ⊥) → ((i : ℕ) → byte_at bytes i < 256) → render (read n bytes) ≡ bytes
render-read n bytes g b =
    read_cases (λ m. (m ≡ Garbled → ⊥) → render m ≡ bytes) n bytes
    (λ h said. submit_back bytes b h) (λ h said. notice_back bytes b h) (λ h said. full_back n bytes b h) (λ h said. evidence_back n bytes b h) (λ said. absurd (said refl)) g
