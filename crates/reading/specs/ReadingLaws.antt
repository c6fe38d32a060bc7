-- Bytes read as messages: the operands of a message have their widths, and bytes are messages one after another in one way only.
-- Assumes nothing.
use Rattle.std.specs.Prelude.{◌≡◌, refl, true, List, [], ◌∷◌, ◌++◌, take, drop}
use Rattle.std.proofs.Common.{sym, ap, ◌∙◌, append_assoc, arith, length-append, take_at, drop_at}
use Rattle.std.proofs.Math.Path.{ap₂}
use mathlib.Core.List.Memᴰ
use Prim.Native.Nat.{ℕ, zero, suc, ◌+◌, ◌*◌, ◌≤◌}
use Rattle.std.proofs.Math.Nat.{mul-suc}
use Rattle.std.proofs.Math.ListN.{length}
use Rattle.std.proofs.Math.Seq.{take-append_seam}
use Rattle.octets.specs.Octets.{be, part}
use Rattle.octets.specs.OctetsLaws.{length-be, length_part}
use Rattle.quorum.specs.Quorum.{k}
use Rattle.protocol.specs.Layout.{value_length, signature_length, entry_seat_at, entry_held_at, entry_length, value_at, submit_signature_at, submit_length, notice_length, full_entry_length, full_entry_at, full_length, evidence_length, old_evidence_length}
use Rattle.protocol.specs.Entries.{Form, Laid, place_of, render_entries, read_entry, read_entries}
use Rattle.protocol.specs.EntriesLaws.{byte_after, Faithful, length-read}
use Rattle.protocol.specs.Message.{Pair, PackForm, ValuesOnce, ValuesEach, pack_command, pack_values, pack_count_at, Message, Submit, Notice, Full, Evidence, Garbled, WellFormed, full_form, evidence_form, ValuesFormed, pack_in, form_of, count_of, render, render_all, byte_at, read_value, read_signature, fits_submit, fits_notice, fits_full, fits_evidence, read_submit, read_notice, read_full, read_evidence, read}
use Rattle.protocol.specs.MessageLaws.{length-submit, length-notice, length-full, length-values, length-evidence, evidence-place, old-evidence-place, full_faithful, evidence_faithful, submit-fits, notice-fits, full-fits, evidence-fits, read_cases, read-render}
use Rattle.round.specs.Round.{Each, Are}
use Rattle.reading.specs.ListsLaws.{each_nil, each_one, each_append}
use Rattle.reading.specs.Reading.{Sized, frame_length}

-- ---- a message that was read

module _ {A : Type 0} (form : Form A) (faithful : Faithful form) (bytes : List ℕ) where
  entry-laid : (at : ℕ) → at + entry_length form.held ≤ length bytes → Laid form (read_entry form at bytes ∷ [])
  unfolding read_entry
  entry-laid at h =
      let held = part (at + entry_held_at) form.held bytes in
      let made = faithful (byte_at bytes (at + entry_seat_at)) held in
      each_one _ (form.make (byte_at bytes (at + entry_seat_at)) held) (ap length made.1 ∙ length_part (at + entry_held_at) form.held bytes (omega arith), ap₂ form.make made.0 made.1)

  entries-laid : (t : ℕ) → place_of form t ≤ length bytes → Laid form (read_entries form t bytes)
  unfolding read_entries place_of
  entries-laid zero h = each_nil _
  entries-laid (suc t) h =
      let more : entry_length form.held * suc t ≡ entry_length form.held * t + entry_length form.held = mul-suc (entry_length form.held) t in
      each_append _ (read_entries form t bytes) (read_entry form (place_of form t) bytes ∷ []) (entries-laid t (omega arith)) (entry-laid (place_of form t) (omega arith))

module _ (n : ℕ) (bytes : List ℕ) where
  submit-sized : fits_submit bytes ≡ true → Sized n (read_submit bytes)
  unfolding read_submit read_value read_signature submit_length signature_length
  submit-sized e =
      let l = (submit-fits bytes e).0 in
      (length_part value_at value_length bytes (omega arith), length_part submit_signature_at signature_length bytes (omega arith))

  notice-sized : fits_notice bytes ≡ true → Sized n (read_notice bytes)
  unfolding read_notice read_value notice_length
  notice-sized e = length_part value_at value_length bytes (omega (arith, (notice-fits bytes e).0))

  full-sized : fits_full n bytes ≡ true → Sized n (read_full n bytes)
  unfolding read_full read_value full_length full_entry_at full_entry_length full_form place_of
  full-sized e =
      let l = (full-fits n bytes e).size in
      (length_part value_at value_length bytes (omega arith), length-read full_form (k n) bytes, entries-laid full_form full_faithful bytes (k n) (omega arith))

  evidence-sized : fits_evidence n bytes ≡ true → Sized n (read_evidence bytes)
  unfolding read_evidence
  evidence-sized e = entries-laid (form_of bytes) (evidence_faithful (pack_in bytes)) bytes (count_of bytes) (omega (arith, (evidence-fits n bytes e).size))

  pub read-sized : Sized n (read n bytes)
  read-sized = read_cases (Sized n) n bytes submit-sized notice-sized full-sized evidence-sized tt

-- ---- the end of a message

evidence-counted : (ρ : ℕ) (form : PackForm) (ps : List Pair) (rest : List ℕ) → ValuesFormed form → byte_at (render (Evidence ρ form ps) ++ rest) (pack_count_at form) ≡ length ps
unfolding render
evidence-counted ρ form ps rest f =
    let front = pack_command form ∷ be 2 ρ ++ pack_values form in
    let entries = render_entries (evidence_form form) ps in
    ap (λ (b : List ℕ). byte_at b (pack_count_at form)) (append_assoc (front ++ length ps ∷ []) entries rest)
    ∙ byte_after front (length ps) (entries ++ rest) (pack_count_at form) (simp (length-append, length-be) (omega (arith, length-values form f)))

pub frame-length : (n : ℕ) (m : Message) (rest : List ℕ) → WellFormed n m → frame_length n (render m ++ rest) ≡ length (render m)
unfolding frame_length render full_length
frame-length n (Submit ρ seat value signature) rest w = sym (length-submit ρ seat value signature w.1 w.2)
frame-length n (Notice ρ seat value) rest w = sym (length-notice ρ seat value w.1)
frame-length n (Full ρ sender value es) rest w = ap full_entry_at (sym w.2) ∙ sym (length-full ρ sender value es w.1 w.3)
frame-length n (Evidence ρ (ValuesOnce values) ps) rest w =
    ap old_evidence_length (evidence-counted ρ (ValuesOnce values) ps rest w.1) ∙ sym (old-evidence-place values (length ps)) ∙ sym (length-evidence ρ (ValuesOnce values) ps w.1 w.4)
frame-length n (Evidence ρ ValuesEach ps) rest w =
    ap evidence_length (evidence-counted ρ ValuesEach ps rest w.1) ∙ sym (evidence-place (length ps)) ∙ sym (length-evidence ρ ValuesEach ps w.1 w.4)
frame-length n Garbled rest w = absurd w

render_some : (n : ℕ) (m : Message) → WellFormed n m → 1 ≤ length (render m)
unfolding render
render_some n (Submit ρ seat value signature) w = omega arith
render_some n (Notice ρ seat value) w = omega arith
render_some n (Full ρ sender value es) w = omega arith
render_some n (Evidence ρ form ps) w = omega arith
render_some n Garbled w = absurd w

-- bytes are messages one after another in one way only
pub messages_unique : (n : ℕ) (ms ms' : List Message) → Each (WellFormed n) ms → Each (WellFormed n) ms' → render_all ms ≡ render_all ms' → ms ≡ ms'
unfolding render_all
messages_unique n [] [] w w' e = refl
messages_unique n [] (m ∷ ms) w w' e = absurd (let s = render_some n m (w' m (Memᴰ.head refl)) in omega (arith, length-append (render m) (render_all ms), ap length e))
messages_unique n (m ∷ ms) [] w w' e = absurd (let s = render_some n m (w m (Memᴰ.head refl)) in omega (arith, length-append (render m) (render_all ms), ap length e))
messages_unique n (m ∷ ms) (m' ∷ ms') w w' e =
    let v = w m (Memᴰ.head refl) in
    let v' = w' m' (Memᴰ.head refl) in
    let l : length (render m) ≡ length (render m') = sym (frame-length n m (render_all ms) v) ∙ ap (frame_length n) e ∙ frame-length n m' (render_all ms') v' in
    let front : render m ≡ render m' =
    sym (take-append_seam (render m) (render_all ms)) ∙ ap (take (length (render m))) e ∙ take_at (render m') (render_all ms') (length (render m)) (sym l) in
    let rest : render_all ms ≡ render_all ms' =
    sym (drop_at (render m) (render_all ms) (length (render m)) refl) ∙ ap (drop (length (render m))) e ∙ drop_at (render m') (render_all ms') (length (render m)) (sym l) in
    ap₂ ◌∷◌ (sym (read-render n m v) ∙ ap (read n) front ∙ read-render n m' v')
    (messages_unique n ms ms' (λ x d. w x (Memᴰ.tail d)) (λ x d. w' x (Memᴰ.tail d)) rest)

pub are_unique : (n : ℕ) (bytes : List ℕ) (ms ms' : List Message) → Are n bytes ms → Are n bytes ms' → ms ≡ ms'
are_unique n bytes ms ms' a b = messages_unique n ms ms' a.0 b.0 (sym a.1 ∙ b.1)
