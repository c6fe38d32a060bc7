-- Messages and their bytes: lengths, bytes that read as a message, and "messages written are read back the same".
-- Assumes nothing.
use Rattle.std.specs.Prelude.{◌≡◌, Bool, true, false, cond, ◌&&◌, List, [], ◌∷◌, ◌++◌, ◌≢◌, ℕ, ◌+◌, ◌*◌, ◌/◌, ◌%◌, ◌≤◌, ◌<◌, drop}
use Rattle.std.proofs.Math.Path.{refl}
use Rattle.std.proofs.Common.{sym, ap, ◌∙◌, append_assoc, arith, length-append, take-append-drop}
use Rattle.std.proofs.Math.Bool.{and-false}
use Rattle.std.proofs.lemmas.Bool.{false≢true}
use Rattle.std.proofs.Math.Dec.{leb, eqb}
use Rattle.std.proofs.Math.ListN.{length}
use Rattle.std.proofs.Math.Seq.{take_at, drop_at, take_all, take-length}
use borrow.Author.Tests.{eq-eqb, ne_eqb, eqb-true, le-leb, leb-true}
use Rattle.octets.specs.Octets.{be, part}
use Rattle.octets.specs.OctetsLaws.{length-be}
use Rattle.octets.specs.StringsLaws.{part_skip, part_left, part-front, part_end, part_between}
use Rattle.octets.specs.WriteLaws.{part-add}
use Rattle.quorum.specs.Quorum.{k}
use Rattle.refusal.specs.RefusalLaws.{both_true}
use Rattle.protocol.specs.Layout.{value_length, signature_length, operands_at, value_at, submit_length, notice_length, full_count_at, full_start, full_entry_length, full_entry_at, full_length, pair_lower_value_at, pair_higher_value_at, pair_lower_at, pair_higher_at, pair_length, evidence_entry_length, evidence_entry_at, evidence_length, lower_at, higher_at, old_evidence_entry_length, old_evidence_entry_at, old_evidence_length}
use Rattle.protocol.specs.Entries.{Each, Form, place_of, Laid, render_entries, entry_commands}
use Rattle.protocol.specs.EntriesLaws.{byte_after, Faithful, length-entries, commands_right, entries-read}
use Rattle.protocol.specs.Message.{Entry, Pair, PairValues, PackForm, ValuesOnce, ValuesEach, pack_command, pack_values, pack_count_at, pack_start, pair_bytes, pair_made, Message, Submit, Notice, Full, Evidence, Garbled, WellFormed, full_form, evidence_form, ValuesFormed, pack_in, form_of, count_of, read_values, render, render_all, byte_at, read_round, read_value, read_signature, fits_submit, fits_notice, fits_full, fits_evidence, read_submit, read_notice, read_full, read_evidence, read}
use Rattle.protocol.specs.Conditions.{is_full, is_evidence}

-- ---- messages one after another

pub all_append : (xs ys : List Message) → render_all (xs ++ ys) ≡ render_all xs ++ render_all ys
unfolding render_all
all_append [] ys = refl
all_append (x ∷ xs) ys = rw (all_append xs ys) (sym (append_assoc (render x) (render_all xs) (render_all ys)))

-- ---- lengths

pub length-submit : (round seat : ℕ) (value signature : List ℕ) → length value ≡ value_length → length signature ≡ signature_length → length (render (Submit round seat value signature)) ≡ submit_length
unfolding render submit_length signature_length
length-submit round seat value signature v s = simp (length-append, length-be) (omega arith)

pub length-notice : (round seat : ℕ) (value : List ℕ) → length value ≡ value_length → length (render (Notice round seat value)) ≡ notice_length
unfolding render notice_length
length-notice round seat value v = simp (length-append, length-be) (omega arith)

pub length-full : (round sender : ℕ) (value : List ℕ) (es : List Entry) → length value ≡ value_length → Laid full_form es → length (render (Full round sender value es)) ≡ full_entry_at (length es)
unfolding render full_form full_entry_at full_entry_length
length-full round sender value es v h = simp (length-append, length-be) (omega (arith, length-entries full_form es h))

-- EVIDENCE: its values fill the place between the round and the count, and its entries come after the count
pub length-values : (form : PackForm) → ValuesFormed form → operands_at + length (pack_values form) ≡ pack_count_at form
length-values (ValuesOnce values) f = simp length-append (omega arith)
length-values ValuesEach f = refl

pub count_before_start : (form : PackForm) → pack_start form ≡ pack_count_at form + 1
count_before_start (ValuesOnce values) = refl
count_before_start ValuesEach = refl

pub length-evidence : (round : ℕ) (form : PackForm) (ps : List Pair) → ValuesFormed form → Laid (evidence_form form) ps
    → length (render (Evidence round form ps)) ≡ place_of (evidence_form form) (length ps)
unfolding render evidence_form place_of
length-evidence round form ps f h = simp (length-append, length-be) (omega (arith, length-values form f, count_before_start form, length-entries (evidence_form form) ps h))

-- the lengths of either form
pub evidence-place : (count : ℕ) → place_of (evidence_form ValuesEach) count ≡ evidence_length count
unfolding place_of evidence_form evidence_length evidence_entry_at evidence_entry_length
evidence-place count = refl

pub old-evidence-place : (values : PairValues) (count : ℕ) → place_of (evidence_form (ValuesOnce values)) count ≡ old_evidence_length count
unfolding place_of evidence_form old_evidence_length old_evidence_entry_at old_evidence_entry_length
old-evidence-place values count = refl

-- ---- the two lists of entries

pub full_faithful : Faithful full_form
unfolding full_form
full_faithful seat bytes = (refl, refl)

-- the parts of a pair's bytes one after another
pair-whole : (held : List ℕ) → part pair_lower_value_at pair_higher_at held ++ drop pair_higher_at held ≡ held
unfolding part
pair-whole held = take-append-drop pair_higher_at held

pair_parts : (held : List ℕ)
    → part pair_lower_value_at value_length held ++ part pair_higher_value_at value_length held ++ part pair_lower_at signature_length held ++ drop pair_higher_at held ≡ held
pair_parts held =
    ap (λ (xs : List ℕ). xs ++ part pair_lower_at signature_length held ++ drop pair_higher_at held) (sym (part-add pair_lower_value_at value_length value_length held))
    ∙ ap (λ (xs : List ℕ). xs ++ drop pair_higher_at held) (sym (part-add pair_lower_value_at pair_lower_at signature_length held))
    ∙ pair-whole held

pub evidence_faithful : (form : PackForm) → Faithful (evidence_form form)
unfolding evidence_form
evidence_faithful (ValuesOnce values) seat held = (refl, take-append-drop signature_length held)
evidence_faithful ValuesEach seat held = (refl, pair_parts held)

-- a pair whose values and signatures have their lengths
pub pair-laid : (p : Pair) → length p.lower_value ≡ value_length → length p.higher_value ≡ value_length → length p.lower ≡ signature_length → length p.higher ≡ signature_length
    → (length (pair_bytes ValuesEach p) ≡ pair_length) × (pair_made ValuesEach p.seat (pair_bytes ValuesEach p) ≡ p)
pair-laid p v w l h =
    let values = p.lower_value ++ p.higher_value in
    let front = values ++ p.lower in
    let lower_value : part pair_lower_value_at value_length (front ++ p.higher) ≡ p.lower_value =
    part_left front p.higher pair_lower_value_at value_length (simp length-append (omega arith))
    ∙ part_left values p.lower pair_lower_value_at value_length (simp length-append (omega arith))
    ∙ part-front p.lower_value p.higher_value value_length v in
    let higher_value : part pair_higher_value_at value_length (front ++ p.higher) ≡ p.higher_value =
    part_left front p.higher pair_higher_value_at value_length (simp length-append (omega arith))
    ∙ part_between p.lower_value p.higher_value p.lower pair_higher_value_at value_length v w in
    let lower = part_between values p.lower p.higher pair_lower_at signature_length (simp length-append (omega arith)) l in
    let higher = drop_at front p.higher pair_higher_at (simp length-append (omega arith)) in
    (simp length-append (omega arith), rw (lower_value, higher_value, lower, higher))

-- the pairs of an old EVIDENCE have its two values
pub laid-values : (values : PairValues) (ps : List Pair) → Laid (evidence_form (ValuesOnce values)) ps → Each (λ (p : Pair). (values.lower ≡ p.lower_value) × (values.higher ≡ p.higher_value)) ps
unfolding evidence_form
laid-values values ps h p d = let made = (h p d).1 in (ap (λ (x : Pair). x.lower_value) made, ap (λ (x : Pair). x.higher_value) made)

-- ---- bytes that pass the test of a command

pub submit-fits : (bytes : List ℕ) → fits_submit bytes ≡ true → (length bytes ≡ submit_length) × (byte_at bytes 0 ≡ 0x01)
unfolding fits_submit
submit-fits bytes h =
    let both = both_true (eqb (length bytes) submit_length) (eqb (byte_at bytes 0) 0x01) h in
    (eqb-true (length bytes) submit_length both.0, eqb-true (byte_at bytes 0) 0x01 both.1)

pub notice-fits : (bytes : List ℕ) → fits_notice bytes ≡ true → (length bytes ≡ notice_length) × (byte_at bytes 0 ≡ 0x02)
unfolding fits_notice
notice-fits bytes h =
    let both = both_true (eqb (length bytes) notice_length) (eqb (byte_at bytes 0) 0x02) h in
    (eqb-true (length bytes) notice_length both.0, eqb-true (byte_at bytes 0) 0x02 both.1)

module _ (n : ℕ) (bytes : List ℕ) where
  pub record FullFits : Type 0 where
    pub size : length bytes ≡ full_length n
    pub code : byte_at bytes 0 ≡ 0x03
    pub count : byte_at bytes full_count_at ≡ k n
    pub commands : entry_commands full_form (k n) bytes ≡ true

  pub full-fits : fits_full n bytes ≡ true → FullFits
  unfolding fits_full
  full-fits h =
      let size = eqb (length bytes) (full_length n) in
      let code = eqb (byte_at bytes 0) 0x03 in
      let count = eqb (byte_at bytes full_count_at) (k n) in
      let three = both_true (size && code && count) (entry_commands full_form (k n) bytes) h in
      let two = both_true (size && code) count three.0 in
      let one = both_true size code two.0 in
      record {
        size = eqb-true (length bytes) (full_length n) one.0;
        code = eqb-true (byte_at bytes 0) 0x03 one.1;
        count = eqb-true (byte_at bytes full_count_at) (k n) two.1;
        commands = three.1;
      }

  abbrev counted : ℕ
  counted = count_of bytes

  pub record EvidenceFits : Type 0 where
    pub code : byte_at bytes 0 ≡ pack_command (pack_in bytes)
    pub some : 1 ≤ counted
    pub few : counted ≤ n
    pub size : length bytes ≡ place_of (form_of bytes) counted
    pub commands : entry_commands (form_of bytes) counted bytes ≡ true

  pub evidence-fits : fits_evidence n bytes ≡ true → EvidenceFits
  unfolding fits_evidence
  evidence-fits h =
      let command = pack_command (pack_in bytes) in
      let code = eqb (byte_at bytes 0) command in
      let size = eqb (length bytes) (place_of (form_of bytes) counted) in
      let four = both_true (code && leb 1 counted && leb counted n && size) (entry_commands (form_of bytes) counted bytes) h in
      let three = both_true (code && leb 1 counted && leb counted n) size four.0 in
      let two = both_true (code && leb 1 counted) (leb counted n) three.0 in
      let one = both_true code (leb 1 counted) two.0 in
      record {
        code = eqb-true (byte_at bytes 0) command one.0;
        some = leb-true 1 counted one.1;
        few = leb-true counted n two.1;
        size = eqb-true (length bytes) (place_of (form_of bytes) counted) three.1;
        commands = four.1;
      }

-- ---- the message in given bytes

choose : (P : Message → Type 0) (b : Bool) (m other : Message) → (b ≡ true → P m) → P other → P (cond b m other)
choose P true m other p q = p refl
choose P false m other p q = q

-- it is the one whose test the bytes pass
pub read_cases : (P : Message → Type 0) (n : ℕ) (bytes : List ℕ)
    → (fits_submit bytes ≡ true → P (read_submit bytes)) → (fits_notice bytes ≡ true → P (read_notice bytes)) → (fits_full n bytes ≡ true → P (read_full n bytes))
    → (fits_evidence n bytes ≡ true → P (read_evidence bytes)) → P Garbled → P (read n bytes)
unfolding read
read_cases P n bytes submit notice full evidence garbled =
    choose P (fits_submit bytes) (read_submit bytes) _ submit
    (choose P (fits_notice bytes) (read_notice bytes) _ notice
    (choose P (fits_full n bytes) (read_full n bytes) _ full
    (choose P (fits_evidence n bytes) (read_evidence bytes) Garbled evidence garbled)))

-- bytes that are a FULL's
pub read_is_full : (n : ℕ) (bytes : List ℕ) → is_full (read n bytes) ≡ true → (fits_full n bytes ≡ true) × (read n bytes ≡ read_full n bytes)
unfolding is_full read_submit read_notice read_evidence
read_is_full n bytes =
    read_cases (λ m. is_full m ≡ true → (fits_full n bytes ≡ true) × (m ≡ read_full n bytes)) n bytes
    (λ f h. absurd (false≢true h)) (λ f h. absurd (false≢true h)) (λ f h. (f, refl)) (λ f h. absurd (false≢true h)) (λ h. absurd (false≢true h))

-- and an EVIDENCE's
pub read_is_evidence : (n : ℕ) (bytes : List ℕ) → is_evidence (read n bytes) ≡ true → (read n bytes ≡ read_evidence bytes) × (fits_evidence n bytes ≡ true)
unfolding is_evidence read_submit read_notice read_full
read_is_evidence n bytes =
    read_cases (λ m. is_evidence m ≡ true → (m ≡ read_evidence bytes) × (fits_evidence n bytes ≡ true)) n bytes
    (λ f h. absurd (false≢true h)) (λ f h. absurd (false≢true h)) (λ f h. absurd (false≢true h)) (λ f h. (refl, f)) (λ h. absurd (false≢true h))

-- ---- SUBMIT and NOTICE

no_submit : (bytes : List ℕ) → eqb (byte_at bytes 0) 0x01 ≡ false → fits_submit bytes ≡ false
unfolding fits_submit
no_submit bytes h = rw (h, and-false)

no_notice : (bytes : List ℕ) → eqb (byte_at bytes 0) 0x02 ≡ false → fits_notice bytes ≡ false
unfolding fits_notice
no_notice bytes h = rw (h, and-false)

no_full : (n : ℕ) (bytes : List ℕ) → eqb (byte_at bytes 0) 0x03 ≡ false → fits_full n bytes ≡ false
unfolding fits_full
no_full n bytes h = rw (h, and-false)

round-read : (round : ℕ) → round < 65536 → round / 256 % 256 * 256 + round % 256 ≡ round
round-read round h = omega arith

module _ (n round seat : ℕ) (value : List ℕ) (h : round < 65536) (v : length value ≡ value_length) where
  module _ (signature : List ℕ) (g : length signature ≡ signature_length) where
    submit-passes : fits_submit (render (Submit round seat value signature)) ≡ true
    unfolding fits_submit submit_length render
    submit-passes = rw (length-submit round seat value signature v g, eq-eqb submit_length submit_length refl)

    submit-reads : read_submit (render (Submit round seat value signature)) ≡ Submit round seat value signature
    unfolding read_submit read_round read_value read_signature part render be
    submit-reads = rw (round-read round h, take_at value signature value_length v, drop_at value signature value_length v, take_all signature_length signature (omega arith))

    read-submit : read n (render (Submit round seat value signature)) ≡ Submit round seat value signature
    unfolding read
    read-submit = rw (submit-passes, submit-reads)

  notice-passes : fits_notice (render (Notice round seat value)) ≡ true
  unfolding fits_notice notice_length render
  notice-passes = rw (length-notice round seat value v)

  notice-reads : read_notice (render (Notice round seat value)) ≡ Notice round seat value
  unfolding read_notice read_round read_value part render be
  notice-reads = rw (round-read round h, take_all value_length value (omega arith))

  read-notice : read n (render (Notice round seat value)) ≡ Notice round seat value
  unfolding read render
  read-notice = rw (no_submit (render (Notice round seat value)) refl, notice-passes, notice-reads)

-- ---- FULL

module _ (n round sender : ℕ) (value : List ℕ) (es : List Entry) (h : round < 65536) (v : length value ≡ value_length) (count : length es ≡ k n) (g : Laid full_form es) where
  abbrev full : List ℕ
  full = render (Full round sender value es)

  -- command, round and sender
  abbrev full-head : List ℕ
  full-head = 0x03 ∷ be 2 round ++ sender ∷ []

  full-count : byte_at full full_count_at ≡ length es
  unfolding render
  full-count = byte_after (full-head ++ value) (length es) (render_entries full_form es) full_count_at (simp (length-append, length-be) (omega arith))

  full-entries : drop full_form.start full ≡ render_entries full_form es
  unfolding render full_form
  full-entries = drop_at (full-head ++ value ++ length es ∷ []) (render_entries full_form es) full_start (simp (length-append, length-be) (omega arith))

  full-value : read_value value_at full ≡ value
  unfolding read_value render
  full-value =
      part_left (full-head ++ value ++ length es ∷ []) (render_entries full_form es) value_at value_length (simp (length-append, length-be) (omega arith))
      ∙ part_between full-head value (length es ∷ []) value_at value_length (simp (length-append, length-be) (omega arith)) v

  full-passes : fits_full n full ≡ true
  unfolding fits_full full_length render
  full-passes =
      rw (
        commands_right full_form full es full-entries g (k n) (omega arith),
        length-full round sender value es v g,
        full-count,
        count,
        eq-eqb (full_entry_at (k n)) (full_entry_at (k n)) refl,
        eq-eqb (k n) (k n) refl,
      )

  full-reads : read_full n full ≡ Full round sender value es
  unfolding read_full read_round render be
  full-reads =
      rw (round-read round h, full-value, entries-read full_form full es full-entries g (k n) (omega arith), take_all (k n) es (omega arith))

  read-full : read n full ≡ Full round sender value es
  unfolding read render
  read-full = rw (no_submit full refl, no_notice full refl, full-passes, full-reads)

-- ---- EVIDENCE

-- the form by its command
pub pack-old : (bytes : List ℕ) → byte_at bytes 0 ≡ 0x05 → pack_in bytes ≡ ValuesOnce (read_values bytes)
unfolding pack_in
pack-old bytes h = rw h

pub pack-new : (bytes : List ℕ) → byte_at bytes 0 ≢ 0x05 → pack_in bytes ≡ ValuesEach
unfolding pack_in
pack-new bytes h = rw (ne_eqb (byte_at bytes 0) 0x05 h)

module _ (round : ℕ) (form : PackForm) (ps : List Pair) where
  abbrev entries : Form Pair
  entries = evidence_form form

  abbrev evidence : List ℕ
  evidence = render (Evidence round form ps)

  evidence-code : byte_at evidence 0 ≡ pack_command form
  unfolding render
  evidence-code = refl

  evidence-round : round < 65536 → read_round evidence ≡ round
  unfolding read_round render be
  evidence-round h = round-read round h

  -- up to the count
  abbrev evidence-front : List ℕ
  evidence-front = pack_command form ∷ be 2 round ++ pack_values form

  evidence-count : ValuesFormed form → byte_at evidence (pack_count_at form) ≡ length ps
  unfolding render
  evidence-count f = byte_after evidence-front (length ps) (render_entries entries ps) (pack_count_at form) (simp (length-append, length-be) (omega (arith, length-values form f)))

  evidence-entries : ValuesFormed form → drop entries.start evidence ≡ render_entries entries ps
  unfolding render evidence_form
  evidence-entries f =
      drop_at (evidence-front ++ length ps ∷ []) (render_entries entries ps) (pack_start form)
      (simp (length-append, length-be) (omega (arith, length-values form f, count_before_start form)))

-- the two values of an old one
module _ (round : ℕ) (values : PairValues) (ps : List Pair) (f : ValuesFormed (ValuesOnce values)) where
  open values use {lower, higher}

  abbrev old : List ℕ
  old = render (Evidence round (ValuesOnce values) ps)

  abbrev old-head : List ℕ
  old-head = 0x05 ∷ be 2 round

  abbrev old-front : List ℕ
  old-front = old-head ++ (lower ++ higher)

  abbrev old-rest : List ℕ
  old-rest = render_entries (evidence_form (ValuesOnce values)) ps

  -- a part of its values
  old-part : (i : ℕ) → i ≤ value_length → read_value (lower_at + i) old ≡ part i value_length (lower ++ higher)
  unfolding read_value render
  old-part i l =
      part_left (old-front ++ length ps ∷ []) old-rest (lower_at + i) value_length (simp (length-append, length-be) (omega arith))
      ∙ part_left old-front (length ps ∷ []) (lower_at + i) value_length (simp (length-append, length-be) (omega arith))
      ∙ part_skip old-head (lower ++ higher) lower_at i value_length (simp length-be)

  old-lower : read_value lower_at old ≡ lower
  old-lower = old-part 0 (omega arith) ∙ part-front lower higher value_length f.0

  old-higher : read_value higher_at old ≡ higher
  old-higher = old-part value_length (omega arith) ∙ part_end lower higher value_length value_length f.0 f.1

pack-read : (round : ℕ) (form : PackForm) (ps : List Pair) → ValuesFormed form → pack_in (render (Evidence round form ps)) ≡ form
unfolding pack_in render
pack-read round (ValuesOnce values) ps f = rw (old-lower round values ps f, old-higher round values ps f)
pack-read round ValuesEach ps f = refl

-- its command is no other's
other-command : (round : ℕ) (form : PackForm) (ps : List Pair) (command : ℕ) → 0x05 ≢ command → 0x07 ≢ command → eqb (byte_at (render (Evidence round form ps)) 0) command ≡ false
unfolding render
other-command round (ValuesOnce values) ps command old new = ne_eqb 0x05 command old
other-command round ValuesEach ps command old new = ne_eqb 0x07 command new

module _ (n round : ℕ) (form : PackForm) (ps : List Pair) (h : round < 65536) (f : ValuesFormed form) (few : 1 ≤ length ps) (many : length ps ≤ n)
    (g : Laid (evidence_form form) ps) where
  evidence-passes : fits_evidence n (evidence round form ps) ≡ true
  unfolding fits_evidence
  evidence-passes =
      rw (
        pack-read round form ps f,
        evidence-count round form ps f,
        length-evidence round form ps f g,
        le-leb 1 (length ps) few,
        le-leb (length ps) n many,
        commands_right (evidence_form form) (evidence round form ps) ps (evidence-entries round form ps f) g (length ps) (omega arith),
        eq-eqb (place_of (evidence_form form) (length ps)) (place_of (evidence_form form) (length ps)) refl,
        evidence-code round form ps,
        eq-eqb (pack_command form) (pack_command form) refl,
      )

  evidence-reads : read_evidence (evidence round form ps) ≡ Evidence round form ps
  unfolding read_evidence
  evidence-reads =
      rw (
        evidence-round round form ps h,
        pack-read round form ps f,
        evidence-count round form ps f,
        entries-read (evidence_form form) (evidence round form ps) ps (evidence-entries round form ps f) g (length ps) (omega arith),
        take-length ps,
      )

  read-evidence : read n (evidence round form ps) ≡ Evidence round form ps
  unfolding read
  read-evidence =
      rw (
        no_submit (evidence round form ps) (other-command round form ps 0x01 (λ e. omega arith) (λ e. omega arith)),
        no_notice (evidence round form ps) (other-command round form ps 0x02 (λ e. omega arith) (λ e. omega arith)),
        no_full n (evidence round form ps) (other-command round form ps 0x03 (λ e. omega arith) (λ e. omega arith)),
        evidence-passes,
        evidence-reads,
      )

-- ---- any message

pub read-render : (n : ℕ) (m : Message) → WellFormed n m → read n (render m) ≡ m
read-render n (Submit round seat value signature) w = read-submit n round seat value w.0 w.1 signature w.2
read-render n (Notice round seat value) w = read-notice n round seat value w.0 w.1
read-render n (Full round sender value es) w = read-full n round sender value es w.0 w.1 w.2 w.3
read-render n (Evidence round form ps) w = read-evidence n round form ps w.0 w.1 w.2 w.3 w.4
read-render n Garbled w = absurd w
