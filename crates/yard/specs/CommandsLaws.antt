-- The returns of the functions over commands, over plain values.
-- Assumes nothing.
use Rattle.std.specs.Prelude.{◌≡◌, Bool, false, not, ◌||◌, cond, Option, Some, None, List, [], ℕ, ◌+◌, ◌-◌, ◌≤◌, ◌<◌, ltb, length, take, drop}
use Rattle.std.proofs.Math.Path.{refl, sym}
use Rattle.std.proofs.Math.Bool.{true}
use Rattle.std.proofs.Common.{arith}
use Rattle.std.proofs.Math.Dec.{eqb}
use borrow.Author.Tests.{eq-eqb, ne_eqb, eqb-true, eqb-false, lt-ltb, le-ltb, ltb-false, not-false}
use Rattle.octets.specs.Octets.{part}
use Rattle.octets.specs.OctetsLaws.{take_rest}
use Rattle.octets.specs.StringsLaws.{patch-nothing}
use Rattle.refusal.specs.Refusal.{first_of, unrefused}
use Rattle.refusal.specs.RefusalLaws.{both_false}
use Rattle.protocol.specs.Layout.{value_length, signature_length}
use Rattle.protocol.specs.Message.{byte_at}
use Rattle.protocol.specs.Record.{wrong_size}
use Rattle.protocol.specs.Refusals.{Checks, opening_conditions}
use Rattle.protocol.specs.Calls.{out_after, opened_by, opening, submit, step, answer}
use Rattle.protocol.specs.declared.Record.{Record}
use Rattle.protocol.specs.declared.Opened.{Opened}
use Rattle.protocol.specs.declared.Stepped.{Stepped}
use Rattle.yard.specs.Line.{line, in_space, Fits}
use Rattle.yard.specs.Commands.{Outcome, line_for, told, two_at, is_opening, keys_of, opening_length, misframed_opening, refused_opening, opened, begun, is_message, is_submit, message_at, own_value_at, own_signature_at, call_of, call_length, misframed_call, whole_call, told_call, called}
use Rattle.yard.specs.declared.line.Line.{Line}
use Rattle.yard.specs.declared.commands.Answer.{Answer}
use Rattle.yard.specs.declared.commands.Call.{Call}
use Rattle.yard.specs.declared.commands.Call.TheVariants as call

-- ---- the later command by its tests

abbrev picked : Bool → Bool → Option Call
picked m s = cond m (Some call.Message) (cond s (Some call.Submit) None)

picked-message : (m s : Bool) → picked m s ≡ Some call.Message → m ≡ true
picked-message true s e = refl
picked-message false true e = cc
picked-message false false e = cc

picked-submit : (m s : Bool) → picked m s ≡ Some call.Submit → (m ≡ false) × (s ≡ true)
picked-submit true s e = cc
picked-submit false true e = (refl, refl)
picked-submit false false e = cc

picked_none : (m s : Bool) → picked m s ≡ None → (m ≡ false) × (s ≡ false)
picked_none true s e = cc
picked_none false true e = cc
picked_none false false e = (refl, refl)

whole_none : (short m s : Bool) → cond short None (picked m s) ≡ None → (short || not (m || s)) ≡ true
whole_none true m s e = refl
whole_none false m s e = let p = picked_none m s e in rw (p.0, p.1)

whole-some : (short : Bool) (k : Option Call) (c : Call) → cond short None k ≡ Some c → (short ≡ false) × (k ≡ Some c)
whole-some true k c e = cc
whole-some false k c e = (refl, e)

module _ (bytes : List ℕ) where
  -- ---- the first command

  pub opening-short : (size : ℕ) → size ≡ opening_length bytes → length bytes < size → true ≡ misframed_opening bytes
  unfolding misframed_opening
  opening-short size e h = rw (← e, lt-ltb (length bytes) size h)

  pub opening-whole : (size b : ℕ) → size ≡ opening_length bytes → size ≤ length bytes → b ≡ byte_at bytes 0 → not (eqb b 0x10) ≡ misframed_opening bytes
  unfolding misframed_opening
  opening-whole size b e h c = rw (← e, ← c, le-ltb (length bytes) size h)

  module _ (o : Opened) where
    pub open_misframed : misframed_opening bytes ≡ true → o ≡ refused_opening 9 → o ≡ opened bytes
    unfolding opened
    open_misframed m e = rw (m, e)

    module _ (m : misframed_opening bytes ≡ false) (n : ℕ) (s : n ≡ byte_at bytes 1) where
      pub open_many : 7 < n → o ≡ refused_opening 1 → o ≡ opened bytes
      unfolding opened
      open_many l e = rw (m, ← s, lt-ltb 7 n l, e)

      pub open_few : n ≤ 7 → (seat round : ℕ) (keys : List ℕ) → seat ≡ byte_at bytes 2 → round ≡ two_at bytes 3 → keys ≡ keys_of bytes
          → o ≡ opening n seat round keys → o ≡ opened bytes
      unfolding opened
      open_few l seat round keys t u k e = rw (m, ← s, ← t, ← u, ← k, le-ltb 7 n l, e)

  -- ---- each later one

  module _ (b : ℕ) (e : b ≡ byte_at bytes 0) where
    pub call-message : (size : ℕ) → b ≡ 0x11 → size ≡ two_at bytes 1 → message_at + size ≡ call_length bytes
    unfolding call_length
    call-message size h s = rw (← e, ← s, eq-eqb b 0x11 h)

    pub call-submit : (b ≡ 0x11 → ⊥) → b ≡ 0x12 → own_signature_at + signature_length ≡ call_length bytes
    unfolding call_length
    call-submit h s = rw (← e, ne_eqb b 0x11 h, eq-eqb b 0x12 s)

    pub call-other : (b ≡ 0x11 → ⊥) → (b ≡ 0x12 → ⊥) → 1 ≡ call_length bytes
    unfolding call_length
    call-other h s = rw (← e, ne_eqb b 0x11 h, ne_eqb b 0x12 s)

    pub called_message : b ≡ 0x11 → Some call.Message ≡ call_of bytes
    unfolding call_of
    called_message h = rw (← e, eq-eqb b 0x11 h)

    pub called_submit : b ≡ 0x12 → Some call.Submit ≡ call_of bytes
    unfolding call_of
    called_submit h = rw (← e, ne_eqb b 0x11 (omega arith), eq-eqb b 0x12 h)

    pub called_other : (b ≡ 0x11 → ⊥) → (b ≡ 0x12 → ⊥) → None ≡ call_of bytes
    unfolding call_of
    called_other h s = rw (← e, ne_eqb b 0x11 h, ne_eqb b 0x12 s)

  abbrev first : ℕ
  first = byte_at bytes 0

  pub length-message : Some call.Message ≡ call_of bytes → (size : ℕ) → size ≡ two_at bytes 1 → message_at + size ≡ call_length bytes
  unfolding call_of
  length-message h size s = call-message first refl size (eqb-true first 0x11 (picked-message (is_message bytes) (is_submit bytes) (sym h))) s

  pub length-submit : Some call.Submit ≡ call_of bytes → own_signature_at + signature_length ≡ call_length bytes
  unfolding call_of
  length-submit h =
      let p = picked-submit (is_message bytes) (is_submit bytes) (sym h) in
      call-submit first refl (eqb-false first 0x11 p.0) (eqb-true first 0x12 p.1)

  pub length-other : None ≡ call_of bytes → 1 ≡ call_length bytes
  unfolding call_of
  length-other h =
      let p = picked_none (is_message bytes) (is_submit bytes) (sym h) in
      call-other first refl (eqb-false first 0x11 p.0) (eqb-false first 0x12 p.1)

  module _ (size : ℕ) (e : size ≡ call_length bytes) where
    pub whole_short : length bytes < size → None ≡ whole_call bytes
    unfolding whole_call
    whole_short h = rw (← e, lt-ltb (length bytes) size h)

    pub whole-called : size ≤ length bytes → (k : Option Call) → k ≡ call_of bytes → k ≡ whole_call bytes
    unfolding whole_call
    whole-called h k c = rw (← e, le-ltb (length bytes) size h, c)

-- an opening of no seats gives a record of zeros
pub opening_none : (keys : List ℕ) (o : Opened) (number : ℕ) → o ≡ opening 0 0 0 keys → record { number = number; unit = o.unit } ≡ refused_opening number
unfolding opening opened_by opening_conditions first_of wrong_size unrefused
opening_none keys o number e = rw e

-- ---- the operands of a whole command

pub framed-opening : (bytes : List ℕ) → misframed_opening bytes ≡ false → opening_length bytes ≤ length bytes
unfolding misframed_opening
framed-opening bytes m =
    ltb-false (length bytes) (opening_length bytes) (both_false (ltb (length bytes) (opening_length bytes)) (not (is_opening bytes)) m).0

module _ (bytes : List ℕ) (m : misframed_call bytes ≡ false) where
  pub framed-call : call_length bytes ≤ length bytes
  unfolding misframed_call
  framed-call = ltb-false (length bytes) (call_length bytes) (both_false (ltb (length bytes) (call_length bytes)) (not (is_message bytes || is_submit bytes)) m).0

  known : (is_message bytes || is_submit bytes) ≡ true
  unfolding misframed_call
  known = not-false (is_message bytes || is_submit bytes) (both_false (ltb (length bytes) (call_length bytes)) (not (is_message bytes || is_submit bytes)) m).1

  module _ (b : ℕ) (e : b ≡ byte_at bytes 0) where
    pub message-whole : b ≡ 0x11 → message_at ≤ length bytes
    unfolding call_length
    message-whole h = omega (arith, rw (← e, eq-eqb b 0x11 h) at framed-call)

    pub submit-whole : (b ≡ 0x11 → ⊥) → own_signature_at ≤ length bytes
    unfolding call_length
    submit-whole h =
        let s : eqb b 0x12 ≡ true = rw (← e, ne_eqb b 0x11 h) at known in
        omega (arith, rw (← e, ne_eqb b 0x11 h, s) at framed-call)

-- ---- the operands of the later command that stands whole

module _ (bytes : List ℕ) where
  pub none_misframed : None ≡ whole_call bytes → misframed_call bytes ≡ true
  unfolding misframed_call whole_call call_of
  none_misframed h = whole_none (ltb (length bytes) (call_length bytes)) (is_message bytes) (is_submit bytes) (sym h)

  module _ (h : Some call.Message ≡ whole_call bytes) where
    some-message : (ltb (length bytes) (call_length bytes) ≡ false) × (is_message bytes ≡ true)
    unfolding whole_call call_of
    some-message =
        let w = whole-some (ltb (length bytes) (call_length bytes)) (picked (is_message bytes) (is_submit bytes)) call.Message (sym h) in
        (w.0, picked-message (is_message bytes) (is_submit bytes) w.1)

    pub message-framed : misframed_call bytes ≡ false
    unfolding misframed_call
    message-framed = rw (some-message.0, some-message.1)

    pub message-first : byte_at bytes 0 ≡ 0x11
    message-first = eqb-true (byte_at bytes 0) 0x11 some-message.1

    pub message-there : message_at ≤ length bytes
    message-there = message-whole bytes message-framed (byte_at bytes 0) refl message-first

  module _ (h : Some call.Submit ≡ whole_call bytes) where
    some-submit : (ltb (length bytes) (call_length bytes) ≡ false) × (is_message bytes ≡ false) × (is_submit bytes ≡ true)
    unfolding whole_call call_of
    some-submit =
        let w = whole-some (ltb (length bytes) (call_length bytes)) (picked (is_message bytes) (is_submit bytes)) call.Submit (sym h) in
        let p = picked-submit (is_message bytes) (is_submit bytes) w.1 in
        (w.0, p.0, p.1)

    pub submit-framed : misframed_call bytes ≡ false
    unfolding misframed_call
    submit-framed = rw (some-submit.0, some-submit.1, some-submit.2)

    pub submit-first : byte_at bytes 0 ≡ 0x11 → ⊥
    submit-first = eqb-false (byte_at bytes 0) 0x11 some-submit.1

    pub submit-there : own_signature_at ≤ length bytes
    submit-there = submit-whole bytes submit-framed (byte_at bytes 0) refl submit-first

-- ---- the line

module _ (bytes : List ℕ) (number written : ℕ) (line' : Line) where
  pub line_none : length bytes ≡ 0 → line' ≡ in_space [] → line' ≡ in_space (line_for bytes number written)
  unfolding line_for
  line_none h e = rw (h, e)

  pub line_some : (length bytes ≡ 0 → ⊥) → line' ≡ in_space (line number written) → line' ≡ in_space (line_for bytes number written)
  unfolding line_for
  line_some h e = rw (ne_eqb (length bytes) 0 h, e)

pub begun-told : (bytes : List ℕ) (o : Opened) (line' : Line) → o ≡ opened bytes → line' ≡ in_space (line_for bytes o.number 0)
    → record { ends = not (eqb o.number 0); unit = o.unit; line = line' } ≡ told (begun bytes)
unfolding begun told
begun-told bytes o line' e f = rw (f, e)

-- ---- the returns

module _ (checks : List ℕ → ℕ → Checks) (keys : List ℕ) (r : Record) (store out bytes : List ℕ) where
  abbrev outcome : Outcome
  outcome = called checks keys r store out bytes

  abbrev Promised : Answer → List ℕ → List ℕ → Type 0
  Promised t store' out' =
      ((t ≡ told outcome) × Fits t.line) × (store' ≡ outcome.store) × (out' ≡ out_after outcome.written out)

  pub called_misframed : misframed_call bytes ≡ true → (line' : Line) → (line' ≡ in_space (line_for bytes 9 0)) × Fits line'
      → Promised (record { ends = true; unit = r; line = line' }) store out
  unfolding called told out_after
  called_misframed m line' e = rw m ((rw e.0, e.1), refl, sym (patch-nothing out))

  module _ (m : misframed_call bytes ≡ false) (b : ℕ) (e : b ≡ byte_at bytes 0) (a : Stepped) (t : Answer) (f : (t ≡ told_call a) × Fits t.line)
      (store' out' : List ℕ) where
    pub called-message : b ≡ 0x11 → (message : List ℕ) → message ≡ take (length bytes - message_at) (drop message_at bytes)
        → a ≡ answer (step (checks keys r.round) keys r store message out)
        → store' ≡ (step (checks keys r.round) keys r store message out).store
        → out' ≡ out_after (step (checks keys r.round) keys r store message out).written out
        → Promised t store' out'
    unfolding called told told_call answer
    called-message h message w p q s = rw (m, ← e, eq-eqb b 0x11 h, q, s, w, take_rest message_at bytes) ((rw (f.0, p, w, take_rest message_at bytes), f.1), refl, refl)

    pub called-submit : (b ≡ 0x11 → ⊥) → (value signature : List ℕ) → value ≡ take value_length (drop own_value_at bytes) → signature ≡ take (length bytes - own_signature_at) (drop own_signature_at bytes)
        → a ≡ answer (submit (checks keys r.round) keys r store value signature out)
        → store' ≡ (submit (checks keys r.round) keys r store value signature out).store
        → out' ≡ out_after (submit (checks keys r.round) keys r store value signature out).written out
        → Promised t store' out'
    unfolding called told told_call answer part
    called-submit h value signature v w p q s =
        rw (m, ← e, ne_eqb b 0x11 h, q, s, v, w, take_rest own_signature_at bytes) ((rw (f.0, p, v, w, take_rest own_signature_at bytes), f.1), refl, refl)
