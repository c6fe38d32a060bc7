-- Submit and step once nothing is refused (document 01, "Steps"; document 02, items 1 and 3).
-- Assumes nothing.
use Rattle.std.specs.Prelude.{ℕ, zero, suc, Bool, true, false, cond, not, ◌&&◌, List, [], ◌∷◌, ◌++◌, ltb, eqb}
use Rattle.quorum.specs.Quorum.{k, has, size, union, shared, less, with, seats}
use Rattle.protocol.specs.Layout.{collected_bank, first_bank}
use Rattle.octets.specs.Strings.{same}
use Rattle.protocol.specs.Message.{Message, Submit, Notice, Full, Evidence, Garbled}
use Rattle.protocol.specs.Certificate.{Certificate, fill, fill_each, kept_value, kept_signature, fill_kept, own_certificate, first_certificate, certificate_in, full_of, evidence_of}
use Rattle.protocol.specs.Record.{with_own, with_confirmed, with_notices, with_first, with_sent, with_guilty, with_kept, none_heard, one_heard, holds}
use Rattle.protocol.specs.declared.Notices.{Notices}
use Rattle.protocol.specs.declared.Record.{Record}

-- state of a call: the record, the store, and the messages written so far
pub record State : Type 0 where
  pub unit : Record
  pub store : List ℕ
  pub written : List Message

-- the state with another record
abbrev pub with_unit : State → Record → State
with_unit s r = record { unit = r; store = s.store; written = s.written }

-- "Messages go to `out` one after another"
unfoldable pub write : Message → State → State
write m s = record { unit = s.unit; store = s.store; written = s.written ++ m ∷ [] }

-- ---- collect

-- a seat's signature over the own value is collected
unfoldable pub collect : ℕ → List ℕ → State → State
collect seat signature s = record {
  unit = with_own s.unit (record {
    submitted = s.unit.own.submitted;
    value = s.unit.own.value;
    collected = with seat s.unit.own.collected;
  });
  store = fill s.unit.n collected_bank seat signature s.store;
  written = s.written;
}

-- "the value kept"
unfoldable pub set_own_value : List ℕ → State → State
set_own_value value s = with_unit s (with_own s.unit (record { submitted = true; value = value; collected = s.unit.own.collected }))

-- "Submit: the own signature is checked like any other, the value kept, the signature collected, SUBMIT written."
unfoldable pub submit_own : List ℕ → List ℕ → State → State
submit_own value signature s =
    write (Submit s.unit.round s.unit.seat value signature) (collect s.unit.seat signature (set_own_value value s))

-- "SUBMIT heard: if not confirmed, the value is the own one and the seat is new, its signature is collected. Otherwise
-- nothing changes."
unfoldable pub is_wanted : ℕ → List ℕ → Record → Bool
is_wanted seat value r = not r.confirmed && same value r.own.value && not (has seat r.own.collected)

unfoldable pub collect_if_wanted : ℕ → List ℕ → List ℕ → State → State
collect_if_wanted seat value signature s = cond (is_wanted seat value s.unit) (collect seat signature s) s

-- ---- keep (document 02, item 1)

-- a seat's SUBMIT is kept: its value, and its signature over it
unfoldable pub keep : ℕ → List ℕ → List ℕ → State → State
keep seat value signature s = record {
  unit = with_kept s.unit (with seat s.unit.kept);
  store = fill_kept s.unit.n seat value signature s.store;
  written = s.written;
}

-- "the first good one from each seat is kept with its value"
unfoldable pub keep_if_first : ℕ → List ℕ → List ℕ → State → State
keep_if_first seat value signature s = cond (has seat s.unit.kept) s (keep seat value signature s)

-- "A SUBMIT heard before the own submit is now checked, and the first good one from each seat is kept with its value." One heard
-- after it is collected if it is wanted.
unfoldable pub hear_submit : ℕ → List ℕ → List ℕ → State → State
hear_submit seat value signature s =
    cond s.unit.own.submitted (collect_if_wanted seat value signature s) (keep_if_first seat value signature s)

-- "until k is reached": the seat is kept, and fewer than k are collected
unfoldable pub is_open_to : ℕ → Record → Bool
is_open_to seat r = has seat r.kept && ltb (size r.own.collected) (k r.n)

-- "kept ones of that value from other seats are collected": like a SUBMIT heard now. The own seat is collected already, and so
-- it isn't new.
unfoldable pub collect_kept_seat : ℕ → State → State
collect_kept_seat seat s =
    cond (is_open_to seat s.unit)
    (collect_if_wanted seat (kept_value s.unit.n s.store seat) (kept_signature s.unit.n s.store seat) s)
    s

-- "in rising seat order": the seats below a number
unfoldable pub collect_kept_below : ℕ → State → State
collect_kept_below zero s = s
collect_kept_below (suc seat) s = collect_kept_seat seat (collect_kept_below seat s)

-- "then the kept seats are empty"
unfoldable pub empty_kept : State → State
empty_kept s = with_unit s (with_kept s.unit 0)

-- "kept ones of that value from other seats are collected in rising seat order until k is reached; then the kept seats are empty"
unfoldable pub collect_kept : State → State
collect_kept s = empty_kept (collect_kept_below s.unit.n s)

-- ---- hear

-- "notices heard (none, one value, or two different, the first kept)", and now this value
unfoldable pub notices_with : List ℕ → Record → Notices
notices_with value r =
    cond (none_heard r) (record { heard = 1; value = value })
    (cond (one_heard r && not (same value r.notices.value)) (record { heard = 2; value = r.notices.value })
    r.notices)

-- "NOTICE heard: it updates notices heard."
unfoldable pub hear : List ℕ → State → State
hear value s = with_unit s (with_notices s.unit (notices_with value s.unit))

-- ---- reply

-- "a value heard that isn't its own"
unfoldable pub other_heard : Record → Bool
other_heard r = cond (none_heard r) false (cond (one_heard r) (not (same r.notices.value r.own.value)) true)

-- "Confirmed, FULL not sent, and a value heard that isn't its own"
unfoldable pub owes_full : Record → Bool
owes_full r = r.confirmed && not r.sent && other_heard r

-- "FULL is written from its own collected signatures."
unfoldable pub send_full : State → State
send_full s =
    write (full_of s.unit.n s.unit.round s.unit.seat (own_certificate s.unit s.store)) (with_unit s (with_sent s.unit))

-- the reply of every submit and step: FULL where it is owed
unfoldable pub reply : State → State
reply s = cond (owes_full s.unit) (send_full s) s

-- ---- hold or blame

-- "The first is held."
unfoldable pub hold : Certificate → State → State
hold c s = record {
  unit = with_first s.unit (record { value = c.value; seats = c.seats });
  store = fill_each s.unit.n first_bank c.signature (seats s.unit.n c.seats) s.store;
  written = s.written;
}

-- "those newly found" (document 02, item 3): the seats that a certificate shares with the first one held, less those guilty already
unfoldable pub found : Certificate → Record → ℕ
found c r = less (shared r.first.seats c.seats) r.guilty

-- "each certificate that conflicts with the first one held adds the seats that it shares, and EVIDENCE is written for those newly found"
unfoldable pub blame : Certificate → State → State
blame c s =
    write (evidence_of s.unit.n s.unit.round (found c s.unit) (first_certificate s.unit s.store) c)
    (with_unit s (with_guilty s.unit (union s.unit.guilty (found c s.unit))))

-- "that conflicts with the first one held": it has another value. "if any": there are seats newly found.
unfoldable pub blames : Certificate → Record → Bool
blames c r = not (same c.value r.first.value) && not (eqb (found c r) 0)

-- "The first is held." "From now on each certificate that conflicts with the first one held adds the seats that it shares, and EVIDENCE is
-- written for those newly found, if any." "Otherwise nothing more changes."
unfoldable pub hold_or_blame : Certificate → State → State
hold_or_blame c s = cond (holds s.unit) (cond (blames c s.unit) (blame c s) s) (hold c s)

-- "FULL heard: it counts as a notice for its value", and it is held or blames. The reply comes in between, since messages
-- go to `out` "in the order SUBMIT, NOTICE, FULL, EVIDENCE": it depends on nothing that holding or blaming changes.
unfoldable pub hear_certificate : Certificate → State → State
hear_certificate c s = hold_or_blame c (reply (hear c.value s))

-- ---- confirm

-- "k seats collected", and not yet confirmed
unfoldable pub is_complete : Record → Bool
is_complete r = not r.confirmed && eqb (size r.own.collected) (k r.n)

-- "the unit confirms, writes NOTICE"
unfoldable pub confirm : State → State
confirm s = write (Notice s.unit.round s.unit.seat s.unit.own.value) (with_unit s (with_confirmed s.unit))

-- "and treats its own certificate like one heard"
unfoldable pub hear_own : State → State
hear_own s = hear_certificate (own_certificate s.unit s.store) s

-- "k seats collected: the unit confirms, writes NOTICE, and treats its own certificate like one heard."
unfoldable pub confirm_if_complete : State → State
confirm_if_complete s = cond (is_complete s.unit) (hear_own (confirm s)) (reply s)

-- ---- the two calls

-- submit: value, signature. "At the own submit, after the own signature, kept ones .. are collected" (document 02, item 1)
unfoldable pub submitted : List ℕ → List ℕ → State → State
submitted value signature s = confirm_if_complete (collect_kept (submit_own value signature s))

-- a step, by its message; EVIDENCE and garbled bytes are refused before
unfoldable pub stepped : Message → State → State
stepped (Submit round seat value signature) s = confirm_if_complete (hear_submit seat value signature s)
stepped (Notice round seat value) s = reply (hear value s)
stepped (Full round sender value entries) s = hear_certificate (certificate_in (Full round sender value entries)) s
stepped (Evidence round form entries) s = s
stepped Garbled s = s
