-- The parts of a step only add to the messages written: the effect of a part on record and store, and its messages, are the same
-- whatever was written before it.
-- Assumes nothing.
use Rattle.std.specs.Prelude.{◌≡◌, refl, Bool, true, false, cond, List, ◌++◌, ℕ}
use Rattle.std.proofs.Common.{append_assoc}
use Rattle.protocol.specs.Message.{Message}
use Rattle.protocol.specs.Certificate.{Certificate, own_certificate}
use Rattle.protocol.specs.Record.{holds}
use Rattle.protocol.specs.Step.{State, write, hear, owes_full, send_full, reply, hold, blame, blames, hold_or_blame, hear_certificate, is_complete, confirm, hear_own, confirm_if_complete}

-- a state with messages written before its own
abbrev pub after : List Message → State → State
after ms s = record { unit = s.unit; store = s.store; written = ms ++ s.written }

pub after_cond : (ms : List Message) (b : Bool) (s t : State) → cond b (after ms s) (after ms t) ≡ after ms (cond b s t)
after_cond ms true s t = refl
after_cond ms false s t = refl

hear_after : (value : List ℕ) (ms : List Message) (s : State) → hear value (after ms s) ≡ after ms (hear value s)
unfolding hear
hear_after value ms s = refl

send_full_after : (ms : List Message) (s : State) → send_full (after ms s) ≡ after ms (send_full s)
unfolding send_full write
send_full_after ms s = rw append_assoc

pub reply_after : (ms : List Message) (s : State) → reply (after ms s) ≡ after ms (reply s)
unfolding reply
reply_after ms s = rw (send_full_after ms s) (after_cond ms (owes_full s.unit) (send_full s) s)

hold_after : (c : Certificate) (ms : List Message) (s : State) → hold c (after ms s) ≡ after ms (hold c s)
unfolding hold
hold_after c ms s = refl

blame_after : (c : Certificate) (ms : List Message) (s : State) → blame c (after ms s) ≡ after ms (blame c s)
unfolding blame write
blame_after c ms s = rw append_assoc

pub hold_or_blame_after : (c : Certificate) (ms : List Message) (s : State) → hold_or_blame c (after ms s) ≡ after ms (hold_or_blame c s)
unfolding hold_or_blame
hold_or_blame_after c ms s =
    rw (blame_after c ms s, hold_after c ms s, after_cond ms (blames c s.unit) (blame c s) s)
    (after_cond ms (holds s.unit) (cond (blames c s.unit) (blame c s) s) (hold c s))

hear_certificate_after : (c : Certificate) (ms : List Message) (s : State) → hear_certificate c (after ms s) ≡ after ms (hear_certificate c s)
unfolding hear_certificate
hear_certificate_after c ms s =
    rw (hear_after c.value ms s, reply_after ms (hear c.value s), hold_or_blame_after c ms (reply (hear c.value s)))

confirm_after : (ms : List Message) (s : State) → confirm (after ms s) ≡ after ms (confirm s)
unfolding confirm write
confirm_after ms s = rw append_assoc

pub hear_own_after : (ms : List Message) (s : State) → hear_own (after ms s) ≡ after ms (hear_own s)
unfolding hear_own
hear_own_after ms s = hear_certificate_after (own_certificate s.unit s.store) ms s

pub confirm_if_complete_after : (ms : List Message) (s : State) → confirm_if_complete (after ms s) ≡ after ms (confirm_if_complete s)
unfolding confirm_if_complete
confirm_if_complete_after ms s =
    rw (confirm_after ms s, hear_own_after ms (confirm s), reply_after ms s)
    (after_cond ms (is_complete s.unit) (hear_own (confirm s)) (reply s))
