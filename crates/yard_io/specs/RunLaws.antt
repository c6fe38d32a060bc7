-- Laws of the commands that the program reads, one after another.
-- Assumes nothing.
use Rattle.std.specs.Prelude.{◌≡◌, true, false, List, [], ℕ, length, take}
use Rattle.std.proofs.Common.{sym, ◌∙◌}
use Rattle.protocol.specs.declared.Record.{Record}
use Rattle.yard.specs.Commands.{keys_of, yard_store, yard_out, begun}
use Rattle.yard.specs.Run.{begins, follows, stops, goes}
use Rattle.yard_io.specs.declared.Taken.{Taken}
use Rattle.yard_io.specs.Run.{First, Later, Commands, AfterCalls, AfterRun}

pub commands_none : {keys store out : List ℕ} {r : Record} → Commands false keys r store out r store out
commands_none = record { input = []; lines = []; reached = begins }

pub commands-more : {keys store₀ out₀ store out input store' out' : List ℕ} {r₀ r : Record} {t : Taken}
    → Commands false keys r₀ store₀ out₀ r store out → length out ≡ length out₀ → Later keys r store out t input store' out'
    → Commands t.ends keys r₀ store₀ out₀ t.unit store' out'
commands-more {input = input} {t = t} h e l =
    rw (l.ends, l.unit, l.stored, l.written) (record { input = _; lines = _; reached = follows h.reached e (take t.have input) l.command.alone })

pub commands-on : {keys store₀ out₀ store out input store' out' : List ℕ} {r₀ r : Record} {t : Taken}
    → t.ends ≡ false → Commands false keys r₀ store₀ out₀ r store out → length out ≡ length out₀ → Later keys r store out t input store' out'
    → Commands false keys r₀ store₀ out₀ t.unit store' out'
commands-on e h l m = rw e at (commands-more h l m)

module _ {t : Taken} {input : List ℕ} (f : First t input) where
  pub first_stops : t.ends ≡ true → AfterRun t.unit
  first_stops h =
      rw f.unit (record { input = _; lines = _; ends = _; ran = stops (take t.have input) f.command.alone (sym f.ends ∙ h) })

  pub first_goes : {keys store out store' out' : List ℕ} {last : Record} → t.ends ≡ false → keys ≡ keys_of (take t.have input) → store ≡ yard_store → out ≡ yard_out
      → AfterCalls keys t.unit store out last store' out' → AfterRun last
  unfolding begun
  first_goes h k s o c =
      record { input = _; lines = _; ends = _; ran = goes (take t.have input) f.command.alone (sym f.ends ∙ h) (rw (k, s, o, f.unit) at c.commands.reached) }
