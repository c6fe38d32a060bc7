-- Calls that are events: in a unit's list, every submit and every step for which document 01 has no refusal of its own. So a step that
-- refuses every message, say with 9, doesn't meet this.
-- Assumes nothing.
use Rattle.std.specs.Prelude.{ℕ, ◌≤◌, ◌<◌, ◌≡◌, Bool, true, length}
use Rattle.std.proofs.Math.Path.{sym, ap, subst}
use Rattle.std.proofs.Common.{◌∙◌, ⊎_elim}
use Rattle.std.proofs.Math.Bool.{cond}
use mathlib.Core.List.{List, Memᴰ}
use Rattle.std.proofs.Math.Option.{Option, none, some}
use Rattle.refusal.specs.Refusal.{unrefused}
use Rattle.protocol.specs.Layout.{store_length, out_length}
use Rattle.protocol.specs.Message.{read, round_of, entry_seats, seats_of}
use Rattle.protocol.specs.Refusals.{is_for_step, rising}
use Rattle.protocol.specs.Calls.{result_by, step}
use Rattle.round.specs.Round.{Setting, IsHonest, Each, Call, BySubmit, ByStep, ByThinEntry, Boat, Called, outcome, result_of, list_of}
use Rattle.claims.specs.UnrefusedLaws.{possible}
use Rattle.claims.specs.NotRefused.{Table, Lent, submit_not_refused}
use Rattle.claims.specs.Journey.{At, any-worthy}
use Rattle.claims.specs.Opened.{start_of, opened-fit, start-n, start-seat, start-round}
use Rattle.claims.specs.Units.{end_of, stop}
use Rattle.claims.specs.Sound.{Any}
use Rattle.paper.specs.Machine.{Event, Submitted}
use Rattle.paper.specs.Events.{delivered, is_delivered, event_of, FitSubmit, FitStep}
use Rattle.paper.specs.Discards.{fit-delivered}

module _ (S : Setting) (u : Boat) (honest : IsHonest S u) (c : Called) (in_list : Memᴰ c (list_of S u)) where
  open S use {n, round, keys, checks}

  at : At S Any (start_of S u honest) c (end_of S u honest)
  at = stop S u honest Any (any-worthy S (list_of S u)) c in_list

  size_is : c.unit.n ≡ n
  size_is = at.since.n ∙ start-n S u honest

  lent : (out : List ℕ) → store_length n ≤ length c.store → out_length n ≤ length out → Lent keys c.unit c.store out
  lent out store-room out-room = record {
    possible = possible checks Any c.unit c.store at.sound at.settled;
    table = subst (λ i. Table i keys) (sym size_is) (opened-fit S u honest).table;
    store_room = subst (λ i. store_length i ≤ length c.store) (sym size_is) store-room;
    out_room = subst (λ i. out_length i ≤ length out) (sym size_is) out-room;
  }

  -- the event of a call with this record and this store
  abbrev Happens : Call → Option Event → Type 0
  Happens g o = event_of n (outcome S g c.unit c.store).refusal g ≡ o

  submit_happens : (value signature : List ℕ) (f : FitSubmit S u.seat c value signature) → Happens (BySubmit value signature f.out) (some (Submitted value signature))
  unfolding outcome event_of unrefused
  submit_happens value signature f =
      let mine : c.unit.seat ≡ u.seat = at.since.seat ∙ start-seat S u honest in
      rw ((submit_not_refused checks keys c.unit c.store value signature f.out).1
      (record {
        lent = lent f.out f.store_room f.out_room;
        first = f.first;
        sized_value = f.sized_value;
        sized_signature = f.sized_signature;
        checked = subst (λ s. checks s value signature ≡ true) (sym mine) f.checked;
      }))

  pub submits_happen : (value signature : List ℕ) → FitSubmit S u.seat c value signature → event_of n (result_of S c).refusal c.given ≡ some (Submitted value signature)
  submits_happen value signature f = subst (λ (g : Call). Happens g (some (Submitted value signature))) (sym f.is_submit) (submit_happens value signature f)

  step-delivered : (bytes : List ℕ) (f : FitStep S c bytes) → is_delivered (step checks keys c.unit c.store bytes f.out).refusal ≡ true
  unfolding step result_by
  step-delivered bytes f =
      let in-round : c.unit.round ≡ round = at.since.round ∙ start-round S u honest in
      fit-delivered checks keys c.unit c.store (read c.unit.n bytes) f.out (lent f.out f.store_room f.out_room)
      (subst (λ i. is_for_step (read i bytes) ≡ true) (sym size_is) f.for_step)
      (subst (λ i. round_of (read i bytes) ≡ round) (sym size_is) f.in_round ∙ sym in-round)
      (subst (λ i. Each (λ s. s < i) (seats_of (read i bytes))) (sym size_is) f.inside)
      (subst (λ i. rising (entry_seats (read i bytes)) ≡ true) (sym size_is) f.rises)

  step_happens : (bytes : List ℕ) (f : FitStep S c bytes) → Happens (ByStep bytes f.out) (delivered (read n bytes)) × Happens (ByThinEntry bytes f.out) (delivered (read n bytes))
  unfolding outcome event_of
  step_happens bytes f = let d = ap (λ (b : Bool). cond b (delivered (read n bytes)) none) (step-delivered bytes f) in (d, d)

  pub steps_happen : (bytes : List ℕ) → FitStep S c bytes → event_of n (result_of S c).refusal c.given ≡ delivered (read n bytes)
  steps_happen bytes f =
      ⊎_elim (λ q. subst (λ (g : Call). Happens g (delivered (read n bytes))) (sym q) (step_happens bytes f).0) (λ q. subst (λ (g : Call). Happens g (delivered (read n bytes))) (sym q) (step_happens bytes f).1)
      f.is_step
