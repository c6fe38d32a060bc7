-- The claim: over the list of any honest unit, the engine does exactly what the paper's machine does. (`Happens` shows which calls
-- are the machine's events.)
-- Assumes nothing.
use Rattle.std.specs.Prelude.{ℕ, ◌↔◌}
use Rattle.std.proofs.Common.{◌∙◌}
use mathlib.Core.List.{List, Memᴰ}
use Rattle.protocol.specs.Message.{Entry, Pair, PackForm, Message, Full, Evidence}
use Rattle.round.specs.Round.{Setting, IsHonest, Each, Boat, written_in, Are, list_of, Writes}
use Rattle.reading.specs.Messages.{messages}
use Rattle.claims.specs.Sound.{Any}
use Rattle.protocol.specs.Record.{InRange}
use Rattle.claims.specs.Journey.{any-worthy}
use Rattle.claims.specs.Opened.{start_of, opened-range, opened-fresh}
use Rattle.claims.specs.Units.{by_unbroken, written_are}
use Rattle.paper.specs.Machine.{init, Event, Action, Says}
use Rattle.paper.specs.Events.{DoesAs, actions_over, TakenIn}
use Rattle.paper.specs.Received.{Collected, IsSubmitted, Came, Received}
use Rattle.paper.specs.Based.{Sendable, init_based, full_from, evidence_from_lem}
use Rattle.paper.specs.Along.{does_as, init-recorded, init-mirrors, init-rest, over-list}

-- For any honest unit, with any signature check, any store and any out buffers. Where it loses power, the machine sees the calls that count
-- (`Round: list_of`) and no others.
module _ (S : Setting) (u : Boat) (honest : IsHonest S u) where
  open S use {n, round, checks}

  -- the machine's actions over the list
  abbrev pub actions : List Action
  actions = actions_over S u.seat init (list_of S u)

  -- an event of the list that isn't refused
  abbrev pub Took : Event → Type 0
  Took = TakenIn S (list_of S u)

  range : InRange n u.seat round
  range = opened-range S u honest

  along : DoesAs S u.seat init (list_of S u) × Each (Sendable checks n u.seat Took range.some range.seated) actions
  along =
      let some-seats = range.some in
      let inside = range.seated in
      by_unbroken S u honest
      (λ end left ts. Each (λ t. Memᴰ t (list_of S u)) ts → Each (λ t. Are n (written_in S t) (messages S t)) ts
      → DoesAs S u.seat init ts × Each (Sendable checks n u.seat Took some-seats inside) (actions_over S u.seat init ts))
      (λ store cs. does_as S u.seat some-seats inside (list_of S u) (start_of S u honest) store cs init (opened-fresh S u honest ∙ init-recorded S u.seat some-seats inside)
      (init-mirrors S u.seat some-seats inside store)
      (init-rest S u.seat some-seats inside)
      (init_based checks n u.seat Took some-seats inside))
      (λ t d. d)
      (λ t d. written_are S u honest Any (any-worthy S (list_of S u)) t d)

  -- At each call the engine writes exactly what the paper's machine, which forgets nothing, broadcasts or detects at that call; and its
  -- record and store, before and after, are those of the machine's state. So the engine's short memory loses nothing.
  pub does_as_the_paper : DoesAs S u.seat init (list_of S u)
  does_as_the_paper = along.0

  -- Over the whole list: a message is written (`Writes`, as in demand 3's claim) exactly where it is the message of an action of the machine.
  pub writes_what_the_paper_does : (m : Message) → Writes S u m ↔ ((a : Action) × Memᴰ a actions × Says round u.seat a m)
  writes_what_the_paper_does m =
      let both = over-list S u.seat m init (list_of S u) does_as_the_paper (λ a d. (along.1 a d).1) in (
        λ w. both.0 (w.call, w.in_list, w.stands),
        λ a. let w = both.1 a in record { call = w.0; in_list = w.1; stands = w.2 },
      )

  -- Everything sent was received, by a call of the list that isn't refused. As the list is any, what a call sends was received by then.
  pub sends_what_it_received : Each (Received u.seat Took) actions
  sends_what_it_received a d = (along.1 a d).0

  -- In the bytes: every signature in a FULL that the unit writes was collected for its seat over that value.
  pub full_received : (ρ sender : ℕ) (value : List ℕ) (es : List Entry) → Writes S u (Full ρ sender value es)
      → IsSubmitted u.seat Took value × Each (λ (e : Entry). Collected u.seat Took e.seat value e.signature) es
  full_received ρ sender value es w = let a = (writes_what_the_paper_does (Full ρ sender value es)).0 w in full_from u.seat round Took ρ sender value es a.0 a.2 (sends_what_it_received a.0 a.1)

  -- In the bytes: the two signatures of every pair in an EVIDENCE came for their seat, over the pair's lower value and over its higher.
  pub evidence_received : (ρ : ℕ) (form : PackForm) (ps : List Pair) → Writes S u (Evidence ρ form ps)
      → Each (λ (p : Pair). Came u.seat Took p.seat p.lower_value p.lower × Came u.seat Took p.seat p.higher_value p.higher) ps
  evidence_received ρ form ps w = let a = (writes_what_the_paper_does (Evidence ρ form ps)).0 w in evidence_from_lem u.seat round Took ρ form ps a.0 a.2 (sends_what_it_received a.0 a.1)
