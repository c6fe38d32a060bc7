-- An honest unit's list, the calls that count: it starts from the record with nothing set, and its calls write messages one after another.
-- Assumes nothing.
use Rattle.std.specs.Prelude.{◌≡◌, true, ℕ, ◌≤◌}
use Rattle.std.proofs.Common.{sym, ap, subst, ◌∙◌, arith}
use mathlib.Core.List.{List, [], Memᴰ}
use Rattle.protocol.specs.Message.{Pair, ValuesEach, Message, Submit, Notice, Full, Evidence, Garbled, read, WellFormed}
use Rattle.protocol.specs.Record.{last_round, InRange}
use Rattle.protocol.specs.Refusals.{Checks, is_evidence}
use Rattle.protocol.specs.Step.{State, stepped}
use Rattle.protocol.specs.declared.Record.{Record}
use Rattle.round.specs.Round.{Setting, IsHonest, Each, Relation, Call, Boat, Called, result_of, written_in, written_over, Are, StandsIn, list_from, now_of, list_of, Writes, StepGiven}
use Rattle.round.specs.Demand1.{worth, count}
use Rattle.reading.specs.ListsLaws.{worth_le_one, worth-true, true_of_worth, count_pos, count_member}
use Rattle.claims.specs.Sound.{Any, Mark, sets, flag_of, LargeFirst, Grows, Room, Settled, Pairs, Sound, Good}
use Rattle.claims.specs.CertificatesLaws.{entries-laid}
use Rattle.claims.specs.Parts.{grows_trans, good-grows}
use Rattle.claims.specs.Whole.{Brings}
use Rattle.claims.specs.NotRefused.{step-fit, brings}
use Rattle.reading.specs.ReadingLaws.{are_unique}
use Rattle.reading.specs.Messages.{messages, all_messages}
use Rattle.reading.specs.MessagesLaws.{step_is, unrefused-result, all_member, member_all, written_is, list_are}
use Rattle.claims.specs.Journey.{last_of, left_by, Worthy, any-worthy, At, Journey, journey}
use Rattle.claims.specs.Opened.{start_of, start-n, start-seat, start-round, start-unset, start-innocent, start-sound, start-settled}
use Rattle.claims.specs.Power.{list_is_unbroken}

-- ---- form of the messages that a unit writes

pub pairs-formed : (checks : Checks) (W : Relation) (n round : ℕ) (ps : List Pair) → round ≤ last_round → Pairs checks W n ps → WellFormed n (Evidence round ValuesEach ps)
pairs-formed checks W n round ps early z = (omega arith, tt, z.some, z.few, z.laid)

good-formed : (checks : Checks) (W : Relation) (r : Record) (m : Message) → InRange r.n r.seat r.round → Good checks W r m → WellFormed r.n m
good-formed checks W r (Submit ρ seat value signature) range g = (rw g.0.of_round (let e = range.dated in omega arith), g.0.sized, g.1.sized)
good-formed checks W r (Notice ρ seat value) range g = (rw g.of_round (let e = range.dated in omega arith), g.sized)
good-formed checks W r (Full ρ sender value es) range g =
    (rw g.0.of_round (let e = range.dated in omega arith), g.0.sized, g.1.many, entries-laid checks W r.n value es g.1)
good-formed checks W r (Evidence ρ form ps) range g = rw g.1 (pairs-formed checks W r.n ρ ps (rw g.0 range.dated) g.2)
good-formed checks W r Garbled range g = absurd g

-- ---- the unit

module _ (S : Setting) (u : Boat) (honest : IsHonest S u) where
  open S use {n, round, keys, checks}

  abbrev start : Record
  start = start_of S u honest

  -- the record that the unit has
  abbrev pub end_of : Record
  end_of = (now_of S u).unit

  abbrev ts : List Called
  ts = list_of S u

  -- a fact about every list without power cuts, its last record and its last store, is one about the unit's
  pub by_unbroken : (P : Record → List ℕ → List Called → Type 0) → ((store : List ℕ) (cs : List Call) → P (last_of S start store cs) (left_by S start store cs) (list_from S start store cs)) → P end_of (now_of S u).store ts
  by_unbroken P all =
      let c = list_is_unbroken S u honest in
      rw (c.unit, c.left, c.list) (all c.store c.calls)

  module _ (W : Relation) (w : Each (Worthy S W) ts) where
    pub trip : Journey S W start end_of (now_of S u).store ts
    trip =
        by_unbroken (λ end left ts. Each (Worthy S W) ts → Journey S W start end left ts) (λ store cs. journey S W start store cs (start-sound S u honest W store) (start-settled S u honest)) w

    module _ (t : Called) (d : Memᴰ t ts) where
      pub stop : At S W start t end_of
      stop = trip.at t d

      pub result-grows : Grows start (result_of S t).unit
      result-grows = grows_trans start t.unit (result_of S t).unit stop.since stop.after.grows

      -- form of the messages that the call writes
      messages-formed : Each (WellFormed n) (messages S t)
      messages-formed m e =
          subst (λ i. WellFormed i m) (result-grows.n ∙ start-n S u honest) (good-formed checks W (result_of S t).unit m stop.after.sound.range (stop.after.good m e))

      pub written_are : Are n (written_in S t) (messages S t)
      written_are = (messages-formed, written_is S t)

      -- a message in the bytes that the call writes is one of its messages
      stands-message : (m : Message) → StandsIn n m (written_in S t) → Memᴰ m (messages S t)
      stands-message m s =
          subst (λ ms. Memᴰ m ms) (are_unique n (written_in S t) s.0 (messages S t) s.1 written_are) s.2

      -- a message in these bytes is good at the end of the list too
      stands_good : (m : Message) → StandsIn n m (written_in S t) → Good checks W end_of m
      stands_good m s =
          good-grows checks W (result_of S t).unit end_of stop.before m (stop.after.good m (stands-message m s))

    pub end-n : end_of.n ≡ n
    end-n = trip.grows.n ∙ start-n S u honest

    pub end-seat : end_of.seat ≡ u.seat
    end-seat = trip.grows.seat ∙ start-seat S u honest

    pub end-round : end_of.round ≡ round
    end-round = trip.grows.round ∙ start-round S u honest

    -- a message that the list writes is one of its messages, and the other way round
    pub written_member : (m : Message) → Writes S u m → Memᴰ m (all_messages S ts)
    written_member m h = all_member S ts h.call m h.in_list (stands-message h.call h.in_list m h.stands)

    pub member_written : (m : Message) → Memᴰ m (all_messages S ts) → Writes S u m
    member_written m d =
        let h = member_all S ts m d in
        record { call = h.0; in_list = h.1; stands = (messages S h.0, written_are h.0 h.1, h.2) }

    -- how many messages of the list set a mark: one where the unit has it at the end, and none where it doesn't
    pub marked_at_end : (μ : Mark) → count (sets μ) (all_messages S ts) ≡ worth (flag_of μ end_of)
    marked_at_end μ = omega (arith, trip.counts.marked μ, start-unset S u honest μ)

    -- the first pack of the list names k − t0 seats or more, and without a pack no seat is guilty
    pub begun_at_end : LargeFirst n (all_messages S ts) × (count is_evidence (all_messages S ts) ≡ 0 → end_of.guilty ≡ 0)
    begun_at_end =
        let b = trip.counts.begun (start-innocent S u honest) in
        (subst (λ i. LargeFirst i (all_messages S ts)) end-n b.large, b.innocent)

    pub written_flag : (μ : Mark) (m : Message) → sets μ m ≡ true → Writes S u m → flag_of μ end_of ≡ true
    written_flag μ m is h =
        true_of_worth (flag_of μ end_of) (omega (arith, count_pos (sets μ) (all_messages S ts) m (written_member m h) is, marked_at_end μ, worth_le_one (flag_of μ end_of)))

    pub flag_written : (μ : Mark) → flag_of μ end_of ≡ true → (m : Message) × (sets μ m ≡ true) × Writes S u m
    flag_written μ e =
        let c = count_member (sets μ) (all_messages S ts) (omega (arith, marked_at_end μ, worth-true (flag_of μ end_of) e)) in
        (c.0, c.2, member_written c.0 c.1)

    pub writes-good : (m : Message) → Writes S u m → Good checks W end_of m
    writes-good m h = stands_good h.call h.in_list m h.stands

  -- all bytes that the list writes
  pub all_are : Are n (written_over S ts) (all_messages S ts)
  all_are = list_are S n ts (λ t d. written_are Any (any-worthy S ts) t d)

  -- a fact about the list's messages is one about every reading of these bytes
  pub by_messages : (P : List Message → Type 0) → P (all_messages S ts) → (ms : List Message) → Are n (written_over S ts) ms → P ms
  by_messages P p ms a = rw (are_unique n (written_over S ts) ms (all_messages S ts) a all_are) p

  -- a fact about the record after a step that isn't refused, by its message: where later calls keep it, it is one about the record that the
  -- unit has
  pub step_end : (bytes : List ℕ) (g : StepGiven S u bytes) → (result_of S g.call).refusal ≡ 0 → (m : Message) → read n bytes ≡ m → (P : Record → Type 0) → ((r r' : Record) → Grows r r' → P r → P r')
      → ((s : State) → Sound checks Any s.unit s.store → Room s → Settled s.unit → Brings checks Any s.unit m → P (stepped m s).unit) → P end_of
  step_end bytes g q m reads P grows f =
      let t = g.call in
      let r = t.unit in
      let s : State = record { unit = r; store = t.store; written = [] } in
      let at = stop Any (any-worthy S ts) t g.in_list in
      let is = step_is S t.given bytes g.out r t.store g.is_step in
      let result = unrefused-result S t q in
      let fit = step-fit checks keys r t.store bytes g.out (sym is.0 ∙ result.0) in
      let here : read r.n bytes ≡ m = ap (λ i. read i bytes) (at.since.n ∙ start-n S u honest) ∙ reads in
      let came : (result_of S t).unit ≡ (stepped m s).unit = result.1 ∙ ap (λ (x : State). x.unit) is.1 ∙ ap (λ x. (stepped x s).unit) here in
      grows (result_of S t).unit end_of at.before
      (subst P (sym came) (f s at.sound fit.lent.store_room at.settled (subst (Brings checks Any r) here (brings checks keys r t.store bytes g.out Any fit (λ x d. tt)))))
