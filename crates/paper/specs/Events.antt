-- The calls of a list as the machine's events, and its reaction to each.
-- Assumes nothing.
use Rattle.std.specs.Prelude.{ℕ, ◌≤◌, ◌<◌, ◌≡◌, Bool, true, false, cond, ◌||◌, eqb, length}
use mathlib.Core.List.{List, [], ◌∷◌, ◌++◌, Memᴰ}
use Rattle.std.proofs.Math.Option.{Option, none, some}
use Rattle.refusal.specs.Refusal.{unrefused}
use Rattle.protocol.specs.Layout.{value_length, signature_length, store_length, out_length}
use Rattle.protocol.specs.Message.{Message, Submit, Notice, Full, Evidence, Garbled, read, round_of, entry_seats, seats_of}
use Rattle.protocol.specs.Refusals.{Checks, is_for_step, rising}
use Rattle.round.specs.Round.{Setting, Each, Call, BySubmit, ByStep, ByThinEntry, IsStep, Called, result_of, written_in, Are}
use Rattle.paper.specs.Machine.{Machine, Event, Submitted, SubmitDelivered, NoticeDelivered, FullDelivered, Action, Reaction, react, SaysEach}
use Rattle.paper.specs.Memory.{Recorded}

-- event of a message delivered; EVIDENCE is none of the paper's, and no step takes it
unfoldable pub delivered : Message → Option Event
delivered (Submit ρ seat value signature) = some (SubmitDelivered seat value signature)
delivered (Notice ρ seat value) = some (NoticeDelivered value)
delivered (Full ρ sender value entries) = some (FullDelivered (record { value = value; entries = entries }))
delivered (Evidence ρ form entries) = none
delivered Garbled = none

-- Whether a step with this refusal number is an event. A message refused for a signature (14) is delivered all the same: the machine
-- has its own `if` for it. Every other refusal is document 01's own, and such a call is none of the paper's.
unfoldable pub is_delivered : ℕ → Bool
is_delivered refusal = eqb refusal 0 || eqb refusal 14

-- event of a call with its refusal number; a refused submit is none
unfoldable pub event_of : ℕ → ℕ → Call → Option Event
event_of n refusal (BySubmit value signature out) = unrefused refusal (some (Submitted value signature)) none
event_of n refusal (ByStep bytes out) = cond (is_delivered refusal) (delivered (read n bytes)) none
event_of n refusal (ByThinEntry bytes out) = cond (is_delivered refusal) (delivered (read n bytes)) none

unfoldable pub react_to : Checks → ℕ → ℕ → Option Event → Machine → Reaction
react_to checks n seat none m = record { machine = m; actions = [] }
react_to checks n seat (some e) m = react checks n seat e m

module _ (S : Setting) (seat : ℕ) where
  open S use {n, round, checks}

  -- the machine's reaction to a call
  unfoldable pub reaction : Called → Machine → Reaction
  reaction t m = react_to checks n seat (event_of n (result_of S t).refusal t.given) m

  -- At a call, with the machine in step:
  pub record AtCall (m : Machine) (t : Called) : Type 0 where
    -- the record and the store that it gets are those of the machine's state;
    pub gets : Recorded n seat round m t.unit t.store
    -- the bytes that it writes are the machine's actions at that event, each sent as its command, one after another. (`Are` says that
    -- they are these messages and no others: bytes are messages in one way only, `reading/specs/ReadingLaws: are_unique`.)
    pub sends : List Message
    pub writes : Are n (written_in S t) sends
    pub says : SaysEach round seat (reaction t m).actions sends
    -- the record and the store that it leaves are those of the machine's next state.
    pub leaves : Recorded n seat round (reaction t m).machine (result_of S t).unit (result_of S t).store

  -- the same at each call of a list
  abbrev pub DoesAs : Machine → List Called → Type 0
  DoesAs m [] = Unit {0}
  DoesAs m (t ∷ ts) = AtCall m t × DoesAs (reaction t m).machine ts

  -- the machine's actions over a list
  unfoldable pub actions_over : Machine → List Called → List Action
  actions_over m [] = []
  actions_over m (t ∷ ts) = (reaction t m).actions ++ actions_over (reaction t m).machine ts

-- an event of a call in the list that isn't refused
abbrev pub TakenIn : Setting → List Called → Event → Type 0
TakenIn S ts e = (t : Called) × Memᴰ t ts × ((result_of S t).refusal ≡ 0) × (event_of S.n 0 t.given ≡ some e)

-- ---- calls that are events

-- a submit without a cause for a refusal, by number: in a list every record is possible (4), and the opening has checked the key
-- table (5)
pub record FitSubmit (S : Setting) (seat : ℕ) (c : Called) (value signature : List ℕ) : Type 0 where
  pub out : List ℕ
  pub is_submit : c.given ≡ BySubmit value signature out
  -- 6
  pub store_room : store_length S.n ≤ length c.store
  -- 7
  pub out_room : out_length S.n ≤ length out
  -- 8
  pub first : c.unit.own.submitted ≡ false
  -- 9
  pub sized_value : length value ≡ value_length
  pub sized_signature : length signature ≡ signature_length
  -- 14
  pub checked : S.checks seat value signature ≡ true

-- a step without a cause for a refusal other than signature (14)
pub record FitStep (S : Setting) (c : Called) (bytes : List ℕ) : Type 0 where
  pub out : List ℕ
  pub is_step : IsStep c.given bytes out
  -- 6
  pub store_room : store_length S.n ≤ length c.store
  -- 7
  pub out_room : out_length S.n ≤ length out
  -- 9: a SUBMIT, a NOTICE or a FULL
  pub for_step : is_for_step (read S.n bytes) ≡ true
  -- 10
  pub in_round : round_of (read S.n bytes) ≡ S.round
  -- 11
  pub inside : Each (λ s. s < S.n) (seats_of (read S.n bytes))
  -- 12
  pub rises : rising (entry_seats (read S.n bytes)) ≡ true
