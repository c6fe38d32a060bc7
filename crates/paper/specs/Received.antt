-- The source of everything that the machine sends: the value was submitted, and every signature was received for its seat over its value.
-- Assumes nothing.
use Rattle.std.specs.Prelude.{ℕ, ◌≡◌, ◌⊎◌, ◌≢◌}
use mathlib.Core.List.{List, Memᴰ}
use Rattle.protocol.specs.Message.{Entry}
use Rattle.round.specs.Round.{Each}
use Rattle.paper.specs.Machine.{FullCertificate, Event, Submitted, SubmitDelivered, FullDelivered, Action, BroadcastSubmit, ConfirmAndNotice, BroadcastFull, Detect}

-- at a seat, with the events that have happened
module _ (own : ℕ) (Happened : Event → Type 0) where
  -- a signature for a seat over a value: the own one came with the submission, another's in a SUBMIT, before the submission or after
  -- it
  abbrev pub Collected : ℕ → List ℕ → List ℕ → Type 0
  Collected seat v signature = ((seat ≡ own) × Happened (Submitted v signature)) ⊎ Happened (SubmitDelivered seat v signature)

  -- the unit submitted the value
  abbrev pub IsSubmitted : List ℕ → Type 0
  IsSubmitted v = (signature : List ℕ) × Happened (Submitted v signature)

  -- a certificate of the unit's own
  pub record IsOwnFull (c : FullCertificate) : Type 0 where
    pub submitted : IsSubmitted c.value
    pub collected : Each (λ (e : Entry). Collected e.seat c.value e.signature) c.entries

  -- a certificate of the unit's own, or one that came in a FULL
  abbrev pub Obtained : FullCertificate → Type 0
  Obtained c = IsOwnFull c ⊎ Happened (FullDelivered c)

  -- a signature for a seat over a value that was collected, or came in a FULL
  abbrev pub Came : ℕ → List ℕ → List ℕ → Type 0
  Came seat v signature =
      Collected seat v signature
      ⊎ ((es : List Entry) × Happened (FullDelivered (record { value = v; entries = es })) × Memᴰ (record { seat = seat; signature = signature }) es)

  -- an action made of received values and signatures
  abbrev pub Received : Action → Type 0
  Received (BroadcastSubmit v signature) = Happened (Submitted v signature)
  Received (ConfirmAndNotice v) = IsSubmitted v
  Received (BroadcastFull c) = IsOwnFull c
  Received (Detect c d seats) = Obtained c × Obtained d × (c.value ≢ d.value)
