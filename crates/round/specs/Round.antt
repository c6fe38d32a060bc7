-- "A round as a whole" (document 01), sentence by sentence, for units that may lose power (document 02, item 2) and join packs (item 5).
-- Assumes nothing.
use Rattle.std.specs.Prelude.{ℕ, ◌≤◌, ◌≡◌, true, false, ◌⊎◌, ◌≢◌, length, take}
use mathlib.Core.List.{List, [], ◌∷◌, ◌++◌, map, Memᴰ}
use Rattle.protocol.specs.Layout.{store_length, out_length}
pub use Rattle.protocol.specs.Entries.{Each}
use Rattle.protocol.specs.Message.{Message, Notice, Full, Signed, Entry, render, render_all, read, signed, entry_seats, WellFormed}
use Rattle.protocol.specs.Refusals.{Checks, is_evidence}
use Rattle.protocol.specs.Calls.{Result, out_after, opening, submit, step, answer, Making, making, made, joining, evidence_check, write_note, read_note}
use Rattle.protocol.specs.declared.Record.{Record}

-- ---- calls

-- "A call in it is a submit, or a step by value or through the thin entry, .. given any bytes as message, or as value and
-- signature, and any out buffer."
pub data Call : Type 0 where
  BySubmit : (value signature out : List ℕ) → Call
  ByStep : (bytes out : List ℕ) → Call
  ByThinEntry : (bytes out : List ℕ) → Call

-- "All lists have the same n, round and key table"; and a signature "checks for a seat over a layout" by one check, any
pub record Setting : Type 0 where
  pub n : ℕ
  pub round : ℕ
  pub keys : List ℕ
  pub checks : Checks

-- a call in a list, with the record and the store that it gets
pub record Called : Type 0 where
  pub given : Call
  pub unit : Record
  pub store : List ℕ

module _ (S : Setting) where
  open S use {keys, checks}

  -- "each doing what these papers say of it": result of a call with a record and a store
  unfoldable pub outcome : Call → Record → List ℕ → Result
  outcome (BySubmit value signature out) r store = submit checks keys r store value signature out
  outcome (ByStep bytes out) r store = step checks keys r store bytes out
  outcome (ByThinEntry bytes out) r store = step checks keys r store bytes out

  abbrev pub result_of : Called → Result
  result_of c = outcome c.given c.unit c.store

-- ---- messages written

-- "the bytes that a call's answer counts": that many bytes at the start of out, as the call leaves it
abbrev pub counted : ℕ → List ℕ → List ℕ → List ℕ
counted count written out = take count (out_after written out)

abbrev pub out_of : Call → List ℕ
out_of (BySubmit value signature out) = out
out_of (ByStep bytes out) = out
out_of (ByThinEntry bytes out) = out

-- the bytes are these messages, one after another, each as the documents lay it out
abbrev pub Are : ℕ → List ℕ → List Message → Type 0
Are n bytes ms = Each (WellFormed n) ms × (bytes ≡ render_all ms)

-- the message stands in the bytes
abbrev pub StandsIn : ℕ → Message → List ℕ → Type 0
StandsIn n m bytes = (ms : List Message) × Are n bytes ms × Memᴰ m ms

-- "Written is what stands in the bytes that a call's answer counts."
abbrev pub written_in : Setting → Called → List ℕ
written_in S c = counted (answer (result_of S c)).written (result_of S c).written (out_of c.given)

-- the bytes that calls write, one after another
unfoldable pub written_over : Setting → List Called → List ℕ
written_over S [] = []
written_over S (c ∷ cs) = written_in S c ++ written_over S cs

-- ---- the lists

-- a note and a store, kept together: "both of them or neither"
pub record Saved : Type 0 where
  pub note : List ℕ
  pub store : List ℕ

-- Event in a unit's round. Document 01's lists have `Makes` alone.
pub data Event : Type 0 where
  -- a call
  Makes : Call → Event
  -- "The host keeps the note and the store": the record is written out as a note, to any out buffer
  Keeps : (out : List ℕ) → Event
  -- A message that a call of the unit wrote is sent. Evidence made from what is in hand, and messages of others passed on, stand outside
  -- the lists.
  Sends : Message → Event
  -- power is lost, and the unit is brought back from a note and a store
  ComesBack : Saved → Event
  -- power is lost, and the unit is opened again, with a store holding any bytes
  OpensAgain : (store : List ℕ) → Event

-- what is done with two things in hand: evidence is made from two certificates, or two packs are joined (document 02, item 5)
pub data Work : Type 0 where
  Make Join : Work

-- "Making evidence from what is in hand, and the evidence check, touch no record and stand outside the lists": what is done, the two
-- certificates or packs, and any out buffer. A power cut takes none of them away. The claims are for any list of them.
pub record InHand : Type 0 where
  pub work : Work
  pub a : List ℕ
  pub b : List ℕ
  pub out : List ℕ

-- a unit in its round: "Every honest unit has one list, of any length. It starts .. from a store holding any bytes."
pub record Boat : Type 0 where
  pub seat : ℕ
  pub store : List ℕ
  pub events : List Event
  pub in_hand : List InHand

-- A unit at a moment of its round: its record and store; the notes and stores kept, newest first; and the calls that count, each with the
-- record and the store that it got: those made before the newest note, and those made since.
pub record Moment : Type 0 where
  pub unit : Record
  pub store : List ℕ
  pub saved : List Saved
  pub noted : List Called
  pub since : List Called

-- the note that is written of a record
abbrev pub note_of : Record → List ℕ → List ℕ
note_of r out = counted (made (write_note r out)).written (write_note r out).written out

module _ (S : Setting) where
  open S use {n, round, keys}

  -- "It starts from the record that an opening at its seat gave"
  unfoldable pub begins : Boat → Moment
  begins u = record { unit = (opening n u.seat round keys).unit; store = u.store; saved = []; noted = []; since = [] }

  -- the moment after an event; the number is the unit's seat
  unfoldable pub after : ℕ → Moment → Event → Moment
  -- "Each gets the record that came out of the call before it and the store as that call left it; in between nobody else writes
  -- either."
  after seat m (Makes c) =
      let result = outcome S c m.unit m.store in
      record { unit = result.unit; store = result.store; saved = m.saved; noted = m.noted; since = m.since ++ record { given = c; unit = m.unit; store = m.store } ∷ [] }
  after seat m (Keeps out) =
      record { unit = m.unit; store = m.store; saved = record { note = note_of m.unit out; store = m.store } ∷ m.saved; noted = m.noted ++ m.since; since = [] }
  after seat m (Sends message) = m
  -- "the calls made after that note count as never made, and what they were given as never having reached it"
  after seat m (ComesBack saved) = record { unit = (read_note saved.note).unit; store = saved.store; saved = m.saved; noted = m.noted; since = [] }
  -- before the first note: nothing was sent, so the calls made count as never made, and the opening is this one
  after seat m (OpensAgain store) = record { unit = (opening n seat round keys).unit; store = store; saved = m.saved; noted = m.noted; since = [] }

  unfoldable pub after_all : ℕ → Moment → List Event → Moment
  after_all seat m [] = m
  after_all seat m (e ∷ es) = after_all seat (after seat m e) es

  -- the unit after its events
  abbrev pub now_of : Boat → Moment
  now_of u = after_all u.seat (begins u) u.events

  -- The calls that count, in their order: a unit's list.
  abbrev pub list_of : Boat → List Called
  list_of u = (now_of u).noted ++ (now_of u).since

  -- what an honest unit's host does at a moment
  abbrev pub Allowed : Moment → Event → Type 0
  Allowed m (Makes c) = Unit {0}
  -- a note that is refused isn't kept
  Allowed m (Keeps out) = (write_note m.unit out).refusal ≡ 0
  -- "The host keeps the note and the store, both of them or neither, before it sends anything.": a call before the newest note wrote it
  Allowed m (Sends message) = (c : Called) × Memᴰ c m.noted × StandsIn n message (written_in S c)
  -- "from its newest note and the store kept with it"; "One brought back from an older note, or with another store, isn't honest."
  Allowed m (ComesBack saved) = (older : List Saved) × (m.saved ≡ saved ∷ older)
  -- "opened once": while no note is kept nothing was sent, and the openings before this one count as never made
  Allowed m (OpensAgain store) = m.saved ≡ []

  unfoldable pub AllowedAll : ℕ → Moment → List Event → Type 0
  AllowedAll seat m [] = Unit {0}
  AllowedAll seat m (e ∷ es) = Allowed m e × AllowedAll seat (after seat m e) es

  -- an honest unit: opened "without a refusal", and its host does what it must
  pub record IsHonest (u : Boat) : Type 0 where
    pub opened : (opening n u.seat round keys).number ≡ 0
    pub allowed : AllowedAll u.seat (begins u) u.events

  -- "and each its own seat. No order between calls of different units is assumed.": all that is asked of the honest units
  pub record Family {I : Type 0} (boat : I → Boat) : Type 0 where
    pub honest : (i : I) → IsHonest (boat i)
    pub apart : (i j : I) → i ≢ j → (boat i).seat ≢ (boat j).seat

-- the unit sends the message
abbrev pub Sent : Boat → Message → Type 0
Sent u m = Memᴰ (Sends m) u.events

-- a unit that makes these calls and nothing else
abbrev pub unbroken : ℕ → List ℕ → List Call → List InHand → Boat
unbroken seat store calls in_hand = record { seat = seat; store = store; events = map Makes calls; in_hand = in_hand }

-- a list without power cuts: calls one after another from a record and a store
unfoldable pub list_from : Setting → Record → List ℕ → List Call → List Called
list_from S r store [] = []
list_from S r store (c ∷ cs) =
    record { given = c; unit = r; store = store } ∷ list_from S (outcome S c r store).unit (outcome S c r store).store cs

-- ---- messages that a unit writes, and messages that have reached it

-- the call is a step, by value or through the thin entry, given these bytes and this out
abbrev pub IsStep : Call → List ℕ → List ℕ → Type 0
IsStep c bytes out = (c ≡ ByStep bytes out) ⊎ (c ≡ ByThinEntry bytes out)

module _ (S : Setting) where
  open S use {n}

  -- a call in the unit's list writes the message
  pub record Writes (u : Boat) (m : Message) : Type 0 where
    pub call : Called
    pub in_list : Memᴰ call (list_of S u)
    pub stands : StandsIn n m (written_in S call)

  -- "A unit submits a layout when a submit in its list isn't refused and carries it"
  pub record Submits (u : Boat) (layout : List ℕ) : Type 0 where
    pub call : Called
    pub in_list : Memᴰ call (list_of S u)
    pub signature : List ℕ
    pub out : List ℕ
    pub carries : call.given ≡ BySubmit layout signature out
    pub unrefused : (result_of S call).refusal ≡ 0

  -- "and confirms the one in the NOTICE that a call in its list writes."
  abbrev pub Confirms : Boat → List ℕ → Type 0
  Confirms u layout = (ρ seat : ℕ) × Writes u (Notice ρ seat layout)

  -- "its list has .. a step given exactly its bytes"
  pub record StepGiven (u : Boat) (bytes : List ℕ) : Type 0 where
    pub call : Called
    pub in_list : Memᴰ call (list_of S u)
    pub out : List ℕ
    pub is_step : IsStep call.given bytes out

  -- "with store and out of the stated lengths or more."
  pub record Reached (u : Boat) (bytes : List ℕ) : Type 0 where
    pub step : StepGiven u bytes
    pub store_room : store_length n ≤ length step.call.store
    pub out_room : out_length n ≤ length step.out

  -- "Its notice is that NOTICE, and its full certificate the FULL that such a call writes. These have reached another honest
  -- unit": whatever NOTICE and FULL the one wrote
  pub record HaveReached (u other : Boat) : Type 0 where
    pub notice : (ρ seat : ℕ) (layout : List ℕ) → Writes u (Notice ρ seat layout) → Reached other (render (Notice ρ seat layout))
    pub full : (ρ sender : ℕ) (layout : List ℕ) (entries : List Entry) → Writes u (Full ρ sender layout entries)
        → Reached other (render (Full ρ sender layout entries))

-- ---- evidence

-- a relation between a seat, a layout and a signature
abbrev pub Relation : Type 1
Relation = ℕ → List ℕ → List ℕ → Type 0

-- the relation holds of every signature in a message, with the seat and the layout that the signature stands for there
abbrev pub EachSigned : Relation → Message → Type 0
EachSigned R m = Each (λ (s : Signed). R s.seat s.value s.signature) (signed m)

module _ (S : Setting) where
  open S use {n, round, keys, checks}

  -- "Evidence is written by a call in a list"
  pub record WritesEvidence (u : Boat) (evidence : List ℕ) : Type 0 where
    pub message : Message
    pub kind : is_evidence message ≡ true
    pub bytes : evidence ≡ render message
    pub writes : Writes S u message

  -- "the first pack a unit writes in a submit or a step" (document 02, item 3): no EVIDENCE stands before it in what its list writes
  pub record WritesFirst (u : Boat) (evidence : List ℕ) : Type 0 where
    pub written : WritesEvidence u evidence
    pub before : List Message
    pub later : List Message
    pub are : Are n (written_over S (list_of S u)) (before ++ written.message ∷ later)
    pub none : Each (λ (m : Message). is_evidence m ≡ false) before

  -- "or made or joined by an honest unit, with this n, round and key table, from what it has in hand.": the result of either call
  abbrev pub worked : Work → List ℕ → List ℕ → List ℕ → Making
  worked Make a b out = making checks n round keys a b out
  worked Join a b out = joining checks n round keys a b out

  abbrev pub handled : InHand → Making
  handled h = worked h.work h.a h.b h.out

  -- the bytes that it writes
  abbrev pub making_of : InHand → List ℕ
  making_of h = counted (made (handled h)).written (handled h).written h.out

  pub record MakesEvidence (u : Boat) (evidence : List ℕ) : Type 0 where
    pub hand : InHand
    pub has : Memᴰ hand u.in_hand
    pub message : Message
    pub kind : is_evidence message ≡ true
    pub bytes : evidence ≡ render message
    pub stands : StandsIn n message (making_of hand)

  -- "what an honest unit makes or joins evidence from"
  pub record MadeFrom (u : Boat) (bytes : List ℕ) : Type 0 where
    pub hand : InHand
    pub has : Memᴰ hand u.in_hand
    pub either : (bytes ≡ hand.a) ⊎ (bytes ≡ hand.b)

  -- "A signature is delivered for a seat over a layout when it stands, where a command puts that seat's over that layout, in
  -- what a step in a list is given or in what an honest unit makes or joins evidence from."
  pub record Delivered {I : Type 0} (boat : I → Boat) (seat : ℕ) (layout signature : List ℕ) : Type 0 where
    pub to : I
    pub bytes : List ℕ
    pub given : StepGiven S (boat to) bytes ⊎ MadeFrom (boat to) bytes
    pub stands : Memᴰ (record { seat = seat; value = layout; signature = signature }) (signed (read n bytes))

  -- "A unit accepts evidence when the evidence check, given this n, round and key table, doesn't refuse it."
  abbrev pub Accepted : List ℕ → Type 0
  Accepted evidence = (evidence_check checks n round keys evidence).number ≡ 0

  -- "It is accepted from delivered signatures when each one in it is delivered for its entry's seat over the layout it stands
  -- for there."
  abbrev pub AcceptedFrom : Relation → List ℕ → Type 0
  AcceptedFrom R evidence = Accepted evidence × EachSigned R (read n evidence)

  -- "It names the seats of its entries; they stand in it."
  abbrev pub Names : List ℕ → ℕ → Type 0
  Names evidence seat = Memᴰ seat (entry_seats (read n evidence))
