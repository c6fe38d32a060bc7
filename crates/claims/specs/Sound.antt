-- The invariant of record and store along a list of calls, with a relation for stored signatures as a parameter; and the growth of
-- a record from call to call.
-- Assumes nothing.
use Rattle.std.specs.Prelude.{◌≡◌, Bool, true, false, cond, List, [], ◌∷◌, ◌++◌, map, ◌⊎◌, ◌≢◌, ℕ, ◌+◌, ◌^◌, ◌≤◌, ◌<◌, length}
use Rattle.quorum.specs.Quorum.{t0, k, In, has, size, shared}
use Rattle.protocol.specs.Record.{InRange}
use Rattle.protocol.specs.Layout.{value_length, signature_length, store_length, collected_bank, first_bank}
use Rattle.protocol.specs.Values.{unset}
use Rattle.protocol.specs.Message.{Entry, Pair, ValuesEach, Message, Submit, Notice, Full, Evidence, Garbled, evidence_form, entry_seats}
use Rattle.protocol.specs.Entries.{Laid}
use Rattle.protocol.specs.Certificate.{Certificate, slot, kept_value, kept_signature, set_of}
use Rattle.protocol.specs.Refusals.{Checks, is_full, is_evidence, rising, lower_first}
use Rattle.protocol.specs.Step.{State, owes_full}
use Rattle.protocol.specs.declared.Own.{Own}
use Rattle.protocol.specs.declared.Notices.{Notices}
use Rattle.protocol.specs.declared.First.{First}
use Rattle.protocol.specs.declared.Record.{Record}
use Rattle.round.specs.Round.{Each, Relation}
use Rattle.round.specs.Demand1.{is_submit, is_notice, worth, count}
use Rattle.round.specs.Culprits.{pack_names}

-- ---- growth of a record

-- the value is the one heard, or two values are heard
abbrev pub Heard : List ℕ → Record → Type 0
Heard value r = (r.notices.heard ≢ 0) × (r.notices.heard ≡ 1 → r.notices.value ≡ value)

-- A certificate was heard, by its value and its seats. One is held; it has the same value, or the seats that the two share are guilty.
abbrev pub Held : List ℕ → ℕ → Record → Type 0
Held value seats r =
    (r.first.seats ≢ 0) × ((r.first.value ≡ value) ⊎ ((s : ℕ) → In s r.first.seats → In s seats → In s r.guilty))

-- values said and heard, the first certificate held and the guilty seats stay
pub record Grows (r r' : Record) : Type 0 where
  pub n : r'.n ≡ r.n
  pub seat : r'.seat ≡ r.seat
  pub round : r'.round ≡ r.round
  pub said : r.own.submitted ≡ true → (r'.own.submitted ≡ true) × (r'.own.value ≡ r.own.value)
  pub heard : (value : List ℕ) → Heard value r → Heard value r'
  pub first : r.first.seats ≢ 0 → r'.first ≡ r.first
  pub guilty : (s : ℕ) → In s r.guilty → In s r'.guilty

-- ---- messages written

-- a record's marks for messages written: SUBMIT, NOTICE, FULL, and for each seat a pack that names it
pub data Mark : Type 0 where
  SUBMITTED CONFIRMED SENT : Mark
  NAMED : (seat : ℕ) → Mark

-- messages that set a mark
abbrev pub sets : Mark → Message → Bool
sets SUBMITTED m = is_submit m
sets CONFIRMED m = is_notice m
sets SENT m = is_full m
sets (NAMED seat) m = pack_names seat m

-- the record has the mark
abbrev pub flag_of : Mark → Record → Bool
flag_of SUBMITTED r = r.own.submitted
flag_of CONFIRMED r = r.confirmed
flag_of SENT r = r.sent
flag_of (NAMED seat) r = has seat r.guilty

-- number of seats that a message names, if it is a pack; and over messages, pack by pack
unfoldable pub pack_size : Message → ℕ
pack_size m = cond (is_evidence m) (size (set_of (entry_seats m))) 0

unfoldable pub pack_sizes : List Message → ℕ
pack_sizes [] = 0
pack_sizes (m ∷ ms) = pack_size m + pack_sizes ms

-- the first pack among messages names k − t0 seats or more
unfoldable pub LargeFirst : ℕ → List Message → Type 0
LargeFirst n [] = Unit {0}
LargeFirst n (m ∷ ms) = (is_evidence m ≡ true → k n ≤ pack_size m + t0 n) × (is_evidence m ≡ false → LargeFirst n ms)

-- messages written since a time when no seat was guilty: the first pack is as large as that, and while there is none no seat is guilty
pub record Begun (r : Record) (ms : List Message) : Type 0 where
  pub large : LargeFirst r.n ms
  pub innocent : count is_evidence ms ≡ 0 → r.guilty ≡ 0

-- from a record by messages to a record: a message is written exactly where its mark becomes set, and the packs name as many seats as
-- become guilty
pub record Counts (r : Record) (ms : List Message) (r' : Record) : Type 0 where
  pub marked : (μ : Mark) → count (sets μ) ms + worth (flag_of μ r) ≡ worth (flag_of μ r')
  pub named : pack_sizes ms + size r.guilty ≡ size r'.guilty
  pub begun : r.guilty ≡ 0 → Begun r' ms

-- the relation that holds of every signature
abbrev pub Any : Relation
Any seat value signature = Unit {0}

-- the store has the stated length or more
abbrev pub Room : State → Type 0
Room s = store_length s.unit.n ≤ length s.store

-- ---- notices heard, and flags

pub record Hearing (notices : Notices) : Type 0 where
  pub sized : length notices.value ≡ value_length
  pub few : notices.heard ≤ 2
  pub unheard : notices.heard ≡ 0 → notices.value ≡ unset

pub record Flags (n collected : ℕ) (is_confirmed is_sent : Bool) : Type 0 where
  pub full : is_confirmed ≡ true → size collected ≡ k n
  pub confirmed : is_sent ≡ true → is_confirmed ≡ true

-- ---- facts at the end of a call

pub record Settled (r : Record) : Type 0 where
  pub complete : size r.own.collected ≡ k r.n → r.confirmed ≡ true
  pub holds : r.confirmed ≡ true → Held r.own.value r.own.collected r
  pub owes : owes_full r ≡ false
  -- "then the kept seats are empty" (document 02, item 1)
  pub emptied : r.own.submitted ≡ true → r.kept ≡ 0

-- a message of the unit's own: its round, seat and value
pub record Said (r : Record) (ρ seat : ℕ) (value : List ℕ) : Type 0 where
  pub of_round : ρ ≡ r.round
  pub of_seat : seat ≡ r.seat
  pub of_value : value ≡ r.own.value
  pub submitted : r.own.submitted ≡ true
  pub sized : length value ≡ value_length

module _ (checks : Checks) (W : Relation) where
  -- ---- signatures

  -- a signature that a unit has taken: it checks, has its length, and the relation holds of it
  pub record Attested (seat : ℕ) (value signature : List ℕ) : Type 0 where
    pub checked : checks seat value signature ≡ true
    pub sized : length signature ≡ signature_length
    pub worthy : W seat value signature

  -- a certificate: k of n seats, each with a signature of its own over the value
  pub record Certifies (n : ℕ) (c : Certificate) : Type 0 where
    pub sized : length c.value ≡ value_length
    pub below : c.seats < 2 ^ n
    pub enough : size c.seats ≡ k n
    pub attested : (s : ℕ) → In s c.seats → Attested s c.value (c.signature s)

  -- the entries of a FULL
  pub record Entries (n : ℕ) (value : List ℕ) (es : List Entry) : Type 0 where
    pub sized : length value ≡ value_length
    pub many : length es ≡ k n
    pub rise : rising (map (λ (e : Entry). e.seat) es) ≡ true
    pub below : Each (λ (e : Entry). e.seat < n) es
    pub attested : Each (λ (e : Entry). Attested e.seat value e.signature) es

  -- the entries of an EVIDENCE that a unit writes, or that a joining takes
  pub record Pairs (n : ℕ) (ps : List Pair) : Type 0 where
    pub laid : Laid (evidence_form ValuesEach) ps
    pub ordered : Each (λ (p : Pair). lower_first p ≡ true) ps
    pub some : 1 ≤ length ps
    pub few : length ps ≤ n
    pub rise : rising (map (λ (p : Pair). p.seat) ps) ≡ true
    pub below : Each (λ (p : Pair). p.seat < n) ps
    pub lows : Each (λ (p : Pair). Attested p.seat p.lower_value p.lower) ps
    pub highs : Each (λ (p : Pair). Attested p.seat p.higher_value p.higher) ps

  -- ---- record and store

  -- the signatures collected, in the first bank
  pub record Collection (n : ℕ) (own : Own) (store : List ℕ) : Type 0 where
    pub sized : length own.value ≡ value_length
    pub below : own.collected < 2 ^ n
    pub few : size own.collected ≤ k n
    pub attested : (s : ℕ) → In s own.collected → Attested s own.value (slot n collected_bank store s)

  -- the first certificate, in the second bank, and the guilty seats
  pub record Holding (n : ℕ) (first : First) (guilty : ℕ) (store : List ℕ) : Type 0 where
    pub sized : length first.value ≡ value_length
    pub below : first.seats < 2 ^ n
    pub enough : (first.seats ≡ 0) ⊎ (size first.seats ≡ k n)
    pub attested : (s : ℕ) → In s first.seats → Attested s first.value (slot n first_bank store s)
    pub guilty_below : guilty < 2 ^ n
    pub guilty_within : shared guilty first.seats ≡ guilty
    pub unheld : first.seats ≡ 0 → (first.value ≡ unset) × (guilty ≡ 0)

  -- the seats kept: each has a signature of its own over its kept value, in the last two banks
  pub record Keeping (n kept : ℕ) (store : List ℕ) : Type 0 where
    pub below : kept < 2 ^ n
    pub attested : (s : ℕ) → In s kept → Attested s (kept_value n store s) (kept_signature n store s)

  -- the value submitted and the seats collected
  pub record Submitted (n seat : ℕ) (own : Own) (store : List ℕ) : Type 0 where
    pub collection : Collection n own store
    pub unsaid : own.submitted ≡ false → (own.collected ≡ 0) × (own.value ≡ unset)
    pub said : own.submitted ≡ true → In seat own.collected

  -- the invariant after every part of a call
  pub record Sound (r : Record) (store : List ℕ) : Type 0 where
    pub range : InRange r.n r.seat r.round
    pub own : Submitted r.n r.seat r.own store
    pub heard : Hearing r.notices
    pub first : Holding r.n r.first r.guilty store
    pub flags : Flags r.n r.own.collected r.confirmed r.sent
    pub kept : Keeping r.n r.kept store

  -- ---- messages

  -- facts about a message that the unit has written
  abbrev pub Good : Record → Message → Type 0
  Good r (Submit ρ seat value signature) = Said r ρ seat value × Attested seat value signature
  Good r (Notice ρ seat value) = Said r ρ seat value
  Good r (Full ρ sender value entries) = Said r ρ sender value × Entries r.n value entries
  Good r (Evidence ρ form entries) = (ρ ≡ r.round) × (form ≡ ValuesEach) × Pairs r.n entries
  Good r Garbled = ⊥

  -- ---- from one state of a call to a later one

  -- with the messages written in between, and at most so many packs among them
  pub record Leads (most : ℕ) (s s' : State) : Type 0 where
    pub sound : Sound s'.unit s'.store
    pub stored : length s'.store ≡ length s.store
    pub grows : Grows s.unit s'.unit
    pub added : List Message
    pub written : s'.written ≡ s.written ++ added
    pub counts : Counts s.unit added s'.unit
    pub packs : count is_evidence added ≤ most
    pub good : Each (Good s'.unit) added
