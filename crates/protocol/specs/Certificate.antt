-- Certificates: a value with the signatures of k seats over it. The unit's own, the first that it holds and a FULL heard
-- have one type, so that hearing, holding, sharing and evidence are each defined once.
-- Assumes nothing.
use Rattle.std.specs.Prelude.{ℕ, cond, List, [], ◌∷◌, map, eqb}
use Rattle.octets.specs.Octets.{part, patch}
use Rattle.quorum.specs.Quorum.{shared, with, seats}
use Rattle.protocol.specs.Layout.{collected_bank, first_bank, kept_bank, kept_value_bank, slot_length, slot_at}
use Rattle.protocol.specs.Values.{is_lower}
use Rattle.protocol.specs.Entries.{form_seats}
use Rattle.protocol.specs.Message.{Entry, Pair, ValuesEach, Message, Submit, Notice, Full, Evidence, Garbled, full_form}
use Rattle.protocol.specs.declared.Record.{Record}

pub record Certificate : Type 0 where
  pub value : List ℕ
  pub seats : ℕ
  pub signature : ℕ → List ℕ

-- ---- the store

-- content of a seat's slot
unfoldable pub slot : ℕ → ℕ → List ℕ → ℕ → List ℕ
slot n bank store seat = part (slot_at n bank seat) (slot_length bank) store

-- "A signature is copied into its seat's slot, and only that slot is written."
unfoldable pub fill : ℕ → ℕ → ℕ → List ℕ → List ℕ → List ℕ
fill n bank seat signature store = patch (slot_at n bank seat) signature store

-- the signatures of several seats, one after another
unfoldable pub fill_each : ℕ → ℕ → (ℕ → List ℕ) → List ℕ → List ℕ → List ℕ
fill_each n bank signature [] store = store
fill_each n bank signature (seat ∷ rest) store = fill_each n bank signature rest (fill n bank seat (signature seat) store)

-- "the first good one from each seat is kept with its value" (document 02, item 1): a seat's kept value, and its signature over it
abbrev pub kept_value : ℕ → List ℕ → ℕ → List ℕ
kept_value n store seat = slot n kept_value_bank store seat

abbrev pub kept_signature : ℕ → List ℕ → ℕ → List ℕ
kept_signature n store seat = slot n kept_bank store seat

unfoldable pub fill_kept : ℕ → ℕ → List ℕ → List ℕ → List ℕ → List ℕ
fill_kept n seat value signature store = fill n kept_value_bank seat value (fill n kept_bank seat signature store)

-- ---- certificates

-- the unit's own: its value and the signatures collected
unfoldable pub own_certificate : Record → List ℕ → Certificate
own_certificate r store = record { value = r.own.value; seats = r.own.collected; signature = slot r.n collected_bank store }

-- "the first certificate held"
unfoldable pub first_certificate : Record → List ℕ → Certificate
first_certificate r store = record { value = r.first.value; seats = r.first.seats; signature = slot r.n first_bank store }

-- a FULL: the set of its entries' seats, and the signature of a seat's entry
unfoldable pub set_of : List ℕ → ℕ
set_of [] = 0
set_of (seat ∷ rest) = with seat (set_of rest)

unfoldable pub signature_of : List Entry → ℕ → List ℕ
signature_of [] seat = []
signature_of (e ∷ es) seat = cond (eqb e.seat seat) e.signature (signature_of es seat)

unfoldable pub certificate_of : List ℕ → List Entry → Certificate
certificate_of value entries =
    record { value = value; seats = set_of (form_seats full_form entries); signature = signature_of entries }

-- the certificate in a FULL; no other message has one
unfoldable pub certificate_in : Message → Certificate
certificate_in (Submit round seat value signature) = certificate_of [] []
certificate_in (Notice round seat value) = certificate_of [] []
certificate_in (Full round sender value entries) = certificate_of value entries
certificate_in (Evidence round form entries) = certificate_of [] []
certificate_in Garbled = certificate_of [] []

-- ---- messages from certificates: "Entry seats rise."

-- the entry of a seat
abbrev pub entry_of : Certificate → ℕ → Entry
entry_of c seat = record { seat = seat; signature = c.signature seat }

-- the entries of all seats of a certificate
unfoldable pub entries_of : ℕ → Certificate → List Entry
entries_of n c = map (entry_of c) (seats n c.seats)

-- the FULL of a certificate
unfoldable pub full_of : ℕ → ℕ → ℕ → Certificate → Message
full_of n round sender c = Full round sender c.value (entries_of n c)

-- a seat's two signatures, each with its value
abbrev pub pair_of : Certificate → Certificate → ℕ → Pair
pair_of low high seat =
    record { seat = seat; lower_value = low.value; higher_value = high.value; lower = low.signature seat; higher = high.signature seat }

-- the pairs of the seats of a set
unfoldable pub pairs_of : ℕ → ℕ → Certificate → Certificate → List Pair
pairs_of n mask low high = map (pair_of low high) (seats n mask)

-- evidence from two certificates for the seats of a set, the lower value first: 0x07, each seat with its own pair
unfoldable pub ordered_evidence : ℕ → ℕ → ℕ → Certificate → Certificate → Message
ordered_evidence n round mask low high = Evidence round ValuesEach (pairs_of n mask low high)

-- evidence from two certificates of different values for the seats of a set, in either order
unfoldable pub evidence_of : ℕ → ℕ → ℕ → Certificate → Certificate → Message
evidence_of n round mask c d = cond (is_lower c.value d.value) (ordered_evidence n round mask c d) (ordered_evidence n round mask d c)

-- evidence from two certificates of different values for all seats that they share
unfoldable pub conflict_of : ℕ → ℕ → Certificate → Certificate → Message
conflict_of n round c d = evidence_of n round (shared c.seats d.seats) c d
