-- Demand 1, over a whole list: "in a round a unit on one unbroken record sends at most one submission, one notice and one full
-- certificate"; and, as follows from document 02's item 3, at most t0 + 1 packs of evidence. A unit that loses power (document 02, item 2)
-- may send a message again, and no other of its kind but further packs, each of which names other seats.
-- Assumes nothing.
use Rattle.std.specs.Prelude.{ℕ, ◌+◌, ◌≤◌, ◌≡◌, Bool, true, false, ◌⊎◌}
use Rattle.quorum.specs.Quorum.{t0}
use mathlib.Core.List.{List, [], ◌∷◌, Memᴰ}
use Rattle.protocol.specs.Message.{Message, Submit, Notice, Full, Evidence, Garbled, entry_seats}
use Rattle.protocol.specs.Refusals.{is_full, is_evidence}
use Rattle.round.specs.Round.{Setting, Boat, list_of, written_over, Are, Sent, Writes, Submits}

-- kinds of message that a unit sends
pub data Kind : Type 0 where
  SUBMIT NOTICE FULL EVIDENCE : Kind

unfoldable pub is_submit : Message → Bool
is_submit (Submit ρ seat value signature) = true
is_submit (Notice ρ seat value) = false
is_submit (Full ρ sender value entries) = false
is_submit (Evidence ρ form entries) = false
is_submit Garbled = false

unfoldable pub is_notice : Message → Bool
is_notice (Submit ρ seat value signature) = false
is_notice (Notice ρ seat value) = true
is_notice (Full ρ sender value entries) = false
is_notice (Evidence ρ form entries) = false
is_notice Garbled = false

abbrev pub is_of : Kind → Message → Bool
is_of SUBMIT m = is_submit m
is_of NOTICE m = is_notice m
is_of FULL m = is_full m
is_of EVIDENCE m = is_evidence m

-- number of members of a list that pass a test
unfoldable pub worth : Bool → ℕ
worth true = 1
worth false = 0

unfoldable pub count {ℓ} : {A : Type ℓ} → (A → Bool) → List A → ℕ
count test [] = 0
count test (x ∷ xs) = worth (test x) + count test xs

-- the most messages of a kind that a unit writes in a round. The first pack names n − 2 × t0 or more of the n − t0 seats of the first
-- certificate held, and each later one a new seat of them: so t0 packs at most follow the first.
unfoldable pub most : ℕ → Kind → ℕ
most n SUBMIT = 1
most n NOTICE = 1
most n FULL = 1
most n EVIDENCE = t0 n + 1

-- no more than that among those that a unit's list writes, for every reading of the bytes as messages
abbrev pub AtMost : Setting → Boat → Type 0
AtMost S u = (ms : List Message) → Are S.n (written_over S (list_of S u)) ms → (κ : Kind) → count (is_of κ) ms ≤ most S.n κ

-- every message that a unit sends was written by a call that counts
abbrev pub SendsWritten : Setting → Boat → Type 0
SendsWritten S u = (m : Message) → Sent u m → Writes S u m

-- no seat stands in both messages
abbrev pub Apart : Message → Message → Type 0
Apart m m' = (seat : ℕ) → Memᴰ seat (entry_seats m) → Memᴰ seat (entry_seats m') → ⊥

-- of two messages of one kind that a unit sends, one is the other again, or they are packs with no seat in common
abbrev pub SendsOne : Boat → Type 0
SendsOne u = (κ : Kind) (m m' : Message) → is_of κ m ≡ true → is_of κ m' ≡ true → Sent u m → Sent u m' → (m ≡ m') ⊎ ((κ ≡ EVIDENCE) × Apart m m')

-- the layout that a message of the unit's own carries: SUBMIT, NOTICE and FULL have one
abbrev pub Carries : Message → List ℕ → Type 0
Carries (Submit ρ seat value signature) layout = value ≡ layout
Carries (Notice ρ seat value) layout = value ≡ layout
Carries (Full ρ sender value entries) layout = value ≡ layout
Carries (Evidence ρ form entries) layout = ⊥
Carries Garbled layout = ⊥

-- "A display that comes back blank could sign a second layout in good faith" (document 02, item 2). Each SUBMIT, NOTICE and FULL that a
-- unit sends carries a layout that it submitted in a call that counts.
abbrev pub SendsSubmitted : Setting → Boat → Type 0
SendsSubmitted S u = (m : Message) (layout : List ℕ) → Carries m layout → Sent u m → Submits S u layout

-- All of them carry one layout.
abbrev pub SendsOneLayout : Boat → Type 0
SendsOneLayout u = (m m' : Message) (layout layout' : List ℕ) → Carries m layout → Carries m' layout' → Sent u m → Sent u m' → layout ≡ layout'
