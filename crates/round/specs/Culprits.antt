-- "More culprits as more certificates come in" (document 02, item 3), over a unit's whole list: which seats are guilty, in which packs
-- they stand, and that every pack is accepted. Each is said of the unit after its list; by `claims/specs/Power: earlier_honest` it is so after every earlier event too.
-- Assumes nothing.
use Rattle.std.specs.Prelude.{ℕ, ◌≡◌, Bool, true, ◌&&◌, ◌⊎◌, ◌≢◌}
use mathlib.Core.List.{List, ◌∷◌, ◌++◌, Memᴰ}
use Rattle.quorum.specs.Quorum.{In, has}
use Rattle.protocol.specs.Message.{Message, Entry, Pair, Full, Evidence, PackForm, ValuesEach, read, entry_seats}
use Rattle.protocol.specs.Certificate.{set_of}
use Rattle.protocol.specs.Refusals.{is_evidence}
use Rattle.protocol.specs.declared.Record.{Record}
use Rattle.round.specs.Round.{Setting, Boat, Each, result_of, now_of, list_of, Are, written_over, Writes, StepGiven, WritesEvidence, Accepted}
use Rattle.round.specs.Demand1.{worth, count, Apart}

-- the message is a pack that names the seat
abbrev pub pack_names : ℕ → Message → Bool
pack_names seat m = is_evidence m && has seat (set_of (entry_seats m))

module _ (S : Setting) where
  open S use {n}

  -- the unit's record after its list
  abbrev pub unit_of : Boat → Record
  unit_of u = (now_of S u).unit

  -- ---- the seats that are guilty

  -- a seat stands in a certificate of a layout that a step in the unit's list was given and didn't refuse
  pub record HeardCertificate (u : Boat) (layout : List ℕ) (seat : ℕ) : Type 0 where
    pub bytes : List ℕ
    pub given : StepGiven S u bytes
    pub unrefused : (result_of S given.call).refusal ≡ 0
    pub ρ : ℕ
    pub sender : ℕ
    pub entries : List Entry
    pub is_full : read n bytes ≡ Full ρ sender layout entries
    pub stands : Memᴰ seat (entry_seats (read n bytes))

  -- or in the unit's own
  pub record OwnCertificate (u : Boat) (layout : List ℕ) (seat : ℕ) : Type 0 where
    pub confirmed : (unit_of u).confirmed ≡ true
    pub own : (unit_of u).own.value ≡ layout
    pub stands : In seat (unit_of u).own.collected

  -- "each certificate that conflicts with the first one held adds the seats that it shares"
  abbrev pub SharedAreGuilty : Boat → Type 0
  SharedAreGuilty u =
      (layout : List ℕ) (seat : ℕ) → layout ≢ (unit_of u).first.value → HeardCertificate u layout seat ⊎ OwnCertificate u layout seat
      → In seat (unit_of u).first.seats → In seat (unit_of u).guilty

  -- no seat is guilty without standing in the first certificate held
  abbrev pub GuiltyInFirst : Boat → Type 0
  GuiltyInFirst u = (seat : ℕ) → In seat (unit_of u).guilty → In seat (unit_of u).first.seats

  -- ---- the packs that name them

  -- a guilty seat stands in one pack that the unit's list writes, and any other seat in none
  abbrev pub GuiltyOnce : Boat → Type 0
  GuiltyOnce u =
      (ms : List Message) → Are n (written_over S (list_of S u)) ms
      → (seat : ℕ) → count (pack_names seat) ms ≡ worth (has seat (unit_of u).guilty)

  -- "EVIDENCE is written for those newly found": a pack names no seat that one before it names
  abbrev pub OnlyNew : Boat → Type 0
  OnlyNew u =
      (before later : List Message) (m : Message) → Are n (written_over S (list_of S u)) (before ++ m ∷ later) → is_evidence m ≡ true
      → Each (λ (earlier : Message). is_evidence earlier ≡ true → Apart earlier m) before

  -- "Evidence becomes 0x07": a unit writes no other
  abbrev pub WritesNewForm : Boat → Type 0
  WritesNewForm u = (ρ : ℕ) (form : PackForm) (entries : List Pair) → Writes S u (Evidence ρ form entries) → form ≡ ValuesEach

  -- every unit accepts each pack that the unit's list writes, the later ones too
  abbrev pub PacksAccepted : Boat → Type 0
  PacksAccepted u = (evidence : List ℕ) → WritesEvidence S u evidence → Accepted S evidence

  pub record MoreCulprits (u : Boat) : Type 0 where
    pub shared : SharedAreGuilty u
    pub in_first : GuiltyInFirst u
    pub once : GuiltyOnce u
    pub only_new : OnlyNew u
    pub new_form : WritesNewForm u
    pub accepted : PacksAccepted u
