-- The part of the machine's state that a unit's record and store keep.
-- Assumes nothing.
use Rattle.std.specs.Prelude.{ℕ, ◌≡◌, cond, List, [], ◌∷◌, map, take}
use Rattle.std.proofs.Math.Option.{Option, none, some}
use Rattle.quorum.specs.Quorum.{k}
use Rattle.protocol.specs.Layout.{collected_bank, first_bank}
use Rattle.protocol.specs.Values.{unset}
use Rattle.protocol.specs.Message.{Entry, Signed}
use Rattle.protocol.specs.Certificate.{slot, kept_value, kept_signature, set_of}
use Rattle.protocol.specs.declared.Notices.{Notices}
use Rattle.protocol.specs.declared.First.{First}
use Rattle.protocol.specs.declared.Record.{Record}
use Rattle.round.specs.Round.{Each}
use Rattle.paper.specs.Machine.{FullCertificate, Machine, is_some, own_value, first_from, other, value_of_notice}

-- the set of the seats of a list of entries
unfoldable pub seats_in : List Entry → ℕ
seats_in es = set_of (map (λ (e : Entry). e.seat) es)

-- the set of the seats of a list of SUBMITs
unfoldable pub early_seats : List Signed → ℕ
early_seats es = set_of (map (λ (e : Signed). e.seat) es)

-- the record's part of the SUBMITs that came before the submission, by value_i: "the first good one from each seat is kept", and at
-- the submission "the kept seats are empty" (document 02, item 1)
unfoldable pub kept_of : Option (List ℕ) → List Signed → ℕ
kept_of none early = early_seats early
kept_of (some v) early = 0

-- the record's part of all notices: "none, one value, or two different, the first kept"
unfoldable pub notices_of : List (List ℕ) → Notices
notices_of [] = record { heard = 0; value = unset }
notices_of (v ∷ vs) = record { heard = cond (is_some (other value_of_notice v vs)) 2 1; value = v }

-- the record's part of all certificates: "the first certificate held (value and seats)"
unfoldable pub held_first : List FullCertificate → First
held_first [] = record { value = unset; seats = 0 }
held_first (c ∷ cs) = record { value = c.value; seats = seats_in c.entries }

-- the record of a unit at a seat in a round: of all signatures over its value, the seats of the first k
unfoldable pub record_of : ℕ → ℕ → ℕ → Machine → Record
record_of n seat round m = record {
  n = n;
  seat = seat;
  round = round;
  own = record { submitted = is_some m.value; value = own_value m.value; collected = seats_in (take (k n) m.collected) };
  confirmed = m.confirmed;
  notices = notices_of m.noticed;
  first = held_first m.obtained;
  sent = m.sent;
  guilty = set_of m.detected;
  kept = kept_of m.value m.early;
}

-- the entries of the first certificate
unfoldable pub first_entries : List FullCertificate → List Entry
first_entries [] = []
first_entries (c ∷ cs) = c.entries

-- record and store: "n slots of 1,452 for collected signatures, then n for the first certificate, each by seat"; "after the old
-- slots, n of 1,452 for kept signatures, then n values of 32" (document 02, item 1)
pub record Recorded (n seat round : ℕ) (m : Machine) (r : Record) (store : List ℕ) : Type 0 where
  pub unit : r ≡ record_of n seat round m
  pub collected : Each (λ (e : Entry). slot n collected_bank store e.seat ≡ e.signature) (take (k n) m.collected)
  pub first : Each (λ (e : Entry). slot n first_bank store e.seat ≡ e.signature) (first_entries m.obtained)
  -- of the SUBMITs that came before the submission, the first of each seat; no slot is cleared at it
  pub kept : (s : ℕ) (e : Signed) → first_from s m.early ≡ some e → (kept_value n store s ≡ e.value) × (kept_signature n store s ≡ e.signature)
