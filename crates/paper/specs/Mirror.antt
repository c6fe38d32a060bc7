-- The invariant of the machine, and of the store beside it, between two events.
-- Assumes nothing.
use Rattle.std.specs.Prelude.{ℕ, ◌^◌, ◌<◌, ◌≡◌, Bool, true, leb, length, take}
use mathlib.Core.List.{List, [], Memᴰ}
use Rattle.std.proofs.Math.Option.{Option, none, some}
use Rattle.quorum.specs.Quorum.{k, In, size}
use Rattle.protocol.specs.Layout.{signature_length, collected_bank, first_bank}
use Rattle.protocol.specs.Message.{Entry, Signed}
use Rattle.protocol.specs.Certificate.{slot, kept_value, kept_signature, signature_of}
use Rattle.protocol.specs.Refusals.{Checks}
use Rattle.round.specs.Round.{Each}
use Rattle.claims.specs.Sound.{Any, Attested}
use Rattle.paper.specs.Machine.{FullCertificate, Machine, own_value, first_from}
use Rattle.paper.specs.Memory.{seats_in, held_first, first_entries}
use Rattle.paper.specs.Rules.{Quiet}

-- the signatures collected: nothing before the own submission, and of the first k each from a seat of its own
pub record Collecting (n : ℕ) (value : Option (List ℕ)) (collected : List Entry) : Type 0 where
  pub unsaid : value ≡ none → collected ≡ []
  pub below : Each (λ (e : Entry). e.seat < n) collected
  pub sized : Each (λ (e : Entry). length e.signature ≡ signature_length) collected
  pub counted : size (seats_in (take (k n) collected)) ≡ length (take (k n) collected)

-- a certificate of k of n seats
pub record Quorum (n : ℕ) (c : FullCertificate) : Type 0 where
  pub below : seats_in c.entries < 2 ^ n
  pub enough : size (seats_in c.entries) ≡ k n
  pub sized : (s : ℕ) → In s (seats_in c.entries) → length (signature_of c.entries s) ≡ signature_length

-- the certificates obtained: none shows more than was detected
pub record Obtaining (n : ℕ) (obtained : List FullCertificate) (detected : List ℕ) : Type 0 where
  pub quorums : Each (Quorum n) obtained
  pub quiet : Quiet detected obtained

-- the store has the signatures of the first k, and those of the first certificate
pub record Stored (n : ℕ) (store : List ℕ) (collected : List Entry) (obtained : List FullCertificate) : Type 0 where
  pub own : (s : ℕ) → In s (seats_in (take (k n) collected)) → slot n collected_bank store s ≡ signature_of (take (k n) collected) s
  pub first : (s : ℕ) → In s (held_first obtained).seats → slot n first_bank store s ≡ signature_of (first_entries obtained) s

-- the SUBMITs that came before the submission: each properly signed, and the store has the first of each seat
pub record Keeping (checks : Checks) (n : ℕ) (store : List ℕ) (early : List Signed) : Type 0 where
  pub signed : Each (λ (e : Signed). (e.seat < n) × Attested checks Any e.seat e.value e.signature) early
  pub stored : (s : ℕ) (e : Signed) → first_from s early ≡ some e → (kept_value n store s ≡ e.value) × (kept_signature n store s ≡ e.signature)

-- the rule of line 25 isn't due, and once it was done the own value is among those noticed
pub record Resting (n : ℕ) (value : Option (List ℕ)) (confirmed : Bool) (collected : List Entry) (noticed : List (List ℕ)) : Type 0 where
  pub complete : confirmed ≡ leb (k n) (length collected)
  pub heard : confirmed ≡ true → Memᴰ (own_value value) noticed

pub record Mirrors (checks : Checks) (n : ℕ) (store : List ℕ) (m : Machine) : Type 0 where
  pub keeping : Keeping checks n store m.early
  pub collecting : Collecting n m.value m.collected
  pub obtaining : Obtaining n m.obtained m.detected
  pub stored : Stored n store m.collected m.obtained
  pub resting : Resting n m.value m.confirmed m.collected m.noticed
