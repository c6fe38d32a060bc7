-- Calls whose n, round and key table aren't refused, and two certificates that aren't.
-- Assumes nothing.
use Rattle.std.specs.Prelude.{◌≡◌, refl, List, ◌++◌, ℕ, ◌≤◌}
use Rattle.std.proofs.Common.{sym, ◌∙◌}
use Rattle.quorum.specs.Quorum.{most_seats}
use Rattle.refusal.specs.Refusal.{first_of}
use Rattle.refusal.specs.RefusalLaws.{refused-later}
use Rattle.protocol.specs.Message.{Message, read}
use Rattle.protocol.specs.Refusals.{Checks, Condition, outside_conditions, two_conditions}
use Rattle.protocol.specs.Signatures.{checks}
use Rattle.validate.specs.GivenLaws.{outside-given, outside-nonzero}
use Rattle.signatures.specs.Entries.{FullTaken}
use Rattle.signatures.specs.EntriesLaws.{certificate-taken}
use Rattle.validate.specs.Calls.{Conflict}
use Rattle.validate.specs.CallsLaws.{two-passed}

-- n, round and key table of a call
pub record Call : Type 0 where
  pub n : ℕ
  pub round : ℕ
  pub keys : List ℕ

abbrev pub call : ℕ → ℕ → List ℕ → Call
call n round keys = record { n = n; round = round; keys = keys }

abbrev pub check : Call → Checks
check c = checks c.keys c.round

abbrev pub outside : Call → List Condition
outside c = outside_conditions c.n c.round c.keys

-- n, round and key table aren't refused
module _ (c : Call) (clear : 0 ≡ first_of (outside c)) where
  pub sized : (1 ≤ c.n) × (c.n ≤ most_seats)
  sized = let given = outside-given c.n c.round c.keys 0 clear refl in (given.some, given.most)

  -- the number of the call is that of the rows after them
  pub after_outside : (rest : List Condition) → first_of rest ≡ first_of (outside c ++ rest)
  after_outside rest = refused-later (outside c) rest 0 clear (outside-nonzero c.n c.round c.keys) refl

-- the rows of two certificates
abbrev pub two : Call → List ℕ → List ℕ → List Condition
two c a b = two_conditions (check c) c.n c.round (read c.n a) (read c.n b)

-- two certificates that aren't refused
pub conflicting : (check : Checks) (n round : ℕ) (a b : Message) {number : ℕ} → number ≡ first_of (two_conditions check n round a b) → number ≡ 0 → Conflict n round a b
conflicting check n round a b e z = two-passed check n round a b (sym e ∙ z)

pub both-taken : {n round : ℕ} (a b : List ℕ) → Conflict n round (read n a) (read n b) → FullTaken n a × FullTaken n b
both-taken {n} {round} a b conflict = (certificate-taken n round a conflict.first, certificate-taken n round b conflict.second)
