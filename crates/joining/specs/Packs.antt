-- Packs that a joining takes.
-- Assumes nothing.
use Rattle.std.specs.Prelude.{◌≡◌, Bool, true, false, cond, List, [], ℕ}
use Rattle.protocol.specs.Entries.{render_entry}
use Rattle.protocol.specs.Message.{Pair, ValuesEach, Message, evidence_form, read}
use Rattle.protocol.specs.Joining.{pack_set}
use Rattle.protocol.specs.Refusals.{is_new_evidence, stranger, disorder}
use Rattle.forms.specs.Messages.{Formed}

-- the bytes of a pack, refused neither for a seat nor for its order, with `set` the set of its seats
pub record Pack (n : ℕ) (bytes : List ℕ) (set : ℕ) : Type 0 where
  pub new : is_new_evidence (read n bytes) ≡ true
  pub known : stranger n (read n bytes) ≡ false
  pub ordered : disorder (read n bytes) ≡ false
  pub sets : set ≡ pack_set (read n bytes)

-- two packs of which neither is refused
pub record Packs (n round : ℕ) (a b : Message) : Type 0 where
  pub first : Formed n round (is_new_evidence a) a
  pub second : Formed n round (is_new_evidence b) b

-- an entry's bytes where it is wanted, else none
unfoldable pub wanted_entry : Bool → Pair → List ℕ
wanted_entry wanted p = cond wanted (render_entry (evidence_form ValuesEach) p) []
