-- Parts of a note as they are written and read.
-- Assumes nothing.
use Rattle.std.specs.Prelude.{ℕ, List, [], ◌∷◌, ◌++◌}
use Rattle.octets.specs.Octets.{be, word_at}
use Rattle.protocol.specs.Layout.{mask_length, note_own_value_at, note_collected_at, note_first_at, note_heard_value_at, note_first_value_at}
use Rattle.protocol.specs.Message.{read_value}
use Rattle.protocol.specs.Note.{submitted_flag, flags_of, is_set, heard_by}
use Rattle.protocol.specs.declared.Own.{Own}
use Rattle.protocol.specs.declared.Notices.{Notices}
use Rattle.protocol.specs.declared.First.{First}
use Rattle.protocol.specs.declared.Record.{Record}

-- ---- written

-- "0x20, n 1, seat 1, round 2, flags 1"
abbrev pub note_start : Record → List ℕ
note_start r = 0x20 ∷ r.n ∷ r.seat ∷ be 2 r.round ++ flags_of r ∷ []

-- "the masks collected, kept, first certificate and guilty at 4 each"
abbrev pub note_masks : Record → List ℕ
note_masks r = be mask_length r.own.collected ++ be mask_length r.kept ++ be mask_length r.first.seats ++ be mask_length r.guilty

-- ---- read: the own submission, the notices heard and the first certificate

abbrev pub note_own : ℕ → List ℕ → Own
note_own flags note = record { submitted = is_set submitted_flag flags; value = read_value note_own_value_at note; collected = word_at note note_collected_at }

abbrev pub note_notices : ℕ → List ℕ → Notices
note_notices flags note = record { heard = heard_by flags; value = read_value note_heard_value_at note }

abbrev pub note_first : List ℕ → First
note_first note = record { value = read_value note_first_value_at note; seats = word_at note note_first_at }
