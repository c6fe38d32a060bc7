-- A unit's record as a note: "The record shall be written out as a note" (document 02, item 2).
-- Assumes nothing.
use Rattle.std.specs.Prelude.{ℕ, ◌+◌, ◌*◌, ◌/◌, ◌%◌, ◌<◌, ◌≡◌, Bool, false, not, cond, ◌&&◌, ◌||◌, List, [], ◌∷◌, ◌++◌, leb, eqb, length}
use Rattle.octets.specs.Octets.{be, word_at}
use Rattle.protocol.specs.Layout.{value_length, mask_length, note_size_at, note_seat_at, note_round_at, note_flags_at, note_own_value_at, note_collected_at, note_kept_at, note_first_at, note_guilty_at, note_heard_value_at, note_first_value_at, note_length}
use Rattle.protocol.specs.Message.{byte_at, read_value}
use Rattle.protocol.specs.Record.{one_heard}
use Rattle.protocol.specs.declared.Record.{Record}

-- ---- flags: "flags 1 (1 submitted, 2 confirmed, 4 FULL sent, 8 one value heard, 16 two)"

abbrev pub submitted_flag : ℕ
submitted_flag = 1

abbrev pub confirmed_flag : ℕ
confirmed_flag = 2

abbrev pub sent_flag : ℕ
sent_flag = 4

abbrev pub one_flag : ℕ
one_flag = 8

abbrev pub two_flag : ℕ
two_flag = 16

-- two different values were heard
unfoldable pub two_heard : Record → Bool
two_heard r = eqb r.notices.heard 2

-- a flag where it is set, else 0
unfoldable pub flag_if : ℕ → Bool → ℕ
flag_if flag set = cond set flag 0

-- the flags of a record
unfoldable pub flags_of : Record → ℕ
flags_of r =
    flag_if submitted_flag r.own.submitted
    + flag_if confirmed_flag r.confirmed
    + flag_if sent_flag r.sent
    + flag_if one_flag (one_heard r)
    + flag_if two_flag (two_heard r)

-- whether a flag is set
unfoldable pub is_set : ℕ → ℕ → Bool
is_set flag flags = eqb (flags / flag % 2) 1

-- number of values heard, by the flags
unfoldable pub heard_by : ℕ → ℕ
heard_by flags = cond (is_set two_flag flags) 2 (cond (is_set one_flag flags) 1 0)

-- ---- the note of a record

-- "0x20, n 1, seat 1, round 2, flags 1 (..), own value 32, the masks collected, kept, first certificate and guilty at 4 each, then
-- first value heard 32 and first certificate's value 32"
unfoldable pub render_note : Record → List ℕ
render_note r =
    0x20 ∷ r.n ∷ r.seat ∷ be 2 r.round ++ flags_of r ∷ [] ++ r.own.value
    ++ be mask_length r.own.collected ++ be mask_length r.kept ++ be mask_length r.first.seats ++ be mask_length r.guilty
    ++ r.notices.value ++ r.first.value

-- the three values of a record have 32 bytes, as they have in the code's type
pub record ValuesSized (r : Record) : Type 0 where
  pub own : length r.own.value ≡ value_length
  pub heard : length r.notices.value ≡ value_length
  pub first : length r.first.value ≡ value_length

-- ---- the record of a note

-- flags and round of a note
unfoldable pub note_flags : List ℕ → ℕ
note_flags note = byte_at note note_flags_at

unfoldable pub note_round : List ℕ → ℕ
note_round note = byte_at note note_round_at * 256 + byte_at note (note_round_at + 1)

-- the record in the bytes of a note, possible or not
unfoldable pub note_record : List ℕ → Record
note_record note =
    let flags = note_flags note in
    record {
      n = byte_at note note_size_at;
      seat = byte_at note note_seat_at;
      round = note_round note;
      own = record { submitted = is_set submitted_flag flags; value = read_value note_own_value_at note; collected = word_at note note_collected_at };
      confirmed = is_set confirmed_flag flags;
      notices = record { heard = heard_by flags; value = read_value note_heard_value_at note };
      first = record { value = read_value note_first_value_at note; seats = word_at note note_first_at };
      sent = is_set sent_flag flags;
      guilty = word_at note note_guilty_at;
      kept = word_at note note_kept_at;
    }

-- ---- 17: "when the length isn't 118, the command isn't 0x20, both heard flags or an unknown flag are set"

-- both heard flags: a record's note has one of them at most
unfoldable pub both_heard : ℕ → Bool
both_heard flags = is_set one_flag flags && is_set two_flag flags

-- a flag besides the five, which together are 31
unfoldable pub unknown_flag : ℕ → Bool
unknown_flag flags = leb 32 flags

unfoldable pub wrong_note : List ℕ → Bool
wrong_note note = not (eqb (length note) note_length) || not (eqb (byte_at note 0) 0x20) || both_heard (note_flags note) || unknown_flag (note_flags note)

-- none of these
pub record NoteFits (note : List ℕ) : Type 0 where
  pub size : length note ≡ note_length
  pub command : byte_at note 0 ≡ 0x20
  pub apart : both_heard (note_flags note) ≡ false
  pub known : note_flags note < 32
