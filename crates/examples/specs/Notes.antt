-- The bytes of two notes (document 02, item 2), part by part: the definition puts each part where the sentence has it.
-- Assumes nothing.
use Rattle.std.specs.Prelude.{ℕ, ◌≡◌, refl, true, false, List, [], ◌∷◌, ◌++◌, replicate}
use Rattle.octets.specs.Octets.{be}
use Rattle.protocol.specs.Values.{unset}
use Rattle.protocol.specs.Record.{fresh, one_heard}
use Rattle.protocol.specs.Note.{two_heard, flag_if, flags_of, render_note}
use Rattle.protocol.specs.declared.Record.{Record}

-- a unit just opened: the example of docs/PROTOCOL.md
pub opened-note : render_note (fresh 4 1 5) ≡ 0x20 ∷ 4 ∷ 1 ∷ 0 ∷ 5 ∷ 0 ∷ replicate 112 0
unfolding render_note flags_of flag_if one_heard two_heard be fresh unset
opened-note = refl

-- a record in which no two parts are the same; it needn't be possible
abbrev distinct : Record
distinct = record {
  n = 32;
  seat = 31;
  round = 0x0102;
  own = record { submitted = true; value = replicate 32 0x11; collected = 0x21222324 };
  confirmed = true;
  notices = record { heard = 2; value = replicate 32 0x66 };
  first = record { value = replicate 32 0x77; seats = 0x41424344 };
  sent = false;
  guilty = 0x51525354;
  kept = 0x31323334;
}

abbrev word : ℕ → ℕ → ℕ → ℕ → List ℕ
word a b c d = a ∷ b ∷ c ∷ d ∷ []

-- "0x20, n 1, seat 1, round 2, flags 1"; submitted, confirmed and two heard are 1, 2 and 16
abbrev head : List ℕ
head = 0x20 ∷ 32 ∷ 31 ∷ 0x01 ∷ 0x02 ∷ 0x13 ∷ []

-- "own value 32, the masks collected, kept, first certificate and guilty at 4 each, then first value heard 32 and first certificate's
-- value 32"
pub distinct-note : render_note distinct
    ≡ head ++ replicate 32 0x11 ++ word 0x21 0x22 0x23 0x24 ++ word 0x31 0x32 0x33 0x34 ++ word 0x41 0x42 0x43 0x44 ++ word 0x51 0x52 0x53 0x54
    ++ replicate 32 0x66 ++ replicate 32 0x77
unfolding render_note flags_of flag_if one_heard two_heard be
distinct-note = refl

-- the other flags: FULL sent is 4, one value heard 8
abbrev other : Record
other = record {
  n = 32;
  seat = 31;
  round = 0x0102;
  own = record { submitted = false; value = unset; collected = 0 };
  confirmed = false;
  notices = record { heard = 1; value = unset };
  first = record { value = unset; seats = 0 };
  sent = true;
  guilty = 0;
  kept = 0;
}

pub other-flags : flags_of other ≡ 0x0c
unfolding flags_of flag_if one_heard two_heard
other-flags = refl
