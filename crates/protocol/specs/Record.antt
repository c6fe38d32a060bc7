-- A unit's record: with nothing set, with one part set, and impossible (document 01, "A unit's record and store"; document 02,
-- item 1).
-- Assumes nothing.
use Rattle.std.specs.Prelude.{ℕ, ◌^◌, ◌≤◌, ◌<◌, Bool, true, false, not, ◌&&◌, ◌||◌, leb, ltb, eqb, ◌≡◌, List, length}
use Rattle.quorum.specs.Quorum.{most_seats, k, has, size, shared, outside}
use Rattle.protocol.specs.Values.{unset}
use Rattle.octets.specs.Strings.{same}
use Rattle.protocol.specs.declared.Own.{Own}
use Rattle.protocol.specs.declared.Notices.{Notices}
use Rattle.protocol.specs.declared.First.{First}
use Rattle.protocol.specs.declared.Record.{Record}
use Rattle.protocol.specs.Layout.{store_length, out_length}

-- ---- ranges

-- "n outside 1 to 32"
unfoldable pub wrong_size : ℕ → Bool
wrong_size n = eqb n 0 || ltb most_seats n

-- "own seat at or above n"
unfoldable pub wrong_seat : ℕ → ℕ → Bool
wrong_seat n seat = leb n seat

-- "Rounds run from 0 to 1,023."
abbrev pub last_round : ℕ
last_round = 1023

unfoldable pub wrong_round : ℕ → Bool
wrong_round round = ltb last_round round

-- ---- fresh records

-- "the record with nothing else set": n, seat and round alone
unfoldable pub fresh : ℕ → ℕ → ℕ → Record
fresh n seat round = record {
  n = n;
  seat = seat;
  round = round;
  own = record { submitted = false; value = unset; collected = 0 };
  confirmed = false;
  notices = record { heard = 0; value = unset };
  first = record { value = unset; seats = 0 };
  sent = false;
  guilty = 0;
  kept = 0;
}

-- "a refused opening gives a record of zeros", and so does a refused note: "A refused note gives a record of zeros." (document 02, item 2)
unfoldable pub zeros : Record
zeros = fresh 0 0 0

-- ---- records with one part set

abbrev pub with_own : Record → Own → Record
with_own r own = record { n = r.n; seat = r.seat; round = r.round; own = own; confirmed = r.confirmed; notices = r.notices; first = r.first; sent = r.sent; guilty = r.guilty; kept = r.kept }

abbrev pub with_confirmed : Record → Record
with_confirmed r = record { n = r.n; seat = r.seat; round = r.round; own = r.own; confirmed = true; notices = r.notices; first = r.first; sent = r.sent; guilty = r.guilty; kept = r.kept }

abbrev pub with_notices : Record → Notices → Record
with_notices r notices = record { n = r.n; seat = r.seat; round = r.round; own = r.own; confirmed = r.confirmed; notices = notices; first = r.first; sent = r.sent; guilty = r.guilty; kept = r.kept }

abbrev pub with_first : Record → First → Record
with_first r first = record { n = r.n; seat = r.seat; round = r.round; own = r.own; confirmed = r.confirmed; notices = r.notices; first = first; sent = r.sent; guilty = r.guilty; kept = r.kept }

abbrev pub with_sent : Record → Record
with_sent r = record { n = r.n; seat = r.seat; round = r.round; own = r.own; confirmed = r.confirmed; notices = r.notices; first = r.first; sent = true; guilty = r.guilty; kept = r.kept }

abbrev pub with_guilty : Record → ℕ → Record
with_guilty r guilty = record { n = r.n; seat = r.seat; round = r.round; own = r.own; confirmed = r.confirmed; notices = r.notices; first = r.first; sent = r.sent; guilty = guilty; kept = r.kept }

abbrev pub with_kept : Record → ℕ → Record
with_kept r kept = record { n = r.n; seat = r.seat; round = r.round; own = r.own; confirmed = r.confirmed; notices = r.notices; first = r.first; sent = r.sent; guilty = r.guilty; kept = kept }

-- ---- notices heard

-- "notices heard (none, one value, or two different, the first kept)"
unfoldable pub none_heard : Record → Bool
none_heard r = eqb r.notices.heard 0

unfoldable pub one_heard : Record → Bool
one_heard r = eqb r.notices.heard 1

-- ---- the first certificate

-- a certificate is held
unfoldable pub holds : Record → Bool
holds r = not (eqb r.first.seats 0)

-- ---- impossible records: "A record is impossible if:"

-- "n, seat or round is out of range"
unfoldable pub out_of_range : Record → Bool
out_of_range r = wrong_size r.n || wrong_seat r.n r.seat || wrong_round r.round

-- the number of notices heard is none of the three, and so stands for nothing
unfoldable pub wrong_heard : Record → Bool
wrong_heard r = ltb 2 r.notices.heard

-- "a mask names a seat at or above n"; the seats kept are one (document 02, item 1)
unfoldable pub names_stranger : Record → Bool
names_stranger r = outside r.n r.own.collected || outside r.n r.first.seats || outside r.n r.guilty || outside r.n r.kept

-- "collected seats are non-empty without a submission, lack the own seat after one, exceed k, or number k without confirmed
-- or the reverse"
unfoldable pub wrong_collected : Record → Bool
wrong_collected r =
    not r.own.submitted && not (eqb r.own.collected 0)
    || r.own.submitted && not (has r.seat r.own.collected)
    || ltb (k r.n) (size r.own.collected)
    || eqb (size r.own.collected) (k r.n) && not r.confirmed
    || r.confirmed && not (eqb (size r.own.collected) (k r.n))

-- "the first certificate's seats number neither 0 nor k"
unfoldable pub wrong_first : Record → Bool
wrong_first r = not (eqb (size r.first.seats) 0) && not (eqb (size r.first.seats) (k r.n))

-- "confirmed, or guilty seats, stand without a first certificate"
unfoldable pub lacks_first : Record → Bool
lacks_first r = (r.confirmed || not (eqb r.guilty 0)) && not (holds r)

-- "a guilty seat is outside it"
unfoldable pub wrong_guilty : Record → Bool
wrong_guilty r = not (eqb (shared r.guilty r.first.seats) r.guilty)

-- "FULL was sent unconfirmed"
unfoldable pub wrong_sent : Record → Bool
wrong_sent r = r.sent && not r.confirmed

-- "a record with kept seats after a submission is impossible" (document 02, item 1)
unfoldable pub wrong_kept : Record → Bool
wrong_kept r = r.own.submitted && not (eqb r.kept 0)

-- "an unset value is not zero"
unfoldable pub wrong_unset : Record → Bool
wrong_unset r =
    not r.own.submitted && not (same r.own.value unset)
    || none_heard r && not (same r.notices.value unset)
    || not (holds r) && not (same r.first.value unset)

-- any of these
unfoldable pub impossible : Record → Bool
impossible r = out_of_range r || wrong_heard r || names_stranger r || wrong_collected r || wrong_first r || lacks_first r || wrong_guilty r || wrong_sent r || wrong_kept r || wrong_unset r

-- ---- possible records

-- n, seat and round are in range
pub record InRange (n seat round : ℕ) : Type 0 where
  pub some : 1 ≤ n
  pub most : n ≤ most_seats
  pub seated : seat < n
  pub dated : round ≤ last_round

pub record Possible (r : Record) : Type 0 where
  pub range : InRange r.n r.seat r.round
  -- notices heard are none, one value or two
  pub heard : r.notices.heard ≤ 2
  -- the masks name seats below n
  pub collected : r.own.collected < 2 ^ r.n
  pub first : r.first.seats < 2 ^ r.n
  pub guilty : r.guilty < 2 ^ r.n
  pub kept : r.kept < 2 ^ r.n
  -- nothing is collected before the submission, at most k are, and k are just where the unit has confirmed
  pub unsaid : r.own.submitted ≡ false → r.own.collected ≡ 0
  pub few : size r.own.collected ≤ k r.n
  pub complete : size r.own.collected ≡ k r.n → r.confirmed ≡ true
  pub confirmed : r.confirmed ≡ true → size r.own.collected ≡ k r.n
  -- the first certificate has at most k
  pub held : size r.first.seats ≤ k r.n

-- a call's record, store and out, where 4, 6 and 7 are not refused
pub record Ready (r : Record) (store out : List ℕ) : Type 0 where
  pub possible : Possible r
  pub slots : store_length r.n ≤ length store
  pub room : out_length r.n ≤ length out
