-- Seats, sets of seats as masks, and the two thresholds of a fleet. Their laws are in `QuorumLaws`.
-- Assumes nothing.
use Rattle.std.specs.Prelude.{◌≡◌, Bool, List, [], ◌∷◌, ◌++◌, ℕ, zero, suc, ◌+◌, ◌-◌, ◌/◌, ◌%◌, ◌^◌, leb, eqb}
use Rattle.std.specs.Int.Bits.{bit_and, bit_or, bit_xor}
use Rattle.std.specs.Int.Count.{ones}

-- "A fleet has n seats, 1 to 32, numbered from 0."
abbrev pub most_seats : ℕ
most_seats = 32

-- "t0 = n/3 rounded up, less one."
unfoldable pub t0 : ℕ → ℕ
t0 n = (n + 2) / 3 - 1

-- "k = n − t0."
unfoldable pub k : ℕ → ℕ
k n = n - t0 n

-- "A set of seats is a 32-bit mask, seat s being the bit of worth 2 to the power s": the bit of seat s, 0 or 1
unfoldable pub bit : ℕ → ℕ → ℕ
bit zero m = m % 2
bit (suc s) m = bit s (m / 2)

-- seat s is in the set
abbrev pub In : ℕ → ℕ → Type 0
In s m = bit s m ≡ 1

-- the same, as a test
unfoldable pub has : ℕ → ℕ → Bool
has s m = eqb (bit s m) 1

-- "its size is the number of ones in the mask"
abbrev pub size : ℕ → ℕ
size m = ones m

-- the set of one seat
abbrev pub one : ℕ → ℕ
one s = 2 ^ s

-- the seats of either set
unfoldable pub union : ℕ → ℕ → ℕ
union a b = bit_or a b

-- the seats of both sets
unfoldable pub shared : ℕ → ℕ → ℕ
shared a b = bit_and a b

-- the seats of the first set that the second doesn't have
unfoldable pub less : ℕ → ℕ → ℕ
less a b = bit_xor a (shared a b)

-- the set with seat s added
unfoldable pub with : ℕ → ℕ → ℕ
with s m = union m (one s)

-- the set of all n seats
unfoldable pub all : ℕ → ℕ
all n = 2 ^ n - 1

-- the set names a seat at or above n
unfoldable pub outside : ℕ → ℕ → Bool
outside n m = leb (2 ^ n) m

-- seat s if its bit is 1, and nothing if it is 0
abbrev pub seat_if : ℕ → ℕ → List ℕ
seat_if zero s = []
seat_if (suc b) s = s ∷ []

-- the seats below n that are in the set, rising
unfoldable pub seats : ℕ → ℕ → List ℕ
seats zero m = []
seats (suc n) m = seats n m ++ seat_if (bit n m) n
