-- A list of entries in a message. An entry is a command, a seat, and a fixed number of bytes. FULL's and EVIDENCE's are such lists
-- (`Message`).
-- Assumes nothing.
use Rattle.std.specs.Prelude.{ℕ, zero, suc, ◌+◌, ◌≡◌, Bool, true, ◌&&◌, eqb, length, get_or}
use mathlib.Core.List.{List, [], ◌∷◌, ◌++◌, map, Memᴰ}
use Rattle.octets.specs.Octets.{part}
use Rattle.protocol.specs.Layout.{entry_seat_at, entry_held_at, entry_length, entry_at}

-- the byte at an index; 0 past the end
abbrev pub byte_at : List ℕ → ℕ → ℕ
byte_at bytes i = get_or bytes i 0

-- a property of every element of a list
abbrev pub Each {ℓ} : {A : Type ℓ} → (A → Type 0) → List A → Type ℓ
Each {A = A} P xs = (x : A) → Memᴰ x xs → P x

-- the test holds of every index below t
unfoldable pub each_below : (ℕ → Bool) → ℕ → Bool
each_below test zero = true
each_below test (suc t) = each_below test t && test t

-- the form of a list: place of its first entry in the message; command of an entry, and number of bytes that it holds; an entry's seat and
-- bytes, and the entry made of a seat and bytes
pub record Form (A : Type 0) : Type 0 where
  pub start : ℕ
  pub command : ℕ
  pub held : ℕ
  pub seat : A → ℕ
  pub bytes : A → List ℕ
  pub make : ℕ → List ℕ → A

-- place of an entry, by its index from 0
unfoldable pub place_of : {A : Type 0} → Form A → ℕ → ℕ
place_of form i = entry_at form.start (entry_length form.held) i

-- entries of the form: each holds as many bytes as the form says, and is the one made of its seat and its bytes
abbrev pub Laid : {A : Type 0} → Form A → List A → Type 0
Laid {A = A} form es = Each (λ (e : A). (length (form.bytes e) ≡ form.held) × (form.make (form.seat e) (form.bytes e) ≡ e)) es

-- ---- the bytes of entries

unfoldable pub render_entry : {A : Type 0} → Form A → A → List ℕ
render_entry form e = form.command ∷ form.seat e ∷ [] ++ form.bytes e

unfoldable pub render_entries : {A : Type 0} → Form A → List A → List ℕ
render_entries form [] = []
render_entries form (e ∷ es) = render_entry form e ++ render_entries form es

-- ---- the entries in given bytes

-- the first t entries have their command
unfoldable pub entry_commands : {A : Type 0} → Form A → ℕ → List ℕ → Bool
entry_commands form t bytes = each_below (λ (i : ℕ). eqb (byte_at bytes (place_of form i)) form.command) t

-- the entry at a place
unfoldable pub read_entry : {A : Type 0} → Form A → ℕ → List ℕ → A
read_entry form at bytes = form.make (byte_at bytes (at + entry_seat_at)) (part (at + entry_held_at) form.held bytes)

-- the first t entries
unfoldable pub read_entries : {A : Type 0} → Form A → ℕ → List ℕ → List A
read_entries form zero bytes = []
read_entries form (suc t) bytes = read_entries form t bytes ++ read_entry form (place_of form t) bytes ∷ []

-- the seats, in the order of the entries
unfoldable pub form_seats : {A : Type 0} → Form A → List A → List ℕ
form_seats form es = map form.seat es
