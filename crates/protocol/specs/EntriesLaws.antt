-- A test of every index below a bound. Lists of entries of any form: lengths; entries written and read back; entries read and
-- written back; what each entry brings.
-- Assumes nothing.
use Rattle.std.specs.Prelude.{◌≡◌, Bool, true, false, ◌↔◌, eqb, length, take, drop, get_or}
use Rattle.std.proofs.Math.Path.{refl, ap₂}
use Rattle.std.proofs.Common.{sym, ap, subst, ◌∙◌, eq-or-lt_of_le, le_of_suc-le-suc, take-suc}
use Rattle.std.proofs.Math.Bool.{and-false, and-eq-true_iff}
use Rattle.std.proofs.lemmas.Bool.{false≢true}
use Rattle.std.proofs.Math.Logic.{⊎_elim}
use mathlib.Core.List.Memᴰ
use mathlib.Core.List.{List, [], ◌∷◌, ◌++◌, append_assoc, append-nil, map, flat_map, Memᴰ}
use Prim.Native.Nat.{ℕ, zero, suc, ◌+◌, ◌*◌, ◌≤◌, ◌<◌}
use Rattle.std.proofs.Math.Nat.{add-zero, add_comm, mul-zero, mul-suc}
use Rattle.std.proofs.Math.Numerals.{add-one}
use native.Mathlib.Omega.{arith}
use Rattle.std.proofs.Math.ListN.{length-append, get_or-append}
use Rattle.std.proofs.Math.Seq.{take_at, drop_at, drop-cons, drop-drop, drop-nil, get_or-drop, append_snoc}
use Rattle.std.proofs.lemmas.List.{get_or_at}
use borrow.Author.Tests.{eqb-true, eq-eqb}
use Rattle.octets.specs.Octets.{part}
use Rattle.octets.specs.StringsLaws.{part-suc}
use Rattle.octets.specs.WriteLaws.{part-add}
use Rattle.protocol.specs.Layout.{entry_seat_at, entry_held_at, entry_length}
use Rattle.protocol.specs.Entries.{Each, each_below, Form, Laid, byte_at, place_of, render_entry, render_entries, entry_commands, read_entry, read_entries}

-- ---- a test of every index below a bound

module _ (test : ℕ → Bool) where
  -- one that fails spoils the whole
  pub each_not : (t n : ℕ) → t < n → test t ≡ false → each_below test n ≡ false
  unfolding each_below
  each_not t zero l e = absurd (omega arith)
  each_not t (suc n) l e =
      ⊎_elim
      (λ (q : t ≡ n). rw (← q, e) (and-false (each_below test t)))
      (λ (b : t < n). rw (each_not t n b e))
      (eq-or-lt_of_le (le_of_suc-le-suc l))

  pub each_at : (t n : ℕ) → t < n → each_below test n ≡ true → test t ≡ true
  each_at t n l h = go (test t) refl
    where
      go : (b : Bool) → test t ≡ b → b ≡ true
      go true e = refl
      go false e = absurd (false≢true (sym (each_not t n l e) ∙ h))

  pub each_all : (n : ℕ) → ((t : ℕ) → t < n → test t ≡ true) → each_below test n ≡ true
  unfolding each_below
  each_all zero h = refl
  each_all (suc n) h = rw (each_all n (λ t l. h t (omega arith)), h n (omega arith))

-- what a loop up to a bound has come to at index t
pub record Passed (test : ℕ → Bool) (bound t : ℕ) : Type 0 where
  pub within : t ≤ bound
  pub passed : each_below test t ≡ true

pub passed_none : {test : ℕ → Bool} {bound : ℕ} → Passed test bound 0
unfolding each_below
passed_none = record { within = omega arith; passed = refl }

module _ {test : ℕ → Bool} {bound t : ℕ} (p : Passed test bound t) where
  pub passed_next : t < bound → test t ≡ true → Passed test bound (t + 1)
  unfolding each_below
  passed_next l e = record { within = omega arith; passed = rw (add-one, p.passed, e) }

  pub passed_all : bound ≤ t → each_below test bound ≡ true
  passed_all l = let q : t ≡ bound = omega arith in rw q at p.passed

-- ---- lists of entries

-- the count, a byte between a front and the entries
pub byte_after : (front : List ℕ) (b : ℕ) (rest : List ℕ) (at : ℕ) → length front ≡ at → byte_at (front ++ b ∷ [] ++ rest) at ≡ b
byte_after front b rest at l = ap (λ (xs : List ℕ). get_or xs at 0) (append_snoc front b rest) ∙ get_or_at front b rest 0 at l

module _ {A : Type 0} (form : Form A) where
  pub entries_append : (xs ys : List A) → render_entries form (xs ++ ys) ≡ render_entries form xs ++ render_entries form ys
  unfolding render_entries
  entries_append [] ys = refl
  entries_append (x ∷ xs) ys = rw (entries_append xs ys) (sym (append_assoc (render_entry form x) (render_entries form xs) (render_entries form ys)))

  -- ---- lengths

  pub length-entry : (e : A) → length (form.bytes e) ≡ form.held → length (render_entry form e) ≡ entry_length form.held
  unfolding render_entry
  length-entry e h = simp length-append (omega arith)

  rest-laid : (e : A) (es : List A) → Laid form (e ∷ es) → Laid form es
  rest-laid e es h x d = h x (Memᴰ.tail d)

  pub length-entries : (es : List A) → Laid form es → length (render_entries form es) ≡ entry_length form.held * length es
  unfolding render_entries
  length-entries [] h = omega arith
  length-entries (e ∷ es) h =
      simp length-append (omega (arith, length-entry e (h e (Memᴰ.head refl)).0, length-entries es (rest-laid e es h)))

  pub length-read : (t : ℕ) (bytes : List ℕ) → length (read_entries form t bytes) ≡ t
  unfolding read_entries
  length-read zero bytes = refl
  length-read (suc t) bytes = simp length-append (omega (arith, length-read t bytes))

  -- the entry of an index among those read
  pub entry_at_lem : (t i : ℕ) (bytes : List ℕ) (d : A) → i < t → get_or (read_entries form t bytes) i d ≡ read_entry form (place_of form i) bytes
  unfolding read_entries
  entry_at_lem zero i bytes d h = absurd (omega arith)
  entry_at_lem (suc t) i bytes d h =
      let before = read_entries form t bytes in
      let last = read_entry form (place_of form t) bytes in
      let l = length-read t bytes in
      ⊎_elim
      (λ (e : i ≡ t). rw e (get_or_at before last [] d t l))
      (λ (b : i < t). get_or-append before (last ∷ []) d i (omega arith) ∙ entry_at_lem t i bytes d b)
      (eq-or-lt_of_le (le_of_suc-le-suc h))

  -- ---- entries written are read back the same

  -- the entries from index t on
  entries-drop : (t : ℕ) (es : List A) → Laid form es → drop (entry_length form.held * t) (render_entries form es) ≡ render_entries form (drop t es)
  unfolding render_entries
  entries-drop zero es h = rw mul-zero
  entries-drop (suc t) [] h = drop-nil (entry_length form.held * suc t)
  entries-drop (suc t) (e ∷ es) h =
      let each = entry_length form.held in
      let d : each * suc t ≡ each + each * t = mul-suc each t ∙ add_comm (each * t) each in
      rw (d, ← drop-drop (each * t) each (render_entry form e ++ render_entries form es), drop_at (render_entry form e) (render_entries form es) each (length-entry e (h e (Memᴰ.head refl)).0))
      (entries-drop t es (rest-laid e es h))

  laid_at : (es : List A) (t : ℕ) (d : A) → Laid form es → t < length es → (length (form.bytes (get_or es t d)) ≡ form.held) × (form.make (form.seat (get_or es t d)) (form.bytes (get_or es t d)) ≡ get_or es t d)
  laid_at [] t d h l = absurd (omega arith)
  laid_at (e ∷ es) zero d h l = h e (Memᴰ.head refl)
  laid_at (e ∷ es) (suc t) d h l = laid_at es t d (rest-laid e es h) (omega arith)

  -- bytes with the entries at their place
  module _ (bytes : List ℕ) (es : List A) (stand : drop form.start bytes ≡ render_entries form es) (laid : Laid form es) where
    entry-stands : (t : ℕ) (d : A) → t < length es → drop (place_of form t) bytes ≡ render_entry form (get_or es t d) ++ render_entries form (drop (suc t) es)
    unfolding place_of render_entries
    entry-stands t d l = rw (← drop-drop (entry_length form.held * t) form.start bytes, stand, entries-drop t es laid, drop-cons es t d l)

    module _ (t : ℕ) (l : t < length es) where
      abbrev the : A
      the = get_or es t (form.make 0 [])

      command_right : byte_at bytes (place_of form t) ≡ form.command
      unfolding render_entry
      command_right = rw (← add-zero (place_of form t), ← get_or-drop (place_of form t) bytes 0 0, entry-stands t (form.make 0 []) l)

      entry_read : read_entry form (place_of form t) bytes ≡ the
      unfolding read_entry part render_entry
      entry_read =
          let h = laid_at es t (form.make 0 []) laid l in
          let stands = entry-stands t (form.make 0 []) l in
          let seat : byte_at bytes (place_of form t + entry_seat_at) ≡ form.seat the = rw (← get_or-drop (place_of form t) bytes entry_seat_at 0, stands) in
          let held : part (place_of form t + entry_held_at) form.held bytes ≡ form.bytes the = rw (← drop-drop entry_held_at (place_of form t) bytes, stands, take_at (form.bytes the) (render_entries form (drop (suc t) es)) form.held h.0) in
          ap₂ form.make seat held ∙ h.1

    pub commands_right : (t : ℕ) → t ≤ length es → entry_commands form t bytes ≡ true
    unfolding entry_commands
    commands_right t l = each_all _ t (λ i b. eq-eqb _ form.command (command_right i (omega arith)))

    pub entries-read : (t : ℕ) → t ≤ length es → read_entries form t bytes ≡ take t es
    unfolding read_entries
    entries-read zero l = refl
    entries-read (suc t) l = rw (entries-read t (omega arith), entry_read t l) (sym (take-suc es t (form.make 0 []) l))

  -- ---- entries read are written back the same

  -- an entry has the seat and the bytes that it was made of
  abbrev pub Faithful : Type 0
  Faithful = (seat : ℕ) (bytes : List ℕ) → (form.seat (form.make seat bytes) ≡ seat) × (form.bytes (form.make seat bytes) ≡ bytes)

  module _ (faithful : Faithful) (bytes : List ℕ) where
    pub entry_back : (at : ℕ) → at + entry_length form.held ≤ length bytes → byte_at bytes at ≡ form.command
        → render_entry form (read_entry form at bytes) ≡ part at (entry_length form.held) bytes
    unfolding render_entry read_entry part
    entry_back at h e =
        let made = faithful (byte_at bytes (at + entry_seat_at)) (part (at + entry_held_at) form.held bytes) in
        rw (part-add at entry_held_at form.held bytes, part-suc at 1 bytes (omega arith), part-suc (suc at) 0 bytes (omega arith), made.0, made.1, e, add-one at)

    pub entries_back : (t : ℕ) → place_of form t ≤ length bytes → entry_commands form t bytes ≡ true
        → render_entries form (read_entries form t bytes) ≡ part form.start (entry_length form.held * t) bytes
    unfolding render_entries read_entries entry_commands each_below place_of part
    entries_back zero h c = rw mul-zero refl
    entries_back (suc t) h c =
        let each = entry_length form.held in
        let more : each * suc t ≡ each * t + each = mul-suc each t in
        let both = (and-eq-true_iff (entry_commands form t bytes) (eqb (byte_at bytes (place_of form t)) form.command)).0 c in
        entries_append (read_entries form t bytes) (read_entry form (place_of form t) bytes ∷ [])
        ∙ rw (
          entries_back t (omega arith) both.0,
          append-nil (render_entry form (read_entry form (place_of form t) bytes)),
          entry_back (place_of form t) (omega arith) (eqb-true (byte_at bytes (place_of form t)) form.command both.1),
          more,
          part-add form.start (each * t) each bytes,
        )

-- ---- what each entry brings, one after another

module _ {A B : Type 0} (f : A → List B) (P : B → Type 0) where
  pub each_flat : (xs : List A) → Each P (flat_map f xs) ↔ Each (λ (x : A). Each P (f x)) xs
  unfolding flat_map
  each_flat [] = (λ h x d. absurd (Memᴰ.not-nil d), λ h b m. absurd (Memᴰ.not-nil m))
  each_flat (y ∷ xs) =
      let rest = each_flat xs in (
        λ h x d b m.
            ⊎_elim
            (λ (e : x ≡ y). h b (Memᴰ.append_left (flat_map f xs) (subst (λ z. Memᴰ b (f z)) e m)))
            (λ t. rest.0 (λ c l. h c (Memᴰ.append_right (f y) l)) x t b m)
            (Memᴰ.cases_cons d),
        λ h b m. ⊎_elim (λ l. h y (Memᴰ.head refl) b l) (λ r. rest.1 (λ x d. h x (Memᴰ.tail d)) b r) (Memᴰ.append_cases (f y) m),
      )

-- two ways to make an element, the same for each of a list
pub map_same : {A B : Type 0} (f g : A → B) (xs : List A) → Each (λ (x : A). f x ≡ g x) xs → map f xs ≡ map g xs
map_same f g [] h = refl
map_same f g (x ∷ xs) h = ap₂ ◌∷◌ (h x (Memᴰ.head refl)) (map_same f g xs (λ y d. h y (Memᴰ.tail d)))
