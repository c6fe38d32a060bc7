-- Decimal digits as code writes them, and the length of a line.
-- Assumes nothing.
use Rattle.std.specs.Prelude.{◌≡◌, refl, List, [], ◌∷◌, ◌++◌, ℕ, zero, suc, ◌+◌, ◌/◌, ◌%◌, ◌^◌, ◌≤◌, ◌<◌, set, replicate}
use Rattle.std.specs.Fmt as Fmt
use Rattle.std.proofs.Common.{sym, ◌∙◌, zero-add, pow-suc, div-lt_iff_lt-mul, add-one, arith, lit<, lt-ltb, le-ltb}
use Rattle.std.proofs.Math.Decide.{dec_lt}
use Rattle.std.proofs.Math.ListN.{length, length-append}
use Rattle.std.proofs.lemmas.List.{length-replicate, set_split}
use Rattle.std.proofs.lemmas.Fmt.{decimal_by_steps}
use Rattle.octets.specs.Octets.{patch}
use Rattle.octets.specs.OctetsLaws.{patch-patch, length-patch}
use Rattle.yard.specs.Line.{digit, decimal_in, decimal, line, line_limit, in_space}

-- ---- digits

-- any bound that is enough gives the same
decimal_bound : (m k x : ℕ) → x ≤ m → x ≤ k → decimal_in m x ≡ decimal_in k x
unfolding decimal_in
decimal_bound zero zero x h l = refl
decimal_bound zero (suc k) x h l = rw (lt-ltb x 10 (omega arith))
decimal_bound (suc m) zero x h l = rw (lt-ltb x 10 (omega arith))
decimal_bound (suc m) (suc k) x h l = go (dec_lt x 10) (λ s. decimal_bound m k (x / 10) (omega arith) (omega arith))
  where
    go : Dec (x < 10) → (10 ≤ x → decimal_in m (x / 10) ≡ decimal_in k (x / 10)) → decimal_in (suc m) x ≡ decimal_in (suc k) x
    go (yes s) rest = rw (lt-ltb x 10 s)
    go (no s) rest = rw (le-ltb x 10 (omega arith), rest (omega arith))

decimal-small : (x : ℕ) → x < 10 → decimal x ≡ digit x ∷ []
unfolding decimal decimal_in
decimal-small zero h = refl
decimal-small (suc x) h = rw (lt-ltb (suc x) 10 h)

decimal-more : (x : ℕ) → 10 ≤ x → decimal x ≡ decimal (x / 10) ++ (digit (x % 10) ∷ [])
unfolding decimal decimal_in
decimal-more zero h = absurd (omega arith)
decimal-more (suc x) h = rw (le-ltb (suc x) 10 h, decimal_bound x (suc x / 10) (suc x / 10) (omega arith) (omega arith))

length-decimal : (k x : ℕ) → x < 10 ^ suc k → length (decimal x) ≤ suc k
length-decimal zero x h = rw (decimal-small x (omega arith)) (omega arith)
length-decimal (suc k) x h = go (dec_lt x 10) (length-decimal k (x / 10) ((div-lt_iff_lt-mul {k = 10} (lit< tt)).1 (rw pow-suc at h)))
  where
    go : Dec (x < 10) → length (decimal (x / 10)) ≤ suc k → length (decimal x) ≤ suc (suc k)
    go (yes s) rest = rw (decimal-small x s) (omega arith)
    go (no s) rest = rw (decimal-more x (omega arith), length-append) (omega arith)

-- the digits that the library prints
pub decimal_printed : (x : ℕ) → x < 2 ^ 64 → Fmt.decimal x ≡ decimal x
decimal_printed x h =
    decimal_by_steps (λ (n : ℕ) (digits : List ℕ). digits ≡ decimal n) (λ n s. sym (decimal-small n s)) (λ n digits s e. rw e (sym (decimal-more n s))) x h

-- ---- bytes written one after another

pub put_one : (at b : ℕ) (xs : List ℕ) → at < length xs → set xs at b ≡ patch at (b ∷ []) xs
unfolding patch
put_one at b xs h = set_split xs at b h ∙ rw add-one

-- ---- the line

-- the space of a line once us is written, and the index after it
pub record Text (us text : List ℕ) (at : ℕ) : Type 0 where
  pub held : text ≡ patch 0 us (replicate line_limit 0)
  pub next : at ≡ length us

pub text_first : (us text : List ℕ) (at : ℕ) → text ≡ patch 0 us (replicate line_limit 0) → at ≡ 0 + length us → Text us text at
text_first us text at e s = record { held = e; next = omega arith }

pub text_then : (us vs text text' : List ℕ) (at end : ℕ) → Text us text at → text' ≡ patch at vs text → end ≡ at + length vs → Text (us ++ vs) text' end
text_then us vs text text' at end h e s =
    record {
      held = e ∙ rw (h.held, h.next) (rw zero-add at (patch-patch 0 us vs (replicate line_limit 0) (omega arith)));
      next = rw length-append (omega (arith, h.next));
    }

text_fits : (us text : List ℕ) (at size : ℕ) → Text us text at → length us + size ≤ line_limit → at + size ≤ length text
text_fits us text at size h l =
    let long : length text ≡ line_limit = rw (h.held, length-patch 0 us (replicate line_limit 0) (rw length-replicate (omega arith)), length-replicate) in
    omega (arith, h.next)

module _ (number written : ℕ) (small : number < 4294967296) (little : written < 4294967296) where
  first : length (decimal number) ≤ 10
  first = length-decimal 9 number (omega arith)

  second : length (decimal written) ≤ 10
  second = length-decimal 9 written (omega arith)

  pub number_fits : 0 + length (decimal number) ≤ line_limit
  number_fits = omega (arith, first)

  module _ (text : List ℕ) (at : ℕ) (h : Text (decimal number) text at) where
    pub space_fits : at < length text
    space_fits = omega (arith, text_fits (decimal number) text at 1 h (omega (arith, first)))

  module _ (text : List ℕ) (at : ℕ) (h : Text (decimal number ++ (32 ∷ [])) text at) where
    pub written-fits : at + length (decimal written) ≤ length text
    written-fits = text_fits (decimal number ++ (32 ∷ [])) text at (length (decimal written)) h (rw length-append (omega (arith, first, second)))

  module _ (text : List ℕ) (at : ℕ) (h : Text (decimal number ++ (32 ∷ []) ++ decimal written) text at) where
    pub newline_fits : at < length text
    newline_fits =
        omega (arith, text_fits (decimal number ++ (32 ∷ []) ++ decimal written) text at 1 h (simp length-append (omega (arith, first, second))))

  pub line-whole : (text : List ℕ) (at : ℕ) → Text (decimal number ++ (32 ∷ []) ++ decimal written ++ (10 ∷ [])) text at
      → (record { text = text; length = at } ≡ in_space (line number written)) × (at ≤ length text)
  unfolding in_space line
  line-whole text at h =
      let us = decimal number ++ (32 ∷ []) ++ decimal written ++ (10 ∷ []) in
      let size : length us ≤ line_limit = simp length-append (omega (arith, first, second)) in
      (rw (h.held, h.next), omega (arith, text_fits us text at 0 h (omega arith)))
