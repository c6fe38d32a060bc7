-- Laws of a buffer after reading.
-- Assumes nothing.
use Rattle.std.specs.Prelude.{◌≡◌, Bool, true, false, List, [], ◌∷◌, ℕ, zero, suc, ◌≤◌, ◌<◌, take}
use Rattle.std.proofs.Math.Path.{refl}
use Rattle.std.proofs.Common.{sym, ap, ◌∙◌, arith, length-take, take_all, take-take}
use Rattle.yard.specs.Program.{gathered}
use Rattle.yard.specs.ProgramLaws.{Tells, call-tells, opening-tells, gathered-whole}
use Rattle.yard_io.specs.Reading.{room, size_of, ReadOn, Command}

pub room_some : (first : Bool) (size : ℕ) → room first ≤ size → 1 ≤ size
room_some true size h = omega arith
room_some false size h = omega arith

tells : (first : Bool) → Tells (size_of first)
tells true = opening-tells
tells false = call-tells

take_less : (n m : ℕ) (xs ys : List ℕ) → n ≤ m → take m xs ≡ take m ys → take n xs ≡ take n ys
take_less n m xs ys h e = sym (take-take n m xs h) ∙ ap (take n) e ∙ take-take n m ys h

module _ (size : List ℕ → ℕ) (t : Tells size) where
  grows-take : (h : ℕ) (xs : List ℕ) → 1 ≤ h → size (take 1 xs) ≤ size (take h xs)
  grows-take zero xs l = absurd (omega arith)
  grows-take (suc h) [] l = omega arith
  grows-take (suc h) (b ∷ rest) l = t.grows b (take h rest)

  tells-take : (h r : ℕ) (xs : List ℕ) → h ≡ size (take 1 xs) → h ≤ r → size (take r xs) ≡ size (take h xs)
  tells-take zero r xs e l = absurd (omega (arith, t.some (take 1 xs)))
  tells-take (suc h) zero xs e l = absurd (omega arith)
  tells-take (suc h) (suc r) [] e l = refl
  tells-take (suc h) (suc r) (b ∷ rest) e l =
      sym (t.tells b (take r rest)) ∙ ap size (ap (λ (n : ℕ). take n (b ∷ take r rest)) (sym e) ∙ take-take (suc h) (suc r) (b ∷ rest) l)

  own : (have : ℕ) (xs : List ℕ) → have ≤ size (take have xs) → gathered size (take have xs) ≡ take have xs
  own have xs h = gathered-whole size t (take have xs) ∙ take_all (size (take have xs)) (take have xs) (omega (arith, length-take have xs))

-- the returns of `read_command`, by the buffer after each of its reads
module _ (first : Bool) where
  pub command_none : {s₁ : List ℕ} → Command first 0 s₁
  unfolding gathered
  command_none = record { there = omega arith; alone = refl }

  module _ {one start have : ℕ} {s₁ s₂ : List ℕ} (only : one ≡ 1) (told : start ≡ size_of first (take one s₁)) (second : ReadOn one start have s₁ s₂) where
    same : take 1 s₂ ≡ take 1 s₁
    same = rw (← only) second.stays

    first_told : start ≡ size_of first (take 1 s₂)
    first_told = told ∙ ap (λ (n : ℕ). size_of first (take n s₁)) only ∙ ap (size_of first) (sym same)

    pub command-short : have < start → Command first have s₂
    command-short h = record {
      there = second.there;
      alone = own (size_of first) (tells first) have s₂ (omega (arith, second.more, first_told, grows-take (size_of first) (tells first) have s₂ (omega (arith, second.more))));
    }

    pub command-whole : {whole r : ℕ} {s₃ : List ℕ} → start ≤ have → whole ≡ size_of first (take have s₂) → ReadOn have whole r s₂ s₃ → Command first r s₃
    command-whole {whole = whole} {r = r} {s₃ = s₃} h length-told third =
        let some = (tells first).some (take 1 s₂) in
        let at-start : have ≡ start = omega (arith, second.most, first_told) in
        let there : have ≡ size_of first (take 1 s₃) =
        at-start ∙ first_told ∙ ap (size_of first) (take_less 1 have s₂ s₃ (omega (arith, second.more)) (sym third.stays)) in
        let size : size_of first (take r s₃) ≡ whole =
        tells-take (size_of first) (tells first) have r s₃ there third.more ∙ ap (size_of first) third.stays ∙ sym length-told in
        record {
          there = third.there;
          alone = own (size_of first) (tells first) r s₃
              (omega (arith, third.most, third.more, size, grows-take (size_of first) (tells first) r s₃ (omega (arith, second.more, third.more)), there));
        }
