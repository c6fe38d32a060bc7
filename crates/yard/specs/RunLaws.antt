-- The lines of a run are those that `yard` gives for its input.
-- Assumes nothing.
use Rattle.std.specs.Prelude.{◌≡◌, Bool, true, false, not, cond, List, [], ◌∷◌, ◌++◌, ℕ, suc, ◌≤◌, eqb, take, drop}
use Rattle.std.proofs.Math.Path.{refl}
use Rattle.std.proofs.Common.{sym, ap, ◌∙◌, append_assoc, append-nil, arith, length-take}
use Rattle.std.proofs.Math.ListN.{length, length-append}
use Rattle.std.proofs.lemmas.List.{take-append-le}
use Rattle.std.proofs.Math.Seq.{take-append_seam, drop-append_seam}
use Rattle.protocol.specs.Refusals.{Checks}
use Rattle.protocol.specs.declared.Record.{Record}
use Rattle.protocol.specs.declared.Opened.{Opened}
use Rattle.yard.specs.Commands.{Outcome, keys_of, opening_length, misframed_opening, refused_opening, opened, yard_out, begun, call_length, misframed_call, ended_by, called}
use Rattle.yard.specs.Yard.{printed, yard}
use Rattle.yard.specs.CommandsLaws.{framed-opening, framed-call}
use Rattle.yard.specs.Program.{gathered}
use Rattle.yard.specs.ProgramLaws.{Tells, call-tells, opening-tells, gathered-whole, called-out, ran-printed}
use Rattle.yard.specs.Run.{Reached, begins, follows, Ran, stops, goes}

-- ---- whole commands

module _ (size : List ℕ → ℕ) (t : Tells size) where
  taken_own : (bytes : List ℕ) → gathered size bytes ≡ bytes → take (size bytes) bytes ≡ bytes
  taken_own bytes g = sym (gathered-whole size t bytes) ∙ g

  size-own : (bytes : List ℕ) → gathered size bytes ≡ bytes → size bytes ≤ length bytes → length bytes ≡ size bytes
  size-own bytes g h = omega (arith, length-take (size bytes) bytes, ap length (taken_own bytes g))

  -- bytes after it change nothing
  size-rest : (bytes rest : List ℕ) → length bytes ≡ size bytes → size (bytes ++ rest) ≡ length bytes
  size-rest [] rest e = absurd (omega (arith, t.some []))
  size-rest (b ∷ more) rest e =
      sym (t.tells b (more ++ rest)) ∙ ap size (take-append-le (size (b ∷ [])) (b ∷ more) rest (omega (arith, t.grows b more))) ∙ t.tells b more ∙ sym e

  taken-rest : (bytes rest : List ℕ) → length bytes ≡ size bytes → take (size (bytes ++ rest)) (bytes ++ rest) ≡ bytes
  taken-rest bytes rest e = rw (size-rest bytes rest e) (take-append_seam bytes rest)

  dropped_rest : (bytes rest : List ℕ) → length bytes ≡ size bytes → drop (size (bytes ++ rest)) (bytes ++ rest) ≡ rest
  dropped_rest bytes rest e = rw (size-rest bytes rest e) (drop-append_seam bytes rest)

whole-call : (checks : List ℕ → ℕ → Checks) (keys : List ℕ) (r : Record) (store out bytes : List ℕ) → gathered call_length bytes ≡ bytes
    → (called checks keys r store out bytes).ends ≡ false → length bytes ≡ call_length bytes
unfolding called
whole-call checks keys r store out bytes g h = size-own call_length call-tells bytes g (framed-call bytes (framed (misframed_call bytes) _ h))
  where
    framed : (b : Bool) (o : Outcome) → (cond b (ended_by r store bytes) o).ends ≡ false → b ≡ false
    framed true o e = e
    framed false o e = refl

whole-opening : (bytes : List ℕ) → gathered opening_length bytes ≡ bytes → (begun bytes).ends ≡ false → length bytes ≡ opening_length bytes
unfolding begun opened
whole-opening bytes g h = size-own opening_length opening-tells bytes g (framed-opening bytes (framed (misframed_opening bytes) _ h))
  where
    framed : (b : Bool) (o : Opened) → not (eqb (cond b (refused_opening 9) o).number 0) ≡ false → b ≡ false
    framed true o e = e
    framed false o e = refl

-- ---- the lines of a run, by `printed` and `yard`

module _ (checks : List ℕ → ℕ → Checks) where
  printed-enough : (m n : ℕ) (keys : List ℕ) (r : Record) (store input : List ℕ) → length input ≤ m → length input ≤ n
      → printed checks m keys r store input ≡ printed checks n keys r store input
  printed-enough m n keys r store input h l =
      sym (ran-printed checks (λ i. yard_out) (λ i. refl) m m keys r store input h h) ∙ ran-printed checks (λ i. yard_out) (λ i. refl) m n keys r store input h l

  module _ (keys : List ℕ) (r : Record) (store out bytes : List ℕ) (long : length out ≡ length yard_out) where
    abbrev o : Outcome
    o = called checks keys r store out bytes

    printed-call : (n : ℕ) (input rest : List ℕ) → take (call_length input) input ≡ bytes → drop (call_length input) input ≡ rest
        → printed checks (suc n) keys r store input
        ≡ o.line ++ cond o.ends [] (printed checks n keys o.unit o.store rest)
    unfolding printed
    printed-call n input rest t d = rw (t, d, called-out checks keys r store out yard_out bytes long)

    module _ (g : gathered call_length bytes ≡ bytes) where
      printed-on : o.ends ≡ false → (rest : List ℕ)
          → printed checks (length (bytes ++ rest)) keys r store (bytes ++ rest)
          ≡ o.line ++ printed checks (length rest) keys o.unit o.store rest
      printed-on h rest =
          let whole = whole-call checks keys r store out bytes g h in
          let size = length (bytes ++ rest) in
          let enough : length rest ≤ size = rw length-append (omega arith) in
          printed-enough size (suc size) keys r store (bytes ++ rest) (omega arith) (omega arith)
          ∙ printed-call size (bytes ++ rest) rest (taken-rest call_length call-tells bytes rest whole) (dropped_rest call_length call-tells bytes rest whole)
          ∙ rw (h, printed-enough size (length rest) keys o.unit o.store rest enough (omega arith))

      printed_last : o.ends ≡ true → printed checks (length bytes) keys r store bytes ≡ o.line
      printed_last h =
          printed-enough (length bytes) (suc (length bytes)) keys r store bytes (omega arith) (omega arith)
          ∙ printed-call (length bytes) bytes _ (taken_own call_length call-tells bytes g) refl
          ∙ rw (h, append-nil)

  module _ (keys : List ℕ) (r₀ : Record) (store₀ out₀ : List ℕ) (long : length out₀ ≡ length yard_out) where
    reached_prints : {input lines : List ℕ} {e : Bool} {r : Record} {store out : List ℕ} → Reached checks keys r₀ store₀ out₀ input lines e r store out → e ≡ false
        → (rest : List ℕ) → printed checks (length (input ++ rest)) keys r₀ store₀ (input ++ rest) ≡ lines ++ printed checks (length rest) keys r store rest
    reached_prints begins h rest = refl
    reached_prints (follows {input = input} {lines = lines} {r = r} {store = store} {out = out} before l bytes g) h rest =
        rw (append_assoc input bytes rest, reached_prints before refl (bytes ++ rest), printed-on keys r store out bytes (l ∙ long) g h rest)
        (sym (append_assoc lines (called checks keys r store out bytes).line _))

    ended_prints : {input lines : List ℕ} {e : Bool} {r : Record} {store out : List ℕ} → Reached checks keys r₀ store₀ out₀ input lines e r store out → e ≡ true
        → printed checks (length input) keys r₀ store₀ input ≡ lines
    ended_prints begins h = let z : ◌≡◌ {A = ℕ} 0 1 = cc in absurd (omega arith)
    ended_prints (follows {r = r} {store = store} {out = out} before l bytes g) h =
        rw (reached_prints before refl bytes, printed_last keys r store out bytes (l ∙ long) g h)

  pub ran_is_yard : {input lines : List ℕ} {e : Bool} {last : Record} → Ran checks input lines e last → e ≡ true → yard checks input ≡ lines
  unfolding yard
  ran_is_yard (stops bytes g s) h = rw (taken_own opening_length opening-tells bytes g, s, append-nil)
  ran_is_yard (goes {input = input} {lines = lines} bytes g s reached) h =
      let whole = whole-opening bytes g s in
      let enough : length input ≤ length (bytes ++ input) = rw length-append (omega arith) in
      rw (
        taken-rest opening_length opening-tells bytes input whole,
        dropped_rest opening_length opening-tells bytes input whole,
        s,
        printed-enough (length (bytes ++ input)) (length input) (keys_of bytes) (begun bytes).unit (begun bytes).store input enough (omega arith),
        ended_prints (keys_of bytes) (begun bytes).unit (begun bytes).store yard_out refl reached h,
      )
