-- The program's output, as it reads command by command into fixed buffers, is the one that `yard` gives for the whole input.
-- Assumes nothing.
use Rattle.std.specs.Prelude.{◌≡◌, Bool, true, false, eqb, ltb, leb, drop}
use Rattle.std.proofs.Math.Path.{refl, sym}
use Rattle.std.proofs.Common.{◌∙◌, arith, length-take, take_all, lt-ltb, le-ltb, le-leb}
use Rattle.std.proofs.Math.Bool.{cond}
use mathlib.Core.List.{List, [], ◌∷◌}
use Prim.Native.Nat.{ℕ, zero, suc, ◌+◌, ◌*◌, ◌≤◌, ◌<◌}
use Rattle.std.proofs.Math.Decide.{dec_lt, dec_le}
use Rattle.std.proofs.Math.ListN.{length, take, length-drop}
use Rattle.std.proofs.Math.Seq.{get_or-take, take-nil}
use Rattle.std.proofs.lemmas.Bool.{lt-leb}
use Rattle.protocol.specs.Layout.{signature_length, key_length}
use Rattle.protocol.specs.Message.{byte_at}
use Rattle.protocol.specs.Refusals.{Checks, short_out, record_conditions, submit_conditions, step_conditions}
use Rattle.protocol.specs.Calls.{submit, step}
use Rattle.protocol.specs.declared.Record.{Record}
use Rattle.yard.specs.Commands.{line_for, two_at, is_opening, too_many, keys_at, keys_of, opening_length, yard_out, begun, is_message, is_submit, message_at, own_signature_at, call_length, misframed_call, ended_by, called}
use Rattle.yard.specs.Yard.{printed, yard}
use Rattle.yard.specs.Program.{read_on, gathered, ran, program}

-- ---- a command's length, from its first bytes

cond_by : (b : Bool) (x y z : ℕ) → (b ≡ true → x ≡ y) → cond b x z ≡ cond b y z
cond_by true x y z h = h refl
cond_by false x y z h = refl

module _ (m : ℕ) (input : List ℕ) (some : 0 < m) where
  call-start : (is_message input ≡ true → message_at ≤ m) → call_length (take m input) ≡ call_length input
  unfolding call_length
  call-start h =
      rw (get_or-take m input 0 0 some)
      (cond_by (is_message input) (message_at + two_at (take m input) 1) (message_at + two_at input 1) _
      (λ e. rw (get_or-take m input 1 0 (omega (arith, h e)), get_or-take m input 2 0 (omega (arith, h e)))))

  opening-start : (is_opening input ≡ true → 2 ≤ m) → opening_length (take m input) ≡ opening_length input
  unfolding opening_length
  opening-start h =
      rw (get_or-take m input 0 0 some)
      (cond_by (is_opening input) (keys_at + cond (too_many (take m input)) 0 (key_length * byte_at (take m input) 1)) (keys_at + cond (too_many input) 0 (key_length * byte_at input 1)) 1
      (λ e. rw (get_or-take m input 1 0 (omega (arith, h e)))))

call_some : (input : List ℕ) → 1 ≤ call_length input
unfolding call_length
call_some input = go (is_message input) (is_submit input)
  where
    go : (b c : Bool) → 1 ≤ cond b (message_at + two_at input 1) (cond c (own_signature_at + signature_length) 1)
    go true c = omega arith
    go false true = omega arith
    go false false = omega arith

opening_some : (input : List ℕ) → 1 ≤ opening_length input
unfolding opening_length
opening_some input = go (is_opening input)
  where
    go : (b : Bool) → 1 ≤ cond b (keys_at + cond (too_many input) 0 (key_length * byte_at input 1)) 1
    go true = omega arith
    go false = omega arith

-- the length that a message's first byte tells
call_first : (b : ℕ) → eqb b 0x11 ≡ true → message_at ≤ call_length (b ∷ [])
unfolding call_length
call_first b e = rw e (omega arith)

call-grows : (b : ℕ) (rest : List ℕ) → call_length (b ∷ []) ≤ call_length (b ∷ rest)
unfolding call_length
call-grows b rest = go (eqb b 0x11) (eqb b 0x12)
  where
    go : (m s : Bool) → cond m message_at (cond s (own_signature_at + signature_length) 1) ≤ cond m (message_at + two_at (b ∷ rest) 1) (cond s (own_signature_at + signature_length) 1)
    go true s = omega arith
    go false true = omega arith
    go false false = omega arith

opening-grows : (b : ℕ) (rest : List ℕ) → opening_length (b ∷ []) ≤ opening_length (b ∷ rest)
unfolding opening_length
opening-grows b rest = go (eqb b 0x10)
  where
    go : (o : Bool) → cond o keys_at 1 ≤ cond o (keys_at + cond (too_many (b ∷ rest)) 0 (key_length * byte_at (b ∷ rest) 1)) 1
    go true = omega arith
    go false = omega arith

opening_first : (b : ℕ) → eqb b 0x10 ≡ true → keys_at ≤ opening_length (b ∷ [])
unfolding opening_length
opening_first b e = rw e (omega arith)

read_more : (input : List ℕ) (n m : ℕ) → n ≤ m → read_on (take n input) m input ≡ take m input
unfolding read_on
read_more input n m h = go (dec_le m (length (take n input)))
  where
    go : Dec (m ≤ length (take n input)) → cond (leb m (length (take n input))) (take n input) (take m input) ≡ take m input
    go (yes l) =
        let same : n ≡ m = omega (arith, length-take n input) in
        rw (le-leb m (length (take n input)) l, same)
    go (no l) = rw (lt-leb m (length (take n input)) (omega arith))

-- the first byte tells a length no longer than the whole one, and that many bytes tell the whole one
pub record Tells (size : List ℕ → ℕ) : Type 0 where
  pub some : (input : List ℕ) → 1 ≤ size input
  pub grows : (b : ℕ) (rest : List ℕ) → size (b ∷ []) ≤ size (b ∷ rest)
  pub tells : (b : ℕ) (rest : List ℕ) → size (take (size (b ∷ [])) (b ∷ rest)) ≡ size (b ∷ rest)

pub call-tells : Tells call_length
call-tells = record {
  some = call_some;
  grows = call-grows;
  tells = λ b rest. call-start (call_length (b ∷ [])) (b ∷ rest) (call_some (b ∷ [])) (λ e. call_first b e);
}

pub opening-tells : Tells opening_length
opening-tells = record {
  some = opening_some;
  grows = opening-grows;
  tells = λ b rest. opening-start (opening_length (b ∷ [])) (b ∷ rest) (opening_some (b ∷ [])) (λ e. omega (arith, opening_first b e));
}

-- reading in three parts comes to the command, as far as the input has it
pub gathered-whole : (size : List ℕ → ℕ) → Tells size → (input : List ℕ) → gathered size input ≡ take (size input) input
unfolding gathered
gathered-whole size told [] = sym (take-nil (size []))
gathered-whole size told (b ∷ rest) =
    rw (read_more (b ∷ rest) 1 (size (b ∷ [])) (told.some (b ∷ []))) (go (size (b ∷ [])) refl (dec_lt (length (take (size (b ∷ [])) (b ∷ rest))) (size (b ∷ []))))
  where
    go : (first : ℕ) → first ≡ size (b ∷ []) → Dec (length (take first (b ∷ rest)) < first)
        → cond (ltb (length (take first (b ∷ rest))) first) (take first (b ∷ rest)) (read_on (take first (b ∷ rest)) (size (take first (b ∷ rest))) (b ∷ rest))
        ≡ take (size (b ∷ rest)) (b ∷ rest)
    go first e (yes l) =
        let ended : length (b ∷ rest) ≤ first = omega (arith, length-take first (b ∷ rest)) in
        rw (lt-ltb (length (take first (b ∷ rest))) first l, take_all first (b ∷ rest) ended, take_all (size (b ∷ rest)) (b ∷ rest) (omega (arith, told.grows b rest)))
    go first e (no l) =
        rw (le-ltb (length (take first (b ∷ rest))) first (omega arith), e, told.tells b rest)
        (read_more (b ∷ rest) (size (b ∷ [])) (size (b ∷ rest)) (told.grows b rest))

-- ---- the run

-- a call depends on no byte of the out buffer
pub called-out : (checks : List ℕ → ℕ → Checks) (keys : List ℕ) (r : Record) (store out out' bytes : List ℕ) → length out ≡ length out'
    → called checks keys r store out bytes ≡ called checks keys r store out' bytes
unfolding called submit step submit_conditions step_conditions record_conditions short_out
called-out checks keys r store out out' bytes e = rw e

drop-taken : (n : ℕ) (xs : List ℕ) → drop (length (take n xs)) xs ≡ drop n xs
drop-taken zero xs = refl
drop-taken (suc n) [] = refl
drop-taken (suc n) (x ∷ xs) = drop-taken n xs

-- a call at the end of the input
called_none : (checks : List ℕ → ℕ → Checks) (keys : List ℕ) (r : Record) (store out : List ℕ) → called checks keys r store out [] ≡ ended_by r store []
unfolding called misframed_call call_length
called_none checks keys r store out = refl

module _ (checks : List ℕ → ℕ → Checks) (outs : ℕ → List ℕ) (long : (i : ℕ) → length (outs i) ≡ length yard_out) where
  printed_none : (count : ℕ) (keys : List ℕ) (r : Record) (store : List ℕ) → printed checks count keys r store [] ≡ []
  unfolding printed line_for
  printed_none zero keys r store = refl
  printed_none (suc count) keys r store = rw (take-nil (call_length []), called_none checks keys r store yard_out)

  ran_none : (limit : ℕ) (keys : List ℕ) (r : Record) (store : List ℕ) → ran checks outs limit keys r store [] ≡ []
  unfolding ran gathered line_for
  ran_none zero keys r store = refl
  ran_none (suc limit) keys r store = rw (called_none checks keys r store (outs limit))

  pub ran-printed : (limit count : ℕ) (keys : List ℕ) (r : Record) (store input : List ℕ) → length input ≤ limit → length input ≤ count
      → ran checks outs limit keys r store input ≡ printed checks count keys r store input
  unfolding ran printed
  ran-printed zero count keys r store [] h l = sym (printed_none count keys r store)
  ran-printed zero count keys r store (b ∷ rest) h l = absurd (omega arith)
  ran-printed (suc limit) zero keys r store [] h l = ran_none (suc limit) keys r store
  ran-printed (suc limit) zero keys r store (b ∷ rest) h l = absurd (omega arith)
  ran-printed (suc limit) (suc count) keys r store [] h l = ran_none (suc limit) keys r store ∙ sym (printed_none (suc count) keys r store)
  ran-printed (suc limit) (suc count) keys r store (b ∷ rest) h l =
      let input = b ∷ rest in
      let size = call_length input in
      let o = called checks keys r store yard_out (take size input) in
      let less : length (drop size input) ≤ length rest = rw length-drop (omega (arith, call_some input)) in
      rw (
        gathered-whole call_length call-tells input,
        drop-taken size input,
        called-out checks keys r store (outs limit) yard_out (take size input) (long limit),
        ran-printed limit count keys o.unit o.store (drop size input) (omega arith) (omega arith),
      )

  -- a limit of as many commands as the input has bytes is enough
  pub program_is_yard : (limit : ℕ) (input : List ℕ) → length input ≤ limit → program checks outs limit input ≡ yard checks input
  unfolding program yard
  program_is_yard limit input h =
      let size = opening_length input in
      let bytes = take size input in
      let less : length (drop size input) ≤ length input = rw length-drop (omega arith) in
      rw (
        gathered-whole opening_length opening-tells input,
        drop-taken size input,
        ran-printed limit (length input) (keys_of bytes) (begun bytes).unit (begun bytes).store (drop size input) (omega arith) (omega arith),
      )
