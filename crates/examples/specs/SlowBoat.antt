-- A boat that submits after two others (document 02, item 1): the premises of `claims/specs/Gain` can be met, and each is needed but the
-- store's room, which follows from the submit's. With
-- the toy signature check it is computed that the submit isn't refused, and what a boat writes that lacks a seat; all else is deduced.
-- Assumes nothing.
use Rattle.std.specs.Prelude.{ℕ, zero, suc, ◌≤◌, ◌<◌, ◌≡◌, refl, true, length, replicate}
use Rattle.std.proofs.Common.{sym, ap, subst, ◌∙◌, inl, inr, arith, eq-eqb, leb-true}
use mathlib.Core.List.Memᴰ
use mathlib.Core.List.{List, [], ◌∷◌, ◌++◌, Memᴰ}
use Rattle.std.specs.Int.Count.{ones}
use Rattle.std.proofs.lemmas.List.{length-replicate}
use Rattle.quorum.specs.Quorum.{t0, k, bit, In}
use Rattle.protocol.specs.Layout.{signature_length, store_length, out_length}
use Rattle.protocol.specs.Message.{Submit, Notice, Signed, render, signed, WellFormed}
use Rattle.protocol.specs.MessageLaws.{read-render}
use Rattle.protocol.specs.Calls.{opening}
use Rattle.protocol.specs.declared.Record.{Record}
use Rattle.round.specs.Round.{Call, ByStep, Boat, Called, IsHonest, result_of, list_from, StandsIn, written_in}
use Rattle.reading.specs.UnbrokenLaws.{unbroken-list, unbroken-honest}
use Rattle.claims.specs.Parts.{in_below}
use Rattle.claims.specs.Gain.{GivesGood, FirstIs, SubmitsAfter, confirms_in_that_call}
use Rattle.trials.specs.Toy.{layout, sign, submit_by}
use Rattle.trials.specs.Tests.{message_in, given-message, all}
use Rattle.trials.specs.Trials.{unfolded_trials, four, room, says, hears, boat_at}

-- ---- a step given a seat's SUBMIT of the layout 7

abbrev heard : ℕ → Record → List ℕ → Called
heard seat r store = record { given = hears (submit_by seat 7); unit = r; store = store }

formed : (seat : ℕ) → WellFormed 4 (submit_by seat 7)
unfolding signature_length
formed seat = (omega arith, refl, refl)

gives : (seat : ℕ) (r : Record) (store : List ℕ) → seat < 4 → store_length 4 ≤ length store → GivesGood four (heard seat r store) seat (layout 7)
gives seat r store inside store_room = record {
  bytes = render (submit_by seat 7);
  out = room;
  signature = sign seat 7;
  is_step = inl refl;
  store_room = store_room;
  out_room = omega (arith, length-replicate {A = ℕ} (out_length 4) 0);
  inside = inside;
  reads = read-render 4 (submit_by seat 7) (formed seat);
  checked = rw (eq-eqb seat seat refl);
}

-- it gives no other layout
gives-seven : (seat : ℕ) (r : Record) (store : List ℕ) (s : ℕ) (other : List ℕ) → GivesGood four (heard seat r store) s other → other ≡ layout 7
unfolding signed message_in
gives-seven seat r store s other g =
    let same : signed (submit_by seat 7) ≡ signed (Submit 5 s other g.signature) =
    sym (ap signed (read-render 4 (submit_by seat 7) (formed seat))) ∙ ap signed (given-message 4 (hears (submit_by seat 7)) g.bytes g.out g.is_step ∙ g.reads) in
    ap (λ (x : Signed). x.value) (Memᴰ.eq_of_singleton (subst (Memᴰ (record { seat = s; value = other; signature = g.signature })) (sym same) (Memᴰ.head refl)))

-- ---- the boat

abbrev calls : List Call
calls = hears (submit_by 1 7) ∷ hears (submit_by 2 7) ∷ says 0 7 ∷ []

abbrev boat : Boat
boat = boat_at 0 calls

honest : IsHonest four boat
unfolding unfolded_trials
honest = unbroken-honest four 0 boat.store calls [] refl

abbrev next : Called → Call → Called
next t c = record { given = c; unit = (result_of four t).unit; store = (result_of four t).store }

abbrev first : Called
first = heard 1 (opening 4 0 5 four.keys).unit boat.store

abbrev second : Called
second = next first (hears (submit_by 2 7))

abbrev own : Called
own = next second (says 0 7)

own-unrefused : (result_of four own).refusal ≡ 0
unfolding unfolded_trials
own-unrefused = refl

second-room : store_length 4 ≤ length second.store
unfolding unfolded_trials
second-room = leb-true 17552 (length second.store) refl

given : (seat : ℕ) → In seat 0b0110 → FirstIs four seat (layout 7) (first ∷ second ∷ [])
unfolding FirstIs bit
given zero i = absurd (omega arith)
given (suc zero) i = inl (gives 1 first.unit first.store (omega arith) (omega (arith, length-replicate {A = ℕ} (store_length 4) 1)))
given (suc (suc zero)) i = inr (gives-seven 1 first.unit first.store 2, inl (gives 2 second.unit second.store (omega arith) second-room))
given (suc (suc (suc s))) i = absurd (omega (arith, in_below 3 (suc (suc (suc s))) 0b0110 (omega arith) i))

submits_after : SubmitsAfter four boat
unfolding list_from ones t0 k bit
submits_after = record {
  before = first ∷ second ∷ [];
  call = own;
  after = [];
  split = unbroken-list four 0 boat.store calls [];
  submits = record { layout = layout 7; signature = sign 0 7; out = room; carries = refl; unrefused = own-unrefused };
  others = 0b0110;
  apart = refl;
  enough = omega arith;
  given = given;
}

-- it confirms in the call of its submit
pub slow-boat-confirms : ((result_of four own).unit.confirmed ≡ true) × StandsIn 4 (Notice 5 0 (layout 7)) (written_in four own)
unfolding submits_after
slow-boat-confirms = confirms_in_that_call four boat honest submits_after

-- ---- need of the premises

-- k − 1 is 2. The first call gives one such seat, and each further SUBMIT of the layout 7 would give a second one but for one premise. Room
-- in the store has no call here: the store stays as long as it is, so one too short for a step has the submit refused.
abbrev one_fewer : List Call
one_fewer =
    hears (submit_by 1 7)
    -- the own seat
    ∷ hears (submit_by 0 7)
    -- a seat outside the fleet
    ∷ hears (submit_by 4 7)
    -- another round
    ∷ hears (Submit 6 2 (layout 7) (sign 2 7))
    -- a signature that doesn't check
    ∷ hears (Submit 5 2 (layout 7) (sign 2 9))
    -- an out that is a byte short
    ∷ ByStep (render (submit_by 2 7)) (replicate 14836 0)
    -- a good SUBMIT of the seat, but its second
    ∷ hears (submit_by 2 9)
    ∷ hears (submit_by 2 7)
    ∷ []

-- the boat writes its SUBMIT and doesn't confirm
one_fewer_lem : all four (boat_at 0 (one_fewer ++ says 0 7 ∷ [])) ≡ submit_by 0 7 ∷ []
unfolding unfolded_trials
one_fewer_lem = refl
