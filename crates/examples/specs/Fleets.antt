-- Fleets that double signers split, with RFC 8554's check, keys by our key maker and signatures by our signer. For the fleets of 4
-- and of 7 the sets of seats and their sizes are computed; all else is deduced, for any seeds, identifiers, randomizers, rounds and
-- layouts.
-- Assumes nothing.
use Rattle.std.specs.Prelude.{ℕ, ◌≤◌, ◌<◌, ◌^◌, not, ◌≡◌, refl, Bool, true, false, List, [], ◌≢◌, length, replicate}
use Rattle.std.proofs.Common.{sym, ap, ◌∙◌, arith}
use Rattle.std.specs.Int.Count.{ones}
use Rattle.std.proofs.lemmas.List.{length-replicate}
use Rattle.quorum.specs.Quorum.{t0, k, bit, size, In, shared, seats}
use Rattle.protocol.specs.Layout.{signature_length, value_length, store_length, out_length}
use Rattle.protocol.specs.Message.{byte_at}
use Rattle.protocol.specs.Record.{last_round}
use Rattle.round.specs.Round.{Each}
use Rattle.reading.specs.ListsLaws.{each_nil}
use Rattle.claims.specs.CertificatesLaws.{seats_in-set}
use Rattle.claims.specs.Parts.{in_below}
use Rattle.claims.specs.Claim.{setting}
use Rattle.trials.specs.Trials.{at_two, Three, Zeroth, First, Second, at_three}
use Rattle.examples.specs.Split.{Role, Fleet, Fits, Plan, Split}
use Rattle.examples.specs.SplitProof.{split}
use Rattle.examples.specs.MadeKeys.{Material, Stated, made_keys, made_signature, made_table, signature-sized, signature-checks}

-- a leader's role: it hears all signers of its layout
abbrev leading : ℕ → ℕ → Bool → ℕ → Role
leading n seat side signers = record { seat = seat; side = side; hears = seats n signers }

-- ---- a fleet of 4: seats 2 and 3 sign both layouts, seats 0 and 1 are honest

abbrev pub signers_of4 : Bool → ℕ
signers_of4 false = 0b1101
signers_of4 true = 0b1110

abbrev pub role_of4 : Bool → Role
role_of4 false = leading 4 0 false 0b1101
role_of4 true = leading 4 1 true 0b1110

abbrev pub fleet_of4 : Fleet Bool
fleet_of4 = record { signers = signers_of4; role = role_of4; leader = λ side. side }

fits_4 : Fits 4 fleet_of4
unfolding ones t0 k bit
fits_4 = record {
  some = omega arith;
  most = omega arith;
  below = below;
  enough = enough;
  apart = λ i j d e. d (sym (at i) ∙ ap at_two e ∙ at j);
  signs = signs;
  once = once;
  hears_signers = hears_signers;
  leads = leads;
  hears_all = hears_all;
}
  where
    at : (i : Bool) → at_two (role_of4 i).seat ≡ i
    at false = refl
    at true = refl

    below : (side : Bool) → fleet_of4.signers side < 2 ^ 4
    below false = omega arith
    below true = omega arith

    enough : (side : Bool) → size (fleet_of4.signers side) ≡ k 4
    enough false = refl
    enough true = refl

    signs : (i : Bool) → In (fleet_of4.role i).seat (fleet_of4.signers (fleet_of4.role i).side)
    signs false = refl
    signs true = refl

    once : (i : Bool) → bit (fleet_of4.role i).seat (fleet_of4.signers (not (fleet_of4.role i).side)) ≡ 0
    once false = refl
    once true = refl

    hears_signers : (i : Bool) → Each (λ s. In s (fleet_of4.signers (fleet_of4.role i).side)) (fleet_of4.role i).hears
    hears_signers false = seats_in-set 4 0b1101
    hears_signers true = seats_in-set 4 0b1110

    leads : (side : Bool) → (fleet_of4.role (fleet_of4.leader side)).side ≡ side
    leads false = refl
    leads true = refl

    hears_all : (side : Bool) → (fleet_of4.role (fleet_of4.leader side)).hears ≡ seats 4 (fleet_of4.signers side)
    hears_all false = refl
    hears_all true = refl

-- the double signers, whom the evidence names
pub twice_of_4 : shared (signers_of4 false) (signers_of4 true) ≡ 0b1100
unfolding shared
twice_of_4 = refl

-- ---- a fleet of 7: seats 4, 5 and 6 sign both layouts, and beside the leaders a third honest unit submits, which hears no other's
-- SUBMIT. A split takes n − 2 t0 double signers or more, so that 2 t0 units at most are honest: with fewer than 7 seats no third one.

abbrev pub signers_of7 : Bool → ℕ
signers_of7 false = 0b1110101
signers_of7 true = 0b1111010

abbrev pub role_of7 : Three → Role
role_of7 Zeroth = leading 7 0 false 0b1110101
role_of7 First = leading 7 1 true 0b1111010
role_of7 Second = record { seat = 2; side = false; hears = [] }

abbrev leader_of7 : Bool → Three
leader_of7 false = Zeroth
leader_of7 true = First

abbrev pub fleet_of7 : Fleet Three
fleet_of7 = record { signers = signers_of7; role = role_of7; leader = leader_of7 }

fits_7 : Fits 7 fleet_of7
unfolding ones t0 k bit
fits_7 = record {
  some = omega arith;
  most = omega arith;
  below = below;
  enough = enough;
  apart = λ i j d e. d (sym (at i) ∙ ap at_three e ∙ at j);
  signs = signs;
  once = once;
  hears_signers = hears_signers;
  leads = leads;
  hears_all = hears_all;
}
  where
    at : (i : Three) → at_three (role_of7 i).seat ≡ i
    at Zeroth = refl
    at First = refl
    at Second = refl

    below : (side : Bool) → fleet_of7.signers side < 2 ^ 7
    below false = omega arith
    below true = omega arith

    enough : (side : Bool) → size (fleet_of7.signers side) ≡ k 7
    enough false = refl
    enough true = refl

    signs : (i : Three) → In (fleet_of7.role i).seat (fleet_of7.signers (fleet_of7.role i).side)
    signs Zeroth = refl
    signs First = refl
    signs Second = refl

    once : (i : Three) → bit (fleet_of7.role i).seat (fleet_of7.signers (not (fleet_of7.role i).side)) ≡ 0
    once Zeroth = refl
    once First = refl
    once Second = refl

    hears_signers : (i : Three) → Each (λ s. In s (fleet_of7.signers (fleet_of7.role i).side)) (fleet_of7.role i).hears
    hears_signers Zeroth = seats_in-set 7 0b1110101
    hears_signers First = seats_in-set 7 0b1111010
    hears_signers Second = each_nil (λ s. In s 0b1110101)

    leads : (side : Bool) → (fleet_of7.role (fleet_of7.leader side)).side ≡ side
    leads false = refl
    leads true = refl

    hears_all : (side : Bool) → (fleet_of7.role (fleet_of7.leader side)).hears ≡ seats 7 (fleet_of7.signers side)
    hears_all false = refl
    hears_all true = refl

pub twice_of_7 : shared (signers_of7 false) (signers_of7 true) ≡ 0b1110000
unfolding shared
twice_of_7 = refl

-- ---- fleets with keys and signatures made

module _ (round : ℕ) (layout : Bool → List ℕ) (M : Material) (store out : List ℕ) where
  abbrev pub plan_with : {I : Type 0} → Fleet I → Plan I
  plan_with F = record { fleet = F; layout = layout; signature = made_signature M round layout; store = store; out = out }

  module _ (early : round ≤ last_round) (layouts : (side : Bool) → length (layout side) ≡ value_length) (different : layout false ≢ layout true) (stated : Stated M) where
    -- any fleet
    pub split-made : (n : ℕ) {I : Type 0} (F : Fleet I) → Fits n F → store_length n ≤ length store → out_length n ≤ length out → Split (setting n round (made_keys M n)) (plan_with F)
    split-made n F fits store_room out_room =
        split (setting n round (made_keys M n)) (plan_with F)
        (record {
          fits = fits;
          early = early;
          table = made_table M stated n;
          store_room = store_room;
          out_room = out_room;
          layouts = layouts;
          different = different;
          sized = λ side s i. signature-sized M stated round early layout layouts side s;
          checked = λ side s i. signature-checks M stated round early layout layouts n side s (in_below n s (F.signers side) (fits.below side) i);
        })

    pub fleet_of_4 : store_length 4 ≤ length store → out_length 4 ≤ length out → Split (setting 4 round (made_keys M 4)) (plan_with fleet_of4)
    fleet_of_4 = split-made 4 fleet_of4 fits_4

    pub fleet_of_7 : store_length 7 ≤ length store → out_length 7 ≤ length out → Split (setting 7 round (made_keys M 7)) (plan_with fleet_of7)
    fleet_of_7 = split-made 7 fleet_of7 fits_7

-- ---- a fleet of 7 without assumptions: zeros for material, and layouts of the bytes 7 and 9

abbrev zeros : ℕ → List ℕ
zeros n = replicate n 0

length-repeated : (n b : ℕ) → length (replicate n b) ≡ n
length-repeated n b = length-replicate {A = ℕ} n b

room : (n m : ℕ) → m ≤ n → m ≤ length (zeros n)
room n m h = rw (length-repeated n 0) h

abbrev pub plain : Material
plain = record { seed = λ s. zeros 32; identifier = λ s. zeros 16; tree = λ s. zeros 65536; randomizer = λ side s. zeros 32; key_out = zeros 56; sign_out = zeros signature_length }

plain-stated : Stated plain
plain-stated = record {
  seeds = λ s. length-repeated 32 0;
  identifiers = λ s. length-repeated 16 0;
  trees = λ s. length-repeated 65536 0;
  randomizers = λ side s. length-repeated 32 0;
  key_room = room 56 56 (omega arith);
  sign_room = room signature_length signature_length (omega arith);
}

abbrev pub seven_or_nine : Bool → List ℕ
seven_or_nine false = replicate 32 7
seven_or_nine true = replicate 32 9

seven_or_nine-sized : (side : Bool) → length (seven_or_nine side) ≡ value_length
seven_or_nine-sized false = length-repeated 32 7
seven_or_nine-sized true = length-repeated 32 9

pub run_of_7 : Split (setting 7 5 (made_keys plain 7)) (plan_with 5 seven_or_nine plain (zeros (store_length 7)) (zeros (out_length 7)) fleet_of7)
run_of_7 =
    fleet_of_7 5 seven_or_nine plain (zeros (store_length 7)) (zeros (out_length 7)) (omega arith) seven_or_nine-sized
    (λ e. let h = ap (λ (l : List ℕ). byte_at l 0) e in omega arith)
    plain-stated (room (store_length 7) (store_length 7) (omega arith)) (room (out_length 7) (out_length 7) (omega arith))
