-- Demand 3, whole: one claim about any family of honest units, one round and one key table, from end to end.
--
-- Statements and definitions to read in order to believe it, without any proof:
-- 1. `demand_3`, in this file, and `Demand3` in `round/specs/Demand3`: the demand, sentence by sentence.
-- 2. `round/specs/Round`: the words of the demand, beside document 01's "A round as a whole" and, for units that lose power and that join
--    packs, document 02's items 2 and 5: the events of a round, what an honest unit's host does, and the calls that count.
-- 3. `protocol/specs/Calls`: the results of an opening, a submit, a step, a making of evidence, a joining of packs, the evidence check, and
--    the writing and the reading of a note; with the files of `protocol/specs` under it (`Step`, `Refusals`, `Conditions`, `Record`, `Note`,
--    `Certificate`, `Joining`, `Message`, `Entries`, `Layout`, `Values`), and `quorum/specs/Quorum`: t0, k, sets of seats and their sizes.
-- 4. `protocol/specs/Signatures: checks`: the signature check, by `rfc8554/specs`' `Verify`, `Tree` and `Ots`, and `fips180/specs/Fips`.
-- 5. `as_promised` and `results_promised`, in this file: the rounds of the claim are those by the contracts of the code.
-- 6. `none_blamed_by_sent`, in this file: the same for the messages that are sent; `none_blamed_by_joined`: and for what the harbour office
--    joins from the packs of many boats (`round/specs/Joins`).
-- Assumes nothing.
use Rattle.std.specs.Prelude.{◌≡◌, true, ◌⊎◌, ℕ, ◌≤◌, length}
use Rattle.std.proofs.Math.Path.{refl, ap}
use Rattle.std.proofs.Common.{sym, ap₂, ◌∙◌, ⊎_elim}
use mathlib.Core.List.{List, [], ◌∷◌}
use Rattle.protocol.specs.Layout.{joined_out_length}
use Rattle.protocol.specs.Message.{Message, render}
use Rattle.protocol.specs.Signatures.{checks}
use Rattle.protocol.specs.Refusals.{is_evidence}
use Rattle.round.specs.Round.{Setting, Each, result_of, Event, Boat, Moment, begins, after, after_all, now_of, list_of, AllowedAll, IsHonest, Family, Sent, WritesEvidence, Delivered, AcceptedFrom, Names}
use Rattle.round.specs.Joins.{Handed, IsPack, joined_many, packs_of}
use Rattle.round.specs.Demand3.{NoneForged, Demand3}
use Rattle.claims.specs.Journey.{any-worthy}
use Rattle.claims.specs.Opened.{start-n, start-round}
use Rattle.claims.specs.PowerLaws.{Runs, runs-setting, runs_first, runs_after}
use Rattle.claims.specs.Power.{sends-written}
use Rattle.claims.specs.Units.{stop}
use Rattle.claims.specs.Sound.{Any}
use Rattle.claims.specs.Safe.{safe, safe-delivered}
use Rattle.claims.specs.Blamed.{first_pack-names, blamed}
use Rattle.claims.specs.Joined.{join-many}

-- ---- the claim

-- beyond the demand: the same without "each alone in its seat"
pub wherever_seated : (S : Setting) {I : Type 0} (boat : I → Boat) → ((i : I) → IsHonest S (boat i)) → Demand3 S boat
wherever_seated S boat honest = record {
  safety = safe-delivered S boat honest;
  accountability = blamed S boat honest;
  first_pack = λ i. first_pack-names S (boat i) (honest i);
  safety_however = safe S boat honest;
}

-- "let some units be honest: each alone in its seat and opened once": `Family`. For any signature check:
pub demand_3_any : (S : Setting) {I : Type 0} (boat : I → Boat) → Family S boat → Demand3 S boat
demand_3_any S boat family = wherever_seated S boat family.honest

-- and so no honest seat stands in any evidence that an honest unit sends, however often it loses power
pub none_blamed_by_sent : (S : Setting) {I : Type 0} (boat : I → Boat) → Family S boat → NoneForged S boat (Delivered S boat)
    → (i j : I) (m : Message) → is_evidence m ≡ true → Sent (boat j) m → Names S (render m) (boat i).seat → ⊥
none_blamed_by_sent S boat family none i j m is sent =
    ((demand_3_any S boat family).safety none).written i j (render m) (record { message = m; kind = is; bytes = refl; writes = sends-written S (boat j) (family.honest j) m sent })

-- "The harbour office comes next, joining evidence from several boats, and it will have nothing else to go by.": no honest seat stands in
-- what is joined from packs that honest units wrote, or that are accepted from delivered signatures
pub none_blamed_by_joined : (S : Setting) {I : Type 0} (boat : I → Boat) → Family S boat → NoneForged S boat (Delivered S boat)
    → (first : List ℕ) (more : List Handed) → Each (IsPack S) (packs_of S first more) → Each (λ (h : Handed). joined_out_length S.n ≤ length h.out) more
    → Each (λ evidence. ((j : I) × WritesEvidence S (boat j) evidence) ⊎ AcceptedFrom S (Delivered S boat) evidence) (packs_of S first more)
    → (i : I) → Names S (joined_many S first more) (boat i).seat → ⊥
none_blamed_by_joined S boat family none first more packs room known i named =
    let safe = (demand_3_any S boat family).safety none in
    let in_one = ((join-many S first more packs room).names (boat i).seat).0 named in
    ⊎_elim (λ w. safe.written i w.0 in_one.0 w.1 in_one.2) (λ a. safe.accepted i in_one.0 a in_one.2) (known in_one.0 in_one.1)

-- "In one round and under one key table", and "A signature checks for a seat over a layout when RFC 8554 accepts it under that
-- seat's key for the 36 bytes of the round, that seat and that layout, and its leaf is the round."
abbrev pub setting : ℕ → ℕ → List ℕ → Setting
setting n round keys = record { n = n; round = round; keys = keys; checks = checks keys round }

pub demand_3 : (n round : ℕ) (keys : List ℕ) {I : Type 0} (boat : I → Boat) → Family (setting n round keys) boat → Demand3 (setting n round keys) boat
demand_3 n round keys = demand_3_any (setting n round keys)

-- ---- a unit's round by the code's contracts

-- The moment after a unit's events, each as the contracts promise it. A submit, a step and the thin entry check signatures in the round of
-- the record that they are given; the writing of a note, its reading and the opening have contracts of their own. An opening again is
-- given the n and the round of the first.
unfoldable pub promised : List ℕ → ℕ → Moment → List Event → Moment
promised keys seat m [] = m
promised keys seat m (e ∷ es) = promised keys seat (after (setting m.unit.n m.unit.round keys) seat m e) es

module _ (n round : ℕ) (keys : List ℕ) (u : Boat) (honest : IsHonest (setting n round keys) u) where
  abbrev S : Setting
  S = setting n round keys

  same_moment : (m : Moment) (es : List Event) → Runs S u honest m → AllowedAll S u.seat m es → promised keys u.seat m es ≡ after_all S u.seat m es
  unfolding promised after_all AllowedAll
  same_moment m [] h a = refl
  same_moment m (e ∷ es) h a =
      let of = runs-setting S u honest m h in
      ap (λ (x : Moment). promised keys u.seat x es) (ap₂ (λ i ρ. after (setting i ρ keys) u.seat m e) of.0 of.1)
      ∙ same_moment (after S u.seat m e) es (runs_after S u honest m e h a.0) a.1

  -- The unit's moment by the contracts is its moment in the claim. By `Power: earlier_honest` this is so after every earlier event too.
  pub as_promised : promised keys u.seat (begins S u) u.events ≡ now_of S u
  as_promised = same_moment (begins S u) u.events (runs_first S u honest) honest.allowed

  -- each call that counts has the result that its contract promises
  pub results_promised : Each (λ c. result_of S c ≡ result_of (setting c.unit.n c.unit.round keys) c) (list_of S u)
  results_promised c d =
      let at = (stop S u honest Any (any-worthy S (list_of S u)) c d).since in
      ap₂ (λ i ρ. result_of (setting i ρ keys) c) (sym (at.n ∙ start-n S u honest)) (sym (at.round ∙ start-round S u honest))
