-- Demand 3 for any setting and any family of honest units, in the words of `Round`.
-- Assumes nothing.
use Rattle.std.specs.Prelude.{ℕ, ◌+◌, ◌≤◌, ◌≡◌, false, ◌≢◌, ◌↔◌}
use mathlib.Core.List.{List, Memᴰ}
use Rattle.quorum.specs.Quorum.{t0, In, size}
use Rattle.protocol.specs.Message.{read}
use Rattle.protocol.specs.Calls.{evidence_check}
use Rattle.round.specs.Round.{Setting, InHand, Boat, Relation, EachSigned, result_of, Submits, Confirms, HaveReached, WritesEvidence, WritesFirst, handled, MakesEvidence, StepGiven, Delivered, Accepted, AcceptedFrom, Names}

-- "In one round and under one key table"
module _ (S : Setting) where
  open S use {n, round, keys, checks}

  -- "let some units be honest": any family of boats
  module _ {I : Type 0} (boat : I → Boat) where
    -- "If no signature delivered for an honest seat over a layout that it didn't submit checks for that seat over that layout"
    abbrev pub NoneForged : Relation → Type 0
    NoneForged R =
        (i : I) (layout signature : List ℕ) → R (boat i).seat layout signature → (Submits S (boat i) layout → ⊥)
        → checks (boat i).seat layout signature ≡ false

    -- "then no honest seat stands in any evidence written, or accepted from delivered signatures.": written by a call in a list, made or
    -- joined from what is in hand, or accepted
    pub record NoneBlamed (R : Relation) : Type 0 where
      pub written : (i j : I) (evidence : List ℕ) → WritesEvidence S (boat j) evidence → Names S evidence (boat i).seat → ⊥
      pub made : (i j : I) (evidence : List ℕ) → MakesEvidence S (boat j) evidence → Names S evidence (boat i).seat → ⊥
      pub accepted : (i : I) (evidence : List ℕ) → AcceptedFrom S R evidence → Names S evidence (boat i).seat → ⊥

    -- "the notice and full certificate of each have reached every other honest unit in buffers of the stated lengths"
    abbrev pub ReachedOthers : I → Type 0
    ReachedOthers i = (l : I) → l ≢ i → HaveReached S (boat i) (boat l)

  -- evidence "that names at least t0 + 1 seats and that every unit accepts": a set of t0 + 1 seats or more, which are the seats named
  -- and no others. The check, the same at every unit, answers that set.
  pub record NamesEnough (evidence : List ℕ) : Type 0 where
    pub seats : ℕ
    pub named : (seat : ℕ) → In seat seats ↔ Names S evidence seat
    pub enough : t0 n + 1 ≤ size seats
    pub accepted : Accepted S evidence
    pub answered : (evidence_check checks n round keys evidence).mask ≡ seats

  -- "has written evidence that names at least t0 + 1 seats and that every unit accepts". "The t0 + 1 seats are owed by the first pack a
  -- unit writes in a submit or a step" (document 02, item 3).
  pub record Blames (u : Boat) : Type 0 where
    pub evidence : List ℕ
    pub first : WritesFirst S u evidence
    pub names : NamesEnough evidence

  module _ {I : Type 0} (boat : I → Boat) where
    -- beyond the demand: a relation that holds of every signature in the messages that a step in a list, or a making or a joining of
    -- evidence, is given and doesn't refuse. The bytes given to a refused call don't matter.
    pub record Takes (R : Relation) : Type 0 where
      pub steps : (i : I) (bytes : List ℕ) (g : StepGiven S (boat i) bytes) → (result_of S g.call).refusal ≡ 0 → EachSigned R (read n bytes)
      pub makings : (i : I) (h : InHand) → Memᴰ h (boat i).in_hand → (handled S h).refusal ≡ 0
          → EachSigned R (read n h.a) × EachSigned R (read n h.b)

    pub record Demand3 : Type 1 where
      -- "If no signature delivered for an honest seat over a layout that it didn't submit checks for that seat over that layout, then
      -- no honest seat stands in any evidence written, or accepted from delivered signatures.", and "no honest seat may stand in any pack
      -- written, or accepted from delivered signatures" (document 02, item 3): of either form, and every pack that a unit writes
      pub safety : NoneForged boat (Delivered S boat) → NoneBlamed boat (Delivered S boat)
      -- "Where two honest units have confirmed different layouts, and the notice and full certificate of each have reached every
      -- other honest unit in buffers of the stated lengths, each honest unit has written evidence that names at least t0 + 1 seats
      -- and that every unit accepts."
      pub accountability : (i j : I) (a b : List ℕ) → a ≢ b → Confirms S (boat i) a → Confirms S (boat j) b → ReachedOthers boat i → ReachedOthers boat j
          → (l : I) → Blames (boat l)
      -- "The t0 + 1 seats are owed by the first pack a unit writes in a submit or a step" (document 02, item 3), whatever came before it
      pub first_pack : (i : I) (evidence : List ℕ) → WritesFirst S (boat i) evidence → NamesEnough evidence
      -- beyond the demand: safety for every other meaning of "delivered" that has at least the signatures that calls took
      pub safety_however : (R : Relation) → Takes R → NoneForged boat R → NoneBlamed boat R
