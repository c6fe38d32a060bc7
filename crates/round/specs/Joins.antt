-- "One pack for the harbour office" (document 02, item 5): what is promised of two packs joined, and of packs joined one after another.
-- Assumes nothing.
use Rattle.std.specs.Prelude.{ℕ, ◌≤◌, ◌<◌, ◌≡◌, true, cond, ◌⊎◌, ◌↔◌, eqb, length}
use mathlib.Core.List.{List, [], ◌∷◌, ◌++◌, map, Memᴰ}
use Rattle.quorum.specs.Quorum.{union}
use Rattle.refusal.specs.Refusal.{first_of, ◌before◌}
use Rattle.protocol.specs.Layout.{joined_out_length}
use Rattle.protocol.specs.Message.{Pair, byte_at, read, entry_seats}
use Rattle.protocol.specs.Joining.{pairs_in, pair_among}
use Rattle.protocol.specs.Refusals.{OUT, is_new_evidence, rising, outside_conditions}
use Rattle.protocol.specs.Calls.{joining, evidence_check}
use Rattle.round.specs.Round.{Setting, Join, Each, making_of, Accepted, Names}

-- the seats of any of these sets
unfoldable pub union_of : List ℕ → ℕ
union_of [] = 0
union_of (m ∷ ms) = union m (union_of ms)

-- a pack that is handed in, and the out buffer of the call that joins it to those before
pub record Handed : Type 0 where
  pub pack : List ℕ
  pub out : List ℕ

-- "of one round and one key table"
module _ (S : Setting) where
  open S use {n, round, keys, checks}

  -- ---- packs

  -- an "accepted 0x07" pack
  pub record IsPack (evidence : List ℕ) : Type 0 where
    pub accepted : Accepted S evidence
    pub form : is_new_evidence (read n evidence) ≡ true

  -- the mask that the check answers
  abbrev pub mask_of : List ℕ → ℕ
  mask_of evidence = (evidence_check checks n round keys evidence).mask

  -- the pair of a seat
  abbrev pub pair_in : List ℕ → ℕ → Pair
  pair_in evidence seat = pair_among (pairs_in (read n evidence)) seat

  -- a pack's own number: the one that the check alone answers, "and a 0x05 pack is 9 here"
  unfoldable pub own_number : List ℕ → ℕ
  own_number evidence = cond (eqb (byte_at evidence 0) 0x05) 9 (evidence_check checks n round keys evidence).number

  -- ---- two packs

  -- refusal number of a joining of two packs, with any out buffer, and the bytes that its answer counts
  abbrev pub number_of : List ℕ → List ℕ → List ℕ → ℕ
  number_of a b out = (joining checks n round keys a b out).refusal

  abbrev pub joined : List ℕ → List ℕ → List ℕ → List ℕ
  joined a b out = making_of S (record { work = Join; a = a; b = b; out = out })

  -- the pack that two become
  pub record IsJoined (a b evidence : List ℕ) : Type 0 where
    -- "The result is accepted by the check"
    pub pack : IsPack evidence
    -- "and names exactly the union."
    pub mask : mask_of evidence ≡ union (mask_of a) (mask_of b)
    -- "the seats of either, rising"
    pub names : (seat : ℕ) → Names S evidence seat ↔ (Names S a seat ⊎ Names S b seat)
    pub rises : rising (entry_seats (read n evidence)) ≡ true
    -- "and a seat found in both has the pair of the pack named first": each seat of the first has the first's, any other the second's
    pub first : (seat : ℕ) → Names S a seat → pair_in evidence seat ≡ pair_in a seat
    pub second : (seat : ℕ) → (Names S a seat → ⊥) → Names S b seat → pair_in evidence seat ≡ pair_in b seat

  -- "Two accepted 0x07 packs of one round and one key table become one", with an out buffer that "has 4 + 2,970 × n bytes or more"
  pub record JoinsTwo : Type 0 where
    pub taken : (a b out : List ℕ) → IsPack a → IsPack b → joined_out_length n ≤ length out → number_of a b out ≡ 0
    pub becomes : (a b out : List ℕ) → number_of a b out ≡ 0 → IsJoined a b (joined a b out)

  -- "A pack that would be refused alone is refused here with its own number (7 comes before 9 and above), the first pack's before the
  -- second's": after the numbers of n, round and key table, and 7
  abbrev pub RefusesAsAlone : Type 0
  RefusesAsAlone =
      (a b out : List ℕ)
      → number_of a b out ≡ (first_of (outside_conditions n round keys) before first_of (OUT (joined_out_length n) out ∷ []) before own_number a before own_number b)

  -- a pack joined with itself is given back
  abbrev pub JoinsItself : Type 0
  JoinsItself = (a out : List ℕ) → ((i : ℕ) → byte_at a i < 256) → number_of a a out ≡ 0 → joined a a out ≡ a

  -- joined in either order, the seats are the same
  pub record JoinsInEitherOrder (a b out : List ℕ) : Type 0 where
    pub taken : (number_of a b out ≡ 0) ↔ (number_of b a out ≡ 0)
    pub seats : number_of a b out ≡ 0 → entry_seats (read n (joined a b out)) ≡ entry_seats (read n (joined b a out))
    pub mask : number_of a b out ≡ 0 → mask_of (joined a b out) ≡ mask_of (joined b a out)

  -- ---- the packs of many boats

  -- joined one after another: the first with the second, what they become with the third, and so on
  unfoldable pub joined_many : List ℕ → List Handed → List ℕ
  joined_many first [] = first
  joined_many first (h ∷ more) = joined_many (joined first h.pack h.out) more

  -- none of these calls is refused
  unfoldable pub NoneRefused : List ℕ → List Handed → Type 0
  NoneRefused first [] = Unit {0}
  NoneRefused first (h ∷ more) = (number_of first h.pack h.out ≡ 0) × NoneRefused (joined first h.pack h.out) more

  -- the packs, in their order
  abbrev pub packs_of : List ℕ → List Handed → List (List ℕ)
  packs_of first more = first ∷ map (λ (h : Handed). h.pack) more

  pub record IsJoinedMany (first : List ℕ) (more : List Handed) : Type 0 where
    pub unrefused : NoneRefused first more
    pub pack : IsPack (joined_many first more)
    -- "names exactly the union" of all
    pub mask : mask_of (joined_many first more) ≡ union_of (map mask_of (packs_of first more))
    pub names : (seat : ℕ) → Names S (joined_many first more) seat ↔ ((evidence : List ℕ) × Memᴰ evidence (packs_of first more) × Names S evidence seat)
    -- a seat has the pair of the first pack that names it
    pub pair : (earlier : List (List ℕ)) (evidence : List ℕ) (later : List (List ℕ)) (seat : ℕ) → packs_of first more ≡ earlier ++ evidence ∷ later
        → Each (λ (e : List ℕ). Names S e seat → ⊥) earlier → Names S evidence seat → pair_in (joined_many first more) seat ≡ pair_in evidence seat

  abbrev pub JoinsMany : Type 0
  JoinsMany =
      (first : List ℕ) (more : List Handed) → Each IsPack (packs_of first more) → Each (λ (h : Handed). joined_out_length n ≤ length h.out) more → IsJoinedMany first more
