-- A round that double signers split: its premises and conclusions, for any fleet and any check that accepts the signatures of the
-- round. `SplitProof` deduces it from the laws of crate `claims`; nothing is computed.
-- Assumes nothing.
use Rattle.std.specs.Prelude.{ℕ, ◌^◌, ◌≤◌, ◌<◌, ◌≡◌, Bool, true, false, cond, not, List, [], ◌∷◌, ◌++◌, map, ◌≢◌, length}
use Rattle.quorum.specs.Quorum.{most_seats, k, bit, In, size, shared, seats}
use Rattle.protocol.specs.Layout.{value_length, signature_length, store_length, out_length}
use Rattle.protocol.specs.Message.{Message, Submit, Notice, render}
use Rattle.protocol.specs.Certificate.{Certificate, full_of}
use Rattle.protocol.specs.Record.{last_round}
use Rattle.protocol.specs.Refusals.{is_full}
use Rattle.protocol.specs.Calls.{evidence_check}
use Rattle.round.specs.Round.{Setting, Call, BySubmit, ByStep, ByThinEntry, Make, InHand, Boat, Each, Family, Confirms, Delivered, MakesEvidence, making_of, unbroken}
use Rattle.round.specs.Demand3.{NoneForged, NoneBlamed, ReachedOthers, Blames}
use Rattle.claims.specs.NotRefused.{Table}
use Rattle.claims.specs.Made.{Accuses}

-- role of an honest unit: its seat, the one of two layouts that it submits, and the seats whose SUBMITs for that layout it hears
pub record Role : Type 0 where
  pub seat : ℕ
  pub side : Bool
  pub hears : List ℕ

-- the signers of each of two layouts, `false` and `true`; the roles of the honest units; and a leader for each layout
pub record Fleet (I : Type 0) : Type 0 where
  pub signers : Bool → ℕ
  pub role : I → Role
  pub leader : Bool → I

-- a fleet of n seats
pub record Fits (n : ℕ) {I : Type 0} (F : Fleet I) : Type 0 where
  pub some : 1 ≤ n
  pub most : n ≤ most_seats
  -- k seats sign each layout
  pub below : (side : Bool) → F.signers side < 2 ^ n
  pub enough : (side : Bool) → size (F.signers side) ≡ k n
  -- an honest unit has a seat of its own, and signs its own layout and not the other
  pub apart : (i j : I) → i ≢ j → (F.role i).seat ≢ (F.role j).seat
  pub signs : (i : I) → In (F.role i).seat (F.signers (F.role i).side)
  pub once : (i : I) → bit (F.role i).seat (F.signers (not (F.role i).side)) ≡ 0
  pub hears_signers : (i : I) → Each (λ s. In s (F.signers (F.role i).side)) (F.role i).hears
  -- a leader hears all signers of its layout
  pub leads : (side : Bool) → (F.role (F.leader side)).side ≡ side
  pub hears_all : (side : Bool) → (F.role (F.leader side)).hears ≡ seats n (F.signers side)

-- a fleet with the layouts, the signatures of their signers, and the store and out that every unit is lent
pub record Plan (I : Type 0) : Type 0 where
  pub fleet : Fleet I
  pub layout : Bool → List ℕ
  pub signature : Bool → ℕ → List ℕ
  pub store : List ℕ
  pub out : List ℕ

module _ (S : Setting) {I : Type 0} (P : Plan I) where
  open S use {n, round, keys, checks}
  open P use {fleet, layout, signature, store, out}
  open fleet use {signers, role, leader}

  -- ---- messages of the round

  abbrev pub certificate : Bool → Certificate
  certificate side = record { value = layout side; seats = signers side; signature = signature side }

  abbrev pub submit_by : Bool → ℕ → Message
  submit_by side seat = Submit round seat (layout side) (signature side seat)

  abbrev pub notice_of : Bool → Message
  notice_of side = Notice round (role (leader side)).seat (layout side)

  abbrev pub full_by : Bool → Message
  full_by side = full_of n round (role (leader side)).seat (certificate side)

  -- each unit hears its SUBMITs, then the notice and the full certificate of both leaders
  abbrev pub leaders : List Message
  leaders = notice_of false ∷ full_by false ∷ notice_of true ∷ full_by true ∷ []

  abbrev pub heard : I → List Message
  heard i = map (submit_by (role i).side) (role i).hears ++ leaders

  -- a FULL through the thin entry, anything else by value
  abbrev pub given : Message → Call
  given m = cond (is_full m) (ByThinEntry (render m) out) (ByStep (render m) out)

  abbrev pub own_submit : I → Call
  own_submit i = BySubmit (layout (role i).side) (signature (role i).side (role i).seat) out

  -- both certificates, in hand at each unit
  abbrev pub in_hand : InHand
  in_hand = record { work = Make; a = render (full_by false); b = render (full_by true); out = out }

  abbrev pub calls : I → List Call
  calls i = own_submit i ∷ map given (heard i)

  abbrev pub boat : I → Boat
  boat i = unbroken (role i).seat store (calls i) (in_hand ∷ [])

  -- ---- premises

  pub record Splits : Type 0 where
    pub fits : Fits n fleet
    -- round, key table and buffers that aren't refused
    pub early : round ≤ last_round
    pub table : Table n keys
    pub store_room : store_length n ≤ length store
    pub out_room : out_length n ≤ length out
    -- two layouts, and for each the signatures of its signers, which check
    pub layouts : (side : Bool) → length (layout side) ≡ value_length
    pub different : layout false ≢ layout true
    pub sized : (side : Bool) (seat : ℕ) → In seat (signers side) → length (signature side seat) ≡ signature_length
    pub checked : (side : Bool) (seat : ℕ) → In seat (signers side) → checks seat (layout side) (signature side seat) ≡ true

  -- ---- conclusions

  pub record Split : Type 0 where
    -- the premises of demand 3, both halves
    pub family : Family S boat
    pub confirm : (side : Bool) → Confirms S (boat (leader side)) (layout side)
    pub reached : (side : Bool) → ReachedOthers S boat (leader side)
    pub unforged : NoneForged S boat (Delivered S boat)
    -- the conclusions of demand 3
    pub blame : (i : I) → Blames S (boat i)
    pub unblamed : NoneBlamed S boat (Delivered S boat)
    -- evidence made from the two certificates, which names exactly the double signers
    pub made : (i : I) → MakesEvidence S (boat i) (making_of S in_hand)
    pub accuses : Accuses S in_hand.a in_hand.b (making_of S in_hand)
    pub named : (evidence_check checks n round keys (making_of S in_hand)).mask ≡ shared (signers false) (signers true)
