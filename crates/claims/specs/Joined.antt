-- Packs joined (document 02, item 5): the statements of `round/specs/Joins`, proved for all inputs and for any signature check. That no honest
-- seat stands in what an honest unit joins is in `Safe`.
-- Assumes nothing.
use Rattle.std.specs.Prelude.{◌≡◌, true, false, ◌≢◌, ℕ, zero, suc, ◌<◌, ◌≤◌}
use Rattle.std.proofs.Math.Path.{refl, sym, ap, ap₂, subst}
use Rattle.std.proofs.Common.{◌∙◌, arith}
use Rattle.std.proofs.Math.Bool.{true≢false}
use mathlib.Core.List.Memᴰ
use mathlib.Core.List.{List, [], ◌∷◌, ◌++◌, map, Memᴰ}
use Rattle.std.proofs.Math.Logic.{inl, inr, ⊎_elim}
use Rattle.std.proofs.Math.Decide.{ℕ_discrete}
use Rattle.std.proofs.Math.Dec.{ltb}
use Rattle.std.proofs.Math.ListN.{length, length-append}
use borrow.Author.Tests.{lt-ltb, ne_eqb}
use Rattle.quorum.specs.Quorum.{bit, In, union, seats}
use Rattle.quorum.specs.QuorumLaws.{bit_cases, bit-empty, bit-union, in_union, same_seats, mem-seats}
use Rattle.refusal.specs.Refusal.{first_of, unrefused, numbers, nonzero, ◌before◌}
use Rattle.refusal.specs.RefusalLaws.{first_of_before}
use Rattle.protocol.specs.Layout.{joined_out_length}
use Rattle.protocol.specs.Entries.{form_seats}
use Rattle.protocol.specs.Message.{Pair, ValuesEach, Message, Evidence, evidence_form, render, byte_at, read_submit, read_notice, read_full, read_evidence, read, entry_seats}
use Rattle.protocol.specs.MessageLaws.{read_cases, pack-old, pack-new, read-render}
use Rattle.protocol.specs.RoundTripLaws.{render-read}
use Rattle.protocol.specs.CertificateLaws.{in_set}
use Rattle.protocol.specs.Joining.{pairs_in, pack_set, joined_pairs, joined_of}
use Rattle.protocol.specs.JoiningLaws.{new-evidence}
use Rattle.protocol.specs.ConditionsLaws.{each_every}
use Rattle.protocol.specs.Refusals.{OUT, is_evidence, is_new_evidence, rising, outside_conditions, message_conditions, pack_conditions, joined_conditions, evidence_conditions, joining_conditions}
use Rattle.protocol.specs.Calls.{making_by, joining, checked_by, evidence_check}
use Rattle.round.specs.Round.{Setting, Join, Each, Accepted, Names}
use Rattle.round.specs.Joins.{union_of, Handed, IsPack, mask_of, pair_in, own_number, number_of, joined, IsJoined, JoinsTwo, RefusesAsAlone, JoinsItself, JoinsInEitherOrder, joined_many, NoneRefused, packs_of, IsJoinedMany, JoinsMany}
use Rattle.reading.specs.ListsLaws.{each_nil, each_cons, each_map}
use Rattle.claims.specs.Sound.{Any, Pairs}
use Rattle.claims.specs.CertificatesLaws.{seats-rising}
use Rattle.claims.specs.NotRefused.{Outside, evidence_not_refused, PackFit, JoiningFit, joining_not_refused}
use Rattle.claims.specs.JoinedLaws.{seats_among, joined-seats, joined-set, joined_first, joined-second, joined_self, pack_elim, pairs_set, joined-pairs}
use Rattle.claims.specs.Units.{pairs-formed}
use Rattle.claims.specs.Safe.{making-bytes}
use Rattle.claims.specs.Made.{accepted-mask}

-- ---- sets

union_comm : (a b : ℕ) → union a b ≡ union b a
union_comm a b = same_seats (union a b) (union b a) (λ s. omega (arith, bit-union s a b, bit-union s b a))

union_assoc : (a b c : ℕ) → union (union a b) c ≡ union a (union b c)
union_assoc a b c = same_seats (union (union a b) c) (union a (union b c)) (λ s. omega (arith, bit-union s (union a b) c, bit-union s a b, bit-union s a (union b c), bit-union s b c))

union_none : (a : ℕ) → union a 0 ≡ a
union_none a = same_seats (union a 0) a (λ s. omega (arith, bit-union s a 0, bit-empty s))

-- ---- numbers

before_same : (x y z : ℕ) → (x ≡ 0 → y ≡ z) → (x before y) ≡ (x before z)
unfolding ◌before◌
before_same zero y z h = h refl
before_same (suc x) y z h = refl

module _ (S : Setting) where
  open S use {n, round, keys, checks}

  -- ---- packs

  -- the check's mask has the seats named
  accepted-set : (evidence : List ℕ) → Accepted S evidence → mask_of S evidence ≡ pack_set (read n evidence)
  unfolding evidence_check checked_by unrefused
  accepted-set evidence e = rw e

  -- a pack that is accepted is one that a joining takes, and the other way round
  pack-fits : (evidence : List ℕ) → IsPack S evidence → Outside n round keys × PackFit checks n round evidence
  pack-fits evidence p =
      let t = (evidence_not_refused checks n round keys evidence).0 p.accepted in
      (t.outside, record { is_new = p.form; message = t.message; conflict = t.conflict })

  fits-pack : (evidence : List ℕ) → Outside n round keys → PackFit checks n round evidence → IsPack S evidence
  fits-pack evidence outside t = record {
    accepted = (evidence_not_refused checks n round keys evidence).1 (record { outside = outside; is_one = new-evidence (read n evidence) t.is_new; message = t.message; conflict = t.conflict });
    form = t.is_new;
  }

  -- its entries
  entries_in_lem : (evidence : List ℕ) → PackFit checks n round evidence → (ps : List Pair) × (read n evidence ≡ Evidence round ValuesEach ps) × Pairs checks Any n ps
  entries_in_lem evidence t =
      pack_elim checks Any n round evidence t (λ s d. tt) (λ m. (ps : List Pair) × (m ≡ Evidence round ValuesEach ps) × Pairs checks Any n ps) (λ ps z. (ps, refl, z))

  -- the bytes that a joining writes
  joined_bytes : (a b out : List ℕ) → number_of S a b out ≡ 0 → joined S a b out ≡ render (joined_of n round (read n a) (read n b))
  unfolding unrefused
  joined_bytes a b out e = making-bytes S (record { work = Join; a = a; b = b; out = out }) ∙ rw e

  -- ---- two packs

  module _ (a b out : List ℕ) (e : number_of S a b out ≡ 0) where
    abbrev fit : JoiningFit checks n round keys a b out
    fit = (joining_not_refused checks n round keys a b out).0 e

    abbrev result : List ℕ
    result = joined S a b out

    abbrev A : ℕ
    A = pack_set (read n a)

    abbrev B : ℕ
    B = pack_set (read n b)

    -- the entries of the two, and the message joined from them
    record TwoPacks : Type 0 where
      ps : List Pair
      qs : List Pair
      first : read n a ≡ Evidence round ValuesEach ps
      second : read n b ≡ Evidence round ValuesEach qs
      of_first : Pairs checks Any n ps
      of_second : Pairs checks Any n qs
      reads : read n result ≡ Evidence round ValuesEach (joined_pairs n (Evidence round ValuesEach ps) (Evidence round ValuesEach qs))
      accepted : Accepted S result

    packs : TwoPacks
    unfolding joined_of
    packs =
        let f = entries_in_lem a fit.first in
        let g = entries_in_lem b fit.second in
        let entries = joined_pairs n (Evidence round ValuesEach f.0) (Evidence round ValuesEach g.0) in
        let z = joined-pairs checks Any n round round f.0 g.0 f.2 g.2 in
        let bytes : result ≡ render (Evidence round ValuesEach entries) = joined_bytes a b out e ∙ ap₂ (λ x y. render (joined_of n round x y)) f.1 g.1 in
        record {
          ps = f.0;
          qs = g.0;
          first = f.1;
          second = g.1;
          of_first = f.2;
          of_second = g.2;
          reads = ap (read n) bytes ∙ read-render n (Evidence round ValuesEach entries) (pairs-formed checks Any n round entries fit.outside.in_time z);
          accepted = subst (Accepted S) (sym bytes) (accepted-mask S fit.outside entries z).0;
        }

    joined_in-order : entry_seats (read n result) ≡ seats n (union A B)
    unfolding entry_seats form_seats evidence_form
    joined_in-order =
        let o = packs in
        rw (o.reads, o.first, o.second) (joined-seats n round round o.ps o.qs)

    joined-names-set : pack_set (read n result) ≡ union A B
    unfolding entry_seats form_seats evidence_form
    joined-names-set =
        let o = packs in
        rw (o.reads, o.first, o.second)
        (joined-set n round round o.ps o.qs (pairs_set checks Any n o.ps o.of_first) (pairs_set checks Any n o.qs o.of_second))

    names-below : (seat : ℕ) → In seat (union A B) → seat < n
    names-below seat i = ((mem-seats n seat (union A B)).0 (subst (Memᴰ seat) joined_in-order ((in_set seat (entry_seats (read n result))).0 (subst (In seat) (sym joined-names-set) i)))).0

    pair_of_first : (seat : ℕ) → Names S a seat → pair_in S result seat ≡ pair_in S a seat
    unfolding pairs_in entry_seats form_seats evidence_form
    pair_of_first seat m =
        let o = packs in
        let i : In seat A = (in_set seat (entry_seats (read n a))).1 m in
        let l = names-below seat ((in_union seat A B).1 (inl i)) in
        rw (o.reads, o.first) (joined_first n round round o.ps o.qs seat l (subst (λ x. In seat (pack_set x)) o.first i))

    pair_of-second : (seat : ℕ) → (Names S a seat → ⊥) → Names S b seat → pair_in S result seat ≡ pair_in S b seat
    unfolding pairs_in entry_seats form_seats evidence_form
    pair_of-second seat none m =
        let o = packs in
        let i : In seat B = (in_set seat (entry_seats (read n b))).1 m in
        let l = names-below seat ((in_union seat A B).1 (inr i)) in
        let out-of-first : bit seat A ≡ 0 = ⊎_elim (λ z. z) (λ j. absurd (none ((in_set seat (entry_seats (read n a))).0 j))) (bit_cases seat A) in
        rw (o.reads, o.second)
        (joined-second n round round o.ps o.qs seat l (subst (λ x. bit seat (pack_set x) ≡ 0) o.first out-of-first) (subst (λ x. In seat (pack_set x)) o.second i))

    is_joined : IsJoined S a b result
    unfolding is_new_evidence
    is_joined =
        let o = packs in
        let first = fits-pack a fit.outside fit.first in
        let second = fits-pack b fit.outside fit.second in
        record {
          pack = record { accepted = o.accepted; form = rw o.reads };
          mask = accepted-set result o.accepted ∙ joined-names-set ∙ ap₂ union (sym (accepted-set a first.accepted)) (sym (accepted-set b second.accepted));
          names = λ seat.
              let named = in_set seat (entry_seats (read n result)) in
              let of_first = in_set seat (entry_seats (read n a)) in
              let of_second = in_set seat (entry_seats (read n b)) in
              let both = in_union seat A B in (
                λ m. ⊎_elim (λ i. inl (of_first.0 i)) (λ i. inr (of_second.0 i)) (both.0 (subst (In seat) joined-names-set (named.1 m))),
                λ m. named.0 (subst (In seat) (sym joined-names-set) (both.1 (⊎_elim (λ x. inl (of_first.1 x)) (λ x. inr (of_second.1 x)) m))),
              );
          rises = ap rising joined_in-order ∙ seats-rising n (union A B);
          first = pair_of_first;
          second = pair_of-second;
        }

  packs-taken : (a b out : List ℕ) → IsPack S a → IsPack S b → joined_out_length n ≤ length out → number_of S a b out ≡ 0
  packs-taken a b out p q room =
      let first = pack-fits a p in
      (joining_not_refused checks n round keys a b out).1 (record { outside = first.0; out_room = room; first = first.1; second = (pack-fits b q).1 })

  -- ---- the claims on two packs

  -- "Two accepted 0x07 packs of one round and one key table become one: the seats of either, rising, and a seat found in both has the pair
  -- of the pack named first. The result is accepted by the check and names exactly the union."
  pub joined-accepted : JoinsTwo S
  joined-accepted = record { taken = packs-taken; becomes = is_joined }

  -- a pack joined with itself is given back
  pub join_self : JoinsItself S
  unfolding joined_of entry_seats form_seats evidence_form is_evidence
  join_self a out octets e =
      let fit = (joining_not_refused checks n round keys a a out).0 e in
      let f = entries_in_lem a fit.first in
      let m = Evidence round ValuesEach f.0 in
      let z = f.2 in
      let below = each_every (λ (s : ℕ). ltb s n) (seats_among f.0) (each_map (λ s. ltb s n ≡ true) (λ (p : Pair). p.seat) f.0 (λ p d. lt-ltb p.seat n (z.below p d))) in
      joined_bytes a a out e
      ∙ ap (λ x. render (joined_of n round x x)) f.1
      ∙ ap (λ ps. render (Evidence round ValuesEach ps)) (joined_self n round f.0 z.rise below)
      ∙ ap render (sym f.1)
      ∙ render-read n a (λ g. true≢false (sym (new-evidence (read n a) fit.first.is_new) ∙ ap is_evidence g)) octets

  -- joined in either order the seats are the same
  pub join-either-order : (a b out : List ℕ) → JoinsInEitherOrder S a b out
  join-either-order a b out =
      let turn : (a b : List ℕ) → number_of S a b out ≡ 0 → number_of S b a out ≡ 0 =
      λ a b e.
      let t = (joining_not_refused checks n round keys a b out).0 e in
      (joining_not_refused checks n round keys b a out).1 (record { outside = t.outside; out_room = t.out_room; first = t.second; second = t.first }) in
      record {
        taken = (turn a b, turn b a);
        seats = λ e. joined_in-order a b out e ∙ ap (seats n) (union_comm (pack_set (read n a)) (pack_set (read n b))) ∙ sym (joined_in-order b a out (turn a b e));
        mask = λ e. (is_joined a b out e).mask ∙ union_comm (mask_of S a) (mask_of S b) ∙ sym (is_joined b a out (turn a b e)).mask;
      }

  -- ---- refusals

  -- bytes that start with 0x05 are no pack of the form 0x07; with any other they are one where they are an EVIDENCE
  old_is_none : (evidence : List ℕ) → byte_at evidence 0 ≡ 0x05 → is_new_evidence (read n evidence) ≡ false
  unfolding is_new_evidence read_submit read_notice read_full read_evidence
  old_is_none evidence e = read_cases (λ m. is_new_evidence m ≡ false) n evidence (λ f. refl) (λ f. refl) (λ f. refl) (λ f. rw (pack-old evidence e)) refl

  other_is_new : (evidence : List ℕ) → byte_at evidence 0 ≢ 0x05 → is_new_evidence (read n evidence) ≡ is_evidence (read n evidence)
  unfolding is_new_evidence is_evidence read_submit read_notice read_full read_evidence
  other_is_new evidence d = read_cases (λ m. is_new_evidence m ≡ is_evidence m) n evidence (λ f. refl) (λ f. refl) (λ f. refl) (λ f. rw (pack-new evidence d)) refl

  -- where n, round and key table aren't refused, a pack's rows give its own number
  module _ (evidence : List ℕ) (z : first_of (outside_conditions n round keys) ≡ 0) where
    abbrev m : Message
    m = read n evidence

    number-alone : (evidence_check checks n round keys evidence).number ≡ first_of (pack_conditions checks n round (is_evidence m) m)
    unfolding evidence_check checked_by evidence_conditions outside_conditions numbers nonzero ◌before◌
    number-alone = first_of_before (outside_conditions n round keys) (pack_conditions checks n round (is_evidence m) m) refl ∙ rw z

    own-number : first_of (joined_conditions checks n round m) ≡ own_number S evidence
    unfolding joined_conditions pack_conditions message_conditions first_of own_number
    own-number = go (ℕ_discrete (byte_at evidence 0) 0x05)
      where
        go : Dec (byte_at evidence 0 ≡ 0x05) → first_of (joined_conditions checks n round m) ≡ own_number S evidence
        go (yes e) = rw (old_is_none evidence e, e)
        go (no d) = rw (ne_eqb (byte_at evidence 0) 0x05 d, other_is_new evidence d) (sym number-alone)

  number-parts : (a b out : List ℕ)
      → number_of S a b out ≡ (first_of (outside_conditions n round keys) before first_of (OUT (joined_out_length n) out ∷ []) before first_of (joined_conditions checks n round (read n a)) before first_of (joined_conditions checks n round (read n b)))
  unfolding joining making_by joining_conditions joined_conditions pack_conditions message_conditions outside_conditions numbers nonzero
  number-parts a b out =
      let outside = outside_conditions n round keys in
      let room = OUT (joined_out_length n) out ∷ [] in
      let first = joined_conditions checks n round (read n a) in
      let second = joined_conditions checks n round (read n b) in
      first_of_before outside (room ++ (first ++ second)) refl
      ∙ ap (λ q. first_of outside before q) (first_of_before room (first ++ second) refl ∙ ap (λ q. first_of room before q) (first_of_before first second refl))

  -- "A pack that would be refused alone is refused here with its own number (7 comes before 9 and above), the first pack's before the
  -- second's, and a 0x05 pack is 9 here."
  pub refused-alone : RefusesAsAlone S
  refused-alone a b out =
      number-parts a b out
      ∙ before_same (first_of (outside_conditions n round keys)) _ _ (λ z. ap₂ (λ p q. first_of (OUT (joined_out_length n) out ∷ []) before p before q) (own-number a z) (own-number b z))

  -- ---- the packs of many boats

  module _ (first : List ℕ) (h : Handed) (more : List Handed) where
    abbrev two : List ℕ
    two = joined S first h.pack h.out

    many_more : number_of S first h.pack h.out ≡ 0 → IsJoined S first h.pack two → IsJoinedMany S two more → IsJoinedMany S first (h ∷ more)
    unfolding joined_many NoneRefused union_of
    many_more e j rest = record {
      unrefused = (e, rest.unrefused);
      pack = rest.pack;
      mask = rest.mask ∙ ap (λ u. union u (union_of (map (mask_of S) (map (λ (x : Handed). x.pack) more)))) j.mask ∙ union_assoc (mask_of S first) (mask_of S h.pack) _;
      names = λ seat. (names_some seat, some_names seat);
      pair = pair_of;
    }
      where
        names_some : (seat : ℕ) → Names S (joined_many S two more) seat → (evidence : List ℕ) × Memᴰ evidence (packs_of S first (h ∷ more)) × Names S evidence seat
        names_some seat m =
            let r = (rest.names seat).0 m in
            ⊎_elim
            (λ q. ⊎_elim (λ x. (first, Memᴰ.head refl, x)) (λ x. (h.pack, Memᴰ.tail (Memᴰ.head refl), x)) ((j.names seat).0 (subst (λ e. Names S e seat) q r.2)))
            (λ t. (r.0, Memᴰ.tail (Memᴰ.tail t), r.2)) (Memᴰ.cases_cons r.1)

        some_names : (seat : ℕ) → (evidence : List ℕ) × Memᴰ evidence (packs_of S first (h ∷ more)) × Names S evidence seat → Names S (joined_many S two more) seat
        some_names seat r =
            ⊎_elim (λ q. (rest.names seat).1 (two, Memᴰ.head refl, (j.names seat).1 (inl (subst (λ e. Names S e seat) q r.2))))
            (λ t.
            ⊎_elim (λ q. (rest.names seat).1 (two, Memᴰ.head refl, (j.names seat).1 (inr (subst (λ e. Names S e seat) q r.2))))
            (λ u. (rest.names seat).1 (r.0, Memᴰ.tail u, r.2)) (Memᴰ.cases_cons t))
            (Memᴰ.cases_cons r.1)

        pair_of : (earlier : List (List ℕ)) (evidence : List ℕ) (later : List (List ℕ)) (seat : ℕ) → packs_of S first (h ∷ more) ≡ earlier ++ evidence ∷ later
            → Each (λ (x : List ℕ). Names S x seat → ⊥) earlier → Names S evidence seat → pair_in S (joined_many S two more) seat ≡ pair_in S evidence seat
        pair_of [] evidence later seat q none m =
            let is : evidence ≡ first = cc in
            let named = subst (λ x. Names S x seat) is m in
            rest.pair [] two (map (λ (x : Handed). x.pack) more) seat refl (each_nil _) ((j.names seat).1 (inl named))
            ∙ j.first seat named ∙ ap (λ x. pair_in S x seat) (sym is)
        pair_of (x ∷ []) evidence later seat q none m =
            let is : evidence ≡ h.pack = cc in
            let before-it : x ≡ first = cc in
            let named = subst (λ y. Names S y seat) is m in
            rest.pair [] two (map (λ (y : Handed). y.pack) more) seat refl (each_nil _) ((j.names seat).1 (inr named))
            ∙ j.second seat (λ d. none x (Memᴰ.head refl) (subst (λ y. Names S y seat) (sym before-it) d)) named ∙ ap (λ y. pair_in S y seat) (sym is)
        pair_of (x ∷ y ∷ earlier) evidence later seat q none m =
            let first_is : x ≡ first = cc in
            let second_is : y ≡ h.pack = cc in
            let rest-is : map (λ (z : Handed). z.pack) more ≡ earlier ++ evidence ∷ later = cc in
            rest.pair (two ∷ earlier) evidence later seat (ap (◌∷◌ two) rest-is)
            (each_cons _ two earlier
            (λ d. ⊎_elim (λ i. none x (Memᴰ.head refl) (subst (λ z. Names S z seat) (sym first_is) i)) (λ i. none y (Memᴰ.tail (Memᴰ.head refl)) (subst (λ z. Names S z seat) (sym second_is) i)) ((j.names seat).0 d))
            (λ z d. none z (Memᴰ.tail (Memᴰ.tail d))))
            m

  -- a pack alone
  one-alone : (first : List ℕ) → IsPack S first → IsJoinedMany S first []
  unfolding joined_many NoneRefused union_of
  one-alone first p = record {
    unrefused = tt;
    pack = p;
    mask = sym (union_none (mask_of S first));
    names = λ seat. (λ m. (first, Memᴰ.head refl, m), λ r. subst (λ x. Names S x seat) (Memᴰ.eq_of_singleton r.1) r.2);
    pair = pair_of;
  }
    where
      pair_of : (earlier : List (List ℕ)) (evidence : List ℕ) (later : List (List ℕ)) (seat : ℕ) → first ∷ [] ≡ earlier ++ evidence ∷ later
          → Each (λ (x : List ℕ). Names S x seat → ⊥) earlier → Names S evidence seat → pair_in S first seat ≡ pair_in S evidence seat
      pair_of [] evidence later seat q none m = let is : first ≡ evidence = cc in ap (λ x. pair_in S x seat) is
      pair_of (x ∷ earlier) evidence later seat q none m = absurd (omega (arith, ap length q, length-append earlier (evidence ∷ later)))

  -- Packs joined one after another name the union of all, over any list of packs: "Boats hand in their packs separately and the office wants
  -- one."
  pub join-many : JoinsMany S
  join-many first [] packs room = one-alone first (packs first (Memᴰ.head refl))
  join-many first (h ∷ more) packs room =
      let e = packs-taken first h.pack h.out (packs first (Memᴰ.head refl)) (packs h.pack (Memᴰ.tail (Memᴰ.head refl))) (room h (Memᴰ.head refl)) in
      let j = is_joined first h.pack h.out e in
      many_more first h more e j
      (join-many (joined S first h.pack h.out) more (each_cons _ _ _ j.pack (λ x d. packs x (Memᴰ.tail (Memᴰ.tail d)))) (λ x d. room x (Memᴰ.tail d)))
