-- Packs joined: the pair of a seat among entries, the entries of a pack that a joining takes, and those of the pack that two become.
-- Assumes nothing.
use Rattle.std.specs.Prelude.{ℕ, ◌^◌, ◌<◌, ◌≤◌, ◌≡◌, refl, true, ◌⊎◌, ◌≢◌, ltb}
use Rattle.std.proofs.Common.{sym, ap, ap₂, ◌∙◌, inl, inr, ⊎_elim, arith, length-drop, eq-eqb, ne_eqb}
use Rattle.std.proofs.Math.Bool.{false}
use mathlib.Core.List.Memᴰ
use mathlib.Core.List.{List, [], ◌∷◌, map, map-map, map-id, Memᴰ}
use Rattle.std.proofs.Math.Decide.{ℕ_discrete}
use Rattle.std.proofs.Math.ListN.{length}
use Rattle.std.proofs.lemmas.List.{length-map}
use Rattle.std.proofs.lemmas.Bool.{not-false}
use Rattle.octets.specs.OctetsLaws.{length_part}
use Rattle.quorum.specs.Quorum.{bit, In, union, seats, size}
use Rattle.quorum.specs.QuorumLaws.{bit_cases, bit-union, has_true, has_false, in_union, same_seats, union_lt, mem-seats, size_le, size-within, length-seats}
use Rattle.protocol.specs.Layout.{signature_length, pair_lower_at, pair_higher_at}
use Rattle.protocol.specs.Entries.{Laid, form_seats}
use Rattle.protocol.specs.EntriesLaws.{map_same, length-read}
use Rattle.protocol.specs.Message.{Pair, ValuesEach, Message, Evidence, pair_bytes, evidence_form, form_of, count_of, read_evidence, read, round_of, entry_seats, seats_of, signed}
use Rattle.protocol.specs.MessageLaws.{evidence-fits, read_is_evidence}
use Rattle.protocol.specs.Certificate.{set_of}
use Rattle.protocol.specs.CertificateLaws.{in_set, set-seats}
use Rattle.protocol.specs.Joining.{pairs_in, pair_among, joined_pair, joined_pairs}
use Rattle.protocol.specs.JoiningLaws.{new_cases, new-evidence}
use Rattle.protocol.specs.Refusals.{Checks, every, is_evidence, rising, lower_first, not_lower_first}
use Rattle.protocol.specs.ConditionsLaws.{every_each}
use Rattle.protocol.specs.SeatLaws.{seats-set}
use Rattle.round.specs.Round.{Each, Relation, EachSigned}
use Rattle.reading.specs.ListsLaws.{each_map, rising_first}
use Rattle.reading.specs.Reading.{Sized}
use Rattle.reading.specs.ReadingLaws.{read-sized}
use Rattle.claims.specs.Sound.{Pairs}
use Rattle.claims.specs.CertificatesLaws.{set-size, set_below, seats-rising}
use Rattle.claims.specs.UnrefusedLaws.{Taken, signed-pairs}
use Rattle.claims.specs.NotRefused.{PackFit}

-- ---- the pair of a seat among entries

abbrev pub seats_among : List Pair → List ℕ
seats_among ps = map (λ (p : Pair). p.seat) ps

-- the first entry's where it has the seat, else the one among the others
among_cases : (p : Pair) (ps : List Pair) (s : ℕ) (P : Pair → Type 0) → (p.seat ≡ s → P p) → (p.seat ≢ s → P (pair_among ps s)) → P (pair_among (p ∷ ps) s)
unfolding pair_among
among_cases p ps s P here later = go (ℕ_discrete p.seat s)
  where
    go : Dec (p.seat ≡ s) → P (pair_among (p ∷ ps) s)
    go (yes e) = rw (eq-eqb p.seat s e) (here e)
    go (no d) = rw (ne_eqb p.seat s d) (later d)

pair-seat : (ps : List Pair) (s : ℕ) → (pair_among ps s).seat ≡ s
unfolding pair_among
pair-seat [] s = refl
pair-seat (p ∷ ps) s = among_cases p ps s (λ q. q.seat ≡ s) (λ e. e) (λ d. pair-seat ps s)

-- it is one of the entries
pair_member : (ps : List Pair) (s : ℕ) → Memᴰ s (seats_among ps) → Memᴰ (pair_among ps s) ps
pair_member [] s m = absurd (Memᴰ.not-nil m)
pair_member (p ∷ ps) s m =
    among_cases p ps s (λ q. Memᴰ q (p ∷ ps)) (λ e. Memᴰ.head refl)
    (λ d. Memᴰ.tail (pair_member ps s (⊎_elim (λ (e : s ≡ p.seat). absurd (d (sym e))) (λ t. t) (Memᴰ.cases_cons m))))

-- among entries made seat by seat
among_made : (f : ℕ → Pair) → ((s : ℕ) → (f s).seat ≡ s) → (l : List ℕ) (s : ℕ) → Memᴰ s l → pair_among (map f l) s ≡ f s
among_made f h [] s m = absurd (Memᴰ.not-nil m)
among_made f h (x ∷ l) s m =
    among_cases (f x) (map f l) s (λ q. q ≡ f s) (λ e. ap f (sym (h x) ∙ e))
    (λ d. among_made f h l s (⊎_elim (λ (e : s ≡ x). absurd (d (h x ∙ sym e))) (λ t. t) (Memᴰ.cases_cons m)))

-- entries whose seats rise are the pairs of their seats
among_own : (ps : List Pair) → rising (seats_among ps) ≡ true → map (pair_among ps) (seats_among ps) ≡ ps
among_own [] h = refl
among_own (p ∷ ps) h =
    let first = rising_first p.seat (seats_among ps) h in
    ap₂ ◌∷◌ (among_cases p ps p.seat (λ q. q ≡ p) (λ e. refl) (λ d. absurd (d refl)))
    (map_same (pair_among (p ∷ ps)) (pair_among ps) (seats_among ps)
    (λ s m. among_cases p ps s (λ q. q ≡ pair_among ps s) (λ e. let l = first.1 s m in absurd (omega arith)) (λ d. refl))
    ∙ among_own ps first.0)

-- ---- one pack from two

-- the set of the seats of either
abbrev either : List Pair → List Pair → ℕ
either ps qs = union (set_of (seats_among ps)) (set_of (seats_among qs))

module _ (n ρ σ : ℕ) (ps qs : List Pair) where
  abbrev first : Message
  first = Evidence ρ ValuesEach ps

  abbrev second : Message
  second = Evidence σ ValuesEach qs

  abbrev named : ℕ
  named = either ps qs

  pair_of_first : (s : ℕ) → In s (set_of (seats_among ps)) → joined_pair first second s ≡ pair_among ps s
  unfolding joined_pair pairs_in entry_seats form_seats evidence_form
  pair_of_first s i = rw ((has_true s (set_of (seats_among ps))).1 i)

  pair_of-second : (s : ℕ) → bit s (set_of (seats_among ps)) ≡ 0 → joined_pair first second s ≡ pair_among qs s
  unfolding joined_pair pairs_in entry_seats form_seats evidence_form
  pair_of-second s z = rw ((has_false s (set_of (seats_among ps))).1 z)

  joined-seat : (s : ℕ) → (joined_pair first second s).seat ≡ s
  joined-seat s =
      ⊎_elim (λ z. ap (λ (p : Pair). p.seat) (pair_of-second s z) ∙ pair-seat qs s) (λ i. ap (λ (p : Pair). p.seat) (pair_of_first s i) ∙ pair-seat ps s)
      (bit_cases s (set_of (seats_among ps)))

  -- "the seats of either, rising"
  pub joined-seats : seats_among (joined_pairs n first second) ≡ seats n named
  unfolding joined_pairs entry_seats form_seats evidence_form
  joined-seats =
      map-map (λ (p : Pair). p.seat) (joined_pair first second) (seats n named)
      ∙ map_same (λ s. (joined_pair first second s).seat) (λ s. s) (seats n named) (λ s d. joined-seat s)
      ∙ map-id (seats n named)

  pub joined-set : set_of (seats_among ps) < 2 ^ n → set_of (seats_among qs) < 2 ^ n → set_of (seats_among (joined_pairs n first second)) ≡ named
  joined-set a b = ap set_of joined-seats ∙ set-seats n named (union_lt n (set_of (seats_among ps)) (set_of (seats_among qs)) a b)

  -- a fact about every entry of either is one about every entry of what is joined
  pub joined_each : (P : Pair → Type 0) → Each P ps → Each P qs → Each P (joined_pairs n first second)
  unfolding joined_pairs entry_seats form_seats evidence_form
  joined_each P f g p d =
      let m = Memᴰ.of_map (joined_pair first second) (seats n named) d in
      let s = m.0 in
      let where-in = (in_union s (set_of (seats_among ps)) (set_of (seats_among qs))).0 ((mem-seats n s named).0 m.1).1 in
      rw (← m.2)
      (⊎_elim
      (λ (z : bit s (set_of (seats_among ps)) ≡ 0). rw (pair_of-second s z)
      (g (pair_among qs s) (pair_member qs s (⊎_elim (λ i. absurd (omega arith)) (λ i. (in_set s (seats_among qs)).0 i) where-in))))
      (λ i. rw (pair_of_first s i) (f (pair_among ps s) (pair_member ps s ((in_set s (seats_among ps)).0 i))))
      (bit_cases s (set_of (seats_among ps))))

  -- "a seat found in both has the pair of the pack named first"
  module _ (s : ℕ) (l : s < n) where
    among_joined : In s named → pair_among (joined_pairs n first second) s ≡ joined_pair first second s
    unfolding joined_pairs entry_seats form_seats evidence_form
    among_joined i = among_made (joined_pair first second) joined-seat (seats n named) s ((mem-seats n s named).1 (l, i))

    pub joined_first : In s (set_of (seats_among ps)) → pair_among (joined_pairs n first second) s ≡ pair_among ps s
    joined_first i = among_joined ((in_union s (set_of (seats_among ps)) (set_of (seats_among qs))).1 (inl i)) ∙ pair_of_first s i

    pub joined-second : bit s (set_of (seats_among ps)) ≡ 0 → In s (set_of (seats_among qs)) → pair_among (joined_pairs n first second) s ≡ pair_among qs s
    joined-second z i = among_joined ((in_union s (set_of (seats_among ps)) (set_of (seats_among qs))).1 (inr i)) ∙ pair_of-second s z

-- ---- a pack joined with itself

union_self : (m : ℕ) → union m m ≡ m
union_self m = same_seats (union m m) m (λ s. omega (arith, bit-union s m m))

pub joined_self : (n ρ : ℕ) (ps : List Pair) → rising (seats_among ps) ≡ true → every (λ (s : ℕ). ltb s n) (seats_among ps) ≡ true
    → joined_pairs n (Evidence ρ ValuesEach ps) (Evidence ρ ValuesEach ps) ≡ ps
unfolding joined_pairs entry_seats form_seats evidence_form
joined_self n ρ ps r e =
    let m = Evidence ρ ValuesEach ps in
    let own : (s : ℕ) → joined_pair m m s ≡ pair_among ps s =
    λ s. ⊎_elim (pair_of-second n ρ ρ ps ps s) (pair_of_first n ρ ρ ps ps s) (bit_cases s (set_of (seats_among ps))) in
    ap (λ u. map (joined_pair m m) (seats n u)) (union_self (set_of (seats_among ps)))
    ∙ ap (map (joined_pair m m)) (seats-set n (seats_among ps) r e)
    ∙ map_same (joined_pair m m) (pair_among ps) (seats_among ps) (λ s d. own s)
    ∙ among_own ps r

-- ---- a pack that a joining takes

-- the count of an EVIDENCE that was read: "1 to n"
read_count : (n : ℕ) (bytes : List ℕ) → is_evidence (read n bytes) ≡ true → (1 ≤ length (pairs_in (read n bytes))) × (length (pairs_in (read n bytes)) ≤ n)
unfolding pairs_in read_evidence
read_count n bytes e =
    let r = read_is_evidence n bytes e in
    let f = evidence-fits n bytes r.1 in
    rw r.0 (omega (arith, length-read (form_of bytes) (count_of bytes) bytes), omega (arith, length-read (form_of bytes) (count_of bytes) bytes))

-- the signatures of a pair have their length
pair_signatures : (ps : List Pair) → Laid (evidence_form ValuesEach) ps → Each (λ (p : Pair). (length p.lower ≡ signature_length) × (length p.higher ≡ signature_length)) ps
unfolding evidence_form
pair_signatures ps h p d =
    let laid = h p d in
    let held = pair_bytes ValuesEach p in (
      ap (λ (x : Pair). length x.lower) (sym laid.1) ∙ length_part pair_lower_at signature_length held (omega arith),
      ap (λ (x : Pair). length x.higher) (sym laid.1) ∙ length-drop pair_higher_at held ∙ omega arith,
    )

module _ (checks : Checks) (W : Relation) (n round : ℕ) where
  pairs-taken : (ρ : ℕ) (ps : List Pair) → Taken checks n round (Evidence ρ ValuesEach ps) → not_lower_first (Evidence ρ ValuesEach ps) ≡ false → Laid (evidence_form ValuesEach) ps → 1 ≤ length ps → length ps ≤ n
      → EachSigned W (Evidence ρ ValuesEach ps) → Pairs checks W n ps
  unfolding not_lower_first signed seats_of entry_seats form_seats evidence_form
  pairs-taken ρ ps t l laid some few w =
      let sized = pair_signatures ps laid in
      let checked = (signed-pairs (λ s v g. checks s v g ≡ true) ps).0 t.checked in
      let worthy = (signed-pairs W ps).0 w in
      record {
        laid = laid;
        ordered = every_each lower_first ps (not-false _ l);
        some = some;
        few = few;
        rise = t.rises;
        below = λ p d. t.inside p.seat (Memᴰ.map (λ (x : Pair). x.seat) d);
        lows = λ p d. record { checked = (checked p d).0; sized = (sized p d).0; worthy = (worthy p d).0 };
        highs = λ p d. record { checked = (checked p d).1; sized = (sized p d).1; worthy = (worthy p d).1 };
      }

  pub pack_elim : (bytes : List ℕ) → PackFit checks n round bytes → EachSigned W (read n bytes) → (P : Message → Type 0)
      → ((ps : List Pair) → Pairs checks W n ps → P (Evidence round ValuesEach ps)) → P (read n bytes)
  unfolding pairs_in round_of
  pack_elim bytes t w P f =
      let count = read_count n bytes (new-evidence (read n bytes) t.is_new) in
      new_cases
      (λ m. Taken checks n round m → not_lower_first m ≡ false → Sized n m → 1 ≤ length (pairs_in m) → length (pairs_in m) ≤ n → EachSigned W m → P m) (read n bytes) t.is_new
      (λ ρ ps taken low laid some few worthy.
      let z = pairs-taken ρ ps taken low laid some few worthy in
      rw taken.in_round (f ps z))
      t.message t.conflict (read-sized n bytes) count.0 count.1 w

-- ---- the pack that two become

pub pairs_set : (checks : Checks) (W : Relation) (n : ℕ) (ps : List Pair) → Pairs checks W n ps → set_of (seats_among ps) < 2 ^ n
pairs_set checks W n ps z = set_below n (seats_among ps) (each_map (λ s. s < n) (λ (p : Pair). p.seat) ps z.below)

module _ (checks : Checks) (W : Relation) (n ρ σ : ℕ) (ps qs : List Pair) (y : Pairs checks W n ps) (z : Pairs checks W n qs) where
  abbrev entries : List Pair
  entries = joined_pairs n (Evidence ρ ValuesEach ps) (Evidence σ ValuesEach qs)

  pub joined-pairs : Pairs checks W n entries
  joined-pairs =
      let each : (P : Pair → Type 0) → Each P ps → Each P qs → Each P entries = joined_each n ρ σ ps qs in
      let named = either ps qs in
      let below = union_lt n (set_of (seats_among ps)) (set_of (seats_among qs)) (pairs_set checks W n ps y) (pairs_set checks W n qs z) in
      let many : length entries ≡ size named = sym (length-map entries (λ (p : Pair). p.seat)) ∙ ap length (joined-seats n ρ σ ps qs) ∙ length-seats n named below in
      let first : size (set_of (seats_among ps)) ≡ length ps = set-size (seats_among ps) y.rise ∙ length-map ps (λ (p : Pair). p.seat) in
      record {
        laid = each _ y.laid z.laid;
        ordered = each _ y.ordered z.ordered;
        some = omega (arith, y.some, size-within named (set_of (seats_among ps)) (λ s i. (in_union s (set_of (seats_among ps)) (set_of (seats_among qs))).1 (inl i)));
        few = omega (arith, size_le n named below);
        rise = ap rising (joined-seats n ρ σ ps qs) ∙ seats-rising n named;
        below = each _ y.below z.below;
        lows = each _ y.lows z.lows;
        highs = each _ y.highs z.highs;
      }
