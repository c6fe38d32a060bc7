-- Lists of entries: the set of their seats, the signature of a seat, and the messages made from them; and lists of SUBMITs: the first
-- of a seat.
-- Assumes nothing.
use Rattle.std.specs.Prelude.{ℕ, zero, suc, ◌^◌, ◌<◌, ◌≡◌, refl, Bool, true, false, cond, not, ◌&&◌, ◌||◌, ◌⊎◌, ◌≢◌, eqb, take}
use Rattle.std.proofs.Common.{sym, subst, ◌∙◌, true≢false, inl, inr, ⊎_elim, arith, eqb-true, eq-eqb, ne_eqb}
use Rattle.std.proofs.Math.Path.{ap, ap₂}
use mathlib.Core.List.Memᴰ
use mathlib.Core.List.{List, [], ◌∷◌, ◌++◌, map, map-append, Memᴰ}
use Rattle.std.proofs.Math.Option.{Option, none, some}
use Rattle.std.proofs.Math.Decide.{ℕ_discrete}
use Rattle.std.proofs.lemmas.Bool.{eqb-false, not-true}
use Rattle.octets.specs.Strings.{same}
use Rattle.octets.specs.StringsLaws.{same_refl}
use Rattle.quorum.specs.Quorum.{bit, In, has, one, union, shared, less, with, seats}
use Rattle.quorum.specs.QuorumLaws.{bit-empty, bit-union, bit-shared, bit-less, bit_with_same, bit_with_other, has_true, has_false, in_shared, in_less, mem-seats, same_seats}
use Rattle.refusal.specs.RefusalLaws.{both_true, both_false}
use Rattle.protocol.specs.Values.{is_lower}
use Rattle.protocol.specs.EntriesLaws.{map_same}
use Rattle.protocol.specs.Message.{Entry, Signed, ValuesEach, Full, Evidence}
use Rattle.protocol.specs.Certificate.{set_of, signature_of, entries_of, full_of, pair_of, pairs_of, ordered_evidence, evidence_of}
use Rattle.protocol.specs.CertificateLaws.{in_set, set_snoc}
use Rattle.protocol.specs.Refusals.{rising}
use Rattle.round.specs.Round.{Each}
use Rattle.round.specs.Demand1.{worth}
use Rattle.reading.specs.ListsLaws.{cond_elim, each_nil, each_cons, each_map, rising_first}
use Rattle.claims.specs.CertificatesLaws.{set_below}
use Rattle.paper.specs.Machine.{FullCertificate, is_from, first_from, distinct, is_in, is_empty, newly, shows_more}
use Rattle.paper.specs.Memory.{seats_in, early_seats}
use Rattle.paper.specs.ConflictsLaws.{some_none}
use Rattle.paper.specs.NewlyLaws.{newly_is}

-- ---- the set of seats

pub seats_none : seats_in [] ≡ 0
unfolding seats_in set_of
seats_none = refl

pub seats-more : (es : List Entry) (e : Entry) → seats_in (es ++ e ∷ []) ≡ with e.seat (seats_in es)
unfolding seats_in
seats-more es e = ap set_of (map-append (λ (x : Entry). x.seat) es (e ∷ [])) ∙ set_snoc (map (λ (x : Entry). x.seat) es) e.seat

pub seats-below : (n : ℕ) (es : List Entry) → Each (λ (e : Entry). e.seat < n) es → seats_in es < 2 ^ n
unfolding seats_in
seats-below n es h = set_below n (map (λ (e : Entry). e.seat) es) (each_map (λ s. s < n) (λ (e : Entry). e.seat) es h)

-- another seat added changes nothing for a seat
has_still : (s t m : ℕ) → s ≢ t → has s m ≡ has s (with t m)
unfolding has
has_still s t m d = ap (λ (b : ℕ). eqb b 1) (sym (bit_with_other s t m d))

-- a seat is in the set exactly where an entry is from it
pub from_seats : (s : ℕ) (es : List Entry) → is_from s es ≡ has s (seats_in es)
unfolding is_from seats_in set_of
from_seats s [] = sym ((has_false s 0).1 (bit-empty s))
from_seats s (e ∷ es) = go (ℕ_discrete s e.seat) (from_seats s es)
  where
    go : Dec (s ≡ e.seat) → is_from s es ≡ has s (seats_in es) → (eqb e.seat s || is_from s es) ≡ has s (with e.seat (seats_in es))
    go (yes q) rest = rw (eq-eqb e.seat s (sym q)) (sym ((has_true s (with e.seat (seats_in es))).1 (rw q (bit_with_same e.seat (seats_in es)))))
    go (no d) rest = rw (ne_eqb e.seat s (λ q. d (sym q))) (rest ∙ has_still s e.seat (seats_in es) d)

pub from_member : (e : Entry) (es : List Entry) → Memᴰ e es → is_from e.seat es ≡ true
unfolding seats_in
from_member e es d =
    from_seats e.seat es ∙ (has_true e.seat (seats_in es)).1 ((in_set e.seat (map (λ (x : Entry). x.seat) es)).1 (Memᴰ.map (λ (x : Entry). x.seat) d))

-- ---- sets of seats, from lists

-- a list of seats, by the set of them
in_has : (s : ℕ) (xs : List ℕ) → is_in s xs ≡ has s (set_of xs)
unfolding is_in set_of
in_has s [] = sym ((has_false s 0).1 (bit-empty s))
in_has s (x ∷ xs) = go (ℕ_discrete s x) (in_has s xs)
  where
    go : Dec (s ≡ x) → is_in s xs ≡ has s (set_of xs) → (eqb x s || is_in s xs) ≡ has s (with x (set_of xs))
    go (yes q) rest = rw (eq-eqb x s (sym q)) (sym ((has_true s (with x (set_of xs))).1 (rw q (bit_with_same x (set_of xs)))))
    go (no d) rest = rw (ne_eqb x s (λ q. d (sym q))) (rest ∙ has_still s x (set_of xs) d)

pub set-empty : (xs : List ℕ) → eqb (set_of xs) 0 ≡ is_empty xs
unfolding set_of is_empty
set-empty [] = refl
set-empty (x ∷ xs) = ne_eqb (with x (set_of xs)) 0 (λ e. absurd (omega (arith, bit_with_same x (set_of xs), ap (bit x) e, bit-empty x)))

pub set_append : (xs ys : List ℕ) → set_of (xs ++ ys) ≡ union (set_of xs) (set_of ys)
unfolding set_of with union
set_append [] ys = refl
set_append (x ∷ xs) ys =
    let a = set_of xs in
    let b = set_of ys in
    rw (set_append xs ys)
    (same_seats (union (union a b) (one x)) (union (union a (one x)) b)
    (λ s. omega (arith, bit-union s a b, bit-union s (union a b) (one x), bit-union s a (one x), bit-union s (union a (one x)) b)))

-- the bit of a seat, by the test
bit_of_lem : (s m : ℕ) (b : Bool) → has s m ≡ b → bit s m ≡ worth b
unfolding worth
bit_of_lem s m true e = (has_true s m).0 e
bit_of_lem s m false e = (has_false s m).0 e

-- "those newly found": the shared seats, less those guilty
pub set-newly : (detected : List ℕ) (es ds : List Entry) → set_of (newly detected es ds) ≡ less (shared (seats_in es) (seats_in ds)) (set_of detected)
unfolding worth
set-newly detected es ds =
    same_seats (set_of (newly detected es ds)) (less (shared a b) c)
    (λ s.
    let told : has s new ≡ (has s a && (has s b && not (has s c))) = sym (in_has s (newly detected es ds)) ∙ newly_is s detected es ds ∙ rw (from_seats s es, from_seats s ds, in_has s detected) in
    go s (has s a) (has s b) (has s c) refl refl refl told)
  where
    new : ℕ
    new = set_of (newly detected es ds)

    a : ℕ
    a = seats_in es

    b : ℕ
    b = seats_in ds

    c : ℕ
    c = set_of detected

    go : (s : ℕ) (x y z : Bool) → has s a ≡ x → has s b ≡ y → has s c ≡ z → has s new ≡ (x && (y && not z)) → bit s new ≡ bit s (less (shared a b) c)
    go s true true true p q r h = omega (arith, bit_of_lem s new false h, bit_of_lem s a true p, bit_of_lem s b true q, bit_of_lem s c true r, bit-shared s a b, bit-less s (shared a b) c)
    go s true true false p q r h = omega (arith, bit_of_lem s new true h, bit_of_lem s a true p, bit_of_lem s b true q, bit_of_lem s c false r, bit-shared s a b, bit-less s (shared a b) c)
    go s true false z p q r h = omega (arith, bit_of_lem s new false h, bit_of_lem s b false q, bit-shared s a b, bit-less s (shared a b) c)
    go s false y z p q r h = omega (arith, bit_of_lem s new false h, bit_of_lem s a false p, bit-shared s a b, bit-less s (shared a b) c)

-- they are seats of both
pub newly-within : (detected : List ℕ) (es ds : List Entry) (s : ℕ) → In s (set_of (newly detected es ds)) → In s (seats_in es) × In s (seats_in ds)
newly-within detected es ds s i =
    (in_shared s (seats_in es) (seats_in ds)).0 ((in_less s (shared (seats_in es) (seats_in ds)) (set_of detected)).0 (subst (In s) (set-newly detected es ds) i)).0

pub shows-found : (detected : List ℕ) (c d : FullCertificate) → shows_more detected c d ≡ true
    → (c.value ≢ d.value) × Each (λ (s : ℕ). In s (seats_in c.entries) × In s (seats_in d.entries)) (newly detected c.entries d.entries)
unfolding shows_more
shows-found detected c d e =
    let new = newly detected c.entries d.entries in
    let differ = not-true (same c.value d.value) (both_true (not (same c.value d.value)) (not (is_empty new)) e).0 in (
      λ h. true≢false (sym (same_refl c.value) ∙ ap (same c.value) h ∙ differ),
      λ s m. newly-within detected c.entries d.entries s ((in_set s new).1 m),
    )

-- ---- the signature of a seat

pub signature-new : (s : ℕ) (g : List ℕ) (es : List Entry) → is_from s es ≡ false → signature_of (es ++ record { seat = s; signature = g } ∷ []) s ≡ g
unfolding signature_of is_from
signature-new s g [] e = rw (eq-eqb s s refl)
signature-new s g (x ∷ es) e = go (eqb x.seat s) e (λ p. signature-new s g es p)
  where
    go : (b : Bool) → (b || is_from s es) ≡ false → (is_from s es ≡ false → signature_of (es ++ record { seat = s; signature = g } ∷ []) s ≡ g)
        → cond b x.signature (signature_of (es ++ record { seat = s; signature = g } ∷ []) s) ≡ g
    go true p rest = absurd (true≢false p)
    go false p rest = rest p

pub signature-old : (s : ℕ) (es : List Entry) (e : Entry) → e.seat ≢ s → signature_of (es ++ e ∷ []) s ≡ signature_of es s
unfolding signature_of
signature-old s [] e d = rw (ne_eqb e.seat s d)
signature-old s (x ∷ es) e d = ap (cond (eqb x.seat s) x.signature) (signature-old s es e d)

-- a fact about each entry, for the signature of a seat among them
pub signature_each : (P : ℕ → List ℕ → Type 0) (es : List Entry) (s : ℕ) → Each (λ (e : Entry). P e.seat e.signature) es → In s (seats_in es) → P s (signature_of es s)
unfolding seats_in signature_of
signature_each P es s h i = go es h ((in_set s (map (λ (e : Entry). e.seat) es)).0 i)
  where
    go : (xs : List Entry) → Each (λ (e : Entry). P e.seat e.signature) xs → Memᴰ s (map (λ (e : Entry). e.seat) xs) → P s (signature_of xs s)
    go [] p d = absurd (Memᴰ.not-nil d)
    go (e ∷ xs) p d =
        cond_elim (P s) (eqb e.seat s) e.signature (signature_of xs s)
        (λ q. subst (λ t. P t e.signature) (eqb-true e.seat s q) (p e (Memᴰ.head refl)))
        (λ q. ⊎_elim (λ w. absurd (eqb-false e.seat s q (sym w))) (λ t. go xs (λ x m. p x (Memᴰ.tail m)) t) (Memᴰ.cases_cons d))

-- a seat's signature is that of an entry from it
pub signature_member : (es : List Entry) (s : ℕ) → In s (seats_in es) → Memᴰ (record { seat = s; signature = signature_of es s }) es
signature_member es s i = signature_each (λ t g. Memᴰ (record { seat = t; signature = g }) es) es s (λ e d. d) i

-- where the seats are different, each entry's signature is that of its seat
pub signature_is : (es : List Entry) → distinct es ≡ true → (e : Entry) → Memᴰ e es → signature_of es e.seat ≡ e.signature
unfolding distinct signature_of
signature_is [] h e d = absurd (Memᴰ.not-nil d)
signature_is (x ∷ es) h e d =
    let both = both_true (not (is_from x.seat es)) (distinct es) h in
    ⊎_elim (λ q. subst (λ (y : Entry). signature_of (x ∷ es) y.seat ≡ y.signature) (sym q) (rw (eq-eqb x.seat x.seat refl)))
    (λ t.
    let apart : x.seat ≢ e.seat = λ q. true≢false (sym (from_member e es t) ∙ subst (λ s. is_from s es ≡ false) q (not-true (is_from x.seat es) both.0)) in
    rw (ne_eqb x.seat e.seat apart) (signature_is es both.1 e t))
    (Memᴰ.cases_cons d)

-- ---- messages: only the signatures of the certificate's seats matter

module _ (n round : ℕ) where
  pub full_same : (seat : ℕ) (v : List ℕ) (m : ℕ) (f g : ℕ → List ℕ) → ((s : ℕ) → In s m → f s ≡ g s)
      → full_of n round seat (record { value = v; seats = m; signature = f }) ≡ full_of n round seat (record { value = v; seats = m; signature = g })
  unfolding full_of entries_of
  full_same seat v m f g h =
      ap (Full round seat v)
      (map_same (λ (s : ℕ). record { seat = s; signature = f s }) (λ (s : ℕ). record { seat = s; signature = g s }) (seats n m)
      (λ s d. ap (λ (x : List ℕ). record { seat = s; signature = x }) (h s ((mem-seats n s m).0 d).1)))

  module _ (mask : ℕ) (v w : List ℕ) (a b : ℕ) (f f' g g' : ℕ → List ℕ) (p : (s : ℕ) → In s mask → f s ≡ f' s) (q : (s : ℕ) → In s mask → g s ≡ g' s) where
    pairs_same : pairs_of n mask (record { value = v; seats = a; signature = f }) (record { value = w; seats = b; signature = g }) ≡ pairs_of n mask (record { value = v; seats = a; signature = f' }) (record { value = w; seats = b; signature = g' })
    unfolding pairs_of
    pairs_same =
        map_same (pair_of (record { value = v; seats = a; signature = f }) (record { value = w; seats = b; signature = g })) (pair_of (record { value = v; seats = a; signature = f' }) (record { value = w; seats = b; signature = g' })) (seats n mask)
        (λ s d.
        let i = ((mem-seats n s mask).0 d).1 in
        ap₂ (λ (x y : List ℕ). record { seat = s; lower_value = v; higher_value = w; lower = x; higher = y }) (p s i) (q s i))

  pub evidence_same : (mask : ℕ) (v w : List ℕ) (a b : ℕ) (f f' g g' : ℕ → List ℕ) → ((s : ℕ) → In s mask → f s ≡ f' s) → ((s : ℕ) → In s mask → g s ≡ g' s)
      → evidence_of n round mask (record { value = v; seats = a; signature = f }) (record { value = w; seats = b; signature = g }) ≡ evidence_of n round mask (record { value = v; seats = a; signature = f' }) (record { value = w; seats = b; signature = g' })
  unfolding evidence_of ordered_evidence
  evidence_same mask v w a b f f' g g' p q =
      ap₂ (cond (is_lower v w)) (ap (Evidence round ValuesEach) (pairs_same mask v w a b f f' g g' p q)) (ap (Evidence round ValuesEach) (pairs_same mask w v b a g g' f f' q p))

-- ---- different seats

from_more : (s : ℕ) (es : List Entry) (e : Entry) → is_from s es ≡ false → e.seat ≢ s → is_from s (es ++ e ∷ []) ≡ false
unfolding is_from
from_more s [] e h d = rw (ne_eqb e.seat s d)
from_more s (x ∷ es) e h d = let both = both_false (eqb x.seat s) (is_from s es) h in rw both.0 (from_more s es e both.1 d)

pub distinct_more : (es : List Entry) (e : Entry) → distinct es ≡ true → is_from e.seat es ≡ false → distinct (es ++ e ∷ []) ≡ true
unfolding distinct is_from
distinct_more [] e h d = refl
distinct_more (x ∷ es) e h d =
    let both = both_true (not (is_from x.seat es)) (distinct es) h in
    let new = both_false (eqb x.seat e.seat) (is_from e.seat es) d in
    rw (from_more x.seat es e (not-true (is_from x.seat es) both.0) (λ q. eqb-false x.seat e.seat new.0 (sym q))) (distinct_more es e both.1 new.1)

-- a fact about each, for the first i of a list
pub each_take {ℓ} : {A : Type ℓ} (P : A → Type 0) (i : ℕ) (xs : List A) → Each P xs → Each P (take i xs)
each_take P zero xs h = each_nil P
each_take P (suc i) [] h = each_nil P
each_take P (suc i) (x ∷ xs) h = each_cons P x (take i xs) (h x (Memᴰ.head refl)) (each_take P i xs (λ y d. h y (Memᴰ.tail d)))

from_take : (i s : ℕ) (es : List Entry) → is_from s es ≡ false → is_from s (take i es) ≡ false
unfolding is_from
from_take zero s es h = refl
from_take (suc i) s [] h = refl
from_take (suc i) s (e ∷ es) h = let both = both_false (eqb e.seat s) (is_from s es) h in rw both.0 (from_take i s es both.1)

pub distinct-take : (i : ℕ) (es : List Entry) → distinct es ≡ true → distinct (take i es) ≡ true
unfolding distinct
distinct-take zero es h = refl
distinct-take (suc i) [] h = refl
distinct-take (suc i) (e ∷ es) h =
    let both = both_true (not (is_from e.seat es)) (distinct es) h in
    rw (from_take i e.seat es (not-true (is_from e.seat es) both.0)) (distinct-take i es both.1)

-- ---- rising seats are different

from_above : (s : ℕ) (es : List Entry) → Each (λ t. s < t) (map (λ (e : Entry). e.seat) es) → is_from s es ≡ false
unfolding is_from
from_above s [] h = refl
from_above s (e ∷ es) h =
    let above = h e.seat (Memᴰ.head refl) in
    rw (ne_eqb e.seat s (λ q. omega arith)) (from_above s es (λ t d. h t (Memᴰ.tail d)))

pub rising-distinct : (es : List Entry) → rising (map (λ (e : Entry). e.seat) es) ≡ true → distinct es ≡ true
unfolding distinct
rising-distinct [] r = refl
rising-distinct (e ∷ es) r =
    let first = rising_first e.seat (map (λ (x : Entry). x.seat) es) r in
    rw (from_above e.seat es first.1) (rising-distinct es first.0)

-- ---- SUBMITs: the first of a seat

pub first_in_lem : (s : ℕ) (es : List Signed) (e : Signed) → first_from s es ≡ some e → Memᴰ e es × (e.seat ≡ s)
unfolding first_from
first_in_lem s [] e h = absurd (some_none e none h refl)
first_in_lem s (x ∷ es) e h = go (eqb x.seat s) refl h (λ p. first_in_lem s es e p)
  where
    go : (b : Bool) → eqb x.seat s ≡ b → cond b (some x) (first_from s es) ≡ some e → (first_from s es ≡ some e → Memᴰ e es × (e.seat ≡ s)) → Memᴰ e (x ∷ es) × (e.seat ≡ s)
    go true q p rest = let is : x ≡ e = cc in (Memᴰ.head (sym is), ap (λ (a : Signed). a.seat) (sym is) ∙ eqb-true x.seat s q)
    go false q p rest = let r = rest p in (Memᴰ.tail r.0, r.1)

-- where there is one, the seat is in the set of the seats
pub first_some : (s : ℕ) (es : List Signed) (e : Signed) → first_from s es ≡ some e → In s (early_seats es)
unfolding early_seats
first_some s es e h =
    let f = first_in_lem s es e h in
    (in_set s (map (λ (x : Signed). x.seat) es)).1 (subst (λ (t : ℕ). Memᴰ t (map (λ (x : Signed). x.seat) es)) f.1 (Memᴰ.map (λ (x : Signed). x.seat) f.0))

pub first_none : (s : ℕ) (es : List Signed) → first_from s es ≡ none → bit s (early_seats es) ≡ 0
unfolding first_from early_seats set_of
first_none s [] h = bit-empty s
first_none s (x ∷ es) h = go (eqb x.seat s) refl h (λ p. first_none s es p)
  where
    go : (b : Bool) → eqb x.seat s ≡ b → cond b (some x) (first_from s es) ≡ none → (first_from s es ≡ none → bit s (early_seats es) ≡ 0) → bit s (with x.seat (early_seats es)) ≡ 0
    go true q p rest = absurd (some_none x (some x) refl p)
    go false q p rest = bit_with_other s x.seat (early_seats es) (λ e. eqb-false x.seat s q (sym e)) ∙ rest p

-- with one more, the first of a seat is as before, or that one is the first
abbrev More : ℕ → Signed → Signed → Option Signed → Type 0
More s e a o = (o ≡ some a) ⊎ ((o ≡ none) × (e.seat ≡ s) × (a ≡ e))

pub first_more : (s : ℕ) (es : List Signed) (e a : Signed) → first_from s (es ++ e ∷ []) ≡ some a → More s e a (first_from s es)
unfolding first_from
first_more s [] e a h = go (eqb e.seat s) refl h
  where
    go : (b : Bool) → eqb e.seat s ≡ b → cond b (some e) none ≡ some a → More s e a none
    go true q p = let is : a ≡ e = cc in inr (refl, eqb-true e.seat s q, is)
    go false q p = absurd (some_none a none p refl)
first_more s (x ∷ es) e a h = go (eqb x.seat s) h (λ p. first_more s es e a p)
  where
    go : (b : Bool) → cond b (some x) (first_from s (es ++ e ∷ [])) ≡ some a → (first_from s (es ++ e ∷ []) ≡ some a → More s e a (first_from s es)) → More s e a (cond b (some x) (first_from s es))
    go true p rest = inl p
    go false p rest = rest p

pub early-more : (es : List Signed) (e : Signed) → early_seats (es ++ e ∷ []) ≡ with e.seat (early_seats es)
unfolding early_seats
early-more es e = ap set_of (map-append (λ (x : Signed). x.seat) es (e ∷ [])) ∙ set_snoc (map (λ (x : Signed). x.seat) es) e.seat

-- a seat that is in the set already
pub with_in : (s m : ℕ) → In s m → with s m ≡ m
with_in s m i = same_seats (with s m) m (λ t. go t (ℕ_discrete t s))
  where
    go : (t : ℕ) → Dec (t ≡ s) → bit t (with s m) ≡ bit t m
    go t (yes q) = rw q (bit_with_same s m ∙ sym i)
    go t (no d) = bit_with_other t s m d
