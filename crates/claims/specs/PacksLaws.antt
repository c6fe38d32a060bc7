-- Packs among messages written, and a record's marks: messages one after another, no message, one that is no pack, and a pack; the first
-- pack of a list, and how many there are.
-- Assumes nothing.
use Rattle.std.specs.Prelude.{◌≡◌, refl, Bool, true, false, ◌⊎◌, ◌≢◌, ℕ, ◌+◌, ◌≤◌}
use Rattle.std.proofs.Common.{sym, subst, ◌∙◌, true≢false, inl, inr, ⊎_elim}
use Rattle.std.proofs.Math.Path.{ap}
use mathlib.Core.List.Memᴰ
use mathlib.Core.List.{List, [], ◌∷◌, ◌++◌, Memᴰ}
use native.Mathlib.Omega.{arith}
use Rattle.quorum.specs.Quorum.{t0, k, bit, In, has, size, union}
use Rattle.quorum.specs.QuorumLaws.{bit_cases, has_true, has_false, bit-union, size-union-apart}
use Rattle.protocol.specs.Message.{Pair, PackForm, Message, Evidence, entry_seats}
use Rattle.protocol.specs.Certificate.{set_of}
use Rattle.protocol.specs.CertificateLaws.{in_set}
use Rattle.protocol.specs.Refusals.{is_full, is_evidence}
use Rattle.protocol.specs.declared.Record.{Record}
use Rattle.round.specs.Round.{Each}
use Rattle.round.specs.Demand1.{is_submit, is_notice, worth, count}
use Rattle.round.specs.Culprits.{pack_names}
use Rattle.reading.specs.ListsLaws.{worth-true, each_nil, each_cons, count_append, count_pos}
use Rattle.claims.specs.Sound.{Mark, SUBMITTED, CONFIRMED, SENT, NAMED, sets, flag_of, pack_size, pack_sizes, LargeFirst, Begun, Counts}

-- ---- messages one after another

sizes_append : (xs ys : List Message) → pack_sizes (xs ++ ys) ≡ pack_sizes xs + pack_sizes ys
unfolding pack_sizes
sizes_append [] ys = omega arith
sizes_append (x ∷ xs) ys = omega (arith, sizes_append xs ys)

large_append : (n : ℕ) (xs ys : List Message) → LargeFirst n xs → (count is_evidence xs ≡ 0 → LargeFirst n ys) → LargeFirst n (xs ++ ys)
unfolding LargeFirst count worth
large_append n [] ys l f = f refl
large_append n (x ∷ xs) ys l f = (l.0, λ e. large_append n xs ys (l.1 e) (λ z. f (rw e (omega arith))))

begun_append : (r r' : Record) (xs ys : List Message) → r'.n ≡ r.n → Begun r xs → (r.guilty ≡ 0 → Begun r' ys) → Begun r' (xs ++ ys)
begun_append r r' xs ys same a b = record {
  large = large_append r'.n xs ys (rw same a.large) (λ z. (b (a.innocent z)).large);
  innocent = λ z. let c = count_append is_evidence xs ys in (b (a.innocent (omega arith))).innocent (omega arith);
}

pub counts_append : (r r' r'' : Record) (xs ys : List Message) → r''.n ≡ r'.n → Counts r xs r' → Counts r' ys r'' → Counts r (xs ++ ys) r''
counts_append r r' r'' xs ys same a b = record {
  marked = λ μ. omega (arith, a.marked μ, b.marked μ, count_append (sets μ) xs ys);
  named = omega (arith, a.named, b.named, sizes_append xs ys);
  begun = λ e. begun_append r' r'' xs ys same (a.begun e) b.begun;
}

-- ---- no message, one that is no pack, and a pack

module _ (r r' : Record) where
  pub counts_none : r'.own.submitted ≡ r.own.submitted → r'.confirmed ≡ r.confirmed → r'.sent ≡ r.sent → r'.guilty ≡ r.guilty → Counts r [] r'
  unfolding count pack_sizes LargeFirst
  counts_none a b c d =
      record { marked = marked; named = omega (arith, ap size d); begun = λ e. record { large = tt; innocent = λ z. d ∙ e } }
    where
      marked : (μ : Mark) → count (sets μ) [] + worth (flag_of μ r) ≡ worth (flag_of μ r')
      marked SUBMITTED = omega (arith, ap worth a)
      marked CONFIRMED = omega (arith, ap worth b)
      marked SENT = omega (arith, ap worth c)
      marked (NAMED seat) = omega (arith, ap (λ m. worth (has seat m)) d)

  pub counts-other : (m : Message) → is_evidence m ≡ false → r'.guilty ≡ r.guilty → worth (is_submit m) + worth r.own.submitted ≡ worth r'.own.submitted
      → worth (is_notice m) + worth r.confirmed ≡ worth r'.confirmed → worth (is_full m) + worth r.sent ≡ worth r'.sent → Counts r (m ∷ []) r'
  unfolding count pack_sizes pack_size LargeFirst worth
  counts-other m is d a b c =
      record { marked = marked; named = rw is (omega (arith, ap size d)); begun = λ e. record { large = (λ t. absurd (true≢false (sym t ∙ is)), λ t. tt); innocent = λ z. d ∙ e } }
    where
      marked : (μ : Mark) → count (sets μ) (m ∷ []) + worth (flag_of μ r) ≡ worth (flag_of μ r')
      marked SUBMITTED = omega arith
      marked CONFIRMED = omega arith
      marked SENT = omega arith
      marked (NAMED seat) = rw is (omega (arith, ap (λ g. worth (has seat g)) d))

worth_has : (s m : ℕ) → worth (has s m) ≡ bit s m
unfolding worth
worth_has s m = ⊎_elim (λ z. rw ((has_false s m).1 z, z)) (λ i. rw ((has_true s m).1 i, i)) (bit_cases s m)

pub counts-pack : (r r' : Record) (ρ : ℕ) (form : PackForm) (ps : List Pair) (new : ℕ) → set_of (entry_seats (Evidence ρ form ps)) ≡ new → ((s : ℕ) → In s new → bit s r.guilty ≡ 0)
    → (r.guilty ≡ 0 → k r'.n ≤ size new + t0 r'.n) → r'.own.submitted ≡ r.own.submitted → r'.confirmed ≡ r.confirmed → r'.sent ≡ r.sent → r'.guilty ≡ union r.guilty new
    → Counts r (Evidence ρ form ps ∷ []) r'
unfolding count pack_sizes pack_size LargeFirst worth is_submit is_notice is_full is_evidence
counts-pack r r' ρ form ps new names apart large a b c d = record {
  marked = marked;
  named = rw (names, d) (omega (arith, size-union-apart r.guilty new apart));
  begun = λ e. record { large = (λ t. rw names (large e), λ t. absurd (true≢false t)); innocent = λ z. absurd (omega arith) };
}
  where
    marked : (μ : Mark) → count (sets μ) (Evidence ρ form ps ∷ []) + worth (flag_of μ r) ≡ worth (flag_of μ r')
    marked SUBMITTED = omega (arith, ap worth a)
    marked CONFIRMED = omega (arith, ap worth b)
    marked SENT = omega (arith, ap worth c)
    marked (NAMED seat) =
        let bits = bit-union seat r.guilty new in
        let all : worth (has seat new) + worth (has seat r.guilty) ≡ worth (has seat (union r.guilty new)) =
        rw (worth_has seat new, worth_has seat r.guilty, worth_has seat (union r.guilty new)) (⊎_elim (λ z. omega arith) (λ i. omega (arith, apart seat i)) (bit_cases seat new)) in
        rw (names, d) (omega arith)

-- ---- packs of a list

-- two members of a list are one and the same, or both count in every test that they pass
pub one_or_two {ℓ} : {A : Type ℓ} (xs : List A) (x y : A) → Memᴰ x xs → Memᴰ y xs
    → (x ≡ y) ⊎ ((test : A → Bool) → test x ≡ true → test y ≡ true → 2 ≤ count test xs)
unfolding count
one_or_two [] x y d e = absurd (Memᴰ.not-nil d)
one_or_two {A = A} (z ∷ zs) x y d e =
    let here : (w : A) → w ≡ z → (test : A → Bool) → test w ≡ true → worth (test z) ≡ 1 = λ w i test t. worth-true (test z) (subst (λ v. test v ≡ true) i t) in
    ⊎_elim
    (λ i. ⊎_elim (λ j. inl (i ∙ sym j)) (λ f. inr (λ test p q. omega (arith, here x i test p, count_pos test zs y f q))) (Memᴰ.cases_cons e))
    (λ c. ⊎_elim (λ j. inr (λ test p q. omega (arith, here y j test q, count_pos test zs x c p))) (λ f. ⊎_elim inl (λ two. inr (λ test p q. omega (arith, two test p q))) (one_or_two zs x y c f)) (Memᴰ.cases_cons e))
    (Memᴰ.cases_cons d)

-- a pack that names a seat
pub pack-names : (seat : ℕ) (m : Message) → is_evidence m ≡ true → Memᴰ seat (entry_seats m) → pack_names seat m ≡ true
pack-names seat m is d = rw (is, (has_true seat (set_of (entry_seats m))).1 ((in_set seat (entry_seats m)).1 d))

pub pack-size : (m : Message) → is_evidence m ≡ true → pack_size m ≡ size (set_of (entry_seats m))
unfolding pack_size
pack-size m is = rw is

-- the first pack, where there is one
pub record FirstPack (ms : List Message) : Type 0 where
  pub before : List Message
  pub pack : Message
  pub later : List Message
  pub split : ms ≡ before ++ pack ∷ later
  pub is_one : is_evidence pack ≡ true
  pub none : Each (λ m. is_evidence m ≡ false) before

by_test : {C : Type 0} (b : Bool) → (b ≡ true → C) → (b ≡ false → C) → C
by_test true f g = f refl
by_test false f g = g refl

after_other : (m : Message) (ms : List Message) → is_evidence m ≡ false → FirstPack ms → FirstPack (m ∷ ms)
after_other m ms e f = record {
  before = m ∷ f.before;
  pack = f.pack;
  later = f.later;
  split = rw f.split;
  is_one = f.is_one;
  none = each_cons (λ x. is_evidence x ≡ false) m f.before e f.none;
}

pub first_pack_lem : (ms : List Message) → count is_evidence ms ≢ 0 → FirstPack ms
unfolding count worth
first_pack_lem [] some = absurd (some refl)
first_pack_lem (m ∷ ms) some =
    by_test (is_evidence m) (λ e. record { before = []; pack = m; later = ms; split = refl; is_one = e; none = each_nil (λ x. is_evidence x ≡ false) })
    (λ e. after_other m ms e (first_pack_lem ms (λ z. some (rw e (omega arith)))))

pub first_large : (n : ℕ) (before : List Message) (m : Message) (later : List Message) → LargeFirst n (before ++ m ∷ later) → is_evidence m ≡ true → Each (λ x. is_evidence x ≡ false) before
    → k n ≤ pack_size m + t0 n
unfolding LargeFirst
first_large n [] m later l is none = l.0 is
first_large n (x ∷ before) m later l is none = first_large n before m later (l.1 (none x (Memᴰ.head refl))) is (λ y d. none y (Memᴰ.tail d))

-- each pack names a seat or more
abbrev pub NamesSome : Message → Type 0
NamesSome m = is_evidence m ≡ true → 1 ≤ pack_size m

pub size_member : (ms : List Message) (m : Message) → Memᴰ m ms → pack_size m ≤ pack_sizes ms
unfolding pack_sizes
size_member [] m d = absurd (Memᴰ.not-nil d)
size_member (x ∷ ms) m d = ⊎_elim (λ e. omega (arith, ap pack_size e)) (λ t. omega (arith, size_member ms m t)) (Memᴰ.cases_cons d)

packs-few : (ms : List Message) → Each NamesSome ms → count is_evidence ms ≤ pack_sizes ms
unfolding count worth pack_sizes
packs-few [] each = omega arith
packs-few (m ∷ ms) each =
    let rest = packs-few ms (λ x d. each x (Memᴰ.tail d)) in
    by_test (is_evidence m) (λ e. rw e (omega (arith, each m (Memᴰ.head refl) e))) (λ e. rw e (omega arith))

-- so that there are few after the first, which names k − t0 seats or more
pub packs_at_most : (n : ℕ) (ms : List Message) → LargeFirst n ms → Each NamesSome ms → count is_evidence ms ≢ 0 → count is_evidence ms + k n ≤ pack_sizes ms + t0 n + 1
unfolding count worth pack_sizes LargeFirst
packs_at_most n [] l each some = absurd (some refl)
packs_at_most n (m ∷ ms) l each some =
    let rest : Each NamesSome ms = λ x d. each x (Memᴰ.tail d) in
    by_test (is_evidence m) (λ e. rw e (omega (arith, l.0 e, packs-few ms rest))) (λ e. rw e (omega (arith, packs_at_most n ms (l.1 e) rest (λ z. some (rw e (omega arith))))))
