-- The rules of lines 25, 33 and 39: none is due after each was tried once, so that once after each event is enough.
-- Assumes nothing.
use Rattle.std.specs.Prelude.{ℕ, ◌≡◌, Bool, true, false, not, ◌&&◌, leb, length}
use Rattle.std.proofs.Math.Path.{refl, sym, ap, subst}
use Rattle.std.proofs.Common.{◌∙◌}
use Rattle.std.proofs.Math.Bool.{cond, and-false}
use mathlib.Core.List.{List, [], ◌∷◌, ◌++◌, append-nil, append_assoc, Memᴰ}
use Rattle.quorum.specs.Quorum.{k}
use Rattle.protocol.specs.Refusals.{Checks}
use Rattle.round.specs.Round.{Each}
use Rattle.reading.specs.ListsLaws.{cond_elim, each_nil, each_cons}
use Rattle.paper.specs.Machine.{FullCertificate, Machine, Reaction, act, is_some, conflict, value_of_notice, newly, shows_more, upon_notice_delivered, obtain, confirming, upon_quorum, sending, upon_notices_conflict, detecting, upon_conflict, upon_conflicts, upon_conflicts_in, upon_fulls_conflict, upon_rules}
use Rattle.paper.specs.NewlyLaws.{shows_no_more, still_no_more}

-- whether the rules of lines 25 and 33 are due
abbrev pub quorum_due : ℕ → Machine → Bool
quorum_due n m = not m.confirmed && leb (k n) (length m.collected)

abbrev pub notices_due : Machine → Bool
notices_due m = m.confirmed && not m.sent && is_some (conflict value_of_notice m.noticed)

-- line 39's isn't: none of the certificates obtained shows more than was detected
abbrev pub Quiet : List ℕ → List FullCertificate → Type 0
Quiet detected [] = Unit {0}
Quiet detected (c ∷ ds) = Each (λ (d : FullCertificate). shows_more detected c d ≡ false) ds

-- no rule is due
pub record AtRest (n : ℕ) (m : Machine) : Type 0 where
  pub quorum : quorum_due n m ≡ false
  pub notices : notices_due m ≡ false
  pub fulls : Quiet m.detected m.obtained

module _ (checks : Checks) (n own : ℕ) where
  -- ---- line 39 where certificates show no more

  conflict-quiet : (c d : FullCertificate) (x : Reaction) → shows_more x.machine.detected c d ≡ false → upon_conflict checks n own c d x ≡ x
  unfolding upon_conflict
  conflict-quiet c d x e = ap (λ (b : Bool). cond b (detecting checks n own c d x) x) e

  -- those before the last show no more, and so the last alone is looked at
  pub conflict_last : (c : FullCertificate) (ds : List FullCertificate) (d : FullCertificate) (x : Reaction) → Each (λ (b : FullCertificate). shows_more x.machine.detected c b ≡ false) ds
      → upon_conflicts checks n own c (ds ++ d ∷ []) x ≡ upon_conflict checks n own c d x
  unfolding upon_conflicts
  conflict_last c [] d x q = refl
  conflict_last c (b ∷ ds) d x q =
      ap (upon_conflicts checks n own c (ds ++ d ∷ [])) (conflict-quiet c b x (q b (Memᴰ.head refl))) ∙ conflict_last c ds d x (λ e m. q e (Memᴰ.tail m))

  conflicts_quiet : (c : FullCertificate) (ds : List FullCertificate) (x : Reaction) → Each (λ (d : FullCertificate). shows_more x.machine.detected c d ≡ false) ds
      → upon_conflicts checks n own c ds x ≡ x
  unfolding upon_conflicts
  conflicts_quiet c [] x q = refl
  conflicts_quiet c (d ∷ ds) x q =
      ap (upon_conflicts checks n own c ds) (conflict-quiet c d x (q d (Memᴰ.head refl))) ∙ conflicts_quiet c ds x (λ b m. q b (Memᴰ.tail m))

  pub fulls-quiet : (x : Reaction) → Quiet x.machine.detected x.machine.obtained → upon_fulls_conflict checks n own x ≡ x
  unfolding upon_fulls_conflict upon_conflicts_in
  fulls-quiet x = go x.machine.obtained
    where
      go : (obtained : List FullCertificate) → Quiet x.machine.detected obtained → upon_conflicts_in checks n own obtained x ≡ x
      go [] q = refl
      go (c ∷ ds) q = conflicts_quiet c ds x q

  -- the rules do nothing at rest
  pub rest-quiet : (x : Reaction) → AtRest n x.machine → upon_rules checks n own x ≡ x
  unfolding upon_rules upon_quorum upon_notices_conflict
  rest-quiet x r =
      ap (λ (b : Bool). upon_fulls_conflict checks n own (upon_notices_conflict checks n own (cond b (confirming checks n own x) x))) r.quorum
      ∙ ap (λ (b : Bool). upon_fulls_conflict checks n own (cond b (sending checks n own x) x)) r.notices
      ∙ fulls-quiet x r.fulls

  -- ---- the machine at rest after the rules

  quorum-done : (x : Reaction) → quorum_due n (upon_quorum checks n own x).machine ≡ false
  unfolding upon_quorum confirming obtain upon_notice_delivered act
  quorum-done x = cond_elim (λ y. quorum_due n y.machine ≡ false) (quorum_due n x.machine) (confirming checks n own x) x (λ e. refl) (λ e. e)

  notices-done : (x : Reaction) → notices_due (upon_notices_conflict checks n own x).machine ≡ false
  unfolding upon_notices_conflict sending act
  notices-done x =
      cond_elim (λ y. notices_due y.machine ≡ false) (notices_due x.machine) (sending checks n own x) x
      (λ e. ap (λ (b : Bool). b && is_some (conflict value_of_notice x.machine.noticed)) (and-false x.machine.confirmed)) (λ e. e)

  notices-quorum : (x : Reaction) → quorum_due n (upon_notices_conflict checks n own x).machine ≡ quorum_due n x.machine
  unfolding upon_notices_conflict sending act
  notices-quorum x = cond_elim (λ y. quorum_due n y.machine ≡ quorum_due n x.machine) (notices_due x.machine) (sending checks n own x) x (λ e. refl) (λ e. refl)

  -- what holds before line 39's rule, and after each detection of two certificates obtained, holds after it
  module _ (P : Reaction → Type 0) where
    conflicts_elim : (obtained : List FullCertificate) (c : FullCertificate) (ds : List FullCertificate) (x : Reaction) → Memᴰ c obtained → Each (λ (d : FullCertificate). Memᴰ d obtained) ds → P x
        → ((d : FullCertificate) (y : Reaction) → Memᴰ d obtained → shows_more y.machine.detected c d ≡ true → P y → P (detecting checks n own c d y))
        → P (upon_conflicts checks n own c ds x)
    unfolding upon_conflicts upon_conflict
    conflicts_elim obtained c [] x i j p f = p
    conflicts_elim obtained c (d ∷ ds) x i j p f =
        let here = j d (Memᴰ.head refl) in
        conflicts_elim obtained c ds (upon_conflict checks n own c d x) i (λ b m. j b (Memᴰ.tail m))
        (cond_elim P (shows_more x.machine.detected c d) (detecting checks n own c d x) x (λ e. f d x here e p) (λ e. p)) f

    pub fulls_elim : (x : Reaction) → P x
        → ((c d : FullCertificate) (y : Reaction) → Memᴰ c x.machine.obtained → Memᴰ d x.machine.obtained → shows_more y.machine.detected c d ≡ true → P y → P (detecting checks n own c d y))
        → P (upon_fulls_conflict checks n own x)
    unfolding upon_fulls_conflict upon_conflicts_in
    fulls_elim x p f = go x.machine.obtained (λ b m. m)
      where
        go : (obtained : List FullCertificate) → Each (λ (b : FullCertificate). Memᴰ b x.machine.obtained) obtained → P (upon_conflicts_in checks n own obtained x)
        go [] j = p
        go (c ∷ ds) j = let first = j c (Memᴰ.head refl) in conflicts_elim x.machine.obtained c ds x first (λ b m. j b (Memᴰ.tail m)) p (λ d y. f c d y first)

  -- line 39's rule doesn't make the others due, and obtains nothing
  abbrev Like : Reaction → Reaction → Type 0
  Like x y = (quorum_due n y.machine ≡ quorum_due n x.machine) × (notices_due y.machine ≡ notices_due x.machine) × (y.machine.obtained ≡ x.machine.obtained)

  fulls_due : (x : Reaction) → Like x (upon_fulls_conflict checks n own x)
  unfolding detecting act
  fulls_due x = fulls_elim (Like x) x (refl, refl, refl) (λ c d y i j e p. p)

  -- the seats detected only become more
  conflicts_grow : (c : FullCertificate) (ds : List FullCertificate) (x : Reaction) → (more : List ℕ) × ((upon_conflicts checks n own c ds x).machine.detected ≡ x.machine.detected ++ more)
  unfolding detecting act
  conflicts_grow c ds x =
      conflicts_elim (λ y. (more : List ℕ) × (y.machine.detected ≡ x.machine.detected ++ more)) (c ∷ ds) c ds x (Memᴰ.head refl) (λ d m. Memᴰ.tail m) ([], sym (append-nil x.machine.detected))
      (λ d y m e p.
      let now = newly y.machine.detected c.entries d.entries in
      (p.0 ++ now, ap (λ (s : List ℕ). s ++ now) p.1 ∙ append_assoc x.machine.detected p.0 now))

  conflict-done : (c d : FullCertificate) (x : Reaction) → shows_more (upon_conflict checks n own c d x).machine.detected c d ≡ false
  unfolding upon_conflict detecting act
  conflict-done c d x = cond_elim (λ y. shows_more y.machine.detected c d ≡ false) (shows_more x.machine.detected c d) (detecting checks n own c d x) x (λ e. shows_no_more c d x.machine.detected) (λ e. e)

  conflicts_done : (c : FullCertificate) (ds : List FullCertificate) (x : Reaction) → Each (λ (d : FullCertificate). shows_more (upon_conflicts checks n own c ds x).machine.detected c d ≡ false) ds
  unfolding upon_conflicts
  conflicts_done c [] x = each_nil (λ d. shows_more x.machine.detected c d ≡ false)
  conflicts_done c (d ∷ ds) x =
      let y = upon_conflict checks n own c d x in
      let grown = conflicts_grow c ds y in
      each_cons (λ b. shows_more (upon_conflicts checks n own c ds y).machine.detected c b ≡ false) d ds
      (subst (λ (s : List ℕ). shows_more s c d ≡ false) (sym grown.1) (still_no_more c d y.machine.detected grown.0 (conflict-done c d x)))
      (conflicts_done c ds y)

  fulls-done : (x : Reaction) → Quiet (upon_fulls_conflict checks n own x).machine.detected (upon_fulls_conflict checks n own x).machine.obtained
  unfolding upon_fulls_conflict upon_conflicts_in
  fulls-done x = subst (Quiet (upon_fulls_conflict checks n own x).machine.detected) (sym (fulls_due x).2) (go x.machine.obtained)
    where
      go : (obtained : List FullCertificate) → Quiet (upon_conflicts_in checks n own obtained x).machine.detected obtained
      go [] = tt
      go (c ∷ ds) = conflicts_done c ds x

  pub rules-rest : (x : Reaction) → AtRest n (upon_rules checks n own x).machine
  unfolding upon_rules
  rules-rest x =
      let a = upon_quorum checks n own x in
      let b = upon_notices_conflict checks n own a in
      record {
        quorum = (fulls_due b).0 ∙ notices-quorum a ∙ quorum-done x;
        notices = (fulls_due b).1 ∙ notices-done a;
        fulls = fulls-done b;
      }
