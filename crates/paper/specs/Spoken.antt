-- The message of each action, by the engine's functions: it meets `Says`, and no other message does.
-- Assumes nothing.
use Prim.Native.Nat.{ℕ, ◌<◌}
use Rattle.std.specs.Prelude.{◌≡◌, true, ◌≢◌, ◌↔◌, length}
use Rattle.std.proofs.Math.Path.{refl, ap, subst}
use Rattle.std.proofs.Common.{sym, ◌∙◌, true≢false, ⊎_elim, arith}
use Rattle.std.proofs.Math.Bool.{not}
use mathlib.Core.List.Memᴰ
use mathlib.Core.List.{List, [], ◌∷◌, map, Memᴰ}
use Rattle.std.proofs.Math.Logic.{inl, inr}
use Rattle.quorum.specs.Quorum.{In, seats}
use Rattle.quorum.specs.QuorumLaws.{mem-seats}
use Rattle.protocol.specs.Layout.{value_length}
use Rattle.protocol.specs.Values.{is_lower}
use Rattle.protocol.specs.Entries.{form_seats}
use Rattle.protocol.specs.Message.{Entry, Pair, ValuesEach, Message, Submit, Notice, Full, Evidence, full_form}
use Rattle.protocol.specs.Certificate.{Certificate, set_of, certificate_of, entry_of, entries_of, full_of, pair_of, pairs_of, ordered_evidence, evidence_of}
use Rattle.protocol.specs.ValuesLaws.{lower-other}
use Rattle.protocol.specs.CertificateLaws.{in_set}
use Rattle.protocol.specs.Refusals.{rising}
use Rattle.round.specs.Round.{Each, Are, StandsIn}
use Rattle.reading.specs.ReadingLaws.{are_unique}
use Rattle.reading.specs.ListsLaws.{cond_elim, rising_first}
use Rattle.claims.specs.CertificatesLaws.{entry-seats, pair-seats, seats-rising}
use Rattle.paper.specs.Machine.{FullCertificate, Action, BroadcastSubmit, ConfirmAndNotice, BroadcastFull, Detect, distinct, InOrder, PairOf, SaysConflict, Says, SaysEach}
use Rattle.paper.specs.Memory.{seats_in}
use Rattle.paper.specs.EntriesLaws.{signature_member, signature_is}

unfoldable pub spoken : ℕ → ℕ → ℕ → Action → Message
spoken n round seat (BroadcastSubmit v signature) = Submit round seat v signature
spoken n round seat (ConfirmAndNotice v) = Notice round seat v
spoken n round seat (BroadcastFull c) = full_of n round seat (certificate_of c.value c.entries)
spoken n round seat (Detect c d seats) = evidence_of n round (set_of seats) (certificate_of c.value c.entries) (certificate_of d.value d.entries)

-- a certificate that can be sent: a value of its length, and entries of different seats below n
pub record Formed (n : ℕ) (c : FullCertificate) : Type 0 where
  pub sized : length c.value ≡ value_length
  pub below : Each (λ (e : Entry). e.seat < n) c.entries
  pub apart : distinct c.entries ≡ true

abbrev pub FormedAction : ℕ → Action → Type 0
FormedAction n (BroadcastSubmit v signature) = Unit {0}
FormedAction n (ConfirmAndNotice v) = Unit {0}
FormedAction n (BroadcastFull c) = Formed n c
FormedAction n (Detect c d seats) = Formed n c × Formed n d × (c.value ≢ d.value) × Each (λ (s : ℕ). In s (seats_in c.entries) × In s (seats_in d.entries)) seats

-- ---- entries of FULL and EVIDENCE: those of the certificates

abbrev certificate : FullCertificate → Certificate
certificate c = certificate_of c.value c.entries

module _ (n : ℕ) where
  -- the entry of a seat
  entry_in : (c : FullCertificate) (s : ℕ) → In s (certificate c).seats → Memᴰ (entry_of (certificate c) s) c.entries
  unfolding certificate_of form_seats full_form seats_in
  entry_in c s i = signature_member c.entries s i

  seat_in : (c : FullCertificate) (e : Entry) → Memᴰ e c.entries → In e.seat (certificate c).seats
  unfolding certificate_of form_seats full_form
  seat_in c e d = (in_set e.seat (map (λ (x : Entry). x.seat) c.entries)).1 (Memᴰ.map (λ (x : Entry). x.seat) d)

  entry_is : (c : FullCertificate) → Formed n c → (e : Entry) → Memᴰ e c.entries → (certificate c).signature e.seat ≡ e.signature
  unfolding certificate_of
  entry_is c f e d = signature_is c.entries f.apart e d

  full-entries : (c : FullCertificate) → Formed n c → InOrder (λ (e : Entry). e.seat) (λ (e : Entry). Memᴰ e c.entries) (entries_of n (certificate c))
  unfolding entries_of
  full-entries c f = record {
    rise = ap rising (entry-seats n (certificate c)) ∙ seats-rising n (certificate c).seats;
    just = λ e. (
      λ d.
          let m = Memᴰ.of_map (entry_of (certificate c)) (seats n (certificate c).seats) d in
          subst (λ (x : Entry). Memᴰ x c.entries) m.2 (entry_in c m.0 ((mem-seats n m.0 (certificate c).seats).0 m.1).1),
      λ d. subst (λ (g : List ℕ). Memᴰ (record { seat = e.seat; signature = g }) (map (entry_of (certificate c)) (seats n (certificate c).seats))) (entry_is c f e d)
          (Memᴰ.map (entry_of (certificate c)) ((mem-seats n e.seat (certificate c).seats).1 (f.below e d, seat_in c e d))),
    );
  }

  evidence-pairs : (c d : FullCertificate) (these : List ℕ) → Formed n c → Formed n d → Each (λ (s : ℕ). In s (seats_in c.entries) × In s (seats_in d.entries)) these
      → InOrder (λ (p : Pair). p.seat) (λ (p : Pair). PairOf c d p × Memᴰ p.seat these) (pairs_of n (set_of these) (certificate c) (certificate d))
  unfolding pairs_of certificate_of form_seats full_form seats_in
  evidence-pairs c d these f g within =
      let pair : ℕ → Pair = pair_of (certificate c) (certificate d) in
      record {
        rise = ap rising (pair-seats n (set_of these) (certificate c) (certificate d)) ∙ seats-rising n (set_of these);
        just = λ p. (
          λ m.
              let o = Memᴰ.of_map pair (seats n (set_of these)) m in
              let i = (in_set o.0 these).0 ((mem-seats n o.0 (set_of these)).0 o.1).1 in
              let w = within o.0 i in
              subst (λ (x : Pair). PairOf c d x × Memᴰ x.seat these) o.2 ((entry_in c o.0 w.0, entry_in d o.0 w.1, refl, refl), i),
          λ h.
              let low : Entry = record { seat = p.seat; signature = p.lower } in
              let high : Entry = record { seat = p.seat; signature = p.higher } in
              let at = (mem-seats n p.seat (set_of these)).1 (f.below low h.0.0, (in_set p.seat these).1 h.1) in
              subst (λ (x : Pair). Memᴰ x (map pair (seats n (set_of these)))) (pair_is p (entry_is c f low h.0.0) (entry_is d g high h.0.1) (sym h.0.2) (sym h.0.3)) (Memᴰ.map pair at),
        );
      }
    where
      pair_is : (p : Pair) → (certificate c).signature p.seat ≡ p.lower → (certificate d).signature p.seat ≡ p.higher → c.value ≡ p.lower_value → d.value ≡ p.higher_value → pair_of (certificate c) (certificate d) p.seat ≡ p
      pair_is p a b v w = rw (a, b, v, w)

-- ---- messages that meet `Says`

module _ (n round seat : ℕ) where
  conflict-says : (c d : FullCertificate) (these : List ℕ) → Formed n c → Formed n d → Each (λ (s : ℕ). In s (seats_in c.entries) × In s (seats_in d.entries)) these → is_lower c.value d.value ≡ true
      → SaysConflict round seat c d these (ordered_evidence n round (set_of these) (certificate c) (certificate d))
  unfolding ordered_evidence
  conflict-says c d these f g within l = (pairs_of n (set_of these) (certificate c) (certificate d), l, refl, evidence-pairs n c d these f g within)

  -- of two values that differ, one is lower
  other-lower : (c d : FullCertificate) (these : List ℕ) → FormedAction n (Detect c d these) → is_lower d.value c.value ≡ not (is_lower c.value d.value)
  other-lower c d these f = lower-other c.value d.value (f.0.sized ∙ sym f.1.sized) f.2

  pub spoken-says : (a : Action) → FormedAction n a → Says round seat a (spoken n round seat a)
  unfolding spoken full_of evidence_of certificate_of
  spoken-says (BroadcastSubmit v signature) f = refl
  spoken-says (ConfirmAndNotice v) f = refl
  spoken-says (BroadcastFull c) f = (entries_of n (certificate c), refl, full-entries n c f)
  spoken-says (Detect c d these) f =
      cond_elim (Says round seat (Detect c d these)) (is_lower c.value d.value) (ordered_evidence n round (set_of these) (certificate c) (certificate d)) (ordered_evidence n round (set_of these) (certificate d) (certificate c))
      (λ l. inl (conflict-says c d these f.0 f.1 f.3 l))
      (λ l. inr (conflict-says d c these f.1 f.0 (λ s m. let w = f.3 s m in (w.1, w.0)) (other-lower c d these f ∙ ap not l)))

  pub each_says : (acts : List Action) → Each (FormedAction n) acts → SaysEach round seat acts (map (spoken n round seat) acts)
  each_says [] f = tt
  each_says (a ∷ acts) f = (spoken-says a (f a (Memᴰ.head refl)), each_says acts (λ x d. f x (Memᴰ.tail d)))

-- ---- no other message meets it

-- two lists of the same members in the order of their seats are the same
in_order_unique : {A : Type 0} (seat_of : A → ℕ) (These : A → Type 0) (xs ys : List A) → InOrder seat_of These xs → InOrder seat_of These ys → xs ≡ ys
in_order_unique {A = A} seat_of These xs ys a b = go xs ys a.rise b.rise (λ x d. (b.just x).1 ((a.just x).0 d)) (λ y d. (a.just y).1 ((b.just y).0 d))
  where
    above : (x : A) (zs : List A) → rising (seat_of x ∷ map seat_of zs) ≡ true → (z : A) → Memᴰ z zs → seat_of x < seat_of z
    above x zs r z d = (rising_first (seat_of x) (map seat_of zs) r).1 (seat_of z) (Memᴰ.map seat_of d)

    go : (us vs : List A) → rising (map seat_of us) ≡ true → rising (map seat_of vs) ≡ true → ((x : A) → Memᴰ x us → Memᴰ x vs) → ((y : A) → Memᴰ y vs → Memᴰ y us) → us ≡ vs
    go [] [] r q to fro = refl
    go [] (v ∷ vs) r q to fro = absurd (Memᴰ.not-nil (fro v (Memᴰ.head refl)))
    go (u ∷ us) [] r q to fro = absurd (Memᴰ.not-nil (to u (Memᴰ.head refl)))
    go (u ∷ us) (v ∷ vs) r q to fro =
        let same : u ≡ v = ⊎_elim (λ e. e)
        (λ d. ⊎_elim (λ e. sym e) (λ f. absurd (let l = above v vs q u d in let h = above u us r v f in omega arith)) (Memᴰ.cases_cons (fro v (Memᴰ.head refl))))
        (Memᴰ.cases_cons (to u (Memᴰ.head refl))) in
        let into : (x : A) → Memᴰ x us → Memᴰ x vs =
        λ x d. ⊎_elim (λ e. absurd (let l = above u us r x d in let at = ap seat_of (e ∙ sym same) in omega arith)) (λ t. t) (Memᴰ.cases_cons (to x (Memᴰ.tail d))) in
        let back : (y : A) → Memᴰ y vs → Memᴰ y us =
        λ y d. ⊎_elim (λ e. absurd (let l = above v vs q y d in let at = ap seat_of (e ∙ same) in omega arith)) (λ t. t) (Memᴰ.cases_cons (fro y (Memᴰ.tail d))) in
        let rest = go us vs (rising_first (seat_of u) (map seat_of us) r).0 (rising_first (seat_of v) (map seat_of vs) q).0 into back in
        cc

module _ (n round seat : ℕ) where
  conflict_unique : (c d : FullCertificate) (these : List ℕ) (m m' : Message) → SaysConflict round seat c d these m → SaysConflict round seat c d these m' → m ≡ m'
  conflict_unique c d these m m' a b =
      a.2 ∙ ap (Evidence round ValuesEach) (in_order_unique (λ (p : Pair). p.seat) (λ (p : Pair). PairOf c d p × Memᴰ p.seat these) a.0 b.0 a.3 b.3) ∙ sym b.2

  pub says_unique : (a : Action) → FormedAction n a → (m m' : Message) → Says round seat a m → Says round seat a m' → m ≡ m'
  says_unique (BroadcastSubmit v signature) f m m' p q = p ∙ sym q
  says_unique (ConfirmAndNotice v) f m m' p q = p ∙ sym q
  says_unique (BroadcastFull c) f m m' p q =
      p.1 ∙ ap (Full round seat c.value) (in_order_unique (λ (e : Entry). e.seat) (λ (e : Entry). Memᴰ e c.entries) p.0 q.0 p.2 q.2) ∙ sym q.1
  says_unique (Detect c d these) f m m' (inl p) (inl q) = conflict_unique c d these m m' p q
  says_unique (Detect c d these) f m m' (inl p) (inr q) = absurd (true≢false (sym q.1 ∙ other-lower n round seat c d these f ∙ ap not p.1))
  says_unique (Detect c d these) f m m' (inr p) (inl q) = absurd (true≢false (sym p.1 ∙ other-lower n round seat c d these f ∙ ap not q.1))
  says_unique (Detect c d these) f m m' (inr p) (inr q) = conflict_unique d c these m m' p q

  -- ---- bytes of the messages of actions

  said : (acts : List Action) (ms : List Message) → SaysEach round seat acts ms → (m : Message) → Memᴰ m ms → (a : Action) × Memᴰ a acts × Says round seat a m
  said [] [] s m d = absurd (Memᴰ.not-nil d)
  said [] (x ∷ ms) s m d = absurd s
  said (a ∷ acts) [] s m d = absurd s
  said (a ∷ acts) (x ∷ ms) s m d =
      ⊎_elim (λ q. (a, Memᴰ.head refl, subst (Says round seat a) (sym q) s.0)) (λ t. let r = said acts ms s.1 m t in (r.0, Memᴰ.tail r.1, r.2))
      (Memᴰ.cases_cons d)

  sent : (acts : List Action) (ms : List Message) → Each (FormedAction n) acts → SaysEach round seat acts ms → (a : Action) → Memᴰ a acts → (m : Message) → Says round seat a m → Memᴰ m ms
  sent [] ms f s a d m p = absurd (Memᴰ.not-nil d)
  sent (b ∷ acts) [] f s a d m p = absurd s
  sent (b ∷ acts) (x ∷ ms) f s a d m p =
      ⊎_elim (λ q. Memᴰ.head (says_unique b (f b (Memᴰ.head refl)) m x (subst (λ (y : Action). Says round seat y m) q p) s.0))
      (λ t. Memᴰ.tail (sent acts ms (λ y e. f y (Memᴰ.tail e)) s.1 a t m p)) (Memᴰ.cases_cons d)

  -- a message stands in the bytes exactly where it is the message of one of the actions
  pub stands-sent : (bytes : List ℕ) (acts : List Action) (ms : List Message) → Each (FormedAction n) acts → Are n bytes ms → SaysEach round seat acts ms → (m : Message)
      → StandsIn n m bytes ↔ ((a : Action) × Memᴰ a acts × Says round seat a m)
  stands-sent bytes acts ms f are s m =
      (λ h. said acts ms s m (subst (Memᴰ m) (are_unique n bytes h.0 ms h.1 are) h.2), λ h. (ms, are, sent acts ms f s h.0 h.1 m h.2))
