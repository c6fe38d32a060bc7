-- Certificates, and the messages made from them: a FULL's entries make a certificate, and a certificate makes a FULL's entries;
-- two certificates of different values make evidence for any seats that both have.
-- Assumes nothing.
use Rattle.std.specs.Prelude.{◌≡◌, refl, true, ◌≢◌, eqb}
use Rattle.std.proofs.Math.Path.{sym, ap, subst}
use Rattle.std.proofs.Common.{◌∙◌, arith, pow_pos, eqb-true}
use Rattle.std.proofs.Math.Bool.{not}
use mathlib.Core.List.Memᴰ
use mathlib.Core.List.{List, [], ◌∷◌, map, map-map, map-id, Memᴰ}
use Rattle.std.proofs.Math.Logic.{⊎_elim}
use Prim.Native.Nat.{ℕ, ◌+◌, ◌^◌, ◌≤◌, ◌<◌}
use Rattle.std.proofs.Math.ListN.{length, length-map}
use Rattle.std.proofs.lemmas.Bool.{eqb-false}
use Rattle.quorum.specs.Quorum.{t0, In, size, shared, seats}
use Rattle.quorum.specs.QuorumLaws.{bit_cases, in_shared, shared_lt, with_lt, size-empty, size_le, size_with_new, length-seats, mem-seats, seats-rise, k_of_n_share}
use Rattle.protocol.specs.Values.{is_lower}
use Rattle.protocol.specs.Message.{Entry, Pair, ValuesEach, Message, Evidence, full_form, evidence_form}
use Rattle.protocol.specs.Certificate.{Certificate, set_of, signature_of, certificate_of, entry_of, entries_of, pair_of, pairs_of, ordered_evidence, evidence_of, conflict_of}
use Rattle.protocol.specs.ValuesLaws.{lower-other}
use Rattle.protocol.specs.CertificateLaws.{in_set, set-seats}
use Rattle.protocol.specs.Entries.{Laid, form_seats}
use Rattle.protocol.specs.MessageLaws.{pair-laid}
use Rattle.protocol.specs.Refusals.{Checks, rising, lower_first}
use Rattle.round.specs.Round.{Each, Relation}
use Rattle.reading.specs.ListsLaws.{cond_elim, each_map, rising_first, rising_of_rises}
use Rattle.claims.specs.Sound.{Attested, Certifies, Entries, Pairs}

-- ---- sets and lists of seats

pub set-size : (xs : List ℕ) → rising xs ≡ true → size (set_of xs) ≡ length xs
unfolding set_of
set-size [] e = size-empty
set-size (x ∷ xs) e =
    let first = rising_first x xs e in
    let new = ⊎_elim (λ z. z) (λ i. absurd (let h = first.1 x ((in_set x xs).0 i) in omega arith)) (bit_cases x (set_of xs)) in
    size_with_new x (set_of xs) new ∙ omega (arith, set-size xs first.0)

pub set_below : (n : ℕ) (xs : List ℕ) → Each (λ s. s < n) xs → set_of xs < 2 ^ n
unfolding set_of
set_below n [] h = pow_pos n
set_below n (x ∷ xs) h = with_lt n x (set_of xs) (h x (Memᴰ.head refl)) (set_below n xs (λ s d. h s (Memᴰ.tail d)))

-- a set that isn't empty has a seat or more
pub size_some : (n m : ℕ) → m < 2 ^ n → m ≢ 0 → 1 ≤ size m
unfolding set_of
size_some n m below some = go (seats n m) refl
  where
    go : (xs : List ℕ) → seats n m ≡ xs → 1 ≤ size m
    go [] e = absurd (some (sym (set-seats n m below) ∙ ap set_of e))
    go (x ∷ xs) e = omega (arith, sym (length-seats n m below) ∙ ap length e)

module _ (n m : ℕ) where
  pub seats-rising : rising (seats n m) ≡ true
  seats-rising = rising_of_rises (seats n m) (seats-rise n m)

  seats-below : Each (λ s. s < n) (seats n m)
  seats-below s d = ((mem-seats n s m).0 d).0

  pub seats_in-set : Each (λ s. In s m) (seats n m)
  seats_in-set s d = ((mem-seats n s m).0 d).1

-- ---- certificates

pub entry-seats : (n : ℕ) (c : Certificate) → map (λ (e : Entry). e.seat) (entries_of n c) ≡ seats n c.seats
unfolding entries_of
entry-seats n c = map-map (λ (e : Entry). e.seat) (entry_of c) (seats n c.seats) ∙ map-id (seats n c.seats)

pub pair-seats : (n mask : ℕ) (c d : Certificate) → map (λ (p : Pair). p.seat) (pairs_of n mask c d) ≡ seats n mask
unfolding pairs_of
pair-seats n mask c d = map-map (λ (p : Pair). p.seat) (pair_of c d) (seats n mask) ∙ map-id (seats n mask)

module _ (checks : Checks) (W : Relation) where
  -- the form of a FULL's entries
  pub entries-laid : (n : ℕ) (value : List ℕ) (es : List Entry) → Entries checks W n value es → Laid full_form es
  unfolding full_form
  entries-laid n value es z e d = ((z.attested e d).sized, refl)

  -- the FULL of a certificate
  pub entries_of_lem : (n : ℕ) (c : Certificate) → Certifies checks W n c → Entries checks W n c.value (entries_of n c)
  unfolding entries_of
  entries_of_lem n c z = record {
    sized = z.sized;
    many = length-map (seats n c.seats) (entry_of c) ∙ length-seats n c.seats z.below ∙ z.enough;
    rise = ap rising (entry-seats n c) ∙ seats-rising n c.seats;
    below = each_map (λ (e : Entry). e.seat < n) (entry_of c) (seats n c.seats) (seats-below n c.seats);
    attested = each_map (λ (e : Entry). Attested checks W e.seat c.value e.signature) (entry_of c) (seats n c.seats) (λ s d. z.attested s (seats_in-set n c.seats s d));
  }

  -- the certificate of a FULL
  signature-attested : (value : List ℕ) (es : List Entry) (s : ℕ) → Each (λ (e : Entry). Attested checks W e.seat value e.signature) es → Memᴰ s (map (λ (e : Entry). e.seat) es) → Attested checks W s value (signature_of es s)
  unfolding signature_of
  signature-attested value [] s h d = absurd (Memᴰ.not-nil d)
  signature-attested value (e ∷ es) s h d =
      cond_elim (λ g. Attested checks W s value g) (eqb e.seat s) e.signature (signature_of es s)
      (λ q. subst (λ t. Attested checks W t value e.signature) (eqb-true e.seat s q) (h e (Memᴰ.head refl)))
      (λ q. ⊎_elim (λ p. absurd (eqb-false e.seat s q (sym p))) (λ t. signature-attested value es s (λ x m. h x (Memᴰ.tail m)) t) (Memᴰ.cases_cons d))

  pub certifies_of : (n : ℕ) (value : List ℕ) (es : List Entry) → Entries checks W n value es → Certifies checks W n (certificate_of value es)
  unfolding certificate_of form_seats full_form
  certifies_of n value es z = record {
    sized = z.sized;
    below = set_below n (map (λ (e : Entry). e.seat) es) (each_map (λ s. s < n) (λ (e : Entry). e.seat) es z.below);
    enough = set-size (map (λ (e : Entry). e.seat) es) z.rise ∙ length-map es (λ (e : Entry). e.seat) ∙ z.many;
    attested = λ s i. signature-attested value es s z.attested ((in_set s (map (λ (e : Entry). e.seat) es)).0 i);
  }

  -- the evidence of two certificates for a set of seats that both have, the lower value first
  pairs_of_lem : (n mask : ℕ) (c d : Certificate) → mask < 2 ^ n → mask ≢ 0 → ((s : ℕ) → In s mask → In s c.seats × In s d.seats)
      → Certifies checks W n c → Certifies checks W n d → is_lower c.value d.value ≡ true → Pairs checks W n (pairs_of n mask c d)
  unfolding pairs_of evidence_form lower_first
  pairs_of_lem n mask c d below some both y z l =
      let pair : ℕ → Pair = pair_of c d in
      let sized : length (pairs_of n mask c d) ≡ size mask = length-map (seats n mask) pair ∙ length-seats n mask below in
      let low : (s : ℕ) → Memᴰ s (seats n mask) → Attested checks W s c.value (c.signature s) = λ s m. y.attested s (both s (seats_in-set n mask s m)).0 in
      let high : (s : ℕ) → Memᴰ s (seats n mask) → Attested checks W s d.value (d.signature s) = λ s m. z.attested s (both s (seats_in-set n mask s m)).1 in
      record {
        laid = each_map _ pair (seats n mask) (λ s m. pair-laid (pair s) y.sized z.sized (low s m).sized (high s m).sized);
        ordered = each_map (λ (p : Pair). lower_first p ≡ true) pair (seats n mask) (λ s m. l);
        some = omega (arith, size_some n mask below some);
        few = omega (arith, size_le n mask below);
        rise = ap rising (pair-seats n mask c d) ∙ seats-rising n mask;
        below = each_map (λ (p : Pair). p.seat < n) pair (seats n mask) (seats-below n mask);
        lows = each_map (λ (p : Pair). Attested checks W p.seat p.lower_value p.lower) pair (seats n mask) low;
        highs = each_map (λ (p : Pair). Attested checks W p.seat p.higher_value p.higher) pair (seats n mask) high;
      }

  module _ (n : ℕ) (c d : Certificate) (y : Certifies checks W n c) (z : Certifies checks W n d) (P : Message → Type 0) (round : ℕ) (different : c.value ≢ d.value) where
    -- in either order; it names the seats of the set
    pub evidence_elim : (mask : ℕ) → mask < 2 ^ n → mask ≢ 0 → ((s : ℕ) → In s mask → In s c.seats × In s d.seats)
        → ((ps : List Pair) → Pairs checks W n ps → set_of (map (λ (p : Pair). p.seat) ps) ≡ mask → P (Evidence round ValuesEach ps)) → P (evidence_of n round mask c d)
    unfolding evidence_of ordered_evidence
    evidence_elim mask below some both f =
        let names : (low high : Certificate) → set_of (map (λ (p : Pair). p.seat) (pairs_of n mask low high)) ≡ mask = λ low high. ap set_of (pair-seats n mask low high) ∙ set-seats n mask below in
        cond_elim P (is_lower c.value d.value) (ordered_evidence n round mask c d) (ordered_evidence n round mask d c)
        (λ l. f (pairs_of n mask c d) (pairs_of_lem n mask c d below some both y z l) (names c d))
        (λ l. f (pairs_of n mask d c)
        (pairs_of_lem n mask d c below some (λ s i. let h = both s i in (h.1, h.0)) z y (lower-other c.value d.value (y.sized ∙ sym z.sized) different ∙ ap not l)) (names d c))

    -- for all seats that the two share, t0 + 1 or more
    pub conflict_elim : 1 ≤ n
        → ((ps : List Pair) → Pairs checks W n ps → set_of (map (λ (p : Pair). p.seat) ps) ≡ shared c.seats d.seats → t0 n + 1 ≤ size (shared c.seats d.seats) → P (Evidence round ValuesEach ps))
        → P (conflict_of n round c d)
    unfolding conflict_of
    conflict_elim some f =
        let both = shared c.seats d.seats in
        let enough = k_of_n_share n c.seats d.seats some y.below z.below y.enough z.enough in
        evidence_elim both (shared_lt n c.seats d.seats y.below z.below) (λ e. omega (arith, ap size e, size-empty)) (λ s i. (in_shared s c.seats d.seats).0 i) (λ ps p e. f ps p e enough)
