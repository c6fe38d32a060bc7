-- The returns of replying, holding and blaming, over plain values.
use Rattle.std.specs.Prelude.{◌≡◌, Bool, true, false, cond, List, [], ℕ, ◌+◌, ◌^◌, ◌≤◌, ◌<◌, length}
use Rattle.std.proofs.Math.Path.{refl, subst}
use Rattle.std.proofs.Common.{◌∙◌, mul-le-mul_left, arith, eq-eqb, ne_eqb}
use Rattle.quorum.specs.Quorum.{k, In, union, shared}
use Rattle.quorum.specs.QuorumLaws.{in_less}
use Rattle.protocol.specs.Layout.{store_length, full_entry_length, full_entry_at, full_length, evidence_length}
use Rattle.protocol.specs.Message.{render}
use Rattle.protocol.specs.Calls.{start}
use Rattle.protocol.specs.Certificate.{Certificate, own_certificate, first_certificate, full_of, evidence_of}
use Rattle.protocol.specs.Record.{with_notices, with_sent, with_guilty, holds}
use Rattle.protocol.specs.Step.{write, notices_with, hear, owes_full, send_full, reply, hold, found, blame, blames, hold_or_blame, hear_certificate}
use Rattle.protocol.specs.StepLaws.{reply_after, hold_or_blame_after}
use Rattle.protocol.specs.declared.Notices.{Notices}
use Rattle.protocol.specs.declared.Record.{Record}
use Rattle.layout.specs.Places.{bank_of}
use Rattle.layout.specs.declared.Bank.{Bank}
use Rattle.layout.specs.declared.Bank.TheVariants as bank
use Rattle.store.specs.Sources.{bytes_of, Readable, signature_at, certificate_from}
use Rattle.store.specs.declared.sources.Place.TheVariants as place
use Rattle.store.specs.declared.sources.Source.{Source}
use Rattle.wire_write.specs.Writing.{Wrote}
use Rattle.phase.specs.Phases.{Changed, Did, Fits}
use Rattle.phase.specs.PhasesLaws.{fits_like, did_same, did_writing_none, did_writing_one, did_then, unchanged}
use Rattle.certificates.specs.Certificates.{heard}

-- ---- sources and room

-- seats whose signatures are in a bank of the store
abbrev pub in_bank : Bank → ℕ → Source
in_bank bank seats = record { place = place.Slots bank; seats = seats }

pub readable_bank : (n : ℕ) (bank : Bank) (seats : ℕ) (store : List ℕ) → seats < 2 ^ n → store_length n ≤ length store → Readable n (in_bank bank seats) store
readable_bank n bank seats store s l = record { inside = s; stands = l }

pub full_bound : (n size : ℕ) → size ≤ k n → full_entry_at size ≤ full_length n
unfolding full_length full_entry_at
full_bound n size h = omega (arith, mul-le-mul_left full_entry_length h)

-- seats newly found are seats shared with the first certificate
pub found-shared : (c : Certificate) (r : Record) (mask : ℕ) → mask ≡ found c r → (s : ℕ) → In s mask → In s (shared r.first.seats c.seats)
unfolding found
found-shared c r mask e s i = ((in_less s (shared r.first.seats c.seats) r.guilty).0 (rw e at i)).0

-- ---- messages written

module _ (r : Record) (store out : List ℕ) (at : ℕ) (out' : List ℕ) (end : ℕ) where
  pub full-sent : Wrote at (render (full_of r.n r.round r.seat (certificate_from r.n (in_bank bank.Collected r.own.collected) r.own.value store))) out out' end
      → Did send_full r store out at (with_sent r) store out' end
  unfolding send_full write own_certificate signature_at bank_of
  full-sent w =
      did_writing_one send_full r store (full_of r.n r.round r.seat (own_certificate r store)) out at (with_sent r) store out' end refl
      (record { recorded = refl; stored = refl }) w

  pub evidence-sent : (source : Source) (value m bytes : List ℕ) (mask guilty : ℕ) → bytes ≡ bytes_of source.place store m → mask ≡ found (heard r.n source [] [] []) r
      → guilty ≡ union r.guilty mask
      → Wrote at (render (evidence_of r.n r.round mask (certificate_from r.n (in_bank bank.First r.first.seats) r.first.value store) (certificate_from r.n source value bytes))) out out' end
      → Did (blame (heard r.n source value store m)) r store out at (with_guilty r guilty) store out' end
  unfolding blame found write first_certificate signature_at bank_of
  evidence-sent source value m bytes mask guilty chosen new grown w =
      let c = heard r.n source value store m in
      did_writing_one (blame c) r store (evidence_of r.n r.round (found c r) (first_certificate r store) c) out at (with_guilty r guilty) store out' end refl
      (record { recorded = rw (grown, new); stored = refl }) (rw (← new, ← chosen) w)

-- ---- replies, and certificates held or blaming

module _ (r : Record) (store out : List ℕ) (at : ℕ) where
  pub reply_not_owed : owes_full r ≡ false → Did reply r store out at r store out at
  unfolding reply
  reply_not_owed e = unchanged r store reply out at (rw e)

  module _ (c : Certificate) where
    pub first_held : (unit : Record) (store' : List ℕ) → r.first.seats ≡ 0 → Changed (hold c) r store unit store' → Did (hold_or_blame c) r store out at unit store' out at
    unfolding hold_or_blame holds hold
    first_held unit store' e h =
        did_same (hold c) r store (hold_or_blame c) out at unit store' out at (rw (eq-eqb r.first.seats 0 e)) (did_writing_none (hold c) r store out at unit store' refl h)

    module _ (some : r.first.seats ≡ 0 → ⊥) (b : Bool) (tested : b ≡ blames c r) where
      pub blamed : (unit : Record) (store' out' : List ℕ) (end : ℕ) → b ≡ true → Did (blame c) r store out at unit store' out' end → Did (hold_or_blame c) r store out at unit store' out' end
      unfolding hold_or_blame holds
      blamed unit store' out' end e d =
          did_same (blame c) r store (hold_or_blame c) out at unit store' out' end (rw (ne_eqb r.first.seats 0 some, ← tested, e)) d

      pub not_blamed : b ≡ false → Did (hold_or_blame c) r store out at r store out at
      unfolding hold_or_blame holds
      not_blamed e = unchanged r store (hold_or_blame c) out at (rw (ne_eqb r.first.seats 0 some, ← tested, e))

-- ---- hearing and replying

reply-leaves : (r : Record) (store : List ℕ) → (reply (start r store)).unit ≡ cond (owes_full r) (with_sent r) r
unfolding reply send_full write
reply-leaves r store = go (owes_full r)
  where
    go : (b : Bool) → (cond b (send_full (start r store)) (start r store)).unit ≡ cond b (with_sent r) r
    go true = refl
    go false = refl

-- n, seat, own submission and first certificate are as they were
record Alike (r u : Record) : Type 0 where
  n : u.n ≡ r.n
  seat : u.seat ≡ r.seat
  own : u.own ≡ r.own
  first : u.first ≡ r.first

fits-alike : (r u : Record) (store : List ℕ) → Alike r u → Fits r store → Fits u store
fits-alike r u store a h = fits_like r u store store h a.n a.seat (rw a.own) (rw a.first) refl

module _ (r : Record) (store : List ℕ) (notices : Notices) (u : Record) (heard : u ≡ with_notices r notices) where
  heard-alike : Alike r u
  heard-alike = record { n = rw heard; seat = rw heard; own = rw heard; first = rw heard }

  pub heard-fits : Fits r store → Fits u store
  heard-fits h = fits-alike r u store heard-alike h

  pub heard-room : (at more L : ℕ) → at + full_length r.n + more ≤ L → at + full_length u.n ≤ L
  heard-room at more L h = rw heard-alike.n (omega arith)

  module _ (v : Record) (store' : List ℕ) (done : Changed reply u store v store') where
    replied_alike : Alike r v
    replied_alike = rw (done.recorded ∙ reply-leaves u store) (go (owes_full u))
      where
        go : (b : Bool) → Alike r (cond b (with_sent u) u)
        go true = record { n = heard-alike.n; seat = heard-alike.seat; own = heard-alike.own; first = heard-alike.first }
        go false = heard-alike

    pub replied_n : v.n ≡ r.n
    replied_n = replied_alike.n

    pub replied_fits : Fits r store → Fits v store
    replied_fits h = fits-alike r v store replied_alike h

    pub replied_room : (at a L : ℕ) → a ≤ at + full_length u.n → at + full_length r.n + evidence_length (k r.n) ≤ L → a + evidence_length (k v.n) ≤ L
    replied_room at a L e h =
        let f : a ≤ at + full_length r.n = rw heard-alike.n at e in
        rw replied_n (omega arith)

-- a certificate heard, from its three phases
module _ (r : Record) (store out : List ℕ) (at : ℕ) (room : at ≤ length out) (u v : Record) (out' : List ℕ) (a : ℕ) (w : Record) (store'' out'' : List ℕ) (e : ℕ) where
  pub certificate-heard : (source : Source) (value m : List ℕ) → u ≡ with_notices r (notices_with value r) → Did reply u store out at v store out' a
      → Did (hold_or_blame (heard v.n source value store m)) v store out' a w store'' out'' e → Did (hear_certificate (heard r.n source value store m)) r store out at w store'' out'' e
  unfolding hear_certificate hear
  certificate-heard source value m told replied held =
      let same = replied_n r store (notices_with value r) u told v store replied.changed in
      let held-here = subst (λ (n : ℕ). Did (hold_or_blame (heard n source value store m)) v store out' a w store'' out'' e) same held in
      let c = heard r.n source value store m in
      let first = did_writing_none (hear value) r store out at u store refl (record { recorded = told; stored = refl }) in
      let second = did_then (hear value) reply reply_after r store out at u store out at v store out' a room first replied in
      did_then (λ s. reply (hear value s)) (hold_or_blame c) (hold_or_blame_after c) r store out at v store out' a w store'' out'' e room second held-here
