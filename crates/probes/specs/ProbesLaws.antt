-- The returns of the probes, over plain values.
use Rattle.std.specs.Prelude.{◌≡◌, List, [], ℕ, suc, ◌≤◌, ◌<◌}
use Rattle.std.proofs.Common.{sym, ◌∙◌}
use Rattle.std.proofs.Math.ListN.{length}
use borrow.Author.Tests.{lt-ltb, le-ltb, le-leb, lt-leb, eq-eqb, ne_eqb}
use Rattle.octets.specs.Octets.{patch, part, words, bytes}
use Rattle.octets.specs.StringsLaws.{patch-nothing, part_all}
use Rattle.octets.specs.Strings.{joined}
use Rattle.quorum.specs.Quorum.{most_seats}
use Rattle.refusal.specs.Refusal.{first_of, unrefused}
use Rattle.fips180.specs.Constants.{constants}
use Rattle.fips180.specs.Fips.{sha256}
use Rattle.rfc8554.specs.Ots.{signed}
use Rattle.probes.specs.Probes.{of_fleet, constants_refusal, constants_written, digest_refusal, digest_written, compress_refusal, repeated, compress_written, signed_refusal, signed_written, copy_refusal, copy_written}

-- ---- thresholds

module _ (f : ℕ → ℕ) (n : ℕ) where
  pub fleet_none : n < 1 → 0 ≡ of_fleet f n
  unfolding of_fleet
  fleet_none h = rw (lt-leb 1 n h)

  module _ (some : 1 ≤ n) where
    pub fleet_too_large : most_seats < n → 0 ≡ of_fleet f n
    unfolding of_fleet
    fleet_too_large h = rw (le-leb 1 n some, lt-leb n most_seats h)

    pub fleet_threshold : n ≤ most_seats → (r : ℕ) → r ≡ f n → r ≡ of_fleet f n
    unfolding of_fleet
    fleet_threshold h r e = rw (le-leb 1 n some, le-leb n most_seats h) e

-- ---- bytes written by a probe, refused or not

refused : (number answered : ℕ) (ws out : List ℕ) → suc number ≡ answered → (suc number ≡ answered) × (out ≡ patch 0 (unrefused answered ws []) out)
unfolding unrefused
refused number answered ws out e = (e, rw (← e) (sym (patch-nothing out)))

done : (answered : ℕ) (ws out last : List ℕ) → 0 ≡ answered → last ≡ patch 0 ws out → (0 ≡ answered) × (last ≡ patch 0 (unrefused answered ws []) out)
unfolding unrefused
done answered ws out last e p = (e, rw (← e) p)

-- ---- round constants

pub constants-short : (out : List ℕ) → length out < 256 → (7 ≡ constants_refusal out) × (out ≡ patch 0 (constants_written out) out)
unfolding constants_refusal constants_written first_of
constants-short out h = refused 6 _ _ out (rw (lt-ltb (length out) 256 h))

pub constants-fit : (out k last : List ℕ) → 256 ≤ length out → k ≡ constants → last ≡ patch 0 (bytes k) out
    → (0 ≡ constants_refusal out) × (last ≡ patch 0 (constants_written out) out)
unfolding constants_refusal constants_written first_of
constants-fit out k last h e p = done _ _ out last (rw (le-ltb (length out) 256 h)) (rw (← e) p)

-- ---- digests

pub digest_short : (message out : List ℕ) → length out < 32
    → (7 ≡ digest_refusal out) × (out ≡ patch 0 (digest_written message out) out)
unfolding digest_refusal digest_written first_of
digest_short message out h = refused 6 _ _ out (rw (lt-ltb (length out) 32 h))

pub digest_fits : (message out d last : List ℕ) → 32 ≤ length out → d ≡ sha256 message → last ≡ patch 0 d out
    → (0 ≡ digest_refusal out) × (last ≡ patch 0 (digest_written message out) out)
unfolding digest_refusal digest_written first_of
digest_fits message out d last h e p = done _ _ out last (rw (le-ltb (length out) 32 h)) (rw (← e) p)

-- ---- compressions

pub compress-short : (count : ℕ) (state block out : List ℕ) → length out < 32
    → (7 ≡ compress_refusal state block out) × (out ≡ patch 0 (compress_written count state block out) out)
unfolding compress_refusal compress_written first_of
compress-short count state block out h = refused 6 _ _ out (rw (lt-ltb (length out) 32 h))

pub state_garbled : (count : ℕ) (state block out : List ℕ) → 32 ≤ length out → (length state ≡ 32 → ⊥)
    → (9 ≡ compress_refusal state block out) × (out ≡ patch 0 (compress_written count state block out) out)
unfolding compress_refusal compress_written first_of
state_garbled count state block out h e = refused 8 _ _ out (rw (le-ltb (length out) 32 h, ne_eqb (length state) 32 e))

pub block_garbled : (count : ℕ) (state block out : List ℕ) → 32 ≤ length out → length state ≡ 32 → (length block ≡ 64 → ⊥)
    → (9 ≡ compress_refusal state block out) × (out ≡ patch 0 (compress_written count state block out) out)
unfolding compress_refusal compress_written first_of
block_garbled count state block out h e f = refused 8 _ _ out (rw (le-ltb (length out) 32 h, eq-eqb (length state) 32 e, ne_eqb (length block) 64 f))

pub compress-fits : (count : ℕ) (state block out h m s d last : List ℕ) → 32 ≤ length out → length state ≡ 32 → length block ≡ 64
    → h ≡ words 8 (part 0 32 state) → m ≡ words 16 (part 0 64 block) → s ≡ repeated h m count → d ≡ bytes s → last ≡ patch 0 d out
    → (0 ≡ compress_refusal state block out) × (last ≡ patch 0 (compress_written count state block out) out)
unfolding compress_refusal compress_written first_of
compress-fits count state block out h m s d last room e f p q r t u =
    done _ _ out last (rw (le-ltb (length out) 32 room, eq-eqb (length state) 32 e, eq-eqb (length block) 64 f)) (u ∙ rw (t, r, p, q, part_all state 32 e, part_all block 64 f))

-- ---- the values of a signature

module _ (q : ℕ) (id seed digits out : List ℕ) where
  pub signed-short : length out < 1088
      → (7 ≡ signed_refusal id seed digits out) × (out ≡ patch 0 (signed_written q id seed digits out) out)
  unfolding signed_refusal signed_written first_of
  signed-short h = refused 6 _ _ out (rw (lt-ltb (length out) 1088 h))

  pub id_garbled : 1088 ≤ length out → (length id ≡ 16 → ⊥)
      → (9 ≡ signed_refusal id seed digits out) × (out ≡ patch 0 (signed_written q id seed digits out) out)
  unfolding signed_refusal signed_written first_of
  id_garbled h e = refused 8 _ _ out (rw (le-ltb (length out) 1088 h, ne_eqb (length id) 16 e))

  pub seed_garbled : 1088 ≤ length out → length id ≡ 16 → (length seed ≡ 32 → ⊥)
      → (9 ≡ signed_refusal id seed digits out) × (out ≡ patch 0 (signed_written q id seed digits out) out)
  unfolding signed_refusal signed_written first_of
  seed_garbled h e f = refused 8 _ _ out (rw (le-ltb (length out) 1088 h, eq-eqb (length id) 16 e, ne_eqb (length seed) 32 f))

  pub digits_garbled : 1088 ≤ length out → length id ≡ 16 → length seed ≡ 32 → (length digits ≡ 34 → ⊥)
      → (9 ≡ signed_refusal id seed digits out) × (out ≡ patch 0 (signed_written q id seed digits out) out)
  unfolding signed_refusal signed_written first_of
  digits_garbled h e f g = refused 8 _ _ out (rw (le-ltb (length out) 1088 h, eq-eqb (length id) 16 e, eq-eqb (length seed) 32 f, ne_eqb (length digits) 34 g))

  pub signed-fits : (i s last : List ℕ) → 1088 ≤ length out → length id ≡ 16 → length seed ≡ 32 → length digits ≡ 34
      → bytes i ≡ part 0 16 id → bytes s ≡ part 0 32 seed → last ≡ patch 0 (joined (signed (bytes i) q 8 (bytes s) digits) 34) out
      → (0 ≡ signed_refusal id seed digits out) × (last ≡ patch 0 (signed_written q id seed digits out) out)
  unfolding signed_refusal signed_written first_of
  signed-fits i s last h e f g p r u =
      done _ _ out last (rw (le-ltb (length out) 1088 h, eq-eqb (length id) 16 e, eq-eqb (length seed) 32 f, eq-eqb (length digits) 34 g))
      (u ∙ rw (p, r, part_all id 16 e, part_all seed 32 f))

-- ---- a copy of the certificate handed back

module _ (handed out : List ℕ) where
  pub copy_short : (part : List ℕ) → part ≡ handed → length out < length part
      → (7 ≡ copy_refusal handed out) × (out ≡ patch 0 (copy_written handed out) out)
  unfolding copy_refusal copy_written first_of
  copy_short part e h =
      let short : length out < length handed = rw e at h in
      refused 6 _ _ out (rw (lt-ltb (length out) (length handed) short))

  pub copy_fits : (part last : List ℕ) → part ≡ handed → length part ≤ length out → last ≡ patch 0 part out
      → (0 ≡ copy_refusal handed out) × (last ≡ patch 0 (copy_written handed out) out)
  unfolding copy_refusal copy_written first_of
  copy_fits part last e h p =
      let room : length handed ≤ length out = rw e at h in
      done _ _ out last (rw (le-ltb (length out) (length handed) room)) (rw (← e) p)
