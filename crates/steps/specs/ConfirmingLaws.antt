-- The returns of confirming, over plain values.
use Rattle.std.specs.Prelude.{◌≡◌, true, false, List, ℕ, ◌+◌, ◌≤◌, length}
use Rattle.std.proofs.Math.Path.{refl}
use Rattle.std.proofs.Common.{arith}
use Rattle.quorum.specs.Quorum.{k}
use Rattle.protocol.specs.Layout.{notice_length, full_length, evidence_length}
use Rattle.protocol.specs.Certificate.{own_certificate}
use Rattle.protocol.specs.Step.{write, confirm, reply, hear_certificate, hear_own, is_complete, confirm_if_complete}
use Rattle.protocol.specs.StepLaws.{hear_own_after}
use Rattle.protocol.specs.declared.Record.{Record}
use Rattle.layout.specs.Places.{bank_of}
use Rattle.layout.specs.declared.Bank.TheVariants as bank
use Rattle.store.specs.Sources.{signature_at, certificate_from}
use Rattle.certificates.specs.CertificatesLaws.{in_bank}
use Rattle.phase.specs.Phases.{Changed, Did, Fits}
use Rattle.phase.specs.PhasesLaws.{fits_like, did_same, did_then}

module _ (r : Record) (store : List ℕ) (u : Record) (done : Changed confirm r store u store) where
  pub confirmed-fits : Fits r store → Fits u store
  unfolding confirm write
  confirmed-fits h = fits_like r u store store h (rw done.recorded) (rw done.recorded) (rw done.recorded) (rw done.recorded) refl

  pub confirmed-room : (at a L : ℕ) → a ≡ at + notice_length → at + notice_length + full_length r.n + evidence_length (k r.n) ≤ L
      → a + full_length u.n + evidence_length (k u.n) ≤ L
  unfolding confirm write
  confirmed-room at a L e h =
      let n : u.n ≡ r.n = rw done.recorded in
      rw n (omega arith)

module _ (r : Record) (store out : List ℕ) (at : ℕ) (v : Record) (store'' out'' : List ℕ) (e : ℕ) where
  -- the own certificate is heard from the store
  own-heard : (u : Record) (out' : List ℕ) (a : ℕ) → Did (hear_certificate (certificate_from u.n (in_bank bank.Collected u.own.collected) u.own.value store)) u store out' a v store'' out'' e
      → Did hear_own u store out' a v store'' out'' e
  unfolding hear_own own_certificate signature_at bank_of
  own-heard u out' a d = did_same (hear_certificate (own_certificate u store)) u store hear_own out' a v store'' out'' e refl d

  pub confirm_if_complete-complete : (u : Record) (out' : List ℕ) (a : ℕ) → at ≤ length out → is_complete r ≡ true → Did confirm r store out at u store out' a
      → Did (hear_certificate (certificate_from u.n (in_bank bank.Collected u.own.collected) u.own.value store)) u store out' a v store'' out'' e
      → Did confirm_if_complete r store out at v store'' out'' e
  unfolding confirm_if_complete
  confirm_if_complete-complete u out' a room complete first second =
      did_same (λ s. hear_own (confirm s)) r store confirm_if_complete out at v store'' out'' e (rw complete)
      (did_then confirm hear_own hear_own_after r store out at u store out' a v store'' out'' e room first (own-heard u out' a second))

  pub confirm_if_complete_incomplete : is_complete r ≡ false → Did reply r store out at v store'' out'' e → Did confirm_if_complete r store out at v store'' out'' e
  unfolding confirm_if_complete
  confirm_if_complete_incomplete short d = did_same reply r store confirm_if_complete out at v store'' out'' e (rw short) d
