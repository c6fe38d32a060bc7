-- Submit and the steps from their phases, over plain values.
use Rattle.std.specs.Prelude.{◌≡◌, true, false, List, ℕ, ◌+◌, ◌≤◌, ◌<◌, ltb, length}
use Rattle.std.proofs.Math.Path.{refl}
use Rattle.std.proofs.Math.Bool.{and-eq-true_iff}
use Rattle.std.proofs.Common.{arith}
use borrow.Author.Tests.{ltb-true, not-false}
use Rattle.quorum.specs.Quorum.{k}
use Rattle.protocol.specs.Layout.{signature_length, seat_at, value_at, submit_signature_at, submit_length, notice_length, full_length, evidence_length, out_length}
use Rattle.protocol.specs.Message.{byte_at, read, read_submit, read_notice, read_full, read_evidence, read_value, read_signature, fits_submit, seats_of, entry_seats}
use Rattle.protocol.specs.Certificate.{set_of}
use Rattle.protocol.specs.Calls.{start}
use Rattle.protocol.specs.Record.{with_notices, Ready}
use Rattle.protocol.specs.Refusals.{stranger, disorder, every, is_full}
use Rattle.protocol.specs.Step.{notices_with, hear, reply, hear_certificate, submit_own, hear_submit, collect_kept, confirm_if_complete, submitted, stepped}
use Rattle.protocol.specs.StepLaws.{reply_after, confirm_if_complete_after}
use Rattle.protocol.specs.declared.Record.{Record}
use Rattle.wire.specs.Reading.{kind_of}
use Rattle.protocol.specs.MessageLaws.{submit-fits}
use Rattle.wire.specs.KindLaws.{read_as_lem, tag}
use Rattle.store.specs.StoreLaws.{length-signature}
use Rattle.store.specs.Sources.{certificate_from}
use Rattle.store.specs.SourcesLaws.{in_full, full-certificate}
use Rattle.wire.specs.declared.read.Kind.{Kind}
use Rattle.wire.specs.declared.read.Kind.TheVariants as kind
use Rattle.phase.specs.Phases.{Changed, Did, Fits}
use Rattle.phase.specs.PhasesLaws.{did_same, did_writing_none, did_then, unchanged}
use Rattle.collecting.specs.KeepingLaws.{hear_submit-quiet, collect_kept-quiet, collect_kept_after}

-- ---- the start of a call

pub ready-fits : (r : Record) (store out : List ℕ) → Ready r store out → Fits r store
ready-fits r store out h =
    let p = h.possible in
    record {
      some = p.range.some;
      most = p.range.most;
      seated = p.range.seated;
      collected = p.collected;
      few = p.few;
      first = p.first;
      held = p.held;
      slots = h.slots;
    }

-- room for all four messages
pub all_fits : (n L : ℕ) → out_length n ≤ L → submit_length + notice_length + full_length n + evidence_length (k n) ≤ L
unfolding out_length
all_fits n L h = omega arith

-- the room left after at most a SUBMIT
pub rest-fits : (n m at L : ℕ) → m ≡ n → at ≤ submit_length → out_length n ≤ L → at + notice_length + full_length m + evidence_length (k m) ≤ L
rest-fits n m at L e h room = rw e (omega (arith, all_fits n L room))

-- ---- the content of the message

module _ (n : ℕ) (m : List ℕ) where
  module _ (e : kind.Submit ≡ kind_of (read n m)) where
    is_submit_lem : (read n m ≡ read_submit m) × (fits_submit m ≡ true)
    is_submit_lem = read_as_lem kind.Submit n m e

    pub submit-long : length m ≡ submit_signature_at + signature_length
    unfolding submit_length
    submit-long = (submit-fits m is_submit_lem.1).0

    pub submit-signature : (g : List ℕ) → g ≡ read_signature submit_signature_at m → length g ≡ signature_length
    submit-signature g q = rw q (length-signature submit_signature_at m (omega (arith, submit-long)))

    pub submit-seat : (s : ℕ) → s ≡ byte_at m seat_at → stranger n (read n m) ≡ false → s < n
    unfolding stranger seats_of every read_submit
    submit-seat s q h =
        let known = not-false _ (rw is_submit_lem.0 at h) in
        rw q (ltb-true (byte_at m seat_at) n ((and-eq-true_iff (ltb (byte_at m seat_at) n) true).0 known).0)

  pub full-said : kind.Full ≡ kind_of (read n m) → is_full (read n m) ≡ true
  unfolding is_full read_full
  full-said e = rw (read_as_lem kind.Full n m e).0

-- ---- the calls

module _ (r : Record) (store out : List ℕ) (u : Record) (store' out' : List ℕ) (a : ℕ) (x : Record) (gathered : List ℕ) (v : Record) (store'' out'' : List ℕ) (e : ℕ) where
  pub submit-done : (value signature : List ℕ) → Did (submit_own value signature) r store out 0 u store' out' a → Changed collect_kept u store' x gathered → Did confirm_if_complete x gathered out' a v store'' out'' e
      → Did (submitted value signature) r store out 0 v store'' out'' e
  unfolding submitted
  submit-done value signature first second third =
      let f = submit_own value signature in
      let quiet = did_writing_none collect_kept u store' out' a x gathered (collect_kept-quiet (start u store')) second in
      let both = did_then f collect_kept collect_kept_after r store out 0 u store' out' a x gathered out' a (omega arith) first quiet in
      did_then (λ s. collect_kept (f s)) confirm_if_complete confirm_if_complete_after r store out 0 x gathered out' a v store'' out'' e (omega arith) both third

module _ (r : Record) (store out : List ℕ) (m : List ℕ) (u : Record) (v : Record) (store'' out'' : List ℕ) (e : ℕ) where
  pub submit-heard : (seat : ℕ) (value signature store' : List ℕ) → kind.Submit ≡ kind_of (read r.n m) → seat ≡ byte_at m seat_at → value ≡ read_value value_at m → signature ≡ read_signature submit_signature_at m
      → Changed (hear_submit seat value signature) r store u store' → Did confirm_if_complete u store' out 0 v store'' out'' e → Did (stepped (read r.n m)) r store out 0 v store'' out'' e
  unfolding stepped read_submit
  submit-heard seat value signature store' said at_seat at_value at-signature first second =
      let f = hear_submit seat value signature in
      let quiet = did_writing_none f r store out 0 u store' (hear_submit-quiet seat value signature (start r store)) first in
      rw ((is_submit_lem r.n m said).0, ← at_seat, ← at_value, ← at-signature)
      (did_then f confirm_if_complete confirm_if_complete_after r store out 0 u store' out 0 v store'' out'' e (omega arith) quiet second)

  pub notice-heard : (value : List ℕ) → kind.Notice ≡ kind_of (read r.n m) → value ≡ read_value value_at m → u ≡ with_notices r (notices_with value r) → Did reply u store out 0 v store'' out'' e
      → Did (stepped (read r.n m)) r store out 0 v store'' out'' e
  unfolding stepped read_notice hear
  notice-heard value said at_value first second =
      let f = hear value in
      let quiet = did_writing_none f r store out 0 u store refl (record { recorded = first; stored = refl }) in
      rw ((read_as_lem kind.Notice r.n m said).0, ← at_value) (did_then f reply reply_after r store out 0 u store out 0 v store'' out'' e (omega arith) quiet second)

  pub full-heard : (seats : ℕ) (value : List ℕ) → kind.Full ≡ kind_of (read r.n m) → stranger r.n (read r.n m) ≡ false → disorder (read r.n m) ≡ false
      → seats ≡ set_of (entry_seats (read r.n m)) → value ≡ read_value value_at m → Did (hear_certificate (certificate_from r.n (in_full seats) value m)) r store out 0 v store'' out'' e
      → Did (stepped (read r.n m)) r store out 0 v store'' out'' e
  unfolding stepped read_full
  full-heard seats value said known ordered set at_value d =
      did_same (hear_certificate (certificate_from r.n (in_full seats) value m)) r store (stepped (read r.n m)) out 0 v store'' out'' e
      (rw (full-certificate r.n m (full-said r.n m said) known ordered seats set value at_value, (read_as_lem kind.Full r.n m said).0)) d

-- a message that no step takes changes nothing
pub nothing-heard : (t : Kind) (r : Record) (store out m : List ℕ) → t ≡ kind_of (read r.n m) → 2 < tag t → Did (stepped (read r.n m)) r store out 0 r store out 0
unfolding stepped read_evidence
nothing-heard kind.Submit r store out m e h = absurd (omega arith)
nothing-heard kind.Notice r store out m e h = absurd (omega arith)
nothing-heard kind.Full r store out m e h = absurd (omega arith)
nothing-heard kind.OldEvidence r store out m e h = unchanged r store (stepped (read r.n m)) out 0 (rw (read_as_lem kind.OldEvidence r.n m e).0)
nothing-heard kind.Evidence r store out m e h = unchanged r store (stepped (read r.n m)) out 0 (rw (read_as_lem kind.Evidence r.n m e).0)
nothing-heard kind.Garbled r store out m e h = unchanged r store (stepped (read r.n m)) out 0 (rw (read_as_lem kind.Garbled r.n m e).0)
