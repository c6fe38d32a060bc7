-- Evidence made from two certificates in hand by a call that isn't refused: the check accepts it, and it names exactly the seats that
-- the two share, t0 + 1 or more. For all inputs, and for any signature check.
-- Assumes nothing.
use Rattle.std.specs.Prelude.{◌≡◌, List, ℕ, ◌+◌, ◌≤◌}
use Rattle.std.proofs.Common.{◌∙◌}
use Rattle.quorum.specs.Quorum.{t0, size, shared}
use Rattle.refusal.specs.Refusal.{unrefused}
use Rattle.protocol.specs.Entries.{form_seats}
use Rattle.protocol.specs.Message.{Pair, ValuesEach, Evidence, evidence_form, render, read, entry_seats}
use Rattle.protocol.specs.MessageLaws.{read-render}
use Rattle.protocol.specs.Certificate.{set_of, certificate_in}
use Rattle.protocol.specs.ConditionsLaws.{each_every}
use Rattle.protocol.specs.Refusals.{is_evidence, lower_first, not_lower_first}
use Rattle.protocol.specs.Calls.{making, checked_by, evidence_check}
use Rattle.round.specs.Round.{Setting, Make, InHand, making_of, Accepted}
use Rattle.claims.specs.Sound.{Any, Pairs}
use Rattle.claims.specs.CertificatesLaws.{conflict_elim}
use Rattle.reading.specs.ReadingLaws.{read-sized}
use Rattle.claims.specs.UnrefusedLaws.{evidence-taken}
use Rattle.claims.specs.NotRefused.{Outside, evidence_not_refused, making_not_refused}
use Rattle.claims.specs.Units.{pairs-formed}
use Rattle.claims.specs.Safe.{evidence_from, making-bytes, certifies_in}

module _ (S : Setting) (outside : Outside S.n S.round S.keys) where
  open S use {n, round, keys, checks}

  -- a pack that is written is accepted, and the check's mask has its seats
  pub accepted-mask : (ps : List Pair) → Pairs checks Any n ps
      → ((evidence_check checks n round keys (render (Evidence round ValuesEach ps))).number ≡ 0)
      × ((evidence_check checks n round keys (render (Evidence round ValuesEach ps))).mask ≡ set_of (entry_seats (Evidence round ValuesEach ps)))
  unfolding evidence_check checked_by unrefused is_evidence not_lower_first
  accepted-mask ps z =
      let m = Evidence round ValuesEach ps in
      let reads = read-render n m (pairs-formed checks Any n round ps outside.in_time z) in
      let zero =
      (evidence_not_refused checks n round keys (render m)).1
      (record { outside = outside; is_one = rw reads; message = rw reads (evidence-taken checks Any n round ps z); conflict = rw (reads, each_every lower_first ps z.ordered) }) in
      (zero, rw (zero, reads))

-- evidence that the check accepts and that names exactly the seats that two certificates share
module _ (S : Setting) where
  open S use {n, round, keys, checks}

  pub record Accuses (a b evidence : List ℕ) : Type 0 where
    pub accepted : Accepted S evidence
    pub names : (evidence_check checks n round keys evidence).mask ≡ shared (certificate_in (read n a)).seats (certificate_in (read n b)).seats
    pub enough : t0 n + 1 ≤ size (evidence_check checks n round keys evidence).mask

module _ (S : Setting) (a b out : List ℕ) (unrefused-making : (making S.checks S.n S.round S.keys a b out).refusal ≡ 0) where
  open S use {n, round, keys, checks}

  abbrev hand : InHand
  hand = record { work = Make; a = a; b = b; out = out }

  -- the claim, about the bytes that the call's answer counts
  pub made-accepted : Accuses S a b (making_of S hand)
  unfolding unrefused entry_seats form_seats evidence_form
  made-accepted =
      let taken = (making_not_refused checks n round keys a b out).0 unrefused-making in
      let first = certifies_in checks Any n round (read n a) taken.first_full taken.first (read-sized n a) (λ s m. tt) in
      let second = certifies_in checks Any n round (read n b) taken.second_full taken.second (read-sized n b) (λ s m. tt) in
      let bytes : making_of S hand ≡ render (evidence_from S Make a b) = making-bytes S hand ∙ rw unrefused-making in
      rw bytes
      (conflict_elim checks Any n (certificate_in (read n a)) (certificate_in (read n b)) first second (λ m. Accuses S a b (render m)) round taken.conflict taken.outside.some
      (λ ps z names enough.
      let p = accepted-mask S taken.outside ps z in
      record { accepted = p.0; names = p.1 ∙ names; enough = rw (p.1, names) enough }))
