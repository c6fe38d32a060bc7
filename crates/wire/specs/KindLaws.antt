-- The kind of a message, and the content of its bytes by kind.
-- Assumes nothing.
use Rattle.std.specs.Prelude.{◌≡◌, refl, Bool, true, false, cond, not, List, ◌≢◌, ℕ, eqb}
use Rattle.std.proofs.Common.{sym, ap, ◌∙◌}
use borrow.Author.Tests.{not-true, not-false}
use Rattle.protocol.specs.Message.{PackForm, ValuesOnce, ValuesEach, pack_command, Message, Submit, Notice, Full, Evidence, Garbled, pack_in, byte_at, render, read_submit, read_notice, read_full, read_evidence, fits_submit, fits_notice, fits_full, fits_evidence, read}
use Rattle.protocol.specs.MessageLaws.{read_cases, pack-old, pack-new}
use Rattle.wire.specs.Reading.{pack_kind, kind_of}
use Rattle.wire.specs.Answers.{command_of, command}
use Rattle.wire.specs.declared.read.Kind.{Kind}
use Rattle.wire.specs.declared.read.Kind.TheVariants as kind

-- ---- its command, by the tests in their order

module _ (n : ℕ) (bytes : List ℕ) (submit : Bool) (s : submit ≡ fits_submit bytes) where
  pub told-submit : submit ≡ true → command_of kind.Submit ≡ command (read n bytes)
  unfolding command_of command render read read_submit
  told-submit h = rw (← s, h)

  module _ (no_submit : submit ≡ false) (notice : Bool) (t : notice ≡ fits_notice bytes) where
    pub told-notice : notice ≡ true → command_of kind.Notice ≡ command (read n bytes)
    unfolding command_of command render read read_notice
    told-notice h = rw (← s, no_submit, ← t, h)

    module _ (no_notice : notice ≡ false) (full : Bool) (u : full ≡ fits_full n bytes) where
      pub told-full : full ≡ true → command_of kind.Full ≡ command (read n bytes)
      unfolding command_of command render read read_full
      told-full h = rw (← s, no_submit, ← t, no_notice, ← u, h)

      module _ (no_full : full ≡ false) (evidence : Bool) (v : evidence ≡ fits_evidence n bytes) where
        pub told_garbled : not evidence ≡ true → command_of kind.Garbled ≡ command (read n bytes)
        unfolding command_of command render read
        told_garbled h = rw (← s, no_submit, ← t, no_notice, ← u, no_full, ← v, not-true evidence h)

        module _ (h : not evidence ≡ false) (code : ℕ) (w : code ≡ byte_at bytes 0) where
          told-pack : pack_command (pack_in bytes) ≡ command (read n bytes)
          unfolding command render read read_evidence
          told-pack = rw (← s, no_submit, ← t, no_notice, ← u, no_full, ← v, not-false evidence h)

          pub told-old-evidence : code ≡ 0x05 → command_of kind.OldEvidence ≡ command (read n bytes)
          unfolding command_of
          told-old-evidence old = rw (pack-old bytes (sym w ∙ old)) at told-pack

          pub told-evidence : code ≢ 0x05 → command_of kind.Evidence ≡ command (read n bytes)
          unfolding command_of
          told-evidence new = rw (pack-new bytes (λ old. new (w ∙ old))) at told-pack

-- ---- the kind by its command

kind_with : ℕ → Kind
kind_with c = cond (eqb c 0x01) kind.Submit (cond (eqb c 0x02) kind.Notice (cond (eqb c 0x03) kind.Full (cond (eqb c 0x05) kind.OldEvidence (cond (eqb c 0x07) kind.Evidence kind.Garbled))))

with_own_lem : (k : Kind) → k ≡ kind_with (command_of k)
unfolding kind_with command_of
with_own_lem kind.Submit = refl
with_own_lem kind.Notice = refl
with_own_lem kind.Full = refl
with_own_lem kind.OldEvidence = refl
with_own_lem kind.Evidence = refl
with_own_lem kind.Garbled = refl

kind_with_lem : (m : Message) → kind_with (command m) ≡ kind_of m
unfolding kind_with command render kind_of
kind_with_lem (Submit round seat value signature) = refl
kind_with_lem (Notice round seat value) = refl
kind_with_lem (Full round sender value entries) = refl
kind_with_lem (Evidence round (ValuesOnce values) entries) = refl
kind_with_lem (Evidence round ValuesEach entries) = refl
kind_with_lem Garbled = refl

pub kind-told : (k : Kind) (m : Message) → command_of k ≡ command m → k ≡ kind_of m
kind-told k m e = with_own_lem k ∙ ap kind_with e ∙ kind_with_lem m

-- ---- the message in bytes of a kind, and the test that they pass

abbrev pub read_as : Kind → ℕ → List ℕ → Message
read_as kind.Submit n bytes = read_submit bytes
read_as kind.Notice n bytes = read_notice bytes
read_as kind.Full n bytes = read_full n bytes
read_as kind.OldEvidence n bytes = read_evidence bytes
read_as kind.Evidence n bytes = read_evidence bytes
read_as kind.Garbled n bytes = Garbled

abbrev pub fits_as : Kind → ℕ → List ℕ → Bool
fits_as kind.Submit n bytes = fits_submit bytes
fits_as kind.Notice n bytes = fits_notice bytes
fits_as kind.Full n bytes = fits_full n bytes
fits_as kind.OldEvidence n bytes = fits_evidence n bytes
fits_as kind.Evidence n bytes = fits_evidence n bytes
fits_as kind.Garbled n bytes = true

pack-read : (k : Kind) (n : ℕ) (bytes : List ℕ) → fits_evidence n bytes ≡ true → (form : PackForm) → k ≡ pack_kind form → (read_evidence bytes ≡ read_as k n bytes) × (fits_as k n bytes ≡ true)
pack-read k n bytes f (ValuesOnce values) e = rw e (refl, f)
pack-read k n bytes f ValuesEach e = rw e (refl, f)

pub read_as_lem : (k : Kind) (n : ℕ) (bytes : List ℕ) → k ≡ kind_of (read n bytes) → (read n bytes ≡ read_as k n bytes) × (fits_as k n bytes ≡ true)
unfolding kind_of read_submit read_notice read_full read_evidence
read_as_lem k n bytes =
    read_cases (λ m. k ≡ kind_of m → (m ≡ read_as k n bytes) × (fits_as k n bytes ≡ true)) n bytes
    (λ f e. rw e (refl, f)) (λ f e. rw e (refl, f)) (λ f e. rw e (refl, f)) (λ f e. pack-read k n bytes f (pack_in bytes) e) (λ e. rw e (refl, refl))

-- the number that the compiler gives each kind, for proofs about a `match`
abbrev pub tag : Kind → ℕ
tag kind.Submit = 0
tag kind.Notice = 1
tag kind.Full = 2
tag kind.OldEvidence = 3
tag kind.Evidence = 4
tag kind.Garbled = 5
