-- Bytes read as messages: widths of a message's operands, and the length of the first message.
-- Assumes nothing.
use Rattle.std.specs.Prelude.{◌≡◌, cond, List, ℕ, eqb, length}
use Rattle.quorum.specs.Quorum.{k}
use Rattle.protocol.specs.Layout.{value_length, signature_length, submit_length, notice_length, full_length, evidence_count_at, evidence_length, old_evidence_count_at, old_evidence_length}
use Rattle.protocol.specs.Entries.{Laid}
use Rattle.protocol.specs.Message.{Message, Submit, Notice, Full, Evidence, Garbled, full_form, evidence_form, byte_at}

-- ---- a message that was read

-- widths of a message's operands
abbrev pub Sized : ℕ → Message → Type 0
Sized n (Submit ρ seat value signature) = (length value ≡ value_length) × (length signature ≡ signature_length)
Sized n (Notice ρ seat value) = length value ≡ value_length
Sized n (Full ρ sender value es) = (length value ≡ value_length) × (length es ≡ k n) × Laid full_form es
Sized n (Evidence ρ form ps) = Laid (evidence_form form) ps
Sized n Garbled = Unit {0}

-- ---- the end of a message

-- length of the first message, by its command and count
unfoldable pub frame_length : ℕ → List ℕ → ℕ
frame_length n bytes =
    cond (eqb (byte_at bytes 0) 0x01) submit_length
    (cond (eqb (byte_at bytes 0) 0x02) notice_length
    (cond (eqb (byte_at bytes 0) 0x03) (full_length n)
    (cond (eqb (byte_at bytes 0) 0x05) (old_evidence_length (byte_at bytes old_evidence_count_at))
    (evidence_length (byte_at bytes evidence_count_at)))))
