-- The answer of submit and step.
-- Assumes nothing.
use Rattle.std.specs.Prelude.{ℕ, Result, Ok, Err}
use Rattle.refusal.specs.declared.Refusal.{Refusal}
use Rattle.refusal.specs.Answers.{number_of}
use Rattle.protocol.specs.declared.Record.{Record}
use Rattle.protocol.specs.declared.Stepped.{Stepped}
use Rattle.phase.specs.declared.Phase.{Phase}

abbrev pub answered : ℕ → ℕ → Record → Stepped
answered number written unit = record { number = number; written = written; unit = unit }

-- by its phases, or its refusal: "A refusal returns its number and 0 bytes written; record .. keep every byte."
abbrev pub answered_in : Record → Result Phase Refusal → Stepped
answered_in r (Ok p) = answered 0 p.at p.unit
answered_in r (Err e) = answered (number_of e) 0 r
