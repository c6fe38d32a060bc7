-- Answers of the code as those that C gets: a refusal by its number, with nothing beside it.
use Rattle.std.specs.Prelude.{ℕ, Result, Ok, Err}
use Rattle.refusal.specs.declared.Refusal.{Refusal}
use Rattle.refusal.specs.Answers.{number_of}
use Rattle.protocol.specs.declared.Written.{Written}
use Rattle.protocol.specs.declared.Checked.{Checked}
use Rattle.protocol.specs.declared.Record.{Record}
use Rattle.protocol.specs.declared.Opened.{Opened}
use Rattle.protocol.specs.Record.{zeros}

-- of a call that writes: the number of bytes written
abbrev pub written_in : Result ℕ Refusal → Written
written_in (Ok n) = record { number = 0; written = n }
written_in (Err e) = record { number = number_of e; written = 0 }

-- of the evidence check: the seats named
abbrev pub checked_in : Result ℕ Refusal → Checked
checked_in (Ok seats) = record { number = 0; mask = seats }
checked_in (Err e) = record { number = number_of e; mask = 0 }

-- of opening and of reading a note: the record, with a refusal a record of zeros
abbrev pub opened_in : Result Record Refusal → Opened
opened_in (Ok r) = record { number = 0; unit = r }
opened_in (Err e) = record { number = number_of e; unit = zeros }
