-- Answers of the code as those that C gets.
use Rattle.std.specs.Prelude.{Result, Ok, Err}
use Rattle.refusal.specs.declared.Refusal.{Refusal}
use Rattle.refusal.specs.Answers.{number_of}
use Rattle.dispatch.specs.declared.Dispatcher.{Dispatcher}
use Rattle.dispatch.specs.declared.Dispatched.{Dispatched}

-- of an add: the new dispatcher, or the refusal's number and the old one
abbrev pub dispatched_in : Result Dispatcher Refusal → Dispatcher → Dispatched
dispatched_in (Ok new) old = record { number = 0; dispatcher = new }
dispatched_in (Err e) old = record { number = number_of e; dispatcher = old }
