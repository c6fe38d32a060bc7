-- The yard's program.
--
-- `Line` has the line printed for a call, `Commands` the commands of the input and their outcomes, `Yard` the whole output of a
-- whole input, with worked examples in `Examples`. `Program` has the program as it reads command by command, and `Run` the runs that
-- the code promises. `XLaws` has the laws of `X`: `ProgramLaws` and `RunLaws` have the claims that both come to the output of `Yard`.
pub mod Line
pub mod Commands
pub mod Yard
pub mod Examples
pub mod LineLaws
pub mod CommandsLaws
pub mod Program
pub mod ProgramLaws
pub mod Run
pub mod RunLaws
