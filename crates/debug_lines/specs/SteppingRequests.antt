-- The lines that take steps: those of a script; FINISH, which takes them until the innermost frame has
-- gone back; GOSUB, which calls the routine at an address, a multiple of 4 below 2^26; and TRACE LAST,
-- a RUN of which the last steps are shown.
use Rattle.std.specs.Prelude.{ℕ, List, Option, Some, None}
use Rattle.command_shell_lines.specs.Requests as script
use Rattle.debug_lines.specs.declared.stepping.SteppingCommand.{SteppingCommand}
use Rattle.debug_lines.specs.declared.stepping.SteppingCommand.TheVariants as stepping

pub data SteppingRequest : Type 0 where
  Run : SteppingRequest
  Step : ℕ → SteppingRequest
  Call : ℕ → SteppingRequest
  Load : List ℕ → SteppingRequest
  Finish : SteppingRequest
  Gosub : ℕ → SteppingRequest
  -- how many of its last steps are shown at most
  RunLast : ℕ → SteppingRequest

-- what a line of a script asks for that takes steps
abbrev pub stepping_in : script.Request → Option SteppingRequest
stepping_in script.Run = Some Run
stepping_in (script.Step count) = Some (Step count)
stepping_in (script.Call number) = Some (Call number)
stepping_in (script.Load text) = Some (Load text)
stepping_in _ = None

-- the lines that the code tells apart, as the requests that they stand for
abbrev pub stepping_request_of : SteppingCommand → SteppingRequest
stepping_request_of stepping.Run = Run
stepping_request_of (stepping.Step count) = Step count
stepping_request_of (stepping.Call number) = Call number
stepping_request_of (stepping.Load text) = Load text.now
stepping_request_of stepping.Finish = Finish
stepping_request_of (stepping.Gosub address) = Gosub address
stepping_request_of (stepping.RunLast count) = RunLast count
