-- The same variant asks for the same.
use Rattle.std.proofs.Common.{ap, sym}
use Rattle.command_shell_lines.specs.Requests.{request_of_command}
use Rattle.debug_listing.proofs.run_meter.metered.same_command.Goals as goal

pub returns-in-Nothing : goal.returns-in-Nothing
returns-in-Nothing c = ap request_of_command (sym c.in-Nothing.is)

pub returns-in-Hex : goal.returns-in-Hex
returns-in-Hex c = ap request_of_command (sym c.in-Hex.is)

pub returns-in-Asm : goal.returns-in-Asm
returns-in-Asm c = ap request_of_command (sym c.in-Asm.is)

pub returns-in-Boot : goal.returns-in-Boot
returns-in-Boot c = ap request_of_command (sym c.in-Boot.is)

pub returns-in-Run : goal.returns-in-Run
returns-in-Run c = ap request_of_command (sym c.in-Run.is)

pub returns-in-Regs : goal.returns-in-Regs
returns-in-Regs c = ap request_of_command (sym c.in-Regs.is)

pub returns-in-Set : goal.returns-in-Set
returns-in-Set c = ap request_of_command (sym c.in-Set.is)

pub returns-in-Poke : goal.returns-in-Poke
returns-in-Poke c = ap request_of_command (sym c.in-Poke.is)

pub returns-in-Call : goal.returns-in-Call
returns-in-Call c = ap request_of_command (sym c.in-Call.is)

pub returns-in-Load : goal.returns-in-Load
returns-in-Load c = ap request_of_command (sym c.in-Load.is)

pub returns-in-Step : goal.returns-in-Step
returns-in-Step c = ap request_of_command (sym c.in-Step.is)

pub returns-in-Break : goal.returns-in-Break
returns-in-Break c = ap request_of_command (sym c.in-Break.is)

pub returns-in-Unbreak : goal.returns-in-Unbreak
returns-in-Unbreak c = ap request_of_command (sym c.in-Unbreak.is)

pub returns-in-Mem : goal.returns-in-Mem
returns-in-Mem c = ap request_of_command (sym c.in-Mem.is)

pub returns-in-Code : goal.returns-in-Code
returns-in-Code c = ap request_of_command (sym c.in-Code.is)

pub returns-in-Heap : goal.returns-in-Heap
returns-in-Heap c = ap request_of_command (sym c.in-Heap.is)

pub returns-in-Areas : goal.returns-in-Areas
returns-in-Areas c = ap request_of_command (sym c.in-Areas.is)

pub returns-in-Modules : goal.returns-in-Modules
returns-in-Modules c = ap request_of_command (sym c.in-Modules.is)

pub returns-in-Flex : goal.returns-in-Flex
returns-in-Flex c = ap request_of_command (sym c.in-Flex.is)

pub returns-in-Unknown : goal.returns-in-Unknown
returns-in-Unknown c = ap request_of_command (sym c.in-Unknown.is)
