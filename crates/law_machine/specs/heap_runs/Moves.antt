-- Moves and replies as programs have them, and as the written machine has them.
use Rattle.swi_dispatch_guest.specs.Moves.{Call, Move as WrittenEvent, Step}
use Rattle.std.specs.Prelude.{Bool, List, [], ◌∷◌, map, if◌then◌else◌}
use Rattle.law_machine.specs.heap_calls.Turns.{Answered, Refused, Reply as WrittenReply}
use Rattle.swi_dispatch_guest.specs.MachineState.{MachineState}
use Rattle.law_machine.specs.heap_alone.Moves.{reply_of_machine}
use Rattle.law_machine.specs.declared.heap_runs.moves.MachineEvent.{MachineEvent}
use Rattle.law_machine.specs.declared.heap_runs.moves.MachineEvent.TheVariants as move
use Rattle.law_machine.specs.declared.heap_runs.moves.Reply.{Reply}
use Rattle.law_machine.specs.declared.heap_runs.moves.Reply.TheVariants as reply

abbrev pub written_event_of : MachineEvent → WrittenEvent
written_event_of (move.Call number words) = Call number words
written_event_of move.Step = Step

abbrev pub written_all : List MachineEvent → List WrittenEvent
written_all moves = map written_event_of moves

abbrev pub written_reply_of : WrittenReply → Reply
written_reply_of (Answered block size) = reply.Answered block size
written_reply_of (Refused number) = reply.Refused number

abbrev pub noted_all : List WrittenReply → List Reply
noted_all replies = map written_reply_of replies

-- what a machine answers, as a list: of a call that isn't the heap's own nothing
abbrev pub reply_if : Bool → MachineState → List Reply
reply_if own s = if own then written_reply_of (reply_of_machine s) ∷ [] else []
