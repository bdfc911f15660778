-- How the end of a line that takes steps is shown.
use Rattle.std.specs.Prelude.{Bool, ◌-◌}
use Rattle.profile.specs.declared.stop.Stop.{Stop}
use Rattle.profile.specs.declared.stop.Stop.TheVariants as stop
use Rattle.debug_tables.specs.Answers.{stepped_text}
use Rattle.debug_tables.specs.Calls.{call_text, stop_answer}
use Rattle.debug_tables.specs.Memory.{script_with_last}
use Rattle.debug_tables.specs.State.{ScriptState, Answered, answer}
use Rattle.debug_tables.specs.Routines.{CallerState, returned_text, script_back}
use Rattle.debug_tables.specs.WordWatches.{watch_text}
use Rattle.debug_runs.specs.declared.endings.EndKind.{EndKind}
use Rattle.debug_runs.specs.declared.endings.EndKind.TheVariants as kind
use Rattle.debug_runs.specs.declared.running.RunEnd.{RunEnd}
use Rattle.debug_runs.specs.declared.running.RunEnd.TheVariants as end
use Rattle.debug_tables.specs.WatchHit.{WatchHit}

-- STEP: where the machine stands, if all steps could be taken and were, else the stop line
abbrev pub answer_of_steps : Bool → ScriptState → Stop → Answered
answer_of_steps could_all s stop = answer (script_with_last s stop)
    (stepped_text could_all stop s.machine.cpu.pc)

-- a changed word: status as of a break where the machine stands
abbrev pub watch_answer : ScriptState → WatchHit → Answered
watch_answer s hit = answer (script_with_last s (stop.Break s.machine.cpu.pc)) (watch_text hit)

-- GOSUB: how many steps the routine took
abbrev pub routine_answer : CallerState → ScriptState → Answered
routine_answer caller s = answer (script_back caller s) (returned_text (caller.left - s.left))

-- where the goal is reached; a line without a goal doesn't reach it
abbrev pub goal_answer : EndKind → ScriptState → Answered
goal_answer (kind.Steps could_all) s = answer_of_steps could_all s stop.Budget
goal_answer kind.Call s = answer s (call_text s.machine)
goal_answer (kind.Routine caller) s = routine_answer caller s

abbrev pub line_stop_answer : EndKind → ScriptState → Stop → Answered
line_stop_answer (kind.Steps could_all) s stop = answer_of_steps could_all s stop
line_stop_answer _ s stop = stop_answer s stop

abbrev pub line_end_answer : EndKind → ScriptState → RunEnd → Answered
line_end_answer k s end.Reached = goal_answer k s
line_end_answer k s (end.Watched hit) = watch_answer s hit
line_end_answer k s (end.Stopped stop) = line_stop_answer k s stop
