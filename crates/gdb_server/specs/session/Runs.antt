-- Requests that take steps. A run goes in slices: after each the other side is asked whether the user
-- wants the program to stop.
use Rattle.std.specs.Prelude.{ℕ, ◌==◌, ◌&&◌, ◌||◌, nat_lt, option_map, Bool, true, false, List, [], ◌++◌, codes, Option, Some, None, if◌then◌else◌}
use Rattle.profile.specs.Fault.{Fault}
use Rattle.profile.specs.declared.stop.Stop.{Stop}
use Rattle.profile.specs.declared.stop.Stop.TheVariants as stop
use Rattle.debug_session.specs.Answers.{stop_text}
use Rattle.debug_session.specs.Memory.{script_started_anew, script_with_budget}
use Rattle.gdb_machine.specs.MachineState.{stop_of}
use Rattle.debug_session.specs.Past.{past_from_start}
use Rattle.debug_session.specs.DebugScript.{debug_line_answer, debug_lines_answer}
use Rattle.debug_session.specs.DebugState.{DebugAnswered, DebugState}
use Rattle.debug_session.specs.declared.session.DebugSettings.{DebugSettings}
use Rattle.std.specs.Str.Lines.{lines}
use Rattle.hex.specs.Hex.{decode_of}
use Rattle.gdb_machine.specs.StepEnds.{halted_text, is_own_signal, last_stop, steps_further, stop_after_step, was_library}
use Rattle.gdb_machine.specs.Stops.{is_gone, stop_packet}
use Rattle.gdb_machine.specs.declared.back_ends.UnderWay.{UnderWay}
use Rattle.gdb_machine.specs.declared.back_ends.UnderWay.TheVariants as under
use Rattle.gdb_machine.specs.declared.stops.GdbStop.{GdbStop}
use Rattle.gdb_machine.specs.declared.stops.GdbStop.TheVariants as reason
use Rattle.gdb_packets.specs.declared.going.Going.{Going}
use Rattle.gdb_packets.specs.declared.going.Going.TheVariants as going
use Rattle.gdb_machine.specs.ChangePackets.{bytes_of_pairs}
use Rattle.gdb_machine.specs.GdbBreaks.{is_among}
use Rattle.gdb_server.specs.session.State.{GdbState, GdbAnswered, packet_reply, no_reply, script_libraries, with_script, with_steps_noted}
use Rattle.gdb_server.specs.session.Steps.{StepsTaken, gdb_steps, is_other_list}

-- `rosm: ` and the stop line of a fault, or where the budget is used up
abbrev pub user_text : GdbStop → ℕ → List ℕ
user_text (reason.Ran (stop.Fault f)) pc = codes "rosm: " ++ stop_text (stop.Fault f) pc
user_text (reason.Ran stop.Budget) pc = codes "rosm: " ++ stop_text stop.Budget pc
user_text (reason.Ran stop.Exit) pc = []
user_text (reason.Ran (stop.Break address)) pc = []
user_text reason.Stepped pc = []
user_text reason.Asked pc = []
user_text (reason.Watched place) pc = []
user_text reason.Library pc = []
user_text (reason.Killed f) pc = []
user_text (reason.WatchedBack place) pc = []
user_text reason.Begin pc = []
user_text reason.End pc = []

-- the modules that GDB knows of after a stop: where it is told that there are others, those that are there
abbrev pub libraries_after : GdbStop → GdbState → List ℕ
libraries_after reason.Library g = script_libraries g.debug.script
libraries_after reason.Stepped g = g.libraries
libraries_after reason.Asked g = g.libraries
libraries_after (reason.Watched place) g = g.libraries
libraries_after (reason.Ran x) g = g.libraries
libraries_after (reason.Killed f) g = g.libraries
libraries_after (reason.WatchedBack place) g = g.libraries
libraries_after reason.Begin g = g.libraries
libraries_after reason.End g = g.libraries

abbrev pub with_stop : GdbState → GdbStop → GdbState
with_stop g why = record g { libraries = libraries_after why g; going = None; stop = why }

-- the program stands, and the user is shown so much
abbrev pub stop_shown_with : GdbState → List ℕ → GdbStop → GdbAnswered
stop_shown_with g text why = record {
  state = with_stop g why;
  reported = text;
  reply = Some (stop_packet g.debug.script.machine.cpu why);
}

-- the program stands, after it printed so much
abbrev pub gdb_stop_shown : GdbState → List ℕ → GdbStop → GdbAnswered
gdb_stop_shown g printed why = stop_shown_with g (printed ++ user_text why g.debug.script.machine.cpu.pc) why

-- so many steps are taken before the other side is asked
abbrev pub slice_steps : ℕ
slice_steps = 100000

-- a run or a search is under way: `isatty` is a call of the other side's that it answers at once
abbrev pub asking : GdbState → UnderWay → List ℕ → GdbAnswered
asking g way printed = record {
  state = record g { going = Some way };
  reported = printed;
  reply = Some (codes "Fisatty,0");
}

abbrev pub slice_done : GdbState → Going → StepsTaken → GdbAnswered
slice_done g goes taken =
    if steps_further taken.stop && nat_lt 0 taken.script.left
    then asking (with_steps_noted g taken.script) (under.Run goes) taken.printed
    else gdb_stop_shown (with_steps_noted g taken.script) taken.printed taken.stop

abbrev pub slice_shown : GdbState → Going → GdbAnswered
slice_shown g goes = slice_done g goes (gdb_steps g goes slice_steps)

-- with as many steps as a run may take
abbrev pub with_whole_budget : GdbState → GdbState
with_whole_budget g = with_script g (script_with_budget g.debug.script g.most)

-- Whether a break is still to be shown: the program stands at one, and GDB was told there that it may have to
-- set others.
abbrev pub stands_at_break : GdbState → Bool
stands_at_break g = (is_among g.debug.script.breaks g.debug.script.machine.cpu.pc
    || is_among g.breaks g.debug.script.machine.cpu.pc)

abbrev pub has_break_due : GdbState → Bool
has_break_due g = was_library g.stop && stands_at_break g

abbrev pub break_here : GdbState → GdbStop
break_here g = reason.Ran (stop.Break g.debug.script.machine.cpu.pc)

-- a run begins: of other modules GDB is told first, and it goes on by itself
abbrev pub first_slice_shown : GdbState → GdbAnswered
first_slice_shown g =
    if is_other_list g.libraries g.debug.script then gdb_stop_shown g [] reason.Library else (
    if has_break_due g then gdb_stop_shown g [] (break_here g) else slice_shown g going.On)

-- the byte 3 stops a run, or a search back, at once
abbrev pub stops_if : GdbState → Option UnderWay → GdbAnswered
stops_if g None = no_reply g
stops_if g (Some way) = gdb_stop_shown g [] reason.Asked

abbrev pub stop_asked : GdbState → GdbAnswered
stop_asked g = stops_if g g.going

abbrev pub gdb_step_done : GdbState → StepsTaken → GdbAnswered
gdb_step_done g taken =
    gdb_stop_shown (with_steps_noted g taken.script) taken.printed (stop_after_step taken.stop)

-- one step
abbrev pub gdb_step_shown : GdbState → GdbAnswered
gdb_step_shown g = gdb_step_done g (gdb_steps g going.Once 1)

-- why the program stands at a place to which a step led
abbrev pub stop_here : GdbState → GdbStop
stop_here g = if stands_at_break g then break_here g else reason.Stepped

abbrev pub unless_stepped : GdbState → GdbStop → GdbStop
unless_stepped g reason.Stepped = stop_here g
unless_stepped g other = other

-- GDB takes a watch on ARM for one that strikes before its instruction, and takes that step itself before it
-- looks at the bytes ("have_nonsteppable_watchpoint" in GDB's own terms). Here a watch strikes once they have
-- changed: the step is taken already, and that request moves nothing.
abbrev pub taken_after : GdbStop → GdbState → Option GdbStop
taken_after (reason.Watched place) g = Some (unless_stepped g (last_stop g.debug.script.last))
taken_after reason.Library g = None
taken_after reason.Stepped g = None
taken_after reason.Asked g = None
taken_after (reason.Ran x) g = None
taken_after (reason.Killed f) g = None
taken_after (reason.WatchedBack place) g = None
taken_after reason.Begin g = None
taken_after reason.End g = None

abbrev pub step_taken : GdbState → Option GdbStop
step_taken g = taken_after g.stop g

abbrev pub unless_taken : Option GdbStop → GdbState → GdbAnswered → GdbAnswered
unless_taken (Some why) g other = gdb_stop_shown g [] why
unless_taken None g other = other

abbrev pub unhalted_answer : GdbState → Going → GdbAnswered
unhalted_answer g going.On = first_slice_shown g
unhalted_answer g going.Once = unless_taken (step_taken g) g (gdb_step_shown g)
unhalted_answer g (going.Within places) = unless_taken (step_taken g) g (slice_shown g (going.Within places))

-- A machine that a fault has halted takes no step. The signal of its fault, given back to it, ends the program.
abbrev pub fault_shown : GdbState → Bool → Fault → GdbAnswered
fault_shown g true f = gdb_stop_shown g [] (reason.Killed f)
fault_shown g false f = stop_shown_with g (halted_text f g.debug.script.machine.cpu.pc) (reason.Ran (stop.Fault f))

abbrev pub halt_shown : GdbState → Option ℕ → Stop → GdbAnswered
halt_shown g signal (stop.Fault f) = fault_shown g (is_own_signal signal f) f
halt_shown g signal stop.Exit = gdb_stop_shown g [] (reason.Ran stop.Exit)
halt_shown g signal stop.Budget = gdb_stop_shown g [] (reason.Ran stop.Budget)
halt_shown g signal (stop.Break address) = gdb_stop_shown g [] (reason.Ran (stop.Break address))

abbrev pub unless_halted_before : GdbState → Option ℕ → Option Stop → GdbAnswered → GdbAnswered
unless_halted_before g signal (Some x) other = halt_shown g signal x
unless_halted_before g signal None other = other

-- A program that is no more takes no step, and why it is no more is shown again, until it begins anew.
abbrev pub unless_gone : GdbState → GdbAnswered → GdbAnswered
unless_gone g other = if is_gone g.stop then gdb_stop_shown g [] g.stop else other

-- a run or a step, with a signal or without
abbrev pub going_shown : GdbState → Going → Option ℕ → GdbAnswered
going_shown g goes signal = (let whole = with_whole_budget g in
    unless_gone whole (unless_halted_before whole signal (option_map stop_of whole.debug.script.machine.halt)
    (unhalted_answer whole goes)))

-- a line of a debugging script, as line 0 of it: the user is shown what the debugger answers. A line
-- QUIT before it ended nothing.
abbrev pub without_quit : DebugState → DebugState
without_quit d = record d { has_quit = false }

abbrev pub with_debug : GdbState → DebugState → GdbState
with_debug g d = record g { debug = d }

abbrev pub line_done : GdbState → DebugAnswered → GdbAnswered
line_done g a = record { state = with_debug g a.state; reported = a.text; reply = Some (codes "OK") }

abbrev pub line_decoded : GdbState → Option (List ℕ) → GdbAnswered
line_decoded g (Some line) = line_done g (debug_line_answer g.setting (without_quit g.debug) 0 line [])
line_decoded g None = packet_reply g (codes "E16")

abbrev pub monitor_shown : GdbState → List ℕ → GdbAnswered
monitor_shown g pairs = line_decoded g (bytes_of_pairs (decode_of pairs))

-- a fresh machine, and the lines of a debugging script that it begins with
abbrev pub debug_anew : DebugSettings → DebugState → DebugState
debug_anew setting d = record (without_quit d) {
  script = script_started_anew d.script setting.config setting.budget;
  past = past_from_start setting.keeps_past;
}

abbrev pub begin_shown : GdbState → DebugAnswered
begin_shown g = debug_lines_answer g.setting 0 (debug_anew g.setting g.debug) (lines g.start)

-- GDB was told of no module
abbrev pub after_begin : GdbState → DebugAnswered → GdbState
after_begin g a = record (with_debug g a.state) { libraries = [] }

abbrev pub begun_anew : GdbState → DebugAnswered → GdbState
begun_anew g a = with_stop (after_begin g a) reason.Stepped

-- `vRun`; the other side takes no text before the stop, so what the lines are answered is left out
abbrev pub run_program_shown : GdbState → GdbAnswered
run_program_shown g =
    gdb_stop_shown (after_begin g (begin_shown g)) [] reason.Stepped

-- `R`
abbrev pub restart_shown : GdbState → GdbAnswered
restart_shown g = no_reply (begun_anew g (begin_shown g))
