-- Steps that are taken one by one, with a look before and after each, and where they end: where a watch is
-- struck, the machine itself stops, a break is reached, or what they are taken for.
use Rattle.std.specs.Prelude.{ℕ, zero, suc, ◌==◌, not, ◌||◌, ◌&&◌, nat_le, nat_lt, min, Bool, true, false, List, [], ◌++◌, Option, Some, None, if◌then◌else◌}
use Rattle.std.specs.Str.{bytes_eq}
use Rattle.profile.specs.declared.stop.Stop.TheVariants as stop
use Rattle.gdb_machine.specs.Run.{Run}
use Rattle.debug_session.specs.State.{ScriptState}
use Rattle.debug_session.specs.Stepping.{script_run, script_after_run}
use Rattle.gdb_machine.specs.StepEnds.{is_exit_ahead, may_change_list, steps_further, struck_after}
use Rattle.gdb_machine.specs.Watches.{first_changed, struck_place, watched_bytes}
use Rattle.gdb_machine.specs.declared.stops.GdbStop.{GdbStop}
use Rattle.gdb_machine.specs.declared.stops.GdbStop.TheVariants as reason
use Rattle.gdb_machine.specs.declared.watches.SeenByte.{SeenByte}
use Rattle.gdb_machine.specs.declared.watches.Watch.{Watch}
use Rattle.gdb_machine.specs.declared.watches.WatchedPlace.{WatchedPlace}
use Rattle.gdb_packets.specs.Going.{has_left}
use Rattle.gdb_packets.specs.declared.going.Going.{Going}
use Rattle.gdb_machine.specs.declared.step_ends.StepAhead.{StepAhead}
use Rattle.gdb_machine.specs.GdbBreaks.{is_among}
use Rattle.gdb_server.specs.session.State.{GdbState, script_libraries}

-- what steps leave: the state, what the guest printed, and why they ended
pub record StepsTaken : Type 0 where
  pub script : ScriptState
  pub printed : List ℕ
  pub stop : GdbStop

abbrev pub steps_taken : ScriptState → ℕ → Run → StepsTaken
steps_taken s most r =
    record { script = script_after_run s most r; printed = r.printed; stop = reason.Ran r.stop }

-- so many steps, or as many as are left of the budget
abbrev pub script_steps : ScriptState → ℕ → StepsTaken
script_steps s count = steps_taken s (min count s.left) (script_run s (min count s.left))

abbrev pub printed_before : List ℕ → StepsTaken → StepsTaken
printed_before printed taken = record taken { printed = printed ++ taken.printed }

-- what is looked at for each step: what the steps are for, whether the program's end is stayed at, the watches and
-- the watched bytes as they were before, GDB's breaks, and the lines of the modules that GDB was told are there
pub record StepLooks : Type 0 where
  pub going : Going
  pub stays : Bool
  pub watches : List Watch
  pub seen : List SeenByte
  pub breaks : List ℕ
  pub libraries : List ℕ

abbrev pub looks_at : GdbState → Going → List SeenByte → StepLooks
looks_at g goes seen = record {
  going = goes;
  stays = g.stays;
  watches = g.watches;
  seen = seen;
  breaks = g.breaks;
  libraries = g.libraries;
}

-- before a step, if there is one: whether it may change which modules are there, and where it strikes a watch by what it loads or
-- stores to
abbrev pub struck_ahead : List Watch → ScriptState → Option WatchedPlace
struck_ahead watches s =
    if nat_lt 0 s.left then struck_place s.machine.cpu s.machine.store.bytes watches else None

abbrev pub ahead_of : Going → List Watch → ScriptState → StepAhead
ahead_of goes watches s =
    record { may_change = may_change_list goes s.machine.cpu s.machine.store.bytes; struck = struck_ahead watches s }

-- whether other modules are there than GDB was told of last
abbrev pub is_other_list : List ℕ → ScriptState → Bool
is_other_list reported s = not (bytes_eq (script_libraries s) reported)

-- whether the program is to stay where it is, since it is about to exit
abbrev pub stays_here : Bool → ScriptState → Bool
stays_here stays s = stays && is_exit_ahead s.machine.cpu s.machine.store.bytes

-- a break of GDB's; the program's end, where that is stayed at; the end of what the steps are for; another list
-- of modules
abbrev pub end_beside : Going → Bool → List ℕ → List ℕ → Bool → ScriptState → Option GdbStop
end_beside goes stays breaks reported may_change s =
    if is_among breaks s.machine.cpu.pc then Some (reason.Ran (stop.Break s.machine.cpu.pc)) else (
    if stays_here stays s then Some reason.End else (
    if has_left goes s.machine.cpu.pc then Some reason.Stepped else (
    if may_change && is_other_list reported s then Some reason.Library else None)))

abbrev pub machine_end : StepLooks → GdbStop → Bool → ScriptState → Option GdbStop
machine_end l why may_change s =
    if steps_further why then end_beside l.going l.stays l.breaks l.libraries may_change s else Some why

abbrev pub watched_or : Option WatchedPlace → Option GdbStop → Option GdbStop
watched_or (Some place) other = Some (reason.Watched place)
watched_or None other = other

-- why the steps end with one before which that was so, that left this, and after which the machine itself stood
-- for that reason
abbrev pub end_of_step : StepLooks → StepAhead → GdbStop → ScriptState → Option GdbStop
end_of_step l ahead why s = watched_or (first_changed s.machine.store.bytes l.seen)
    (watched_or (struck_after why ahead.struck) (machine_end l why ahead.may_change s))

abbrev pub looked_further : StepsTaken → Option GdbStop → (ScriptState → StepsTaken) → StepsTaken
looked_further first (Some why) next = record first { stop = why }
looked_further first None next = printed_before first.printed (next first.script)

abbrev pub none_taken : ScriptState → StepsTaken
none_taken s = record { script = s; printed = []; stop = reason.Ran stop.Budget }

unfoldable pub looked_steps : StepLooks → ℕ → ScriptState → StepsTaken
looked_steps l zero s = none_taken s
looked_steps l (suc count) s = looked_further (script_steps s 1)
    (end_of_step l (ahead_of l.going l.watches s) (script_steps s 1).stop (script_steps s 1).script)
    (looked_steps l count)

-- so many steps of a session, fewer where they end before
abbrev pub gdb_steps : GdbState → Going → ℕ → StepsTaken
gdb_steps g goes count =
    looked_steps (looks_at g goes (watched_bytes g.debug.script.machine.store.bytes g.watches)) count
    g.debug.script
