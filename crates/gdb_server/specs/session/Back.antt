-- Requests that go back ("Reverse Execution" in GDB's manual): a step, and as far as something stops it, which is
-- looked for in pieces of the past. The machine at a moment of its past is that which all that was done before it leads to.
use Rattle.std.specs.Prelude.{ℕ, zero, suc, List, [], ◌∷◌, map, length, drop, unwrap_or, Option, Some, None, if◌then◌else◌}
use Rattle.debug_session.specs.PastActs.{steps_of_acts}
use Rattle.debug_session.specs.PastAgain.{script_at_moment}
use Rattle.debug_session.specs.PastAnswers.{last_in_past}
use Rattle.debug_session.specs.Past.{PastState, moment_after_past, past_until}
use Rattle.debug_session.specs.PastFound.{PastFound}
use Rattle.debug_session.specs.PastSearch.{last_among}
use Rattle.debug_session.specs.Sought.{Sought}
use Rattle.debug_session.specs.Sought.TheVariants as sought
use Rattle.gdb_machine.specs.BackEnds.{all_goals, first_met, goal_end, piece_before, search_after, search_begin, the_begin}
use Rattle.gdb_machine.specs.Watches.{first_changed, watched_bytes}
use Rattle.gdb_machine.specs.declared.back_ends.ActRange.{ActRange}
use Rattle.gdb_machine.specs.declared.back_ends.BackEnd.{BackEnd}
use Rattle.gdb_machine.specs.declared.back_ends.BackGoal.{BackGoal}
use Rattle.gdb_machine.specs.declared.back_ends.BackGoal.TheVariants as goal
use Rattle.gdb_machine.specs.declared.back_ends.BackSearch.{BackSearch}
use Rattle.gdb_machine.specs.declared.back_ends.UnderWay.TheVariants as under
use Rattle.gdb_machine.specs.declared.stops.GdbStop.{GdbStop}
use Rattle.gdb_machine.specs.declared.stops.GdbStop.TheVariants as reason
use Rattle.gdb_machine.specs.declared.watches.WatchedPlace.{WatchedPlace}
use Rattle.gdb_server.specs.session.Runs.{asking, gdb_stop_shown, stop_here}
use Rattle.gdb_server.specs.session.State.{GdbAnswered, GdbState}
use Rattle.gdb_server.specs.session.Steps.{is_other_list}

-- how many steps back there are: none, where the past isn't known
abbrev pub steps_back : PastState → ℕ
steps_back p = if p.is_kept then steps_of_acts p.acts else 0

-- as it was before the step of that number; what came after lies ahead, until something is done
abbrev pub gone_back_to : GdbState → ℕ → GdbState
gone_back_to g step = let p : PastState = past_until step g.debug.past in
    record g {
      debug = record g.debug {
        script = script_at_moment g.debug.script g.setting.config g.setting.budget
            (moment_after_past g.debug.script.images g.setting.config p);
        past = p;
      };
    }

-- A STEP

abbrev pub changed_or : Option WatchedPlace → GdbStop → GdbStop
changed_or (Some place) other = reason.WatchedBack place
changed_or None other = other

-- the step that was gone back over may have changed a byte of a watch
abbrev pub stepped_back : GdbState → GdbState → GdbAnswered
stepped_back g now = gdb_stop_shown now [] (changed_or (first_changed now.debug.script.machine.store.bytes
    (watched_bytes g.debug.script.machine.store.bytes g.watches)) (stop_here now))

abbrev pub step_back_from : GdbState → ℕ → GdbAnswered
step_back_from g zero = gdb_stop_shown g [] reason.Begin
step_back_from g (suc step) = stepped_back g (gone_back_to g step)

-- Where a watch is struck GDB takes a step itself before it looks at the bytes, in the direction in which it goes.
-- Here that step is gone back over already, and the request moves nothing.
abbrev pub step_back_after : GdbStop → GdbState → GdbAnswered
step_back_after (reason.WatchedBack place) g = gdb_stop_shown g [] (stop_here g)
step_back_after other g = step_back_from g (steps_back g.debug.past)

-- `bs`
abbrev pub step_back_shown : GdbState → GdbAnswered
step_back_shown g = step_back_after g.stop g

-- AS FAR AS SOMETHING STOPS IT

-- what it may end at: the changes of all watched bytes, and all breaks
abbrev pub back_goals : GdbState → List BackGoal
back_goals g = all_goals (watched_bytes g.debug.script.machine.store.bytes g.watches) g.breaks

abbrev pub sought_of : BackGoal → Sought
sought_of (goal.Byte place) = sought.Byte place.address
sought_of (goal.Break address) = sought.Stood address

abbrev pub end_found : BackGoal → Option PastFound → Option BackEnd
end_found x None = None
end_found x (Some f) = Some (goal_end x f.step f.is_step)

-- A goal is looked for in a piece of the past, the last that is left.
abbrev pub found_among : GdbState → BackGoal → ActRange → Option PastFound
found_among g x piece = last_among g.debug.script.images g.setting.config g.debug.past.acts (sought_of x)
    piece.from piece.until

abbrev pub search_further : GdbState → BackSearch → BackGoal → BackSearch
search_further g b x = let piece = piece_before b.until (length g.debug.past.acts) in
    search_after b piece.from (length g.debug.past.acts) (end_found x (found_among g x piece))

-- After each piece the other side is asked whether the user wants the search to stop. Once all goals were looked
-- for, the machine goes back to the end of them that is met first on the way.
abbrev pub back_to_end : GdbState → BackEnd → GdbAnswered
back_to_end g end = gdb_stop_shown (gone_back_to g end.step) [] end.why

abbrev pub search_by : GdbState → BackSearch → List BackGoal → GdbAnswered
search_by g b [] = back_to_end g b.end
search_by g b (x ∷ others) = asking g (under.Search (search_further g b x)) []

abbrev pub search_shown : GdbState → BackSearch → GdbAnswered
search_shown g b = search_by g b (drop b.goal (back_goals g))

abbrev pub continue_back_from : GdbState → ℕ → GdbAnswered
continue_back_from g zero = gdb_stop_shown g [] reason.Begin
continue_back_from g (suc step) = search_shown g (search_begin (length g.debug.past.acts))

-- `bc`; of other modules GDB is told first, and it goes on by itself
abbrev pub continue_back_shown : GdbState → GdbAnswered
continue_back_shown g =
    if is_other_list g.libraries g.debug.script then gdb_stop_shown g [] reason.Library
    else continue_back_from g (steps_back g.debug.past)

-- WHERE IT ENDS

-- where a watched byte has changed last, or the program stood at a break last, or else the beginning
abbrev pub end_of_goal : GdbState → BackGoal → BackEnd
end_of_goal g x = unwrap_or (end_found x (last_in_past g.setting.config g.debug.script g.debug.past (sought_of x)))
    the_begin

-- of all these the one that is met first on the way
abbrev pub back_end : GdbState → BackEnd
back_end g = first_met the_begin (map (end_of_goal g) (back_goals g))
