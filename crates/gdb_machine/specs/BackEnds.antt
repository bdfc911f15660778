-- Where going back ends: of all places at which it may end the one that is met first on the way; and how far a
-- search for it is.
use Rattle.std.specs.Prelude.{◌≡◌, ℕ, zero, suc, ◌+◌, ◌-◌, min, Bool, false, ◌==◌, ◌&&◌, ◌||◌, nat_lt, List, [], ◌∷◌, ◌++◌, map, Option, Some, None, if◌then◌else◌}
use Rattle.std.specs.List.{All}
use Rattle.profile.specs.declared.stop.Stop.TheVariants as stop
use Rattle.gdb_machine.specs.declared.back_ends.ActRange.{ActRange}
use Rattle.gdb_machine.specs.declared.back_ends.BackEnd.{BackEnd}
use Rattle.gdb_machine.specs.declared.back_ends.BackGoal.{BackGoal}
use Rattle.gdb_machine.specs.declared.back_ends.BackGoal.TheVariants as goal
use Rattle.gdb_machine.specs.declared.back_ends.BackSearch.{BackSearch}
use Rattle.gdb_machine.specs.declared.stops.GdbStop.{GdbStop}
use Rattle.gdb_machine.specs.declared.stops.GdbStop.TheVariants as reason
use Rattle.gdb_machine.specs.declared.watches.SeenByte.{SeenByte}
use Rattle.gdb_machine.specs.declared.watches.WatchedPlace.{WatchedPlace}

-- as far back as the past is known
abbrev pub the_begin : BackEnd
the_begin = record { step = 0; why = reason.Begin }

-- What is met at one number of steps: first the change that the step which begins there made, then a break, then
-- what was done from outside.
abbrev pub turn_of : GdbStop → ℕ
turn_of (reason.WatchedBack place) = 2
turn_of (reason.Ran x) = 1
turn_of reason.Stepped = 0
turn_of reason.Asked = 0
turn_of (reason.Watched place) = 0
turn_of reason.Library = 0
turn_of (reason.Killed f) = 0
turn_of reason.Begin = 0
turn_of reason.End = 0

abbrev pub is_met_before : BackEnd → BackEnd → Bool
is_met_before a b = nat_lt b.step a.step || (a.step == b.step && nat_lt (turn_of b.why) (turn_of a.why))

abbrev pub met_first : BackEnd → BackEnd → BackEnd
met_first a b = if is_met_before b a then b else a

-- of one and some others
unfoldable pub first_met : BackEnd → List BackEnd → BackEnd
first_met end [] = end
first_met end (other ∷ others) = first_met (met_first end other) others

-- where a watched byte has changed last: by the step that begins there, or from outside
abbrev pub changed_end : ℕ → Bool → WatchedPlace → BackEnd
changed_end step is_step place =
    record { step = step; why = if is_step then reason.WatchedBack place else reason.Begin }

-- where the program stood at a break last
abbrev pub stood_end : ℕ → ℕ → BackEnd
stood_end step address = record { step = step; why = reason.Ran (stop.Break address) }

-- None of them is met before the one that is met first.
abbrev pub FirstIsMetFirst : Type 0
FirstIsMetFirst = (end : BackEnd) (others : List BackEnd)
    → All (λ other. is_met_before other (first_met end others) ≡ false) (end ∷ others)

-- THE SEARCH

-- what going back may end at: a change of a watched byte, or a break
abbrev pub byte_goal : SeenByte → BackGoal
byte_goal byte = goal.Byte byte.place

abbrev pub all_goals : List SeenByte → List ℕ → List BackGoal
all_goals bytes breaks = map byte_goal bytes ++ map goal.Break breaks

-- of a goal that was met by a step before which so many were counted, or by what was done from outside there
abbrev pub goal_end : BackGoal → ℕ → Bool → BackEnd
goal_end (goal.Byte place) step is_step = changed_end step is_step place
goal_end (goal.Break address) step is_step = stood_end step address

-- The piece of a past of so many acts that is looked among next where so many are left: the last of those that are
-- left, ten more than were looked among already.
abbrev pub piece_before : ℕ → ℕ → ActRange
piece_before left acts = let until = min left acts in
    record { from = (until - (acts - until)) - 10; until = until }

-- before the first goal
abbrev pub search_begin : ℕ → BackSearch
search_begin acts = record { goal = 0; until = acts; end = the_begin }

-- The next goal is looked for among all acts.
abbrev pub at_next_goal : BackSearch → ℕ → BackEnd → BackSearch
at_next_goal b acts end = record { goal = b.goal + 1; until = acts; end = end }

-- A goal is looked for until it is found, or no act is left.
abbrev pub search_after : BackSearch → ℕ → ℕ → Option BackEnd → BackSearch
search_after b from acts (Some end) = at_next_goal b acts (met_first b.end end)
search_after b zero acts None = at_next_goal b acts b.end
search_after b (suc from) acts None = record b { until = suc from }
