-- By the lemmas that are named.
use Rattle.std.proofs.Common.{Option, sym, ap, ◌∙◌}
use Rattle.std.specs.Option.{option_map}
use Rattle.profile.specs.Firsts.{first_of}
use Rattle.law_machine.specs.Value.{MachineValue}
use Rattle.debug_tables.specs.MachineState.{stop_of}
use Rattle.debug_tables.specs.GuestState.{state_of}
use Rattle.debug_tables.specs.Session.{script_state}
use Rattle.debug_runs.specs.Runs.{end_after, is_reached, watched_end}
use Rattle.debug_tables.specs.WordWatches.{change_of_word}
use Rattle.debug_tables.specs.WatchHit.{WatchHit}
use Rattle.debug_runs.proofs.RunLemmas.{end_halted, end_reached, end_watched, hits}
use Rattle.debug_runs.proofs.running.end_after.Goals as goal

pub returns-in-Some : goal.returns-in-Some
unfolding end_after
returns-in-Some c images before watches words =
    let s = script_state c.args.session.now images in
    let stopped = c.stop.ensures.halt ∙ ap (λ (m : MachineValue). option_map stop_of (state_of m.guest).halt) c.machine-machine.ensures in
    end_halted watches c.args.goal before s s.machine.halt c.in-Some.stop (sym c.in-Some.is ∙ stopped)

pub returns-then-is_reached : goal.returns-then-is_reached
unfolding end_after
returns-then-is_reached c images before watches words =
    let s = script_state c.args.session.now images in
    let stopped = c.stop.ensures.halt ∙ ap (λ (m : MachineValue). option_map stop_of (state_of m.guest).halt) c.machine-machine.ensures in
    end_reached watches c.args.goal before s s.machine.halt (sym c.in_default.is ∙ stopped)
    (ap (λ (m : MachineValue). is_reached c.args.goal (state_of m.guest)) (sym c.machine-machine.ensures) ∙ (sym c.is_reached.ensures ∙ c.if-is_reached.true))

pub returns-else-is_reached : goal.returns-else-is_reached
unfolding end_after
returns-else-is_reached c images before watches words =
    let s = script_state c.args.session.now images in
    let stopped = c.stop.ensures.halt ∙ ap (λ (m : MachineValue). option_map stop_of (state_of m.guest).halt) c.machine-machine.ensures in
    let bytes = c.memory.ensures.bytes ∙ ap (λ (m : MachineValue). (state_of m.guest).store.bytes) c.machine-machine.ensures in
    let hit = c.first_change.ensures ∙ (λ i. first_of (change_of_word (bytes i)) (words i)) ∙ hits watches before.machine.store.bytes s.machine.store.bytes in
    c.watched_end.ensures images ∙ ap (λ (h : Option WatchHit). watched_end h s) hit
    ∙ end_watched watches c.args.goal before s s.machine.halt (sym c.in_default.is ∙ stopped)
    (ap (λ (m : MachineValue). is_reached c.args.goal (state_of m.guest)) (sym c.machine-machine.ensures) ∙ (sym c.is_reached.ensures ∙ c.if-is_reached.false))
