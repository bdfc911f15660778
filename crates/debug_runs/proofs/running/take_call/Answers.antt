-- By the lemmas that are named.
use Rattle.std.proofs.Common.{◌≡◌, ◌-◌, None, Some, sym, ap, refl, ◌∙◌}
use Rattle.law_machine.specs.Value.{MachineValue}
use Rattle.debug_tables.specs.GuestState.{state_of}
use Rattle.debug_tables.specs.Calls.{first_step}
use Rattle.debug_tables.specs.Session.{script_state}
use Rattle.debug_runs.specs.Calls.{outside_text}
use Rattle.debug_runs.specs.Runs.{end_after}
use Rattle.debug_tables.specs.WordWatches.{watched_words}
use Rattle.debug_runs.specs.Places.{places_of_call, places_of_run}
use Rattle.debug_runs.proofs.PlaceLemmas.{counts_none_of_call, counts_same, places_behind_call}
use Rattle.debug_runs.proofs.RunLemmas.{call_goes_on, call_stops, enough_left}
use Rattle.debug_runs.proofs.running.take_call.Goals as goal

pub returns-in-Some-clause-ran : goal.returns-in-Some-clause-ran
returns-in-Some-clause-ran c =
    let images = c.args.context.now.images.now in
    let modes = c.args.context.now.modes.now in
    let labels = c.args.context.now.labels.now in
    let s = script_state c.args.session.now images in
    let next = script_state c.begin.new.session images in
    let o = first_step s c.args.call in
    let words = c.as_slice.ensures.value ∙ (c.words-words.ensures
    ∙ ap (watched_words modes.watches) (c.memory.ensures.bytes ∙ ap (λ (m : MachineValue). (state_of m.guest).store.bytes) c.machine.ensures)) in
    let over : end_after modes.watches c.args.goal s next ≡ Some c.in-Some.end = sym (c.end_after.ensures images s modes.watches words) ∙ c.in-Some.is in
    call_stops c.args.writer.now c.begin.new.self modes labels c.args.goal c.args.most s next (outside_text c.args.call s.machine o) o c.in-Some.end
    c.in_ok-begin.ensures.state c.in_ok-begin.ensures.reported over

pub returns-in-None-clause-ran : goal.returns-in-None-clause-ran
returns-in-None-clause-ran c =
    let images = c.args.context.now.images.now in
    let modes = c.args.context.now.modes.now in
    let labels = c.args.context.now.labels.now in
    let s = script_state c.args.session.now images in
    let next = script_state c.begin.new.session images in
    let o = first_step s c.args.call in
    let words = c.as_slice.ensures.value ∙ (c.words-words.ensures
    ∙ ap (watched_words modes.watches) (c.memory.ensures.bytes ∙ ap (λ (m : MachineValue). (state_of m.guest).store.bytes) c.machine.ensures)) in
    let none : end_after modes.watches c.args.goal s next ≡ None = sym (c.end_after.ensures images s modes.watches words) ∙ c.in-None.is in
    call_goes_on c.run_steps.result c.args.writer.now c.begin.new.self c.run_steps.new.writer modes labels c.args.goal c.args.most _
    s next (script_state c.run_steps.new.session images) (outside_text c.args.call s.machine o) o
    c.in_ok-begin.ensures.state c.in_ok-begin.ensures.reported c.in_ok-begin.ensures.one_answer refl none c.run_steps.ensures.ran

pub run_steps-requires : goal.run_steps-requires
run_steps-requires c =
    let images = c.args.context.now.images.now in
    let s = script_state c.args.session.now images in
    enough_left c.args.most s (script_state c.begin.new.session images) (first_step s c.args.call) c.requires.enough c.in_ok-begin.ensures.state

pub returns-in-Some-clause-counted : goal.returns-in-Some-clause-counted
returns-in-Some-clause-counted c =
    let images = c.args.context.now.images.now in
    let modes = c.args.context.now.modes.now in
    let s = script_state c.args.session.now images in
    let next = script_state c.begin.new.session images in
    let o = first_step s c.args.call in
    let words = c.as_slice.ensures.value ∙ (c.words-words.ensures
    ∙ ap (watched_words modes.watches) (c.memory.ensures.bytes ∙ ap (λ (m : MachineValue). (state_of m.guest).store.bytes) c.machine.ensures)) in
    let over : end_after modes.watches c.args.goal s next ≡ Some c.in-Some.end = sym (c.end_after.ensures images s modes.watches words) ∙ c.in-Some.is in
    counts_none_of_call modes c.args.goal c.args.most s next o c.args.counts.now c.in-Some.end c.in_ok-begin.ensures.state over

pub returns-in-None-clause-counted : goal.returns-in-None-clause-counted
returns-in-None-clause-counted c =
    let images = c.args.context.now.images.now in
    let modes = c.args.context.now.modes.now in
    let s = script_state c.args.session.now images in
    let next = script_state c.begin.new.session images in
    let o = first_step s c.args.call in
    let words = c.as_slice.ensures.value ∙ (c.words-words.ensures
    ∙ ap (watched_words modes.watches) (c.memory.ensures.bytes ∙ ap (λ (m : MachineValue). (state_of m.guest).store.bytes) c.machine.ensures)) in
    let none : end_after modes.watches c.args.goal s next ≡ None = sym (c.end_after.ensures images s modes.watches words) ∙ c.in-None.is in
    counts_same c.run_steps.result (places_of_run modes c.args.goal (c.args.most - 1) next) (places_of_call modes c.args.goal c.args.most s o)
    c.args.counts.now c.run_steps.new.counts
    (places_behind_call modes c.args.goal c.args.most s next o c.in_ok-begin.ensures.state none) c.run_steps.ensures.counted
