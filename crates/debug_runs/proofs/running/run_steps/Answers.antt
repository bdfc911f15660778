-- By the lemmas that are named.
use Rattle.std.proofs.Common.{◌≡◌, ◌<◌, ◌-◌, None, Some, sym, ap, ◌∙◌, arith}
use Rattle.arm_core.specs.State.{State}
use Rattle.law_machine.specs.Value.{MachineValue}
use Rattle.debug_tables.specs.GuestState.{state_of}
use Rattle.debug_tables.specs.Session.{script_state}
use Rattle.debug_runs.specs.Runs.{end_after, next_step, steps_run}
use Rattle.debug_tables.specs.WordWatches.{watched_words}
use Rattle.debug_tables.specs.counts.Counts.{step_counted}
use Rattle.debug_runs.proofs.BlockRunLemmas.{counted_rest, counted_end, enough_behind}
use Rattle.debug_runs.proofs.PlaceLemmas.{counts_on, counts_rest, counts_stop}
use Rattle.debug_runs.proofs.SilentLemmas.{goes_on_unhalted, unseen_goes_on, unseen_stops}
use Rattle.debug_runs.proofs.RunLemmas.{enough_left, goes_on, runs_out, stops}
use Rattle.debug_runs.proofs.running.run_steps.Goals as goal

pub loop-left-preserved : goal.loop-left-preserved
loop-left-preserved c =
    let images = c.args.context.now.images.now in
    let modes = c.args.context.now.modes.now in
    let labels = c.args.context.now.labels.now in
    let s = script_state c.loop-left.session images in
    let next = script_state c.step.new.session images in
    let all = steps_run modes labels c.args.goal c.args.most c.args.writer.now.reported (script_state c.args.session.now images) in
    let some : 0 < c.loop-left.left = omega arith in
    let words = c.as_slice.ensures.value ∙ (c.words-words.ensures
    ∙ ap (watched_words modes.watches) (c.memory.ensures.bytes ∙ ap (λ (m : MachineValue). (state_of m.guest).store.bytes) c.machine.ensures)) in
    let place = c.in_ok-count_at.ensures
    ∙ ap (step_counted c.loop-left.counts) (c.pc-place.ensures.value ∙ (ap (λ (t : State). t.pc) c.cpu.ensures ∙ ap (λ (m : MachineValue). (state_of m.guest).cpu.pc) c.machine-in-loop-left.ensures)) in
    let none : end_after modes.watches c.args.goal s next ≡ None = sym (c.end_after.ensures images s modes.watches words) ∙ c.in_default.is in
    let behind = c.in_ok-taken.ensures in
    let enough = enough_left c.loop-left.left s next (next_step modes s) c.loop-left.invariant.enough c.in_ok-step.ensures.state in
    record {
      rest = unseen_goes_on c.args.writer.now c.step.new.self modes labels c.args.goal _ _ next _ all _
          (goes_on c.args.writer.now c.loop-left.writer c.step.new.self modes labels c.args.goal c.loop-left.left s next all
          c.loop-left.invariant.rest some c.in_ok-step.ensures.state c.in_ok-step.ensures.reported c.in_ok-step.ensures.one_answer none)
          behind.rest c.in_default-end.is;
      enough = enough_behind _ _ _ _ _ _ _ _ _ _ _ behind enough;
      counted = counted_rest _ _ _ _ _ _ _ _ _ _ _ behind c.in_default-end.is
          ∙ ((counts_on modes c.args.goal c.loop-left.left s next c.loop-left.counts c.count_at.new.counts some c.in_ok-step.ensures.state none place)
          ∙ c.loop-left.invariant.counted);
    }

pub take_unseen-requires-clause-unhalted : goal.take_unseen-requires-clause-unhalted
take_unseen-requires-clause-unhalted c =
    let images = c.args.context.now.images.now in
    let modes = c.args.context.now.modes.now in
    let labels = c.args.context.now.labels.now in
    let s = script_state c.loop-left.session images in
    let next = script_state c.step.new.session images in
    let all = steps_run modes labels c.args.goal c.args.most c.args.writer.now.reported (script_state c.args.session.now images) in
    let some : 0 < c.loop-left.left = omega arith in
    let words = c.as_slice.ensures.value ∙ (c.words-words.ensures
    ∙ ap (watched_words modes.watches) (c.memory.ensures.bytes ∙ ap (λ (m : MachineValue). (state_of m.guest).store.bytes) c.machine.ensures)) in
    let none : end_after modes.watches c.args.goal s next ≡ None = sym (c.end_after.ensures images s modes.watches words) ∙ c.in_default.is in
    goes_on_unhalted modes.watches c.args.goal s next none

pub take_unseen-requires-clause-enough : goal.take_unseen-requires-clause-enough
take_unseen-requires-clause-enough c =
    let images = c.args.context.now.images.now in
    let modes = c.args.context.now.modes.now in
    let s = script_state c.loop-left.session images in
    enough_left c.loop-left.left s (script_state c.step.new.session images) (next_step modes s) c.loop-left.invariant.enough c.in_ok-step.ensures.state

pub returns-in-Some-end-clause-ran : goal.returns-in-Some-end-clause-ran
returns-in-Some-end-clause-ran c =
    let images = c.args.context.now.images.now in
    let modes = c.args.context.now.modes.now in
    let labels = c.args.context.now.labels.now in
    let s = script_state c.loop-left.session images in
    let next = script_state c.step.new.session images in
    let all = steps_run modes labels c.args.goal c.args.most c.args.writer.now.reported (script_state c.args.session.now images) in
    let some : 0 < c.loop-left.left = omega arith in
    let words = c.as_slice.ensures.value ∙ (c.words-words.ensures
    ∙ ap (watched_words modes.watches) (c.memory.ensures.bytes ∙ ap (λ (m : MachineValue). (state_of m.guest).store.bytes) c.machine.ensures)) in
    let none : end_after modes.watches c.args.goal s next ≡ None = sym (c.end_after.ensures images s modes.watches words) ∙ c.in_default.is in
    let behind = c.in_ok-taken.ensures in
    unseen_stops c.args.writer.now c.step.new.self modes labels c.args.goal _ _ next _ all _ c.in-Some-end.end
    (goes_on c.args.writer.now c.loop-left.writer c.step.new.self modes labels c.args.goal c.loop-left.left s next all
    c.loop-left.invariant.rest some c.in_ok-step.ensures.state c.in_ok-step.ensures.reported c.in_ok-step.ensures.one_answer none)
    behind.rest c.in-Some-end.is

pub returns-in-Some-end-clause-counted : goal.returns-in-Some-end-clause-counted
returns-in-Some-end-clause-counted c =
    let images = c.args.context.now.images.now in
    let modes = c.args.context.now.modes.now in
    let labels = c.args.context.now.labels.now in
    let s = script_state c.loop-left.session images in
    let next = script_state c.step.new.session images in
    let all = steps_run modes labels c.args.goal c.args.most c.args.writer.now.reported (script_state c.args.session.now images) in
    let some : 0 < c.loop-left.left = omega arith in
    let words = c.as_slice.ensures.value ∙ (c.words-words.ensures
    ∙ ap (watched_words modes.watches) (c.memory.ensures.bytes ∙ ap (λ (m : MachineValue). (state_of m.guest).store.bytes) c.machine.ensures)) in
    let place = c.in_ok-count_at.ensures
    ∙ ap (step_counted c.loop-left.counts) (c.pc-place.ensures.value ∙ (ap (λ (t : State). t.pc) c.cpu.ensures ∙ ap (λ (m : MachineValue). (state_of m.guest).cpu.pc) c.machine-in-loop-left.ensures)) in
    let none : end_after modes.watches c.args.goal s next ≡ None = sym (c.end_after.ensures images s modes.watches words) ∙ c.in_default.is in
    let behind = c.in_ok-taken.ensures in
    counted_end _ _ _ _ _ _ _ _ _ _ _ _ behind c.in-Some-end.is
    ∙ ((counts_on modes c.args.goal c.loop-left.left s next c.loop-left.counts c.count_at.new.counts some c.in_ok-step.ensures.state none place)
    ∙ c.loop-left.invariant.counted)

pub returns-in-Some-clause-ran : goal.returns-in-Some-clause-ran
returns-in-Some-clause-ran c =
    let images = c.args.context.now.images.now in
    let modes = c.args.context.now.modes.now in
    let labels = c.args.context.now.labels.now in
    let s = script_state c.loop-left.session images in
    let next = script_state c.step.new.session images in
    let all = steps_run modes labels c.args.goal c.args.most c.args.writer.now.reported (script_state c.args.session.now images) in
    let some : 0 < c.loop-left.left = omega arith in
    let words = c.as_slice.ensures.value ∙ (c.words-words.ensures
    ∙ ap (watched_words modes.watches) (c.memory.ensures.bytes ∙ ap (λ (m : MachineValue). (state_of m.guest).store.bytes) c.machine.ensures)) in
    let over : end_after modes.watches c.args.goal s next ≡ Some c.in-Some.end = sym (c.end_after.ensures images s modes.watches words) ∙ c.in-Some.is in
    stops c.args.writer.now c.loop-left.writer c.step.new.self modes labels c.args.goal c.loop-left.left s next all c.in-Some.end
    c.loop-left.invariant.rest some c.in_ok-step.ensures.state c.in_ok-step.ensures.reported over

pub returns-in-Some-clause-counted : goal.returns-in-Some-clause-counted
returns-in-Some-clause-counted c =
    let images = c.args.context.now.images.now in
    let modes = c.args.context.now.modes.now in
    let labels = c.args.context.now.labels.now in
    let s = script_state c.loop-left.session images in
    let next = script_state c.step.new.session images in
    let all = steps_run modes labels c.args.goal c.args.most c.args.writer.now.reported (script_state c.args.session.now images) in
    let some : 0 < c.loop-left.left = omega arith in
    let words = c.as_slice.ensures.value ∙ (c.words-words.ensures
    ∙ ap (watched_words modes.watches) (c.memory.ensures.bytes ∙ ap (λ (m : MachineValue). (state_of m.guest).store.bytes) c.machine.ensures)) in
    let place = c.in_ok-count_at.ensures
    ∙ ap (step_counted c.loop-left.counts) (c.pc-place.ensures.value ∙ (ap (λ (t : State). t.pc) c.cpu.ensures ∙ ap (λ (m : MachineValue). (state_of m.guest).cpu.pc) c.machine-in-loop-left.ensures)) in
    let over : end_after modes.watches c.args.goal s next ≡ Some c.in-Some.end = sym (c.end_after.ensures images s modes.watches words) ∙ c.in-Some.is in
    counts_stop modes c.args.goal c.loop-left.left s next c.loop-left.counts c.count_at.new.counts c.in-Some.end some c.in_ok-step.ensures.state over place
    ∙ c.loop-left.invariant.counted

pub returns-clause-ran : goal.returns-clause-ran
returns-clause-ran c =
    let images = c.args.context.now.images.now in
    let modes = c.args.context.now.modes.now in
    let labels = c.args.context.now.labels.now in
    let all = steps_run modes labels c.args.goal c.args.most c.args.writer.now.reported (script_state c.args.session.now images) in
    let none : c.loop-left.left ≡ 0 = omega arith in
    runs_out c.args.writer.now c.loop-left.writer modes labels c.args.goal c.loop-left.left (script_state c.loop-left.session images) all
    c.loop-left.invariant.rest none

pub returns-clause-counted : goal.returns-clause-counted
returns-clause-counted c =
    let images = c.args.context.now.images.now in
    let modes = c.args.context.now.modes.now in
    let none : c.loop-left.left ≡ 0 = omega arith in
    counts_rest modes c.args.goal c.loop-left.left (script_state c.loop-left.session images) c.loop-left.counts none
    ∙ c.loop-left.invariant.counted
