-- By the lemmas that are named.
use Rattle.std.proofs.Common.{◌≡◌, ◌<◌, ◌-◌, ◌^◌, None, Some, sym, ap, ◌∙◌, arith}
use Rattle.arm_core.specs.State.{State}
use Rattle.law_machine.specs.Value.{MachineValue}
use Rattle.debug_tables.specs.GuestState.{state_of}
use Rattle.debug_tables.specs.Session.{script_state}
use Rattle.debug_runs.specs.LastSteps.{text_of_step}
use Rattle.debug_runs.specs.Runs.{end_after, next_step, steps_run}
use Rattle.debug_runs.specs.declared.running.RunGoal.TheVariants.{Nowhere}
use Rattle.debug_tables.specs.WordWatches.{watched_words}
use Rattle.debug_tables.specs.counts.Counts.{step_counted}
use Rattle.profile.specs.text_sink.TextSink.{sink_text_of}
use Rattle.debug_runs.proofs.LastLemmas.{fewer_before, last_on, last_rest, last_stop, untold_goes_on, untold_runs_out, untold_stops}
use Rattle.debug_runs.proofs.PlaceLemmas.{counts_on, counts_rest, counts_stop}
use Rattle.debug_runs.proofs.RunLemmas.{enough_left}
use Rattle.debug_runs.proofs.last.take_last.Goals as goal

pub loop-left-preserved : goal.loop-left-preserved
loop-left-preserved c =
    let images = c.args.context.now.images.now in
    let modes = c.args.context.now.modes.now in
    let labels = c.args.context.now.labels.now in
    let s = script_state c.loop-left.session images in
    let next = script_state c.take_one.new.session images in
    let all = steps_run modes labels Nowhere c.args.most None (script_state c.args.session.now images) in
    let some : 0 < c.loop-left.left = omega arith in
    let made = c.in_ok-take_one.ensures.state in
    let words = c.as_slice.ensures.value ∙ (c.words-words.ensures
    ∙ ap (watched_words modes.watches) (c.memory.ensures.bytes ∙ ap (λ (m : MachineValue). (state_of m.guest).store.bytes) c.machine.ensures)) in
    let none : end_after modes.watches Nowhere s next ≡ None = sym (c.end_after.ensures images s modes.watches words) ∙ c.in_default.is in
    record {
      rest = untold_goes_on (sink_text_of c.args.printed.now) (sink_text_of c.loop-left.printed) (sink_text_of c.take_one.new.printed)
          modes labels c.loop-left.left s next all c.loop-left.invariant.rest some made c.in_ok-take_one.ensures.printed none;
      enough = enough_left c.loop-left.left s next (next_step modes s) c.loop-left.invariant.enough made;
      few = fewer_before c.loop-left.last c.take_one.new.last (text_of_step modes labels s) c.loop-left.left (2 ^ 64 - 1)
          c.in_ok-take_one.ensures.last some c.loop-left.invariant.few;
      kept = last_on modes labels c.loop-left.left s next c.loop-left.last c.take_one.new.last some made none c.in_ok-take_one.ensures.last
          ∙ c.loop-left.invariant.kept;
      counted = counts_on modes Nowhere c.loop-left.left s next c.loop-left.counts c.count_at.new.counts some made none
          (c.in_ok-count_at.ensures ∙ ap (step_counted c.loop-left.counts) (c.pc-place.ensures.value ∙ (ap (λ (t : State). t.pc) c.cpu.ensures ∙ ap (λ (m : MachineValue). (state_of m.guest).cpu.pc) c.machine-in-loop-left.ensures)))
          ∙ c.loop-left.invariant.counted;
    }

pub returns-in-Some-clause-ran : goal.returns-in-Some-clause-ran
returns-in-Some-clause-ran c =
    let images = c.args.context.now.images.now in
    let modes = c.args.context.now.modes.now in
    let labels = c.args.context.now.labels.now in
    let s = script_state c.loop-left.session images in
    let next = script_state c.take_one.new.session images in
    let all = steps_run modes labels Nowhere c.args.most None (script_state c.args.session.now images) in
    let some : 0 < c.loop-left.left = omega arith in
    let words = c.as_slice.ensures.value ∙ (c.words-words.ensures
    ∙ ap (watched_words modes.watches) (c.memory.ensures.bytes ∙ ap (λ (m : MachineValue). (state_of m.guest).store.bytes) c.machine.ensures)) in
    let over : end_after modes.watches Nowhere s next ≡ Some c.in-Some.end = sym (c.end_after.ensures images s modes.watches words) ∙ c.in-Some.is in
    untold_stops (sink_text_of c.args.printed.now) (sink_text_of c.loop-left.printed) (sink_text_of c.take_one.new.printed)
    modes labels c.loop-left.left s next all c.in-Some.end c.loop-left.invariant.rest some c.in_ok-take_one.ensures.state
    c.in_ok-take_one.ensures.printed over

pub returns-in-Some-clause-last : goal.returns-in-Some-clause-last
returns-in-Some-clause-last c =
    let images = c.args.context.now.images.now in
    let modes = c.args.context.now.modes.now in
    let labels = c.args.context.now.labels.now in
    let s = script_state c.loop-left.session images in
    let next = script_state c.take_one.new.session images in
    let some : 0 < c.loop-left.left = omega arith in
    let words = c.as_slice.ensures.value ∙ (c.words-words.ensures
    ∙ ap (watched_words modes.watches) (c.memory.ensures.bytes ∙ ap (λ (m : MachineValue). (state_of m.guest).store.bytes) c.machine.ensures)) in
    let over : end_after modes.watches Nowhere s next ≡ Some c.in-Some.end = sym (c.end_after.ensures images s modes.watches words) ∙ c.in-Some.is in
    last_stop modes labels c.loop-left.left s next c.loop-left.last c.take_one.new.last c.in-Some.end some c.in_ok-take_one.ensures.state over
    c.in_ok-take_one.ensures.last
    ∙ c.loop-left.invariant.kept

pub returns-in-Some-clause-counted : goal.returns-in-Some-clause-counted
returns-in-Some-clause-counted c =
    let images = c.args.context.now.images.now in
    let modes = c.args.context.now.modes.now in
    let s = script_state c.loop-left.session images in
    let next = script_state c.take_one.new.session images in
    let some : 0 < c.loop-left.left = omega arith in
    let words = c.as_slice.ensures.value ∙ (c.words-words.ensures
    ∙ ap (watched_words modes.watches) (c.memory.ensures.bytes ∙ ap (λ (m : MachineValue). (state_of m.guest).store.bytes) c.machine.ensures)) in
    let over : end_after modes.watches Nowhere s next ≡ Some c.in-Some.end = sym (c.end_after.ensures images s modes.watches words) ∙ c.in-Some.is in
    counts_stop modes Nowhere c.loop-left.left s next c.loop-left.counts c.count_at.new.counts c.in-Some.end some c.in_ok-take_one.ensures.state over
    (c.in_ok-count_at.ensures ∙ ap (step_counted c.loop-left.counts) (c.pc-place.ensures.value ∙ (ap (λ (t : State). t.pc) c.cpu.ensures ∙ ap (λ (m : MachineValue). (state_of m.guest).cpu.pc) c.machine-in-loop-left.ensures)))
    ∙ c.loop-left.invariant.counted

pub returns-clause-ran : goal.returns-clause-ran
returns-clause-ran c =
    let images = c.args.context.now.images.now in
    let modes = c.args.context.now.modes.now in
    let labels = c.args.context.now.labels.now in
    let all = steps_run modes labels Nowhere c.args.most None (script_state c.args.session.now images) in
    let none : c.loop-left.left ≡ 0 = omega arith in
    untold_runs_out (sink_text_of c.args.printed.now) (sink_text_of c.loop-left.printed) modes labels c.loop-left.left
    (script_state c.loop-left.session images) all c.loop-left.invariant.rest none

pub returns-clause-last : goal.returns-clause-last
returns-clause-last c =
    let images = c.args.context.now.images.now in
    let modes = c.args.context.now.modes.now in
    let labels = c.args.context.now.labels.now in
    let none : c.loop-left.left ≡ 0 = omega arith in
    last_rest modes labels c.loop-left.left (script_state c.loop-left.session images) c.loop-left.last none ∙ c.loop-left.invariant.kept

pub returns-clause-counted : goal.returns-clause-counted
returns-clause-counted c =
    let images = c.args.context.now.images.now in
    let modes = c.args.context.now.modes.now in
    let none : c.loop-left.left ≡ 0 = omega arith in
    counts_rest modes Nowhere c.loop-left.left (script_state c.loop-left.session images) c.loop-left.counts none
    ∙ c.loop-left.invariant.counted
