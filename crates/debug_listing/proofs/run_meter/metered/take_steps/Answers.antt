use Rattle.std.proofs.Common.{◌≡◌, ◌∙◌, ◌<◌, ℕ, ap, refl, subst, arith}
use Rattle.std.specs.Prelude.{min}
use Rattle.profile.specs.declared.stop.Stop.TheVariants as stop
use Rattle.debug_tables.specs.Session.{script_state}
use Rattle.debug_tables.specs.Stepping.{IsAfterRun, script_run}
use Rattle.debug_listing.proofs.RunMeterLemmas.SliceLemmas.{last_slice, next_slice, rest_slice}
use Rattle.debug_listing.proofs.run_meter.metered.take_steps.Goals as goal

pub loop-left-preserved : goal.loop-left-preserved
loop-left-preserved g c =
    let images = c.args.images.now in
    let more = c.loop-left-test.true in
    let fewer = c.loop-left.invariant.fewer in
    let budget : c.in_ok-ran.ran.stop ≡ stop.Budget = c.if-not-is_used_up.ensures.0 refl in
    record {
      slice = next_slice (script_state c.args.session.now images) (script_state c.loop-left.session images)
          (script_state c.take_steps.new.self images) c.min-most.result c.loop-left.left 20000000 _
          (g.W.Sink.contents c.args.sink.now) (g.W.Sink.contents c.loop-left.sink) (g.W.Sink.contents c.take_steps.new.sink)
          c.in_ok-ran.ran.stop c.loop-left.invariant.slice more c.in_ok-ran.ensures.ran budget;
      fewer = omega (arith, fewer);
      flag = c.in_ok-ran.ensures.same_flag ∙ c.loop-left.invariant.flag;
    }

pub returns-then-not-is_used_up-clause-ran : goal.returns-then-not-is_used_up-clause-ran
returns-then-not-is_used_up-clause-ran g c =
    let images = c.args.images.now in
    let s = script_state c.args.session.now images in
    let more = c.loop-left-test.true in
    let some : 0 < 20000000 = omega arith in
    subst (λ (n : ℕ). IsAfterRun s n (script_state c.take_steps.new.self images) (g.W.Sink.contents c.args.sink.now)
    (g.W.Sink.contents c.take_steps.new.sink) (script_run s n).taken c.in_ok-ran.ran.stop)
    (c.min-most.ensures ∙ ap (min c.args.count) (c.left.ensures images))
    (last_slice s (script_state c.loop-left.session images) (script_state c.take_steps.new.self images) c.min-most.result
    c.loop-left.left 20000000 _ (g.W.Sink.contents c.args.sink.now) (g.W.Sink.contents c.loop-left.sink)
    (g.W.Sink.contents c.take_steps.new.sink) c.in_ok-ran.ran.stop c.loop-left.invariant.slice some more
    (λ e. let used = c.if-not-is_used_up.ensures.1 e in absurd (cc)) c.in_ok-ran.ensures.ran)

pub returns-then-left-most-clause-ran : goal.returns-then-left-most-clause-ran
returns-then-left-most-clause-ran g c =
    let images = c.args.images.now in
    let s = script_state c.args.session.now images in
    subst (λ (n : ℕ). IsAfterRun s n (script_state c.take_steps-2.new.self images) (g.W.Sink.contents c.args.sink.now)
    (g.W.Sink.contents c.take_steps-2.new.sink) (script_run s n).taken c.in_ok-ran-2.ran.stop)
    (c.min-most.ensures ∙ ap (min c.args.count) (c.left.ensures images))
    (rest_slice s (script_state c.loop-left.session images) (script_state c.take_steps-2.new.self images) c.min-most.result
    c.loop-left.left _ (g.W.Sink.contents c.args.sink.now) (g.W.Sink.contents c.loop-left.sink)
    (g.W.Sink.contents c.take_steps-2.new.sink) c.in_ok-ran-2.ran.stop c.loop-left.invariant.slice c.in_ok-ran-2.ensures.ran)

pub returns-else-left-most-clause-ran : goal.returns-else-left-most-clause-ran
returns-else-left-most-clause-ran g c =
    let images = c.args.images.now in
    let s = script_state c.args.session.now images in
    subst (λ (n : ℕ). IsAfterRun s n (script_state c.take_steps-2.new.self images) (g.W.Sink.contents c.args.sink.now)
    (g.W.Sink.contents c.take_steps-2.new.sink) (script_run s n).taken c.in_ok-ran-2.ran.stop)
    (c.min-most.ensures ∙ ap (min c.args.count) (c.left.ensures images))
    (rest_slice s (script_state c.loop-left.session images) (script_state c.take_steps-2.new.self images) c.min-most.result
    c.loop-left.left _ (g.W.Sink.contents c.args.sink.now) (g.W.Sink.contents c.loop-left.sink)
    (g.W.Sink.contents c.take_steps-2.new.sink) c.in_ok-ran-2.ran.stop c.loop-left.invariant.slice c.in_ok-ran-2.ensures.ran)
