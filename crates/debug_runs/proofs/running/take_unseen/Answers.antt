-- By the lemmas that are named.
use Rattle.std.proofs.Common.{◌≡◌, ◌-◌, ◌==◌, ◌&&◌, [], List, ℕ, true, false, not, Option, length, refl, sym, ap, ◌∙◌}
use Rattle.debug_tables.specs.Session.{script_state}
use Rattle.debug_runs.specs.Runs.{are_unseen, run_unless, steps_run}
use Rattle.debug_runs.specs.declared.running.RunEnd.{RunEnd}
use Rattle.debug_runs.specs.TraceWriter.{is_step_shown}
use Rattle.debug_runs.proofs.BlockRunLemmas.{unseen_behind}
use Rattle.debug_runs.proofs.running.take_unseen.Goals as goal

pub returns : goal.returns
returns c =
    let images = c.args.context.now.images.now in
    let modes = c.args.context.now.modes.now in
    let labels = c.args.context.now.labels.now in
    let reported = c.args.writer.now.reported in
    let s = script_state c.args.session.now images in
    let now = script_state c.take_silently-taken.new.session images in
    let untold : is_step_shown reported ≡ false = sym c.is_step_shown.ensures ∙ c.if-is_step_shown.false in
    let none : modes.watches ≡ [] = c.is_empty.ensures.0 c.if-not-is_empty.false in
    let unseen : are_unseen modes reported ≡ true =
    (λ i. not (untold i) && length modes.watches == 0) ∙ ap (λ (ws : List ℕ). length ws == 0) none in
    unseen_behind modes labels c.args.goal reported c.args.most c.take_silently-taken.result s now c.args.counts.now c.end_of_unseen.result
    (sym c.is_on.ensures ∙ c.if-is_on.false)
    (c.take_silently-taken.ensures.rest images modes labels reported unseen
    ∙ ap (λ (e : Option RunEnd). run_unless now e (steps_run modes labels c.args.goal (c.args.most - c.take_silently-taken.result) reported now))
    (sym (c.end_of_unseen.ensures images)))
    c.take_silently-taken.ensures.count (c.take_silently-taken.ensures.left images)
