-- By the lemmas that are named.
use Rattle.std.proofs.Common.{◌≡◌, true, sym, ap, subst, ◌∙◌}
use Rattle.debug_tables.specs.Session.{script_state}
use Rattle.debug_tables.specs.State.{ScriptState}
use Rattle.debug_runs.specs.Silent.{stay_open}
use Rattle.debug_runs.specs.declared.running.RunGoal.{RunGoal}
use Rattle.debug_runs.proofs.SilentLemmas.{GoesOnAfter, frames_run, none_unseen, nowhere_run, routine_run}
use Rattle.debug_runs.proofs.silent.take_silently.Goals as goal

pub returns-in-Nowhere-clause-rest : goal.returns-in-Nowhere-clause-rest
returns-in-Nowhere-clause-rest c images modes labels reported unseen =
    let s = script_state c.args.session.now images in
    let now = script_state c.take_silent_steps.new.self images in
    let n = c.take_silent_steps.result.taken in
    subst (λ (g : RunGoal). GoesOnAfter labels g reported c.args.most n s now modes) (sym c.in-Nowhere.is)
    (nowhere_run modes labels reported c.args.most n s now c.take_silent_steps.result.stop unseen c.take_silent_steps.ensures.count c.requires.unhalted
    (c.take_silent_steps.ensures.taken images))

pub returns-in-Nowhere-clause-left : goal.returns-in-Nowhere-clause-left
returns-in-Nowhere-clause-left c images =
    let after = c.take_silent_steps.ensures.taken images in ap (λ (w : ScriptState). w.left) after.state

pub returns-in-Routine-clause-rest : goal.returns-in-Routine-clause-rest
returns-in-Routine-clause-rest c images modes labels reported unseen =
    let s = script_state c.args.session.now images in
    let now = script_state c.take_up_to.new.session images in
    subst (λ (g : RunGoal). GoesOnAfter labels g reported c.args.most c.take_up_to.result s now modes) (sym c.in-Routine.is)
    (routine_run modes labels c.in-Routine.field-0 reported c.args.most c.take_up_to.result s now unseen c.take_up_to.ensures.count c.requires.unhalted
    (c.take_up_to.ensures.taken images))

pub returns-in-Routine-clause-left : goal.returns-in-Routine-clause-left
returns-in-Routine-clause-left c images =
    let after = c.take_up_to.ensures.taken images in ap (λ (w : ScriptState). w.left) after.state

pub returns-then-stay_open-clause-rest : goal.returns-then-stay_open-clause-rest
returns-then-stay_open-clause-rest c images modes labels reported unseen =
    let s = script_state c.args.session.now images in
    let now = script_state c.take_up_to-then-stay_open.new.session images in
    let n = c.take_up_to-then-stay_open.result in
    let stays : stay_open c.in-Frames.count s.machine ≡ true = sym (c.stay_open.ensures images) ∙ c.if-stay_open.true in
    subst (λ (g : RunGoal). GoesOnAfter labels g reported c.args.most n s now modes) (sym c.in-Frames.is)
    (frames_run modes labels c.in-Frames.count reported c.args.most n s now unseen c.take_up_to-then-stay_open.ensures.count c.requires.unhalted stays
    (c.take_up_to-then-stay_open.ensures.taken images))

pub returns-then-stay_open-clause-left : goal.returns-then-stay_open-clause-left
returns-then-stay_open-clause-left c images =
    let after = c.take_up_to-then-stay_open.ensures.taken images in ap (λ (w : ScriptState). w.left) after.state

pub returns-else-stay_open-clause-rest : goal.returns-else-stay_open-clause-rest
returns-else-stay_open-clause-rest c images modes labels reported unseen =
    none_unseen modes labels c.args.goal reported c.args.most (script_state c.args.session.now images)
