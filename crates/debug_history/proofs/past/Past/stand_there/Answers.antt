use Rattle.std.proofs.Common.{◌≡◌, List, Option, ap, subst, ◌∙◌}
use Rattle.std.specs.Prelude.{unwrap_or}
use Rattle.profile.specs.declared.stop.Stop.{Stop}
use Rattle.profile.specs.declared.stop.Stop.TheVariants.{Budget}
use Rattle.debug_tables.specs.Session.{script_state}
use Rattle.debug_history.specs.Acts.{fresh_moment, moment_after_acts}
use Rattle.debug_history.specs.Again.{script_at_moment}
use Rattle.debug_history.specs.declared.act.Act.{Act}
use Rattle.debug_history.proofs.AgainLemmas.{back_stands}
use Rattle.debug_history.proofs.past.Past.stand_there.Goals as goal

pub returns-clause-machine : goal.returns-clause-machine
returns-clause-machine c =
    let images = c.args.images.now in
    let after = c.acts_again.new.images in
    let s = script_state c.args.session.now images in
    subst (λ (acts : List Act). script_state c.set_last.new.self after
    ≡ script_at_moment s c.args.config c.args.budget (moment_after_acts images c.args.config acts (fresh_moment c.args.config)))
    c.acts.ensures
    (back_stands s (script_state c.start_anew.new.self images) (script_state c.acts_again.new.session after)
    (script_state c.set_budget.new.self after) (script_state c.set_last.new.self after) c.args.config c.args.budget
    c.acts.result.now c.unwrap_or-last.result (c.in_ok-start_anew.ensures.made images) c.in_ok-acts_again.ensures.moment
    (c.set_budget.ensures after) (c.set_last.ensures after)
    (c.unwrap_or-last.ensures ∙ ap (λ (o : Option Stop). unwrap_or o Budget) (c.last.ensures images)))
