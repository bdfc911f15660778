use Rattle.std.proofs.Common.{◌≡◌, ℕ, Err, subst}
use Rattle.instances.specs.Areas.{area_in}
use Rattle.swi_dispatch_plans.proofs.StoreLemmas.AreaAnswers.{unknown_error}
use Rattle.swi_dispatch_plans.proofs.StoreLemmas.AreasKept.{changed_kept}
use Rattle.swi_dispatch_plans.proofs.StoreLemmas.Leaving.{leaves_memory}
use Rattle.swi_dispatch_plans.proofs.store.areas.change_area.Goals as goal

pub returns-in-Err-clause-error : goal.returns-in-Err-clause-error
returns-in-Err-clause-error c =
    unknown_error _ _ _ _ _ _ (subst (λ (n : ℕ). area_in c.args.areas.now.areas n ≡ Err c.in-Err.error) c.register-number.ensures c.in-Err.ensures)

pub returns-in-Err-clause-leaves : goal.returns-in-Err-clause-leaves
returns-in-Err-clause-leaves c = leaves_memory _ _ c.requires.state

pub returns-clause-leaves : goal.returns-clause-leaves
returns-clause-leaves c =
    let did = c.change-changed.ensures in
    let kept = changed_kept _ _ _ _ _ _ _ c.requires.state.area_store did.kept.area_store did.answer did.store in
    record { area_store = did.kept.area_store; classes = did.kept.classes; others = kept.others; flex = kept.flex; sizes = did.kept.sizes }
