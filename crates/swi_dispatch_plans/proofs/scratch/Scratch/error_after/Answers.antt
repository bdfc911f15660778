use Rattle.std.proofs.Common.{sym, subst, ◌∙◌}
use Rattle.os_heap.specs.Store.{store_of}
use Rattle.instances.specs.module_state.ModuleState.{ModuleState}
use Rattle.instances.specs.Turns.{IsUnderWay}
use Rattle.swi_dispatch_plans.proofs.Trials.{copied_classes, copied_module_state, error_at_end, error_in_code, no_error_at_end, tried}
use Rattle.swi_dispatch_plans.proofs.scratch.Scratch.error_after.Goals as goal
use Rattle.swi_dispatch_plans.proofs.scratch.Scratch.error_after.Goals.{in-Own, in-Well}

pub carry-code-requires : goal.carry-code-requires
carry-code-requires c =
    let copy = c.copy_from.ensures in
    let is = c.requires.state in
    let sound = is.going.module_state.area_store.ground.sound in
    let module_state = copied_module_state c.args.memory.now c.copy_from.new.self c.args.areas.now c.args.instances.now c.copy_from-2.new.self copy.bytes copy.layout copy.marks
    sound c.copy_from-2.ensures in
    record {
      state = record {
        going = rw c.copied-plan.ensures (subst (λ (w : ModuleState). IsUnderWay w c.args.plan.now) (sym module_state) is.going);
        classes = copied_classes c.args.memory.now c.copy_from.new.self copy.bytes copy.layout copy.marks sound is.classes;
      };
    }

pub returns-then-is_some-clause-error : goal.returns-then-is_some-clause-error
returns-then-is_some-clause-error c =
    let copy = c.copy_from.ensures in
    let module_state = copied_module_state c.args.memory.now c.copy_from.new.self c.args.areas.now c.args.instances.now c.copy_from-2.new.self copy.bytes copy.layout copy.marks
    c.requires.state.going.module_state.area_store.ground.sound c.copy_from-2.ensures in
    error_in_code _ _ _ _ _ (tried _ _ _ _ _ _ module_state c.copied-plan.ensures c.carry-code.ensures.carried) (sym c.is_some.ensures ∙ c.if-is_some.true)

pub returns-clause-error : goal.returns-clause-error
unfolding store_of
returns-clause-error c =
    let copy = c.copy_from.ensures in
    let module_state = copied_module_state c.args.memory.now c.copy_from.new.self c.args.areas.now c.args.instances.now c.copy_from-2.new.self copy.bytes copy.layout copy.marks
    c.requires.state.going.module_state.area_store.ground.sound c.copy_from-2.ensures in
    let tried = tried _ _ _ _ _ _ module_state c.copied-plan.ensures c.carry-code.ensures.carried in
    let none = sym c.is_some.ensures ∙ c.if-is_some.false in
    elim c.match-end.branch [
      | in-Own w ↦ w.result-is ∙ error_at_end _ _ _ _ _ _ _ tried none (sym c.end.ensures ∙ w.in-Own.is) w.error_at.ensures
      | in-Well w ↦ w.result-is ∙ no_error_at_end _ _ _ _ _ _ tried none c.end.ensures w.in-Well.is
    ]
