use Rattle.std.proofs.Common.{ap, ◌∙◌, refl, ◌++◌}
use Rattle.instances.specs.module_state.Sound.{images_of}
use Rattle.instances.specs.module_state.ModuleState.{module_state_of}
use Rattle.instances.proofs.ModuleStateLemmas.ModuleStates.{module_state_renewed}
use Rattle.instances.proofs.ActionsLemmas.NewImages.{images_another}
use Rattle.instances.proofs.actions.adding.instantiate.Goals as goal

pub add_to-requires-clause-unnamed : goal.add_to-requires-clause-unnamed
add_to-requires-clause-unnamed c = rw (c.as_slice.ensures.value, c.as_slice-2.ensures.value) c.requires.can.named

pub returns-clause-modules : goal.returns-clause-modules
returns-clause-modules c = rw (c.as_slice.ensures.value, c.as_slice-2.ensures.value) at c.add_to.ensures

pub returns-clause-kept : goal.returns-clause-kept
returns-clause-kept c =
    let kept = c.put_private.ensures.kept in
    let added = rw (c.as_slice.ensures.value, c.as_slice-2.ensures.value) at c.add_to.ensures in
    record {
      sound = λ l pending module_state.
          let put = kept.sound l c.args.table.now pending module_state in
          module_state_renewed (module_state_of c.put_private.new.map l c.args.table.now) (module_state_of c.put_private.new.map l c.add_to.new.self) pending pending put
          (ap (λ xs. xs ++ pending) (ap images_of added ∙ images_another c.args.given.now c.args.slot c.args.table.now)) refl put.area_store;
      areas = kept.areas;
      pages = kept.pages;
      classes = kept.classes;
      layout = kept.layout;
      flex = kept.flex;
    }
