use Rattle.std.proofs.Common.{refl, [], ◌∷◌}
use Rattle.instances_table.proofs.ModuleLemmas.{new_parts}
use Rattle.instances.specs.module_state.ModuleState.{module_state_of}
use Rattle.instances.proofs.ModuleStateLemmas.ModuleStates.{module_state_renewed}
use Rattle.instances.specs.actions.Actions.{image_given}
use Rattle.instances.proofs.ActionsLemmas.NewImages.{images_new}
use Rattle.instances.proofs.actions.adding.insert.Goals as goal

pub put_private-requires-clause-below : goal.put_private-requires-clause-below
put_private-requires-clause-below c =
    (new_parts c.args.given.now.header.title.items c.args.slot c.args.table.now c.requires.new).below

pub returns-clause-modules : goal.returns-clause-modules
returns-clause-modules c = rw (c.copied.ensures, c.image_given.ensures) at c.insert.ensures.table

pub returns-clause-kept : goal.returns-clause-kept
returns-clause-kept c =
    let kept = c.put_private.ensures.kept in
    let added = rw (c.copied.ensures, c.image_given.ensures) at c.insert.ensures.table in
    record {
      sound = λ l module_state.
          let put = kept.sound l c.args.table.now (image_given c.args.given.now ∷ []) module_state in
          module_state_renewed (module_state_of c.put_private.new.map l c.args.table.now) (module_state_of c.put_private.new.map l c.insert.new.self)
          (image_given c.args.given.now ∷ []) [] put (images_new c.args.given.now c.args.slot c.args.table.now c.insert.new.self c.requires.new added) refl put.area_store;
      areas = kept.areas;
      pages = kept.pages;
      classes = kept.classes;
      layout = kept.layout;
      flex = kept.flex;
    }
