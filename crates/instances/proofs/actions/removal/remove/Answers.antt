use Rattle.std.proofs.Common.{◌≡◌, sym, subst, ◌∙◌, refl, Some, None}
use Rattle.rma.specs.Memory.{regions}
use Rattle.rma.specs.Ground.{IsAreaStore, area_store_of}
use Rattle.rma.proofs.FlexFrameLemmas.Keeping.{keeps_then}
use Rattle.instances.specs.module_state.Sound.{IsModuleState}
use Rattle.instances.specs.module_state.ModuleState.{ModuleState, module_state_after_remove, module_state_of}
use Rattle.instances.proofs.ModuleStateLemmas.Records.{loses_both, loses_heaps}
use Rattle.instances.proofs.ModuleStateLemmas.Removals.{module_state_removed}
use Rattle.instances.proofs.ActionsLemmas.Removing.{removed_by}
use Rattle.instances.proofs.actions.removal.remove.Goals as goal

pub returns-in-Some-clause-module_state : goal.returns-in-Some-clause-module_state
returns-in-Some-clause-module_state c = λ l.
    removed_by (area_store_of c.args.map.now l) (area_store_of c.free_private.new.map l) (area_store_of c.drop_image.new.map l) c.args.table.now c.remove.new.self
    c.args.slot (Some c.in-Some.image) (c.free_private.ensures.area_store l) c.remove.ensures (sym c.in-Some.is ∙ c.last_image-image.ensures)
    (c.drop_image.ensures.area_store l)

pub returns-in_default-clause-module_state : goal.returns-in_default-clause-module_state
returns-in_default-clause-module_state c = λ l.
    removed_by (area_store_of c.args.map.now l) (area_store_of c.free_private.new.map l) (area_store_of c.free_private.new.map l) c.args.table.now c.remove.new.self
    c.args.slot None (c.free_private.ensures.area_store l) c.remove.ensures (sym c.in_default.is ∙ c.last_image-image.ensures) refl

pub drop_image-requires : goal.drop_image-requires
drop_image-requires c = record { state = record { system = c.free_private.ensures.kept.pages; classes = c.free_private.ensures.kept.classes } }

pub returns-in-Some-clause-kept : goal.returns-in-Some-clause-kept
returns-in-Some-clause-kept c =
    let free = c.free_private.ensures.kept in
    let drop = c.drop_image.ensures.kept in
    record {
      sound = λ l pending module_state.
          let all : module_state_of c.drop_image.new.map l c.remove.new.self ≡ module_state_after_remove (module_state_of c.args.map.now l c.args.table.now) c.args.slot =
          returns-in-Some-clause-module_state c l in
          let freed = free.sound l c.args.table.now pending module_state in
          let area_store : IsAreaStore (area_store_of c.drop_image.new.map l) = drop.sound l freed.area_store in
          subst (λ (w : ModuleState). IsModuleState w pending) (sym all)
          (module_state_removed (module_state_of c.args.map.now l c.args.table.now) c.args.slot pending module_state (subst (λ (w : ModuleState). IsAreaStore w.area_store) all area_store));
      pages = drop.pages;
      classes = drop.classes;
      mapping = drop.mapping ∙ free.mapping;
      records = loses_both (regions c.args.map.now) (regions c.free_private.new.map) (regions c.drop_image.new.map)
          (loses_heaps c.args.map.now c.free_private.new.map free.records) drop.records;
      flex = keeps_then _ _ _ free.flex drop.flex;
    }

pub returns-in_default-clause-kept : goal.returns-in_default-clause-kept
returns-in_default-clause-kept c =
    let free = c.free_private.ensures.kept in
    record {
      sound = λ l pending module_state.
          let all : module_state_of c.free_private.new.map l c.remove.new.self ≡ module_state_after_remove (module_state_of c.args.map.now l c.args.table.now) c.args.slot =
          returns-in_default-clause-module_state c l in
          let freed = free.sound l c.args.table.now pending module_state in
          subst (λ (w : ModuleState). IsModuleState w pending) (sym all)
          (module_state_removed (module_state_of c.args.map.now l c.args.table.now) c.args.slot pending module_state (subst (λ (w : ModuleState). IsAreaStore w.area_store) all freed.area_store));
      pages = free.pages;
      classes = free.classes;
      mapping = free.mapping;
      records = loses_heaps c.args.map.now c.free_private.new.map free.records;
      flex = free.flex;
    }
