use Rattle.std.proofs.Common.{sym, subst, ◌∙◌}
use Rattle.rma.specs.Memory.{regions}
use Rattle.rma.specs.Records.{without_region}
use Rattle.rma.specs.Kind.TheVariants as kind
use Rattle.rma.specs.Order.{stays}
use Rattle.rma.specs.Store.{store_of}
use Rattle.rma.specs.Images.{image_dropped, image_freed}
use Rattle.instances.specs.module_state.Records.{LosesRecords}
use Rattle.instances.specs.module_state.ModuleState.{image_gone}
use Rattle.instances.proofs.ModuleStateLemmas.Records.{loses_both, loses_filtered, loses_one}
use Rattle.instances.proofs.ActionsLemmas.AreaStores.{area_store_with, others_dropped, pages_less}
use Rattle.instances.proofs.actions.removal.drop_image.Goals as goal

pub free_image-requires : goal.free_image-requires
free_image-requires c = record { state = record { sound = c.requires.state.system.sound; classes = c.requires.state.classes } }

pub returns-then-is_in_module_area-clause-area_store : goal.returns-then-is_in_module_area-clause-area_store
unfolding image_gone
returns-then-is_in_module_area-clause-area_store c = λ l.
    rw (sym c.is_in_module_area.ensures ∙ c.if-is_in_module_area.true) (area_store_with c.args.map.now c.free_image.new.map l (image_freed (store_of c.args.map.now) c.args.image.at)
    c.free_image.ensures.store c.free_image.ensures.kept.mapping)

pub returns-else-is_in_module_area-clause-area_store : goal.returns-else-is_in_module_area-clause-area_store
unfolding image_gone
returns-else-is_in_module_area-clause-area_store c = λ l.
    rw (sym c.is_in_module_area.ensures ∙ c.if-is_in_module_area.false) (area_store_with c.args.map.now c.drop_image.new.map l (image_dropped (store_of c.args.map.now) c.args.image.at)
    c.drop_image.ensures.store c.drop_image.ensures.kept.mapping)

pub returns-then-is_in_module_area-clause-kept : goal.returns-then-is_in_module_area-clause-kept
returns-then-is_in_module_area-clause-kept c =
    let kept = c.free_image.ensures.kept in
    let rs = regions c.args.map.now in
    record {
      sound = kept.area_store;
      pages = pages_less c.args.map.now c.free_image.new.map c.args.image.at kept.others kept.mapping kept.sound c.requires.state.system;
      classes = kept.classes;
      mapping = kept.mapping;
      records = subst (LosesRecords rs) (sym kept.records)
          (loses_both rs (without_region rs kind.Image c.args.image.at) _ (loses_one kind.Image c.args.image.at rs)
          (loses_filtered (stays (store_of c.free_image.new.map).heaps) (without_region rs kind.Image c.args.image.at)));
      flex = kept.flex;
    }

pub returns-else-is_in_module_area-clause-kept : goal.returns-else-is_in_module_area-clause-kept
returns-else-is_in_module_area-clause-kept c =
    let kept = c.drop_image.ensures.kept in
    record {
      sound = kept.area_store;
      pages = pages_less c.args.map.now c.drop_image.new.map c.args.image.at
          (others_dropped (store_of c.args.map.now) (store_of c.drop_image.new.map) c.args.image.at c.drop_image.ensures.store)
          kept.mapping kept.sound c.requires.state.system;
      classes = kept.classes c.requires.state.classes;
      mapping = kept.mapping;
      records = subst (LosesRecords (regions c.args.map.now)) (sym c.drop_image.ensures.regions) (loses_one kind.Image c.args.image.at (regions c.args.map.now));
      flex = kept.flex;
    }
