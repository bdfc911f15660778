use Rattle.instances_table.specs.ErrorNumber.TheVariants.{BadString}
use Rattle.std.proofs.Common.{[], length, refl, arith}
use Rattle.rma.specs.Store.{store_of}
use Rattle.instances.specs.module_state.ModuleState.{module_state_of}
use Rattle.instances.proofs.ModuleStateLemmas.ModuleStates.{few_records}
use Rattle.std.proofs.lemmas.Result.{err_from_is_err_and}
use Rattle.instances.proofs.AddingLemmas.{module_state_with_block, no_image, none_in_block}
use Rattle.instances.proofs.instances.Instances.load.Goals as goal

pub make_image-requires-clause-room : goal.make_image-requires-clause-room
make_image-requires-clause-room c =
    few_records (module_state_of c.args.map.now c.args.areas.now c.args.self.now) [] c.requires.state.sound c.slot_for.ensures.few (omega arith)

pub make_image-requires-clause-state : goal.make_image-requires-clause-state
make_image-requires-clause-state c = record { area_store = c.requires.state.sound.area_store; classes = c.requires.state.classes }

pub returns-clause-kept : goal.returns-clause-kept
returns-clause-kept c =
    let kept = c.make_image.ensures.kept in
    record {
      sound = rw c.adding_plan.ensures.pending
          (module_state_with_block (module_state_of c.args.map.now c.args.areas.now c.args.self.now) (module_state_of c.make_image.new.map c.make_image.new.areas c.args.self.now)
          c.in_ok-at.at (length c.args.image.now) c.requires.state.sound refl c.in_ok-at.ensures.whole c.in_ok-at.ensures.inside c.in_ok-at.ensures.alone c.in_ok-at.ensures.others kept.area_store);
      classes = kept.classes;
      order = rw c.adding_plan.ensures.value
          (c.in_ok-at.ensures.order (no_image c.in_ok-at.at (store_of c.args.map.now).others c.requires.state.sound.solid c.in_ok-at.ensures.alone));
      places = kept.places;
      flex = kept.flex;
      sizes = kept.sizes;
    }

pub returns-then-is_too_long-clause-kept : goal.returns-then-is_too_long-clause-kept
returns-then-is_too_long-clause-kept c = none_in_block c.args.map.now c.args.areas.now c.args.self.now BadString c.requires.state

pub returns-in_err-header-clause-kept : goal.returns-in_err-header-clause-kept
returns-in_err-header-clause-kept c =
    let p = err_from_is_err_and c.from_residual.result c.from_residual.ensures.1 in
    rw p.1 (none_in_block c.args.map.now c.args.areas.now c.args.self.now _ c.requires.state)

pub returns-in_err-slot-clause-kept : goal.returns-in_err-slot-clause-kept
returns-in_err-slot-clause-kept c =
    let p = err_from_is_err_and c.from_residual-in_err-slot.result c.from_residual-in_err-slot.ensures.1 in
    rw p.1 (none_in_block c.args.map.now c.args.areas.now c.args.self.now _ c.requires.state)
