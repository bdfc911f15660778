use Rattle.std.proofs.Common.{[], refl, arith}
use Rattle.rma.specs.Store.{store_of}
use Rattle.rma.specs.Ground.{area_store_of}
use Rattle.instances.specs.module_state.ModuleState.{module_state_of}
use Rattle.instances.proofs.ModuleStateLemmas.ModuleStates.{few_records}
use Rattle.std.proofs.lemmas.Result.{err_from_is_err_and}
use Rattle.instances.proofs.AddingLemmas.{copied_mapped, module_state_with_block, no_image, none_in_block}
use Rattle.instances.proofs.instances.Instances.insert_copy_found.Goals as goal

pub copy_image-requires-clause-room : goal.copy_image-requires-clause-room
copy_image-requires-clause-room c =
    few_records (module_state_of c.args.map.now c.args.areas.now c.args.self.now) [] c.requires.state.sound c.slot_for.ensures.few (omega arith)

pub copy_image-requires-clause-source : goal.copy_image-requires-clause-source
unfolding store_of
copy_image-requires-clause-source c =
    copied_mapped (area_store_of c.args.map.now c.args.areas.now) c.args.at c.args.len c.requires.may

pub copy_image-requires-clause-state : goal.copy_image-requires-clause-state
copy_image-requires-clause-state c = record { area_store = c.requires.state.sound.area_store; classes = c.requires.state.classes }

pub returns-clause-kept : goal.returns-clause-kept
returns-clause-kept c =
    let kept = c.copy_image.ensures.kept in
    record {
      sound = rw c.adding_plan.ensures.pending
          (module_state_with_block (module_state_of c.args.map.now c.args.areas.now c.args.self.now) (module_state_of c.copy_image.new.map c.copy_image.new.areas c.args.self.now)
          c.in_ok-copy.copy c.args.len c.requires.state.sound refl c.in_ok-copy.ensures.whole c.in_ok-copy.ensures.inside c.in_ok-copy.ensures.alone c.in_ok-copy.ensures.others kept.area_store);
      classes = kept.classes;
      order = rw c.adding_plan.ensures.value
          (c.in_ok-copy.ensures.order (no_image c.in_ok-copy.copy (store_of c.args.map.now).others c.requires.state.sound.solid c.in_ok-copy.ensures.alone));
      places = kept.places;
      flex = kept.flex;
      sizes = kept.sizes;
    }

pub returns-in_err-slot-clause-kept : goal.returns-in_err-slot-clause-kept
returns-in_err-slot-clause-kept c =
    let p = err_from_is_err_and c.from_residual.result c.from_residual.ensures.1 in
    rw p.1 (none_in_block c.args.map.now c.args.areas.now c.args.self.now _ c.requires.state)
