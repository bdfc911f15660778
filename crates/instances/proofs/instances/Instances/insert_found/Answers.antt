use Rattle.std.proofs.Common.{[], refl, sym, ap, arith}
use Rattle.rma.specs.Store.{store_of}
use Rattle.rma.specs.Ground.{AreaStore}
use Rattle.instances.specs.module_state.ModuleState.{module_state_of}
use Rattle.instances.proofs.ModuleStateLemmas.ModuleStates.{few_records}
use Rattle.instances.specs.Adding.{inserting}
use Rattle.std.proofs.lemmas.Result.{err_from_is_err_and}
use Rattle.instances.proofs.AddingLemmas.{header_some, module_state_in_place, none_in_place}
use Rattle.instances.proofs.instances.Instances.insert_found.Goals as goal

pub record_in_place-requires-clause-room : goal.record_in_place-requires-clause-room
record_in_place-requires-clause-room c =
    few_records (module_state_of c.args.map.now c.args.areas.now c.args.self.now) [] c.requires.state.sound c.slot_for.ensures.few (omega arith)

pub record_in_place-requires-clause-some : goal.record_in_place-requires-clause-some
record_in_place-requires-clause-some c =
    header_some (store_of c.args.map.now).bytes.at c.args.at c.args.len c.args.header c.requires.header

pub returns-clause-module_state : goal.returns-clause-module_state
unfolding inserting
returns-clause-module_state c =
    rw (c.requires.may, c.requires.header, sym c.in_ok-slot.ensures.value)
    ((λ i. record { area_store = c.record_in_place.ensures.placed c.args.areas.now i; modules = c.args.self.now }), c.adding_plan.ensures.value)

pub returns-clause-kept : goal.returns-clause-kept
returns-clause-kept c =
    let some = header_some (store_of c.args.map.now).bytes.at c.args.at c.args.len c.args.header c.requires.header in
    let kept = c.record_in_place.ensures.kept in
    record {
      sound = rw c.adding_plan.ensures.pending
          (module_state_in_place (module_state_of c.args.map.now c.args.areas.now c.args.self.now) (module_state_of c.record_in_place.new.map c.args.areas.now c.args.self.now)
          c.args.at c.args.len c.requires.state.sound refl c.requires.may some
          (ap (λ (e : AreaStore). e.store) (c.record_in_place.ensures.placed c.args.areas.now)) (kept.area_store c.args.areas.now c.requires.state.sound.area_store));
      classes = kept.classes c.requires.state.classes;
      mapping = kept.mapping;
      order = rw c.adding_plan.ensures.value c.record_in_place.ensures.order;
      flex = kept.flex;
    }

pub returns-in_err-slot-clause-kept : goal.returns-in_err-slot-clause-kept
returns-in_err-slot-clause-kept c =
    let p = err_from_is_err_and c.from_residual.result c.from_residual.ensures.1 in
    rw p.1 (none_in_place c.args.map.now c.args.areas.now c.args.self.now _ c.requires.state)
