use Rattle.dynamic_areas.specs.MemoryMap.{module_area_start}
use Rattle.dynamic_areas.specs.Calls.{gave_back}
use Rattle.dynamic_areas.specs.Store.{store_of}
use Rattle.rma.specs.Calls.{rma_freed}
use Rattle.rma.proofs.AreaStores.{area_done, area_refused}
use Rattle.rma.proofs.KeptLemmas.{room_freed}
use Rattle.rma.proofs.area.Rma.free.Goals as goal

pub returns-in-Ok-clause-kept : goal.returns-in-Ok-clause-kept
returns-in-Ok-clause-kept c =
    room_freed c.args.map.now c.free.new.map c.args.block c.free.result.answer c.requires.state.sound c.free.ensures.kept c.free.ensures.store

pub returns-in-Err-clause-kept : goal.returns-in-Err-clause-kept
returns-in-Err-clause-kept c =
    room_freed c.args.map.now c.free.new.map c.args.block c.free.result.answer c.requires.state.sound c.free.ensures.kept c.free.ensures.store

pub returns-in-Ok-clause-freed : goal.returns-in-Ok-clause-freed
unfolding rma_freed
returns-in-Ok-clause-freed c l =
    area_done c.args.map.now c.free.new.map l (gave_back (store_of c.args.map.now) module_area_start c.args.block) tt c.free.ensures.kept.mapping
    (let given = rw c.in-Ok.is at c.free.ensures.store in given)

pub returns-in-Err-clause-freed : goal.returns-in-Err-clause-freed
unfolding rma_freed
returns-in-Err-clause-freed c l =
    rw c.rma_error.ensures
    (area_refused c.args.map.now c.free.new.map l (gave_back (store_of c.args.map.now) module_area_start c.args.block) c.in-Err.error c.free.ensures.kept.mapping
    (let given = rw c.in-Err.is at c.free.ensures.store in given))
