use Rattle.os_heap.proofs.Added.{sound_empty}
use Rattle.os_heap.proofs.Frame.{classes_empty}
use Rattle.dynamic_areas.proofs.Starting.{may_begin_area, start_areas, start_classes, start_room, started}
use Rattle.dynamic_areas.proofs.start.start_memory.Goals as goal

pub init_module_area-requires-clause-may : goal.init_module_area-requires-clause-may
init_module_area-requires-clause-may c =
    let bare = c.in_ok-memory.ensures in
    rw c.rma.ensures.value (may_begin_area c.in_ok-memory.memory c.args.config bare.sizes bare.regions bare.mapping bare.marks)

pub init_module_area-requires-clause-state : goal.init_module_area-requires-clause-state
init_module_area-requires-clause-state c =
    let bare = c.in_ok-memory.ensures in
    record {
      sound = sound_empty c.in_ok-memory.memory bare.regions bare.marks;
      classes = classes_empty c.in_ok-memory.memory bare.regions bare.marks;
    }

pub own-requires-clause-room : goal.own-requires-clause-room
own-requires-clause-room c = λ record_kind.
    let begun = rw c.rma.ensures.value at c.init_module_area.ensures.store in
    start_room c.in_ok-memory.memory c.init_module_area.new.map c.args.config c.in_ok-memory.ensures.regions begun c.init_module_area.ensures.kept.sound

pub returns-clause-store : goal.returns-clause-store
returns-clause-store c =
    let bare = c.in_ok-memory.ensures in
    let begun = rw c.rma.ensures.value at c.init_module_area.ensures.store in
    started c.in_ok-memory.memory c.init_module_area.new.map c.own.new.self c.args.config bare.mapping bare.bytes bare.regions bare.marks begun
    c.own.ensures.regions c.own.ensures.mapping c.own.ensures.bytes c.own.ensures.marks

pub returns-clause-state : goal.returns-clause-state
returns-clause-state c =
    let bare = c.in_ok-memory.ensures in
    let begun = rw c.rma.ensures.value at c.init_module_area.ensures.store in
    let kept = c.init_module_area.ensures.kept in
    record {
      area_store = start_areas c.in_ok-memory.memory c.init_module_area.new.map c.own.new.self c.args.config bare.sizes bare.regions bare.mapping bare.pool begun
          kept.sound kept.mapping c.own.ensures.regions c.own.ensures.mapping c.own.ensures.bytes c.own.ensures.marks;
      classes = start_classes c.init_module_area.new.map c.own.new.self kept.classes
          c.own.ensures.regions c.own.ensures.mapping c.own.ensures.bytes c.own.ensures.marks;
    }
