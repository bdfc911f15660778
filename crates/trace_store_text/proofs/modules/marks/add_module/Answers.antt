use Rattle.std.proofs.Common.{arith}
use Rattle.std.specs.Prelude.{slice_get}
use Rattle.trace_store_text.proofs.ModulesLemmas.MarkLemmas.{next_passed, room_left}
use Rattle.trace_store_text.proofs.modules.marks.add_module.Goals as goal

pub add_instance-requires : goal.add_instance-requires
add_instance-requires c =
    let inside = c.loop-instance-test.true in
    let end = c.instance_count-instance-end.ensures.value in
    record {
      room = room_left (slice_get c.args.modules.now c.args.number) c.loop-instance.instance c.args.marks.now.items c.loop-instance.marks.items
          (omega (arith, inside, end)) c.loop-instance.invariant c.requires.room;
    }

pub loop-instance-preserved : goal.loop-instance-preserved
loop-instance-preserved c =
    let inside = c.loop-instance-test.true in
    let end = c.instance_count-instance-end.ensures.value in
    next_passed (slice_get c.args.modules.now c.args.number) c.loop-instance.instance c.args.marks.now.items c.loop-instance.marks.items
    c.add_instance.new.marks.items (omega (arith, inside, end)) c.loop-instance.invariant c.add_instance.ensures
