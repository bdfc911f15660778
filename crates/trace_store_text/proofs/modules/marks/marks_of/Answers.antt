use Rattle.std.proofs.Common.{arith}
use Rattle.trace_store_text.proofs.ModulesLemmas.MarkLemmas.{next_module, no_module_yet, room_for}
use Rattle.trace_store_text.proofs.modules.marks.marks_of.Goals as goal

pub loop-number-init : goal.loop-number-init
loop-number-init c = no_module_yet c.args.modules.now c.new-marks.result.items c.new-marks.ensures

pub add_module-requires : goal.add_module-requires
add_module-requires c =
    let inside = c.loop-number-test.true in
    let end = c.count-number-end.ensures.value in
    record {
      room = room_for c.args.modules.now c.loop-number.number c.loop-number.marks.items c.known.ensures (omega (arith, inside, end)) c.loop-number.invariant;
    }

pub loop-number-preserved : goal.loop-number-preserved
loop-number-preserved c =
    let inside = c.loop-number-test.true in
    let end = c.count-number-end.ensures.value in
    next_module c.args.modules.now c.loop-number.number c.loop-number.marks.items c.add_module.new.marks.items (omega (arith, inside, end))
    c.loop-number.invariant c.add_module.ensures
