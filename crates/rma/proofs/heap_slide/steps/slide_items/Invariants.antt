use Rattle.std.proofs.Common.{◌-◌, ◌^◌}
use Rattle.rma.specs.heap_slide.Steps.{IsSliding}
use Rattle.rma.proofs.heap_slide.steps.slide_items.Given as goal

abbrev pub invariant-loop-cursor : goal.invariant-loop-cursor
invariant-loop-cursor l =
    IsSliding l.fn.map l.map l.heap l.movable l.left l.moves.items l.cursor.from l.cursor.top l.cursor.at l.cursor.free

abbrev pub decreases-loop-cursor : goal.decreases-loop-cursor
decreases-loop-cursor l = 2 ^ 32 - l.cursor.at
