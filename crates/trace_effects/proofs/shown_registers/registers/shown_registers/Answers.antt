use Rattle.std.proofs.Common.{◌<◌, length, arith}
use Rattle.trace_effects.proofs.ShownRegistersLemmas.ShownLemmas.{none_more, one_shown}
use Rattle.trace_effects.proofs.shown_registers.registers.shown_registers.Goals as goal
use Rattle.trace_effects.proofs.shown_registers.registers.shown_registers.Goals.{then-is_shown, else-is_shown}

pub loop-place-preserved : goal.loop-place-preserved
loop-place-preserved c =
    let f = c.args.before.now.file in
    let g = c.args.after.now.file in
    let n = c.loop-place.place in
    let size = c.known.ensures.size in
    let below = c.loop-place-test.true in
    let inside : n < length f = omega (arith, size, below) in
    let home = c.home_of-mode.ensures.home (omega (arith, below)) in
    elim c.if-is_shown.branch [
      | then-is_shown w ↦ rw (w.reported-is, w.push.ensures.items)
          (one_shown f g n _ c.register_in-old.result c.register_in-new.result c.loop-place.reported.items home c.register_in-new.ensures inside c.loop-place.invariant)
      | else-is_shown w ↦ rw w.reported-is
          (none_more f g n _ _ c.register_in-old.result c.register_in-new.result c.loop-place.reported.items home home
          c.register_in-old.ensures c.register_in-new.ensures (c.is_shown.ensures w.if-is_shown.false) c.loop-place.invariant)
    ]
