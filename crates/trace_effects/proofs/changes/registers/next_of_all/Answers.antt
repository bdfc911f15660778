use Rattle.std.proofs.Common.{◌<◌, arith}
use Rattle.trace_effects.proofs.ChangesLemmas.ChangeLemmas.{next_here, none_here}
use Rattle.trace_effects.proofs.changes.registers.next_of_all.Goals as goal

pub returns-then-old-new : goal.returns-then-old-new
returns-then-old-new c =
    let f = c.args.before.now.file in
    let g = c.args.after.now.file in
    let n = c.loop-place.place in
    let inside : n < 26 = omega (arith, c.loop-place-test.true) in
    let home = c.home_of-mode.ensures.home inside in
    next_here f g c.args.from 26 n _ _ c.register_in-old.result c.register_in-new.result c.register_in-old.ensures
    c.register_in-new.ensures home home c.loop-place.auto.place inside c.loop-place.invariant c.if-old-new.true

pub loop-place-preserved : goal.loop-place-preserved
loop-place-preserved c =
    let f = c.args.before.now.file in
    let g = c.args.after.now.file in
    let n = c.loop-place.place in
    let home = c.home_of-mode.ensures.home (omega (arith, c.loop-place-test.true)) in
    none_here f g c.args.from n _ _ c.register_in-old.result c.register_in-new.result c.register_in-old.ensures
    c.register_in-new.ensures home home c.loop-place.invariant c.if-old-new.false
