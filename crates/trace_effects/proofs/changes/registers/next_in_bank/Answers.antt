use Rattle.std.proofs.Common.{◌≡◌, ◌<◌, ◌≤◌, ◌-◌, max, arith}
use Rattle.arm_core.specs.State.{slot_of}
use Rattle.trace_effects.proofs.ChangesLemmas.ChangeLemmas.{next_here, none_here}
use Rattle.trace_effects.proofs.changes.registers.next_in_bank.Goals as goal

pub returns-then-old-new : goal.returns-then-old-new
returns-then-old-new c =
    let f = c.args.before.now.file in
    let g = c.args.after.now.file in
    let n = c.loop-place.place in
    let low : c.args.first ≤ n = omega (arith, c.max-place.ensures, c.loop-place.auto.place) in
    let above : max c.args.from c.args.first ≤ n = omega (arith, c.max-place.ensures, c.loop-place.auto.place) in
    let below : n < max c.args.from c.args.end = omega (arith, c.loop-place-test.true) in
    let place : slot_of c.args.mode (n - c.args.behind) ≡ n = c.requires.bank.places n low c.loop-place-test.true in
    next_here f g (max c.args.from c.args.first) (max c.args.from c.args.end) n (slot_of c.args.mode (n - c.args.behind))
    (slot_of c.args.mode (n - c.args.behind)) c.register_in-old.result c.register_in-new.result c.register_in-old.ensures
    c.register_in-new.ensures place place above below c.loop-place.invariant c.if-old-new.true

pub loop-place-preserved : goal.loop-place-preserved
loop-place-preserved c =
    let f = c.args.before.now.file in
    let g = c.args.after.now.file in
    let n = c.loop-place.place in
    let low : c.args.first ≤ n = omega (arith, c.max-place.ensures, c.loop-place.auto.place) in
    let place : slot_of c.args.mode (n - c.args.behind) ≡ n = c.requires.bank.places n low c.loop-place-test.true in
    none_here f g (max c.args.from c.args.first) n (slot_of c.args.mode (n - c.args.behind)) (slot_of c.args.mode (n - c.args.behind))
    c.register_in-old.result c.register_in-new.result c.register_in-old.ensures c.register_in-new.ensures place place
    c.loop-place.invariant c.if-old-new.false
