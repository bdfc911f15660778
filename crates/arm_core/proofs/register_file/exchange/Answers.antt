use Rattle.std.proofs.Common.{◌≡◌, ◌<◌, ◌≤◌, ◌+◌, ◌∙◌, ℕ, ap, sym, length, slice_index, slice_set, arith, subst}
use Rattle.std.proofs.lemmas.List.{length-set}
use Rattle.arm_core.specs.register_file.Banks.{changed_place}
use Rattle.arm_core.specs.register_file.Exchanging.{one_more_changed, exchanged_by}
use Rattle.arm_core.specs.register_file.Places.{IsApart, bounds, none_changed, inside}
use Rattle.arm_core.proofs.register_file.exchange.Goals as goal

pub overflow_add-file : goal.overflow_add-file
overflow_add-file c = grind (arith, inside c.args.first c.args.ahead c.loop-number.number c.requires c.loop-number-test.true)

pub offset_bounds-file-number-in-loop-number : goal.offset_bounds-file-number-in-loop-number
offset_bounds-file-number-in-loop-number c = grind (arith, inside c.args.first c.args.ahead c.loop-number.number c.requires c.loop-number-test.true)

pub bounds-file-number-in-loop-number : goal.bounds-file-number-in-loop-number
bounds-file-number-in-loop-number c = inside c.args.first c.args.ahead c.loop-number.number c.requires c.loop-number-test.true

pub overflow_add-file-in-loop-number : goal.overflow_add-file-in-loop-number
overflow_add-file-in-loop-number c = grind (arith, inside c.args.first c.args.ahead c.loop-number.number c.requires c.loop-number-test.true)

pub offset_bounds-file-number-in-loop-number-3 : goal.offset_bounds-file-number-in-loop-number-3
offset_bounds-file-number-in-loop-number-3 c = grind (arith, inside c.args.first c.args.ahead c.loop-number.number c.requires c.loop-number-test.true)

pub bounds-file-number-in-loop-number-3 : goal.bounds-file-number-in-loop-number-3
bounds-file-number-in-loop-number-3 c = inside c.args.first c.args.ahead c.loop-number.number c.requires c.loop-number-test.true

pub loop-number-preserved : goal.loop-number-preserved
loop-number-preserved c = record {
  size = length-set _ _ _ ∙ length-set _ _ _ ∙ c.loop-number.invariant.size;
  changed = one_more_changed c.loop-number.file c.args.file.now c.args.first c.args.ahead c.loop-number.number c.requires
      c.loop-number.invariant.size c.loop-number.auto.number c.loop-number-test.true c.loop-number.invariant.changed;
}

pub returns : goal.returns
returns c =
    let b = bounds c.args.first c.args.ahead c.requires in
    let low : c.args.first ≤ 15 = b.low in
    let all : c.loop-number.number ≡ 15 = grind (arith, low, c.loop-number-test.false, c.loop-number.auto.number-end) in
    exchanged_by c.args.first c.args.ahead c.args.file.now c.loop-number.file c.loop-number.invariant.size
    (subst (λ (end : ℕ). (k : ℕ) → k < 26 → slice_index c.loop-number.file k ≡ slice_index c.args.file.now (changed_place c.args.first end c.args.ahead k)) all
    c.loop-number.invariant.changed)
