use Rattle.std.proofs.Common.{◌≡◌, ◌∙◌, length, sym, arith}
use Rattle.std.proofs.Math.Seq.{take-length}
use Rattle.debug_modes.proofs.ExpectationsLemmas.EndingLemmas.{found_before, none_at_end, none_before, whole_output}
use Rattle.debug_modes.proofs.expectations.endings.ending_place.Goals as goal

pub loop-place-init : goal.loop-place-init
loop-place-init c = record {
  inside = omega arith;
  none = none_at_end c.args.answer.now (length c.args.answer.now) (omega arith);
}

pub returns-then-begins_ending-clause-output : goal.returns-then-begins_ending-clause-output
returns-then-begins_ending-clause-output c =
    found_before c.args.answer.now c.loop-place.place c.begins_ending.result c.loop-place-test.true
    c.loop-place.invariant.inside c.begins_ending.ensures c.if-begins_ending.true c.loop-place.invariant.none

pub loop-place-preserved : goal.loop-place-preserved
loop-place-preserved c = record {
  inside = omega (arith, c.loop-place.invariant.inside);
  none = none_before c.args.answer.now c.loop-place.place c.begins_ending.result c.loop-place-test.true
      c.loop-place.invariant.inside c.begins_ending.ensures c.if-begins_ending.false c.loop-place.invariant.none;
}

pub returns-clause-output : goal.returns-clause-output
returns-clause-output c =
    let none : c.loop-place.place ≡ 0 = omega (arith, c.loop-place-test.false) in
    take-length c.args.answer.now
    ∙ sym (whole_output c.args.answer.now c.loop-place.place none c.loop-place.invariant.none)
