use Rattle.std.proofs.Common.{sym, ◌∙◌, arith}
use Rattle.assembler_text.proofs.NamingLemmas.Digits.{last_at, numeral_steps}
use Rattle.assembler_text.proofs.naming.numerals.numeral.Goals as goal

pub returns : goal.returns
returns c =
    let l = c.loop-digit in
    sym (l.invariant.number ∙ last_at c.args.radix l.value l.digit-index c.args.digits.now (omega (arith, c.loop-digit-test.false)) l.invariant.low)

pub returns-then-is_empty : goal.returns-then-is_empty
returns-then-is_empty c = grind (arith, numeral_steps)

pub loop-digit-init : goal.loop-digit-init
loop-digit-init c = grind (arith, numeral_steps)

pub returns-in_err-value : goal.returns-in_err-value
returns-in_err-value c = grind (arith, numeral_steps)

pub loop-digit-preserved : goal.loop-digit-preserved
loop-digit-preserved c = grind (arith, numeral_steps)
