use Rattle.std.proofs.Common.{sym, ◌∙◌, arith}
use Rattle.assembler.proofs.SizeLemmas.{last_at, size_steps}
use Rattle.assembler.proofs.directives.size_of.Goals as goal

pub returns : goal.returns
returns c =
    let l = c.loop-digit in
    record {
      read = sym (l.invariant.size ∙ last_at c.args.radix l.size l.digit-index c.args.digits.now (omega (arith, c.loop-digit-test.false)) l.invariant.low);
      below = l.invariant.low;
    }

pub returns-then-is_empty-clause-read : goal.returns-then-is_empty-clause-read
returns-then-is_empty-clause-read c = grind (arith, size_steps)

pub loop-digit-init : goal.loop-digit-init
loop-digit-init c = grind (arith, size_steps)

pub returns-in_err-size-clause-read : goal.returns-in_err-size-clause-read
returns-in_err-size-clause-read c = grind (arith, size_steps)

pub loop-digit-preserved : goal.loop-digit-preserved
loop-digit-preserved c = grind (arith, size_steps)
