use Rattle.std.proofs.Common.{◌≡◌, ap, refl, ◌∙◌, sym, ℕ, ◌*◌}
use Rattle.arm_predecode.proofs.Others.{by_list}
use Rattle.arm_predecode.proofs.op.Op.by_list.Goals as goal

pub invariant_of-result : goal.invariant_of-result
invariant_of-result c =
    c.block_kind-kind.ensures _ (by_list c.args.block.now _ c.goes_up-is_up.result c.requires.form c.requires.always c.requires.fields c.requires.allowed c.requires.plain c.requires.rn c.requires.pc c.requires.apart
    c.goes_up-is_up.ensures c.number-rn.ensures.value c.bits-list.ensures.value c.gap_below-gap.ensures (ap (λ (x : ℕ). 4 * x) c.size_of-size.ensures.size))
