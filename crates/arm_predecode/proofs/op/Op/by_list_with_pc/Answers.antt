use Rattle.std.proofs.Common.{◌≡◌, ap, refl, ◌∙◌, sym, ℕ, ◌*◌}
use Rattle.arm_predecode.proofs.Others.{by_list_with_pc}
use Rattle.arm_predecode.proofs.op.Op.by_list_with_pc.Goals as goal

pub invariant_of-result : goal.invariant_of-result
invariant_of-result c =
    c.block_kind_with_pc-kind.ensures _ (by_list_with_pc c.args.block.now _ c.requires.form c.requires.always c.requires.fields c.requires.allowed c.requires.plain c.requires.rn c.requires.loads c.requires.up c.requires.pc
    c.number-rn.ensures.value c.bits-list.ensures.value c.gap_below-gap.ensures (ap (λ (x : ℕ). 4 * x) c.size_of-size.ensures.size))
