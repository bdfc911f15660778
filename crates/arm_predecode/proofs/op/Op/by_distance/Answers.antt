use Rattle.std.proofs.Common.{◌≡◌, ap, refl, ◌∙◌, sym}
use Rattle.arm_predecode.proofs.Others.{by_distance}
use Rattle.arm_predecode.proofs.op.Op.by_distance.Goals as goal

pub invariant_of-result : goal.invariant_of-result
invariant_of-result c =
    by_distance c.args.transfer.now _ c.requires.form c.requires.always c.requires.fields c.requires.allowed c.requires.rd c.requires.base c.requires.indexing c.requires.loads c.requires.bytes
    c.number-rd.ensures.value c.added_in-value.ensures
