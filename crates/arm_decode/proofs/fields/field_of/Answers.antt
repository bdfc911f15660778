use Rattle.std.proofs.Common.{ap, ◌∙◌, bit_and, ◌-◌, ◌/◌, ◌^◌}
use Rattle.std.proofs.lemmas.Nat.{and_mask, one_shl}
use Rattle.arm_decode.proofs.fields.field_of.Goals as goal

pub returns-clause-value : goal.returns-clause-value
returns-clause-value c =
    ap (λ m. bit_and (c.args.word / 2 ^ c.args.low) (m - 1)) (one_shl c.args.size 32 c.requires.size_inside)
    ∙ and_mask (c.args.word / 2 ^ c.args.low) c.args.size
