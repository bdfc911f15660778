use Rattle.std.proofs.Common.{◌≡◌, ap, ◌∙◌, sym, subst, arith, None}
use Rattle.arm_decode.proofs.Taken.{instruction_comes_back}
use Rattle.arm_decode.specs.Decoded.{instruction_of_word}
use Rattle.arm_decode.specs.Diagrams.{word_of_diagram, action_fields}
use Rattle.arm_decode.specs.Names.{condition_code}
use Rattle.arm_decode.specs.Ranges.{FitsFields}
use Rattle.arm_decode.specs.Refusals.{refusal}
use Rattle.arm_decode.proofs.encoding.encode.Goals as goal

pub returns-clause-again : goal.returns-clause-again
returns-clause-again c =
    let code : c.code.result ≡ condition_code c.args.instr.0 = c.code.ensures.value ∙ ap condition_code c.condition.ensures in
    let bits : c.bits.result ≡ word_of_diagram (action_fields c.args.instr.1) =
    c.bits.ensures.value ∙ ap (λ a. word_of_diagram (action_fields a)) c.action.ensures.value in
    let fits : FitsFields c.args.instr.1 = subst FitsFields c.action.ensures.value c.bits.ensures.fits in
    let allowed : refusal c.args.instr.1 ≡ None = ap refusal (sym c.action.ensures.value) ∙ c.action.ensures.allowed in
    ap instruction_of_word (omega arith) ∙ instruction_comes_back c.args.instr fits allowed
