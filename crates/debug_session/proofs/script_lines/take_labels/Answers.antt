-- By whether the line is ASM.
use Rattle.std.proofs.Common.{◌≡◌, List, None, Some, ap, subst}
use Rattle.std.specs.Prelude.{OnOk}
use Rattle.command_shell_lines.specs.Blocks.{block_lines}
use Rattle.command_shell_lines.specs.Requests.{request_of_command}
use Rattle.debug_modules.specs.Labels.{ImageLabels}
use Rattle.debug_session.proofs.BlockLemmas.{labels_elsewhere, labels_of_asm}
use Rattle.debug_session.proofs.script_lines.take_labels.Goals as goal

pub returns-in-Some : goal.returns-in-Some
returns-in-Some c =
    subst (λ (labels : List ImageLabels). OnOk c.add_labels.result (c.add_labels.new.labels ≡ labels))
    (labels_of_asm c.args.labels.now c.args.images.now (request_of_command c.args.command.now)
    c.in-Asm.name.now c.in-Asm.origin (block_lines c.args.block.now.left) (Some c.in-Some.bytes.now)
    (ap request_of_command c.in-Asm.is) c.in-Some.ensures.bytes)
    c.add_labels.ensures

pub returns-in-None : goal.returns-in-None
returns-in-None c =
    labels_of_asm c.args.labels.now c.args.images.now (request_of_command c.args.command.now)
    c.in-Asm.name.now c.in-Asm.origin (block_lines c.args.block.now.left) None
    (ap request_of_command c.in-Asm.is) c.in-None.ensures.bytes

pub returns-in_default : goal.returns-in_default
returns-in_default c =
    labels_elsewhere c.args.labels.now c.args.images.now c.args.command.now (block_lines c.args.block.now.left) c.in_default.not-Asm
