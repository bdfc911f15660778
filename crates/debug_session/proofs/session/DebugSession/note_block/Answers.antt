-- A line that opens no block leaves the blocks that had errors.
use Rattle.std.proofs.Common.{List, ap}
use Rattle.command_shell_lines.specs.Blocks.{block_lines}
use Rattle.command_shell_lines.specs.FailedBlocks.{FailedBlockPlace}
use Rattle.debug_session.specs.DebugState.{DebugState}
use Rattle.debug_session.specs.Session.{debug_state}
use Rattle.debug_session.proofs.BlockLemmas.{failed_elsewhere}
use Rattle.debug_session.proofs.session.DebugSession.note_block.Goals as goal

pub returns-in_default-clause-reported : goal.returns-in_default-clause-reported
returns-in_default-clause-reported c images =
    let old = c.args.self.now in
    ap (λ (failed : List FailedBlockPlace). let noted : DebugState = record (debug_state old images) { failed = failed } in noted)
    (failed_elsewhere old.failed c.args.block.now.number c.args.command.now (block_lines c.args.block.now.left)
    c.in_default.not-Asm c.in_default.not-Hex)
