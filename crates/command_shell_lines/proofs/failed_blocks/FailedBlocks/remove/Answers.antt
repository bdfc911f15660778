use Rattle.std.proofs.Common.{List, ap, rules, ◌∙◌}
use Rattle.std.specs.Prelude.{not}
use Rattle.std.specs.Str.{bytes_eq}
use Rattle.std.proofs.lemmas.Fn.{filter_same}
use Rattle.command_shell_lines.specs.FailedBlocks.{FailedBlockPlace, without_failed_block}
use Rattle.command_shell_lines.proofs.failed_blocks.FailedBlocks.remove.Goals as goal

pub returns : goal.returns
returns c = filter_same _ (λ (b : FailedBlockPlace). not (bytes_eq b.name c.args.name.now)) _ (λ x b f' k. search rules) _ _
    c.retain.ensures.filtered ∙ ap (λ (blocks : List FailedBlockPlace). without_failed_block blocks c.args.name.now) c.self.view_is
