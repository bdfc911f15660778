use Rattle.std.proofs.Common.{◌≡◌, ◌-◌, ◌++◌, []}
use Rattle.command_shell_lines.specs.Blocks.{block_lines}
use Rattle.debug_listing.specs.BlockErrors.{further_errors}
use Rattle.debug_listing.proofs.block_errors.errors_of_block.Given as goal

-- what was found, and what is found behind it, is all
abbrev pub invariant-loop-count : goal.invariant-loop-count
invariant-loop-count l =
    l.errors.items ++ further_errors (21 - l._count) (block_lines l.block.left) l.address l.errors.items
    ≡ further_errors 21 (block_lines l.block.left) l.address []
