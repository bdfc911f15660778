use Rattle.std.proofs.Common.{◌≡◌, drop}
use Rattle.debug_listing.specs.BlockErrors.{line_without}
use Rattle.debug_listing.proofs.block_errors.line_without.Given as goal

-- what the errors that come leave
abbrev pub invariant-loop-error : goal.invariant-loop-error
invariant-loop-error l =
    line_without (drop l.error-index l.errors) l.number l.left ≡ line_without l.errors l.number l.line
