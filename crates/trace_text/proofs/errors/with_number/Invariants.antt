use Rattle.std.proofs.Common.{◌≡◌, drop}
use Rattle.trace_text.specs.Errors.{error_with_number}
use Rattle.trace_text.proofs.errors.with_number.Given as goal

-- no error that was passed has the number
abbrev pub invariant-loop-error : goal.invariant-loop-error
invariant-loop-error l = error_with_number (drop l.error-index l.errors) l.number ≡ error_with_number l.errors l.number
