use Rattle.std.proofs.Common.{◌≡◌, drop}
use Rattle.command_shell_lines.specs.debug_words.ErrorNumbers.{error_with_name}
use Rattle.command_shell_lines.proofs.debug_words.error_names.with_name.Given as goal

-- no error that was passed has the name
abbrev pub invariant-loop-error : goal.invariant-loop-error
invariant-loop-error l = error_with_name (drop l.error-index l.errors) l.name ≡ error_with_name l.errors l.name
