use Rattle.std.proofs.Common.{◌≡◌, length}
use Rattle.assembler_text.specs.WholeLines.{whole_lines}
use Rattle.command_shell_lines.specs.debug_words.Forms.{form_with_word}
use Rattle.command_shell_lines.proofs.debug_words.forms.form_in.Given as goal

-- what the lines that are left give is what all give
abbrev pub invariant-loop-form : goal.invariant-loop-form
invariant-loop-form l = form_with_word (whole_lines l.rest) l.word ≡ form_with_word (whole_lines l.text) l.word

-- the bytes that are left
abbrev pub decreases-loop-form : goal.decreases-loop-form
decreases-loop-form l = length l.rest
