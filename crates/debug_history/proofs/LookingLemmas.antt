-- Looking into the past changes nothing.
use Rattle.std.proofs.Common.{◌≡◌, ℕ, Bool, true, false, List, refl}
use Rattle.debug_tables.specs.State.{ScriptState}
use Rattle.debug_history.specs.Answers.{past_asked, past_shown}
use Rattle.debug_history.specs.Laws.{LookingBackChangesNothing, LooksBackOnly}
use Rattle.debug_history.specs.Past.{PastState}
use Rattle.command_shell_lines.specs.debug_words.PastTexts.{no_history_text}
use Rattle.debug_history.specs.declared.lines.PastCommand.TheVariants.{Last, When}
use Rattle.std.specs.Prelude.{if◌then◌else◌}

shown_by : (s : ScriptState) (p : PastState) (text : List ℕ) (is_kept : Bool)
    → LooksBackOnly s p (if is_kept then past_shown s p text else past_shown s p no_history_text)
shown_by s p text true = record { script = refl; past = refl }
shown_by s p text false = record { script = refl; past = refl }

pub looking_back_changes_nothing : LookingBackChangesNothing
looking_back_changes_nothing labels sizes budget s p x = (
  shown_by s p (past_asked labels sizes budget s p When).text p.is_kept,
  shown_by s p (past_asked labels sizes budget s p (Last x)).text p.is_kept,
)
