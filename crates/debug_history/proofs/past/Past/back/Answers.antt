use Rattle.std.proofs.Common.{ℕ, List, ap, ◌∙◌}
use Rattle.debug_tables.specs.State.{ScriptState}
use Rattle.debug_labels.specs.place_views.Places.{where_text}
use Rattle.command_shell_lines.specs.debug_words.PastTexts.{text_with_step}
use Rattle.debug_history.proofs.past.Past.back.Goals as goal

pub returns-clause-answer : goal.returns-clause-answer
returns-clause-answer c = (
  c.in_ok-go_back.ensures.machine,
  c.in_ok-go_back.ensures.past,
  c.in_ok-push_step.ensures
      ∙ ap (λ (t : List ℕ). text_with_step t c.args.step)
      (c.in_ok-text.ensures c.go_back.new.images
      ∙ ap (λ (s : ScriptState). where_text c.args.labels.now s.machine) c.in_ok-go_back.ensures.machine),
)
