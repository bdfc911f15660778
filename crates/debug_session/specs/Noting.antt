-- What a debugging script keeps of a line that a script has answered.
use Rattle.std.specs.Prelude.{ℕ, ◌-◌, Bool, List, if◌then◌else◌}
use Rattle.command_shell_lines.specs.Requests.{Request}
use Rattle.debug_lines.specs.LineKinds.{takes_steps}
use Rattle.debug_modules.specs.DebugModesEndings.{ending_of, output_of}
use Rattle.debug_modules.specs.Noted.{is_faulted, past_after_request}
use Rattle.debug_modules.specs.SourceListing.{sources_after}
use Rattle.debug_session.specs.DebugState.{DebugState}
use Rattle.debug_session.specs.Naming.{labels_with_block}
use Rattle.debug_session.specs.declared.session.DebugSettings.{DebugSettings}

-- by the state behind the answer, whether the line's block is refused, and the answer's text
abbrev pub state_noted : DebugSettings → DebugState → ℕ → Bool → Request → List ℕ → List (List ℕ) → DebugState
state_noted c d number refused request text block = record d {
  labels = if refused then d.labels else labels_with_block d.labels d.script.images request block;
  sources = sources_after refused d.sources request block;
  answer = if takes_steps request then ending_of text else text;
  output = if takes_steps request then output_of text else d.output;
  steps = if takes_steps request then c.budget - d.script.left else d.steps;
  past = if refused then d.past else past_after_request d.past number request (c.budget - d.script.left)
      (is_faulted d.script.machine.halt);
}
