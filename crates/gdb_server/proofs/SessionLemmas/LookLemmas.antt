-- Looking changes nothing.
use Rattle.std.proofs.Common.{◌≡◌, false, [], refl, ap, ◌∙◌}
use Rattle.std.specs.Prelude.{ℕ, List, Option, Some}
use Rattle.command_shell_lines.specs.Requests.{request_of}
use Rattle.debug_session.specs.DebugRequests.{DebugRequest, Expect, View, is_script_request}
use Rattle.debug_session.specs.Tidy.{tidied_line}
use Rattle.debug_session.specs.DebugScript.{debug_line_answer, simple_request_answer, tidy_line_answer, tidy_line_answer_by}
use Rattle.debug_session.specs.DebugState.{DebugAnswered}
use Rattle.debug_session.proofs.AsBeforeLemmas.{looking_leaves_the_machine}
use Rattle.gdb_server.specs.session.Laws.{GdbLookingChangesNothing, LineAsks, LookingLinesLeaveTheMachine}
use Rattle.gdb_server.specs.session.Requests.{gdb_answered, look_or_act}
use Rattle.gdb_server.specs.session.Runs.{line_decoded, without_quit}
use Rattle.gdb_server.specs.session.State.{GdbState}

pub looking_changes_nothing : GdbLookingChangesNothing
unfolding gdb_answered
looking_changes_nothing g asked reply looks =
    ap (λ (o : Option (List ℕ)). look_or_act o g asked) looks

-- a line that is none of a script is made tidy
own_line : (g : GdbState) (line : List ℕ) → is_script_request (request_of line) ≡ false
    → debug_line_answer g.setting (without_quit g.debug) 0 line [] ≡ tidy_line_answer g.setting (without_quit g.debug) 0 (tidied_line line) []
own_line g line own = rw own refl

-- and one that isn't repeated is answered by what it means
line_asks : (g : GdbState) (line : List ℕ) (asked : DebugRequest) → LineAsks g line asked
    → (line_decoded g (Some line)).state.debug.script
    ≡ (simple_request_answer g.setting (without_quit g.debug) 0 (tidied_line line) asked []).state.script
line_asks g line asked asks =
    ap (λ (a : DebugAnswered). a.state.script) (own_line g line asks.own
    ∙ ap (λ (o : Option (ℕ × List ℕ)). tidy_line_answer_by o g.setting (without_quit g.debug) 0 (tidied_line line) []) asks.once
    ∙ ap (λ (r : DebugRequest). simple_request_answer g.setting (without_quit g.debug) 0 (tidied_line line) r []) asks.meant)

pub looking_lines : LookingLinesLeaveTheMachine
looking_lines g line = record {
  shown = λ view asks. line_asks g line (View view) asks
      ∙ ((looking_leaves_the_machine g.setting (without_quit g.debug) 0 (tidied_line line) []).shown view).script;
  expected = λ e asks. line_asks g line (Expect e) asks
      ∙ ((looking_leaves_the_machine g.setting (without_quit g.debug) 0 (tidied_line line) []).expected e).script;
}
