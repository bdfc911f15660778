-- The lines of a debugging script, answered one after another: how one leads to the next.
use Rattle.std.specs.Prelude.{◌≡◌, ℕ, ◌+◌, List, [], ◌∷◌, take, false}
use Rattle.std.specs.List.{flat_map}
use Rattle.std.specs.Str.Lines.{lines}
use Rattle.profile.specs.images.Entries.{Entry}
use Rattle.command_shell_lines.specs.Blocks.{block_lines, lines_after, lines_taken}
use Rattle.debug_session.specs.DebugScript.{debug_line_answer, line_opens}
use Rattle.debug_session.specs.DebugState.{DebugAnswered, DebugState, debug_start_state}
use Rattle.debug_session.specs.Session.{debug_state}
use Rattle.debug_session.specs.declared.session.DebugSettings.{DebugSettings}
use Rattle.debug_program.specs.declared.answering.AnsweredLine.{AnsweredLine}
use Rattle.debug_program.specs.declared.answering.ScriptAnswering.{ScriptAnswering}

-- Where a debugging script stands: how many lines came before, what they left, and the lines that are
-- left.
pub record ScriptPlace : Type 0 where
  pub number : ℕ
  pub state : DebugState
  pub left : List (List ℕ)

abbrev pub place_of_answering : ScriptAnswering → ScriptPlace
place_of_answering a = record {
  number = a.place.number;
  state = debug_state a.session a.images;
  left = a.place.left;
}

abbrev pub start_place : DebugSettings → List Entry → List ℕ → ScriptPlace
start_place c images script = record {
  number = 0;
  state = debug_start_state c images;
  left = lines script;
}

-- what a line is answered, with its block, of the lines behind it, where it opens one
unfoldable pub shown_with_block : DebugSettings → DebugState → ℕ → List ℕ → List (List ℕ) → DebugAnswered
shown_with_block c d number line behind = debug_line_answer c d number line (block_lines behind)

-- the place after a line and its block
abbrev pub place_after_line : ScriptPlace → List ℕ → List (List ℕ) → DebugAnswered → ScriptPlace
place_after_line p line behind reported = record {
  number = p.number + 1 + lines_taken (line_opens line) behind;
  state = reported.state;
  left = lines_after (line_opens line) behind;
}

-- The line is the first of those that were left, with its block where it opens one; it has what that
-- line is answered, and the lines after it are left.
pub record IsNextAnswered (c : DebugSettings) (before after : ScriptPlace) (answered : AnsweredLine) : Type
    0 where
  pub line : List ℕ
  pub behind : List (List ℕ)
  pub going : before.state.has_quit ≡ false
  pub first : before.left ≡ line ∷ behind
  pub own : lines answered.lines.now ≡ take (1 + lines_taken (line_opens line) behind) before.left
  pub place : after ≡ place_after_line before line behind
      (shown_with_block c before.state (before.number + 1) line behind)
  pub answer : answered.answer.items
      ≡ (shown_with_block c before.state (before.number + 1) line behind).text

-- The lines from a place on up to another, each answered where the one before it has left the script.
unfoldable pub AreAnsweredLines : DebugSettings → ScriptPlace → List AnsweredLine → ScriptPlace → Type 0
AreAnsweredLines c here [] end = here ≡ end
AreAnsweredLines c here (first ∷ rest) end =
    (next : ScriptPlace) × IsNextAnswered c here next first × AreAnsweredLines c next rest end

-- what the lines are answered, one after another
abbrev pub shown_by_lines : List AnsweredLine → List ℕ
shown_by_lines answered = flat_map (λ (a : AnsweredLine). a.answer.items) answered
