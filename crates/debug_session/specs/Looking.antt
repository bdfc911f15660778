-- What a session reads a line as, for those who show it.
use Rattle.std.specs.Prelude.{ℕ, List, if◌then◌else◌}
use Rattle.debug_modules.specs.DebugLabelsLines.{LineNaming}
use Rattle.debug_lines.specs.DebugRequests.{is_known, simple_request}
use Rattle.debug_session.specs.Naming.{numbered_line}

-- a tidy line that means something as it stands, or else with the numbers of the places that it names
abbrev pub words_meant : LineNaming → List ℕ → List ℕ
words_meant n words = if is_known (simple_request words) then words else numbered_line n words
