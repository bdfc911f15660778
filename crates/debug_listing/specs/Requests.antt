-- The lines that have to do with the code of modules, and with the errors of calls.
use Rattle.std.specs.Prelude.{ℕ, ◌+◌, ◌==◌, ◌||◌, Bool, true, false, is_some, List, [], length, drop, codes, Option, Some, None, if◌then◌else◌}
use Rattle.std.specs.Option.{option_map}
use Rattle.std.specs.List.{position}
use Rattle.command_shell_lines.specs.Numbers.{script_number}
use Rattle.command_shell_lines.specs.Requests.{is_same_word}
use Rattle.command_shell_lines.specs.debug_words.Texts.{front_before, text_behind}
use Rattle.instances_table.specs.declared.parts.ModuleInfo.{ModuleInfo}
use Rattle.debug_listing.specs.declared.requests.ModuleRequest.{ModuleRequest}
use Rattle.debug_listing.specs.declared.requests.ModuleRequest.TheVariants as line

-- what is only shown: the commands of all modules, the listing of an image, where the images of two names differ, or
-- what a module says of itself
pub data ModuleView : Type 0 where
  Commands : ModuleView
  Listing : List ℕ → ModuleView
  Compare : List ℕ → List ℕ → ModuleView
  Description : ModuleInfo → ModuleView

pub data ModuleAsked : Type 0 where
  -- a command's name, and what stands behind it
  Command : List ℕ → List ℕ → ModuleAsked
  -- a service call's number, and a title, which is empty for all modules
  Service : ℕ → List ℕ → ModuleAsked
  -- whether errors are explained
  Explain : Bool → ModuleAsked
  -- nothing but a text
  Form : ModuleView → ModuleAsked

-- the lines that the code tells apart, as what they ask for
abbrev pub module_request_of : ModuleRequest → ModuleAsked
module_request_of (line.Command name tail) = Command name.now tail.now
module_request_of (line.Service service title) = Service service title.now
module_request_of line.Commands = Form Commands
module_request_of (line.Explain is_on) = Explain is_on
module_request_of (line.Listing name) = Form (Listing name.now)
module_request_of (line.Compare one other) = Form (Compare one.now other.now)

-- the word before the first space (32), and what stands behind that
abbrev pub behind_place : Option ℕ → List ℕ → List ℕ
behind_place (Some place) text = drop (place + 1) text
behind_place None text = []

abbrev pub word_in_front : List ℕ → List ℕ
word_in_front text = front_before (position (λ b. b == 32) text) text

abbrev pub text_behind_word : List ℕ → List ℕ
text_behind_word text = behind_place (position (λ b. b == 32) text) text

-- `COMMAND name tail`
abbrev pub command_request : List ℕ → ModuleAsked
command_request text = Command (word_in_front text) (text_behind_word text)

-- `SERVICE n`, `SERVICE n Title`
abbrev pub service_request : List ℕ → Option ModuleAsked
service_request text =
    option_map (λ service. Service service (text_behind_word text)) (script_number (word_in_front text))

-- `COMPARE name other`: of two names, and no word more
abbrev pub compare_request : List ℕ → Option ModuleAsked
compare_request text = let other = text_behind_word text in
    if length other == 0 || is_some (position (λ b. b == 32) other) then None
    else Some (Form (Compare (word_in_front text) other))

-- `COMMANDS`, `WHY ON`, `WHY OFF`
abbrev pub whole_request : List ℕ → Option ModuleAsked
whole_request line =
    if is_same_word line (codes "COMMANDS") then Some (Form Commands) else (
    if is_same_word line (codes "WHY ON") then Some (Explain true) else (
    if is_same_word line (codes "WHY OFF") then Some (Explain false) else
    None))

-- what a tidy line asks for, if it has to do with the code of modules or with the errors of calls
abbrev pub compare_asked : List ℕ → Option (List ℕ) → Option ModuleAsked
compare_asked line (Some text) = compare_request text
compare_asked line None = whole_request line

abbrev pub listing_asked : List ℕ → Option (List ℕ) → Option ModuleAsked
listing_asked line (Some name) = Some (Form (Listing name))
listing_asked line None = compare_asked line (text_behind (codes "COMPARE ") line)

abbrev pub service_asked : List ℕ → Option (List ℕ) → Option ModuleAsked
service_asked line (Some text) = service_request text
service_asked line None = listing_asked line (text_behind (codes "LISTING ") line)

abbrev pub command_asked : List ℕ → Option (List ℕ) → Option ModuleAsked
command_asked line (Some text) = Some (command_request text)
command_asked line None = service_asked line (text_behind (codes "SERVICE ") line)

abbrev pub module_request : List ℕ → Option ModuleAsked
module_request line = command_asked line (text_behind (codes "COMMAND ") line)
