-- What a tidy line means, by whether it means something as it stands.
use Rattle.std.proofs.Common.{◌≡◌, ℕ, Bool, true, false, List, Option, Some, None, refl, ap, subst, sym, ◌∙◌}
use Rattle.std.specs.Prelude.{if◌then◌else◌}
use Rattle.std.proofs.lemmas.Bool.{not-true}
use Rattle.debug_modules.specs.DebugLabelsLines.{LineNaming}
use Rattle.command_shell_lines.specs.Requests.{opens_block}
use Rattle.debug_lines.specs.DebugRequests.{DebugRequest, Script, Stepping, Mode, Remark, View, SetPc, SetPsr, Put, Write, Forget, Counts, Reset, Quit, Expect, Repeat, NotKnown, debug_opens_block, is_known, is_repeatable, own_request, own_request_by, repeated_line, simple_request}
use Rattle.debug_lines.specs.Repeats.{repeated_text}
use Rattle.debug_session.specs.Naming.{if_repeatable, meant_request, numbered_line, repeated_with_places, unless_alone}

-- a line that may be repeated opens no block
pub repeatable_alone : (r : DebugRequest) → is_repeatable r ≡ true → debug_opens_block r ≡ false
repeatable_alone (Script request) may = not-true (opens_block request) may
repeatable_alone (Stepping is_traced request) may = refl
repeatable_alone (Mode request) may = refl
repeatable_alone (Put name address) may = refl
repeatable_alone (Write address count named) may = refl
repeatable_alone Remark may = refl
repeatable_alone (View shown) may = refl
repeatable_alone (SetPc address) may = refl
repeatable_alone (SetPsr pattern) may = refl
repeatable_alone (Forget name) may = refl
repeatable_alone (Counts name) may = refl
repeatable_alone Reset may = refl
repeatable_alone Quit may = refl
repeatable_alone (Expect expected) may = refl
repeatable_alone (Repeat count line) may = refl
repeatable_alone NotKnown may = refl

-- nor does one that means nothing
pub unknown_alone : (r : DebugRequest) → is_known r ≡ false → debug_opens_block r ≡ false
unknown_alone (Script request) none = absurd (cc)
unknown_alone (Stepping is_traced request) none = refl
unknown_alone (Mode request) none = refl
unknown_alone (Put name address) none = refl
unknown_alone (Write address count named) none = refl
unknown_alone Remark none = refl
unknown_alone (View shown) none = refl
unknown_alone (SetPc address) none = refl
unknown_alone (SetPsr pattern) none = refl
unknown_alone (Forget name) none = refl
unknown_alone (Counts name) none = refl
unknown_alone Reset none = refl
unknown_alone Quit none = refl
unknown_alone (Expect expected) none = refl
unknown_alone (Repeat count line) none = refl
unknown_alone NotKnown none = refl

-- a line that means something as it stands
pub meant_known : (n : LineNaming) (line : List ℕ) → is_known (simple_request line) ≡ true
    → simple_request line ≡ meant_request n line
meant_known n line known = rw known refl

-- one that means something with numbers
pub meant_numbered : (n : LineNaming) (line numbered : List ℕ) → is_known (simple_request line) ≡ false
    → numbered ≡ numbered_line n line → is_repeatable (simple_request numbered) ≡ true
    → simple_request numbered ≡ meant_request n line
meant_numbered n line numbered unknown is may =
    rw unknown (sym (ap (λ (text : List ℕ). unless_alone (simple_request text)) (sym is) ∙ rw may refl))

-- one that means nothing
pub meant_nothing : (n : LineNaming) (line numbered : List ℕ) → is_known (simple_request line) ≡ false
    → numbered ≡ numbered_line n line → is_repeatable (simple_request numbered) ≡ false
    → NotKnown ≡ meant_request n line
meant_nothing n line numbered unknown is not =
    rw unknown (sym (ap (λ (text : List ℕ). unless_alone (simple_request text)) (sym is) ∙ rw not refl))

-- what a line asks for that is no REPEAT as it stands
pub own_simple : (o : Option (ℕ × List ℕ)) (line : List ℕ) → o ≡ repeated_line line → o ≡ None
    → own_request line ≡ simple_request line
own_simple o line is none = ap (λ (repeated : Option (ℕ × List ℕ)). own_request_by repeated line) (sym is ∙ none)

alone_same : (r : DebugRequest) (may : Bool) → is_repeatable r ≡ may → may ≡ is_repeatable (if may then r else NotKnown)
alone_same r true is = sym is
alone_same r false is = refl

-- whether a line may be repeated that means nothing as it stands
pub repeats_numbered : (n : LineNaming) (line numbered : List ℕ) → is_known (simple_request line) ≡ false
    → numbered ≡ numbered_line n line
    → is_repeatable (simple_request numbered) ≡ is_repeatable (meant_request n line)
repeats_numbered n line numbered unknown is =
    rw unknown (subst (λ (text : List ℕ). is_repeatable (simple_request numbered) ≡ is_repeatable (unless_alone (simple_request text))) is
    (alone_same (simple_request numbered) (is_repeatable (simple_request numbered)) refl))

-- what may be repeated now, and what not
pub repeated_if_may : (n : LineNaming) (r : ℕ × List ℕ) (may : Bool) → may ≡ is_repeatable (meant_request n r.1) → may ≡ true
    → Some r ≡ if_repeatable n (Some r)
repeated_if_may n r may is so = rw (sym is ∙ so) refl

pub not_repeated : (n : LineNaming) (r : ℕ × List ℕ) (may : Bool) → may ≡ is_repeatable (meant_request n r.1) → may ≡ false
    → None ≡ if_repeatable n (Some r)
not_repeated n r may is not = rw (sym is ∙ not) refl

-- what is repeated of a line that means nothing as it stands
pub with_places : (n : LineNaming) (line : List ℕ) (o : Option (ℕ × List ℕ)) → is_known (simple_request line) ≡ false
    → o ≡ repeated_text line → if_repeatable n o ≡ repeated_with_places n line
with_places n line o unknown is = rw unknown (ap (if_repeatable n) is)

-- a line behind which nothing is repeated
no_places_if : (known : Bool) (n : LineNaming) (o : Option (ℕ × List ℕ)) → o ≡ None → None ≡ (if known then None else if_repeatable n o)
no_places_if true n o none = refl
no_places_if false n o none = sym (ap (if_repeatable n) none)

pub no_places : (n : LineNaming) (line : List ℕ) (o : Option (ℕ × List ℕ)) → o ≡ repeated_text line → o ≡ None
    → None ≡ repeated_with_places n line
no_places n line o is none = no_places_if (is_known (simple_request line)) n (repeated_text line) (sym is ∙ none)
