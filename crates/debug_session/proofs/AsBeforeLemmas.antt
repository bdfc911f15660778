-- Lines of a script in a debugging session, beside the same in a script.
use Rattle.std.proofs.Common.{◌≡◌, ◌≤◌, ℕ, zero, suc, ◌+◌, Bool, true, false, List, [], ◌∷◌, ◌++◌, length, Option, None, Some, ◌⊎◌, inl, inr, ap, sym, ◌∙◌, refl, arith}
use Rattle.std.specs.Prelude.{◌&&◌, is_none, nat_lt, if◌then◌else◌}
use Rattle.std.proofs.lemmas.Bool.{cases_Bool}
use Rattle.std.proofs.lemmas.List.{append-nil}
use Rattle.debug_tables.specs.AsmError.{AsmError}
use Rattle.profile.specs.images.Entries.{Entry}
use Rattle.debug_modules.specs.BlockErrors.{block_errors, further_errors, is_assembled, next_error, with_others}
use Rattle.debug_modules.specs.BlockErrorTexts.{text_with_errors}
use Rattle.debug_modules.proofs.BlockErrorLemmas.{nothing_behind}
use Rattle.debug_tables.specs.Memory.{script_with_budget}
use Rattle.debug_tables.specs.Script.{lines_answer, request_answer}
use Rattle.debug_tables.specs.State.{Answered, ScriptState}
use Rattle.debug_tables.proofs.ScriptLemmas.{lines_after-shorter, text_end, text_step}
use Rattle.command_shell_lines.specs.Blocks.{block_lines, lines_after, lines_taken}
use Rattle.command_shell_lines.specs.Requests.{Request, Nothing, Hex, Asm, Boot, Run, Regs, Set, Poke, Call, Load, Step, Break, Unbreak, Mem, Code, Heap, Areas, Modules, Flex, Unknown, opens_block, request_of}
use Rattle.debug_lines.specs.DebugRequests.{is_script_request}
use Rattle.debug_session.specs.AsBefore.{LookingLeavesTheMachine, ScriptAsBefore, are_script_lines, stepping_lines}
use Rattle.command_shell_lines.specs.FailedBlocks.{FailedBlockPlace, block_reason, failed_after}
use Rattle.debug_modules.specs.Checks.{check_answer}
use Rattle.debug_modules.specs.Reports.{answer_in}
use Rattle.debug_modules.specs.ReportForm.{ReportForm}
use Rattle.debug_modules.specs.Modes.{takes_over}
use Rattle.debug_session.specs.DebugScript.{checked_answer, state_after_line, state_with_answer, plain_line_answer, seen_of, some_lines_answer, answer_or_refused, failed_with_block, with_block_noted, with_line_below}
use Rattle.debug_lines.specs.LineKinds.{asks_nothing, is_refused_block, takes_steps}
use Rattle.debug_session.specs.DebugState.{DebugAnswered, DebugState, then_debugged}
use Rattle.debug_modules.specs.ReportForm.TheVariants.{Answers}
use Rattle.debug_session.specs.declared.session.DebugSettings.{DebugSettings}
use Rattle.debug_session.proofs.UnreadLemmas.{IsUnread, budget_unread}

-- what is shown of a line, refused or not
answer_text : (c : DebugSettings) (d after : DebugState) (number : ℕ) (refused : Bool) (text : List ℕ) → c.form ≡ Answers
    → (answer_or_refused c d number refused after text).text ≡ text
answer_text c d after number true text form = rw (form) refl
answer_text c d after number false text form = rw (form) refl

answer_script : (c : DebugSettings) (d after : DebugState) (number : ℕ) (refused : Bool) (text : List ℕ)
    → (answer_or_refused c d number refused after text).state.script ≡ after.script
answer_script c d after number true text = refl
answer_script c d after number false text = refl

answer_modes : (c : DebugSettings) (d after : DebugState) (number : ℕ) (refused : Bool) (text : List ℕ)
    → (answer_or_refused c d number refused after text).state.modes ≡ after.modes
answer_modes c d after number true text = refl
answer_modes c d after number false text = refl

answer_failed : (c : DebugSettings) (d after : DebugState) (number : ℕ) (refused : Bool) (text : List ℕ)
    → (answer_or_refused c d number refused after text).state.failed ≡ after.failed
answer_failed c d after number true text = refl
answer_failed c d after number false text = refl

answer_quit : (c : DebugSettings) (d after : DebugState) (number : ℕ) (refused : Bool) (text : List ℕ)
    → (answer_or_refused c d number refused after text).state.has_quit ≡ after.has_quit
answer_quit c d after number true text = refl
answer_quit c d after number false text = refl

noted_by_if : (c : DebugSettings) (d : DebugState) (number : ℕ) (r : Request) (reported : Answered) (block : List (List ℕ)) (nothing : Bool)
    → (if nothing then record d { script = reported.state } else state_with_answer c d number r reported block).script ≡ reported.state
noted_by_if c d number r reported block true = refl
noted_by_if c d number r reported block false = refl

quit_by_if : (c : DebugSettings) (d : DebugState) (number : ℕ) (r : Request) (reported : Answered) (block : List (List ℕ)) (nothing : Bool)
    → (if nothing then record d { script = reported.state } else state_with_answer c d number r reported block).has_quit ≡ d.has_quit
quit_by_if c d number r reported block true = refl
quit_by_if c d number r reported block false = refl

failed_by_if : (c : DebugSettings) (d : DebugState) (number : ℕ) (r : Request) (reported : Answered) (block : List (List ℕ)) (nothing : Bool)
    → (if nothing then record d { script = reported.state } else state_with_answer c d number r reported block).failed ≡ d.failed
failed_by_if c d number r reported block true = refl
failed_by_if c d number r reported block false = refl

modes_by_if : (c : DebugSettings) (d : DebugState) (number : ℕ) (r : Request) (reported : Answered) (block : List (List ℕ)) (nothing : Bool)
    → (if nothing then record d { script = reported.state } else state_with_answer c d number r reported block).modes ≡ d.modes
modes_by_if c d number r reported block true = refl
modes_by_if c d number r reported block false = refl

-- two scripts that differ in their budgets alone, if at all
SameBut : ℕ → ScriptState → ScriptState → Type 0
SameBut b s t = script_with_budget s b ≡ script_with_budget t b

-- a line of a script, shown in a session and in a script that differs in the budget alone
record IsAnswer (c : DebugSettings) (d : DebugState) (reported : Answered) (first : DebugAnswered) : Type 0 where
  text : first.text ≡ reported.text
  script : SameBut c.budget first.state.script reported.state
  quit : first.state.has_quit ≡ d.has_quit
  modes : first.state.modes ≡ d.modes
  failed : first.state.failed ≡ d.failed

with_own_budget : (s : ScriptState) (b : ℕ) → s.left ≡ b → script_with_budget s b ≡ s
with_own_budget s b own = ap (λ (n : ℕ). script_with_budget s n) (sym own)

-- one that takes steps, where the budgets are the same
answer_stepping : (c : DebugSettings) (d : DebugState) (s : ScriptState) (number : ℕ) (r : Request) (block : List (List ℕ))
    → c.form ≡ Answers → is_assembled r block ≡ true → SameBut c.budget d.script s → s.left ≡ c.budget
    → IsAnswer c d (request_answer s number r block) (plain_line_answer c d number r block)
unfolding SameBut
answer_stepping c d s number r block form assembled same whole =
    let with_budget : ScriptState = script_with_budget d.script c.budget in
    let reported : Answered = request_answer with_budget number r block in
    let refused : Bool = is_refused_block d.script.images reported.state.images r in
    let shown : List ℕ = text_with_errors refused number r block reported.text in
    let behind : shown ≡ reported.text = nothing_behind refused number r block reported.text assembled in
    let is : with_budget ≡ s = same ∙ with_own_budget s c.budget whole in
    let answers : reported ≡ request_answer s number r block = ap (λ (t : ScriptState). request_answer t number r block) is in
    record {
      text = answer_text c d (state_after_line c d number r reported block) number refused shown form ∙ behind ∙ ap (λ (a : Answered). a.text) answers;
      script = ap (λ (t : ScriptState). script_with_budget t c.budget)
          (answer_script c d (state_after_line c d number r reported block) number refused shown ∙ noted_by_if c d number r reported block (asks_nothing r)
          ∙ ap (λ (a : Answered). a.state) answers);
      quit = answer_quit c d (state_after_line c d number r reported block) number refused shown ∙ quit_by_if c d number r reported block (asks_nothing r);
      modes = answer_modes c d (state_after_line c d number r reported block) number refused shown ∙ modes_by_if c d number r reported block (asks_nothing r);
      failed = answer_failed c d (state_after_line c d number r reported block) number refused shown ∙ failed_by_if c d number r reported block (asks_nothing r);
    }

-- one that takes none
answer_still : (c : DebugSettings) (d : DebugState) (s : ScriptState) (number : ℕ) (r : Request) (block : List (List ℕ))
    → c.form ≡ Answers → is_assembled r block ≡ true → SameBut c.budget d.script s → takes_steps r ≡ false
    → IsAnswer c d (request_answer s number r block) (plain_line_answer c d number r block)
unfolding SameBut
answer_still c d s number r block form assembled same none =
    let reported : Answered = request_answer (script_with_budget d.script c.budget) number r block in
    let refused : Bool = is_refused_block d.script.images reported.state.images r in
    let shown : List ℕ = text_with_errors refused number r block reported.text in
    let behind : shown ≡ reported.text = nothing_behind refused number r block reported.text assembled in
    let other : Answered = request_answer (script_with_budget s c.budget) number r block in
    let answers : reported ≡ other = ap (λ (t : ScriptState). request_answer t number r block) same in
    let unread : IsUnread s c.budget (request_answer s number r block) other = budget_unread s c.budget number r block none in
    record {
      text = answer_text c d (state_after_line c d number r reported block) number refused shown form ∙ behind
          ∙ ap (λ (a : Answered). a.text) answers ∙ unread.text;
      script = ap (λ (t : ScriptState). script_with_budget t c.budget)
          (answer_script c d (state_after_line c d number r reported block) number refused shown ∙ noted_by_if c d number r reported block (asks_nothing r)
          ∙ ap (λ (a : Answered). a.state) answers ∙ unread.state);
      quit = answer_quit c d (state_after_line c d number r reported block) number refused shown ∙ quit_by_if c d number r reported block (asks_nothing r);
      modes = answer_modes c d (state_after_line c d number r reported block) number refused shown ∙ modes_by_if c d number r reported block (asks_nothing r);
      failed = answer_failed c d (state_after_line c d number r reported block) number refused shown ∙ failed_by_if c d number r reported block (asks_nothing r);
    }

-- an answer to a line of a script in a session, as its text and state
with_note : DebugSettings → DebugState → ℕ → Request → List (List ℕ) → DebugAnswered
with_note c d number r block = with_line_below c (block_reason d.failed d.script.images r)
    (plain_line_answer c (with_block_noted d number r block) number r block)

-- the first line of some, and the others
one_line : (n : ℕ) (c : DebugSettings) (number : ℕ) (d : DebugState) (line : List ℕ) (rest : List (List ℕ))
    → d.has_quit ≡ false → takes_over d.modes ≡ false → is_script_request (request_of line) ≡ true
    → some_lines_answer (suc n) c number d (line ∷ rest)
    ≡ then_debugged (with_note c d (number + 1) (request_of line) (block_lines rest))
    (λ after. some_lines_answer n c (number + 1 + lines_taken (opens_block (request_of line)) rest) after
    (lines_after (opens_block (request_of line)) rest))
unfolding some_lines_answer with_note
one_line n c number d line rest quit plain is = rw (quit, is, plain) refl

no_others : (o : Option AsmError) (more : List AsmError → List AsmError) → is_none o ≡ true → with_others [] more o ≡ []
no_others None more is = refl
no_others (Some e) more is = absurd (cc)

no_error : (n origin : ℕ) (lines : List (List ℕ)) → is_none (next_error [] lines origin) ≡ true → further_errors n lines origin [] ≡ []
unfolding further_errors
no_error zero origin lines is = refl
no_error (suc n) origin lines is = no_others (next_error [] lines origin) (further_errors n lines origin) is

no_errors : (block : List (List ℕ)) (origin : ℕ) → is_none (next_error [] block origin) ≡ true → block_errors block origin ≡ []
no_errors block origin is = no_error 21 origin block is

-- no block has errors, and so none had
none_failed : (number : ℕ) (r : Request) (block : List (List ℕ)) → is_assembled r block ≡ true → failed_with_block [] number r block ≡ []
none_failed number (Asm name origin) block assembled =
    ap (λ (errors : List AsmError). failed_after [] name number (nat_lt 0 (length errors)))
    (no_errors block origin assembled)
none_failed number (Hex name) block assembled = refl
none_failed number Nothing block assembled = refl
none_failed number (Boot name) block assembled = refl
none_failed number Run block assembled = refl
none_failed number Regs block assembled = refl
none_failed number (Set register value) block assembled = refl
none_failed number (Poke address value) block assembled = refl
none_failed number (Call called) block assembled = refl
none_failed number (Load text) block assembled = refl
none_failed number (Step count) block assembled = refl
none_failed number (Break address) block assembled = refl
none_failed number (Unbreak address) block assembled = refl
none_failed number (Mem address count) block assembled = refl
none_failed number (Code address count) block assembled = refl
none_failed number (Heap address) block assembled = refl
none_failed number Areas block assembled = refl
none_failed number Modules block assembled = refl
none_failed number Flex block assembled = refl
none_failed number Unknown block assembled = refl

no_reason : (images : List Entry) (r : Request) → block_reason [] images r ≡ []
no_reason images Nothing = refl
no_reason images (Hex name) = refl
no_reason images (Asm name origin) = refl
no_reason images (Boot name) = refl
no_reason images Run = refl
no_reason images Regs = refl
no_reason images (Set register value) = refl
no_reason images (Poke address value) = refl
no_reason images (Call called) = refl
no_reason images (Load text) = refl
no_reason images (Step count) = refl
no_reason images (Break address) = refl
no_reason images (Unbreak address) = refl
no_reason images (Mem address count) = refl
no_reason images (Code address count) = refl
no_reason images (Heap address) = refl
no_reason images Areas = refl
no_reason images Modules = refl
no_reason images Flex = refl
no_reason images Unknown = refl

-- nothing stands below an answer where no block had errors
nothing_below : (c : DebugSettings) (images : List Entry) (failed : List FailedBlockPlace) (r : Request) (text : List ℕ)
    → c.form ≡ Answers → failed ≡ [] → text ++ answer_in c.form (block_reason failed images r) ≡ text
nothing_below c images failed r text form none =
    ap (λ (f : ReportForm). text ++ answer_in f (block_reason failed images r)) form
    ∙ ap (λ (fs : List FailedBlockPlace). text ++ block_reason fs images r) none
    ∙ ap (λ (xs : List ℕ). text ++ xs) (no_reason images r) ∙ append-nil text

-- Where a script and a session stand: they differ in the budget alone, and no line that is left takes
-- steps, or the script has its whole budget, and one line at most takes steps.
Stands : DebugSettings → DebugState → ScriptState → ℕ → Type 0
Stands c d s count = SameBut c.budget d.script s × ((count ≡ 0) ⊎ ((s.left ≡ c.budget) × (count ≤ 1)))

-- one line more
plain_stands_after : (c : DebugSettings) (d : DebugState) (s : ScriptState) (number more : ℕ) (r : Request) (block : List (List ℕ))
    → c.form ≡ Answers → is_assembled r block ≡ true → Stands c d s ((if takes_steps r then 1 else 0) + more)
    → IsAnswer c d (request_answer s number r block) (plain_line_answer c d number r block)
    × Stands c (plain_line_answer c d number r block).state (request_answer s number r block).state more
unfolding Stands
plain_stands_after c d s number more r block form assembled stands = elim (cases_Bool (takes_steps r)) [
  | inl steps ↦ elim stands.1 [
    | inl none ↦ absurd (grind (arith, none, steps))
    | inr whole ↦
        let reported = answer_stepping c d s number r block form assembled stands.0 whole.0 in
        (reported, (reported.script, inl (grind (arith, whole.1, steps))))
  ]
  | inr still ↦
      let reported = answer_still c d s number r block form assembled stands.0 still in
      let unread = budget_unread s c.budget number r block still in (
        reported,
        (
          reported.script,
          elim stands.1 [
            | inl none ↦ inl (grind (arith, none, still))
            | inr whole ↦ inr (unread.left ∙ whole.0, grind (arith, whole.1, still))
          ],
        ),
      )
]

stands_after : (c : DebugSettings) (d : DebugState) (s : ScriptState) (number more : ℕ) (r : Request) (block : List (List ℕ))
    → c.form ≡ Answers → d.failed ≡ [] → is_assembled r block ≡ true → Stands c d s ((if takes_steps r then 1 else 0) + more)
    → IsAnswer c d (request_answer s number r block) (with_note c d number r block)
    × Stands c (with_note c d number r block).state (request_answer s number r block).state more
unfolding with_note Stands
stands_after c d s number more r block form none assembled stands =
    let noted : DebugState = with_block_noted d number r block in
    let step = plain_stands_after c noted s number more r block form assembled stands in
    let first : DebugAnswered = plain_line_answer c noted number r block in
    let still : noted.failed ≡ [] = ap (λ (fs : List FailedBlockPlace). failed_with_block fs number r block) none ∙ none_failed number r block assembled in (
      record {
        text = nothing_below c d.script.images d.failed r first.text form none ∙ step.0.text;
        script = step.0.script;
        quit = step.0.quit;
        modes = step.0.modes;
        failed = step.0.failed ∙ still ∙ sym none;
      },
      step.1,
    )

first_of : (a b : Bool) → a && b ≡ true → a ≡ true
first_of true b is = refl
first_of false b is = absurd (cc)

second_of : (a b : Bool) → a && b ≡ true → b ≡ true
second_of true b is = is
second_of false b is = absurd (cc)

nothing_left : (n : ℕ) (c : DebugSettings) (number : ℕ) (d : DebugState) → (some_lines_answer n c number d []).text ≡ []
unfolding some_lines_answer
nothing_left zero c number d = refl
nothing_left (suc n) c number d = refl

as_before : (n : ℕ) (c : DebugSettings) (number : ℕ) (d : DebugState) (s : ScriptState) (left : List (List ℕ))
    → c.form ≡ Answers → d.has_quit ≡ false → takes_over d.modes ≡ false → d.failed ≡ [] → length left ≤ n → are_script_lines n left ≡ true
    → Stands c d s (stepping_lines n left)
    → (some_lines_answer n c number d left).text ≡ (lines_answer number s None left).text
unfolding are_script_lines stepping_lines
as_before n c number d s [] form quit plain none enough are stands =
    nothing_left n c number d ∙ sym (text_end number s)
as_before zero c number d s (line ∷ rest) form quit plain none enough are stands = absurd (omega (arith, enough))
as_before (suc n) c number d s (line ∷ rest) form quit plain none enough are stands =
    let r : Request = request_of line in
    let next : ℕ = number + 1 + lines_taken (opens_block r) rest in
    let after : List (List ℕ) = lines_after (opens_block r) rest in
    let others_are : Bool = is_assembled r (block_lines rest) && are_script_lines n after in
    let is : is_script_request r ≡ true = first_of (is_script_request r) others_are are in
    let those : others_are ≡ true = second_of (is_script_request r) others_are are in
    let assembled : is_assembled r (block_lines rest) ≡ true = first_of (is_assembled r (block_lines rest)) (are_script_lines n after) those in
    let first : DebugAnswered = with_note c d (number + 1) r (block_lines rest) in
    let reported : Answered = request_answer s (number + 1) r (block_lines rest) in
    let step = stands_after c d s (number + 1) (stepping_lines n after) r (block_lines rest) form none assembled stands in
    let others : (some_lines_answer n c next first.state after).text ≡ (lines_answer next reported.state None after).text =
    as_before n c next first.state reported.state after form (step.0.quit ∙ quit)
    (ap takes_over step.0.modes ∙ plain) (step.0.failed ∙ none)
    (omega (arith, enough, lines_after-shorter (opens_block r) rest))
    (second_of (is_assembled r (block_lines rest)) (are_script_lines n after) those) step.1 in
    ap (λ (a : DebugAnswered). a.text) (one_line n c number d line rest quit plain is)
    ∙ ap (λ (xs : List ℕ). xs ++ (some_lines_answer n c next first.state after).text) step.0.text
    ∙ ap (λ (xs : List ℕ). reported.text ++ xs) others
    ∙ sym (text_step number (number + 1) next s reported.state line rest after r refl refl refl refl refl)

pub script_as_before : ScriptAsBefore
unfolding Stands SameBut
script_as_before c number d left form quit plain none whole are few =
    as_before (length left) c number d d.script left form quit plain none (omega arith) are (refl, inr (whole, few))

checked : (c : DebugSettings) (d : DebugState) (number : ℕ) (words : List ℕ) (reason : Option (List ℕ))
    → (checked_answer c d number words reason).state.script ≡ d.script
checked c d number words None = refl
checked c d number words (Some reason) = refl

pub looking_leaves_the_machine : LookingLeavesTheMachine
looking_leaves_the_machine c d number words block = record {
  shown = λ view. record { script = refl };
  expected = λ e. record { script = checked c d number words (check_answer (seen_of d) e) };
}
