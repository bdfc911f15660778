-- A line that goes back or looks into the past, and one that is none of the language.
use Rattle.std.proofs.Common.{◌≡◌, ℕ, List, [], Option, Some, None, Result, ap, subst, sym, ◌∙◌}
use Rattle.std.specs.Prelude.{OnOk, unwrap_or}
use Rattle.std.specs.Option.{option_map}
use Rattle.debug_tables.specs.State.{ScriptState}
use Rattle.debug_modules.specs.DebugHistoryAnswers.{PastAnswered, past_after_past, past_line_answered, script_after_past}
use Rattle.debug_modules.specs.Past.{PastState}
use Rattle.debug_session.specs.DebugScript.{module_line_answer, past_line_by, past_line_or_steps, view_answer}
use Rattle.debug_session.specs.LastSteps.{last_steps_answer}
use Rattle.debug_session.specs.DebugState.{DebugAnswered, DebugState, IsDebugged}
use Rattle.debug_session.specs.declared.session.DebugSettings.{DebugSettings}

-- the state that such a line leaves, before it is answered
abbrev moved : DebugState → Option PastAnswered → DebugState
moved d o = record d { script = script_after_past d.script o; past = past_after_past d.past o }

pub past_moved : (d : DebugState) (s : ScriptState) (p : PastState) (o : Option PastAnswered)
    → s ≡ script_after_past d.script o → p ≡ past_after_past d.past o
    → record d { script = s; past = p } ≡ moved d o
past_moved d s p o script past = λ i. record d { script = script i; past = past i }

pub past_shown : {A E : Type 0} (result : Result A E) (before after : Option (List ℕ)) (c : DebugSettings)
    (d mid now : DebugState) (number : ℕ) (line bytes : List ℕ)
    (o : Option PastAnswered) → Some bytes ≡ option_map (λ a. a.text) o → mid ≡ moved d o
    → OnOk result (IsDebugged before after now (view_answer c mid bytes))
    → OnOk result (IsDebugged before after now (past_line_by c d number line o))
past_shown result before after c d mid now number line bytes None is same shown = absurd (cc)
past_shown result before after c d mid now number line bytes (Some a) is same shown =
    let text : bytes ≡ a.text = ap (λ (o : Option (List ℕ)). unwrap_or o []) is in
    subst (λ (x : DebugAnswered). OnOk result (IsDebugged before after now x))
    (ap (λ (x : DebugState). view_answer c x bytes) same
    ∙ ap (λ (xs : List ℕ). view_answer c (record d { script = a.script; past = a.past }) xs) text) shown

pub past_refused : (c : DebugSettings) (d mid : DebugState) (number : ℕ) (line : List ℕ) (o : Option PastAnswered)
    → option_map (λ a. a.text) o ≡ None → mid ≡ moved d o
    → module_line_answer c mid number line ≡ past_line_by c d number line o
past_refused c d mid number line None is same = ap (λ (x : DebugState). module_line_answer c x number line) same
past_refused c d mid number line (Some a) is same = absurd (cc)

-- LAST STEPS, where it is asked for
pub steps_viewed : {A E : Type 0} (result : Result A E) (before after : Option (List ℕ)) (c : DebugSettings)
    (d mid now : DebugState) (number : ℕ) (line text : List ℕ)
    (o : Option ℕ) (count : ℕ) → o ≡ Some count → mid ≡ d → text ≡ last_steps_answer c d count
    → OnOk result (IsDebugged before after now (view_answer c mid text))
    → OnOk result (IsDebugged before after now (past_line_or_steps c d number line o))
steps_viewed result before after c d mid now number line text o count is same said shown =
    subst (λ (x : Option ℕ). OnOk result (IsDebugged before after now (past_line_or_steps c d number line x))) (sym is)
    (subst (λ (x : DebugAnswered). OnOk result (IsDebugged before after now x)) (λ i. view_answer c (same i) (said i)) shown)

pub steps_not_asked : {A E : Type 0} (result : Result A E) (before after : Option (List ℕ)) (c : DebugSettings)
    (d now : DebugState) (number : ℕ) (line : List ℕ)
    (o : Option ℕ) → o ≡ None
    → OnOk result (IsDebugged before after now (past_line_by c d number line (past_line_answered d.labels c.config c.budget d.script d.past line)))
    → OnOk result (IsDebugged before after now (past_line_or_steps c d number line o))
steps_not_asked result before after c d now number line o none shown =
    subst (λ (x : Option ℕ). OnOk result (IsDebugged before after now (past_line_or_steps c d number line x))) (sym none) shown
