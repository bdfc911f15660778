-- The reason that was gathered in memory, by the line with numbers.
use Rattle.std.proofs.Common.{◌≡◌, ℕ, List, [], ◌++◌, Some, Result, ap, ◌∙◌}
use Rattle.std.specs.Prelude.{Ok, Err, OnOk}
use Rattle.std.specs.Io.KnownBytes.{Appends}
use Rattle.command_shell_lines.specs.Requests.{words}
use Rattle.command_shell_lines.specs.debug_words.Forms.{form_of_line}
use Rattle.debug_modules.specs.DebugLabelsLines.{line_with_numbers, unnumbered_word}
use Rattle.debug_modules.specs.Reasons.{form_text, reason_by_word}
use Rattle.debug_modules.specs.Words.{Naming}
use Rattle.debug_modules.specs.Places.{line_naming_on}
use Rattle.debug_tables.specs.Value.{MachineValue}
use Rattle.debug_tables.specs.GuestState.{state_of}
use Rattle.debug_session.specs.Session.{debug_state}
use Rattle.debug_session.proofs.session.DebugSession.refusal_reason.Goals as goal

gathered_reason : {A E : Type 0} (r : Result A E) (a : A) (start held bytes reason : List ℕ) → r ≡ Ok a → start ≡ []
    → bytes ≡ held → OnOk r (Appends (Some start) (Some held) reason) → bytes ≡ reason
gathered_reason (Ok b) a start held bytes reason is none same written = same ∙ written ∙ ap (λ (xs : List ℕ). xs ++ reason) none
gathered_reason (Err e) a start held bytes reason is none same written = absurd (cc)

pub returns-in-Ok : goal.returns-in-Ok
returns-in-Ok c images =
    let d = debug_state c.args.self.now images in
    let form = form_text (form_of_line (words c.args.words.now)) in
    gathered_reason c.push_reason.result c.in-Ok.field-0 c.new-text.result.bytes.items c.push_reason.new.sink.bytes.items
    c.into_bytes.result.items
    (reason_by_word c.names_on-names.result.labels form (unnumbered_word (words c.as_slice.result.now)))
    c.in-Ok.is c.new-text.ensures c.into_bytes.ensures c.push_reason.ensures.text
    ∙ ap (λ (n : Naming). reason_by_word n.labels form (unnumbered_word (words c.as_slice.result.now))) c.names_on-names.ensures
    ∙ ap (λ (xs : List ℕ). reason_by_word d.labels form (unnumbered_word (words xs)))
    (c.as_slice.ensures.value ∙ c.in_ok-numbered.ensures
    ∙ ap (λ (m : MachineValue). line_with_numbers (line_naming_on d.labels (state_of m.guest)) c.args.words.now)
    c.machine-2.ensures)
