use Rattle.std.proofs.Common.{ℕ, List, ap, ◌∙◌, ◌++◌}
use Rattle.command_shell_lines.specs.debug_words.Texts.{before_quote}
use Rattle.debug_modules.specs.DebugLabelsLines.{line_with_numbers}
use Rattle.debug_modules.specs.Places.{line_naming_on}
use Rattle.debug_tables.specs.GuestState.{state_of}
use Rattle.debug_tables.specs.Value.{MachineValue}
use Rattle.debug_session.specs.Naming.{naming_of}
use Rattle.debug_session.specs.Session.{debug_state}
use Rattle.debug_session.proofs.session.DebugSession.with_numbers.Goals as goal

pub returns : goal.returns
returns c images =
    let naming = naming_of (debug_state c.args.self.now images) in
    let front = c.cut_at_quote.result.0.now in
    let back = c.cut_at_quote.result.1.now in
    c.in_ok-extend_from_slice.ensures.items
    ∙ ap (λ (xs : List ℕ). xs ++ back) (c.in_ok-numbered.ensures
    ∙ ap (λ (m : MachineValue). line_with_numbers (line_naming_on c.args.self.now.labels (state_of m.guest)) front) c.machine-machine.ensures
    ∙ ap (λ (xs : List ℕ). line_with_numbers naming xs) c.cut_at_quote.ensures.front)
    ∙ ap (λ (xs : List ℕ). line_with_numbers naming (before_quote c.args.line.now) ++ xs) c.cut_at_quote.ensures.text
