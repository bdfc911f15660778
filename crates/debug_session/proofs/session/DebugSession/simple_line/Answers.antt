-- A line by what it means as it stands, or with numbers.
use Rattle.std.proofs.Common.{◌≡◌, ℕ, ◌+◌, Bool, ap, refl, sym, subst, ◌∙◌}
use Rattle.std.specs.Prelude.{OnOk}
use Rattle.command_shell_lines.specs.Blocks.{block_lines, lines_after, lines_taken}
use Rattle.debug_lines.specs.DebugRequests.{DebugRequest, NotKnown, debug_opens_block, debug_request_of_command, is_known, is_repeatable, simple_request}
use Rattle.debug_session.specs.DebugScript.{past_line_answer}
use Rattle.debug_session.specs.DebugState.{IsDebugged}
use Rattle.debug_session.specs.Naming.{meant_request, naming_of}
use Rattle.debug_session.specs.Session.{debug_state}
use Rattle.debug_session.proofs.NamingLemmas.{meant_known, meant_nothing, meant_numbered, repeatable_alone, unknown_alone}
use Rattle.debug_session.proofs.OwnLemmas.{asked_if}
use Rattle.debug_session.proofs.EndLemmas.{ends_unwritten}
use Rattle.debug_tables.specs.RunError.TheVariants.{Memory}
use Rattle.debug_session.proofs.session.DebugSession.simple_line.Goals as goal

pub returns-then-is_known-clause-reported : goal.returns-then-is_known-clause-reported
returns-then-is_known-clause-reported g c =
    let d = debug_state c.args.self.now c.args.images.now in
    let line = c.args.words.now in
    let read = c.simple_command-command.ensures in
    asked_if c.known_line.result _ _ _ d c.args.self.now.setting c.args.script.now.number line
    (block_lines c.args.script.now.left) (debug_request_of_command c.simple_command-command.result)
    (meant_request (naming_of d) line)
    (read ∙ meant_known (naming_of d) line (sym (c.is_known.ensures ∙ ap is_known read) ∙ c.if-is_known.true))
    c.known_line.ensures.reported

pub returns-then-is_known-clause-left : goal.returns-then-is_known-clause-left
returns-then-is_known-clause-left g c =
    subst (λ (r : DebugRequest). OnOk c.known_line.result
    (c.known_line.new.script.left ≡ lines_after (debug_opens_block r) c.args.script.now.left))
    c.simple_command-command.ensures c.known_line.ensures.left

pub returns-then-is_known-clause-number : goal.returns-then-is_known-clause-number
returns-then-is_known-clause-number g c =
    subst (λ (r : DebugRequest). OnOk c.known_line.result (c.known_line.new.script.number
    ≡ c.args.script.now.number + lines_taken (debug_opens_block r) c.args.script.now.left))
    c.simple_command-command.ensures c.known_line.ensures.number

pub returns-then-is_repeatable-clause-reported : goal.returns-then-is_repeatable-clause-reported
returns-then-is_repeatable-clause-reported g c =
    let d = debug_state c.args.self.now c.args.images.now in
    let line = c.args.words.now in
    let numbered = c.as_slice.result.now in
    let read = c.simple_command-command.ensures in
    let meant = c.simple_command-meant.ensures in
    asked_if c.known_line-then-is_repeatable.result _ _ _ d c.args.self.now.setting c.args.script.now.number line
    (block_lines c.args.script.now.left) (debug_request_of_command c.simple_command-meant.result)
    (meant_request (naming_of d) line)
    (meant ∙ meant_numbered (naming_of d) line numbered (sym (c.is_known.ensures ∙ ap is_known read) ∙ c.if-is_known.false)
    (c.as_slice.ensures.value ∙ c.in_ok-numbered.ensures c.args.images.now)
    (sym (c.is_repeatable.ensures ∙ ap is_repeatable meant) ∙ c.if-is_repeatable.true))
    c.known_line-then-is_repeatable.ensures.reported

pub returns-then-is_repeatable-clause-left : goal.returns-then-is_repeatable-clause-left
returns-then-is_repeatable-clause-left g c =
    let read = c.simple_command-command.ensures in
    let same = repeatable_alone (debug_request_of_command c.simple_command-meant.result)
    (sym c.is_repeatable.ensures ∙ c.if-is_repeatable.true)
    ∙ sym (unknown_alone (simple_request c.args.words.now) (sym (c.is_known.ensures ∙ ap is_known read) ∙ c.if-is_known.false)) in
    subst (λ (b : Bool). OnOk c.known_line-then-is_repeatable.result
    (c.known_line-then-is_repeatable.new.script.left ≡ lines_after b c.args.script.now.left)) same
    c.known_line-then-is_repeatable.ensures.left

pub returns-then-is_repeatable-clause-number : goal.returns-then-is_repeatable-clause-number
returns-then-is_repeatable-clause-number g c =
    let read = c.simple_command-command.ensures in
    let same = repeatable_alone (debug_request_of_command c.simple_command-meant.result)
    (sym c.is_repeatable.ensures ∙ c.if-is_repeatable.true)
    ∙ sym (unknown_alone (simple_request c.args.words.now) (sym (c.is_known.ensures ∙ ap is_known read) ∙ c.if-is_known.false)) in
    subst (λ (b : Bool). OnOk c.known_line-then-is_repeatable.result (c.known_line-then-is_repeatable.new.script.number
    ≡ c.args.script.now.number + lines_taken b c.args.script.now.left)) same
    c.known_line-then-is_repeatable.ensures.number

pub returns-clause-reported : goal.returns-clause-reported
returns-clause-reported g c =
    let d = debug_state c.args.self.now c.args.images.now in
    let line = c.args.words.now in
    let setting = c.args.self.now.setting in
    let read = c.simple_command-command.ensures in
    let meant = c.simple_command-meant.ensures in
    asked_if c.past_line.result _ _ (debug_state c.past_line.new.self c.past_line.new.images) d setting c.args.script.now.number line
    (block_lines c.args.script.now.left) NotKnown (meant_request (naming_of d) line)
    (meant_nothing (naming_of d) line c.as_slice.result.now (sym (c.is_known.ensures ∙ ap is_known read) ∙ c.if-is_known.false)
    (c.as_slice.ensures.value ∙ c.in_ok-numbered.ensures c.args.images.now)
    (sym (c.is_repeatable.ensures ∙ ap is_repeatable meant) ∙ c.if-is_repeatable.false))
    (subst (λ (n : ℕ). OnOk c.past_line.result (IsDebugged (g.W.Sink.contents c.args.sink.now) (g.W.Sink.contents c.past_line.new.sink)
    (debug_state c.past_line.new.self c.past_line.new.images) (past_line_answer setting d n line))) c.number.ensures
    c.past_line.ensures.reported)

pub returns-then-is_known-clause-ends : goal.returns-then-is_known-clause-ends
returns-then-is_known-clause-ends g c = c.known_line.ensures.ends

pub returns-in_err-numbered-clause-ends : goal.returns-in_err-numbered-clause-ends
returns-in_err-numbered-clause-ends g c = ends_unwritten g.W.Sink.has_failed c.args.sink.now c.from_residual.result Memory c.from_residual.ensures.1 refl

pub returns-then-is_repeatable-clause-ends : goal.returns-then-is_repeatable-clause-ends
returns-then-is_repeatable-clause-ends g c = c.known_line-then-is_repeatable.ensures.ends

pub returns-clause-ends : goal.returns-clause-ends
returns-clause-ends g c = c.past_line.ensures.ends

pub returns-then-is_known-clause-setting : goal.returns-then-is_known-clause-setting
returns-then-is_known-clause-setting g c = c.known_line.ensures.setting

pub returns-in_err-numbered-clause-setting : goal.returns-in_err-numbered-clause-setting
returns-in_err-numbered-clause-setting g c = refl

pub returns-then-is_repeatable-clause-setting : goal.returns-then-is_repeatable-clause-setting
returns-then-is_repeatable-clause-setting g c = c.known_line-then-is_repeatable.ensures.setting

pub returns-clause-setting : goal.returns-clause-setting
returns-clause-setting g c = c.past_line.ensures.setting
