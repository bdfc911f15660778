-- Each request is shown as its own call shows it.
use Rattle.std.proofs.Common.{◌≡◌, ◌+◌, ◌∙◌, ap, refl, subst, sym, ℕ}
use Rattle.std.specs.Prelude.{OnOk}
use Rattle.command_shell_lines.specs.Blocks.{block_lines, lines_after, lines_taken}
use Rattle.debug_lines.specs.DebugRequests.{DebugRequest, debug_opens_block, debug_request_of_command, view_request_of}
use Rattle.debug_lines.specs.ModeRequests.{mode_request_of}
use Rattle.command_shell_lines.specs.debug_words.NamedBytes.{named_bytes, or_no_bytes}
use Rattle.debug_modules.specs.Changes.{mode_answer}
use Rattle.debug_modules.specs.Counting.{counts_text}
use Rattle.debug_modules.specs.Places.{naming_on}
use Rattle.debug_modules.specs.ViewTexts.{view_text}
use Rattle.debug_tables.specs.byte_writes.Find.{find_text}
use Rattle.debug_tables.specs.GuestState.{state_of}
use Rattle.debug_tables.specs.Value.{MachineValue}
use Rattle.debug_lines.specs.SteppingRequests.{stepping_request_of}
use Rattle.debug_modules.specs.PastDeed.TheVariants.{Status}
use Rattle.debug_modules.specs.Checks.{status_after_pattern}
use Rattle.debug_tables.specs.Memory.{script_with_status}
use Rattle.debug_session.specs.DebugScript.{past_line_answer, put_answer, reset_answer, set_pc_answer, set_psr_answer, stepping_line_answer, view_answer, write_answer}
use Rattle.debug_session.specs.DebugState.{IsDebugged}
use Rattle.debug_session.specs.Session.{debug_state}
use Rattle.debug_session.proofs.OwnLemmas.{asked_if, changed_modes, changed_silently, checked_by, left_alone, number_alone, shown_as}
use Rattle.debug_session.proofs.EndLemmas.{ends_silent}
use Rattle.debug_session.proofs.session.DebugSession.known_line.Goals as goal

pub returns-in-Script-clause-reported : goal.returns-in-Script-clause-reported
returns-in-Script-clause-reported g c =
    asked_if c.script_line.result (g.W.Sink.contents c.args.sink.now) (g.W.Sink.contents c.script_line.new.sink)
    (debug_state c.script_line.new.self c.script_line.new.images) (debug_state c.args.self.now c.args.images.now)
    c.args.self.now.setting c.args.script.now.number c.args.words.now (block_lines c.args.script.now.left) _
    (debug_request_of_command c.args.command) (sym (ap debug_request_of_command c.in-Script.is)) c.script_line.ensures.reported

pub returns-in-Script-clause-left : goal.returns-in-Script-clause-left
returns-in-Script-clause-left g c =
    subst (λ (q : DebugRequest). OnOk c.script_line.result
    (c.script_line.new.script.left ≡ lines_after (debug_opens_block q) c.args.script.now.left))
    (sym (ap debug_request_of_command c.in-Script.is)) c.script_line.ensures.left

pub returns-in-Script-clause-number : goal.returns-in-Script-clause-number
returns-in-Script-clause-number g c =
    subst (λ (q : DebugRequest). OnOk c.script_line.result
    (c.script_line.new.script.number ≡ c.args.script.now.number + lines_taken (debug_opens_block q) c.args.script.now.left))
    (sym (ap debug_request_of_command c.in-Script.is)) c.script_line.ensures.number

pub returns-in-Forget-clause-reported : goal.returns-in-Forget-clause-reported
returns-in-Forget-clause-reported g c =
    asked_if c.forget.result (g.W.Sink.contents c.args.sink.now) (g.W.Sink.contents c.forget.new.sink)
    (debug_state c.forget.new.self c.forget.new.images) (debug_state c.args.self.now c.args.images.now)
    c.args.self.now.setting c.args.script.now.number c.args.words.now (block_lines c.args.script.now.left) _
    (debug_request_of_command c.args.command) (sym (ap debug_request_of_command c.in-Forget.is)) c.forget.ensures.reported

pub returns-in-SetPc-clause-reported : goal.returns-in-SetPc-clause-reported
returns-in-SetPc-clause-reported g c =
    asked_if c.move_pc.result (g.W.Sink.contents c.args.sink.now) (g.W.Sink.contents c.move_pc.new.sink)
    (debug_state c.move_pc.new.self c.args.images.now) (debug_state c.args.self.now c.args.images.now)
    c.args.self.now.setting c.args.script.now.number c.args.words.now (block_lines c.args.script.now.left) _
    (debug_request_of_command c.args.command) (sym (ap debug_request_of_command c.in-SetPc.is))
    (subst (λ (n : ℕ). OnOk c.move_pc.result (IsDebugged (g.W.Sink.contents c.args.sink.now) (g.W.Sink.contents c.move_pc.new.sink)
    (debug_state c.move_pc.new.self c.args.images.now) (set_pc_answer c.args.self.now.setting
    (debug_state c.args.self.now c.args.images.now) n c.in-SetPc.address)))
    c.number-number.ensures (c.move_pc.ensures.reported c.args.images.now))

pub returns-in-SetPsr-clause-reported : goal.returns-in-SetPsr-clause-reported
returns-in-SetPsr-clause-reported g c =
    let d = debug_state c.args.self.now c.args.images.now in
    let held = g.W.Sink.contents c.args.sink.now in
    let now = debug_state c.set_psr.new.self c.args.images.now in
    asked_if c.set_psr.result held held now d
    c.args.self.now.setting c.args.script.now.number c.args.words.now (block_lines c.args.script.now.left) _
    (debug_request_of_command c.args.command) (sym (ap debug_request_of_command c.in-SetPsr.is))
    (subst (λ (n : ℕ). OnOk c.set_psr.result (IsDebugged held held now (set_psr_answer d n c.in-SetPsr.pattern))) c.number-number.ensures
    (changed_silently c.set_psr.result held now d c.number-number.result (Status (status_after_pattern c.in-SetPsr.pattern d.script.machine.cpu.psr))
    (script_with_status d.script (status_after_pattern c.in-SetPsr.pattern d.script.machine.cpu.psr)) (c.set_psr.ensures.reported c.args.images.now)))

pub returns-in-Reset-clause-reported : goal.returns-in-Reset-clause-reported
returns-in-Reset-clause-reported g c =
    asked_if c.reset.result (g.W.Sink.contents c.args.sink.now) (g.W.Sink.contents c.reset.new.sink)
    (debug_state c.reset.new.self c.args.images.now) (debug_state c.args.self.now c.args.images.now)
    c.args.self.now.setting c.args.script.now.number c.args.words.now (block_lines c.args.script.now.left) _
    (debug_request_of_command c.args.command) (sym (ap debug_request_of_command c.in-Reset.is))
    (subst (λ (n : ℕ). OnOk c.reset.result (IsDebugged (g.W.Sink.contents c.args.sink.now) (g.W.Sink.contents c.reset.new.sink)
    (debug_state c.reset.new.self c.args.images.now) (reset_answer c.args.self.now.setting (debug_state c.args.self.now c.args.images.now) n)))
    c.number-number.ensures (c.reset.ensures.reported c.args.images.now))

pub returns-in-Expect-clause-reported : goal.returns-in-Expect-clause-reported
returns-in-Expect-clause-reported g c =
    asked_if c.print_check.result (g.W.Sink.contents c.args.sink.now) (g.W.Sink.contents c.print_check.new.sink)
    (debug_state c.print_check.new.self c.args.images.now) (debug_state c.args.self.now c.args.images.now)
    c.args.self.now.setting c.args.script.now.number c.args.words.now (block_lines c.args.script.now.left) _
    (debug_request_of_command c.args.command) (sym (ap debug_request_of_command c.in-Expect.is))
    (checked_by c.print_check.result _ _ _ (debug_state c.args.self.now c.args.images.now) c.args.self.now.setting
    c.number-number.result c.args.script.now.number c.args.words.now _ _ c.number-number.ensures
    refl (c.print_check.ensures.reported c.args.images.now))

pub returns-in-Stepping-clause-reported : goal.returns-in-Stepping-clause-reported
returns-in-Stepping-clause-reported g c =
    asked_if c.stepping_line.result (g.W.Sink.contents c.args.sink.now) (g.W.Sink.contents c.stepping_line.new.sink)
    (debug_state c.stepping_line.new.self c.args.images.now) (debug_state c.args.self.now c.args.images.now)
    c.args.self.now.setting c.args.script.now.number c.args.words.now (block_lines c.args.script.now.left) _
    (debug_request_of_command c.args.command) (sym (ap debug_request_of_command c.in-Stepping.is))
    (subst (λ (n : ℕ). OnOk c.stepping_line.result (IsDebugged (g.W.Sink.contents c.args.sink.now)
    (g.W.Sink.contents c.stepping_line.new.sink) (debug_state c.stepping_line.new.self c.args.images.now)
    (stepping_line_answer c.args.self.now.setting (debug_state c.args.self.now c.args.images.now) n c.in-Stepping.is_traced
    (stepping_request_of c.in-Stepping.command))))
    c.number-number.ensures c.stepping_line.ensures.reported)

pub returns-in-Put-clause-reported : goal.returns-in-Put-clause-reported
returns-in-Put-clause-reported g c =
    asked_if c.put.result (g.W.Sink.contents c.args.sink.now) (g.W.Sink.contents c.put.new.sink)
    (debug_state c.put.new.self c.args.images.now) (debug_state c.args.self.now c.args.images.now)
    c.args.self.now.setting c.args.script.now.number c.args.words.now (block_lines c.args.script.now.left) _
    (debug_request_of_command c.args.command) (sym (ap debug_request_of_command c.in-Put.is))
    (subst (λ (n : ℕ). OnOk c.put.result (IsDebugged (g.W.Sink.contents c.args.sink.now) (g.W.Sink.contents c.put.new.sink)
    (debug_state c.put.new.self c.args.images.now) (put_answer c.args.self.now.setting (debug_state c.args.self.now c.args.images.now) n c.in-Put.name.now c.in-Put.address)))
    c.number-number.ensures c.put.ensures.reported)

pub returns-in-Write-clause-reported : goal.returns-in-Write-clause-reported
returns-in-Write-clause-reported g c =
    asked_if c.write.result (g.W.Sink.contents c.args.sink.now) (g.W.Sink.contents c.write.new.sink)
    (debug_state c.write.new.self c.args.images.now) (debug_state c.args.self.now c.args.images.now)
    c.args.self.now.setting c.args.script.now.number c.args.words.now (block_lines c.args.script.now.left) _
    (debug_request_of_command c.args.command) (sym (ap debug_request_of_command c.in-Write.is))
    (subst (λ (n : ℕ). OnOk c.write.result (IsDebugged (g.W.Sink.contents c.args.sink.now) (g.W.Sink.contents c.write.new.sink)
    (debug_state c.write.new.self c.args.images.now) (write_answer c.args.self.now.setting (debug_state c.args.self.now c.args.images.now) n c.in-Write.at c.in-Write.count c.in-Write.named.now)))
    c.number-number.ensures (c.write.ensures.reported c.args.images.now))

pub returns-in-Unknown-clause-reported : goal.returns-in-Unknown-clause-reported
returns-in-Unknown-clause-reported g c =
    let d = debug_state c.args.self.now c.args.images.now in
    asked_if c.past_line.result (g.W.Sink.contents c.args.sink.now) (g.W.Sink.contents c.past_line.new.sink)
    (debug_state c.past_line.new.self c.past_line.new.images) d
    c.args.self.now.setting c.args.script.now.number c.args.words.now (block_lines c.args.script.now.left) _
    (debug_request_of_command c.args.command) (sym (ap debug_request_of_command c.in-Unknown.is))
    (subst (λ (n : ℕ). OnOk c.past_line.result (IsDebugged (g.W.Sink.contents c.args.sink.now) (g.W.Sink.contents c.past_line.new.sink)
    (debug_state c.past_line.new.self c.past_line.new.images) (past_line_answer c.args.self.now.setting d n c.args.words.now)))
    c.number-number.ensures c.past_line.ensures.reported)

pub returns-in-Script-clause-ends : goal.returns-in-Script-clause-ends
returns-in-Script-clause-ends g c = c.script_line.ensures.ends

pub returns-in-Stepping-clause-left : goal.returns-in-Stepping-clause-left
returns-in-Stepping-clause-left g c = left_alone c.stepping_line.result _ c.args.script.now.left
    (ap debug_opens_block (ap debug_request_of_command c.in-Stepping.is))

pub returns-in-Stepping-clause-number : goal.returns-in-Stepping-clause-number
returns-in-Stepping-clause-number g c = number_alone c.stepping_line.result _ c.args.script.now.number c.args.script.now.left
    (ap debug_opens_block (ap debug_request_of_command c.in-Stepping.is))

pub returns-in-Stepping-clause-ends : goal.returns-in-Stepping-clause-ends
returns-in-Stepping-clause-ends g c = c.stepping_line.ensures.ends

pub returns-in-Mode-clause-left : goal.returns-in-Mode-clause-left
returns-in-Mode-clause-left g c = left_alone c.show.result _ c.args.script.now.left
    (ap debug_opens_block (ap debug_request_of_command c.in-Mode.is))

pub returns-in-Mode-clause-number : goal.returns-in-Mode-clause-number
returns-in-Mode-clause-number g c = number_alone c.show.result _ c.args.script.now.number c.args.script.now.left
    (ap debug_opens_block (ap debug_request_of_command c.in-Mode.is))

pub returns-in-Mode-clause-ends : goal.returns-in-Mode-clause-ends
returns-in-Mode-clause-ends g c = c.show.ensures.ends

pub returns-in-View-clause-left : goal.returns-in-View-clause-left
returns-in-View-clause-left g c = left_alone c.show-in-View.result _ c.args.script.now.left
    (ap debug_opens_block (ap debug_request_of_command c.in-View.is))

pub returns-in-View-clause-number : goal.returns-in-View-clause-number
returns-in-View-clause-number g c = number_alone c.show-in-View.result _ c.args.script.now.number c.args.script.now.left
    (ap debug_opens_block (ap debug_request_of_command c.in-View.is))

pub returns-in-View-clause-ends : goal.returns-in-View-clause-ends
returns-in-View-clause-ends g c = c.show-in-View.ensures.ends

pub returns-in-Form-clause-left : goal.returns-in-Form-clause-left
returns-in-Form-clause-left g c = left_alone c.show-in-Form.result _ c.args.script.now.left
    (ap debug_opens_block (ap debug_request_of_command c.in-Form.is))

pub returns-in-Form-clause-number : goal.returns-in-Form-clause-number
returns-in-Form-clause-number g c = number_alone c.show-in-Form.result _ c.args.script.now.number c.args.script.now.left
    (ap debug_opens_block (ap debug_request_of_command c.in-Form.is))

pub returns-in-Form-clause-ends : goal.returns-in-Form-clause-ends
returns-in-Form-clause-ends g c = c.show-in-Form.ensures.ends

pub returns-in-SetPc-clause-left : goal.returns-in-SetPc-clause-left
returns-in-SetPc-clause-left g c = left_alone c.move_pc.result _ c.args.script.now.left
    (ap debug_opens_block (ap debug_request_of_command c.in-SetPc.is))

pub returns-in-SetPc-clause-number : goal.returns-in-SetPc-clause-number
returns-in-SetPc-clause-number g c = number_alone c.move_pc.result _ c.args.script.now.number c.args.script.now.left
    (ap debug_opens_block (ap debug_request_of_command c.in-SetPc.is))

pub returns-in-SetPc-clause-ends : goal.returns-in-SetPc-clause-ends
returns-in-SetPc-clause-ends g c = c.move_pc.ensures.ends

pub returns-in-Put-clause-left : goal.returns-in-Put-clause-left
returns-in-Put-clause-left g c = left_alone c.put.result _ c.args.script.now.left
    (ap debug_opens_block (ap debug_request_of_command c.in-Put.is))

pub returns-in-Put-clause-number : goal.returns-in-Put-clause-number
returns-in-Put-clause-number g c = number_alone c.put.result _ c.args.script.now.number c.args.script.now.left
    (ap debug_opens_block (ap debug_request_of_command c.in-Put.is))

pub returns-in-Put-clause-ends : goal.returns-in-Put-clause-ends
returns-in-Put-clause-ends g c = c.put.ensures.ends

pub returns-in-Write-clause-left : goal.returns-in-Write-clause-left
returns-in-Write-clause-left g c = left_alone c.write.result _ c.args.script.now.left
    (ap debug_opens_block (ap debug_request_of_command c.in-Write.is))

pub returns-in-Write-clause-number : goal.returns-in-Write-clause-number
returns-in-Write-clause-number g c = number_alone c.write.result _ c.args.script.now.number c.args.script.now.left
    (ap debug_opens_block (ap debug_request_of_command c.in-Write.is))

pub returns-in-Write-clause-ends : goal.returns-in-Write-clause-ends
returns-in-Write-clause-ends g c = c.write.ensures.ends

pub returns-in-Find-clause-left : goal.returns-in-Find-clause-left
returns-in-Find-clause-left g c = left_alone c.show-in-Find.result _ c.args.script.now.left
    (ap debug_opens_block (ap debug_request_of_command c.in-Find.is))

pub returns-in-Find-clause-number : goal.returns-in-Find-clause-number
returns-in-Find-clause-number g c = number_alone c.show-in-Find.result _ c.args.script.now.number c.args.script.now.left
    (ap debug_opens_block (ap debug_request_of_command c.in-Find.is))

pub returns-in-Find-clause-ends : goal.returns-in-Find-clause-ends
returns-in-Find-clause-ends g c = c.show-in-Find.ensures.ends

pub returns-in-Forget-clause-left : goal.returns-in-Forget-clause-left
returns-in-Forget-clause-left g c = left_alone c.forget.result _ c.args.script.now.left
    (ap debug_opens_block (ap debug_request_of_command c.in-Forget.is))

pub returns-in-Forget-clause-number : goal.returns-in-Forget-clause-number
returns-in-Forget-clause-number g c = number_alone c.forget.result _ c.args.script.now.number c.args.script.now.left
    (ap debug_opens_block (ap debug_request_of_command c.in-Forget.is))

pub returns-in-Forget-clause-ends : goal.returns-in-Forget-clause-ends
returns-in-Forget-clause-ends g c = c.forget.ensures.ends

pub returns-in-Counts-clause-left : goal.returns-in-Counts-clause-left
returns-in-Counts-clause-left g c = left_alone c.show-in-Counts.result _ c.args.script.now.left
    (ap debug_opens_block (ap debug_request_of_command c.in-Counts.is))

pub returns-in-Counts-clause-number : goal.returns-in-Counts-clause-number
returns-in-Counts-clause-number g c = number_alone c.show-in-Counts.result _ c.args.script.now.number c.args.script.now.left
    (ap debug_opens_block (ap debug_request_of_command c.in-Counts.is))

pub returns-in-Counts-clause-ends : goal.returns-in-Counts-clause-ends
returns-in-Counts-clause-ends g c = c.show-in-Counts.ensures.ends

pub returns-in-Reset-clause-left : goal.returns-in-Reset-clause-left
returns-in-Reset-clause-left g c = left_alone c.reset.result _ c.args.script.now.left
    (ap debug_opens_block (ap debug_request_of_command c.in-Reset.is))

pub returns-in-Reset-clause-number : goal.returns-in-Reset-clause-number
returns-in-Reset-clause-number g c = number_alone c.reset.result _ c.args.script.now.number c.args.script.now.left
    (ap debug_opens_block (ap debug_request_of_command c.in-Reset.is))

pub returns-in-Reset-clause-ends : goal.returns-in-Reset-clause-ends
returns-in-Reset-clause-ends g c = c.reset.ensures.ends

pub returns-in-Expect-clause-left : goal.returns-in-Expect-clause-left
returns-in-Expect-clause-left g c = left_alone c.print_check.result _ c.args.script.now.left
    (ap debug_opens_block (ap debug_request_of_command c.in-Expect.is))

pub returns-in-Expect-clause-number : goal.returns-in-Expect-clause-number
returns-in-Expect-clause-number g c = number_alone c.print_check.result _ c.args.script.now.number c.args.script.now.left
    (ap debug_opens_block (ap debug_request_of_command c.in-Expect.is))

pub returns-in-Expect-clause-ends : goal.returns-in-Expect-clause-ends
returns-in-Expect-clause-ends g c = c.print_check.ensures.ends

pub returns-in-Unknown-clause-left : goal.returns-in-Unknown-clause-left
returns-in-Unknown-clause-left g c = left_alone c.past_line.result _ c.args.script.now.left
    (ap debug_opens_block (ap debug_request_of_command c.in-Unknown.is))

pub returns-in-Unknown-clause-number : goal.returns-in-Unknown-clause-number
returns-in-Unknown-clause-number g c = number_alone c.past_line.result _ c.args.script.now.number c.args.script.now.left
    (ap debug_opens_block (ap debug_request_of_command c.in-Unknown.is))

pub returns-in-Unknown-clause-ends : goal.returns-in-Unknown-clause-ends
returns-in-Unknown-clause-ends g c = c.past_line.ensures.ends

pub returns-in-SetPsr-clause-left : goal.returns-in-SetPsr-clause-left
returns-in-SetPsr-clause-left g c = left_alone c.set_psr.result _ c.args.script.now.left
    (ap debug_opens_block (ap debug_request_of_command c.in-SetPsr.is))

pub returns-in-SetPsr-clause-number : goal.returns-in-SetPsr-clause-number
returns-in-SetPsr-clause-number g c = number_alone c.set_psr.result _ c.args.script.now.number c.args.script.now.left
    (ap debug_opens_block (ap debug_request_of_command c.in-SetPsr.is))

pub returns-in-SetPsr-clause-ends : goal.returns-in-SetPsr-clause-ends
returns-in-SetPsr-clause-ends g c = ends_silent g.W.Sink.has_failed c.args.sink.now c.set_psr.result c.set_psr.ensures.errors

pub returns-in-Script-clause-setting : goal.returns-in-Script-clause-setting
returns-in-Script-clause-setting g c = c.script_line.ensures.setting

pub returns-in-Stepping-clause-setting : goal.returns-in-Stepping-clause-setting
returns-in-Stepping-clause-setting g c = c.stepping_line.ensures.setting

pub returns-in-SetPc-clause-setting : goal.returns-in-SetPc-clause-setting
returns-in-SetPc-clause-setting g c = c.move_pc.ensures.setting

pub returns-in-Put-clause-setting : goal.returns-in-Put-clause-setting
returns-in-Put-clause-setting g c = c.put.ensures.setting

pub returns-in-Write-clause-setting : goal.returns-in-Write-clause-setting
returns-in-Write-clause-setting g c = c.write.ensures.setting

pub returns-in-Forget-clause-setting : goal.returns-in-Forget-clause-setting
returns-in-Forget-clause-setting g c = c.forget.ensures.setting

pub returns-in-Reset-clause-setting : goal.returns-in-Reset-clause-setting
returns-in-Reset-clause-setting g c = c.reset.ensures.setting

pub returns-in-Expect-clause-setting : goal.returns-in-Expect-clause-setting
returns-in-Expect-clause-setting g c = c.print_check.ensures.setting

pub returns-in-Unknown-clause-setting : goal.returns-in-Unknown-clause-setting
returns-in-Unknown-clause-setting g c = c.past_line.ensures.setting

pub returns-in-SetPsr-clause-setting : goal.returns-in-SetPsr-clause-setting
returns-in-SetPsr-clause-setting g c = c.set_psr.ensures.setting

pub returns-in-View-clause-reported : goal.returns-in-View-clause-reported
returns-in-View-clause-reported g c =
    let old = c.args.self.now in
    let d = debug_state old c.args.images.now in
    let before = g.W.Sink.contents c.args.sink.now in
    let after = g.W.Sink.contents c.show-in-View.new.sink in
    let now = debug_state c.show-in-View.new.self c.args.images.now in
    asked_if c.show-in-View.result before after now d old.setting c.args.script.now.number c.args.words.now
    (block_lines c.args.script.now.left) _ (debug_request_of_command c.args.command)
    (sym (ap debug_request_of_command c.in-View.is))
    (shown_as c.view_text-text.result c.show-in-View.result (λ text. text.items ≡ view_text old.labels (state_of c.machine.result.now.guest) (view_request_of c.in-View.view)) before after now (λ text. view_answer old.setting d text.items) _
    (λ text said. ap (view_answer old.setting d) (said ∙ ap (λ (m : MachineValue). view_text old.labels (state_of m.guest) (view_request_of c.in-View.view)) c.machine.ensures))
    c.view_text-text.ensures (c.show-in-View.ensures.reported c.args.images.now))

pub returns-in-Form-clause-reported : goal.returns-in-Form-clause-reported
returns-in-Form-clause-reported g c =
    let old = c.args.self.now in
    let d = debug_state old c.args.images.now in
    let before = g.W.Sink.contents c.args.sink.now in
    let after = g.W.Sink.contents c.show-in-Form.new.sink in
    let now = debug_state c.show-in-Form.new.self c.args.images.now in
    asked_if c.show-in-Form.result before after now d old.setting c.args.script.now.number c.args.words.now
    (block_lines c.args.script.now.left) _ (debug_request_of_command c.args.command)
    (sym (ap debug_request_of_command c.in-Form.is))
    (shown_as c.form_line.result c.show-in-Form.result _ before after now (λ text. view_answer old.setting d text.items) _
    (λ text said. ap (view_answer old.setting d) said)
    c.form_line.ensures (c.show-in-Form.ensures.reported c.args.images.now))

pub returns-in-Find-clause-reported : goal.returns-in-Find-clause-reported
returns-in-Find-clause-reported g c =
    let old = c.args.self.now in
    let d = debug_state old c.args.images.now in
    let before = g.W.Sink.contents c.args.sink.now in
    let after = g.W.Sink.contents c.show-in-Find.new.sink in
    let now = debug_state c.show-in-Find.new.self c.args.images.now in
    asked_if c.show-in-Find.result before after now d old.setting c.args.script.now.number c.args.words.now
    (block_lines c.args.script.now.left) _ (debug_request_of_command c.args.command)
    (sym (ap debug_request_of_command c.in-Find.is))
    (shown_as c.find_text-text.result c.show-in-Find.result _ before after now (λ text. view_answer old.setting d text.items) _
    (λ text said. ap (view_answer old.setting d) (said ∙ ap (λ (m : MachineValue). find_text (state_of m.guest).store.bytes c.in-Find.address c.in-Find.count
    (or_no_bytes (named_bytes c.in-Find.named.now))) c.machine-in-Find.ensures))
    c.find_text-text.ensures (c.show-in-Find.ensures.reported c.args.images.now))

pub returns-in-Counts-clause-reported : goal.returns-in-Counts-clause-reported
returns-in-Counts-clause-reported g c =
    let old = c.args.self.now in
    let d = debug_state old c.args.images.now in
    let before = g.W.Sink.contents c.args.sink.now in
    let after = g.W.Sink.contents c.show-in-Counts.new.sink in
    let now = debug_state c.show-in-Counts.new.self c.args.images.now in
    asked_if c.show-in-Counts.result before after now d old.setting c.args.script.now.number c.args.words.now
    (block_lines c.args.script.now.left) _ (debug_request_of_command c.args.command)
    (sym (ap debug_request_of_command c.in-Counts.is))
    (shown_as c.counts_text-text.result c.show-in-Counts.result _ before after now (λ text. view_answer old.setting d text.items) _
    (λ text said. ap (view_answer old.setting d) (said ∙ ap (λ (m : MachineValue). counts_text old.modes.counts (naming_on old.labels (state_of m.guest))
    (state_of m.guest).store.bytes c.in-Counts.name.now) c.machine-machine-in-Counts.ensures))
    c.counts_text-text.ensures (c.show-in-Counts.ensures.reported c.args.images.now))

pub returns-in-Mode-clause-reported : goal.returns-in-Mode-clause-reported
returns-in-Mode-clause-reported g c =
    let old = c.args.self.now in
    let d = debug_state old c.args.images.now in
    let on = λ (m : MachineValue). mode_answer (state_of m.guest) old.modes (mode_request_of c.in-Mode.command) in
    let before = g.W.Sink.contents c.args.sink.now in
    let after = g.W.Sink.contents c.show.new.sink in
    let now = debug_state c.show.new.self c.args.images.now in
    asked_if c.show.result before after now d old.setting c.args.script.now.number c.args.words.now
    (block_lines c.args.script.now.left) _ (debug_request_of_command c.args.command)
    (sym (ap debug_request_of_command c.in-Mode.is))
    (shown_as c.change-text.result c.show.result _ before after now (λ text. view_answer old.setting (record d { modes = c.change-text.new.self }) text.items) _
    (λ text said. changed_modes old.setting d c.change-text.new.self text.items _ (said.state ∙ ap (λ (m : MachineValue). (on m).modes) c.machine-machine.ensures)
    (said.answer ∙ ap (λ (m : MachineValue). (on m).text) c.machine-machine.ensures))
    c.change-text.ensures.reported (c.show.ensures.reported c.args.images.now))
