-- A deed is done again: as a whole, or its first steps, those that are shown, and what is left of it.
use Rattle.std.proofs.Common.{◌≡◌, ◌++◌, ◌∙◌, true, List, Option, ap, refl, subst, sym}
use Rattle.std.specs.Prelude.{is_some}
use Rattle.std.specs.Option.{option_map}
use Rattle.debug_modules.proofs.NotedLemmas.{some_stop}
use Rattle.debug_modules.specs.Acts.{is_anew, moment_after_deed, moment_after_steps, moment_of_script, stubs_of_deed, taken_steps}
use Rattle.debug_modules.specs.Again.{IsAtMoment}
use Rattle.command_shell_lines.specs.declared.debug_words.stubs.Stub.{Stub}
use Rattle.debug_lines.specs.SteppingRequests.{stepping_request_of}
use Rattle.debug_tables.specs.declared.modes.StepModes.{StepModes}
use Rattle.debug_tables.specs.MachineState.{stop_of}
use Rattle.debug_tables.specs.Session.{script_state}
use Rattle.debug_tables.specs.Value.{MachineValue}
use Rattle.profile.specs.declared.stop.Stop.{Stop}
use Rattle.debug_session.specs.LastSteps.{modes_with_stubs, steps_shown_behind, text_with_deed}
use Rattle.debug_session.proofs.FailLemmas.{and_so}
use Rattle.debug_session.proofs.LastStepsLemmas.{deed_done}
use Rattle.debug_session.proofs.ShownStepsLemmas.{halted_text, no_text, shown_anew, shown_on, shown_text, stubs_alone, up_where}
use Rattle.debug_session.proofs.session.DebugSession.show_deed.Goals as goal

pub returns-then-is_anew-clause-text : goal.returns-then-is_anew-clause-text
returns-then-is_anew-clause-text c =
    let s = script_state c.args.session.now c.args.images.now in
    and_so c.deed_again.result (IsAtMoment s (script_state c.deed_again.new.session c.deed_again.new.images)
    (moment_after_deed s.images s.sizes c.args.deed.now (moment_of_script s)))
    (c.clear.new.self.items
    ≡ text_with_deed c.args.self.now.labels s c.args.skipped c.args.deed.now (moment_of_script s) c.args.text.now.items)
    (λ at. shown_anew (is_anew c.args.deed.now) c.clear.new.self.items _ (sym c.is_anew.ensures ∙ c.if-is_anew.true) c.clear.ensures.items)
    c.deed_again.ensures.moment

pub returns-then-is_some-clause-text : goal.returns-then-is_some-clause-text
returns-then-is_some-clause-text c =
    let s = script_state c.args.session.now c.args.images.now in
    let stopped = c.stop.ensures.halt ∙ ap (λ (m : MachineValue). option_map stop_of m.guest.halt) c.machine.ensures in
    let is : is_some s.machine.halt ≡ true =
    sym (some_stop s.machine.halt) ∙ sym (ap (λ (o : Option Stop). is_some o) stopped) ∙ sym c.is_some.ensures ∙ c.if-is_some.true in
    and_so c.deed_again-then-is_some.result (IsAtMoment s (script_state c.deed_again-then-is_some.new.session c.deed_again-then-is_some.new.images)
    (moment_after_deed s.images s.sizes c.args.deed.now (moment_of_script s)))
    (c.args.text.now.items
    ≡ text_with_deed c.args.self.now.labels s c.args.skipped c.args.deed.now (moment_of_script s) c.args.text.now.items)
    (λ at. shown_on (is_anew c.args.deed.now) c.args.text.now.items _ _ (sym c.is_anew.ensures ∙ c.if-is_anew.false)
    (halted_text c.args.self.now.labels s c.args.skipped c.args.deed.now c.args.text.now.items is))
    c.deed_again-then-is_some.ensures.moment

pub returns-in_default-clause-text : goal.returns-in_default-clause-text
returns-in_default-clause-text c =
    let s = script_state c.args.session.now c.args.images.now in
    let none = ap (λ o. option_map taken_steps o) (sym c.in_default.is) ∙ c.steps_behind.ensures in
    and_so c.deed_again-in_default.result (IsAtMoment s (script_state c.deed_again-in_default.new.session c.deed_again-in_default.new.images)
    (moment_after_deed s.images s.sizes c.args.deed.now (moment_of_script s)))
    (c.args.text.now.items
    ≡ text_with_deed c.args.self.now.labels s c.args.skipped c.args.deed.now (moment_of_script s) c.args.text.now.items)
    (λ at. shown_on (is_anew c.args.deed.now) c.args.text.now.items _ _ (sym c.is_anew.ensures ∙ c.if-is_anew.false)
    (no_text c.args.self.now.labels s c.args.skipped c.args.deed.now c.args.text.now.items none))
    c.deed_again-in_default.ensures.moment

pub returns-clause-moment : goal.returns-clause-moment
returns-clause-moment c =
    let labels = c.args.self.now.labels in
    let s = script_state c.args.session.now c.args.images.now in
    let stubs : List Stub = stubs_of_deed c.args.deed.now in
    let modes : StepModes = record c.new-modes.result { stubs = c.stubs-modes.result } in
    let last = script_state c.show_steps.new.session c.show_steps.new.images in
    let request = stepping_request_of c.in-Some.command in
    let shown = (steps_shown_behind modes labels s c.args.skipped c.in-Some.count request).now in
    let stopped = c.stop.ensures.halt ∙ ap (λ (m : MachineValue). option_map stop_of m.guest.halt) c.machine.ensures in
    let up = up_where s.machine.halt c.stop.result c.is_some.result c.is_some.ensures stopped c.if-is_some.false in
    let is = ap (λ o. option_map taken_steps o) (sym c.in-Some.is) ∙ c.steps_behind.ensures in
    let alone : modes ≡ modes_with_stubs stubs = stubs_alone _ stubs c.stubs-modes.ensures c.new-modes.ensures.watches in
    let same = ap (λ (m : StepModes). (steps_shown_behind m labels s c.args.skipped c.in-Some.count request).now) alone in
    and_so c.show_steps.result (IsAtMoment shown last (moment_after_steps modes.stubs shown.images shown.left (moment_of_script shown)))
    (IsAtMoment s last (moment_after_deed s.images s.sizes c.args.deed.now (moment_of_script s)))
    (λ gone. deed_done labels s shown last c.args.skipped shown.left c.args.deed.now (request, c.in-Some.count) up is same refl
    (subst (λ (xs : List Stub). IsAtMoment shown last (moment_after_steps xs shown.images shown.left (moment_of_script shown)))
    c.stubs-modes.ensures gone)) c.show_steps.ensures.moment

pub returns-clause-text : goal.returns-clause-text
returns-clause-text c =
    let labels = c.args.self.now.labels in
    let s = script_state c.args.session.now c.args.images.now in
    let stubs : List Stub = stubs_of_deed c.args.deed.now in
    let modes : StepModes = record c.new-modes.result { stubs = c.stubs-modes.result } in
    let request = stepping_request_of c.in-Some.command in
    let shown = (steps_shown_behind modes labels s c.args.skipped c.in-Some.count request).text in
    let stopped = c.stop.ensures.halt ∙ ap (λ (m : MachineValue). option_map stop_of m.guest.halt) c.machine.ensures in
    let up = up_where s.machine.halt c.stop.result c.is_some.result c.is_some.ensures stopped c.if-is_some.false in
    let is = ap (λ o. option_map taken_steps o) (sym c.in-Some.is) ∙ c.steps_behind.ensures in
    let alone : modes ≡ modes_with_stubs stubs = stubs_alone _ stubs c.stubs-modes.ensures c.new-modes.ensures.watches in
    let same = ap (λ (m : StepModes). (steps_shown_behind m labels s c.args.skipped c.in-Some.count request).text) alone in
    and_so c.show_steps.result (c.show_steps.new.text.items ≡ c.args.text.now.items ++ shown)
    (c.show_steps.new.text.items
    ≡ text_with_deed labels s c.args.skipped c.args.deed.now (moment_of_script s) c.args.text.now.items)
    (λ more. shown_on (is_anew c.args.deed.now) c.args.text.now.items _ _ (sym c.is_anew.ensures ∙ c.if-is_anew.false)
    (shown_text labels s c.args.skipped c.args.deed.now (request, c.in-Some.count) c.args.text.now.items
    c.show_steps.new.text.items shown up is same more))
    c.show_steps.ensures.text
