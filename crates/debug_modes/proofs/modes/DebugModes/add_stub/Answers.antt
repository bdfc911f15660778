-- By the lemmas on what a table's call leaves.
use Rattle.std.proofs.Common.{◌≡◌, Ok, Err, ap, subst, ◌∙◌}
use Rattle.std.specs.Prelude.{codes}
use Rattle.profile.specs.Outcome.{Leaves}
use Rattle.command_shell.specs.GuestState.{state_of}
use Rattle.debug_lines.specs.Stub.{Stub}
use Rattle.debug_modes.specs.Changes.{change_text, stub_number, with_stub_number}
use Rattle.debug_tables.specs.Stubs.{with_stub}
use Rattle.debug_modes.proofs.ChangeLemmas.{on_err, stubs_changed, stubs_refused_if, stubs_stay}
use Rattle.debug_modes.proofs.modes.DebugModes.add_stub.Goals as goal

pub returns-in-Ok-clause-reported : goal.returns-in-Ok-clause-reported
returns-in-Ok-clause-reported c =
    let stub : c.with_stub_number-stub.result ≡ with_stub_number c.args.stub = c.with_stub_number-stub.ensures in
    stubs_changed c.args.self.now (change_text (codes "stub") (stub_number c.args.stub.number))
    (with_stub (state_of c.args.machine.now.guest) c.args.self.now.steps.stubs (with_stub_number c.args.stub))
    c.in-Ok.field-0 c.add.new.self c.in_ok-text.text.items
    (subst (λ (x : Stub). Leaves {U = Unit {0}} c.args.self.now.steps.stubs
    (with_stub (state_of c.args.machine.now.guest) c.args.self.now.steps.stubs x) (Ok c.in-Ok.field-0) c.add.new.self)
    stub c.in-Ok.ensures)
    (c.in_ok-text.ensures ∙ ap (λ (x : Stub). change_text (codes "stub") x.number) stub)

pub returns-in-Err-clause-reported : goal.returns-in-Err-clause-reported
returns-in-Err-clause-reported c =
    let stub : c.with_stub_number-stub.result ≡ with_stub_number c.args.stub = c.with_stub_number-stub.ensures in
    stubs_refused_if c.args.self.now (change_text (codes "stub") (stub_number c.args.stub.number))
    (with_stub (state_of c.args.machine.now.guest) c.args.self.now.steps.stubs (with_stub_number c.args.stub))
    c.in-Err.error c.add.new.self c.refused_line.result c.name.result.now
    (subst (λ (x : Stub). Leaves {U = Unit {0}} c.args.self.now.steps.stubs
    (with_stub (state_of c.args.machine.now.guest) c.args.self.now.steps.stubs x) (Err c.in-Err.error) c.add.new.self)
    stub c.in-Err.ensures)
    c.name.ensures c.refused_line.ensures

pub returns-in-Err-clause-same : goal.returns-in-Err-clause-same
returns-in-Err-clause-same c =
    on_err c.refused_line.result (stubs_stay c.args.self.now
    (with_stub (state_of c.args.machine.now.guest) c.args.self.now.steps.stubs c.with_stub_number-stub.result) c.in-Err.error
    c.add.new.self c.in-Err.ensures)
