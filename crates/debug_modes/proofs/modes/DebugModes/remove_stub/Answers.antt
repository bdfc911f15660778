-- By the lemmas on what a table's call leaves.
use Rattle.std.proofs.Common.{◌≡◌, ℕ, Ok, Err, ap, subst, ◌∙◌}
use Rattle.std.specs.Prelude.{codes}
use Rattle.profile.specs.Outcome.{Leaves}
use Rattle.debug_modes.specs.Changes.{change_text, stub_number}
use Rattle.debug_tables.specs.Stubs.{without_stub}
use Rattle.debug_modes.proofs.ChangeLemmas.{on_err, stubs_changed, stubs_refused_if, stubs_stay}
use Rattle.debug_modes.proofs.modes.DebugModes.remove_stub.Goals as goal

pub returns-in-Ok-clause-reported : goal.returns-in-Ok-clause-reported
returns-in-Ok-clause-reported c =
    let number : c.stub_number-number.result ≡ stub_number c.args.number = c.stub_number-number.ensures in
    stubs_changed c.args.self.now (change_text (codes "unstub") (stub_number c.args.number))
    (without_stub c.args.self.now.steps.stubs (stub_number c.args.number)) c.in-Ok.field-0 c.remove.new.self c.in_ok-text.text.items
    (subst (λ (n : ℕ). Leaves {U = Unit {0}} c.args.self.now.steps.stubs (without_stub c.args.self.now.steps.stubs n)
    (Ok c.in-Ok.field-0) c.remove.new.self) number c.in-Ok.ensures)
    (c.in_ok-text.ensures ∙ ap (change_text (codes "unstub")) number)

pub returns-in-Err-clause-reported : goal.returns-in-Err-clause-reported
returns-in-Err-clause-reported c =
    let number : c.stub_number-number.result ≡ stub_number c.args.number = c.stub_number-number.ensures in
    stubs_refused_if c.args.self.now (change_text (codes "unstub") (stub_number c.args.number))
    (without_stub c.args.self.now.steps.stubs (stub_number c.args.number)) c.in-Err.error c.remove.new.self c.refused_line.result
    c.name.result.now
    (subst (λ (n : ℕ). Leaves {U = Unit {0}} c.args.self.now.steps.stubs (without_stub c.args.self.now.steps.stubs n)
    (Err c.in-Err.error) c.remove.new.self) number c.in-Err.ensures)
    c.name.ensures c.refused_line.ensures

pub returns-in-Err-clause-same : goal.returns-in-Err-clause-same
returns-in-Err-clause-same c =
    on_err c.refused_line.result (stubs_stay c.args.self.now
    (without_stub c.args.self.now.steps.stubs c.stub_number-number.result) c.in-Err.error c.remove.new.self c.in-Err.ensures)
