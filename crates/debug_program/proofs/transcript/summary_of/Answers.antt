use Rattle.std.proofs.Common.{◌≡◌, ◌++◌, ap, ◌∙◌, [], List, ℕ}
use Rattle.debug_session.specs.Reports.{summary_text}
use Rattle.debug_program.proofs.transcript.summary_of.Goals as goal

pub returns-in-Ok : goal.returns-in-Ok
returns-in-Ok c =
    let session = c.args.session.now in
    c.into_bytes.ensures ∙ (c.in-Ok.ensures []).text
    ∙ ap (λ (xs : List ℕ). xs ++ summary_text session.setting.form session.tally) c.new-text.ensures
