-- By the lemmas on what a table's call leaves.
use Rattle.std.proofs.Common.{◌≡◌, ap, ◌∙◌}
use Rattle.std.specs.Prelude.{codes}
use Rattle.debug_modes.specs.Changes.{change_text}
use Rattle.debug_tables.specs.WordWatches.{with_word_watch}
use Rattle.debug_modes.proofs.ChangeLemmas.{on_err, watches_changed, watches_refused_if, watches_stay}
use Rattle.debug_modes.proofs.modes.DebugModes.add_watch.Goals as goal

pub returns-in-Ok-clause-reported : goal.returns-in-Ok-clause-reported
returns-in-Ok-clause-reported c =
    let address : c.address.result ≡ c.args.address = c.address.ensures.value in
    watches_changed c.args.self.now (change_text (codes "watch") c.args.address)
    (with_word_watch c.args.self.now.steps.watches c.args.address) c.in-Ok.field-0 c.add.new.self c.in_ok-text.text.items c.in-Ok.ensures
    (c.in_ok-text.ensures ∙ ap (change_text (codes "watch")) address)

pub returns-in-Err-clause-reported : goal.returns-in-Err-clause-reported
returns-in-Err-clause-reported c =
    watches_refused_if c.args.self.now (change_text (codes "watch") c.args.address)
    (with_word_watch c.args.self.now.steps.watches c.args.address) c.in-Err.error c.add.new.self c.refused_line.result
    c.name.result.now c.in-Err.ensures c.name.ensures c.refused_line.ensures

pub returns-in-Err-clause-same : goal.returns-in-Err-clause-same
returns-in-Err-clause-same c =
    on_err c.refused_line.result (watches_stay c.args.self.now
    (with_word_watch c.args.self.now.steps.watches c.args.address) c.in-Err.error c.add.new.self c.in-Err.ensures)
