-- What differs of the core, and then of the words.
use Rattle.std.proofs.Common.{subst}
use Rattle.trace_json.proofs.MomentLemmas.{shows_copied}
use Rattle.trace_json.proofs.changes.push_all_changes.Goals as goal

pub returns : goal.returns
returns c = λ s is.
    shows_copied c.args.name.now c.args.before.now s _ c.cpu.result.now c.pc-expected.result c.args.text.now c.push_core_changes.new.text
    c.push_changed_words.new.text is c.cpu.ensures c.pc-expected.ensures.value c.in_ok-push_core_changes.ensures c.in_ok-push_changed_words.ensures
