use Rattle.std.proofs.Common.{arith}
use Rattle.std.proofs.lemmas.Grind.{common_steps}
use Rattle.store_copies.specs.Store.{store_of}
use Rattle.trace_store_text.specs.items.Changes.{item_changes}
use Rattle.trace_store_text.proofs.LineLemmas.{item_lines_kept}
use Rattle.trace_store_text.proofs.item_lines.push_items.Goals as goal

pub returns : goal.returns
returns g c =
    rw (item_lines_kept c.args.heap c.changed_items-changes.result (item_changes (store_of c.args.before.now) (store_of c.args.after.now) c.args.heap)
    c.changed_items-changes.ensures) (grind (arith, common_steps))
