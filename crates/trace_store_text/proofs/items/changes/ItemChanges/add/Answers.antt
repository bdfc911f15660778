use Rattle.std.proofs.Common.{◌∙◌, ap, ◌+◌, arith}
use Rattle.trace_store_text.specs.declared.items.changes.ItemChanges.{ItemChanges}
use Rattle.trace_store_text.proofs.ItemsLemmas.ChangeLemmas.{first_full, first_pushed, one_more}
use Rattle.trace_store_text.proofs.items.changes.ItemChanges.add.Goals as goal
use Rattle.trace_store_text.proofs.items.changes.ItemChanges.add.Goals.{then-len-lt-MOST_ITEMS, else-len-lt-MOST_ITEMS}

pub returns-clause-summary : goal.returns-clause-summary
returns-clause-summary c all is =
    let len = c.len.ensures.value in
    elim c.if-len-lt-MOST_ITEMS.branch [
      | then-len-lt-MOST_ITEMS w ↦
          let room = w.if-len-lt-MOST_ITEMS.true in
          record {
            first = ap (λ (k : ItemChanges). k.first.items) w.self-is ∙ (w.push.ensures.items ∙ first_pushed c.args.self.now.first.items all c.args.change (omega (arith, len, room)) is.first);
            count = ap (λ (k : ItemChanges). k.count + 1) w.self-is ∙ one_more all c.args.change c.args.self.now.count is.count;
          }
      | else-len-lt-MOST_ITEMS w ↦
          let full = w.if-len-lt-MOST_ITEMS.false in
          record {
            first = ap (λ (k : ItemChanges). k.first.items) w.self-is ∙ first_full c.args.self.now.first.items all c.args.change (omega (arith, len, full)) is.first;
            count = ap (λ (k : ItemChanges). k.count + 1) w.self-is ∙ one_more all c.args.change c.args.self.now.count is.count;
          }
    ]
