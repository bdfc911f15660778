use Rattle.std.proofs.Common.{◌∙◌, ap, ◌+◌, arith}
use Rattle.store_copies.specs.declared.changes.WordChanges.{WordChanges}
use Rattle.store_copies.proofs.ChangeLemmas.{first_full, first_pushed, one_more}
use Rattle.store_copies.proofs.changes.WordChanges.add.Goals as goal
use Rattle.store_copies.proofs.changes.WordChanges.add.Goals.{then-len-lt-MOST_CHANGES, else-len-lt-MOST_CHANGES}

pub returns : goal.returns
returns c all is =
    let len = c.len.ensures.value in
    elim c.if-len-lt-MOST_CHANGES.branch [
      | then-len-lt-MOST_CHANGES w ↦
          let room = w.if-len-lt-MOST_CHANGES.true in
          record {
            first = ap (λ (k : WordChanges). k.first.items) w.self-is ∙ (w.push.ensures.items ∙ first_pushed c.args.self.now.first.items all c.args.change (omega (arith, len, room)) is.first);
            count = ap (λ (k : WordChanges). k.count + 1) w.self-is ∙ one_more all c.args.change c.args.self.now.count is.count;
          }
      | else-len-lt-MOST_CHANGES w ↦
          let full = w.if-len-lt-MOST_CHANGES.false in
          record {
            first = ap (λ (k : WordChanges). k.first.items) w.self-is ∙ first_full c.args.self.now.first.items all c.args.change (omega (arith, len, full)) is.first;
            count = ap (λ (k : WordChanges). k.count + 1) w.self-is ∙ one_more all c.args.change c.args.self.now.count is.count;
          }
    ]
