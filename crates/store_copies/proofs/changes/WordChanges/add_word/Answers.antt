use Rattle.std.proofs.Common.{◌*◌, ◌+◌, ◌∙◌, ap, sym, arith, is_some}
use Rattle.address_map.specs.Memory.{bytes_of}
use Rattle.store_copies.specs.Words.{word_changes_below, is_shown_elsewhere}
use Rattle.store_copies.proofs.ChangeLemmas.{few_changes, kept_here, same_summary, shown_here, unchanged_here}
use Rattle.store_copies.proofs.WordLemmas.{same_word, unmapped_word}
use Rattle.store_copies.proofs.changes.WordChanges.add_word.Goals as goal
use Rattle.store_copies.proofs.changes.WordChanges.add_word.Goals.{else-old-new-via-then-old-new+then-is_some+else-not-is_shown_elsewhere, else-old-new-via-then-old-new+else-is_some, else-old-new-via-else-old-new}

pub add-requires : goal.add-requires
add-requires c =
    let count = c.requires.summary.count in
    let few = few_changes (is_shown_elsewhere c.args.has_error) (bytes_of c.args.before.now) (bytes_of c.args.after.now) c.args.number in
    let below = c.requires.number in
    omega (arith, count, few, below)

pub returns-then-not-is_shown_elsewhere : goal.returns-then-not-is_shown_elsewhere
returns-then-not-is_shown_elsewhere c =
    kept_here (is_shown_elsewhere c.args.has_error) c.args.before.now c.args.after.now c.args.number c.word_in-old.result c.word_in-new.result c.translate.result
    c.args.self.now c.add.new.self c.word_in-old.ensures c.word_in-new.ensures c.if-old-new.true c.translate.ensures
    (sym c.is_some.ensures ∙ c.if-is_some.true) (sym c.is_shown_elsewhere.ensures ∙ c.if-not-is_shown_elsewhere.true) c.requires.summary c.add.ensures

pub returns-else-old-new : goal.returns-else-old-new
returns-else-old-new c =
    let reported = is_shown_elsewhere c.args.has_error in
    let old = bytes_of c.args.before.now in
    let new = bytes_of c.args.after.now in
    let before = c.requires.summary in
    same_summary c.args.self.now (word_changes_below reported old new c.args.number) (word_changes_below reported old new (c.args.number + 1))
    (elim c.else-old-new.branch [
      | else-old-new-via-then-old-new+then-is_some+else-not-is_shown_elsewhere w ↦
          shown_here reported old new c.args.number (sym w.is_shown_elsewhere.ensures ∙ w.if-not-is_shown_elsewhere.false)
      | else-old-new-via-then-old-new+else-is_some w ↦
          unchanged_here reported old new c.args.number (unmapped_word old new (4 * c.args.number) (ap is_some (sym w.translate.ensures) ∙ (sym w.is_some.ensures ∙ w.if-is_some.false)))
      | else-old-new-via-else-old-new w ↦
          unchanged_here reported old new c.args.number (same_word old new (4 * c.args.number) (sym c.word_in-old.ensures ∙ (w.if-old-new.false ∙ c.word_in-new.ensures)))
    ]) before
