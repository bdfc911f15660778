use Rattle.std.proofs.Common.{◌+◌, ◌*◌}
use Rattle.address_map.specs.Memory.{bytes_of}
use Rattle.store_copies.specs.Words.{word_changes_below, is_shown_elsewhere}
use Rattle.store_copies.proofs.ChangeLemmas.{page_passed, same_summary}
use Rattle.store_copies.proofs.WordLemmas.{unmapped_in_page}
use Rattle.store_copies.proofs.changes.WordChanges.add_page.Goals as goal

pub returns-in_default : goal.returns-in_default
returns-in_default c =
    let reported = is_shown_elsewhere c.args.has_error in
    let old = bytes_of c.args.before.now in
    let new = bytes_of c.args.after.now in
    same_summary c.args.self.now (word_changes_below reported old new (1024 * c.args.page)) (word_changes_below reported old new (1024 * (c.args.page + 1)))
    (page_passed reported old new c.args.page (λ j inside. unmapped_in_page old c.args.after.now c.args.page j c.in_default.ensures inside)) c.requires.summary
