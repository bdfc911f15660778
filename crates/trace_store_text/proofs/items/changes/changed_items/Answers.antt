-- Each turn of the loop passes the lowest address at which an item is left.
use Rattle.std.proofs.Common.{◌≡◌, ◌∙◌, sym, Some, None}
use Rattle.store_copies.specs.Store.{store_of}
use Rattle.trace_store_text.specs.items.Changes.{changes_between, item_changes}
use Rattle.trace_store_text.specs.items.Places.{lower_place, place_next}
use Rattle.trace_store_text.proofs.ItemsLemmas.ChangeLemmas.{few_changes, few_kept}
use Rattle.trace_store_text.proofs.ItemsLemmas.WalkLemmas.{all_kept, all_left, ended_split, kept_next}
use Rattle.trace_store_text.proofs.items.changes.changed_items.Goals as goal

pub loop-at-init : goal.loop-at-init
loop-at-init c =
    all_left c.none-changes.result (store_of c.args.before.now) (store_of c.args.after.now) c.args.heap c.of-olds.result c.of-news.result
    c.of-olds.ensures c.of-news.ensures c.none-changes.ensures

pub add_at-requires : goal.add_at-requires
add_at-requires c =
    few_kept c.loop-at.changes (changes_between c.loop-at.olds c.loop-at.news) (item_changes (store_of c.args.before.now) (store_of c.args.after.now) c.args.heap)
    (few_changes (store_of c.args.before.now) (store_of c.args.after.now) c.args.heap) c.loop-at.invariant

pub loop-at-preserved : goal.loop-at-preserved
loop-at-preserved c =
    let next : lower_place (place_next c.loop-at.olds) (place_next c.loop-at.news) ≡ Some c.in-Some.at =
    rw (sym c.place.ensures.place, sym c.place-in-loop-at.ensures.place) (sym c.lower_place.ensures ∙ c.in-Some.is) in
    kept_next c.loop-at.changes c.add_at.new.self c.loop-at.olds c.loop-at.news c.in-Some.at
    (item_changes (store_of c.args.before.now) (store_of c.args.after.now) c.args.heap)
    c.take_at-old.result c.take_at-new.result c.take_at-old.new.self c.take_at-new.new.self
    c.place.ensures.totals c.place-in-loop-at.ensures.totals c.place.ensures.below c.place-in-loop-at.ensures.below next
    c.take_at-old.ensures.item c.take_at-new.ensures.item c.take_at-old.ensures.rest c.take_at-new.ensures.rest c.loop-at.invariant c.add_at.ensures

pub returns : goal.returns
returns c =
    let none : lower_place (place_next c.loop-at.olds) (place_next c.loop-at.news) ≡ None =
    rw (sym c.place.ensures.place, sym c.place-in-loop-at.ensures.place) (sym c.lower_place.ensures ∙ c.in_default.is) in
    all_kept c.loop-at.changes (changes_between c.loop-at.olds c.loop-at.news) (item_changes (store_of c.args.before.now) (store_of c.args.after.now) c.args.heap)
    (ended_split c.loop-at.olds c.loop-at.news none) c.loop-at.invariant
