-- Each turn of the loop passes the lowest address at which an item is left.
use Rattle.std.proofs.Common.{◌≡◌, ◌∙◌, List, sym, ap, Some, None}
use Rattle.os_heap.specs.Store.{store_of}
use Rattle.trace_store_text.specs.items.Changes.{changes_between, item_changes}
use Rattle.trace_store_text.specs.items.Laws.{with_item_changes}
use Rattle.trace_store_text.specs.items.Places.{item_there, lower_place, place_next, placed_items}
use Rattle.trace_store_text.specs.declared.items.changes.ItemChange.{ItemChange}
use Rattle.trace_store_text.proofs.ItemsLemmas.LawLemmas.{explains}
use Rattle.trace_moments.proofs.ItemLemmas.{all_found, next_found, none_found}
use Rattle.trace_moments.proofs.WalkLemmas.{ended_split}
use Rattle.trace_moments.proofs.items.all_changed_items.Goals as goal

pub loop-at-init : goal.loop-at-init
loop-at-init c =
    rw c.new-changes.ensures.items (none_found (store_of c.args.before.now) (store_of c.args.after.now) c.args.heap c.of-olds.result c.of-news.result c.of-olds.ensures c.of-news.ensures)

pub loop-at-preserved : goal.loop-at-preserved
loop-at-preserved c =
    let next : lower_place (place_next c.loop-at.olds) (place_next c.loop-at.news) ≡ Some c.in-Some.at =
    rw (sym c.place.ensures.place, sym c.place-in-loop-at.ensures.place) (sym c.lower_place.ensures ∙ c.in-Some.is) in
    next_found c.loop-at.changes.items _ c.loop-at.olds c.loop-at.news c.in-Some.at
    (item_changes (store_of c.args.before.now) (store_of c.args.after.now) c.args.heap)
    c.take_at-old.result c.take_at-new.result c.take_at-old.new.self c.take_at-new.new.self
    c.place.ensures.totals c.place-in-loop-at.ensures.totals c.place.ensures.below c.place-in-loop-at.ensures.below next
    c.take_at-old.ensures.item c.take_at-new.ensures.item c.take_at-old.ensures.rest c.take_at-new.ensures.rest c.loop-at.invariant c.in_ok-add_at.ensures

pub returns : goal.returns
returns c =
    let none : lower_place (place_next c.loop-at.olds) (place_next c.loop-at.news) ≡ None =
    rw (sym c.place.ensures.place, sym c.place-in-loop-at.ensures.place) (sym c.lower_place.ensures ∙ c.in_default.is) in
    let s = store_of c.args.before.now in
    let s' = store_of c.args.after.now in
    let all = all_found c.loop-at.changes.items (changes_between c.loop-at.olds c.loop-at.news) (item_changes s s' c.args.heap)
    (ended_split c.loop-at.olds c.loop-at.news none) c.loop-at.invariant in
    record {
      reported = all;
      replays = λ a below. explains s s' c.args.heap a below
          ∙ ap (λ (xs : List ItemChange). with_item_changes xs (item_there (placed_items s c.args.heap)) a) (sym all);
    }
