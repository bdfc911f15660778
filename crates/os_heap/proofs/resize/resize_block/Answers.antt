use Rattle.std.proofs.Common.{true, false, ◌≡◌, ◌+◌, Some, refl, sym, ◌∙◌, ap, arith}
use Rattle.os_heap_words.specs.Outcomes.{items_at, end_at}
use Rattle.os_heap_words.specs.lists.Lists.{round_up_8, changed_by, live_total}
use Rattle.os_heap.proofs.Resizing.{there_heap, block_here, resize_refused, resize_freed, resize_refitted, larger_where_none, resize_moved, move_few, anchor_shown, cut_shown, below_all, held_freed, held_cut, held_moved}
use Rattle.os_heap_words.specs.Memory.{regions}
use Rattle.os_heap.proofs.Sized.{unheld}
use Rattle.os_heap_words.proofs.Walking.{begun_few}
use Rattle.os_heap.proofs.LostRecords.{rest_kept}
use Rattle.os_heap.proofs.resize.resize_block.Goals as goal

pub find_guest_block-walk-requires : goal.find_guest_block-walk-requires
find_guest_block-walk-requires c = there_heap c.args.map.now c.args.heap c.requires.state.sound c.requires.found

pub returns-in_default : goal.returns-in_default
returns-in_default c =
    let none = unheld (regions c.args.map.now) c.args.block (c.args.heap + 16) (items_at c.args.map.now c.args.heap) (rw c.in_default.is at c.find_guest_block-walk.ensures.block) in
    let refused = resize_refused c.args.map.now c.args.heap c.args.block c.args.change c.requires.found none in
    record {
      store = rw (c.refused.ensures, refused.0) (refl, refl);
      kept = rest_kept c.args.map.now c.requires.state;
      probes = rw c.refused.ensures (c.find_guest_block-walk.ensures.probes ∙ sym refused.1);
    }

pub word-total-requires : goal.word-total-requires
word-total-requires c =
    let here = block_here c.args.map.now c.args.heap c.args.block _ c.in-Some.cursor.at _ _ c.requires.state.sound c.requires.found (rw c.in-Some.is at c.find_guest_block-walk.ensures.block) in
    record { aligned = here.whole; mapped = here.mapped }

pub give_up-requires-clause-block : goal.give_up-requires-clause-block
give_up-requires-clause-block c = rw c.in-Some.is at c.find_guest_block-walk.ensures.block

pub give_up-requires-clause-unheld : goal.give_up-requires-clause-unheld
give_up-requires-clause-unheld c = sym c.holds_anchor.ensures ∙ c.if-holds_anchor.false

pub resize_in_place-requires-clause-block : goal.resize_in_place-requires-clause-block
resize_in_place-requires-clause-block c = rw c.in-Some.is at c.find_guest_block-walk.ensures.block

pub returns-then-size-le4 : goal.returns-then-size-le4
returns-then-size-le4 c =
    let here = block_here c.args.map.now c.args.heap c.args.block _ c.in-Some.cursor.at _ _ c.requires.state.sound c.requires.found (rw c.in-Some.is at c.find_guest_block-walk.ensures.block) in
    let live : live_total c.args.block (c.args.heap + 16) (items_at c.args.map.now c.args.heap) ≡ Some c.word-total.result = here.live ∙ ap (λ n. Some n) (sym c.word-total.ensures) in
    let done = resize_freed c.args.map.now c.give_up.new.map c.args.heap c.args.block c.args.change c.word-total.result c.requires.found here.own live
    (omega (arith, c.changed_by-size.ensures, c.if-size-le4.true)) c.give_up.ensures.store c.give_up.ensures.kept in
    record {
      store = done.store;
      kept = done.kept;
      probes = c.find_guest_block-walk.ensures.probes ∙ omega (arith, done.probes);
    }

pub returns-then-resize_in_place : goal.returns-then-resize_in_place
returns-then-resize_in_place c =
    let m = c.args.map.now in
    let r = rw c.if-resize_in_place.true at c.resize_in_place.ensures in
    let here = block_here m c.args.heap c.args.block _ c.in-Some.cursor.at _ _ c.requires.state.sound c.requires.found (rw c.in-Some.is at c.find_guest_block-walk.ensures.block) in
    let live : live_total c.args.block (c.args.heap + 16) (items_at m c.args.heap) ≡ Some c.word-total.result = here.live ∙ ap (λ n. Some n) (sym c.word-total.ensures) in
    let both : Some r.own ≡ Some c.word-total.result = sym r.live ∙ live in
    let own : r.own ≡ c.word-total.result = cc in
    let size : c.changed_by-size.result ≡ changed_by c.word-total.result c.args.change = c.changed_by-size.ensures in
    let needed : c.round_up_8-needed.result ≡ round_up_8 (changed_by c.word-total.result c.args.change) = c.round_up_8-needed.ensures ∙ ap round_up_8 size in
    let cut = rw needed at c.cut_holds_anchor.ensures in
    let uncut = cut_shown m _ _ c.cut_holds_anchor.result false cut c.if-cut_holds_anchor.false in
    let done = resize_refitted m r.between c.resize_in_place.new.map c.args.heap c.args.block c.args.change c.word-total.result c.requires.state c.requires.found
    here.own live (omega (arith, size, c.if-size-le4.false)) uncut (rw (own, needed) at r.forgets) (rw needed at r.refits) in
    record {
      store = done.store;
      kept = done.kept;
      probes = c.find_guest_block-walk.ensures.probes ∙ omega (arith, done.probes);
    }

pub relocate-moved-requires-clause-state : goal.relocate-moved-requires-clause-state
relocate-moved-requires-clause-state c =
    let un = rw c.if-resize_in_place.false at c.resize_in_place.ensures in
    rw un.1 c.requires.state

pub relocate-moved-requires-clause-may : goal.relocate-moved-requires-clause-may
relocate-moved-requires-clause-may c =
    let here = block_here c.args.map.now c.args.heap c.args.block _ c.in-Some.cursor.at _ _ c.requires.state.sound c.requires.found (rw c.in-Some.is at c.find_guest_block-walk.ensures.block) in
    let live : live_total c.args.block (c.args.heap + 16) (items_at c.args.map.now c.args.heap) ≡ Some c.word-total.result = here.live ∙ ap (λ n. Some n) (sym c.word-total.ensures) in
    let un = rw c.if-resize_in_place.false at c.resize_in_place.ensures in
    let reported = rw un.1 at c.holds_anchor-2.ensures in
    rw un.1 (record {
      heap = there_heap c.args.map.now c.args.heap c.requires.state.sound c.requires.found;
      found = c.requires.found;
      own = (rw c.in-Some.is at c.find_guest_block-walk.ensures.block).own;
      live = live;
      unheld = anchor_shown c.args.map.now c.args.heap c.args.block c.word-total.result c.holds_anchor-2.result false live reported c.if-holds_anchor-2.false;
    })

pub relocate-moved-requires-clause-larger : goal.relocate-moved-requires-clause-larger
relocate-moved-requires-clause-larger c =
    let here = block_here c.args.map.now c.args.heap c.args.block _ c.in-Some.cursor.at _ _ c.requires.state.sound c.requires.found (rw c.in-Some.is at c.find_guest_block-walk.ensures.block) in
    let live : live_total c.args.block (c.args.heap + 16) (items_at c.args.map.now c.args.heap) ≡ Some c.word-total.result = here.live ∙ ap (λ n. Some n) (sym c.word-total.ensures) in
    let un = rw c.if-resize_in_place.false at c.resize_in_place.ensures in
    larger_where_none c.args.block _ _ (c.args.heap + 16) c.word-total.result (items_at c.args.map.now c.args.heap) live un.0

pub overflow_add-result : goal.overflow_add-result
overflow_add-result c =
    let un = rw c.if-resize_in_place.false at c.resize_in_place.ensures in
    let few = move_few c.args.map.now c.args.heap c.args.block c.word-total.result c.round_up_8-needed.result c.relocate-moved.result.probes c.requires.state.sound c.requires.found
    (rw un.1 at c.relocate-moved.ensures.probes) in
    let heap = there_heap c.args.map.now c.args.heap c.requires.state.sound c.requires.found in
    omega (arith, few, c.find_guest_block-walk.ensures.probes, begun_few c.args.map.now c.args.heap (end_at c.args.map.now c.args.heap) c.args.block (items_at c.args.map.now c.args.heap) heap)

pub returns : goal.returns
returns c =
    let here = block_here c.args.map.now c.args.heap c.args.block _ c.in-Some.cursor.at _ _ c.requires.state.sound c.requires.found (rw c.in-Some.is at c.find_guest_block-walk.ensures.block) in
    let live : live_total c.args.block (c.args.heap + 16) (items_at c.args.map.now c.args.heap) ≡ Some c.word-total.result = here.live ∙ ap (λ n. Some n) (sym c.word-total.ensures) in
    let size : c.changed_by-size.result ≡ changed_by c.word-total.result c.args.change = c.changed_by-size.ensures in
    let needed : c.round_up_8-needed.result ≡ round_up_8 (changed_by c.word-total.result c.args.change) = c.round_up_8-needed.ensures ∙ ap round_up_8 size in
    let un = rw c.if-resize_in_place.false at c.resize_in_place.ensures in
    let reported = rw un.1 at c.holds_anchor-2.ensures in
    let free = anchor_shown c.args.map.now c.args.heap c.args.block c.word-total.result c.holds_anchor-2.result false live reported c.if-holds_anchor-2.false in
    let done = resize_moved c.args.map.now c.relocate-moved.new.map c.args.heap c.args.block c.args.change c.word-total.result c.relocate-moved.result.probes _ c.requires.state.sound c.requires.found here.own live
    (omega (arith, size, c.if-size-le4.false)) (rw needed at un.0) free (rw (un.1, needed) at c.relocate-moved.ensures.store) (rw un.1 at c.relocate-moved.ensures.kept)
    (rw (un.1, needed) at c.relocate-moved.ensures.probes) in
    record {
      store = done.store;
      kept = done.kept;
      probes = rw (sym c.find_guest_block-walk.ensures.probes) at done.probes;
    }

pub holds_anchor-requires : goal.holds_anchor-requires
holds_anchor-requires c = record {
  heap = there_heap c.args.map.now c.args.heap c.requires.state.sound c.requires.found;
  block = (rw c.in-Some.is at c.find_guest_block-walk.ensures.block).here;
}

pub returns-then-holds_anchor-clause-store : goal.returns-then-holds_anchor-clause-store
returns-then-holds_anchor-clause-store c =
    let here = block_here c.args.map.now c.args.heap c.args.block _ c.in-Some.cursor.at _ _ c.requires.state.sound c.requires.found (rw c.in-Some.is at c.find_guest_block-walk.ensures.block) in
    let live : live_total c.args.block (c.args.heap + 16) (items_at c.args.map.now c.args.heap) ≡ Some c.word-total.result = here.live ∙ ap (λ n. Some n) (sym c.word-total.ensures) in
    let refused = held_freed c.args.map.now c.args.heap c.args.block c.args.change c.word-total.result c.requires.found here.own live
    (omega (arith, c.changed_by-size.ensures, c.if-size-le4.true))
    (anchor_shown c.args.map.now c.args.heap c.args.block c.word-total.result c.holds_anchor.result true live c.holds_anchor.ensures c.if-holds_anchor.true) in
    rw (c.refused-then-holds_anchor.ensures, refused.0) (refl, refl)

pub returns-then-holds_anchor-clause-probes : goal.returns-then-holds_anchor-clause-probes
returns-then-holds_anchor-clause-probes c =
    let here = block_here c.args.map.now c.args.heap c.args.block _ c.in-Some.cursor.at _ _ c.requires.state.sound c.requires.found (rw c.in-Some.is at c.find_guest_block-walk.ensures.block) in
    let live : live_total c.args.block (c.args.heap + 16) (items_at c.args.map.now c.args.heap) ≡ Some c.word-total.result = here.live ∙ ap (λ n. Some n) (sym c.word-total.ensures) in
    let refused = held_freed c.args.map.now c.args.heap c.args.block c.args.change c.word-total.result c.requires.found here.own live
    (omega (arith, c.changed_by-size.ensures, c.if-size-le4.true))
    (anchor_shown c.args.map.now c.args.heap c.args.block c.word-total.result c.holds_anchor.result true live c.holds_anchor.ensures c.if-holds_anchor.true) in
    rw c.refused-then-holds_anchor.ensures (c.find_guest_block-walk.ensures.probes ∙ sym refused.1)

pub cut_holds_anchor-requires-clause-below : goal.cut_holds_anchor-requires-clause-below
cut_holds_anchor-requires-clause-below c =
    let here = block_here c.args.map.now c.args.heap c.args.block _ c.in-Some.cursor.at _ _ c.requires.state.sound c.requires.found (rw c.in-Some.is at c.find_guest_block-walk.ensures.block) in
    let live : live_total c.args.block (c.args.heap + 16) (items_at c.args.map.now c.args.heap) ≡ Some c.word-total.result = here.live ∙ ap (λ n. Some n) (sym c.word-total.ensures) in
    below_all c.args.map.now c.args.heap c.args.block c.word-total.result (there_heap c.args.map.now c.args.heap c.requires.state.sound c.requires.found) live

pub returns-then-cut_holds_anchor-clause-store : goal.returns-then-cut_holds_anchor-clause-store
returns-then-cut_holds_anchor-clause-store c =
    let here = block_here c.args.map.now c.args.heap c.args.block _ c.in-Some.cursor.at _ _ c.requires.state.sound c.requires.found (rw c.in-Some.is at c.find_guest_block-walk.ensures.block) in
    let live : live_total c.args.block (c.args.heap + 16) (items_at c.args.map.now c.args.heap) ≡ Some c.word-total.result = here.live ∙ ap (λ n. Some n) (sym c.word-total.ensures) in
    let size : c.changed_by-size.result ≡ changed_by c.word-total.result c.args.change = c.changed_by-size.ensures in
    let needed : c.round_up_8-needed.result ≡ round_up_8 (changed_by c.word-total.result c.args.change) = c.round_up_8-needed.ensures ∙ ap round_up_8 size in
    let cut = rw needed at c.cut_holds_anchor.ensures in
    let refused = held_cut c.args.map.now c.args.heap c.args.block c.args.change c.word-total.result c.requires.found here.own live
    (omega (arith, size, c.if-size-le4.false))
    (cut_shown c.args.map.now _ _ c.cut_holds_anchor.result true cut c.if-cut_holds_anchor.true) in
    rw (c.refused-then-cut_holds_anchor.ensures, refused.0) (refl, refl)

pub returns-then-cut_holds_anchor-clause-probes : goal.returns-then-cut_holds_anchor-clause-probes
returns-then-cut_holds_anchor-clause-probes c =
    let here = block_here c.args.map.now c.args.heap c.args.block _ c.in-Some.cursor.at _ _ c.requires.state.sound c.requires.found (rw c.in-Some.is at c.find_guest_block-walk.ensures.block) in
    let live : live_total c.args.block (c.args.heap + 16) (items_at c.args.map.now c.args.heap) ≡ Some c.word-total.result = here.live ∙ ap (λ n. Some n) (sym c.word-total.ensures) in
    let size : c.changed_by-size.result ≡ changed_by c.word-total.result c.args.change = c.changed_by-size.ensures in
    let needed : c.round_up_8-needed.result ≡ round_up_8 (changed_by c.word-total.result c.args.change) = c.round_up_8-needed.ensures ∙ ap round_up_8 size in
    let cut = rw needed at c.cut_holds_anchor.ensures in
    let refused = held_cut c.args.map.now c.args.heap c.args.block c.args.change c.word-total.result c.requires.found here.own live
    (omega (arith, size, c.if-size-le4.false))
    (cut_shown c.args.map.now _ _ c.cut_holds_anchor.result true cut c.if-cut_holds_anchor.true) in
    rw c.refused-then-cut_holds_anchor.ensures (c.find_guest_block-walk.ensures.probes ∙ sym refused.1)

pub holds_anchor-requires-2 : goal.holds_anchor-requires-2
holds_anchor-requires-2 c =
    let un = rw c.if-resize_in_place.false at c.resize_in_place.ensures in
    rw un.1 (record {
      heap = there_heap c.args.map.now c.args.heap c.requires.state.sound c.requires.found;
      block = (rw c.in-Some.is at c.find_guest_block-walk.ensures.block).here;
    })

pub returns-then-holds_anchor-2-clause-store : goal.returns-then-holds_anchor-2-clause-store
returns-then-holds_anchor-2-clause-store c =
    let here = block_here c.args.map.now c.args.heap c.args.block _ c.in-Some.cursor.at _ _ c.requires.state.sound c.requires.found (rw c.in-Some.is at c.find_guest_block-walk.ensures.block) in
    let live : live_total c.args.block (c.args.heap + 16) (items_at c.args.map.now c.args.heap) ≡ Some c.word-total.result = here.live ∙ ap (λ n. Some n) (sym c.word-total.ensures) in
    let size : c.changed_by-size.result ≡ changed_by c.word-total.result c.args.change = c.changed_by-size.ensures in
    let needed : c.round_up_8-needed.result ≡ round_up_8 (changed_by c.word-total.result c.args.change) = c.round_up_8-needed.ensures ∙ ap round_up_8 size in
    let un = rw c.if-resize_in_place.false at c.resize_in_place.ensures in
    let reported = rw un.1 at c.holds_anchor-2.ensures in
    let refused = held_moved c.args.map.now c.args.heap c.args.block c.args.change c.word-total.result c.requires.state.sound c.requires.found here.own live
    (omega (arith, size, c.if-size-le4.false)) (rw needed at un.0)
    (anchor_shown c.args.map.now c.args.heap c.args.block c.word-total.result c.holds_anchor-2.result true live reported c.if-holds_anchor-2.true) in
    rw (un.1, c.refused-then-holds_anchor-2.ensures, refused.0) (refl, refl)

pub returns-then-holds_anchor-2-clause-probes : goal.returns-then-holds_anchor-2-clause-probes
returns-then-holds_anchor-2-clause-probes c =
    let here = block_here c.args.map.now c.args.heap c.args.block _ c.in-Some.cursor.at _ _ c.requires.state.sound c.requires.found (rw c.in-Some.is at c.find_guest_block-walk.ensures.block) in
    let live : live_total c.args.block (c.args.heap + 16) (items_at c.args.map.now c.args.heap) ≡ Some c.word-total.result = here.live ∙ ap (λ n. Some n) (sym c.word-total.ensures) in
    let size : c.changed_by-size.result ≡ changed_by c.word-total.result c.args.change = c.changed_by-size.ensures in
    let needed : c.round_up_8-needed.result ≡ round_up_8 (changed_by c.word-total.result c.args.change) = c.round_up_8-needed.ensures ∙ ap round_up_8 size in
    let un = rw c.if-resize_in_place.false at c.resize_in_place.ensures in
    let reported = rw un.1 at c.holds_anchor-2.ensures in
    let refused = held_moved c.args.map.now c.args.heap c.args.block c.args.change c.word-total.result c.requires.state.sound c.requires.found here.own live
    (omega (arith, size, c.if-size-le4.false)) (rw needed at un.0)
    (anchor_shown c.args.map.now c.args.heap c.args.block c.word-total.result c.holds_anchor-2.result true live reported c.if-holds_anchor-2.true) in
    rw c.refused-then-holds_anchor-2.ensures (c.find_guest_block-walk.ensures.probes ∙ sym refused.1)

pub returns-then-holds_anchor-clause-kept : goal.returns-then-holds_anchor-clause-kept
returns-then-holds_anchor-clause-kept c = rest_kept c.args.map.now c.requires.state

pub returns-then-cut_holds_anchor-clause-kept : goal.returns-then-cut_holds_anchor-clause-kept
returns-then-cut_holds_anchor-clause-kept c = rest_kept c.args.map.now c.requires.state

pub returns-then-holds_anchor-2-clause-kept : goal.returns-then-holds_anchor-2-clause-kept
returns-then-holds_anchor-2-clause-kept c =
    let un = rw c.if-resize_in_place.false at c.resize_in_place.ensures in
    rw un.1 (rest_kept c.args.map.now c.requires.state)
