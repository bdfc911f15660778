use Rattle.std.proofs.Common.{true, ◌∙◌, refl, sym}
use Rattle.os_heap_words.specs.Bytes.{word_at}
use Rattle.os_heap_words.specs.Memory.{byte_at}
use Rattle.os_heap.specs.Store.{store_of}
use Rattle.os_heap.proofs.Calls.{free_counted, free_unfound, image_recorded, part_at}
use Rattle.os_heap.proofs.Resizing.{anchor_shown, block_here, held_released, is_there, there_heap}
use Rattle.os_heap.proofs.LostRecords.{rest_kept}
use Rattle.os_heap.proofs.free.release.Goals as goal

pub find_guest_block-walk-requires : goal.find_guest_block-walk-requires
find_guest_block-walk-requires c = there_heap c.args.map.now c.args.heap c.requires.state.sound c.requires.found

pub returns-in_default-clause-store : goal.returns-in_default-clause-store
returns-in_default-clause-store c =
    let t = is_there c.args.map.now c.args.heap c.requires.found in
    rw (c.refused.ensures, free_unfound t.kind c.args.map.now c.args.heap c.args.block t.end t.found (rw c.in_default.is at c.find_guest_block-walk.ensures.block))
    (refl, refl)

pub returns-in_default-clause-probes : goal.returns-in_default-clause-probes
returns-in_default-clause-probes c =
    let t = is_there c.args.map.now c.args.heap c.requires.found in
    rw c.refused.ensures (c.find_guest_block-walk.ensures.probes ∙ sym (free_counted t.kind c.args.map.now c.args.heap c.args.block t.end t.found))

pub holds_anchor-requires : goal.holds_anchor-requires
holds_anchor-requires c = record {
  heap = there_heap c.args.map.now c.args.heap c.requires.state.sound c.requires.found;
  block = (rw c.in-Some.is at c.find_guest_block-walk.ensures.block).here;
}

pub returns-then-holds_anchor-clause-store : goal.returns-then-holds_anchor-clause-store
returns-then-holds_anchor-clause-store c =
    let m = c.args.map.now in
    let here = block_here m c.args.heap c.args.block _ c.in-Some.cursor.at _ _ c.requires.state.sound c.requires.found
    (rw c.in-Some.is at c.find_guest_block-walk.ensures.block) in
    let t = is_there m c.args.heap c.requires.found in
    let held = anchor_shown m c.args.heap c.args.block (word_at (byte_at m) c.in-Some.cursor.at) c.holds_anchor.result true here.live c.holds_anchor.ensures
    c.if-holds_anchor.true in
    rw (
      c.refused-then-holds_anchor.ensures,
      held_released (store_of m) c.args.heap c.args.block (part_at t.kind m c.args.heap t.end)
          (word_at (byte_at m) c.in-Some.cursor.at) t.found (image_recorded m c.args.block ∙ here.own) here.live held,
    ) (refl, refl)

pub returns-then-holds_anchor-clause-probes : goal.returns-then-holds_anchor-clause-probes
returns-then-holds_anchor-clause-probes c =
    let t = is_there c.args.map.now c.args.heap c.requires.found in
    rw c.refused-then-holds_anchor.ensures
    (c.find_guest_block-walk.ensures.probes ∙ sym (free_counted t.kind c.args.map.now c.args.heap c.args.block t.end t.found))

pub returns-clause-probes : goal.returns-clause-probes
returns-clause-probes c =
    let t = is_there c.args.map.now c.args.heap c.requires.found in
    c.find_guest_block-walk.ensures.probes ∙ sym (free_counted t.kind c.args.map.now c.args.heap c.args.block t.end t.found)

pub returns-in_default-clause-kept : goal.returns-in_default-clause-kept
returns-in_default-clause-kept c = rest_kept c.args.map.now c.requires.state

pub returns-then-holds_anchor-clause-kept : goal.returns-then-holds_anchor-clause-kept
returns-then-holds_anchor-clause-kept c = rest_kept c.args.map.now c.requires.state
