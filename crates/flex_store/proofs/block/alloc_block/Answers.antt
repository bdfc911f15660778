use Rattle.std.proofs.Common.{◌∷◌, [], sym, ◌∙◌}
use Rattle.os_heap.specs.Store.{store_of}
use Rattle.flex_store.specs.Blocks.{new_block}
use Rattle.flex_store.specs.State.{blocks_of, flex_store_in}
use Rattle.std.proofs.lemmas.Bool.{and_parts}
use Rattle.flex_store.specs.Calls.{is_anchor_place, may_stand}
use Rattle.flex_store.proofs.Keeping.{place_headless}
use Rattle.flex_store.proofs.Allocating.{alloc_allowed, alloc_bad, alloc_gives, alloc_used, may_append}
use Rattle.flex_store.proofs.Answering.{fits_keeps}
use Rattle.flex_store.proofs.block.alloc_block.Goals as goal

pub append_block-requires-clause-place : goal.append_block-requires-clause-place
append_block-requires-clause-place c =
    (may_append c.args.map.now c.args.extent.now c.args.anchor c.requires.state.flex.held (sym c.may_hold.ensures ∙ c.if-not-may_hold.false)).word

pub append_block-requires-clause-free : goal.append_block-requires-clause-free
append_block-requires-clause-free c =
    sym (may_append c.args.map.now c.args.extent.now c.args.anchor c.requires.state.flex.held (sym c.may_hold.ensures ∙ c.if-not-may_hold.false)).has
    ∙ (sym c.is_live.ensures ∙ c.if-is_live.false)

pub returns-then-not-may_hold-clause-state : goal.returns-then-not-may_hold-clause-state
returns-then-not-may_hold-clause-state c =
    alloc_bad c.args.map.now c.args.extent.now (store_of c.args.map.now) c.args.anchor c.args.size (sym c.may_hold.ensures ∙ c.if-not-may_hold.true)

pub returns-then-is_live-clause-state : goal.returns-then-is_live-clause-state
returns-then-is_live-clause-state c =
    alloc_used c.args.map.now c.args.extent.now (store_of c.args.map.now) c.args.anchor c.args.size (sym c.may_hold.ensures ∙ c.if-not-may_hold.false)
    (sym (may_append c.args.map.now c.args.extent.now c.args.anchor c.requires.state.flex.held (sym c.may_hold.ensures ∙ c.if-not-may_hold.false)).has
    ∙ (sym c.is_live.ensures ∙ c.if-is_live.true))

pub returns-clause-state : goal.returns-clause-state
returns-clause-state c =
    alloc_gives c.args.map.now c.append_block.new.map c.args.extent.now c.append_block.new.extent (store_of c.args.map.now) c.args.anchor c.args.size c.append_block.result
    (sym c.may_hold.ensures ∙ c.if-not-may_hold.false)
    (sym (may_append c.args.map.now c.args.extent.now c.args.anchor c.requires.state.flex.held (sym c.may_hold.ensures ∙ c.if-not-may_hold.false)).has
    ∙ (sym c.is_live.ensures ∙ c.if-is_live.false))
    c.append_block.ensures

pub returns-clause-keeps : goal.returns-clause-keeps
returns-clause-keeps c =
    fits_keeps c.args.map.now c.append_block.new.map c.args.extent.now c.append_block.new.extent (blocks_of c.args.map.now c.args.extent.now) (new_block c.args.anchor c.args.size ∷ [])
    c.append_block.result c.requires.state.flex.held (alloc_allowed c.args.map.now c.args.extent.now c.args.anchor c.args.size (sym c.may_hold.ensures ∙ c.if-not-may_hold.false))
    c.append_block.ensures

pub append_block-requires-clause-head : goal.append_block-requires-clause-head
append_block-requires-clause-head c =
    let m = c.args.map.now in
    place_headless m c.args.anchor c.requires.state.sound c.requires.state.classes
    (and_parts (is_anchor_place (store_of m) c.args.anchor) (may_stand (flex_store_in m c.args.extent.now) c.args.anchor) (sym c.may_hold.ensures ∙ c.if-not-may_hold.false)).0
