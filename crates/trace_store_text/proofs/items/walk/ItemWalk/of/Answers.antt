-- The walk begins with all items.
use Rattle.std.proofs.Common.{◌≡◌, ◌+◌, ◌∙◌, sym, arith, [], Some, None}
use Rattle.std.specs.Prelude.{unwrap_or}
use Rattle.store_copies.specs.Calls.{items_of}
use Rattle.store_copies.specs.Store.{store_of}
use Rattle.trace_store_text.proofs.ItemsLemmas.PlaceLemmas.{begun, begun_with, items_stand, none_placed}
use Rattle.trace_store_text.proofs.items.walk.ItemWalk.of.Goals as goal

pub returns-in_default : goal.returns-in_default
returns-in_default c = none_placed (store_of c.args.memory.now) c.args.heap (sym c.blocks-2.ensures ∙ c.in_default.is)

pub overflow_add-result : goal.overflow_add-result
overflow_add-result c =
    let there : items_of (store_of c.args.memory.now) c.args.heap ≡ Some c.in-Some.blocks = sym c.blocks-2.ensures ∙ c.in-Some.is in
    let stands = items_stand c.args.memory.now c.args.heap c.in-Some.blocks c.requires there in
    omega (arith, stands.below)

pub invariant_of-result-2 : goal.invariant_of-result-2
invariant_of-result-2 c =
    let there : items_of (store_of c.args.memory.now) c.args.heap ≡ Some c.in-Some.blocks = sym c.blocks-2.ensures ∙ c.in-Some.is in
    let stands = items_stand c.args.memory.now c.args.heap c.in-Some.blocks c.requires there in
    begun (c.args.heap + 16) c.in-Some.blocks c.next_of-next.result (unwrap_or c.next_of-next.new.blocks []) c.next_of-next.ensures.first
    c.next_of-next.ensures.rest stands.totals stands.below

pub returns : goal.returns
returns c =
    let there : items_of (store_of c.args.memory.now) c.args.heap ≡ Some c.in-Some.blocks = sym c.blocks-2.ensures ∙ c.in-Some.is in
    begun_with (store_of c.args.memory.now) c.args.heap c.in-Some.blocks c.next_of-next.result (unwrap_or c.next_of-next.new.blocks [])
    c.next_of-next.ensures.first c.next_of-next.ensures.rest there
