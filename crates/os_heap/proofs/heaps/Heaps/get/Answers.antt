use Rattle.std.proofs.Common.{ℕ, ◌∙◌, refl, sym, ap}
use Rattle.os_heap_words.specs.lists.Counts.{looked_at}
use Rattle.os_heap_words.specs.Outcomes.{items_at}
use Rattle.os_heap.proofs.Calls.{found_part, heap_there, get_given, get_refused, get_counted, get_counted_none}
use Rattle.os_heap.proofs.heaps.Heaps.get.Goals as goal

pub claim_total-requires-clause-heap : goal.claim_total-requires-clause-heap
claim_total-requires-clause-heap c = heap_there c.in-Some.field-0.kind c.args.map.now c.args.heap c.in-Some.field-0.len c.requires.state.sound (found_part c.args.map.now c.args.heap c.in-Some.field-0 c.in-Some.ensures)

pub returns-in-Some : goal.returns-in-Some
returns-in-Some c =
    let found = found_part c.args.map.now c.args.heap c.in-Some.field-0 c.in-Some.ensures in
    let g = get_given c.in-Some.field-0.kind c.args.map.now _ c.args.heap c.args.size c.in-Some.field-0.len _ c.requires.state.sound c.requires.state.classes found
    (rw c.total_for.ensures at c.claim_total.ensures.claim) in
    record {
      store = g.store;
      kept = record { sound = g.sound; classes = g.classes; layout = g.same };
      probes = c.claim_total.ensures.probes ∙ ap (λ (n : ℕ). looked_at n (items_at c.args.map.now c.args.heap)) c.total_for.ensures ∙ sym (get_counted c.in-Some.field-0.kind c.args.map.now c.args.heap c.args.size c.in-Some.field-0.len found);
    }

pub returns-in-None : goal.returns-in-None
returns-in-None c =
    record {
      store = rw (c.refused.ensures, get_refused c.args.map.now c.args.heap c.args.size c.in-None.ensures) (refl, refl);
      kept = record { sound = c.requires.state.sound; classes = c.requires.state.classes; layout = refl };
      probes = rw c.refused.ensures (sym (get_counted_none c.args.map.now c.args.heap c.args.size c.in-None.ensures));
    }
