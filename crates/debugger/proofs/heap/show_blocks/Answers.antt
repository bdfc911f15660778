use Rattle.std.proofs.Common.{◌≡◌, ◌+◌, ℕ, List, [], ◌++◌, Option, Some, None, sym, ap, ◌∙◌, arith, refl, subst}
use Rattle.std.specs.Prelude.{is_some, unwrap_or}
use Rattle.std.specs.Io.KnownBytes.{Appends}
use Rattle.swi_dispatch_guest.proofs.OutputLemmas.{Appends-join, Appends-nothing}
use Rattle.swi_dispatch_guest.specs.Items.{size_of}
use Rattle.swi_dispatch_guest.specs.Store.{Store, store_of}
use Rattle.swi_dispatch_guest.specs.HeapCalls.{items_of}
use Rattle.debugger.specs.Heap.{limits_text, heap_items_text, heap_blocks_text}
use Rattle.debugger.proofs.HeapLemmas.{IsShown, shown, not_shown}
use Rattle.debugger.proofs.heap.show_blocks.Goals as goal
use Rattle.swi_dispatch_guest.specs.GuestState.{state_of}

pub returns-in_default-clause-found : goal.returns-in_default-clause-found
returns-in_default-clause-found g c =
    let none : items_of (store_of c.memory-memory.result.now) c.args.heap ≡ None = sym c.blocks-2.ensures ∙ c.in_default.is in
    sym (ap (λ (s : Store). is_some (heap_blocks_text s c.args.heap)) (sym c.memory-memory.ensures.store)
    ∙ ap is_some (not_shown (store_of c.memory-memory.result.now) c.args.heap none))

pub returns-in_default-clause-writes : goal.returns-in_default-clause-writes
returns-in_default-clause-writes g c =
    let a = g.W.Sink.contents c.args.sink.now in
    let none : items_of (store_of c.memory-memory.result.now) c.args.heap ≡ None = sym c.blocks-2.ensures ∙ c.in_default.is in
    let text : heap_blocks_text (state_of c.args.machine.now.guest).store c.args.heap ≡ None =
    ap (λ (s : Store). heap_blocks_text s c.args.heap) (sym c.memory-memory.ensures.store)
    ∙ not_shown (store_of c.memory-memory.result.now) c.args.heap none in
    record {
      text = subst (λ (o : Option (List ℕ)). Appends a a (unwrap_or o [])) (sym text) (Appends-nothing a);
      flag = tt;
      same_flag = refl;
    }

pub show_limits-requires-clause-there : goal.show_limits-requires-clause-there
show_limits-requires-clause-there g c =
    let m = c.memory-memory.result.now in
    let is : IsShown m c.args.heap c.in-Some.blocks =
    shown m c.args.heap c.in-Some.blocks c.memory-memory.ensures.sound (sym c.blocks-2.ensures ∙ c.in-Some.is) in
    ap is_some is.found

pub overflow_add-heap : goal.overflow_add-heap
overflow_add-heap g c =
    let m = c.memory-memory.result.now in
    let is : IsShown m c.args.heap c.in-Some.blocks =
    shown m c.args.heap c.in-Some.blocks c.memory-memory.ensures.sound (sym c.blocks-2.ensures ∙ c.in-Some.is) in
    omega (arith, is.below)

pub show_items-requires : goal.show_items-requires
show_items-requires g c =
    let m = c.memory-memory.result.now in
    let is : IsShown m c.args.heap c.in-Some.blocks =
    shown m c.args.heap c.in-Some.blocks c.memory-memory.ensures.sound (sym c.blocks-2.ensures ∙ c.in-Some.is) in
    is.below

pub returns-clause-found : goal.returns-clause-found
returns-clause-found g c =
    let m = c.memory-memory.result.now in
    let is : IsShown m c.args.heap c.in-Some.blocks =
    shown m c.args.heap c.in-Some.blocks c.memory-memory.ensures.sound (sym c.blocks-2.ensures ∙ c.in-Some.is) in
    sym (ap (λ (s : Store). is_some (heap_blocks_text s c.args.heap)) (sym c.memory-memory.ensures.store) ∙ ap is_some is.text)

pub returns-clause-writes : goal.returns-clause-writes
returns-clause-writes g c =
    let m = c.memory-memory.result.now in
    let heap = c.args.heap in
    let items = c.in-Some.blocks in
    let from = g.W.Sink.contents c.args.sink.now in
    let between = g.W.Sink.contents c.show_limits.new.sink in
    let to = g.W.Sink.contents c.show_items.new.sink in
    let is : IsShown m heap items = shown m heap items c.memory-memory.ensures.sound (sym c.blocks-2.ensures ∙ c.in-Some.is) in
    let text : heap_blocks_text (state_of c.args.machine.now.guest).store heap
    ≡ Some (limits_text heap (16 + size_of is.part.items) is.part.end ++ heap_items_text (heap + 16) items) =
    ap (λ (s : Store). heap_blocks_text s heap) (sym c.memory-memory.ensures.store) ∙ is.text in
    record {
      text = subst (λ (o : Option (List ℕ)). Appends from to (unwrap_or o [])) (sym text)
          (Appends-join from between to (limits_text heap (16 + size_of is.part.items) is.part.end) (heap_items_text (heap + 16) items)
          (rw is.found at c.in_ok-show_limits.ensures.text) c.in_ok-show_items.ensures.text);
      flag = tt;
      same_flag = c.in_ok-show_items.ensures.same_flag ∙ c.in_ok-show_limits.ensures.same_flag;
    }
