-- Store calls from outside leave a heap to itself.
use Rattle.std.proofs.Common.{ℕ, ◌≡◌, Bool, true, false, not, List, [], ◌∷◌, Option, Some, None, refl, sym, ap, ◌∙◌}
use Rattle.std.proofs.lemmas.Bool.{and_parts, false≢true}
use Rattle.profile.specs.declared.swi.SwiName.TheVariants as swi
use Rattle.profile.specs.images.Entries.{Entry}
use Rattle.os_heap_words.specs.lists.Heap.{HeapList}
use Rattle.swi_dispatch_guest.specs.MachineState.{MachineState}
use Rattle.law_machine.specs.heap_alone.Laws.{IsAside}
use Rattle.swi_dispatch_guest.specs.Moves.{Call, Move, Step, machine_after_event, outside_name}
use Rattle.law_machine.specs.heap_runs.Calls.{CallsStandAside, are_plain_calls, is_anchored}

is_step : Move → Bool
is_step Step = true
is_step (Call number words) = false

call_aside : (s : MachineState) (h : HeapList) (number : ℕ) (words : List ℕ) → not (is_anchored (outside_name number)) ≡ true
    → IsAside s h (Call number words)
unfolding is_step
call_aside s h number words plain = record {
  stores = λ is. absurd (false≢true (ap is_step is));
  calls = λ is. absurd (false≢true (ap is_step is));
  anchors = λ named. absurd (false≢true (sym (ap (λ (o : Option _). not (is_anchored o)) named) ∙ plain));
}

pub stand_aside : CallsStandAside
stand_aside images start s [] plain = tt
stand_aside images start s (Step ∷ ms) plain = absurd (false≢true plain)
stand_aside images start s (Call number words ∷ ms) plain =
    let parts = and_parts (not (is_anchored (outside_name number))) (are_plain_calls ms) plain in
    ((λ h found. call_aside s h number words parts.0), stand_aside images start (machine_after_event images s (Call number words)) ms parts.1)
