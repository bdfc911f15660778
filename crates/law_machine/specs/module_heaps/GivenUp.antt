-- Which heaps are forgotten by calls of OS_Module, by modules that are loaded from outside, and by
-- steps in which module code comes back: those in blocks of the module area that are given up (RISC
-- OS 3 Programmer's Reference Manual, "OS_Module"; that a heap may lie in a block, and is forgotten
-- with bytes of it, is this project's own).
use Rattle.profile.specs.MemoryMap.{module_area_start}
use Rattle.std.specs.Prelude.{ℕ, ◌≡◌, ◌↔◌, ◌-◌, Bool, is_ok, true, false, List, Option, Some, None}
use Rattle.std.specs.List.{list_any}
use Rattle.profile.specs.Reasons.{module_reason}
use Rattle.profile.specs.declared.reason.HeapReason.TheVariants as heap_reason
use Rattle.profile.specs.declared.reason.ModuleReason.{ModuleReason}
use Rattle.profile.specs.declared.reason.ModuleReason.TheVariants as reason
use Rattle.address_map.specs.Bytes.{in_range}
use Rattle.arm_core.specs.State.{State, register_of}
use Rattle.profile.specs.images.Entries.{Entry}
use Rattle.os_heap_words.specs.lists.Heap.{HeapList}
use Rattle.os_heap.specs.Store.{Store, find_heap}
use Rattle.rma.specs.Calls.{rma_extended}
use Rattle.instances_table.specs.plans.Plans.{Plan, plan_after_code}
use Rattle.swi_dispatch_guest.specs.Gates.{outcome_left, outcome_of_gate}
use Rattle.swi_dispatch_guest.specs.MachineState.{MachineState, machine_area_store}
use Rattle.swi_dispatch_guest.specs.Moves.{machine_with_words}
use Rattle.swi_dispatch_guest.specs.Step.{module_loaded, os_module_called}
use Rattle.law_machine.specs.heap_calls.Forgotten.{IsForgotten}
use Rattle.law_machine.specs.heap_calls.Laws.{IsNotForgotten}
use Rattle.law_machine.specs.heap_frame.BlockLaws.{block_total}
use Rattle.law_machine.specs.heap_frame.ForgettingLaws.{gives_back}
use Rattle.law_machine.specs.heap_alone.ModuleLaws.{HasAnyHeap}
use Rattle.law_machine.specs.live_bytes.Changes.{begins_tidy, slides_on}

-- A live block of the module area is live no more, and a heap starts among the bytes that it held. A
-- heap that lies in another starts in the same block as that.
pub record IsGivenUp (s t : Store) (start : ℕ) : Type 0 where
  pub block : ℕ
  pub total : ℕ
  pub live : block_total s block ≡ Some total
  pub gone : block_total t block ≡ None
  pub inside : in_range block (total - 4) start ≡ true

-- Just with its block a heap is recorded no more.
abbrev pub ForgetsGivenUp : HeapList → Store → Store → Type 0
ForgetsGivenUp k s t = (find_heap k.start t.heaps ≡ None) ↔ IsGivenUp s t k.start

-- A call is made with words in the first registers, or by an instruction, with none: with the X bit
-- or without.
abbrev pub is_extend : Option ModuleReason → Bool
is_extend (Some reason.Extend) = true
is_extend other = false

abbrev pub ModuleCallsForgetGivenUp : Type 0
ModuleCallsForgetGivenUp =
    (images : List Entry) (s : MachineState) (k : HeapList) (words : List ℕ) (x : Bool) (next number : ℕ) →
    HasAnyHeap s k
    → is_extend (module_reason (register_of (machine_with_words s words).cpu 0)) ≡ false
    → begins_tidy (machine_with_words s words) next ≡ false
    → ForgetsGivenUp k s.store (os_module_called images (machine_with_words s words) x next number).now.store

-- OS_Module 13 can be done, and frees bytes of the block in R2 with which a heap goes.
pub record IsCutOff (s : MachineState) (start : ℕ) : Type 0 where
  pub done : is_ok (rma_extended (machine_area_store s) (register_of s.cpu 2) (register_of s.cpu 3)) ≡ true
  pub forgotten : IsForgotten s.store module_area_start heap_reason.Resize (register_of s.cpu 2)
      (register_of s.cpu 3) start

abbrev pub ExtendsForgetCut : Type 0
ExtendsForgetCut =
    (images : List Entry) (s : MachineState) (k : HeapList) (words : List ℕ) (x : Bool) (next number : ℕ) →
    HasAnyHeap s k
    → module_reason (register_of (machine_with_words s words).cpu 0) ≡ Some reason.Extend
    → (find_heap k.start (os_module_called images (machine_with_words s words) x next number).now.store.heaps
    ≡ None)
    ↔ IsCutOff (machine_with_words s words) k.start

abbrev pub LoadsForgetGivenUp : Type 0
LoadsForgetGivenUp =
    (images : List Entry) (s : MachineState) (k : HeapList) (text : List ℕ) → HasAnyHeap s k
    → ForgetsGivenUp k s.store (module_loaded images s text).now.store

-- In a step in which module code comes back, its call is carried on; a SWI forgets none.
abbrev pub GatesForgetGivenUp : Type 0
GatesForgetGivenUp =
    (s : MachineState) (k : HeapList) → HasAnyHeap s k → slides_on s.cpu s.tables.plan ≡ false
    → ForgetsGivenUp k s.store (outcome_of_gate s).now.store

-- The reasons of OS_Module that give no block back, a tidy's only as it begins.
abbrev pub gives_nothing : Option ModuleReason → Bool
gives_nothing (Some reason.DescribeArea) = true
gives_nothing (Some reason.Claim) = true
gives_nothing (Some reason.Info) = true
gives_nothing (Some reason.Rename) = true
gives_nothing (Some reason.Prefer) = true
gives_nothing (Some reason.Lookup) = true
gives_nothing (Some reason.Enter) = true
gives_nothing (Some reason.Tidy) = true
gives_nothing other = false

abbrev pub CallsForgetNone : Type 0
CallsForgetNone =
    (images : List Entry) (s : MachineState) (k : HeapList) (words : List ℕ) (x : Bool) (next number : ℕ) →
    HasAnyHeap s k
    → gives_nothing (module_reason (register_of (machine_with_words s words).cpu 0)) ≡ true
    → IsNotForgotten (os_module_called images (machine_with_words s words) x next number).now.store k.start

-- what is left to do of a call gives no block back
abbrev pub gives_back_on : State → Option Plan → Bool
gives_back_on cpu None = false
gives_back_on cpu (Some p) = list_any gives_back (plan_after_code p (outcome_left cpu)).actions

abbrev pub GatesForgetNone : Type 0
GatesForgetNone =
    (s : MachineState) (k : HeapList) → HasAnyHeap s k → gives_back_on s.cpu s.tables.plan ≡ false
    → IsNotForgotten (outcome_of_gate s).now.store k.start
