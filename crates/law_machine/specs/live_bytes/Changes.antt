-- Which bytes that live blocks hold may change over a move of a machine, a store call from outside
-- or a step: those that its instruction stores to; words of anchors, by flex calls; those of the
-- module area where its blocks are moved together; and those that a call of OS_Heap writes on a
-- heap in the block, or one that makes it there (RISC OS 3 Programmer's Reference Manual, "OS_Heap"
-- and "OS_Module"; Acorn C manual, "flex").
use Rattle.profile.specs.MemoryMap.{module_area_start}
use Rattle.std.specs.Prelude.{ℕ, ◌≡◌, ◌-◌, ◌+◌, ◌%◌, ◌^◌, ◌&&◌, ◌||◌, ◌⊎◌, is_ok, Bool, true, false, List, [], ◌∷◌, Option, Some, None, Ok}
use Rattle.profile.specs.Reasons.{module_reason}
use Rattle.profile.specs.declared.reason.ModuleReason.{ModuleReason}
use Rattle.profile.specs.declared.reason.ModuleReason.TheVariants as reason
use Rattle.profile.specs.declared.swi.SwiName.{SwiName}
use Rattle.profile.specs.declared.swi.SwiName.TheVariants as swi
use Rattle.address_map.specs.Bytes.{in_range, word_start}
use Rattle.arm_core.specs.State.{State, register_of}
use Rattle.profile.specs.images.Entries.{Entry}
use Rattle.instances_table.specs.declared.plans.action.PlanAction.{PlanAction}
use Rattle.instances_table.specs.declared.plans.action.PlanAction.TheVariants as act
use Rattle.instances_table.specs.plans.Plans.{Plan, plan_after_code}
use Rattle.os_heap_words.specs.lists.Heap.{HeapList}
use Rattle.os_heap_words.specs.lists.Lists.{live_total}
use Rattle.os_heap.specs.Nesting.{IsWithin}
use Rattle.os_heap.specs.Store.{Store, find_heap, is_in_flex_store, owned_in}
use Rattle.swi_dispatch_guest.specs.ModulePlans.{tidy_planned}
use Rattle.swi_dispatch_guest.specs.Gates.{outcome_left}
use Rattle.swi_dispatch_guest.specs.MachineState.{MachineState, setting_of}
use Rattle.swi_dispatch_guest.specs.Step.{result_of_instruction, module_loaded}
use Rattle.law_machine.specs.heap_alone.ByteLaws.{IsStoredPlain}
use Rattle.swi_dispatch_guest.specs.Moves.{Call, Move, Step, core_of, machine_with_words, machine_after_event, outside_name, swi_made}
use Rattle.swi_dispatch_guest.specs.GuestState.{IsState}
use Rattle.swi_dispatch_guest.specs.Writes.{machine_after_poke}
use Rattle.law_machine.specs.heap_alone.ModuleMoves.{is_at_gate, is_module_name}
use Rattle.law_machine.specs.live_bytes.FlexLaws.{IsAnchorByte}
use Rattle.law_machine.specs.live_bytes.HeapWrites.{IsWrittenByCall}

-- A byte that a block of the heap at `start` holds in two stores: the block is live in both, with
-- its bytes at one address, and of any size.
pub record IsByteHeld (s t : Store) (start a : ℕ) : Type 0 where
  pub old : HeapList
  pub new : HeapList
  pub found : find_heap start s.heaps ≡ Some old
  pub left : find_heap start t.heaps ≡ Some new
  pub block : ℕ
  pub total : ℕ
  pub new_total : ℕ
  pub live : live_total block (start + 16) old.items ≡ Some total
  pub stays : live_total block (start + 16) new.items ≡ Some new_total
  pub here : in_range block (total - 4) a ≡ true
  pub there : in_range block (new_total - 4) a ≡ true

-- the flex calls that may write
abbrev pub is_flex_name : Option SwiName → Bool
is_flex_name (Some swi.FlexAlloc) = true
is_flex_name (Some swi.FlexFree) = true
is_flex_name (Some swi.FlexExtend) = true
is_flex_name (Some swi.FlexMidExtend) = true
is_flex_name other = false

-- A tidy moves the blocks of the module area together. It may do so in the call of OS_Module, or
-- where module code comes back that it had entered.
abbrev pub has_slide : List PlanAction → Bool
has_slide [] = false
has_slide (act.Slide ∷ actions) = true
has_slide (other ∷ actions) = has_slide actions

abbrev pub slides_on : State → Option Plan → Bool
slides_on cpu None = false
slides_on cpu (Some p) = has_slide (plan_after_code p (outcome_left cpu)).actions

abbrev pub is_tidy : Option ModuleReason → Bool
is_tidy (Some reason.Tidy) = true
is_tidy other = false

-- A tidy is called, and isn't refused. It goes back to `next`, which says nothing of whether it is
-- refused.
abbrev pub begins_tidy : MachineState → ℕ → Bool
begins_tidy s next = is_tidy (module_reason (register_of s.cpu 0)) && is_ok (tidy_planned (setting_of s) next)

abbrev pub calls_tidy : MachineState → Move → Bool
calls_tidy s (Call number words) = is_module_name (outside_name number)
    && begins_tidy (machine_with_words s words) (machine_with_words s words).cpu.pc
calls_tidy s Step = is_module_name (swi_made s Step) && begins_tidy s ((s.cpu.pc + 4) % 2 ^ 26)

abbrev pub may_slide : MachineState → Move → Bool
may_slide s (Call number words) = calls_tidy s (Call number words)
may_slide s Step = calls_tidy s Step || (is_at_gate (result_of_instruction s)
    && slides_on s.cpu s.tables.plan)

-- A call of OS_Heap wrote the byte, on the heap that starts at R1 after it. That one lies in a
-- block of the heap at `start`, and the byte is in its range.
pub record IsOfInnerHeap (name : Option SwiName) (cpu : State) (s : Store) (t : MachineState)
    (start a : ℕ) : Type 0 where
  pub call : name ≡ Some swi.Heap
  pub inner : HeapList
  pub called : find_heap (register_of cpu 1) t.store.heaps ≡ Some inner
  pub outer : HeapList
  pub round : find_heap start t.store.heaps ≡ Some outer
  pub within : IsWithin outer inner
  pub inside : in_range inner.start inner.end a ≡ true
  pub written : IsWrittenByCall cpu s t a

-- what may change a byte of a block of the heap at `start`
abbrev pub MayChange : MachineState → MachineState → Move → ℕ → ℕ → Type 0
MayChange s t m start a =
    ((m ≡ Step) × IsStoredPlain s a)
    ⊎ (((is_flex_name (swi_made s m) ≡ true) × IsAnchorByte s.store t.store a)
    ⊎ (((start ≡ module_area_start) × (may_slide s m ≡ true))
    ⊎ IsOfInnerHeap (swi_made s m) (core_of s m) s.store t start a))

-- Over each move, of blocks of all heaps and of the module area, no other byte changes. So a call
-- of OS_Heap changes no byte of a block, in whatever heap, but words of the list of a heap that
-- lies in that block, and, where it moves a block of that heap, what it copies there. A refused
-- call, a refused tidy too, changes none.
abbrev pub LiveBytesStay : Type 0
LiveBytesStay =
    (images : List Entry) (s : MachineState) (m : Move) (start a : ℕ) → IsState s →
    IsState (machine_after_event images s m)
    → IsByteHeld s.store (machine_after_event images s m).store start a
    → ((machine_after_event images s m).store.bytes.at a ≡ s.store.bytes.at a) ⊎
    MayChange s (machine_after_event images s m) m start a

-- Of the bytes of the flex store none changes over any move but these calls, a tidy neither, unless
-- an instruction stores there.
abbrev pub FlexBytesStay : Type 0
FlexBytesStay =
    (images : List Entry) (s : MachineState) (m : Move) (a : ℕ) → IsState s →
    IsState (machine_after_event images s m)
    → is_in_flex_store s.store.others a ≡ true
    → ((machine_after_event images s m).store.bytes.at a ≡ s.store.bytes.at a)
    ⊎ (((m ≡ Step) × IsStoredPlain s a) ⊎ (is_flex_name (swi_made s m) ≡ true))

-- A module that is loaded from outside changes none at all.
abbrev pub KeepsHeldBytes : Store → Store → Type 0
KeepsHeldBytes s t = (start a : ℕ) → IsByteHeld s t start a → t.bytes.at a ≡ s.bytes.at a

abbrev pub LoadsKeepLiveBytes : Type 0
LoadsKeepLiveBytes =
    (images : List Entry) (s : MachineState) (text : List ℕ) → IsState s
    → KeepsHeldBytes s.store (module_loaded images s text).now.store

-- A word that a user stores from outside is one that isn't owned, and no other byte changes.
abbrev pub PokesChangeOneWord : Type 0
PokesChangeOneWord =
    (s t : MachineState) (at word a : ℕ) → machine_after_poke s at word ≡ Ok t
    → (t.store.bytes.at a ≡ s.store.bytes.at a) ⊎ ((in_range (word_start at) 4 a ≡ true) ×
    (owned_in s.store a ≡ false))
