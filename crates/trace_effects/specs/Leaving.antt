-- Which store calls leave the machine's store as it is, whatever they answer (RISC OS 3 Programmer's
-- Reference Manual): those that print, ask, make an error, change the mode or end the guest, those of a
-- reason that isn't known, and those that the machine hasn't itself: a module's code is entered then.
-- An error that goes back stands in the system's error block, and is shown by itself.
use Rattle.std.specs.Prelude.{ℕ, Bool, true, false, Option, Some, None}
use Rattle.profile.specs.Reasons.{area_reason, heap_reason, module_reason}
use Rattle.profile.specs.SwiNames.{swi_of}
use Rattle.profile.specs.declared.reason.AreaReason.{AreaReason}
use Rattle.profile.specs.declared.reason.AreaReason.TheVariants as area
use Rattle.profile.specs.declared.reason.HeapReason.{HeapReason}
use Rattle.profile.specs.declared.reason.HeapReason.TheVariants as heap
use Rattle.profile.specs.declared.reason.ModuleReason.{ModuleReason}
use Rattle.profile.specs.declared.reason.ModuleReason.TheVariants as reason
use Rattle.profile.specs.declared.swi.SwiName.{SwiName}
use Rattle.profile.specs.declared.swi.SwiName.TheVariants as swi

abbrev pub heap_asks : Option HeapReason → Bool
heap_asks (Some heap.Describe) = true
heap_asks (Some heap.BlockSize) = true
heap_asks None = true
heap_asks other = false

abbrev pub area_asks : Option AreaReason → Bool
area_asks (Some area.Info) = true
area_asks (Some area.Enumerate) = true
area_asks (Some area.Renumber) = true
area_asks None = true
area_asks other = false

abbrev pub module_asks : Option ModuleReason → Bool
module_asks (Some reason.DescribeArea) = true
module_asks (Some reason.Info) = true
module_asks (Some reason.Lookup) = true
module_asks None = true
module_asks other = false

-- by a call's name, and its reason in R0
abbrev pub named_call_leaves : ℕ → Option SwiName → Bool
named_call_leaves r0 None = true
named_call_leaves r0 (Some swi.WriteC) = true
named_call_leaves r0 (Some swi.WriteS) = true
named_call_leaves r0 (Some swi.Write0) = true
named_call_leaves r0 (Some swi.NewLine) = true
named_call_leaves r0 (Some swi.WriteI) = true
named_call_leaves r0 (Some swi.Exit) = true
named_call_leaves r0 (Some swi.EnterOs) = true
named_call_leaves r0 (Some swi.GenerateError) = true
named_call_leaves r0 (Some swi.ReadDynamicArea) = true
named_call_leaves r0 (Some swi.FlexSize) = true
named_call_leaves r0 (Some swi.Heap) = heap_asks (heap_reason r0)
named_call_leaves r0 (Some swi.DynamicArea) = area_asks (area_reason r0)
named_call_leaves r0 (Some swi.Module) = module_asks (module_reason r0)
named_call_leaves r0 (Some other) = false

-- by its number without the X bit
abbrev pub call_leaves : ℕ → ℕ → Bool
call_leaves r0 number = named_call_leaves r0 (swi_of number)

-- Of which calls that is known where they write: OS_Heap writes in the heap that it is called on, words that its list spells
-- before the call or after it, but where it moves a block, which reason 4 may.
abbrev pub moves_no_block : Option HeapReason → Bool
moves_no_block (Some heap.Resize) = false
moves_no_block other = true

abbrev pub named_call_stays : ℕ → Option SwiName → Bool
named_call_stays r0 (Some swi.Heap) = moves_no_block (heap_reason r0)
named_call_stays r0 other = false

abbrev pub stays_in_heap : ℕ → ℕ → Bool
stays_in_heap r0 number = named_call_stays r0 (swi_of number)
