-- Which bytes of the module area's blocks change over claims and releases there: none that a block
-- holds which stays live (RISC OS 3 Programmer's Reference Manual, "OS_Module", reasons 6 and 7).
use Rattle.profile.specs.MemoryMap.{module_area_start}
use Rattle.std.specs.Prelude.{ℕ, ◌≡◌, ◌-◌, ◌+◌, ◌⊎◌, Bool, true, List, Some}
use Rattle.profile.specs.Reasons.{module_reason}
use Rattle.profile.specs.declared.reason.ModuleReason.TheVariants as reason
use Rattle.address_map.specs.Bytes.{in_range}
use Rattle.arm_core.specs.State.{register_of}
use Rattle.profile.specs.images.Entries.{Entry}
use Rattle.os_heap_words.specs.lists.Heap.{HeapList}
use Rattle.os_heap_words.specs.lists.Lists.{live_total}
use Rattle.os_heap.specs.Store.{Store, find_heap}
use Rattle.swi_dispatch_guest.specs.MachineState.{MachineState}
use Rattle.swi_dispatch_guest.specs.Step.{os_module_called}
use Rattle.swi_dispatch_guest.specs.Moves.{machine_with_words}
use Rattle.swi_dispatch_guest.specs.GuestState.{IsState}

-- Each block of the module area that is live in both stores holds the same in both, as far as it
-- holds it in both.
abbrev pub KeepsAreaBlocks : Store → Store → Type 0
KeepsAreaBlocks s t =
    (h g : HeapList) (block total new_total a : ℕ) → find_heap module_area_start s.heaps ≡ Some h →
    find_heap module_area_start t.heaps ≡ Some g
    → live_total block (h.start + 16) h.items ≡ Some total →
    live_total block (g.start + 16) g.items ≡ Some new_total
    → in_range block (total - 4) a ≡ true → in_range block (new_total - 4) a ≡ true →
    t.bytes.at a ≡ s.bytes.at a

-- A claim or a release, done or refused, made with words in the first registers or by an
-- instruction, with none: with the X bit or without.
abbrev pub ClaimsKeepLiveBytes : Type 0
ClaimsKeepLiveBytes =
    (images : List Entry) (s : MachineState) (words : List ℕ) (x : Bool) (next number : ℕ) → IsState s
    → (module_reason (register_of (machine_with_words s words).cpu 0) ≡ Some reason.Claim) ⊎
    (module_reason (register_of (machine_with_words s words).cpu 0) ≡ Some reason.Free)
    → KeepsAreaBlocks s.store (os_module_called images (machine_with_words s words) x next number).now.store
