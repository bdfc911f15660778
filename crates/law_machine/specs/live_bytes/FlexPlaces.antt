-- Where the flex store is, and the list of its blocks, over moves that call none of its calls:
-- printing, areas, heaps, modules and their tidies, and instructions (Acorn C manual, "flex":
-- blocks stand until a flex call changes them).
use Rattle.std.specs.Prelude.{ℕ, ◌≡◌, Bool, true, false, Option, Some, List}
use Rattle.profile.specs.declared.swi.SwiName.{SwiName}
use Rattle.profile.specs.declared.swi.SwiName.TheVariants as swi
use Rattle.profile.specs.images.Entries.{Entry}
use Rattle.flex_store.specs.Listed.{all_listed}
use Rattle.flex_store.specs.declared.blocks.FlexBlock.{FlexBlock}
use Rattle.swi_dispatch_guest.specs.Ground.{spelled_store}
use Rattle.swi_dispatch_guest.specs.MachineState.{MachineState}
use Rattle.swi_dispatch_guest.specs.Step.{module_loaded}
use Rattle.swi_dispatch_guest.specs.Moves.{Move, machine_after_event, swi_made}
use Rattle.swi_dispatch_guest.specs.GuestState.{IsState}
use Rattle.law_machine.specs.live_bytes.Changes.{is_flex_name}

-- the flex calls that may change the store, the one that makes it too
abbrev pub may_change_flex : Option SwiName → Bool
may_change_flex (Some swi.FlexInit) = true
may_change_flex other = is_flex_name other

-- the blocks in order: of each the address of its anchor, that of its bytes, and its size
abbrev pub flex_listed : MachineState → List FlexBlock
flex_listed s = all_listed (spelled_store s.store.bytes.at s.tables.flex.extent)

-- The store is where it was, with as many bytes used, or there is none still. Its blocks are those
-- that it had, each at its place and with its anchor, and just the same words are anchors and
-- headers. So no anchor moves, in a tidy neither, wherever it lies.
pub record KeepsFlexStore (s t : MachineState) : Type 0 where
  pub extent : t.tables.flex ≡ s.tables.flex
  pub blocks : flex_listed t ≡ flex_listed s
  pub anchors : (a : ℕ) → t.store.anchor a ≡ s.store.anchor a
  pub headers : (a : ℕ) → t.store.header a ≡ s.store.header a

abbrev pub FlexStoreStays : Type 0
FlexStoreStays =
    (images : List Entry) (s : MachineState) (m : Move) → IsState s →
    IsState (machine_after_event images s m) → may_change_flex (swi_made s m) ≡ false
    → KeepsFlexStore s (machine_after_event images s m)

-- a module that is loaded from outside
abbrev pub LoadsKeepFlexStore : Type 0
LoadsKeepFlexStore =
    (images : List Entry) (s : MachineState) (text : List ℕ) → IsState s →
    IsState (module_loaded images s text).now
    → KeepsFlexStore s (module_loaded images s text).now
