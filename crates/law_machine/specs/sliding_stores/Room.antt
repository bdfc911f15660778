-- When a flex call that was not refused answers that there was room: in the numbers of the store
-- and of the block, all exact (Acorn C manual, "flex"; the header and the filling up are this
-- project's own).
use Rattle.std.specs.Prelude.{ℕ, ◌≡◌, ◌≤◌, ◌↔◌, ◌+◌, ◌-◌, ◌*◌, ◌/◌, Bool, true, List, length, Some, Ok}
use Rattle.os_heap.specs.Store.{Store}
use Rattle.flex_store.specs.Blocks.{cut_of, more_of}
use Rattle.flex_store.specs.Calls.{FlexState, flex_after_alloc, flex_after_extend, mid_extended}
use Rattle.flex_store.specs.declared.flex.Extent.{Extent}
use Rattle.swi_dispatch_guest.specs.Ground.{flex_state}
use Rattle.law_machine.specs.sliding_stores.Meaning.{AreStores, Stores, contents_of, store_in}

-- the bytes of the store's range, those of a block's header, and a number of bytes rounded up to a
-- multiple of 4
abbrev pub store_size : Extent → ℕ
store_size e = e.end - e.start

abbrev pub header_size : ℕ
header_size = 8

abbrev pub round_up_4 : ℕ → ℕ
round_up_4 n = 4 * ((n + 3) / 4)

-- Alloc: there was room just where the used bytes, a header and the block's bytes are at most the
-- store's size.
abbrev pub AllocHasRoom : Type 0
AllocHasRoom =
    (x : Stores) (e : Extent) (places : Store) (after : FlexState) (anchor size : ℕ) (answer : Bool)
    → AreStores x → x.flex.extent ≡ Some e
    → flex_after_alloc places (flex_state (store_in x) x.flex) anchor size ≡ Ok (after, answer)
    → (answer ≡ true) ↔ (e.used + header_size + round_up_4 size ≤ store_size e)

-- Extend and midextend: likewise, with the block's new size in place of its old one.
abbrev pub ExtendHasRoom : Type 0
ExtendHasRoom =
    (x : Stores) (e : Extent) (after : FlexState) (anchor size : ℕ) (old : List ℕ) (answer : Bool)
    → AreStores x → x.flex.extent ≡ Some e → contents_of x anchor ≡ Some old
    → flex_after_extend (flex_state (store_in x) x.flex) anchor size ≡ Ok (after, answer)
    → (answer ≡ true) ↔ (e.used - round_up_4 (length old) + round_up_4 size ≤ store_size e)

abbrev pub MidExtendHasRoom : Type 0
MidExtendHasRoom =
    (x : Stores) (e : Extent) (after : FlexState) (anchor at by : ℕ) (old : List ℕ) (answer : Bool)
    → AreStores x → x.flex.extent ≡ Some e → contents_of x anchor ≡ Some old
    → mid_extended (flex_state (store_in x) x.flex) anchor at by ≡ Ok (after, answer)
    → (answer ≡ true)
    ↔ (e.used - round_up_4 (length old) + round_up_4 (length old - cut_of by + more_of by) ≤ store_size e)
