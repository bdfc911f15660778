-- Which bytes of the whole of memory a flex call writes: the words of anchors, and the blocks from
-- the one that it changes on, up to where the last one ends then (Acorn C manual, "flex"; that
-- blocks lie one after another from the store's start is this project's own).
use Rattle.std.specs.Prelude.{ℕ, ◌≡◌, ◌-◌, ◌⊎◌, true, Bool, Some, Ok}
use Rattle.address_map.specs.Bytes.{in_range}
use Rattle.swi_dispatch_guest.specs.Ground.{flex_state, store_flexed}
use Rattle.flex_store.specs.Blocks.{FlexStore}
use Rattle.flex_store.specs.Calls.{FlexState, end_in, header_place_in}
use Rattle.flex_store.specs.Runs.{Alloc, Extend, FlexCall, MidExtend, Release}
use Rattle.law_machine.specs.live_bytes.FlexLaws.{IsAnchorByte}
use Rattle.law_machine.specs.sliding_stores.Meaning.{AreStores, Stores, store_in}
use Rattle.law_machine.specs.sliding_stores.Turning.{flex_call_answer}

-- where the header is of the block that a call makes, or that it changes or takes away
abbrev pub header_of_call : FlexStore → FlexCall → ℕ
header_of_call s (Alloc anchor size) = end_in s
header_of_call s (Release anchor) = header_place_in s anchor
header_of_call s (Extend anchor size) = header_place_in s anchor
header_of_call s (MidExtend anchor at by) = header_place_in s anchor

-- The byte lies from there on, and before the end of the last block as the call leaves them.
pub record IsLaidOut (t v : FlexState) (call : FlexCall) (a : ℕ) : Type 0 where
  pub old : FlexStore
  pub found : t.flex ≡ Some old
  pub new : FlexStore
  pub left : v.flex ≡ Some new
  pub byte : in_range (header_of_call old call) (end_in new - header_of_call old call) a ≡ true

-- So what lies after the last block stays, that of blocks that went or moved down too, and all
-- blocks before the one that changes, but for anchors in them.
abbrev pub FlexCallsKeepOthers : Type 0
FlexCallsKeepOthers =
    (x : Stores) (call : FlexCall) (v : FlexState) (answer : Bool) (a : ℕ) → AreStores x
    → flex_call_answer (store_in x) x.flex call ≡ Ok (v, answer)
    → (v.bytes.at a ≡ (store_in x).bytes.at a)
    ⊎ (IsAnchorByte (store_in x) (store_flexed (store_in x) v) a
    ⊎ IsLaidOut (flex_state (store_in x) x.flex) v call a)
