-- The flex store of a machine: memory spells it, its anchors lie in no recorded range but its own;
-- and beside module images there are recorded the system pages, and the range of the store, if
-- there is one (Acorn C manual, "flex"; the layout is this project's own).
use Rattle.std.specs.Prelude.{ℕ, ◌≡◌, Bool, false, ◌+◌, Option, Some, None, [], ◌∷◌, ◌++◌}
use Rattle.os_heap.specs.Bytes.{word_start}
use Rattle.os_heap.specs.AddressMap.{AddressMap}
use Rattle.flex_store.specs.Store.{Store, store_of}
use Rattle.instances.specs.flex_frame.Keeping.{AreAnchorsFree}
use Rattle.flex_store.specs.declared.flex.Extent.{Extent}
use Rattle.flex_store.specs.declared.flex.Flex.{Flex}
use Rattle.flex_store.specs.Blocks.{FlexStore, has_anchor, is_header, bytes_taken_by_all}
use Rattle.flex_store.specs.Calls.{FlexState, flex_record}
use Rattle.flex_store.specs.Memory.{blocks_in}
use Rattle.flex_store.specs.State.{IsFlex}
use Rattle.instances.specs.module_state.Sound.{count_beside}

abbrev pub records_with : Option Extent → ℕ
records_with None = 1
records_with (Some e) = 2

pub record HasFlex (m : AddressMap) (f : Flex) : Type 0 where
  pub is : IsFlex m f
  pub free : AreAnchorsFree (store_of m)
  pub beside : count_beside (store_of m).others ≡ records_with f.extent

-- the store that words of memory spell in an extent, as the calls on it have it
abbrev pub spelled_store : (ℕ → ℕ) → Option Extent → Option FlexStore
spelled_store bytes None = None
spelled_store bytes (Some e) = Some (record {
  start = e.start;
  end = e.end;
  blocks = blocks_in bytes e.start (e.start + e.used);
})

abbrev pub flex_state : Store → Flex → FlexState
flex_state s f = record { bytes = s.bytes; flex = spelled_store s.bytes.at f.extent }

-- where a store is, of which so many bytes are used
abbrev pub flex_of : Option FlexStore → Flex
flex_of None = record { extent = None }
flex_of (Some s) = record {
  extent = Some (record {
    start = s.start;
    end = s.end;
    used = bytes_taken_by_all s.blocks;
  });
}

-- the bytes of the words that are its anchors, and its headers
abbrev pub anchors_in : Option FlexStore → ℕ → Bool
anchors_in None a = false
anchors_in (Some s) a = has_anchor s.blocks (word_start a)

abbrev pub headers_in : Option FlexStore → ℕ → Bool
headers_in None a = false
headers_in (Some s) a = is_header s.start s.blocks (word_start a)

abbrev pub store_flexed : Store → FlexState → Store
store_flexed s t = record s { bytes = t.bytes; anchor = anchors_in t.flex; header = headers_in t.flex }

-- Where the store has begun its range is recorded.
abbrev pub with_flex_record : Store → ℕ → ℕ → Store
with_flex_record s start end = record s { others = s.others ++ flex_record start end ∷ [] }
