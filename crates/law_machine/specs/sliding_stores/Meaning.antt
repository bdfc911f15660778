-- What the stores of a machine mean without the addresses at which flex blocks and blocks of the
-- module area stand: a flex block goes by its number in the list, a block of the module area by its
-- place among the live ones, an image by its place among the images, and a private word by its slot
-- (this project's own).
use Rattle.profile.specs.MemoryMap.{module_area_start}
use Rattle.std.specs.Prelude.{ℕ, suc, ◌≡◌, ◌≤◌, ◌<◌, ◌+◌, ◌-◌, ◌^◌, ◌==◌, Bool, true, map, length, List, [], ◌∷◌, Option, Some, None, is_some, if◌then◌else◌}
use Rattle.std.specs.List.{range_with_len}
use Rattle.std.specs.Option.{option_map}
use Rattle.address_map.specs.Bytes.{Bytes, bytes_between, in_range, word_start}
use Rattle.address_map.specs.declared.item.Item.{Item}
use Rattle.address_map.specs.declared.item.Item.TheVariants.{Free, Live}
use Rattle.address_map.specs.declared.region.Region.{Region}
use Rattle.os_heap_words.specs.lists.Heap.{HeapList}
use Rattle.os_heap.specs.Store.{Store, find_heap, is_image}
use Rattle.flex_store.specs.Laws.{contents_in}
use Rattle.flex_store.specs.declared.flex.Flex.{Flex}
use Rattle.swi_dispatch_guest.specs.Ground.{spelled_store}
use Rattle.law_machine.specs.flex.Numbered.{SeenBlock, blocks_seen}
use Rattle.law_machine.specs.flex.Padding.{all_paddings}
use Rattle.instances_table.specs.Changes.{is_slot_held}
use Rattle.instances_table.specs.declared.parts.Image.{Image}
use Rattle.instances_table.specs.Modules.{AreModules}
use Rattle.swi_dispatch_guest.specs.Sound.{IsModuleState}
use Rattle.swi_dispatch_guest.specs.ModuleState.{ModuleState, private_word}
use Rattle.swi_dispatch_guest.specs.Laws.{AreBytes}
use Rattle.law_machine.specs.sliding_stores.FlexStore.{HasFlexStore}

-- A machine's memory with its areas and its modules, and where its flex store is; and the images
-- that a call under way has recorded and not added to the modules yet: one while a load, an insert
-- or a copy is under way, else none.
pub record Stores : Type 0 where
  pub module_state : ModuleState
  pub flex : Flex
  pub pending : List Image

abbrev pub store_in : Stores → Store
store_in x = x.module_state.area_store.store

-- memory holds bytes, and lies in whole words below 2 ^ 26
pub record IsMemory (b : Bytes) : Type 0 where
  pub bytes : AreBytes b.at
  pub low : (a : ℕ) → b.mapped a ≡ true → a < 2 ^ 26
  pub words : (a : ℕ) → b.mapped a ≡ b.mapped (word_start a)

-- what holds of them between calls, and while one is under way
pub record AreStores (x : Stores) : Type 0 where
  pub module_state : IsModuleState x.module_state x.pending
  pub flex : HasFlexStore (store_in x) x.flex
  pub modules : AreModules x.module_state.modules
  pub memory : IsMemory (store_in x).bytes
  pub one : length x.pending ≤ 1

-- A byte as a block of the module area holds it. Those of a word that is an anchor are an address
-- of the flex store, and are left out.
abbrev pub seen_byte_at : (ℕ → Bool) → (ℕ → ℕ) → ℕ → Option ℕ
seen_byte_at anchor bytes a = if anchor a then None else Some (bytes a)

-- what the live items hold, in order, where the first item is at `at`
abbrev pub payloads : (ℕ → Option ℕ) → ℕ → List Item → List (List (Option ℕ))
payloads byte at [] = []
payloads byte at (Live t ∷ xs) = map byte (range_with_len (at + 4) (t - 4)) ∷ payloads byte (at + t) xs
payloads byte at (Free t ∷ xs) = payloads byte (at + t) xs

-- A place among what the live items hold: which of these, by how many are before it, and which of
-- its bytes.
pub record PayloadPlace : Type 0 where
  pub block : ℕ
  pub offset : ℕ

abbrev pub one_further : PayloadPlace → PayloadPlace
one_further p = record { block = suc p.block; offset = p.offset }

-- where the byte at `a` is among what the live items hold, if one of them holds it
abbrev pub place_among : ℕ → ℕ → List Item → Option PayloadPlace
place_among a at [] = None
place_among a at (Live t ∷ xs) =
    if in_range (at + 4) (t - 4) a then Some (record { block = 0; offset = a - (at + 4) })
    else option_map one_further (place_among a (at + t) xs)
place_among a at (Free t ∷ xs) = place_among a (at + t) xs

-- how many live items are before the one whose bytes begin at `block`, if there is such a live item
abbrev pub block_number : ℕ → ℕ → List Item → Option ℕ
block_number block at [] = None
block_number block at (Live t ∷ xs) =
    if at + 4 == block then Some 0 else option_map suc (block_number block (at + t) xs)
block_number block at (Free t ∷ xs) = block_number block (at + t) xs

-- the same of the heap of the module area, if it is there
abbrev pub payloads_in : Store → Option HeapList → List (List (Option ℕ))
payloads_in s None = []
payloads_in s (Some h) = payloads (seen_byte_at s.anchor s.bytes.at) (h.start + 16) h.items

abbrev pub block_number_in : ℕ → Option HeapList → Option ℕ
block_number_in word None = None
block_number_in word (Some h) = block_number word (h.start + 16) h.items

abbrev pub payload_place_in : ℕ → Option HeapList → Option PayloadPlace
payload_place_in a None = None
payload_place_in a (Some h) = place_among a (h.start + 16) h.items

-- What a private word says: which live block of the module area it names, by how many are before
-- that one; or its value, where it names none.
pub data PrivateWord : Type 0 where
  BlockNumber : ℕ → PrivateWord
  Value : ℕ → PrivateWord

abbrev pub word_said : ℕ → Option ℕ → PrivateWord
word_said word None = Value word
word_said word (Some number) = BlockNumber number

-- the bytes that are recorded as the images of modules, in the order of the modules
abbrev pub images_in : (ℕ → ℕ) → List Region → List (List ℕ)
images_in bytes [] = []
images_in bytes (r ∷ rs) =
    if is_image r.kind then bytes_between bytes r.at r.len ∷ images_in bytes rs else images_in bytes rs

-- `flex` has the flex blocks in order, each with the place of its anchor and its contents, but for
-- the bytes of anchors in these; `padding` has the bytes that fill the last word of each of them;
-- `places` where among `blocks` each anchor is that lies in one, `blocks` what the live blocks of
-- the module area hold, `images` the images of modules, and `names` for each slot what the
-- instance's private word says, if there is such an instance: which of `blocks` it names, or its
-- value, where it names none.
pub record Meaning : Type 0 where
  pub flex : List SeenBlock
  pub padding : List (List ℕ)
  pub places : ℕ → Option PayloadPlace
  pub blocks : List (List (Option ℕ))
  pub images : List (List ℕ)
  pub names : ℕ → Option PrivateWord

abbrev pub area_blocks : ModuleState → List (List (Option ℕ))
area_blocks w = payloads_in w.area_store.store (find_heap module_area_start w.area_store.store.heaps)

-- the place of an anchor, of those that have contents
abbrev pub area_places : (ℕ → Option (List ℕ)) → ModuleState → ℕ → Option PayloadPlace
area_places flex w a = if is_some (flex a) then payload_place_in a
    (find_heap module_area_start w.area_store.store.heaps) else None

abbrev pub area_images : ModuleState → List (List ℕ)
area_images w = images_in w.area_store.store.bytes.at w.area_store.store.others

abbrev pub area_word : ModuleState → ℕ → PrivateWord
area_word w word = word_said word (block_number_in word (find_heap module_area_start
    w.area_store.store.heaps))

abbrev pub area_names : ModuleState → ℕ → Option PrivateWord
area_names w slot = if is_slot_held slot w.modules then Some (area_word w (private_word w.area_store slot))
    else None

-- the contents of each anchor's block, if it has one
abbrev pub contents_of : Stores → ℕ → Option (List ℕ)
contents_of x = contents_in (spelled_store (store_in x).bytes.at x.flex.extent)

-- the flex blocks as they are seen
abbrev pub flex_seen : Stores → List SeenBlock
flex_seen x = blocks_seen (spelled_store (store_in x).bytes.at x.flex.extent)

-- and the bytes that fill the last word of each
abbrev pub flex_padding : Stores → List (List ℕ)
flex_padding x = all_paddings (spelled_store (store_in x).bytes.at x.flex.extent)

unfoldable pub meaning_of : Stores → Meaning
meaning_of x = record {
  flex = flex_seen x;
  padding = flex_padding x;
  places = area_places (contents_of x) x.module_state;
  blocks = area_blocks x.module_state;
  images = area_images x.module_state;
  names = area_names x.module_state;
}
