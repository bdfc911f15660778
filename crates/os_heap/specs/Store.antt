-- All heaps together with memory: the heaps that the words of memory spell at the recorded places, and what holds of them whatever is called (RISC
-- OS 3 Programmer's Reference Manual, "OS_Heap", "The relocatable module area"; the limits are this project's own).
use Rattle.os_heap_words.specs.MemoryMap.{module_area_start}
use Rattle.std.specs.Prelude.{ℕ, ◌≡◌, ◌≤◌, ◌<◌, ◌⊎◌, Bool, true, false, suc, ◌+◌, ◌==◌, ◌&&◌, ◌||◌, Option, Some, None, List, [], ◌∷◌, length, if◌then◌else◌}
use Rattle.std.specs.List.{list_any}
use Rattle.os_heap_words.specs.Kind.{Kind}
use Rattle.os_heap_words.specs.Kind.TheVariants as kind
use Rattle.os_heap_words.specs.Region.{Region}
use Rattle.os_heap_words.specs.AddressMap.{AddressMap}
use Rattle.os_heap_words.specs.Bytes.{Bytes, in_range, word_at, word_start}
use Rattle.os_heap_words.specs.Classes.{is_heap_class, is_flex_header, is_anchor}
use Rattle.os_heap_words.specs.Items.{items_in, is_heap_word}
use Rattle.os_heap_words.specs.Item.{Item}
use Rattle.os_heap_words.specs.Records.{is_heap_kind}
use Rattle.os_heap_words.specs.Memory.{bytes_of, class_of, regions}
pub use Rattle.os_heap.specs.Nesting.{AreClear, IsClearOfHeaps, StandApart, is_module_area}
use Rattle.os_heap_words.specs.lists.Heap.{HeapList, IsHeapIn}
use Rattle.os_heap_words.specs.lists.Lists.{live_total}
use Rattle.os_heap_words.specs.lists.Marks.{spells_any}

-- memory, the heaps in the order in which they were made, the other recorded ranges, and which bytes are those of words that the flex store
-- keeps its records in: the anchors of its blocks, and their headers
pub record Store : Type 0 where
  pub bytes : Bytes
  pub heaps : List HeapList
  pub others : List Region
  pub anchor : ℕ → Bool
  pub header : ℕ → Bool

-- The store that a map stands for: the heaps are those that its words spell at the recorded places.
abbrev pub heap_in : Bytes → Region → HeapList
heap_in b r = record { kind = r.kind; start = r.at; end = r.len; items = items_in (word_at b.at) r.at }

abbrev pub heaps_in : Bytes → List Region → List HeapList
heaps_in b [] = []
heaps_in b (r ∷ rs) = if is_heap_kind r.kind then heap_in b r ∷ heaps_in b rs else heaps_in b rs

abbrev pub others_in : List Region → List Region
others_in [] = []
others_in (r ∷ rs) = if is_heap_kind r.kind then others_in rs else r ∷ others_in rs

unfoldable pub store_of : AddressMap → Store
store_of m = record {
  bytes = bytes_of m;
  heaps = heaps_in (bytes_of m) (regions m);
  others = others_in (regions m);
  anchor = λ a. is_anchor (class_of m a);
  header = λ a. is_flex_header (class_of m a);
}

-- memory spells each heap, and each two stand apart
abbrev pub AreHeapsIn : Bytes → List HeapList → Type 0
AreHeapsIn b [] = Unit {0}
AreHeapsIn b (h ∷ hs) = IsHeapIn b h.start h.end h.items × (StandApart h hs × AreHeapsIn b hs)

abbrev pub guest_count : List HeapList → ℕ
guest_count [] = 0
guest_count (h ∷ hs) = if is_module_area h.kind then guest_count hs else suc (guest_count hs)

abbrev pub area_count : List HeapList → ℕ
area_count [] = 0
area_count (h ∷ hs) = if is_module_area h.kind then suc (area_count hs) else area_count hs

-- there is at most one module area, and it starts at its fixed place
abbrev pub StandAreas : List HeapList → Type 0
StandAreas [] = Unit {0}
StandAreas (h ∷ hs) = (is_module_area h.kind ≡ true → h.start ≡ module_area_start) × StandAreas hs

pub record AreInLimits (hs : List HeapList) : Type 0 where
  pub guests : guest_count hs ≤ 64
  pub areas : area_count hs ≤ 1
  pub place : StandAreas hs

-- is a module image recorded at an address?
abbrev pub is_image : Kind → Bool
is_image kind.Image = true
is_image other = false

abbrev pub has_image : ℕ → List Region → Bool
has_image at rs = list_any (λ r. is_image r.kind && r.at == at) rs

-- A module image in the module area is a block there: its record covers all bytes that the block holds.
pub record IsImageBlock (h : HeapList) (r : Region) : Type 0 where
  pub image : is_image r.kind ≡ true
  pub area : is_module_area h.kind ≡ true
  pub live : live_total r.at (h.start + 16) h.items ≡ Some (r.len + 4)

abbrev pub IsImageIn : List HeapList → Region → Type 0
IsImageIn [] r = ⊥
IsImageIn (h ∷ hs) r = IsImageBlock h r ⊎ IsImageIn hs r

-- each other recorded range shares no byte with a heap, unless it is such an image there: no heap lies in an image's block
abbrev pub IsPlacedIn : List HeapList → Region → Type 0
IsPlacedIn [] r = Unit {0}
IsPlacedIn (h ∷ hs) r = (AreClear r.at r.len h.start h.end ⊎ IsImageBlock h r) × IsPlacedIn hs r

abbrev pub ArePlaced : List HeapList → List Region → Type 0
ArePlaced hs [] = Unit {0}
ArePlaced hs (r ∷ rs) = IsPlacedIn hs r × ArePlaced hs rs

-- and no two of these share a byte
abbrev pub IsClearOfRanges : Region → List Region → Type 0
IsClearOfRanges r [] = Unit {0}
IsClearOfRanges r (q ∷ rs) = AreClear r.at r.len q.at q.len × IsClearOfRanges r rs

abbrev pub AreRangesApart : List Region → Type 0
AreRangesApart [] = Unit {0}
AreRangesApart (r ∷ rs) = IsClearOfRanges r rs × AreRangesApart rs

-- An anchor lies in no heap, or inside a block that is live: no call on heaps writes a word there.
pub record IsInBlock (at : ℕ) (items : List Item) (a : ℕ) : Type 0 where
  pub block : ℕ
  pub total : ℕ
  pub live : live_total block at items ≡ Some total
  pub low : block ≤ a
  pub high : a + 4 < block + total

abbrev pub IsAnchorPlace : List HeapList → ℕ → Type 0
IsAnchorPlace [] a = Unit {0}
IsAnchorPlace (h ∷ hs) a = ((in_range h.start h.end a ≡ false) ⊎ IsInBlock (h.start + 16) h.items a) ×
    IsAnchorPlace hs a

-- is a byte in the recorded range of the flex store?
abbrev pub is_flex_store : Kind → Bool
is_flex_store kind.FlexStore = true
is_flex_store other = false

abbrev pub is_in_flex_store : List Region → ℕ → Bool
is_in_flex_store rs a = list_any (λ r. is_flex_store r.kind && in_range r.at r.len a) rs

-- What holds of every store. The other records are so few that all heaps find room beside them.
pub record IsSound (s : Store) : Type 0 where
  pub heaps : AreHeapsIn s.bytes s.heaps
  pub limits : AreInLimits s.heaps
  pub placed : ArePlaced s.heaps s.others
  pub apart : AreRangesApart s.others
  pub few : length s.others ≤ 68
  pub anchors : (a : ℕ) → s.anchor a ≡ true → (s.bytes.mapped a ≡ true) × IsAnchorPlace s.heaps a
  pub headers : (a : ℕ) → s.header a ≡ true → is_in_flex_store s.others a ≡ true

-- The bytes that only store calls may write: those of the words that the heaps spell, of the headers of flex blocks, and of their anchors. A byte
-- counts as its whole word does.
abbrev pub is_flex_word : Store → ℕ → Bool
is_flex_word s a = s.header a || s.anchor a

unfoldable pub owned_in : Store → ℕ → Bool
owned_in s a = list_any (λ h. is_heap_word h.start h.items (word_start a)) s.heaps
    || is_flex_word s (word_start a)

-- The words that are marked as those of heaps are just those that the lists spell.
abbrev pub AreClasses : AddressMap → Type 0
AreClasses m = (a : ℕ) → is_heap_class (class_of m a) ≡ spells_any (store_of m).heaps (word_start a)

-- the heap that starts at an address
abbrev pub find_heap : ℕ → List HeapList → Option HeapList
find_heap start [] = None
find_heap start (h ∷ hs) = if h.start == start then Some h else find_heap start hs
