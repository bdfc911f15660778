-- Which words only the store calls may write: each word that a heap's list spells is marked as a
-- head, and loses its mark where the list gives it up (RISC OS 3 Programmer's Reference Manual,
-- "OS_Heap", the internal format; that a guest can't store to these words is this project's own).
use Rattle.std.specs.Prelude.{ℕ, ◌≡◌, ◌+◌, Bool, true, false, List, if◌then◌else◌}
use Rattle.std.specs.List.{list_any}
use Rattle.address_map.specs.Bytes.{word_start}
use Rattle.address_map.specs.Items.{is_head, is_head_of, is_heap_word, size_of}
use Rattle.address_map.specs.declared.class.Class.{Class}
use Rattle.address_map.specs.declared.class.Class.TheVariants as class
use Rattle.address_map.specs.declared.item.Item.{Item}
use Rattle.os_heap_words.specs.lists.Heap.{HeapList}

-- the class of a word that may have been made a head, or given up as one
abbrev pub class_after_marking : Bool → Bool → Class → Class
class_after_marking made given_up old = if made then class.Heap else (if given_up then class.Plain else old)

-- The words of `olds` were given up, and those of `news` made heads, where the first item of both
-- is at `at`. All other words keep their class.
abbrev pub Remarks : (ℕ → Class) → (ℕ → Class) → ℕ → List Item → List Item → Type 0
Remarks old new at olds news = (a : ℕ) → new a ≡ class_after_marking (is_head at news (word_start a))
    (is_head at olds (word_start a)) (old a)

-- the class of a word that is a head from now on, or no more
abbrev pub head_class : Bool → Class
head_class true = class.Heap
head_class false = class.Plain

-- the classes after the words of an item at `at`, or of items that begin there, got one
abbrev pub with_item_marked : ℕ → Item → Class → (ℕ → Class) → ℕ → Class
with_item_marked at item class old a = if is_head_of at item (word_start a) then class else old a

abbrev pub with_items_marked : ℕ → List Item → Class → (ℕ → Class) → ℕ → Class
with_items_marked at items class old a = if is_head at items (word_start a) then class else old a

-- each word that the items spell is marked
abbrev pub AreMarked : (ℕ → Class) → ℕ → List Item → Type 0
AreMarked classes at items = (a : ℕ) → is_head at items (word_start a) ≡ true → classes a ≡ class.Heap

-- later items spell the same words, wherever the ones before them end
abbrev pub HeadsAreStill : ℕ → List Item → List Item → List Item → Type 0
HeadsAreStill at olds news rest = (p : ℕ) → is_head (at + size_of news) rest p
    ≡ is_head (at + size_of olds) rest p

-- is the word at `p` one that some heap spells?
abbrev pub spells_any : List HeapList → ℕ → Bool
spells_any hs p = list_any (λ h. is_heap_word h.start h.items p) hs
