-- A heap: where it starts, its end, and its list of items; and what it is for memory to spell it
-- (RISC OS 3 Programmer's Reference Manual, "OS_Heap", the internal format).
use Rattle.address_map.specs.MemoryMap.{heap_name}
use Rattle.std.specs.Prelude.{ℕ, List, ◌+◌, [], ◌∷◌, ◌-◌, ◌≡◌, true, Bool, false, ◌≤◌, ◌%◌}
use Rattle.address_map.specs.Bytes.{AreMapped, Bytes, word_at, with_word_at}
use Rattle.address_map.specs.Items.{is_total, size_of}
use Rattle.address_map.specs.declared.item.Item.{Item}
use Rattle.address_map.specs.declared.item.Item.TheVariants.{Free, Live}
use Rattle.address_map.specs.declared.region.Kind.{Kind}

-- a heap as a list: its kind says whether a guest made it or it is the module area, and `end`
-- counts from its start, as its items do from 16 on
pub record HeapList : Type 0 where
  pub kind : Kind
  pub start : ℕ
  pub end : ℕ
  pub items : List Item

-- the address of the first free item, where the first item is at `at`; `other` where none is free
abbrev pub next_free : ℕ → List Item → ℕ → ℕ
next_free at [] other = other
next_free at (Live t ∷ xs) other = next_free (at + t) xs other
next_free at (Free t ∷ xs) other = at

-- The words of the items from `at` on; `other` is the next free item after all of these, or 0.
-- Addresses of items are above 0, so a link of 0, as `0 - at` is, says that there is none.
abbrev pub Spells : (ℕ → ℕ) → ℕ → List Item → ℕ → Type 0
Spells w at [] other = Unit {0}
Spells w at (Live t ∷ xs) other = (w at ≡ t) × Spells w (at + t) xs other
Spells w at (Free t ∷ xs) other = (w at ≡ next_free (at + t) xs other - at) ×
    ((w (at + 4) ≡ t) × Spells w (at + t) xs other)

-- totals are multiples of 8, and at least 8
abbrev pub AreTotals : List Item → Type 0
AreTotals [] = Unit {0}
AreTotals (Live t ∷ xs) = (is_total t ≡ true) × AreTotals xs
AreTotals (Free t ∷ xs) = (is_total t ≡ true) × AreTotals xs

-- no two free items are side by side, and the last item is live
abbrev pub begins_live : List Item → Bool
begins_live [] = false
begins_live (Live t ∷ xs) = true
begins_live (Free t ∷ xs) = false

abbrev pub AreSpaced : List Item → Type 0
AreSpaced [] = Unit {0}
AreSpaced (Live t ∷ xs) = AreSpaced xs
AreSpaced (Free t ∷ xs) = (begins_live xs ≡ true) × AreSpaced xs

-- memory spells the heap
pub record IsHeapIn (b : Bytes) (start end : ℕ) (items : List Item) : Type 0 where
  pub aligned : start % 4 ≡ 0
  pub whole : end % 4 ≡ 0
  pub mapped : AreMapped b.mapped start end
  pub name : word_at b.at start ≡ heap_name
  pub first : word_at b.at (start + 4) ≡ next_free (start + 16) items 0 - start
  pub base : word_at b.at (start + 8) ≡ 16 + size_of items
  pub limit : word_at b.at (start + 12) ≡ end
  pub spelled : Spells (word_at b.at) (start + 16) items 0
  pub totals : AreTotals items
  pub spaced : AreSpaced items
  pub inside : 16 + size_of items ≤ end

-- the bytes after the words of items were written over them, those of the last item first
abbrev pub with_heads : (ℕ → ℕ) → ℕ → List Item → ℕ → ℕ → ℕ
with_heads bytes at [] other = bytes
with_heads bytes at (Live t ∷ xs) other = with_word_at (with_heads bytes (at + t) xs other) at t
with_heads bytes at (Free t ∷ xs) other = with_word_at (with_word_at (with_heads bytes (at + t) xs other)
    (at + 4) t) at (next_free (at + t) xs other - at)

-- the bytes after all words of a heap were written over them
abbrev pub with_heap : (ℕ → ℕ) → ℕ → ℕ → List Item → ℕ → ℕ
with_heap bytes start end items =
    with_word_at (with_word_at (with_word_at (with_word_at (with_heads bytes (start + 16) items 0)
    start heap_name)
    (start + 4) (next_free (start + 16) items 0 - start))
    (start + 8) (16 + size_of items))
    (start + 12) end

-- the address of the last free item, where the first item is at `at`; `other` where none is free
abbrev pub last_free : ℕ → ℕ → List Item → ℕ
last_free other at [] = other
last_free other at (Live t ∷ xs) = last_free other (at + t) xs
last_free other at (Free t ∷ xs) = last_free at (at + t) xs
