-- The words of memory that differ after a store call, in the order of their addresses (words lie at
-- multiples of 4: ARM2 data sheet, "Memory interface").
use Rattle.std.specs.Prelude.{◌≡◌, ◌⊎◌, ℕ, zero, suc, ◌*◌, ◌<◌, ◌≤◌, ◌==◌, Bool, not, ◌&&◌, List, [], ◌∷◌, ◌++◌, length, slice_index, take, if◌then◌else◌}
use Rattle.profile.specs.MemoryMap.{error_block_start}
use Rattle.address_map.specs.Bytes.{Bytes, in_range, word_at}
use Rattle.store_copies.specs.declared.changes.PageRange.{PageRange}
use Rattle.store_copies.specs.declared.changes.WordChange.{WordChange}
use Rattle.store_copies.specs.declared.changes.WordChanges.{WordChanges}

-- Which words other lines of a step show: those of the error block, where an error is shown.
abbrev pub is_shown_elsewhere : Bool → ℕ → Bool
is_shown_elsewhere has_error a = has_error && in_range error_block_start 256 a

-- a word that is mapped, and isn't what it was; one that wasn't mapped counts as 0
abbrev pub has_word_changed : Bytes → Bytes → ℕ → Bool
has_word_changed b b' a = b'.mapped a && not (word_at b.at a == word_at b'.at a)

abbrev pub word_change : Bytes → Bytes → ℕ → WordChange
word_change b b' a = record { at = a; old = word_at b.at a; new = word_at b'.at a }

-- the change of a word, if it has one that isn't shown elsewhere
abbrev pub word_change_at : (ℕ → Bool) → Bytes → Bytes → ℕ → List WordChange
word_change_at reported b b' a = if has_word_changed b b' a && not (reported a) then word_change b b' a ∷ []
    else []

-- those of so many first words of memory
unfoldable pub word_changes_below : (ℕ → Bool) → Bytes → Bytes → ℕ → List WordChange
word_changes_below reported b b' zero = []
word_changes_below reported b b' (suc n) = word_changes_below reported b b' n ++ word_change_at reported b
    b' (4 * n)

-- those of all
abbrev pub all_changes : (ℕ → Bool) → Bytes → Bytes → List WordChange
all_changes reported b b' = word_changes_below reported b b' 16777216

-- all pages, and that no word beyond some pages is one that is listed
abbrev pub all_pages : PageRange
all_pages = record { first = 0; end = 16384 }

abbrev pub AreListedWithin : (ℕ → Bool) → Bytes → Bytes → PageRange → Type 0
AreListedWithin reported b b' pages = (n : ℕ) → n < 16777216 → (n < 1024 * pages.first) ⊎ (1024 * pages.end ≤ n)
    → word_change_at reported b b' (4 * n) ≡ []

-- what is kept of some changes: the first 16, and how many there are
pub record IsSummary (kept : WordChanges) (all : List WordChange) : Type 0 where
  pub first : kept.first.items ≡ take 16 all
  pub count : kept.count ≡ length all

-- from one place up to another the bytes are the same
abbrev pub AreSameBytes : List ℕ → List ℕ → ℕ → ℕ → Type 0
AreSameBytes xs ys from to = (k : ℕ) → from ≤ k → k < to → slice_index xs k ≡ slice_index ys k
