-- How two heaps lie to each other: they share no byte, or one lies in what a live block of the other holds. And how a range lies to heaps.
use Rattle.std.specs.Prelude.{ℕ, ◌≡◌, ◌≤◌, ◌⊎◌, Bool, true, false, not, ◌&&◌, ◌||◌, nat_le, nat_lt, ◌+◌, Option, None, Some, List, [], ◌∷◌, if◌then◌else◌}
use Rattle.os_heap_words.specs.Bytes.{in_range, shares_address}
use Rattle.os_heap_words.specs.Item.{Item}
use Rattle.os_heap_words.specs.Item.TheVariants.{Free, Live}
use Rattle.os_heap_words.specs.Kind.{Kind}
use Rattle.os_heap_words.specs.Kind.TheVariants as kind
use Rattle.os_heap_words.specs.lists.Heap.{HeapList}
use Rattle.os_heap_words.specs.lists.Lists.{live_total}

-- ranges that share no address
abbrev pub AreClear : ℕ → ℕ → ℕ → ℕ → Type 0
AreClear at len other other_len = (a : ℕ) → in_range at len a ≡ true → in_range other other_len a ≡ false

abbrev pub IsClearOfHeaps : ℕ → ℕ → List HeapList → Type 0
IsClearOfHeaps at len [] = Unit {0}
IsClearOfHeaps at len (h ∷ hs) = AreClear at len h.start h.end × IsClearOfHeaps at len hs

-- the module area is a heap too, and not one of those that guests make
abbrev pub is_module_area : Kind → Bool
is_module_area kind.Rma = true
is_module_area other = false

-- A heap lies wholly in what one live block of another holds. Only guests' heaps lie so.
pub record IsWithin (h g : HeapList) : Type 0 where
  pub guest : is_module_area g.kind ≡ false
  pub block : ℕ
  pub total : ℕ
  pub live : live_total block (h.start + 16) h.items ≡ Some total
  pub low : block ≤ g.start
  pub high : g.start + g.end + 4 ≤ block + total

abbrev pub StandsApart : HeapList → HeapList → Type 0
StandsApart h g = AreClear h.start h.end g.start g.end ⊎ (IsWithin h g ⊎ IsWithin g h)

abbrev pub StandApart : HeapList → List HeapList → Type 0
StandApart h [] = Unit {0}
StandApart h (g ∷ gs) = StandsApart h g × StandApart h gs

-- does one live block of a list hold all of a range, where the first item is at `at`?
abbrev pub holds_range : ℕ → List Item → ℕ → ℕ → Bool
holds_range at [] from len = false
holds_range at (Live t ∷ xs) from len = (nat_le (at + 4) from && nat_le (from + len) (at + t))
    || holds_range (at + t) xs from len
holds_range at (Free t ∷ xs) from len = holds_range (at + t) xs from len

-- a range that meets a heap otherwise than by lying in what one of its live blocks holds
abbrev pub is_crossed : ℕ → ℕ → HeapList → Bool
is_crossed at len h = shares_address at len h.start h.end && not (holds_range (h.start + 16) h.items at len)

-- of two heaps the one that starts last, and the one that does so of those heaps that pass a test
abbrev pub later_heap : Option HeapList → Option HeapList → Option HeapList
later_heap None other = other
later_heap (Some h) None = Some h
later_heap (Some h) (Some g) = if nat_lt h.start g.start then Some g else Some h

abbrev pub last_of : (HeapList → Bool) → List HeapList → Option HeapList
last_of test [] = None
last_of test (h ∷ hs) = if test h then later_heap (Some h) (last_of test hs) else last_of test hs

-- a heap that lies round a range, and the innermost of these
abbrev pub is_round : ℕ → ℕ → HeapList → Bool
is_round at len h = nat_lt h.start at && nat_le (at + len) (h.start + h.end)

abbrev pub innermost_heap : ℕ → ℕ → List HeapList → Option HeapList
innermost_heap at len hs = last_of (is_round at len) hs
