-- Which blocks of the module area can be moved when it is tidied: the images of modules, and each
-- block that exactly one private word of an instance names, if they hold neither an anchor of the
-- flex store, nor a heap, nor the return address of the call (RISC OS 3 Programmer's Reference
-- Manual, "OS_Module", reason 8; which blocks can be moved is this project's own).
use Rattle.std.specs.Prelude.{ℕ, Bool, not, ◌+◌, ◌==◌, ◌&&◌, ◌||◌, List, [], ◌∷◌, Option, Some, None, if◌then◌else◌}
use Rattle.std.specs.List.{count_by}
use Rattle.rma.specs.Bytes.{in_range}
use Rattle.rma.specs.Records.{anchor_among}
use Rattle.rma.specs.Item.{Item}
use Rattle.rma.specs.Item.TheVariants.{Free, Live}
use Rattle.rma.specs.lists.Heap.{HeapList}
use Rattle.rma.specs.Forgetting.{holds_heap}
use Rattle.rma.specs.Store.{Store}
use Rattle.instances_table.specs.Lookup.{has_image_at}
use Rattle.instances_table.specs.Modules.{Module}

-- is a block named by exactly one of some words?
abbrev pub is_named_once : List ℕ → ℕ → Bool
is_named_once words block = count_by (λ (w : ℕ). w == block) words == 1

-- Can the block of `total` bytes be moved whose length word is at `at`? It holds what lies in any
-- of these bytes. `anchor` says of each byte whether it is an anchor's, and `holds` of each range
-- whether a heap starts in it.
abbrev pub can_move : (ℕ → Bool) → (ℕ → ℕ → Bool) → List Module → List ℕ → ℕ → ℕ → ℕ → Bool
can_move anchor holds modules words return_address at total =
    (has_image_at (at + 4) modules || is_named_once words (at + 4))
    && ((not (anchor_among anchor at total) && not (holds at total))
    && not (in_range at total return_address))

-- the addresses of the live blocks that pass a test, in order, where the first item is at `at`
abbrev pub blocks_that : (ℕ → ℕ → Bool) → ℕ → List Item → List ℕ
blocks_that test at [] = []
blocks_that test at (Live t ∷ xs) = if test at t then (at + 4) ∷ blocks_that test (at + t) xs
    else blocks_that test (at + t) xs
blocks_that test at (Free t ∷ xs) = blocks_that test (at + t) xs

abbrev pub movable_blocks : Store → List Module → List ℕ → ℕ → HeapList → List ℕ
movable_blocks s modules words return_address h = blocks_that
    (can_move s.anchor (holds_heap s.heaps) modules words return_address) (h.start + 16) h.items

-- those of the heap that was found, if one was
abbrev pub movable_in : Store → List Module → List ℕ → ℕ → Option HeapList → List ℕ
movable_in s modules words return_address None = []
movable_in s modules words return_address (Some h) = movable_blocks s modules words return_address h
