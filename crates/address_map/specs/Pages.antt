-- The page table: for each of the 2^14 pages of the address space the frame of the store that its
-- bytes lie in, or none. Pages and frames have 4096 bytes (RISC OS 3 Programmer's Reference Manual,
-- "Memory management": memory is mapped by pages; that the pages have this size is this project's
-- own).
use Rattle.std.specs.Prelude.{◌≡◌, ◌≢◌, ◌≤◌, ◌<◌, ℕ, ◌+◌, ◌*◌, ◌/◌, ◌%◌, ◌^◌, ◌==◌, if◌then◌else◌, List, length, slice_index_or, Option, Some, None, is_some}
use Rattle.std.specs.List.{All, AllPairs, count_by}

-- The frame of a page as a number of two bytes, of which the greatest stands for none: a store has
-- at most 1024 frames.
abbrev pub frame_numbered : ℕ → Option ℕ
frame_numbered number = if number == 65535 then None else Some number

abbrev pub number_of_frame : Option ℕ → ℕ
number_of_frame None = 65535
number_of_frame (Some frame) = frame

-- the frame of a page, if it is mapped
abbrev pub frame_at : List (Option ℕ) → ℕ → Option ℕ
frame_at frames page = slice_index_or frames page None

-- where in the store the byte of an address lies, by the frame of its page
abbrev pub place_in_frame : ℕ → Option ℕ → Option ℕ
place_in_frame a None = None
place_in_frame a (Some frame) = Some (4096 * frame + a % 4096)

abbrev pub place_in : List (Option ℕ) → ℕ → Option ℕ
place_in frames a = place_in_frame a (frame_at frames (a / 4096))

-- how many frames there are: those of the mapped pages, and the free ones
abbrev pub frame_count : List (Option ℕ) → List ℕ → ℕ
frame_count frames free = count_by is_some frames + length free

-- the frame of each mapped page lies among the first `len` bytes of the store
abbrev pub AreWritten : List (Option ℕ) → ℕ → Type 0
AreWritten frames len = (page frame : ℕ) → frame_at frames page ≡ Some frame → 4096 * frame + 4096 ≤ len

-- no page has this frame
abbrev pub IsUnused : List (Option ℕ) → ℕ → Type 0
IsUnused frames frame = (page : ℕ) → frame_at frames page ≢ Some frame

-- The table has all pages of the address space, and each frame is used once: as that of one page,
-- or in the list of the free ones.
pub record IsPageTable (frames : List (Option ℕ)) (free : List ℕ) : Type 0 where
  pub size : 4096 * length frames ≡ 2 ^ 26
  pub within : (page frame : ℕ) → frame_at frames page ≡ Some frame → frame < frame_count frames free
  pub single : (page other frame : ℕ) → frame_at frames page ≡ Some frame →
      frame_at frames other ≡ Some frame → page ≡ other
  pub free_within : All (λ frame. frame < frame_count frames free) free
  pub unused : All (IsUnused frames) free
  pub apart : AllPairs ◌≢◌ free
