-- What a store call or the return gate leaves, a line below the step for each: the error and the core,
-- what was printed, and the frames that were left and entered.
use Rattle.std.specs.Prelude.{ℕ, Bool, true, false, ◌-◌, ◌==◌, ◌&&◌, List, [], ◌++◌, codes, length, Option, Some, None, if◌then◌else◌}
use Rattle.profile.specs.declared.stop.Stop.{Stop}
use Rattle.trace_store_text.specs.Frame.{Frame}
use Rattle.trace_store_text.specs.Errors.{error_number}
use Rattle.trace_store_text.specs.MachineState.{MachineState, StepOutcome, stop_of}
use Rattle.trace_store_text.specs.FrameWords.{left_word}
use Rattle.trace_store_text.specs.Words.{AreListedWithin, all_pages, is_shown_elsewhere}
use Rattle.trace_store_text.specs.heaps.Limits.{Pages, heap_pages}
use Rattle.trace_store_text.specs.Copies.{KeptStore}
use Rattle.trace_store_text.specs.views.Quoted.{quoted_text}
use Rattle.trace_effects.specs.Columns.{below_text}
use Rattle.trace_text.specs.Core.{core_words}
use Rattle.trace_text.specs.Errors.{error_word, stop_word}

-- ` prints "Hi\n\r"`
abbrev pub prints_word : List ℕ → List ℕ
prints_word bytes = if length bytes == 0 then [] else codes " prints " ++ quoted_text bytes

-- how many frames are open once a step has left one, if it does
abbrev pub frames_kept : Bool → ℕ → ℕ
frames_kept leaves count = if leaves then count - 1 else count

-- the frame that was left, with its instance's name as it was; an instruction leaves none
abbrev pub left_word_kept : Bool → ℕ → Option Frame → Option KeptStore → List ℕ
left_word_kept leaves count innermost None = []
left_word_kept leaves count innermost (Some k) = left_word leaves count innermost k.modules

-- An error has gone back where V is set and no frame was entered.
abbrev pub has_error : ℕ → MachineState → Bool
has_error kept now = now.cpu.psr.overflow && length now.tables.frames == kept

abbrev pub error_words : ℕ → MachineState → List ℕ
error_words kept now = if has_error kept now then error_word (error_number now) else []

-- The pages in which words are listed of a step that the machine took: of a call that writes in a heap alone
-- those of the heap, before the call and after it. No step that enters a frame is one of these.
abbrev pub pages_kept : Bool → ℕ → Option KeptStore → KeptStore → Pages
pages_kept true start (Some k) k' = heap_pages k.store k'.store start
pages_kept other start k k' = all_pages

-- no word beyond some pages is one that is listed
abbrev pub AreListedInside : Bool → Option KeptStore → KeptStore → Pages → Type 0
AreListedInside has_error None k' pages = Unit {0}
AreListedInside has_error (Some k) k' pages =
    AreListedWithin (is_shown_elsewhere has_error) k.store.bytes k'.store.bytes pages
