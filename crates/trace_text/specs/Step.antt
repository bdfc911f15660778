-- The lines of one step: what stands at the program counter, before the step is taken, and what the
-- step leaves. They are a function of the machine before the step and of what the step leaves.
use Rattle.std.specs.Prelude.{ℕ, ◌%◌, ◌^◌, ◌==◌, ◌&&◌, Bool, true, false, List, [], ◌∷◌, ◌++◌, codes, length, Option, Some, None, if◌then◌else◌}
use Rattle.std.specs.Option.{option_map}
use Rattle.profile.specs.Word.{bit_of}
use Rattle.profile.specs.declared.stop.Stop.{Stop}
use Rattle.trace_effects.specs.Bytes.{Bytes}
use Rattle.arm_core.specs.State.{State, register_of}
use Rattle.trace_store_text.specs.Frames.{innermost_frame}
use Rattle.trace_store_text.specs.Frame.{Frame}
use Rattle.trace_store_text.specs.MachineState.{MachineState, StepOutcome, stop_of}
use Rattle.trace_store_text.specs.Step.{without_x}
use Rattle.trace_effects.specs.changes.Status.{following_word}
use Rattle.trace_effects.specs.Cause.{cause_of, swi_of_cause}
use Rattle.trace_effects.specs.Leaving.{call_leaves, stays_in_heap}
use Rattle.trace_effects.specs.Loaded.{loaded_register, loaded_words}
use Rattle.trace_effects.specs.Stored.{no_words, stored_words}
use Rattle.trace_effects.specs.declared.cause.Cause.{Cause}
use Rattle.trace_effects.specs.declared.stored.StoredWords.{StoredWords}
use Rattle.trace_effects.specs.declared.cause.Cause.TheVariants.{Gate, Unmapped, Skipped, Word}
use Rattle.trace_store_text.specs.FrameWords.{entered_word}
use Rattle.trace_store_text.specs.StoreLines.{store_lines}
use Rattle.trace_store_text.specs.Copies.{KeptStore, kept_of}
use Rattle.trace_text.specs.declared.areas.AreaMark.{AreaMark}
use Rattle.trace_store_text.specs.Area.{Area}
use Rattle.trace_text.specs.Areas.{area_lines, area_marks}
use Rattle.trace_text.specs.Below.{AreListedInside, error_words, frames_kept, has_error, left_word_kept, pages_kept, prints_word}
use Rattle.trace_store_text.specs.heaps.Limits.{Pages}
use Rattle.trace_text.specs.Calls.{call_words}
use Rattle.trace_effects.specs.Columns.{below_text, words_behind}
use Rattle.trace_effects.specs.Outside.{calling_text, loading_text, outside_line}
use Rattle.trace_text.specs.Core.{core_words}
use Rattle.trace_text.specs.Errors.{stop_word}
use Rattle.trace_text.specs.Instruction.{front_text, named_text}
use Rattle.trace_effects.specs.word_text.Loaded.{loaded_words_text}
use Rattle.trace_effects.specs.word_text.Stored.{stored_below, stored_here, word_values_from}
use Rattle.trace_text.specs.declared.start.Taking.{Taking}
use Rattle.trace_text.specs.declared.start.Taking.TheVariants as taking

-- how a step is shown: an instruction, a store call and whether errors go back from it, the return gate
abbrev pub taking_swi : Option ℕ → Taking
taking_swi (Some number) = taking.Call (bit_of number 17) (without_x number)
taking_swi None = taking.Instruction

abbrev pub taking_of : Cause → Taking
taking_of Gate = taking.Gate
taking_of (Word word) = taking_swi (swi_of_cause (Word word))
taking_of _ = taking.Instruction

-- A store call's own words are shown before it, since it can change what it reads.
abbrev pub taking_text : State → Bytes → ℕ → Taking → List ℕ
taking_text s b len taking.Instruction = []
taking_text s b len (taking.Call is_x number) = words_behind len (call_words s b is_x number) ++ codes "\n"
taking_text s b len taking.Gate = codes "\n"

-- what stands written before the step is taken, where a branch there goes to this label
unfoldable pub start_text : Option (List ℕ) → State → Bytes → List ℕ
start_text label s b = (let cause = cause_of s b in let text = named_text s.pc cause label in
    front_text s.pc cause ++ (text ++ taking_text s b (length text) (taking_of cause)))

abbrev pub is_skipped : Cause → Bool
is_skipped (Skipped word) = true
is_skipped _ = false

-- What a trace knows of the machine before a step: its core, how the step is shown, where it is
-- expected to go on, whether its instruction is skipped, how long the instruction's text is, the words
-- that it stores to as they are, those that it loads and the register that LDR loads, the frames, the
-- areas, unless it is an instruction, and the store, unless it is an instruction or a call that leaves the
-- store as it is.
pub record Known : Type 0 where
  pub cpu : State
  pub taking : Taking
  pub expected : ℕ
  pub is_skipped : Bool
  pub text_length : ℕ
  pub stored_at : ℕ
  pub old_words : List ℕ
  pub loaded : StoredWords
  pub target : Option ℕ
  pub frames : ℕ
  pub innermost : Option Frame
  pub areas : List AreaMark
  pub before : Option KeptStore

-- An instruction changes no area.
abbrev pub areas_before : Taking → List Area → List AreaMark
areas_before taking.Instruction areas = []
areas_before (taking.Call is_x number) areas = area_marks areas
areas_before taking.Gate areas = area_marks areas

-- by what is in R0, the reason of a call that has one
abbrev pub store_before : Taking → ℕ → KeptStore → Option KeptStore
store_before taking.Instruction r0 k = None
store_before (taking.Call is_x number) r0 k = if call_leaves r0 number then None else Some k
store_before taking.Gate r0 k = Some k

-- with a text that is so long
abbrev pub known_by : ℕ → MachineState → Cause → StoredWords → StoredWords → Known
known_by text_length s cause stored loaded = record {
  cpu = s.cpu;
  taking = taking_of cause;
  expected = following_word s.cpu;
  is_skipped = is_skipped cause;
  text_length = text_length;
  stored_at = stored.at;
  old_words = word_values_from s.store.bytes stored.at stored.count;
  loaded = loaded;
  target = loaded_register cause;
  frames = length s.tables.frames;
  innermost = innermost_frame s.tables.frames;
  areas = areas_before (taking_of cause) s.tables.area_table.areas;
  before = store_before (taking_of cause) (register_of s.cpu 0) (kept_of s);
}

abbrev pub known_of : Option (List ℕ) → MachineState → Known
known_of label s = (let cause = cause_of s.cpu s.store.bytes in
    known_by (length (named_text s.cpu.pc cause label)) s cause
    (stored_words cause s.cpu) (loaded_words cause s.cpu))

-- behind an instruction: why it halted the machine, or what it leaves
abbrev pub skipped_word : Bool → List ℕ
skipped_word true = codes " skipped"
skipped_word false = []

abbrev pub instruction_words : Known → MachineState → Option Stop → List ℕ
instruction_words k now (Some stop) = stop_word stop
instruction_words k now None = skipped_word k.is_skipped ++ (core_words k.expected k.cpu now.cpu
    ++ (loaded_words_text k.cpu now.cpu now.store.bytes k.loaded k.target
    ++ stored_here now.store.bytes k.stored_at k.old_words))

abbrev pub instruction_below : Known → MachineState → Option Stop → List ℕ
instruction_below k now (Some stop) = []
instruction_below k now None = stored_below now.store.bytes k.stored_at k.old_words

abbrev pub instruction_end : Known → MachineState → Option Stop → List ℕ
instruction_end k now stop =
    words_behind k.text_length (instruction_words k now stop) ++ (codes "\n" ++ instruction_below k now stop)

-- the lines below a store call or the return gate
abbrev pub core_line : ℕ → Known → MachineState → List ℕ
core_line kept k now = below_text (error_words kept now ++ core_words k.expected k.cpu now.cpu)

unfoldable pub frame_lines_below : Bool → ℕ → Known → MachineState → List ℕ
frame_lines_below leaves kept k now = below_text (left_word_kept leaves k.frames k.innermost k.before)
    ++ below_text (entered_word kept now.tables.frames now.tables.modules)

abbrev pub store_lines_below : Bool → Option KeptStore → KeptStore → List ℕ
store_lines_below has_error None k' = []
store_lines_below has_error (Some k) k' = store_lines has_error k k'

-- the areas, and what is in them
unfoldable pub memory_lines_below : ℕ → Known → MachineState → List ℕ
memory_lines_below kept k now = area_lines k.areas now.tables.area_table.areas
    ++ store_lines_below (has_error kept now) k.before (kept_of now)

unfoldable pub lines_with : Bool → ℕ → Known → StepOutcome → List ℕ
lines_with leaves kept k o = core_line kept k o.now ++ (below_text (prints_word o.printed)
    ++ (frame_lines_below leaves kept k o.now ++ memory_lines_below kept k o.now))

abbrev pub lines_below : Bool → Known → StepOutcome → List ℕ
lines_below leaves k o = lines_with leaves (frames_kept leaves k.frames) k o

abbrev pub lines_after_call : Bool → Known → StepOutcome → Option Stop → List ℕ
lines_after_call leaves k o (Some stop) = below_text (stop_word stop)
lines_after_call leaves k o None = lines_below leaves k o

abbrev pub lines_after_step : Known → Taking → StepOutcome → Option Stop → List ℕ
lines_after_step k taking.Instruction o stop = instruction_end k o.now stop
lines_after_step k (taking.Call is_x number) o stop = lines_after_call false k o stop
lines_after_step k taking.Gate o stop = lines_after_call true k o stop

-- what stands written once the step is taken
abbrev pub step_end_text : Known → StepOutcome → List ℕ
step_end_text k o = lines_after_step k k.taking o (option_map stop_of o.now.halt)

-- the pages in which words are listed of a step that was taken
abbrev pub is_heap_call : ℕ → Taking → Bool
is_heap_call r0 (taking.Call is_x number) = stays_in_heap r0 number
is_heap_call r0 other = false

abbrev pub pages_listed : Known → MachineState → Pages
pages_listed k now = pages_kept (is_heap_call (register_of k.cpu 0) k.taking && length now.tables.frames == k.frames)
    (register_of k.cpu 1) k.before (kept_of now)

-- where so many frames were kept
abbrev pub ListsWith : ℕ → Option KeptStore → MachineState → Pages → Type 0
ListsWith kept before now pages = AreListedInside (has_error kept now) before (kept_of now) pages

abbrev pub ListsInside : Known → MachineState → Type 0
ListsInside k now = ListsWith k.frames k.before now (pages_listed k now)

-- the lines of a step
abbrev pub step_text : Option (List ℕ) → MachineState → StepOutcome → List ℕ
step_text label s o = start_text label s.cpu s.store.bytes ++ step_end_text (known_of label s) o

-- a call from outside
abbrev pub call_start_text : State → Bytes → ℕ → List ℕ
call_start_text s b number =
    outside_line (calling_text number) (call_words s b true (without_x (number % 2 ^ 24)))

abbrev pub load_start_text : List ℕ → List ℕ
load_start_text words = outside_line (loading_text words) (codes " XOS_Module 1 Load")

-- the guest is expected to go on where it stands
abbrev pub known_outside : MachineState → Known
known_outside s = record {
  cpu = s.cpu;
  taking = taking.Call true 0;
  expected = s.cpu.pc;
  is_skipped = false;
  text_length = 0;
  stored_at = 0;
  old_words = [];
  loaded = no_words;
  target = None;
  frames = length s.tables.frames;
  innermost = innermost_frame s.tables.frames;
  areas = area_marks s.tables.area_table.areas;
  before = Some (kept_of s);
}
