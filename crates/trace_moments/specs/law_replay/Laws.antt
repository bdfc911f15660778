-- Records, replayed one after another: behind each of them stands the machine as it was then. A record
-- is what the lists have that are made of a machine before and after it.
use Rattle.std.specs.Prelude.{◌≡◌, ℕ, zero, suc, ◌%◌, ◌<◌, ◌^◌, List, [], ◌∷◌, ◌++◌, Option, unwrap_or}
use Rattle.arrayvec.specs.ArrayVec.{ArrayVec}
use Rattle.address_map.specs.declared.item.Item.{Item}
use Rattle.arm_core.specs.State.{State}
use Rattle.flex_store.specs.declared.blocks.FlexBlock.{FlexBlock}
use Rattle.trace_effects.specs.changes.Laws.{CoreChanges, core_after, registers_after}
use Rattle.trace_effects.specs.changes.Status.{flag_change, jump, mode_change}
use Rattle.trace_effects.specs.declared.changes.status.Flag.{Flag}
use Rattle.trace_effects.specs.declared.shown_words.words.ShownWord.{ShownWord}
use Rattle.trace_effects.specs.shown_words.Replay.{words_after}
use Rattle.trace_store_text.specs.declared.items.changes.ItemChange.{ItemChange}
use Rattle.trace_store_text.specs.declared.modules.marks.InstanceMark.{InstanceMark}
use Rattle.trace_store_text.specs.items.Laws.{with_item_changes}
use Rattle.trace_moments.specs.Flex.{flex_blocks_after}
use Rattle.trace_moments.specs.Frames.{frames_after}
use Rattle.trace_moments.specs.declared.areas.ShownAreas.{ShownAreas}
use Rattle.trace_moments.specs.declared.flex.FlexChange.{FlexChange}
use Rattle.trace_moments.specs.declared.flex.FlexRange.{FlexRange}
use Rattle.trace_moments.specs.declared.frames.FrameChanges.{FrameChanges}
use Rattle.trace_moments.specs.declared.frames.ShownFrame.{ShownFrame}

-- What is seen of a machine: its core, each word by its address, 0 where no memory is mapped, the items
-- of heaps by the heap and their addresses, the areas with the pool, the instances of all modules, the
-- block of each flex anchor, where the flex store is, the open frames of module code, and all that was
-- printed so far.
pub record MachineSeen : Type 0 where
  pub core : State
  pub words : ℕ → ℕ
  pub items : ℕ → ℕ → Option Item
  pub areas : ShownAreas
  pub modules : ArrayVec InstanceMark
  pub flex : ℕ → Option FlexBlock
  pub flex_range : Option FlexRange
  pub frames : List ShownFrame
  pub output : List ℕ

-- What a record has: registers, flags, mode, and where the core goes on if not where it was expected
-- to; words; the items of each heap that are gone or new; areas and modules, whole, where they differ;
-- flex blocks by their anchors, and where the store is if that differs; frames left and entered; and
-- what was printed.
pub record MomentRecord : Type 0 where
  pub expected : ℕ
  pub core : CoreChanges
  pub words : List ShownWord
  pub items : ℕ → List ItemChange
  pub areas : Option ShownAreas
  pub modules : Option (ArrayVec InstanceMark)
  pub flex : List FlexChange
  pub flex_range : Option (Option FlexRange)
  pub frames : FrameChanges
  pub printed : List ℕ

-- A machine with what a record has, and with what several have, one after another.
abbrev pub seen_after : MomentRecord → MachineSeen → MachineSeen
seen_after t v = record {
  core = core_after t.expected v.core t.core;
  words = words_after t.words v.words;
  items = λ heap. with_item_changes (t.items heap) (v.items heap);
  areas = unwrap_or t.areas v.areas;
  modules = unwrap_or t.modules v.modules;
  flex = flex_blocks_after t.flex v.flex;
  flex_range = unwrap_or t.flex_range v.flex_range;
  frames = frames_after t.frames v.frames;
  output = v.output ++ t.printed;
}

abbrev pub seen_after_all : List MomentRecord → MachineSeen → MachineSeen
seen_after_all [] v = v
seen_after_all (t ∷ ts) v = seen_after_all ts (seen_after t v)

-- The same is seen: registers of all banks, flags, mode, program counter, each word, each item, areas,
-- modules, each flex block, the flex store's place, frames, output.
pub record IsSameMachine (v w : MachineSeen) : Type 0 where
  pub core : v.core ≡ w.core
  pub words : (a : ℕ) → a % 4 ≡ 0 → v.words a ≡ w.words a
  pub items : (heap a : ℕ) → a < 2 ^ 26 → v.items heap a ≡ w.items heap a
  pub areas : v.areas ≡ w.areas
  pub modules : v.modules ≡ w.modules
  pub flex : (anchor : ℕ) → v.flex anchor ≡ w.flex anchor
  pub flex_range : v.flex_range ≡ w.flex_range
  pub frames : v.frames ≡ w.frames
  pub output : v.output ≡ w.output

-- A record of a machine before and after, as its parts are made: `shown_registers`, `changed_flag`,
-- `changed_mode`, `jump_of`, `changed_words`, `all_changed_items`, `changed_areas`, `changed_modules`,
-- `changed_blocks` and `changed_range` each promise one of these, and so does `changed_frames` where all
-- open frames but one at most are of those before. Of the words that an instruction stores, which are
-- listed by another function, it is a premise, and so it is of what was printed.
pub record IsRecordOf (v w : MachineSeen) (t : MomentRecord) : Type 0 where
  pub registers : registers_after v.core.file t.core.registers ≡ w.core.file
  pub flags : (flag : Flag) → t.core.flags flag ≡ flag_change flag v.core.psr w.core.psr
  pub mode : t.core.mode ≡ mode_change v.core.psr w.core.psr
  pub goes_to : t.core.goes_to ≡ jump t.expected w.core
  pub words : (a : ℕ) → a % 4 ≡ 0 → words_after t.words v.words a ≡ w.words a
  pub items : (heap a : ℕ) → a < 2 ^ 26 → with_item_changes (t.items heap) (v.items heap) a ≡ w.items heap a
  pub areas : unwrap_or t.areas v.areas ≡ w.areas
  pub modules : unwrap_or t.modules v.modules ≡ w.modules
  pub flex : (anchor : ℕ) → flex_blocks_after t.flex v.flex anchor ≡ w.flex anchor
  pub flex_range : unwrap_or t.flex_range v.flex_range ≡ w.flex_range
  pub frames : frames_after t.frames v.frames ≡ w.frames
  pub output : v.output ++ t.printed ≡ w.output

-- A record, and the machine behind it.
pub record Moment : Type 0 where
  pub changes : MomentRecord
  pub seen : MachineSeen

abbrev pub records_of : List Moment → List MomentRecord
records_of [] = []
records_of (m ∷ ms) = m.changes ∷ records_of ms

-- each record is one of the machine behind the record before it, and of the machine behind it
abbrev pub AreRecordsOf : MachineSeen → List Moment → Type 0
AreRecordsOf v [] = Unit {0}
AreRecordsOf v (m ∷ ms) = IsRecordOf v m.seen m.changes × AreRecordsOf m.seen ms

-- the machine behind the last
abbrev pub last_seen : MachineSeen → List Moment → MachineSeen
last_seen v [] = v
last_seen v (m ∷ ms) = last_seen m.seen ms

-- the first moments of a list
abbrev pub first_of_all : ℕ → List Moment → List Moment
first_of_all zero ms = []
first_of_all (suc k) [] = []
first_of_all (suc k) (m ∷ ms) = m ∷ first_of_all k ms

-- Whoever has the machine at the start, and replays so many of the records that follow, has the machine
-- behind the last of these.
abbrev pub PrefixesReplay : Type 0
PrefixesReplay = (start : MachineSeen) (moments : List Moment) (k : ℕ) → AreRecordsOf start moments →
    IsSameMachine (seen_after_all (records_of (first_of_all k moments)) start)
    (last_seen start (first_of_all k moments))
