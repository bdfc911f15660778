-- Basic blocks: words in a row through which steps go one after another, and loops over such words. As long as steps
-- stay in one, memory stays, and each begins at the word behind the one before.
use Rattle.std.specs.Prelude.{◌≡◌, ◌≢◌, ◌⊎◌, ◌≤◌, ◌<◌, ℕ, zero, suc, ◌+◌, ◌-◌, ◌*◌, ◌%◌, ◌^◌, ◌==◌, Bool, true, false, not, ◌||◌, nat_le, List, [], ◌∷◌, length, Option, Some, None, Ok, if◌then◌else◌}
use Rattle.profile.specs.declared.stop.Stop.{Stop}
use Rattle.address_map.specs.Bytes.{Bytes, word_loaded}
use Rattle.debug_labels.specs.Labels.{ImageLabels}
use Rattle.debug_tables.specs.GuestState.{AreCoreSteps}
use Rattle.debug_tables.specs.MachineState.{MachineState}
use Rattle.debug_tables.specs.Run.{is_among, silent_run, ran}
use Rattle.debug_tables.specs.State.{ScriptState}
use Rattle.debug_tables.specs.Stepping.{script_after_silent}
use Rattle.debug_tables.specs.counts.Counts.{CountTable, steps_counted}
use Rattle.debug_tables.specs.Routines.{routine_end}
use Rattle.debug_tables.specs.WordFlows.{word_flow}
use Rattle.debug_tables.specs.declared.modes.StepModes.{StepModes}
use Rattle.debug_tables.specs.declared.step_words.WordFlow.{WordFlow}
use Rattle.debug_tables.specs.declared.step_words.WordFlow.TheVariants.{Straight, Branches, Stores}
use Rattle.debug_runs.specs.Places.{places_of_run, places_unless}
use Rattle.debug_runs.specs.Runs.{run_unless, steps_run}
use Rattle.debug_runs.specs.declared.basic_blocks.BasicBlock.{BasicBlock}
use Rattle.debug_runs.specs.declared.running.RunEnd.{RunEnd}
use Rattle.debug_runs.specs.declared.running.RunGoal.{RunGoal}
use Rattle.debug_runs.specs.declared.running.RunGoal.TheVariants as goal

-- a word stands at an address, and this is its flow
pub record HasFlow (b : Bytes) (a : ℕ) (flow : WordFlow) : Type 0 where
  pub word : ℕ
  pub loaded : word_loaded b a ≡ Ok word
  pub is : word_flow a word ≡ flow

-- one that leaves memory as it is
pub record HasQuiet (b : Bytes) (a : ℕ) : Type 0 where
  pub flow : WordFlow
  pub there : HasFlow b a flow
  pub quiet : flow ≢ Stores

-- The words of a block: those before the last go straight on; the last leaves memory as it is too, where it is to,
-- and in a loop it goes back to the first or on behind itself.
pub record IsBasicBlock (stays : Bool) (b : Bytes) (pc : ℕ) (c : BasicBlock) : Type 0 where
  pub start : c.start ≡ pc
  pub aligned : c.start % 4 ≡ 0
  pub inside : c.start + 4 * c.count ≤ 2 ^ 26
  pub straight : (j : ℕ) → suc j < c.count → HasFlow b (c.start + 4 * j) Straight
  pub last : stays ≡ true → (j : ℕ) → suc j ≡ c.count → HasQuiet b (c.start + 4 * j)
  pub back : c.is_loop ≡ true → (j : ℕ) → suc j ≡ c.count → HasFlow b (c.start + 4 * j) (Branches c.start)
  pub exit : c.is_loop ≡ true → c.start + 4 * c.count < 2 ^ 26

-- no step of a block that ends before an address reaches a goal before the last: no frame is opened or closed, and a
-- routine's end isn't among its words
abbrev pub stays_short : RunGoal → ℕ → MachineState → Bool
stays_short goal.Nowhere end s = true
stays_short (goal.Frames count) end s = not (length s.tables.frames == count)
stays_short (goal.Routine count) end s = not (length s.tables.frames == count) || nat_le end routine_end

-- So many steps of the core left this, within a block: no further than to a break, or in a loop to where it goes on.
pub record IsAfterBlock (g : RunGoal) (c : BasicBlock) (s now : ScriptState) (taken : ℕ) : Type 0 where
  pub stops : List ℕ
  pub breaks : (at : ℕ) → is_among stops at ≡ false → is_among s.breaks at ≡ false
  pub exit : 0 < taken → c.is_loop ≡ true → is_among stops (c.start + 4 * c.count) ≡ true
  pub few : (c.is_loop ≡ true) ⊎ (taken ≤ c.count)
  pub some : 0 < taken → 0 < c.count
  pub short : 0 < taken → stays_short g (c.start + 4 * c.count) s.machine ≡ true
  pub ends : Stop
  pub run : ran s.images stops taken s.machine ≡ silent_run now.machine taken ends
  pub steps : AreCoreSteps taken s.machine now.machine
  pub state : now ≡ script_after_silent s now.machine taken
  pub unhalted : now.machine.halt ≡ None

-- the word behind one of a block, of which the first comes behind the last
abbrev pub next_word_of : BasicBlock → ℕ → ℕ
next_word_of c j = if suc j == c.count then 0 else suc j

-- where so many steps begin, the first at a word of a block
unfoldable pub block_places : BasicBlock → ℕ → ℕ → List ℕ
block_places c j zero = []
block_places c j (suc n) = (c.start + 4 * j) ∷ block_places c (next_word_of c j) n

-- So many steps of a run, of which nothing is shown, left this state and these counts: the run goes on behind them,
-- unless it ends with them.
pub record RunsOnBehind (modes : StepModes) (labels : List ImageLabels) (g : RunGoal) (reported : Option ℕ)
    (most : ℕ) (s : ScriptState) (c : CountTable) (taken : ℕ) (end : Option RunEnd) (now : ScriptState)
    (after : CountTable) : Type 0 where
  pub rest : steps_run modes labels g most reported s
      ≡ run_unless now end (steps_run modes labels g (most - taken) reported now)
  pub counted : steps_counted (places_unless end (places_of_run modes g (most - taken) now)) after
      ≡ steps_counted (places_of_run modes g most s) c
  pub few : taken ≤ most
  pub left : now.left ≡ s.left - taken
