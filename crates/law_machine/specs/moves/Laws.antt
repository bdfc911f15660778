-- What each move of a machine, a step or a call that a user makes from outside, does to its flex store and its module
-- area, whatever moves were made before (Acorn C manual, "flex"; RISC OS 3 Programmer's Reference Manual, "OS_Module",
-- reason 8).
use Rattle.std.specs.Prelude.{ℕ, ◌≡◌, ◌+◌, ◌%◌, ◌^◌, Bool, true, None, Some, Ok, Err, List, [], ◌∷◌}
use Rattle.profile.specs.Reasons.{module_reason}
use Rattle.profile.specs.declared.reason.ModuleReason.TheVariants as reason
use Rattle.profile.specs.declared.swi.SwiName.TheVariants as swi
use Rattle.arm_core.specs.State.{register_of}
use Rattle.arm_core.specs.declared.turn.StepEnd.TheVariants as turn
use Rattle.profile.specs.images.Entries.{Entry}
use Rattle.instances_table.specs.plans.Plans.{Plan}
use Rattle.swi_dispatch_guest.specs.SwiDispatchFlexCalls.{room_word_of}
use Rattle.swi_dispatch_guest.specs.ModulePlans.{tidy_planned}
use Rattle.swi_dispatch_guest.specs.MachineState.{MachineState, setting_of}
use Rattle.swi_dispatch_guest.specs.Step.{result_of_instruction}
use Rattle.swi_dispatch_guest.specs.Moves.{Call, Move, Step, core_of, machine_with_words, machine_after_event, swi_made}
use Rattle.swi_dispatch_guest.specs.GuestState.{IsState}
use Rattle.law_machine.specs.sliding_stores.Meaning.{meaning_of}
use Rattle.law_machine.specs.sliding_stores.Turning.{answer_of_turn, anchor_place_of_turn}
use Rattle.law_machine.specs.sliding_names.Named.{IsTurnByNames}
use Rattle.law_machine.specs.sliding.Laws.{TidyGoesOn}
use Rattle.law_machine.specs.sliding.MachineStores.{stores_of}
use Rattle.law_machine.specs.sliding.Turns.{FlexSwi, IsTidied, IsTidyKept, IsTurnMade, flex_name, flex_turn}
use Rattle.law_machine.specs.sliding.Reported.{shows_room}

-- the machine on which a move is made, and where its guest goes on after the SWI that the move makes
abbrev pub tidy_asked_by : MachineState → Move → MachineState
tidy_asked_by s (Call number words) = machine_with_words s words
tidy_asked_by s Step = s

abbrev pub next_of : MachineState → Move → ℕ
next_of s (Call number words) = (machine_with_words s words).cpu.pc
next_of s Step = (s.cpu.pc + 4) % 2 ^ 26

-- A flex call: a turn of the stores, by the names of flex blocks too. Where it says whether there was room, R0 has the
-- answer.
pub record IsFlexMove (f : FlexSwi) (s t : MachineState) : Type 0 where
  pub made : IsTurnMade (flex_turn f s.cpu) s t
  pub named : IsTurnByNames (flex_turn f s.cpu) (answer_of_turn (flex_turn f s.cpu) (stores_of s))
      (anchor_place_of_turn (flex_turn f s.cpu) (stores_of s)) (meaning_of (stores_of s)).flex
      (meaning_of (stores_of t)).flex
  pub reported : (room : Bool) → shows_room f ≡ true → answer_of_turn (flex_turn f s.cpu) (stores_of s) ≡ Ok
      room
      → register_of t.cpu 0 ≡ room_word_of room

-- A step in which module code comes back, or the code of a module's SWI.
abbrev pub TidyComesBack : MachineState → Move → Type 0
TidyComesBack s m = (m ≡ Step) × (result_of_instruction s ≡ Err turn.Gate)

-- What a move does: a flex call is its turn; a tidy that isn't refused begins, and slides at once where no instance has
-- a finalisation; where module code comes back while a tidy is under way that has not slid, the tidy goes on; and each
-- other move leaves it under way, with the same return address.
pub record IsMoveFollowed (s : MachineState) (m : Move) (t : MachineState) : Type 0 where
  pub flex : (f : FlexSwi) → swi_made s m ≡ Some (flex_name f) → IsFlexMove f (tidy_asked_by s m) t
  pub begins : (p : Plan) → swi_made s m ≡ Some swi.Module
      → module_reason (register_of (core_of s m) 0) ≡ Some reason.Tidy
      → tidy_planned (setting_of (tidy_asked_by s m)) (next_of s m) ≡ Ok p →
      IsTidied (next_of s m) (tidy_asked_by s m) t
  pub goes_on : (return_address : ℕ) → TidyComesBack s m → IsTidyKept return_address s.tables.plan
      → TidyGoesOn return_address s t
  pub waits : (return_address : ℕ) → (TidyComesBack s m → ⊥) → IsTidyKept return_address s.tables.plan
      → IsTidyKept return_address t.tables.plan

abbrev pub AreMovesFollowed : List Entry → MachineState → List Move → Type 0
AreMovesFollowed images s [] = Unit {0}
AreMovesFollowed images s (m ∷ ms) =
    IsMoveFollowed s m (machine_after_event images s m) ×
    AreMovesFollowed images (machine_after_event images s m) ms

-- Each move of a list is made on a machine's state that isn't halted, and leaves one.
pub record IsMoveKnown (images : List Entry) (s : MachineState) (m : Move) : Type 0 where
  pub goes : s.halt ≡ None
  pub state : IsState (tidy_asked_by s m)
  pub left : IsState (machine_after_event images s m)

abbrev pub AreMovesKnown : List Entry → MachineState → List Move → Type 0
AreMovesKnown images s [] = Unit {0}
AreMovesKnown images s (m ∷ ms) = IsMoveKnown images s m ×
    AreMovesKnown images (machine_after_event images s m) ms

abbrev pub MovesFollowRules : Type 0
MovesFollowRules =
    (images : List Entry) (s : MachineState) (moves : List Move) → AreMovesKnown images s moves
    → AreMovesFollowed images s moves
