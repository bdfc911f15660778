-- Which flex calls show in R0 whether the store had room, and that they do (Acorn C manual, "flex").
use Rattle.std.specs.Prelude.{ℕ, ◌≡◌, Bool, true, false, Some, Ok, List, length}
use Rattle.profile.specs.SwiNames.{swi_of}
use Rattle.arm_core.specs.State.{register_of}
use Rattle.profile.specs.images.Entries.{Entry}
use Rattle.swi_dispatch_guest.specs.SwiDispatchFlexCalls.{room_word_of}
use Rattle.swi_dispatch_guest.specs.MachineState.{MachineState}
use Rattle.swi_dispatch_guest.specs.Step.{outcome_of_call}
use Rattle.law_machine.specs.sliding_stores.Turning.{answer_of_turn}
use Rattle.law_machine.specs.sliding.MachineStores.{stores_of}
use Rattle.law_machine.specs.sliding.Turns.{Allocated, Extended, FlexSwi, Freed, MadeStore, MidExtended, flex_name, flex_turn}

abbrev pub shows_room : FlexSwi → Bool
shows_room MadeStore = false
shows_room Allocated = true
shows_room Freed = false
shows_room Extended = true
shows_room MidExtended = true

-- Where such a call isn't refused, R0 is 1 just where the turn of the stores found room, and else 0.
abbrev pub FlexCallsPrintRoom : Type 0
FlexCallsPrintRoom =
    (images : List Entry) (f : FlexSwi) (s : MachineState) (x : Bool) (next number : ℕ) (room : Bool)
    → length s.cpu.file ≡ 26 → swi_of number ≡ Some (flex_name f) → shows_room f ≡ true
    → answer_of_turn (flex_turn f s.cpu) (stores_of s) ≡ Ok room
    → register_of (outcome_of_call images s x next number).now.cpu 0 ≡ room_word_of room
