-- Flex calls show in R0 whether the store had room.
use Rattle.std.proofs.Common.{ℕ, Bool, true, false, ◌≡◌, ◌∙◌, Some, Result, Ok, Err, length, ap}
use Rattle.std.proofs.lemmas.Bool.{false≢true}
use Rattle.profile.specs.ErrorNumber.{ErrorNumber}
use Rattle.arm_core.specs.State.{register_of, with_register}
use Rattle.os_heap.specs.Store.{Store}
use Rattle.swi_dispatch_guest.specs.Ground.{flex_state}
use Rattle.flex_store.specs.Calls.{FlexState, flex_after_alloc, flex_after_extend, mid_extended}
use Rattle.swi_dispatch_guest.specs.SwiDispatchFlexCalls.{fit_shown, flex_called, memory_after_flex as memory_left, room_word_of}
use Rattle.swi_dispatch_guest.proofs.ErrorNumbers.{zero_kept, zero_set}
use Rattle.swi_dispatch_guest.specs.Answers.{went_on}
use Rattle.swi_dispatch_guest.specs.Calls.{machine_flex, on_flex}
use Rattle.swi_dispatch_guest.specs.MachineState.{MachineState}
use Rattle.swi_dispatch_guest.specs.Step.{outcome_of_answer}
use Rattle.law_machine.specs.sliding_stores.Turning.{answer_of, answer_of_turn}
use Rattle.law_machine.proofs.SlidingLemmas.Flex.{calls_as}
use Rattle.law_machine.specs.sliding.MachineStores.{stores_of}
use Rattle.law_machine.specs.sliding.Reported.{FlexCallsPrintRoom, shows_room}
use Rattle.law_machine.specs.sliding.Turns.{Allocated, Extended, FlexSwi, Freed, MadeStore, MidExtended, flex_name, flex_turn}

-- what is shown of a call that isn't refused
room_shown : (s : MachineState) (x : Bool) (next : ℕ) (store : Store) (r : Result (FlexState × Bool) ErrorNumber) (room : Bool) → length s.cpu.file ≡ 26
    → answer_of r ≡ Ok room
    → register_of (outcome_of_answer s x (went_on s next (on_flex s (fit_shown s.cpu (memory_left store r))))).now.cpu 0 ≡ room_word_of room
room_shown s x next store (Err e) room size is = absurd (let no : Err e ≡ Ok room = is in cc)
room_shown s x next store (Ok q) room size is =
    let same : q.1 ≡ room = room_same q.1 room is in
    zero_kept s.cpu.psr (with_register s.cpu 0 (room_word_of q.1)) false next ∙ (zero_set s.cpu (room_word_of q.1) size ∙ ap room_word_of same) where
      room_same : (p r : Bool) → (let one : Result Bool ErrorNumber = Ok p in one ≡ Ok r) → p ≡ r
      room_same p r e = cc

shown_by : (f : FlexSwi) (s : MachineState) (x : Bool) (next : ℕ) (room : Bool) → length s.cpu.file ≡ 26 → shows_room f ≡ true
    → answer_of_turn (flex_turn f s.cpu) (stores_of s) ≡ Ok room
    → register_of (outcome_of_answer s x (went_on s next (on_flex s (flex_called s.cpu (machine_flex s) (Some (flex_name f)))))).now.cpu 0 ≡ room_word_of room
unfolding flex_called answer_of_turn
shown_by MadeStore s x next room size shows is = absurd (false≢true shows)
shown_by Freed s x next room size shows is = absurd (false≢true shows)
shown_by Allocated s x next room size shows is =
    room_shown s x next s.store (flex_after_alloc s.store (flex_state s.store s.tables.flex) (register_of s.cpu 0) (register_of s.cpu 1)) room size is
shown_by Extended s x next room size shows is =
    room_shown s x next s.store (flex_after_extend (flex_state s.store s.tables.flex) (register_of s.cpu 0) (register_of s.cpu 1)) room size is
shown_by MidExtended s x next room size shows is =
    room_shown s x next s.store (mid_extended (flex_state s.store s.tables.flex) (register_of s.cpu 0) (register_of s.cpu 1) (register_of s.cpu 2)) room size is

pub flex_calls_print_room : FlexCallsPrintRoom
flex_calls_print_room images f s x next number room size name shows is =
    ap (λ (t : MachineState). register_of t.cpu 0) (calls_as images f s x next number name) ∙ shown_by f s x next room size shows is
