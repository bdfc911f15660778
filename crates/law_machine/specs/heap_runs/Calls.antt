-- Lists of store calls from outside alone: each leaves a heap to itself that doesn't give a flex
-- block an anchor there. That it leaves the heap whole is another matter: a call may forget the
-- heap, or make one in it.
use Rattle.std.specs.Prelude.{ℕ, ◌≡◌, ◌&&◌, not, Bool, true, false, Option, Some, List, [], ◌∷◌}
use Rattle.profile.specs.declared.swi.SwiName.{SwiName}
use Rattle.profile.specs.declared.swi.SwiName.TheVariants as swi
use Rattle.profile.specs.images.Entries.{Entry}
use Rattle.swi_dispatch_guest.specs.MachineState.{MachineState}
use Rattle.swi_dispatch_guest.specs.Moves.{Call, Move, Step, outside_name}
use Rattle.law_machine.specs.heap_runs.Making.{AreAside}

abbrev pub is_anchored : Option SwiName → Bool
is_anchored (Some swi.FlexAlloc) = true
is_anchored other = false

abbrev pub are_plain_calls : List Move → Bool
are_plain_calls [] = true
are_plain_calls (Step ∷ ms) = false
are_plain_calls (Call number words ∷ ms) = not (is_anchored (outside_name number)) && are_plain_calls ms

abbrev pub CallsStandAside : Type 0
CallsStandAside =
    (images : List Entry) (start : ℕ) (s : MachineState) (moves : List Move) → are_plain_calls moves ≡ true →
    AreAside images start s moves
