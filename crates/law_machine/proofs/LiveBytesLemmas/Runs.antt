-- Lists of moves, and runs.
use Rattle.std.proofs.Common.{ℕ, zero, suc, ◌∙◌, List, [], ◌∷◌, Option, Some, None, refl, inl, inr}
use Rattle.std.proofs.lemmas.Bool.{cases_Bool}
use Rattle.profile.specs.images.Entries.{Entry}
use Rattle.swi_dispatch_guest.specs.declared.halt.Halt.{Halt}
use Rattle.swi_dispatch_guest.specs.MachineState.{MachineState}
use Rattle.swi_dispatch_guest.specs.Run.{Run, go_on, is_among, ran, run_unless_halted}
use Rattle.swi_dispatch_guest.specs.Step.{machine_step}
use Rattle.swi_dispatch_guest.specs.Moves.{Step, machine_after_event}
use Rattle.law_machine.proofs.LiveBytesLemmas.Moves.{live_bytes_stay}
use Rattle.law_machine.specs.live_bytes.Runs.{IsStepped, LiveBytesStayOver, RunsAreSteps}

pub stay_over : LiveBytesStayOver
stay_over images s [] start a state held = inl refl
stay_over images s (m ∷ ms) start a state held = elim (live_bytes_stay images s m start a state held.0.0 held.0.1) [
  | inr may ↦ inr (inl may)
  | inl same ↦ elim (stay_over images (machine_after_event images s m) ms start a held.0.0 held.1) [
    | inl rest ↦ inl (rest ∙ same)
    | inr later ↦ inr (inr later)
  ]
]

unless_halted : (images : List Entry) (s : MachineState) (o : Option Halt) (r : Run) → IsStepped images s r.now
    → IsStepped images s (run_unless_halted s o r).now
unless_halted images s (Some h) r stepped = record { count = 0; is = refl }
unless_halted images s None r stepped = stepped

goes_on : (images : List Entry) (breaks : List ℕ) (s : MachineState) (o : Option Halt) (rest : MachineState → Run)
    → IsStepped images (machine_after_event images s Step) (rest (machine_after_event images s Step)).now → IsStepped images s (go_on breaks (machine_step images s) o rest).now
goes_on images breaks s (Some h) rest stepped = record { count = 1; is = refl }
goes_on images breaks s None rest stepped = elim (cases_Bool (is_among breaks (machine_step images s).now.cpu.pc)) [
  | inl there ↦ rw there (record { count = 1; is = refl })
  | inr on ↦ rw on (record { count = suc stepped.count; is = stepped.is })
]

pub runs_are_steps : RunsAreSteps
unfolding ran
runs_are_steps images breaks zero s = unless_halted images s s.halt _ (record { count = 0; is = refl })
runs_are_steps images breaks (suc n) s =
    unless_halted images s s.halt _
    (goes_on images breaks s (machine_step images s).now.halt (ran images breaks n) (runs_are_steps images breaks n (machine_after_event images s Step)))
