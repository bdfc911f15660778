-- OS_Module, the reasons that may run module code: what each refuses before anything is done, and
-- the plan that it makes (RISC OS 3 Programmer's Reference Manual, "OS_Module"; which calls are
-- refused while module code is under way, and the order of the refusals, are this project's own).
use Rattle.std.specs.Prelude.{ℕ, is_some, ◌==◌, ◌||◌, nat_lt, List, [], ◌∷◌, length, Result, Ok, Err, if◌then◌else◌}
use Rattle.profile.specs.Outcome.{bind}
use Rattle.profile.specs.ErrorNumber.{ErrorNumber}
use Rattle.profile.specs.ErrorNumber.TheVariants.{FrameLimit, ModuleBusy}
use Rattle.swi_dispatch_answers.specs.Plans.{Plan}
use Rattle.swi_dispatch_answers.specs.Words.{name_part, text_part}
use Rattle.swi_dispatch_answers.specs.frames.Busy.{has_swi_of}
use Rattle.instances.specs.Plans.{clearing, deletion, reinitialisation, tidying}
use Rattle.instances.specs.Reading.{slot_meant}
use Rattle.swi_dispatch_plans.specs.PlannerInput.{PlannerInput, string_asked}

-- A call that may run module code is refused while an initialisation or a finalisation is under
-- way, which is as long as a plan is kept, or a SWI of an instance that it finalises; then where no
-- frame more can be opened, whether or not the call would open one.
unfoldable pub may_finalise : List ℕ → PlannerInput → Result (Unit {0}) ErrorNumber
may_finalise slots s =
    if is_some s.plan || has_swi_of slots s.frames then Err ModuleBusy else (
    if length s.frames == 32 then Err FrameLimit else Ok tt)

-- Some calls are refused while any module code is under way, and so never for the number of frames.
unfoldable pub may_begin_alone : PlannerInput → Result (Unit {0}) ErrorNumber
may_begin_alone s = if is_some s.plan || nat_lt 0 (length s.frames) then Err ModuleBusy else Ok tt

-- reason 3, reinitialise: R1 points to a name and a text
unfoldable pub reinit_planned : PlannerInput → Result Plan ErrorNumber
reinit_planned s =
    bind (string_asked s 1) (λ words.
    bind (slot_meant s.module_state.modules (name_part words)) (λ slot.
    bind (may_finalise (slot ∷ []) s) (λ _.
    reinitialisation s.module_state.modules (name_part words) (text_part words))))

-- reason 4, delete: R1 points to a name
unfoldable pub delete_planned : PlannerInput → Result Plan ErrorNumber
delete_planned s =
    bind (string_asked s 1) (λ name.
    bind (slot_meant s.module_state.modules name) (λ slot.
    bind (may_finalise (slot ∷ []) s) (λ _.
    deletion s.module_state.modules name)))

-- reason 8, tidy, and reason 9, clear
unfoldable pub tidy_planned : PlannerInput → ℕ → Result Plan ErrorNumber
tidy_planned s next = bind (may_begin_alone s) (λ _. Ok (tidying s.module_state.modules next))

unfoldable pub clear_planned : PlannerInput → Result Plan ErrorNumber
clear_planned s = bind (may_begin_alone s) (λ _. Ok (clearing s.module_state.modules))
