-- What holds of the frames of module code that is under way (this project's own).
use Rattle.std.specs.Prelude.{◌≡◌, ℕ, false, is_some, Option, Some, None, List, ◌∷◌, ◌++◌, if◌then◌else◌}
use Rattle.std.specs.List.{All}
use Rattle.swi_dispatch_plans.specs.PlanAction.{PlanAction}
use Rattle.swi_dispatch_plans.specs.PlanAction.TheVariants as act
use Rattle.swi_dispatch_plans.specs.CodeKind.{CodeKind}
use Rattle.swi_dispatch_plans.specs.CodeKind.TheVariants as kind
use Rattle.swi_dispatch_plans.specs.Plans.{Plan, first_action}
use Rattle.swi_dispatch_plans.specs.Busy.{has_swi_of, is_swi}
use Rattle.swi_dispatch_plans.specs.Frame.{Frame}
use Rattle.swi_dispatch_plans.specs.FrameKind.{FrameKind}
use Rattle.swi_dispatch_plans.specs.FrameKind.TheVariants.{Swi, Entry}
use Rattle.swi_dispatch_plans.specs.Naming.{slots_of_kept}
pub use Rattle.swi_dispatch_plans.specs.Beginning.{AreHeld, entries}
use Rattle.swi_dispatch_guest.specs.MachineState.{Tables}

-- Below an entry of a module no SWI is under way of its instance, nor of one in these slots.
abbrev pub AreSpared : List ℕ → List Frame → Type 0
AreSpared slots frames =
    (below above : List Frame) (entry : Frame) → frames ≡ below ++ entry ∷ above → is_swi entry.kind ≡ false
    → has_swi_of (entry.slot ∷ slots) below ≡ false

-- One initialisation or finalisation is under way while the plan of a call is kept, and else none.
-- Each frame is of an instance that is there. No SWI that waits for an initialisation or a
-- finalisation is of its instance, nor of one that the plan names.
abbrev pub entry_called : Option PlanAction → Option (CodeKind × ℕ)
entry_called (Some (act.Finalise slot fatal)) = Some (kind.Finalise, slot)
entry_called (Some (act.Initialise slot)) = Some (kind.Initialise, slot)
entry_called _ = None

abbrev pub entry_kept : Option Plan → Option (CodeKind × ℕ)
entry_kept None = None
entry_kept (Some p) = entry_called (first_action p.actions)

abbrev pub IsFrameOfCode : Option (CodeKind × ℕ) → FrameKind → ℕ → Type 0
IsFrameOfCode entry (Swi number) slot = Unit {0}
IsFrameOfCode entry (Entry kind) slot = entry ≡ Some (kind, slot)

abbrev pub AreCalled : Option Plan → List Frame → Type 0
AreCalled plan frames = All (λ (f : Frame). IsFrameOfCode (entry_kept plan) f.kind f.slot) frames

pub record AreFrames (t : Tables) : Type 0 where
  pub kept : entries t.frames ≡ (if is_some t.plan then 1 else 0)
  pub called : AreCalled t.plan t.frames
  pub held : AreHeld t.modules t.frames
  pub spared : AreSpared (slots_of_kept t.plan) t.frames
