-- The frames beneath a call on modules, while the call goes on: no SWI among them is of an instance
-- that its plan names.
use Rattle.std.proofs.Common.{◌≡◌, false, Option, Some, None, Ok, Err, List, ◌∷◌, refl, sym, ap, ◌∙◌}
use Rattle.std.specs.Prelude.{IfSome, Result, is_some, if◌then◌else◌}
use Rattle.arm_run.specs.State.{State}
use Rattle.profile.specs.declared.images.module_header.fault.HeaderFault.{HeaderFault}
use Rattle.profile.specs.declared.images.module_header.header.Header.{Header}
use Rattle.swi_dispatch_plans.specs.Code.{Code}
use Rattle.swi_dispatch_plans.specs.Plans.{Plan, first_action}
use Rattle.swi_dispatch_plans.specs.Changes.{modules_of_title}
use Rattle.swi_dispatch_plans.specs.InstancesTableModules.{Module, slots_of}
use Rattle.swi_dispatch_plans.specs.Naming.{KeepsOtherInstances, NamesTitled, slots_of_kept, slots_of_plan}
use Rattle.swi_dispatch_plans.specs.Call.{Call}
use Rattle.swi_dispatch_plans.specs.Frame.{Frame}
use Rattle.swi_dispatch_plans.specs.FrameKind.TheVariants.{Entry}
use Rattle.swi_dispatch_plans.specs.Busy.{has_swi_of, is_swi}
use Rattle.swi_dispatch_plans.specs.Frames.{frames_after_close, frame_of, innermost_frame}
use Rattle.swi_dispatch_guest.specs.Gates.{plan_unless_code, frames_by, kept_by}
use Rattle.swi_dispatch_guest.specs.MachineState.{MachineState, Tables, setting_of}
use Rattle.swi_dispatch_guest.specs.OpenFrames.{AreFrames, AreHeld, entries, entry_called}
use Rattle.swi_dispatch_plans.specs.Beginning.{CanBegin, IsFree, SparesTitle}
use Rattle.swi_dispatch_plans.proofs.Sparing.{none_of}
use Rattle.swi_dispatch_guest.proofs.OpenFrames.{closed_held, entry_closes, entry_opened, entry_spares, frames_idle, held_still}

pub record AreBeneath (ms : List Module) (p : Plan) (fs : List Frame) : Type 0 where
  pub idle : entries fs ≡ 0
  pub held : AreHeld ms fs
  pub spared : has_swi_of (slots_of_plan p) fs ≡ false

-- a call that begins
pub begun_beneath : (s : MachineState) (p : Plan) → CanBegin (setting_of s) p
    → AreBeneath s.tables.modules p s.tables.frames
begun_beneath s p begins = record { idle = begins.free.idle; held = begins.free.held; spared = begins.spared }

-- one that adds a module, in place of an older one of its title
title_spared : (s : MachineState) (p : Plan) (h : Result Header HeaderFault) → IsFree (setting_of s)
    → SparesTitle (setting_of s) h → NamesTitled s.tables.modules p h
    → has_swi_of (slots_of_plan p) s.tables.frames ≡ false
title_spared s p (Ok header) free spares names =
    none_of (slots_of s.tables.modules) (slots_of (modules_of_title header.title.items s.tables.modules)) (slots_of_plan p)
    s.tables.frames free.held names spares
title_spared s p (Err fault) free spares names = absurd names

pub titled_beneath : (s : MachineState) (p : Plan) (h : Result Header HeaderFault) → IsFree (setting_of s)
    → SparesTitle (setting_of s) h → NamesTitled s.tables.modules p h
    → AreBeneath s.tables.modules p s.tables.frames
titled_beneath s p h free spares names = record {
  idle = free.idle;
  held = free.held;
  spared = title_spared s p h free spares names;
}

-- and one whose entry comes back
pub left_beneath : (t : Tables) (f : Frame) (p : Plan) → AreFrames t → t.plan ≡ Some p → innermost_frame t.frames ≡ Some f
    → is_swi f.kind ≡ false
    → AreBeneath t.modules p (frames_after_close t.frames)
left_beneath t f p are kept last entry =
    let held = closed_held t.modules t.frames are.held in
    let one : entries t.frames ≡ 1 = are.kept ∙ ap (λ (o : Option Plan). if is_some o then 1 else 0) kept in
    record {
      idle = entry_closes t.frames f one last entry;
      held = held;
      spared = ap (λ (o : Option Plan). has_swi_of (slots_of_kept o) (frames_after_close t.frames)) (sym kept)
          ∙ entry_spares (slots_of t.modules) (slots_of_kept t.plan) t.frames f held are.spared last entry;
    }

-- the frames after the call was carried on: no other instance went, and that whose code is entered
-- is there
still_held : (old new : List Module) (p q : Plan) (code : Option Code) (fs : List Frame) → AreBeneath old p fs
    → KeepsOtherInstances old new p q code → AreHeld new fs
still_held old new p q code fs beneath others =
    held_still (slots_of old) (slots_of new) (slots_of_plan p) fs beneath.idle beneath.spared others.held beneath.held

pub opened_frames : (old new : List Module) (p q : Plan) (code : Option Code) (cpu : State) (call : Call)
    (fs : List Frame) (t : Tables) (plans : Option Plan × Option Plan)
    → plans ≡ (kept_by q code, plan_unless_code q code) → t.plan ≡ plans.0 → t.modules ≡ new
    → t.frames ≡ frames_by fs cpu call code → AreBeneath old p fs → KeepsOtherInstances old new p q code
    → IfSome code (λ c. entry_called (first_action q.actions) ≡ Some (c.kind, c.slot)) → AreFrames t
opened_frames old new p q None cpu call fs t plans is plan modules frames beneath others first =
    frames_idle t (plan ∙ ap (λ (k : Option Plan × Option Plan). k.0) is) (ap entries frames ∙ beneath.idle)
    (rw (modules, frames) (still_held old new p q None fs beneath others))
opened_frames old new p q (Some code) cpu call fs t plans is plan modules frames beneath others first =
    entry_opened t fs (frame_of cpu call (Entry code.kind) code.slot) q beneath.idle first
    (rw modules (still_held old new p q (Some code) fs beneath others)) (rw modules others.there)
    (none_of (slots_of old) (slots_of_plan p) (code.slot ∷ slots_of_plan q) fs beneath.held
    (λ s used none. rw (others.apart s none) (others.named s none)) beneath.spared)
    refl (plan ∙ ap (λ (k : Option Plan × Option Plan). k.0) is) frames
