-- When a call on modules may begin (this project's own).
use Rattle.std.specs.Prelude.{◌≡◌, ◌<◌, ◌+◌, length, ℕ, true, false, IfOk, None, Result, List, [], ◌∷◌, if◌then◌else◌}
use Rattle.std.specs.List.{All}
use Rattle.instances.specs.module_state.Sound.{IsModuleState}
use Rattle.instances.specs.Ground.{IsAreaStore}
use Rattle.swi_dispatch_answers.specs.Doable.{is_used}
use Rattle.swi_dispatch_answers.specs.Plans.{Plan}
use Rattle.instances.specs.Changes.{modules_of_title}
use Rattle.instances.specs.Modules.{Module, slots_of}
use Rattle.profile.specs.declared.images.module_header.fault.HeaderFault.{HeaderFault}
use Rattle.profile.specs.declared.images.module_header.header.Header.{Header}
use Rattle.swi_dispatch_answers.specs.frames.Busy.{has_swi_of, is_swi}
use Rattle.swi_dispatch_answers.specs.declared.frames.frame.Frame.{Frame}
use Rattle.instances.specs.Naming.{slots_of_plan}
use Rattle.instances.specs.Turns.{IsUnderWay, MayGoOn}
use Rattle.swi_dispatch_plans.specs.PlannerInput.{PlannerInput}

-- how many of the frames are entries of modules, and not SWIs
abbrev pub entries : List Frame → ℕ
entries [] = 0
entries (f ∷ fs) = if is_swi f.kind then entries fs else 1 + entries fs

-- Each frame is of an instance that is there.
abbrev pub AreHeld : List Module → List Frame → Type 0
AreHeld modules frames = All (λ (f : Frame). is_used f.slot (slots_of modules) ≡ true) frames

-- What holds of every setting: the areas stand on the memory; the plan that is kept while module
-- code runs finds all that it asks for; no entry of a module is under way while none is kept; and
-- each frame is of an instance that is there.
pub record IsPlannerInput (s : PlannerInput) : Type 0 where
  pub area_store : IsAreaStore s.module_state.area_store
  pub modules : MayGoOn s.module_state s.plan
  pub idle : s.plan ≡ None → entries s.frames ≡ 0
  pub held : AreHeld s.module_state.modules s.frames

-- No call on modules is under way, and no entry of a module, and a frame more can be opened.
pub record IsFree (s : PlannerInput) : Type 0 where
  pub none : s.plan ≡ None
  pub room : length s.frames < 32
  pub idle : entries s.frames ≡ 0
  pub held : AreHeld s.module_state.modules s.frames
  pub module_state : IsModuleState s.module_state []

-- A call on modules may begin: its plan is ready, and no SWI is under way of an instance that it
-- names.
pub record CanBegin (s : PlannerInput) (p : Plan) : Type 0 where
  pub going : IsUnderWay s.module_state p
  pub rests : p.runs ≡ false
  pub free : IsFree s
  pub spared : has_swi_of (slots_of_plan p) s.frames ≡ false

-- No SWI is under way of an instance of the module that one of a title, or one with a header, takes
-- the place of.
abbrev pub SparesTitled : PlannerInput → List ℕ → Type 0
SparesTitled s title = has_swi_of (slots_of (modules_of_title title s.module_state.modules)) s.frames ≡ false

abbrev pub SparesTitle : PlannerInput → Result Header HeaderFault → Type 0
SparesTitle s h = IfOk h (λ header. SparesTitled s header.title.items)
