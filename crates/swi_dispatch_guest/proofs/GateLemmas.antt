-- Calls on modules that are carried on: what they keep, and that the steps of the code are those of
-- the definitions.
use Rattle.std.proofs.Common.{◌≡◌, ℕ, true, false, Some, None, Ok, Err, List, [], ◌∷◌, refl, sym, ap, subst, ◌∙◌}
use Rattle.std.specs.Prelude.{Option, Result}
use Rattle.swi_dispatch_plans.specs.Ground.{IsAreaStore, IsRecorded, system_pages_range}
use Rattle.swi_dispatch_plans.specs.Image.{Image}
use Rattle.swi_dispatch_plans.specs.InstancesTableModules.{Module, slots_of}
use Rattle.os_heap.specs.AddressMap.{AddressMap}
use Rattle.swi_dispatch_plans.specs.Areas.{AreaTable}
use Rattle.swi_dispatch_plans.proofs.Keeping.{keeps_then}
use Rattle.os_heap.specs.Store.{AreClasses, store_of}
use Rattle.profile.specs.Outcome.{Gives}
use Rattle.profile.specs.ErrorNumber.{ErrorNumber}
use Rattle.swi_dispatch_plans.specs.PlanAction.{PlanAction}
use Rattle.swi_dispatch_plans.specs.Code.{Code}
use Rattle.swi_dispatch_plans.specs.Outcome.{Outcome as CodeOutcome}
use Rattle.swi_dispatch_plans.specs.Outcome.TheVariants.{Well}
use Rattle.swi_dispatch_plans.specs.Carrying.{Carried, Doing, carry_of_plan, carried_by, carried_from}
use Rattle.swi_dispatch_plans.specs.Plans.{Plan, plan_after_code}
use Rattle.swi_dispatch_plans.specs.Sound.{IsModuleState}
use Rattle.swi_dispatch_plans.specs.ModuleState.{ModuleState, module_state_of}
use Rattle.swi_dispatch_plans.specs.Turns.{IsUnderWay, MayGoOn, module_doing}
use Rattle.swi_dispatch_plans.specs.Pending.{pending_of}
use Rattle.arm_run.specs.State.{State}
use Rattle.swi_dispatch_plans.specs.Call.{Call}
use Rattle.swi_dispatch_plans.specs.Frame.{Frame}
use Rattle.profile.specs.Fault.TheVariants.{ErrorStop}
use Rattle.swi_dispatch_guest.specs.declared.halt.Halt.TheVariants as halt
use Rattle.swi_dispatch_guest.specs.Gates.{Resumes, carried_on, come_back, ended_of, fault_kept, state_after_plan, kept_by, state_with_code_entered, outcome_left, plan_left, with_code}
use Rattle.swi_dispatch_plans.specs.Trials.{module_state_carried}
use Rattle.swi_dispatch_guest.specs.MachineState.{MachineState, StepOutcome, machine_module_state, silent, with_module_state}
use Rattle.swi_dispatch_guest.specs.Additions.{Starts, planned_of}
use Rattle.swi_dispatch_guest.specs.Carried.{CodeUnderWay, IsCarriedNext}
use Rattle.swi_dispatch_guest.specs.OpenFrames.{AreFrames}
use Rattle.swi_dispatch_guest.specs.GuestState.{IsWellFormed, GuestState, parts_module_state}
use Rattle.swi_dispatch_guest.specs.Returns.{outcome_of_halt}
use Rattle.swi_dispatch_guest.specs.Step.{begun_alone, call_of, outcome_of_planned}
use Rattle.swi_dispatch_plans.specs.flex.Ground.{HasFlex}
use Rattle.swi_dispatch_plans.specs.Keeping.{KeepsFlex}
use Rattle.swi_dispatch_guest.proofs.CarriedFrames.{AreBeneath, opened_frames}
use Rattle.swi_dispatch_guest.proofs.Kept.{flex_by}
use Rattle.swi_dispatch_guest.proofs.OpenFrames.{frames_kept}

-- where code is entered, it runs
runs_by : (d : Doing ModuleState) (w : ModuleState) (p : Plan) (a : PlanAction) (others : List PlanAction) (o : Option Code) (code : Code)
    (on : ModuleState → Plan → Carried ModuleState)
    → ((v : ModuleState) (q : Plan) → (on v q).code ≡ Some code → (on v q).rest.runs ≡ true)
    → (carried_by d w p a others o on).code ≡ Some code → (carried_by d w p a others o on).rest.runs ≡ true
runs_by d w p a others (Some c) code on later is = refl
runs_by d w p a others None code on later is = later _ _ is

runs_from : (d : Doing ModuleState) (actions : List PlanAction) (w : ModuleState) (p : Plan) (code : Code)
    → (carried_from d actions w p).code ≡ Some code
    → (carried_from d actions w p).rest.runs ≡ true
runs_from d [] w p code is = cc
runs_from d (a ∷ others) w p code is =
    runs_by d w p a others (d.code_of w a) code (carried_from d others) (λ v q e. runs_from d others v q code e) is

code_runs : (w : ModuleState) (p : Plan) (c : Carried ModuleState) (code : Code) → carry_of_plan module_doing w p ≡ c
    → c.code ≡ Some code → c.rest.runs ≡ true
unfolding carry_of_plan
code_runs w p c code is has =
    sym (ap (λ (x : Carried ModuleState). x.rest.runs) is) ∙ runs_from module_doing p.actions w p code
    (ap (λ (x : Carried ModuleState). x.code) is ∙ has)

-- what is kept of the plan may go on
pub may_go_on : (w v : ModuleState) (p q : Plan) (code : Option Code)
    → carry_of_plan module_doing w p ≡ record { module_state = v; rest = q; code = code }
    → (code ≡ None → IsModuleState v []) → IsUnderWay v q → MayGoOn v (kept_by q code)
may_go_on w v p q None is ended going = ended refl
may_go_on w v p q (Some code) is ended going = (
  code_runs w p (record { module_state = v; rest = q; code = Some code }) code is refl,
  going,
)

-- the parts of a machine after a call was carried on
pub well_carried : (new : GuestState) (pending : List Image) → IsModuleState (parts_module_state new) pending
    → MayGoOn (parts_module_state new) new.tables.plan → AreClasses new.map
    → AreFrames new.tables → HasFlex new.map new.tables.flex → new.tables.area_table.sizes ≡ new.sizes → IsWellFormed new
well_carried new pending module_state modules classes frames flex sized = record {
  areas = module_state.area_store;
  classes = classes;
  system = module_state.system;
  modules = modules;
  frames = frames;
  flex = flex;
  sized = sized;
}

-- a plan whose code isn't under way
pub rests_settled : (p : Plan) (o : CodeOutcome) → p.runs ≡ false → plan_after_code p o ≡ p
unfolding plan_after_code
rests_settled p o rests = rw rests refl

pub first_carried : (w : ModuleState) (p : Plan) → p.runs ≡ false → carry_of_plan module_doing w (plan_after_code p Well) ≡ module_state_carried w p
first_carried w p rests = ap (carry_of_plan module_doing w) (rests_settled p Well rests)

-- the entry of a call comes back
pub entry_goes_on : (s t : MachineState) (f : Frame) (kept ended : Option Plan)
    → fault_kept f.call (machine_module_state s) (outcome_left s.cpu) kept ≡ None
    → Resumes s f (outcome_left s.cpu) kept ended t → silent (state_after_plan t f.call ended) ≡ plan_left s f kept
entry_goes_on s t f None ended well resumes = absurd resumes
entry_goes_on s t f (Some p) ended well resumes = rw well (λ i. silent (state_after_plan (resumes.0 i) f.call (resumes.1 i)))

pub none_else : {A : Type 0} (o : Option A) → ((x : A) → o ≡ Some x → ⊥) → o ≡ None
none_else None never = refl
none_else (Some x) never = absurd (never x refl)

pub entry_went_on : (s t : MachineState) (f : Frame) (kept ended : Option Plan) (o : CodeOutcome)
    (fault : Option ℕ) (end : StepOutcome)
    → fault ≡ fault_kept f.call (machine_module_state s) o kept → fault ≡ None → o ≡ outcome_left s.cpu
    → Resumes s f o kept ended t
    → end ≡ silent (state_after_plan t f.call ended) → end ≡ plan_left s f kept
entry_went_on s t f kept ended o fault end is none left resumes after =
    let none : fault_kept f.call (machine_module_state s) (outcome_left s.cpu) kept ≡ None =
    ap (λ (x : CodeOutcome). fault_kept f.call (machine_module_state s) x kept) (sym left) ∙ sym is ∙ none in
    after ∙ entry_goes_on s t f kept ended none (subst (λ (x : CodeOutcome). Resumes s f x kept ended t) left resumes)

pub entry_stops : (s : MachineState) (f : Frame) (kept : Option Plan) (number : ℕ)
    → fault_kept f.call (machine_module_state s) (outcome_left s.cpu) kept ≡ Some number
    → outcome_of_halt s (halt.Fault (ErrorStop number)) ≡ plan_left s f kept
entry_stops s f None number is = cc
entry_stops s f (Some p) number is = rw is refl

-- a guest that carries a call on: its invariant, its state, and the plan if that has ended
pub carried_well : (old new : GuestState) (m : AddressMap) (ms : List Module) (cpu : State) (fs : List Frame) (call : Call) (p : Plan)
    (o : CodeOutcome) (plans : Option Plan × Option Plan)
    → IsCarriedNext m new.map new.tables.area_table ms new.tables.modules (record { cpu = cpu; frames = fs })
    (record { cpu = new.cpu; frames = new.tables.frames }) call p o plans
    → new.tables.plan ≡ plans.0 → AreBeneath ms p fs → IsWellFormed old → KeepsFlex (store_of old.map) (store_of m)
    → new.tables.flex ≡ old.tables.flex → new.tables.area_table.sizes ≡ new.sizes → IsWellFormed new
carried_well old new m ms cpu fs call p o plans next plan beneath well keeps flex sized =
    well_carried new (pending_of next.rest) next.going.module_state
    (subst (MayGoOn (parts_module_state new)) (sym (plan ∙ ap (λ (r : Option Plan × Option Plan). r.0) next.plans))
    (may_go_on _ (parts_module_state new) _ next.rest next.code next.carried next.ended next.going))
    next.classes
    (opened_frames ms new.tables.modules p next.rest next.code cpu call fs new.tables plans next.plans plan refl next.opens beneath
    next.others next.next)
    (flex_by old new well next.going.module_state.area_store (keeps_then _ _ _ keeps next.flex) flex) sized

pub state_opened : (s : MachineState) (m n : AddressMap) (area_table : AreaTable) (old new : List Module) (after : CodeUnderWay) (call : Call) (p : Plan)
    (o : CodeOutcome) (plans : Option Plan × Option Plan) (c : Carried ModuleState)
    → IsCarriedNext m n area_table old new (record { cpu = s.cpu; frames = s.tables.frames }) after call p o plans
    → carry_of_plan module_doing (module_state_of m area_table old) (plan_after_code p o) ≡ c
    → with_code (with_module_state s (module_state_of n area_table new)) after.cpu after.frames plans.0 ≡ state_with_code_entered s call c
state_opened s m n area_table old new after call p o plans c next is =
    (λ i. with_code (with_module_state s (module_state_of n area_table new)) (next.core i) (next.opens i) ((next.plans i).0))
    ∙ ap (state_with_code_entered s call) (sym next.carried ∙ is)

pub ended_carried : (m n : AddressMap) (area_table : AreaTable) (old new : List Module) (before after : CodeUnderWay) (call : Call) (p : Plan)
    (o : CodeOutcome) (plans : Option Plan × Option Plan) (c : Carried ModuleState) → IsCarriedNext m n area_table old new before after call p o plans
    → carry_of_plan module_doing (module_state_of m area_table old) (plan_after_code p o) ≡ c → plans.1 ≡ ended_of c
ended_carried m n area_table old new before after call p o plans c next is =
    ap (λ (r : Option Plan × Option Plan). r.1) next.plans ∙ ap ended_of (sym next.carried ∙ is)

-- a call that begins with its plan made
pub begun_by : (s mid new : MachineState) (call : Call) (p : Plan) (ended : Option Plan) → call ≡ call_of s call.is_x call.next false
    → mid ≡ state_with_code_entered s call (module_state_carried (machine_module_state s) p)
    → ended ≡ ended_of (module_state_carried (machine_module_state s) p) → new ≡ state_after_plan mid call ended
    → silent new ≡ begun_alone s call.is_x call.next (Ok p)
unfolding outcome_of_planned
begun_by s mid new call p ended made opened last after =
    ap silent (after ∙ (λ i. state_after_plan (opened i) call (last i))) ∙ ap (λ (d : Call). silent (carried_on s d p)) made

pub resumes_by : (s t : MachineState) (f : Frame) (o : CodeOutcome) (kept ended : Option Plan) (p : Plan)
    → kept ≡ Some p → (let c = module_state_carried (machine_module_state s) (plan_after_code p o) in
    (t ≡ state_with_code_entered (come_back s f) f.call c) × (ended ≡ ended_of c)) → Resumes s f o kept ended t
resumes_by s t f o kept ended p is resumes = rw is resumes

-- a call that does something at once
pub refused_module_state : {W P E : Type 0} (w v : W) (r : Result (W × P) E) (e : E) → Gives w r (Err e) v → v ≡ w
refused_module_state w v (Ok r) e gives = absurd gives
refused_module_state w v (Err f) e gives = gives.1

pub refused_well : (old new : GuestState) → IsWellFormed old → parts_module_state new ≡ parts_module_state old
    → new.tables.plan ≡ old.tables.plan
    → new.tables.frames ≡ old.tables.frames → AreClasses new.map → KeepsFlex (store_of old.map) (store_of new.map)
    → new.tables.flex ≡ old.tables.flex → new.sizes ≡ old.sizes → IsWellFormed new
refused_well old new well module_state plan frames classes keeps flex sizes = record {
  areas = subst (λ (w : ModuleState). IsAreaStore w.area_store) (sym module_state) well.areas;
  classes = classes;
  system = subst (λ (w : ModuleState). IsRecorded system_pages_range w.area_store.store.others) (sym module_state) well.system;
  modules = rw plan (subst (λ (w : ModuleState). MayGoOn w old.tables.plan) (sym module_state) well.modules);
  frames = frames_kept old.tables new.tables well.frames frames plan (ap (λ (w : ModuleState). slots_of w.modules) module_state);
  flex = flex_by old new well (subst (λ (w : ModuleState). IsAreaStore w.area_store) (sym module_state) well.areas) keeps flex;
  sized = subst (λ (w : ModuleState). w.area_store.area_table.sizes ≡ new.sizes) (sym module_state) (well.sized ∙ sym sizes);
}

pub starts_by : (s t : MachineState) (call : Call) (old w : ModuleState) (r : Result (ModuleState × Plan) ErrorNumber) (p : Plan)
    (ended : Option Plan) → Gives old r (Ok p) w
    → t ≡ state_with_code_entered s call (module_state_carried w p) → ended ≡ ended_of (module_state_carried w p)
    → Starts s call (planned_of r) (Ok ended) t
starts_by s t call old w (Err f) p ended gives state ends = absurd gives
starts_by s t call old w (Ok r) p ended gives state ends = (
  state ∙ ap (λ (v : ModuleState). state_with_code_entered s call (module_state_carried v p)) gives.0
      ∙ ap (λ (q : Plan). state_with_code_entered s call (module_state_carried r.0 q)) gives.1,
  ends ∙ ap (λ (v : ModuleState). ended_of (module_state_carried v p)) gives.0
      ∙ ap (λ (q : Plan). ended_of (module_state_carried r.0 q)) gives.1,
)
