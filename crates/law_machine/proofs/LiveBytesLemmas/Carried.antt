-- What a call on modules that is carried on leaves of the module area's blocks, and a step in which
-- module code comes back, where nothing slides.
use Rattle.std.proofs.Common.{ℕ, ◌≡◌, Bool, true, false, List, [], ◌∷◌, Option, Some, None, Result, Ok, Err}
use Rattle.std.proofs.lemmas.Bool.{true≢false}
use Rattle.profile.specs.ErrorNumber.{ErrorNumber}
use Rattle.instances.specs.Reading.{start_found}
use Rattle.instances.specs.declared.answers.Start.{Start}
use Rattle.instances.specs.module_state.ModuleState.{ModuleState}
use Rattle.instances_table.specs.plans.Carrying.{Carried}
use Rattle.instances_table.specs.plans.Plans.{Plan, plan_after_code}
use Rattle.instances_table.specs.declared.plans.action.PlanAction.{PlanAction}
use Rattle.instances_table.specs.declared.plans.action.PlanAction.TheVariants as act
use Rattle.instances_table.specs.declared.plans.code.Code.{Code}
use Rattle.instances_table.specs.declared.plans.given.Given.{Given}
use Rattle.swi_dispatch_guest.specs.Call.{Call}
use Rattle.swi_dispatch_guest.specs.Trials.{module_state_carried}
use Rattle.swi_dispatch_guest.specs.Gates.{call_ended_by, carried_on, come_back, ended_of, entered_if, entered_with, state_after_plan, outcome_of_gate, state_with_code_entered, outcome_left}
use Rattle.swi_dispatch_guest.specs.MachineState.{MachineState, machine_area_store, machine_module_state}
use Rattle.swi_dispatch_guest.specs.ModuleStart.{opened_at}
use Rattle.swi_dispatch_guest.specs.Returns.{gone_back}
use Rattle.law_machine.proofs.HeapFrameLemmas.BlockPlans.{plans_keep_blocks, text_same}
use Rattle.law_machine.proofs.HeapFrameLemmas.Blocks.{AreSame, same_all, same_were, were_both}
use Rattle.law_machine.proofs.HeapFrameLemmas.Plans.{plans_fit}
use Rattle.law_machine.specs.heap_frame.BlockLaws.{HaveNoSlide, WereLive}
use Rattle.law_machine.specs.heap_frame.FitAreaStores.{IsFitAreaStore}
use Rattle.law_machine.specs.heap_frame.PlanLaws.{IsFitModuleState, ModuleStateStaysFit}
use Rattle.law_machine.proofs.HeapAloneLemmas.ModuleHosts.{HasModules, fit_module_state}
use Rattle.law_machine.proofs.HeapAloneLemmas.ModulePlans.{IsFitPlan}
use Rattle.law_machine.proofs.LiveBytesLemmas.Gates.{Goes, gate_has}
use Rattle.law_machine.specs.live_bytes.Changes.{has_slide, slides_on}

pub opened_same : (s : MachineState) (text : List ℕ) (slot : ℕ) (o : Option ℕ) → IsFitAreaStore (machine_area_store s)
    → AreSame s.store (opened_at s text slot o).store
opened_same s text slot None fit = same_all s.store
opened_same s text slot (Some at) fit = text_same (machine_area_store s) text fit

entered_same : (s : MachineState) (text : List ℕ) (r : Result Start ErrorNumber) → IsFitAreaStore (machine_area_store s) → AreSame s.store (entered_with s text r).store
entered_same s text (Ok start) fit = opened_same s text start.slot start.at fit
entered_same s text (Err e) fit = same_all s.store

if_same : (s : MachineState) (enters : Bool) (g : Given) → IsFitAreaStore (machine_area_store s) → AreSame s.store (entered_if enters s g).store
if_same s true g fit = entered_same s g.text.items (start_found s.tables.modules g.header.title.items) fit
if_same s false g fit = same_all s.store

ended_same : (s : MachineState) (call : Call) (g : Given) (first : Option ℕ) → IsFitAreaStore (machine_area_store s)
    → AreSame s.store (call_ended_by s call g first).store
ended_same s call g (Some r0) fit = same_all s.store
ended_same s call g None fit = if_same (gone_back call.caller s false call.next) call.enters g fit

-- a call that is carried on
abbrev gone : MachineState → Call → Carried ModuleState → MachineState
gone s call c = state_after_plan (state_with_code_entered s call c) call (ended_of c)

gone_same : (s : MachineState) (call : Call) (w : ModuleState) (q : Plan) (o : Option Code) → IsFitAreaStore w.area_store
    → AreSame w.area_store.store (gone s call (record { module_state = w; rest = q; code = o })).store
gone_same s call w q (Some code) fit = same_all w.area_store.store
gone_same s call w q None fit = ended_same (state_with_code_entered s call (record { module_state = w; rest = q; code = None })) call q.given q.first fit

pub carried_were : (s : MachineState) (call : Call) (p : Plan) → IsFitModuleState (machine_module_state s) → IsFitPlan p → HaveNoSlide p.actions
    → WereLive s.store (carried_on s call p).store
carried_were s call p fit plan none =
    let c : Carried ModuleState = module_state_carried (machine_module_state s) p in
    let stays : ModuleStateStaysFit (machine_module_state s) c.module_state = plans_fit (machine_module_state s) p fit plan.below plan.text in
    were_both s.store c.module_state.area_store.store (carried_on s call p).store
    (plans_keep_blocks (machine_module_state s) p fit plan.below plan.text none)
    (same_were c.module_state.area_store.store (carried_on s call p).store (gone_same s call c.module_state c.rest c.code stays.area_store.fit))

-- a plan that has no slide
no_slide : (actions : List PlanAction) → has_slide actions ≡ false → HaveNoSlide actions
no_slide [] none = tt
no_slide (act.Slide ∷ actions) none = absurd (true≢false none)
no_slide (act.Finalise slot fatal ∷ actions) none = no_slide actions none
no_slide (act.Initialise slot ∷ actions) none = no_slide actions none
no_slide (act.Remove slot ∷ actions) none = no_slide actions none
no_slide (act.FreePrivate slot ∷ actions) none = no_slide actions none
no_slide (act.Insert slot ∷ actions) none = no_slide actions none
no_slide (act.Instantiate slot ∷ actions) none = no_slide actions none
no_slide (act.GiveUp ∷ actions) none = no_slide actions none

-- a step in which module code comes back
goes_on : (s : MachineState) (has : HasModules s) (same : WereLive s.store s.store) (o : Option Plan) → slides_on s.cpu o ≡ false
    → Goes s has (WereLive s.store) same o
goes_on s has same None calm = tt
goes_on s has same (Some p) calm = λ f plan.
    carried_were (come_back s f) f.call (plan_after_code p (outcome_left s.cpu)) (fit_module_state s has) plan (no_slide (plan_after_code p (outcome_left s.cpu)).actions calm)

pub gate_were : (s : MachineState) → HasModules s → slides_on s.cpu s.tables.plan ≡ false → WereLive s.store (outcome_of_gate s).now.store
gate_were s has calm =
    let same : WereLive s.store s.store = same_were s.store s.store (same_all s.store) in
    gate_has s has (WereLive s.store) same (goes_on s has same s.tables.plan calm)
