-- Machines whose module area is fit: what a plan that is carried on, and texts, leave of a guest's
-- heap. They may forget one that lies in a block of the module area.
use Rattle.std.proofs.Common.{ℕ, ◌≡◌, ◌≤◌, Bool, true, false, length, List, [], ◌∷◌, Option, Some, None, Result, Ok, Err, refl, sym, subst}
use Rattle.std.specs.Prelude.{IfSome}
use Rattle.profile.specs.ErrorNumber.{ErrorNumber}
use Rattle.os_heap_words.specs.lists.Heap.{HeapList}
use Rattle.os_heap.specs.Calls.{has_own_size}
use Rattle.os_heap.specs.Store.{Store, find_heap}
use Rattle.instances.specs.Turns.{MayGoOn, module_doing}
use Rattle.instances.specs.declared.answers.Start.{Start}
use Rattle.instances.specs.Reading.{start_found}
use Rattle.instances.specs.actions.Actions.{module_state_after_action}
use Rattle.instances.specs.module_state.ModuleState.{ModuleState}
use Rattle.instances_table.specs.declared.plans.action.PlanAction.{PlanAction}
use Rattle.instances_table.specs.declared.plans.code.Code.{Code}
use Rattle.instances_table.specs.declared.plans.given.Given.{Given}
use Rattle.instances_table.specs.plans.Carrying.{Carried, carry_of_plan, carried_by, carried_from}
use Rattle.instances_table.specs.plans.Plans.{Plan, actions_owed}
use Rattle.instances.specs.tidying.Slid.{module_state_slid}
use Rattle.instances_table.specs.Modules.{AreModules}
use Rattle.swi_dispatch_guest.specs.Call.{Call}
use Rattle.swi_dispatch_guest.specs.Trials.{module_state_carried}
use Rattle.swi_dispatch_guest.specs.Gates.{call_ended_by, carried_on, ended_of, entered_if, entered_with, state_after_plan, state_with_code_entered}
use Rattle.swi_dispatch_guest.specs.MachineState.{MachineState, machine_area_store, machine_module_state}
use Rattle.swi_dispatch_guest.specs.ModuleStart.{opened_at}
use Rattle.swi_dispatch_guest.specs.GuestState.{IsGuest, IsState, GuestState, state_of}
use Rattle.swi_dispatch_guest.specs.Returns.{gone_back}
use Rattle.law_machine.proofs.HeapFrameLemmas.Guests.{area_stores_fit, outside_keeps}
use Rattle.law_machine.proofs.HeapFrameLemmas.Holding.{keeps_all, keeps_both}
use Rattle.law_machine.proofs.HeapFrameLemmas.Plans.{plans_fit}
use Rattle.law_machine.proofs.HeapFrameLemmas.Slots.{modules_below}
use Rattle.law_machine.proofs.HeapFrameLemmas.Words.{writes_fit}
use Rattle.law_machine.specs.heap_frame.FitAreaStores.{IsFitAreaStore}
use Rattle.law_machine.specs.heap_frame.Fits.{KeepsOutside, LiesInArea}
use Rattle.law_machine.specs.heap_frame.PlanLaws.{IsFitModuleState, ModuleStateStaysFit}
use Rattle.law_machine.specs.heap_calls.Laws.{IsNotForgotten, KeepsHeap}
use Rattle.law_machine.proofs.HeapAloneLemmas.Keeping.{IsOffSystem, off_system}
use Rattle.law_machine.proofs.HeapAloneLemmas.ModulePlans.{IsFitPlan}
use Rattle.law_machine.proofs.HeapAloneLemmas.States.{HasStore, IsGiven, given_store, has_store, with_cpu}

-- what a machine has of modules and of what is left of a call on them
pub record HasModules (s : MachineState) : Type 0 where
  pub store : HasStore s
  pub modules : AreModules s.tables.modules
  pub going : MayGoOn (machine_module_state s) s.tables.plan
  pub text : IfSome s.tables.plan (λ (plan : Plan). length plan.given.text.items ≤ 255)

parts_modules : (p : GuestState) → IsGuest p → HasStore (state_of p) → HasModules (state_of p)
parts_modules p machine store = record {
  store = store;
  modules = machine.modules;
  going = machine.well_formed.modules;
  text = machine.text;
}

pub has_modules : (s : MachineState) → IsState s → HasModules s
has_modules s state =
    subst HasModules state.is
    (parts_modules state.parts state.machine
    (has_store (state_of state.parts) (record { parts = state.parts; is = refl; machine = state.machine })))

-- and so where its core alone differs
pub given_modules : (s t : MachineState) → HasModules s → IsGiven s t → HasModules t
given_modules s t has same =
    let on : HasModules (with_cpu s same.cpu) = record {
      store = given_store s (with_cpu s same.cpu) has.store (record { cpu = same.cpu; is = refl; size = same.size });
      modules = has.modules;
      going = has.going;
      text = has.text;
    } in
    subst HasModules (sym same.is) on

pub fit_module_state : (s : MachineState) → HasModules s → IsFitModuleState (machine_module_state s)
fit_module_state s has = record {
  area_store = area_stores_fit (machine_area_store s) has.store.area_store;
  slots = modules_below s.tables.modules has.modules;
}

-- a machine with a guest's heap
pub record IsHost (s : MachineState) (h : HeapList) : Type 0 where
  pub modules : HasModules s
  pub found : find_heap h.start s.store.heaps ≡ Some h
  pub own : has_own_size h.kind ≡ true

pub host_off : (s : MachineState) (h : HeapList) → IsHost s h → IsOffSystem h
host_off s h host = off_system s h host.modules.store host.found

-- the heap is as it was in a store; where it lay in the module area, in one in which it is recorded
-- still
abbrev pub KeepsRecorded : HeapList → Store → Store → Type 0
KeepsRecorded h s t = (LiesInArea s h → IsNotForgotten t h.start) → KeepsHeap h s t

pub outside_stays : (s : MachineState) (h : HeapList) (t : Store) → IsHost s h → KeepsOutside s.store t → KeepsRecorded h s.store t
outside_stays s h t host outside still =
    outside_keeps (machine_area_store s) t h (record {
      area_store = host.modules.store.area_store;
      system = host.modules.store.system;
      found = host.found;
      own = host.own;
    }) outside still

-- a plan that is carried on is given what it was
given_by : (w : ModuleState) (p : Plan) (a : PlanAction) (others : List PlanAction) (o : Option Code)
    → ((v : ModuleState) (q : Plan) → (carried_from module_doing others v q).rest.given ≡ q.given)
    → (carried_by module_doing w p a others o (carried_from module_doing others)).rest.given ≡ p.given
given_by w p a others (Some code) on = refl
given_by w p a others None on =
    on (module_state_after_action module_state_slid p.given w a) (record p { actions = others; instead = actions_owed p.instead a; runs = false })

given_from : (actions : List PlanAction) (w : ModuleState) (p : Plan) → (carried_from module_doing actions w p).rest.given ≡ p.given
given_from [] w p = refl
given_from (a ∷ others) w p = given_by w p a others (module_doing.code_of w a) (given_from others)

given_on : (w : ModuleState) (p : Plan) → (carry_of_plan module_doing w p).rest.given ≡ p.given
unfolding carry_of_plan
given_on w p = given_from p.actions w p

-- texts
pub opened_out : (s : MachineState) (text : List ℕ) (slot : ℕ) (o : Option ℕ) → IsFitAreaStore (machine_area_store s) → length text ≤ 255
    → KeepsOutside s.store (opened_at s text slot o).store
opened_out s text slot None fit few = keeps_all s.store
opened_out s text slot (Some at) fit few = ((writes_fit (machine_area_store s) fit).text text few).outside

entered_out : (s : MachineState) (text : List ℕ) (r : Result Start ErrorNumber) → IsFitAreaStore (machine_area_store s) → length text ≤ 255
    → KeepsOutside s.store (entered_with s text r).store
entered_out s text (Ok start) fit few = opened_out s text start.slot start.at fit few
entered_out s text (Err e) fit few = keeps_all s.store

if_out : (s : MachineState) (enters : Bool) (g : Given) → IsFitAreaStore (machine_area_store s) → length g.text.items ≤ 255
    → KeepsOutside s.store (entered_if enters s g).store
if_out s true g fit few = entered_out s g.text.items (start_found s.tables.modules g.header.title.items) fit few
if_out s false g fit few = keeps_all s.store

ended_out : (s : MachineState) (call : Call) (g : Given) (first : Option ℕ) → IsFitAreaStore (machine_area_store s) → length g.text.items ≤ 255
    → KeepsOutside s.store (call_ended_by s call g first).store
ended_out s call g (Some r0) fit few = keeps_all s.store
ended_out s call g None fit few = if_out (gone_back call.caller s false call.next) call.enters g fit few

-- a call that is carried on
abbrev gone : MachineState → Call → Carried ModuleState → MachineState
gone s call c = state_after_plan (state_with_code_entered s call c) call (ended_of c)

gone_by : (s : MachineState) (call : Call) (w : ModuleState) (q : Plan) (o : Option Code) → IsFitAreaStore w.area_store → length q.given.text.items ≤ 255
    → KeepsOutside w.area_store.store (gone s call (record { module_state = w; rest = q; code = o })).store
gone_by s call w q (Some code) fit few = keeps_all w.area_store.store
gone_by s call w q None fit few = ended_out (state_with_code_entered s call (record { module_state = w; rest = q; code = None })) call q.given q.first fit few

pub carried_out : (s : MachineState) (call : Call) (p : Plan) → IsFitModuleState (machine_module_state s) → IsFitPlan p → KeepsOutside s.store (carried_on s call p).store
carried_out s call p fit plan =
    let c : Carried ModuleState = module_state_carried (machine_module_state s) p in
    let stays : ModuleStateStaysFit (machine_module_state s) c.module_state = plans_fit (machine_module_state s) p fit plan.below plan.text in
    let few : length c.rest.given.text.items ≤ 255 =
    subst (λ (g : Given). length g.text.items ≤ 255) (sym (given_on (machine_module_state s) p)) plan.text in
    keeps_both s.store c.module_state.area_store.store (carried_on s call p).store stays.area_store.outside
    (gone_by s call c.module_state c.rest c.code stays.area_store.fit few)
