-- A turn of a call: what it makes of the module state and of the plan, and that both go on well.
use Rattle.instances_table.specs.MemoryMap.{module_area_start}
use Rattle.std.proofs.Common.{◌≡◌, ℕ, Bool, true, false, Some, None, inl, inr, List, [], ◌∷◌, map, refl, sym, ap, subst, ◌∙◌}
use Rattle.std.specs.Prelude.{Option, if◌then◌else◌}
use Rattle.std.proofs.lemmas.Bool.{cases_Bool, false≢true}
use Rattle.rma.specs.BlockMove.{BlockMove}
use Rattle.rma.specs.lists.Heap.{HeapList}
use Rattle.rma.specs.Store.{find_heap}
use Rattle.instances_table.specs.declared.plans.action.PlanAction.{PlanAction}
use Rattle.instances_table.specs.declared.plans.action.PlanAction.TheVariants.{Finalise, Remove, FreePrivate, Insert, Instantiate, GiveUp, Slide, Initialise}
use Rattle.instances_table.specs.declared.plans.code.Advance.TheVariants as advance
use Rattle.instances_table.specs.declared.plans.code.Code.{Code}
use Rattle.instances_table.specs.declared.plans.code.Outcome.{Outcome}
use Rattle.instances_table.specs.declared.plans.code.Outcome.TheVariants.{Refused, Well}
use Rattle.instances_table.specs.declared.plans.given.Given.{Given}
use Rattle.instances_table.specs.plans.Carrying.{Advanced, Doing, advance_of_plan, advanced_by, advanced_from}
use Rattle.instances_table.specs.plans.Plans.{Plan, end_by, plan_after_action, first_action, plan_after_refusal, plan_after_code, settled_by, plan_with_code_entered}
use Rattle.instances_table.specs.declared.parts.Image.{Image}
use Rattle.instances_table.specs.Modules.{AreModules, Module}
use Rattle.instances.specs.module_state.Sound.{IsModuleState}
use Rattle.instances.specs.module_state.ModuleState.{ModuleState, module_state_after_remove}
use Rattle.instances.specs.actions.Actions.{module_state_after_action, image_given}
use Rattle.instances.specs.actions.Codes.{code_among}
use Rattle.instances.specs.actions.Pending.{pending_of, settles}
use Rattle.instances.specs.actions.Ready.{AreAfter, IsReady, HaveSameOutlines, outline}
use Rattle.instances.proofs.ActionsLemmas.Readying.{stays_ready, stays_ready_refused}
use Rattle.instances.proofs.ActionsLemmas.Settling.{none_slides, pending_is_settled, pending_outlasts, pending_stays}
use Rattle.instances.specs.tidying.Slid.{image_moved, module_state_slid, module_state_slid_in}
use Rattle.instances.specs.Turns.{IsUnderWay, calls_module, module_doing}

-- A call begins.
pub begins : (w : ModuleState) (p : Plan) → IsModuleState w (pending_of p) → IsReady w.modules p → p.runs ≡ false → IsUnderWay w p
begins w p module_state ready rests = record { module_state = module_state; ready = ready; code = λ runs. absurd (false≢true (sym rests ∙ runs)) }

-- Code came back: it was that of a finalisation or of an initialisation.
well_back : (w : ModuleState) (p : Plan) (a : PlanAction) → first_action p.actions ≡ Some a → AreModules w.modules → IsUnderWay w p → settles a ≡ false
    → AreAfter p.given a w.modules w.modules → IsUnderWay w (plan_after_action p a)
well_back w p a first are going none same = record {
  module_state = subst (IsModuleState w) (sym (pending_stays p a first none)) going.module_state;
  ready = stays_ready w.modules w.modules p a are first going.ready same;
  code = λ runs. absurd (false≢true runs);
}

abbrev EndsCode : Plan → PlanAction → Type 0
EndsCode p a = (r0 : ℕ) → (plan_after_refusal p a r0).runs ≡ false

refused_back : (w : ModuleState) (p : Plan) (a : PlanAction) (r0 : ℕ) → first_action p.actions ≡ Some a → IsUnderWay w p → EndsCode p a → IsUnderWay w (plan_after_refusal p a r0)
refused_back w p a r0 first going ends = record {
  module_state = subst (IsModuleState w) (sym (pending_outlasts _ p a r0 first going.ready.settles)) going.module_state;
  ready = stays_ready_refused w.modules p a r0 first going.ready;
  code = λ runs. absurd (false≢true (sym (ends r0) ∙ runs));
}

back_by : (w : ModuleState) (p : Plan) (o : Outcome) (head : Option PlanAction) → first_action p.actions ≡ head → AreModules w.modules → IsUnderWay w p
    → calls_module head ≡ true → IsUnderWay w (settled_by p o head)
back_by w p o None first are going calls = absurd (false≢true calls)
back_by w p Well (Some (Finalise s f)) first are going calls = well_back w p (Finalise s f) first are going refl refl
back_by w p (Refused r0) (Some (Finalise s f)) first are going calls = refused_back w p (Finalise s f) r0 first going (λ r. refl)
back_by w p Well (Some (Initialise s)) first are going calls = well_back w p (Initialise s) first are going refl refl
back_by w p (Refused r0) (Some (Initialise s)) first are going calls = refused_back w p (Initialise s) r0 first going (λ r. refl)
back_by w p o (Some (Remove s)) first are going calls = absurd (false≢true calls)
back_by w p o (Some (FreePrivate s)) first are going calls = absurd (false≢true calls)
back_by w p o (Some (Insert s)) first are going calls = absurd (false≢true calls)
back_by w p o (Some (Instantiate s)) first are going calls = absurd (false≢true calls)
back_by w p o (Some GiveUp) first are going calls = absurd (false≢true calls)
back_by w p o (Some Slide) first are going calls = absurd (false≢true calls)

chosen : (t : Bool) (w : ModuleState) (p q : Plan) → (t ≡ true → IsUnderWay w p) → (t ≡ false → IsUnderWay w q) → IsUnderWay w (if t then p else q)
chosen true w p q first second = first refl
chosen false w p q first second = second refl

pub going_back : (w : ModuleState) (p : Plan) (o : Outcome) → AreModules w.modules → IsUnderWay w p → IsUnderWay w (plan_after_code p o)
unfolding plan_after_code
going_back w p o are going =
    chosen p.runs w (settled_by p o (first_action p.actions)) p (λ runs. back_by w p o (first_action p.actions) refl are going (going.code runs)) (λ rests. going)

-- What an action leaves of the modules.
outline_moved : (moves : List BlockMove) (ms : List Module) → map outline (map (image_moved moves) ms) ≡ map outline ms
outline_moved moves [] = refl
outline_moved moves (m ∷ ms) = ap (λ (xs : List Module). outline m ∷ xs) (outline_moved moves ms)

outline_slid : (to : ℕ) (w : ModuleState) (found : Option HeapList) → HaveSameOutlines w.modules (module_state_slid_in to w found).modules
outline_slid to w None = refl
outline_slid to w (Some h) = outline_moved _ w.modules

pub after_slide : (to : ℕ) (w : ModuleState) → HaveSameOutlines w.modules (module_state_slid to w).modules
unfolding module_state_slid
after_slide to w = outline_slid to w (find_heap module_area_start w.area_store.store.heaps)

after_removal : (slot : ℕ) (g : Given) (w : ModuleState) → AreAfter g (Remove slot) w.modules (module_state_after_remove w slot).modules
unfolding module_state_after_remove
after_removal slot g w = refl

after_acted : (g : Given) (a : PlanAction) (w : ModuleState) → AreAfter g a w.modules (module_state_after_action module_state_slid g w a).modules
after_acted g (Finalise s f) w = refl
after_acted g (Remove s) w = after_removal s g w
after_acted g (FreePrivate s) w = refl
after_acted g (Insert s) w = refl
after_acted g (Instantiate s) w = refl
after_acted g GiveUp w = refl
after_acted g Slide w = after_slide g.return_address w
after_acted g (Initialise s) w = refl

-- The call goes on after an action is done, and while its code runs.
pub goes_on : (w v : ModuleState) (p : Plan) (a : PlanAction) → first_action p.actions ≡ Some a → AreModules w.modules → IsUnderWay w p
    → v ≡ module_state_after_action module_state_slid p.given w a → IsModuleState v (pending_of (plan_after_action p a)) → IsUnderWay v (plan_after_action p a)
goes_on w v p a first are going acts module_state =
    let after : AreAfter p.given a w.modules v.modules = subst (λ (x : ModuleState). AreAfter p.given a w.modules x.modules) (sym acts) (after_acted p.given a w) in
    record {
      module_state = module_state;
      ready = stays_ready w.modules v.modules p a are first going.ready after;
      code = λ runs. absurd (false≢true runs);
    }

pub same_modules : (g : Given) (a : PlanAction) (w : ModuleState) → calls_module (Some a) ≡ true → (module_state_after_action module_state_slid g w a).modules ≡ w.modules
same_modules g (Finalise s f) w calls = refl
same_modules g (Initialise s) w calls = refl
same_modules g (Remove s) w calls = absurd (false≢true calls)
same_modules g (FreePrivate s) w calls = absurd (false≢true calls)
same_modules g (Insert s) w calls = absurd (false≢true calls)
same_modules g (Instantiate s) w calls = absurd (false≢true calls)
same_modules g GiveUp w calls = absurd (false≢true calls)
same_modules g Slide w calls = absurd (false≢true calls)

none_settled : (a : PlanAction) → calls_module (Some a) ≡ true → settles a ≡ false
none_settled (Finalise s f) calls = refl
none_settled (Initialise s) calls = refl
none_settled (Remove s) calls = refl
none_settled (FreePrivate s) calls = refl
none_settled (Insert s) calls = absurd (false≢true calls)
none_settled (Instantiate s) calls = refl
none_settled GiveUp calls = absurd (false≢true calls)
none_settled Slide calls = refl

pub calls_by : (ms : List Module) (a : PlanAction) (code : Code) → code_among ms a ≡ Some code → calls_module (Some a) ≡ true
unfolding code_among
calls_by ms (Finalise s f) code is = refl
calls_by ms (Initialise s) code is = refl
calls_by ms (Remove s) code is = cc
calls_by ms (FreePrivate s) code is = cc
calls_by ms (Insert s) code is = cc
calls_by ms (Instantiate s) code is = cc
calls_by ms GiveUp code is = cc
calls_by ms Slide code is = cc

pub goes_into_code : (w v : ModuleState) (p : Plan) (a : PlanAction) (code : Code) → first_action p.actions ≡ Some a → IsUnderWay w p
    → v ≡ module_state_after_action module_state_slid p.given w a → IsModuleState v (pending_of (plan_after_action p a)) → code_among w.modules a ≡ Some code → IsUnderWay v (plan_with_code_entered p)
goes_into_code w v p a code first going acts module_state is =
    let calls : calls_module (Some a) ≡ true = calls_by w.modules a code is in
    let same : v.modules ≡ w.modules = ap (λ (x : ModuleState). x.modules) acts ∙ same_modules p.given a w calls in
    let ready : IsReady v.modules p = subst (λ (ms : List Module). IsReady ms p) (sym same) going.ready in
    record {
      module_state = subst (IsModuleState v) (pending_stays p a first (none_settled a calls)) module_state;
      ready = record { doable = ready.doable; settles = ready.settles; names = ready.names; instead = ready.instead };
      code = λ runs. ap calls_module first ∙ calls;
    }

-- What an action leaves pending.
pub module_state_acted : (w v : ModuleState) (p : Plan) (a : PlanAction) → first_action p.actions ≡ Some a → IsUnderWay w p
    → ((pending : List Image) → settles a ≡ false → IsModuleState w pending → IsModuleState v pending)
    → (settles a ≡ true → IsModuleState w (image_given p.given ∷ []) → IsModuleState v [])
    → IsModuleState v (pending_of (plan_after_action p a))
module_state_acted w v p a first going keeps ends = elim (cases_Bool (settles a)) [
  | inl does ↦
      let both = pending_is_settled _ p a first going.ready.settles does in
      subst (IsModuleState v) (sym both.1) (ends does (subst (IsModuleState w) both.0 going.module_state))
  | inr none ↦ subst (IsModuleState v) (sym (pending_stays p a first none)) (keeps (pending_of p) none going.module_state)
]

pub module_state_before_slide : (w : ModuleState) (p : Plan) → first_action p.actions ≡ Some Slide → IsUnderWay w p → IsModuleState w []
module_state_before_slide w p first going = subst (IsModuleState w) (none_slides _ p first going.ready.settles).0 going.module_state

pub module_state_after_slide : (w v : ModuleState) (p : Plan) → first_action p.actions ≡ Some Slide → IsUnderWay w p → IsModuleState v [] → IsModuleState v (pending_of (plan_after_action p Slide))
module_state_after_slide w v p first going module_state = subst (IsModuleState v) (sym (none_slides _ p first going.ready.settles).1) module_state

-- The turn is that of the definitions.
ends_by : (d : Doing ModuleState) (w : ModuleState) (q : Plan) (actions : List PlanAction) → first_action actions ≡ None
    → advanced_from d actions w q ≡ record { module_state = w; rest = q; step = advance.End (end_by q.first) }
ends_by d w q [] none = refl
ends_by d w q (a ∷ others) none = cc

acts_by : (d : Doing ModuleState) (w : ModuleState) (q : Plan) (actions : List PlanAction) (a : PlanAction) → first_action actions ≡ Some a
    → advanced_from d actions w q ≡ advanced_by d w q a (d.code_of w a)
acts_by d w q [] a first = cc
acts_by d w q (b ∷ others) a first = ap (λ (x : PlanAction). advanced_by d w q x (d.code_of w x)) (same b a first) where
  same : (b a : PlanAction) → Some b ≡ Some a → b ≡ a
  same b a e = cc

pub turn_ends : (w : ModuleState) (p q : Plan) (o : Outcome) → q ≡ plan_after_code p o → first_action q.actions ≡ None
    → advance_of_plan module_doing w p o ≡ record { module_state = w; rest = q; step = advance.End (end_by q.first) }
unfolding advance_of_plan
turn_ends w p q o is none =
    ap (λ (x : Plan). advanced_from module_doing x.actions w x) (sym is) ∙ ends_by module_doing w q q.actions none

turn_acts : (w : ModuleState) (p q : Plan) (o : Outcome) (a : PlanAction) → q ≡ plan_after_code p o → first_action q.actions ≡ Some a
    → advance_of_plan module_doing w p o ≡ advanced_by module_doing w q a (code_among w.modules a)
unfolding advance_of_plan
turn_acts w p q o a is first =
    ap (λ (x : Plan). advanced_from module_doing x.actions w x) (sym is) ∙ acts_by module_doing w q q.actions a first

pub turn_enters : (w v : ModuleState) (p q : Plan) (o : Outcome) (a : PlanAction) (code : Code) → q ≡ plan_after_code p o → first_action q.actions ≡ Some a
    → v ≡ module_state_after_action module_state_slid q.given w a → code_among w.modules a ≡ Some code
    → advance_of_plan module_doing w p o ≡ record { module_state = v; rest = plan_with_code_entered q; step = advance.Code code }
turn_enters w v p q o a code is first acts has =
    turn_acts w p q o a is first ∙ ap (advanced_by module_doing w q a) has
    ∙ ap (λ (x : ModuleState). let r : Advanced ModuleState = record { module_state = x; rest = plan_with_code_entered q; step = advance.Code code } in r) (sym acts)

pub turn_goes_on : (w v : ModuleState) (p q : Plan) (o : Outcome) (a : PlanAction) → q ≡ plan_after_code p o → first_action q.actions ≡ Some a
    → v ≡ module_state_after_action module_state_slid q.given w a → code_among w.modules a ≡ None
    → advance_of_plan module_doing w p o ≡ record { module_state = v; rest = plan_after_action q a; step = advance.Next }
turn_goes_on w v p q o a is first acts has =
    turn_acts w p q o a is first ∙ ap (advanced_by module_doing w q a) has
    ∙ ap (λ (x : ModuleState). let r : Advanced ModuleState = record { module_state = x; rest = plan_after_action q a; step = advance.Next } in r) (sym acts)
