-- When a call on modules may begin.
use Rattle.std.proofs.Common.{◌≡◌, ℕ, false, Ok, Err, List, [], ◌∷◌, sym, subst, ◌∙◌}
use Rattle.std.specs.Prelude.{IfOk, Result}
use Rattle.std.proofs.lemmas.Bool.{true≢false}
use Rattle.instances.specs.module_state.Sound.{IsModuleState}
use Rattle.swi_dispatch_answers.specs.Plans.{Plan}
use Rattle.instances.specs.Modules.{slots_of}
use Rattle.profile.specs.ErrorNumber.{ErrorNumber}
use Rattle.swi_dispatch_answers.specs.frames.Busy.{has_swi_of}
use Rattle.instances.specs.Naming.{NamesOnly, slots_of_plan}
use Rattle.instances.specs.actions.Pending.{pending_of}
use Rattle.instances.specs.actions.Ready.{IsReady}
use Rattle.instances.proofs.NamedByCalls.{NamesNone, NamesOne}
use Rattle.swi_dispatch_plans.specs.Beginning.{CanBegin, IsFree}
use Rattle.swi_dispatch_plans.specs.PlannerInput.{PlannerInput}
use Rattle.swi_dispatch_plans.proofs.Sparing.{none_of, none_of_none}

can_begin : (s : PlannerInput) (p : Plan) → IsFree s → IsReady s.module_state.modules p → p.runs ≡ false → pending_of p ≡ []
    → has_swi_of (slots_of_plan p) s.frames ≡ false → CanBegin s p
can_begin s p free ready rests pending spared = record {
  going = record {
    module_state = subst (IsModuleState s.module_state) (sym pending) free.module_state;
    ready = ready;
    code = λ runs. absurd (true≢false (sym runs ∙ rests));
  };
  rests = rests;
  free = free;
  spared = spared;
}

-- one whose plan names only instances that were tested for
named_begins : (s : PlannerInput) (p : Plan) (slots : List ℕ) → IsFree s → IsReady s.module_state.modules p → p.runs ≡ false
    → pending_of p ≡ [] → has_swi_of slots s.frames ≡ false → NamesOnly slots s.module_state.modules p → CanBegin s p
named_begins s p slots free ready rests pending none names =
    can_begin s p free ready rests pending
    (none_of (slots_of s.module_state.modules) slots (slots_of_plan p) s.frames free.held names none)

-- one on the instance that a name means
pub meant_begins : (s : PlannerInput) (meant : Result ℕ ErrorNumber) (r x : Result Plan ErrorNumber) (slot : ℕ)
    → Ok slot ≡ meant
    → x ≡ r → IfOk meant (NamesOne s.module_state.modules r) → has_swi_of (slot ∷ []) s.frames ≡ false → IsFree s
    → IfOk x (IsReady s.module_state.modules) → IfOk x (λ p. p.runs ≡ false) → IfOk x (λ p. pending_of p ≡ [])
    → IfOk x (CanBegin s)
meant_begins s meant r (Err e) slot means makes names none free ready rests pending = tt
meant_begins s meant r (Ok p) slot means makes names none free ready rests pending =
    let one : NamesOne s.module_state.modules r slot =
    subst (λ (m : Result ℕ ErrorNumber). IfOk m (NamesOne s.module_state.modules r)) (sym means) names in
    named_begins s p (slot ∷ []) free ready rests pending none
    (subst (λ (q : Result Plan ErrorNumber). IfOk q (NamesOnly (slot ∷ []) s.module_state.modules)) (sym makes) one)

-- and one that adds an instance
pub new_begins : (s : PlannerInput) (r x : Result Plan ErrorNumber) → x ≡ r → IfOk r (NamesNone s.module_state.modules) → IsFree s
    → IfOk x (IsReady s.module_state.modules) → IfOk x (λ p. p.runs ≡ false) → IfOk x (λ p. pending_of p ≡ [])
    → IfOk x (CanBegin s)
new_begins s r (Err e) makes names free ready rests pending = tt
new_begins s r (Ok p) makes names free ready rests pending =
    named_begins s p [] free ready rests pending (none_of_none s.frames)
    (subst (λ (q : Result Plan ErrorNumber). IfOk q (NamesNone s.module_state.modules)) (sym makes) names ready)
