-- A trial on a copy of the module state comes to what the call comes to.
use Rattle.std.proofs.Common.{inl, inr, ◌≡◌, ℕ, true, false, Some, None, List, refl, sym, ap, ◌∙◌}
use Rattle.std.specs.Prelude.{◌⊎◌, Option, is_some, option_map}
use Rattle.std.proofs.lemmas.Bool.{false≢true, true≢false}
use Rattle.os_heap.specs.Bytes.{Bytes}
use Rattle.os_heap.specs.AddressMap.{AddressMap}
use Rattle.os_heap.specs.Memory.{Layout, byte_at, bytes_of, class_of, layout}
use Rattle.instances.specs.module_state.ModuleState.{ModuleState, module_state_of}
use Rattle.instances.specs.Areas.{AreaTable}
use Rattle.swi_dispatch_answers.specs.Code.{Code}
use Rattle.swi_dispatch_answers.specs.Ended.{Ended}
use Rattle.swi_dispatch_answers.specs.Ended.TheVariants as ended
use Rattle.swi_dispatch_answers.specs.Outcome.{Outcome as CodeOutcome}
use Rattle.swi_dispatch_answers.specs.Carrying.{Carried, carry_of_plan}
use Rattle.swi_dispatch_answers.specs.Plans.{Plan, end_by, plan_after_code}
use Rattle.instances.specs.Modules.{Module}
use Rattle.os_heap.proofs.Frame.{IsKept, classes_same, heads_kept}
use Rattle.os_heap.specs.Store.{AreClasses, IsSound, Store, store_of}
use Rattle.profile.specs.ErrorNumber.{ErrorNumber}
use Rattle.swi_dispatch_answers.specs.Errors.{error_at}
use Rattle.instances.specs.Turns.{module_doing}
use Rattle.swi_dispatch_plans.specs.Trials.{error_ahead, error_left}

-- the error that a trial ends with
own_first : (first : Option ℕ) (r0 : ℕ) → end_by first ≡ ended.Own r0 → first ≡ Some r0
own_first None r0 is = cc
own_first (Some r) r0 is = cc

no_first : (first : Option ℕ) → (end_by first ≡ ended.Well) ⊎ ((e : ErrorNumber) × (end_by first ≡ ended.System e))
    → first ≡ None
no_first None is = refl
no_first (Some r) (inl is) = cc
no_first (Some r) (inr is) = absurd (let never = is.1 in cc)

pub error_in_code : (w v : ModuleState) (p q : Plan) (code : Option Code)
    → carry_of_plan module_doing w p ≡ record { module_state = v; rest = q; code = code }
    → is_some code ≡ true → None ≡ error_ahead w p
unfolding error_ahead
error_in_code w v p q None is some = absurd (false≢true some)
error_in_code w v p q (Some c) is some = sym (ap (λ (x : Carried ModuleState). error_left x x.code) is)

pub error_at_end : (w v : ModuleState) (p q : Plan) (code : Option Code) (r0 number : ℕ)
    → carry_of_plan module_doing w p ≡ record { module_state = v; rest = q; code = code }
    → is_some code ≡ false → end_by q.first ≡ ended.Own r0 → number ≡ error_at v.area_store.store.bytes r0
    → Some number ≡ error_ahead w p
unfolding error_ahead
error_at_end w v p q (Some c) r0 number is none own there = absurd (true≢false none)
error_at_end w v p q None r0 number is none own there =
    ap Some there ∙ sym (ap (λ (x : Carried ModuleState). error_left x x.code) is
    ∙ ap (option_map (error_at v.area_store.store.bytes)) (own_first q.first r0 own))

pub no_error_at_end : (w v : ModuleState) (p q : Plan) (code : Option Code) (end : Ended)
    → carry_of_plan module_doing w p ≡ record { module_state = v; rest = q; code = code } → is_some code ≡ false
    → end ≡ end_by q.first
    → (end ≡ ended.Well) ⊎ ((e : ErrorNumber) × (end ≡ ended.System e)) → None ≡ error_ahead w p
unfolding error_ahead
no_error_at_end w v p q (Some c) end is none ends well = absurd (true≢false none)
no_error_at_end w v p q None end is none ends well =
    sym (ap (λ (x : Carried ModuleState). error_left x x.code) is ∙ ap (option_map (error_at v.area_store.store.bytes))
    (no_first q.first (rw (← ends) well)))

-- a trial on a copy of the module state
copied_bytes : (m n : AddressMap) → byte_at n ≡ byte_at m → layout n ≡ layout m → bytes_of n ≡ bytes_of m
copied_bytes m n at same = λ i. record { mapped = λ a. is_some ((same i).place a); at = at i }

copied_kept : (m n : AddressMap) → byte_at n ≡ byte_at m → layout n ≡ layout m → class_of n ≡ class_of m
    → IsSound (store_of m) → IsKept m n
copied_kept m n at same marks sound =
    heads_kept m n same marks sound (λ a _. ap (λ (b : Bytes). b.at a) (copied_bytes m n at same))

copied_store : (m n : AddressMap) → bytes_of n ≡ bytes_of m → IsKept m n → store_of n ≡ store_of m
unfolding store_of
copied_store m n bytes kept = kept.store ∙ ap (λ (b : Bytes). record (store_of m) { bytes = b }) bytes

pub copied_module_state : (m n : AddressMap) (l : AreaTable) (ms ns : List Module) → byte_at n ≡ byte_at m → layout n ≡ layout m
    → class_of n ≡ class_of m
    → IsSound (store_of m) → ns ≡ ms → module_state_of n l ns ≡ module_state_of m l ms
copied_module_state m n l ms ns at same marks sound modules =
    let store = copied_store m n (copied_bytes m n at same) (copied_kept m n at same marks sound) in
    let pool = ap (λ (x : Layout). x.free_pages) same in
    λ i. record { area_store = record { store = store i; pool = pool i; area_table = l }; modules = modules i }

pub copied_classes : (m n : AddressMap) → byte_at n ≡ byte_at m → layout n ≡ layout m → class_of n ≡ class_of m
    → IsSound (store_of m) → AreClasses m
    → AreClasses n
copied_classes m n at same marks sound classes =
    classes_same m n (ap (λ (s : Store). s.heaps) (copied_kept m n at same marks sound).store) (λ a i. marks i a) classes

pub tried : (w v : ModuleState) (p q : Plan) (o : CodeOutcome) (c : Carried ModuleState) → v ≡ w → q ≡ p
    → carry_of_plan module_doing v (plan_after_code q o) ≡ c
    → carry_of_plan module_doing w (plan_after_code p o) ≡ c
tried w v p q o c module_state plan is =
    ap (λ (x : ModuleState). carry_of_plan module_doing x (plan_after_code p o)) (sym module_state)
    ∙ ap (λ (x : Plan). carry_of_plan module_doing v (plan_after_code x o)) (sym plan) ∙ is
