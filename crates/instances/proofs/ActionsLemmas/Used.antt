-- What a plan asks depends on which slots are used, and not on their order.
use Rattle.std.proofs.Common.{◌≡◌, ℕ, ◌==◌, ◌||◌, Bool, false, List, [], ◌∷◌, ◌++◌, refl, sym, ap, ◌∙◌, inl, inr}
use Rattle.std.proofs.lemmas.Bool.{cases_Bool, eqb-true}
use Rattle.instances_table.specs.declared.plans.action.PlanAction.{PlanAction}
use Rattle.instances_table.specs.declared.plans.action.PlanAction.TheVariants.{Finalise, Remove, FreePrivate, Insert, Instantiate, GiveUp, Slide, Initialise}
use Rattle.instances_table.specs.plans.Doable.{CanDo, StandsInstead, is_used, without}
use Rattle.instances_table.specs.plans.Plans.{actions_owed}
use Rattle.instances.proofs.ActionsLemmas.Slots.{used_append}

abbrev pub SameUsed : List ℕ → List ℕ → Type 0
SameUsed old new = (s : ℕ) → is_used s new ≡ is_used s old

pub gone : (s : ℕ) (xs : List ℕ) → is_used s (without s xs) ≡ false
gone s [] = refl
gone s (x ∷ xs) = elim (cases_Bool (x == s)) [
  | inl e ↦ rw e (gone s xs)
  | inr e ↦ rw e (rw e (gone s xs))
]

pub others_stay : (s t : ℕ) (xs : List ℕ) → (s == t) ≡ false → is_used t (without s xs) ≡ is_used t xs
others_stay s t [] differ = refl
others_stay s t (x ∷ xs) differ = elim (cases_Bool (x == s)) [
  | inl e ↦
      let not : (x == t) ≡ false = ap (λ (n : ℕ). n == t) (eqb-true x s e) ∙ differ in
      rw (e, not) (others_stay s t xs differ)
  | inr e ↦ rw e (ap (λ (b : Bool). x == t || b) (others_stay s t xs differ))
]

same_without : (s : ℕ) (old new : List ℕ) → SameUsed old new → SameUsed (without s old) (without s new)
same_without s old new same t = elim (cases_Bool (s == t)) [
  | inl e ↦ rw (← eqb-true s t e) (gone s new ∙ sym (gone s old))
  | inr e ↦ others_stay s t new e ∙ same t ∙ sym (others_stay s t old e)
]

same_more : (s : ℕ) (old new : List ℕ) → SameUsed old new → SameUsed (old ++ s ∷ []) (new ++ s ∷ [])
same_more s old new same t =
    used_append t new (s ∷ []) ∙ ap (λ (b : Bool). b || is_used t (s ∷ [])) (same t) ∙ sym (used_append t old (s ∷ []))

stands_same : (old new : List ℕ) (actions : List PlanAction) → SameUsed old new → StandsInstead old actions → StandsInstead new actions
stands_same old new [] same stands = tt
stands_same old new (GiveUp ∷ others) same stands = stands_same old new others same stands
stands_same old new (Initialise s ∷ others) same stands = (
  same s ∙ stands.0,
  (
    stands_same old new others same stands.1.0,
    stands_same (without s old) (without s new) others (same_without s old new same) stands.1.1,
  ),
)
stands_same old new (Finalise s f ∷ others) same stands = absurd stands
stands_same old new (Remove s ∷ others) same stands = absurd stands
stands_same old new (FreePrivate s ∷ others) same stands = absurd stands
stands_same old new (Insert s ∷ others) same stands = absurd stands
stands_same old new (Instantiate s ∷ others) same stands = absurd stands
stands_same old new (Slide ∷ others) same stands = absurd stands

pub can_same : (old new : List ℕ) (instead actions : List PlanAction) → SameUsed old new → CanDo old instead actions → CanDo new instead actions
can_same old new instead [] same can = tt
can_same old new instead (Finalise s f ∷ others) same can =
    (same s ∙ can.0, (stands_same old new instead same can.1.0, can_same old new (actions_owed instead (Finalise s f)) others same can.1.1))
can_same old new instead (Remove s ∷ others) same can =
    (same s ∙ can.0, can_same (without s old) (without s new) instead others (same_without s old new same) can.1)
can_same old new instead (FreePrivate s ∷ others) same can = (same s ∙ can.0, can_same old new instead others same can.1)
can_same old new instead (Insert s ∷ others) same can =
    (same s ∙ can.0, (can.1.0, can_same (old ++ s ∷ []) (new ++ s ∷ []) instead others (same_more s old new same) can.1.1))
can_same old new instead (Instantiate s ∷ others) same can =
    (same s ∙ can.0, (can.1.0, can_same (old ++ s ∷ []) (new ++ s ∷ []) instead others (same_more s old new same) can.1.1))
can_same old new instead (GiveUp ∷ others) same can = can_same old new instead others same can
can_same old new instead (Slide ∷ others) same can = can_same old new instead others same can
can_same old new instead (Initialise s ∷ others) same can = (
  same s ∙ can.0,
  (
    can_same old new instead others same can.1.0,
    can_same (without s old) (without s new) instead others (same_without s old new same) can.1.1,
  ),
)
