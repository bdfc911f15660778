-- Records that are lost, one after another, by filters and by single removals.
use Rattle.std.proofs.Common.{◌≡◌, ◌≢◌, ◌∙◌, ℕ, Bool, true, false, inl, inr, List, [], ◌∷◌, cond, refl, sym, subst}
use Rattle.std.specs.List.{filter}
use Rattle.rma.specs.Kind.{Kind}
use Rattle.rma.specs.Region.{Region}
use Rattle.rma.specs.AddressMap.{AddressMap}
use Rattle.rma.specs.Memory.{layout, regions}
use Rattle.rma.specs.Records.{is_record, without_region}
use Rattle.rma.specs.Order.{LosesHeaps, stays}
use Rattle.rma.specs.Store.{store_of}
use Rattle.rma.proofs.Frame.{layout-regions}
-- what calls that write to memory leave of what is mapped
pub use Rattle.rma.proofs.AddressMapStores.{layout-mapping}
use Rattle.instances_table.specs.declared.plans.action.PlanAction.{PlanAction}
use Rattle.instances_table.specs.declared.plans.action.PlanAction.TheVariants.{Finalise, Remove, FreePrivate, Insert, Instantiate, GiveUp, Slide, Initialise}
use Rattle.instances_table.specs.plans.Plans.{all_but_first, first_action}
use Rattle.instances.specs.module_state.Records.{CarriesRecords, LosesRecords, MayTurnRecords, TurnsRecords}

loses_none : (rs : List Region) → LosesRecords rs rs
loses_none [] = refl
loses_none (r ∷ rs) = inr (rs, (refl, loses_none rs))

pub loses_same : (old new : List Region) → new ≡ old → LosesRecords old new
loses_same old new same = subst (LosesRecords old) (sym same) (loses_none old)

pub loses_filtered : (test : Region → Bool) (rs : List Region) → LosesRecords rs (filter test rs)
loses_filtered test [] = refl
loses_filtered test (r ∷ rs) = elim (test r) as (λ b. LosesRecords (r ∷ rs) (cond b (r ∷ filter test rs) (filter test rs))) [
  | true ↦ inr (filter test rs, (refl, loses_filtered test rs))
  | false ↦ inl (loses_filtered test rs)
]

pub loses_one : (kind : Kind) (at : ℕ) (rs : List Region) → LosesRecords rs (without_region rs kind at)
loses_one kind at [] = refl
loses_one kind at (r ∷ rs) = elim (is_record kind at r) as (λ b. LosesRecords (r ∷ rs) (cond b rs (r ∷ without_region rs kind at))) [
  | true ↦ inl (loses_none rs)
  | false ↦ inr (without_region rs kind at, (refl, loses_one kind at rs))
]

pub loses_both : (old mid new : List Region) → LosesRecords old mid → LosesRecords mid new → LosesRecords old new
loses_both [] mid new first second = subst (λ (xs : List Region). LosesRecords xs new) first second
loses_both (r ∷ rs) mid new (inl gone) second = inl (loses_both rs mid new gone second)
loses_both (r ∷ rs) mid new (inr w) second = elim (subst (λ (xs : List Region). LosesRecords xs new) w.1.0 second) [
  | inl gone ↦ inl (loses_both rs w.0 new w.1.1 gone)
  | inr v ↦ inr (v.0, (v.1.0, loses_both rs w.0 v.0 w.1.1 v.1.1))
]

-- as layouts and lists of heaps say
pub loses_laid : (m n : AddressMap) → layout n ≡ layout m → LosesRecords (regions m) (regions n)
loses_laid m n same = loses_same (regions m) (regions n) (layout-regions m n same)

pub loses_heaps : (m n : AddressMap) → LosesHeaps m n → LosesRecords (regions m) (regions n)
loses_heaps m n loses =
    subst (LosesRecords (regions m)) (sym loses) (loses_filtered (stays (store_of n).heaps) (regions m))

pub turns_losing : (action : PlanAction) (old new : List Region) → action ≢ Slide → LosesRecords old new → TurnsRecords action old new
turns_losing (Finalise slot fatal) old new other loses = loses
turns_losing (Remove slot) old new other loses = loses
turns_losing (FreePrivate slot) old new other loses = loses
turns_losing (Insert slot) old new other loses = loses
turns_losing (Instantiate slot) old new other loses = loses
turns_losing GiveUp old new other loses = loses
turns_losing Slide old new other loses = absurd (other refl)
turns_losing (Initialise slot) old new other loses = loses

-- a turn, and those after it
pub carries_on : (actions : List PlanAction) (old mid new : List Region) → MayTurnRecords (first_action actions) old mid
    → CarriesRecords (all_but_first actions) mid new → CarriesRecords actions old new
carries_on [] old mid new turn later = later ∙ turn
carries_on (action ∷ others) old mid new turn later = inr (mid, (turn, later))

carries_none : (actions : List PlanAction) (rs : List Region) → CarriesRecords actions rs rs
carries_none [] rs = refl
carries_none (action ∷ others) rs = inl refl

pub carries_last : (actions : List PlanAction) (old new : List Region) → MayTurnRecords (first_action actions) old new → CarriesRecords actions old new
carries_last actions old new turn = carries_on actions old new new turn (carries_none (all_but_first actions) new)
