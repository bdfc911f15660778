-- The making of the flex store: what is kept, and what memory and the store are then.
use Rattle.std.proofs.Common.{◌≡◌, ℕ, true, Option, Some, None, Result, Ok, Err, [], ◌∷◌, ◌++◌, inl, inr, refl, sym, ap, subst, ◌∙◌}
use Rattle.std.specs.Prelude.{MatchResult, is_some}
use Rattle.std.proofs.lemmas.Bool.{cases_Bool}
use Rattle.profile.specs.Outcome.{Gives}
use Rattle.profile.specs.ErrorNumber.{ErrorNumber}
use Rattle.os_heap.specs.Memory.{regions}
use Rattle.os_heap.specs.AddressMap.{AddressMap}
use Rattle.swi_dispatch_plans.proofs.FlexFrameLemmas.Calls.{ok_is, state_is}
use Rattle.swi_dispatch_plans.proofs.FlexFrameLemmas.Starts.{has_made, made_areas, made_left, others_made, room_there, unmade_areas, unmade_left}
use Rattle.swi_dispatch_plans.proofs.FlexFrameLemmas.ModuleStates.{begun_module_state}
use Rattle.swi_dispatch_plans.specs.flex_frame.Ground.{HasFlex, records_with, with_flex_record}
use Rattle.flex_store.specs.Blocks.{FlexStore}
use Rattle.flex_store.specs.Calls.{FlexState, flex_after_init, flex_after_init_over, flex_record, is_flex_range, with_flex_range}
use Rattle.flex_store.specs.Kept.{KeepsMarksAndHeaps}
use Rattle.flex_store.specs.State.{IsFlex, flex_in, state_of_flex as flex_state_of}
use Rattle.flex_store.specs.declared.flex.Extent.{Extent}
use Rattle.flex_store.specs.declared.flex.Flex.{Flex}
use Rattle.swi_dispatch_plans.proofs.FlexFrameLemmas.InstancesModuleStates.{module_state_kept}
use Rattle.os_heap.specs.Store.{Store, store_of}
use Rattle.swi_dispatch_plans.specs.flex_frame.module_state.Sound.{count_beside}
use Rattle.swi_dispatch_plans.specs.flex_frame.module_state.ModuleState.{module_state_of}
use Rattle.swi_dispatch_plans.specs.flex.Calls.{flex_in_range, memory_after_flex, memory_of, state_in}
use Rattle.swi_dispatch_plans.specs.flex.Leaving.{LeavesFlex}

-- what is so where the call was done
record IsBegun (places : Store) (t : FlexState) (start end : ℕ) (r : FlexState × Unit {0}) : Type 0 where
  none : t.flex ≡ None
  room : is_flex_range places start end ≡ true
  left : with_flex_range t start end ≡ r.0

begun_from : (places : Store) (t : FlexState) (start end : ℕ) (o : Option FlexStore) (r : FlexState × Unit {0})
    → flex_after_init_over places t start end o ≡ Ok r
    → (o ≡ None) × ((is_flex_range places start end ≡ true) × (with_flex_range t start end ≡ r.0))
begun_from places t start end (Some s) r is = absurd (let no : Err _ ≡ Ok r = is in cc)
begun_from places t start end None r is = elim (cases_Bool (is_flex_range places start end)) [
  | inl room ↦
      let done = rw room at is in
      (refl, (room, ap (λ (x : FlexState × Unit {0}). x.0) (ok_is (FlexState × Unit {0}) _ r done)))
  | inr bad ↦ let done = rw bad at is in absurd (let no : Err _ ≡ Ok r = done in cc)
]

is_begun : (places : Store) (t : FlexState) (start end : ℕ) (r : FlexState × Unit {0}) → flex_after_init places t start end ≡ Ok r
    → IsBegun places t start end r
unfolding flex_after_init
is_begun places t start end r is =
    let parts = begun_from places t start end t.flex r is in
    record { none = parts.0; room = parts.1.0; left = parts.1.1 }

no_extent : (m : AddressMap) (o : Option Extent) → flex_in m o ≡ None → o ≡ None
no_extent m None is = refl
no_extent m (Some e) is = absurd (let no : Some _ ≡ None = is in cc)

an_extent : (m : AddressMap) (o : Option Extent) (s : FlexStore) → flex_in m o ≡ Some s → is_some o ≡ true
an_extent m None s is = absurd (let no : None ≡ Some s = is in cc)
an_extent m (Some e) s is = refl

-- what stands on the memory where it was done
begun_leaves : (m n : AddressMap) (f g : Flex) (start end : ℕ) (r : FlexState × Unit {0}) → HasFlex m f
    → flex_after_init (store_of m) (flex_state_of m f) start end ≡ Ok r → flex_state_of n g ≡ r.0 → KeepsMarksAndHeaps m n g.extent
    → regions n ≡ regions m ++ flex_record start end ∷ [] → LeavesFlex m n g
unfolding flex_state_of
begun_leaves m n f g start end r has is state made records =
    let begun : IsBegun (store_of m) (flex_state_of m f) start end r =
    is_begun (store_of m) (flex_state_of m f) start end r is in
    let none : f.extent ≡ None = no_extent m f.extent begun.none in
    let some : is_some g.extent ≡ true =
    an_extent n g.extent _ (ap (λ (t : FlexState). t.flex) (state ∙ sym begun.left)) in
    record {
      flex = has_made m n f g start end has none some made records;
      classes = made.classes;
      module_state = λ l ms pending module_state.
          begun_module_state (module_state_of m l ms) (module_state_of n l ms) pending start end
          (record {
            area_store = made_areas m n g l start end made records (room_there m start end begun.room) module_state.area_store;
            others = others_made m n start end records;
            modules = refl;
            first = has.beside ∙ ap records_with none;
          })
          module_state;
    }

-- and where it was refused
unbegun_leaves : (m n : AddressMap) (f g : Flex) → HasFlex m f → flex_state_of n g ≡ flex_state_of m f
    → KeepsMarksAndHeaps m n g.extent → regions n ≡ regions m → LeavesFlex m n g
unbegun_leaves m n f g has state made records =
    let left = unmade_left m n f g has.is made records state in
    let others = ap (λ (s : Store). s.others) left.0 in
    record {
      flex = record {
        is = made.flex;
        free = rw left.0 has.free;
        beside =
            ap count_beside others ∙ has.beside ∙ ap (λ (h : Flex). records_with h.extent) (sym left.1);
      };
      classes = made.classes;
      module_state = λ l ms pending module_state.
          module_state_kept (module_state_of m l ms) (module_state_of n l ms) pending module_state refl others
          (unmade_areas m n g l made left.0 module_state.area_store);
    }

pub made_leaves : (m n : AddressMap) (f g : Flex) (start end : ℕ) (r : Result (FlexState × Unit {0}) ErrorNumber)
    (x : Result (Unit {0}) ErrorNumber) → HasFlex m f → flex_after_init (store_of m) (flex_state_of m f) start end ≡ r
    → Gives {U = Unit {0}} (flex_state_of m f) r x (flex_state_of n g) → KeepsMarksAndHeaps m n g.extent
    → MatchResult x (λ _. regions n ≡ regions m ++ flex_record start end ∷ []) (λ _. regions n ≡ regions m)
    → LeavesFlex m n g
made_leaves m n f g start end (Ok r) (Ok u) has is gives made records =
    begun_leaves m n f g start end r has is gives.0 made records
made_leaves m n f g start end (Err e) (Err d) has is gives made records =
    unbegun_leaves m n f g has gives.1 made records
made_leaves m n f g start end (Ok r) (Err d) has is gives made records = absurd gives
made_leaves m n f g start end (Err e) (Ok u) has is gives made records = absurd gives

-- memory and the store then
made_so : (m n : AddressMap) (f g : Flex) (start end : ℕ) (r : Result (FlexState × Unit {0}) ErrorNumber)
    (x : Result (Unit {0}) ErrorNumber) → IsFlex m f
    → Gives {U = Unit {0}} (flex_state_of m f) r x (flex_state_of n g) → KeepsMarksAndHeaps m n g.extent
    → MatchResult x (λ _. regions n ≡ regions m ++ flex_record start end ∷ []) (λ _. regions n ≡ regions m)
    → Gives {U = Unit {0}} (memory_of m f) (memory_after_flex (with_flex_record (store_of m) start end) r) x (memory_of n g)
made_so m n f g start end (Ok r) (Ok u) is gives made records =
    let left = made_left m n g r.0 start end made records gives.0 in
    (λ i. record { store = left.0 i; flex = left.1 i }, gives.1)
made_so m n f g start end (Err e) (Err d) is gives made records =
    let left = unmade_left m n f g is made records gives.1 in
    (gives.0, λ i. record { store = left.0 i; flex = left.1 i })
made_so m n f g start end (Ok r) (Err d) is gives made records = absurd gives
made_so m n f g start end (Err e) (Ok u) is gives made records = absurd gives

pub made_given : (m n : AddressMap) (f g : Flex) (start end : ℕ) (x : Result (Unit {0}) ErrorNumber) → IsFlex m f
    → Gives {U = Unit {0}} (flex_state_of m f) (flex_after_init (store_of m) (flex_state_of m f) start end) x (flex_state_of n g)
    → KeepsMarksAndHeaps m n g.extent
    → MatchResult x (λ _. regions n ≡ regions m ++ flex_record start end ∷ []) (λ _. regions n ≡ regions m)
    → Gives {U = Unit {0}} (memory_of m f) (flex_in_range (memory_of m f) start end) x (memory_of n g)
made_given m n f g start end x is gives made records =
    made_so m n f g start end (flex_after_init (store_of m) (state_in (memory_of m f)) start end) x is
    (subst (λ (t : FlexState). Gives {U = Unit {0}} (flex_state_of m f) (flex_after_init (store_of m) t start end) x
    (flex_state_of n g)) (state_is m f) gives) made records
