-- There is room for what is put in: slots differ and are below 64.
use Rattle.std.proofs.Common.{◌≡◌, ℕ, ◌+◌, ◌<◌, ◌≤◌, ◌==◌, Bool, true, false, List, [], ◌∷◌, ◌++◌, length, map, refl, sym, ap, ◌∙◌, inl, inr, cond, zero, suc, Some, None, eqb, get_or, arith, length-append}
use Rattle.std.specs.Prelude.{Option, slice_get, nat_lt}
use Rattle.std.specs.List.{list_any, IsDistinct, AllByRecursion}
use Rattle.std.proofs.lemmas.Bool.{cases_Bool, eqb-true, eq-eqb, ltb-true}
use Rattle.std.proofs.lemmas.List.{length-map}
use Rattle.std.proofs.lemmas.Map.Steps.{length-le_from_distinct_below}
use Rattle.instances_table.specs.Modules.{slots_of, Instance, Module, has_slot, has_instance, number_passing, slot_count, EachIsModule, AreModules}
use Rattle.instances_table.specs.Changes.{is_slot_held}
use Rattle.instances_table.proofs.Counting.{count-map, count_some}
use Rattle.instances_table.proofs.ModuleLemmas.{not_held}

count_append : {X : Type 0} (p : X → Bool) (xs ys : List X) → number_passing p (xs ++ ys) ≡ number_passing p xs + number_passing p ys
count_append p [] ys = omega arith
count_append p (x ∷ xs) ys = omega (arith, count_append p xs ys)

pub slots_counted : (s : ℕ) (ms : List Module) → number_passing (λ x. x == s) (slots_of ms) ≡ slot_count s ms
slots_counted s [] = refl
slots_counted s (m ∷ ms) =
    rw (
      count_append (λ x. x == s) (map (λ (i : Instance). i.slot) m.instances) (slots_of ms),
      count-map (λ (i : Instance). i.slot) (λ x. x == s) m.instances,
      slots_counted s ms,
    ) refl

-- a list in which each number is at most once has no two that are equal
others_differ : (x : ℕ) (xs : List ℕ) → number_passing (λ y. y == x) xs ≡ 0 → AllByRecursion (λ y. eqb x y ≡ false) xs
others_differ x [] none = tt
others_differ x (y ∷ ys) none =
    elim (cases_Bool (y == x)) [
      | inl e ↦ absurd (let n = rw e at none in omega arith)
      | inr e ↦
          let n = rw e at none in
          let differ : eqb x y ≡ false = elim (cases_Bool (eqb x y)) [
            | inl f ↦ let same : (y == x) ≡ true = eq-eqb y x (sym (eqb-true x y f)) in absurd (cc)
            | inr f ↦ f
          ] in
          (differ, others_differ x ys (omega arith))
    ]

distinct_from_counts : (xs : List ℕ) → ((x : ℕ) → number_passing (λ y. y == x) xs ≤ 1) → IsDistinct eqb xs
unfolding IsDistinct
distinct_from_counts [] once = tt
distinct_from_counts (x ∷ xs) once =
    let same : (x == x) ≡ true = eq-eqb x x refl in
    let here = rw same at (once x) in
    (others_differ x xs (omega (arith, here)), distinct_from_counts xs (λ y. omega (arith, once y)))

counted : (q : ℕ) (xs : List ℕ) → list_any (eqb q) xs ≡ true → 1 ≤ number_passing (λ y. y == q) xs
counted q [] some = absurd (let e : false ≡ true = some in cc)
counted q (y ∷ ys) some =
    elim (cases_Bool (eqb q y)) [
      | inl e ↦ rw (eq-eqb y q (sym (eqb-true q y e))) (omega arith)
      | inr e ↦ omega (arith, counted q ys (rw e at some))
    ]

-- each module has an instance, and no module has more instances than all have together
pub modules_le : (ms : List Module) → EachIsModule ms → length ms ≤ length (slots_of ms)
modules_le [] each = omega arith
modules_le (m ∷ ms) each =
    let some : 1 ≤ length m.instances = has_one m.instances (λ (i : Instance). i.slot == m.preferred) each.0.preferred in
    rw length-append (omega (arith, some, modules_le ms each.1, length-map m.instances (λ (i : Instance). i.slot)))
  where
    has_one : (is : List Instance) (p : Instance → Bool) → list_any p is ≡ true → 1 ≤ length is
    has_one [] p some = absurd (let e : false ≡ true = some in cc)
    has_one (i ∷ is) p some = omega arith

instances_le : (ms : List Module) (k : ℕ) (m : Module) → slice_get ms k ≡ Some m → length m.instances ≤ length (slots_of ms)
instances_le [] k m found = absurd (let e : None ≡ Some m = found in cc)
instances_le (n ∷ ms) zero m found =
    let same : length n.instances ≡ length m.instances = ap (λ (o : Option Module). elim o as (λ _. ℕ) [ Some x ↦ length x.instances | None ↦ 0 ]) found in
    rw length-append (omega (arith, same, length-map n.instances (λ (i : Instance). i.slot)))
instances_le (n ∷ ms) (suc k) m found = rw length-append (omega (arith, instances_le ms k m found))

pub below_64 : (s n : ℕ) → 1 ≤ n → n ≤ cond (nat_lt s 64) 1 0 → s < 64
below_64 s n some few = elim (cases_Bool (nat_lt s 64)) [ inl e ↦ ltb-true s 64 e | inr e ↦ let none : n ≤ 0 = rw e at few in absurd (omega arith) ]

pub at_most_one : (s n : ℕ) → n ≤ cond (nat_lt s 64) 1 0 → n ≤ 1
at_most_one s n few = elim (cases_Bool (nat_lt s 64)) [ inl e ↦ rw e at few | inr e ↦ let none : n ≤ 0 = rw e at few in omega arith ]

-- where a slot below 64 is free, fewer than 64 are held
fewer : (ms : List Module) (slot : ℕ) → AreModules ms → slot < 64 → is_slot_held slot ms ≡ false → length (slots_of ms) < 64
unfolding IsDistinct
fewer ms slot are below fresh =
    let none : number_passing (λ y. y == slot) (slots_of ms) ≡ 0 = slots_counted slot ms ∙ not_held slot ms fresh in
    let apart : IsDistinct eqb (slots_of ms) =
    distinct_from_counts (slots_of ms) (λ x. omega (arith, slots_counted x ms, at_most_one x (slot_count x ms) (are.slots x))) in
    let all : IsDistinct eqb (slot ∷ slots_of ms) = (others_differ slot (slots_of ms) none, apart) in
    let most : length (slot ∷ slots_of ms) ≤ 64 = length-le_from_distinct_below (slot ∷ slots_of ms) 64 all (λ q some.
    elim (cases_Bool (eqb q slot)) [
      | inl e ↦ let same : q ≡ slot = eqb-true q slot e in omega arith
      | inr e ↦
          let later : list_any (eqb q) (slots_of ms) ≡ true = rw e at some in
          below_64 q (slot_count q ms) (omega (arith, counted q (slots_of ms) later, slots_counted q ms)) (are.slots q)
    ]) in
    omega arith

-- no more than 64 instances have slots
pub most_slots : (ms : List Module) → AreModules ms → length (slots_of ms) ≤ 64
most_slots ms are =
    let apart : IsDistinct eqb (slots_of ms) =
    distinct_from_counts (slots_of ms) (λ x. omega (arith, slots_counted x ms, at_most_one x (slot_count x ms) (are.slots x))) in
    length-le_from_distinct_below (slots_of ms) 64 apart
    (λ q some. below_64 q (slot_count q ms) (omega (arith, counted q (slots_of ms) some, slots_counted q ms)) (are.slots q))

pub room_for_module : (ms : List Module) (slot : ℕ) → AreModules ms → slot < 64 → is_slot_held slot ms ≡ false → length ms < 64
room_for_module ms slot are below fresh = omega (arith, modules_le ms are.each, fewer ms slot are below fresh)

pub room_for_instance : (ms : List Module) (slot k : ℕ) (m : Module) → AreModules ms → slot < 64 → is_slot_held slot ms ≡ false → slice_get ms k ≡ Some m
    → length m.instances < 64
room_for_instance ms slot k m are below fresh found = omega (arith, instances_le ms k m found, fewer ms slot are below fresh)

pub few_modules : (ms : List Module) → AreModules ms → length ms ≤ 64
few_modules ms are = omega (arith, modules_le ms are.each, most_slots ms are)

-- each slot that an instance has is below 64
counted_at : (xs : List ℕ) (k : ℕ) → k < length xs → 1 ≤ number_passing (λ y. y == get_or xs k 0) xs
counted_at [] k within = absurd (omega arith)
counted_at (x ∷ xs) zero within = rw (eq-eqb x x refl) (omega arith)
counted_at (x ∷ xs) (suc k) within = omega (arith, counted_at xs k (omega arith))

pub slots_low : (ms : List Module) → AreModules ms → (k : ℕ) → k < length (slots_of ms) → get_or (slots_of ms) k 0 < 64
slots_low ms are k within =
    let s : ℕ = get_or (slots_of ms) k 0 in
    below_64 s (slot_count s ms) (omega (arith, counted_at (slots_of ms) k within, slots_counted s ms)) (are.slots s)

-- an instance that is there has a slot below 64
count_held : (slot : ℕ) (ms : List Module) → is_slot_held slot ms ≡ true → 1 ≤ slot_count slot ms
count_held slot [] held = absurd (let e : false ≡ true = held in cc)
count_held slot (m ∷ ms) held = elim (cases_Bool (has_instance slot m)) [
  | inl e ↦ omega (arith, count_some (has_slot slot) m.instances e)
  | inr e ↦ omega (arith, count_held slot ms (rw e at held))
]

pub held_slot : (slot : ℕ) (ms : List Module) → AreModules ms → is_slot_held slot ms ≡ true → slot < 64
held_slot slot ms are held = below_64 slot (slot_count slot ms) (count_held slot ms held) (are.slots slot)

-- and no other instance has it
pub slots_once : (ms : List Module) → AreModules ms → (slot : ℕ) → is_slot_held slot ms ≡ true → number_passing (λ x. x == slot) (slots_of ms) ≡ 1
slots_once ms are slot held =
    omega (arith, slots_counted slot ms, count_held slot ms held, at_most_one slot (slot_count slot ms) (are.slots slot))
