-- An instance goes, and its module with its last one.
use Rattle.std.proofs.Common.{◌≡◌, ℕ, ◌≤◌, ◌==◌, Bool, true, false, List, [], ◌∷◌, ◌++◌, refl, sym, ◌∙◌, inl, inr, cond, arith}
use Rattle.std.specs.List.{list_any}
use Rattle.std.proofs.lemmas.Bool.{cases_Bool, eqb-true, eq-eqb}
use Rattle.instances_table.specs.Modules.{Instance, Module, has_title, has_name, has_slot, has_instance, number_passing, slot_count, EachIsModule, AreModules}
use Rattle.instances_table.specs.Changes.{without_first_passing, still, without_instance}
use Rattle.instances_table.proofs.Counting.{count_without}

any_without : (p test : Instance → Bool) (is : List Instance) → list_any p is ≡ true → ((i : Instance) → test i ≡ true → p i ≡ false)
    → list_any p (without_first_passing test is) ≡ true
any_without p test [] some apart = some
any_without p test (i ∷ is) some apart =
    elim (cases_Bool (test i)) [
      | inl e ↦ rw e (let rest = rw (apart i e) at some in rest)
      | inr e ↦ rw e (elim (cases_Bool (p i)) [
        | inl f ↦ rw f refl
        | inr f ↦ let rest = any_without p test is (rw f at some) apart in rw f rest
      ])
    ]

-- what is left of a module
left_titles : (slot : ℕ) (title : List ℕ) (m : Module) (left : List Instance) (ms : List Module)
    → number_passing (has_title title) (still slot m left ++ ms) ≤ number_passing (has_title title) (m ∷ ms)
left_titles slot title m [] ms = omega arith
left_titles slot title m (i ∷ is) ms = omega arith

left_slots : (slot s : ℕ) (m : Module) (left : List Instance) (ms : List Module) → number_passing (has_slot s) left ≤ number_passing (has_slot s) m.instances
    → slot_count s (still slot m left ++ ms) ≤ slot_count s (m ∷ ms)
left_slots slot s m [] ms few = omega arith
left_slots slot s m (i ∷ is) ms few = omega arith

heir_there : (preferred : ℕ) (i : Instance) (is : List Instance) (went : Bool) → (went ≡ false → list_any (has_slot preferred) (i ∷ is) ≡ true)
    → list_any (has_slot (cond went i.slot preferred)) (i ∷ is) ≡ true
heir_there preferred i is true some = rw (eq-eqb i.slot i.slot refl) refl
heir_there preferred i is false some = some refl

left_each : (slot : ℕ) (m : Module) (left : List Instance) (ms : List Module) → EachIsModule ms
    → ((n : List ℕ) → number_passing (has_name n) left ≤ 1)
    → ((m.preferred == slot) ≡ false → list_any (has_slot m.preferred) left ≡ true) → EachIsModule (still slot m left ++ ms)
left_each slot m [] ms each names some = each
left_each slot m (i ∷ is) ms each names some =
    (record { names = names; preferred = heir_there m.preferred i is (m.preferred == slot) some }, each)

still_titles : (slot : ℕ) (title : List ℕ) (ms : List Module) → number_passing (has_title title) (without_instance slot ms) ≤ number_passing (has_title title) ms
still_titles slot title [] = omega arith
still_titles slot title (m ∷ ms) =
    elim (cases_Bool (has_instance slot m)) [
      | inl e ↦ rw e (left_titles slot title m (without_first_passing (has_slot slot) m.instances) ms)
      | inr e ↦ rw e (omega (arith, still_titles slot title ms))
    ]

still_slots : (slot s : ℕ) (ms : List Module) → slot_count s (without_instance slot ms) ≤ slot_count s ms
still_slots slot s [] = omega arith
still_slots slot s (m ∷ ms) =
    elim (cases_Bool (has_instance slot m)) [
      | inl e ↦ rw e (left_slots slot s m (without_first_passing (has_slot slot) m.instances) ms (count_without (has_slot s) (has_slot slot) m.instances))
      | inr e ↦ rw e (omega (arith, still_slots slot s ms))
    ]

apart : (slot preferred : ℕ) (i : Instance) → (preferred == slot) ≡ false → has_slot slot i ≡ true → has_slot preferred i ≡ false
apart slot preferred i differ here =
    elim (cases_Bool (i.slot == preferred)) [
      | inl e ↦
          let a : i.slot ≡ preferred = eqb-true i.slot preferred e in
          let b : i.slot ≡ slot = eqb-true i.slot slot here in
          let same : (preferred == slot) ≡ true = eq-eqb preferred slot (sym a ∙ b) in
          absurd (cc)
      | inr e ↦ e
    ]

still_each : (slot : ℕ) (ms : List Module) → EachIsModule ms → EachIsModule (without_instance slot ms)
still_each slot [] each = tt
still_each slot (m ∷ ms) each =
    elim (cases_Bool (has_instance slot m)) [
      | inl e ↦ rw e (left_each slot m (without_first_passing (has_slot slot) m.instances) ms each.1
          (λ n. omega (arith, count_without (has_name n) (has_slot slot) m.instances, each.0.names n))
          (λ differ. any_without (has_slot m.preferred) (has_slot slot) m.instances each.0.preferred (λ i here. apart slot m.preferred i differ here)))
      | inr e ↦ rw e (each.0, still_each slot ms each.1)
    ]

pub instance_gone : (slot : ℕ) (ms : List Module) → AreModules ms → AreModules (without_instance slot ms)
instance_gone slot ms are = record {
  titles = λ title. omega (arith, still_titles slot title ms, are.titles title);
  slots = λ s. omega (arith, still_slots slot s ms, are.slots s);
  each = still_each slot ms are.each;
}
