-- An instance gets another name.
use Rattle.std.proofs.Common.{◌≡◌, ℕ, ◌+◌, ◌<◌, ◌≤◌, ◌==◌, true, false, List, [], ◌∷◌, map, refl, inl, inr, zero, suc, arith}
use Rattle.std.specs.Prelude.{slice_get}
use Rattle.std.specs.List.{list_any}
use Rattle.std.specs.Str.{str_eq_ignore_ascii_case}
use Rattle.std.proofs.lemmas.Bool.{cases_Bool}
use Rattle.instances_table.specs.Modules.{Instance, Module, has_title, has_name, has_slot, number_passing, slot_count, IsModule, EachIsModule, AreModules}
use Rattle.instances_table.specs.Changes.{module_has_slot, is_named, with_name, with_names, modules_with_names}
use Rattle.instances_table.proofs.RoomLemmas.{at_most_one, below_64}
use Rattle.instances_table.proofs.Counting.{count_none, count_some, count_same, count-map, same_test}

-- how many instances have a name afterwards: one more at most where it is the new one, and no more
-- where it is another
named_same : (slot : ℕ) (name n : List ℕ) (is : List Instance) → str_eq_ignore_ascii_case name n ≡ true
    → number_passing (has_name n) (map (with_name slot name) is) ≤ number_passing (has_name n) is + number_passing (has_slot slot) is
named_same slot name n [] same = omega arith
named_same slot name n (i ∷ is) same =
    let rest = named_same slot name n is same in
    elim (cases_Bool (i.slot == slot)) [
      | inl e ↦ rw (e, same) (omega (arith, rest))
      | inr e ↦ rw e (omega (arith, rest))
    ]

named_other : (slot : ℕ) (name n : List ℕ) (is : List Instance) → str_eq_ignore_ascii_case name n ≡ false
    → number_passing (has_name n) (map (with_name slot name) is) ≤ number_passing (has_name n) is
named_other slot name n [] other = omega arith
named_other slot name n (i ∷ is) other =
    let rest = named_other slot name n is other in
    elim (cases_Bool (i.slot == slot)) [
      | inl e ↦ rw (e, other) (omega (arith, rest))
      | inr e ↦ rw e (omega (arith, rest))
    ]

slots_named : (s slot : ℕ) (name : List ℕ) (is : List Instance) → number_passing (has_slot s) (map (with_name slot name) is) ≡ number_passing (has_slot s) is
slots_named s slot name [] = refl
slots_named s slot name (i ∷ is) =
    let rest = slots_named s slot name is in
    elim (cases_Bool (i.slot == slot)) [
      | inl e ↦ rw e (omega (arith, rest))
      | inr e ↦ rw e (omega (arith, rest))
    ]

any_named : (s slot : ℕ) (name : List ℕ) (is : List Instance) → list_any (has_slot s) is ≡ true → list_any (has_slot s) (map (with_name slot name) is) ≡ true
any_named s slot name [] some = some
any_named s slot name (i ∷ is) some =
    elim (cases_Bool (i.slot == s)) [
      | inl e ↦ elim (cases_Bool (i.slot == slot)) [ inl f ↦ rw (f, e) refl | inr f ↦ rw (f, e) refl ]
      | inr e ↦
          let rest = any_named s slot name is (rw e at some) in
          elim (cases_Bool (i.slot == slot)) [ inl f ↦ rw (f, e) rest | inr f ↦ rw (f, e) rest ]
    ]

-- a module without the slot keeps its names, and the one with it gets a name that none of its
-- instances has
unnamed_module : (slot : ℕ) (name : List ℕ) (m : Module) → number_passing (has_slot slot) m.instances ≡ 0 → IsModule m → IsModule (with_names slot name m)
unnamed_module slot name m none is = record {
  names = λ n. elim (cases_Bool (str_eq_ignore_ascii_case name n)) [
    | inl e ↦ omega (arith, named_same slot name n m.instances e, is.names n)
    | inr e ↦ omega (arith, named_other slot name n m.instances e, is.names n)
  ];
  preferred = any_named m.preferred slot name m.instances is.preferred;
}

named_module : (slot : ℕ) (name : List ℕ) (m : Module) → number_passing (has_slot slot) m.instances ≤ 1 → list_any (has_name name) m.instances ≡ false
    → IsModule m → IsModule (with_names slot name m)
named_module slot name m once free is = record {
  names = λ n. elim (cases_Bool (str_eq_ignore_ascii_case name n)) [
    | inl e ↦
        let same : number_passing (has_name name) m.instances ≡ number_passing (has_name n) m.instances =
        count_same (has_name name) (has_name n) m.instances (λ i. same_test name n i.name e) in
        omega (arith, named_same slot name n m.instances e, same, count_none (has_name name) m.instances free)
    | inr e ↦ omega (arith, named_other slot name n m.instances e, is.names n)
  ];
  preferred = any_named m.preferred slot name m.instances is.preferred;
}

each_unnamed : (slot : ℕ) (name : List ℕ) (ms : List Module) → slot_count slot ms ≡ 0 → EachIsModule ms → EachIsModule (modules_with_names slot name ms)
each_unnamed slot name [] none each = tt
each_unnamed slot name (m ∷ ms) none each =
    (unnamed_module slot name m (omega arith) each.0, each_unnamed slot name ms (omega arith) each.1)

held_at : (slot : ℕ) (ms : List Module) (k : ℕ) → module_has_slot slot (slice_get ms k) ≡ true → 1 ≤ slot_count slot ms
held_at slot [] k has = absurd (let e : false ≡ true = has in cc)
held_at slot (n ∷ ms) zero has = omega (arith, count_some (has_slot slot) n.instances has)
held_at slot (n ∷ ms) (suc k) has = omega (arith, held_at slot ms k has)

each_named : (slot : ℕ) (name : List ℕ) (ms : List Module) (k : ℕ) → slot_count slot ms ≤ 1 → module_has_slot slot (slice_get ms k) ≡ true
    → is_named name (slice_get ms k) ≡ false → EachIsModule ms → EachIsModule (modules_with_names slot name ms)
each_named slot name [] k once has free each = tt
each_named slot name (n ∷ ms) zero once has free each =
    let some = count_some (has_slot slot) n.instances has in
    (named_module slot name n (omega arith) free each.0, each_unnamed slot name ms (omega (arith, some)) each.1)
each_named slot name (n ∷ ms) (suc k) once has free each =
    let later = held_at slot ms k has in
    (unnamed_module slot name n (omega (arith, later)) each.0, each_named slot name ms k (omega arith) has free each.1)

slots_kept : (s slot : ℕ) (name : List ℕ) (ms : List Module) → slot_count s (modules_with_names slot name ms) ≡ slot_count s ms
slots_kept s slot name [] = refl
slots_kept s slot name (m ∷ ms) = rw (slots_named s slot name m.instances, slots_kept s slot name ms) refl

pub held_below : (ms : List Module) (k slot : ℕ) → AreModules ms → module_has_slot slot (slice_get ms k) ≡ true → slot < 64
held_below ms k slot are has = below_64 slot (slot_count slot ms) (held_at slot ms k has) (are.slots slot)

pub other_name : (ms : List Module) (k slot : ℕ) (name : List ℕ) → AreModules ms → module_has_slot slot (slice_get ms k) ≡ true
    → is_named name (slice_get ms k) ≡ false → AreModules (modules_with_names slot name ms)
other_name ms k slot name are has free = record {
  titles = λ title. rw (count-map (with_names slot name) (has_title title) ms) (are.titles title);
  slots = λ s. rw (slots_kept s slot name ms) (are.slots s);
  each = each_named slot name ms k (at_most_one slot (slot_count slot ms) (are.slots slot)) has free are.each;
}
