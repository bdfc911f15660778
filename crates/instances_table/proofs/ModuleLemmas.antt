-- What holds of every list of modules holds after each change.
use Rattle.std.proofs.Common.{◌≡◌, ℕ, ◌+◌, ◌<◌, ◌≤◌, ◌==◌, Bool, true, false, List, [], ◌∷◌, ◌++◌, refl, sym, ap, subst, inl, inr, cond, zero, suc, Some, None, arith}
use Rattle.std.specs.Prelude.{Option, slice_get, nat_lt, codes}
use Rattle.std.specs.List.{list_any}
use Rattle.std.specs.Str.{str_eq_ignore_ascii_case}
use Rattle.std.proofs.lemmas.Bool.{cases_Bool, eqb-true, eq-eqb, or_parts, lt-ltb, ltb-true}
use Rattle.profile.specs.declared.images.module_header.header.Header.{Header}
use Rattle.instances_table.specs.declared.parts.Image.{Image}
use Rattle.instances_table.specs.Modules.{Instance, Module, has_title, has_name, has_slot, has_instance, number_passing, slot_count, IsModule, EachIsModule, AreModules, changed_at}
use Rattle.instances_table.specs.Changes.{is_slot_held, is_new, is_named, module_has_slot, new_module, with_instance, with_preferred, with_image_at}
use Rattle.instances_table.proofs.Counting.{count_push, count_none, count_changed, count_named}

pub not_held : (slot : ℕ) (ms : List Module) → is_slot_held slot ms ≡ false → slot_count slot ms ≡ 0
not_held slot [] none = refl
not_held slot (m ∷ ms) none =
    let parts = or_parts (has_instance slot m) (is_slot_held slot ms) none in
    rw (count_none (has_slot slot) m.instances parts.0, not_held slot ms parts.1) refl

-- a slot among many
slot_at : (slot : ℕ) (ms : List Module) (k : ℕ) (m : Module) → slice_get ms k ≡ Some m → number_passing (has_slot slot) m.instances ≤ slot_count slot ms
slot_at slot [] k m found = absurd (let e : None ≡ Some m = found in cc)
slot_at slot (n ∷ ms) zero m found = let same : n ≡ m = cc in rw same (omega arith)
slot_at slot (n ∷ ms) (suc k) m found = omega (arith, slot_at slot ms k m found)

slots_push : (s : ℕ) (ms : List Module) (m : Module) → slot_count s (ms ++ m ∷ []) ≡ slot_count s ms + number_passing (has_slot s) m.instances
slots_push s [] m = omega arith
slots_push s (n ∷ ms) m = omega (arith, slots_push s ms m)

each_push : (ms : List Module) (m : Module) → EachIsModule ms → IsModule m → EachIsModule (ms ++ m ∷ [])
each_push [] m each is = (is, tt)
each_push (n ∷ ms) m each is = (each.0, each_push ms m each.1 is)

pub each_at : (ms : List Module) (k : ℕ) (m : Module) → EachIsModule ms → slice_get ms k ≡ Some m → IsModule m
each_at [] k m each found = absurd (let e : None ≡ Some m = found in cc)
each_at (n ∷ ms) zero m each found = let same : n ≡ m = cc in subst IsModule same each.0
each_at (n ∷ ms) (suc k) m each found = each_at ms k m each.1 found

-- one module more
first_alone : (header : Header) (image : Image) (slot : ℕ) → IsModule (new_module header image slot)
first_alone header image slot = record {
  names = λ name. elim (cases_Bool (str_eq_ignore_ascii_case (codes "Base") name)) [ inl e ↦ rw e (omega arith) | inr e ↦ rw e (omega arith) ];
  preferred = rw (eq-eqb slot slot refl) refl;
}

-- each slot is held at most once after one that was free is taken
taken_once : (s slot old extra : ℕ) → slot < 64 → old ≤ cond (nat_lt s 64) 1 0 → (s ≡ slot → old ≡ 0) → extra ≤ cond (slot == s) 1 0
    → old + extra ≤ cond (nat_lt s 64) 1 0
taken_once s slot old extra below few fresh more =
    elim (cases_Bool (slot == s)) [
      | inl e ↦
          let same : slot ≡ s = eqb-true slot s e in
          let most : extra ≤ 1 = rw e at more in
          let none : old ≡ 0 = fresh (sym same) in
          rw (lt-ltb s 64 (omega arith)) (omega arith)
      | inr e ↦
          let most : extra ≤ 0 = rw e at more in
          omega arith
    ]

pub module_added : (ms : List Module) (header : Header) (image : Image) (slot : ℕ) → AreModules ms → slot < 64 → is_slot_held slot ms ≡ false
    → list_any (has_title header.title.items) ms ≡ false → AreModules (ms ++ new_module header image slot ∷ [])
module_added ms header image slot are below fresh untitled = record {
  titles = count_named (λ (m : Module). m.header.title.items) ms (new_module header image slot) untitled are.titles;
  slots = λ s.
      let more = slots_push s ms (new_module header image slot) in
      rw more (taken_once s slot _ _ below (are.slots s) (λ same. rw same (not_held slot ms fresh)) (omega arith));
  each = each_push ms (new_module header image slot) are.each (first_alone header image slot);
}

-- a module changed
each_changed : (ms : List Module) (k : ℕ) (change : Module → Module) → EachIsModule ms
    → ((m : Module) → slice_get ms k ≡ Some m → IsModule m → IsModule (change m)) → EachIsModule (changed_at k change ms)
each_changed [] k change each good = tt
each_changed (m ∷ ms) zero change each good = (good m refl each.0, each.1)
each_changed (m ∷ ms) (suc k) change each good = (each.0, each_changed ms k change each.1 good)

slots_changed : (s extra : ℕ) (ms : List Module) (k : ℕ) (change : Module → Module)
    → ((m : Module) → number_passing (has_slot s) (change m).instances ≤ number_passing (has_slot s) m.instances + extra)
    → slot_count s (changed_at k change ms) ≤ slot_count s ms + extra
slots_changed s extra [] k change most = omega arith
slots_changed s extra (m ∷ ms) zero change most = omega (arith, most m)
slots_changed s extra (m ∷ ms) (suc k) change most = omega (arith, slots_changed s extra ms k change most)

slots_same : (s : ℕ) (ms : List Module) (k : ℕ) (change : Module → Module)
    → ((m : Module) → number_passing (has_slot s) (change m).instances ≡ number_passing (has_slot s) m.instances)
    → slot_count s (changed_at k change ms) ≡ slot_count s ms
slots_same s [] k change same = refl
slots_same s (m ∷ ms) zero change same = rw (same m) refl
slots_same s (m ∷ ms) (suc k) change same = ap (λ n. number_passing (has_slot s) m.instances + n) (slots_same s ms k change same)

any_push : {X : Type 0} (p : X → Bool) (xs : List X) (y : X) → list_any p xs ≡ true → list_any p (xs ++ y ∷ []) ≡ true
any_push p [] y some = absurd (let e : false ≡ true = some in cc)
any_push p (x ∷ xs) y some =
    elim (cases_Bool (p x)) [
      | inl e ↦ rw e refl
      | inr e ↦ let rest = rw e at some in rw e (any_push p xs y rest)
    ]

one_more : (m : Module) (name : List ℕ) (slot : ℕ) → list_any (has_name name) m.instances ≡ false → IsModule m → IsModule (with_instance name slot m)
one_more m name slot free is = record {
  names = count_named (λ (i : Instance). i.name) m.instances (record { name = name; slot = slot }) free is.names;
  preferred = any_push (has_slot m.preferred) m.instances _ is.preferred;
}

pub instance_added : (ms : List Module) (k : ℕ) (name : List ℕ) (slot : ℕ) → AreModules ms → slot < 64 → is_slot_held slot ms ≡ false
    → is_named name (slice_get ms k) ≡ false → AreModules (changed_at k (with_instance name slot) ms)
instance_added ms k name slot are below fresh free = record {
  titles = λ title. rw (count_changed (has_title title) (with_instance name slot) k ms (λ n. refl)) (are.titles title);
  slots = λ s.
      let most = slots_changed s (cond (slot == s) 1 0) ms k (with_instance name slot)
      (λ n. rw (count_push (has_slot s) n.instances (record { name = name; slot = slot })) (omega arith)) in
      let once = taken_once s slot (slot_count s ms) (cond (slot == s) 1 0) below (are.slots s) (λ same. rw same (not_held slot ms fresh)) (omega arith) in
      omega (arith, most, once);
  each = each_changed ms k (with_instance name slot) are.each
      (λ n there is. one_more n name slot (subst (λ (o : Option Module). is_named name o ≡ false) there free) is);
}

-- another preferred instance
pub other_preferred : (ms : List Module) (k slot : ℕ) → AreModules ms → module_has_slot slot (slice_get ms k) ≡ true
    → AreModules (changed_at k (with_preferred slot) ms)
other_preferred ms k slot are has = record {
  titles = λ title. rw (count_changed (has_title title) (with_preferred slot) k ms (λ n. refl)) (are.titles title);
  slots = λ s. rw (slots_same s ms k (with_preferred slot) (λ n. refl)) (are.slots s);
  each = each_changed ms k (with_preferred slot) are.each
      (λ n there is. record { names = is.names; preferred = subst (λ (o : Option Module). module_has_slot slot o ≡ true) there has });
}

-- another image
pub image_moved : (ms : List Module) (k at : ℕ) → AreModules ms → AreModules (changed_at k (with_image_at at) ms)
image_moved ms k at are = record {
  titles = λ title. rw (count_changed (has_title title) (with_image_at at) k ms (λ n. refl)) (are.titles title);
  slots = λ s. rw (slots_same s ms k (with_image_at at) (λ n. refl)) (are.slots s);
  each = each_changed ms k (with_image_at at) are.each (λ n there is. record { names = is.names; preferred = is.preferred });
}

-- what it takes for a module to be new
pub record IsNew (title : List ℕ) (slot : ℕ) (ms : List Module) : Type 0 where
  pub below : slot < 64
  pub free : is_slot_held slot ms ≡ false
  pub untitled : list_any (has_title title) ms ≡ false

pub new_parts : (title : List ℕ) (slot : ℕ) (ms : List Module) → is_new title slot ms ≡ true → IsNew title slot ms
new_parts title slot ms new =
    elim (cases_Bool (nat_lt slot 64)) [
      | inr a ↦ absurd (let e : false ≡ true = rw a at new in cc)
      | inl a ↦ elim (cases_Bool (is_slot_held slot ms)) [
        | inl b ↦ absurd (let e : false ≡ true = rw (a, b) at new in cc)
        | inr b ↦ elim (cases_Bool (list_any (has_title title) ms)) [
          | inl d ↦ absurd (let e : false ≡ true = rw (a, b, d) at new in cc)
          | inr d ↦ record { below = ltb-true slot 64 a; free = b; untitled = d }
        ]
      ]
    ]
