-- The slots of instances, of all modules or of those whose headers pass a test, after each change
-- of the list.
use Rattle.std.proofs.Common.{◌≡◌, ℕ, ◌≤◌, ◌==◌, ◌||◌, Bool, true, false, List, [], ◌∷◌, ◌++◌, map, refl, sym, ap, ◌∙◌, inl, inr, append_assoc, arith}
use Rattle.std.specs.Prelude.{if◌then◌else◌}
use Rattle.std.specs.List.{list_any}
use Rattle.std.specs.Str.{str_eq_ignore_ascii_case}
use Rattle.std.proofs.lemmas.Bool.{cases_Bool, or_parts}
use Rattle.instances_table.specs.plans.Header.{Header}
use Rattle.instances_table.specs.plans.Doable.{is_used, without}
use Rattle.instances_table.specs.Modules.{Instance, Module, has_instance, has_slot, number_passing, slot_count, slots_of}
use Rattle.instances_table.specs.Changes.{is_slot_held, still, without_first_passing, without_instance}
use Rattle.instances_table.proofs.Counting.{count_some, none_counted}
use Rattle.instances.specs.actions.Pending.{slots_titled}

abbrev pub slots_in : List Instance → List ℕ
slots_in instances = map (λ (i : Instance). i.slot) instances

-- the slots of the instances of modules whose headers pass a test
abbrev pub slots_by : (Header → Bool) → List Module → List ℕ
slots_by test [] = []
slots_by test (m ∷ ms) = if test m.header then slots_in m.instances ++ slots_by test ms else slots_by test ms

abbrev pub any_header : Header → Bool
any_header h = true

abbrev pub of_title : List ℕ → Header → Bool
of_title title h = str_eq_ignore_ascii_case h.title.items title

pub slots_all : (ms : List Module) → slots_by any_header ms ≡ slots_of ms
slots_all [] = refl
slots_all (m ∷ ms) = ap (λ (xs : List ℕ). slots_in m.instances ++ xs) (slots_all ms)

pub slots_of_title : (title : List ℕ) (ms : List Module) → slots_by (of_title title) ms ≡ slots_titled title ms
slots_of_title title [] = refl
slots_of_title title (m ∷ ms) = rw (slots_of_title title ms) refl

-- which slots are among them
pub used_among : (s : ℕ) (is : List Instance) → is_used s (slots_in is) ≡ list_any (has_slot s) is
used_among s [] = refl
used_among s (i ∷ is) = ap (λ (b : Bool). i.slot == s || b) (used_among s is)

pub used_append : (s : ℕ) (xs ys : List ℕ) → is_used s (xs ++ ys) ≡ (is_used s xs || is_used s ys)
used_append s [] ys = refl
used_append s (x ∷ xs) ys = elim (cases_Bool (x == s)) [
  | inl e ↦ rw e refl
  | inr e ↦ rw e (used_append s xs ys)
]

pub used_slots : (s : ℕ) (ms : List Module) → is_used s (slots_of ms) ≡ is_slot_held s ms
used_slots s [] = refl
used_slots s (m ∷ ms) = used_append s (slots_in m.instances) (slots_of ms) ∙ rw (used_among s m.instances, used_slots s ms) refl

not_used : (test : Header → Bool) (s : ℕ) (ms : List Module) → is_slot_held s ms ≡ false → is_used s (slots_by test ms) ≡ false
not_used test s [] none = refl
not_used test s (m ∷ ms) none =
    let parts = or_parts (has_instance s m) (is_slot_held s ms) none in
    elim (cases_Bool (test m.header)) [
      | inl e ↦ rw e (used_append s (slots_in m.instances) (slots_by test ms)
          ∙ rw (used_among s m.instances, parts.0) (not_used test s ms parts.1))
      | inr e ↦ rw e (not_used test s ms parts.1)
    ]

-- without a slot
pub without_append : (s : ℕ) (xs ys : List ℕ) → without s (xs ++ ys) ≡ without s xs ++ without s ys
without_append s [] ys = refl
without_append s (x ∷ xs) ys = elim (cases_Bool (x == s)) [
  | inl e ↦ rw e (without_append s xs ys)
  | inr e ↦ rw e (ap (λ (zs : List ℕ). x ∷ zs) (without_append s xs ys))
]

pub without_unused : (s : ℕ) (xs : List ℕ) → is_used s xs ≡ false → without s xs ≡ xs
without_unused s [] none = refl
without_unused s (x ∷ xs) none =
    let parts = or_parts (x == s) (is_used s xs) none in
    rw parts.0 (ap (λ (zs : List ℕ). x ∷ zs) (without_unused s xs parts.1))

without_instances : (s : ℕ) (is : List Instance) → number_passing (has_slot s) is ≤ 1 → without s (slots_in is) ≡ slots_in (without_first_passing (has_slot s) is)
without_instances s [] few = refl
without_instances s (i ∷ is) few = elim (cases_Bool (i.slot == s)) [
  | inl e ↦
      let less = rw e at few in
      let none : list_any (has_slot s) is ≡ false = none_counted (has_slot s) is (omega (arith, less)) in
      rw e (without_unused s (slots_in is) (used_among s is ∙ none))
  | inr e ↦
      let less = rw e at few in
      rw e (ap (λ (zs : List ℕ). i.slot ∷ zs) (without_instances s is (omega (arith, less))))
]

held_counted : (s : ℕ) (ms : List Module) → slot_count s ms ≡ 0 → is_slot_held s ms ≡ false
held_counted s [] none = refl
held_counted s (m ∷ ms) none = rw (none_counted (has_slot s) m.instances (omega arith), held_counted s ms (omega arith)) refl

left_slots : (test : Header → Bool) (s : ℕ) (m : Module) (left : List Instance) (ms : List Module)
    → slots_by test (still s m left ++ ms) ≡ (if test m.header then slots_in left ++ slots_by test ms else slots_by test ms)
left_slots test s m [] ms = elim (cases_Bool (test m.header)) [
  | inl e ↦ rw e refl
  | inr e ↦ rw e refl
]
left_slots test s m (i ∷ is) ms = refl

-- an instance goes
pub slots_less : (test : Header → Bool) (s : ℕ) (ms : List Module) → slot_count s ms ≤ 1
    → slots_by test (without_instance s ms) ≡ without s (slots_by test ms)
slots_less test s [] few = refl
slots_less test s (m ∷ ms) few = elim (cases_Bool (has_instance s m)) [
  | inl own ↦
      let some : 1 ≤ number_passing (has_slot s) m.instances = count_some (has_slot s) m.instances own in
      let later : without s (slots_by test ms) ≡ slots_by test ms =
      without_unused s (slots_by test ms) (not_used test s ms (held_counted s ms (omega (arith, few, some)))) in
      let here : without s (slots_in m.instances) ≡ slots_in (without_first_passing (has_slot s) m.instances) =
      without_instances s m.instances (omega (arith, few)) in
      rw own (left_slots test s m (without_first_passing (has_slot s) m.instances) ms ∙ elim (cases_Bool (test m.header)) [
        | inl e ↦ rw e (sym (without_append s (slots_in m.instances) (slots_by test ms) ∙ rw (here, later) refl))
        | inr e ↦ rw e (sym later)
      ])
  | inr its ↦
      let rest : slots_by test (without_instance s ms) ≡ without s (slots_by test ms) = slots_less test s ms (omega (arith, few)) in
      let here : without s (slots_in m.instances) ≡ slots_in m.instances = without_unused s (slots_in m.instances) (used_among s m.instances ∙ its) in
      rw its (elim (cases_Bool (test m.header)) [
        | inl e ↦ rw e (ap (λ (xs : List ℕ). slots_in m.instances ++ xs) rest
            ∙ sym (without_append s (slots_in m.instances) (slots_by test ms) ∙ ap (λ (xs : List ℕ). xs ++ without s (slots_by test ms)) here))
        | inr e ↦ rw e rest
      ])
]

-- a module comes
pub slots_append : (test : Header → Bool) (ms ns : List Module) → slots_by test (ms ++ ns) ≡ slots_by test ms ++ slots_by test ns
slots_append test [] ns = refl
slots_append test (m ∷ ms) ns = elim (cases_Bool (test m.header)) [
  | inl e ↦ rw e (ap (λ (xs : List ℕ). slots_in m.instances ++ xs) (slots_append test ms ns)
      ∙ sym (append_assoc (slots_in m.instances) (slots_by test ms) (slots_by test ns)))
  | inr e ↦ rw e (slots_append test ms ns)
]
