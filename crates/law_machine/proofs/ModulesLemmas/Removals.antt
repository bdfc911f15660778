-- Which instance the title of a module names after a removal.
use Rattle.std.proofs.Common.{List, ℕ, [], ◌∷◌, ◌++◌, ◌≡◌, ◌≤◌, ◌==◌, ◌⊎◌, ◌∙◌, true, false, refl, sym, ap, inl, inr, Option, Some, None, arith}
use Rattle.std.specs.List.{find, list_any}
use Rattle.std.proofs.lemmas.Bool.{both_ways, cases_Bool, eq-eqb, false≢true, ne_eqb}
use Rattle.instances_table.proofs.Counting.{count_some, none_counted}
use Rattle.instances_table.proofs.RoomLemmas.{at_most_one}
use Rattle.instances_table.specs.Changes.{still, without_first_passing, without_instance}
use Rattle.instances_table.specs.Modules.{Instance, Module, has_instance, has_slot, has_title, number_passing, slot_count}
use Rattle.law_machine.specs.modules.Preferred.{IsLeftOf, IsRemovedFrom, RemovalsPreferOldest, is_other_instance, oldest_other, module_titled}

none_titled : (title : List ℕ) (ms : List Module) → number_passing (has_title title) ms ≡ 0 → module_titled title ms ≡ None
none_titled title [] none = refl
none_titled title (m ∷ ms) none = elim (cases_Bool (has_title title m)) [
  | inl is ↦ absurd (let some = rw is at none in omega (arith, some))
  | inr other ↦ rw other (none_titled title ms (let n = rw other at none in omega (arith, n)))
]

-- the module of a title has none of the instances that no module has
titled_lacks : (title : List ℕ) (slot : ℕ) (ms : List Module) (m : Module) → slot_count slot ms ≡ 0 → module_titled title ms ≡ Some m → has_instance slot m ≡ false
titled_lacks title slot [] m none is = absurd (let no : None ≡ Some m = is in cc)
titled_lacks title slot (n ∷ ms) m none is =
    let own : number_passing (has_slot slot) n.instances ≡ 0 = omega arith in
    elim (cases_Bool (has_title title n)) [
      | inl here ↦
          let both : Some n ≡ Some m = rw here at is in
          let same : n ≡ m = cc in
          ap (has_instance slot) (sym same) ∙ none_counted (has_slot slot) n.instances own
      | inr other ↦ titled_lacks title slot ms m (omega arith) (rw other at is)
    ]

-- what is left of the instances of a module, and which is the oldest of these
record BeginsWith (slot : ℕ) (is left : List Instance) : Type 0 where
  oldest : Instance
  others : List Instance
  left_is : left ≡ oldest ∷ others
  found : find (is_other_instance slot) is ≡ Some oldest

abbrev AreLeft : ℕ → List Instance → List Instance → Type 0
AreLeft slot is left = ((left ≡ []) × (find (is_other_instance slot) is ≡ None)) ⊎ BeginsWith slot is left

all_other : (slot : ℕ) (is : List Instance) → number_passing (has_slot slot) is ≡ 0 → AreLeft slot is is
all_other slot [] none = inl (refl, refl)
all_other slot (i ∷ is) none =
    let away : (i.slot == slot) ≡ false = elim (cases_Bool (i.slot == slot)) [
      | inl here ↦ absurd (let some = rw here at none in omega (arith, some))
      | inr other ↦ other
    ] in
    inr (record { oldest = i; others = is; left_is = refl; found = rw away refl })

are_left : (slot : ℕ) (is : List Instance) → number_passing (has_slot slot) is ≤ 1 → list_any (has_slot slot) is ≡ true
    → AreLeft slot is (without_first_passing (has_slot slot) is)
are_left slot [] few some = absurd (false≢true some)
are_left slot (i ∷ is) few some = elim (cases_Bool (i.slot == slot)) [
  | inl here ↦
      let none : number_passing (has_slot slot) is ≡ 0 = (let one = rw here at few in omega (arith, one)) in
      rw here (elim (all_other slot is none) [
        | inl gone ↦ inl gone
        | inr stays ↦ inr (record { oldest = stays.oldest; others = stays.others; left_is = stays.left_is; found = rw here stays.found })
      ])
  | inr other ↦ rw other (inr (record { oldest = i; others = without_first_passing (has_slot slot) is; left_is = refl; found = rw other refl }))
]

module _ (title : List ℕ) (slot : ℕ) (n : Module) (ms : List Module) where
  own_left : (o : Option Instance) (left : List Instance) → has_title title n ≡ true → module_titled title ms ≡ None
      → ((left ≡ []) × (o ≡ None)) ⊎ ((oldest : Instance) × ((others : List Instance) × ((left ≡ oldest ∷ others) × (o ≡ Some oldest))))
      → IsLeftOf slot n o (module_titled title (still slot n left ++ ms))
  own_left o left is none reported = elim reported [
    | inl gone ↦ rw (gone.0, gone.1) none
    | inr stays ↦ rw (stays.1.1.0, stays.1.1.1, is) (record {
      still = λ other. rw (ne_eqb n.preferred slot other) refl;
      next = λ own. rw (eq-eqb n.preferred slot own) refl;
    })
  ]

  other_left : (left : List Instance) → has_title title n ≡ false → module_titled title (still slot n left ++ ms) ≡ module_titled title ms
  other_left [] other = refl
  other_left (i ∷ is) other = rw other refl

pub removed : (title : List ℕ) (slot : ℕ) (modules : List Module) (m : Module) → number_passing (has_title title) modules ≤ 1 → slot_count slot modules ≤ 1
    → module_titled title modules ≡ Some m → IsRemovedFrom slot m (module_titled title (without_instance slot modules))
removed title slot [] m titles slots is = absurd (let no : None ≡ Some m = is in cc)
removed title slot (n ∷ ms) m titles slots is = elim (cases_Bool (has_instance slot n)) [
  | inl holds ↦
      let one : 1 ≤ number_passing (has_slot slot) n.instances = count_some (has_slot slot) n.instances holds in
      let few : number_passing (has_slot slot) n.instances ≤ 1 = omega arith in
      let rest : slot_count slot ms ≡ 0 = omega arith in
      let left : List Instance = without_first_passing (has_slot slot) n.instances in
      elim (cases_Bool (has_title title n)) [
        | inl here ↦
            let both : Some n ≡ Some m = rw here at is in
            let same : n ≡ m = cc in
            let none : number_passing (has_title title) ms ≡ 0 = (let most = rw here at titles in omega (arith, most)) in
            let reported : IsLeftOf slot n (oldest_other slot n) (module_titled title (still slot n left ++ ms)) =
            own_left title slot n ms (oldest_other slot n) left here (none_titled title ms none)
            (elim (are_left slot n.instances few holds) [
              | inl gone ↦ inl gone
              | inr stays ↦ inr (stays.oldest, (stays.others, (stays.left_is, stays.found)))
            ]) in
            rw (holds, sym same) (record {
              own = λ has. reported;
              other = λ lacks. absurd (both_ways (has_instance slot n) lacks holds);
            })
        | inr away ↦
            let is' : module_titled title ms ≡ Some m = rw away at is in
            let lacks : has_instance slot m ≡ false = titled_lacks title slot ms m rest is' in
            rw holds (record {
              own = λ has. absurd (both_ways (has_instance slot m) lacks has);
              other = λ none. other_left title slot n ms left away ∙ is';
            })
      ]
  | inr lacks ↦ elim (cases_Bool (has_title title n)) [
    | inl here ↦
        let both : Some n ≡ Some m = rw here at is in
        let same : n ≡ m = cc in
        let lacks' : has_instance slot m ≡ false = ap (has_instance slot) (sym same) ∙ lacks in
        rw (lacks, here) (record {
          own = λ has. absurd (both_ways (has_instance slot m) lacks' has);
          other = λ none. both;
        })
    | inr away ↦ rw (lacks, away) (removed title slot ms m (let most = rw away at titles in omega (arith, most)) (omega arith) (rw away at is))
  ]
]

pub removals_prefer : RemovalsPreferOldest
removals_prefer modules title slot m are is =
    removed title slot modules m (are.titles title) (at_most_one slot (slot_count slot modules) (are.slots slot)) is
