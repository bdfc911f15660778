-- The calls that change areas, case by case: a property of stores that holds after each of their
-- parts holds after each call.
use Rattle.std.proofs.Common.{if◌then◌else◌, ℕ, ◌+◌, ◌-◌, ◌*◌, ◌/◌, ◌==◌, ◌||◌, ◌≡◌, ◌≢◌, ◌≤◌, ◌∙◌, true, false, Option, Some, None, Ok, Err, refl, sym, ap, subst, inl, inr, arith}
use Rattle.std.proofs.Math.Nat.{min-le_right}
use Rattle.std.proofs.lemmas.Bool.{cases_Bool, eqb-false, eqb-true, ltb-false, or_parts}
use Rattle.std.specs.Prelude.{min, nat_lt, ok_or}
use Rattle.profile.specs.Outcome.{bind}
use Rattle.profile.specs.ErrorNumber.TheVariants.{AreaInUse, AreaUnknown}
use Rattle.os_heap.specs.Store.{Store}
use Rattle.dynamic_areas.proofs.LooseLemmas.{loose_created}
use Rattle.dynamic_areas.proofs.RoomLemmas.{found_number}
use Rattle.dynamic_areas.specs.declared.area.Area.{Area}
use Rattle.dynamic_areas.specs.Areas.{AreaTable, find_area, with_areas, without_area}
use Rattle.dynamic_areas.specs.Changing.{AreLoose, change_answer, change_of, is_growth, loose_pages, pages_asked, area_table_after_remove, store_changed, store_emptied, store_extended, store_less, store_reduced, with_heap_end}
use Rattle.dynamic_areas.specs.Creating.{pages_for}
use Rattle.dynamic_areas.specs.Ground.{AreaStore, IsAreaStore}
use Rattle.dynamic_areas.specs.Remapped.{with_pages_at, without_pages_at}
use Rattle.law_machine.proofs.HeapFrameLemmas.Guests.{area_stores_fit}
use Rattle.law_machine.specs.live_bytes.AreaLaws.{AreaCallHas}

-- nothing is changed; pages are mapped; the module area grows; pages go that can; the module area
-- shrinks
pub record HoldsAfter (d : AreaStore) (P : Store → Type 0) : Type 0 where
  pub same : P d.store
  pub more : (at len : ℕ) → P (with_pages_at d.store at len)
  pub grown : (count : ℕ) (a : Area) → find_area 1 d.area_table.areas ≡ Some a → P (store_extended d.store 1 count (Some a))
  pub loose : (area : Area) (count : ℕ) → AreLoose d.store area count
      → P (without_pages_at d.store (area.base + 4096 * (area.pages - count)) (4096 * count))
  pub shrunk : (count : ℕ) (a : Area) → find_area 1 d.area_table.areas ≡ Some a → count ≤ loose_pages d.store a
      → P (store_less (with_heap_end d.store (4096 * (a.pages - count))) count (Some a))

module _ (d : AreaStore) (good : IsAreaStore d) (P : Store → Type 0) (holds : HoldsAfter d P) where
  none_first : (number : ℕ) → (number == 1) ≡ true → find_area number d.area_table.areas ≡ None → ⊥
  none_first number area found =
      let first : find_area 1 d.area_table.areas ≡ None = subst (λ (n : ℕ). find_area n d.area_table.areas ≡ None) (eqb-true number 1 area) found in
      let no : Some (area_stores_fit d good).area ≡ None = sym (area_stores_fit d good).found ∙ first in
      absurd (cc)

  extended_has : (number count : ℕ) (o : Option Area) → find_area number d.area_table.areas ≡ o → P (store_extended d.store number count o)
  extended_has number count None found = elim (cases_Bool (number == 1)) [
    | inr other ↦ rw other holds.same
    | inl area ↦ absurd (none_first number area found)
  ]
  extended_has number count (Some a) found = elim (cases_Bool (number == 1)) [
    | inr other ↦ rw other (holds.more (a.base + 4096 * a.pages) (4096 * count))
    | inl area ↦
        let first : find_area 1 d.area_table.areas ≡ Some a = subst (λ (n : ℕ). find_area n d.area_table.areas ≡ Some a) (eqb-true number 1 area) found in
        rw area (holds.grown count a first)
  ]

  reduced_has : (number count : ℕ) (a : Area) → find_area number d.area_table.areas ≡ Some a → count ≤ loose_pages d.store a
      → P (store_reduced d.store number count (Some a))
  reduced_has number count a found fits = elim (cases_Bool (number == 1)) [
    | inr other ↦
        let own : a.number ≡ number = found_number number d.area_table.areas a found in
        rw other (holds.loose a count (loose_created d.store a count (λ is. eqb-false number 1 other (sym own ∙ is)) fits))
    | inl area ↦
        let first : find_area 1 d.area_table.areas ≡ Some a = subst (λ (n : ℕ). find_area n d.area_table.areas ≡ Some a) (eqb-true number 1 area) found in
        rw area (holds.shrunk count a first fits)
  ]

  -- no area has the number: no page goes
  none_reduced : (number count : ℕ) → find_area number d.area_table.areas ≡ None → P (store_reduced d.store number count None)
  none_reduced number count found = elim (cases_Bool (number == 1)) [
    | inr other ↦ rw other holds.same
    | inl area ↦ absurd (none_first number area found)
  ]

  changed_by_found : (number amount : ℕ) (o : Option Area) → find_area number d.area_table.areas ≡ o → is_growth amount ≡ false
      → P (store_reduced d.store number ((change_of d.store d.pool amount o).bytes / 4096) o)
  changed_by_found number amount None found shrinks = none_reduced number ((change_of d.store d.pool amount None).bytes / 4096) found
  changed_by_found number amount (Some a) found shrinks =
      let count : ℕ = min (pages_asked amount) (loose_pages d.store a) in
      let gone : (change_of d.store d.pool amount (Some a)).bytes ≡ 4096 * count = rw shrinks refl in
      let whole : 4096 * count / 4096 ≡ count = omega arith in
      subst (λ (n : ℕ). P (store_reduced d.store number n (Some a))) (sym (ap (λ (b : ℕ). b / 4096) gone ∙ whole))
      (reduced_has number count a found (min-le_right (pages_asked amount) (loose_pages d.store a)))

  changed_has : (number amount : ℕ) → P (store_changed d.store d.area_table.areas number amount (change_answer d.area_table.areas d.store d.pool number amount).bytes)
  unfolding change_answer
  changed_has number amount =
      let found : Option Area = find_area number d.area_table.areas in
      elim (cases_Bool (is_growth amount)) [
        | inl grows ↦ rw grows (extended_has number ((change_of d.store d.pool amount found).bytes / 4096) found refl)
        | inr shrinks ↦ rw shrinks (changed_by_found number amount found refl shrinks)
      ]

  -- an area that went is not the module area, and all its pages could go
  emptied_has : (number : ℕ) (a : Area) → find_area number d.area_table.areas ≡ Some a → (number == 1 || nat_lt (loose_pages d.store a) a.pages) ≡ false
      → P (without_pages_at d.store a.base (4096 * a.pages))
  emptied_has number a found passed =
      let parts = or_parts (number == 1) (nat_lt (loose_pages d.store a) a.pages) passed in
      let own : a.number ≡ number = found_number number d.area_table.areas a found in
      let other : a.number ≢ 1 = λ is. eqb-false number 1 parts.0 (sym own ∙ is) in
      let gone : AreLoose d.store a a.pages = loose_created d.store a a.pages other (ltb-false (loose_pages d.store a) a.pages parts.1) in
      let first : a.base + 4096 * (a.pages - a.pages) ≡ a.base = omega arith in
      subst (λ (at : ℕ). P (without_pages_at d.store at (4096 * a.pages))) first (holds.loose a a.pages gone)

  removed_by : (number : ℕ) (left : AreaTable) (o : Option Area) → find_area number d.area_table.areas ≡ o
      → bind (ok_or o AreaUnknown) (λ a.
      if number == 1 || nat_lt (loose_pages d.store a) a.pages then Err AreaInUse else Ok (with_areas d.area_table (without_area number d.area_table.areas))) ≡ Ok left
      → P (store_emptied d.store o)
  removed_by number left None found done = holds.same
  removed_by number left (Some a) found done = elim (cases_Bool (number == 1 || nat_lt (loose_pages d.store a) a.pages)) [
    | inl refused ↦ absurd (let no : Err AreaInUse ≡ Ok left = (let no = rw refused at done in no) in cc)
    | inr passed ↦ emptied_has number a found passed
  ]

  removed_has : (left : AreaTable) (number : ℕ) → area_table_after_remove d.area_table d.store number ≡ Ok left → P (store_emptied d.store (find_area number d.area_table.areas))
  unfolding area_table_after_remove
  removed_has left number done = removed_by number left (find_area number d.area_table.areas) refl done

  pub area_call_has : (e : AreaStore) → AreaCallHas d P e
  area_call_has e = record {
    create = λ w name made done store. subst P (sym store) (holds.more made.base (4096 * pages_for w.size));
    remove = λ number done store. subst P (sym store) (removed_has e.area_table number done);
    change = λ number amount store. subst P (sym store) (changed_has number amount);
  }
