-- Where the module area grows, the word changes that shows its heap's end, and no other byte.
use Rattle.profile.specs.MemoryMap.{heap_name, module_area_start}
use Rattle.std.proofs.Common.{ℕ, ◌≡◌, ◌+◌, ◌-◌, ◌*◌, ◌∙◌, false, Option, Some, None, Result, Ok, Err, refl, sym, subst, inl, inr}
use Rattle.std.specs.Prelude.{nat_le, nat_lt}
use Rattle.std.proofs.lemmas.Bool.{cases_Bool}
use Rattle.profile.specs.ErrorNumber.{ErrorNumber}
use Rattle.address_map.specs.Bytes.{in_range, with_word_at}
use Rattle.address_map.specs.Items.{size_of}
use Rattle.os_heap_words.proofs.ListsLemmas.HeapWords.{part_back}
use Rattle.os_heap_words.specs.lists.Heap.{HeapList, IsHeapIn, next_free, with_heads, with_heap}
use Rattle.os_heap.proofs.Found.{found_ended, with_other_end}
use Rattle.os_heap.specs.Calls.{with_end}
use Rattle.os_heap.specs.Store.{Store, find_heap}
use Rattle.dynamic_areas.specs.declared.area.Area.{Area}
use Rattle.dynamic_areas.specs.Areas.{find_area}
use Rattle.dynamic_areas.specs.Changing.{pages_had, store_extended, store_more, with_heap_end}
use Rattle.dynamic_areas.specs.Ground.{AreaStore, IsAreaStore}
use Rattle.rma.specs.Calls.{area_pages, area_room, grown_by, grown_to, or_as_before, pages_short}
use Rattle.instances.specs.tidying.Laws.{AreBytes}
use Rattle.law_machine.proofs.HeapAloneLemmas.Storing.{word_past}
use Rattle.law_machine.proofs.HeapFrameLemmas.AreaReleases.{HasArea, area_there}

-- a store whose memory spells the module area's heap
pub record IsBase (d : Store) (o : HeapList) : Type 0 where
  pub start : o.start ≡ module_area_start
  pub place : find_heap module_area_start d.heaps ≡ Some o
  pub spelled : IsHeapIn d.bytes o.start o.end o.items
  pub small : AreBytes d.bytes.at

pub base_of : (e : AreaStore) (good : IsAreaStore e) → AreBytes e.store.bytes.at → IsBase e.store (area_there e good).known.heap
base_of e good small =
    let has : HasArea e = area_there e good in
    record { start = has.known.start; place = has.known.found; spelled = has.known.spelled; small = small }

module _ (d : Store) (o : HeapList) (base : IsBase d o) where
  -- the heap is as it was, but for its end
  pub record IsGrown (s : Store) : Type 0 where
    pub end : ℕ
    pub place : find_heap module_area_start s.heaps ≡ Some (with_other_end o end)
    pub bytes : (a : ℕ) → in_range (o.start + 12) 4 a ≡ false → s.bytes.at a ≡ d.bytes.at a

  pub not_grown : IsGrown d
  not_grown = record { end = o.end; place = base.place; bytes = λ a out. refl }

  -- its words are written again, with another end
  rewritten : (f : ℕ → ℕ) (end a : ℕ) → ((x : ℕ) → in_range (o.start + 12) 4 x ≡ false → f x ≡ d.bytes.at x) → in_range (o.start + 12) 4 a ≡ false
      → with_heap f o.start end o.items a ≡ d.bytes.at a
  rewritten f end a kept out =
      let first : ℕ → ℕ = with_word_at (with_heads f (o.start + 16) o.items 0) o.start heap_name in
      let second : ℕ → ℕ = with_word_at first (o.start + 4) (next_free (o.start + 16) o.items 0 - o.start) in
      let third : ℕ → ℕ = with_word_at second (o.start + 8) (16 + size_of o.items) in
      word_past third (o.start + 12) end a out ∙ sym (word_past third (o.start + 12) o.end a out)
      ∙ sym (part_back f d.bytes o.start o.end o.items base.spelled base.small a (λ apart outside. sym (kept a out)))

  pub end_grown : (s : Store) (end : ℕ) → IsGrown s → IsGrown (with_heap_end s end)
  end_grown s end grown =
      rw grown.place (record {
        end = end;
        place = subst (λ (p : ℕ). find_heap module_area_start (with_end p end s.heaps) ≡ Some (with_other_end o end)) (sym base.start)
            (found_ended module_area_start end s.heaps (with_other_end o grown.end) grown.place);
        bytes = λ a out. rewritten s.bytes.at end a grown.bytes out;
      })

  pub extended_grown : (s : Store) (count : ℕ) (found : Option Area) → IsGrown s → IsGrown (store_extended s 1 count found)
  extended_grown s count None grown = end_grown s (4096 * (pages_had None + count)) grown
  extended_grown s count (Some a) grown =
      end_grown (store_more s count (Some a)) (4096 * (a.pages + count)) (record { end = grown.end; place = grown.place; bytes = grown.bytes })

  abbrev pub OnGrown : Result AreaStore ErrorNumber → Type 0
  OnGrown (Ok g) = IsGrown g.store
  OnGrown (Err f) = Unit {0}

  by_grown : (e : AreaStore) (count : ℕ) → IsGrown e.store → OnGrown (grown_by e count)
  by_grown e count grown = elim (cases_Bool (nat_lt (area_room e) count)) [
    | inl short ↦ rw short tt
    | inr enough ↦ rw enough (extended_grown e.store count (find_area 1 e.area_table.areas) grown)
  ]

  pub to_grown : (e : AreaStore) (end : ℕ) → IsGrown e.store → OnGrown (grown_to e end)
  unfolding grown_to
  to_grown e end grown = elim (cases_Bool (nat_le end (4096 * area_pages e))) [
    | inl enough ↦ rw enough grown
    | inr short ↦ rw short (by_grown e (pages_short e end) grown)
  ]

  pub before_grown : (e : AreaStore) (r : Result AreaStore ErrorNumber) → IsGrown e.store → OnGrown r → IsGrown (or_as_before e r).store
  before_grown e (Ok g) was grown = grown
  before_grown e (Err f) was grown = was
