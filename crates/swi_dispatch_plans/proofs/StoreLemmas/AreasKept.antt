-- Calls on areas keep the flex store, and all ranges that are recorded.
use Rattle.profile.specs.MemoryMap.{module_area_start}
use Rattle.std.proofs.Common.{◌≡◌, ℕ, ◌*◌, ◌==◌, Option, Some, None, Result, Ok, Err, List, refl, sym, ap, ◌∙◌, inl, inr}
use Rattle.std.specs.Prelude.{MatchResult}
use Rattle.std.proofs.lemmas.Bool.{cases_Bool}
use Rattle.profile.specs.Outcome.{Gives, Leaves}
use Rattle.profile.specs.ErrorNumber.{ErrorNumber}
use Rattle.os_heap.specs.Memory.{free_pages}
use Rattle.os_heap.specs.AddressMap.{AddressMap}
use Rattle.os_heap.specs.lists.Heap.{HeapList}
use Rattle.os_heap.specs.Store.{Store, find_heap, store_of}
use Rattle.instances.specs.Area.{Area}
use Rattle.instances.specs.Changed.{Changed}
use Rattle.instances.specs.Created.{Created}
use Rattle.instances.specs.Wanted.{Wanted}
use Rattle.instances.specs.Areas.{AreaTable, find_area}
use Rattle.instances.specs.Changing.{change_answer, store_after_end, is_growth, area_table_after_remove, store_changed, store_emptied, store_extended, store_less, store_more, store_reduced, with_heap_end}
use Rattle.instances.specs.Creating.{area_table_after_create, pages_for}
use Rattle.instances.specs.Ground.{AreAreas, area_store_of}
use Rattle.instances.specs.Remapped.{with_pages_at}
use Rattle.instances.proofs.FlexAreas.{area_changed_keeps, created_keeps, removed_keeps}
use Rattle.instances.proofs.RmaKeeping.{keeps_equal}
use Rattle.instances.specs.flex_frame.Keeping.{KeepsFlex}

pub record AreKept (s t : Store) : Type 0 where
  pub flex : KeepsFlex s t
  pub others : t.others ≡ s.others

same_kept : (s t : Store) → t ≡ s → AreKept s t
same_kept s t same = record { flex = keeps_equal s t same; others = ap (λ (u : Store). u.others) same }

pub created_kept : (m n : AddressMap) (l k : AreaTable) (w : Wanted) (name : List ℕ) (x : Result Created ErrorNumber)
    → AreAreas (store_of m) (free_pages m) l → AreAreas (store_of n) (free_pages n) k → Gives l (area_table_after_create l (free_pages m) w name) x k
    → MatchResult x (λ made. store_of n ≡ with_pages_at (store_of m) made.base (4096 * pages_for w.size)) (λ _. store_of n ≡ store_of m)
    → AreKept (store_of m) (store_of n)
created_kept m n l k w name x areas areas' gives store = by x (area_table_after_create l (free_pages m) w name) refl gives store where
  by : (x : Result Created ErrorNumber) (r : Result (AreaTable × Created) ErrorNumber) → area_table_after_create l (free_pages m) w name ≡ r → Gives l r x k
      → MatchResult x (λ made. store_of n ≡ with_pages_at (store_of m) made.base (4096 * pages_for w.size)) (λ _. store_of n ≡ store_of m)
      → AreKept (store_of m) (store_of n)
  by (Ok made) (Ok r) is gives store = record {
    flex = created_keeps (area_store_of m l) (area_store_of n k) w name made areas areas' (is ∙ (λ i. Ok (sym gives.0 i, sym gives.1 i))) store;
    others = ap (λ (u : Store). u.others) store;
  }
  by (Err e) r is gives store = same_kept (store_of m) (store_of n) store
  by (Ok made) (Err f) is gives store = absurd gives

emptied_others : (s : Store) (o : Option Area) → (store_emptied s o).others ≡ s.others
emptied_others s None = refl
emptied_others s (Some a) = refl

pub removed_kept : (m n : AddressMap) (l k : AreaTable) (number : ℕ) (x : Result (Unit {0}) ErrorNumber) → AreAreas (store_of m) (free_pages m) l
    → AreAreas (store_of n) (free_pages n) k → Leaves {U = Unit {0}} l (area_table_after_remove l (store_of m) number) x k
    → MatchResult x (λ _. store_of n ≡ store_emptied (store_of m) (find_area number l.areas)) (λ _. store_of n ≡ store_of m)
    → AreKept (store_of m) (store_of n)
removed_kept m n l k number x areas areas' leaves store = by x (area_table_after_remove l (store_of m) number) refl leaves store where
  by : (x : Result (Unit {0}) ErrorNumber) (r : Result AreaTable ErrorNumber) → area_table_after_remove l (store_of m) number ≡ r → Leaves {U = Unit {0}} l r x k
      → MatchResult x (λ _. store_of n ≡ store_emptied (store_of m) (find_area number l.areas)) (λ _. store_of n ≡ store_of m)
      → AreKept (store_of m) (store_of n)
  by (Ok u) (Ok r) is leaves store = record {
    flex = removed_keeps (area_store_of m l) (area_store_of n k) number areas areas' (is ∙ ap Ok (sym leaves)) store;
    others = ap (λ (u : Store). u.others) store ∙ emptied_others (store_of m) (find_area number l.areas);
  }
  by (Err e) r is leaves store = same_kept (store_of m) (store_of n) store
  by (Ok u) (Err f) is leaves store = absurd leaves

more_others : (s : Store) (count : ℕ) (o : Option Area) → (store_more s count o).others ≡ s.others
more_others s count None = refl
more_others s count (Some a) = refl

less_others : (s : Store) (count : ℕ) (o : Option Area) → (store_less s count o).others ≡ s.others
less_others s count None = refl
less_others s count (Some a) = refl

ended_others : (s : Store) (end : ℕ) (o : Option HeapList) → (store_after_end s end o).others ≡ s.others
ended_others s end None = refl
ended_others s end (Some h) = refl

extended_others : (s : Store) (number count : ℕ) (o : Option Area) → (store_extended s number count o).others ≡ s.others
extended_others s number count o = elim (cases_Bool (number == 1)) [
  | inl own ↦ rw own (ended_others (store_more s count o) _ (find_heap module_area_start (store_more s count o).heaps) ∙ more_others s count o)
  | inr other ↦ rw other (more_others s count o)
]

reduced_others : (s : Store) (number count : ℕ) (o : Option Area) → (store_reduced s number count o).others ≡ s.others
reduced_others s number count o = elim (cases_Bool (number == 1)) [
  | inl own ↦ rw own (less_others (with_heap_end s _) count o ∙ ended_others s _ (find_heap module_area_start s.heaps))
  | inr other ↦ rw other (less_others s count o)
]

changed_others : (s : Store) (areas : List Area) (number amount bytes : ℕ) → (store_changed s areas number amount bytes).others ≡ s.others
changed_others s areas number amount bytes = elim (cases_Bool (is_growth amount)) [
  | inl grows ↦ rw grows (extended_others s number _ (find_area number areas))
  | inr shrinks ↦ rw shrinks (reduced_others s number _ (find_area number areas))
]

pub changed_kept : (m n : AddressMap) (l k : AreaTable) (number amount : ℕ) (c : Changed) → AreAreas (store_of m) (free_pages m) l
    → AreAreas (store_of n) (free_pages n) k → c ≡ change_answer l.areas (store_of m) (free_pages m) number amount
    → store_of n ≡ store_changed (store_of m) l.areas number amount c.bytes → AreKept (store_of m) (store_of n)
changed_kept m n l k number amount c areas areas' answer store = record {
  flex = area_changed_keeps (area_store_of m l) (area_store_of n k) number amount areas areas'
      (store ∙ ap (λ (d : Changed). store_changed (store_of m) l.areas number amount d.bytes) answer);
  others = ap (λ (u : Store). u.others) store ∙ changed_others (store_of m) l.areas number amount c.bytes;
}
