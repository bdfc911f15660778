-- The record of a flex store: it shares no byte with a heap or a range that is recorded already,
-- and keeps all heaps.
use Rattle.std.proofs.Common.{◌≡◌, ℕ, ◌-◌, ◌<◌, ◌++◌, true, false, List, [], ◌∷◌, length, refl, sym, ap, subst, ◌∙◌, inl, inr}
use Rattle.std.proofs.lemmas.Bool.{cases_Bool, eq-eqb, or_parts, or_right, true≢false}
use Rattle.os_heap.specs.Bytes.{Bytes, in_range, shares_address}
use Rattle.os_heap.specs.Memory.{byte_at, bytes_of, class_of, is_mapped, mapping, regions}
use Rattle.os_heap.specs.Records.{is_heap_kind, meets_record}
use Rattle.os_heap.specs.Class.{Class}
use Rattle.os_heap.specs.AddressMap.{AddressMap}
use Rattle.os_heap.specs.Region.{Region}
use Rattle.os_heap.proofs.Frame.{classes_same}
use Rattle.os_heap.proofs.RangeTests.{clear_unless}
use Rattle.os_heap.proofs.Recorded.{IsClearOfAll, recorded_sound, store_recorded}
use Rattle.os_heap.specs.Store.{AreClasses, AreClear, heaps_in, IsClearOfHeaps, IsSound, others_in, Store, store_of}
use Rattle.flex_store.specs.Calls.{flex_record, is_flex_range}
use Rattle.flex_store.specs.State.{is_recorded, is_store_record}
use Rattle.flex_store.proofs.Starting.{mapped_same, range_apart}

pub range_clear_back : (at len other other_len : ℕ) → shares_address at len other other_len ≡ false → AreClear other other_len at len
range_clear_back at len other other_len apart a inside = elim (cases_Bool (in_range at len a)) [
  | inr clear ↦ clear
  | inl there ↦ absurd (true≢false (sym inside ∙ clear_unless at len other other_len apart a there))
]

heaps_clear : (b : Bytes) (rs : List Region) (at len : ℕ) → meets_record rs at len ≡ false → IsClearOfHeaps at len (heaps_in b rs)
heaps_clear b [] at len apart = tt
heaps_clear b (r ∷ rs) at len apart =
    let parts = or_parts (shares_address at len r.at r.len) (meets_record rs at len) apart in
    elim (cases_Bool (is_heap_kind r.kind)) [
      | inl heap ↦ rw heap (clear_unless at len r.at r.len parts.0, heaps_clear b rs at len parts.1)
      | inr other ↦ rw other (heaps_clear b rs at len parts.1)
    ]

ranges_clear : (rs : List Region) (r : Region) → meets_record rs r.at r.len ≡ false → IsClearOfAll r (others_in rs)
ranges_clear [] r apart = tt
ranges_clear (q ∷ rs) r apart =
    let parts = or_parts (shares_address r.at r.len q.at q.len) (meets_record rs r.at r.len) apart in
    elim (cases_Bool (is_heap_kind q.kind)) [
      | inl heap ↦ rw heap (ranges_clear rs r parts.1)
      | inr other ↦ rw other (range_clear_back r.at r.len q.at q.len parts.0, ranges_clear rs r parts.1)
    ]

-- the range at the end of the record is there
pub last_recorded : (rs : List Region) (start end : ℕ) → is_recorded (rs ++ flex_record start end ∷ []) start end ≡ true
last_recorded [] start end = rw (eq-eqb start start refl, eq-eqb (end - start) (end - start) refl) refl
last_recorded (r ∷ rs) start end = or_right (is_store_record start end r) (is_recorded (rs ++ flex_record start end ∷ []) start end) (last_recorded rs start end)

-- the store after a record of its range
pub record IsBegun (m n : AddressMap) (start end : ℕ) : Type 0 where
  pub heaps : (store_of n).heaps ≡ (store_of m).heaps
  pub sound : IsSound (store_of n)
  pub classes : AreClasses n
  pub recorded : is_recorded (store_of n).others start end ≡ true

clear_store : (m : AddressMap) (start end : ℕ) → meets_record (regions m) start (end - start) ≡ false
    → IsClearOfHeaps start (end - start) (store_of m).heaps × IsClearOfAll (flex_record start end) (store_of m).others
unfolding store_of
clear_store m start end apart = (heaps_clear (bytes_of m) (regions m) start (end - start) apart, ranges_clear (regions m) (flex_record start end) apart)

pub begun_store : (m n : AddressMap) (start end : ℕ) → IsSound (store_of m) → AreClasses m → length (store_of m).others < 68
    → is_flex_range (store_of m) start end ≡ true → regions n ≡ regions m ++ flex_record start end ∷ [] → mapping n ≡ mapping m
    → byte_at n ≡ byte_at m → class_of n ≡ class_of m → IsBegun m n start end
begun_store m n start end sound classes few range records same bytes marks =
    let mapped : is_mapped n ≡ is_mapped m = mapped_same m n same in
    let memory : bytes_of n ≡ bytes_of m = λ i. record { mapped = mapped i; at = bytes i } in
    let words : (a : ℕ) → class_of n a ≡ class_of m a = λ a. ap (λ (c : ℕ → Class). c a) marks in
    let store : store_of n ≡ record (store_of m) { others = (store_of m).others ++ flex_record start end ∷ [] } =
    store_recorded m n (flex_record start end) refl records memory words in
    let heaps : (store_of n).heaps ≡ (store_of m).heaps = ap (λ (s : Store). s.heaps) store in
    let clear = clear_store m start end (range_apart m start end range) in
    record {
      heaps = heaps;
      sound = subst IsSound (sym store) (recorded_sound (store_of m) (flex_record start end) sound clear.0 clear.1 few);
      classes = classes_same m n heaps words classes;
      recorded = ap (λ (s : Store). is_recorded s.others start end) store ∙ last_recorded (store_of m).others start end;
    }
