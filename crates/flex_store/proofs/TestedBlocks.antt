-- Memory that the tests of this crate go on from.
use Rattle.std.proofs.Common.{◌≡◌, ℕ, ◌<◌, ◌≤◌, ◌++◌, ◌∷◌, Bool, true, false, List, [], Option, None, Result, Ok, Err, length, refl, sym, ◌∙◌, ap, subst, arith, inl, inr}
use Rattle.profile.specs.Outcome.{bind, Gives}
use Rattle.profile.specs.ErrorNumber.{ErrorNumber}
use Rattle.std.proofs.lemmas.Bool.{cases_Bool}
use Rattle.std.specs.Prelude.{MatchResult, if◌then◌else◌, nat_le, not, ok_or, ◌+◌, ◌-◌}
use Rattle.os_heap.specs.Records.{is_heap_kind}
use Rattle.flex_store.specs.Calls.{flex_record}
use Rattle.os_heap.specs.Classes.{is_anchor, is_flex_header}
use Rattle.os_heap.specs.AddressMap.{AddressMap}
use Rattle.os_heap.specs.Kind.TheVariants as kind
use Rattle.os_heap.specs.Region.{Region}
use Rattle.os_heap.specs.Memory.{bytes_of, byte_at, class_of, is_mapped, layout, mapping, regions}
use Rattle.os_heap.proofs.Added.{sound_empty}
use Rattle.os_heap.proofs.Frame.{classes_empty, classes_same, layout-others}
use Rattle.os_heap.proofs.Recorded.{recorded_sound, store_recorded}
use Rattle.os_heap.specs.Calls.{store_after_init, store_with_new_heap, store_after_get, heap_at, store_holding}
use Rattle.os_heap.specs.Ranges.{is_heap_region, overlaps}
use Rattle.os_heap_words.specs.lists.Lists.{claim_in_items, total_for}
use Rattle.profile.specs.ErrorNumber.TheVariants.{HeapBadRegion, HeapOverlaps, HeapNoRoom, HeapTableFull}
use Rattle.os_heap.specs.Store.{AreClasses, guest_count, IsSound, others_in, Store, store_of}
use Rattle.flex_store.specs.declared.flex.Extent.{Extent}
use Rattle.flex_store.specs.declared.flex.Flex.{Flex}
use Rattle.flex_store.specs.State.{IsFlex, IsFlexAt, IsNoFlex}
use Rattle.flex_store.specs.Tested.{IsBare, IsStart}
use Rattle.flex_store.proofs.Starting.{mapped_same}

no_flex_at : (m : AddressMap) (f : Flex) → f.extent ≡ None → IsNoFlex m → IsFlex m f
no_flex_at m f none is = subst (λ (e : Option Extent). IsFlexAt m e) (sym none) is

-- a system page, as the first record
empty_store : (m : AddressMap) → regions m ≡ [] → ((store_of m).others ≡ []) × ((store_of m).heaps ≡ [])
unfolding store_of
empty_store m none = rw none (refl, refl)

pub page_recorded : (m n : AddressMap) (f : Flex) (r : Region) → f.extent ≡ None → IsBare m → r.kind ≡ kind.SystemPage → regions n ≡ regions m ++ r ∷ []
    → mapping n ≡ mapping m → byte_at n ≡ byte_at m → ((a : ℕ) → class_of n a ≡ class_of m a) → IsStart n f
page_recorded m n f r none bare page records same bytes marks =
    let sound : IsSound (store_of m) = sound_empty m bare.empty bare.plain in
    let classes : AreClasses m = classes_empty m bare.empty bare.plain in
    let empty = empty_store m bare.empty in
    let mapped : is_mapped n ≡ is_mapped m = mapped_same m n same in
    let memory : bytes_of n ≡ bytes_of m = λ i. record { mapped = mapped i; at = bytes i } in
    let store : store_of n ≡ record (store_of m) { others = (store_of m).others ++ r ∷ [] } =
    store_recorded m n r (rw page refl) records memory marks in
    record {
      flex = no_flex_at n f none (record {
        headers = λ a. ap is_flex_header (marks a ∙ bare.plain a);
        anchors = λ a. ap is_anchor (marks a ∙ bare.plain a);
      });
      sound = subst IsSound (sym store) (recorded_sound (store_of m) r sound (rw empty.1 tt) (rw empty.0 tt) (rw empty.0 (omega arith)));
      classes = classes_same m n (ap (λ (s : Store). s.heaps) store) marks classes;
      none = none;
      few = rw (ap (λ (s : Store). s.others) store, empty.0) (omega arith);
    }

-- what calls on heaps leave of a store besides these
pub record IsBeside (s t : Store) : Type 0 where
  pub anchor : t.anchor ≡ s.anchor
  pub header : t.header ≡ s.header
  pub others : t.others ≡ s.others

abbrev pub AreBeside : {U : Type 0} → Store → Result (Store × U) ErrorNumber → Type 0
AreBeside s (Ok r) = IsBeside s r.0
AreBeside s (Err e) = Unit {0}

beside_by : {U : Type 0} (s t : Store) (x : Result (Store × U) ErrorNumber) (r : Result U ErrorNumber) → AreBeside s x → Gives s x r t → IsBeside s t
beside_by s t (Ok p) (Ok u) are gives = subst (IsBeside s) (sym gives.0) are
beside_by s t (Err f) (Err e) are gives = subst (IsBeside s) (sym gives.1) (record { anchor = refl; header = refl; others = refl })
beside_by s t (Ok p) (Err e) are gives = absurd gives
beside_by s t (Err f) (Ok u) are gives = absurd gives

beside_bind : {A U : Type 0} (s : Store) (x : Result A ErrorNumber) (next : A → Result (Store × U) ErrorNumber) → ((a : A) → AreBeside s (next a))
    → AreBeside s (bind x next)
beside_bind s (Ok a) next are = are a
beside_bind s (Err e) next are = tt

beside_if : {U : Type 0} (s : Store) (refused : Bool) (e : ErrorNumber) (x : Result (Store × U) ErrorNumber) → AreBeside s x
    → AreBeside s (if refused then Err e else x)
beside_if s true e x are = tt
beside_if s false e x are = are

begun_beside : (s : Store) (at size : ℕ) → AreBeside s (store_after_init s at size)
unfolding store_after_init
begun_beside s at size =
    beside_if s (not (is_heap_region s.bytes at size)) HeapBadRegion _ (beside_if s (overlaps at size s) HeapOverlaps _
    (beside_if s (nat_le 64 (guest_count s.heaps)) HeapTableFull (Ok (store_with_new_heap kind.Heap s at size, tt)) (record { anchor = refl; header = refl; others = refl })))

got_beside : (s : Store) (heap size : ℕ) → AreBeside s (store_after_get s heap size)
unfolding store_after_get
got_beside s heap size =
    beside_bind s (heap_at s heap) _ (λ h.
    beside_bind s (ok_or (claim_in_items (total_for size) (h.end - 16) h.items) HeapNoRoom) (λ c. Ok (store_holding s h c.items, h.start + 16 + c.offset + 4)) (λ c.
    record { anchor = refl; header = refl; others = refl }))

store_anchors : (m : AddressMap) (a : ℕ) → ((store_of m).anchor a ≡ is_anchor (class_of m a)) × ((store_of m).header a ≡ is_flex_header (class_of m a))
unfolding store_of
store_anchors m a = (refl, refl)

start_kept : (m n : AddressMap) (f : Flex) → IsStart m f → IsBeside (store_of m) (store_of n) → IsSound (store_of n) → AreClasses n → IsStart n f
start_kept m n f start beside sound classes =
    let none : IsNoFlex m = subst (λ (e : Option Extent). IsFlexAt m e) start.none start.flex in
    record {
      flex = no_flex_at n f start.none (record {
        headers = λ a. sym (store_anchors n a).1 ∙ (ap (λ (g : ℕ → Bool). g a) beside.header ∙ ((store_anchors m a).1 ∙ none.headers a));
        anchors = λ a. sym (store_anchors n a).0 ∙ (ap (λ (g : ℕ → Bool). g a) beside.anchor ∙ ((store_anchors m a).0 ∙ none.anchors a));
      });
      sound = sound;
      classes = classes;
      none = start.none;
      few = rw beside.others start.few;
    }

pub start_begun : (m n : AddressMap) (f : Flex) (at size : ℕ) (r : Result (Unit {0}) ErrorNumber) → IsStart m f
    → Gives (store_of m) (store_after_init (store_of m) at size) r (store_of n) → IsSound (store_of n) → AreClasses n → IsStart n f
start_begun m n f at size r start gives sound classes =
    start_kept m n f start (beside_by (store_of m) (store_of n) (store_after_init (store_of m) at size) r (begun_beside (store_of m) at size) gives) sound classes

pub start_got : (m n : AddressMap) (f : Flex) (heap size : ℕ) (r : Result ℕ ErrorNumber) → IsStart m f
    → Gives (store_of m) (store_after_get (store_of m) heap size) r (store_of n) → IsSound (store_of n) → AreClasses n → IsStart n f
start_got m n f heap size r start gives sound classes =
    start_kept m n f start (beside_by (store_of m) (store_of n) (store_after_get (store_of m) heap size) r (got_beside (store_of m) heap size) gives) sound classes

-- a record more is at most one more
others_more : (rs : List Region) (q : Region) → length (others_in (rs ++ q ∷ [])) ≤ 1 + length (others_in rs)
others_more [] q = elim (cases_Bool (is_heap_kind q.kind)) [ inl heap ↦ rw heap (omega arith) | inr other ↦ rw other (omega arith) ]
others_more (r ∷ rs) q = elim (cases_Bool (is_heap_kind r.kind)) [
  | inl heap ↦ rw heap (others_more rs q)
  | inr other ↦ rw other (omega (arith, others_more rs q))
]

pub few_begun : (m n : AddressMap) (start end : ℕ) (r : Result (Unit {0}) ErrorNumber) → length (store_of m).others < 67
    → MatchResult r (λ _. regions n ≡ regions m ++ flex_record start end ∷ []) (λ _. regions n ≡ regions m) → length (store_of n).others < 68
unfolding store_of
few_begun m n start end (Ok u) few records =
    omega (arith, few, others_more (regions m) (flex_record start end), ap (λ (rs : List Region). length (others_in rs)) records)
few_begun m n start end (Err e) few records = omega (arith, few, ap (λ (rs : List Region). length (others_in rs)) records)

-- a call that keeps all records
pub few_kept : (m n : AddressMap) → layout n ≡ layout m → length (store_of m).others < 68 → length (store_of n).others < 68
few_kept m n same few = rw (layout-others m n same) few
