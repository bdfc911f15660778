-- A guest's stores, which leave all words alone that the store calls keep, keep the flex store.
use Rattle.std.proofs.Common.{◌≡◌, ℕ, Bool, true, false, not, Option, Some, None, Result, Ok, Err, refl, sym, ap, ◌∙◌, inl, inr, arith}
use Rattle.std.proofs.lemmas.Bool.{cases_Bool, eqb-true, false≢true, true≢false}
use Rattle.std.specs.Prelude.{nat_eq, nat_le, ◌^◌}
use Rattle.profile.specs.Outcome.{Leaves}
use Rattle.profile.specs.Fault.{Fault}
use Rattle.os_heap.proofs.Bytes.{is_mapped-layout, is_mapped-page}
use Rattle.os_heap_words.proofs.AddressMapWords.{unowned}
use Rattle.os_heap.specs.Bytes.{byte_stored, Bytes, store_fault, ok_unless_fault, with_byte, word_start}
use Rattle.os_heap.specs.Classes.{is_anchor, is_flex_header}
use Rattle.os_heap.specs.Memory.{byte_at, bytes_of, class_of, is_mapped, is_owned, is_plain, layout}
use Rattle.os_heap.specs.Class.{Class}
use Rattle.os_heap.specs.Class.TheVariants as class
use Rattle.os_heap.specs.AddressMap.{AddressMap}
use Rattle.os_heap.proofs.Frame.{heads_kept, IsKept, layout-others, spelled_owned, classes_same}
use Rattle.os_heap.proofs.Owned.{owned_marks}
use Rattle.os_heap.specs.Store.{owned_in, Store, store_of}
use Rattle.flex_store.specs.declared.flex.Extent.{Extent}
use Rattle.flex_store.specs.declared.flex.Flex.{Flex}
use Rattle.flex_store.specs.State.{blocks_of, IsFlexAt, IsRecordedStore}
use Rattle.flex_store.specs.Tested.{IsBench}
use Rattle.flex_store.proofs.Held.{flex_left}
use Rattle.flex_store.proofs.Words.{word_of}

-- bytes that the store calls keep stay
abbrev pub KeepsOwned : AddressMap → AddressMap → Type 0
KeepsOwned m n = (a : ℕ) → is_owned m a ≡ true → byte_at n a ≡ byte_at m a

anchor_owned : (own : Class) → is_anchor own ≡ true → not (is_plain own) ≡ true
anchor_owned class.Anchor is = refl
anchor_owned class.Plain is = absurd (false≢true is)
anchor_owned class.Heap is = refl
anchor_owned class.FlexHeader is = refl

header_owned : (own : Class) → is_flex_header own ≡ true → not (is_plain own) ≡ true
header_owned class.FlexHeader is = refl
header_owned class.Plain is = absurd (false≢true is)
header_owned class.Heap is = refl
header_owned class.Anchor is = refl

owned_class : (m : AddressMap) (a : ℕ) → not (is_plain (class_of m a)) ≡ true → is_owned m a ≡ true
unfolding is_owned
owned_class m a is = is

anchors_there : (m : AddressMap) (e : Extent) → IsRecordedStore m e → (a : ℕ) → is_anchor (class_of m a) ≡ true → is_mapped m a ≡ true
anchors_there m e is a anchor =
    let w = word_of (is_mapped m) e.start e.end (blocks_of m e) (word_start a) is.held.store.words (sym (is.held.store.anchors a) ∙ anchor) in
    is_mapped-page m a (word_start a) (omega arith) ∙ w.there

store_written : (m n : AddressMap) (e : Extent) → layout n ≡ layout m → class_of n ≡ class_of m → KeepsOwned m n → IsRecordedStore m e → IsRecordedStore n e
store_written m n e same marks kept is =
    let mapped : is_mapped n ≡ is_mapped m = is_mapped-layout m n same in
    flex_left m n e is (record {
      anchors = λ a. ap (λ (c : ℕ → Class). is_anchor (c a)) marks;
      headers = λ a. ap (λ (c : ℕ → Class). is_flex_header (c a)) marks;
      anchor_bytes = λ a anchor. kept a (owned_class m a (anchor_owned (class_of m a) anchor));
      header_bytes = λ a header. kept a (owned_class m a (header_owned (class_of m a) header));
      there = λ a anchor. ap (λ (p : ℕ → Bool). p a) mapped ∙ anchors_there m e is a anchor;
      range = λ a low high. ap (λ (p : ℕ → Bool). p a) mapped ∙ is.held.store.range.there a low high;
      recorded = rw (layout-others m n same) is.recorded;
    })

-- stores to words that no call keeps
pub flex_written : (m n : AddressMap) (e : Option Extent) → layout n ≡ layout m → class_of n ≡ class_of m → KeepsOwned m n → IsFlexAt m e → IsFlexAt n e
flex_written m n None same marks kept is = record {
  headers = λ a. ap (λ (c : ℕ → Class). is_flex_header (c a)) marks ∙ is.headers a;
  anchors = λ a. ap (λ (c : ℕ → Class). is_anchor (c a)) marks ∙ is.anchors a;
}
flex_written m n (Some e) same marks kept is = store_written m n e same marks kept is

-- a byte that a guest stores
not_met : (owned : ℕ → Bool) (x a : ℕ) → owned x ≡ true → owned a ≡ false → nat_eq x a ≡ false
not_met owned x a is free = elim (cases_Bool (nat_eq x a)) [
  | inr other ↦ other
  | inl same ↦ absurd (true≢false (sym is ∙ (ap owned (eqb-true x a same) ∙ free)))
]

kept_by : (owned : ℕ → Bool) (b c : Bytes) (a v : ℕ) (f : Option Fault) (r : Result Unit Fault) → (f ≡ None → owned a ≡ false)
    → Leaves b (ok_unless_fault f (with_byte b a v)) r c → (x : ℕ) → owned x ≡ true → c.at x ≡ b.at x
kept_by owned b c a v None (Ok u) free left x is =
    ap (λ (d : Bytes). d.at x) left ∙ rw (not_met owned x a is (free refl)) refl
kept_by owned b c a v None (Err e) free left x is = absurd left
kept_by owned b c a v (Some f) (Ok u) free left x is = absurd left
kept_by owned b c a v (Some f) (Err e) free left x is = ap (λ (d : Bytes). d.at x) left.1

pub stored_owned : (m n : AddressMap) (a v : ℕ) (r : Result Unit Fault) → Leaves (bytes_of m) (byte_stored (is_owned m) (bytes_of m) a v) r (bytes_of n)
    → KeepsOwned m n
unfolding byte_stored
stored_owned m n a v r left =
    kept_by (is_owned m) (bytes_of m) (bytes_of n) a v (store_fault (is_owned m) (bytes_of m) a) r
    (λ e. unowned (nat_le (2 ^ 26) a) (is_mapped m a) (is_owned m a) e) left

-- and what the tests go on from
pub bench_poked : (m n : AddressMap) (f : Flex) (a v : ℕ) (r : Result Unit Fault) → IsBench m f → layout n ≡ layout m → class_of n ≡ class_of m
    → Leaves (bytes_of m) (byte_stored (is_owned m) (bytes_of m) a v) r (bytes_of n) → IsBench n f
bench_poked m n f a v r bench same marks left =
    let kept : KeepsOwned m n = stored_owned m n a v r left in
    let owned : is_owned m ≡ owned_in (store_of m) = owned_marks m bench.classes in
    let k : IsKept m n = heads_kept m n same marks bench.sound (λ x is. kept x (ap (λ (g : ℕ → Bool). g x) owned ∙ spelled_owned (store_of m) x is)) in
    record {
      flex = flex_written m n f.extent same marks kept bench.flex;
      sound = k.sound;
      classes = classes_same m n (ap (λ (s : Store). s.heaps) k.store) (λ x. ap (λ (c : ℕ → Class). c x) marks) bench.classes;
      few = rw (ap (λ (s : Store). s.others) k.store) bench.few;
    }
