-- A copy that is laid out as a memory gets its bytes, page by page, and has its store then.
use Rattle.std.proofs.Common.{◌≡◌, ℕ, ◌+◌, ◌-◌, ◌*◌, ◌/◌, ◌<◌, Bool, true, false, List, [], ◌∷◌, length, Option, Some, None, is_some, refl, sym, ap, subst, ◌∙◌, arith, inl, inr}
use Rattle.std.specs.Prelude.{MatchOption}
use Rattle.std.proofs.lemmas.Bool.{and_parts, cases_lt, false≢true}
use Rattle.std.specs.Cmp.Lexicographic.{pointwise}
use Rattle.std.proofs.lemmas.Bool.Decides.{nat_tests}
use Rattle.address_map.specs.Bytes.{in_range, with_bytes_at}
use Rattle.address_map.specs.Classes.{is_anchor, is_flex_header}
use Rattle.address_map.specs.Lent.{IsLent}
use Rattle.address_map.specs.Memory.{byte_at, bytes_of, class_of, is_mapped, layout}
use Rattle.address_map.specs.declared.class.Class.{Class}
use Rattle.address_map.specs.declared.map.AddressMap.{AddressMap}
use Rattle.address_map.specs.declared.region.Region.{Region}
use Rattle.address_map.proofs.Bytes.{byte_at-unmapped, is_mapped-layout, is_mapped-page}
use Rattle.address_map.proofs.Loads.{place_past}
use Rattle.swi_dispatch_guest.specs.State.{IsFlex, IsFlexAt, IsNoFlex}
use Rattle.swi_dispatch_guest.specs.Extent.{Extent}
use Rattle.swi_dispatch_guest.specs.Flex.{Flex}
use Rattle.swi_dispatch_guest.proofs.OsHeapFrame.{layout-regions}
use Rattle.swi_dispatch_guest.specs.Store.{Store, heaps_in, others_in, store_of}
use Rattle.store_copies.specs.Copies.{IsLaidAlike}
use Rattle.store_copies.specs.Pages.{AreUnmappedPages}

-- the bytes below an address
abbrev pub AreBytesBelow : AddressMap → AddressMap → ℕ → Type 0
AreBytesBelow m n end = (a : ℕ) → a < end → byte_at m a ≡ byte_at n a

-- a page that was written
pub page_written : (old new n : AddressMap) (page : ℕ) (lent : List ℕ) → IsLent (bytes_of n) (4096 * page) 4096 lent
    → ((a : ℕ) → byte_at new a ≡ with_bytes_at (byte_at old) (4096 * page) lent a)
    → AreBytesBelow old n (4096 * page) → AreBytesBelow new n (4096 * (page + 1))
page_written old new n page lent is wrote below a inside =
    let size = is.size in
    elim (cases_lt a (4096 * page)) [
      | inl low ↦
          let out : in_range (4096 * page) (length lent) a ≡ false = grind (arith, nat_tests, low) in
          wrote a ∙ (rw out refl ∙ below a low)
      | inr high ↦
          let here : in_range (4096 * page) (length lent) a ≡ true = grind (arith, nat_tests, high, inside, size) in
          let at : 4096 * page + (a - 4096 * page) ≡ a = omega (arith, high) in
          wrote a ∙ (rw here refl ∙ (is.bytes (a - 4096 * page) (omega (arith, high, inside)) ∙ ap (byte_at n) at))
    ]

-- pages that aren't mapped
pub pages_absent : (m n : AddressMap) (from to : ℕ) → ((a : ℕ) → is_mapped m a ≡ is_mapped n a) → AreUnmappedPages n from to
    → AreBytesBelow m n (4096 * from) → AreBytesBelow m n (4096 * to)
pages_absent m n from to alike none below a inside = elim (cases_lt a (4096 * from)) [
  | inl low ↦ below a low
  | inr high ↦
      let unmapped : is_mapped n a ≡ false =
      is_mapped-page n a (4096 * (a / 4096)) (omega arith) ∙ none (a / 4096) (omega (arith, high)) (omega (arith, inside)) in
      byte_at-unmapped m a (alike a ∙ unmapped) ∙ sym (byte_at-unmapped n a unmapped)
]

-- past the end of memory there are none
pub all_below : (m n : AddressMap) → AreBytesBelow m n 67108864 → (a : ℕ) → byte_at m a ≡ byte_at n a
all_below m n below a = elim (cases_lt a 67108864) [
  | inl low ↦ below a low
  | inr high ↦
      byte_at-unmapped m a (ap is_some (place_past m a high)) ∙ sym (byte_at-unmapped n a (ap is_some (place_past n a high)))
]

-- one page
pub one_absent : (n : AddressMap) (page : ℕ) → is_mapped n (4096 * page) ≡ false → AreUnmappedPages n page (page + 1)
one_absent n page unmapped q from to =
    let e : q ≡ page = omega (arith, from, to) in
    ap (λ (i : ℕ). is_mapped n (4096 * i)) e ∙ unmapped

-- the store that a memory stands for, of its parts
stored : (ℕ → Bool) → (ℕ → ℕ) → List Region → (ℕ → Bool) → (ℕ → Bool) → Store
stored mapped bytes ranges anchor header = record {
  bytes = record { mapped = mapped; at = bytes };
  heaps = heaps_in (record { mapped = mapped; at = bytes }) ranges;
  others = others_in ranges;
  anchor = anchor;
  header = header;
}

-- Neither marks, what is mapped nor what is recorded was changed in the copy.
pub store_renewed : (old new n : AddressMap) → IsLaidAlike old n → ((a : ℕ) → byte_at new a ≡ byte_at n a) → layout new ≡ layout old
    → class_of new ≡ class_of old → store_of new ≡ store_of n
unfolding store_of stored
store_renewed old new n is bytes laid marks = λ i. stored
    (λ a. (ap (λ (p : ℕ → Bool). p a) (is_mapped-layout old new laid) ∙ is.mapped a) i) (λ a. bytes a i)
    ((layout-regions old new laid ∙ is.regions) i)
    (λ a. (ap (λ (p : ℕ → Class). is_anchor (p a)) marks ∙ (is.first.anchors a ∙ sym (is.second.anchors a))) i)
    (λ a. (ap (λ (p : ℕ → Class). is_flex_header (p a)) marks ∙ (is.first.headers a ∙ sym (is.second.headers a))) i)

-- no flex store
pub no_flex : (m : AddressMap) (f : Flex) {A : Type 0} (o : Option A) (Q : A → Type 0) → MatchOption o (f.extent ≡ None) Q → is_some o ≡ false
    → IsFlex m f → IsNoFlex m
no_flex m f None Q none absent is = subst (λ (e : Option Extent). IsFlexAt m e) none is
no_flex m f (Some x) Q some absent is = absurd (false≢true (sym absent))

-- slices of ranges that are the same
pub same_elements : {A : Type 0} {E : A → A → Bool} → ((x y : A) → E x y ≡ true → x ≡ y) → (xs ys : List A) → pointwise E xs ys ≡ true → xs ≡ ys
same_elements same [] [] is = refl
same_elements same [] (y ∷ ys) is = absurd (false≢true is)
same_elements same (x ∷ xs) [] is = absurd (false≢true is)
same_elements same (x ∷ xs) (y ∷ ys) is =
    let both = and_parts _ _ is in
    λ i. same x y both.0 i ∷ same_elements same xs ys both.1 i
