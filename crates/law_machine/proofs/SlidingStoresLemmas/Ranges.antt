-- Recorded ranges: two different ones share no byte, and one that is not the flex store's has no
-- byte of that.
use Rattle.std.proofs.Common.{ℕ, true, false, ◌&&◌, ◌≡◌, List, [], ◌∷◌, refl, sym, ap, subst, ◌∙◌, inl, inr}
use Rattle.std.proofs.lemmas.Bool.{and_parts, both_ways, false_from_ne_true, false≢true, or_cases}
use Rattle.address_map.specs.Bytes.{in_range}
use Rattle.address_map.specs.declared.region.Region.{Region}
use Rattle.os_heap.proofs.Stores.{clear_both_ways}
use Rattle.os_heap.specs.Store.{AreClear, AreRangesApart, is_flex_store, is_in_flex_store}
use Rattle.dynamic_areas.specs.Ground.{IsRecorded}
use Rattle.rma.proofs.FlexFrameLemmas.Writes.{clear_of_recorded}

pub recorded_apart : (r q : Region) (rs : List Region) → (r ≡ q → ⊥) → AreRangesApart rs → IsRecorded r rs → IsRecorded q rs → AreClear r.at r.len q.at q.len
recorded_apart r q [] other apart first second = absurd first
recorded_apart r q (p ∷ rs) other apart first second = elim first [
  | inl here ↦ elim second [
    | inl there ↦ absurd (other (sym here ∙ there))
    | inr later ↦ subst (λ (x : Region). AreClear x.at x.len q.at q.len) here (clear_of_recorded p q rs apart.0 later)
  ]
  | inr later ↦ elim second [
    | inl there ↦ subst (λ (x : Region). AreClear r.at r.len x.at x.len) there (clear_both_ways p.at p.len r.at r.len (clear_of_recorded p r rs apart.0 later))
    | inr last ↦ recorded_apart r q rs other apart.1 later last
  ]
]

-- the record of the flex store
record IsStoreRecord (rs : List Region) (a : ℕ) : Type 0 where
  range : Region
  recorded : IsRecorded range rs
  kind : is_flex_store range.kind ≡ true
  inside : in_range range.at range.len a ≡ true

store_record : (rs : List Region) (a : ℕ) → is_in_flex_store rs a ≡ true → IsStoreRecord rs a
store_record [] a is = absurd (false≢true is)
store_record (r ∷ rs) a is = elim (or_cases (is_flex_store r.kind && in_range r.at r.len a) (is_in_flex_store rs a) is) [
  | inl here ↦
      let parts = and_parts (is_flex_store r.kind) (in_range r.at r.len a) here in
      record { range = r; recorded = inl refl; kind = parts.0; inside = parts.1 }
  | inr later ↦
      let x : IsStoreRecord rs a = store_record rs a later in
      record { range = x.range; recorded = inr x.recorded; kind = x.kind; inside = x.inside }
]

-- has no byte of another range
pub outside_store : (r : Region) (rs : List Region) (a : ℕ) → is_flex_store r.kind ≡ false → AreRangesApart rs → IsRecorded r rs
    → in_range r.at r.len a ≡ true → is_in_flex_store rs a ≡ false
outside_store r rs a other apart recorded inside = false_from_ne_true (is_in_flex_store rs a) (λ is.
    let x : IsStoreRecord rs a = store_record rs a is in
    let differ : r ≡ x.range → ⊥ = λ same. both_ways (is_flex_store r.kind) other (ap (λ (q : Region). is_flex_store q.kind) same ∙ x.kind) in
    both_ways (in_range x.range.at x.range.len a) (recorded_apart r x.range rs differ apart recorded x.recorded a inside) x.inside)
