-- The class of each address after one word was marked, and after a page was mapped or taken away.
use Rattle.std.proofs.Common.{◌≡◌, ◌≢◌, ℕ, ◌+◌, ◌-◌, ◌*◌, ◌/◌, ◌%◌, ◌<◌, ◌≤◌, ◌⊎◌, ◌==◌, true, false, cond, List, [], ◌∷◌, length, set, slice_index, Option, Some, None, arith, refl, sym, ap, ◌∙◌, inl, inr}
use Rattle.std.proofs.lemmas.Bool.{cases_eq, eq-eqb, ne_eqb, le-leb, lt-ltb, false≢true, cond-false}
use Rattle.address_map.specs.declared.class.Class.{Class}
use Rattle.address_map.specs.declared.class.Class.TheVariants.{Plain}
use Rattle.address_map.specs.declared.map.AddressMap.{AddressMap}
use Rattle.address_map.specs.declared.marks.Marks.{Marks}
use Rattle.address_map.specs.declared.region.Kind.{Kind}
use Rattle.address_map.specs.declared.region.Kind.TheVariants as kind
use Rattle.address_map.specs.declared.region.Region.{Region}
use Rattle.address_map.specs.Bytes.{in_range, word_start}
use Rattle.address_map.specs.Classes.{class_of_number, lane}
use Rattle.address_map.specs.Marks.{class_at, mark_in}
use Rattle.address_map.specs.Memory.{place, is_mapped, class_of}
use Rattle.address_map.specs.Pages.{frame_at, place_in_frame, place_in, IsUnused}
use Rattle.address_map.specs.Records.{IsRegion, is_heap_kind, is_word_kind, with_class, with_plain_at, without_region}
use Rattle.address_map.proofs.Loads.{place_next, place_only, place_fits}
use Rattle.address_map.proofs.PageTable.{frame_found, place_within, place_near, place_set, place_set_other}
use Rattle.address_map.proofs.Spans.{mapped_below}
use Rattle.address_map.proofs.Stores.{in_range-cases}

-- marks and table that stay leave each class
pub same_marks : (m n : AddressMap) → n.frames ≡ m.frames → n.marks ≡ m.marks → class_of n ≡ class_of m
unfolding class_of place
same_marks m n frames marks = λ i a. mark_in (marks i) (place_in (frames i) a)

mark_same : (marks news : Marks) → news.bytes ≡ marks.bytes → (there : Option ℕ) → mark_in news there ≡ mark_in marks there
unfolding class_at
mark_same marks news bytes None = refl
mark_same marks news bytes (Some k) = ap (λ (xs : List ℕ). class_of_number (lane (slice_index xs (k / 4 / 4)) (k / 4 % 4))) bytes

-- the same of copies
pub copied_marks : (m n : AddressMap) → n.frames ≡ m.frames → n.marks.bytes ≡ m.marks.bytes → class_of n ≡ class_of m
unfolding class_of place
copied_marks m n frames marks = λ i a.
    (ap (λ (xs : List (Option ℕ)). mark_in n.marks (place_in xs a)) frames ∙ mark_same m.marks n.marks marks (place_in m.frames a)) i

pub place_lane : (m : AddressMap) (a k : ℕ) → place m a ≡ Some k → k % 4096 ≡ a % 4096
unfolding place
place_lane m a k h = (place_within m.frames m.free.items a k m.table h).0

-- where the word lies that holds the byte at a place
pub place_word : (m : AddressMap) (a k : ℕ) → place m a ≡ Some k → place m (word_start a) ≡ Some (k - k % 4)
unfolding place
place_word m a k h =
    let low = place_lane m a k h in
    let e : k - a % 4096 + word_start a % 4096 ≡ k - k % 4 = omega arith in
    place_near m.frames a (word_start a) k (omega arith) h ∙ ap Some e

-- addresses of one word have their bytes in one word of the store, and those of others in others
words_match : (m : AddressMap) (at k a p : ℕ) → at % 4 ≡ 0 → place m at ≡ Some k → place m a ≡ Some p
    → ((word_start a ≡ at) × (p / 4 ≡ k / 4)) ⊎ ((word_start a ≢ at) × (p / 4 ≢ k / 4))
words_match m at k a p aligned h g =
    let w : place m (word_start a) ≡ Some (p - p % 4) = place_word m a p g in
    let low : k % 4 ≡ 0 = omega (arith, place_lane m at k h) in
    elim (cases_eq (word_start a) at) [
      | inl same ↦
          let e : Some (p - p % 4) ≡ Some k = sym w ∙ (ap (place m) same ∙ h) in
          let e' : p - p % 4 ≡ k = cc in
          inl (same, omega arith)
      | inr differ ↦ inr (
        differ,
        λ same.
            let e : p - p % 4 ≡ k = omega arith in
            differ (place_only m (word_start a) at k (w ∙ ap Some e) h),
      )
    ]

pub word_marked : (m : AddressMap) (marks : Marks) (at k : ℕ) (class : Class) → at % 4 ≡ 0 → place m at ≡ Some k
    → ((j : ℕ) → class_at marks j ≡ cond (j == k / 4) class (class_at m.marks j))
    → (a : ℕ) → mark_in marks (place m a) ≡ with_class (class_of m) at class a
unfolding class_of
word_marked m marks at k class aligned h marked a = found (place m a) refl where
  found : (there : Option ℕ) → place m a ≡ there → mark_in marks there ≡ cond (word_start a == at) class (mark_in m.marks there)
  found None none =
      let no : word_start a ≢ at = λ same.
      let e : at + (a - at) ≡ a = omega arith in
      let there = place_next m at (a - at) k aligned (omega arith) h in
      let there' = rw e at there in
      let e' : None ≡ Some (k + (a - at)) = sym none ∙ there' in cc in
      rw (ne_eqb (word_start a) at no) refl
  found (Some p) some =
      marked (p / 4) ∙ elim (words_match m at k a p aligned h some) [
        | inl both ↦ rw (eq-eqb (word_start a) at both.0, eq-eqb (p / 4) (k / 4) both.1) refl
        | inr none ↦ rw (ne_eqb (word_start a) at none.0, ne_eqb (p / 4) (k / 4) none.1) refl
      ]

-- the word of a place has its mark
pub marks_room : (m : AddressMap) (a k : ℕ) → place m a ≡ Some k → k / 4 / 4 < length m.marks.bytes
marks_room m a k h = omega (arith, place_fits m a k h, m.marks_fit)

-- A page that is mapped is plain, and no other word of the store changes its class.
module _ (frames : List (Option ℕ)) (addr frame : ℕ) (aligned : addr % 4096 ≡ 0) (below : addr / 4096 < length frames) (none : frame_at frames (addr / 4096) ≡ None) (unused : IsUnused frames frame)
    (marks news : Marks) (clear : (k : ℕ) → class_at news k ≡ cond (in_range (4 * (256 * frame)) 1024 k) Plain (class_at marks k)) where
  kept : (a : ℕ) (there : Option ℕ) → place_in frames a ≡ there → mark_in news there ≡ mark_in marks there
  kept a None h = refl
  kept a (Some k) h =
      let f = frame_found a k (frame_at frames (a / 4096)) h in
      let at : k ≡ 4096 * f.0 + a % 4096 = f.1.1 in
      let other : f.0 ≢ frame = λ same. unused (a / 4096) (f.1.0 ∙ ap Some same) in
      elim (in_range-cases (4 * (256 * frame)) 1024 (k / 4)) [
        | inl r ↦ absurd (other (omega (arith, r.1, r.2)))
        | inr r ↦ clear (k / 4) ∙ cond-false _ _ _ r.0
      ]

  cleared : (k : ℕ) → 1024 * frame ≤ k → k < 1024 * frame + 1024 → class_at news k ≡ Plain
  cleared k low high = clear k ∙ rw (le-leb (4 * (256 * frame)) k (omega arith), lt-ltb k (4 * (256 * frame) + 1024) (omega arith)) refl

  pub marks_more : (a : ℕ) → mark_in news (place_in (set frames (addr / 4096) (Some frame)) a) ≡ mark_in marks (place_in frames a)
  marks_more a =
      elim (in_range-cases addr 4096 a) [
        | inl r ↦
            let page : a / 4096 ≡ addr / 4096 = omega (arith, r.1, r.2) in
            let e : place_in frames a ≡ None = ap (λ (p : ℕ). place_in_frame a (frame_at frames p)) page ∙ ap (place_in_frame a) none in
            rw (place_set frames (addr / 4096) a (Some frame) below page, e) (cleared ((4096 * frame + a % 4096) / 4) (omega arith) (omega arith))
        | inr r ↦ rw (place_set_other frames (addr / 4096) a (Some frame) (omega (arith, r.1))) (kept a (place_in frames a) refl)
      ]

-- a page that is taken away is plain
pub marks_less : (frames : List (Option ℕ)) (addr : ℕ) → addr % 4096 ≡ 0 → addr / 4096 < length frames → (marks : Marks) (a : ℕ)
    → mark_in marks (place_in (set frames (addr / 4096) None) a) ≡ with_plain_at (λ b. mark_in marks (place_in frames b)) addr 4096 a
marks_less frames addr aligned below marks a =
    elim (in_range-cases addr 4096 a) [
      | inl r ↦ rw (r.0, place_set frames (addr / 4096) a None below (omega (arith, r.1, r.2))) refl
      | inr r ↦ rw (r.0, place_set_other frames (addr / 4096) a None (omega (arith, r.1))) refl
    ]

-- a word is no record
pub without_word : (records : List Region) (k : Kind) (at : ℕ) → is_word_kind k ≡ true → records ≡ without_region records k at
without_word [] k at is = refl
without_word (r ∷ rs) kind.HeadWord at is = ap (λ others. r ∷ others) (without_word rs kind.HeadWord at is)
without_word (r ∷ rs) kind.Anchor at is = ap (λ others. r ∷ others) (without_word rs kind.Anchor at is)
without_word (r ∷ rs) kind.FlexHeader at is = ap (λ others. r ∷ others) (without_word rs kind.FlexHeader at is)
without_word (r ∷ rs) kind.Heap at is = absurd (false≢true is)
without_word (r ∷ rs) kind.Rma at is = absurd (false≢true is)
without_word (r ∷ rs) kind.FlexStore at is = absurd (false≢true is)
without_word (r ∷ rs) kind.Image at is = absurd (false≢true is)
without_word (r ∷ rs) kind.SystemPage at is = absurd (false≢true is)

pub heap_is_no_word : (k : Kind) → is_heap_kind k ≡ true → is_word_kind k ≡ false
heap_is_no_word kind.Heap is = refl
heap_is_no_word kind.Rma is = refl
heap_is_no_word kind.FlexStore is = refl
heap_is_no_word kind.FlexHeader is = absurd (false≢true is)
heap_is_no_word kind.Anchor is = absurd (false≢true is)
heap_is_no_word kind.HeadWord is = absurd (false≢true is)
heap_is_no_word kind.Image is = refl
heap_is_no_word kind.SystemPage is = refl

-- a mapped word is a range that ends in the address space
pub word_region : (m : AddressMap) (k : Kind) (at : ℕ) → at % 4 ≡ 0 → is_mapped m at ≡ true → IsRegion (record { kind = k; at = at; len = 4 })
word_region m k at aligned mapped = record { aligned = aligned; end = omega (arith, mapped_below m at mapped) }
