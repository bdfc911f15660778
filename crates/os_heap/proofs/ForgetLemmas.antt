-- What is left of memory when heaps are forgotten: the records without them, and the marks without those of their words.
use Rattle.std.proofs.Common.{Bool, List, ℕ, [], ◌∷◌, ◌≡◌, ◌≤◌, ◌+◌, ◌-◌, ◌%◌, ◌^◌, ◌==◌, ◌∙◌, Some, None, false, is_some, refl, sym, ap, subst, inl, inr, arith}
use Rattle.std.proofs.lemmas.Bool.{cases_Bool}
use Rattle.os_heap_words.proofs.Stores.{layout-mapping}
use Rattle.os_heap_words.specs.Bytes.{AreMapped, Bytes, in_range, word_at}
use Rattle.os_heap_words.specs.Classes.{is_anchor, is_flex_header, is_heap_class}
use Rattle.os_heap_words.specs.Items.{items_in, size_of}
use Rattle.os_heap_words.specs.Memory.{byte_at, bytes_of, class_of, is_mapped, mapping, regions}
use Rattle.os_heap_words.specs.Records as record_of
use Rattle.os_heap_words.specs.Records.{is_guest_heap, is_heap_kind}
use Rattle.os_heap_words.specs.Class.{Class}
use Rattle.os_heap_words.specs.Class.TheVariants as class
use Rattle.os_heap_words.specs.Item.{Item}
use Rattle.os_heap_words.specs.Item.TheVariants.{Free, Live}
use Rattle.os_heap_words.specs.AddressMap.{AddressMap}
use Rattle.os_heap_words.specs.Region.{Region}
use Rattle.os_heap_words.proofs.ListsLemmas.LiveBlocks.{LiveBytes, law_live_bytes}
use Rattle.os_heap_words.proofs.ListsLemmas.Reading.{total_facts}
use Rattle.os_heap_words.specs.lists.Heap.{AreTotals, HeapList, IsHeapIn}
use Rattle.os_heap_words.specs.lists.Lists.{live_total}
use Rattle.os_heap_words.specs.lists.Walks.{IsBlock}
use Rattle.os_heap.proofs.FlexWords.{AreSameFlex}
use Rattle.os_heap.proofs.Forgetting.{forgot_sound, lowest_found, lowest_least}
use Rattle.os_heap.proofs.Found.{found_heap}
use Rattle.os_heap.proofs.Frame.{layout-regions}
use Rattle.os_heap.proofs.Held.{AreBy}
use Rattle.os_heap.proofs.GuestKinds.{guest_kind, plain_kind}
use Rattle.os_heap.proofs.LostHeaps.{forgot_beyond, forgot_none, forgot_spelled, forgot_unspelled, none_without}
use Rattle.os_heap.proofs.LostRecords.{loses_range, rest_kept}
use Rattle.os_heap_words.proofs.Replace.{heap_below}
use Rattle.os_heap.specs.Forgetting.{store_after_forget, holds_heap, lowest_lost, starts_in, without_heaps_in}
use Rattle.os_heap_words.specs.Marks.{SetsClasses, class_without_head, with_no_heads}
use Rattle.os_heap_words.specs.Cursors.{IsAtBlock}
use Rattle.os_heap_words.specs.Outcomes.{HasHeapAt}
use Rattle.os_heap.specs.Sound.{Forgets, HasBlock, IsSoundMap}
use Rattle.os_heap_words.specs.declared.walk.Cursor.{Cursor}
use Rattle.os_heap.specs.Store.{IsSound, Store, heap_in, heaps_in, others_in, store_of}

-- the totals of blocks are multiples of 8
live_whole : (block total at : ℕ) (xs : List Item) → AreTotals xs → live_total block at xs ≡ Some total → total % 8 ≡ 0
live_whole block total at [] totals live = absurd (let none : None ≡ Some total = live in cc)
live_whole block total at (Live t ∷ xs) totals live = elim (cases_Bool (at + 4 == block)) [
  | inl here ↦
      let found = rw here at live in
      let same : t ≡ total = cc in
      subst (λ (n : ℕ). n % 8 ≡ 0) same (total_facts t totals.0).1
  | inr other ↦ live_whole block total (at + t) xs totals.1 (rw other at live)
]
live_whole block total at (Free t ∷ xs) totals live = live_whole block total (at + t) xs totals.1 live

-- where a block's bytes lie
pub record LiesAt (m : AddressMap) (block total : ℕ) : Type 0 where
  pub above : 20 ≤ block
  pub some : 8 ≤ total
  pub whole : total % 8 ≡ 0
  pub aligned : block % 4 ≡ 0
  pub below : block - 4 + total ≤ 67108864
  pub mapped : AreMapped (is_mapped m) block (total - 4)

pub lies_at : (m : AddressMap) (block total : ℕ) → IsSoundMap m → HasBlock m block total → LiesAt m block total
unfolding store_of
lies_at m block total state h =
    let start : ℕ = h.heap.start in
    let heap : IsHeapIn (bytes_of m) start h.heap.end h.heap.items = found_heap (bytes_of m) start (store_of m).heaps h.heap state.sound.heaps h.found in
    let lies : LiveBytes block total (start + 16) (start + 16 + size_of h.heap.items) = law_live_bytes block total (start + 16) h.heap.items heap.totals h.live in
    let top : start + h.heap.end ≤ 2 ^ 26 = heap_below m start h.heap.end h.heap.items heap in
    let aligned = heap.aligned in
    record {
      above = omega (arith, lies.low);
      some = lies.size;
      whole = live_whole block total (start + 16) h.heap.items heap.totals h.live;
      aligned = lies.whole (omega arith);
      below = omega (arith, lies.high, heap.inside, top);
      mapped = λ a low high. heap.mapped a (omega (arith, low, lies.low)) (omega (arith, high, lies.high, lies.low, lies.size, heap.inside));
    }

-- where the range that is swept lies
pub record IsSwept (m : AddressMap) (block total low : ℕ) : Type 0 where
  pub least : block ≤ low
  pub aligned : low % 4 ≡ 0
  pub whole : (block - 4 + total - low) % 4 ≡ 0
  pub mapped : AreMapped (is_mapped m) low (block - 4 + total - low)

pub swept : (m : AddressMap) (block total from : ℕ) → IsSoundMap m → HasBlock m block total → block ≤ from → from % 4 ≡ 0
    → IsSwept m block total (lowest_lost block (total - 4) from (store_of m).heaps)
unfolding store_of
swept m block total from state h past whole =
    let low : ℕ = lowest_lost block (total - 4) from (store_of m).heaps in
    let at : LiesAt m block total = lies_at m block total state h in
    let least : block ≤ low = lowest_least block (total - 4) from (store_of m).heaps past in
    let aligned : low % 4 ≡ 0 = elim (lowest_found (bytes_of m) block (total - 4) from (store_of m).heaps state.sound.heaps) [
      | inl same ↦ subst (λ (n : ℕ). n % 4 ≡ 0) (sym same) whole
      | inr lowest ↦
          let there : IsHeapIn (bytes_of m) lowest.heap.start lowest.heap.end lowest.heap.items =
          found_heap (bytes_of m) lowest.heap.start (store_of m).heaps lowest.heap state.sound.heaps lowest.found in
          subst (λ (n : ℕ). n % 4 ≡ 0) lowest.here there.aligned
    ] in
    let eights = at.whole in
    let fours = at.aligned in
    record {
      least = least;
      aligned = aligned;
      whole = omega (arith, aligned, eights, fours, at.above, at.some);
      mapped = λ a from_low to. at.mapped a (omega (arith, least, from_low)) (omega (arith, from_low, to, at.above, at.some));
    }

-- the heaps that are recorded, when records were taken away
heaps_left : (b : Bytes) (at len : ℕ) (rs : List Region) → heaps_in b (record_of.without_heaps at len rs) ≡ without_heaps_in at len (heaps_in b rs)
heaps_left b at len [] = refl
heaps_left b at len (r ∷ rs) = elim (cases_Bool (is_heap_kind r.kind)) [
  | inr plain ↦ rw (plain_kind r.kind plain, plain) (heaps_left b at len rs)
  | inl heap ↦ elim (cases_Bool (starts_in at len (heap_in b r))) [
    | inl gone ↦ rw (heap, guest_kind r.kind heap, gone) (heaps_left b at len rs)
    | inr kept ↦ rw (heap, guest_kind r.kind heap, kept, heap) (ap (λ (hs : List HeapList). heap_in b r ∷ hs) (heaps_left b at len rs))
  ]
]

others_left : (at len : ℕ) (rs : List Region) → others_in (record_of.without_heaps at len rs) ≡ others_in rs
others_left at len [] = refl
others_left at len (r ∷ rs) = elim (cases_Bool (is_heap_kind r.kind)) [
  | inr plain ↦ rw (plain_kind r.kind plain, plain) (ap (λ (qs : List Region). r ∷ qs) (others_left at len rs))
  | inl heap ↦ elim (cases_Bool (record_of.starts_heap at len r)) [
    | inl gone ↦ rw (heap, gone) (others_left at len rs)
    | inr kept ↦ rw (heap, kept, heap) (others_left at len rs)
  ]
]

-- the marks of anchors and headers stay
unheaded_anchor : (own : Class) → is_anchor (class_without_head own) ≡ is_anchor own
unheaded_anchor class.Plain = refl
unheaded_anchor class.Heap = refl
unheaded_anchor class.FlexHeader = refl
unheaded_anchor class.Anchor = refl

unheaded_header : (own : Class) → is_flex_header (class_without_head own) ≡ is_flex_header own
unheaded_header class.Plain = refl
unheaded_header class.Heap = refl
unheaded_header class.FlexHeader = refl
unheaded_header class.Anchor = refl

unheaded_heap : (own : Class) → is_heap_class (class_without_head own) ≡ false
unheaded_heap class.Plain = refl
unheaded_heap class.Heap = refl
unheaded_heap class.FlexHeader = refl
unheaded_heap class.Anchor = refl

flex_unheaded : (c d : ℕ → Class) (at len : ℕ) → ((a : ℕ) → d a ≡ with_no_heads at len c a) → AreSameFlex c d
flex_unheaded c d at len change = record {
  anchors = λ a. ap is_anchor (change a) ∙ elim (cases_Bool (in_range at len a)) [ inl here ↦ rw here (unheaded_anchor (c a)) | inr other ↦ rw other refl ];
  headers = λ a. ap is_flex_header (change a) ∙ elim (cases_Bool (in_range at len a)) [ inl here ↦ rw here (unheaded_header (c a)) | inr other ↦ rw other refl ];
}

-- a memory with fewer heaps recorded
store_left : (m n : AddressMap) (at len : ℕ) → regions n ≡ record_of.without_heaps at len (regions m) → bytes_of n ≡ bytes_of m
    → AreSameFlex (class_of m) (class_of n) → store_of n ≡ record (store_of m) { heaps = without_heaps_in at len (store_of m).heaps }
unfolding store_of
store_left m n at len records bytes flex =
    let heaps : heaps_in (bytes_of m) (record_of.without_heaps at len (regions m)) ≡ without_heaps_in at len (heaps_in (bytes_of m) (regions m)) =
    heaps_left (bytes_of m) at len (regions m) in
    let others : others_in (record_of.without_heaps at len (regions m)) ≡ others_in (regions m) = others_left at len (regions m) in
    rw (bytes, records) (λ i. record {
      bytes = bytes_of m;
      heaps = heaps i;
      others = others i;
      anchor = λ a. flex.anchors a i;
      header = λ a. flex.headers a i;
    })

classes_left : (m n : AddressMap) (block total from : ℕ) → IsSoundMap m → HasBlock m block total → block ≤ from
    → (let low : ℕ = lowest_lost block (total - 4) from (store_of m).heaps in
    ((a : ℕ) → class_of n a ≡ with_no_heads low (block - 4 + total - low) (class_of m) a) → AreBy (class_of n) (store_after_forget (store_of m) block total from).heaps)
classes_left m n block total from state h past change a =
    let low : ℕ = lowest_lost block (total - 4) from (store_of m).heaps in
    let len : ℕ = block - 4 + total - low in
    ap is_heap_class (change a) ∙ elim (cases_Bool (in_range low len a)) [
      | inl here ↦ rw here (unheaded_heap (class_of m a)) ∙ sym (forgot_unspelled (store_of m) h.heap block total from a state.sound h.found h.live past here)
      | inr other ↦ rw other (state.classes a) ∙ sym (forgot_spelled (store_of m) h.heap block total from a state.sound h.found h.live past other)
    ]

pub same_bytes_of : (m n : AddressMap) → mapping n ≡ mapping m → byte_at n ≡ byte_at m → bytes_of n ≡ bytes_of m
same_bytes_of m n moved bytes = λ i. record { mapped = λ a. is_some ((moved i).place a); at = bytes i }

-- the marks were taken off, and the records dropped
pub forgets : (m u n : AddressMap) (block total from : ℕ) → IsSoundMap m → HasBlock m block total → block ≤ from
    → (let low : ℕ = lowest_lost block (total - 4) from (store_of m).heaps in
    SetsClasses m u (with_no_heads low (block - 4 + total - low) (class_of m))
    → regions n ≡ record_of.without_heaps low (block - 4 + total - low) (regions u)
    → mapping n ≡ mapping u → byte_at n ≡ byte_at u → class_of n ≡ class_of u → Forgets m n block total from)
forgets m u n block total from state h past set records moved bytes marks =
    let low : ℕ = lowest_lost block (total - 4) from (store_of m).heaps in
    let len : ℕ = block - 4 + total - low in
    let records' : regions n ≡ record_of.without_heaps low len (regions m) =
    records ∙ ap (record_of.without_heaps low len) (layout-regions m u set.layout) in
    let moved' : mapping n ≡ mapping m = moved ∙ layout-mapping m u set.layout in
    let bytes' : byte_at n ≡ byte_at m = bytes ∙ set.bytes in
    let change : (a : ℕ) → class_of n a ≡ with_no_heads low len (class_of m) a = λ a. ap (λ (f : ℕ → Class). f a) marks ∙ set.marks a in
    let store : store_of n ≡ store_after_forget (store_of m) block total from =
    store_left m n low len records' (same_bytes_of m n moved' bytes') (flex_unheaded (class_of m) (class_of n) low len change) in
    record {
      store = store;
      kept = record {
        sound = subst IsSound (sym store) (forgot_sound (store_of m) block total from state.sound);
        classes = subst (λ (s : Store). AreBy (class_of n) s.heaps) (sym store) (classes_left m n block total from state h past change);
        others = ap (λ (s : Store). s.others) store;
        mapping = moved';
        records = loses_range m n low len state.sound records' (ap (λ (s : Store). s.heaps) store);
      };
      bytes = bytes';
    }

-- nothing was to be forgotten
unforgotten : (m : AddressMap) (block total from : ℕ) → IsSoundMap m → store_after_forget (store_of m) block total from ≡ store_of m → Forgets m m block total from
unforgotten m block total from state same = record {
  store = sym same;
  kept = rest_kept m state;
  bytes = refl;
}

pub forgets_none : (m : AddressMap) (block total from : ℕ) → IsSoundMap m
    → (let low : ℕ = lowest_lost block (total - 4) from (store_of m).heaps in
    holds_heap (store_of m).heaps low (block - 4 + total - low) ≡ false → Forgets m m block total from)
forgets_none m block total from state none =
    let low : ℕ = lowest_lost block (total - 4) from (store_of m).heaps in
    let same : without_heaps_in low (block - 4 + total - low) (store_of m).heaps ≡ (store_of m).heaps =
    none_without low (block - 4 + total - low) (store_of m).heaps none in
    unforgotten m block total from state (λ i. record (store_of m) { heaps = same i })

pub forgets_beyond : (m : AddressMap) (block total from : ℕ) → IsSoundMap m → HasBlock m block total → block - 4 + total ≤ from → Forgets m m block total from
forgets_beyond m block total from state h past =
    unforgotten m block total from state (forgot_beyond (store_of m) h.heap block total from state.sound h.found h.live past)

pub forgets_unheld : (m : AddressMap) (block total : ℕ) → IsSoundMap m → HasBlock m block total → holds_heap (store_of m).heaps block (total - 4) ≡ false
    → Forgets m m block total block
forgets_unheld m block total state h none =
    let at : LiesAt m block total = lies_at m block total state h in
    unforgotten m block total block state (forgot_none (store_of m) block total (omega (arith, at.above)) none (omega (arith, at.some)))

-- memory spells a heap still
pub heap_still : (m n : AddressMap) (block total from heap : ℕ) → Forgets m n block total from → HasHeapAt m heap → HasHeapAt n heap
heap_still m n block total from heap f there =
    subst (λ (b : Bytes). IsHeapIn b heap (word_at b.at (heap + 12)) (items_in (word_at b.at) heap)) (sym (same_bytes_of m n f.kept.mapping f.bytes)) there

pub at_block_still : (m n : AddressMap) (block total from heap : ℕ) (c : Cursor) → Forgets m n block total from → IsAtBlock m heap block c → IsAtBlock n heap block c
at_block_still m n block total from heap c f here = record {
  heap = heap_still m n block total from heap f here.heap;
  block = subst (λ (g : ℕ → ℕ). IsBlock heap (items_in (word_at g) heap) block c.from c.at c.free c.gap) (sym f.bytes) here.block;
}

-- what the loops over the records show
pub shown_low : (m : AddressMap) (rs : List Region) (block len from low : ℕ) → rs ≡ regions m
    → ((b : Bytes) → lowest_lost block len from (heaps_in b rs) ≡ low) → low ≡ lowest_lost block len from (store_of m).heaps
unfolding store_of
shown_low m rs block len from low same reported =
    sym (subst (λ (qs : List Region). lowest_lost block len from (heaps_in (bytes_of m) qs) ≡ low) same (reported (bytes_of m)))

pub shown_held : (m : AddressMap) (rs : List Region) (at len : ℕ) (held : Bool) → rs ≡ regions m
    → ((b : Bytes) → holds_heap (heaps_in b rs) at len ≡ held) → held ≡ holds_heap (store_of m).heaps at len
unfolding store_of
shown_held m rs at len held same reported =
    sym (subst (λ (qs : List Region). holds_heap (heaps_in (bytes_of m) qs) at len ≡ held) same (reported (bytes_of m)))
