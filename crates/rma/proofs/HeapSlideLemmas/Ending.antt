-- The store after a slide: what its words spell, and that it is sound.
use Rattle.std.proofs.Common.{List, ℕ, Bool, [], ◌∷◌, ◌≡◌, ◌≤◌, ◌+◌, ◌-◌, ◌∙◌, ◌&&◌, true, false, refl, sym, ap, subst, inl, inr, Some, None, Option, is_some, length, arith}
use Rattle.std.proofs.lemmas.Bool.{and_parts, both_ways, cases_Bool, false≢true, or_left, or_right}
use Rattle.std.proofs.lemmas.List.{length-map}
use Rattle.dynamic_areas.proofs.Bytes.{byte_at-lt, is_mapped-layout}
use Rattle.dynamic_areas.proofs.AddressMapStores.{in_range-cases}
use Rattle.dynamic_areas.specs.Bytes.{Bytes, in_range, word_start}
use Rattle.dynamic_areas.specs.Classes.{is_heap_class}
use Rattle.dynamic_areas.specs.Memory.{anchor_of, byte_at, bytes_of, class_of, is_mapped, mapping, regions}
use Rattle.dynamic_areas.proofs.Anchors.{none_among}
use Rattle.dynamic_areas.specs.Moves.{AreDown, moved_place, moved_region, moved_regions, moved_to}
use Rattle.dynamic_areas.specs.Records.{anchor_among}
use Rattle.dynamic_areas.specs.Kind.{Kind}
use Rattle.dynamic_areas.specs.Kind.TheVariants as kind
use Rattle.dynamic_areas.specs.OsHeapWordsLists.{live_total}
use Rattle.dynamic_areas.specs.Class.{Class}
use Rattle.dynamic_areas.specs.BlockMove.{BlockMove}
use Rattle.dynamic_areas.specs.Item.{Item}
use Rattle.dynamic_areas.specs.AddressMap.{AddressMap}
use Rattle.dynamic_areas.specs.Region.{Region}
use Rattle.dynamic_areas.proofs.HeapWords.{outside_before, outside_past, part_back}
use Rattle.dynamic_areas.specs.Heap.{AreTotals, HeapList, IsHeapIn, with_heap}
use Rattle.dynamic_areas.specs.Marks.{Remarks, spells_any}
use Rattle.dynamic_areas.specs.Words.{AreApart, IsOutside}
use Rattle.dynamic_areas.proofs.Found.{found_heap, found_start}
use Rattle.dynamic_areas.proofs.Anchored.{KeepsAnchors, heads_unflexed, place_held}
use Rattle.dynamic_areas.proofs.FlexWords.{AreSameFlex, flex_held, flex_on, same_flex}
use Rattle.dynamic_areas.proofs.Held.{heads_marked, marks_held}
use Rattle.dynamic_areas.proofs.Stores.{are_others, AreOthers, layout-regions, places-held, same_limits}
use Rattle.dynamic_areas.specs.Calls.{OfHeap, holds_anchor, heaps_with_items}
use Rattle.dynamic_areas.specs.Outcomes.{end_at, HasHeapAt, items_at}
use Rattle.dynamic_areas.specs.Store.{AreClasses, AreHeapsIn, find_heap, heaps_in, IsSound, is_flex_store, is_in_flex_store, others_in, store_of}
use Rattle.rma.proofs.HeapSlideLemmas.Beside.{AreBeside, heaps_beside, heaps_stay, KeepsBytes, parts_beside, read_beside}
use Rattle.rma.proofs.HeapSlideLemmas.KeptBlocks.{bytes_fixed}
use Rattle.rma.proofs.HeapSlideLemmas.Laying.{IsRead, read}
use Rattle.rma.proofs.HeapSlideLemmas.Places.{bytes_low, bytes_past, moved_live, moved_stays, moves_down}
use Rattle.rma.proofs.HeapSlideLemmas.Records.{all_placed, heaps_moved, IsSlide, moves_in, others_moved, ranges_apart, slid_in}
use Rattle.rma.specs.heap_slide.Slide.{AreBlocks, HoldNoAnchor, HoldNoHeap, is_listed, IsHeapSlid, MaySlide, moves_of, slid, slid_bytes, with_slid}
use Rattle.rma.specs.heap_slide.Steps.{IsAllSlid}

-- the heap that slides
pub record Here (m : AddressMap) (heap : ℕ) (movable : List ℕ) : Type 0 where
  pub h : HeapList
  pub start : h.start ≡ heap
  pub found : find_heap heap (store_of m).heaps ≡ Some h
  pub spelled : IsHeapIn (bytes_of m) h.start h.end h.items
  pub is : IsRead m h.start h.end h.items
  pub blocks : AreBlocks (h.start + 16) h.items movable
  pub few : length movable ≤ 128
  pub free : HoldNoAnchor (store_of m) h movable
  pub empty : HoldNoHeap (store_of m).heaps h movable

pub here : (m : AddressMap) (heap : ℕ) (movable : List ℕ) → IsSound (store_of m) → MaySlide (store_of m) heap movable → Here m heap movable
unfolding store_of
here m heap movable sound may = by_heap (find_heap heap (store_of m).heaps) refl may where
  by_heap : (o : Option HeapList) → find_heap heap (store_of m).heaps ≡ o
      → OfHeap (λ h. AreBlocks (h.start + 16) h.items movable × ((length movable ≤ 128)
      × (HoldNoAnchor (store_of m) h movable × HoldNoHeap (store_of m).heaps h movable))) o → Here m heap movable
  by_heap None e is = absurd is
  by_heap (Some h) e is =
      let spelled : IsHeapIn (bytes_of m) h.start h.end h.items = found_heap (bytes_of m) heap (store_of m).heaps h sound.heaps e in
      record {
        h = h;
        start = found_start heap (store_of m).heaps h e;
        found = e;
        spelled = spelled;
        is = read m h.start h.end h.items spelled;
        blocks = is.0;
        few = is.1.0;
        free = is.1.1.0;
        empty = is.1.1.1;
      }

pub heap_here : (m : AddressMap) (heap : ℕ) (movable : List ℕ) → Here m heap movable → HasHeapAt m heap
heap_here m heap movable k = subst (λ (q : ℕ). HasHeapAt m q) k.start k.is.heap

pub blocks_here : (m : AddressMap) (heap : ℕ) (movable : List ℕ) → Here m heap movable → AreBlocks (heap + 16) (items_at m heap) movable
blocks_here m heap movable k =
    subst (λ (q : ℕ). AreBlocks (q + 16) (items_at m q) movable) k.start
    (subst (λ (ys : List Item). AreBlocks (k.h.start + 16) ys movable) (sym k.is.list) k.blocks)

pub down_here : (m n : AddressMap) (heap : ℕ) (movable : List ℕ) (moves : List BlockMove) → Here m heap movable → IsAllSlid m n heap movable moves → AreDown moves
down_here m n heap movable moves k a =
    let stands : HasHeapAt m heap = heap_here m heap movable k in
    subst AreDown (sym a.moved)
    (moves_down (is_listed movable) (heap + 16) (heap + 16) (items_at m heap) (omega arith) (omega (arith, stands.aligned)) (omega (arith, stands.aligned)) stands.totals)

-- what the slide, and the records that followed, left
pub record IsDone (m n q : AddressMap) (moves : List BlockMove) : Type 0 where
  pub records : regions q ≡ moved_regions moves (regions n)
  pub places : mapping q ≡ mapping n
  pub bytes : byte_at q ≡ byte_at n
  pub marks : class_of q ≡ class_of n

-- the same of the heap's list
pub record IsListSlid (m n q : AddressMap) (h : HeapList) (movable : List ℕ) : Type 0 where
  pub heap : IsHeapIn (bytes_of q) h.start h.end (slid_in h movable)
  pub mapped : is_mapped q ≡ is_mapped m
  pub others : (a : ℕ) → AreApart a 1 h.start 16 → IsOutside (h.start + 16) (slid_in h movable) a
      → byte_at q a ≡ slid_bytes (is_listed movable) (h.start + 16) (h.start + 16) h.items (byte_at m) a
  pub marks : Remarks (class_of m) (class_of n) (h.start + 16) h.items (slid_in h movable)
  pub records : regions q ≡ moved_regions (moves_in h movable) (regions m)

list_slid : (m n q : AddressMap) (h : HeapList) (movable : List ℕ) (moves : List BlockMove) → IsRead m h.start h.end h.items
    → IsAllSlid m n h.start movable moves → IsDone m n q moves → IsListSlid m n q h movable
list_slid m n q h movable moves is a d =
    let mv : ℕ → Bool = is_listed movable in
    let first : ℕ = h.start + 16 in
    let all : bytes_of q ≡ bytes_of n = λ i. record { mapped = λ x. is_some ((d.places i).place x); at = d.bytes i } in
    let one : IsHeapIn (bytes_of n) h.start (end_at m h.start) (slid_in h movable) =
    subst (λ (ys : List Item). IsHeapIn (bytes_of n) h.start (end_at m h.start) (slid mv first first ys)) is.list a.heap in
    let two : IsHeapIn (bytes_of n) h.start h.end (slid_in h movable) = subst (λ (e : ℕ). IsHeapIn (bytes_of n) h.start e (slid_in h movable)) is.limit one in
    let others : (x : ℕ) → AreApart x 1 h.start 16 → IsOutside first (slid_in h movable) x → byte_at n x ≡ slid_bytes mv first first h.items (byte_at m) x =
    subst (λ (ys : List Item). (x : ℕ) → AreApart x 1 h.start 16 → IsOutside first (slid mv first first ys) x
    → byte_at n x ≡ slid_bytes mv first first ys (byte_at m) x) is.list a.others in
    let mapped : is_mapped q ≡ is_mapped n = λ i. λ x. is_some ((d.places i).place x) in
    let moved : moves ≡ moves_in h movable = a.moved ∙ ap (λ (ys : List Item). moves_of mv first first ys) is.list in
    record {
      heap = subst (λ (b : Bytes). IsHeapIn b h.start h.end (slid_in h movable)) (sym all) two;
      mapped = mapped ∙ is_mapped-layout m n a.same;
      others = λ x head out. ap (λ (f : ℕ → ℕ). f x) d.bytes ∙ others x head out;
      marks = subst (λ (ys : List Item). Remarks (class_of m) (class_of n) first ys (slid mv first first ys)) is.list a.marks;
      records = d.records ∙ ap (λ (ms : List BlockMove). moved_regions ms (regions n)) moved
          ∙ ap (λ (rs : List Region). moved_regions (moves_in h movable) rs) (layout-regions m n a.same);
    }

-- no byte out of the heap's range changed
slid_beyond : (m n q : AddressMap) (h : HeapList) (movable : List ℕ) (a : ℕ) → IsHeapIn (bytes_of m) h.start h.end h.items → IsListSlid m n q h movable
    → in_range h.start h.end a ≡ false → byte_at q a ≡ byte_at m a
slid_beyond m n q h movable a old l out =
    let mv : ℕ → Bool = is_listed movable in
    let first : ℕ = h.start + 16 in
    elim (in_range-cases h.start h.end a) [
      | inl r ↦ absurd (false≢true (sym out ∙ r.0))
      | inr r ↦ elim r.1 [
        | inl low ↦ l.others a (inl (omega arith)) (outside_before first (slid_in h movable) a (omega arith))
            ∙ bytes_low mv first first h.items (byte_at m) a (omega arith) (omega arith)
        | inr past ↦ l.others a (inr (omega (arith, l.heap.inside)))
            (outside_past first (slid_in h movable) a (h.start + h.end) (omega (arith, l.heap.inside)) past l.heap.totals)
            ∙ bytes_past mv first first h.items (byte_at m) a (omega arith) (omega (arith, old.inside))
      ]
    ]

pub record IsSlidStore (m q : AddressMap) (h : HeapList) (movable : List ℕ) : Type 0 where
  pub store : store_of q ≡ with_slid (store_of m) h movable
  pub sound : IsSound (store_of q)
  pub classes : AreClasses q

-- anchors lie in blocks that stay
pub slide_keeps : (anchor mv : ℕ → Bool) (at : ℕ) (xs : List Item) → AreTotals xs
    → ((b : ℕ) → mv b ≡ true → holds_anchor anchor b (live_total b at xs) ≡ false) → KeepsAnchors anchor at xs (slid mv at at xs)
slide_keeps anchor mv at xs totals free a anchored held = elim (cases_Bool (mv held.block)) [
  | inl moves ↦
      let none : anchor_among anchor (held.block - 4) held.total ≡ false =
      ap (λ (o : Option ℕ). holds_anchor anchor held.block o) (sym held.live) ∙ free held.block moves in
      let low = held.low in
      let high = held.high in
      absurd (both_ways (anchor a) (none_among anchor (held.block - 4) held.total a none (omega arith) (omega arith)) anchored)
  | inr stays ↦
      let there : live_total (moved_to (moves_of mv at at xs) held.block) at (slid mv at at xs) ≡ Some held.total =
      moved_live mv at at xs held.block held.total (omega arith) totals held.live in
      let same : moved_to (moves_of mv at at xs) held.block ≡ held.block = moved_stays mv at at xs held.block stays in
      record {
        block = held.block;
        total = held.total;
        live = subst (λ (b : ℕ). live_total b at (slid mv at at xs) ≡ Some held.total) same there;
        low = held.low;
        high = held.high;
      }
]

pub moved_flex : (moves : List BlockMove) (rs : List Region) (a : ℕ) → is_in_flex_store rs a ≡ true → is_in_flex_store (moved_regions moves rs) a ≡ true
moved_flex moves [] a is = is
moved_flex moves (r ∷ rs) a is = elim (cases_Bool (is_flex_store r.kind && in_range r.at r.len a)) [
  | inl here ↦
      let parts = and_parts (is_flex_store r.kind) (in_range r.at r.len a) here in
      let place : moved_place moves r.kind r.at ≡ r.at = flex_place moves r.kind r.at parts.0 in
      or_left _ (is_in_flex_store (moved_regions moves rs) a) (rw (place, parts.0, parts.1) refl)
  | inr other ↦ or_right _ (is_in_flex_store (moved_regions moves rs) a) (moved_flex moves rs a (rw other at is))
] where
  flex_place : (moves : List BlockMove) (k : Kind) (at : ℕ) → is_flex_store k ≡ true → moved_place moves k at ≡ at
  flex_place moves kind.FlexStore at is = refl
  flex_place moves kind.Heap at is = refl
  flex_place moves kind.Rma at is = refl
  flex_place moves kind.FlexHeader at is = refl
  flex_place moves kind.Anchor at is = refl
  flex_place moves kind.HeadWord at is = refl
  flex_place moves kind.Image at is = absurd (false≢true is)
  flex_place moves kind.SystemPage at is = refl

pub slid_store : (m n q : AddressMap) (h : HeapList) (movable : List ℕ) (moves : List BlockMove) → IsSound (store_of m) → AreClasses m → find_heap h.start (store_of m).heaps ≡ Some h
    → IsHeapIn (bytes_of m) h.start h.end h.items → IsRead m h.start h.end h.items → HoldNoAnchor (store_of m) h movable
    → HoldNoHeap (store_of m).heaps h movable → IsAllSlid m n h.start movable moves → IsDone m n q moves → IsSlidStore m q h movable
unfolding store_of
slid_store m n q h movable moves sound classes found old is free empty a d =
    let mv : ℕ → Bool = is_listed movable in
    let first : ℕ = h.start + 16 in
    let hs : List HeapList = heaps_in (bytes_of m) (regions m) in
    let rs : List Region = others_in (regions m) in
    let l : IsListSlid m n q h movable = list_slid m n q h movable moves is a d in
    let others : AreOthers h hs = are_others (bytes_of m) h.start hs h sound.heaps found in
    let s : IsSlide (bytes_of m) (bytes_of q) h movable = record { old = old; new = l.heap } in
    let new : Bytes = record { mapped = is_mapped m; at = with_heap (slid_bytes mv first first h.items (byte_at m)) h.start h.end (slid_in h movable) } in
    let bytes : bytes_of q ≡ new = λ i. record {
      mapped = l.mapped i;
      at = λ x. (part_back (slid_bytes mv first first h.items (byte_at m)) (bytes_of q) h.start h.end (slid_in h movable) l.heap (byte_at-lt q) x (l.others x)) i;
    } in
    let kept : KeepsBytes (bytes_of m) (bytes_of q) h movable = record {
      mapped = l.mapped;
      beyond = λ x out. slid_beyond m n q h movable x old l out;
      fixed = λ block total x stays live low high.
          ap (λ (b : Bytes). b.at x) bytes ∙ bytes_fixed (store_of m) h movable old.aligned old.totals block total x stays live low high;
    } in
    let beside : AreBeside (bytes_of q) h hs = heaps_beside (bytes_of m) (bytes_of q) h movable hs kept empty others sound.heaps in
    let heaps : heaps_in (bytes_of q) (regions q) ≡ heaps_with_items h.start (slid_in h movable) hs =
    ap (λ (ys : List Region). heaps_in (bytes_of q) ys) l.records ∙ heaps_moved (bytes_of q) (moves_in h movable) (regions m)
    ∙ read_beside (bytes_of m) (bytes_of q) h (slid_in h movable) (regions m) l.heap beside in
    let records : others_in (regions q) ≡ moved_regions (moves_in h movable) rs = ap others_in l.records ∙ others_moved (moves_in h movable) (regions m) in
    let keeps : KeepsAnchors (anchor_of m) first h.items (slid_in h movable) = slide_keeps (anchor_of m) mv first h.items old.totals free in
    let flex : AreSameFlex (class_of m) (class_of n) =
    flex_held (class_of m) (class_of n) first h.items (slid_in h movable) (heads_marked (class_of m) hs h classes found) l.marks
    (heads_unflexed m (bytes_of q) h (slid_in h movable) sound found l.heap keeps) in
    let same : AreSameFlex (class_of m) (class_of q) = flex_on (class_of m) (class_of n) (class_of q) flex (same_flex (class_of n) (class_of q) d.marks) in
    let store : store_of q ≡ with_slid (store_of m) h movable = λ i. record {
      bytes = bytes i;
      heaps = heaps i;
      others = records i;
      anchor = λ a. same.anchors a i;
      header = λ a. same.headers a i;
    } in
    let parts : AreHeapsIn (bytes_of q) (heaps_with_items h.start (slid_in h movable) hs) =
    parts_beside (bytes_of m) (bytes_of q) h (slid_in h movable) hs l.heap beside others (heaps_stay (bytes_of m) h movable hs old.totals sound.heaps empty) sound.heaps in
    let now : IsSound (with_slid (store_of m) h movable) = record {
      heaps = subst (λ (b : Bytes). AreHeapsIn b (heaps_with_items h.start (slid_in h movable) hs)) bytes parts;
      limits = same_limits hs _ (places-held h.start (slid_in h movable) hs) sound.limits;
      placed = all_placed (bytes_of m) (bytes_of q) h hs movable rs s sound.heaps others empty found sound.placed;
      apart = ranges_apart (bytes_of m) (bytes_of q) h hs movable rs s found sound.placed sound.apart;
      few = rw (length-map rs (λ (r : Region). moved_region (moves_in h movable) r)) sound.few;
      anchors = λ a is. ((sound.anchors a is).0, place_held h (slid_in h movable) hs a others (keeps a is) (sound.anchors a is).1);
      headers = λ a is. moved_flex (moves_in h movable) rs a (sound.headers a is);
    } in
    record {
      store = store;
      sound = subst IsSound (sym store) now;
      classes = λ a. ap (λ (f : ℕ → Class). is_heap_class (f a)) d.marks
          ∙ marks_held (bytes_of m) (class_of m) (class_of n) h (slid_in h movable) hs sound.heaps found classes l.marks a
          ∙ ap (λ (gs : List HeapList). spells_any gs (word_start a)) (sym heaps);
    }

-- the same of the heap at its address
pub done_here : (m n q : AddressMap) (heap : ℕ) (movable : List ℕ) (moves : List BlockMove) → IsSound (store_of m) → AreClasses m → (k : Here m heap movable)
    → IsAllSlid m n heap movable moves → IsDone m n q moves → IsSlidStore m q k.h movable
done_here m n q heap movable moves sound classes k a d =
    slid_store m n q k.h movable moves sound classes (subst (λ (x : ℕ). find_heap x (store_of m).heaps ≡ Some k.h) (sym k.start) k.found) k.spelled k.is k.free k.empty
    (subst (λ (x : ℕ). IsAllSlid m n x movable moves) (sym k.start) a) d

pub slid_here : (m n q : AddressMap) (heap : ℕ) (movable : List ℕ) (moves : List BlockMove) → IsSound (store_of m) → AreClasses m → Here m heap movable
    → IsAllSlid m n heap movable moves → IsDone m n q moves → IsHeapSlid (store_of m) heap movable (store_of q) moves
slid_here m n q heap movable moves sound classes k a d =
    let mv : ℕ → Bool = is_listed movable in
    let moved : moves ≡ moves_of mv (heap + 16) (heap + 16) (items_at m heap) = a.moved in
    let moved' : moves ≡ moves_of mv (k.h.start + 16) (k.h.start + 16) (items_at m k.h.start) =
    subst (λ (x : ℕ). moves ≡ moves_of mv (x + 16) (x + 16) (items_at m x)) (sym k.start) moved in
    rw k.found ((done_here m n q heap movable moves sound classes k a d).store, moved' ∙ ap (λ (ys : List Item). moves_of mv (k.h.start + 16) (k.h.start + 16) ys) k.is.list)
