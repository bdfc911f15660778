-- What a call on one heap leaves of all heaps and of memory as a whole.
use Rattle.std.proofs.Common.{Bool, ◌&&◌, ◌≡◌, List, ℕ, false, inl, ◌+◌, ◌≢◌, ◌∙◌, sym, inr, ◌==◌, None, [], subst, Some, ◌∷◌, ◌⊎◌, true, ap, refl}
use Rattle.std.proofs.lemmas.Bool.{false≢true, cases_Bool, ne_eqb, eq-eqb, eqb-true, or_left, or_right}
use Rattle.os_heap_words.proofs.Bytes.{byte_at-lt, is_mapped-layout}
use Rattle.os_heap_words.proofs.Equations.{same_bytes}
use Rattle.os_heap_words.specs.Bytes.{in_range, Bytes, word_at, word_start}
use Rattle.os_heap_words.specs.Classes.{is_flex_header, is_anchor}
use Rattle.os_heap_words.specs.Items.{is_heap_word, items_in}
use Rattle.os_heap_words.specs.Memory.{is_mapped, bytes_of, byte_at, layout, regions, class_of}
use Rattle.os_heap_words.specs.Records.{is_heap_kind}
use Rattle.os_heap_words.specs.Class.{Class}
use Rattle.os_heap_words.specs.Item.{Item}
use Rattle.os_heap_words.specs.AddressMap.{AddressMap}
use Rattle.os_heap_words.specs.Region.{Region}
use Rattle.os_heap_words.proofs.ListsLemmas.HeapWords.{part_back, cons_part}
use Rattle.os_heap_words.proofs.ListsLemmas.HeadWords.{law_heap_frame}
use Rattle.os_heap_words.proofs.ListsLemmas.Payloads.{heap_beside}
use Rattle.os_heap_words.proofs.ListsLemmas.Reading.{items_in-heap}
use Rattle.os_heap_words.specs.lists.Heap.{with_heap, HeapList, IsHeapIn}
use Rattle.os_heap_words.specs.lists.Lists.{live_total}
use Rattle.os_heap.proofs.FlexWords.{AreSameFlex}
use Rattle.os_heap.proofs.Found.{found_heap}
use Rattle.os_heap.proofs.Nesting.{KeepsHeaps, KeepsWithin, apart_starts, apart_turned, listed, not_itself, stands_own, words_apart}
use Rattle.os_heap.specs.Nesting.{StandApart, StandsApart}
use Rattle.os_heap_words.specs.Outcomes.{Becomes}
use Rattle.os_heap.specs.Store.{AreClear, IsClearOfHeaps, find_heap, AreHeapsIn, ArePlaced, Store, heap_in, heaps_in, others_in, IsSound, store_of, has_image, is_image, is_module_area, IsImageBlock, IsImageIn, IsPlacedIn, IsAnchorPlace, guest_count, area_count, StandAreas, AreInLimits}
use Rattle.os_heap.specs.Calls.{heaps_with_items, store_holding}

pub bytes_held : (m n : AddressMap) (start end : ℕ) (items : List Item) → Becomes m n start end items
    → bytes_of n ≡ record { mapped = is_mapped m; at = with_heap (byte_at m) start end items }
bytes_held m n start end items b =
    same_bytes m n (with_heap (byte_at m) start end items) b.same
    (λ a. part_back (byte_at m) (bytes_of n) start end items b.heap (byte_at-lt n) a (b.others a))

pub clear_both_ways : (at len other other_len : ℕ) → AreClear at len other other_len → AreClear other other_len at len
clear_both_ways at len other other_len clear a h =
    elim (cases_Bool (in_range at len a)) [ inl here ↦ absurd (false≢true (sym (clear a here) ∙ h)) | inr other_byte ↦ other_byte ]

pub clear_of-found : (at len start : ℕ) (hs : List HeapList) (h : HeapList) → IsClearOfHeaps at len hs → find_heap start hs ≡ Some h → AreClear at len h.start h.end
clear_of-found at len start [] h clear e = absurd (let none : None ≡ Some h = e in cc)
clear_of-found at len start (g ∷ hs) h clear e =
    elim (cases_Bool (g.start == start)) [
      | inl here ↦
          let e' = rw here at e in
          let same : g ≡ h = cc in
          subst (λ (x : HeapList). AreClear at len x.start x.end) same clear.0
      | inr other ↦ clear_of-found at len start hs h clear.1 (rw other at e)
    ]

-- each heap is the one, or stands apart from it
abbrev pub IsOther : HeapList → HeapList → Type 0
IsOther h g = (g ≡ h) ⊎ ((g.start ≢ h.start) × StandsApart h g)

abbrev pub AreOthers : HeapList → List HeapList → Type 0
AreOthers h [] = Unit {0}
AreOthers h (g ∷ gs) = IsOther h g × AreOthers h gs

stands_found : (g : HeapList) (start : ℕ) (hs : List HeapList) (h : HeapList) → StandApart g hs → find_heap start hs ≡ Some h → StandsApart g h
stands_found g start [] h stand e = absurd (let none : None ≡ Some h = e in cc)
stands_found g start (k ∷ hs) h stand e = elim (cases_Bool (k.start == start)) [
  | inl here ↦
      let e' = rw here at e in
      let same : k ≡ h = cc in
      subst (λ (x : HeapList). StandsApart g x) same stand.0
  | inr other ↦ stands_found g start hs h stand.1 (rw other at e)
]

others_apart : (b : Bytes) (h : HeapList) (gs : List HeapList) → IsHeapIn b h.start h.end h.items → StandApart h gs → AreHeapsIn b gs → AreOthers h gs
others_apart b h [] heap stand parts = tt
others_apart b h (g ∷ gs) heap stand parts =
    (inr (apart_starts b b h g heap parts.0 stand.0, stand.0), others_apart b h gs heap stand.1 parts.1.1)

pub are_others : (b : Bytes) (start : ℕ) (hs : List HeapList) (h : HeapList) → AreHeapsIn b hs → find_heap start hs ≡ Some h → AreOthers h hs
are_others b start [] h parts e = tt
are_others b start (g ∷ hs) h parts e =
    elim (cases_Bool (g.start == start)) [
      | inl here ↦
          let e' = rw here at e in
          let same : g ≡ h = cc in
          (inl same, subst (λ (x : HeapList). AreOthers x hs) same (others_apart b g hs parts.0 parts.1.0 parts.1.1))
      | inr other ↦
          let e' = rw other at e in
          let there : IsHeapIn b h.start h.end h.items = found_heap b start hs h parts.1.1 e' in
          let apart : StandsApart h g = apart_turned g h (stands_found g start hs h parts.1.0 e') in
          (inr (apart_starts b b h g there parts.0 apart, apart), are_others b start hs h parts.1.1 e')
    ]

pub clear-held : (at len start : ℕ) (items : List Item) (hs : List HeapList) → IsClearOfHeaps at len hs → IsClearOfHeaps at len (heaps_with_items start items hs)
clear-held at len start items [] clear = tt
clear-held at len start items (g ∷ hs) clear =
    elim (cases_Bool (g.start == start)) [
      | inl here ↦ rw here (clear.0, clear-held at len start items hs clear.1)
      | inr other ↦ rw other (clear.0, clear-held at len start items hs clear.1)
    ]

-- the heap with its new list stands apart from the others, and they from it
pub own_held : (b : Bytes) (h : HeapList) (items : List Item) (hs : List HeapList) → IsHeapIn b h.start h.end h.items → AreOthers h hs → KeepsHeaps h items hs
    → StandApart h hs → StandApart (listed h items) (heaps_with_items h.start items hs)
own_held b h items [] heap others keeps stand = tt
own_held b h items (k ∷ hs) heap others keeps stand = elim others.0 [
  | inl same ↦ absurd (not_itself b h heap (subst (λ (x : HeapList). StandsApart h x) same stand.0))
  | inr apart ↦ rw (ne_eqb k.start h.start apart.0) (stands_own h k items keeps.0 stand.0, own_held b h items hs heap others.1 keeps.1 stand.1)
]

pub stand_held : (g h : HeapList) (items : List Item) (hs : List HeapList) → KeepsWithin h items g → AreOthers h hs → StandApart g hs
    → StandApart g (heaps_with_items h.start items hs)
stand_held g h items [] keeps others stand = tt
stand_held g h items (k ∷ hs) keeps others stand =
    let rest : StandApart g (heaps_with_items h.start items hs) = stand_held g h items hs keeps others.1 stand.1 in
    elim others.0 [
      | inl same ↦
          let start : k.start ≡ h.start = ap (λ (x : HeapList). x.start) same in
          let own : StandsApart (listed h items) g = stands_own h g items keeps (apart_turned g h (subst (λ (x : HeapList). StandsApart g x) same stand.0)) in
          let here : StandsApart g (listed k items) =
          subst (λ (x : HeapList). StandsApart g (listed x items)) (sym same) (apart_turned (listed h items) g own) in
          rw (eq-eqb k.start h.start start) (here, rest)
      | inr apart ↦ rw (ne_eqb k.start h.start apart.0) (stand.0, rest)
    ]

-- the module images in the area stay blocks of its list
abbrev pub KeepsImages : List Region → ℕ → List Item → List Item → Type 0
KeepsImages rs start old new = (b t : ℕ) → has_image b rs ≡ true → live_total b (start + 16) old ≡ Some t → live_total b (start + 16) new ≡ Some t

-- where a recorded range lies: it shares no byte with any heap, or is an image in one; and it is so placed in each heap that is found
pub placed_either : (hs : List HeapList) (r : Region) → IsPlacedIn hs r → IsClearOfHeaps r.at r.len hs ⊎ IsImageIn hs r
placed_either [] r placed = inl tt
placed_either (h ∷ hs) r placed = elim placed.0 [
  | inr image ↦ inr (inl image)
  | inl clear ↦ elim (placed_either hs r placed.1) [
    | inl rest ↦ inl (clear, rest)
    | inr image ↦ inr (inr image)
  ]
]

pub placed_clear : (hs : List HeapList) (r : Region) → IsClearOfHeaps r.at r.len hs → IsPlacedIn hs r
placed_clear [] r clear = tt
placed_clear (h ∷ hs) r clear = (inl clear.0, placed_clear hs r clear.1)

pub placed_by : (start : ℕ) (hs : List HeapList) (h : HeapList) (r : Region) → IsPlacedIn hs r → find_heap start hs ≡ Some h
    → AreClear r.at r.len h.start h.end ⊎ IsImageBlock h r
placed_by start [] h r placed e = absurd (let none : None ≡ Some h = e in cc)
placed_by start (g ∷ hs) h r placed e = elim (cases_Bool (g.start == start)) [
  | inl here ↦
      let e' = rw here at e in
      let same : g ≡ h = cc in
      subst (λ (x : HeapList). AreClear r.at r.len x.start x.end ⊎ IsImageBlock x r) same placed.0
  | inr other ↦ placed_by start hs h r placed.1 (rw other at e)
]

pub image_kind : (hs : List HeapList) (r : Region) → IsImageIn hs r → is_image r.kind ≡ true
image_kind [] r image = absurd image
image_kind (h ∷ hs) r image = elim image [ inl own ↦ own.image | inr later ↦ image_kind hs r later ]

-- a heap gets another list: its images stay such, and what it shares no byte with is clear of it still
image_held : (r : Region) (h g : HeapList) (items : List Item) → IsOther h g → (g.start == h.start) ≡ true
    → (is_image r.kind ≡ true → (t : ℕ) → live_total r.at (h.start + 16) h.items ≡ Some t → live_total r.at (h.start + 16) items ≡ Some t)
    → IsImageBlock g r → IsImageBlock (listed g items) r
image_held r h g items (inr apart) here kept own = absurd (apart.0 (eqb-true g.start h.start here))
image_held r h g items (inl same) here kept own =
    let start : g.start ≡ h.start = ap (λ (x : HeapList). x.start) same in
    let old : live_total r.at (h.start + 16) h.items ≡ Some (r.len + 4) =
    subst (λ (x : HeapList). live_total r.at (x.start + 16) x.items ≡ Some (r.len + 4)) same own.live in
    record { image = own.image; area = own.area; live = rw start (kept own.image (r.len + 4) old) }

placed_held : (r : Region) (h : HeapList) (items : List Item) (hs : List HeapList) → AreOthers h hs
    → (is_image r.kind ≡ true → (t : ℕ) → live_total r.at (h.start + 16) h.items ≡ Some t → live_total r.at (h.start + 16) items ≡ Some t)
    → IsPlacedIn hs r → IsPlacedIn (heaps_with_items h.start items hs) r
placed_held r h items [] others kept placed = tt
placed_held r h items (g ∷ hs) others kept placed =
    let rest : IsPlacedIn (heaps_with_items h.start items hs) r = placed_held r h items hs others.1 kept placed.1 in
    elim (cases_Bool (g.start == h.start)) [
      | inl here ↦ rw here (elim placed.0 [ inl clear ↦ inl clear | inr own ↦ inr (image_held r h g items others.0 here kept own) ], rest)
      | inr other ↦ rw other (placed.0, rest)
    ]

all_placed-held : (h : HeapList) (items : List Item) (hs : List HeapList) (rs : List Region) → AreOthers h hs → KeepsImages rs h.start h.items items
    → ArePlaced hs rs → ArePlaced (heaps_with_items h.start items hs) rs
all_placed-held h items hs [] others kept placed = tt
all_placed-held h items hs (r ∷ rs) others kept placed = (
  placed_held r h items hs others (λ image t live.
      kept r.at t (or_left (is_image r.kind && r.at == r.at) (has_image r.at rs) (rw (image, eq-eqb r.at r.at refl) refl)) live) placed.0,
  all_placed-held h items hs rs others (λ b t is live. kept b t (or_right (is_image r.kind && r.at == b) (has_image b rs) is) live) placed.1,
)

-- heaps of the same kinds at the same places are within the limits alike
abbrev pub SamePlaces : List HeapList → List HeapList → Type 0
SamePlaces [] [] = Unit {0}
SamePlaces [] (g ∷ gs) = ⊥
SamePlaces (h ∷ hs) [] = ⊥
SamePlaces (h ∷ hs) (g ∷ gs) = ((g.kind ≡ h.kind) × (g.start ≡ h.start)) × SamePlaces hs gs

same_guests : (hs gs : List HeapList) → SamePlaces hs gs → guest_count gs ≡ guest_count hs
same_guests [] [] same = refl
same_guests [] (g ∷ gs) same = absurd same
same_guests (h ∷ hs) [] same = absurd same
same_guests (h ∷ hs) (g ∷ gs) same = rw (same.0.0, same_guests hs gs same.1) refl

same_areas : (hs gs : List HeapList) → SamePlaces hs gs → area_count gs ≡ area_count hs
same_areas [] [] same = refl
same_areas [] (g ∷ gs) same = absurd same
same_areas (h ∷ hs) [] same = absurd same
same_areas (h ∷ hs) (g ∷ gs) same = rw (same.0.0, same_areas hs gs same.1) refl

same_stand : (hs gs : List HeapList) → SamePlaces hs gs → StandAreas hs → StandAreas gs
same_stand [] [] same stand = tt
same_stand [] (g ∷ gs) same stand = absurd same
same_stand (h ∷ hs) [] same stand = absurd same
same_stand (h ∷ hs) (g ∷ gs) same stand = (
  λ (is : is_module_area g.kind ≡ true). same.0.1 ∙ stand.0 (ap is_module_area (sym same.0.0) ∙ is),
  same_stand hs gs same.1 stand.1,
)

pub same_limits : (hs gs : List HeapList) → SamePlaces hs gs → AreInLimits hs → AreInLimits gs
same_limits hs gs same limits = record {
  guests = rw (same_guests hs gs same) limits.guests;
  areas = rw (same_areas hs gs same) limits.areas;
  place = same_stand hs gs same limits.place;
}

pub places-held : (start : ℕ) (items : List Item) (hs : List HeapList) → SamePlaces hs (heaps_with_items start items hs)
places-held start items [] = tt
places-held start items (h ∷ hs) = elim (cases_Bool (h.start == start)) [
  | inl here ↦ rw here ((refl, refl), places-held start items hs)
  | inr other ↦ rw other ((refl, refl), places-held start items hs)
]

-- The heap has another list, the records are the same, and no byte changed but those of the words that it spells.
pub record IsHeld (m n : AddressMap) (start end : ℕ) (items : List Item) : Type 0 where
  pub heap : IsHeapIn (bytes_of n) start end items
  pub mapped : is_mapped n ≡ is_mapped m
  pub others : (a : ℕ) → is_heap_word start items (word_start a) ≡ false → byte_at n a ≡ byte_at m a

held : (m n : AddressMap) (start end : ℕ) (items : List Item) → Becomes m n start end items → IsHeld m n start end items
held m n start end items b = record {
  heap = b.heap;
  mapped = is_mapped-layout m n b.same;
  others = λ a none. ap (λ (x : Bytes). x.at a) (bytes_held m n start end items b)
      ∙ heap_beside (byte_at m) start end items a b.heap.aligned b.heap.totals none;
}

other_kept : (m n : AddressMap) (h g : HeapList) (items : List Item) → IsHeld m n h.start h.end items → StandsApart (listed h items) g
    → IsHeapIn (bytes_of m) g.start g.end g.items → IsHeapIn (bytes_of n) g.start g.end g.items
other_kept m n h g items b apart heap =
    law_heap_frame (bytes_of m) (bytes_of n) g.start g.end g.items b.mapped
    (λ a is. b.others a (words_apart (bytes_of m) (bytes_of n) g (listed h items) a heap b.heap (apart_turned (listed h items) g apart) is)) heap

-- all heaps after the call are spelled, each apart from the others
pub parts_held : (m n : AddressMap) (h : HeapList) (items : List Item) (hs : List HeapList) → IsHeld m n h.start h.end items → AreOthers h hs
    → KeepsHeaps h items hs → AreHeapsIn (bytes_of m) hs → AreHeapsIn (bytes_of n) (heaps_with_items h.start items hs)
parts_held m n h items [] b others keeps parts = tt
parts_held m n h items (g ∷ hs) b others keeps parts =
    let rest : AreHeapsIn (bytes_of n) (heaps_with_items h.start items hs) = parts_held m n h items hs b others.1 keeps.1 parts.1.1 in
    elim others.0 [
      | inl same ↦
          let start : g.start ≡ h.start = ap (λ (x : HeapList). x.start) same in
          let end : g.end ≡ h.end = ap (λ (x : HeapList). x.end) same in
          let test : (g.start == h.start) ≡ true = eq-eqb g.start h.start start in
          let heap : IsHeapIn (bytes_of m) h.start h.end h.items =
          subst (λ (x : HeapList). IsHeapIn (bytes_of m) x.start x.end x.items) same parts.0 in
          let own : StandApart (listed h items) (heaps_with_items h.start items hs) =
          own_held (bytes_of m) h items hs heap others.1 keeps.1 (subst (λ (x : HeapList). StandApart x hs) same parts.1.0) in
          let stand : StandApart (listed g items) (heaps_with_items h.start items hs) =
          subst (λ (x : HeapList). StandApart (listed x items) (heaps_with_items h.start items hs)) (sym same) own in
          rw test (rw (start, end) b.heap, (stand, rest))
      | inr apart ↦
          let test : (g.start == h.start) ≡ false = ne_eqb g.start h.start apart.0 in
          rw test (
            other_kept m n h g items b (stands_own h g items keeps.0 apart.1) parts.0,
            (stand_held g h items hs keeps.0 others.1 parts.1.0, rest),
          )
    ]

pub read_parts : (m n : AddressMap) (h : HeapList) (items : List Item) (rs : List Region) → IsHeld m n h.start h.end items
    → AreOthers h (heaps_in (bytes_of m) rs) → KeepsHeaps h items (heaps_in (bytes_of m) rs) → AreHeapsIn (bytes_of m) (heaps_in (bytes_of m) rs)
    → heaps_in (bytes_of n) rs ≡ heaps_with_items h.start items (heaps_in (bytes_of m) rs)
read_parts m n h items [] b others keeps parts = refl
read_parts m n h items (r ∷ rs) b others keeps parts =
    elim (cases_Bool (is_heap_kind r.kind)) [
      | inl is_heap ↦
          let others' = rw is_heap at others in
          let keeps' = rw is_heap at keeps in
          let parts' = rw is_heap at parts in
          rw is_heap (read_part others'.0 keeps'.0 parts'.0 (read_parts m n h items rs b others'.1 keeps'.1 parts'.1.1))
      | inr other ↦ rw other (read_parts m n h items rs b (rw other at others) (rw other at keeps) (rw other at parts))
    ] where
      read_part : IsOther h (heap_in (bytes_of m) r) → KeepsWithin h items (heap_in (bytes_of m) r) → IsHeapIn (bytes_of m) r.at r.len (items_in (word_at (byte_at m)) r.at)
          → heaps_in (bytes_of n) rs ≡ heaps_with_items h.start items (heaps_in (bytes_of m) rs)
          → heap_in (bytes_of n) r ∷ heaps_in (bytes_of n) rs ≡ heaps_with_items h.start items (heap_in (bytes_of m) r ∷ heaps_in (bytes_of m) rs)
      read_part (inl same) keeps heap rest =
          let start : r.at ≡ h.start = ap (λ (x : HeapList). x.start) same in
          let test : (r.at == h.start) ≡ true = eq-eqb r.at h.start start in
          let list : items_in (word_at (byte_at n)) r.at ≡ items = rw start (items_in-heap (bytes_of n) h.start h.end items b.heap) in
          rw test (cons_part _ _ _ _ (ap (λ (xs : List Item). let p : HeapList = record { kind = r.kind; start = r.at; end = r.len; items = xs } in p) list) rest)
      read_part (inr apart) keeps heap rest =
          let test : (r.at == h.start) ≡ false = ne_eqb r.at h.start apart.0 in
          let list : items_in (word_at (byte_at n)) r.at ≡ items_in (word_at (byte_at m)) r.at =
          items_in-heap (bytes_of n) r.at r.len (items_in (word_at (byte_at m)) r.at) (other_kept m n h (heap_in (bytes_of m) r) items b (stands_own h (heap_in (bytes_of m) r) items keeps apart.1) heap) in
          rw test (cons_part _ _ _ _ (ap (λ (xs : List Item). let p : HeapList = record { kind = r.kind; start = r.at; end = r.len; items = xs } in p) list) rest)

store_parts : (b c : Bytes) (hs gs : List HeapList) (rs : List Region) (k l : ℕ → Class) → b ≡ c → hs ≡ gs → AreSameFlex l k
    → (let s : Store = record { bytes = b; heaps = hs; others = rs; anchor = λ a. is_anchor (k a); header = λ a. is_flex_header (k a) } in
    let t : Store = record { bytes = c; heaps = gs; others = rs; anchor = λ a. is_anchor (l a); header = λ a. is_flex_header (l a) } in s ≡ t)
store_parts b c hs gs rs k l e f same =
    λ i. record { bytes = e i; heaps = f i; others = rs; anchor = λ a. same.anchors a i; header = λ a. same.headers a i }

pub layout-regions : (m n : AddressMap) → layout n ≡ layout m → regions n ≡ regions m
layout-regions m n same = ap (λ l. l.regions) same

pub store_held : (m n : AddressMap) (h : HeapList) (items : List Item) → IsSound (store_of m) → find_heap h.start (store_of m).heaps ≡ Some h
    → KeepsHeaps h items (store_of m).heaps → Becomes m n h.start h.end items → AreSameFlex (class_of m) (class_of n) → store_of n ≡ store_holding (store_of m) h items
unfolding store_of
store_held m n h items sound found keeps b flex =
    let others : AreOthers h (heaps_in (bytes_of m) (regions m)) = are_others (bytes_of m) h.start (heaps_in (bytes_of m) (regions m)) h sound.heaps found in
    rw (layout-regions m n b.same) (store_parts _ _ _ _ (others_in (regions m)) (class_of n) (class_of m) (bytes_held m n h.start h.end items b)
    (read_parts m n h items (regions m) (held m n h.start h.end items b) others keeps sound.heaps) flex)

pub sound_held : (m n : AddressMap) (h : HeapList) (items : List Item) → IsSound (store_of m) → find_heap h.start (store_of m).heaps ≡ Some h
    → KeepsImages (store_of m).others h.start h.items items → KeepsHeaps h items (store_of m).heaps → Becomes m n h.start h.end items → AreSameFlex (class_of m) (class_of n)
    → ((a : ℕ) → (store_of m).anchor a ≡ true → IsAnchorPlace (heaps_with_items h.start items (store_of m).heaps) a) → IsSound (store_of n)
unfolding store_of
sound_held m n h items sound found kept keeps b flex places =
    let others : AreOthers h (heaps_in (bytes_of m) (regions m)) = are_others (bytes_of m) h.start (heaps_in (bytes_of m) (regions m)) h sound.heaps found in
    let now : IsHeld m n h.start h.end items = held m n h.start h.end items b in
    let list : heaps_in (bytes_of n) (regions m) ≡ heaps_with_items h.start items (heaps_in (bytes_of m) (regions m)) = read_parts m n h items (regions m) now others keeps sound.heaps in
    rw (layout-regions m n b.same, list) (record {
      heaps = parts_held m n h items (heaps_in (bytes_of m) (regions m)) now others keeps sound.heaps;
      limits = same_limits _ _ (places-held h.start items (heaps_in (bytes_of m) (regions m))) sound.limits;
      placed = all_placed-held h items (heaps_in (bytes_of m) (regions m)) (others_in (regions m)) others kept sound.placed;
      apart = sound.apart;
      few = sound.few;
      anchors = λ a is.
          let was = sym (flex.anchors a) ∙ is in
          (ap (λ (f : ℕ → Bool). f a) (is_mapped-layout m n b.same) ∙ (sound.anchors a was).0, places a was);
      headers = λ a is. sound.headers a (sym (flex.headers a) ∙ is);
    })
