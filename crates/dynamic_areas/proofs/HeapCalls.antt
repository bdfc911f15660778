-- After calls on the heaps the areas stand as they stood: a heap call changes no mapping and no
-- other record, and the module area's heap keeps its end.
use Rattle.profile.specs.MemoryMap.{application_start, error_block_start, module_area_start, system_start}
use Rattle.std.proofs.Common.{◌≡◌, ℕ, ◌+◌, ◌-◌, ◌*◌, ◌%◌, ◌==◌, ◌&&◌, Bool, true, false, List, [], ◌∷◌, ◌++◌, refl, sym, ap, subst, ◌∙◌, Some, None, Ok, Err, inl, inr, arith}
use Rattle.std.specs.Prelude.{if◌then◌else◌, Option, Result, ok_or, is_some, nat_le, nat_lt}
use Rattle.std.proofs.lemmas.Bool.{cases_Bool, eqb-true, eq-eqb, false≢true}
use Rattle.profile.specs.Outcome.{bind, Gives}
use Rattle.profile.specs.ErrorNumber.{ErrorNumber}
use Rattle.profile.specs.ErrorNumber.TheVariants.{BlockHoldsHeap, HeapBadDesc, HeapHoldsAnchor, HeapNoRoom, HeapNotABlock}
use Rattle.os_heap.proofs.InRange.{range_inside}
use Rattle.os_heap.specs.Bytes.{Bytes, in_range, AreMapped}
use Rattle.os_heap.specs.Memory.{Layout, Mapping, bytes_of, regions, layout, mapping, is_mapped, place, free_pages}
use Rattle.os_heap.specs.Records.{anchor_among, is_heap_kind}
use Rattle.os_heap.specs.AddressMap.{AddressMap}
use Rattle.os_heap.specs.Kind.TheVariants.{Heap}
use Rattle.os_heap.specs.Item.{Item}
use Rattle.os_heap.specs.Region.{Region}
use Rattle.os_heap.specs.Items.{size_of}
use Rattle.os_heap.specs.lists.Heap.{HeapList}
use Rattle.os_heap.specs.lists.Lists.{Claim, changed_by, claim_in_items, live_total, items_after_release, resized_in_place, round_up_8}
use Rattle.os_heap.specs.Store.{Store, store_of, heap_in, heaps_in, others_in, IsSound, find_heap, guest_count, has_image}
use Rattle.os_heap.specs.Ranges.{is_heap_region, overgrows, overlaps}
use Rattle.os_heap.specs.Calls.{with_end, store_after_init, store_after_change, store_after_copy, gave_back, handed_over, has_own_size, store_holding, holds_anchor, store_after_move, own_size, end_changed, store_after_resize, resized_or_moved, total_or_0, unless_image, heaps_with_items}
use Rattle.os_heap.specs.Forgetting.{store_after_forget, holds_heap, lowest_lost, starts_in, without_heaps_in}
use Rattle.os_heap.proofs.Found.{found_start}
use Rattle.os_heap.proofs.Nesting.{listed}
use Rattle.dynamic_areas.specs.declared.area.Area.{Area}
use Rattle.dynamic_areas.specs.Areas.{AreaTable, pages_of}
use Rattle.dynamic_areas.specs.Ground.{AreAreas, EndsWithArea, pool_of}
use Rattle.dynamic_areas.proofs.GroundLemmas.{or_true}

-- the heap of the module area keeps its kind and its end
abbrev pub KeepsEnd : List HeapList → List HeapList → Type 0
KeepsEnd old new = (area : Option Area) → EndsWithArea (find_heap module_area_start old) area → EndsWithArea (find_heap module_area_start new) area

pub areas_kept : (s t : Store) (free : ℕ) (l : AreaTable) → AreAreas s free l → IsSound t → t.bytes.mapped ≡ s.bytes.mapped → t.others ≡ s.others
    → KeepsEnd s.heaps t.heaps → AreAreas t free l
areas_kept s t free l areas sound mapped others kept = record {
  ground = record {
    sizes = areas.ground.sizes;
    table = areas.ground.table;
    area_table = λ x. ap (λ (f : ℕ → Bool). f x) mapped ∙ areas.ground.area_table x;
    pages = areas.ground.pages;
    ranges = rw (mapped, others) areas.ground.ranges;
    sound = sound;
  };
  heap = kept _ areas.heap;
}

pub same_end : (g h : HeapList) (area : Option Area) → h.kind ≡ g.kind → h.end ≡ g.end → EndsWithArea (Some g) area → EndsWithArea (Some h) area
same_end g h None kind end ends = ends
same_end g h (Some a) kind end ends = (kind ∙ ends.0, end ∙ ends.1)

-- the records alone say which heaps there are, and where they end
records_end : (b c : Bytes) (rs : List Region) → KeepsEnd (heaps_in b rs) (heaps_in c rs)
records_end b c [] area ends = ends
records_end b c (r ∷ rs) area ends =
    elim (cases_Bool (is_heap_kind r.kind)) [
      | inl heap ↦ elim (cases_Bool (r.at == module_area_start)) [
        | inl here ↦ (let e = rw (heap, here) at ends in rw (heap, here) (same_end (heap_in b r) (heap_in c r) area refl refl e))
        | inr other ↦ (let e = rw (heap, other) at ends in rw (heap, other) (records_end b c rs area e))
      ]
      | inr other ↦ (let e = rw other at ends in rw other (records_end b c rs area e))
    ]

pub layout_end : (m n : AddressMap) → layout n ≡ layout m → KeepsEnd (store_of m).heaps (store_of n).heaps
unfolding store_of
layout_end m n same =
    let records : regions n ≡ regions m = ap (λ (l : Layout). l.regions) same in
    rw records (records_end (bytes_of m) (bytes_of n) (regions m))

-- calls that keep all records, as claims and releases of blocks, and writes
pub areas_written : (m n : AddressMap) (l : AreaTable) → AreAreas (store_of m) (free_pages m) l → IsSound (store_of n) → layout n ≡ layout m
    → AreAreas (store_of n) (free_pages n) l
unfolding store_of
areas_written m n l areas sound same =
    let records : regions n ≡ regions m = ap (λ (q : Layout). q.regions) same in
    let there : place n ≡ place m = ap (λ (q : Layout). q.place) same in
    let free : free_pages n ≡ free_pages m = ap (λ (q : Layout). q.free_pages) same in
    let mapped : is_mapped n ≡ is_mapped m = λ i a. is_some (there i a) in
    let others : others_in (regions n) ≡ others_in (regions m) = ap others_in records in
    rw free (areas_kept (store_of m) (store_of n) (free_pages m) l areas sound mapped others (layout_end m n same))

-- what a call leaves where it isn't refused
abbrev KeepsBy : {U : Type 0} → Store → Result (Store × U) ErrorNumber → Type 0
KeepsBy s (Ok r) = KeepsEnd s.heaps r.0.heaps
KeepsBy s (Err e) = Unit {0}

keeps_given : {U : Type 0} (s t : Store) (r : Result (Store × U) ErrorNumber) (answer : Result U ErrorNumber) → KeepsBy s r → Gives s r answer t
    → KeepsEnd s.heaps t.heaps
keeps_given s t (Ok r) (Ok u) keeps given = rw given.0 keeps
keeps_given s t (Ok r) (Err e) keeps given = absurd given
keeps_given s t (Err f) (Ok u) keeps given = absurd given
keeps_given s t (Err f) (Err e) keeps given = rw given.1 (λ area ends. ends)

-- a heap more
more_end : (h : HeapList) (hs : List HeapList) → KeepsEnd hs (hs ++ h ∷ [])
more_end h [] area ends = absurd ends
more_end h (g ∷ hs) area ends =
    elim (cases_Bool (g.start == module_area_start)) [
      | inl here ↦ (let e = rw here at ends in rw here e)
      | inr other ↦ (let e = rw other at ends in rw other (more_end h hs area e))
    ]

begun_keeps : (s : Store) (at size : ℕ) → KeepsBy s (store_after_init s at size)
unfolding store_after_init
begun_keeps s at size =
    elim (cases_Bool (is_heap_region s.bytes at size)) [
      | inr bad ↦ rw bad tt
      | inl good ↦ elim (cases_Bool (overlaps at size s)) [
        | inl met ↦ rw (good, met) tt
        | inr clear ↦ elim (cases_Bool (nat_le 64 (guest_count s.heaps))) [
          | inl full ↦ rw (good, clear, full) tt
          | inr room ↦ rw (good, clear, room) (more_end (record { kind = Heap; start = at; end = size; items = [] }) s.heaps)
        ]
      ]
    ]

-- another end of a heap that isn't the module area's
other_end : (start end : ℕ) (hs : List HeapList) → (start == module_area_start) ≡ false → KeepsEnd hs (with_end start end hs)
other_end start end [] out area ends = ends
other_end start end (g ∷ hs) out area ends =
    elim (cases_Bool (g.start == module_area_start)) [
      | inl here ↦ elim (cases_Bool (g.start == start)) [
        | inl this ↦ absurd (false≢true (sym out ∙ eq-eqb start module_area_start (sym (eqb-true g.start start this) ∙ eqb-true g.start module_area_start here)))
        | inr apart ↦ (let e = rw here at ends in rw (apart, here) e)
      ]
      | inr other ↦ elim (cases_Bool (g.start == start)) [
        | inl this ↦ (let e = rw other at ends in rw (this, other) (other_end start end hs out area e))
        | inr apart ↦ (let e = rw other at ends in rw (apart, other) (other_end start end hs out area e))
      ]
    ]

areas_own : (g : HeapList) (area : Option Area) → has_own_size g.kind ≡ true → EndsWithArea (Some g) area → ⊥
areas_own g None own ends = ends
areas_own g (Some a) own ends = false≢true (ap has_own_size (sym ends.0) ∙ own)

guests_end : (s : Store) (heap end : ℕ) (g : HeapList) → find_heap heap s.heaps ≡ Some g → has_own_size g.kind ≡ true
    → KeepsEnd s.heaps (with_end g.start end s.heaps)
guests_end s heap end g e own area ends =
    let start : g.start ≡ heap = found_start heap s.heaps g e in
    elim (cases_Bool (g.start == module_area_start)) [
      | inl here ↦ (
          let there : find_heap module_area_start s.heaps ≡ Some g =
          subst (λ (a : ℕ). find_heap a s.heaps ≡ Some g) (sym start ∙ eqb-true g.start module_area_start here) e in
          let f = rw there at ends in absurd (areas_own g area own f))
      | inr other ↦ other_end g.start end s.heaps other area ends
    ]

ended_keeps : (s : Store) (h : HeapList) (change end : ℕ) → KeepsEnd s.heaps (with_end h.start end s.heaps) → KeepsBy s (end_changed s h change end)
ended_keeps s h change end kept =
    elim (cases_Bool (change % 4 == 0 && is_heap_region s.bytes h.start end)) [
      | inr bad ↦ rw bad tt
      | inl good ↦ elim (cases_Bool (overgrows s h end)) [
        | inl met ↦ rw (good, met) tt
        | inr clear ↦ elim (cases_Bool (nat_lt end (16 + size_of h.items))) [
          | inl low ↦ rw (good, clear, low) tt
          | inr inside ↦ rw (good, clear, inside) kept
        ]
      ]
    ]

changed_found : (s : Store) (heap change : ℕ) (found : Option HeapList) → find_heap heap s.heaps ≡ found
    → KeepsBy s (bind (ok_or found HeapBadDesc) (λ g. bind (own_size g) (λ h. end_changed s h change (changed_by h.end change))))
changed_found s heap change None e = tt
changed_found s heap change (Some g) e =
    elim (cases_Bool (has_own_size g.kind)) [
      | inl own ↦ rw own (ended_keeps s g change (changed_by g.end change) (guests_end s heap (changed_by g.end change) g e own))
      | inr fixed ↦ rw fixed tt
    ]

changed_keeps : (s : Store) (heap change : ℕ) → KeepsBy s (store_after_change s heap change)
unfolding store_after_change
changed_keeps s heap change = changed_found s heap change (find_heap heap s.heaps) refl

-- calls that give a block back, or change its size: the module area is no heap that is forgotten,
-- and a heap's list changes neither kind nor end
listed_end : (start : ℕ) (items : List Item) (hs : List HeapList) → KeepsEnd hs (heaps_with_items start items hs)
listed_end start items [] area ends = ends
listed_end start items (g ∷ hs) area ends = elim (cases_Bool (g.start == module_area_start)) [
  | inl here ↦ elim (cases_Bool (g.start == start)) [
    | inl this ↦ (let e = rw here at ends in rw (this, here) (same_end g (listed g items) area refl refl e))
    | inr apart ↦ (let e = rw here at ends in rw (apart, here) e)
  ]
  | inr other ↦ elim (cases_Bool (g.start == start)) [
    | inl this ↦ (let e = rw other at ends in rw (this, other) (listed_end start items hs area e))
    | inr apart ↦ (let e = rw other at ends in rw (apart, other) (listed_end start items hs area e))
  ]
]

area_stays : (at len : ℕ) (g : HeapList) (area : Option Area) → EndsWithArea (Some g) area → starts_in at len g ≡ false
area_stays at len g None ends = absurd ends
area_stays at len g (Some a) ends = rw ends.0 refl

left_end : (at len : ℕ) (hs : List HeapList) → KeepsEnd hs (without_heaps_in at len hs)
left_end at len [] area ends = ends
left_end at len (g ∷ hs) area ends = elim (cases_Bool (g.start == module_area_start)) [
  | inl here ↦ (let e = rw here at ends in rw (area_stays at len g area e, here) e)
  | inr other ↦
      let rest : EndsWithArea (find_heap module_area_start (without_heaps_in at len hs)) area = left_end at len hs area (let e = rw other at ends in e) in
      elim (cases_Bool (starts_in at len g)) [ inl gone ↦ rw gone rest | inr kept ↦ rw (kept, other) rest ]
]

forgot_end : (s : Store) (h : HeapList) (block total from : ℕ) (items : List Item) → KeepsEnd s.heaps (store_holding (store_after_forget s block total from) h items).heaps
forgot_end s h block total from items area ends =
    listed_end h.start items (store_after_forget s block total from).heaps area
    (left_end (lowest_lost block (total - 4) from s.heaps) (block - 4 + total - lowest_lost block (total - 4) from s.heaps) s.heaps area ends)

keeps_some : (A U : Type 0) (s : Store) (o : Option A) (e : ErrorNumber) (next : A → Result (Store × U) ErrorNumber) → ((x : A) → KeepsBy s (next x))
    → KeepsBy s (bind (ok_or o e) next)
keeps_some A U s None e next each = tt
keeps_some A U s (Some x) e next each = each x

keeps_if : (U : Type 0) (s : Store) (b : Bool) (e : ErrorNumber) (r : Result (Store × U) ErrorNumber) → KeepsBy s r → KeepsBy s (if b then Err e else r)
keeps_if U s true e r keeps = tt
keeps_if U s false e r keeps = keeps

keeps_answer : (U V : Type 0) (s : Store) (r : Result (Store × U) ErrorNumber) (answer : V) → KeepsBy s r → KeepsBy s (bind r (λ x. Ok (x.0, answer)))
keeps_answer U V s (Ok x) answer keeps = keeps
keeps_answer U V s (Err e) answer keeps = tt

keeps_after : (U : Type 0) (s u : Store) (r : Result (Store × U) ErrorNumber) → KeepsEnd s.heaps u.heaps → KeepsBy u r → KeepsBy s r
keeps_after U s u (Ok x) before after = λ area ends. after area (before area ends)
keeps_after U s u (Err e) before after = tt

gave_keeps : (s : Store) (heap block : ℕ) → KeepsBy s (gave_back s heap block)
unfolding gave_back
gave_keeps s heap block =
    keeps_some HeapList (Unit {0}) s (find_heap heap s.heaps) HeapBadDesc _ (λ h.
    keeps_some (List Item) (Unit {0}) s (unless_image (has_image block s.others) (items_after_release block (h.start + 16) h.items)) HeapNotABlock _ (λ items.
    let total : Option ℕ = live_total block (h.start + 16) h.items in
    keeps_if (Unit {0}) s (holds_anchor s.anchor block total) HeapHoldsAnchor (Ok (store_holding (store_after_forget s block (total_or_0 total) block) h items, tt))
    (forgot_end s h block (total_or_0 total) block items)))

moved_keeps : (s : Store) (h : HeapList) (block old new : ℕ) → KeepsBy s (store_after_move s h block old new)
moved_keeps s h block old new =
    keeps_some Claim ℕ s (claim_in_items new (h.end - 16) h.items) HeapNoRoom _ (λ c.
    let at : ℕ = h.start + 16 + c.offset + 4 in
    let u : Store = store_after_copy (store_holding s h c.items) block at (old - 4) in
    keeps_if ℕ s (holds_heap s.heaps block (old - 4)) BlockHoldsHeap (handed_over h.start block (old - 4) (store_holding s h c.items) at)
    (keeps_answer (Unit {0}) ℕ s (gave_back u h.start block) at
    (keeps_after (Unit {0}) s u (gave_back u h.start block) (listed_end h.start c.items s.heaps) (gave_keeps u h.start block))))

sized_keeps : (s : Store) (h : HeapList) (block old new : ℕ) (o : Option (List Item)) → KeepsBy s (resized_or_moved s h block old new o)
sized_keeps s h block old new (Some items) =
    keeps_if ℕ s (anchor_among s.anchor (block - 4 + new) (old - new)) HeapHoldsAnchor (Ok (store_holding (store_after_forget s block old (block - 4 + new)) h items, block))
    (forgot_end s h block old (block - 4 + new) items)
sized_keeps s h block old new None =
    keeps_if ℕ s (holds_anchor s.anchor block (Some old)) HeapHoldsAnchor (store_after_move s h block old new) (moved_keeps s h block old new)

resized_keeps : (s : Store) (heap block change : ℕ) → KeepsBy s (store_after_resize s heap block change)
unfolding store_after_resize
resized_keeps s heap block change =
    keeps_some HeapList ℕ s (find_heap heap s.heaps) HeapBadDesc _ (λ h.
    keeps_some ℕ ℕ s (unless_image (has_image block s.others) (live_total block (h.start + 16) h.items)) HeapNotABlock _ (λ old.
    let sum : ℕ = changed_by old change in
    let new : ℕ = round_up_8 sum in
    elim (cases_Bool (nat_le sum 4)) [
      | inl few ↦ rw few (keeps_answer (Unit {0}) ℕ s (gave_back s heap block) 0 (gave_keeps s heap block))
      | inr more ↦ rw more (sized_keeps s h block old new (resized_in_place block (h.start + h.end) new (h.start + 16) h.items))
    ]))

-- OS_Heap's calls that change a record
module _ (m n : AddressMap) (l : AreaTable) (areas : AreAreas (store_of m) (free_pages m) l) (sound : IsSound (store_of n))
    (others : (store_of n).others ≡ (store_of m).others) (same : mapping n ≡ mapping m) where
  areas_mapped : KeepsEnd (store_of m).heaps (store_of n).heaps → AreAreas (store_of n) (free_pages n) l
  unfolding store_of
  areas_mapped kept =
      let there : place n ≡ place m = ap (λ (q : Mapping). q.place) same in
      let free : free_pages n ≡ free_pages m = ap (λ (q : Mapping). q.free_pages) same in
      let mapped : is_mapped n ≡ is_mapped m = λ i a. is_some (there i a) in
      rw free (areas_kept (store_of m) (store_of n) (free_pages m) l areas sound mapped others kept)

  pub areas_begun : (at size : ℕ) (answer : Result (Unit {0}) ErrorNumber) → Gives (store_of m) (store_after_init (store_of m) at size) answer (store_of n)
      → AreAreas (store_of n) (free_pages n) l
  areas_begun at size answer given =
      areas_mapped (keeps_given (store_of m) (store_of n) (store_after_init (store_of m) at size) answer (begun_keeps (store_of m) at size) given)

  pub areas_changed : (heap change : ℕ) (answer : Result (Unit {0}) ErrorNumber) → Gives (store_of m) (store_after_change (store_of m) heap change) answer (store_of n)
      → AreAreas (store_of n) (free_pages n) l
  areas_changed heap change answer given =
      areas_mapped (keeps_given (store_of m) (store_of n) (store_after_change (store_of m) heap change) answer (changed_keeps (store_of m) heap change) given)

  pub areas_freed : (heap block : ℕ) (answer : Result (Unit {0}) ErrorNumber) → Gives (store_of m) (gave_back (store_of m) heap block) answer (store_of n)
      → AreAreas (store_of n) (free_pages n) l
  areas_freed heap block answer given =
      areas_mapped (keeps_given (store_of m) (store_of n) (gave_back (store_of m) heap block) answer (gave_keeps (store_of m) heap block) given)

  pub areas_resized : (heap block change : ℕ) (answer : Result ℕ ErrorNumber)
      → Gives (store_of m) (store_after_resize (store_of m) heap block change) answer (store_of n) → AreAreas (store_of n) (free_pages n) l
  areas_resized heap block change answer given =
      areas_mapped (keeps_given (store_of m) (store_of n) (store_after_resize (store_of m) heap block change) answer (resized_keeps (store_of m) heap block change) given)

-- the system pages are mapped
pub system_mapped : (s : Store) (free : ℕ) (l : AreaTable) → AreAreas s free l → (a : ℕ) → in_range system_start 0x3000 a ≡ true → s.bytes.mapped a ≡ true
system_mapped s free l areas a inside =
    areas.ground.area_table a ∙ rw (inside, or_true (in_range application_start (4096 * l.sizes.app) a)) refl

pub system_room : (s : Store) (free : ℕ) (l : AreaTable) → AreAreas s free l → AreMapped s.bytes.mapped error_block_start 256
system_room s free l areas a low high =
    system_mapped s free l areas a (range_inside system_start 0x3000 a (omega arith) (omega arith))

pub pool_is : (s : Store) (free : ℕ) (l : AreaTable) → AreAreas s free l → free ≡ pool_of l
pool_is s free l areas =
    let sum : pages_of l.areas + (l.sizes.app + 3) + free ≡ l.sizes.pages = areas.ground.pages in
    omega arith
