-- What the calls on the module area write, with the growth of the area.
use Rattle.profile.specs.MemoryMap.{module_area_start}
use Rattle.std.proofs.Common.{ℕ, ◌≡◌, ◌+◌, ◌*◌, ◌≤◌, ◌<◌, ◌∙◌, ◌⊎◌, true, false, List, length, Some, Result, Ok, Err, refl, sym, ap, subst, inl, inr, arith}
use Rattle.std.proofs.lemmas.Bool.{cases_Bool, le-leb, lt-ltb, or_left}
use Rattle.profile.specs.Outcome.{bind}
use Rattle.profile.specs.ErrorNumber.{ErrorNumber}
use Rattle.address_map.specs.Bytes.{Bytes, in_range, with_bytes, with_moved, word_start}
use Rattle.address_map.specs.Items.{is_head, is_heap_word}
use Rattle.os_heap_words.specs.lists.Heap.{HeapList}
use Rattle.os_heap_words.specs.lists.Lists.{total_for}
use Rattle.os_heap.proofs.Apart.{range_parts}
use Rattle.os_heap.proofs.Found.{found_start, with_other_end}
use Rattle.os_heap.specs.Calls.{block_sized, gave_back, store_after_get, store_after_resize}
use Rattle.os_heap.specs.Store.{Store, find_heap}
use Rattle.dynamic_areas.specs.Ground.{AreaStore}
use Rattle.rma.specs.Calls.{end_if_moved, end_in_place, grown_in_place, grown_to, in_area, is_full, or_as_before, resized_or_grown, rma_base, rma_claimed, rma_extended, rma_freed, with_store}
use Rattle.rma.specs.Images.{image_recorded, store_with_image}
use Rattle.rma.specs.NewImages.{image_copied, image_made}
use Rattle.rma.proofs.FlexFrameLemmas.Heaps.{OnDone}
use Rattle.law_machine.proofs.HeapFrameLemmas.AreaReleases.{area_there}
use Rattle.law_machine.proofs.HeapFrameLemmas.Guests.{area_stores_fit}
use Rattle.law_machine.proofs.HeapFrameLemmas.ModuleArea.{OnAreaStore, OnGrown as OnFit, to_fit}
use Rattle.law_machine.specs.heap_frame.FitAreaStores.{IsFitAreaStore}
use Rattle.law_machine.proofs.OtherBytesLemmas.AreaGrowth.{IsBase, IsGrown, OnGrown, base_of, before_grown, not_grown, to_grown}
use Rattle.law_machine.proofs.OtherBytesLemmas.AreaLists.{IsMovedIn, LeavesIn, Resizes, ResizesIn, got_leaves, gave_leaves, resized_leaves}
use Rattle.law_machine.specs.other_bytes.AreaWrites.{AreaCallsKeepOthers, IsAreaWord, IsOfMovedAreaBlock}

-- the byte stays, or it is of a word of the module area's heap, or of what is written beside
abbrev pub Stays : Store → Store → ℕ → Type 0 → Type 0
Stays d t a M = (t.bytes.at a ≡ d.bytes.at a) ⊎ (IsAreaWord t a ⊎ M)

-- the same of a store that has these bytes and these heaps
pub stays_same : (d t u : Store) (a : ℕ) (M : Type 0) → u.bytes ≡ t.bytes → u.heaps ≡ t.heaps → Stays d t a M → Stays d u a M
stays_same d t u a M bytes heaps (inl same) = inl (ap (λ (b : Bytes). b.at a) bytes ∙ same)
stays_same d t u a M bytes heaps (inr (inl word)) = inr (inl (record {
  list = word.list;
  found = ap (find_heap module_area_start) heaps ∙ word.found;
  word = word.word;
}))
stays_same d t u a M bytes heaps (inr (inr more)) = inr (inr more)

only_words : (d t : Store) (a : ℕ) → Stays d t a ⊥ → (t.bytes.at a ≡ d.bytes.at a) ⊎ IsAreaWord t a
only_words d t a (inl same) = inl same
only_words d t a (inr (inl word)) = inr word
only_words d t a (inr (inr none)) = absurd none

module _ (d : Store) (o : HeapList) (base : IsBase d o) (a : ℕ) where
  -- the word that shows the heap's end is one of its words
  end_word : (t : Store) (h : HeapList) → find_heap module_area_start t.heaps ≡ Some h → in_range (o.start + 12) 4 a ≡ true → IsAreaWord t a
  end_word t h found is =
      let parts : (o.start + 12 ≤ a) × (a < o.start + 12 + 4) = range_parts (o.start + 12) 4 a is in
      let start : h.start ≡ module_area_start = found_start module_area_start t.heaps h found in
      let low : h.start ≤ word_start a = omega (arith, parts.0, start, base.start) in
      let high : word_start a < h.start + 16 = omega (arith, parts.1, start, base.start) in
      record {
        list = h;
        found = found;
        word = or_left (in_range h.start 16 (word_start a)) (is_head (h.start + 16) h.items (word_start a))
            (rw (le-leb h.start (word_start a) low, lt-ltb (word_start a) (h.start + 16) high) refl);
      }

  same_stays : (g t : Store) (h : HeapList) (M : Type 0) → IsGrown d o base g → find_heap module_area_start t.heaps ≡ Some h → t.bytes.at a ≡ g.bytes.at a → Stays d t a M
  same_stays g t h M grown found same = elim (cases_Bool (in_range (o.start + 12) 4 a)) [
    | inl is ↦ inr (inl (end_word t h found is))
    | inr out ↦ inl (same ∙ grown.bytes a out)
  ]

  finish : (g t : Store) (h : HeapList) (M N : Type 0) → IsGrown d o base g → find_heap module_area_start t.heaps ≡ Some h → (M → N)
      → (t.bytes.at a ≡ g.bytes.at a) ⊎ ((is_heap_word h.start h.items (word_start a) ≡ true) ⊎ M) → Stays d t a N
  finish g t h M N grown found more (inl same) = same_stays g t h N grown found same
  finish g t h M N grown found more (inr (inl word)) = inr (inl (record { list = h; found = found; word = word }))
  finish g t h M N grown found more (inr (inr other)) = inr (inr (more other))

  abbrev StaysIn : {A : Type 0} → Type 0 → AreaStore × A → Type 0
  StaysIn M x = Stays d x.0.store a M

  -- claims and releases
  in_stays : (A : Type 0) (limit : ℕ) (e : AreaStore) (r : Result (Store × A) ErrorNumber) → IsGrown d o base e.store → OnDone (LeavesIn limit e.store a ⊥) r
      → OnAreaStore (StaysIn ⊥) (in_area e r)
  in_stays A limit e (Ok x) grown left = finish e.store x.0 left.heap ⊥ ⊥ grown left.found (λ none. none) left.byte
  in_stays A limit e (Err f) grown left = tt

  grown_got : (e : AreaStore) (size : ℕ) (r : Result AreaStore ErrorNumber) → OnFit e r → OnGrown d o base r
      → OnAreaStore (StaysIn ⊥) (bind r (λ g. in_area g (store_after_get g.store module_area_start size)))
  grown_got e size (Err f) fit grown = tt
  grown_got e size (Ok g) fit grown =
      let limit : ℕ = 4096 * fit.fit.area.pages in
      in_stays ℕ limit g (store_after_get g.store module_area_start size) grown (got_leaves limit size a g.store ⊥ fit.fit.store)

  claimed_stays : (e : AreaStore) (size : ℕ) → IsFitAreaStore e → IsGrown d o base e.store → OnAreaStore (StaysIn ⊥) (rma_claimed e size)
  unfolding rma_claimed
  claimed_stays e size f grown = elim (cases_Bool (is_full (store_after_get e.store module_area_start size))) [
    | inl full ↦
        let end : ℕ = rma_base e.store + total_for size in
        rw full (grown_got e size (grown_to e end) (to_fit e end f) (to_grown d o base e end grown))
    | inr found ↦
        let limit : ℕ = 4096 * f.area.pages in
        rw found (in_stays ℕ limit e (store_after_get e.store module_area_start size) grown (got_leaves limit size a e.store ⊥ f.store))
  ]

  freed_stays : (e : AreaStore) (block : ℕ) → IsFitAreaStore e → IsGrown d o base e.store → OnAreaStore (StaysIn ⊥) (rma_freed e block)
  unfolding rma_freed
  freed_stays e block f grown =
      let limit : ℕ = 4096 * f.area.pages in
      in_stays (Unit {0}) limit e (gave_back e.store module_area_start block) grown (gave_leaves limit block a e.store ⊥ f.store)

  -- changes of size
  moved_of : (g t : Store) (limit block change : ℕ) → IsGrown d o base g → (r : Resizes limit g t block change a) → IsMovedIn r.old block change limit a
      → IsOfMovedAreaBlock d t block change a
  moved_of g t limit block change grown r moved =
      let both : Some r.old ≡ Some (with_other_end o grown.end) = sym r.found ∙ grown.place in
      let same : r.old ≡ with_other_end o grown.end = cc in
      let first : IsMovedIn (with_other_end o grown.end) block change limit a = subst (λ (h : HeapList). IsMovedIn h block change limit a) same moved in
      let there : IsMovedIn (with_other_end o grown.end) block change r.leaves.heap.end a =
      subst (λ (n : ℕ). IsMovedIn (with_other_end o grown.end) block change n a) (sym r.leaves.end) first in
      record {
        list = o;
        found = base.place;
        after = r.leaves.heap;
        left = r.leaves.found;
        total = there.total;
        live = there.live;
        claim = there.claim;
        claims = there.claims;
        byte = there.byte;
      }

  abbrev Extends : ℕ → ℕ → AreaStore × ℕ → Type 0
  Extends block change x = Stays d x.0.store a (IsOfMovedAreaBlock d x.0.store block change a)

  in_extends : (limit block change : ℕ) (e : AreaStore) (r : Result (Store × ℕ) ErrorNumber) → IsGrown d o base e.store
      → OnDone (ResizesIn limit e.store block change a) r → OnAreaStore (Extends block change) (in_area e r)
  in_extends limit block change e (Ok x) grown left =
      finish e.store x.0 left.leaves.heap (IsMovedIn left.old block change limit a) (IsOfMovedAreaBlock d x.0 block change a) grown left.leaves.found
      (moved_of e.store x.0 limit block change grown left) left.leaves.byte
  in_extends limit block change e (Err f) grown left = tt

  grown_extends : (e : AreaStore) (block change : ℕ) (r : Result AreaStore ErrorNumber) → OnFit e r → OnGrown d o base r
      → OnAreaStore (Extends block change) (bind r (λ g. in_area g (store_after_resize g.store module_area_start block change)))
  grown_extends e block change (Err f) fit grown = tt
  grown_extends e block change (Ok g) fit grown =
      let limit : ℕ = 4096 * fit.fit.area.pages in
      in_extends limit block change g (store_after_resize g.store module_area_start block change) grown (resized_leaves limit block change a g.store fit.fit.store)

  or_grown_extends : (e : AreaStore) (block change : ℕ) → IsFitAreaStore e → IsGrown d o base e.store → OnAreaStore (Extends block change) (resized_or_grown e block change)
  or_grown_extends e block change f grown = elim (cases_Bool (is_full (store_after_resize e.store module_area_start block change))) [
    | inl full ↦
        let end : ℕ = end_if_moved (rma_base e.store) change (block_sized e.store module_area_start block) in
        rw full (grown_extends e block change (grown_to e end) (to_fit e end f) (to_grown d o base e end grown))
    | inr found ↦
        let limit : ℕ = 4096 * f.area.pages in
        rw found (in_extends limit block change e (store_after_resize e.store module_area_start block change) grown (resized_leaves limit block change a e.store f.store))
  ]

  before_fit : (e : AreaStore) (r : Result AreaStore ErrorNumber) → IsFitAreaStore e → OnFit e r → IsFitAreaStore (or_as_before e r)
  before_fit e (Ok g) f fit = fit.fit
  before_fit e (Err g) f fit = f

  extended_stays : (e : AreaStore) (block change : ℕ) → IsFitAreaStore e → IsGrown d o base e.store → OnAreaStore (Extends block change) (rma_extended e block change)
  unfolding rma_extended
  extended_stays e block change f grown =
      let end : ℕ = end_in_place (rma_base e.store) block change (block_sized e.store module_area_start block) in
      or_grown_extends (grown_in_place e block change) block change (before_fit e (grown_to e end) f (to_fit e end f))
      (before_grown d o base e (grown_to e end) grown (to_grown d o base e end grown))

  -- new images
  recorded_by : (t : Store) (at : ℕ) (M : Type 0) (r : Result ℕ ErrorNumber) → Stays d t a M → Stays d (store_with_image t at r) a M
  recorded_by t at M (Ok len) stays = stays_same d t (store_with_image t at (Ok len)) a M refl refl stays
  recorded_by t at M (Err f) stays = stays

  recorded : (t : Store) (at : ℕ) (M : Type 0) → Stays d t a M → Stays d (image_recorded t at) a M
  unfolding image_recorded
  recorded t at M stays = recorded_by t at M (block_sized t module_area_start at) stays

  filled : (s : Store) (c : Bytes) (at len : ℕ) → (in_range at len a ≡ false → c.at a ≡ s.bytes.at a) → Stays d s a ⊥
      → Stays d (record s { bytes = c }) a (in_range at len a ≡ true)
  filled s c at len kept stays = elim (cases_Bool (in_range at len a)) [
    | inl inside ↦ inr (inr inside)
    | inr out ↦ beside (kept out) stays
  ] where
    beside : c.at a ≡ s.bytes.at a → Stays d s a ⊥ → Stays d (record s { bytes = c }) a (in_range at len a ≡ true)
    beside same (inl was) = inl (same ∙ was)
    beside same (inr (inl word)) = inr (inl (record { list = word.list; found = word.found; word = word.word }))
    beside same (inr (inr none)) = absurd none

  abbrev Fills : ℕ → AreaStore × ℕ → Type 0
  Fills len x = Stays d x.0.store a (in_range x.1 len a ≡ true)

  image_fills : (len : ℕ) (r : Result (AreaStore × ℕ) ErrorNumber) (put : Store → ℕ → Bytes)
      → ((s : Store) (at : ℕ) → in_range at len a ≡ false → (put s at).at a ≡ s.bytes.at a) → OnAreaStore (StaysIn ⊥) r
      → OnAreaStore (Fills len) (bind r (λ c. Ok (with_store c.0 (image_recorded (record c.0.store { bytes = put c.0.store c.1 }) c.1), c.1)))
  image_fills len (Err f) put kept done = tt
  image_fills len (Ok c) put kept done =
      recorded (record c.0.store { bytes = put c.0.store c.1 }) c.1 (in_range c.1 len a ≡ true)
      (filled c.0.store (put c.0.store c.1) c.1 len (kept c.0.store c.1) done)

  made_fills : (e : AreaStore) (image : List ℕ) → IsFitAreaStore e → IsGrown d o base e.store → OnAreaStore (Fills (length image)) (image_made e image)
  unfolding image_made
  made_fills e image f grown =
      image_fills (length image) (rma_claimed e (length image)) (λ s at. with_bytes s.bytes at image) (λ s at out. rw out refl)
      (claimed_stays e (length image) f grown)

  copied_fills : (e : AreaStore) (from len : ℕ) → IsFitAreaStore e → IsGrown d o base e.store → OnAreaStore (Fills len) (image_copied e from len)
  unfolding image_copied
  copied_fills e from len f grown =
      image_fills len (rma_claimed e len) (λ s at. with_moved s.bytes from at len) (λ s at out. rw out refl) (claimed_stays e len f grown)

-- what a call is known to leave, of one that left this
of_done : (A : Type 0) (P : AreaStore × A → Type 0) (r : Result (AreaStore × A) ErrorNumber) (x : AreaStore × A) → r ≡ Ok x → OnAreaStore P r → P x
of_done A P (Ok y) x is done = let same : y ≡ x = cc in subst P same done
of_done A P (Err f) x is done = absurd (cc)

pub area_calls_keep_others : AreaCallsKeepOthers
area_calls_keep_others d e a good small =
    let o : HeapList = (area_there d good).known.heap in
    let base : IsBase d.store o = base_of d good small in
    let f : IsFitAreaStore d = area_stores_fit d good in
    let grown : IsGrown d.store o base d.store = not_grown d.store o base in
    record {
      claim = λ size block is.
          only_words d.store e.store a
          (of_done ℕ (StaysIn d.store o base a ⊥) (rma_claimed d size) (e, block) is (claimed_stays d.store o base a d size f grown));
      free = λ block is.
          only_words d.store e.store a
          (of_done (Unit {0}) (StaysIn d.store o base a ⊥) (rma_freed d block) (e, tt) is (freed_stays d.store o base a d block f grown));
      extend = λ block change new is.
          of_done ℕ (Extends d.store o base a block change) (rma_extended d block change) (e, new) is (extended_stays d.store o base a d block change f grown);
      make_image = λ image at is.
          of_done ℕ (Fills d.store o base a (length image)) (image_made d image) (e, at) is (made_fills d.store o base a d image f grown);
      copy_image = λ from len at is.
          of_done ℕ (Fills d.store o base a len) (image_copied d from len) (e, at) is (copied_fills d.store o base a d from len f grown);
    }
