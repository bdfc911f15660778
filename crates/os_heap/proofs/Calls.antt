-- From one heap to the calls on all heaps.
use Rattle.std.proofs.Common.{Bool, if◌then◌else◌, true, false, [], ◌∷◌, inl, inr, ◌≢◌, ok_or, Ok, ℕ, ◌≡◌, ◌≤◌, ◌∙◌, Some, ap, ◌-◌, subst, sym, Result, refl, Err, None, Option, List, ◌+◌, arith}
use Rattle.std.proofs.lemmas.Bool.{cases_Bool, both_ways}
use Rattle.os_heap_words.specs.Outcome.{bind, Gives}
use Rattle.os_heap_words.specs.ErrorNumber.{ErrorNumber}
use Rattle.os_heap_words.specs.ErrorNumber.TheVariants.{HeapNoRoom, HeapBadDesc, HeapHoldsAnchor, HeapNotABlock}
use Rattle.os_heap_words.proofs.Stores.{layout-mapping}
use Rattle.os_heap_words.specs.Records.{is_heap_kind}
use Rattle.os_heap_words.specs.Kind.TheVariants as kind
use Rattle.os_heap_words.proofs.ListsLemmas.LiveBlocks.{IsStill, claim_still, IsStillIn, LiveBytes, law_live_bytes, release_still}
use Rattle.os_heap_words.specs.Bytes.{word_at}
use Rattle.os_heap_words.specs.Items.{items_in, size_of}
use Rattle.os_heap_words.specs.Memory.{anchor_of, bytes_of, byte_at, regions, layout, class_of}
use Rattle.os_heap_words.specs.Item.{Item}
use Rattle.os_heap_words.specs.AddressMap.{AddressMap}
use Rattle.os_heap_words.specs.Kind.{Kind}
use Rattle.os_heap_words.specs.Region.{Region}
use Rattle.os_heap_words.specs.lists.Counts.{looked_at, begun_below}
use Rattle.os_heap_words.specs.lists.Heap.{HeapList, IsHeapIn}
use Rattle.os_heap_words.specs.lists.Marks.{AreMarked, Remarks}
use Rattle.os_heap_words.specs.lists.Lists.{Claim, claim_in_items, total_for, items_after_release, live_total}
use Rattle.os_heap.proofs.Anchored.{KeepsAnchors, heads_unflexed, place_held, release_keeps}
use Rattle.os_heap.proofs.FlexWords.{AreSameFlex, flex_held}
use Rattle.os_heap.proofs.Forgetting.{own_left}
use Rattle.os_heap.proofs.Found.{found_heap}
use Rattle.os_heap.proofs.Held.{AreBy, heads_marked, marks_held}
use Rattle.os_heap.proofs.LostHeaps.{KeepsBlocks, forgot_keeps}
use Rattle.os_heap.proofs.LostRecords.{loses_listed}
use Rattle.os_heap.proofs.Nesting.{KeepsHeaps, keeps_by_blocks}
use Rattle.os_heap.proofs.Stores.{AreOthers, KeepsImages, are_others, sound_held, store_held}
use Rattle.os_heap.specs.Forgetting.{store_after_forget}
use Rattle.os_heap.specs.Sound.{Forgets, GivesBack, IsSoundMap, KeepsRest}
use Rattle.os_heap_words.specs.Outcomes.{Becomes, items_at, HasHeapAt, Claims, end_at, Releases}
use Rattle.os_heap.specs.GuestBlocks.{has_anchor_in}
use Rattle.os_heap.specs.Store.{heap_in, find_heap, store_of, IsSound, AreClasses, heaps_in, others_in, has_image, is_image, Store}
use Rattle.os_heap.specs.Calls.{store_after_get, gave_back, store_holding, holds_anchor, total_or_0, unless_image}
use Rattle.os_heap.specs.Probes.{get_probes, counted_of, walk_probes}

abbrev pub part_at : Kind → AddressMap → ℕ → ℕ → HeapList
part_at kind m start end = record { kind = kind; start = start; end = end; items = items_at m start }

-- the part of the heap that a search in the records found
pub found_part : (m : AddressMap) (heap : ℕ) (r : Region) → (r.at ≡ heap) × (find_heap heap (store_of m).heaps ≡ Some (heap_in (bytes_of m) r))
    → find_heap heap (store_of m).heaps ≡ Some (part_at r.kind m heap r.len)
found_part m heap r found =
    found.1 ∙ ap (λ (a : ℕ). let p : HeapList = record { kind = r.kind; start = a; end = r.len; items = items_in (word_at (byte_at m)) a } in Some p) found.0

pub heap_of-part : (kind : Kind) (m : AddressMap) (heap end : ℕ) → IsSound (store_of m) → find_heap heap (store_of m).heaps ≡ Some (part_at kind m heap end)
    → IsHeapIn (bytes_of m) heap end (items_at m heap)
unfolding store_of
heap_of-part kind m heap end sound found = found_heap (bytes_of m) heap (heaps_in (bytes_of m) (regions m)) (part_at kind m heap end) sound.heaps found

pub heap_there : (kind : Kind) (m : AddressMap) (heap end : ℕ) → IsSound (store_of m) → find_heap heap (store_of m).heaps ≡ Some (part_at kind m heap end) → HasHeapAt m heap
heap_there kind m heap end sound found =
    let h : IsHeapIn (bytes_of m) heap end (items_at m heap) = heap_of-part kind m heap end sound found in
    subst (λ (e : ℕ). IsHeapIn (bytes_of m) heap e (items_at m heap)) (sym h.limit) h

-- the marks after a heap got another list
marks_changed : (m n : AddressMap) (h : HeapList) (items : List Item) → find_heap h.start (store_of m).heaps ≡ Some h
    → h.items ≡ items_at m h.start → Becomes m n h.start h.end items → AreClasses m → Remarks (class_of m) (class_of n) (h.start + 16) h.items items
marks_changed m n h items found list b same =
    let change : AreMarked (class_of m) (h.start + 16) h.items → Remarks (class_of m) (class_of n) (h.start + 16) h.items items =
    subst (λ (xs : List Item). AreMarked (class_of m) (h.start + 16) xs → Remarks (class_of m) (class_of n) (h.start + 16) xs items) (sym list) b.marks in
    change (heads_marked (class_of m) (store_of m).heaps h same found)

-- what is so after a heap got another list
pub record IsHeld (m n : AddressMap) (h : HeapList) (items : List Item) : Type 0 where
  pub store : store_of n ≡ store_holding (store_of m) h items
  pub sound : IsSound (store_of n)
  pub classes : AreClasses n

pub is_held : (m n : AddressMap) (h : HeapList) (items : List Item) → IsSound (store_of m) → AreClasses m → find_heap h.start (store_of m).heaps ≡ Some h
    → h.items ≡ items_at m h.start → KeepsImages (store_of m).others h.start h.items items
    → KeepsAnchors (store_of m).anchor (h.start + 16) h.items items → KeepsHeaps h items (store_of m).heaps → Becomes m n h.start h.end items → IsHeld m n h items
is_held m n h items sound classes found list kept keeps within b =
    let s : Store = store_of m in
    let change : Remarks (class_of m) (class_of n) (h.start + 16) h.items items = marks_changed m n h items found list b classes in
    let flex : AreSameFlex (class_of m) (class_of n) =
    flex_held (class_of m) (class_of n) (h.start + 16) h.items items (heads_marked (class_of m) s.heaps h classes found) change
    (heads_unflexed m (bytes_of n) h items sound found b.heap keeps) in
    let others : AreOthers h s.heaps = are_others s.bytes h.start s.heaps h sound.heaps found in
    let store : store_of n ≡ store_holding s h items = store_held m n h items sound found within b flex in
    record {
      store = store;
      sound = sound_held m n h items sound found kept within b flex
          (λ a is. place_held h items s.heaps a others (keeps a is) (sound.anchors a is).1);
      classes = subst (λ (t : Store). AreBy (class_of n) t.heaps) (sym store)
          (marks_held s.bytes (class_of m) (class_of n) h items s.heaps sound.heaps found classes change);
    }

-- what a call on the heap leaves: memory, and whether all is sound
pub record IsGiven (A : Type 0) (m n : AddressMap) (outcome : Result (Store × A) ErrorNumber) (answer : Result A ErrorNumber) : Type 0 where
  pub store : Gives (store_of m) outcome answer (store_of n)
  pub sound : IsSound (store_of n)
  pub same : layout n ≡ layout m
  pub classes : AreClasses n

pub gives_none : (A : Type 0) (m n : AddressMap) (e : ErrorNumber) (answer : Result A ErrorNumber) → IsSound (store_of m) → AreClasses m → answer ≡ Err e → n ≡ m
    → IsGiven A m n (Err e) answer
gives_none A m n e answer sound classes refused same = record {
  store = rw refused (refl, ap store_of same);
  sound = rw same sound;
  same = ap layout same;
  classes = rw same classes;
}

-- the claim, by the list that it leaves
abbrev pub claimed_in : Store → HeapList → Option Claim → Result (Store × ℕ) ErrorNumber
claimed_in s h o = bind (ok_or o HeapNoRoom) (λ c. Ok (store_holding s h c.items, h.start + 16 + c.offset + 4))

pub gives_claim : (kind : Kind) (m n : AddressMap) (heap end : ℕ) (answer : Result ℕ ErrorNumber) (c : Option Claim) → IsSound (store_of m) → AreClasses m
    → find_heap heap (store_of m).heaps ≡ Some (part_at kind m heap end)
    → ((b t : ℕ) → live_total b (heap + 16) (items_at m heap) ≡ Some t → IsStill b t (heap + 16) c) → Claims m n heap end answer c
    → IsGiven ℕ m n (claimed_in (store_of m) (part_at kind m heap end) c) answer
gives_claim kind m n heap end answer None sound classes found still claims = gives_none ℕ m n HeapNoRoom answer sound classes claims.0 claims.1
gives_claim kind m n heap end answer (Some c) sound classes found still claims =
    let held : IsHeld m n (part_at kind m heap end) c.items =
    is_held m n (part_at kind m heap end) c.items sound classes found refl (λ b t is live. still b t live)
    (λ a _ held. record { block = held.block; total = held.total; live = still held.block held.total held.live; low = held.low; high = held.high })
    (keeps_by_blocks (part_at kind m heap end) c.items (store_of m).heaps still) claims.1 in
    record {
      store = rw claims.0 (held.store, refl);
      sound = held.sound;
      same = claims.1.same;
      classes = held.classes;
    }

pub get_given : (kind : Kind) (m n : AddressMap) (heap size end : ℕ) (answer : Result ℕ ErrorNumber) → IsSound (store_of m) → AreClasses m
    → find_heap heap (store_of m).heaps ≡ Some (part_at kind m heap end)
    → Claims m n heap (end_at m heap) answer (claim_in_items (total_for size) (end_at m heap - 16) (items_at m heap))
    → IsGiven ℕ m n (store_after_get (store_of m) heap size) answer
unfolding store_after_get
get_given kind m n heap size end answer sound classes found claims =
    let there : IsHeapIn (bytes_of m) heap end (items_at m heap) = heap_of-part kind m heap end sound found in
    let still : (b t : ℕ) → live_total b (heap + 16) (items_at m heap) ≡ Some t → IsStill b t (heap + 16) (claim_in_items (total_for size) (end - 16) (items_at m heap)) =
    λ b t live. claim_still (total_for size) (end - 16) b t (heap + 16) (items_at m heap) live there.totals in
    rw found (gives_claim kind m n heap end answer (claim_in_items (total_for size) (end - 16) (items_at m heap)) sound classes found still
    (subst (λ (e : ℕ). Claims m n heap e answer (claim_in_items (total_for size) (e - 16) (items_at m heap))) there.limit claims))

pub get_refused : (m : AddressMap) (heap size : ℕ) → find_heap heap (store_of m).heaps ≡ None → store_after_get (store_of m) heap size ≡ Err HeapBadDesc
unfolding store_after_get
get_refused m heap size none = rw none refl

pub get_counted : (kind : Kind) (m : AddressMap) (heap size end : ℕ) → find_heap heap (store_of m).heaps ≡ Some (part_at kind m heap end)
    → get_probes (store_of m) heap size ≡ looked_at (total_for size) (items_at m heap)
unfolding get_probes
get_counted kind m heap size end found = ap (counted_of (λ h. looked_at (total_for size) h.items)) found

pub get_counted_none : (m : AddressMap) (heap size : ℕ) → find_heap heap (store_of m).heaps ≡ None → get_probes (store_of m) heap size ≡ 0
unfolding get_probes
get_counted_none m heap size none = ap (counted_of (λ h. looked_at (total_for size) h.items)) none

-- heaps are no images, so it is enough to look at the other ranges
image_in-others : (b : ℕ) (rs : List Region) → has_image b (others_in rs) ≡ has_image b rs
image_in-others b [] = refl
image_in-others b (r ∷ rs) = elim (cases_Bool (is_heap_kind r.kind)) [
  | inl heap ↦ rw (heap, heap_no_image r.kind heap) (image_in-others b rs)
  | inr other ↦ rw (other, image_in-others b rs) refl
] where
  heap_no_image : (k : Kind) → is_heap_kind k ≡ true → is_image k ≡ false
  heap_no_image kind.Heap h = refl
  heap_no_image kind.Rma h = refl
  heap_no_image kind.FlexStore h = refl
  heap_no_image kind.FlexHeader h = refl
  heap_no_image kind.Anchor h = refl
  heap_no_image kind.HeadWord h = refl
  heap_no_image kind.Image h = sym h
  heap_no_image kind.SystemPage h = refl

pub image_recorded : (m : AddressMap) (b : ℕ) → has_image b (store_of m).others ≡ has_image b (regions m)
unfolding store_of
image_recorded m b = image_in-others b (regions m)

pub image_apart : (b block : ℕ) (rs : List Region) → has_image b rs ≡ true → has_image block rs ≡ false → b ≢ block
image_apart b block rs is none same = both_ways (has_image block rs) none (subst (λ (x : ℕ). has_image x rs ≡ true) same is)

-- what is so after a heap got another list, and the heaps that go with bytes of its block were forgotten
pub record IsLeft (m n : AddressMap) (h : HeapList) (block total from : ℕ) (items : List Item) : Type 0 where
  pub store : store_of n ≡ store_holding (store_after_forget (store_of m) block total from) h items
  pub kept : KeepsRest m n

pub is_left : (m k n : AddressMap) (h : HeapList) (block total from : ℕ) (items : List Item) → IsSoundMap m → find_heap h.start (store_of m).heaps ≡ Some h
    → h.items ≡ items_at m h.start → live_total block (h.start + 16) h.items ≡ Some total → block ≤ from → has_image block (store_of m).others ≡ false
    → KeepsBlocks h items block from → KeepsAnchors (store_of m).anchor (h.start + 16) h.items items → Forgets m k block total from
    → Becomes k n h.start h.end items → IsLeft m n h block total from items
is_left m k n h block total from items state found list live past own blocks keeps f b =
    let s : Store = store_of m in
    let heap : IsHeapIn s.bytes h.start h.end h.items = found_heap s.bytes h.start s.heaps h state.sound.heaps found in
    let lies : LiveBytes block total (h.start + 16) (h.start + 16 + size_of h.items) = law_live_bytes block total (h.start + 16) h.items heap.totals live in
    let there : find_heap h.start (store_of k).heaps ≡ Some h =
    ap (λ (t : Store). find_heap h.start t.heaps) f.store ∙ own_left s h block total from found (omega (arith, lies.low)) past in
    let list' : h.items ≡ items_at k h.start = list ∙ ap (λ (g : ℕ → ℕ). items_in (word_at g) h.start) (sym f.bytes) in
    let within : KeepsHeaps h items (store_of k).heaps =
    subst (λ (t : Store). KeepsHeaps h items t.heaps) (sym f.store) (forgot_keeps s h block total from items state.sound found live blocks) in
    let held : IsHeld k n h items = is_held k n h items f.kept.sound f.kept.classes there list'
    (λ a t is. blocks.others a t (image_apart a block s.others (ap (has_image a) (sym f.kept.others) ∙ is) own))
    (λ a is. keeps a (ap (λ (t : Store). t.anchor a) (sym f.store) ∙ is)) within b in
    let store : store_of n ≡ store_holding (store_after_forget s block total from) h items = held.store ∙ ap (λ (t : Store). store_holding t h items) f.store in
    record {
      store = store;
      kept = record {
        sound = held.sound;
        classes = held.classes;
        others = ap (λ (t : Store). t.others) store;
        mapping = layout-mapping k n b.same ∙ f.kept.mapping;
        records = loses_listed m k n h.start items f.kept.records b.same (ap (λ (t : Store). t.heaps) held.store);
      };
    }

-- the release, by the list that it leaves
abbrev pub released_in : Store → HeapList → ℕ → Option (List Item) → Result (Store × Unit {0}) ErrorNumber
released_in s h block o = bind (ok_or o HeapNotABlock) (λ items.
    if holds_anchor s.anchor block (live_total block (h.start + 16) h.items) then Err HeapHoldsAnchor else
    Ok (store_holding (store_after_forget s block (total_or_0 (live_total block (h.start + 16) h.items)) block) h items, tt))

pub store_anchor : (m : AddressMap) → anchor_of m ≡ (store_of m).anchor
unfolding store_of
store_anchor m = refl

release_given : (kind : Kind) (m k n : AddressMap) (heap block end total : ℕ) (o : Option (List Item)) → IsSoundMap m
    → find_heap heap (store_of m).heaps ≡ Some (part_at kind m heap end) → has_image block (store_of m).others ≡ false
    → live_total block (heap + 16) (items_at m heap) ≡ Some total → holds_anchor (store_of m).anchor block (Some total) ≡ false
    → Forgets m k block total block → items_after_release block (heap + 16) (items_at m heap) ≡ o → Releases k n heap end (Ok tt) o
    → GivesBack m n heap block × KeepsRest m n
unfolding gave_back
release_given kind m k n heap block end total None state found own live free f is releases =
    absurd (let no : Ok tt ≡ Err HeapNotABlock = releases.0 in cc)
release_given kind m k n heap block end total (Some items) state found own live free f is releases =
    let h : HeapList = part_at kind m heap end in
    let none : holds_anchor (store_of m).anchor block (live_total block (heap + 16) (items_at m heap)) ≡ false =
    ap (holds_anchor (store_of m).anchor block) live ∙ free in
    let blocks : KeepsBlocks h items block block = record {
      others = λ other t apart there. subst (IsStillIn other t (heap + 16)) is (release_still other block t (heap + 16) (items_at m heap) apart there);
      own = λ a past before. absurd (omega (arith, past, before));
    } in
    let left : IsLeft m n h block total block items =
    is_left m k n h block total block items state found refl live (omega arith) own blocks
    (release_keeps (store_of m).anchor block (heap + 16) (items_at m heap) items is none) f releases.1 in
    (rw (found, own, is, live, free) (left.store, refl), left.kept)

pub free_given : (kind : Kind) (m k n : AddressMap) (heap block end total : ℕ) → IsSoundMap m
    → find_heap heap (store_of m).heaps ≡ Some (part_at kind m heap end) → has_image block (regions m) ≡ false
    → live_total block (heap + 16) (items_at m heap) ≡ Some total → has_anchor_in m heap block ≡ false
    → Forgets m k block total block → Releases k n heap (end_at k heap) (Ok tt) (items_after_release block (heap + 16) (items_at k heap))
    → GivesBack m n heap block × KeepsRest m n
free_given kind m k n heap block end total state found own live free f releases =
    let limit : end_at m heap ≡ end = (heap_of-part kind m heap end state.sound found).limit in
    let here : Releases k n heap (end_at m heap) (Ok tt) (items_after_release block (heap + 16) (items_at m heap)) =
    subst (λ (g : ℕ → ℕ). Releases k n heap (word_at g (heap + 12)) (Ok tt) (items_after_release block (heap + 16) (items_in (word_at g) heap))) f.bytes releases in
    let free' : holds_anchor (store_of m).anchor block (Some total) ≡ false =
    ap (λ (q : ℕ → Bool). holds_anchor q block (Some total)) (sym (store_anchor m)) ∙ ap (holds_anchor (anchor_of m) block) (sym live) ∙ free in
    release_given kind m k n heap block end total (items_after_release block (heap + 16) (items_at m heap)) state found (image_recorded m block ∙ own) live free' f refl
    (subst (λ (x : ℕ). Releases k n heap x (Ok tt) (items_after_release block (heap + 16) (items_at m heap))) limit here)

-- no such block
pub free_unfound : (kind : Kind) (m : AddressMap) (heap block end : ℕ) → find_heap heap (store_of m).heaps ≡ Some (part_at kind m heap end)
    → unless_image (has_image block (regions m)) (items_after_release block (heap + 16) (items_at m heap)) ≡ None → gave_back (store_of m) heap block ≡ Err HeapNotABlock
unfolding gave_back
free_unfound kind m heap block end found none = rw (found, image_recorded m block, none) refl

pub free_refused : (m : AddressMap) (heap block : ℕ) → find_heap heap (store_of m).heaps ≡ None → gave_back (store_of m) heap block ≡ Err HeapBadDesc
unfolding gave_back
free_refused m heap block none = rw none refl

pub free_counted : (kind : Kind) (m : AddressMap) (heap block end : ℕ) → find_heap heap (store_of m).heaps ≡ Some (part_at kind m heap end)
    → walk_probes (store_of m) heap block ≡ begun_below block (heap + 16) (items_at m heap)
unfolding walk_probes
free_counted kind m heap block end found = ap (counted_of (λ h. begun_below block (h.start + 16) h.items)) found

pub free_counted_none : (m : AddressMap) (heap block : ℕ) → find_heap heap (store_of m).heaps ≡ None → walk_probes (store_of m) heap block ≡ 0
unfolding walk_probes
free_counted_none m heap block none = ap (counted_of (λ h. begun_below block (h.start + 16) h.items)) none
