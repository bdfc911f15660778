-- Blocks of the module area, over claims, releases and new images.
use Rattle.profile.specs.MemoryMap.{module_area_start}
use Rattle.std.proofs.Common.{ℕ, ◌+◌, ◌-◌, ◌*◌, ◌≡◌, ◌≢◌, ◌≤◌, ◌<◌, ◌∙◌, true, false, List, length, Option, Some, None, is_some, Result, Ok, Err, refl, sym, ap, subst, inl, inr, arith}
use Rattle.std.specs.Prelude.{nat_le, nat_lt}
use Rattle.std.proofs.lemmas.Bool.{cases_Bool, false_from_ne_true, false≢true, le-leb, lt-ltb}
use Rattle.profile.specs.Outcome.{bind}
use Rattle.profile.specs.ErrorNumber.{ErrorNumber}
use Rattle.profile.specs.ErrorNumber.TheVariants.{HeapBadDesc, HeapHoldsAnchor, HeapNoRoom, HeapNotABlock}
use Rattle.address_map.specs.Bytes.{Bytes, in_range, with_bytes, with_moved}
use Rattle.address_map.specs.Items.{is_total, size_of}
use Rattle.address_map.specs.declared.item.Item.{Item}
use Rattle.os_heap_words.proofs.ListsLemmas.ClaimedLists.{HasTotals, IsUnheld, claim_totals, claim_unheld}
use Rattle.os_heap_words.proofs.ListsLemmas.LiveBlocks.{IsFresh, IsStill, claim_fresh, claim_still, live_apart}
use Rattle.os_heap_words.proofs.ListsLemmas.Spelling.{total_of-numbers}
use Rattle.os_heap_words.specs.lists.Heap.{AreTotals, HeapList}
use Rattle.os_heap_words.specs.lists.Lists.{Claim, claim_in_items, live_total, items_after_release, total_for}
use Rattle.os_heap.proofs.Apart.{range_parts}
use Rattle.os_heap.proofs.Found.{found_start}
use Rattle.os_heap.specs.Calls.{block_sized, ending, gave_back, store_after_get, store_holding, holds_anchor, total_or_0, unless_image}
use Rattle.os_heap.specs.Forgetting.{store_after_forget}
use Rattle.os_heap.specs.Store.{Store, find_heap, has_image}
use Rattle.dynamic_areas.proofs.ModuleArea.{find_ended}
use Rattle.dynamic_areas.specs.declared.area.Area.{Area}
use Rattle.dynamic_areas.specs.Changing.{store_extended, store_more}
use Rattle.dynamic_areas.specs.Ground.{AreaStore}
use Rattle.rma.specs.Calls.{area_pages, area_room, grown_by, grown_to, in_area, is_full, pages_short, rma_base, rma_claimed, rma_freed, with_store}
use Rattle.rma.specs.Images.{image_recorded, store_with_image}
use Rattle.rma.specs.NewImages.{image_copied, image_made}
use Rattle.rma.proofs.FlexFrameLemmas.Heaps.{OnDone, on_if, on_some}
use Rattle.law_machine.proofs.HeapCallsLemmas.Plain.{unlive}
use Rattle.law_machine.proofs.HeapFrameLemmas.Blocks.{AreSame, beside_same, held_total, release_were, same_all, same_both, same_stay, stay_both, unspelled}
use Rattle.law_machine.proofs.HeapFrameLemmas.HeapCalls.{items_of_fit, unless_some}
use Rattle.law_machine.proofs.HeapFrameLemmas.Holding.{written_is_fit}
use Rattle.law_machine.proofs.HeapFrameLemmas.Lists.{HasRoomFor, HasRoomIfSome, released_room}
use Rattle.law_machine.proofs.HeapFrameLemmas.ModuleArea.{OnAreaStore, OnGrown, to_fit}
use Rattle.law_machine.specs.heap_frame.BlockLaws.{BlockCallsKeep, StayLive, WereLive, block_total, total_in}
use Rattle.law_machine.specs.heap_frame.FitAreaStores.{IsFitAreaStore}
use Rattle.law_machine.specs.heap_frame.Fits.{IsFitStore}

-- a claim leaves all blocks, and makes one that was none
record MakesBlock (s t : Store) (block total : ℕ) : Type 0 where
  stay : StayLive s t
  none : is_some (block_total s block) ≡ false
  apart : (other n a : ℕ) → block_total t other ≡ Some n → other ≢ block → in_range other (n - 4) a ≡ true
      → in_range block (total - 4) a ≡ false

claim_makes : (limit new : ℕ) (s : Store) (h : HeapList) (c : Claim) (f : IsFitStore limit s) → find_heap module_area_start s.heaps ≡ Some h
    → is_total new ≡ true → claim_in_items new (h.end - 16) h.items ≡ Some c
    → MakesBlock s (store_holding s h c.items) (h.start + 16 + c.offset + 4) new
claim_makes limit new s h c f found total is =
    let start : h.start ≡ module_area_start = found_start module_area_start s.heaps h found in
    let own = items_of_fit limit s h f found in
    let at : ℕ = h.start + 16 + c.offset + 4 in
    let totals : AreTotals c.items = subst HasTotals is (claim_totals new (h.end - 16) h.items total own.0) in
    let fresh : live_total at (h.start + 16) c.items ≡ Some new =
    subst (IsFresh new (h.start + 16)) is (claim_fresh new (h.end - 16) (h.start + 16) h.items own.0) in
    let unheld : is_some (live_total at (h.start + 16) h.items) ≡ false =
    subst (IsUnheld (h.start + 16) h.items) is (claim_unheld new (h.end - 16) (h.start + 16) h.items own.0) in
    record {
      stay = λ block n live.
          let live' : live_total block (h.start + 16) h.items ≡ Some n = sym (ap (total_in block) found) ∙ live in
          let still : live_total block (h.start + 16) c.items ≡ Some n =
          subst (IsStill block n (h.start + 16)) is (claim_still new (h.end - 16) block n (h.start + 16) h.items live' own.0) in
          (held_total s h c.items block found ∙ still, λ a inside. unspelled s.bytes.at h.start h.end c.items block n a start totals still inside);
      none = ap (λ (o : Option HeapList). is_some (total_in at o)) found ∙ unheld;
      apart = λ other n a live differs inside.
          let live' : live_total other (h.start + 16) c.items ≡ Some n = sym (held_total s h c.items other found) ∙ live in
          let byte : (other ≤ a) × (a < other + (n - 4)) = range_parts other (n - 4) a inside in
          false_from_ne_true (in_range at (new - 4) a) (λ there.
          let target : (at ≤ a) × (a < at + (new - 4)) = range_parts at (new - 4) a there in
          elim (live_apart other n at new (h.start + 16) c.items totals live' fresh differs) [
            | inl low ↦ omega (arith, low, byte.1, target.0)
            | inr high ↦ omega (arith, high, byte.0, target.1)
          ]);
    }

abbrev MakesOne : ℕ → Store → Store × ℕ → Type 0
MakesOne total s x = MakesBlock s x.0 x.1 total

got_makes : (limit size : ℕ) (s : Store) → IsFitStore limit s → OnDone (MakesOne (total_for size) s) (store_after_get s module_area_start size)
unfolding store_after_get
got_makes limit size s f =
    let total : is_total (total_for size) ≡ true = total_of-numbers (total_for size) (omega arith) (omega arith) in
    on_some HeapList ℕ (MakesOne (total_for size) s) (find_heap module_area_start s.heaps) HeapBadDesc _ (λ h found.
    on_some Claim ℕ (MakesOne (total_for size) s) (claim_in_items (total_for size) (h.end - 16) h.items) HeapNoRoom
    (λ c. Ok (store_holding s h c.items, h.start + 16 + c.offset + 4)) (λ c is.
    claim_makes limit (total_for size) s h c f found total is))

-- a block was given back
abbrev pub WereLiveIn : {A : Type 0} → Store → Store × A → Type 0
WereLiveIn s x = WereLive s x.0

were_by_total : (limit block : ℕ) (s : Store) (h : HeapList) (items : List Item) (o : Option ℕ) → IsFitStore limit s → find_heap module_area_start s.heaps ≡ Some h
    → items_after_release block (h.start + 16) h.items ≡ Some items → live_total block (h.start + 16) h.items ≡ o
    → WereLive s (store_holding (store_after_forget s block (total_or_0 o) block) h items)
were_by_total limit block s h items None f found is none =
    absurd (let no : None ≡ Some items = sym (unlive block (h.start + 16) h.items none) ∙ is in cc)
were_by_total limit block s h items (Some total) f found is live =
    let own = items_of_fit limit s h f found in
    let left : HasRoomFor (size_of h.items) items = subst (HasRoomIfSome (size_of h.items)) is (released_room block (h.start + 16) h.items own.0) in
    release_were limit block total s h items f found left.0 live is

pub gave_were : (limit block : ℕ) (s : Store) → IsFitStore limit s → OnDone (WereLiveIn s) (gave_back s module_area_start block)
unfolding gave_back
gave_were limit block s f =
    on_some HeapList (Unit {0}) (WereLiveIn s) (find_heap module_area_start s.heaps) HeapBadDesc _ (λ h found.
    let o : Option ℕ = live_total block (h.start + 16) h.items in
    let left : Option (List Item) = items_after_release block (h.start + 16) h.items in
    on_some (List Item) (Unit {0}) (WereLiveIn s) (unless_image (has_image block s.others) left) HeapNotABlock _ (λ items is.
    on_if (Unit {0}) (WereLiveIn s) (holds_anchor s.anchor block o) HeapHoldsAnchor
    (Ok (store_holding (store_after_forget s block (total_or_0 o) block) h items, tt)) (λ none.
    were_by_total limit block s h items o f found (unless_some (has_image block s.others) left items is) refl)))

-- growth leaves the blocks
pub ended_same : (limit end : ℕ) (s : Store) (h : HeapList) (f : IsFitStore limit s) → find_heap module_area_start s.heaps ≡ Some h → AreSame s (ending s h end)
ended_same limit end s h f found =
    let start : h.start ≡ module_area_start = found_start module_area_start s.heaps h found in
    let own = items_of_fit limit s h f found in
    record {
      totals = λ block. ap (total_in block) (find_ended s.heaps h module_area_start end found) ∙ sym (ap (total_in block) found);
      bytes = λ block total live a inside.
          unspelled s.bytes.at h.start end h.items block total a start own.0 (sym (ap (total_in block) found) ∙ live) inside;
    }

pub extended_same : (limit count : ℕ) (s : Store) (a : Area) → IsFitStore limit s → AreSame s (store_extended s 1 count (Some a))
extended_same limit count s a f =
    let t : Store = store_more s count (Some a) in
    let one : AreSame s t = beside_same limit s t.bytes f (λ x low high. refl) in
    let g : IsFitStore limit t = written_is_fit limit s t.bytes f in
    let two : AreSame t (ending t f.heap (4096 * (a.pages + count))) = ended_same limit (4096 * (a.pages + count)) t f.heap g f.found in
    rw f.found (same_both s t (ending t f.heap (4096 * (a.pages + count))) one two)

abbrev pub SameGrown : AreaStore → Result AreaStore ErrorNumber → Type 0
SameGrown e (Ok g) = AreSame e.store g.store
SameGrown e (Err f) = Unit {0}

pub by_same : (e : AreaStore) (count : ℕ) → IsFitAreaStore e → SameGrown e (grown_by e count)
by_same e count f = elim (cases_Bool (nat_lt (area_room e) count)) [
  | inl short ↦ rw short tt
  | inr enough ↦ rw enough (subst (λ (o : Option Area). AreSame e.store (store_extended e.store 1 count o)) (sym f.found)
      (extended_same (4096 * f.area.pages) count e.store f.area f.store))
]

pub to_same : (e : AreaStore) (end : ℕ) → IsFitAreaStore e → SameGrown e (grown_to e end)
unfolding grown_to
to_same e end f = elim (cases_Bool (nat_le end (4096 * area_pages e))) [
  | inl enough ↦ rw enough (same_all e.store)
  | inr short ↦ rw short (by_same e (pages_short e end) f)
]

-- a claim in the module area
abbrev MakesIn : ℕ → AreaStore → AreaStore × ℕ → Type 0
MakesIn total e x = MakesBlock e.store x.0.store x.1 total

in_makes : (total : ℕ) (e : AreaStore) (r : Result (Store × ℕ) ErrorNumber) → OnDone (MakesOne total e.store) r → OnAreaStore (MakesIn total e) (in_area e r)
in_makes total e (Ok x) done = done
in_makes total e (Err f) done = tt

after_makes : (total : ℕ) (d e : AreaStore) (r : Result (AreaStore × ℕ) ErrorNumber) → AreSame d.store e.store → OnAreaStore (MakesIn total e) r
    → OnAreaStore (MakesIn total d) r
after_makes total d e (Ok x) same done = record {
  stay = stay_both d.store e.store x.0.store (same_stay d.store e.store same) done.stay;
  none = sym (ap is_some (same.totals x.1)) ∙ done.none;
  apart = done.apart;
}
after_makes total d e (Err f) same done = tt

grown_makes : (e : AreaStore) (size : ℕ) (o : Result AreaStore ErrorNumber) → OnGrown e o → SameGrown e o
    → OnAreaStore (MakesIn (total_for size) e) (bind o (λ g. in_area g (store_after_get g.store module_area_start size)))
grown_makes e size (Err f) fit same = tt
grown_makes e size (Ok g) fit same =
    after_makes (total_for size) e g (in_area g (store_after_get g.store module_area_start size)) same
    (in_makes (total_for size) g (store_after_get g.store module_area_start size) (got_makes (4096 * fit.fit.area.pages) size g.store fit.fit.store))

claimed_makes : (e : AreaStore) (size : ℕ) → IsFitAreaStore e → OnAreaStore (MakesIn (total_for size) e) (rma_claimed e size)
unfolding rma_claimed
claimed_makes e size f = elim (cases_Bool (is_full (store_after_get e.store module_area_start size))) [
  | inl full ↦
      let end : ℕ = rma_base e.store + total_for size in
      rw full (grown_makes e size (grown_to e end) (to_fit e end f) (to_same e end f))
  | inr found ↦ rw found (in_makes (total_for size) e (store_after_get e.store module_area_start size) (got_makes (4096 * f.area.pages) size e.store f.store))
]

-- the new block gets bytes, and is recorded as an image
abbrev StayIn : {A : Type 0} → AreaStore → AreaStore × A → Type 0
StayIn e x = StayLive e.store x.0.store

recorded_by : (s t : Store) (at : ℕ) (o : Result ℕ ErrorNumber) → StayLive s t → StayLive s (store_with_image t at o)
recorded_by s t at (Ok len) stay = stay
recorded_by s t at (Err e) stay = stay

recorded_stay : (s t : Store) (at : ℕ) → StayLive s t → StayLive s (image_recorded t at)
unfolding image_recorded
recorded_stay s t at stay = recorded_by s t at (block_sized t module_area_start at) stay

filled_stay : (s t : Store) (c : Bytes) (at total : ℕ) → MakesBlock s t at total
    → ((a : ℕ) → in_range at (total - 4) a ≡ false → c.at a ≡ t.bytes.at a) → StayLive s (record t { bytes = c })
filled_stay s t c at total made kept block n live =
    let there = made.stay block n live in
    let differs : block ≢ at = λ same. false≢true (sym made.none ∙ ap is_some (subst (λ (b : ℕ). block_total s b ≡ Some n) same live)) in
    (there.0, λ a inside. kept a (made.apart block n a there.0 differs inside) ∙ there.1 a inside)

image_stay : (e : AreaStore) (len : ℕ) (o : Result (AreaStore × ℕ) ErrorNumber) (put : Store → ℕ → Bytes)
    → ((s : Store) (at a : ℕ) → in_range at (total_for len - 4) a ≡ false → (put s at).at a ≡ s.bytes.at a) → OnAreaStore (MakesIn (total_for len) e) o
    → OnAreaStore (StayIn e)
    (bind o (λ c. Ok (with_store c.0 (image_recorded (record c.0.store { bytes = put c.0.store c.1 }) c.1), c.1)))
image_stay e len (Err g) put kept done = tt
image_stay e len (Ok c) put kept done =
    recorded_stay e.store (record c.0.store { bytes = put c.0.store c.1 }) c.1
    (filled_stay e.store c.0.store (put c.0.store c.1) c.1 (total_for len) done (λ a out. kept c.0.store c.1 a out))

-- a range of the bytes that were asked for, in the block that was made for them
part_out : (len at a : ℕ) → in_range at (total_for len - 4) a ≡ false → in_range at len a ≡ false
part_out len at a out = false_from_ne_true (in_range at len a) (λ is.
    let parts : (at ≤ a) × (a < at + len) = range_parts at len a is in
    false≢true (sym out ∙ rw (le-leb at a parts.0, lt-ltb a (at + (total_for len - 4)) (omega (arith, parts.1))) refl))

made_stay : (e : AreaStore) (image : List ℕ) → IsFitAreaStore e → OnAreaStore (StayIn e) (image_made e image)
unfolding image_made
made_stay e image f =
    image_stay e (length image) (rma_claimed e (length image)) (λ s at. with_bytes s.bytes at image)
    (λ s at a out. rw (part_out (length image) at a out) refl) (claimed_makes e (length image) f)

copied_stay : (e : AreaStore) (from len : ℕ) → IsFitAreaStore e → OnAreaStore (StayIn e) (image_copied e from len)
unfolding image_copied
copied_stay e from len f =
    image_stay e len (rma_claimed e len) (λ s at. with_moved s.bytes from at len) (λ s at a out. rw (part_out len at a out) refl)
    (claimed_makes e len f)

done_in : (A : Type 0) (P : AreaStore × A → Type 0) (r : Result (AreaStore × A) ErrorNumber) (x : AreaStore × A) → OnAreaStore P r → r ≡ Ok x → P x
done_in A P (Ok y) x done is = let same : y ≡ x = cc in subst P same done
done_in A P (Err e) x done is = absurd (cc)

abbrev pub WereIn : {A : Type 0} → AreaStore → AreaStore × A → Type 0
WereIn e x = WereLive e.store x.0.store

in_were : (A : Type 0) (e : AreaStore) (r : Result (Store × A) ErrorNumber) → OnDone (WereLiveIn e.store) r → OnAreaStore (WereIn e) (in_area e r)
in_were A e (Ok x) done = done
in_were A e (Err f) done = tt

pub freed_were : (e : AreaStore) (block : ℕ) → IsFitAreaStore e → OnAreaStore (WereIn e) (rma_freed e block)
unfolding rma_freed
freed_were e block f = in_were (Unit {0}) e (gave_back e.store module_area_start block) (gave_were (4096 * f.area.pages) block e.store f.store)

pub block_calls_keep : BlockCallsKeep
block_calls_keep d e f = record {
  claim = λ size block is. (done_in ℕ (MakesIn (total_for size) d) (rma_claimed d size) (e, block) (claimed_makes d size f) is).stay;
  make_image = λ image at is. done_in ℕ (StayIn d) (image_made d image) (e, at) (made_stay d image f) is;
  copy_image = λ from len at is. done_in ℕ (StayIn d) (image_copied d from len) (e, at) (copied_stay d from len f) is;
  free = λ block is. done_in (Unit {0}) (WereIn d) (rma_freed d block) (e, tt) (freed_were d block f) is;
}
