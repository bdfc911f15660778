-- The module area's blocks where one of them changes its size, in its place or elsewhere.
use Rattle.profile.specs.MemoryMap.{module_area_start}
use Rattle.std.proofs.Common.{if◌then◌else◌, ℕ, ◌+◌, ◌-◌, ◌*◌, ◌≡◌, ◌≢◌, ◌≤◌, ◌<◌, ◌∙◌, true, false, List, Option, Some, None, is_some, Result, Ok, Err, refl, sym, ap, subst, inl, inr, arith}
use Rattle.std.specs.Prelude.{nat_le}
use Rattle.std.proofs.lemmas.Bool.{cases_Bool, false_from_ne_true, false≢true, leb-false}
use Rattle.profile.specs.Outcome.{bind}
use Rattle.profile.specs.ErrorNumber.{ErrorNumber}
use Rattle.profile.specs.ErrorNumber.TheVariants.{BlockHoldsHeap, HeapBadDesc, HeapHoldsAnchor, HeapNoRoom, HeapNotABlock}
use Rattle.address_map.specs.Bytes.{Bytes, in_range}
use Rattle.address_map.specs.Items.{is_total, size_of}
use Rattle.address_map.specs.Records.{anchor_among}
use Rattle.address_map.specs.declared.item.Item.{Item}
use Rattle.os_heap_words.proofs.ListsLemmas.ClaimedLists.{HasTotals, IsUnheld, IsWithin, claim_totals, claim_unheld, claim_within}
use Rattle.os_heap_words.proofs.ListsLemmas.LiveBlocks.{IsFresh, IsStill, LiveBytes, claim_fresh, claim_still, live_apart, law_live_bytes}
use Rattle.os_heap_words.proofs.ListsLemmas.Reading.{total_facts}
use Rattle.os_heap_words.proofs.ListsLemmas.Spelling.{total_of-numbers}
use Rattle.os_heap_words.specs.lists.Heap.{AreTotals, HeapList}
use Rattle.os_heap_words.specs.lists.Lists.{Claim, changed_by, claim_in_items, live_total, resized_in_place, round_up_8}
use Rattle.os_heap.proofs.Apart.{range_parts}
use Rattle.os_heap.proofs.Found.{found_start}
use Rattle.os_heap.proofs.Resizing.{larger_where_none}
use Rattle.os_heap.specs.Calls.{block_sized, store_after_copy, gave_back, handed_over, store_holding, holds_anchor, store_after_move, store_after_resize, resized_or_moved, unless_image}
use Rattle.os_heap.specs.Forgetting.{store_after_forget, holds_heap}
use Rattle.os_heap.specs.Store.{Store, find_heap, has_image}
use Rattle.dynamic_areas.specs.Ground.{AreaStore}
use Rattle.rma.specs.Calls.{end_if_moved, end_in_place, grown_in_place, grown_to, in_area, is_full, or_as_before, resized_or_grown, rma_base, rma_extended}
use Rattle.law_machine.proofs.HeapFrameLemmas.BlockCalls.{SameGrown, WereLiveIn, gave_were, to_same}
use Rattle.law_machine.proofs.HeapFrameLemmas.Blocks.{AreSame, held_total, same_all, same_both, unspelled}
use Rattle.law_machine.proofs.HeapFrameLemmas.HeapCalls.{items_of_fit, unless_some}
use Rattle.law_machine.proofs.HeapFrameLemmas.Holding.{forgot_is_fit, held_is_fit, written_is_fit}
use Rattle.law_machine.proofs.HeapFrameLemmas.Lists.{HasRoomIfSome, resized_room}
use Rattle.law_machine.proofs.HeapFrameLemmas.ModuleArea.{OnAreaStore, OnGrown, to_fit}
use Rattle.law_machine.specs.heap_frame.BlockLaws.{StayLive, WereLive, total_in}
use Rattle.law_machine.specs.heap_frame.FitAreaStores.{IsFitAreaStore}
use Rattle.law_machine.specs.heap_frame.Fits.{IsFitStore}
use Rattle.law_machine.proofs.LiveBytesLemmas.Growing.{same_then}
use Rattle.law_machine.specs.live_bytes.AreaLaws.{ExtendsKeepBlocks, KeepsBoth}
use Rattle.rma.proofs.FlexFrameLemmas.Heaps.{OnDone, on_if, on_some}

-- blocks that stay, and then blocks that were there
pub stay_were : (s t u : Store) → StayLive s t → WereLive t u → KeepsBoth s u
stay_were s t u stay were block total new_total a live live' here there =
    (were block new_total live').1 a there ∙ (stay block total live).1 a here

pub were_kept : (s t : Store) → WereLive s t → KeepsBoth s t
were_kept s t were block total new_total a live live' here there = (were block new_total live').1 a there

pub stay_kept : (s t : Store) → StayLive s t → KeepsBoth s t
stay_kept s t stay block total new_total a live live' here there = (stay block total live).1 a here

abbrev KeepsIn : {A : Type 0} → Store → Store × A → Type 0
KeepsIn s x = KeepsBoth s x.0

-- the heap got another list, where no heap was forgotten but such as lie in it
held_kept : (s v : Store) (h : HeapList) (items : List Item) → find_heap module_area_start v.heaps ≡ Some h → v.bytes ≡ s.bytes → AreTotals items
    → KeepsBoth s (store_holding v h items)
held_kept s v h items found same totals block total new_total a live live' here there =
    let start : h.start ≡ module_area_start = found_start module_area_start v.heaps h found in
    unspelled v.bytes.at h.start h.end items block new_total a start totals (sym (held_total v h items block found) ∙ live') there
    ∙ ap (λ (b : Bytes). b.at a) same

-- what a claim leaves
record IsMade (limit new : ℕ) (h : HeapList) (c : Claim) : Type 0 where
  totals : AreTotals c.items
  inside : 16 + size_of c.items ≤ limit
  high : h.start + 16 + c.offset + 4 + (new - 4) ≤ h.start + limit
  fresh : live_total (h.start + 16 + c.offset + 4) (h.start + 16) c.items ≡ Some new
  none : is_some (live_total (h.start + 16 + c.offset + 4) (h.start + 16) h.items) ≡ false
  still : (block n : ℕ) → live_total block (h.start + 16) h.items ≡ Some n → live_total block (h.start + 16) c.items ≡ Some n

is_made : (limit new : ℕ) (s : Store) (h : HeapList) (c : Claim) (f : IsFitStore limit s) → find_heap module_area_start s.heaps ≡ Some h → is_total new ≡ true
    → claim_in_items new (h.end - 16) h.items ≡ Some c → IsMade limit new h c
is_made limit new s h c f found total is =
    let own = items_of_fit limit s h f found in
    let totals : AreTotals c.items = subst HasTotals is (claim_totals new (h.end - 16) h.items total own.0) in
    let within : size_of c.items ≤ h.end - 16 = subst (IsWithin (h.end - 16)) is (claim_within new (h.end - 16) h.items (omega (arith, own.1.0, own.1.1))) in
    let at : ℕ = h.start + 16 + c.offset + 4 in
    let fresh : live_total at (h.start + 16) c.items ≡ Some new =
    subst (IsFresh new (h.start + 16)) is (claim_fresh new (h.end - 16) (h.start + 16) h.items own.0) in
    let place : LiveBytes at new (h.start + 16) (h.start + 16 + size_of c.items) = law_live_bytes at new (h.start + 16) c.items totals fresh in
    let inside : 16 + size_of c.items ≤ limit = omega (arith, within, own.1.0, own.1.1) in
    record {
      totals = totals;
      inside = inside;
      high = omega (arith, inside, place.high, place.size);
      fresh = fresh;
      none = subst (IsUnheld (h.start + 16) h.items) is (claim_unheld new (h.end - 16) (h.start + 16) h.items own.0);
      still = λ block n live. subst (IsStill block n (h.start + 16)) is (claim_still new (h.end - 16) block n (h.start + 16) h.items live own.0);
    }

-- a claimed block gets the bytes of another: each block that was there stays
copied_stay : (limit old new from : ℕ) (s : Store) (h : HeapList) (c : Claim) → find_heap module_area_start s.heaps ≡ Some h → IsMade limit new h c → old ≤ new
    → StayLive s (store_after_copy (store_holding s h c.items) from (h.start + 16 + c.offset + 4) (old - 4))
copied_stay limit old new from s h c found made less block n live =
    let at : ℕ = h.start + 16 + c.offset + 4 in
    let start : h.start ≡ module_area_start = found_start module_area_start s.heaps h found in
    let was : live_total block (h.start + 16) h.items ≡ Some n = sym (ap (total_in block) found) ∙ live in
    let still : live_total block (h.start + 16) c.items ≡ Some n = made.still block n was in
    let differs : block ≢ at = λ same.
    false≢true (sym made.none ∙ ap is_some (subst (λ (b : ℕ). live_total b (h.start + 16) h.items ≡ Some n) same was)) in (
      held_total s h c.items block found ∙ still,
      λ a inside.
          let byte : (block ≤ a) × (a < block + (n - 4)) = range_parts block (n - 4) a inside in
          let out : in_range at (old - 4) a ≡ false = false_from_ne_true (in_range at (old - 4) a) (λ there.
          let target : (at ≤ a) × (a < at + (old - 4)) = range_parts at (old - 4) a there in
          elim (live_apart block n at new (h.start + 16) c.items made.totals still made.fresh differs) [
            | inl low ↦ omega (arith, low, byte.1, target.0)
            | inr high ↦ omega (arith, high, byte.0, target.1, less)
          ]) in
          rw out (unspelled s.bytes.at h.start h.end c.items block n a start made.totals still inside),
    )

gave_then : (A B : Type 0) (s u : Store) (r : Result (Store × A) ErrorNumber) (answer : B) → StayLive s u → OnDone (WereLiveIn u) r
    → OnDone (KeepsIn s) (bind r (λ x. Ok (x.0, answer)))
gave_then A B s u (Ok x) answer stay were = stay_were s u x.0 stay were
gave_then A B s u (Err e) answer stay were = tt

-- a block was moved
moved_kept : (limit : ℕ) (s : Store) (h : HeapList) (block old new : ℕ) → IsFitStore limit s → find_heap module_area_start s.heaps ≡ Some h → is_total new ≡ true
    → old ≤ new → OnDone (KeepsIn s) (store_after_move s h block old new)
moved_kept limit s h block old new f found total less =
    on_some Claim ℕ (KeepsIn s) (claim_in_items new (h.end - 16) h.items) HeapNoRoom _ (λ c is.
    let start : h.start ≡ module_area_start = found_start module_area_start s.heaps h found in
    let made : IsMade limit new h c = is_made limit new s h c f found total is in
    let at : ℕ = h.start + 16 + c.offset + 4 in
    let t : Store = store_holding s h c.items in
    let u : Store = store_after_copy t block at (old - 4) in
    let fit : IsFitStore limit u = written_is_fit limit t u.bytes (held_is_fit limit s h c.items f found made.totals made.inside) in
    on_if ℕ (KeepsIn s) (holds_heap s.heaps block (old - 4)) BlockHoldsHeap (handed_over h.start block (old - 4) t at) (λ unheld.
    gave_then (Unit {0}) ℕ s u (gave_back u h.start block) at (copied_stay limit old new block s h c found made less)
    (subst (λ (p : ℕ). OnDone (WereLiveIn u) (gave_back u p block)) (sym start) (gave_were limit block u fit))))

in_place_kept : (limit : ℕ) (s : Store) (h : HeapList) (block old new : ℕ) (o : Option (List Item)) → IsFitStore limit s → find_heap module_area_start s.heaps ≡ Some h
    → is_total new ≡ true → live_total block (h.start + 16) h.items ≡ Some old → (o ≡ None → old ≤ new) → HasRoomIfSome (limit - 16) o
    → OnDone (KeepsIn s) (resized_or_moved s h block old new o)
in_place_kept limit s h block old new None f found total live less room =
    on_if ℕ (KeepsIn s) (holds_anchor s.anchor block (Some old)) HeapHoldsAnchor (store_after_move s h block old new)
    (λ none. moved_kept limit s h block old new f found total (less refl))
in_place_kept limit s h block old new (Some items) f found total live less room =
    let own = items_of_fit limit s h f found in
    let place : LiveBytes block old (h.start + 16) (h.start + 16 + size_of h.items) = law_live_bytes block old (h.start + 16) h.items own.0 live in
    let from : ℕ = block - 4 + new in
    let v : Store = store_after_forget s block old from in
    let left = forgot_is_fit limit s h block old from f found (omega (arith, place.low)) (omega (arith, (total_facts new total).0)) in
    on_if ℕ (KeepsIn s) (anchor_among s.anchor from (old - new)) HeapHoldsAnchor (Ok (store_holding v h items, block))
    (λ none. held_kept s v h items left.1 refl room.0)

same_stays : (s : Store) → StayLive s s
same_stays s block total live = (live, λ a inside. refl)

sized_kept : (limit : ℕ) (s : Store) (h : HeapList) (block change old : ℕ) → IsFitStore limit s → find_heap module_area_start s.heaps ≡ Some h
    → live_total block (h.start + 16) h.items ≡ Some old
    → (let sum : ℕ = changed_by old change in
    OnDone (KeepsIn s) (if nat_le sum 4 then bind (gave_back s module_area_start block) (λ r. Ok (r.0, 0)) else
    resized_or_moved s h block old (round_up_8 sum) (resized_in_place block (h.start + h.end) (round_up_8 sum) (h.start + 16) h.items)))
sized_kept limit s h block change old f found live =
    let sum : ℕ = changed_by old change in
    let new : ℕ = round_up_8 sum in
    let own = items_of_fit limit s h f found in
    elim (cases_Bool (nat_le sum 4)) [
      | inl few ↦ rw few (gave_then (Unit {0}) ℕ s s (gave_back s module_area_start block) 0 (same_stays s) (gave_were limit block s f))
      | inr more ↦
          let many : 4 < sum = leb-false sum 4 more in
          let total : is_total new ≡ true = total_of-numbers new (omega (arith, many)) (omega arith) in
          let room : HasRoomIfSome (h.start + h.end - (h.start + 16)) (resized_in_place block (h.start + h.end) new (h.start + 16) h.items) =
          resized_room block (h.start + h.end) new (h.start + 16) h.items total own.0 (omega (arith, own.1.0, own.1.1)) in
          let same : h.start + h.end - (h.start + 16) ≡ limit - 16 = omega (arith, own.1.1) in
          rw more (in_place_kept limit s h block old new (resized_in_place block (h.start + h.end) new (h.start + 16) h.items) f found total live
          (λ none. omega (arith, larger_where_none block (h.start + h.end) new (h.start + 16) old h.items live none))
          (subst (λ (n : ℕ). HasRoomIfSome n (resized_in_place block (h.start + h.end) new (h.start + 16) h.items)) same room))
    ]

pub resized_kept : (limit block change : ℕ) (s : Store) → IsFitStore limit s → OnDone (KeepsIn s) (store_after_resize s module_area_start block change)
unfolding store_after_resize
resized_kept limit block change s f =
    on_some HeapList ℕ (KeepsIn s) (find_heap module_area_start s.heaps) HeapBadDesc _ (λ h found.
    on_some ℕ ℕ (KeepsIn s) (unless_image (has_image block s.others) (live_total block (h.start + 16) h.items)) HeapNotABlock _ (λ old is.
    sized_kept limit s h block change old f found (unless_some (has_image block s.others) (live_total block (h.start + 16) h.items) old is)))

-- with the growth of the area
abbrev KeepsFrom : Store → AreaStore × ℕ → Type 0
KeepsFrom s x = KeepsBoth s x.0.store

in_kept : (s : Store) (e : AreaStore) (r : Result (Store × ℕ) ErrorNumber) → AreSame s e.store → OnDone (KeepsIn e.store) r → OnAreaStore (KeepsFrom s) (in_area e r)
in_kept s e (Ok x) same done = same_then s e.store x.0 same done
in_kept s e (Err f) same done = tt

grown_kept : (s : Store) (e : AreaStore) (block change : ℕ) (o : Result AreaStore ErrorNumber) → AreSame s e.store → OnGrown e o → SameGrown e o
    → OnAreaStore (KeepsFrom s) (bind o (λ g. in_area g (store_after_resize g.store module_area_start block change)))
grown_kept s e block change (Err f) same fit grown = tt
grown_kept s e block change (Ok g) same fit grown =
    in_kept s g (store_after_resize g.store module_area_start block change) (same_both s e.store g.store same grown)
    (resized_kept (4096 * fit.fit.area.pages) block change g.store fit.fit.store)

or_grown_kept : (s : Store) (e : AreaStore) (block change : ℕ) → AreSame s e.store → IsFitAreaStore e → OnAreaStore (KeepsFrom s) (resized_or_grown e block change)
or_grown_kept s e block change same f = elim (cases_Bool (is_full (store_after_resize e.store module_area_start block change))) [
  | inl full ↦
      let end : ℕ = end_if_moved (rma_base e.store) change (block_sized e.store module_area_start block) in
      rw full (grown_kept s e block change (grown_to e end) same (to_fit e end f) (to_same e end f))
  | inr found ↦ rw found (in_kept s e (store_after_resize e.store module_area_start block change) same (resized_kept (4096 * f.area.pages) block change e.store f.store))
]

-- the area store in which the block's own place has grown, where it could
before_same : (e : AreaStore) (o : Result AreaStore ErrorNumber) → SameGrown e o → AreSame e.store (or_as_before e o).store
before_same e (Ok g) grown = grown
before_same e (Err f) grown = same_all e.store

before_fit : (e : AreaStore) (o : Result AreaStore ErrorNumber) → IsFitAreaStore e → OnGrown e o → IsFitAreaStore (or_as_before e o)
before_fit e (Ok g) f grown = grown.fit
before_fit e (Err g) f grown = f

extended_kept : (e : AreaStore) (block change : ℕ) → IsFitAreaStore e → OnAreaStore (KeepsFrom e.store) (rma_extended e block change)
unfolding rma_extended
extended_kept e block change f =
    let end : ℕ = end_in_place (rma_base e.store) block change (block_sized e.store module_area_start block) in
    or_grown_kept e.store (grown_in_place e block change) block change (before_same e (grown_to e end) (to_same e end f))
    (before_fit e (grown_to e end) f (to_fit e end f))

done_in : (P : AreaStore × ℕ → Type 0) (r : Result (AreaStore × ℕ) ErrorNumber) (x : AreaStore × ℕ) → OnAreaStore P r → r ≡ Ok x → P x
done_in P (Ok y) x done is = let same : y ≡ x = cc in subst P same done
done_in P (Err e) x done is = absurd (cc)

pub extends_keep : ExtendsKeepBlocks
extends_keep d e block change new f is =
    done_in (KeepsFrom d.store) (rma_extended d block change) (e, new) (extended_kept d block change f) is
