-- Which heaps the calls on the module area forget.
use Rattle.profile.specs.MemoryMap.{module_area_start}
use Rattle.std.proofs.Common.{ℕ, ◌≡◌, ◌+◌, ◌-◌, ◌*◌, ◌==◌, ◌↔◌, ◌∙◌, true, false, List, [], ◌∷◌, length, is_some, Option, Some, None, Result, Ok, Err, refl, sym, ap, subst, inl, inr, arith}
use Rattle.std.specs.Prelude.{nat_le, nat_lt}
use Rattle.std.proofs.lemmas.Bool.{both_ways, cases_Bool, eqb-true, false≢true}
use Rattle.profile.specs.Outcome.{bind}
use Rattle.profile.specs.ErrorNumber.{ErrorNumber}
use Rattle.profile.specs.declared.reason.HeapReason.TheVariants as reason
use Rattle.address_map.specs.Bytes.{with_bytes, with_moved}
use Rattle.address_map.specs.Items.{size_of}
use Rattle.address_map.specs.declared.item.Item.{Item}
use Rattle.os_heap_words.proofs.ListsLemmas.LiveBlocks.{IsStill, LiveBytes, claim_still, law_live_bytes}
use Rattle.os_heap_words.specs.lists.Heap.{AreTotals, HeapList, IsHeapIn}
use Rattle.os_heap_words.specs.lists.Lists.{Claim, live_total, total_for}
use Rattle.os_heap.proofs.Forgetting.{AreFound, are_found}
use Rattle.os_heap.proofs.Found.{found_ended, found_heap}
use Rattle.os_heap.proofs.LostRecords.{found_listed}
use Rattle.os_heap.proofs.Moving.{held_listed}
use Rattle.os_heap.specs.Calls.{block_sized, ending, store_after_get, store_holding, store_after_resize, with_end, heaps_with_items}
use Rattle.os_heap.specs.Forgetting.{store_after_forget, holds_heap, lowest_lost, starts_in, without_heaps_in}
use Rattle.os_heap.specs.Laws.{IsLost}
use Rattle.os_heap.specs.Nesting.{is_module_area}
use Rattle.os_heap.specs.Store.{IsSound, Store, find_heap}
use Rattle.dynamic_areas.specs.declared.area.Area.{Area}
use Rattle.dynamic_areas.specs.Areas.{find_area}
use Rattle.dynamic_areas.specs.Changing.{pages_had, store_extended, store_more, with_heap_end}
use Rattle.dynamic_areas.specs.Ground.{AreaStore, IsAreaStore}
use Rattle.rma.specs.Calls.{area_pages, area_room, end_if_moved, end_in_place, grown_by, grown_in_place, grown_to, in_area, is_full, or_as_before, or_grown, pages_short, resized_or_grown, rma_base, rma_claimed, rma_extended, with_store}
use Rattle.rma.specs.Images.{image_recorded, store_with_image}
use Rattle.rma.specs.NewImages.{image_copied, image_made}
use Rattle.law_machine.proofs.HeapCallsLemmas.DoneCalls.{FreesBytes, MovesBlock, OnDone, got_done, moved_to, resized_done}
use Rattle.law_machine.proofs.HeapCallsLemmas.Forgotten.{AreBoth, lost_shown, same_freed}
use Rattle.law_machine.proofs.HeapCallsLemmas.Likeness.{with_last, with_list}
use Rattle.law_machine.proofs.HeapCallsLemmas.NoHeapInside.{forgot_unheld, found_holds, held_ended}
use Rattle.law_machine.specs.heap_calls.Forgotten.{IsForgotten, freed_from}
use Rattle.law_machine.specs.heap_calls.Laws.{IsNotForgotten}
use Rattle.law_machine.proofs.HeapFrameLemmas.AreaReleases.{HasArea, area_there, freed_shown}
use Rattle.law_machine.specs.heap_frame.ForgettingLaws.{AreaCallsForgetHeaps}

-- what starts at the module area's place is that heap
abbrev AreAreas : List HeapList → Type 0
AreAreas [] = Unit {0}
AreAreas (g ∷ hs) = (g.start ≡ module_area_start → is_module_area g.kind ≡ true) × AreAreas hs

areas_there : (all hs : List HeapList) (o : HeapList) → AreFound all hs → find_heap module_area_start all ≡ Some o → is_module_area o.kind ≡ true → AreAreas hs
areas_there all [] o found area is = tt
areas_there all (g ∷ hs) o found area is = (
  λ start.
      let there : find_heap module_area_start all ≡ Some g = subst (λ (p : ℕ). find_heap p all ≡ Some g) start found.0 in
      let both : Some g ≡ Some o = sym there ∙ area in
      let same : g ≡ o = cc in
      ap (λ (x : HeapList). is_module_area x.kind) same ∙ is,
  areas_there all hs o found.1 area is,
)

-- the heaps where the module area's gets another end
areas_ended : (end : ℕ) (hs : List HeapList) → AreAreas hs → AreAreas (with_end module_area_start end hs)
areas_ended end [] areas = tt
areas_ended end (g ∷ hs) areas = elim (cases_Bool (g.start == module_area_start)) [
  | inl here ↦ rw here (areas.0, areas_ended end hs areas.1)
  | inr away ↦ rw away (areas.0, areas_ended end hs areas.1)
]

ended_lowest : (end block len from : ℕ) (hs : List HeapList) → AreAreas hs
    → lowest_lost block len from (with_end module_area_start end hs) ≡ lowest_lost block len from hs
ended_lowest end block len from [] areas = refl
ended_lowest end block len from (g ∷ hs) areas =
    let rest : lowest_lost block len from (with_end module_area_start end hs) ≡ lowest_lost block len from hs = ended_lowest end block len from hs areas.1 in
    elim (cases_Bool (g.start == module_area_start)) [
      | inl here ↦
          let area : is_module_area g.kind ≡ true = areas.0 (eqb-true g.start module_area_start here) in
          rw (here, area) rest
      | inr away ↦ rw (away, rest) refl
    ]

ended_left : (end at len start : ℕ) (hs : List HeapList)
    → is_some (find_heap start (without_heaps_in at len (with_end module_area_start end hs))) ≡ is_some (find_heap start (without_heaps_in at len hs))
ended_left end at len start [] = refl
ended_left end at len start (g ∷ hs) =
    let rest : is_some (find_heap start (without_heaps_in at len (with_end module_area_start end hs))) ≡ is_some (find_heap start (without_heaps_in at len hs)) =
    ended_left end at len start hs in
    elim (cases_Bool (starts_in at len g)) [
      | inl gone ↦ elim (cases_Bool (g.start == module_area_start)) [ inl here ↦ rw (here, gone) rest | inr away ↦ rw (away, gone) rest ]
      | inr kept ↦ elim (cases_Bool (g.start == module_area_start)) [
        | inl here ↦ rw (here, kept) (elim (cases_Bool (g.start == start)) [ inl own ↦ rw own refl | inr other ↦ rw other rest ])
        | inr away ↦ rw (away, kept) (elim (cases_Bool (g.start == start)) [ inl own ↦ rw own refl | inr other ↦ rw other rest ])
      ]
    ]

ended_some : (end start : ℕ) (hs : List HeapList) → is_some (find_heap start (with_end module_area_start end hs)) ≡ is_some (find_heap start hs)
ended_some end start [] = refl
ended_some end start (g ∷ hs) =
    let rest : is_some (find_heap start (with_end module_area_start end hs)) ≡ is_some (find_heap start hs) = ended_some end start hs in
    elim (cases_Bool (g.start == module_area_start)) [
      | inl here ↦ rw here (elim (cases_Bool (g.start == start)) [ inl own ↦ rw own refl | inr other ↦ rw other rest ])
      | inr away ↦ rw away (elim (cases_Bool (g.start == start)) [ inl own ↦ rw own refl | inr other ↦ rw other rest ])
    ]

none_by : (a b : Option HeapList) → is_some a ≡ is_some b → a ≡ None → b ≡ None
none_by a None same none = refl
none_by a (Some g) same none = absurd (false≢true (sym (ap is_some none) ∙ same))

not_none : (x : ℕ) → Some x ≡ None → ⊥
not_none x some = cc

-- The heaps are those that there were, but that the module area's may have another end.
record IsLike (o : HeapList) (ds hs : List HeapList) : Type 0 where
  end : ℕ
  place : find_heap module_area_start hs ≡ Some (with_last o end)
  areas : AreAreas hs
  lowest : (block len from : ℕ) → lowest_lost block len from hs ≡ lowest_lost block len from ds
  left : (at len start : ℕ) → is_some (find_heap start (without_heaps_in at len hs)) ≡ is_some (find_heap start (without_heaps_in at len ds))
  some : (start : ℕ) → is_some (find_heap start hs) ≡ is_some (find_heap start ds)
  holds : (at len : ℕ) → holds_heap hs at len ≡ holds_heap ds at len

like_ended : (o : HeapList) (ds hs : List HeapList) (end : ℕ) → IsLike o ds hs → IsLike o ds (with_end module_area_start end hs)
like_ended o ds hs end like = record {
  end = end;
  place = found_ended module_area_start end hs (with_last o like.end) like.place;
  areas = areas_ended end hs like.areas;
  lowest = λ block len from. ended_lowest end block len from hs like.areas ∙ like.lowest block len from;
  left = λ at len start. ended_left end at len start hs ∙ like.left at len start;
  some = λ start. ended_some end start hs ∙ like.some start;
  holds = λ at len. held_ended module_area_start at len end hs ∙ like.holds at len;
}

-- a store in which the module area's heap is found, with another heap
record IsBase (d : Store) (o k : HeapList) : Type 0 where
  both : AreBoth d o k
  start : o.start ≡ module_area_start
  totals : AreTotals o.items
  like : IsLike o d.heaps d.heaps

base_of : (e : AreaStore) (k : HeapList) → IsAreaStore e → (has : HasArea e) → find_heap k.start e.store.heaps ≡ Some k → IsBase e.store has.known.heap k
base_of e k good has found =
    let s : Store = e.store in
    let o : HeapList = has.known.heap in
    let sound : IsSound s = good.ground.sound in
    let start : o.start ≡ module_area_start = has.known.start in
    let own : find_heap o.start s.heaps ≡ Some o = subst (λ (p : ℕ). find_heap p s.heaps ≡ Some o) (sym start) has.known.found in
    let heap : IsHeapIn s.bytes o.start o.end o.items = found_heap s.bytes o.start s.heaps o sound.heaps own in
    record {
      both = record { sound = sound; owner = own; found = found };
      start = start;
      totals = heap.totals;
      like = record {
        end = o.end;
        place = has.known.found;
        areas = areas_there s.heaps s.heaps o (are_found s.bytes s.heaps sound.heaps) has.known.found (ap is_module_area has.known.kind);
        lowest = λ block len from. refl;
        left = λ at len start. refl;
        some = λ start. refl;
        holds = λ at len. refl;
      };
    }

module _ (d : Store) (o k : HeapList) (base : IsBase d o k) where
  abbrev Like : Store → Type 0
  Like s = IsLike o d.heaps s.heaps

  -- the area grows
  ends_like : (s : Store) (end : ℕ) → Like s → Like (with_heap_end s end)
  ends_like s end like =
      rw like.place (subst (λ (p : ℕ). IsLike o d.heaps (with_end p end s.heaps)) (sym base.start) (like_ended o d.heaps s.heaps end like))

  extended_like : (s : Store) (count : ℕ) (found : Option Area) → Like s → Like (store_extended s 1 count found)
  extended_like s count None like = ends_like s (4096 * (pages_had None + count)) like
  extended_like s count (Some a) like = ends_like (store_more s count (Some a)) (4096 * (a.pages + count)) like

  abbrev OnGrown : Result AreaStore ErrorNumber → Type 0
  OnGrown (Ok g) = Like g.store
  OnGrown (Err f) = Unit {0}

  by_like : (e : AreaStore) (count : ℕ) → Like e.store → OnGrown (grown_by e count)
  by_like e count like = elim (cases_Bool (nat_lt (area_room e) count)) [
    | inl short ↦ rw short tt
    | inr enough ↦ rw enough (extended_like e.store count (find_area 1 e.area_table.areas) like)
  ]

  to_like : (e : AreaStore) (end : ℕ) → Like e.store → OnGrown (grown_to e end)
  unfolding grown_to
  to_like e end like = elim (cases_Bool (nat_le end (4096 * area_pages e))) [
    | inl enough ↦ rw enough like
    | inr short ↦ rw short (by_like e (pages_short e end) like)
  ]

  before_like : (e : AreaStore) (r : Result AreaStore ErrorNumber) → Like e.store → OnGrown r → Like (or_as_before e r).store
  before_like e (Ok g) like grown = grown
  before_like e (Err f) like grown = like

  -- a call on the area's heap, done once more in the grown area where it found no room
  abbrev OnAreaStore : (Store → Type 0) → Result (AreaStore × ℕ) ErrorNumber → Type 0
  OnAreaStore P (Ok x) = P x.0.store
  OnAreaStore P (Err f) = Unit {0}

  in_shown : (P : Store → Type 0) (e : AreaStore) (r : Result (Store × ℕ) ErrorNumber) → OnDone ℕ P r → OnAreaStore P (in_area e r)
  in_shown P e (Ok x) done = done
  in_shown P e (Err f) done = tt

  grown_shown : (P : Store → Type 0) (call : Store → Result (Store × ℕ) ErrorNumber) (r : Result AreaStore ErrorNumber)
      → ((s : Store) → Like s → OnDone ℕ P (call s)) → OnGrown r → OnAreaStore P (bind r (λ g. in_area g (call g.store)))
  grown_shown P call (Ok g) each like = in_shown P g (call g.store) (each g.store like)
  grown_shown P call (Err f) each like = tt

  again_shown : (P : Store → Type 0) (e : AreaStore) (end : ℕ) (call : Store → Result (Store × ℕ) ErrorNumber) → Like e.store
      → ((s : Store) → Like s → OnDone ℕ P (call s)) → OnAreaStore P (or_grown e end call (call e.store))
  again_shown P e end call like each = elim (cases_Bool (is_full (call e.store))) [
    | inl full ↦ rw full (grown_shown P call (grown_to e end) each (to_like e end like))
    | inr done ↦ rw done (in_shown P e (call e.store) (each e.store like))
  ]

  shown_then : (P : Store → Type 0) (r : Result (AreaStore × ℕ) ErrorNumber) (x : AreaStore × ℕ) → OnAreaStore P r → r ≡ Ok x → P x.0.store
  shown_then P (Ok y) x done is = let same : y ≡ x = cc in subst (λ (z : AreaStore × ℕ). P z.0.store) same done
  shown_then P (Err f) x done is = absurd (cc)

  -- claims
  abbrev Stays : Store → Type 0
  Stays t = IsNotForgotten t k.start

  like_there : (s : Store) → Like s → IsNotForgotten s k.start
  like_there s like = like.some k.start ∙ ap is_some base.both.found

  placed : (s : Store) → (like : Like s) → find_heap o.start s.heaps ≡ Some (with_last o like.end)
  placed s like = subst (λ (p : ℕ). find_heap p s.heaps ≡ Some (with_last o like.end)) (sym base.start) like.place

  got_stays : (size : ℕ) (s : Store) → Like s → OnDone ℕ Stays (store_after_get s module_area_start size)
  got_stays size s like =
      subst (λ (p : ℕ). OnDone ℕ Stays (store_after_get s p size)) base.start
      (got_done Stays s (with_last o like.end) size (placed s like) (λ items. found_listed o.start k.start items s.heaps ∙ like_there s like))

  claimed_stays : (e : AreaStore) (size : ℕ) → Like e.store → OnAreaStore Stays (rma_claimed e size)
  unfolding rma_claimed
  claimed_stays e size like = again_shown Stays e (rma_base e.store + total_for size) (λ s. store_after_get s module_area_start size) like (got_stays size)

  with_stays : (s : Store) (at : ℕ) (r : Result ℕ ErrorNumber) → Stays s → Stays (store_with_image s at r)
  with_stays s at (Ok len) stays = stays
  with_stays s at (Err f) stays = stays

  recorded_stays : (s : Store) (at : ℕ) → Stays s → Stays (image_recorded s at)
  unfolding image_recorded
  recorded_stays s at stays = with_stays s at (block_sized s module_area_start at) stays

  image_stays : (put : Store → ℕ → Store) (r : Result (AreaStore × ℕ) ErrorNumber) → ((s : Store) (at : ℕ) → (put s at).heaps ≡ s.heaps) → OnAreaStore Stays r
      → OnAreaStore Stays (bind r (λ c. Ok (with_store c.0 (image_recorded (put c.0.store c.1) c.1), c.1)))
  image_stays put (Ok c) same stays =
      recorded_stays (put c.0.store c.1) c.1 (ap (λ (hs : List HeapList). is_some (find_heap k.start hs)) (same c.0.store c.1) ∙ stays)
  image_stays put (Err f) same stays = tt

  -- changes of size
  abbrev Reported : ℕ → ℕ → Store → Type 0
  Reported block change t = (find_heap k.start t.heaps ≡ None) ↔ IsForgotten d o.start reason.Resize block change k.start

  frees_some : (A : Type 0) (block change : ℕ) → ((total : ℕ) → freed_from reason.Resize block total change ≡ None) → A
  frees_some A block change none = absurd (not_none _ (none 0))

  lost_like : (s : Store) (block change total from : ℕ) (items : List Item) → (like : Like s) → FreesBytes (with_last o like.end) block total from
      → freed_from reason.Resize block total change ≡ Some from → Reported block change (store_holding (store_after_forget s block total from) (with_last o like.end) items)
  lost_like s block change total from items like given frees =
      let v : Store = store_after_forget s block total from in
      let w : Store = store_after_forget d block total from in
      let low : ℕ = lowest_lost block (total - 4) from s.heaps in
      let left : is_some (find_heap k.start v.heaps) ≡ is_some (find_heap k.start w.heaps) =
      like.left low (block - 4 + total - low) k.start
      ∙ ap (λ (n : ℕ). is_some (find_heap k.start (without_heaps_in n (block - 4 + total - n) d.heaps))) (like.lowest block (total - 4) from) in
      let same : is_some (find_heap k.start (heaps_with_items o.start items v.heaps)) ≡ is_some (find_heap k.start (heaps_with_items o.start items w.heaps)) =
      found_listed o.start k.start items v.heaps ∙ left ∙ sym (found_listed o.start k.start items w.heaps) in
      let reported : (find_heap k.start (heaps_with_items o.start items w.heaps) ≡ None) ↔ IsForgotten d o.start reason.Resize block change k.start =
      lost_shown d o k reason.Resize block change total from items base.both (record { live = given.live; past = given.past }) frees in (
        λ none. reported.0 (none_by (find_heap k.start (heaps_with_items o.start items v.heaps)) (find_heap k.start (heaps_with_items o.start items w.heaps)) same none),
        λ lost. none_by (find_heap k.start (heaps_with_items o.start items w.heaps)) (find_heap k.start (heaps_with_items o.start items v.heaps)) (sym same) (reported.1 lost),
      )

  moved_like : (s : Store) (block change : ℕ) (c : Claim) (old new total : ℕ) (items : List Item) → (like : Like s)
      → MovesBlock s (with_last o like.end) c block old new → FreesBytes (with_list (with_last o like.end) c.items) block total block
      → freed_from reason.Resize block old change ≡ Some (block - 4 + new)
      → Reported block change
      (store_holding (store_after_forget (moved_to s (with_last o like.end) c block old) block total block) (with_list (with_last o like.end) c.items) items)
  moved_like s block change c old new total items like is given frees =
      let u : Store = moved_to s (with_last o like.end) c block old in
      let lies : LiveBytes block old (o.start + 16) (o.start + 16 + size_of o.items) = law_live_bytes block old (o.start + 16) o.items base.totals is.live in
      let still : live_total block (o.start + 16) c.items ≡ Some old =
      subst (IsStill block old (o.start + 16)) is.claim (claim_still new (like.end - 16) block old (o.start + 16) o.items is.live base.totals) in
      let both : Some total ≡ Some old = sym given.live ∙ still in
      let size : total ≡ old = cc in
      let none : holds_heap u.heaps block (total - 4) ≡ false =
      held_listed o.start block (total - 4) c.items s.heaps ∙ ap (λ (n : ℕ). holds_heap s.heaps block (n - 4)) size ∙ is.unheld in
      let same : store_after_forget u block total block ≡ u =
      forgot_unheld u block total block (omega (arith, lies.low)) (omega (arith, lies.size, size)) (omega arith) none in
      let there : is_some (find_heap k.start (heaps_with_items o.start items u.heaps)) ≡ true =
      found_listed o.start k.start items u.heaps ∙ found_listed o.start k.start c.items s.heaps ∙ like_there s like in
      let kept : IsForgotten d o.start reason.Resize block change k.start → ⊥ = λ l.
      (let lost : IsLost d block old (block - 4 + new) k.start =
      same_freed d o reason.Resize block change old (block - 4 + new) k.start base.both.owner is.live frees l in
      both_ways (holds_heap d.heaps block (old - 4)) (sym (like.holds block (old - 4)) ∙ is.unheld)
      (found_holds lost.heap.start block (old - 4) d.heaps lost.heap lost.found lost.starts)) in
      subst (λ (v : Store). Reported block change (store_holding v (with_list (with_last o like.end) c.items) items)) (sym same) (
        λ gone. absurd (false≢true (sym (ap is_some gone) ∙ there)),
        λ l. absurd (kept l),
      )

  resized_shown : (block change : ℕ) (s : Store) → Like s → OnDone ℕ (Reported block change) (store_after_resize s module_area_start block change)
  resized_shown block change s like =
      subst (λ (p : ℕ). OnDone ℕ (Reported block change) (store_after_resize s p block change)) base.start
      (resized_done (Reported block change) s (with_last o like.end) block change (placed s like) (record {
        same = λ none. frees_some (Reported block change s) block change none;
        held = λ items none. frees_some (Reported block change (store_holding s (with_last o like.end) items)) block change none;
        lost = λ total from items given frees. lost_like s block change total from items like given frees;
        moved = λ c old new total items is given frees. moved_like s block change c old new total items like is given frees;
        ended = λ end none clear. frees_some (Reported block change (ending s (with_last o like.end) end)) block change none;
      }))

  or_grown_shown : (e : AreaStore) (block change : ℕ) → Like e.store → OnAreaStore (Reported block change) (resized_or_grown e block change)
  or_grown_shown e block change like =
      again_shown (Reported block change) e (end_if_moved (rma_base e.store) change (block_sized e.store module_area_start block))
      (λ s. store_after_resize s module_area_start block change) like (resized_shown block change)

  extended_shown : (e : AreaStore) (block change : ℕ) → Like e.store → OnAreaStore (Reported block change) (rma_extended e block change)
  unfolding rma_extended
  extended_shown e block change like =
      let end : ℕ = end_in_place (rma_base e.store) block change (block_sized e.store module_area_start block) in
      or_grown_shown (grown_in_place e block change) block change (before_like e (grown_to e end) like (to_like e end like))

made_stays : (e : AreaStore) (o k : HeapList) (base : IsBase e.store o k) (image : List ℕ)
    → OnAreaStore e.store o k base (Stays e.store o k base) (image_made e image)
unfolding image_made
made_stays e o k base image =
    image_stays e.store o k base (λ s at. record s { bytes = with_bytes s.bytes at image }) (rma_claimed e (length image)) (λ s at. refl)
    (claimed_stays e.store o k base e (length image) base.like)

copied_stays : (e : AreaStore) (o k : HeapList) (base : IsBase e.store o k) (from len : ℕ)
    → OnAreaStore e.store o k base (Stays e.store o k base) (image_copied e from len)
unfolding image_copied
copied_stays e o k base from len =
    image_stays e.store o k base (λ s at. record s { bytes = with_moved s.bytes from at len }) (rma_claimed e len) (λ s at. refl)
    (claimed_stays e.store o k base e len base.like)

pub area_calls_forget : AreaCallsForgetHeaps
area_calls_forget d e k good found =
    let has : HasArea d = area_there d good in
    let o : HeapList = has.known.heap in
    let base : IsBase d.store o k = base_of d k good has found in
    let stays : Store → Type 0 = Stays d.store o k base in
    record {
      claim = λ size block is. shown_then d.store o k base stays (rma_claimed d size) (e, block) (claimed_stays d.store o k base d size base.like) is;
      make_image = λ image at is. shown_then d.store o k base stays (image_made d image) (e, at) (made_stays d o k base image) is;
      copy_image = λ from len at is. shown_then d.store o k base stays (image_copied d from len) (e, at) (copied_stays d o k base from len) is;
      free = λ block is. freed_shown d (e, tt) k block good found is;
      extend = λ block change new is.
          subst (λ (p : ℕ). (find_heap k.start e.store.heaps ≡ None) ↔ IsForgotten d.store p reason.Resize block change k.start) base.start
          (shown_then d.store o k base (Reported d.store o k base block change) (rma_extended d block change) (e, new)
          (extended_shown d.store o k base d block change base.like) is);
    }
