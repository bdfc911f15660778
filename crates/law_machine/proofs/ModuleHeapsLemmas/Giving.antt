-- A block of the module area that is given back: which heaps go with it, and which blocks stay.
use Rattle.profile.specs.MemoryMap.{module_area_start}
use Rattle.std.proofs.Common.{ℕ, ◌+◌, ◌-◌, ◌==◌, ◌≡◌, ◌≢◌, ◌≤◌, ◌<◌, ◌⊎◌, ◌∙◌, true, false, List, [], ◌∷◌, Option, Some, None, is_some, Ok, refl, sym, ap, subst, inl, inr, add_assoc, arith}
use Rattle.std.specs.Option.{option_map}
use Rattle.std.proofs.lemmas.Bool.{both_ways, cases_Bool, eqb-true}
use Rattle.profile.specs.ErrorNumber.TheVariants.{HeapBadDesc, HeapHoldsAnchor, HeapNotABlock}
use Rattle.address_map.specs.Bytes.{in_range}
use Rattle.address_map.specs.Items.{size_of}
use Rattle.address_map.specs.declared.item.Item.{Item}
use Rattle.address_map.specs.declared.item.Item.TheVariants.{Free, Live}
use Rattle.os_heap_words.proofs.ListsLemmas.LinkWalk.{live_low}
use Rattle.os_heap_words.proofs.ListsLemmas.LiveBlocks.{IsStillIn, LiveBytes, law_live_bytes, release_still}
use Rattle.os_heap_words.proofs.ListsLemmas.Reading.{total_facts}
use Rattle.os_heap_words.specs.lists.Heap.{AreTotals, HeapList}
use Rattle.os_heap_words.specs.lists.Lists.{items_after_free, items_after_release, live_total}
use Rattle.os_heap.proofs.Forgetting.{lowest_least, lowest_most}
use Rattle.os_heap.proofs.Found.{found_start}
use Rattle.os_heap.specs.Calls.{gave_back, holds_anchor, store_holding, total_or_0, unless_image}
use Rattle.os_heap.specs.Forgetting.{lowest_lost, store_after_forget, without_heaps_in}
use Rattle.os_heap.specs.Store.{Store, find_heap, has_image}
use Rattle.rma.proofs.FlexFrameLemmas.Heaps.{OnDone, on_if, on_some}
use Rattle.law_machine.proofs.HeapCallsLemmas.KeptHeaps.{found_beside}
use Rattle.law_machine.proofs.HeapCallsLemmas.Plain.{unlive}
use Rattle.law_machine.proofs.HeapFrameLemmas.Blocks.{held_total, release_were}
use Rattle.law_machine.proofs.HeapFrameLemmas.FoundHeaps.{IsLeftIn, left_in, same_unless}
use Rattle.law_machine.proofs.HeapFrameLemmas.HeapCalls.{items_of_fit, unless_some}
use Rattle.law_machine.proofs.HeapFrameLemmas.Holding.{forgot_is_fit}
use Rattle.law_machine.proofs.HeapFrameLemmas.Lists.{HasRoomFor, HasRoomIfSome, released_room}
use Rattle.law_machine.specs.heap_frame.BlockLaws.{block_total, total_in}
use Rattle.law_machine.specs.heap_frame.Fits.{IsFitStore}
use Rattle.law_machine.specs.module_heaps.GivenUp.{IsGivenUp}

-- a block that is given back is live no more
nothing_low : (block at : ℕ) (xs : List Item) → block < at + 4 → live_total block at xs ≡ None
nothing_low block at xs low = by (live_total block at xs) refl where
  by : (o : Option ℕ) → live_total block at xs ≡ o → o ≡ None
  by None is = refl
  by (Some t) is = (let above : at + 4 ≤ block = live_low block at xs (ap is_some is) in absurd (omega (arith, above, low)))

freed_nothing : (block at t : ℕ) (xs : List Item) → live_total block (at + t) xs ≡ None → live_total block at (items_after_free t xs) ≡ None
freed_nothing block at t [] none = refl
freed_nothing block at t (Live u ∷ xs) none = none
freed_nothing block at t (Free u ∷ xs) none = subst (λ (p : ℕ). live_total block p xs ≡ None) (add_assoc at t u) none

abbrev GoneIfSome : ℕ → ℕ → Option (List Item) → Type 0
GoneIfSome block at None = Unit {0}
GoneIfSome block at (Some ys) = live_total block at ys ≡ None

passed_gone : (block at t : ℕ) (o : Option (List Item)) → (at + 4 == block) ≡ false → GoneIfSome block (at + t) o
    → GoneIfSome block at (option_map (λ ys. Live t ∷ ys) o)
passed_gone block at t None away gone = tt
passed_gone block at t (Some ys) away gone = rw away gone

joined_gone : (block at t : ℕ) (o : Option (List Item)) → GoneIfSome block (at + t) o → GoneIfSome block at (option_map (λ ys. items_after_free t ys) o)
joined_gone block at t None gone = tt
joined_gone block at t (Some ys) gone = freed_nothing block at t ys gone

released_gone : (block at : ℕ) (xs : List Item) → AreTotals xs → GoneIfSome block at (items_after_release block at xs)
released_gone block at [] totals = tt
released_gone block at (Live t ∷ xs) totals = elim (cases_Bool (at + 4 == block)) [
  | inl here ↦
      let e : at + 4 ≡ block = eqb-true (at + 4) block here in
      let least = total_facts t totals.0 in
      rw here (freed_nothing block at t xs (nothing_low block (at + t) xs (omega (arith, e, least.0))))
  | inr away ↦ rw away (passed_gone block at t (items_after_release block (at + t) xs) away (released_gone block (at + t) xs totals.1))
]
released_gone block at (Free t ∷ xs) totals = joined_gone block at t (items_after_release block (at + t) xs) (released_gone block (at + t) xs totals.1)

-- All heaps that start in a block that goes are forgotten.
whole_forgot : (s : Store) (block total : ℕ) → 4 ≤ block → (store_after_forget s block total block).heaps ≡ without_heaps_in block (total - 4) s.heaps
whole_forgot s block total above =
    let low : ℕ = lowest_lost block (total - 4) block s.heaps in
    let most : low ≤ block = lowest_most block (total - 4) block s.heaps in
    let least : block ≤ low = lowest_least block (total - 4) block s.heaps (omega arith) in
    let own : low ≡ block = omega (arith, most, least) in
    let len : block - 4 + total - block ≡ total - 4 = omega (arith, above) in
    ap (λ (l : ℕ). without_heaps_in l (block - 4 + total - l) s.heaps) own ∙ ap (λ (n : ℕ). without_heaps_in block n s.heaps) len

-- What changes for a heap: it stays, with the block in which it starts, or it goes with that.
pub record StaysPut (k : HeapList) (s t : Store) : Type 0 where
  pub found : find_heap k.start t.heaps ≡ Some k
  pub blocks : (block total : ℕ) → block_total s block ≡ Some total → in_range block (total - 4) k.start ≡ true
      → block_total t block ≡ Some total

pub record GoesAway (k : HeapList) (s t : Store) : Type 0 where
  pub none : find_heap k.start t.heaps ≡ None
  pub given : IsGivenUp s t k.start

abbrev pub IsShown : HeapList → Store → Store → Type 0
IsShown k s t = StaysPut k s t ⊎ GoesAway k s t

-- No block comes, and no heap.
pub record GivesUp (k : HeapList) (s t : Store) : Type 0 where
  pub totals : (block n : ℕ) → block_total t block ≡ Some n → block_total s block ≡ Some n
  pub lost : find_heap k.start s.heaps ≡ None → find_heap k.start t.heaps ≡ None
  pub reported : find_heap k.start s.heaps ≡ Some k → IsShown k s t

pub same_gives : (k : HeapList) (s t : Store) → t.heaps ≡ s.heaps → GivesUp k s t
same_gives k s t same = record {
  totals = λ block n live. ap (λ (hs : List HeapList). total_in block (find_heap module_area_start hs)) (sym same) ∙ live;
  lost = λ none. ap (find_heap k.start) same ∙ none;
  reported = λ found. inl (record {
    found = ap (find_heap k.start) same ∙ found;
    blocks = λ block total live inside. ap (λ (hs : List HeapList). total_in block (find_heap module_area_start hs)) same ∙ live;
  });
}

still_none : (k : HeapList) (s t : Store) (block : ℕ) → GivesUp k s t → block_total s block ≡ None → block_total t block ≡ None
still_none k s t block gives none = by (block_total t block) refl where
  by : (o : Option ℕ) → block_total t block ≡ o → o ≡ None
  by None is = refl
  by (Some n) is = (let both : None ≡ Some n = sym none ∙ gives.totals block n is in absurd (cc))

pub gives_both : (k : HeapList) (s t u : Store) → GivesUp k s t → GivesUp k t u → GivesUp k s u
gives_both k s t u one two = record {
  totals = λ block n live. one.totals block n (two.totals block n live);
  lost = λ none. two.lost (one.lost none);
  reported = λ found. elim (one.reported found) [
    | inl stays ↦ elim (two.reported stays.found) [
      | inl more ↦ inl (record {
        found = more.found;
        blocks = λ block total live inside. more.blocks block total (stays.blocks block total live inside) inside;
      })
      | inr goes ↦ inr (record {
        none = goes.none;
        given = record {
          block = goes.given.block;
          total = goes.given.total;
          live = one.totals goes.given.block goes.given.total goes.given.live;
          gone = goes.given.gone;
          inside = goes.given.inside;
        };
      })
    ]
    | inr goes ↦ inr (record {
      none = two.lost goes.none;
      given = record {
        block = goes.given.block;
        total = goes.given.total;
        live = goes.given.live;
        gone = still_none k t u goes.given.block two goes.given.gone;
        inside = goes.given.inside;
      };
    })
  ];
}

-- A release in the module area.
module _ (limit : ℕ) (k : HeapList) (other : k.start ≢ module_area_start) (s : Store) (h : HeapList) (items : List Item) (block total : ℕ) (f : IsFitStore limit s)
    (found : find_heap module_area_start s.heaps ≡ Some h) (live : live_total block (h.start + 16) h.items ≡ Some total)
    (is : items_after_release block (h.start + 16) h.items ≡ Some items) where
  abbrev forgot : Store
  forgot = store_after_forget s block total block

  abbrev after : Store
  after = store_holding (store_after_forget s block total block) h items

  totals_in : AreTotals h.items
  totals_in = (items_of_fit limit s h f found).0

  place : LiveBytes block total (h.start + 16) (h.start + 16 + size_of h.items)
  place = law_live_bytes block total (h.start + 16) h.items totals_in live

  left : find_heap module_area_start forgot.heaps ≡ Some h
  left = (forgot_is_fit limit s h block total block f found (omega (arith, place.low)) (omega arith)).1

  new_total : (b : ℕ) → block_total after b ≡ live_total b (h.start + 16) items
  new_total b = held_total forgot h items b left

  new_found : find_heap k.start after.heaps ≡ find_heap k.start forgot.heaps
  new_found =
      let start : h.start ≡ module_area_start = found_start module_area_start s.heaps h found in
      found_beside k.start h.start items forgot.heaps (λ same. other (same ∙ start))

  went : block_total after block ≡ None
  went = new_total block ∙ subst (GoneIfSome block (h.start + 16)) is (released_gone block (h.start + 16) h.items totals_in)

  stayed : (b n : ℕ) → b ≢ block → block_total s b ≡ Some n → block_total after b ≡ Some n
  stayed b n apart was =
      let was' : live_total b (h.start + 16) h.items ≡ Some n = sym (ap (total_in b) found) ∙ was in
      new_total b ∙ subst (IsStillIn b n (h.start + 16)) is (release_still b block n (h.start + 16) h.items apart was')

  was_total : block_total s block ≡ Some total
  was_total = ap (total_in block) found ∙ live

  range_is : forgot.heaps ≡ without_heaps_in block (total - 4) s.heaps
  range_is = whole_forgot s block total (omega (arith, place.low))

  -- where the heap doesn't start in the block it is found as before
  out_found : in_range block (total - 4) k.start ≡ false → find_heap k.start after.heaps ≡ find_heap k.start s.heaps
  out_found out = new_found ∙ ap (find_heap k.start) range_is ∙ same_unless block (total - 4) k.start s.heaps out

  -- and where it does it isn't found
  in_none : in_range block (total - 4) k.start ≡ true → find_heap k.start after.heaps ≡ None
  in_none inside = new_found ∙ by (find_heap k.start forgot.heaps) refl where
    by : (o : Option HeapList) → find_heap k.start forgot.heaps ≡ o → o ≡ None
    by None none = refl
    by (Some g) some =
        let kept : IsLeftIn s block total block k.start = left_in s block total block k.start f.place other (ap is_some some) in
        let most : lowest_lost block (total - 4) block s.heaps ≤ block = lowest_most block (total - 4) block s.heaps in
        let least : block ≤ lowest_lost block (total - 4) block s.heaps = lowest_least block (total - 4) block s.heaps (omega arith) in
        let own : lowest_lost block (total - 4) block s.heaps ≡ block = omega (arith, most, least) in
        let len : block - 4 + total - block ≡ total - 4 = omega (arith, place.low) in
        let out : in_range block (block - 4 + total - block) k.start ≡ false = subst (λ (l : ℕ). in_range l (block - 4 + total - l) k.start ≡ false) own kept.out in
        let out' : in_range block (total - 4) k.start ≡ false = subst (λ (n : ℕ). in_range block n k.start ≡ false) len out in
        absurd (both_ways (in_range block (total - 4) k.start) out' inside)

  lost_after : find_heap k.start s.heaps ≡ None → find_heap k.start after.heaps ≡ None
  lost_after none = elim (cases_Bool (in_range block (total - 4) k.start)) [
    | inl inside ↦ in_none inside
    | inr out ↦ out_found out ∙ none
  ]

  shown_after : find_heap k.start s.heaps ≡ Some k → IsShown k s after
  shown_after there = elim (cases_Bool (in_range block (total - 4) k.start)) [
    | inl inside ↦ inr (record {
      none = in_none inside;
      given = record { block = block; total = total; live = was_total; gone = went; inside = inside };
    })
    | inr out ↦ inl (record {
      found = out_found out ∙ there;
      blocks = λ b n was inside.
          stayed b n (λ (same : b ≡ block).
          (let was' : block_total s block ≡ Some n = subst (λ (c : ℕ). block_total s c ≡ Some n) same was in
          let both : Some total ≡ Some n = sym was_total ∙ was' in
          let size : n ≡ total = cc in
          let inside' : in_range block (total - 4) k.start ≡ true = subst (λ (m : ℕ). in_range block (m - 4) k.start ≡ true) size (subst (λ (c : ℕ). in_range c (n - 4) k.start ≡ true) same inside) in
          both_ways (in_range block (total - 4) k.start) out inside')) was;
    })
  ]

  pub released_gives : AreTotals items → GivesUp k s after
  released_gives totals' = record {
    totals = λ b n now. (release_were limit block total s h items f found totals' live is b n now).0;
    lost = lost_after;
    reported = shown_after;
  }

abbrev pub GivesUpIn : {A : Type 0} → HeapList → Store → Store × A → Type 0
GivesUpIn k s x = GivesUp k s x.0

by_total : (limit : ℕ) (k : HeapList) (block : ℕ) (s : Store) (h : HeapList) (items : List Item) (o : Option ℕ) → k.start ≢ module_area_start → IsFitStore limit s
    → find_heap module_area_start s.heaps ≡ Some h → items_after_release block (h.start + 16) h.items ≡ Some items → live_total block (h.start + 16) h.items ≡ o
    → GivesUp k s (store_holding (store_after_forget s block (total_or_0 o) block) h items)
by_total limit k block s h items None other f found is none =
    absurd (let no : None ≡ Some items = sym (unlive block (h.start + 16) h.items none) ∙ is in cc)
by_total limit k block s h items (Some total) other f found is live =
    let own = items_of_fit limit s h f found in
    let room : HasRoomFor (size_of h.items) items = subst (HasRoomIfSome (size_of h.items)) is (released_room block (h.start + 16) h.items own.0) in
    released_gives limit k other s h items block total f found live is room.0

pub gave_gives : (limit : ℕ) (k : HeapList) (block : ℕ) (s : Store) → k.start ≢ module_area_start → IsFitStore limit s
    → OnDone (GivesUpIn k s) (gave_back s module_area_start block)
unfolding gave_back
gave_gives limit k block s other f =
    on_some HeapList (Unit {0}) (GivesUpIn k s) (find_heap module_area_start s.heaps) HeapBadDesc _ (λ h found.
    let o : Option ℕ = live_total block (h.start + 16) h.items in
    let items_left : Option (List Item) = items_after_release block (h.start + 16) h.items in
    on_some (List Item) (Unit {0}) (GivesUpIn k s) (unless_image (has_image block s.others) items_left) HeapNotABlock _ (λ items is.
    on_if (Unit {0}) (GivesUpIn k s) (holds_anchor s.anchor block o) HeapHoldsAnchor
    (Ok (store_holding (store_after_forget s block (total_or_0 o) block) h items, tt)) (λ none.
    by_total limit k block s h items o other f found (unless_some (has_image block s.others) items_left items is) refl)))
