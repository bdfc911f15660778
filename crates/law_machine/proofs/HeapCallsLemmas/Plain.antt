-- What a call on a guest's heap does where no anchor lies in it: only its own list decides.
use Rattle.std.proofs.Common.{ℕ, ◌≡◌, ◌+◌, ◌-◌, ◌≤◌, false, ◌==◌, List, [], ◌∷◌, option_map, Option, Some, None, ok_or, Result, Ok, refl, ap, inl, inr, arith, if◌then◌else◌}
use Rattle.std.proofs.lemmas.Bool.{cases_Bool, le-leb, lt-ltb}
use Rattle.std.specs.Prelude.{nat_le}
use Rattle.profile.specs.Outcome.{bind}
use Rattle.profile.specs.ErrorNumber.{ErrorNumber}
use Rattle.profile.specs.ErrorNumber.TheVariants.{HeapNotABlock}
use Rattle.address_map.proofs.Anchors.{among_none}
use Rattle.address_map.specs.Items.{size_of}
use Rattle.address_map.specs.Records.{anchor_among}
use Rattle.address_map.specs.declared.item.Item.{Item}
use Rattle.address_map.specs.declared.item.Item.TheVariants.{Free, Live}
use Rattle.os_heap_words.proofs.ListsLemmas.LiveBlocks.{LiveBytes, law_live_bytes}
use Rattle.os_heap_words.specs.lists.Heap.{AreTotals, HeapList}
use Rattle.os_heap_words.specs.lists.Lists.{changed_by, claim_in_items, items_after_free, live_total, items_after_release, resized_in_place, round_up_8, total_for}
use Rattle.os_heap.proofs.Calls.{claimed_in}
use Rattle.os_heap.specs.Calls.{gave_back, store_after_get, store_holding, holds_anchor, resized_or_moved}
use Rattle.os_heap.specs.Forgetting.{store_after_forget, holds_heap}
use Rattle.os_heap.specs.Store.{Store, find_heap, has_image}
use Rattle.law_machine.proofs.HeapCallsLemmas.NoHeapInside.{forgot_unheld, none_in_part}
use Rattle.law_machine.specs.heap_calls.Laws.{HeapHasNoAnchor, HoldsNoHeap}

-- a heap that is found, whose items lie in its range, and no anchor and no heap does
pub record IsBare (s : Store) (h : HeapList) : Type 0 where
  pub found : find_heap h.start s.heaps ≡ Some h
  pub anchors : HeapHasNoAnchor s h
  pub alone : HoldsNoHeap s h
  pub totals : AreTotals h.items
  pub inside : 16 + size_of h.items ≤ h.end

-- a block is no module image, if it is one
abbrev pub IsGuests : Store → HeapList → ℕ → Type 0
IsGuests s h block = (total : ℕ) → live_total block (h.start + 16) h.items ≡ Some total → has_image block s.others ≡ false

-- bytes from the length word of a live block on hold no anchor
pub part_bare : (s : Store) (h : HeapList) (block total at len : ℕ) → IsBare s h → live_total block (h.start + 16) h.items ≡ Some total
    → block - 4 ≤ at → at + len ≤ block - 4 + total → anchor_among s.anchor at len ≡ false
part_bare s h block total at len bare live low high =
    let place : LiveBytes block total (h.start + 16) (h.start + 16 + size_of h.items) = law_live_bytes block total (h.start + 16) h.items bare.totals live in
    among_none s.anchor at len (λ a from to. bare.anchors a
    (rw (le-leb h.start a (omega (arith, place.low)), lt-ltb a (h.start + h.end) (omega (arith, place.low, place.high, bare.inside))) refl))

pub block_bare : (s : Store) (h : HeapList) (block total : ℕ) → IsBare s h → live_total block (h.start + 16) h.items ≡ Some total
    → holds_anchor s.anchor block (Some total) ≡ false
block_bare s h block total bare live = part_bare s h block total (block - 4) total bare live (omega arith) (omega arith)

-- and no heap lies in the block, so that none is forgotten with bytes of it
pub block_unheld : (s : Store) (h : HeapList) (block total : ℕ) → IsBare s h → live_total block (h.start + 16) h.items ≡ Some total
    → holds_heap s.heaps block (total - 4) ≡ false
block_unheld s h block total bare live =
    let place : LiveBytes block total (h.start + 16) (h.start + 16 + size_of h.items) = law_live_bytes block total (h.start + 16) h.items bare.totals live in
    none_in_part (h.start + 16) (h.end - 16) block (total - 4) s.heaps
    (λ a low high. (omega (arith, place.low, low), omega (arith, place.low, place.high, place.size, high, bare.inside))) bare.alone

pub block_forgot : (s : Store) (h : HeapList) (block total from : ℕ) → IsBare s h → live_total block (h.start + 16) h.items ≡ Some total → block ≤ from
    → store_after_forget s block total from ≡ s
block_forgot s h block total from bare live past =
    let place : LiveBytes block total (h.start + 16) (h.start + 16 + size_of h.items) = law_live_bytes block total (h.start + 16) h.items bare.totals live in
    forgot_unheld s block total from (omega (arith, place.low)) (omega (arith, place.size)) past (block_unheld s h block total bare live)

-- where no block is live none is given back
pub unlive : (block at : ℕ) (xs : List Item) → live_total block at xs ≡ None → items_after_release block at xs ≡ None
unlive block at [] none = refl
unlive block at (Live t ∷ xs) none = elim (cases_Bool (at + 4 == block)) [
  | inl here ↦ absurd (let some : Some t ≡ None = rw here at none in cc)
  | inr other ↦ rw other (ap (option_map (λ (ys : List Item). Live t ∷ ys)) (unlive block (at + t) xs (rw other at none)))
]
unlive block at (Free t ∷ xs) none = ap (option_map (λ (ys : List Item). items_after_free t ys)) (unlive block (at + t) xs none)

pub got_plain : (s : Store) (h : HeapList) (size : ℕ) → find_heap h.start s.heaps ≡ Some h
    → store_after_get s h.start size ≡ claimed_in s h (claim_in_items (total_for size) (h.end - 16) h.items)
unfolding store_after_get
got_plain s h size found = rw found refl

-- a block that is given back, where none lies in it and no anchor does
abbrev pub freed_in : Store → HeapList → Option (List Item) → Result (Store × Unit {0}) ErrorNumber
freed_in s h o = bind (ok_or o HeapNotABlock) (λ items. Ok (store_holding s h items, tt))

gave_by : (s : Store) (h : HeapList) (block : ℕ) (o : Option ℕ) → IsBare s h → IsGuests s h block → live_total block (h.start + 16) h.items ≡ o
    → gave_back s h.start block ≡ freed_in s h (items_after_release block (h.start + 16) h.items)
unfolding gave_back
gave_by s h block None bare own none = elim (cases_Bool (has_image block s.others)) [
  | inl image ↦ rw (bare.found, unlive block (h.start + 16) h.items none, image) refl
  | inr other ↦ rw (bare.found, unlive block (h.start + 16) h.items none, other) refl
]
gave_by s h block (Some total) bare own live =
    rw (bare.found, own total live, live, block_bare s h block total bare live)
    (ap (λ (t : Store). freed_in t h (items_after_release block (h.start + 16) h.items)) (block_forgot s h block total block bare live (omega arith)))

pub gave_plain : (s : Store) (h : HeapList) (block : ℕ) → IsBare s h → IsGuests s h block
    → gave_back s h.start block ≡ freed_in s h (items_after_release block (h.start + 16) h.items)
gave_plain s h block bare own = gave_by s h block (live_total block (h.start + 16) h.items) bare own refl

-- what a change of a block's size comes to, where the block has a total
abbrev pub sized_to : Store → HeapList → ℕ → ℕ → ℕ → Result (Store × ℕ) ErrorNumber
sized_to s h block change old =
    let sum : ℕ = changed_by old change in
    if nat_le sum 4 then bind (gave_back s h.start block) (λ r. Ok (r.0, 0)) else
    resized_or_moved s h block old (round_up_8 sum) (resized_in_place block (h.start + h.end) (round_up_8 sum) (h.start + 16) h.items)
