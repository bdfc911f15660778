-- New images: the block that is claimed for one, the bytes written there, and the record.
use Rattle.std.proofs.Common.{◌≡◌, ℕ, ◌+◌, ◌%◌, ◌-◌, ◌<◌, ◌≤◌, true, false, List, [], ◌∷◌, ◌++◌, length, refl, sym, ap, subst, ◌∙◌, Some, None, Ok, Err, arith}
use Rattle.std.specs.Prelude.{MatchResult, Option, Result}
use Rattle.std.proofs.lemmas.Bool.{both_ways, false_from_ne_true, le-leb, lt-ltb}
use Rattle.dynamic_areas.specs.MemoryMap.{module_area_maximum, module_area_start}
use Rattle.dynamic_areas.specs.Outcome.{Gives}
use Rattle.dynamic_areas.specs.ErrorNumber.{ErrorNumber}
use Rattle.dynamic_areas.specs.ErrorNumber.TheVariants.{RmaNoRoom}
use Rattle.dynamic_areas.proofs.Equations.{stored_bytes, stored_moved}
use Rattle.dynamic_areas.proofs.InRange.{range_inside}
use Rattle.dynamic_areas.specs.Bytes.{AreMapped, Bytes, in_range, with_bytes, with_bytes_at, with_moved, with_moved_at}
use Rattle.dynamic_areas.specs.Items.{is_total, size_of}
use Rattle.dynamic_areas.specs.Memory.{byte_at, bytes_of, class_of, layout}
use Rattle.dynamic_areas.specs.AddressMap.{AddressMap}
use Rattle.dynamic_areas.specs.Kind.{Kind}
use Rattle.dynamic_areas.specs.Kind.TheVariants as kind
use Rattle.dynamic_areas.specs.Region.{Region}
use Rattle.dynamic_areas.proofs.LiveBlocks.{LiveBytes, law_live_bytes}
use Rattle.dynamic_areas.proofs.Spelling.{total_of-numbers}
use Rattle.dynamic_areas.specs.Heap.{HeapList, IsHeapIn}
use Rattle.dynamic_areas.specs.OsHeapWordsLists.{Claim, claim_in_items, live_total, total_for}
use Rattle.dynamic_areas.proofs.Apart.{range_parts}
use Rattle.dynamic_areas.proofs.ClaimedBlocks.{IsNewBlock, is_new_block}
use Rattle.dynamic_areas.proofs.Found.{found_heap, found_start}
use Rattle.dynamic_areas.proofs.Frame.{IsKept, store_bytes}
use Rattle.dynamic_areas.proofs.KeptPayloads.{IsClaim, is_claim}
use Rattle.dynamic_areas.proofs.Order.{order_laid}
use Rattle.dynamic_areas.proofs.PayloadWrites.{payload_kept}
use Rattle.dynamic_areas.specs.Calls.{OfHeap, block_sized, store_after_copy, store_after_get}
use Rattle.dynamic_areas.specs.Forgetting.{holds_heap}
use Rattle.dynamic_areas.specs.Order.{AddsRecord, KeepsOrder}
use Rattle.dynamic_areas.specs.Store.{IsSound, Store, find_heap, has_image, store_of}
use Rattle.dynamic_areas.specs.Ground.{AreaStore, IsAreaStore}
use Rattle.rma.specs.Calls.{grown_to, rma_base, rma_claimed}
use Rattle.rma.specs.Images.{image_recorded}
use Rattle.rma.specs.NewImages.{IsLiveBlock, store_with_image_bytes}
use Rattle.rma.proofs.GrowthLemmas.{HasArea, area_there, far_refused}

-- the heap of a live block
pub record IsLiveIn (s : Store) (block total : ℕ) : Type 0 where
  pub heap : HeapList
  pub found : find_heap module_area_start s.heaps ≡ Some heap
  pub live : live_total block (heap.start + 16) heap.items ≡ Some total

pub live_in : (s : Store) (block total : ℕ) → IsLiveBlock s block total → IsLiveIn s block total
live_in s block total is = go (find_heap module_area_start s.heaps) refl is where
  go : (o : Option HeapList) → find_heap module_area_start s.heaps ≡ o → OfHeap (λ h. live_total block (h.start + 16) h.items ≡ Some total) o → IsLiveIn s block total
  go None none live = absurd live
  go (Some h) found live = record { heap = h; found = found; live = live }

-- it begins at a multiple of 4
pub live_whole : (s : Store) (block total : ℕ) → IsSound s → IsLiveBlock s block total → block % 4 ≡ 0
live_whole s block total sound is =
    let l : IsLiveIn s block total = live_in s block total is in
    let heap : IsHeapIn s.bytes l.heap.start l.heap.end l.heap.items = found_heap s.bytes module_area_start s.heaps l.heap sound.heaps l.found in
    (law_live_bytes block total (l.heap.start + 16) l.heap.items heap.totals l.live).whole (omega (arith, heap.aligned))

-- and lies in the module area
pub live_inside : (e : AreaStore) (block total : ℕ) → IsAreaStore e → IsLiveBlock e.store block total → in_range module_area_start module_area_maximum block ≡ true
live_inside e block total good is =
    let h : HasArea e = area_there e good in
    let g : HeapList = h.known.heap in
    let live : live_total block (g.start + 16) g.items ≡ Some total = (let l = rw h.known.found at is in l) in
    let place : LiveBytes block total (g.start + 16) (g.start + 16 + size_of g.items) = law_live_bytes block total (g.start + 16) g.items h.known.spelled.totals live in
    range_inside module_area_start 4194304 block (omega (arith, place.low, h.known.start))
    (omega (arith, place.high, place.size, h.known.spelled.inside, h.known.start, h.known.end, h.room.within, h.known.maximum))

-- the bytes that it holds are mapped
pub payload_mapped : (s : Store) (block total len : ℕ) → IsSound s → IsLiveBlock s block total → len + 4 ≤ total → AreMapped s.bytes.mapped block len
payload_mapped s block total len sound is fits a low high =
    let l : IsLiveIn s block total = live_in s block total is in
    let heap : IsHeapIn s.bytes l.heap.start l.heap.end l.heap.items = found_heap s.bytes module_area_start s.heaps l.heap sound.heaps l.found in
    let place : LiveBytes block total (l.heap.start + 16) (l.heap.start + 16 + size_of l.heap.items) =
    law_live_bytes block total (l.heap.start + 16) l.heap.items heap.totals l.live in
    heap.mapped a (omega (arith, low, place.low)) (omega (arith, high, fits, place.high, heap.inside))

-- what a write to them leaves
pub shorter : (block len more a : ℕ) → len ≤ more → in_range block more a ≡ false → in_range block len a ≡ false
shorter block len more a fits out = false_from_ne_true (in_range block len a) (λ is.
    let parts : (block ≤ a) × (a < block + len) = range_parts block len a is in
    both_ways (in_range block more a) out (rw (le-leb block a parts.0, lt-ltb a (block + more) (omega (arith, parts.1, fits))) refl))

block_kept : (m n : AddressMap) (block total len : ℕ) → layout n ≡ layout m → class_of n ≡ class_of m → IsSound (store_of m)
    → IsLiveBlock (store_of m) block total → holds_heap (store_of m).heaps block (total - 4) ≡ false → len + 4 ≤ total
    → ((a : ℕ) → in_range block len a ≡ false → byte_at n a ≡ byte_at m a) → IsKept m n
block_kept m n block total len same marks sound is empty fits kept =
    let l : IsLiveIn (store_of m) block total = live_in (store_of m) block total is in
    let own : find_heap l.heap.start (store_of m).heaps ≡ Some l.heap =
    subst (λ (p : ℕ). find_heap p (store_of m).heaps ≡ Some l.heap) (sym (found_start module_area_start (store_of m).heaps l.heap l.found)) l.found in
    payload_kept m n l.heap block total same marks sound own l.live empty (λ a out. kept a (shorter block len (total - 4) a (omega (arith, fits)) out))

pub outside : (f : ℕ → ℕ) (block a : ℕ) (bytes : List ℕ) → in_range block (length bytes) a ≡ false → with_bytes_at f block bytes a ≡ f a
outside f block a bytes out = rw out refl

pub unmoved : (f : ℕ → ℕ) (from block len a : ℕ) → in_range block len a ≡ false → with_moved_at f from block len a ≡ f a
unmoved f from block len a out = rw out refl

with_same : (s : Store) (b c : Bytes) → b ≡ c → (let x : Store = record s { bytes = b } in let y : Store = record s { bytes = c } in x ≡ y)
with_same s b c same = λ i. record s { bytes = same i }

-- what is so of a map after a live block got bytes
pub record IsFilled (m n : AddressMap) (s : Store) : Type 0 where
  pub store : store_of n ≡ s
  pub kept : IsKept m n

pub is_filled : (m n : AddressMap) (block total : ℕ) (bytes : List ℕ) → layout n ≡ layout m → class_of n ≡ class_of m → IsSound (store_of m)
    → IsLiveBlock (store_of m) block total → holds_heap (store_of m).heaps block (total - 4) ≡ false → length bytes + 4 ≤ total
    → ((a : ℕ) → byte_at n a ≡ with_bytes_at (byte_at m) block bytes a) → IsFilled m n (store_with_image_bytes (store_of m) block bytes)
is_filled m n block total bytes same marks sound is empty fits written =
    let kept : IsKept m n = block_kept m n block total (length bytes) same marks sound is empty fits
    (λ a out. written a ∙ outside (byte_at m) block a bytes out) in
    let b : bytes_of n ≡ with_bytes (store_of m).bytes block bytes =
    stored_bytes m n block bytes same written ∙ ap (λ (c : Bytes). with_bytes c block bytes) (sym (store_bytes m)) in
    record { store = kept.store ∙ with_same (store_of m) (bytes_of n) (with_bytes (store_of m).bytes block bytes) b; kept = kept }

pub is_copied : (m n : AddressMap) (block total from len : ℕ) → layout n ≡ layout m → class_of n ≡ class_of m → IsSound (store_of m)
    → IsLiveBlock (store_of m) block total → holds_heap (store_of m).heaps block (total - 4) ≡ false → len + 4 ≤ total
    → ((a : ℕ) → byte_at n a ≡ with_moved_at (byte_at m) from block len a) → IsFilled m n (store_after_copy (store_of m) from block len)
is_copied m n block total from len same marks sound is empty fits written =
    let kept : IsKept m n = block_kept m n block total len same marks sound is empty fits (λ a out. written a ∙ unmoved (byte_at m) from block len a out) in
    let b : bytes_of n ≡ with_moved (store_of m).bytes from block len =
    stored_moved m n from block len same written ∙ ap (λ (c : Bytes). with_moved c from block len) (sym (store_bytes m)) in
    record { store = kept.store ∙ with_same (store_of m) (bytes_of n) (with_moved (store_of m).bytes from block len) b; kept = kept }

-- the record of the block
pub recorded_others : (s : Store) (block total : ℕ) → IsLiveBlock s block total → has_image block s.others ≡ false
    → (image_recorded s block).others ≡ s.others ++ record { kind = kind.Image; at = block; len = total - 4 } ∷ []
unfolding image_recorded block_sized
recorded_others s block total is own =
    let l : IsLiveIn s block total = live_in s block total is in
    rw (l.found, own, l.live) refl

sized_block : (s : Store) (block total : ℕ) → IsLiveBlock s block total → has_image block s.others ≡ false → block_sized s module_area_start block ≡ Ok (total - 4)
unfolding block_sized
sized_block s block total is own =
    let l : IsLiveIn s block total = live_in s block total is in
    rw (l.found, own, l.live) refl

pub given_done : (s t : Store) (r : Result (Store × ℕ) ErrorNumber) (block : ℕ) → Gives s r (let done : Result ℕ ErrorNumber = Ok block in done) t
    → r ≡ Ok (t, block)
given_done s t (Ok x) block given = λ i. Ok (sym given.0 i, sym given.1 i)
given_done s t (Err f) block given = absurd given

-- and that of the block of a new image: s is the store before, t after the claim, u with the bytes,
-- v with the record
pub made_others : (s t u v : Store) (block total : ℕ) → IsLiveBlock t block total → t.others ≡ s.others → u.heaps ≡ t.heaps → u.others ≡ t.others
    → v ≡ image_recorded u block → has_image block s.others ≡ false
    → v.others ≡ s.others ++ record { kind = kind.Image; at = block; len = total - 4 } ∷ []
made_others s t u v block total is claimed heaps filled recorded none =
    let same : u.others ≡ s.others = filled ∙ claimed in
    let there : IsLiveBlock u block total =
    subst (λ (hs : List HeapList). OfHeap (λ h. live_total block (h.start + 16) h.items ≡ Some total) (find_heap module_area_start hs)) (sym heaps) is in
    let own : has_image block u.others ≡ false = ap (has_image block) same ∙ none in
    ap (λ (x : Store). x.others) recorded ∙ recorded_others u block total there own
    ∙ ap (λ (rs : List Region). rs ++ record { kind = kind.Image; at = block; len = total - 4 } ∷ []) same

-- its record comes after all others: m is the memory before, n after the claim, o with the bytes, p
-- with the record
pub made_order : (m n o p : AddressMap) (block total : ℕ) → IsLiveBlock (store_of n) block total → (store_of n).others ≡ (store_of m).others
    → (store_of o).heaps ≡ (store_of n).heaps → (store_of o).others ≡ (store_of n).others → KeepsOrder m n → layout o ≡ layout n
    → MatchResult (block_sized (store_of o) module_area_start block) (λ _. AddsRecord o p kind.Image block) (λ _. KeepsOrder o p)
    → has_image block (store_of m).others ≡ false → AddsRecord m p kind.Image block
made_order m n o p block total is claimed heaps filled kept same recorded none =
    let there : IsLiveBlock (store_of o) block total =
    subst (λ (hs : List HeapList). OfHeap (λ h. live_total block (h.start + 16) h.items ≡ Some total) (find_heap module_area_start hs)) (sym heaps) is in
    let own : has_image block (store_of o).others ≡ false = ap (has_image block) (filled ∙ claimed) ∙ none in
    let added = rw (sized_block (store_of o) block total there own) at recorded in
    added ∙ ap (λ (xs : List (Kind × ℕ)). xs ++ (kind.Image, block) ∷ []) (order_laid n o same ∙ kept)

-- the block that is claimed
pub block_made : (s t : Store) (size block : ℕ) (answer : Result ℕ ErrorNumber) → IsSound s → answer ≡ Ok block → Gives s (store_after_get s module_area_start size) answer t
    → IsNewBlock s t module_area_start block (total_for size)
block_made s t size block answer sound is given =
    is_new_block s t module_area_start size block sound
    (given_done s t (store_after_get s module_area_start size) block (subst (λ (r : Result ℕ ErrorNumber). Gives s (store_after_get s module_area_start size) r t) is given))

-- no block is as large as the module area can be
unclaimed : (e : AreaStore) (h : HasArea e) (size : ℕ) → IsAreaStore e → 4194304 < size
    → claim_in_items (total_for size) (h.known.heap.end - 16) h.known.heap.items ≡ None
unclaimed e h size good far = go (claim_in_items (total_for size) (h.known.heap.end - 16) h.known.heap.items) refl where
  go : (o : Option Claim) → claim_in_items (total_for size) (h.known.heap.end - 16) h.known.heap.items ≡ o → o ≡ None
  go None none = refl
  go (Some c) made =
      let g : HeapList = h.known.heap in
      let whole : is_total (total_for size) ≡ true = total_of-numbers (total_for size) (omega arith) (omega arith) in
      let claim : IsClaim g (total_for size) c = is_claim e.store.bytes g (total_for size) c h.known.spelled whole made in
      let place : LiveBytes (g.start + 16 + c.offset + 4) (total_for size) (g.start + 16) (g.start + 16 + size_of c.items) =
      law_live_bytes (g.start + 16 + c.offset + 4) (total_for size) (g.start + 16) c.items claim.totals claim.fresh in
      absurd (omega (arith, far, place.high, claim.inside, h.known.end, h.room.within, h.known.maximum))

pub claim_refused : (e : AreaStore) (size : ℕ) → IsAreaStore e → 4194304 < size → rma_claimed e size ≡ Err RmaNoRoom
unfolding rma_claimed store_after_get
claim_refused e size good far =
    let h : HasArea e = area_there e good in
    let none : grown_to e (rma_base e.store + total_for size) ≡ Err RmaNoRoom = far_refused e h (rma_base e.store + total_for size) (omega (arith, far)) in
    rw (h.known.found, unclaimed e h size good far, none) refl
