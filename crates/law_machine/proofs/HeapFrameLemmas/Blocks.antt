-- Blocks of the module area's heap, where it gets another list or another end, and where bytes
-- beside it are written.
use Rattle.profile.specs.MemoryMap.{module_area_start, system_start}
use Rattle.std.proofs.Common.{ℕ, ◌+◌, ◌-◌, ◌%◌, ◌==◌, ◌≡◌, ◌≤◌, ◌<◌, ◌∙◌, true, List, [], ◌∷◌, Option, Some, None, is_some, refl, sym, ap, subst, inl, inr, arith}
use Rattle.std.proofs.lemmas.Bool.{cases_Bool}
use Rattle.std.specs.Option.{option_map}
use Rattle.address_map.specs.Bytes.{Bytes, in_range}
use Rattle.address_map.specs.Items.{size_of}
use Rattle.address_map.specs.declared.item.Item.{Item}
use Rattle.address_map.specs.declared.item.Item.TheVariants.{Live, Free}
use Rattle.os_heap_words.proofs.ListsLemmas.LinkWalk.{live_low, live_next}
use Rattle.os_heap_words.proofs.ListsLemmas.LiveBlocks.{LiveBytes, law_live_bytes}
use Rattle.os_heap_words.proofs.ListsLemmas.Payloads.{heap_beside, payload_unspelled}
use Rattle.os_heap_words.proofs.ListsLemmas.Reading.{total_facts}
use Rattle.os_heap_words.specs.lists.Heap.{AreTotals, HeapList, with_heap}
use Rattle.os_heap_words.specs.lists.Lists.{items_after_free, live_total, items_after_release}
use Rattle.os_heap.proofs.Apart.{range_parts}
use Rattle.os_heap.proofs.Found.{found_start}
use Rattle.os_heap.proofs.Moving.{found_held}
use Rattle.os_heap.specs.Calls.{store_holding, heaps_with_items}
use Rattle.os_heap.specs.Forgetting.{store_after_forget}
use Rattle.os_heap.specs.Store.{Store, find_heap}
use Rattle.law_machine.proofs.HeapFrameLemmas.HeapCalls.{items_of_fit}
use Rattle.law_machine.proofs.HeapFrameLemmas.Holding.{forgot_is_fit}
use Rattle.law_machine.specs.heap_frame.BlockLaws.{HoldsSame, StayLive, WereLive, block_total, total_in}
use Rattle.law_machine.specs.heap_frame.Fits.{IsFitStore}

-- one change after another
pub stay_both : (s t u : Store) → StayLive s t → StayLive t u → StayLive s u
stay_both s t u one two block total live =
    let first = one block total live in
    let second = two block total first.0 in
    (second.0, λ a inside. second.1 a inside ∙ first.1 a inside)

pub were_both : (s t u : Store) → WereLive s t → WereLive t u → WereLive s u
were_both s t u one two block total live =
    let second = two block total live in
    let first = one block total second.0 in
    (first.0, λ a inside. second.1 a inside ∙ first.1 a inside)

-- the blocks are the same
pub record AreSame (s t : Store) : Type 0 where
  pub totals : (block : ℕ) → block_total t block ≡ block_total s block
  pub bytes : (block total : ℕ) → block_total s block ≡ Some total → HoldsSame s t block total

pub same_all : (s : Store) → AreSame s s
same_all s = record { totals = λ block. refl; bytes = λ block total live a inside. refl }

pub same_both : (s t u : Store) → AreSame s t → AreSame t u → AreSame s u
same_both s t u one two = record {
  totals = λ block. two.totals block ∙ one.totals block;
  bytes = λ block total live a inside. two.bytes block total (one.totals block ∙ live) a inside ∙ one.bytes block total live a inside;
}

pub same_stay : (s t : Store) → AreSame s t → StayLive s t
same_stay s t same block total live = (same.totals block ∙ live, same.bytes block total live)

pub same_were : (s t : Store) → AreSame s t → WereLive s t
same_were s t same block total live =
    let was : block_total s block ≡ Some total = sym (same.totals block) ∙ live in
    (was, same.bytes block total was)

-- where the bytes of a live block lie
record LiesIn (block total : ℕ) : Type 0 where
  low : module_area_start ≤ block
  high : block + (total - 4) ≤ system_start

lies_in : (limit block total : ℕ) (s : Store) → IsFitStore limit s → block_total s block ≡ Some total → LiesIn block total
lies_in limit block total s f live =
    let start : f.heap.start ≡ module_area_start = found_start module_area_start s.heaps f.heap f.found in
    let live' : live_total block (f.heap.start + 16) f.heap.items ≡ Some total = sym (ap (total_in block) f.found) ∙ live in
    let place : LiveBytes block total (f.heap.start + 16) (f.heap.start + 16 + size_of f.heap.items) =
    law_live_bytes block total (f.heap.start + 16) f.heap.items f.totals live' in
    record {
      low = omega (arith, place.low, start);
      high = omega (arith, place.high, place.size, start, f.inside, f.room);
    }

-- bytes beside the module area are written
pub beside_same : (limit : ℕ) (s : Store) (c : Bytes) → IsFitStore limit s → ((a : ℕ) → module_area_start ≤ a → a < system_start → c.at a ≡ s.bytes.at a)
    → AreSame s (record s { bytes = c })
beside_same limit s c f kept = record {
  totals = λ block. refl;
  bytes = λ block total live a inside.
      let place : LiesIn block total = lies_in limit block total s f live in
      let parts : (block ≤ a) × (a < block + (total - 4)) = range_parts block (total - 4) a inside in
      kept a (omega (arith, place.low, parts.0)) (omega (arith, place.high, parts.1));
}

-- the words of the heap are written: none is of a block that the list has
pub unspelled : (f : ℕ → ℕ) (start end : ℕ) (items : List Item) (block total a : ℕ) → start ≡ module_area_start → AreTotals items
    → live_total block (start + 16) items ≡ Some total → in_range block (total - 4) a ≡ true → with_heap f start end items a ≡ f a
unspelled f start end items block total a place totals live inside =
    let aligned : start % 4 ≡ 0 = rw place refl in
    let parts : (block ≤ a) × (a < block + (total - 4)) = range_parts block (total - 4) a inside in
    heap_beside f start end items a aligned totals (payload_unspelled start items block total a aligned totals live parts.0 parts.1)

-- the heap got another list
pub held_total : (s : Store) (h : HeapList) (items : List Item) (block : ℕ) → find_heap module_area_start s.heaps ≡ Some h
    → block_total (store_holding s h items) block ≡ live_total block (h.start + 16) items
held_total s h items block found =
    let start : h.start ≡ module_area_start = found_start module_area_start s.heaps h found in
    let own : find_heap h.start s.heaps ≡ Some h = subst (λ (p : ℕ). find_heap p s.heaps ≡ Some h) (sym start) found in
    let there : HeapList = record { kind = h.kind; start = h.start; end = h.end; items = items } in
    let held : find_heap h.start (heaps_with_items h.start items s.heaps) ≡ Some there = found_held h.start items s.heaps h own in
    ap (total_in block) (subst (λ (p : ℕ). find_heap p (heaps_with_items h.start items s.heaps) ≡ Some there) start held)

-- a release brings no block
freed_live : (other n at t : ℕ) (xs : List Item) → live_total other at (items_after_free t xs) ≡ Some n → live_total other (at + t) xs ≡ Some n
freed_live other n at t [] live = live
freed_live other n at t (Live u ∷ xs) live = live
freed_live other n at t (Free u ∷ xs) live =
    let place : at + (t + u) ≡ at + t + u = omega arith in
    subst (λ (p : ℕ). live_total other p xs ≡ Some n) place live

behind_live : (other n at t : ℕ) (xs : List Item) → 8 ≤ t → live_total other (at + t) xs ≡ Some n → live_total other at (Live t ∷ xs) ≡ Some n
behind_live other n at t xs least live =
    let far : at + t + 4 ≤ other = live_low other (at + t) xs (ap is_some live) in
    live_next other at t xs (λ (same : at + 4 ≡ other). omega (arith, far, same, least)) ∙ live

abbrev WereIfSome : ℕ → ℕ → ℕ → List Item → Option (List Item) → Type 0
WereIfSome other n at xs None = Unit {0}
WereIfSome other n at xs (Some ys) = live_total other at ys ≡ Some n → live_total other at xs ≡ Some n

kept_live : (other n at t : ℕ) (ys xs : List Item) → (live_total other (at + t) ys ≡ Some n → live_total other (at + t) xs ≡ Some n)
    → live_total other at (Live t ∷ ys) ≡ Some n → live_total other at (Live t ∷ xs) ≡ Some n
kept_live other n at t ys xs were live = elim (cases_Bool (at + 4 == other)) [
  | inl here ↦ rw here (rw here at live)
  | inr apart ↦ rw apart (were (rw apart at live))
]

before_live : (other n at t : ℕ) (xs : List Item) (o : Option (List Item)) → WereIfSome other n (at + t) xs o
    → WereIfSome other n at (Live t ∷ xs) (option_map (λ ys. Live t ∷ ys) o)
before_live other n at t xs None were = tt
before_live other n at t xs (Some ys) were = λ live. kept_live other n at t ys xs were live

before_free : (other n at t : ℕ) (xs : List Item) (o : Option (List Item)) → WereIfSome other n (at + t) xs o
    → WereIfSome other n at (Free t ∷ xs) (option_map (λ ys. items_after_free t ys) o)
before_free other n at t xs None were = tt
before_free other n at t xs (Some ys) were = λ live. were (freed_live other n at t ys live)

released_were : (other n block at : ℕ) (xs : List Item) → AreTotals xs → WereIfSome other n at xs (items_after_release block at xs)
released_were other n block at [] totals = tt
released_were other n block at (Live t ∷ xs) totals = elim (cases_Bool (at + 4 == block)) [
  | inl here ↦ rw here (λ live. behind_live other n at t xs (total_facts t totals.0).0 (freed_live other n at t xs live))
  | inr apart ↦ rw apart (before_live other n at t xs (items_after_release block (at + t) xs) (released_were other n block (at + t) xs totals.1))
]
released_were other n block at (Free t ∷ xs) totals =
    before_free other n at t xs (items_after_release block (at + t) xs) (released_were other n block (at + t) xs totals.1)

pub release_were : (limit block total : ℕ) (s : Store) (h : HeapList) (items : List Item) (f : IsFitStore limit s) → find_heap module_area_start s.heaps ≡ Some h
    → AreTotals items → live_total block (h.start + 16) h.items ≡ Some total → items_after_release block (h.start + 16) h.items ≡ Some items
    → WereLive s (store_holding (store_after_forget s block total block) h items)
release_were limit block total s h items f found totals given is other n live =
    let start : h.start ≡ module_area_start = found_start module_area_start s.heaps h found in
    let own = items_of_fit limit s h f found in
    let v : Store = store_after_forget s block total block in
    let place : LiveBytes block total (h.start + 16) (h.start + 16 + size_of h.items) = law_live_bytes block total (h.start + 16) h.items own.0 given in
    let left : find_heap module_area_start v.heaps ≡ Some h = (forgot_is_fit limit s h block total block f found (omega (arith, place.low)) (omega arith)).1 in
    let live' : live_total other (h.start + 16) items ≡ Some n = sym (held_total v h items other left) ∙ live in
    let were : WereIfSome other n (h.start + 16) h.items (Some items) =
    subst (WereIfSome other n (h.start + 16) h.items) is (released_were other n block (h.start + 16) h.items own.0) in
    (ap (total_in other) found ∙ were live', λ a inside. unspelled s.bytes.at h.start h.end items other n a start totals live' inside)
