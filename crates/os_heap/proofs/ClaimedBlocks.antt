-- The block that a claim makes: it is live then, and lies in no recorded range that isn't a heap.
use Rattle.std.proofs.Common.{◌≡◌, ◌≢◌, ℕ, ◌+◌, ◌-◌, ◌<◌, ◌≤◌, true, false, List, [], ◌∷◌, refl, sym, ap, subst, ◌∙◌, Some, None, Ok, Err, inl, inr, ◌==◌, arith}
use Rattle.std.specs.Prelude.{Option, Result, is_some}
use Rattle.std.specs.List.{list_any}
use Rattle.std.proofs.lemmas.Bool.{both_ways, false_from_ne_true, false≢true, cases_Bool, le-leb, lt-ltb, or_from}
use Rattle.os_heap_words.specs.ErrorNumber.{ErrorNumber}
use Rattle.os_heap_words.specs.Bytes.{Bytes, in_range}
use Rattle.os_heap_words.specs.Items.{is_total, size_of}
use Rattle.os_heap_words.specs.Region.{Region}
use Rattle.os_heap_words.proofs.ListsLemmas.LiveBlocks.{LiveBytes, live_apart, law_live_bytes}
use Rattle.os_heap_words.proofs.ListsLemmas.Spelling.{total_of-numbers}
use Rattle.os_heap_words.specs.lists.Heap.{HeapList, IsHeapIn}
use Rattle.os_heap_words.specs.lists.Lists.{Claim, claim_in_items, live_total, total_for}
use Rattle.os_heap.proofs.Apart.{range_parts}
use Rattle.os_heap.proofs.Calls.{claimed_in}
use Rattle.os_heap.proofs.Found.{found_heap, found_start}
use Rattle.os_heap.proofs.ClaimFacts.{IsClaim, is_claim}
use Rattle.os_heap.proofs.Moving.{found_held}
use Rattle.os_heap.proofs.Forgetting.{StartsIn, starts_so}
use Rattle.os_heap.proofs.Nesting.{within_low}
use Rattle.os_heap.proofs.Stores.{AreOthers, IsOther, are_others, placed_by}
use Rattle.os_heap.specs.Forgetting.{holds_heap, starts_in}
use Rattle.os_heap.specs.Calls.{OfHeap, store_after_get, store_holding, heaps_with_items}
use Rattle.os_heap.specs.Store.{AreHeapsIn, ArePlaced, IsSound, Store, find_heap}

-- an image was live before, and the new block wasn't
beside_image : (h : HeapList) (total : ℕ) (c : Claim) (r : Region) → IsClaim h total c → live_total r.at (h.start + 16) h.items ≡ Some (r.len + 4)
    → in_range r.at r.len (h.start + 16 + c.offset + 4) ≡ true → ⊥
beside_image h total c r claim live is =
    let new : ℕ = h.start + 16 + c.offset + 4 in
    let parts : (r.at ≤ h.start + 16 + c.offset + 4) × (h.start + 16 + c.offset + 4 < r.at + r.len) =
    range_parts r.at r.len (h.start + 16 + c.offset + 4) is in
    let place : LiveBytes new total (h.start + 16) (h.start + 16 + size_of c.items) = law_live_bytes new total (h.start + 16) c.items claim.totals claim.fresh in
    let other : r.at ≢ h.start + 16 + c.offset + 4 = λ (same : r.at ≡ h.start + 16 + c.offset + 4).
    false≢true (sym claim.unheld ∙ ap is_some (subst (λ (p : ℕ). live_total p (h.start + 16) h.items ≡ Some (r.len + 4)) same live)) in
    elim (live_apart r.at (r.len + 4) new total (h.start + 16) c.items claim.totals (claim.still r.at (r.len + 4) live) claim.fresh other) [
      | inl before ↦ omega (arith, before, parts.1)
      | inr behind ↦ omega (arith, behind, parts.0, place.size)
    ]

records_apart : (s : Store) (h : HeapList) (total : ℕ) (c : Claim) (rs : List Region) → IsSound s → find_heap h.start s.heaps ≡ Some h → IsClaim h total c
    → in_range h.start h.end (h.start + 16 + c.offset + 4) ≡ true → ArePlaced s.heaps rs
    → list_any (λ r. in_range r.at r.len (h.start + 16 + c.offset + 4)) rs ≡ false
records_apart s h total c [] sound found claim inside placed = refl
records_apart s h total c (r ∷ rs) sound found claim inside placed =
    let new : ℕ = h.start + 16 + c.offset + 4 in
    or_from (in_range r.at r.len (h.start + 16 + c.offset + 4)) (list_any (λ q. in_range q.at q.len (h.start + 16 + c.offset + 4)) rs)
    (false_from_ne_true (in_range r.at r.len (h.start + 16 + c.offset + 4)) (λ is. elim (placed_by h.start s.heaps h r placed.0 found) [
      | inl clear ↦ both_ways (in_range h.start h.end (h.start + 16 + c.offset + 4)) (clear new is) inside
      | inr image ↦ beside_image h total c r claim image.live is
    ]))
    (records_apart s h total c rs sound found claim inside placed.1)

-- no heap starts in it: that heap would lie in a block that was live before
heap_beside : (b : Bytes) (h g : HeapList) (total : ℕ) (c : Claim) → IsHeapIn b h.start h.end h.items → IsHeapIn b g.start g.end g.items → IsClaim h total c
    → IsOther h g → StartsIn (h.start + 16 + c.offset + 4) (total - 4) g → ⊥
heap_beside b h g total c heap other claim place starts =
    let new : ℕ = h.start + 16 + c.offset + 4 in
    let lies : LiveBytes new total (h.start + 16) (h.start + 16 + size_of c.items) = law_live_bytes new total (h.start + 16) c.items claim.totals claim.fresh in
    let low : new ≤ g.start = starts.low in
    let high : g.start < new + (total - 4) = starts.high in
    elim place [
      | inl same ↦ let start : g.start ≡ h.start = ap (λ (x : HeapList). x.start) same in absurd (omega (arith, start, low))
      | inr apart ↦ elim apart.1 [
        | inl clear ↦
            let here : in_range h.start h.end g.start ≡ true =
            rw (le-leb h.start g.start (omega (arith, low)), lt-ltb g.start (h.start + h.end) (omega (arith, high, lies.high, lies.size, claim.inside))) refl in
            let there : in_range g.start g.end g.start ≡ true =
            rw (le-leb g.start g.start (omega arith), lt-ltb g.start (g.start + g.end) (omega (arith, other.inside))) refl in
            both_ways (in_range g.start g.end g.start) (clear g.start here) there
        | inr nested ↦ elim nested [
          | inr round ↦ let past = within_low b g h other round in omega (arith, past.0, low)
          | inl within ↦
              let apart' : within.block ≢ new = λ (e : within.block ≡ new).
              false≢true (sym claim.unheld ∙ ap is_some (subst (λ (x : ℕ). live_total x (h.start + 16) h.items ≡ Some within.total) e within.live)) in
              elim (live_apart within.block within.total new total (h.start + 16) c.items claim.totals (claim.still within.block within.total within.live) claim.fresh apart') [
                | inl before ↦ omega (arith, before, within.high, low, other.inside)
                | inr behind ↦ omega (arith, behind, within.low, high, lies.size)
              ]
        ]
      ]
    ]

heaps_beside : (b : Bytes) (h : HeapList) (total : ℕ) (c : Claim) (hs : List HeapList) → IsHeapIn b h.start h.end h.items → IsClaim h total c → AreHeapsIn b hs
    → AreOthers h hs → holds_heap (heaps_with_items h.start c.items hs) (h.start + 16 + c.offset + 4) (total - 4) ≡ false
heaps_beside b h total c [] heap claim parts others = refl
heaps_beside b h total c (g ∷ hs) heap claim parts others =
    let new : ℕ = h.start + 16 + c.offset + 4 in
    let rest : holds_heap (heaps_with_items h.start c.items hs) new (total - 4) ≡ false = heaps_beside b h total c hs heap claim parts.1.1 others.1 in
    let none : starts_in new (total - 4) g ≡ false =
    false_from_ne_true (starts_in new (total - 4) g) (λ is. heap_beside b h g total c heap parts.0 claim others.0 (starts_so new (total - 4) g is)) in
    elim (cases_Bool (g.start == h.start)) [
      | inl here ↦ rw here (or_from (starts_in new (total - 4) g) (holds_heap (heaps_with_items h.start c.items hs) new (total - 4)) none rest)
      | inr away ↦ rw away (or_from (starts_in new (total - 4) g) (holds_heap (heaps_with_items h.start c.items hs) new (total - 4)) none rest)
    ]

-- what is so of the block that a call has claimed
pub record IsNewBlock (s t : Store) (heap block total : ℕ) : Type 0 where
  pub unheaped : holds_heap t.heaps block (total - 4) ≡ false
  pub live : OfHeap (λ h. live_total block (h.start + 16) h.items ≡ Some total) (find_heap heap t.heaps)
  pub alone : list_any (λ r. in_range r.at r.len block) s.others ≡ false

abbrev NewBlockBy : Store → ℕ → ℕ → Result (Store × ℕ) ErrorNumber → Type 0
NewBlockBy s heap total (Ok r) = IsNewBlock s r.0 heap r.1 total
NewBlockBy s heap total (Err e) = Unit {0}

new_block : (s : Store) (h : HeapList) (total : ℕ) (c : Claim) → IsSound s → find_heap h.start s.heaps ≡ Some h → is_total total ≡ true
    → claim_in_items total (h.end - 16) h.items ≡ Some c → IsNewBlock s (store_holding s h c.items) h.start (h.start + 16 + c.offset + 4) total
new_block s h total c sound found whole made =
    let heap : IsHeapIn s.bytes h.start h.end h.items = found_heap s.bytes h.start s.heaps h sound.heaps found in
    let claim : IsClaim h total c = is_claim s.bytes h total c heap whole made in
    let place : LiveBytes (h.start + 16 + c.offset + 4) total (h.start + 16) (h.start + 16 + size_of c.items) =
    law_live_bytes (h.start + 16 + c.offset + 4) total (h.start + 16) c.items claim.totals claim.fresh in
    let inside : in_range h.start h.end (h.start + 16 + c.offset + 4) ≡ true =
    rw (
      le-leb h.start (h.start + 16 + c.offset + 4) (omega arith),
      lt-ltb (h.start + 16 + c.offset + 4) (h.start + h.end) (omega (arith, place.high, place.size, claim.inside)),
    ) refl in
    record {
      unheaped = heaps_beside s.bytes h total c s.heaps heap claim sound.heaps (are_others s.bytes h.start s.heaps h sound.heaps found);
      live = rw (found_held h.start c.items s.heaps h found) claim.fresh;
      alone = records_apart s h total c s.others sound found claim inside sound.placed;
    }

new_in : (s : Store) (h : HeapList) (heap total : ℕ) (o : Option Claim) → IsSound s → find_heap heap s.heaps ≡ Some h → is_total total ≡ true
    → claim_in_items total (h.end - 16) h.items ≡ o → NewBlockBy s heap total (claimed_in s h o)
new_in s h heap total None sound found whole made = tt
new_in s h heap total (Some c) sound found whole made =
    let start : h.start ≡ heap = found_start heap s.heaps h found in
    let own : find_heap h.start s.heaps ≡ Some h = subst (λ (p : ℕ). find_heap p s.heaps ≡ Some h) (sym start) found in
    subst (λ (p : ℕ). IsNewBlock s (store_holding s h c.items) p (h.start + 16 + c.offset + 4) total) start (new_block s h total c sound own whole made)

new_got : (s : Store) (heap size : ℕ) → IsSound s → NewBlockBy s heap (total_for size) (store_after_get s heap size)
unfolding store_after_get
new_got s heap size sound = go (find_heap heap s.heaps) refl where
  go : (o : Option HeapList) → find_heap heap s.heaps ≡ o → NewBlockBy s heap (total_for size) (store_after_get s heap size)
  go None none = rw none tt
  go (Some h) found = rw found (new_in s h heap (total_for size) (claim_in_items (total_for size) (h.end - 16) h.items) sound found
      (total_of-numbers (total_for size) (omega arith) (omega arith)) refl)

pub is_new_block : (s t : Store) (heap size block : ℕ) → IsSound s → store_after_get s heap size ≡ Ok (t, block) → IsNewBlock s t heap block (total_for size)
is_new_block s t heap size block sound is = subst (NewBlockBy s heap (total_for size)) is (new_got s heap size sound)
