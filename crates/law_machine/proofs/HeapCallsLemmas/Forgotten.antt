-- The heaps that a call forgets are those of which it frees a byte, and those in them; and it
-- changes no byte of these.
use Rattle.std.proofs.Common.{ℕ, ◌≡◌, ◌+◌, ◌-◌, ◌≤◌, ◌<◌, ◌↔◌, ◌∙◌, true, false, List, [], ◌∷◌, ◌==◌, nat_le, Option, Some, None, is_some, Ok, refl, sym, ap, subst, inl, inr, arith}
use Rattle.std.proofs.lemmas.Bool.{both_ways, cases_Bool, cases_eq, leb-false}
use Rattle.profile.specs.declared.reason.HeapReason.{HeapReason}
use Rattle.profile.specs.declared.reason.HeapReason.TheVariants as reason
use Rattle.address_map.specs.Bytes.{word_start}
use Rattle.address_map.specs.Items.{is_heap_word, size_of}
use Rattle.address_map.specs.declared.item.Item.{Item}
use Rattle.address_map.specs.declared.region.Kind.TheVariants as kind
use Rattle.os_heap_words.proofs.ListsLemmas.LiveBlocks.{LiveBytes, law_live_bytes}
use Rattle.os_heap_words.proofs.ListsLemmas.Payloads.{heap_beside}
use Rattle.os_heap_words.specs.lists.Heap.{HeapList, IsHeapIn}
use Rattle.os_heap_words.specs.lists.Lists.{Claim, changed_by, live_total, round_up_8}
use Rattle.os_heap.proofs.Apart.{found_other}
use Rattle.os_heap.proofs.Forgetting.{IsIn, StartsIn, find_left, in_block, lowest_least, own_left as heap_left, starts_so}
use Rattle.os_heap.proofs.Found.{found_ended, found_heap, found_start}
use Rattle.os_heap.proofs.LossLaw.{forgotten_lost}
use Rattle.os_heap.proofs.Moving.{found_held}
use Rattle.os_heap.proofs.Stores.{are_others}
use Rattle.os_heap.specs.Calls.{store_with_new_heap, ending, store_holding, with_end, heaps_with_items}
use Rattle.os_heap.specs.Forgetting.{store_after_forget, holds_heap, lowest_lost, starts_in}
use Rattle.os_heap.specs.Laws.{IsLost}
use Rattle.os_heap.specs.Store.{IsSound, Store, find_heap}
use Rattle.law_machine.proofs.HeapCallsLemmas.DoneCalls.{FreesBytes, FreesNone, LeaveBy, MovesBlock, OnDone, call_by, moved_to}
use Rattle.law_machine.proofs.HeapCallsLemmas.KeptHeaps.{found_beside, found_more, found_past, moved_same, others_recorded}
use Rattle.law_machine.proofs.HeapCallsLemmas.Likeness.{with_last, with_list}
use Rattle.law_machine.proofs.HeapCallsLemmas.NoHeapInside.{found_holds}
use Rattle.law_machine.specs.heap_calls.Forgotten.{CallsForgetHeaps, FreesKeepBytes, IsForgotten, freed_from}
use Rattle.law_machine.specs.heap_calls.Laws.{IsNotForgotten, LiesInBlock, OtherCallsKeepHeap}
use Rattle.law_machine.specs.heap_calls.Turns.{call_on}

-- a heap that is found after the call, where the call frees nothing of it
pub record IsFoundIn (hs : List HeapList) (start : ℕ) : Type 0 where
  pub heap : HeapList
  pub is : find_heap start hs ≡ Some heap

pub still_there : (s t : Store) (heap : ℕ) (why : HeapReason) (block size start : ℕ) → IsFoundIn t.heaps start
    → (IsForgotten s heap why block size start → ⊥) → (find_heap start t.heaps ≡ None) ↔ IsForgotten s heap why block size start
still_there s t heap why block size start there none = (
  λ gone. absurd (let no : None ≡ Some there.heap = sym gone ∙ there.is in cc),
  λ lost. absurd (none lost),
)

frees_none : (s : Store) (heap : ℕ) (why : HeapReason) (block size start : ℕ) → FreesNone why block size → IsForgotten s heap why block size start → ⊥
frees_none s heap why block size start none lost =
    let no : None ≡ Some lost.from = sym (none lost.total) ∙ lost.frees in
    absurd (cc)

-- another list or another end of a heap takes none away
pub found_listed : (start p : ℕ) (items : List Item) (hs : List HeapList) (k : HeapList) → find_heap p hs ≡ Some k → IsFoundIn (heaps_with_items start items hs) p
found_listed start p items hs k found = elim (cases_eq p start) [
  | inl same ↦ record {
    heap = with_list k items;
    is = subst (λ (a : ℕ). find_heap p (heaps_with_items a items hs) ≡ Some (with_list k items)) same (found_held p items hs k found);
  }
  | inr apart ↦ record { heap = k; is = found_beside p start items hs apart ∙ found }
]

found_last : (start p end : ℕ) (hs : List HeapList) (k : HeapList) → find_heap p hs ≡ Some k → IsFoundIn (with_end start end hs) p
found_last start p end hs k found = elim (cases_eq p start) [
  | inl same ↦ record {
    heap = with_last k end;
    is = subst (λ (a : ℕ). find_heap p (with_end a end hs) ≡ Some (with_last k end)) same (found_ended p end hs k found);
  }
  | inr apart ↦ record { heap = k; is = found_past p start end hs apart ∙ found }
]

none_listed : (start p : ℕ) (items : List Item) (hs : List HeapList) → find_heap p hs ≡ None → find_heap p (heaps_with_items start items hs) ≡ None
none_listed start p items [] none = refl
none_listed start p items (g ∷ hs) none = elim (cases_Bool (g.start == p)) [
  | inl here ↦ absurd (let some : Some g ≡ None = rw here at none in cc)
  | inr away ↦
      let rest : find_heap p (heaps_with_items start items hs) ≡ None = none_listed start p items hs (rw away at none) in
      elim (cases_Bool (g.start == start)) [ inl own ↦ rw (own, away) rest | inr other ↦ rw (other, away) rest ]
]

listed_none : (start p : ℕ) (items : List Item) (hs : List HeapList) → find_heap p (heaps_with_items start items hs) ≡ None → find_heap p hs ≡ None
listed_none start p items hs none = by (find_heap p hs) refl where
  by : (o : Option HeapList) → find_heap p hs ≡ o → o ≡ None
  by None is = refl
  by (Some k) is =
      let there : IsFoundIn (heaps_with_items start items hs) p = found_listed start p items hs k is in
      absurd (let no : None ≡ Some there.heap = sym none ∙ there.is in cc)

-- a call on a heap that is found, and another heap or the same
pub record AreBoth (s : Store) (o k : HeapList) : Type 0 where
  pub sound : IsSound s
  pub owner : find_heap o.start s.heaps ≡ Some o
  pub found : find_heap k.start s.heaps ≡ Some k

-- which bytes a forgotten heap went with
pub same_freed : (s : Store) (o : HeapList) (why : HeapReason) (block size total from start : ℕ) → find_heap o.start s.heaps ≡ Some o
    → live_total block (o.start + 16) o.items ≡ Some total → freed_from why block total size ≡ Some from → IsForgotten s o.start why block size start
    → IsLost s block total from start
same_freed s o why block size total from start found live frees l =
    let owners : Some l.owner ≡ Some o = sym l.found ∙ found in
    let owner : l.owner ≡ o = cc in
    let totals : Some l.total ≡ Some total =
    sym (subst (λ (x : HeapList). live_total block (x.start + 16) x.items ≡ Some l.total) owner l.live) ∙ live in
    let same : l.total ≡ total = cc in
    let both : Some l.from ≡ Some from = sym (subst (λ (n : ℕ). freed_from why block n size ≡ Some l.from) same l.frees) ∙ frees in
    let starts : l.from ≡ from = cc in
    subst (λ (n : ℕ). IsLost s block n from start) same (subst (λ (n : ℕ). IsLost s block l.total n start) starts l.lost)

pub lost_shown : (s : Store) (o k : HeapList) (why : HeapReason) (block size total from : ℕ) (items : List Item) → AreBoth s o k → FreesBytes o block total from
    → freed_from why block total size ≡ Some from
    → (find_heap k.start (store_holding (store_after_forget s block total from) o items).heaps ≡ None) ↔ IsForgotten s o.start why block size k.start
lost_shown s o k why block size total from items are given frees =
    let v : Store = store_after_forget s block total from in
    let shows : (find_heap k.start v.heaps ≡ None) ↔ IsLost s block total from k.start =
    forgotten_lost s o k block total from are.sound are.owner given.live given.past are.found in (
      λ none. record {
        owner = o;
        found = are.owner;
        total = total;
        live = given.live;
        from = from;
        frees = frees;
        lost = shows.0 (listed_none o.start k.start items v.heaps none);
      },
      λ l. none_listed o.start k.start items v.heaps (shows.1 (same_freed s o why block size total from k.start are.owner given.live frees l)),
    )

-- a block that was moved held no heap
moved_none : (s : Store) (o : HeapList) (c : Claim) (why : HeapReason) (block size old new start : ℕ) → find_heap o.start s.heaps ≡ Some o
    → MovesBlock s o c block old new → freed_from why block old size ≡ Some (block - 4 + new) → IsForgotten s o.start why block size start → ⊥
moved_none s o c why block size old new start found is frees l =
    let lost : IsLost s block old (block - 4 + new) start = same_freed s o why block size old (block - 4 + new) start found is.live frees l in
    both_ways (holds_heap s.heaps block (old - 4)) is.unheld (found_holds lost.heap.start block (old - 4) s.heaps lost.heap lost.found lost.starts)

called_shown : (s : Store) (o k : HeapList) (why : HeapReason) (block size : ℕ) → AreBoth s o k
    → LeaveBy (λ t. (find_heap k.start t.heaps ≡ None) ↔ IsForgotten s o.start why block size k.start) s o why block size
called_shown s o k why block size are = record {
  same = λ none. still_there s s o.start why block size k.start (record { heap = k; is = are.found }) (frees_none s o.start why block size k.start none);
  held = λ items none.
      still_there s (store_holding s o items) o.start why block size k.start (found_listed o.start k.start items s.heaps k are.found)
      (frees_none s o.start why block size k.start none);
  lost = λ total from items given frees. lost_shown s o k why block size total from items are given frees;
  moved = λ c old new total items is given frees.
      let u : Store = moved_to s o c block old in
      let heap : IsHeapIn s.bytes o.start o.end o.items = found_heap s.bytes o.start s.heaps o are.sound.heaps are.owner in
      let one : IsFoundIn u.heaps k.start = found_listed o.start k.start c.items s.heaps k are.found in
      subst (λ (v : Store). (find_heap k.start (store_holding v (with_list o c.items) items).heaps ≡ None) ↔ IsForgotten s o.start why block size k.start)
      (sym (moved_same s o c block old new total heap is given))
      (still_there s (store_holding u (with_list o c.items) items) o.start why block size k.start
      (found_listed o.start k.start items u.heaps one.heap one.is) (moved_none s o c why block size old new k.start are.owner is frees));
  ended = λ end none clear.
      still_there s (ending s o end) o.start why block size k.start (found_last o.start k.start end s.heaps k are.found)
      (frees_none s o.start why block size k.start none);
}

pub calls_forget : CallsForgetHeaps
calls_forget s t k heap why block size answer sound found is =
    let P : Store → Type 0 = λ u. (find_heap k.start u.heaps ≡ None) ↔ IsForgotten s heap why block size k.start in
    subst (OnDone (ℕ × ℕ) P) is
    (call_by P s heap why block size
    (λ on o start found'.
    subst (λ (p : ℕ). LeaveBy (λ u. (find_heap k.start u.heaps ≡ None) ↔ IsForgotten s p why block size k.start) s o why block size) start
    (called_shown s o k why block size (record { sound = sound; owner = found'; found = found })))
    (λ makes region none.
    still_there s (store_with_new_heap kind.Heap s heap size) heap why block size k.start
    (record { heap = k; is = found_more k.start s.heaps k (record { kind = kind.Heap; start = heap; end = size; items = [] }) found })
    (frees_none s heap why block size k.start (λ total. ap (λ (w : HeapReason). freed_from w block total size) (sym makes)))))

-- a heap that is forgotten lies in a block of the heap called
lost_lies : (s : Store) (o k : HeapList) (block total from : ℕ) → AreBoth s o k → FreesBytes o block total from → IsLost s block total from k.start
    → LiesInBlock s k
lost_lies s o k block total from are given lost =
    let low : ℕ = lowest_lost block (total - 4) from s.heaps in
    let len : ℕ = block - 4 + total - low in
    let v : Store = store_after_forget s block total from in
    let none : find_heap k.start v.heaps ≡ None =
    (forgotten_lost s o k block total from are.sound are.owner given.live given.past are.found).1 lost in
    let heap : IsHeapIn s.bytes o.start o.end o.items = found_heap s.bytes o.start s.heaps o are.sound.heaps are.owner in
    let other : IsHeapIn s.bytes k.start k.end k.items = found_heap s.bytes k.start s.heaps k are.sound.heaps are.found in
    let lies : LiveBytes block total (o.start + 16) (o.start + 16 + size_of o.items) = law_live_bytes block total (o.start + 16) o.items heap.totals given.live in
    elim (cases_Bool (starts_in low len k)) [
      | inr kept ↦ absurd (let no : None ≡ Some k = sym none ∙ find_left low len k.start s.heaps k are.found kept in cc)
      | inl gone ↦
          let range : StartsIn low len k = starts_so low len k gone in
          let least : block ≤ low = lowest_least block (total - 4) from s.heaps given.past in
          let starts : StartsIn block (total - 4) k = record {
            guest = range.guest;
            low = omega (arith, range.low, least);
            high = omega (arith, range.low, range.high, lies.low, lies.size);
          } in
          let place : IsIn block total k =
          in_block s.bytes o k block total heap other given.live
          (found_other o k.start s.heaps k (are_others s.bytes o.start s.heaps o are.sound.heaps are.owner) are.found) starts in
          record {
            outer = o;
            found = are.owner;
            within = record { guest = range.guest; block = block; total = total; live = given.live; low = place.low; high = place.high };
          }
    ]

from_past : (why : HeapReason) (block total size from : ℕ) → 4 ≤ block → freed_from why block total size ≡ Some from → block ≤ from
from_past reason.Free block total size from some frees =
    let both : Some block ≡ Some from = frees in
    let same : block ≡ from = cc in
    omega (arith, same)
from_past reason.Resize block total size from some frees = elim (cases_Bool (nat_le (changed_by total size) 4)) [
  | inl few ↦
      let frees' = rw few at frees in
      let same : block ≡ from = cc in
      omega (arith, same)
  | inr more ↦
      let frees' = rw more at frees in
      let many : 4 < changed_by total size = leb-false (changed_by total size) 4 more in
      let same : block - 4 + round_up_8 (changed_by total size) ≡ from = cc in
      omega (arith, same, many)
]
from_past reason.Initialise block total size from some frees = absurd (let no : None ≡ Some from = frees in cc)
from_past reason.Describe block total size from some frees = absurd (let no : None ≡ Some from = frees in cc)
from_past reason.Get block total size from some frees = absurd (let no : None ≡ Some from = frees in cc)
from_past reason.ChangeSize block total size from some frees = absurd (let no : None ≡ Some from = frees in cc)
from_past reason.BlockSize block total size from some frees = absurd (let no : None ≡ Some from = frees in cc)

pub forgotten_lies : (s : Store) (k : HeapList) (heap : ℕ) (why : HeapReason) (block size : ℕ) → IsSound s → find_heap k.start s.heaps ≡ Some k
    → IsForgotten s heap why block size k.start → LiesInBlock s k
forgotten_lies s k heap why block size sound found l =
    let start : l.owner.start ≡ heap = found_start heap s.heaps l.owner l.found in
    let own : find_heap l.owner.start s.heaps ≡ Some l.owner = subst (λ (p : ℕ). find_heap p s.heaps ≡ Some l.owner) (sym start) l.found in
    let there : IsHeapIn s.bytes l.owner.start l.owner.end l.owner.items = found_heap s.bytes l.owner.start s.heaps l.owner sound.heaps own in
    let lies : LiveBytes block l.total (l.owner.start + 16) (l.owner.start + 16 + size_of l.owner.items) =
    law_live_bytes block l.total (l.owner.start + 16) l.owner.items there.totals l.live in
    lost_lies s l.owner k block l.total l.from (record { sound = sound; owner = own; found = found })
    (record { live = l.live; past = from_past why block l.total size l.from (omega (arith, lies.low)) l.frees }) l.lost

-- So one that lies in no block is found after each call that is done.
by_found : (s t : Store) (k : HeapList) (o : Option HeapList) → (LiesInBlock s k → is_some o ≡ true) → (o ≡ None → LiesInBlock s k) → is_some o ≡ true
by_found s t k None still lies = still (lies refl)
by_found s t k (Some g) still lies = refl

pub recorded_still : (s t : Store) (k : HeapList) (heap : ℕ) (why : HeapReason) (block size : ℕ) (answer : ℕ × ℕ) → IsSound s
    → find_heap k.start s.heaps ≡ Some k → call_on s heap why block size ≡ Ok (t, answer) → (LiesInBlock s k → IsNotForgotten t k.start)
    → IsNotForgotten t k.start
recorded_still s t k heap why block size answer sound found is still =
    by_found s t k (find_heap k.start t.heaps) still
    (λ none. forgotten_lies s k heap why block size sound found ((calls_forget s t k heap why block size answer sound found is).0 none))

-- The bytes that a call leaves which frees some of a block and moves none: those of no word of the
-- new list.
pub left_bytes : (v : Store) (o g : HeapList) (items : List Item) (a : ℕ) → find_heap o.start v.heaps ≡ Some o
    → (let t : Store = store_holding v o items in
    IsSound t → find_heap o.start t.heaps ≡ Some g → is_heap_word o.start g.items (word_start a) ≡ false → t.bytes.at a ≡ v.bytes.at a)
left_bytes v o g items a found sound is none =
    let t : Store = store_holding v o items in
    let there : find_heap o.start t.heaps ≡ Some (with_list o items) = found_held o.start items v.heaps o found in
    let both : Some g ≡ Some (with_list o items) = sym is ∙ there in
    let same : g ≡ with_list o items = cc in
    let heap : IsHeapIn t.bytes o.start o.end items = found_heap t.bytes o.start t.heaps (with_list o items) sound.heaps there in
    heap_beside v.bytes.at o.start o.end items a heap.aligned heap.totals (sym (ap (λ (x : HeapList). is_heap_word o.start x.items (word_start a)) same) ∙ none)

-- what is to be shown of each store that such a call can leave
abbrev pub KeepsByte : Store → HeapList → HeapList → ℕ → Store → Type 0
KeepsByte s o g a t = IsSound t → find_heap o.start t.heaps ≡ Some g → is_heap_word o.start g.items (word_start a) ≡ false → t.bytes.at a ≡ s.bytes.at a

frees_some : (A : Type 0) (why : HeapReason) (block size total from : ℕ) → FreesNone why block size → freed_from why block total size ≡ Some from → A
frees_some A why block size total from none frees = absurd (let no : None ≡ Some from = sym (none total) ∙ frees in cc)

called_bytes : (s : Store) (o g : HeapList) (why : HeapReason) (block size total from a : ℕ) → IsSound s → find_heap o.start s.heaps ≡ Some o
    → live_total block (o.start + 16) o.items ≡ Some total → freed_from why block total size ≡ Some from → from ≤ block - 4 + total
    → LeaveBy (KeepsByte s o g a) s o why block size
called_bytes s o g why block size total from a sound found live frees most =
    let heap : IsHeapIn s.bytes o.start o.end o.items = found_heap s.bytes o.start s.heaps o sound.heaps found in
    record {
      same = λ none. frees_some (KeepsByte s o g a s) why block size total from none frees;
      held = λ items none. frees_some (KeepsByte s o g a (store_holding s o items)) why block size total from none frees;
      lost = λ total' from' items given frees'.
          let v : Store = store_after_forget s block total' from' in
          let lies : LiveBytes block total' (o.start + 16) (o.start + 16 + size_of o.items) = law_live_bytes block total' (o.start + 16) o.items heap.totals given.live in
          left_bytes v o g items a (heap_left s o block total' from' found (omega (arith, lies.low)) given.past);
      moved = λ c old new total' items is given frees'.
          let both : Some old ≡ Some total = sym is.live ∙ live in
          let same : old ≡ total = cc in
          let again : Some (block - 4 + new) ≡ Some from = sym (subst (λ (n : ℕ). freed_from why block n size ≡ Some (block - 4 + new)) same frees') ∙ frees in
          let at : block - 4 + new ≡ from = cc in
          absurd (omega (arith, at, most, is.more, same));
      ended = λ end none clear. frees_some (KeepsByte s o g a (ending s o end)) why block size total from none frees;
    }

pub frees_keep : FreesKeepBytes
frees_keep s t h g why block size total from a answer sound sound' found live frees most is found' none =
    let P : Store → Type 0 = KeepsByte s h g a in
    subst (OnDone (ℕ × ℕ) P) is
    (call_by P s h.start why block size
    (λ on o start there.
    let both : Some o ≡ Some h = sym (subst (λ (p : ℕ). find_heap p s.heaps ≡ Some o) start there) ∙ found in
    let same : h ≡ o = cc in
    subst (λ (x : HeapList). LeaveBy P s x why block size) same (called_bytes s h g why block size total from a sound found live frees most))
    (λ makes region clear.
    frees_some (P (store_with_new_heap kind.Heap s h.start size)) why block size total from
    (λ n. ap (λ (w : HeapReason). freed_from w block n size) (sym makes)) frees)) sound' found' none

-- So only one that lies in a block need be recorded still, for another call to leave it as it was.
pub others_kept : OtherCallsKeepHeap
others_kept s t h heap why block size answer sound sound' found other outside is still =
    others_recorded s t h heap why block size answer sound sound' found other outside is
    (recorded_still s t h heap why block size answer sound found is still)
