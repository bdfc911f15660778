-- What a change of a block's size leaves of all heaps, by the ways that it can go.
use Rattle.std.proofs.Common.{Bool, ok_or, if◌then◌else◌, ◌==◌, ◌-◌, inl, ◌≡◌, [], None, List, subst, ℕ, Some, inr, ap, ◌∷◌, ◌∙◌, true, is_some, ◌+◌, Option, ◌%◌, arith, sym, Err, refl, Result, Ok, ◌≤◌, false, ◌<◌, ◌*◌, ◌^◌}
use Rattle.std.proofs.lemmas.Bool.{both_ways, cases_lt, eqb-true, cases_Bool, le-leb, false≢true, lt-leb, leb-false}
use Rattle.std.specs.Prelude.{nat_le}
use Rattle.os_heap_words.specs.Outcome.{bind, Gives}
use Rattle.os_heap_words.specs.ErrorNumber.{ErrorNumber}
use Rattle.os_heap_words.specs.ErrorNumber.TheVariants.{HeapNotABlock, HeapHoldsAnchor, HeapBadDesc}
use Rattle.os_heap_words.proofs.Anchors.{among_none}
use Rattle.os_heap_words.specs.Bytes.{Bytes, word_at}
use Rattle.os_heap_words.specs.Items.{items_in, size_of}
use Rattle.os_heap_words.specs.Memory.{anchor_of, bytes_of, regions, is_mapped, byte_at}
use Rattle.os_heap_words.specs.Records.{anchor_among, is_heap_kind}
use Rattle.os_heap_words.specs.Item.{Item}
use Rattle.os_heap_words.specs.Item.TheVariants.{Free, Live}
use Rattle.os_heap_words.specs.AddressMap.{AddressMap}
use Rattle.os_heap_words.specs.Kind.{Kind}
use Rattle.os_heap_words.specs.Region.{Region}
use Rattle.os_heap_words.proofs.ListsLemmas.Counts.{claim_no_more}
use Rattle.os_heap_words.proofs.ListsLemmas.Reading.{total_facts}
use Rattle.os_heap_words.proofs.ListsLemmas.LiveBlocks.{IsStillIn, LiveBytes, law_live_bytes, refit_own, refit_still}
use Rattle.os_heap_words.proofs.ListsLemmas.Resizes.{map_none, unreleased}
use Rattle.os_heap_words.specs.lists.Counts.{begun_below, free_count}
use Rattle.os_heap_words.specs.lists.Heap.{HeapList, IsHeapIn, AreTotals}
use Rattle.os_heap_words.specs.lists.Lists.{live_total, items_after_release, changed_by, resized_in_place, round_up_8, items_after_refit, claim_in_items}
use Rattle.os_heap_words.specs.lists.Walks.{IsBlock}
use Rattle.os_heap.proofs.Anchored.{refit_keeps}
use Rattle.os_heap.proofs.Bounds.{move_most}
use Rattle.os_heap.proofs.Calls.{part_at, heap_of-part, heap_there, IsLeft, is_left, image_recorded}
use Rattle.os_heap_words.proofs.Freeing.{block_facts}
use Rattle.os_heap.proofs.LostHeaps.{KeepsBlocks}
use Rattle.os_heap.proofs.Moving.{part_there, HasPart}
use Rattle.os_heap_words.proofs.Replace.{heap_mapped, heap_below}
use Rattle.os_heap_words.proofs.Refitted.{block_total}
use Rattle.os_heap.specs.Calls.{gave_back, holds_anchor, unless_image, store_after_resize, resized_or_moved, store_after_move}
use Rattle.os_heap.specs.Probes.{resize_probes, probes_after_walk, refit_probes, move_probes}
use Rattle.os_heap_words.specs.Outcomes.{items_at, end_at, Refits}
use Rattle.os_heap.specs.GuestBlocks.{IsGuestBlock, has_anchor_in, ResizesInPlace}
use Rattle.os_heap_words.specs.Cursors.{RefitsBlock}
use Rattle.os_heap.specs.Sound.{Forgets, GivesBack, HasBlock, IsSoundMap, KeepsRest}
use Rattle.os_heap.specs.Store.{has_image, heap_in, heaps_in, find_heap, store_of, IsSound, Store}

-- the heap that is found is the one that memory spells there
found_in : (b : Bytes) (heap : ℕ) (rs : List Region) (h : HeapList) → find_heap heap (heaps_in b rs) ≡ Some h
    → h ≡ record { kind = h.kind; start = heap; end = h.end; items = items_in (word_at b.at) heap }
found_in b heap [] h e = absurd (let none : None ≡ Some h = e in cc)
found_in b heap (r ∷ rs) h e = elim (cases_Bool (is_heap_kind r.kind)) [
  | inr other ↦ found_in b heap rs h (rw other at e)
  | inl is ↦
      let e' = rw is at e in
      elim (cases_Bool (r.at == heap)) [
        | inr later ↦ found_in b heap rs h (rw later at e')
        | inl here ↦
            let e'' = rw here at e' in
            let same : heap_in b r ≡ h = cc in
            let at : r.at ≡ heap = eqb-true r.at heap here in
            subst (λ (x : HeapList). x ≡ record { kind = x.kind; start = heap; end = x.end; items = items_in (word_at b.at) heap }) same
            (ap (λ (a : ℕ). let p : HeapList = record { kind = r.kind; start = a; end = r.len; items = items_in (word_at b.at) a } in p) at)
      ]
]

pub found_is : (m : AddressMap) (heap : ℕ) (h : HeapList) → find_heap heap (store_of m).heaps ≡ Some h → h ≡ part_at h.kind m heap h.end
unfolding store_of
found_is m heap h e = found_in (bytes_of m) heap (regions m) h e

pub record IsThere (m : AddressMap) (heap : ℕ) : Type 0 where
  pub kind : Kind
  pub end : ℕ
  pub found : find_heap heap (store_of m).heaps ≡ Some (part_at kind m heap end)

pub is_there : (m : AddressMap) (heap : ℕ) → is_some (find_heap heap (store_of m).heaps) ≡ true → IsThere m heap
is_there m heap is =
    let p : HasPart heap (store_of m).heaps = part_there heap (store_of m).heaps is in
    record { kind = p.part.kind; end = p.part.end; found = p.found ∙ ap (λ (x : HeapList). Some x) (found_is m heap p.part p.found) }

pub there_heap : (m : AddressMap) (heap : ℕ) → IsSound (store_of m) → is_some (find_heap heap (store_of m).heaps) ≡ true
    → IsHeapIn (bytes_of m) heap (end_at m heap) (items_at m heap)
there_heap m heap sound is = let t : IsThere m heap = is_there m heap is in heap_there t.kind m heap t.end sound t.found

-- the call, by the block's total
abbrev pub resized_block : Store → ℕ → HeapList → ℕ → ℕ → Option ℕ → Result (Store × ℕ) ErrorNumber
resized_block s heap h block change o = bind (ok_or o HeapNotABlock) (λ old.
    let sum : ℕ = changed_by old change in
    if nat_le sum 4 then bind (gave_back s heap block) (λ r. Ok (r.0, 0)) else
    resized_or_moved s h block old (round_up_8 sum) (resized_in_place block (h.start + h.end) (round_up_8 sum) (h.start + 16) h.items))

abbrev asked : AddressMap → ℕ → ℕ → Option ℕ
asked m heap block = unless_image (has_image block (regions m)) (live_total block (heap + 16) (items_at m heap))

asked_live : (m : AddressMap) (heap block total : ℕ) → has_image block (regions m) ≡ false → live_total block (heap + 16) (items_at m heap) ≡ Some total
    → asked m heap block ≡ Some total
asked_live m heap block total own live = rw own live

by_total : (m : AddressMap) (heap block change : ℕ) (t : IsThere m heap) (total : Option ℕ) → asked m heap block ≡ total
    → store_after_resize (store_of m) heap block change ≡ resized_block (store_of m) heap (part_at t.kind m heap t.end) block change total
unfolding store_after_resize
by_total m heap block change t total e =
    rw (t.found, image_recorded m block) (ap (resized_block (store_of m) heap (part_at t.kind m heap t.end) block change) e)

probes_by_total : (m : AddressMap) (heap block change : ℕ) (t : IsThere m heap) (total : Option ℕ) → asked m heap block ≡ total
    → resize_probes (store_of m) heap block change
    ≡ begun_below block (heap + 16) (items_at m heap) + probes_after_walk (store_of m) (part_at t.kind m heap t.end) block change total
unfolding resize_probes
probes_by_total m heap block change t total e =
    rw (t.found, image_recorded m block)
    (ap (λ (o : Option ℕ). begun_below block (heap + 16) (items_at m heap) + probes_after_walk (store_of m) (part_at t.kind m heap t.end) block change o) e)

-- what a walk to the block shows
pub record IsHere (m : AddressMap) (heap block at : ℕ) : Type 0 where
  pub own : has_image block (regions m) ≡ false
  pub whole : at % 4 ≡ 0
  pub mapped : is_mapped m at ≡ true
  pub live : live_total block (heap + 16) (items_at m heap) ≡ Some (word_at (byte_at m) at)

pub block_here : (m : AddressMap) (heap block from at free gap : ℕ) → IsSound (store_of m) → is_some (find_heap heap (store_of m).heaps) ≡ true
    → IsGuestBlock (regions m) heap (items_at m heap) block from at free gap → IsHere m heap block at
block_here m heap block from at free gap sound is g =
    let b : IsBlock heap (items_at m heap) block from at free gap = g.here in
    let h : IsHeapIn (bytes_of m) heap (end_at m heap) (items_at m heap) = there_heap m heap sound is in
    let f = block_facts m heap (end_at m heap) block from at free gap h b in
    record {
      own = g.own;
      whole = f.facts.whole;
      mapped = heap_mapped m heap (end_at m heap) at (items_at m heap) h (omega (arith, f.facts.low)) (omega (arith, f.facts.high, f.facts.size));
      live = block_total m heap (end_at m heap) block from at free gap h b ∙ ap (λ (n : ℕ). Some n) (sym f.facts.total_word);
    }

-- the block, in the heap that is there
pub has_block : (m : AddressMap) (heap block total : ℕ) → is_some (find_heap heap (store_of m).heaps) ≡ true
    → live_total block (heap + 16) (items_at m heap) ≡ Some total → HasBlock m block total
has_block m heap block total is live =
    let t : IsThere m heap = is_there m heap is in
    record { heap = part_at t.kind m heap t.end; found = t.found; live = live }

-- no such block
pub resize_refused : (m : AddressMap) (heap block change : ℕ) → is_some (find_heap heap (store_of m).heaps) ≡ true
    → asked m heap block ≡ None
    → (store_after_resize (store_of m) heap block change ≡ Err HeapNotABlock) × (resize_probes (store_of m) heap block change ≡ begun_below block (heap + 16) (items_at m heap))
resize_refused m heap block change is none =
    let t : IsThere m heap = is_there m heap is in
    (by_total m heap block change t None none, omega (arith, probes_by_total m heap block change t None none))

-- no heap
pub resize_nowhere : (m : AddressMap) (heap block change : ℕ) → find_heap heap (store_of m).heaps ≡ None
    → (store_after_resize (store_of m) heap block change ≡ Err HeapBadDesc) × (resize_probes (store_of m) heap block change ≡ 0)
unfolding store_after_resize resize_probes
resize_nowhere m heap block change none = rw none (refl, refl)

-- what the call leaves, and what it has looked at beyond the walk
pub record IsResized (m n : AddressMap) (heap block change : ℕ) (answer : Result ℕ ErrorNumber) (more : ℕ) : Type 0 where
  pub store : Gives (store_of m) (store_after_resize (store_of m) heap block change) answer (store_of n)
  pub kept : KeepsRest m n
  pub probes : begun_below block (heap + 16) (items_at m heap) + more ≡ resize_probes (store_of m) heap block change

-- nothing is left of the block
freed_given : (old new : Store) (o : Result (Store × Unit {0}) ErrorNumber) (answer : Result ℕ ErrorNumber) → answer ≡ Ok 0
    → (let done : Result (Unit {0}) ErrorNumber = Ok tt in Gives old o done new) → Gives old (bind o (λ r. Ok (r.0, 0))) answer new
freed_given old new (Ok s) answer zero left = rw zero (left.0, refl)
freed_given old new (Err e) answer zero left = absurd left

pub resize_freed : (m n : AddressMap) (heap block change total : ℕ) → is_some (find_heap heap (store_of m).heaps) ≡ true
    → has_image block (regions m) ≡ false → live_total block (heap + 16) (items_at m heap) ≡ Some total → changed_by total change ≤ 4
    → GivesBack m n heap block → KeepsRest m n → IsResized m n heap block change (Ok 0) 0
resize_freed m n heap block change total is own live few given kept =
    let t : IsThere m heap = is_there m heap is in
    let test : nat_le (changed_by total change) 4 ≡ true = le-leb (changed_by total change) 4 few in
    let some = asked_live m heap block total own live in
    record {
      store = rw (by_total m heap block change t (Some total) some, test) (freed_given (store_of m) (store_of n) (gave_back (store_of m) heap block) (Ok 0) refl given);
      kept = kept;
      probes = sym (rw test at (probes_by_total m heap block change t (Some total) some));
    }

-- the block stays where it is
in_place_given : (m k n : AddressMap) (kind : Kind) (heap end block old new : ℕ) (o : Option (List Item)) → IsSoundMap m
    → find_heap heap (store_of m).heaps ≡ Some (part_at kind m heap end) → has_image block (store_of m).others ≡ false
    → live_total block (heap + 16) (items_at m heap) ≡ Some old → 8 ≤ new
    → anchor_among (store_of m).anchor (block - 4 + new) (old - new) ≡ false → Forgets m k block old (block - 4 + new)
    → resized_in_place block (heap + end) new (heap + 16) (items_at m heap) ≡ o → Refits k n heap end true o
    → Gives (store_of m) (resized_or_moved (store_of m) (part_at kind m heap end) block old new o) (Ok block) (store_of n) × KeepsRest m n
in_place_given m k n kind heap end block old new None state found own live some uncut f is refits = absurd (false≢true (sym refits.0))
in_place_given m k n kind heap end block old new (Some items) state found own live some uncut f is refits =
    let h : HeapList = part_at kind m heap end in
    let heap_is : IsHeapIn (bytes_of m) heap end (items_at m heap) = heap_of-part kind m heap end state.sound found in
    let lies : LiveBytes block old (heap + 16) (heap + 16 + size_of (items_at m heap)) =
    law_live_bytes block old (heap + 16) (items_at m heap) heap_is.totals live in
    let blocks : KeepsBlocks h items block (block - 4 + new) = record {
      others = λ other t apart there. subst (IsStillIn other t (heap + 16)) is (refit_still other block t (heap + end) new (heap + 16) (items_at m heap) apart there);
      own = λ a past before. record {
        total = new;
        live = subst (IsStillIn block new (heap + 16)) is (refit_own block (heap + end) new (heap + 16) (items_at m heap));
        high = omega (arith, before, lies.low);
      };
    } in
    let left : IsLeft m n h block old (block - 4 + new) items =
    is_left m k n h block old (block - 4 + new) items state found refl live (omega (arith, some, lies.low)) own blocks
    (refit_keeps (store_of m).anchor block old (heap + end) new (heap + 16) (items_at m heap) items is live (omega (arith, lies.low)) uncut) f refits.1 in
    (rw uncut (left.store, refl), left.kept)

in_place_unmoved : (m k n : AddressMap) (h : HeapList) (heap end block old new : ℕ) (o : Option (List Item)) → Refits k n heap end true o
    → refit_probes (store_of m) h block old new o ≡ 0
in_place_unmoved m k n h heap end block old new None refits = absurd (false≢true (sym refits.0))
in_place_unmoved m k n h heap end block old new (Some items) refits = refl

pub resize_refitted : (m k n : AddressMap) (heap block change total : ℕ) → IsSoundMap m → is_some (find_heap heap (store_of m).heaps) ≡ true
    → has_image block (regions m) ≡ false → live_total block (heap + 16) (items_at m heap) ≡ Some total → 4 < changed_by total change
    → anchor_among (store_of m).anchor (block - 4 + round_up_8 (changed_by total change)) (total - round_up_8 (changed_by total change)) ≡ false
    → Forgets m k block total (block - 4 + round_up_8 (changed_by total change))
    → Refits k n heap (end_at k heap) true (resized_in_place block (heap + end_at k heap) (round_up_8 (changed_by total change)) (heap + 16) (items_at k heap))
    → IsResized m n heap block change (Ok block) 0
resize_refitted m k n heap block change total state is own live more uncut f refits =
    let t : IsThere m heap = is_there m heap is in
    let h : HeapList = part_at t.kind m heap t.end in
    let new : ℕ = round_up_8 (changed_by total change) in
    let test : nat_le (changed_by total change) 4 ≡ false = lt-leb (changed_by total change) 4 more in
    let limit : end_at m heap ≡ t.end = (heap_of-part t.kind m heap t.end state.sound t.found).limit in
    let same : Refits k n heap (end_at m heap) true (resized_in_place block (heap + end_at m heap) new (heap + 16) (items_at m heap)) =
    subst (λ (g : ℕ → ℕ). Refits k n heap (word_at g (heap + 12)) true
    (resized_in_place block (heap + word_at g (heap + 12)) new (heap + 16) (items_in (word_at g) heap))) f.bytes refits in
    let here : Refits k n heap t.end true (resized_in_place block (heap + t.end) new (heap + 16) (items_at m heap)) =
    subst (λ (e : ℕ). Refits k n heap e true (resized_in_place block (heap + e) new (heap + 16) (items_at m heap))) limit same in
    let g = in_place_given m k n t.kind heap t.end block total new (resized_in_place block (heap + t.end) new (heap + 16) (items_at m heap)) state t.found
    (image_recorded m block ∙ own) live (omega (arith, more)) uncut f refl here in
    let none = in_place_unmoved m k n h heap t.end block total new (resized_in_place block (heap + t.end) new (heap + 16) (items_at m heap)) here in
    record {
      store = rw (by_total m heap block change t (Some total) (asked_live m heap block total own live), test) g.0;
      kept = g.1;
      probes = sym (rw (test, none) at (probes_by_total m heap block change t (Some total) (asked_live m heap block total own live)));
    }

-- it cannot stay where it is
pub unrefitted : (m n : AddressMap) (heap end : ℕ) (o : Option (List Item)) → Refits m n heap end false o → (o ≡ None) × (n ≡ m)
unrefitted m n heap end None refits = (refl, refits.1)
unrefitted m n heap end (Some items) refits = absurd (false≢true refits.0)

refitted_none : (room new old : ℕ) (xs : List Item) → items_after_refit room new old xs ≡ None → old < new
refitted_none room new old xs none = elim (cases_Bool (nat_le new old)) [
  | inl less ↦ let none' = rw less at none in absurd (let some = none' in cc)
  | inr more ↦ leb-false new old more
]

pub larger_where_none : (block end new at total : ℕ) (xs : List Item) → live_total block at xs ≡ Some total → resized_in_place block end new at xs ≡ None → total < new
larger_where_none block end new at total [] live none = absurd (let nothing : None ≡ Some total = live in cc)
larger_where_none block end new at total (Live t ∷ xs) live none = elim (cases_Bool (at + 4 == block)) [
  | inl here ↦
      let live' = rw here at live in
      let same : t ≡ total = cc in
      subst (λ (n : ℕ). n < new) same (refitted_none (end - at) new t xs (rw here at none))
  | inr other ↦ larger_where_none block end new (at + t) total xs (rw other at live) (map_none (λ ys. Live t ∷ ys) (resized_in_place block end new (at + t) xs) (rw other at none))
]
larger_where_none block end new at total (Free t ∷ xs) live none =
    larger_where_none block end new (at + t) total xs live (map_none (λ ys. Free t ∷ ys) (resized_in_place block end new (at + t) xs) none)

pub in_place_shown : (m k n : AddressMap) (heap block total needed : ℕ) (done : Bool) → live_total block (heap + 16) (items_at m heap) ≡ Some total
    → Forgets m k block total (block - 4 + needed) → (total ≤ needed → k ≡ m) → RefitsBlock k n heap block needed done
    → ResizesInPlace m n heap block needed done
in_place_shown m k n heap block total needed true live f same refits =
    record { between = k; own = total; live = live; forgets = f; refits = refits }
in_place_shown m k n heap block total needed false live f same refits =
    let un = unrefitted k n heap (end_at k heap) _ refits in
    let none : resized_in_place block (heap + end_at m heap) needed (heap + 16) (items_at m heap) ≡ None =
    subst (λ (g : ℕ → ℕ). resized_in_place block (heap + word_at g (heap + 12)) needed (heap + 16) (items_in (word_at g) heap) ≡ None) f.bytes un.0 in
    let larger : total < needed = larger_where_none block (heap + end_at m heap) needed (heap + 16) total (items_at m heap) live none in
    (none, un.1 ∙ same (omega (arith, larger)))

pub resize_moved : (m n : AddressMap) (heap block change total more : ℕ) (answer : Result ℕ ErrorNumber) → IsSound (store_of m)
    → is_some (find_heap heap (store_of m).heaps) ≡ true → has_image block (regions m) ≡ false
    → live_total block (heap + 16) (items_at m heap) ≡ Some total → 4 < changed_by total change
    → resized_in_place block (heap + end_at m heap) (round_up_8 (changed_by total change)) (heap + 16) (items_at m heap) ≡ None → holds_anchor (store_of m).anchor block (Some total) ≡ false
    → ((h : HeapList) → find_heap heap (store_of m).heaps ≡ Some h
    → Gives (store_of m) (store_after_move (store_of m) h block total (round_up_8 (changed_by total change))) answer (store_of n))
    → KeepsRest m n
    → ((h : HeapList) → find_heap heap (store_of m).heaps ≡ Some h
    → more ≡ move_probes (store_of m) h block total (round_up_8 (changed_by total change)) (claim_in_items (round_up_8 (changed_by total change)) (h.end - 16) h.items))
    → IsResized m n heap block change answer more
resize_moved m n heap block change total more answer sound is own live large none free store kept probes =
    let t : IsThere m heap = is_there m heap is in
    let h : HeapList = part_at t.kind m heap t.end in
    let new : ℕ = round_up_8 (changed_by total change) in
    let test : nat_le (changed_by total change) 4 ≡ false = lt-leb (changed_by total change) 4 large in
    let limit : end_at m heap ≡ t.end = (heap_of-part t.kind m heap t.end sound t.found).limit in
    let none' : resized_in_place block (heap + t.end) new (heap + 16) (items_at m heap) ≡ None =
    subst (λ (e : ℕ). resized_in_place block (heap + e) new (heap + 16) (items_at m heap) ≡ None) limit none in
    record {
      store = rw (by_total m heap block change t (Some total) (asked_live m heap block total own live), test, none', free) (store h t.found);
      kept = kept;
      probes = ap (λ (k : ℕ). begun_below block (heap + 16) (items_at m heap) + k) (probes h t.found)
          ∙ sym (rw (test, none', free) at (probes_by_total m heap block change t (Some total) (asked_live m heap block total own live)));
    }

-- what the tests for anchors show
pub anchor_shown : (m : AddressMap) (heap block total : ℕ) (answer t : Bool) → live_total block (heap + 16) (items_at m heap) ≡ Some total
    → answer ≡ has_anchor_in m heap block → answer ≡ t → holds_anchor (store_of m).anchor block (Some total) ≡ t
unfolding store_of
anchor_shown m heap block total answer t live e is = ap (λ (o : Option ℕ). holds_anchor (anchor_of m) block o) (sym live) ∙ sym e ∙ is

pub cut_shown : (m : AddressMap) (at len : ℕ) (answer t : Bool) → answer ≡ anchor_among (anchor_of m) at len → answer ≡ t
    → anchor_among (store_of m).anchor at len ≡ t
unfolding store_of
cut_shown m at len answer t e is = sym e ∙ is

pub below_all : (m : AddressMap) (heap block total : ℕ) → IsHeapIn (bytes_of m) heap (end_at m heap) (items_at m heap)
    → live_total block (heap + 16) (items_at m heap) ≡ Some total → block + total < 2 ^ 32
below_all m heap block total heap_is live =
    let lies : LiveBytes block total (heap + 16) (heap + 16 + size_of (items_at m heap)) =
    law_live_bytes block total (heap + 16) (items_at m heap) heap_is.totals live in
    omega (arith, lies.high, heap_is.inside, heap_below m heap (end_at m heap) (items_at m heap) heap_is)

-- an anchor is in the way: of a release, of a cut, or of a move
abbrev pub IsRefused : AddressMap → ℕ → ℕ → ℕ → Type 0
IsRefused m heap block change = (store_after_resize (store_of m) heap block change ≡ Err HeapHoldsAnchor)
    × (resize_probes (store_of m) heap block change ≡ begun_below block (heap + 16) (items_at m heap))

pub held_released : (s : Store) (heap block : ℕ) (h : HeapList) (total : ℕ) → find_heap heap s.heaps ≡ Some h → has_image block s.others ≡ false
    → live_total block (h.start + 16) h.items ≡ Some total → holds_anchor s.anchor block (Some total) ≡ true → gave_back s heap block ≡ Err HeapHoldsAnchor
unfolding gave_back
held_released s heap block h total found own live held = rw (found, own, live, held) (by_list (items_after_release block (h.start + 16) h.items) refl) where
  by_list : (o : Option (List Item)) → items_after_release block (h.start + 16) h.items ≡ o
      → (let left : List Item → Result (Store × Unit {0}) ErrorNumber = λ items. Err HeapHoldsAnchor in bind (ok_or o HeapNotABlock) left ≡ Err HeapHoldsAnchor)
  by_list (Some items) is = refl
  by_list None is =
      let none : live_total block (h.start + 16) h.items ≡ None = unreleased block (h.start + 16) h.items is in
      absurd (let no : None ≡ Some total = sym none ∙ live in cc)

pub held_freed : (m : AddressMap) (heap block change total : ℕ) → is_some (find_heap heap (store_of m).heaps) ≡ true
    → has_image block (regions m) ≡ false → live_total block (heap + 16) (items_at m heap) ≡ Some total → changed_by total change ≤ 4
    → holds_anchor (store_of m).anchor block (Some total) ≡ true → IsRefused m heap block change
held_freed m heap block change total is own live few held =
    let t : IsThere m heap = is_there m heap is in
    let test : nat_le (changed_by total change) 4 ≡ true = le-leb (changed_by total change) 4 few in
    let some = asked_live m heap block total own live in
    let refused : gave_back (store_of m) heap block ≡ Err HeapHoldsAnchor =
    held_released (store_of m) heap block (part_at t.kind m heap t.end) total t.found (image_recorded m block ∙ own) live held in (
      rw (by_total m heap block change t (Some total) some, test, refused) refl,
      omega (arith, (rw test at (probes_by_total m heap block change t (Some total) some))),
    )

-- what has an anchor isn't empty
among_few : (anchor : ℕ → Bool) (at old new : ℕ) → anchor_among anchor at (old - new) ≡ true → new < old
among_few anchor at old new held = elim (cases_lt new old) [
  | inl smaller ↦ smaller
  | inr none ↦ absurd (both_ways (anchor_among anchor at (old - new)) (among_none anchor at (old - new) (λ a low high. absurd (omega (arith, low, high)))) held)
]

cut_refused : (s : Store) (h : HeapList) (block old new : ℕ) (o : Option (List Item)) → (o ≡ None → old < new) → new < old
    → anchor_among s.anchor (block - 4 + new) (old - new) ≡ true
    → (resized_or_moved s h block old new o ≡ Err HeapHoldsAnchor) × (refit_probes s h block old new o ≡ 0)
cut_refused s h block old new None larger smaller held = let more : old < new = larger refl in absurd (omega arith)
cut_refused s h block old new (Some items) larger smaller held = (rw held refl, refl)

pub held_cut : (m : AddressMap) (heap block change total : ℕ) → is_some (find_heap heap (store_of m).heaps) ≡ true
    → has_image block (regions m) ≡ false → live_total block (heap + 16) (items_at m heap) ≡ Some total → 4 < changed_by total change
    → anchor_among (store_of m).anchor (block - 4 + round_up_8 (changed_by total change)) (total - round_up_8 (changed_by total change)) ≡ true
    → IsRefused m heap block change
held_cut m heap block change total is own live large held =
    let t : IsThere m heap = is_there m heap is in
    let new : ℕ = round_up_8 (changed_by total change) in
    let test : nat_le (changed_by total change) 4 ≡ false = lt-leb (changed_by total change) 4 large in
    let some = asked_live m heap block total own live in
    let o : Option (List Item) = resized_in_place block (heap + t.end) new (heap + 16) (items_at m heap) in
    let cut = cut_refused (store_of m) (part_at t.kind m heap t.end) block total new o
    (λ none. larger_where_none block (heap + t.end) new (heap + 16) total (items_at m heap) live none)
    (among_few (store_of m).anchor (block - 4 + new) total new held) held in (
      rw (by_total m heap block change t (Some total) some, test) cut.0,
      omega (arith, (rw (test, cut.1) at (probes_by_total m heap block change t (Some total) some))),
    )

pub held_moved : (m : AddressMap) (heap block change total : ℕ) → IsSound (store_of m) → is_some (find_heap heap (store_of m).heaps) ≡ true
    → has_image block (regions m) ≡ false → live_total block (heap + 16) (items_at m heap) ≡ Some total → 4 < changed_by total change
    → resized_in_place block (heap + end_at m heap) (round_up_8 (changed_by total change)) (heap + 16) (items_at m heap) ≡ None
    → holds_anchor (store_of m).anchor block (Some total) ≡ true → IsRefused m heap block change
held_moved m heap block change total sound is own live large none held =
    let t : IsThere m heap = is_there m heap is in
    let new : ℕ = round_up_8 (changed_by total change) in
    let test : nat_le (changed_by total change) 4 ≡ false = lt-leb (changed_by total change) 4 large in
    let limit : end_at m heap ≡ t.end = (heap_of-part t.kind m heap t.end sound t.found).limit in
    let none' : resized_in_place block (heap + t.end) new (heap + 16) (items_at m heap) ≡ None =
    subst (λ (e : ℕ). resized_in_place block (heap + e) new (heap + 16) (items_at m heap) ≡ None) limit none in
    let some = asked_live m heap block total own live in (
      rw (by_total m heap block change t (Some total) some, test, none', held) refl,
      omega (arith, (rw (test, none', held) at (probes_by_total m heap block change t (Some total) some))),
    )

-- the counts are small
free_small : (xs : List Item) → AreTotals xs → free_count xs ≤ size_of xs
free_small [] totals = omega arith
free_small (Live t ∷ xs) totals = omega (arith, free_small xs totals.1)
free_small (Free t ∷ xs) totals = omega (arith, free_small xs totals.1, total_facts t totals.0)

pub move_few : (m : AddressMap) (heap block old new more : ℕ) → IsSound (store_of m) → is_some (find_heap heap (store_of m).heaps) ≡ true
    → ((h : HeapList) → find_heap heap (store_of m).heaps ≡ Some h → more ≡ move_probes (store_of m) h block old new (claim_in_items new (h.end - 16) h.items))
    → more ≤ 2 * 2 ^ 26
move_few m heap block old new more sound is probes =
    let t : IsThere m heap = is_there m heap is in
    let h : HeapList = part_at t.kind m heap t.end in
    let i : IsHeapIn (bytes_of m) heap t.end (items_at m heap) = heap_of-part t.kind m heap t.end sound t.found in
    let top : heap + t.end ≤ 2 ^ 26 = heap_below m heap t.end (items_at m heap) i in
    omega (arith, probes h t.found, move_most (store_of m) h block old new (claim_in_items new (h.end - 16) h.items) (claim_no_more new (h.end - 16) h.items), free_small (items_at m heap) i.totals, i.inside)
