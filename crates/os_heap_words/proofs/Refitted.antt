-- What a change of a block's total in place answers, and the heap then.
use Rattle.std.proofs.Common.{sym, ◌-◌, ◌+◌, ◌≡◌, refl, List, ◌++◌, ℕ, true, Some, false, None, arith, subst, ◌∙◌, ap, option_map, ◌∷◌, [], ◌≤◌, ◌<◌, ◌≢◌}
use Rattle.address_map.specs.Bytes.{word_at}
use Rattle.address_map.specs.Items.{size_of, is_head, is_total}
use Rattle.address_map.specs.Memory.{bytes_of, byte_at, layout, class_of}
use Rattle.address_map.specs.declared.item.Item.{Item}
use Rattle.address_map.specs.declared.item.Item.TheVariants.{Live, Free}
use Rattle.address_map.specs.declared.map.AddressMap.{AddressMap}
use Rattle.os_heap_words.proofs.ListsLemmas.ItemWalk.{glued_none, rest_none, glued_free, rest_live, glued_some}
use Rattle.os_heap_words.proofs.ListsLemmas.Marks.{unmarked}
use Rattle.os_heap_words.proofs.ListsLemmas.Reading.{total_facts}
use Rattle.os_heap_words.proofs.ListsLemmas.Resizes.{live_total-at, in_place-at, fewer, last_some, last_none, left_some, grown_some, left_none, grown_none, grown_blocked}
use Rattle.os_heap_words.proofs.ListsLemmas.Spelling.{total_of-numbers, totals-front}
use Rattle.os_heap_words.specs.lists.Heap.{IsHeapIn, begins_live, AreTotals, Spells, next_free, AreSpaced}
use Rattle.os_heap_words.specs.lists.Lists.{live_total, resized_in_place, items_after_refit, left_free, items_with_gap}
use Rattle.os_heap_words.specs.lists.Marks.{Remarks}
use Rattle.os_heap_words.specs.lists.Walks.{IsBlock, last_link}
use Rattle.os_heap_words.specs.lists.Words.{IsWordWritten, IsDivided, link_at}
use Rattle.os_heap_words.proofs.Freeing.{NextFree}
use Rattle.os_heap_words.proofs.Refitting.{rebased, place_facts, PlaceFacts, divided, swallowed}
use Rattle.os_heap_words.specs.Outcomes.{IsHeapAt, items_at, Refits, Becomes}

-- the total of the block that a walk comes to, and what a change of it in place makes of a list
pub block_total : (m : AddressMap) (start end block from at free gap : ℕ) → IsHeapAt m start end
    → (b : IsBlock start (items_at m start) block from at free gap) → live_total block (start + 16) (items_at m start) ≡ Some b.total
block_total m start end block from at free gap heap b =
    let totals : AreTotals ((b.before ++ left_free gap) ++ Live b.total ∷ b.rest) = subst AreTotals b.split heap.totals in
    ap (live_total block (start + 16)) b.split
    ∙ live_total-at block (start + 16) at b.total (b.before ++ left_free gap) b.rest (totals-front (b.before ++ left_free gap) (Live b.total ∷ b.rest) totals) b.place b.here

pub block_in_place : (m : AddressMap) (start end limit new block from at free gap : ℕ) → IsHeapAt m start end
    → (b : IsBlock start (items_at m start) block from at free gap)
    → resized_in_place block limit new (start + 16) (items_at m start)
    ≡ option_map (λ ys. (b.before ++ left_free gap) ++ ys) (items_after_refit (limit - at) new b.total b.rest)
block_in_place m start end limit new block from at free gap heap b =
    let totals : AreTotals ((b.before ++ left_free gap) ++ Live b.total ∷ b.rest) = subst AreTotals b.split heap.totals in
    ap (resized_in_place block limit new (start + 16)) b.split
    ∙ in_place-at block limit new (start + 16) at b.total (b.before ++ left_free gap) b.rest
    (totals-front (b.before ++ left_free gap) (Live b.total ∷ b.rest) totals) b.place b.here

-- whether it could be done
done : (m n : AddressMap) (start end limit new block from at free gap : ℕ) → IsHeapAt m start end → (b : IsBlock start (items_at m start) block from at free gap)
    → (ys : List Item) → items_after_refit (limit - at) new b.total b.rest ≡ Some ys → Becomes m n start end ((b.before ++ left_free gap) ++ ys)
    → Refits m n start end true (resized_in_place block limit new (start + 16) (items_at m start))
done m n start end limit new block from at free gap heap b ys some becomes =
    rw (block_in_place m start end limit new block from at free gap heap b, some) (refl, becomes)

not_done : (m : AddressMap) (start end limit new block from at free gap : ℕ) → IsHeapAt m start end → (b : IsBlock start (items_at m start) block from at free gap)
    → items_after_refit (limit - at) new b.total b.rest ≡ None → Refits m m start end false (resized_in_place block limit new (start + 16) (items_at m start))
not_done m start end limit new block from at free gap heap b none =
    rw (block_in_place m start end limit new block from at free gap heap b, none) (refl, refl)

-- the total stays
pub refits_same : (m : AddressMap) (start end limit new block from at free gap : ℕ) → IsHeapAt m start end
    → (b : IsBlock start (items_at m start) block from at free gap) → new ≡ b.total
    → Refits m m start end true (resized_in_place block limit new (start + 16) (items_at m start))
refits_same m start end limit new block from at free gap heap b same =
    let kept : Live new ∷ items_with_gap (b.total - new) b.rest ≡ Live b.total ∷ b.rest =
    ap (λ (ys : List Item). Live new ∷ ys) (glued_none (b.total - new) b.rest (omega arith)) ∙ ap (λ (n : ℕ). Live n ∷ b.rest) same in
    done m m start end limit new block from at free gap heap b (Live b.total ∷ b.rest)
    (fewer (limit - at) new b.total b.rest (omega arith) ∙ ap (λ (ys : List Item). Some ys) kept)
    (record {
      heap = subst (λ (ys : List Item). IsHeapIn (bytes_of m) start end ys) b.split heap;
      same = refl;
      others = λ a head out. refl;
      marks = unmarked (class_of m) (class_of m) (start + 16) (items_at m start) ((b.before ++ left_free gap) ++ Live b.total ∷ b.rest) (λ a. refl)
          (λ p. ap (λ (ys : List Item). is_head (start + 16) ys p) (sym b.split));
    })

-- the block is the last
pub refits_last : (m n : AddressMap) (start end new block from at free gap : ℕ) (g : ℕ → ℕ) → IsHeapAt m start end
    → (b : IsBlock start (items_at m start) block from at free gap) → at + b.total ≡ start + word_at (byte_at m) (start + 8)
    → layout n ≡ layout m → is_total new ≡ true → at + new ≤ start + end
    → IsWordWritten (byte_at m) g at new → IsWordWritten g (byte_at n) (start + 8) (at + new - start) → class_of n ≡ class_of m
    → Refits m n start end true (resized_in_place block (start + end) new (start + 16) (items_at m start))
refits_last m n start end new block from at free gap g heap b ends same total room one two kept =
    let front : List Item = b.before ++ left_free gap in
    let f : PlaceFacts m start end from at gap b.total front b.rest = place_facts m start end block from at free gap heap b in
    let none : b.rest ≡ [] = rest_none start at b.total (start + word_at (byte_at m) (start + 8)) b.rest f.facts.totals f.facts.base ends in
    let one' = rw b.place at one in
    let base : at + new - start ≡ 16 + size_of front + new = omega (arith, b.place) in
    let two' = rw base at two in
    let heap' : IsHeapIn (bytes_of m) start end (front ++ Live b.total ∷ []) =
    subst (λ (ys : List Item). IsHeapIn (bytes_of m) start end (front ++ Live b.total ∷ ys)) none f.heap in
    done m n start end (start + end) new block from at free gap heap b (Live new ∷ [])
    (ap (items_after_refit (start + end - at) new b.total) none ∙ last_some (start + end - at) new b.total (omega arith))
    (rebased m n start end front b.total new g heap' same total (omega (arith, b.place)) one' two' kept)

pub refits_last-full : (m : AddressMap) (start end new block from at free gap : ℕ) → IsHeapAt m start end
    → (b : IsBlock start (items_at m start) block from at free gap) → at + b.total ≡ start + word_at (byte_at m) (start + 8)
    → start + end < at + new
    → Refits m m start end false (resized_in_place block (start + end) new (start + 16) (items_at m start))
refits_last-full m start end new block from at free gap heap b ends full =
    let front : List Item = b.before ++ left_free gap in
    let f : PlaceFacts m start end from at gap b.total front b.rest = place_facts m start end block from at free gap heap b in
    let none : b.rest ≡ [] = rest_none start at b.total (start + word_at (byte_at m) (start + 8)) b.rest f.facts.totals f.facts.base ends in
    not_done m start end (start + end) new block from at free gap heap b
    (ap (items_after_refit (start + end - at) new b.total) none ∙ last_none (start + end - at) new b.total (omega (arith, f.facts.low, f.facts.high)) (omega (arith, f.facts.high)))

-- a free item is written behind the block
parted : (m n : AddressMap) (start end new left next block from at free gap : ℕ) (xs gone : List Item) → IsHeapAt m start end
    → (b : IsBlock start (items_at m start) block from at free gap) → layout n ≡ layout m → is_total new ≡ true → is_total left ≡ true
    → b.total + size_of b.rest ≡ new + (left + size_of xs) → AreTotals xs → AreSpaced xs → begins_live xs ≡ true
    → Spells (word_at (byte_at m)) (at + new + left) xs 0 → next ≡ next_free (at + new + left) xs 0
    → IsDivided (byte_at m) (byte_at n) start (last_link from at gap) at new left next
    → Live b.total ∷ b.rest ≡ gone ++ xs → Remarks (class_of m) (class_of n) at gone (Live new ∷ (Free left ∷ []))
    → Becomes m n start end ((b.before ++ left_free gap) ++ Live new ∷ (Free left ∷ xs))
parted m n start end new left next block from at free gap xs gone heap b same total left_total size totals spaced live spelled onward one split change =
    let front : List Item = b.before ++ left_free gap in
    let f : PlaceFacts m start end from at gap b.total front b.rest = place_facts m start end block from at free gap heap b in
    let spelled' = rw b.place at spelled in
    let one' = rw (f.link, onward, b.place) at one in
    divided m n start end front b.rest xs gone b.total new left f.heap same total left_total size totals spaced live spelled' one' split (rw b.place at change)

-- bytes are cut off, and join a free item
pub refits_joined : (m n : AddressMap) (start end limit new next block from at free gap : ℕ) → IsHeapAt m start end
    → (b : IsBlock start (items_at m start) block from at free gap) → (k : NextFree m start end (at + b.total) b.rest) → layout n ≡ layout m
    → is_total new ≡ true → new < b.total → next ≡ next_free (at + b.total + k.total) k.after 0
    → IsDivided (byte_at m) (byte_at n) start (last_link from at gap) at new (b.total - new + k.total) next
    → Remarks (class_of m) (class_of n) at (Live b.total ∷ (Free k.total ∷ [])) (Live new ∷ (Free (b.total - new + k.total) ∷ []))
    → Refits m n start end true (resized_in_place block limit new (start + 16) (items_at m start))
refits_joined m n start end limit new next block from at free gap heap b k same total less onward one change =
    let left : ℕ = b.total - new + k.total in
    let f : PlaceFacts m start end from at gap b.total (b.before ++ left_free gap) b.rest = place_facts m start end block from at free gap heap b in
    let place : at + b.total + k.total ≡ at + new + left = omega arith in
    let totals : AreTotals (Free k.total ∷ k.after) = subst AreTotals k.split f.facts.totals in
    let spaced : AreSpaced (Free k.total ∷ k.after) = subst AreSpaced k.split f.facts.spaced in
    let spelled : Spells (word_at (byte_at m)) (at + b.total) (Free k.total ∷ k.after) 0 =
    subst (λ (ys : List Item). Spells (word_at (byte_at m)) (at + b.total) ys 0) k.split f.facts.spelled in
    let size : size_of b.rest ≡ k.total + size_of k.after = ap size_of k.split in
    done m n start end limit new block from at free gap heap b (Live new ∷ (Free left ∷ k.after))
    (ap (items_after_refit (limit - at) new b.total) k.split ∙ fewer (limit - at) new b.total (Free k.total ∷ k.after) (omega arith)
    ∙ ap (λ (ys : List Item). Some (Live new ∷ ys)) (glued_free (b.total - new) k.total k.after))
    (parted m n start end new left next block from at free gap k.after (Live b.total ∷ (Free k.total ∷ [])) heap b same total
    (total_of-numbers left (omega (arith, k.facts.size)) (omega (arith, (total_facts new total).1, f.facts.eighths, k.facts.eighths)))
    (omega arith) totals.1 spaced.1 spaced.0 (subst (λ (p : ℕ). Spells (word_at (byte_at m)) p k.after 0) place spelled.1.1)
    (onward ∙ ap (λ (p : ℕ). next_free p k.after 0) place) one (ap (λ (ys : List Item). Live b.total ∷ ys) k.split) change)

-- bytes are cut off, and a block stands behind them
pub refits_alone : (m n : AddressMap) (start end limit new block from at free gap : ℕ) → IsHeapAt m start end
    → (b : IsBlock start (items_at m start) block from at free gap)
    → at + b.total ≢ start + word_at (byte_at m) (start + 8) → at + b.total ≢ free → layout n ≡ layout m
    → is_total new ≡ true → new < b.total
    → IsDivided (byte_at m) (byte_at n) start (last_link from at gap) at new (b.total - new) free
    → Remarks (class_of m) (class_of n) at (Live b.total ∷ []) (Live new ∷ (Free (b.total - new) ∷ []))
    → Refits m n start end true (resized_in_place block limit new (start + 16) (items_at m start))
refits_alone m n start end limit new block from at free gap heap b inside other same total less one change =
    let left : ℕ = b.total - new in
    let f : PlaceFacts m start end from at gap b.total (b.before ++ left_free gap) b.rest = place_facts m start end block from at free gap heap b in
    let live = rest_live at b.total (start + word_at (byte_at m) (start + 8)) free b.rest b.next other inside f.facts.base in
    let place : at + b.total ≡ at + new + left = omega arith in
    let some : left ≢ 0 = λ (e : left ≡ 0). omega arith in
    done m n start end limit new block from at free gap heap b (Live new ∷ (Free left ∷ b.rest))
    (fewer (limit - at) new b.total b.rest (omega arith)
    ∙ ap (λ (ys : List Item). Some (Live new ∷ ys)) (glued_some left b.rest some ∙ live.1 left))
    (parted m n start end new left free block from at free gap b.rest (Live b.total ∷ []) heap b same total
    (total_of-numbers left (omega (arith, (total_facts new total).1, f.facts.eighths)) (omega (arith, (total_facts new total).1, f.facts.eighths)))
    (omega arith) f.facts.totals f.facts.spaced live.0 (subst (λ (p : ℕ). Spells (word_at (byte_at m)) p b.rest 0) place f.facts.spelled)
    (b.next ∙ ap (λ (p : ℕ). next_free p b.rest 0) place) one refl change)

-- the front of a free item is added
pub refits_part : (m n : AddressMap) (start end limit new next block from at free gap : ℕ) → IsHeapAt m start end
    → (b : IsBlock start (items_at m start) block from at free gap) → (k : NextFree m start end (at + b.total) b.rest) → layout n ≡ layout m
    → is_total new ≡ true → b.total < new → new ≤ b.total + k.total → b.total + k.total - new ≢ 0 → next ≡ next_free (at + b.total + k.total) k.after 0
    → IsDivided (byte_at m) (byte_at n) start (last_link from at gap) at new (b.total + k.total - new) next
    → Remarks (class_of m) (class_of n) at (Live b.total ∷ (Free k.total ∷ [])) (Live new ∷ (Free (b.total + k.total - new) ∷ []))
    → Refits m n start end true (resized_in_place block limit new (start + 16) (items_at m start))
refits_part m n start end limit new next block from at free gap heap b k same total larger fits some onward one change =
    let left : ℕ = b.total + k.total - new in
    let f : PlaceFacts m start end from at gap b.total (b.before ++ left_free gap) b.rest = place_facts m start end block from at free gap heap b in
    let place : at + b.total + k.total ≡ at + new + left = omega arith in
    let totals : AreTotals (Free k.total ∷ k.after) = subst AreTotals k.split f.facts.totals in
    let spaced : AreSpaced (Free k.total ∷ k.after) = subst AreSpaced k.split f.facts.spaced in
    let spelled : Spells (word_at (byte_at m)) (at + b.total) (Free k.total ∷ k.after) 0 =
    subst (λ (ys : List Item). Spells (word_at (byte_at m)) (at + b.total) ys 0) k.split f.facts.spelled in
    let size : size_of b.rest ≡ k.total + size_of k.after = ap size_of k.split in
    done m n start end limit new block from at free gap heap b (Live new ∷ (Free left ∷ k.after))
    (ap (items_after_refit (limit - at) new b.total) k.split ∙ grown_some (limit - at) new b.total k.total k.after larger fits
    ∙ ap (λ (ys : List Item). Some (Live new ∷ ys)) (left_some left k.after some))
    (parted m n start end new left next block from at free gap k.after (Live b.total ∷ (Free k.total ∷ [])) heap b same total
    (total_of-numbers left (omega (arith, (total_facts new total).1, f.facts.eighths, k.facts.eighths)) (omega (arith, (total_facts new total).1, f.facts.eighths, k.facts.eighths)))
    (omega arith) totals.1 spaced.1 spaced.0 (subst (λ (p : ℕ). Spells (word_at (byte_at m)) p k.after 0) place spelled.1.1)
    (onward ∙ ap (λ (p : ℕ). next_free p k.after 0) place) one (ap (λ (ys : List Item). Live b.total ∷ ys) k.split) change)

-- all of a free item is added
pub refits_whole : (m n : AddressMap) (start end limit new next block from at free gap : ℕ) (g : ℕ → ℕ) → IsHeapAt m start end
    → (b : IsBlock start (items_at m start) block from at free gap) → (k : NextFree m start end (at + b.total) b.rest) → layout n ≡ layout m
    → is_total new ≡ true → b.total < new → new ≤ b.total + k.total → b.total + k.total - new ≡ 0 → next ≡ next_free (at + b.total + k.total) k.after 0
    → IsWordWritten (byte_at m) g (link_at start (last_link from at gap)) (next - last_link from at gap) → IsWordWritten g (byte_at n) at new
    → Remarks (class_of m) (class_of n) at (Live b.total ∷ (Free k.total ∷ [])) (Live new ∷ [])
    → Refits m n start end true (resized_in_place block limit new (start + 16) (items_at m start))
refits_whole m n start end limit new next block from at free gap g heap b k same total larger fits none onward one two change =
    let front : List Item = b.before ++ left_free gap in
    let f : PlaceFacts m start end from at gap b.total front b.rest = place_facts m start end block from at free gap heap b in
    let place : at + b.total + k.total ≡ start + 16 + size_of front + new = omega (arith, b.place) in
    let totals : AreTotals (Free k.total ∷ k.after) = subst AreTotals k.split f.facts.totals in
    let spaced : AreSpaced (Free k.total ∷ k.after) = subst AreSpaced k.split f.facts.spaced in
    let spelled : Spells (word_at (byte_at m)) (at + b.total) (Free k.total ∷ k.after) 0 =
    subst (λ (ys : List Item). Spells (word_at (byte_at m)) (at + b.total) ys 0) k.split f.facts.spelled in
    let size : size_of b.rest ≡ k.total + size_of k.after = ap size_of k.split in
    let one' = rw (f.link, onward ∙ ap (λ (p : ℕ). next_free p k.after 0) place) at one in
    let two' = rw b.place at two in
    done m n start end limit new block from at free gap heap b (Live new ∷ k.after)
    (ap (items_after_refit (limit - at) new b.total) k.split ∙ grown_some (limit - at) new b.total k.total k.after larger fits
    ∙ ap (λ (ys : List Item). Some (Live new ∷ ys)) (left_none (b.total + k.total - new) k.after none))
    (swallowed m n start end front b.rest k.after (Live b.total ∷ (Free k.total ∷ [])) b.total new g f.heap same total (omega arith) totals.1 spaced.1
    (subst (λ (p : ℕ). Spells (word_at (byte_at m)) p k.after 0) place spelled.1.1) one' two' (ap (λ (ys : List Item). Live b.total ∷ ys) k.split)
    (rw b.place at change))

-- there is no room
pub refits_full : (m : AddressMap) (start end limit new block from at free gap : ℕ) → IsHeapAt m start end
    → (b : IsBlock start (items_at m start) block from at free gap) → (k : NextFree m start end (at + b.total) b.rest) → b.total + k.total < new
    → Refits m m start end false (resized_in_place block limit new (start + 16) (items_at m start))
refits_full m start end limit new block from at free gap heap b k full =
    not_done m start end limit new block from at free gap heap b
    (ap (items_after_refit (limit - at) new b.total) k.split ∙ grown_none (limit - at) new b.total k.total k.after full)

pub refits_blocked : (m : AddressMap) (start end limit new block from at free gap : ℕ) → IsHeapAt m start end
    → (b : IsBlock start (items_at m start) block from at free gap)
    → at + b.total ≢ start + word_at (byte_at m) (start + 8) → at + b.total ≢ free → b.total < new
    → Refits m m start end false (resized_in_place block limit new (start + 16) (items_at m start))
refits_blocked m start end limit new block from at free gap heap b inside other larger =
    let f : PlaceFacts m start end from at gap b.total (b.before ++ left_free gap) b.rest = place_facts m start end block from at free gap heap b in
    not_done m start end limit new block from at free gap heap b
    (grown_blocked (limit - at) new at b.total (start + word_at (byte_at m) (start + 8)) free b.rest b.next other inside f.facts.base larger)
