-- A store whose module area was tidied is sound.
use Rattle.std.proofs.Common.{ℕ, Bool, false, ◌+◌, ◌-◌, ◌%◌, ◌^◌, ◌≡◌, ◌≤◌, List, Some, refl, inl, inr, arith}
use Rattle.std.proofs.lemmas.Bool.{both_ways}
use Rattle.std.proofs.lemmas.List.{length-map}
use Rattle.address_map.proofs.Stores.{in_range-cases}
use Rattle.address_map.specs.Bytes.{Bytes, in_range}
use Rattle.address_map.specs.Moves.{moved_region}
use Rattle.address_map.specs.declared.region.Region.{Region}
use Rattle.os_heap_words.specs.lists.Heap.{HeapList, IsHeapIn}
use Rattle.os_heap.proofs.Anchored.{place_held}
use Rattle.os_heap.proofs.Found.{found_heap}
use Rattle.os_heap.proofs.Stores.{AreOthers, are_others, places-held, same_limits}
use Rattle.os_heap.specs.Store.{IsSound, Store, find_heap}
use Rattle.rma.proofs.HeapSlideLemmas.Beside.{AreBeside, KeepsBytes, heaps_beside, heaps_stay, parts_beside}
use Rattle.rma.proofs.HeapSlideLemmas.Ending.{moved_flex, slide_keeps}
use Rattle.rma.proofs.HeapSlideLemmas.KeptBlocks.{bytes_fixed}
use Rattle.rma.proofs.HeapSlideLemmas.LawLemmas.{slid_totals, slide_fits}
use Rattle.rma.proofs.HeapSlideLemmas.Records.{IsSlide, all_placed, moves_in, ranges_apart, slid_in}
use Rattle.rma.specs.heap_slide.Slide.{HoldNoAnchor, HoldNoHeap, is_listed, slid_bytes, with_slid}
use Rattle.swi_dispatch_guest.proofs.NameLemmas.{slid_outside}
use Rattle.law_machine.proofs.SlidingStoresLemmas.Spelling.{heap_spelled}

module _ (s : Store) (h : HeapList) (movable : List ℕ) (sound : IsSound s) (found : find_heap h.start s.heaps ≡ Some h) (free : HoldNoAnchor s h movable)
    (empty : HoldNoHeap s.heaps h movable) (low : h.start + h.end ≤ 2 ^ 26) where
  mv : ℕ → Bool
  mv = is_listed movable

  old : IsHeapIn s.bytes h.start h.end h.items
  old = found_heap s.bytes h.start s.heaps h sound.heaps found

  after : Bytes
  after = (with_slid s h movable).bytes

  new : IsHeapIn after h.start h.end (slid_in h movable)
  unfolding mv old after
  new =
      let first : ℕ = h.start + 16 in
      let fits = slide_fits (is_listed movable) first first h.items (omega arith) in
      let zero : (first - first) % 8 ≡ 0 = (let none : first - first ≡ 0 = omega arith in rw none refl) in
      heap_spelled s.bytes (slid_bytes (is_listed movable) first first h.items s.bytes.at) h.start h.end h.items (slid_in h movable) old
      (slid_totals (is_listed movable) first first h.items (omega arith) zero old.totals) fits.0 (omega (arith, fits.1, old.inside)) low

  slide : IsSlide s.bytes after h movable
  slide = record { old = old; new = new }

  others : AreOthers h s.heaps
  others = are_others s.bytes h.start s.heaps h sound.heaps found

  beyond : (a : ℕ) → in_range h.start h.end a ≡ false → after.at a ≡ s.bytes.at a
  unfolding after old
  beyond a out = slid_outside s h movable a old.aligned old.totals old.inside (elim (in_range-cases h.start h.end a) [
    | inl r ↦ absurd (both_ways (in_range h.start h.end a) out r.0)
    | inr r ↦ r.1
  ])

  beside : AreBeside after h s.heaps
  unfolding after old
  beside =
      let kept : KeepsBytes s.bytes after h movable = record {
        mapped = refl;
        beyond = beyond;
        fixed = bytes_fixed s h movable old.aligned old.totals;
      } in
      heaps_beside s.bytes after h movable s.heaps kept empty others sound.heaps

  pub sound_slid : IsSound (with_slid s h movable)
  unfolding mv old after
  sound_slid = record {
    heaps = parts_beside s.bytes after h (slid_in h movable) s.heaps new beside others
        (heaps_stay s.bytes h movable s.heaps old.totals sound.heaps empty) sound.heaps;
    limits = same_limits s.heaps _ (places-held h.start (slid_in h movable) s.heaps) sound.limits;
    placed = all_placed s.bytes after h s.heaps movable s.others slide sound.heaps others empty found sound.placed;
    apart = ranges_apart s.bytes after h s.heaps movable s.others slide found sound.placed sound.apart;
    few = rw (length-map s.others (λ (r : Region). moved_region (moves_in h movable) r)) sound.few;
    anchors = λ a is. (
      (sound.anchors a is).0,
      place_held h (slid_in h movable) s.heaps a others
          (slide_keeps s.anchor (is_listed movable) (h.start + 16) h.items old.totals free a is) (sound.anchors a is).1,
    );
    headers = λ a is. moved_flex (moves_in h movable) s.others a (sound.headers a is);
  }
