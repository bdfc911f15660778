-- Lists of calls, on a heap and on others.
use Rattle.std.proofs.Common.{ℕ, ◌≡◌, ◌==◌, ◌∙◌, true, false, List, [], ◌∷◌, ◌++◌, Some, Result, Ok, Err, refl, sym, ap, subst, inl, inr}
use Rattle.std.proofs.lemmas.Bool.{and_parts, cases_Bool, eqb-true}
use Rattle.profile.specs.ErrorNumber.{ErrorNumber}
use Rattle.profile.specs.declared.reason.HeapReason.{HeapReason}
use Rattle.os_heap_words.specs.lists.Heap.{HeapList}
use Rattle.os_heap.specs.Store.{Store, IsSound, find_heap}
use Rattle.law_machine.proofs.HeapCallsLemmas.DoneCalls.{OnDone, call_done}
use Rattle.law_machine.proofs.HeapCallsLemmas.WholeHeaps.{others_whole}
use Rattle.law_machine.proofs.HeapCallsLemmas.OwnHeaps.{own_kept}
use Rattle.law_machine.proofs.HeapCallsLemmas.Likeness.{bytes_like}
use Rattle.law_machine.proofs.HeapCallsLemmas.NoHeapInside.{whole_alone}
use Rattle.law_machine.proofs.HeapCallsLemmas.OwnCalls.{own_turns}
use Rattle.law_machine.specs.heap_calls.Alone.{Alone, HeapCall, alone_in, call_given}
use Rattle.law_machine.specs.heap_calls.Laws.{AreImagesFull, AreLeftWhole, HasHeapStill, HeapsStandAlone, IsGuestHeap, IsLeftWhole, KeepsHeap, StandsAlone, StoresAnswerAlike}
use Rattle.law_machine.specs.heap_calls.Lists.{AreSound, StoreCall, after, calls_on, given_in, is_call_to, is_on_heap, outcome, replies_on, store_or}
use Rattle.law_machine.specs.heap_calls.Turns.{Reply, HeapTurn, alone_or, alone_then, call_on, heap_after_calls, heap_turn_of_result, replies, reply_of, turn_of_call}

-- a call leaves the other records
others_same : (s : Store) (c : StoreCall) → OnDone (ℕ × ℕ) (λ t. t.others ≡ s.others) (outcome s c)
others_same s c = call_done (λ t. t.others ≡ s.others) s c.heap c.why c.block c.size
    (λ on k start found. record {
      same = refl;
      held = λ items. refl;
      lost = λ block total from items given. refl;
      moved = λ c block old new total items is given. refl;
      ended = λ end clear. refl;
    })
    (λ region none. refl)

-- where a heap is found that is the guest's, and alone is the one given
record IsNow (t : Store) (start : ℕ) (w : Alone) : Type 0 where
  heap : HeapList
  starts : heap.start ≡ start
  guest : IsGuestHeap t heap
  is : alone_in t heap ≡ w

-- after a call on the heap
now_own : (s : Store) (h : HeapList) (why : HeapReason) (block size : ℕ) (r : Result (Store × (ℕ × ℕ)) ErrorNumber) → IsGuestHeap s h → is_on_heap why ≡ true
    → call_on s h.start why block size ≡ r → OnDone (ℕ × ℕ) (λ t. t.others ≡ s.others) r → IsSound (store_or s r)
    → IsNow (store_or s r) h.start (alone_then (alone_in s h) r)
now_own s h why block size (Err e) guest on is others sound = record { heap = h; starts = refl; guest = guest; is = refl }
now_own s h why block size (Ok r) guest on is others sound =
    let still : HasHeapStill r.0 h.start = own_kept s r.0 h why block size r.1 guest on is in
    record {
      heap = still.heap;
      starts = still.starts;
      guest = record {
        sound = sound;
        found = subst (λ (p : ℕ). find_heap p r.0.heaps ≡ Some still.heap) (sym still.starts) still.found;
        own = still.own;
        anchors = still.anchors;
        alone = still.alone;
        images = subst AreImagesFull (sym others) guest.images;
      };
      is = sym (ap (alone_or (alone_in s h) r.0) still.found);
    }

-- and after another
now_other : (s : Store) (h : HeapList) (c : StoreCall) (r : Result (Store × (ℕ × ℕ)) ErrorNumber) → IsGuestHeap s h → is_call_to h.start c.heap c.why ≡ false
    → outcome s c ≡ r → OnDone (ℕ × ℕ) (λ t. t.others ≡ s.others) r → IsSound (store_or s r) → IsLeftWhole (store_or s r) h.start
    → IsNow (store_or s r) h.start (alone_in s h)
now_other s h c (Err e) guest other is others sound left = record { heap = h; starts = refl; guest = guest; is = refl }
now_other s h c (Ok r) guest other is others sound left =
    let kept : KeepsHeap h s r.0 = others_whole s r.0 h c.heap c.why c.block c.size r.1 guest.sound sound guest.found other is left in
    record {
      heap = h;
      starts = refl;
      guest = record {
        sound = sound;
        found = kept.found;
        own = guest.own;
        anchors = λ a here. kept.anchors a here ∙ guest.anchors a here;
        alone = whole_alone r.0 h kept.found left;
        images = subst AreImagesFull (sym others) guest.images;
      };
      is = ap (λ (b : ℕ → ℕ). let w : Alone = record { heap = h; bytes = b } in w) (bytes_like h.start h.end r.0.bytes.at s.bytes.at kept.bytes);
    }

-- the call's own part of the lists
call_step : (s : Store) (h : HeapList) (c : StoreCall) → IsGuestHeap s h
    → given_in s c (find_heap h.start s.heaps) ≡ call_given s h c.why c.block c.size ∷ []
call_step s h c guest = ap (given_in s c) guest.found

stands_first : (s : Store) (h : HeapList) (c : StoreCall) (cs : List StoreCall) → IsGuestHeap s h → is_call_to h.start c.heap c.why ≡ true
    → (let g : HeapCall = call_given s h c.why c.block c.size in let w : Alone = alone_in s h in
    reply_of (outcome s c) ≡ (turn_of_call w g).reply → StandsAlone (after s c) h.start (turn_of_call w g).now cs → StandsAlone s h.start w (c ∷ cs))
stands_first s h c cs guest own reply rest =
    let w : Alone = alone_in s h in
    let g : HeapCall = call_given s h c.why c.block c.size in
    let calls : calls_on s h.start (c ∷ cs) ≡ g ∷ calls_on (after s c) h.start cs =
    rw own (ap (λ (gs : List HeapCall). gs ++ calls_on (after s c) h.start cs) (call_step s h c guest)) in
    let answers : replies_on s h.start (c ∷ cs) ≡ reply_of (outcome s c) ∷ replies_on (after s c) h.start cs = rw own refl in
    record {
      replies = answers
          ∙ ap (λ (x : Reply). x ∷ replies_on (after s c) h.start cs) reply
          ∙ ap (λ (xs : List Reply). (turn_of_call w g).reply ∷ xs) rest.replies
          ∙ sym (ap (replies w) calls);
      still = rest.still;
      now = rest.now ∙ sym (ap (heap_after_calls w) calls);
    }

stands_past : (s : Store) (h : HeapList) (c : StoreCall) (cs : List StoreCall) → is_call_to h.start c.heap c.why ≡ false
    → StandsAlone (after s c) h.start (alone_in s h) cs → StandsAlone s h.start (alone_in s h) (c ∷ cs)
stands_past s h c cs other rest =
    let w : Alone = alone_in s h in
    let calls : calls_on s h.start (c ∷ cs) ≡ calls_on (after s c) h.start cs = rw other refl in
    let answers : replies_on s h.start (c ∷ cs) ≡ replies_on (after s c) h.start cs = rw other refl in
    record {
      replies = answers ∙ rest.replies ∙ sym (ap (replies w) calls);
      still = rest.still;
      now = rest.now ∙ sym (ap (heap_after_calls w) calls);
    }

one_step : (s : Store) (h : HeapList) (c : StoreCall) (cs : List StoreCall) → IsGuestHeap s h → IsSound (after s c)
    → (is_call_to h.start c.heap c.why ≡ false → IsLeftWhole (after s c) h.start)
    → ((w : Alone) → IsNow (after s c) h.start w → StandsAlone (after s c) h.start w cs) → StandsAlone s h.start (alone_in s h) (c ∷ cs)
one_step s h c cs guest sound left rest = elim (cases_Bool (is_call_to h.start c.heap c.why)) [
  | inr other ↦ stands_past s h c cs other
      (rest (alone_in s h) (now_other s h c (outcome s c) guest other refl (others_same s c) sound (left other)))
  | inl own ↦
      let parts = and_parts (is_on_heap c.why) (c.heap == h.start) own in
      let here : c.heap ≡ h.start = eqb-true c.heap h.start parts.1 in
      let w : Alone = alone_in s h in
      let g : HeapCall = call_given s h c.why c.block c.size in
      let turn : heap_turn_of_result w (outcome s c) ≡ turn_of_call w g =
      ap (λ (p : ℕ). heap_turn_of_result w (call_on s p c.why c.block c.size)) here ∙ own_turns s h c.why c.block c.size guest parts.0 in
      let now : IsNow (after s c) h.start (alone_then w (outcome s c)) =
      now_own s h c.why c.block c.size (outcome s c) guest parts.0 (ap (λ (p : ℕ). call_on s p c.why c.block c.size) (sym here)) (others_same s c) sound in
      stands_first s h c cs guest own (ap (λ (x : HeapTurn). x.reply) turn)
      (rest (turn_of_call w g).now (subst (IsNow (after s c) h.start) (ap (λ (x : HeapTurn). x.now) turn) now))
]

-- all of them
stands : (cs : List StoreCall) (s : Store) (h : HeapList) (start : ℕ) (w : Alone) → h.start ≡ start → IsGuestHeap s h → AreSound s cs → AreLeftWhole s start cs
    → alone_in s h ≡ w → StandsAlone s start w cs
stands [] s h start w starts guest sound left is = record {
  replies = refl;
  still = record {
    heap = h;
    starts = starts;
    found = subst (λ (p : ℕ). find_heap p s.heaps ≡ Some h) starts guest.found;
    own = guest.own;
    anchors = guest.anchors;
    alone = guest.alone;
  };
  now = is;
}
stands (c ∷ cs) s h start w starts guest sound left is =
    let left' : AreLeftWhole s h.start (c ∷ cs) = subst (λ (p : ℕ). AreLeftWhole s p (c ∷ cs)) (sym starts) left in
    let own : StandsAlone s h.start (alone_in s h) (c ∷ cs) =
    one_step s h c cs guest sound.0 left'.0 (λ v now. stands cs (after s c) now.heap h.start v now.starts now.guest sound.1 left'.1 now.is) in
    subst (λ (p : ℕ). StandsAlone s p w (c ∷ cs)) starts (subst (λ (v : Alone). StandsAlone s h.start v (c ∷ cs)) is own)

pub stand_alone : HeapsStandAlone
stand_alone s h cs guest sound left = stands cs s h h.start (alone_in s h) refl guest sound left refl

pub answer_alike : StoresAnswerAlike
answer_alike s t h cs ds guest guest' sound sound' left left' same given =
    let one : StandsAlone s h.start (alone_in s h) cs = stand_alone s h cs guest sound left in
    let two : StandsAlone t h.start (alone_in t h) ds = stand_alone t h ds guest' sound' left' in
    let both : replies (alone_in s h) (calls_on s h.start cs) ≡ replies (alone_in t h) (calls_on t h.start ds) =
    ap (λ (w : Alone). replies w (calls_on s h.start cs)) same ∙ ap (replies (alone_in t h)) given in
    let left : heap_after_calls (alone_in s h) (calls_on s h.start cs) ≡ heap_after_calls (alone_in t h) (calls_on t h.start ds) =
    ap (λ (w : Alone). heap_after_calls w (calls_on s h.start cs)) same ∙ ap (heap_after_calls (alone_in t h)) given in
    record {
      replies = one.replies ∙ both ∙ sym two.replies;
      one = one.still;
      two = two.still;
      now = one.now ∙ left ∙ sym two.now;
    }
