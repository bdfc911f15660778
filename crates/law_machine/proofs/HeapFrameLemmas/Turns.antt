-- Flex calls and slides, as turns of the stores.
use Rattle.std.proofs.Common.{ℕ, Bool, true, false, ◌^◌, ◌≡◌, ◌≤◌, ◌⊎◌, ◌∙◌, Option, Some, None, is_some, Result, Ok, Err, refl, sym, ap, subst, inl, inr}
use Rattle.std.proofs.lemmas.Bool.{cases_lt}
use Rattle.address_map.specs.Bytes.{in_range}
use Rattle.profile.specs.Outcome.{bind}
use Rattle.profile.specs.ErrorNumber.{ErrorNumber}
use Rattle.os_heap_words.specs.lists.Heap.{HeapList}
use Rattle.os_heap.specs.Calls.{has_own_size}
use Rattle.os_heap.specs.Store.{Store}
use Rattle.instances.specs.tidying.Slid.{module_state_slid}
use Rattle.law_machine.specs.sliding_stores.Ground.{flex_state, spelled_store, store_flexed, with_flex_record}
use Rattle.law_machine.specs.flex.Laws.{IsOfWords}
use Rattle.flex_store.proofs.LawLemmas.{Answers, same_answer}
use Rattle.flex_store.proofs.Words.{word_of}
use Rattle.flex_store.specs.Calls.{FlexState, flex_after_init, flex_after_release}
use Rattle.flex_store.specs.Runs.{Alloc, Extend, FlexCall, IsFlexCallDone, MidExtend, Release}
use Rattle.flex_store.specs.declared.flex.Extent.{Extent}
use Rattle.flex_store.specs.declared.flex.Flex.{Flex}
use Rattle.law_machine.proofs.SlidingStoresLemmas.Calling.{called_left, no_room, none_done}
use Rattle.law_machine.proofs.SlidingStoresLemmas.Leaving.{IsCalledBy, store_at}
use Rattle.law_machine.specs.sliding_stores.Meaning.{AreStores, Stores, store_in}
use Rattle.law_machine.specs.sliding_stores.Turning.{Call, Init, Slide, flex_call_answer, stores_after_flex, stores_after_step}
use Rattle.law_machine.proofs.HeapFrameLemmas.FlexBesides.{HasAligned, IsStill}
use Rattle.law_machine.proofs.HeapFrameLemmas.FlexStill.{past_aligned}
use Rattle.law_machine.proofs.HeapFrameLemmas.FlexCalls.{call_beside, flex_init_keeps, spelled_aligned}
use Rattle.law_machine.proofs.HeapFrameLemmas.Guests.{area_stores_fit, guest_elsewhere, outside_keeps}
use Rattle.law_machine.proofs.HeapFrameLemmas.Plans.{slid_module_state_fit, slid_module_state_found}
use Rattle.law_machine.proofs.HeapFrameLemmas.Slots.{modules_below}
use Rattle.law_machine.specs.heap_frame.FlexLaws.{IsFreeOfAnchors, NamesOutside}
use Rattle.law_machine.specs.heap_frame.GuestLaws.{HasGuestHeap}
use Rattle.law_machine.specs.heap_calls.Laws.{IsNotForgotten, KeepsHeap}
use Rattle.law_machine.specs.heap_frame.PlanLaws.{IsFitModuleState, ModuleStateStaysFit}
use Rattle.law_machine.specs.heap_frame.TurnLaws.{TurnsKeepHeap}

heap_same : (h : HeapList) (s : Store) → IsFreeOfAnchors h s → KeepsHeap h s s
heap_same h s free = record { found = free.found; bytes = λ a inside. refl; anchors = λ a inside. refl }

-- a release that was done
release_done : (s : Store) (f : Flex) (anchor : ℕ) (v : FlexState) (answer : Bool) (r : Result (FlexState × Unit {0}) ErrorNumber)
    → flex_after_release (flex_state s f) anchor ≡ r
    → (let q : Result (FlexState × Bool) ErrorNumber = bind r (λ p. Ok (p.0, true)) in q ≡ Ok (v, answer)) → IsFlexCallDone (flex_state s f) (Release anchor) answer v
release_done s f anchor v answer (Err e) is done = absurd (cc)
release_done s f anchor v answer (Ok p) is done =
    let pair : FlexState × Bool = (p.0, true) in
    let given : FlexState × Bool = (v, answer) in
    let same : Answers pair given = done in
    let e : pair ≡ given = same_answer pair given same in (
      sym (ap (λ (q : FlexState × Bool). q.1) e),
      is ∙ ap (λ (w : FlexState). let q : Result (FlexState × Unit {0}) ErrorNumber = Ok (w, tt) in q) (ap (λ (q : FlexState × Bool). q.0) e),
    )

-- a call that was done, with what is so of both its answers
pub call_is_done : (s : Store) (f : Flex) (call : FlexCall) (v : FlexState) (answer : Bool) → flex_call_answer s f call ≡ Ok (v, answer)
    → IsFlexCallDone (flex_state s f) call answer v
call_is_done s f (Alloc anchor size) v answer is = (s, is)
call_is_done s f (Release anchor) v answer is = release_done s f anchor v answer (flex_after_release (flex_state s f) anchor) refl is
call_is_done s f (Extend anchor size) v answer is = is
call_is_done s f (MidExtend anchor at by) v answer is = is

abbrev IsPast : FlexCall → Type 0
IsPast (Alloc anchor size) = ⊥
IsPast (Release anchor) = ⊥
IsPast (Extend anchor size) = ⊥
IsPast (MidExtend anchor at by) = 2 ^ 32 ≤ by

-- what is given is words, or a middle extend is by none
words_or_past : (call : FlexCall) → IsOfWords call ⊎ IsPast call
words_or_past (Alloc anchor size) = inl tt
words_or_past (Release anchor) = inl tt
words_or_past (Extend anchor size) = inl tt
words_or_past (MidExtend anchor at by) = elim (cases_lt by (2 ^ 32)) [ inl word ↦ inl word | inr past ↦ inr past ]

module _ (x : Stores) (are : AreStores x) where
  old_aligned : HasAligned (flex_state (store_in x) x.flex).flex
  old_aligned = spelled_aligned (store_in x) x.flex.extent are.flex.is

  words_aligned : (call : FlexCall) (v : FlexState) (answer : Bool) (e : Extent) → x.flex.extent ≡ Some e → IsOfWords call
      → flex_call_answer (store_in x) x.flex call ≡ Ok (v, answer) → HasAligned v.flex
  words_aligned call v true e there words is =
      let is' = subst (λ (o : Option Extent). flex_call_answer (store_in x) (record { extent = o }) call ≡ Ok (v, true)) there is in
      let left : IsCalledBy (store_in x) e call v = called_left x e call v are words there is' in
      subst HasAligned (sym left.flex) (λ p has. (word_of v.bytes.mapped e.start e.end left.blocks p left.spelled.words has).aligned)
  words_aligned call v false e there words is =
      subst (λ (w : FlexState). HasAligned w.flex) (sym (no_room (store_in x) x.flex call v is)) old_aligned

  calls_aligned : (call : FlexCall) (v : FlexState) (answer : Bool) (e : Extent) → x.flex.extent ≡ Some e → IsPast call
      → flex_call_answer (store_in x) x.flex call ≡ Ok (v, answer) → HasAligned v.flex
  calls_aligned (Alloc anchor size) v answer e there past is = absurd past
  calls_aligned (Release anchor) v answer e there past is = absurd past
  calls_aligned (Extend anchor size) v answer e there past is = absurd past
  calls_aligned (MidExtend anchor at by) v answer e there past is =
      past_aligned (flex_state (store_in x) x.flex) v (store_at (store_in x) e) anchor at by answer
      (ap (spelled_store (store_in x).bytes.at) there) old_aligned past is

  left_aligned : (call : FlexCall) (v : FlexState) (answer : Bool) (o : Option Extent) → x.flex.extent ≡ o
      → flex_call_answer (store_in x) x.flex call ≡ Ok (v, answer) → HasAligned v.flex
  left_aligned call v answer None none is =
      absurd (none_done (store_in x) call (v, answer)
      (subst (λ (o : Option Extent). flex_call_answer (store_in x) (record { extent = o }) call ≡ Ok (v, answer)) none is))
  left_aligned call v answer (Some e) there is = elim (words_or_past call) [
    | inl words ↦ words_aligned call v answer e there words is
    | inr past ↦ calls_aligned call v answer e there past is
  ]

  -- the anchors that a call leaves are at whole words
  pub called_aligned : (call : FlexCall) (v : FlexState) (answer : Bool) → flex_call_answer (store_in x) x.flex call ≡ Ok (v, answer) → HasAligned v.flex
  called_aligned call v answer is = left_aligned call v answer x.flex.extent refl is

module _ (x : Stores) (h : HeapList) (are : AreStores x) (free : IsFreeOfAnchors h (store_in x)) where
  -- what a call leaves that was done
  done_keeps : (call : FlexCall) (v : FlexState) (answer : Bool) → NamesOutside h call → flex_call_answer (store_in x) x.flex call ≡ Ok (v, answer)
      → KeepsHeap h (store_in x) (store_flexed (store_in x) v)
  done_keeps call v answer out is =
      let s : Store = store_in x in
      let still : (a : ℕ) → in_range h.start h.end a ≡ true → IsStill a (flex_state s x.flex) v = λ a inside.
      call_beside s x.flex call answer v h a are.flex.is free out (call_is_done s x.flex call v answer is) (called_aligned x are call v answer is) inside in
      record {
        found = free.found;
        bytes = λ a inside. (still a inside).byte;
        anchors = λ a inside. (still a inside).none ∙ sym (free.anchors a inside);
      }

  call_keeps : (call : FlexCall) (r : Result (FlexState × Bool) ErrorNumber) → NamesOutside h call → flex_call_answer (store_in x) x.flex call ≡ r
      → KeepsHeap h (store_in x) (store_in (stores_after_flex x (store_in x) r))
  call_keeps call (Err e) out is = heap_same h (store_in x) free
  call_keeps call (Ok q) out is = done_keeps call q.0 q.1 out is

  init_keeps : (start end : ℕ) (r : Result (FlexState × Unit {0}) ErrorNumber) → flex_after_init (store_in x) (flex_state (store_in x) x.flex) start end ≡ r
      → KeepsHeap h (store_in x) (store_in (stores_after_flex x (with_flex_record (store_in x) start end) (bind r (λ p. Ok (p.0, true)))))
  init_keeps start end (Err e) is = heap_same h (store_in x) free
  init_keeps start end (Ok q) is = flex_init_keeps (store_in x) x.flex start end q.0 h free is

  slide_keeps : (return_address : ℕ) → has_own_size h.kind ≡ true → KeepsHeap h (store_in x) (module_state_slid return_address x.module_state).area_store.store
  slide_keeps return_address own =
      let g : HasGuestHeap x.module_state.area_store h = record { area_store = are.module_state.area_store; system = are.module_state.system; found = free.found; own = own } in
      let f : IsFitModuleState x.module_state = record { area_store = area_stores_fit x.module_state.area_store are.module_state.area_store; slots = modules_below x.module_state.modules are.modules } in
      let slid : ModuleStateStaysFit x.module_state (module_state_slid return_address x.module_state) = slid_module_state_fit return_address x.module_state f in
      let still : IsNotForgotten (module_state_slid return_address x.module_state).area_store.store h.start =
      ap is_some (slid_module_state_found return_address x.module_state h.start (guest_elsewhere x.module_state.area_store h g) ∙ free.found) in
      outside_keeps x.module_state.area_store (module_state_slid return_address x.module_state).area_store.store h g slid.area_store.outside (λ lies. still)

pub turns_keep : TurnsKeepHeap
unfolding stores_after_step
turns_keep x (Init start end) h are free own out = init_keeps x h are free start end (flex_after_init (store_in x) (flex_state (store_in x) x.flex) start end) refl
turns_keep x (Call call) h are free own out = call_keeps x h are free call (flex_call_answer (store_in x) x.flex call) out refl
turns_keep x (Slide return_address) h are free own out = slide_keeps x h are free return_address own
