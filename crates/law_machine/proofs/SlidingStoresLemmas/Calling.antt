-- A flex call as a turn of the stores.
use Rattle.std.proofs.Common.{ℕ, Bool, true, false, nat_eq, ◌%◌, is_some, List, ◌≡◌, ◌∙◌, [], ◌∷◌, map, Option, Some, None, Result, Ok, Err, refl, sym, ap, subst, inl, inr}
use Rattle.std.specs.Prelude.{if◌then◌else◌}
use Rattle.std.proofs.lemmas.Bool.{cases_Bool, eqb-false, eqb-true, false≢true}
use Rattle.profile.specs.Outcome.{bind}
use Rattle.profile.specs.ErrorNumber.{ErrorNumber}
use Rattle.os_heap.specs.Store.{IsSound, Store, is_in_flex_store}
use Rattle.dynamic_areas.specs.Ground.{AreaStore, IsAreaStore}
use Rattle.swi_dispatch_guest.specs.Ground.{flex_of, flex_state, records_with, spelled_store, store_flexed}
use Rattle.law_machine.proofs.FlexLemmas.Calls.{calls_go_by_numbers, no_room_changes_nothing}
use Rattle.law_machine.proofs.FlexLemmas.PaddingCalls.{padding_goes_by_numbers}
use Rattle.law_machine.specs.flex.Laws.{IsDoneIn, IsOfWords, anchor_of_call, outside_of}
use Rattle.law_machine.specs.flex.Numbered.{IsCalledSeen, SeenBlock, blocks_seen, anchor_place_of}
use Rattle.law_machine.specs.flex.Padding.{IsCalledPadding, all_paddings, paddings}
use Rattle.flex_store.specs.Laws.{contents_in}
use Rattle.flex_store.specs.Blocks.{FlexStore, has_anchor}
use Rattle.flex_store.specs.Calls.{FlexState, flex_after_alloc, flex_after_extend, mid_extended, flex_after_release}
use Rattle.flex_store.specs.Runs.{Alloc, Extend, FlexCall, MidExtend, Release}
use Rattle.flex_store.specs.declared.flex.Extent.{Extent}
use Rattle.flex_store.specs.declared.flex.Flex.{Flex}
use Rattle.rma.specs.Calls.{with_store}
use Rattle.swi_dispatch_guest.proofs.InstancesModuleStates.{module_state_kept}
use Rattle.swi_dispatch_guest.specs.ModuleState.{private_word}
use Rattle.law_machine.proofs.SlidingStoresLemmas.Called.{IsCalledOn, anchors_left, images_left, names_left, words_left, words_said}
use Rattle.law_machine.proofs.SlidingStoresLemmas.Leaving.{IsAfter, IsBefore, IsCalledBy, after_called, same_flex, same_store, state_at, state_spelled, store_at}
use Rattle.law_machine.proofs.SlidingStoresLemmas.CalledSeen.{byte_seen, byte_stays, mark_left, none_odd, some_is}
use Rattle.law_machine.specs.sliding_stores.FlexStore.{IsFlexRangeSpelled, IsSpelledAt, spelled_blocks}
use Rattle.law_machine.specs.sliding_stores.Laws.{IsFollowed, module_without_place}
use Rattle.law_machine.specs.sliding_stores.Meaning.{AreStores, Stores, Value, contents_of, flex_padding, flex_seen, meaning_of, store_in}
use Rattle.law_machine.specs.sliding_stores.Rules.{IsTurned}
use Rattle.law_machine.specs.sliding_stores.Turning.{Call, FlexOrSlide, answer_of, answer_of_turn, flex_call_answer, stores_after_flex, anchor_place_by, anchor_place_of_turn, stores_after_step, stores_with_flex}

-- what a turn with some answer leaves
pub record IsFollowedBy (turn : FlexOrSlide) (answer : Result Bool ErrorNumber) (x y : Stores) : Type 0 where
  pub rule : IsTurned turn (anchor_place_of_turn turn x) answer (meaning_of x) (meaning_of y)
  pub words : (slot word : ℕ) → (meaning_of x).names slot ≡ Some (Value word) → private_word y.module_state.area_store slot ≡ word
  pub modules : map module_without_place y.module_state.modules ≡ map module_without_place x.module_state.modules
  pub stores : AreStores y
  pub mapped : (store_in y).bytes.mapped ≡ (store_in x).bytes.mapped
  pub pool : y.module_state.area_store.pool ≡ x.module_state.area_store.pool
  pub area_table : y.module_state.area_store.area_table ≡ x.module_state.area_store.area_table
  pub pending : y.pending ≡ x.pending

-- a turn that leaves all as it is
pub stays : (turn : FlexOrSlide) (answer : Result Bool ErrorNumber) (x : Stores) → AreStores x → IsTurned turn (anchor_place_of_turn turn x) answer (meaning_of x) (meaning_of x)
    → IsFollowedBy turn answer x x
unfolding meaning_of
stays turn answer x are rule = record {
  rule = rule;
  words = λ slot word says. words_said x.module_state slot word says;
  modules = refl;
  stores = are;
  mapped = refl;
  pool = refl;
  area_table = refl;
  pending = refl;
}

-- an area store whose flex store changed
pub area_store_after : (e : AreaStore) (t : Store) → IsAreaStore e → t.bytes.mapped ≡ e.store.bytes.mapped → t.heaps ≡ e.store.heaps → t.others ≡ e.store.others
    → IsSound t → IsAreaStore (with_store e t)
area_store_after e t good mapped heaps others sound = record {
  ground = record {
    sizes = good.ground.sizes;
    table = good.ground.table;
    area_table = λ x. ap (λ (p : ℕ → Bool). p x) mapped ∙ good.ground.area_table x;
    pages = good.ground.pages;
    ranges = rw (mapped, others) good.ground.ranges;
    sound = sound;
  };
  heap = rw heaps good.heap;
}

-- without a store every call is refused
pub none_done : (s : Store) (call : FlexCall) (r : FlexState × Bool) → (let f : Flex = record { extent = None } in flex_call_answer s f call ≡ Ok r) → ⊥
unfolding flex_after_alloc flex_after_release flex_after_extend mid_extended
none_done s (Alloc anchor size) r is = absurd (cc)
none_done s (Release anchor) r is = absurd (cc)
none_done s (Extend anchor size) r is = absurd (cc)
none_done s (MidExtend anchor at by) r is = absurd (cc)

-- a release that was done
record IsReleased (r : Result (FlexState × Unit {0}) ErrorNumber) (v : FlexState) (answer : Bool) : Type 0 where
  done : r ≡ Ok (v, tt)
  room : answer ≡ true

was_released : (r : Result (FlexState × Unit {0}) ErrorNumber) (v : FlexState) (answer : Bool)
    → (let q : Result (FlexState × Bool) ErrorNumber = bind r (λ p. Ok (p.0, true)) in q ≡ Ok (v, answer)) → IsReleased r v answer
was_released (Err e) v answer is = absurd (cc)
was_released (Ok p) v answer is =
    let pair : FlexState × Bool = (p.0, true) in
    let given : FlexState × Bool = (v, answer) in
    let same : pair ≡ given = pair_is pair given is in
    record {
      done = ap (λ (w : FlexState). let q : Result (FlexState × Unit {0}) ErrorNumber = Ok (w, tt) in q) (ap (λ (q : FlexState × Bool). q.0) same);
      room = sym (ap (λ (q : FlexState × Bool). q.1) same);
    } where
      pair_is : (p q : FlexState × Bool) → (let one : Result (FlexState × Bool) ErrorNumber = Ok p in let two : Result (FlexState × Bool) ErrorNumber = Ok q in one ≡ two)
          → p ≡ q
      pair_is p q e = cc

pub call_done : (s : Store) (f : Flex) (call : FlexCall) (v : FlexState) → flex_call_answer s f call ≡ Ok (v, true) → IsDoneIn s (flex_state s f) call v
call_done s f (Alloc anchor size) v is = is
call_done s f (Release anchor) v is = (was_released (flex_after_release (flex_state s f) anchor) v true is).done
call_done s f (Extend anchor size) v is = is
call_done s f (MidExtend anchor at by) v is = is

pub no_room : (s : Store) (f : Flex) (call : FlexCall) (v : FlexState) → flex_call_answer s f call ≡ Ok (v, false) → v ≡ flex_state s f
no_room s f (Alloc anchor size) v is = (no_room_changes_nothing (flex_state s f) v).alloc s anchor size is
no_room s f (Release anchor) v is = absurd (false≢true (was_released (flex_after_release (flex_state s f) anchor) v false is).room)
no_room s f (Extend anchor size) v is = (no_room_changes_nothing (flex_state s f) v).extend anchor size is
no_room s f (MidExtend anchor at by) v is = (no_room_changes_nothing (flex_state s f) v).mid_extend anchor at by is

-- what a call on a store asks of it
pub before : (x : Stores) (e : Extent) → AreStores x → x.flex.extent ≡ Some e → IsBefore (store_in x) e
before x e are is = record {
  spelled = subst (IsSpelledAt (store_in x)) is are.flex.is;
  memory = are.memory;
  sound = are.module_state.area_store.ground.sound;
  free = are.flex.free;
  beside = are.flex.beside ∙ ap records_with is;
}

-- what a call that found room leaves
pub called_left : (x : Stores) (e : Extent) (call : FlexCall) (v : FlexState) → (are : AreStores x) → IsOfWords call → x.flex.extent ≡ Some e
    → (let f : Flex = record { extent = Some e } in flex_call_answer (store_in x) f call ≡ Ok (v, true)) → IsCalledBy (store_in x) e call v
called_left x e call v are words there is =
    calls_go_by_numbers (store_in x) (state_at (store_in x) e) v (store_at (store_in x) e) call words refl
    (state_spelled (store_in x) e (before x e are there)) refl are.memory.low (call_done (store_in x) (record { extent = Some e }) call v is)

-- and of the bytes that fill the last word of each block
abbrev IsPaddedBy : Store → Extent → FlexCall → FlexState → Type 0
IsPaddedBy s e call v =
    let o : Option FlexStore = Some (store_at s e) in
    IsCalledPadding call (anchor_place_of (store_at s e) (anchor_of_call call)) (blocks_seen o) (paddings (store_at s e).blocks) (all_paddings v.flex)

called_padding : (x : Stores) (e : Extent) (call : FlexCall) (v : FlexState) → (are : AreStores x) → IsOfWords call → x.flex.extent ≡ Some e
    → (let f : Flex = record { extent = Some e } in flex_call_answer (store_in x) f call ≡ Ok (v, true)) → IsPaddedBy (store_in x) e call v
called_padding x e call v are words there is =
    padding_goes_by_numbers (store_in x) (state_at (store_in x) e) v (store_at (store_in x) e) call words refl
    (state_spelled (store_in x) e (before x e are there)) refl are.memory.low (call_done (store_in x) (record { extent = Some e }) call v is)

module _ (x : Stores) (e : Extent) (call : FlexCall) (v : FlexState) (are : AreStores x) (there : x.flex.extent ≡ Some e) (left : IsCalledBy (store_in x) e call v)
    (padded : IsPaddedBy (store_in x) e call v) (after : IsAfter (store_in x) v) where
  y : Stores
  y = stores_with_flex x (store_in x) v

  stores : AreStores y
  unfolding y
  stores = record {
    module_state = module_state_kept x.module_state (stores_with_flex x (store_in x) v).module_state x.pending are.module_state refl refl
        (area_store_after x.module_state.area_store (store_flexed (store_in x) v) are.module_state.area_store after.mapped refl refl after.sound);
    flex = after.flex;
    modules = are.modules;
    memory = after.memory;
    one = are.one;
  }

  spelled : IsFlexRangeSpelled (store_in x) e
  spelled = (before x e are there).spelled

  old_some : (a : ℕ) → is_some (contents_of x a) ≡ has_anchor (spelled_blocks (store_in x) e) a
  old_some a = ap (λ (o : Option Extent). is_some (contents_in (spelled_store (store_in x).bytes.at o) a)) there ∙ some_is a (spelled_blocks (store_in x) e)

  new_some : (a : ℕ) → is_some (contents_of y a) ≡ has_anchor left.blocks a
  unfolding y
  new_some a = ap (λ (o : Option FlexStore). is_some (contents_in o a)) (after.spelled ∙ left.flex) ∙ some_is a left.blocks

  marks : (a : ℕ) → is_in_flex_store (store_in x).others a ≡ false
      → is_some (contents_of y a) ≡ (if nat_eq (a % 4) 0 then (outside_of call).mark a (is_some (contents_of x a)) else is_some (contents_of x a))
  unfolding new_some
  marks a outside = elim (cases_Bool (nat_eq (a % 4) 0)) [
    | inl aligned ↦ rw aligned (new_some a ∙ (mark_left (store_in x) e spelled call v left a outside (eqb-true (a % 4) 0 aligned) ∙ ap ((outside_of call).mark a) (sym (old_some a))))
    | inr odd ↦
        let none = none_odd (store_in x) e spelled call v left a (eqb-false (a % 4) 0 odd) in
        rw odd (new_some a ∙ (none.0 ∙ (sym none.1 ∙ sym (old_some a))))
  ]

  on : IsCalledOn call x y
  unfolding y stores marks
  on = record {
    sound = are.module_state.area_store.ground.sound;
    system = are.module_state.system;
    modules = are.modules;
    old = are.flex.is;
    old_free = are.flex.free;
    new_free = after.flex.free;
    others = refl;
    heaps = refl;
    table = refl;
    aligned = left.aligned;
    had = old_some (outside_of call).anchor ∙ left.had;
    stays = byte_stays (store_in x) e spelled call v left;
    seen = byte_seen (store_in x) e spelled call v left;
    marks = marks;
  }

  -- the flex blocks
  seen_then : IsCalledSeen call (anchor_place_of_turn (Call call) x) (flex_seen x) (flex_seen y)
  unfolding y
  seen_then =
      let old : spelled_store (store_in x).bytes.at x.flex.extent ≡ Some (store_at (store_in x) e) = ap (λ (o : Option Extent). spelled_store (store_in x).bytes.at o) there in
      let new : blocks_seen v.flex ≡ flex_seen (stores_with_flex x (store_in x) v) = ap blocks_seen (sym after.spelled) in
      subst (λ (o : Option FlexStore). IsCalledSeen call (anchor_place_by o (anchor_of_call call)) (blocks_seen o) (flex_seen (stores_with_flex x (store_in x) v))) (sym old)
      (subst (λ (q : List SeenBlock). IsCalledSeen call (anchor_place_by (Some (store_at (store_in x) e)) (anchor_of_call call)) (blocks_seen (Some (store_at (store_in x) e))) q) new left.seen)

  padding_then : IsCalledPadding call (anchor_place_of_turn (Call call) x) (flex_seen x) (flex_padding x) (flex_padding y)
  unfolding y
  padding_then =
      let old : spelled_store (store_in x).bytes.at x.flex.extent ≡ Some (store_at (store_in x) e) = ap (λ (o : Option Extent). spelled_store (store_in x).bytes.at o) there in
      let new : all_paddings v.flex ≡ flex_padding (stores_with_flex x (store_in x) v) = ap all_paddings (sym after.spelled) in
      subst (λ (o : Option FlexStore). IsCalledPadding call (anchor_place_by o (anchor_of_call call)) (blocks_seen o) (all_paddings o) (flex_padding (stores_with_flex x (store_in x) v))) (sym old)
      (subst (λ (q : List (List ℕ)). IsCalledPadding call (anchor_place_by (Some (store_at (store_in x) e)) (anchor_of_call call)) (blocks_seen (Some (store_at (store_in x) e)))
      (paddings (store_at (store_in x) e).blocks) q) new padded)

  with_room : IsFollowedBy (Call call) (Ok true) x y
  unfolding y meaning_of stores on seen_then padding_then
  with_room = record {
    rule = record {
      flex = seen_then;
      padding = padding_then;
      anchors = anchors_left call x (stores_with_flex x (store_in x) v) on;
      images = images_left call x (stores_with_flex x (store_in x) v) on;
      names = names_left call x (stores_with_flex x (store_in x) v) on;
    };
    words = λ slot word says. words_left call x (stores_with_flex x (store_in x) v) on slot word says;
    modules = refl;
    stores = stores;
    mapped = after.mapped;
    pool = refl;
    area_table = refl;
    pending = refl;
  }

-- where nothing was changed
all_same : (x : Stores) (v : FlexState) → store_flexed (store_in x) v ≡ store_in x → flex_of v.flex ≡ x.flex → stores_with_flex x (store_in x) v ≡ x
all_same x v store flex = λ i. record {
  module_state = record { area_store = record { store = store i; pool = x.module_state.area_store.pool; area_table = x.module_state.area_store.area_table }; modules = x.module_state.modules };
  flex = flex i;
  pending = x.pending;
}

left_same : (x : Stores) (e : Extent) (v : FlexState) → AreStores x → x.flex.extent ≡ Some e → v ≡ state_at (store_in x) e
    → stores_with_flex x (store_in x) v ≡ x
left_same x e v are there same =
    let b : IsBefore (store_in x) e = before x e are there in
    all_same x v
    (ap (store_flexed (store_in x)) same ∙ same_store (store_in x) e b.spelled)
    (ap (λ (w : FlexState). flex_of w.flex) same ∙ same_flex (store_in x) e b.spelled ∙ ap (λ (o : Option Extent). let f : Flex = record { extent = o } in f) (sym there))

answered_by : (x : Stores) (call : FlexCall) (v : FlexState) (answer : Bool) (e : Extent) → AreStores x → IsOfWords call → x.flex.extent ≡ Some e
    → (let f : Flex = record { extent = Some e } in flex_call_answer (store_in x) f call ≡ Ok (v, answer)) → IsFollowedBy (Call call) (Ok answer) x (stores_with_flex x (store_in x) v)
unfolding y
answered_by x call v true e are words there is =
    let left : IsCalledBy (store_in x) e call v = called_left x e call v are words there is in
    with_room x e call v are there left (called_padding x e call v are words there is) (after_called (store_in x) e (before x e are there) call v left)
answered_by x call v false e are words there is =
    subst (IsFollowedBy (Call call) (Ok false) x) (sym (left_same x e v are there (no_room (store_in x) (record { extent = Some e }) call v is))) (stays (Call call) (Ok false) x are refl)

done_by : (x : Stores) (call : FlexCall) (v : FlexState) (answer : Bool) (o : Option Extent) → AreStores x → IsOfWords call → x.flex.extent ≡ o
    → flex_call_answer (store_in x) x.flex call ≡ Ok (v, answer) → IsFollowedBy (Call call) (Ok answer) x (stores_with_flex x (store_in x) v)
done_by x call v answer None are words none is =
    absurd (none_done (store_in x) call (v, answer)
    (subst (λ (o : Option Extent). flex_call_answer (store_in x) (record { extent = o }) call ≡ Ok (v, answer)) none is))
done_by x call v answer (Some e) are words there is =
    answered_by x call v answer e are words there (subst (λ (o : Option Extent). flex_call_answer (store_in x) (record { extent = o }) call ≡ Ok (v, answer)) there is)

call_by : (x : Stores) (call : FlexCall) (r : Result (FlexState × Bool) ErrorNumber) → flex_call_answer (store_in x) x.flex call ≡ r → AreStores x → IsOfWords call
    → IsFollowedBy (Call call) (answer_of r) x (stores_after_flex x (store_in x) r)
call_by x call (Err e) is are words = stays (Call call) (Err e) x are refl
call_by x call (Ok q) is are words = done_by x call q.0 q.1 x.flex.extent are words refl is

pub call_followed : (x : Stores) (call : FlexCall) → AreStores x → IsOfWords call → IsFollowed (Call call) x (stores_after_step (Call call) x)
unfolding stores_after_step answer_of_turn
call_followed x call are words =
    let f : IsFollowedBy (Call call) (answer_of (flex_call_answer (store_in x) x.flex call)) x (stores_after_flex x (store_in x) (flex_call_answer (store_in x) x.flex call)) =
    call_by x call (flex_call_answer (store_in x) x.flex call) refl are words in
    record { rule = f.rule; words = f.words; modules = f.modules; stores = f.stores; mapped = f.mapped; pool = f.pool; area_table = f.area_table; pending = f.pending }
