-- Turns of a store by the names of its flex blocks.
use Rattle.std.proofs.Common.{ℕ, Bool, true, false, ◌≡◌, ◌∙◌, List, [], ◌∷◌, Option, Some, None, Result, Ok, Err, refl, sym, ap, subst}
use Rattle.profile.specs.ErrorNumber.{ErrorNumber}
use Rattle.swi_dispatch_guest.specs.Ground.{spelled_store}
use Rattle.law_machine.specs.flex.Laws.{IsOfWords, anchor_of_call}
use Rattle.law_machine.specs.flex.Numbered.{Anchor, SeenBlock, blocks_seen, anchor_place_of}
use Rattle.law_machine.proofs.FlexNamesLemmas.Done.{done_calls_go_by_names}
use Rattle.law_machine.proofs.FlexNamesLemmas.Words.{words_have_names}
use Rattle.law_machine.specs.flex_names.Laws.{IsCalledNamed}
use Rattle.law_machine.specs.flex_names.Names.{Name, place_named}
use Rattle.flex_store.specs.Blocks.{FlexStore}
use Rattle.flex_store.specs.Calls.{FlexState}
use Rattle.flex_store.specs.Runs.{FlexCall}
use Rattle.flex_store.specs.declared.flex.Extent.{Extent}
use Rattle.instances_table.specs.declared.parts.Image.{Image}
use Rattle.law_machine.proofs.SlidingStoresLemmas.Calling.{before, call_done, called_left, none_done}
use Rattle.law_machine.proofs.SlidingStoresLemmas.Leaving.{IsAfter, after_called, state_at, state_spelled, store_at}
use Rattle.law_machine.proofs.SlidingStoresLemmas.Turns.{turns_follow}
use Rattle.law_machine.specs.sliding_stores.Laws.{IsFollowed}
use Rattle.law_machine.specs.sliding_stores.Meaning.{AreStores, Meaning, Stores, flex_seen, meaning_of, store_in}
use Rattle.law_machine.specs.sliding_stores.Rules.{IsTurned}
use Rattle.law_machine.specs.sliding_stores.Turning.{AreAllowed, Call, Init, IsTurnAllowed, Slide, FlexOrSlide, answer_of, answer_of_turn, flex_call_answer, stores_after_flex, anchor_place_by, anchor_place_of_turn, stores_after_step, stores_with_flex}
use Rattle.law_machine.specs.sliding_names.Named.{IsCallByNames, IsTurnByNames, TurnsGoByNames}

-- a call that finds room
module _ (x : Stores) (e : Extent) (call : FlexCall) (v : FlexState) (are : AreStores x) (words : IsOfWords call) (there : x.flex.extent ≡ Some e)
    (is : flex_call_answer (store_in x) (record { extent = Some e }) call ≡ Ok (v, true)) where
  abbrev s : FlexStore
  s = store_at (store_in x) e

  then_by : IsAfter (store_in x) v
  then_by = after_called (store_in x) e (before x e are there) call v (called_left x e call v are words there is)

  named : (y : Name) × (let o : Option FlexStore = Some s in place_named (blocks_seen o) y ≡ Some (anchor_place_of s (anchor_of_call call)))
  named = words_have_names (state_at (store_in x) e) s (state_spelled (store_in x) e (before x e are there)) (anchor_of_call call)

  goes : (let o : Option FlexStore = Some s in IsCalledNamed call named.0 (blocks_seen o) (blocks_seen v.flex))
  goes =
      done_calls_go_by_names (store_in x) (state_at (store_in x) e) v s call named.0 words refl
      (state_spelled (store_in x) e (before x e are there)) refl are.memory.low (call_done (store_in x) (record { extent = Some e }) call v is) named.1

  by_blocks : (let o : Option FlexStore = Some s in IsCallByNames call (anchor_place_by o (anchor_of_call call)) (blocks_seen o) (blocks_seen v.flex))
  by_blocks = record { name = named.0; is = named.1; goes = goes }

  room_named : IsCallByNames call (anchor_place_of_turn (Call call) x) (flex_seen x) (flex_seen (stores_with_flex x (store_in x) v))
  room_named =
      let old : spelled_store (store_in x).bytes.at x.flex.extent ≡ Some s = ap (λ (o : Option Extent). spelled_store (store_in x).bytes.at o) there in
      let new : blocks_seen v.flex ≡ flex_seen (stores_with_flex x (store_in x) v) = ap blocks_seen (sym then_by.spelled) in
      subst (λ (o : Option FlexStore). IsCallByNames call (anchor_place_by o (anchor_of_call call)) (blocks_seen o) (flex_seen (stores_with_flex x (store_in x) v))) (sym old)
      (subst (λ (q : List SeenBlock). IsCallByNames call (anchor_place_by (Some s) (anchor_of_call call)) (blocks_seen (Some s)) q) new by_blocks)

room_by : (x : Stores) (call : FlexCall) (v : FlexState) (o : Option Extent) → AreStores x → IsOfWords call → x.flex.extent ≡ o
    → flex_call_answer (store_in x) (record { extent = o }) call ≡ Ok (v, true)
    → IsCallByNames call (anchor_place_of_turn (Call call) x) (flex_seen x) (flex_seen (stores_with_flex x (store_in x) v))
room_by x call v None are words there is = absurd (none_done (store_in x) call (v, true) is)
room_by x call v (Some e) are words there is = room_named x e call v are words there is

done_by : (x : Stores) (call : FlexCall) (v : FlexState) (answer : Bool) → flex_call_answer (store_in x) x.flex call ≡ Ok (v, answer) → AreStores x → IsOfWords call
    → IsTurned (Call call) (anchor_place_of_turn (Call call) x) (Ok answer) (meaning_of x) (meaning_of (stores_with_flex x (store_in x) v))
    → IsTurnByNames (Call call) (Ok answer) (anchor_place_of_turn (Call call) x) (meaning_of x).flex (meaning_of (stores_with_flex x (store_in x) v)).flex
unfolding meaning_of
done_by x call v true is are words rule = room_by x call v x.flex.extent are words refl is
done_by x call v false is are words rule = ap (λ (m : Meaning). m.flex) rule

-- each turn by its answer: what is changed is shown by the rule of the turn but for a call that
-- finds room
call_by : (x : Stores) (call : FlexCall) (r : Result (FlexState × Bool) ErrorNumber) → flex_call_answer (store_in x) x.flex call ≡ r → AreStores x → IsOfWords call
    → IsTurned (Call call) (anchor_place_of_turn (Call call) x) (answer_of r) (meaning_of x) (meaning_of (stores_after_flex x (store_in x) r))
    → IsTurnByNames (Call call) (answer_of r) (anchor_place_of_turn (Call call) x) (meaning_of x).flex (meaning_of (stores_after_flex x (store_in x) r)).flex
unfolding meaning_of
call_by x call (Err e) is are words rule = ap (λ (m : Meaning). m.flex) rule
call_by x call (Ok q) is are words rule = done_by x call q.0 q.1 is are words rule

init_by : (start end : ℕ) (x : Anchor) (answer : Result Bool ErrorNumber) (p q : Meaning) → IsTurned (Init start end) x answer p q
    → IsTurnByNames (Init start end) answer x p.flex q.flex
init_by start end x (Err e) p q rule = ap (λ (m : Meaning). m.flex) rule
init_by start end x (Ok false) p q rule = ap (λ (m : Meaning). m.flex) rule
init_by start end x (Ok true) p q rule = (rule.none, ap (λ (m : Meaning). m.flex) rule.same ∙ rule.none)

turn_named : (turn : FlexOrSlide) (x : Stores) → AreStores x → IsTurnAllowed x.pending turn → IsFollowed turn x (stores_after_step turn x)
    → IsTurnByNames turn (answer_of_turn turn x) (anchor_place_of_turn turn x) (meaning_of x).flex (meaning_of (stores_after_step turn x)).flex
unfolding answer_of_turn stores_after_step
turn_named (Init start end) x are may f = init_by start end (anchor_place_of_turn (Init start end) x) (answer_of_turn (Init start end) x) (meaning_of x) (meaning_of (stores_after_step (Init start end) x)) f.rule
turn_named (Call call) x are may f = call_by x call (flex_call_answer (store_in x) x.flex call) refl are may f.rule
turn_named (Slide return_address) x are may f = f.rule.flex

pub turns_named : TurnsGoByNames
turns_named x [] are may = tt
turns_named x (turn ∷ turns) are may =
    let f : IsFollowed turn x (stores_after_step turn x) = (turns_follow x (turn ∷ []) are (may.0, tt)).0 in (
      turn_named turn x are may.0 f,
      turns_named (stores_after_step turn x) turns f.stores (subst (λ (p : List Image). AreAllowed p turns) (sym f.pending) may.1),
    )
