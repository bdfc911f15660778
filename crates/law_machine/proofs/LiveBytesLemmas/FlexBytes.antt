-- Flex calls write words of anchors, and no other bytes outside the flex store.
use Rattle.std.proofs.Common.{ℕ, Bool, true, false, ◌≡◌, ◌⊎◌, Option, Some, None, Result, Ok, Err, refl, ap, inl, inr}
use Rattle.std.proofs.lemmas.Bool.{cases_Bool}
use Rattle.profile.specs.Outcome.{bind}
use Rattle.profile.specs.ErrorNumber.{ErrorNumber}
use Rattle.address_map.specs.Bytes.{Bytes}
use Rattle.os_heap.specs.Store.{Store, is_in_flex_store}
use Rattle.swi_dispatch_guest.specs.Ground.{flex_state, spelled_store, store_flexed, with_flex_record}
use Rattle.flex_store.specs.Blocks.{FlexStore}
use Rattle.flex_store.specs.Calls.{FlexState, flex_after_init, flex_after_init_over, is_flex_range}
use Rattle.flex_store.specs.Runs.{FlexCall}
use Rattle.law_machine.proofs.HeapFrameLemmas.FlexStill.{call_still, none_after}
use Rattle.law_machine.proofs.HeapFrameLemmas.FlexCalls.{beside_in}
use Rattle.law_machine.proofs.HeapFrameLemmas.Turns.{call_is_done, called_aligned}
use Rattle.law_machine.specs.sliding_stores.Meaning.{AreStores, Stores, store_in}
use Rattle.law_machine.specs.sliding_stores.Turning.{flex_call_answer, stores_after_flex, stores_after_step}
use Rattle.law_machine.specs.live_bytes.FlexLaws.{FlexCallsChangeAnchors, IsAnchorByte}

module _ (a : ℕ) where
  abbrev Changes : Store → Store → Type 0
  Changes s t = (t.bytes.at a ≡ s.bytes.at a) ⊎ IsAnchorByte s t a

  -- unless the byte is an anchor's
  or_anchor : (s t : Store) → (s.anchor a ≡ false → t.anchor a ≡ false → t.bytes.at a ≡ s.bytes.at a) → Changes s t
  or_anchor s t stays = elim (cases_Bool (s.anchor a)) [
    | inl was ↦ inr (inl was)
    | inr none ↦ elim (cases_Bool (t.anchor a)) [
      | inl is ↦ inr (inr is)
      | inr none' ↦ inl (stays none none')
    ]
  ]

  module _ (x : Stores) (are : AreStores x) (out : is_in_flex_store (store_in x).others a ≡ false) where
    done_byte : (call : FlexCall) (v : FlexState) (answer : Bool) → flex_call_answer (store_in x) x.flex call ≡ Ok (v, answer)
        → Changes (store_in x) (store_flexed (store_in x) v)
    done_byte call v answer is =
        let s : Store = store_in x in
        or_anchor s (store_flexed s v) (λ was left.
        (call_still a (flex_state s x.flex) v call answer (call_is_done s x.flex call v answer is) (called_aligned x are call v answer is)
        (beside_in s x.flex.extent a are.flex.is out was) (none_after call v a left)).byte)

    call_byte : (call : FlexCall) (r : Result (FlexState × Bool) ErrorNumber) → flex_call_answer (store_in x) x.flex call ≡ r
        → Changes (store_in x) (store_in (stores_after_flex x (store_in x) r))
    call_byte call (Err e) is = inl refl
    call_byte call (Ok q) is = done_byte call q.0 q.1 is

-- init writes nothing
abbrev BeginsSame : FlexState → Result (FlexState × Unit {0}) ErrorNumber → Type 0
BeginsSame t (Ok q) = q.0.bytes ≡ t.bytes
BeginsSame t (Err e) = Unit {0}

begins : (s : Store) (t : FlexState) (o : Option FlexStore) (start end : ℕ) → BeginsSame t (flex_after_init_over s t start end o)
begins s t (Some k) start end = tt
begins s t None start end = elim (cases_Bool (is_flex_range s start end)) [
  | inr bad ↦ rw bad tt
  | inl may ↦ rw may refl
]

init_same : (x : Stores) (start end : ℕ) (r : Result (FlexState × Unit {0}) ErrorNumber) → BeginsSame (flex_state (store_in x) x.flex) r
    → (store_in (stores_after_flex x (with_flex_record (store_in x) start end) (bind r (λ p. Ok (p.0, true))))).bytes ≡ (store_in x).bytes
init_same x start end (Ok q) same = same
init_same x start end (Err e) same = refl

pub flex_calls_change : FlexCallsChangeAnchors
unfolding stores_after_step flex_after_init
flex_calls_change x a are = record {
  calls = λ call out. call_byte a x are out call (flex_call_answer (store_in x) x.flex call) refl;
  init = λ start end. ap (λ (b : Bytes). b.at a)
      (init_same x start end (flex_after_init (store_in x) (flex_state (store_in x) x.flex) start end)
      (begins (store_in x) (flex_state (store_in x) x.flex) (spelled_store (store_in x).bytes.at x.flex.extent) start end));
}
