-- The turns that stores take: flex calls, and slides of the module area, each as its definition has
-- it (Acorn C manual, "flex"; RISC OS 3 Programmer's Reference Manual, "OS_Module", reason 8).
use Rattle.std.specs.Prelude.{ℕ, ◌≡◌, Bool, true, List, [], ◌∷◌, Option, None, Some, Result, Ok, Err}
use Rattle.profile.specs.Outcome.{bind}
use Rattle.profile.specs.ErrorNumber.{ErrorNumber}
use Rattle.os_heap.specs.Store.{Store}
use Rattle.swi_dispatch_guest.specs.Ground.{flex_of, flex_state, store_flexed, with_flex_record}
use Rattle.law_machine.specs.flex.Laws.{IsOfWords, anchor_of_call}
use Rattle.law_machine.specs.flex.Numbered.{Anchor, Fixed, anchor_place_of}
use Rattle.flex_store.specs.Blocks.{FlexStore}
use Rattle.flex_store.specs.Calls.{FlexState, flex_after_alloc, flex_after_init, flex_after_extend, mid_extended, flex_after_release}
use Rattle.flex_store.specs.Runs.{Alloc, Extend, FlexCall, MidExtend, Release}
use Rattle.flex_store.specs.declared.flex.Flex.{Flex}
use Rattle.rma.specs.Calls.{with_store}
use Rattle.instances_table.specs.declared.parts.Image.{Image}
use Rattle.swi_dispatch_guest.specs.Slid.{module_state_slid}
use Rattle.law_machine.specs.sliding_stores.Meaning.{Stores, store_in}

-- Flex_Init of the range from a start up to an end; another flex call; or a slide, in a call that
-- returns to an address
pub data FlexOrSlide : Type 0 where
  Init : ℕ → ℕ → FlexOrSlide
  Call : FlexCall → FlexOrSlide
  Slide : ℕ → FlexOrSlide

-- What a call leaves of the flex store, with its answer, or why it was refused. Init and release
-- have nothing to answer, and always room.
abbrev pub init_answer : Store → Flex → ℕ → ℕ → Result (FlexState × Bool) ErrorNumber
init_answer s f start end = bind (flex_after_init s (flex_state s f) start end) (λ r. Ok (r.0, true))

abbrev pub flex_call_answer : Store → Flex → FlexCall → Result (FlexState × Bool) ErrorNumber
flex_call_answer s f (Alloc anchor size) = flex_after_alloc s (flex_state s f) anchor size
flex_call_answer s f (Release anchor) = bind (flex_after_release (flex_state s f) anchor)
    (λ r. Ok (r.0, true))
flex_call_answer s f (Extend anchor size) = flex_after_extend (flex_state s f) anchor size
flex_call_answer s f (MidExtend anchor at by) = mid_extended (flex_state s f) anchor at by

-- the stores after it: where it was refused, those before it
abbrev pub stores_with_flex : Stores → Store → FlexState → Stores
stores_with_flex x s v = record x {
  module_state = record x.module_state {
    area_store = with_store x.module_state.area_store
        (store_flexed s v);
  };
  flex = flex_of v.flex;
}

abbrev pub stores_after_flex : Stores → Store → Result (FlexState × Bool) ErrorNumber → Stores
stores_after_flex x s (Ok r) = stores_with_flex x s r.0
stores_after_flex x s (Err e) = x

unfoldable pub stores_after_step : FlexOrSlide → Stores → Stores
stores_after_step (Init start end) x =
    stores_after_flex x (with_flex_record (store_in x) start end) (init_answer (store_in x) x.flex start end)
stores_after_step (Call call) x = stores_after_flex x (store_in x) (flex_call_answer (store_in x) x.flex call)
stores_after_step (Slide return_address) x = record x {
  module_state = module_state_slid return_address
      x.module_state;
}

-- whether there was room, or the number of the error
abbrev pub answer_of : Result (FlexState × Bool) ErrorNumber → Result Bool ErrorNumber
answer_of r = bind r (λ q. Ok q.1)

unfoldable pub answer_of_turn : FlexOrSlide → Stores → Result Bool ErrorNumber
answer_of_turn (Init start end) x = answer_of (init_answer (store_in x) x.flex start end)
answer_of_turn (Call call) x = answer_of (flex_call_answer (store_in x) x.flex call)
answer_of_turn (Slide return_address) x = Ok true

-- where the anchor of a call is, before it: a word elsewhere, or a place in a flex block
abbrev pub anchor_place_by : Option FlexStore → ℕ → Anchor
anchor_place_by None a = Fixed a
anchor_place_by (Some s) a = anchor_place_of s a

abbrev pub anchor_place_of_turn : FlexOrSlide → Stores → Anchor
anchor_place_of_turn (Init start end) x = Fixed 0
anchor_place_of_turn (Call call) x = anchor_place_by (flex_state (store_in x) x.flex).flex
    (anchor_of_call call)
anchor_place_of_turn (Slide return_address) x = Fixed 0

-- A slide is made only where no image is pending; flex calls are made at any time, and what they
-- are given are words.
abbrev pub IsTurnAllowed : List Image → FlexOrSlide → Type 0
IsTurnAllowed pending (Init start end) = Unit {0}
IsTurnAllowed pending (Call call) = IsOfWords call
IsTurnAllowed pending (Slide return_address) = pending ≡ []

abbrev pub AreAllowed : List Image → List FlexOrSlide → Type 0
AreAllowed pending [] = Unit {0}
AreAllowed pending (turn ∷ turns) = IsTurnAllowed pending turn × AreAllowed pending turns
