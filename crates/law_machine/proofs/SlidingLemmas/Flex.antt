-- A flex call of the machine is its turn.
use Rattle.profile.specs.MemoryMap.{error_block_start}
use Rattle.std.proofs.Common.{ℕ, Bool, true, false, ◌≡◌, ◌∙◌, List, [], ◌∷◌, ◌++◌, map, Option, Some, Result, Ok, Err, refl, sym, ap, subst, inl, inr, arith}
use Rattle.std.specs.Prelude.{if◌then◌else◌}
use Rattle.std.proofs.lemmas.Bool.{both_ways}
use Rattle.profile.specs.ErrorNames.{error_code, error_name}
use Rattle.profile.specs.Outcome.{bind}
use Rattle.profile.specs.SwiNames.{swi_of}
use Rattle.profile.specs.ErrorNumber.{ErrorNumber}
use Rattle.profile.specs.declared.swi.SwiName.{SwiName}
use Rattle.address_map.proofs.Stores.{in_range-cases}
use Rattle.address_map.specs.Bytes.{Bytes, in_range, with_word_at}
use Rattle.arm_core.specs.State.{IsCore, State, register_of, slot_of}
use Rattle.profile.specs.images.Entries.{Entry}
use Rattle.instances_table.specs.declared.parts.Image.{Image}
use Rattle.os_heap.specs.Store.{Store}
use Rattle.swi_dispatch_guest.specs.Ground.{flex_state, with_flex_record}
use Rattle.flex_store.specs.Calls.{FlexState, flex_after_alloc, flex_after_init, flex_after_extend, mid_extended, flex_after_release}
use Rattle.flex_store.proofs.Holding.{word_beside}
use Rattle.rma.specs.Calls.{with_store}
use Rattle.swi_dispatch_guest.specs.SwiDispatchAnswersErrors.{memory_with_error}
use Rattle.swi_dispatch_guest.specs.Refusals.{or_error}
use Rattle.swi_dispatch_guest.specs.Refusal.{Refusal}
use Rattle.swi_dispatch_guest.specs.Refusal.TheVariants as refusal
use Rattle.swi_dispatch_guest.specs.SwiDispatchFlexCalls.{FlexMemory, fit_shown, flex_called, memory_after_flex as memory_left}
use Rattle.swi_dispatch_guest.proofs.Kept.{short_name}
use Rattle.swi_dispatch_guest.specs.declared.halt.Halt.TheVariants as halt
use Rattle.swi_dispatch_guest.specs.Answers.{went_on}
use Rattle.swi_dispatch_guest.specs.Calls.{call_answer, machine_flex, on_flex}
use Rattle.swi_dispatch_guest.specs.MachineState.{MachineState}
use Rattle.swi_dispatch_guest.specs.Returns.{outcome_of_halt}
use Rattle.swi_dispatch_guest.specs.Step.{outcome_of_call, called_by, outcome_of_answer, is_exit}
use Rattle.law_machine.proofs.SlidingStoresLemmas.Called.{words_said}
use Rattle.law_machine.proofs.SlidingStoresLemmas.Turns.{turns_follow}
use Rattle.law_machine.specs.sliding_stores.Laws.{IsFollowed, module_without_place}
use Rattle.law_machine.specs.sliding_stores.Meaning.{AreStores, Meaning, Stores, meaning_of}
use Rattle.law_machine.specs.sliding_stores.Rules.{IsTurned}
use Rattle.law_machine.specs.sliding_stores.Turning.{Call, Init, Slide, FlexOrSlide, answer_of, IsTurnAllowed, answer_of_turn, stores_after_flex, anchor_place_of_turn, stores_after_step}
use Rattle.law_machine.proofs.SlidingLemmas.Behind.{IsBehind, held_word, still_behind, written_outside}
use Rattle.law_machine.specs.sliding.MachineStores.{stores_of}
use Rattle.law_machine.specs.sliding.Turns.{Allocated, StoresAreStill, Extended, FlexSwi, Freed, IsTurnMade, MadeStore, MidExtended, flex_name, flex_turn}

-- the stores with what a call leaves of memory and of the flex store
abbrev with_both : Stores → FlexMemory → Stores
with_both x m = record x { module_state = record x.module_state { area_store = with_store x.module_state.area_store m.store }; flex = m.flex }

-- the call and the turn agree
abbrev Agrees : Stores → Result (State × FlexMemory) Refusal → Result Bool ErrorNumber → Stores → Type 0
Agrees x (Ok q) (Ok room) y = with_both x q.1 ≡ y
Agrees x (Err e) (Err number) y = (e ≡ refusal.System number) × (y ≡ x)
Agrees x q r y = ⊥

fit_agrees : (cpu : State) (x : Stores) (s : Store) (r : Result (FlexState × Bool) ErrorNumber)
    → Agrees x (fit_shown cpu (memory_left s r)) (answer_of r) (stores_after_flex x s r)
fit_agrees cpu x s (Ok q) = refl
fit_agrees cpu x s (Err e) = (refl, refl)

abbrev with_room : Result (FlexState × Unit {0}) ErrorNumber → Result (FlexState × Bool) ErrorNumber
with_room r = bind r (λ q. Ok (q.0, true))

abbrev unanswered : State → Result (FlexMemory × Unit {0}) ErrorNumber → Result (State × FlexMemory) Refusal
unanswered cpu r = bind (or_error r) (λ q. Ok (cpu, q.0))

unanswered_agrees : (cpu : State) (x : Stores) (s : Store) (r : Result (FlexState × Unit {0}) ErrorNumber)
    → Agrees x (unanswered cpu (memory_left s r)) (answer_of (with_room r)) (stores_after_flex x s (with_room r))
unanswered_agrees cpu x s (Ok q) = refl
unanswered_agrees cpu x s (Err e) = (refl, refl)

agrees : (f : FlexSwi) (s : MachineState)
    → Agrees (stores_of s) (flex_called s.cpu (machine_flex s) (Some (flex_name f))) (answer_of_turn (flex_turn f s.cpu) (stores_of s))
    (stores_after_step (flex_turn f s.cpu) (stores_of s))
unfolding flex_called answer_of_turn stores_after_step
agrees MadeStore s =
    unanswered_agrees s.cpu (stores_of s) (with_flex_record s.store (register_of s.cpu 0) (register_of s.cpu 1))
    (flex_after_init s.store (flex_state s.store s.tables.flex) (register_of s.cpu 0) (register_of s.cpu 1))
agrees Allocated s =
    fit_agrees s.cpu (stores_of s) s.store
    (flex_after_alloc s.store (flex_state s.store s.tables.flex) (register_of s.cpu 0) (register_of s.cpu 1))
agrees Freed s =
    unanswered_agrees s.cpu (stores_of s) s.store (flex_after_release (flex_state s.store s.tables.flex) (register_of s.cpu 0))
agrees Extended s =
    fit_agrees s.cpu (stores_of s) s.store
    (flex_after_extend (flex_state s.store s.tables.flex) (register_of s.cpu 0) (register_of s.cpu 1))
agrees MidExtended s =
    fit_agrees s.cpu (stores_of s) s.store
    (mid_extended (flex_state s.store s.tables.flex) (register_of s.cpu 0) (register_of s.cpu 1) (register_of s.cpu 2))

-- the machine after it
ends_as : (images : List Entry) (f : FlexSwi) (s : MachineState) (x : Bool) (next number : ℕ)
    → (if is_exit (Some (flex_name f)) then outcome_of_halt s halt.Exit else called_by images s x next number (Some (flex_name f))).now
    ≡ (outcome_of_answer s x (went_on s next (on_flex s (flex_called s.cpu (machine_flex s) (Some (flex_name f)))))).now
unfolding call_answer
ends_as images MadeStore s x next number = refl
ends_as images Allocated s x next number = refl
ends_as images Freed s x next number = refl
ends_as images Extended s x next number = refl
ends_as images MidExtended s x next number = refl

pub calls_as : (images : List Entry) (f : FlexSwi) (s : MachineState) (x : Bool) (next number : ℕ) → swi_of number ≡ Some (flex_name f)
    → (outcome_of_call images s x next number).now
    ≡ (outcome_of_answer s x (went_on s next (on_flex s (flex_called s.cpu (machine_flex s) (Some (flex_name f)))))).now
unfolding outcome_of_call
calls_as images f s x next number name =
    ap (λ (o : Option SwiName). (if is_exit o then outcome_of_halt s halt.Exit else called_by images s x next number o).now) name
    ∙ ends_as images f s x next number

-- the block of an error stands after the private words
word_outside : (f : ℕ → ℕ) (value a : ℕ) → in_range error_block_start 0xF00 a ≡ false → with_word_at f error_block_start value a ≡ f a
word_outside f value a out = elim (in_range-cases error_block_start 0xF00 a) [
  | inl r ↦ absurd (both_ways (in_range error_block_start 0xF00 a) out r.0)
  | inr r ↦ word_beside f error_block_start value a (elim r.1 [ inl low ↦ inl low | inr high ↦ inr (omega (arith, high)) ])
]

block_outside : (b : Bytes) (e : ErrorNumber) (a : ℕ) → in_range error_block_start 0xF00 a ≡ false
    → (memory_with_error b (error_code e) (error_name e)).at a ≡ b.at a
block_outside b e a out =
    written_outside (with_word_at b.at error_block_start (error_code e)) 0x01C02104 (error_name e ++ 0 ∷ []) a (omega arith)
    (omega (arith, short_name e)) out
    ∙ word_outside b.at (error_code e) a out

-- the turn as it follows its rule: what registers have are words
pub allowed : (f : FlexSwi) (cpu : State) (pending : List Image) → IsCore cpu → IsTurnAllowed pending (flex_turn f cpu)
allowed MadeStore cpu pending core = tt
allowed Allocated cpu pending core = tt
allowed Freed cpu pending core = tt
allowed Extended cpu pending core = tt
allowed MidExtended cpu pending core = core.words (slot_of cpu.psr.mode 2)

turn_law : (f : FlexSwi) (cpu : State) (x : Stores) → IsCore cpu → AreStores x → IsFollowed (flex_turn f cpu) x (stores_after_step (flex_turn f cpu) x)
turn_law f cpu x core are = (turns_follow x (flex_turn f cpu ∷ []) are (allowed f cpu x.pending core, tt)).0

refused_rule : (turn : FlexOrSlide) (x : Stores) (e : ErrorNumber) (p q : Meaning) → q ≡ p → IsTurned turn (anchor_place_of_turn turn x) (Err e) p q
refused_rule (Init start end) x e p q same = same
refused_rule (Call call) x e p q same = same
refused_rule (Slide return_address) x e p q same = same

-- a refused call leaves what the stores mean
still_followed : (turn : FlexOrSlide) (e : ErrorNumber) (x y : Stores) → answer_of_turn turn x ≡ Err e → StoresAreStill x y → IsFollowed turn x y
unfolding meaning_of
still_followed turn e x y refused still = record {
  rule = subst (λ (a : Result Bool ErrorNumber). IsTurned turn (anchor_place_of_turn turn x) a (meaning_of x) (meaning_of y)) (sym refused)
      (refused_rule turn x e (meaning_of x) (meaning_of y) still.meaning);
  words = λ slot word says. still.words slot (held_word x slot word says) ∙ words_said x.module_state slot word says;
  modules = ap (map module_without_place) still.modules;
  stores = still.stores;
  mapped = still.mapped;
  pool = still.pool;
  area_table = still.area_table;
  pending = still.pending;
}

error_behind : (s t : MachineState) (is_x : Bool) (next : ℕ) (e : ErrorNumber)
    → t ≡ (outcome_of_answer s is_x (went_on s next (on_flex s (Err (refusal.System e))))).now → IsBehind (stores_of s) (stores_of t)
error_behind s t true next e after = record {
  bytes = memory_with_error s.store.bytes (error_code e) (error_name e);
  is = ap stores_of after;
  mapped = refl;
  outside = λ a out. block_outside s.store.bytes e a out;
}
error_behind s t false next e after = record {
  bytes = s.store.bytes;
  is = ap stores_of after;
  mapped = refl;
  outside = λ a out. refl;
}

module _ (turn : FlexOrSlide) (s t : MachineState) (is_x : Bool) (next : ℕ) (are : AreStores (stores_of s)) (new : AreStores (stores_of t))
    (law : IsFollowed turn (stores_of s) (stores_after_step turn (stores_of s))) where
  made_by : (r : Result (State × FlexMemory) Refusal) (answer : Result Bool ErrorNumber) → Agrees (stores_of s) r answer (stores_after_step turn (stores_of s))
      → answer_of_turn turn (stores_of s) ≡ answer → t ≡ (outcome_of_answer s is_x (went_on s next (on_flex s r))).now → IsTurnMade turn s t
  made_by (Ok q) (Ok room) agree is after =
      let same : stores_of t ≡ stores_after_step turn (stores_of s) = ap stores_of after ∙ agree in
      record {
        followed = subst (IsFollowed turn (stores_of s)) (sym same) law;
        exact = λ other is_other. same;
        plan = ap (λ (u : MachineState). u.tables.plan) after;
      }
  made_by (Err e) (Err number) agree is after =
      let after' : t ≡ (outcome_of_answer s is_x (went_on s next (on_flex s (Err (refusal.System number))))).now =
      after ∙ ap (λ (f : Refusal). (outcome_of_answer s is_x (went_on s next (on_flex s (Err f)))).now) agree.0 in
      let behind : IsBehind (stores_of s) (stores_of t) = error_behind s t is_x next number after' in
      record {
        followed = still_followed turn number (stores_of s) (stores_of t) is (still_behind (stores_of s) (stores_of t) are new behind);
        exact = λ room is_ok. absurd (let no : Err number ≡ Ok room = sym is ∙ is_ok in cc);
        plan = plan_kept is_x after';
      } where
        plan_kept : (x : Bool) → t ≡ (outcome_of_answer s x (went_on s next (on_flex s (Err (refusal.System number))))).now → t.tables.plan ≡ s.tables.plan
        plan_kept true left = ap (λ (u : MachineState). u.tables.plan) left
        plan_kept false left = ap (λ (u : MachineState). u.tables.plan) left
  made_by (Ok q) (Err number) agree is after = absurd agree
  made_by (Err e) (Ok room) agree is after = absurd agree

pub flex_made : (images : List Entry) (f : FlexSwi) (s t : MachineState) (x : Bool) (next number : ℕ) → IsCore s.cpu
    → AreStores (stores_of s) → AreStores (stores_of t)
    → swi_of number ≡ Some (flex_name f) → t ≡ (outcome_of_call images s x next number).now → IsTurnMade (flex_turn f s.cpu) s t
flex_made images f s t x next number core are new name after =
    made_by (flex_turn f s.cpu) s t x next are new (turn_law f s.cpu (stores_of s) core are)
    (flex_called s.cpu (machine_flex s) (Some (flex_name f))) (answer_of_turn (flex_turn f s.cpu) (stores_of s)) (agrees f s) refl
    (after ∙ calls_as images f s x next number name)
