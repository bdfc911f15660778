-- Each move of a list follows the rules of what it does.
use Rattle.std.proofs.Common.{ℕ, Bool, true, ◌≡◌, ◌∙◌, ◌+◌, ◌%◌, ◌^◌, List, [], ◌∷◌, Option, Some, None, is_some, Result, Ok, Err, refl, sym, ap, subst}
use Rattle.profile.specs.SwiNames.{swi_of}
use Rattle.profile.specs.Word.{bit_of}
use Rattle.profile.specs.ErrorNumber.{ErrorNumber}
use Rattle.profile.specs.declared.swi.SwiName.{SwiName}
use Rattle.profile.specs.declared.swi.SwiName.TheVariants as swi
use Rattle.address_map.specs.Bytes.{Bytes}
use Rattle.arm_core.specs.State.{IsCore, State, register_of}
use Rattle.arm_core.specs.declared.turn.StepEnd.{StepEnd as CoreTurn}
use Rattle.arm_core.specs.declared.turn.StepEnd.TheVariants as turn
use Rattle.profile.specs.images.Entries.{Entry}
use Rattle.instances_table.specs.plans.Plans.{Plan}
use Rattle.swi_dispatch_guest.specs.declared.halt.Halt.{Halt}
use Rattle.swi_dispatch_guest.specs.MachineState.{MachineState}
use Rattle.swi_dispatch_guest.specs.GuestState.{IsState, state_of}
use Rattle.swi_dispatch_guest.specs.Step.{outcome_of_call, result_of_instruction, machine_step, store_called, outcome_of_turn, unless_halted, without_x}
use Rattle.swi_dispatch_guest.specs.Moves.{Call, Move, Step, machine_with_words, machine_after_event, swi_of_turn, with_registers}
use Rattle.swi_dispatch_guest.specs.Writes.{machine_with_register}
use Rattle.law_machine.specs.sliding_stores.Meaning.{AreStores, Meaning, Stores, meaning_of}
use Rattle.law_machine.specs.sliding_stores.Rules.{IsTurned}
use Rattle.law_machine.specs.sliding_stores.Turning.{Call as FlexStep, Init, Slide, FlexOrSlide, answer_of_turn, anchor_place_of_turn, stores_after_step as stores_turned}
use Rattle.law_machine.proofs.SlidingNamesLemmas.Naming.{turns_named}
use Rattle.law_machine.specs.sliding_names.Named.{IsTurnByNames}
use Rattle.law_machine.proofs.SlidingLemmas.Flex.{allowed}
use Rattle.law_machine.proofs.SlidingLemmas.Lawful.{calls_are, tidies_go}
use Rattle.law_machine.proofs.SlidingLemmas.PlanKept.{plans_kept, plans_kept_outside}
use Rattle.law_machine.proofs.SlidingLemmas.States.{states_have}
use Rattle.law_machine.proofs.SlidingLemmas.Reported.{flex_calls_print_room}
use Rattle.law_machine.specs.sliding.Laws.{TidyGoesOn, IsMachineTurn}
use Rattle.law_machine.specs.sliding.MachineStores.{stores_of}
use Rattle.law_machine.specs.sliding.Turns.{FlexSwi, IsTidyKept, IsTurnMade, flex_name, flex_turn}
use Rattle.law_machine.specs.moves.Laws.{IsFlexMove, IsMoveFollowed, IsMoveKnown, MovesFollowRules}

-- what a turn of the stores does by names
refused_named : (turn : FlexOrSlide) (x : Stores) (e : ErrorNumber) (p q : Meaning) → IsTurned turn (anchor_place_of_turn turn x) (Err e) p q
    → IsTurnByNames turn (Err e) (anchor_place_of_turn turn x) p.flex q.flex
refused_named (Init start end) x e p q rule = ap (λ (m : Meaning). m.flex) rule
refused_named (FlexStep call) x e p q rule = ap (λ (m : Meaning). m.flex) rule
refused_named (Slide return_address) x e p q rule = ap (λ (m : Meaning). m.flex) rule

named_by : (turn : FlexOrSlide) (x y : Stores) (answer : Result Bool ErrorNumber)
    → IsTurned turn (anchor_place_of_turn turn x) answer (meaning_of x) (meaning_of y)
    → ((room : Bool) → answer ≡ Ok room → y ≡ stores_turned turn x)
    → IsTurnByNames turn answer (anchor_place_of_turn turn x) (meaning_of x).flex (meaning_of (stores_turned turn x)).flex
    → IsTurnByNames turn answer (anchor_place_of_turn turn x) (meaning_of x).flex (meaning_of y).flex
named_by turn x y (Err e) rule exact named = refused_named turn x e (meaning_of x) (meaning_of y) rule
named_by turn x y (Ok room) rule exact named =
    subst (λ (z : Stores). IsTurnByNames turn (Ok room) (anchor_place_of_turn turn x) (meaning_of x).flex (meaning_of z).flex) (sym (exact room refl)) named

-- what a state has
state_stores : (s : MachineState) → IsState s → AreStores (stores_of s)
state_stores s state = subst (λ (u : MachineState). AreStores (stores_of u)) state.is (states_have state.parts state.machine)

-- a SWI that a move makes
module _ (images : List Entry) (s t : MachineState) (x : Bool) (next number : ℕ) (state : IsState s) (left : IsState t)
    (after : t ≡ (outcome_of_call images s x next number).now) where
  turn_is : IsMachineTurn next number s t
  turn_is =
      subst (λ (u : MachineState). IsMachineTurn next number u t) state.is
      (subst (λ (u : MachineState). IsMachineTurn next number (state_of state.parts) u) left.is
      (calls_are images state.parts left.parts x next number state.machine left.machine
      (left.is ∙ (after ∙ ap (λ (u : MachineState). (outcome_of_call images u x next number).now) (sym state.is)))))

  core : IsCore s.cpu
  core = subst (λ (u : MachineState). IsCore u.cpu) state.is state.machine.core

  flex_call : (f : FlexSwi) → swi_of number ≡ Some (flex_name f) → IsFlexMove f s t
  flex_call f name =
      let made : IsTurnMade (flex_turn f s.cpu) s t = turn_is.flex f name in
      let named = (turns_named (stores_of s) (flex_turn f s.cpu ∷ []) (state_stores s state) (allowed f s.cpu (stores_of s).pending core, tt)).0 in
      record {
        made = made;
        named = named_by (flex_turn f s.cpu) (stores_of s) (stores_of t) (answer_of_turn (flex_turn f s.cpu) (stores_of s)) made.followed.rule made.exact named;
        reported = λ room shows is.
            ap (λ (u : MachineState). register_of u.cpu 0) after ∙ flex_calls_print_room images f s x next number room core.size name shows is;
      }

-- a call from outside is made on a machine of which registers alone are others
given_halt : (s : MachineState) (n : ℕ) (words : List ℕ) → (with_registers s n words).halt ≡ s.halt
unfolding machine_with_register
given_halt s n [] = refl
given_halt s n (v ∷ vs) = given_halt (machine_with_register s n v) (n + 1) vs

given_plan : (s : MachineState) (n : ℕ) (words : List ℕ) → (with_registers s n words).tables.plan ≡ s.tables.plan
unfolding machine_with_register
given_plan s n [] = refl
given_plan s n (v ∷ vs) = given_plan (machine_with_register s n v) (n + 1) vs

kept_some : (return_address : ℕ) (kept : Option Plan) → IsTidyKept return_address kept → is_some kept ≡ true
kept_some return_address None tidy = absurd tidy
kept_some return_address (Some p) tidy = refl

no_step : (number : ℕ) (words : List ℕ) → Call number words ≡ Step → ⊥
no_step number words same = cc

call_after : (images : List Entry) (s : MachineState) (number : ℕ) (words : List ℕ) → s.halt ≡ None
    → machine_after_event images s (Call number words)
    ≡ (outcome_of_call images (machine_with_words s words) true (machine_with_words s words).cpu.pc (without_x (number % 2 ^ 24))).now
unfolding store_called
call_after images s number words unhalted =
    ap (λ (o : Option Halt). (unless_halted (machine_with_words s words) o (outcome_of_call images (machine_with_words s words) true (machine_with_words s words).cpu.pc (without_x (number % 2 ^ 24)))).now)
    (given_halt s 0 words ∙ unhalted)

call_followed : (images : List Entry) (s : MachineState) (number : ℕ) (words : List ℕ) → IsMoveKnown images s (Call number words)
    → IsMoveFollowed s (Call number words) (machine_after_event images s (Call number words))
call_followed images s number words known =
    let u : MachineState = machine_with_words s words in
    let t : MachineState = machine_after_event images s (Call number words) in
    let n : ℕ = without_x (number % 2 ^ 24) in
    let after = call_after images s number words known.goes in
    record {
      flex = λ f name. flex_call images u t true u.cpu.pc n known.state known.left after f name;
      begins = λ p name why planned. (turn_is images u t true u.cpu.pc n known.state known.left after).tidy p name why planned;
      goes_on = λ return_address back tidy. absurd (no_step number words back.0);
      waits = λ return_address other tidy.
          let kept = subst (IsTidyKept return_address) (sym (given_plan s 0 words)) tidy in
          let same : t.tables.plan ≡ s.tables.plan =
          (plans_kept_outside images u number [] (kept_some return_address u.tables.plan kept)).0 ∙ given_plan s 0 words in
          subst (IsTidyKept return_address) (sym same) tidy;
    }

-- a step
step_swi : (r : Result (State × Bytes) CoreTurn) (name : SwiName) → swi_of_turn r ≡ Some name
    → (n : ℕ) × ((r ≡ Err (turn.Swi n)) × (swi_of (without_x n) ≡ Some name))
step_swi (Ok w) name is = absurd (let no : None ≡ Some name = is in cc)
step_swi (Err turn.Done) name is = absurd (let no : None ≡ Some name = is in cc)
step_swi (Err (turn.Swi n)) name is = (n, (refl, is))
step_swi (Err turn.Gate) name is = absurd (let no : None ≡ Some name = is in cc)
step_swi (Err (turn.Fault f)) name is = absurd (let no : None ≡ Some name = is in cc)

step_after : (images : List Entry) (s : MachineState) (n : ℕ) → s.halt ≡ None → result_of_instruction s ≡ Err (turn.Swi n)
    → machine_after_event images s Step ≡ (outcome_of_call images s (bit_of n 17) ((s.cpu.pc + 4) % 2 ^ 26) (without_x n)).now
unfolding machine_step
step_after images s n unhalted is =
    ap (λ (o : Option Halt). (unless_halted s o (outcome_of_turn images s (result_of_instruction s))).now) unhalted
    ∙ ap (λ (r : Result (State × Bytes) CoreTurn). (outcome_of_turn images s r).now) is

goes_by : (images : List Entry) (s t : MachineState) (return_address : ℕ) → IsState s → IsState t → s.halt ≡ None → result_of_instruction s ≡ Err turn.Gate
    → IsTidyKept return_address s.tables.plan → t ≡ (machine_step images s).now → TidyGoesOn return_address s t
goes_by images s t return_address state left unhalted gate tidy after =
    let back : s ≡ state_of state.parts = sym state.is in
    subst (λ (u : MachineState). TidyGoesOn return_address u t) state.is
    (subst (λ (u : MachineState). TidyGoesOn return_address (state_of state.parts) u) left.is
    (tidies_go images state.parts left.parts return_address state.machine left.machine
    (subst (λ (u : MachineState). u.halt ≡ None) back unhalted) (subst (λ (u : MachineState). result_of_instruction u ≡ Err turn.Gate) back gate)
    (subst (λ (u : MachineState). IsTidyKept return_address u.tables.plan) back tidy)
    (left.is ∙ (after ∙ ap (λ (u : MachineState). (machine_step images u).now) back))))

step_followed : (images : List Entry) (s : MachineState) → IsMoveKnown images s Step → IsMoveFollowed s Step (machine_after_event images s Step)
step_followed images s known =
    let t : MachineState = machine_after_event images s Step in
    let next : ℕ = (s.cpu.pc + 4) % 2 ^ 26 in
    record {
      flex = λ f made.
          let n = step_swi (result_of_instruction s) (flex_name f) made in
          flex_call images s t (bit_of n.0 17) next (without_x n.0) known.state known.left (step_after images s n.0 known.goes n.1.0) f n.1.1;
      begins = λ p made why planned.
          let n = step_swi (result_of_instruction s) swi.Module made in
          (turn_is images s t (bit_of n.0 17) next (without_x n.0) known.state known.left (step_after images s n.0 known.goes n.1.0)).tidy p n.1.1 why planned;
      goes_on = λ return_address back tidy. goes_by images s t return_address known.state known.left known.goes back.1 tidy refl;
      waits = λ return_address other tidy.
          let same : t.tables.plan ≡ s.tables.plan =
          plans_kept images s (kept_some return_address s.tables.plan tidy) (λ gate. other (refl, gate)) in
          subst (IsTidyKept return_address) (sym same) tidy;
    }

move_followed : (images : List Entry) (s : MachineState) (m : Move) → IsMoveKnown images s m → IsMoveFollowed s m (machine_after_event images s m)
move_followed images s (Call number words) known = call_followed images s number words known
move_followed images s Step known = step_followed images s known

pub moves_follow : MovesFollowRules
moves_follow images s [] known = tt
moves_follow images s (m ∷ ms) known = (move_followed images s m known.0, moves_follow images (machine_after_event images s m) ms known.1)
