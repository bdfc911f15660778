-- Data processing, products, branches and SWIs.
use Rattle.std.proofs.Common.{◌≡◌, ◌+◌, ◌*◌, ◌/◌, ◌%◌, ◌^◌, ℕ, Bool, true, false, not, nat_eq, Result, Ok, refl, ◌∙◌, ap, arith, if◌then◌else◌}
use Rattle.arm_core.specs.Shifted.{rotated_right}
use Rattle.arm_core.specs.Word.{bit_of, field}
use Rattle.arm_step.specs.Shifted.{Shifted}
use Rattle.arm_step.specs.Bytes.{Bytes}
use Rattle.arm_core.specs.Action.TheVariants as action
use Rattle.arm_core.specs.Condition.{Condition}
use Rattle.arm_core.specs.Condition.TheVariants as condition
use Rattle.arm_core.specs.Conditions.{condition_holds}
use Rattle.arm_core.specs.Effect.{with_status}
use Rattle.arm_core.specs.Operand.{rotated_immediate}
use Rattle.arm_core.specs.Psr.{psr_bits}
use Rattle.arm_core.specs.State.{State, register_in, with_register}
use Rattle.arm_core.specs.declared.turn.StepEnd.{StepEnd}
use Rattle.arm_step.specs.Step.{result_of_action, result_of_word}
use Rattle.arm_predecode.specs.Kinds.{Branches}
use Rattle.arm_predecode.specs.OpValue.{OpValue}
use Rattle.arm_run.specs.Standing.{core_at}
use Rattle.arm_run.proofs.Carried.{branches_to, carried, links_to, passes_on, passes_to}
use Rattle.arm_run.proofs.Jumped.{moves_to, moves_with_status}
use Rattle.arm_run.proofs.Multiplied.{product_leads}
use Rattle.arm_run.proofs.OperandsRead.{rotated, unrotated}
use Rattle.arm_run.proofs.Positions.{with_counter}
use Rattle.arm_run.proofs.SumsLed.{immediate_leads, register_leads, shift_leads}
use Rattle.arm_run.specs.decoded.Effects.{immediate_second}
use Rattle.arm_run.specs.decoded.Laws.{ImmediatesOperate, RegistersOperate, ShiftsOperate, ProductsAreSet, BranchesLead, LinksLead, JumpsLead, InterruptsTurn, UnmetConditionsPass}

-- a rotated operand gives C, another keeps it
second_by : (rotation byte v : ℕ) (c is so : Bool) → v ≡ rotated_right byte (2 * rotation) → is ≡ not (nat_eq rotation 0) → is ≡ so
    → (let s : Shifted = record { value = v; carry = if so then bit_of v 31 else c } in s ≡ rotated_immediate rotation byte c)
second_by rotation byte v c is true value turned so = rotated rotation byte v c is value turned so
second_by rotation byte v c is false value turned so = unrotated rotation byte v c is value turned so

pub immediates_operate : ImmediatesOperate
immediates_operate op sets r h owned s at b core =
    immediate_leads s _ op sets (immediate_second r s) r h
    (second_by (field r.word 8 4) (field r.word 0 8) r.value s.psr.carry r.is_rotated r.is_rotated h.value h.rotated refl) refl at owned b

pub registers_operate : RegistersOperate
registers_operate op sets r h owned s at b core =
    register_leads s _ op sets (register_in s.psr.mode s r.rm) _ r h refl refl refl at owned b

pub shifts_operate : ShiftsOperate
shifts_operate op sets r h owned s at b core =
    shift_leads s _ op sets (register_in s.psr.mode s r.rm) _ r h refl refl refl at owned b

pub products_are_set : ProductsAreSet
products_are_set adds r h owned s at b core = product_leads s _ adds _ r h refl refl at owned b

-- a position and the same below the number of positions
same_place : (s : State) (n : ℕ) → core_at s (n % 2 ^ 24) ≡ core_at s n
same_place s n = with_counter s _ _ (omega arith)

goes_there : (s : State) (n : ℕ) (b : Bytes) → (let x : Result (State × Bytes) StepEnd = Ok (core_at s (n % 2 ^ 24), b) in let y : Result (State × Bytes) StepEnd = Ok (core_at s n, b) in x ≡ y)
goes_there s n b = ap (λ (t : State). let o : Result (State × Bytes) StepEnd = Ok (t, b) in o) (same_place s n)

branch_by : (owned : ℕ → Bool) (s : State) (at : ℕ) (b : Bytes) (c : Condition) (r : OpValue) (holds : Bool) → Branches c false r → condition_holds c s.psr ≡ holds
    → result_of_word owned (core_at s at) b r.word ≡ Ok (core_at s (if holds then at + r.value else at + 1), b)
branch_by owned s at b c r true h e = branches_to s at ((at + r.value) % 2 ^ 24) c r h refl e owned b ∙ goes_there s (at + r.value) b
branch_by owned s at b c r false h e = passes_to s at c false r h e owned b

pub branches_lead : BranchesLead
branches_lead c r h owned s at b core = branch_by owned s at b c r (condition_holds c s.psr) h refl

pub links_lead : LinksLead
links_lead r h owned s at b core =
    let linked : State = with_register s 14 (psr_bits s.psr + (at + 1) % 2 ^ 24 * 4) in
    links_to s linked at ((at + r.value) % 2 ^ 24) ((at + 1) % 2 ^ 24) r h refl refl refl owned b ∙ goes_there linked (at + r.value) b

pub jumps_lead : JumpsLead
jumps_lead true r h owned s at b core =
    let v : ℕ = register_in s.psr.mode s r.rm in
    moves_with_status s (with_status s v) at v (v / 4 % 2 ^ 24) r h refl refl refl owned b ∙ goes_there (with_status s v) (v / 4) b
jumps_lead false r h owned s at b core =
    let v : ℕ = register_in s.psr.mode s r.rm in
    moves_to s at v (v / 4 % 2 ^ 24) r h refl refl owned b ∙ goes_there s (v / 4) b

pub interrupts_turn : InterruptsTurn
unfolding result_of_action
interrupts_turn r h owned s at b core = carried owned (core_at s at) b condition.Always (action.SoftwareInterrupt (field r.word 0 24)) r h refl

pub unmet_conditions_pass : UnmetConditionsPass
unmet_conditions_pass owned s at b word fails = passes_on s word fails at owned b
