-- A step keeps to the flow of its word.
use Rattle.std.proofs.Common.{◌≡◌, inl, inr, ℕ, ◌+◌, ◌*◌, ◌/◌, ◌%◌, ◌^◌, ◌==◌, Bool, true, false, not, ◌&&◌, ◌||◌, Option, Some, None, Result, Ok, Err, if◌then◌else◌, refl, sym, subst, arith}
use Rattle.std.proofs.lemmas.Bool.{false≢true}
use Rattle.profile.specs.MemoryMap.{return_gate}
use Rattle.profile.specs.Outcome.{bind}
use Rattle.profile.specs.Word.{bit_of, field}
use Rattle.profile.specs.Fault.{Fault}
use Rattle.address_map.specs.Bytes.{Bytes, word_loaded}
use Rattle.command_shell.specs.Conditions.{condition_holds}
use Rattle.command_shell.specs.Effect.{with_next_pc, with_result}
use Rattle.command_shell.specs.Operate.{state_after_branch, state_after_operate}
use Rattle.command_shell.specs.ArmCoreState.{State}
use Rattle.command_shell.specs.StepEnd.TheVariants as turn
use Rattle.arm_decode.specs.Decoded.{decoded_as, instruction_of_word, unless_refused}
use Rattle.arm_decode.specs.Fields.{action_in, block_transfer_in, condition_in, immediate_in, operand_by_register_in, operate_in, shifted_in, transfer_in}
use Rattle.arm_decode.specs.Names.{indexing_of}
use Rattle.arm_decode.specs.Refusals.{is_test, refusal, writes_base}
use Rattle.arm_decode.specs.Table.{form_of}
use Rattle.arm_decode.specs.declared.action.Action.{Action}
use Rattle.arm_decode.specs.declared.action.BlockTransfer.{BlockTransfer}
use Rattle.arm_decode.specs.declared.action.Operate.{Operate}
use Rattle.arm_decode.specs.declared.action.Transfer.{Transfer}
use Rattle.arm_decode.specs.declared.address.Offset.{Offset}
use Rattle.arm_decode.specs.declared.address.Offset.TheVariants as offset
use Rattle.arm_decode.specs.declared.condition.Condition.{Condition}
use Rattle.arm_decode.specs.declared.form.Form.{Form}
use Rattle.arm_decode.specs.declared.form.Form.TheVariants as form
use Rattle.arm_decode.specs.declared.operand.Operand.TheVariants as operand
use Rattle.command_shell.specs.Blocks.{block_loaded, block_stored, result_of_block_transfer}
use Rattle.command_shell.specs.ArmStepStep.{acted_if_decoded, executed_if_fetched, or_fault, result_of_action, result_of_step, result_of_word}
use Rattle.command_shell.specs.Transfers.{moved_base, result_of_load, result_of_store, result_of_transfer, transfer_address, value_loaded, with_base}
use Rattle.debug_tables.specs.WordFlows.{KeepsToFlow, KeepsToFlowIfDone, block_flow, flow_of_form, is_pc_at, transfer_flow, word_flow}
use Rattle.debug_tables.specs.declared.step_words.WordFlow.{WordFlow}
use Rattle.debug_tables.specs.declared.step_words.WordFlow.TheVariants.{Straight, Branches, Anywhere, Stores}

-- a fault is another end
no_fault : (f : Fault) → turn.Done ≡ turn.Fault f → ⊥
no_fault f same = absurd (cc)

-- DATA PROCESSING

-- whichever of these states comes of it
picked : (test sets pc : Bool) (n : ℕ) (a b c d e f : State) → pc ≡ false → b.pc ≡ n → d.pc ≡ n → f.pc ≡ n
    → (if test then (if pc then a else b) else (if sets then (if pc then c else d) else (if pc then e else f))).pc ≡ n
picked true sets false n a b c d e f other one two three = one
picked false true false n a b c d e f other one two three = two
picked false false false n a b c d e f other one two three = three
picked test sets true n a b c d e f other one two three = absurd (false≢true (sym other))

operated : (s : State) (o : Operate) → (o.rd == 15) ≡ false → (state_after_operate s o).pc ≡ (with_next_pc s).pc
unfolding state_after_operate
operated s o other = picked (is_test o.operation) o.sets_flags (o.rd == 15) (with_next_pc s).pc _ _ _ _ _ _ other refl refl refl

operate_keeps : (s : State) (b : Bytes) (o : Operate) (pc : Bool) → (o.rd == 15) ≡ pc
    → KeepsToFlow (if not pc then Straight else Anywhere) s b (state_after_operate s o, b)
operate_keeps s b o true is = refl
operate_keeps s b o false is = (refl, operated s o is)

-- LOADS

based : (written pc : Bool) (n : ℕ) (a c d : State) → (pc && written) ≡ false → c.pc ≡ n → d.pc ≡ n
    → (if written then (if pc then a else c) else d).pc ≡ n
based true true n a c d other one two = absurd (false≢true (sym other))
based true false n a c d other one two = one
based false pc n a c d other one two = two

loaded : (pc : Bool) (n : ℕ) (a c : State) → pc ≡ false → c.pc ≡ n → (if pc then a else c).pc ≡ n
loaded true n a c other is = absurd (false≢true (sym other))
loaded false n a c other is = is

loaded_on : (s : State) (t : Transfer) (moved v : ℕ) → (t.rd == 15) ≡ false → ((t.address.rn == 15) && writes_base t.address.indexing) ≡ false
    → (with_result (with_base (with_next_pc s) t.address moved) t.rd v).pc ≡ (with_next_pc s).pc
loaded_on s t moved v other base =
    loaded (t.rd == 15) (with_next_pc s).pc _ _ other
    (based (writes_base t.address.indexing) (t.address.rn == 15) (with_next_pc s).pc _ _ _ base refl refl)

any_after : (s : State) (b : Bytes) (r : Result (State × Bytes) Fault) → KeepsToFlowIfDone Stores s b (or_fault r)
any_after s b (Ok u) = tt
any_after s b (Err f) = no_fault f

read : {A : Type 0} (s : State) (b : Bytes) (c : WordFlow) (f : A → State) (r : Result A Fault) → ((v : A) → KeepsToFlow c s b (f v, b))
    → KeepsToFlowIfDone c s b (or_fault (bind r (λ v. Ok (f v, b))))
read s b c f (Ok v) keeps = keeps v
read s b c f (Err fault) keeps = no_fault fault

transfer_by : (owned : ℕ → Bool) (s : State) (b : Bytes) (t : Transfer) (loads pc base : Bool) → (t.rd == 15) ≡ pc
    → ((t.address.rn == 15) && writes_base t.address.indexing) ≡ base
    → KeepsToFlowIfDone (if not loads then Stores else (if pc || base then Anywhere else Straight)) s b
    (or_fault (if loads then result_of_load s b t else result_of_store owned s b t))
transfer_by owned s b t false pc base rd rn = any_after s b (result_of_store owned s b t)
transfer_by owned s b t true true base rd rn =
    read s b Anywhere (λ v. with_result (with_base (with_next_pc s) t.address (moved_base s t.address)) t.rd v)
    (value_loaded b t.is_byte (transfer_address s t.address)) (λ v. refl)
transfer_by owned s b t true false true rd rn =
    read s b Anywhere (λ v. with_result (with_base (with_next_pc s) t.address (moved_base s t.address)) t.rd v)
    (value_loaded b t.is_byte (transfer_address s t.address)) (λ v. refl)
transfer_by owned s b t true false false rd rn =
    read s b Straight (λ v. with_result (with_base (with_next_pc s) t.address (moved_base s t.address)) t.rd v)
    (value_loaded b t.is_byte (transfer_address s t.address)) (λ v. (refl, loaded_on s t (moved_base s t.address) v rd rn))

written : (pre w : Bool) → writes_base (indexing_of pre w) ≡ (not pre || w)
written true w = refl
written false w = refl

transfer_keeps : (owned : ℕ → Bool) (s : State) (b : Bytes) (by : Offset) (w : ℕ)
    → KeepsToFlowIfDone (transfer_flow w) s b (or_fault (result_of_transfer owned s b (transfer_in by w)))
unfolding result_of_transfer
transfer_keeps owned s b by w =
    let t : Transfer = transfer_in by w in
    subst (λ (x : Bool). KeepsToFlowIfDone (if not (bit_of w 20) then Stores else (if is_pc_at 12 w || (is_pc_at 16 w && x) then Anywhere else Straight)) s b
    (or_fault (if bit_of w 20 then result_of_load s b t else result_of_store owned s b t)))
    (written (bit_of w 24) (bit_of w 21))
    (transfer_by owned s b t (bit_of w 20) (is_pc_at 12 w) (is_pc_at 16 w && writes_base (indexing_of (bit_of w 24) (bit_of w 21))) refl refl)

block_by : (owned : ℕ → Bool) (s : State) (b : Bytes) (t : BlockTransfer) (loads : Bool)
    → KeepsToFlowIfDone (if not loads then Stores else Anywhere) s b (or_fault (if loads then block_loaded s b t else block_stored owned s b t))
block_by owned s b t false = any_after s b (block_stored owned s b t)
block_by owned s b t true = read s b Anywhere _ _ (λ v. refl)

block_keeps : (owned : ℕ → Bool) (s : State) (b : Bytes) (w : ℕ)
    → KeepsToFlowIfDone (block_flow w) s b (or_fault (result_of_block_transfer owned s b (block_transfer_in w)))
unfolding result_of_block_transfer
block_keeps owned s b w = block_by owned s b (block_transfer_in w) (bit_of w 20)

-- BRANCHES

branch_keeps : (s : State) (b : Bytes) (w : ℕ) (links : Bool) → s.pc % 4 ≡ 0
    → KeepsToFlow (if not links then Branches ((s.pc + 8 + 4 * (w % 2 ^ 24)) % 2 ^ 26) else Anywhere) s b (state_after_branch s links (field w 0 24), b)
branch_keeps s b w true aligned = refl
branch_keeps s b w false aligned =
    let there : (s.pc + 8 + 4 * (w / 2 ^ 0 % 2 ^ 24)) / 4 % 2 ^ 24 * 4 ≡ (s.pc + 8 + 4 * (w % 2 ^ 24)) % 2 ^ 26 = omega (arith, aligned) in
    (refl, inr there)

-- EACH FORM

form_keeps : (owned : ℕ → Bool) (s : State) (b : Bytes) (f : Form) (w : ℕ) → s.pc % 4 ≡ 0
    → KeepsToFlowIfDone (flow_of_form (Ok f) s.pc w) s b (result_of_action owned s b (action_in f w))
unfolding result_of_action
form_keeps owned s b form.Multiply w aligned = refl
form_keeps owned s b form.ShiftByNumber w aligned = operate_keeps s b (operate_in (operand.Shifted (shifted_in w)) w) (is_pc_at 12 w) refl
form_keeps owned s b form.ShiftByRegister w aligned = operate_keeps s b (operate_in (operand_by_register_in w) w) (is_pc_at 12 w) refl
form_keeps owned s b form.Immediate w aligned = operate_keeps s b (operate_in (immediate_in w) w) (is_pc_at 12 w) refl
form_keeps owned s b form.OffsetByNumber w aligned = transfer_keeps owned s b (offset.Immediate (field w 0 12)) w
form_keeps owned s b form.OffsetByRegister w aligned = transfer_keeps owned s b (offset.Shifted (shifted_in w)) w
form_keeps owned s b form.BlockTransfer w aligned = block_keeps owned s b w
form_keeps owned s b form.Branch w aligned = branch_keeps s b w (bit_of w 24) aligned
form_keeps owned s b form.SoftwareInterrupt w aligned = λ same. absurd (cc)

unless_keeps : (owned : ℕ → Bool) (s : State) (b : Bytes) (k : WordFlow) (f : Option Fault) (c : Condition) (a : Action)
    → KeepsToFlowIfDone k s b (result_of_action owned s b a) → KeepsToFlowIfDone k s b (acted_if_decoded owned s b (unless_refused f (c, a)))
unless_keeps owned s b k None c a keeps = keeps
unless_keeps owned s b k (Some fault) c a keeps = no_fault fault

row_keeps : (owned : ℕ → Bool) (s : State) (b : Bytes) (row : Result Form Fault) (w : ℕ) → s.pc % 4 ≡ 0
    → KeepsToFlowIfDone (flow_of_form row s.pc w) s b (acted_if_decoded owned s b (decoded_as row w))
row_keeps owned s b (Ok f) w aligned =
    unless_keeps owned s b (flow_of_form (Ok f) s.pc w) (refusal (action_in f w)) (condition_in w) (action_in f w) (form_keeps owned s b f w aligned)
row_keeps owned s b (Err fault) w aligned = no_fault fault

-- a word that is skipped
skipped : (s : State) (b : Bytes) (c : WordFlow) → KeepsToFlow c s b (with_next_pc s, b)
skipped s b Straight = (refl, refl)
skipped s b (Branches to) = (refl, inl refl)
skipped s b Anywhere = refl
skipped s b Stores = tt

met_keeps : (owned : ℕ → Bool) (s : State) (b : Bytes) (c : WordFlow) (met : Bool) (i : Result (Condition × Action) Fault)
    → KeepsToFlowIfDone c s b (acted_if_decoded owned s b i) → KeepsToFlowIfDone c s b (if met then acted_if_decoded owned s b i else Ok (with_next_pc s, b))
met_keeps owned s b c true i keeps = keeps
met_keeps owned s b c false i keeps = skipped s b c

word_keeps : (owned : ℕ → Bool) (s : State) (b : Bytes) (w : ℕ) → s.pc % 4 ≡ 0 → KeepsToFlowIfDone (word_flow s.pc w) s b (result_of_word owned s b w)
unfolding word_flow instruction_of_word
word_keeps owned s b w aligned =
    met_keeps owned s b (flow_of_form (form_of w) s.pc w) (condition_holds (condition_in w) s.psr) (decoded_as (form_of w) w)
    (row_keeps owned s b (form_of w) w aligned)

gate_keeps : (gate : Bool) (owned : ℕ → Bool) (s : State) (b : Bytes) (c : WordFlow) (r : Result ℕ Fault) → KeepsToFlowIfDone c s b (executed_if_fetched owned s b r)
    → KeepsToFlowIfDone c s b (if gate then Err turn.Gate else executed_if_fetched owned s b r)
gate_keeps true owned s b c r keeps = λ same. absurd (cc)
gate_keeps false owned s b c r keeps = keeps

pub step_keeps : (owned : ℕ → Bool) (s : State) (b : Bytes) (w : ℕ) → s.pc % 4 ≡ 0 → word_loaded b s.pc ≡ Ok w
    → KeepsToFlowIfDone (word_flow s.pc w) s b (result_of_step owned s b)
unfolding result_of_step
step_keeps owned s b w aligned there =
    gate_keeps (s.pc == return_gate) owned s b (word_flow s.pc w) (word_loaded b s.pc)
    (subst (λ (r : Result ℕ Fault). KeepsToFlowIfDone (word_flow s.pc w) s b (executed_if_fetched owned s b r)) (sym there) (word_keeps owned s b w aligned))
