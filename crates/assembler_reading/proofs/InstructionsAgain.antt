-- A printed instruction is read back, by its mnemonic and its operands.
use Rattle.std.proofs.Common.{◌≡◌, ◌<◌, ◌+◌, ◌-◌, ◌/◌, ◌%◌, ◌^◌, ℕ, Bool, true, false, List, [], ◌∷◌, ◌++◌, Option, Some, None, Result, Ok, Err, refl, sym, ap, subst, ◌∙◌, arith, append_assoc}
use Rattle.std.proofs.lemmas.Bool.Decides.{nat_tests}
use Rattle.std.proofs.lemmas.List.{append-nil}
use Rattle.std.specs.Prelude.{◌==◌, ◌&&◌, nat_lt, codes}
use Rattle.profile.specs.Fault.{Fault}
use Rattle.arm_decode.specs.Decoded.{instruction_of_word, decoded_as, unless_refused}
use Rattle.arm_decode.specs.Diagrams.{word_of_instruction}
use Rattle.arm_decode.specs.Fields.{action_in, condition_in}
use Rattle.arm_decode.specs.Ranges.{FitsFields}
use Rattle.arm_decode.specs.Refusals.{is_test, refusal}
use Rattle.arm_decode.specs.Table.{form_of}
use Rattle.arm_decode.specs.declared.action.Action.{Action}
use Rattle.arm_decode.specs.declared.action.Action.TheVariants as action
use Rattle.arm_decode.specs.declared.action.Multiply.{Multiply}
use Rattle.arm_decode.specs.declared.action.Operate.{Operate}
use Rattle.arm_decode.specs.declared.condition.Condition.{Condition}
use Rattle.arm_decode.specs.declared.form.Form.{Form}
use Rattle.assembler_text.specs.Names.{choose_text, condition_text, operation_text, text_if}
use Rattle.assembler_text.specs.Numbers.{number_text}
use Rattle.assembler_text.specs.Operands.{operand_text}
use Rattle.assembler_text.specs.Printing.{branch_target, branch_text, flags_text, swi_text, multiply_head, multiply_operands, multiply_text, operate_head, operate_text, operate_registers_text}
use Rattle.assembler_text.specs.naming.Expressions.{Lookup, expression, sign}
use Rattle.assembler_text.specs.naming.SwiNames.{call_named, swi_named}
use Rattle.assembler_text.specs.naming.Mnemonics.{flag_text, mnemonic}
use Rattle.assembler_text.specs.naming.Words.{after_spaces, after_word, byte, spaces, word}
use Rattle.assembler_text.specs.declared.naming.mnemonics.Command.{Command}
use Rattle.assembler_text.specs.declared.naming.mnemonics.Command.TheVariants as command
use Rattle.assembler_reading.specs.Instructions.{action_at, branch_at, branch_to, instruction, swi_at, swi_action, plain_call, word_for}
use Rattle.assembler_reading.proofs.MnemonicsAgain.{IsMnemonic, branch_word, swi_word, multiply_word, operate_word}
use Rattle.assembler_reading.proofs.Numbers.{number_again}
use Rattle.assembler_reading.proofs.OperatingAgain.{allocated, flag_of, multiply_again, multiply_no_space, operate_again, operate_no_space}
use Rattle.assembler_reading.proofs.Pieces.{after_before, ends_nothing, word_before}

by_refusal : (o : Option Fault) (i j : Condition × Action) → unless_refused o j ≡ Ok i → (o ≡ None) × (j ≡ i)
by_refusal None i j h = (refl, cc)
by_refusal (Some f) i j h = absurd cc

allowed_as : (r : Result Form Fault) (w : ℕ) (i : Condition × Action) → decoded_as r w ≡ Ok i → refusal i.1 ≡ None
allowed_as (Ok f) w i h =
    let known = by_refusal (refusal (action_in f w)) i (condition_in w, action_in f w) h in
    sym (ap (λ (k : Condition × Action). refusal k.1) known.1) ∙ known.0
allowed_as (Err f) w i h = absurd cc

-- an instruction that was decoded isn't refused
pub allowed : (w : ℕ) (i : Condition × Action) → instruction_of_word w ≡ Ok i → refusal i.1 ≡ None
unfolding instruction_of_word
allowed w i h = allowed_as (form_of w) w i h

pub word_for_again : (w : ℕ) (i : Condition × Action) → refusal i.1 ≡ None → word_of_instruction i ≡ w → word_for i.0 (Ok i.1) ≡ Ok w
word_for_again w i free same = rw free (ap (λ (n : ℕ). Ok n) same)

-- a mnemonic, a space and its operands
pub read_again : (labels : Lookup) (address w : ℕ) (name operands : List ℕ) (what : Command) (i : Condition × Action)
    → IsMnemonic name (mnemonic i.0 what) → after_spaces operands ≡ operands → action_at labels address what operands ≡ Some (Ok i.1, [])
    → word_for i.0 (Ok i.1) ≡ Ok w → instruction labels address (name ++ (32 ∷ operands)) ≡ Some (Ok w, [])
unfolding instruction spaces byte
read_again labels address w name operands what i m no_space read same =
    rw (word_before name (32 ∷ operands) m.letters refl, after_before name (32 ∷ operands) m.letters refl, m.named, no_space, read, same) refl

-- a mnemonic of three parts, a space and what follows
pub four_parts : (a b c rest : List ℕ) → (a ++ (b ++ (c ++ codes " "))) ++ rest ≡ (a ++ (b ++ c)) ++ (32 ∷ rest)
four_parts a b c rest =
    append_assoc a (b ++ (c ++ codes " ")) rest
    ∙ ap (λ (t : List ℕ). a ++ t) (append_assoc b (c ++ codes " ") rest ∙ ap (λ (t : List ℕ). b ++ t) (append_assoc c (codes " ") rest))
    ∙ sym (append_assoc a (b ++ c) (32 ∷ rest) ∙ ap (λ (t : List ℕ). a ++ t) (append_assoc b c (32 ∷ rest)))

-- AND to MVN
flags_again : (o : Operate) → flags_text o ≡ text_if (flag_of o) (flag_text o.operation)
flags_again o = by (is_test o.operation) refl
  where
    by : (t : Bool) → is_test o.operation ≡ t → flags_text o ≡ text_if (flag_of o) (flag_text o.operation)
    by true e = rw e refl
    by false e = rw e refl

operate_shape : (c : Condition) (o : Operate)
    → operate_text c o ≡ (operation_text o.operation ++ (condition_text c ++ text_if (flag_of o) (flag_text o.operation))) ++ (32 ∷ (operate_registers_text o ++ operand_text o.operand))
operate_shape c o =
    ap (λ (f : List ℕ). (operation_text o.operation ++ (condition_text c ++ (f ++ codes " "))) ++ (operate_registers_text o ++ operand_text o.operand)) (flags_again o)
    ∙ four_parts (operation_text o.operation) (condition_text c) (text_if (flag_of o) (flag_text o.operation)) (operate_registers_text o ++ operand_text o.operand)

pub operate_is_read : (labels : Lookup) (address w : ℕ) (c : Condition) (o : Operate) → FitsFields (action.Operate o) → refusal (action.Operate o) ≡ None
    → word_of_instruction (c, action.Operate o) ≡ w → instruction labels address (operate_text c o) ≡ Some (Ok w, [])
operate_is_read labels address w c o fits free same =
    rw (operate_shape c o)
    (read_again labels address w (operation_text o.operation ++ (condition_text c ++ text_if (flag_of o) (flag_text o.operation)))
    (operate_registers_text o ++ operand_text o.operand) (command.Operate o.operation (flag_of o)) (c, action.Operate o)
    (operate_word c o.operation (flag_of o)) (operate_no_space o fits)
    (operate_again labels o fits (allocated (action.Operate o) free))
    (word_for_again w (c, action.Operate o) free same))

-- MUL, MLA
multiply_shape : (c : Condition) (m : Multiply)
    → multiply_text c m ≡ (choose_text m.accumulates (codes "MLA") (codes "MUL") ++ (condition_text c ++ text_if m.sets_flags (codes "S"))) ++ (32 ∷ multiply_operands m)
multiply_shape c m =
    four_parts (choose_text m.accumulates (codes "MLA") (codes "MUL")) (condition_text c) (text_if m.sets_flags (codes "S")) (multiply_operands m)

pub multiply_is_read : (labels : Lookup) (address w : ℕ) (c : Condition) (m : Multiply) → FitsFields (action.Multiply m) → refusal (action.Multiply m) ≡ None
    → word_of_instruction (c, action.Multiply m) ≡ w → instruction labels address (multiply_text c m) ≡ Some (Ok w, [])
multiply_is_read labels address w c m fits free same =
    rw (multiply_shape c m)
    (read_again labels address w (choose_text m.accumulates (codes "MLA") (codes "MUL") ++ (condition_text c ++ text_if m.sets_flags (codes "S")))
    (multiply_operands m) (command.Multiply m.accumulates m.sets_flags) (c, action.Multiply m)
    (multiply_word c m.accumulates m.sets_flags) (multiply_no_space m fits)
    (multiply_again m fits (allocated (action.Multiply m) free))
    (word_for_again w (c, action.Multiply m) free same))

-- a number alone
number_alone : (labels : Lookup) (n : ℕ) → n < 2 ^ 32 → expression labels (number_text n) ≡ Some (Some n, [])
number_alone labels n low =
    subst (λ (text : List ℕ). expression labels text ≡ Some (Some n, [])) (append-nil (number_text n))
    (number_again labels n [] low refl ends_nothing.no_sign)

number_no_space : (n : ℕ) → after_spaces (number_text n) ≡ number_text n
unfolding after_spaces
number_no_space n = refl

-- B, BL
target_bounds : (t : ℕ) → t % 4 ≡ 0 → t < 2 ^ 26 → (t % 4 == 0 && nat_lt t (2 ^ 26)) ≡ true
target_bounds t even low = grind (arith, nat_tests, even, low)

distance_again : (address d : ℕ) → address % 4 ≡ 0 → address < 2 ^ 26 → d < 2 ^ 24
    → (2 ^ 33 + branch_target address d - (address + 8)) / 4 % 2 ^ 24 ≡ d
distance_again address d even low small = omega arith

branch_of : (address d : ℕ) (links : Bool) → address % 4 ≡ 0 → address < 2 ^ 26 → d < 2 ^ 24
    → branch_to address links (Some (branch_target address d)) ≡ Ok (action.Branch links d)
branch_of address d links even low small =
    rw (target_bounds (branch_target address d) (omega arith) (omega arith))
    (ap (λ (n : ℕ). Ok (action.Branch links n)) (distance_again address d even low small))

branch_again : (labels : Lookup) (address d : ℕ) (links : Bool) → address % 4 ≡ 0 → address < 2 ^ 26 → d < 2 ^ 24
    → branch_at labels address links (number_text (branch_target address d)) ≡ Some (Ok (action.Branch links d), [])
branch_again labels address d links even low small =
    let t : ℕ = branch_target address d in
    let word_sized : t < 2 ^ 32 = omega arith in
    rw (number_alone labels t word_sized, branch_of address d links even low small) refl

branch_shape : (c : Condition) (links : Bool) (t : ℕ) → branch_text c links t ≡ (choose_text links (codes "BL") (codes "B") ++ condition_text c) ++ (32 ∷ number_text t)
branch_shape c links t = sym (append_assoc (choose_text links (codes "BL") (codes "B")) (condition_text c) (32 ∷ number_text t))

pub branch_is_read : (labels : Lookup) (address w : ℕ) (c : Condition) (links : Bool) (d : ℕ) → address % 4 ≡ 0 → address < 2 ^ 26 → d < 2 ^ 24
    → refusal (action.Branch links d) ≡ None → word_of_instruction (c, action.Branch links d) ≡ w
    → instruction labels address (branch_text c links (branch_target address d)) ≡ Some (Ok w, [])
branch_is_read labels address w c links d even low small free same =
    rw (branch_shape c links (branch_target address d))
    (read_again labels address w (choose_text links (codes "BL") (codes "B") ++ condition_text c) (number_text (branch_target address d))
    (command.Branch links) (c, action.Branch links d) (branch_word c links) (number_no_space (branch_target address d))
    (branch_again labels address d links even low small)
    (word_for_again w (c, action.Branch links d) free same))

-- SWI
no_call : (n : ℕ) → plain_call (number_text n) ≡ None
unfolding sign after_word word call_named
no_call n = refl

no_quote : (n : ℕ) → byte 34 (number_text n) ≡ None
unfolding byte
no_quote n = refl

swi_fits : (n : ℕ) → n < 2 ^ 24 → swi_action (Some n) ≡ Ok (action.SoftwareInterrupt n)
swi_fits n small = let test : nat_lt n (2 ^ 24) ≡ true = grind (arith, nat_tests, small) in rw test refl

swi_again : (labels : Lookup) (n : ℕ) → n < 2 ^ 24 → swi_at labels (number_text n) ≡ Some (Ok (action.SoftwareInterrupt n), [])
unfolding swi_at
swi_again labels n small =
    let word_sized : n < 2 ^ 32 = omega arith in
    rw (no_quote n, no_call n, number_alone labels n word_sized, swi_fits n small) refl

swi_shape : (c : Condition) (n : ℕ) → swi_text c n ≡ (codes "SWI" ++ condition_text c) ++ (32 ∷ number_text n)
swi_shape c n = sym (append_assoc (codes "SWI") (condition_text c) (32 ∷ number_text n))

pub swi_is_read : (labels : Lookup) (address w : ℕ) (c : Condition) (n : ℕ) → n < 2 ^ 24 → refusal (action.SoftwareInterrupt n) ≡ None
    → word_of_instruction (c, action.SoftwareInterrupt n) ≡ w → instruction labels address (swi_text c n) ≡ Some (Ok w, [])
swi_is_read labels address w c n small free same =
    rw (swi_shape c n)
    (read_again labels address w (codes "SWI" ++ condition_text c) (number_text n)
    command.SoftwareInterrupt (c, action.SoftwareInterrupt n) (swi_word c) (number_no_space n)
    (swi_again labels n small)
    (word_for_again w (c, action.SoftwareInterrupt n) free same))
