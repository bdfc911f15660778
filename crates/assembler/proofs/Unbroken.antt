-- No printed text has the byte that ends a line.
use Rattle.std.proofs.Common.{◌≡◌, ◌<◌, ◌+◌, ◌*◌, ◌^◌, ℕ, Bool, true, false, not, List, [], ◌∷◌, ◌++◌, None, refl, subst, arith}
use Rattle.std.proofs.lemmas.Bool.Decides.{nat_tests}
use Rattle.std.specs.Prelude.{◌==◌, ◌&&◌, nat_lt, codes, decimal, map, if◌then◌else◌}
use Rattle.std.specs.List.{list_all}
use Rattle.profile.specs.Digits.{hex_digit, hex_digit_at, hex_number, hex_word, without_zeros}
use Rattle.profile.specs.Word.{field}
use Rattle.arm_decode.specs.Ranges.{FitsFields, FitsOffset, FitsOperand, FitsShifted}
use Rattle.arm_decode.specs.Refusals.{is_move, is_pc, is_test}
use Rattle.arm_decode.specs.declared.action.Action.{Action}
use Rattle.arm_decode.specs.declared.action.Action.TheVariants as action
use Rattle.arm_decode.specs.declared.action.Multiply.{Multiply}
use Rattle.arm_decode.specs.declared.action.Operate.{Operate}
use Rattle.arm_decode.specs.declared.address.Address.{Address}
use Rattle.arm_decode.specs.declared.address.BlockMode.{BlockMode}
use Rattle.arm_decode.specs.declared.address.BlockMode.TheVariants as mode
use Rattle.arm_decode.specs.declared.action.BlockTransfer.{BlockTransfer}
use Rattle.arm_decode.specs.declared.action.Transfer.{Transfer}
use Rattle.arm_decode.specs.declared.address.Direction.{Direction}
use Rattle.arm_decode.specs.declared.address.Indexing.{Indexing}
use Rattle.arm_decode.specs.declared.address.Indexing.TheVariants.{Post, Pre}
use Rattle.arm_decode.specs.declared.address.Offset.{Offset}
use Rattle.arm_decode.specs.declared.address.Offset.TheVariants as offset
use Rattle.arm_decode.specs.declared.condition.Condition.{Condition}
use Rattle.arm_decode.specs.declared.condition.Condition.TheVariants as condition
use Rattle.arm_decode.specs.declared.operand.Operand.{Operand}
use Rattle.arm_decode.specs.declared.operand.Operand.TheVariants as operand
use Rattle.arm_decode.specs.declared.operation.Operation.{Operation}
use Rattle.arm_decode.specs.declared.operation.Operation.TheVariants as operation
use Rattle.arm_decode.specs.declared.shift.Shift.{Shift}
use Rattle.arm_decode.specs.declared.shift.Shift.TheVariants as shift
use Rattle.arm_decode.specs.declared.shift.ShiftedRegister.{ShiftedRegister}
use Rattle.arm_decode.specs.Names.{is_up}
use Rattle.assembler_reading.specs.AssemblerTextNames.{block_mode_text, choose_text, condition_text, operation_text, register_text, shift_text, text_if}
use Rattle.assembler_reading.specs.Numbers.{immediate_text, immediate_value, is_field, least_rotation, number_text}
use Rattle.assembler_reading.specs.AssemblerTextOperands.{amount_text, by_register_text, operand_text, shifted_text, shifting_text}
use Rattle.assembler_reading.specs.Printing.{action_text, branch_target, branch_text, flags_text, swi_text, multiply_head, multiply_operands, operate_head, operate_registers_text}
use Rattle.assembler_reading.specs.Transfers.{operand_address_text, after_text, base_text, before_text, block_head, braces_text, close_text, indexed_text, is_nothing, is_user, listed_from, listed_text, offset_text, register_names_text, sign_text, transfer_head}
use Rattle.assembler_reading.specs.Words.{is_word_byte}
use Rattle.assembler_reading.proofs.MnemonicsAgain.{letters_join}
use Rattle.assembler_reading.proofs.Numbers.{is_amount}

abbrev pub is_plain : ℕ → Bool
is_plain c = not (c == 10)

abbrev pub IsUnbroken : List ℕ → Type 0
IsUnbroken text = list_all is_plain text ≡ true

-- parts
join : (front behind : List ℕ) → IsUnbroken front → IsUnbroken behind → IsUnbroken (front ++ behind)
join front behind h k = letters_join is_plain front behind h k

onto : (c : ℕ) (text : List ℕ) → is_plain c ≡ true → IsUnbroken text → IsUnbroken (c ∷ text)
onto c text h k = rw h k

pub behind_first : (c : ℕ) (text : List ℕ) → IsUnbroken (c ∷ text) → IsUnbroken text
behind_first c text h = by (is_plain c) h
  where
    by : (b : Bool) → (b && list_all is_plain text) ≡ true → IsUnbroken text
    by true k = k
    by false k = absurd cc

either : (b : Bool) (first second : List ℕ) → IsUnbroken first → IsUnbroken second → IsUnbroken (if b then first else second)
either true first second h k = h
either false first second h k = k

chosen : (b : Bool) (first second : List ℕ) → IsUnbroken first → IsUnbroken second → IsUnbroken (choose_text b first second)
chosen true first second h k = h
chosen false first second h k = k

optional : (b : Bool) (text : List ℕ) → IsUnbroken text → IsUnbroken (text_if b text)
optional true text h = h
optional false text h = refl

-- letters and digits
all_by : (p q : ℕ → Bool) → ((c : ℕ) → p c ≡ true → q c ≡ true) → (text : List ℕ) → list_all p text ≡ true → list_all q text ≡ true
all_by p q implies [] h = refl
all_by p q implies (x ∷ text) h = by (p x) refl (all_by p q implies text)
  where
    by : (b : Bool) → p x ≡ b → (list_all p text ≡ true → list_all q text ≡ true) → list_all q (x ∷ text) ≡ true
    by true e more = let left = rw e at h in rw (implies x e) (more left)
    by false e more = let left = rw e at h in absurd cc

letter_is_plain : (c : ℕ) → is_word_byte c ≡ true → is_plain c ≡ true
letter_is_plain c h = by (c == 10) refl
  where
    no_letter : is_word_byte 10 ≡ true → is_plain c ≡ true
    no_letter k = absurd cc

    by : (b : Bool) → (c == 10) ≡ b → is_plain c ≡ true
    by true e = let same : c ≡ 10 = grind (arith, nat_tests, e) in no_letter (subst (λ (n : ℕ). is_word_byte n ≡ true) same h)
    by false e = rw e refl

word_is_unbroken : (text : List ℕ) → list_all is_word_byte text ≡ true → IsUnbroken text
word_is_unbroken text h = all_by is_word_byte is_plain letter_is_plain text h

sum_is_plain : (n k : ℕ) → 10 < k → is_plain (n + k) ≡ true
sum_is_plain n k h = let apart : (n + k == 10) ≡ false = grind (arith, nat_tests, h) in rw apart refl

-- names
condition_unbroken : (c : Condition) → IsUnbroken (condition_text c)
condition_unbroken condition.Equal = refl
condition_unbroken condition.NotEqual = refl
condition_unbroken condition.CarrySet = refl
condition_unbroken condition.CarryClear = refl
condition_unbroken condition.Minus = refl
condition_unbroken condition.Plus = refl
condition_unbroken condition.OverflowSet = refl
condition_unbroken condition.OverflowClear = refl
condition_unbroken condition.Higher = refl
condition_unbroken condition.LowerOrSame = refl
condition_unbroken condition.GreaterOrEqual = refl
condition_unbroken condition.LessThan = refl
condition_unbroken condition.GreaterThan = refl
condition_unbroken condition.LessOrEqual = refl
condition_unbroken condition.Always = refl
condition_unbroken condition.Never = refl

operation_unbroken : (o : Operation) → IsUnbroken (operation_text o)
operation_unbroken operation.And = refl
operation_unbroken operation.ExclusiveOr = refl
operation_unbroken operation.Subtract = refl
operation_unbroken operation.ReverseSubtract = refl
operation_unbroken operation.Add = refl
operation_unbroken operation.AddWithCarry = refl
operation_unbroken operation.SubtractWithCarry = refl
operation_unbroken operation.ReverseSubtractWithCarry = refl
operation_unbroken operation.Test = refl
operation_unbroken operation.TestEquivalence = refl
operation_unbroken operation.Compare = refl
operation_unbroken operation.CompareNegated = refl
operation_unbroken operation.Or = refl
operation_unbroken operation.Move = refl
operation_unbroken operation.BitClear = refl
operation_unbroken operation.MoveNot = refl

shift_unbroken : (s : Shift) → IsUnbroken (shift_text s)
shift_unbroken shift.LogicalLeft = refl
shift_unbroken shift.LogicalRight = refl
shift_unbroken shift.ArithmeticRight = refl
shift_unbroken shift.RotateRight = refl

mode_unbroken : (m : BlockMode) → IsUnbroken (block_mode_text m)
mode_unbroken mode.DecrementAfter = refl
mode_unbroken mode.IncrementAfter = refl
mode_unbroken mode.DecrementBefore = refl
mode_unbroken mode.IncrementBefore = refl

register_unbroken : (n : ℕ) → IsUnbroken (register_text n)
register_unbroken n =
    either (n == 15) (80 ∷ 67 ∷ []) (if nat_lt n 10 then 82 ∷ (n + 48) ∷ [] else 82 ∷ 49 ∷ (n + 38) ∷ []) refl
    (either (nat_lt n 10) (82 ∷ (n + 48) ∷ []) (82 ∷ 49 ∷ (n + 38) ∷ [])
    (onto (n + 48) [] (sum_is_plain n 48 (omega arith)) refl) (onto (n + 38) [] (sum_is_plain n 38 (omega arith)) refl))

-- numbers
hex_digit_is_plain : (d : ℕ) → is_plain (hex_digit d) ≡ true
hex_digit_is_plain d = by (nat_lt d 10)
  where
    by : (b : Bool) → is_plain (if b then d + 48 else d + 55) ≡ true
    by true = sum_is_plain d 48 (omega arith)
    by false = sum_is_plain d 55 (omega arith)

digits_unbroken : (n : ℕ) (lows : List ℕ) → IsUnbroken (map (hex_digit_at n) lows)
digits_unbroken n [] = refl
digits_unbroken n (low ∷ lows) = onto (hex_digit_at n low) (map (hex_digit_at n) lows) (hex_digit_is_plain (field n low 4)) (digits_unbroken n lows)

pub hex_word_unbroken : (n : ℕ) → IsUnbroken (hex_word n)
unfolding hex_word
hex_word_unbroken n = digits_unbroken n (28 ∷ 24 ∷ 20 ∷ 16 ∷ 12 ∷ 8 ∷ 4 ∷ 0 ∷ [])

without_zeros_unbroken : (ds : List ℕ) → IsUnbroken ds → IsUnbroken (without_zeros ds)
without_zeros_unbroken [] h = refl
without_zeros_unbroken (x ∷ []) h = h
without_zeros_unbroken (x ∷ y ∷ ds) h =
    either (x == 48) (without_zeros (y ∷ ds)) (x ∷ y ∷ ds) (without_zeros_unbroken (y ∷ ds) (behind_first x (y ∷ ds) h)) h

number_unbroken : (n : ℕ) → IsUnbroken (number_text n)
unfolding hex_number
number_unbroken n = without_zeros_unbroken (hex_word n) (hex_word_unbroken n)

amount_unbroken : (n : ℕ) → n < 33 → IsUnbroken (decimal n)
amount_unbroken n h = word_is_unbroken (decimal n) (is_amount n (λ (name : List ℕ). None) [] h).letters

-- the operands of data processing
immediate_unbroken : (r b : ℕ) → r < 2 ^ 4 → IsUnbroken (immediate_text r b)
immediate_unbroken r b h =
    either (is_field (least_rotation (immediate_value r b)) r) (codes "#" ++ number_text (immediate_value r b))
    (codes "#" ++ (number_text b ++ (codes "," ++ decimal (2 * r)))) (number_unbroken (immediate_value r b))
    (join (number_text b) (codes "," ++ decimal (2 * r)) (number_unbroken b) (amount_unbroken (2 * r) (omega (arith, h))))

by_amount_unbroken : (s : Shift) (n : ℕ) → n < 33 → IsUnbroken (amount_text s n)
by_amount_unbroken s n h = join (shift_text s) (codes " #" ++ decimal n) (shift_unbroken s) (amount_unbroken n h)

limited : (n : ℕ) → n < 2 ^ 5 → (if n == 0 then 32 else n) < 33
limited n h = by (n == 0)
  where
    by : (b : Bool) → (if b then 32 else n) < 33
    by true = omega arith
    by false = omega (arith, h)

shifting_unbroken : (s : Shift) (n : ℕ) → n < 2 ^ 5 → IsUnbroken (shifting_text s n)
shifting_unbroken shift.LogicalLeft n h =
    either (n == 0) [] (amount_text shift.LogicalLeft n) refl (by_amount_unbroken shift.LogicalLeft n (omega (arith, h)))
shifting_unbroken shift.LogicalRight n h = by_amount_unbroken shift.LogicalRight (if n == 0 then 32 else n) (limited n h)
shifting_unbroken shift.ArithmeticRight n h = by_amount_unbroken shift.ArithmeticRight (if n == 0 then 32 else n) (limited n h)
shifting_unbroken shift.RotateRight n h =
    either (n == 0) (codes ",RRX") (amount_text shift.RotateRight n) refl (by_amount_unbroken shift.RotateRight n (omega (arith, h)))

shifted_unbroken : (s : ShiftedRegister) → FitsShifted s → IsUnbroken (shifted_text s)
shifted_unbroken s fits = join (register_text s.rm) (shifting_text s.shift s.amount) (register_unbroken s.rm) (shifting_unbroken s.shift s.amount fits.1)

by_register_unbroken : (rm : ℕ) (s : Shift) (rs : ℕ) → IsUnbroken (by_register_text rm s rs)
by_register_unbroken rm s rs =
    join (register_text rm) (codes "," ++ (shift_text s ++ (codes " " ++ register_text rs))) (register_unbroken rm)
    (join (shift_text s) (codes " " ++ register_text rs) (shift_unbroken s) (register_unbroken rs))

operand_unbroken : (o : Operand) → FitsOperand o → IsUnbroken (operand_text o)
operand_unbroken (operand.Immediate r b) fits = immediate_unbroken r b fits.0
operand_unbroken (operand.Shifted s) fits = shifted_unbroken s fits
operand_unbroken (operand.ShiftedByRegister rm s rs) fits = by_register_unbroken rm s rs

-- data processing
flags_unbroken : (o : Operate) → IsUnbroken (flags_text o)
flags_unbroken o =
    either (is_test o.operation) (text_if (is_pc o.rd) (codes "P")) (text_if o.sets_flags (codes "S"))
    (optional (is_pc o.rd) (codes "P") refl) (optional o.sets_flags (codes "S") refl)

operate_head_unbroken : (c : Condition) (o : Operate) → IsUnbroken (operate_head c o)
operate_head_unbroken c o =
    join (operation_text o.operation) (condition_text c ++ (flags_text o ++ codes " ")) (operation_unbroken o.operation)
    (join (condition_text c) (flags_text o ++ codes " ") (condition_unbroken c) (join (flags_text o) (codes " ") (flags_unbroken o) refl))

with_comma : (n : ℕ) (rest : List ℕ) → IsUnbroken rest → IsUnbroken (register_text n ++ (codes "," ++ rest))
with_comma n rest h = join (register_text n) (codes "," ++ rest) (register_unbroken n) h

registers_unbroken : (o : Operate) → IsUnbroken (operate_registers_text o)
registers_unbroken o =
    either (is_test o.operation) (register_text o.rn ++ codes ",")
    (if is_move o.operation then register_text o.rd ++ codes "," else register_text o.rd ++ (codes "," ++ (register_text o.rn ++ codes ",")))
    (with_comma o.rn [] refl)
    (either (is_move o.operation) (register_text o.rd ++ codes ",") (register_text o.rd ++ (codes "," ++ (register_text o.rn ++ codes ",")))
    (with_comma o.rd [] refl) (with_comma o.rd (register_text o.rn ++ codes ",") (with_comma o.rn [] refl)))

-- MUL, MLA
multiply_head_unbroken : (c : Condition) (m : Multiply) → IsUnbroken (multiply_head c m)
multiply_head_unbroken c m =
    join (choose_text m.accumulates (codes "MLA") (codes "MUL")) (condition_text c ++ (text_if m.sets_flags (codes "S") ++ codes " "))
    (chosen m.accumulates (codes "MLA") (codes "MUL") refl refl)
    (join (condition_text c) (text_if m.sets_flags (codes "S") ++ codes " ") (condition_unbroken c)
    (join (text_if m.sets_flags (codes "S")) (codes " ") (optional m.sets_flags (codes "S") refl) refl))

multiply_operands_unbroken : (m : Multiply) → IsUnbroken (multiply_operands m)
multiply_operands_unbroken m =
    with_comma m.rd (register_text m.rm ++ (codes "," ++ (register_text m.rs ++
    (text_if m.accumulates (codes ",") ++ text_if m.accumulates (register_text m.rn)))))
    (with_comma m.rm (register_text m.rs ++ (text_if m.accumulates (codes ",") ++ text_if m.accumulates (register_text m.rn)))
    (join (register_text m.rs) (text_if m.accumulates (codes ",") ++ text_if m.accumulates (register_text m.rn)) (register_unbroken m.rs)
    (join (text_if m.accumulates (codes ",")) (text_if m.accumulates (register_text m.rn)) (optional m.accumulates (codes ",") refl)
    (optional m.accumulates (register_text m.rn) (register_unbroken m.rn)))))

-- LDR, STR
signed_unbroken : (d : Direction) (rest : List ℕ) → IsUnbroken rest → IsUnbroken (sign_text d ++ rest)
signed_unbroken d rest h = join (sign_text d) rest (optional (not (is_up d)) (codes "-") refl) h

offset_unbroken : (d : Direction) (o : Offset) → FitsOffset o → IsUnbroken (offset_text d o)
offset_unbroken d (offset.Immediate n) fits = signed_unbroken d (number_text n) (number_unbroken n)
offset_unbroken d (offset.Shifted s) fits = signed_unbroken d (shifted_text s) (shifted_unbroken s fits)

base_unbroken : (n : ℕ) (rest : List ℕ) → IsUnbroken rest → IsUnbroken (base_text n rest)
base_unbroken n rest h = join (register_text n) rest (register_unbroken n) h

close_unbroken : (w : Bool) → IsUnbroken (close_text w)
close_unbroken w = optional w (codes "!") refl

before_unbroken : (w : Bool) (a : Address) → FitsOffset a.offset → IsUnbroken (before_text w a)
before_unbroken w a fits =
    either (not w && is_nothing a.direction a.offset) (base_text a.rn (codes "]"))
    (base_text a.rn (codes ",") ++ (offset_text a.direction a.offset ++ close_text w)) (base_unbroken a.rn (codes "]") refl)
    (join (base_text a.rn (codes ",")) (offset_text a.direction a.offset ++ close_text w) (base_unbroken a.rn (codes ",") refl)
    (join (offset_text a.direction a.offset) (close_text w) (offset_unbroken a.direction a.offset fits) (close_unbroken w)))

after_unbroken : (a : Address) → FitsOffset a.offset → IsUnbroken (after_text a)
after_unbroken a fits =
    join (base_text a.rn (codes "],")) (offset_text a.direction a.offset) (base_unbroken a.rn (codes "],") refl)
    (offset_unbroken a.direction a.offset fits)

indexed_unbroken : (i : Indexing) (a : Address) → FitsOffset a.offset → IsUnbroken (indexed_text i a)
indexed_unbroken (Pre w) a fits = before_unbroken w a fits
indexed_unbroken (Post user) a fits = after_unbroken a fits

address_unbroken : (a : Address) → FitsOffset a.offset → IsUnbroken (operand_address_text a)
address_unbroken a fits = indexed_unbroken a.indexing a fits

transfer_head_unbroken : (c : Condition) (t : Transfer) → IsUnbroken (transfer_head c t)
transfer_head_unbroken c t =
    join (choose_text t.loads (codes "LDR") (codes "STR")) (condition_text c ++ (text_if t.is_byte (codes "B") ++
    (text_if (is_user t.address.indexing) (codes "T") ++ (codes " " ++ (register_text t.rd ++ codes ",")))))
    (chosen t.loads (codes "LDR") (codes "STR") refl refl)
    (join (condition_text c) (text_if t.is_byte (codes "B") ++
    (text_if (is_user t.address.indexing) (codes "T") ++ (codes " " ++ (register_text t.rd ++ codes ","))))
    (condition_unbroken c)
    (join (text_if t.is_byte (codes "B")) (text_if (is_user t.address.indexing) (codes "T") ++ (codes " " ++ (register_text t.rd ++ codes ",")))
    (optional t.is_byte (codes "B") refl)
    (join (text_if (is_user t.address.indexing) (codes "T")) (codes " " ++ (register_text t.rd ++ codes ","))
    (optional (is_user t.address.indexing) (codes "T") refl) (with_comma t.rd [] refl))))

-- LDM, STM
separated_unbroken : (before ns : List ℕ) → IsUnbroken before → IsUnbroken (register_names_text before ns)
separated_unbroken before [] h = refl
separated_unbroken before (n ∷ ns) h =
    join before (register_text n ++ register_names_text (codes ",") ns) h
    (join (register_text n) (register_names_text (codes ",") ns) (register_unbroken n) (separated_unbroken (codes ",") ns refl))

listed_unbroken : (list : ℕ) → IsUnbroken (listed_text list)
unfolding listed_text
listed_unbroken list = separated_unbroken [] (listed_from list 0) refl

block_head_unbroken : (c : Condition) (b : BlockTransfer) → IsUnbroken (block_head c b)
block_head_unbroken c b =
    join (choose_text b.loads (codes "LDM") (codes "STM")) (condition_text c ++ (block_mode_text b.mode ++ (codes " " ++
    (register_text b.rn ++ (text_if b.writes_back (codes "!") ++ codes ",")))))
    (chosen b.loads (codes "LDM") (codes "STM") refl refl)
    (join (condition_text c) (block_mode_text b.mode ++ (codes " " ++ (register_text b.rn ++ (text_if b.writes_back (codes "!") ++ codes ","))))
    (condition_unbroken c)
    (join (block_mode_text b.mode) (codes " " ++ (register_text b.rn ++ (text_if b.writes_back (codes "!") ++ codes ","))) (mode_unbroken b.mode)
    (join (register_text b.rn) (text_if b.writes_back (codes "!") ++ codes ",") (register_unbroken b.rn)
    (join (text_if b.writes_back (codes "!")) (codes ",") (optional b.writes_back (codes "!") refl) refl))))

braces_unbroken : (b : BlockTransfer) → IsUnbroken (braces_text b)
braces_unbroken b =
    join (listed_text b.list) (codes "}" ++ text_if b.psr_or_user (codes "^")) (listed_unbroken b.list) (optional b.psr_or_user (codes "^") refl)

-- B, BL, SWI
branch_unbroken : (c : Condition) (links : Bool) (t : ℕ) → IsUnbroken (branch_text c links t)
branch_unbroken c links t =
    join (choose_text links (codes "BL") (codes "B")) (condition_text c ++ (codes " " ++ number_text t))
    (chosen links (codes "BL") (codes "B") refl refl)
    (join (condition_text c) (codes " " ++ number_text t) (condition_unbroken c) (number_unbroken t))

swi_unbroken : (c : Condition) (n : ℕ) → IsUnbroken (swi_text c n)
swi_unbroken c n = join (condition_text c) (codes " " ++ number_text n) (condition_unbroken c) (number_unbroken n)

pub action_unbroken : (address : ℕ) (c : Condition) (a : Action) → FitsFields a → IsUnbroken (action_text address c a)
action_unbroken address c (action.Operate o) fits =
    join (operate_head c o) (operate_registers_text o ++ operand_text o.operand) (operate_head_unbroken c o)
    (join (operate_registers_text o) (operand_text o.operand) (registers_unbroken o) (operand_unbroken o.operand fits.2))
action_unbroken address c (action.Multiply m) fits =
    join (multiply_head c m) (multiply_operands m) (multiply_head_unbroken c m) (multiply_operands_unbroken m)
action_unbroken address c (action.Transfer t) fits =
    join (transfer_head c t) (operand_address_text t.address) (transfer_head_unbroken c t) (address_unbroken t.address fits.2)
action_unbroken address c (action.BlockTransfer b) fits =
    join (block_head c b) (braces_text b) (block_head_unbroken c b) (braces_unbroken b)
action_unbroken address c (action.Branch links d) fits = branch_unbroken c links (branch_target address d)
action_unbroken address c (action.SoftwareInterrupt n) fits = swi_unbroken c n
