-- The mnemonic of a printed instruction is read back.
use Rattle.std.proofs.Common.{◌≡◌, ℕ, Bool, true, false, List, [], ◌∷◌, ◌++◌, take, drop, Some, None, refl}
use Rattle.std.specs.Prelude.{codes, if◌then◌else◌}
use Rattle.std.specs.List.{list_all}
use Rattle.arm_decode.specs.Refusals.{is_test}
use Rattle.arm_decode.specs.declared.address.BlockMode.{BlockMode}
use Rattle.arm_decode.specs.declared.address.BlockMode.TheVariants as block
use Rattle.arm_decode.specs.declared.condition.Condition.{Condition}
use Rattle.arm_decode.specs.declared.condition.Condition.TheVariants as condition
use Rattle.arm_decode.specs.declared.operation.Operation.{Operation}
use Rattle.arm_decode.specs.declared.operation.Operation.TheVariants as operation
use Rattle.assembler_text.specs.Names.{block_mode_text, choose_text, condition_text, operation_text, text_if}
use Rattle.assembler_text.specs.naming.Mnemonics.{block_mnemonic, condition_and_rest, first_name, flag_text, swi_mnemonic, linked_branch, mnemonic, mnemonic_named, multiply_mnemonic, operate_mnemonic, plain_branch, suffix, transfer_mnemonic, transfer_suffix}
use Rattle.assembler_text.specs.naming.Names.{block_mode_named, condition_named, operation_named, printed_condition}
use Rattle.assembler_text.specs.naming.Words.{is_word_byte}
use Rattle.assembler_text.specs.declared.naming.mnemonics.Command.TheVariants as command
use Rattle.assembler_text.specs.declared.naming.mnemonics.Mnemonic.{Mnemonic}

pub letters_join : (p : ℕ → Bool) (front behind : List ℕ) → list_all p front ≡ true → list_all p behind ≡ true → list_all p (front ++ behind) ≡ true
letters_join p [] behind all others = others
letters_join p (x ∷ front) behind all others = by (p x) refl (letters_join p front behind)
  where
    by : (b : Bool) → p x ≡ b → (list_all p front ≡ true → list_all p behind ≡ true → list_all p (front ++ behind) ≡ true)
        → list_all p ((x ∷ front) ++ behind) ≡ true
    by true e more = let left = rw e at all in rw e (more left others)
    by false e more = let left = rw e at all in absurd cc

condition_letters : (c : Condition) → list_all is_word_byte (condition_text c) ≡ true
condition_letters condition.Equal = refl
condition_letters condition.NotEqual = refl
condition_letters condition.CarrySet = refl
condition_letters condition.CarryClear = refl
condition_letters condition.Minus = refl
condition_letters condition.Plus = refl
condition_letters condition.OverflowSet = refl
condition_letters condition.OverflowClear = refl
condition_letters condition.Higher = refl
condition_letters condition.LowerOrSame = refl
condition_letters condition.GreaterOrEqual = refl
condition_letters condition.LessThan = refl
condition_letters condition.GreaterThan = refl
condition_letters condition.LessOrEqual = refl
condition_letters condition.Always = refl
condition_letters condition.Never = refl

operation_letters : (o : Operation) → list_all is_word_byte (operation_text o) ≡ true
operation_letters operation.And = refl
operation_letters operation.ExclusiveOr = refl
operation_letters operation.Subtract = refl
operation_letters operation.ReverseSubtract = refl
operation_letters operation.Add = refl
operation_letters operation.AddWithCarry = refl
operation_letters operation.SubtractWithCarry = refl
operation_letters operation.ReverseSubtractWithCarry = refl
operation_letters operation.Test = refl
operation_letters operation.TestEquivalence = refl
operation_letters operation.Compare = refl
operation_letters operation.CompareNegated = refl
operation_letters operation.Or = refl
operation_letters operation.Move = refl
operation_letters operation.BitClear = refl
operation_letters operation.MoveNot = refl

conditioned_again : (c : Condition) (s : List ℕ) → condition_and_rest s ≡ (condition.Always, s) → condition_and_rest (condition_text c ++ s) ≡ (c, s)
unfolding printed_condition
conditioned_again condition.Equal s h = refl
conditioned_again condition.NotEqual s h = refl
conditioned_again condition.CarrySet s h = refl
conditioned_again condition.CarryClear s h = refl
conditioned_again condition.Minus s h = refl
conditioned_again condition.Plus s h = refl
conditioned_again condition.OverflowSet s h = refl
conditioned_again condition.OverflowClear s h = refl
conditioned_again condition.Higher s h = refl
conditioned_again condition.LowerOrSame s h = refl
conditioned_again condition.GreaterOrEqual s h = refl
conditioned_again condition.LessThan s h = refl
conditioned_again condition.GreaterThan s h = refl
conditioned_again condition.LessOrEqual s h = refl
conditioned_again condition.Always s h = h
conditioned_again condition.Never s h = refl

operation_at_front : (o : Operation) (s : List ℕ) → operation_named (take 3 (operation_text o ++ s)) ≡ Some o
unfolding operation_named
operation_at_front operation.And s = refl
operation_at_front operation.ExclusiveOr s = refl
operation_at_front operation.Subtract s = refl
operation_at_front operation.ReverseSubtract s = refl
operation_at_front operation.Add s = refl
operation_at_front operation.AddWithCarry s = refl
operation_at_front operation.SubtractWithCarry s = refl
operation_at_front operation.ReverseSubtractWithCarry s = refl
operation_at_front operation.Test s = refl
operation_at_front operation.TestEquivalence s = refl
operation_at_front operation.Compare s = refl
operation_at_front operation.CompareNegated s = refl
operation_at_front operation.Or s = refl
operation_at_front operation.Move s = refl
operation_at_front operation.BitClear s = refl
operation_at_front operation.MoveNot s = refl

behind_operation : (o : Operation) (s : List ℕ) → drop 3 (operation_text o ++ s) ≡ s
behind_operation operation.And s = refl
behind_operation operation.ExclusiveOr s = refl
behind_operation operation.Subtract s = refl
behind_operation operation.ReverseSubtract s = refl
behind_operation operation.Add s = refl
behind_operation operation.AddWithCarry s = refl
behind_operation operation.SubtractWithCarry s = refl
behind_operation operation.ReverseSubtractWithCarry s = refl
behind_operation operation.Test s = refl
behind_operation operation.TestEquivalence s = refl
behind_operation operation.Compare s = refl
behind_operation operation.CompareNegated s = refl
behind_operation operation.Or s = refl
behind_operation operation.Move s = refl
behind_operation operation.BitClear s = refl
behind_operation operation.MoveNot s = refl

abbrev flag_letter : Bool → List ℕ
flag_letter is_a_test = if is_a_test then codes "P" else codes "S"

letter_is_none : (t flag : Bool) → condition_and_rest (text_if flag (flag_letter t)) ≡ (condition.Always, text_if flag (flag_letter t))
unfolding printed_condition
letter_is_none true true = refl
letter_is_none true false = refl
letter_is_none false true = refl
letter_is_none false false = refl

letter_again : (t flag : Bool) → suffix (flag_letter t) (text_if flag (flag_letter t)) ≡ Some flag
letter_again true true = refl
letter_again true false = refl
letter_again false true = refl
letter_again false false = refl

letter_letters : (t flag : Bool) → list_all is_word_byte (text_if flag (flag_letter t)) ≡ true
letter_letters true true = refl
letter_letters true false = refl
letter_letters false true = refl
letter_letters false false = refl

operate_of : (name s f : List ℕ) (o : Operation) (c : Condition) (flag : Bool) → operation_named (take 3 name) ≡ Some o → drop 3 name ≡ s → condition_and_rest s ≡ (c, f)
    → suffix (flag_text o) f ≡ Some flag → mnemonic_named name ≡ Some (mnemonic c (command.Operate o flag))
unfolding mnemonic_named
operate_of name s f o c flag named dropped e last = rw (named, dropped, e, last) refl

-- a mnemonic is a word that is read as it was meant
pub record IsMnemonic (name : List ℕ) (m : Mnemonic) : Type 0 where
  pub letters : list_all is_word_byte name ≡ true
  pub named : mnemonic_named name ≡ Some m

pub operate_word : (c : Condition) (o : Operation) (flag : Bool)
    → IsMnemonic (operation_text o ++ (condition_text c ++ text_if flag (flag_text o))) (mnemonic c (command.Operate o flag))
operate_word c o flag =
    let last : List ℕ = text_if flag (flag_text o) in
    record {
      letters = letters_join is_word_byte (operation_text o) (condition_text c ++ last) (operation_letters o)
          (letters_join is_word_byte (condition_text c) last (condition_letters c) (letter_letters (is_test o) flag));
      named = operate_of (operation_text o ++ (condition_text c ++ last)) (condition_text c ++ last) last o c flag
          (operation_at_front o (condition_text c ++ last)) (behind_operation o (condition_text c ++ last))
          (conditioned_again c last (letter_is_none (is_test o) flag)) (letter_again (is_test o) flag);
    }

-- MUL, MLA
multiply_of : (name s f : List ℕ) (adds sets : Bool) (c : Condition) → operation_named (take 3 name) ≡ None
    → first_name (codes "MLA") (codes "MUL") (take 3 name) ≡ Some adds → drop 3 name ≡ s → condition_and_rest s ≡ (c, f) → suffix (codes "S") f ≡ Some sets
    → mnemonic_named name ≡ Some (mnemonic c (command.Multiply adds sets))
unfolding mnemonic_named
multiply_of name s f adds sets c none named dropped e last = rw (none, named, dropped, e, last) refl

s_is_none : (sets : Bool) → condition_and_rest (text_if sets (codes "S")) ≡ (condition.Always, text_if sets (codes "S"))
unfolding printed_condition
s_is_none true = refl
s_is_none false = refl

s_again : (sets : Bool) → suffix (codes "S") (text_if sets (codes "S")) ≡ Some sets
s_again true = refl
s_again false = refl

s_letters : (sets : Bool) → list_all is_word_byte (text_if sets (codes "S")) ≡ true
s_letters true = refl
s_letters false = refl

multiply_front : (adds : Bool) (s : List ℕ) → first_name (codes "MLA") (codes "MUL") (take 3 (choose_text adds (codes "MLA") (codes "MUL") ++ s)) ≡ Some adds
multiply_front true s = refl
multiply_front false s = refl

multiply_no_operation : (adds : Bool) (s : List ℕ) → operation_named (take 3 (choose_text adds (codes "MLA") (codes "MUL") ++ s)) ≡ None
unfolding operation_named
multiply_no_operation true s = refl
multiply_no_operation false s = refl

multiply_behind : (adds : Bool) (s : List ℕ) → drop 3 (choose_text adds (codes "MLA") (codes "MUL") ++ s) ≡ s
multiply_behind true s = refl
multiply_behind false s = refl

multiply_letters : (adds : Bool) → list_all is_word_byte (choose_text adds (codes "MLA") (codes "MUL")) ≡ true
multiply_letters true = refl
multiply_letters false = refl

pub multiply_word : (c : Condition) (adds sets : Bool)
    → IsMnemonic (choose_text adds (codes "MLA") (codes "MUL") ++ (condition_text c ++ text_if sets (codes "S"))) (mnemonic c (command.Multiply adds sets))
multiply_word c adds sets =
    let front : List ℕ = choose_text adds (codes "MLA") (codes "MUL") in
    let last : List ℕ = text_if sets (codes "S") in
    record {
      letters = letters_join is_word_byte front (condition_text c ++ last) (multiply_letters adds)
          (letters_join is_word_byte (condition_text c) last (condition_letters c) (s_letters sets));
      named = multiply_of (front ++ (condition_text c ++ last)) (condition_text c ++ last) last adds sets c
          (multiply_no_operation adds (condition_text c ++ last)) (multiply_front adds (condition_text c ++ last))
          (multiply_behind adds (condition_text c ++ last)) (conditioned_again c last (s_is_none sets)) (s_again sets);
    }

-- LDR, STR
transfer_of : (name s f : List ℕ) (loads of_byte user : Bool) (c : Condition) → operation_named (take 3 name) ≡ None
    → first_name (codes "MLA") (codes "MUL") (take 3 name) ≡ None → first_name (codes "LDR") (codes "STR") (take 3 name) ≡ Some loads
    → drop 3 name ≡ s → condition_and_rest s ≡ (c, f) → transfer_suffix f ≡ Some (of_byte, user)
    → mnemonic_named name ≡ Some (mnemonic c (command.Transfer loads of_byte user))
unfolding mnemonic_named
transfer_of name s f loads of_byte user c none other named dropped e last = rw (none, other, named, dropped, e, last) refl

abbrev pub kind_text : Bool → Bool → List ℕ
kind_text of_byte user = text_if of_byte (codes "B") ++ text_if user (codes "T")

kind_is_none : (of_byte user : Bool) → condition_and_rest (kind_text of_byte user) ≡ (condition.Always, kind_text of_byte user)
unfolding printed_condition
kind_is_none true true = refl
kind_is_none true false = refl
kind_is_none false true = refl
kind_is_none false false = refl

kind_again : (of_byte user : Bool) → transfer_suffix (kind_text of_byte user) ≡ Some (of_byte, user)
kind_again true true = refl
kind_again true false = refl
kind_again false true = refl
kind_again false false = refl

kind_letters : (of_byte user : Bool) → list_all is_word_byte (kind_text of_byte user) ≡ true
kind_letters true true = refl
kind_letters true false = refl
kind_letters false true = refl
kind_letters false false = refl

-- the front of LDR and STR, and of LDM and STM
pub record IsFront (loads : Bool) (one other front s : List ℕ) : Type 0 where
  pub no_operation : operation_named (take 3 (front ++ s)) ≡ None
  pub no_multiply : first_name (codes "MLA") (codes "MUL") (take 3 (front ++ s)) ≡ None
  pub named : first_name one other (take 3 (front ++ s)) ≡ Some loads
  pub behind : drop 3 (front ++ s) ≡ s
  pub letters : list_all is_word_byte front ≡ true

transfer_front : (loads : Bool) (s : List ℕ) → IsFront loads (codes "LDR") (codes "STR") (choose_text loads (codes "LDR") (codes "STR")) s
unfolding operation_named
transfer_front true s = record { no_operation = refl; no_multiply = refl; named = refl; behind = refl; letters = refl }
transfer_front false s = record { no_operation = refl; no_multiply = refl; named = refl; behind = refl; letters = refl }

pub transfer_word : (c : Condition) (loads of_byte user : Bool)
    → IsMnemonic (choose_text loads (codes "LDR") (codes "STR") ++ (condition_text c ++ kind_text of_byte user)) (mnemonic c (command.Transfer loads of_byte user))
transfer_word c loads of_byte user =
    let front : List ℕ = choose_text loads (codes "LDR") (codes "STR") in
    let last : List ℕ = kind_text of_byte user in
    let f = transfer_front loads (condition_text c ++ last) in
    record {
      letters = letters_join is_word_byte front (condition_text c ++ last) f.letters
          (letters_join is_word_byte (condition_text c) last (condition_letters c) (kind_letters of_byte user));
      named = transfer_of (front ++ (condition_text c ++ last)) (condition_text c ++ last) last loads of_byte user c
          f.no_operation f.no_multiply f.named f.behind (conditioned_again c last (kind_is_none of_byte user)) (kind_again of_byte user);
    }

-- LDM, STM
block_of : (name s f : List ℕ) (loads : Bool) (mode : BlockMode) (c : Condition) → operation_named (take 3 name) ≡ None
    → first_name (codes "MLA") (codes "MUL") (take 3 name) ≡ None → first_name (codes "LDR") (codes "STR") (take 3 name) ≡ None
    → first_name (codes "LDM") (codes "STM") (take 3 name) ≡ Some loads → drop 3 name ≡ s → condition_and_rest s ≡ (c, f) → block_mode_named loads f ≡ Some mode
    → mnemonic_named name ≡ Some (mnemonic c (command.BlockTransfer loads mode))
unfolding mnemonic_named
block_of name s f loads mode c none other another named dropped e last = rw (none, other, another, named, dropped, e, last) refl

mode_is_none : (mode : BlockMode) → condition_and_rest (block_mode_text mode) ≡ (condition.Always, block_mode_text mode)
unfolding printed_condition
mode_is_none block.DecrementAfter = refl
mode_is_none block.IncrementAfter = refl
mode_is_none block.DecrementBefore = refl
mode_is_none block.IncrementBefore = refl

mode_again : (loads : Bool) (mode : BlockMode) → block_mode_named loads (block_mode_text mode) ≡ Some mode
unfolding block_mode_named
mode_again true block.DecrementAfter = refl
mode_again false block.DecrementAfter = refl
mode_again true block.IncrementAfter = refl
mode_again false block.IncrementAfter = refl
mode_again true block.DecrementBefore = refl
mode_again false block.DecrementBefore = refl
mode_again true block.IncrementBefore = refl
mode_again false block.IncrementBefore = refl

mode_letters : (mode : BlockMode) → list_all is_word_byte (block_mode_text mode) ≡ true
mode_letters block.DecrementAfter = refl
mode_letters block.IncrementAfter = refl
mode_letters block.DecrementBefore = refl
mode_letters block.IncrementBefore = refl

block_front : (loads : Bool) (s : List ℕ) → IsFront loads (codes "LDM") (codes "STM") (choose_text loads (codes "LDM") (codes "STM")) s
unfolding operation_named
block_front true s = record { no_operation = refl; no_multiply = refl; named = refl; behind = refl; letters = refl }
block_front false s = record { no_operation = refl; no_multiply = refl; named = refl; behind = refl; letters = refl }

block_no_transfer : (loads : Bool) (s : List ℕ) → first_name (codes "LDR") (codes "STR") (take 3 (choose_text loads (codes "LDM") (codes "STM") ++ s)) ≡ None
block_no_transfer true s = refl
block_no_transfer false s = refl

pub block_word : (c : Condition) (loads : Bool) (mode : BlockMode)
    → IsMnemonic (choose_text loads (codes "LDM") (codes "STM") ++ (condition_text c ++ block_mode_text mode)) (mnemonic c (command.BlockTransfer loads mode))
block_word c loads mode =
    let front : List ℕ = choose_text loads (codes "LDM") (codes "STM") in
    let last : List ℕ = block_mode_text mode in
    let f = block_front loads (condition_text c ++ last) in
    record {
      letters = letters_join is_word_byte front (condition_text c ++ last) f.letters
          (letters_join is_word_byte (condition_text c) last (condition_letters c) (mode_letters mode));
      named = block_of (front ++ (condition_text c ++ last)) (condition_text c ++ last) last loads mode c
          f.no_operation f.no_multiply (block_no_transfer loads (condition_text c ++ last)) f.named f.behind
          (conditioned_again c last (mode_is_none mode)) (mode_again loads mode);
    }

-- B, BL, SWI: with their conditions whole words
pub branch_word : (c : Condition) (links : Bool)
    → IsMnemonic (choose_text links (codes "BL") (codes "B") ++ condition_text c) (mnemonic c (command.Branch links))
unfolding mnemonic_named operation_named printed_condition
branch_word condition.Equal true = record { letters = refl; named = refl }
branch_word condition.Equal false = record { letters = refl; named = refl }
branch_word condition.NotEqual true = record { letters = refl; named = refl }
branch_word condition.NotEqual false = record { letters = refl; named = refl }
branch_word condition.CarrySet true = record { letters = refl; named = refl }
branch_word condition.CarrySet false = record { letters = refl; named = refl }
branch_word condition.CarryClear true = record { letters = refl; named = refl }
branch_word condition.CarryClear false = record { letters = refl; named = refl }
branch_word condition.Minus true = record { letters = refl; named = refl }
branch_word condition.Minus false = record { letters = refl; named = refl }
branch_word condition.Plus true = record { letters = refl; named = refl }
branch_word condition.Plus false = record { letters = refl; named = refl }
branch_word condition.OverflowSet true = record { letters = refl; named = refl }
branch_word condition.OverflowSet false = record { letters = refl; named = refl }
branch_word condition.OverflowClear true = record { letters = refl; named = refl }
branch_word condition.OverflowClear false = record { letters = refl; named = refl }
branch_word condition.Higher true = record { letters = refl; named = refl }
branch_word condition.Higher false = record { letters = refl; named = refl }
branch_word condition.LowerOrSame true = record { letters = refl; named = refl }
branch_word condition.LowerOrSame false = record { letters = refl; named = refl }
branch_word condition.GreaterOrEqual true = record { letters = refl; named = refl }
branch_word condition.GreaterOrEqual false = record { letters = refl; named = refl }
branch_word condition.LessThan true = record { letters = refl; named = refl }
branch_word condition.LessThan false = record { letters = refl; named = refl }
branch_word condition.GreaterThan true = record { letters = refl; named = refl }
branch_word condition.GreaterThan false = record { letters = refl; named = refl }
branch_word condition.LessOrEqual true = record { letters = refl; named = refl }
branch_word condition.LessOrEqual false = record { letters = refl; named = refl }
branch_word condition.Always true = record { letters = refl; named = refl }
branch_word condition.Always false = record { letters = refl; named = refl }
branch_word condition.Never true = record { letters = refl; named = refl }
branch_word condition.Never false = record { letters = refl; named = refl }

pub swi_word : (c : Condition) → IsMnemonic (codes "SWI" ++ condition_text c) (mnemonic c command.SoftwareInterrupt)
unfolding mnemonic_named operation_named printed_condition
swi_word condition.Equal = record { letters = refl; named = refl }
swi_word condition.NotEqual = record { letters = refl; named = refl }
swi_word condition.CarrySet = record { letters = refl; named = refl }
swi_word condition.CarryClear = record { letters = refl; named = refl }
swi_word condition.Minus = record { letters = refl; named = refl }
swi_word condition.Plus = record { letters = refl; named = refl }
swi_word condition.OverflowSet = record { letters = refl; named = refl }
swi_word condition.OverflowClear = record { letters = refl; named = refl }
swi_word condition.Higher = record { letters = refl; named = refl }
swi_word condition.LowerOrSame = record { letters = refl; named = refl }
swi_word condition.GreaterOrEqual = record { letters = refl; named = refl }
swi_word condition.LessThan = record { letters = refl; named = refl }
swi_word condition.GreaterThan = record { letters = refl; named = refl }
swi_word condition.LessOrEqual = record { letters = refl; named = refl }
swi_word condition.Always = record { letters = refl; named = refl }
swi_word condition.Never = record { letters = refl; named = refl }
