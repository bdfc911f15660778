-- The printed operands of data processing and of multiplication are read back.
use Rattle.std.proofs.Common.{◌≡◌, ◌<◌, ℕ, Bool, true, false, List, [], ◌∷◌, ◌++◌, Option, Some, None, Ok, refl, ap, subst, ◌∙◌, arith, append_assoc}
use Rattle.std.proofs.lemmas.Bool.{eqb-true}
use Rattle.std.proofs.lemmas.Bool.Decides.{nat_tests}
use Rattle.std.proofs.lemmas.List.{append-nil}
use Rattle.std.specs.Prelude.{◌==◌, ◌&&◌, ◌||◌, not, codes, if◌then◌else◌}
use Rattle.arm_decode.specs.Ranges.{FitsFields, FitsOperand}
use Rattle.arm_decode.specs.Refusals.{is_move, is_pc, is_test, refusal, is_unallocated}
use Rattle.arm_decode.specs.declared.action.Action.{Action}
use Rattle.arm_decode.specs.declared.action.Action.TheVariants as action
use Rattle.arm_decode.specs.declared.action.Multiply.{Multiply}
use Rattle.arm_decode.specs.declared.action.Operate.{Operate}
use Rattle.arm_decode.specs.declared.operand.Operand.{Operand}
use Rattle.arm_decode.specs.declared.operand.Operand.TheVariants as operand
use Rattle.arm_decode.specs.declared.operation.Operation.{Operation}
use Rattle.assembler_text.specs.Names.{register_text, text_if}
use Rattle.assembler_text.specs.Numbers.{immediate_text, immediate_value, is_field, least_rotation}
use Rattle.assembler_text.specs.Operands.{by_register_text, operand_text, shifted_text, shifting_text}
use Rattle.assembler_text.specs.Printing.{multiply_operands, operate_registers_text}
use Rattle.assembler_text.specs.naming.Expressions.{Lookup}
use Rattle.std.specs.List.{prefix_len}
use Rattle.assembler_text.specs.naming.Names.{register}
use Rattle.assembler_text.specs.naming.Words.{after_spaces, is_word_byte}
use Rattle.assembler_reading.specs.Operands.{ReadOutcome, second_operand}
use Rattle.assembler_reading.specs.Operating.{added_register, multiply_action, multiply_at, operate_at, operate_behind, operate_on, operate_with, operating}
use Rattle.assembler_reading.proofs.OperandsAgain.{operand_again}
use Rattle.assembler_reading.proofs.Pieces.{comma_then, ends_nothing, is_register, register_again}

-- what isn't refused is allocated
pub allocated : (a : Action) → refusal a ≡ None → is_unallocated a ≡ false
allocated a h = by (is_unallocated a) refl
  where
    by : (b : Bool) → is_unallocated a ≡ b → is_unallocated a ≡ false
    by true e = let fault = rw e at h in absurd cc
    by false e = e

of_test : (s z p more : Bool) → ((not s || not (z || p)) || more) ≡ false → (s ≡ true) × ((z || p) ≡ true)
of_test true true p more e = (refl, refl)
of_test true false true more e = (refl, refl)
of_test true false false more e = absurd cc
of_test false z p more e = absurd cc

of_move : (first n : Bool) → (first || not n) ≡ false → n ≡ true
of_move first true e = refl
of_move false false e = absurd cc
of_move true false e = absurd cc

is_fifteen : (n : ℕ) → (n == 15) ≡ true → n ≡ 15
is_fifteen n e = grind (arith, nat_tests, e)

-- the Rd field of a test is 15, or else 0
test_field : (d : ℕ) → ((d == 0) || is_pc d) ≡ true → d ≡ (if is_pc d then 15 else 0)
test_field d e = by (is_pc d) (d == 0) refl refl
  where
    by : (b z : Bool) → is_pc d ≡ b → (d == 0) ≡ z → d ≡ (if is_pc d then 15 else 0)
    by true z f g = rw f (is_fifteen d f)
    by false true f g = rw f (eqb-true d 0 g)
    by false false f g = let both = rw (g, f) at e in absurd cc

same_operate : (o : Operate) (sets : Bool) (n d : ℕ) → o.sets_flags ≡ sets → o.rn ≡ n → o.rd ≡ d → operating o.operation sets n d o.operand ≡ o
same_operate o sets n d e f g = rw (← e, ← f, ← g) refl

-- S, or of a test P
abbrev pub flag_of : Operate → Bool
flag_of o = if is_test o.operation then is_pc o.rd else o.sets_flags

register_no_space : (s : List ℕ) (n : ℕ) → n < 16 → after_spaces (register_text n ++ s) ≡ register_text n ++ s
register_no_space s n h = (is_register n s h).no_space

immediate_no_space : (r b : ℕ) → after_spaces (immediate_text r b) ≡ immediate_text r b
unfolding after_spaces
immediate_no_space r b = by (is_field (least_rotation (immediate_value r b)) r) refl
  where
    by : (t : Bool) → is_field (least_rotation (immediate_value r b)) r ≡ t → after_spaces (immediate_text r b) ≡ immediate_text r b
    by true e = rw e refl
    by false e = rw e refl

operand_no_space : (o : Operand) → FitsOperand o → after_spaces (operand_text o) ≡ operand_text o
operand_no_space (operand.Immediate r b) fits = immediate_no_space r b
operand_no_space (operand.Shifted s) fits = register_no_space (shifting_text s.shift s.amount) s.rm fits.0
operand_no_space (operand.ShiftedByRegister rm s rs) fits = register_no_space _ rm fits.0

operand_alone : (labels : Lookup) (o : Operand) → FitsOperand o → second_operand labels (operand_text o) ≡ Some (Ok o, [])
operand_alone labels o fits =
    subst (λ (text : List ℕ). second_operand labels text ≡ Some (Ok o, [])) (append-nil (operand_text o)) (operand_again labels o [] fits ends_nothing)

with_operand : (labels : Lookup) (what : Operation) (sets : Bool) (n d : ℕ) (o : Operand) → FitsOperand o
    → operate_with labels what sets n d (operand_text o) ≡ Some (Ok (action.Operate (operating what sets n d o)), [])
with_operand labels what sets n d o fits = rw (operand_alone labels o fits) refl

on_operand : (labels : Lookup) (what : Operation) (sets : Bool) (n d : ℕ) (o : Operand) → n < 16 → FitsOperand o
    → operate_on labels what sets d (register_text n ++ (44 ∷ operand_text o)) ≡ Some (Ok (action.Operate (operating what sets n d o)), [])
on_operand labels what sets n d o h fits =
    rw (register_again n (44 ∷ operand_text o) h refl, comma_then (operand_text o) (operand_no_space o fits)) (with_operand labels what sets n d o fits)

behind_first : (labels : Lookup) (what : Operation) (flag : Bool) (n : ℕ) (x : List ℕ) → n < 16 → after_spaces x ≡ x
    → operate_at labels what flag (register_text n ++ (44 ∷ x)) ≡ operate_behind labels what flag n x
unfolding operate_at
behind_first labels what flag n x h e = rw (register_again n (44 ∷ x) h refl, comma_then x e) refl

abbrev finished : Operate → Option (ReadOutcome Action × List ℕ)
finished o = Some (Ok (action.Operate o), [])

done : (o : Operate) (sets : Bool) (n d : ℕ) → o.sets_flags ≡ sets → o.rn ≡ n → o.rd ≡ d
    → finished (operating o.operation sets n d o.operand) ≡ finished o
done o sets n d e f g = ap finished (same_operate o sets n d e f g)

one_register : (n : ℕ) (text : List ℕ) → (register_text n ++ codes ",") ++ text ≡ register_text n ++ (44 ∷ text)
one_register n text = append_assoc (register_text n) (codes ",") text

two_registers : (d n : ℕ) (text : List ℕ)
    → (register_text d ++ (codes "," ++ (register_text n ++ codes ","))) ++ text ≡ register_text d ++ (44 ∷ (register_text n ++ (44 ∷ text)))
two_registers d n text =
    append_assoc (register_text d) (44 ∷ (register_text n ++ codes ",")) text
    ∙ ap (λ (tail : List ℕ). register_text d ++ (44 ∷ tail)) (append_assoc (register_text n) (codes ",") text)

test_again : (labels : Lookup) (o : Operate) → is_test o.operation ≡ true → o.rn < 16 → FitsOperand o.operand → is_unallocated (action.Operate o) ≡ false
    → operate_behind labels o.operation (is_pc o.rd) o.rn (operand_text o.operand) ≡ Some (Ok (action.Operate o), [])
test_again labels o t h fits free =
    let known = of_test o.sets_flags (o.rd == 0) (is_pc o.rd) (is_move o.operation && not (o.rn == 0)) (rw t at free) in
    rw t (with_operand labels o.operation true o.rn (if is_pc o.rd then 15 else 0) o.operand fits
    ∙ done o true o.rn (if is_pc o.rd then 15 else 0) known.0 refl (test_field o.rd known.1))

move_again : (labels : Lookup) (o : Operate) → is_test o.operation ≡ false → is_move o.operation ≡ true → FitsOperand o.operand
    → is_unallocated (action.Operate o) ≡ false
    → operate_behind labels o.operation o.sets_flags o.rd (operand_text o.operand) ≡ Some (Ok (action.Operate o), [])
move_again labels o t m fits free =
    let known = of_move false (o.rn == 0) (rw (t, m) at free) in
    rw (t, m) (with_operand labels o.operation o.sets_flags 0 o.rd o.operand fits
    ∙ done o o.sets_flags 0 o.rd refl (eqb-true o.rn 0 known) refl)

other_again : (labels : Lookup) (o : Operate) → is_test o.operation ≡ false → is_move o.operation ≡ false → o.rn < 16 → FitsOperand o.operand
    → operate_behind labels o.operation o.sets_flags o.rd (register_text o.rn ++ (44 ∷ operand_text o.operand)) ≡ Some (Ok (action.Operate o), [])
other_again labels o t m h fits = rw (t, m) (on_operand labels o.operation o.sets_flags o.rn o.rd o.operand h fits)

pub operate_again : (labels : Lookup) (o : Operate) → FitsFields (action.Operate o) → is_unallocated (action.Operate o) ≡ false
    → operate_at labels o.operation (flag_of o) (operate_registers_text o ++ operand_text o.operand) ≡ Some (Ok (action.Operate o), [])
operate_again labels o fits free = by (is_test o.operation) (is_move o.operation) refl refl
  where
    by : (t m : Bool) → is_test o.operation ≡ t → is_move o.operation ≡ m
        → operate_at labels o.operation (flag_of o) (operate_registers_text o ++ operand_text o.operand) ≡ Some (Ok (action.Operate o), [])
    by true m e f = rw (e, one_register o.rn (operand_text o.operand))
        (behind_first labels o.operation (is_pc o.rd) o.rn (operand_text o.operand) fits.0 (operand_no_space o.operand fits.2)
        ∙ test_again labels o e fits.0 fits.2 free)
    by false true e f = rw (e, f, one_register o.rd (operand_text o.operand))
        (behind_first labels o.operation o.sets_flags o.rd (operand_text o.operand) fits.1 (operand_no_space o.operand fits.2)
        ∙ move_again labels o e f fits.2 free)
    by false false e f = rw (e, f, two_registers o.rd o.rn (operand_text o.operand))
        (behind_first labels o.operation o.sets_flags o.rd (register_text o.rn ++ (44 ∷ operand_text o.operand)) fits.1
        (register_no_space (44 ∷ operand_text o.operand) o.rn fits.0)
        ∙ other_again labels o e f fits.0 fits.2)

-- the text of operands begins with a register
pub operate_no_space : (o : Operate) → FitsFields (action.Operate o) → after_spaces (operate_registers_text o ++ operand_text o.operand) ≡ operate_registers_text o ++ operand_text o.operand
operate_no_space o fits = by (is_test o.operation) (is_move o.operation) refl refl
  where
    by : (t m : Bool) → is_test o.operation ≡ t → is_move o.operation ≡ m
        → after_spaces (operate_registers_text o ++ operand_text o.operand) ≡ operate_registers_text o ++ operand_text o.operand
    by true m e f = rw (e, one_register o.rn (operand_text o.operand)) (register_no_space (44 ∷ operand_text o.operand) o.rn fits.0)
    by false true e f = rw (e, f, one_register o.rd (operand_text o.operand)) (register_no_space (44 ∷ operand_text o.operand) o.rd fits.1)
    by false false e f = rw (e, f, two_registers o.rd o.rn (operand_text o.operand))
        (register_no_space (44 ∷ (register_text o.rn ++ (44 ∷ operand_text o.operand))) o.rd fits.1)

-- MUL and MLA
added_again : (adds : Bool) (n : ℕ) → n < 16 → (adds ≡ false → n ≡ 0)
    → added_register adds (text_if adds (codes ",") ++ text_if adds (register_text n)) ≡ Some (n, [])
added_again false n h absent = let e : n ≡ 0 = absent refl in rw e refl
added_again true n h absent =
    let whole : register_text n ++ [] ≡ register_text n = append-nil (register_text n) in
    rw (comma_then (register_text n) (subst (λ (t : List ℕ). after_spaces t ≡ t) whole (register_no_space [] n h)))
    (subst (λ (t : List ℕ). register t ≡ Some (n, [])) whole (register_again n [] h refl))

apart_added : (adds : Bool) (n : ℕ) → prefix_len is_word_byte (text_if adds (codes ",") ++ text_if adds (register_text n)) ≡ 0
apart_added true n = refl
apart_added false n = refl

multiply_read : (d n s m : ℕ) (adds sets : Bool) → d < 16 → n < 16 → s < 16 → m < 16 → (adds ≡ false → n ≡ 0)
    → multiply_at adds sets (register_text d ++ (44 ∷ (register_text m ++ (44 ∷ (register_text s ++ (text_if adds (codes ",") ++ text_if adds (register_text n)))))))
    ≡ Some (Ok (multiply_action adds sets d n s m), [])
unfolding multiply_at
multiply_read d n s m adds sets hd hn hs hm absent =
    let tail : List ℕ = text_if adds (codes ",") ++ text_if adds (register_text n) in
    let third : List ℕ = register_text s ++ tail in
    let second : List ℕ = register_text m ++ (44 ∷ third) in
    rw (
      register_again d (44 ∷ second) hd refl,
      comma_then second (register_no_space (44 ∷ third) m hm),
      register_again m (44 ∷ third) hm refl,
      comma_then third (register_no_space tail s hs),
      register_again s tail hs (apart_added adds n),
      added_again adds n hn absent,
    ) refl

pub multiply_again : (m : Multiply) → FitsFields (action.Multiply m) → is_unallocated (action.Multiply m) ≡ false
    → multiply_at m.accumulates m.sets_flags (multiply_operands m) ≡ Some (Ok (action.Multiply m), [])
multiply_again m fits free = multiply_read m.rd m.rn m.rs m.rm m.accumulates m.sets_flags fits.0 fits.1 fits.2 fits.3 no_rn
  where
    no_rn : m.accumulates ≡ false → m.rn ≡ 0
    no_rn e = eqb-true m.rn 0 (of_move false (m.rn == 0) (rw e at free))

pub multiply_no_space : (m : Multiply) → FitsFields (action.Multiply m) → after_spaces (multiply_operands m) ≡ multiply_operands m
multiply_no_space m fits = register_no_space _ m.rd fits.0
