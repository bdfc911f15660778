-- What follows after the operands of an instruction is the same under all labels.
use Rattle.std.proofs.Common.{◌≡◌, ℕ, Bool, true, false, List, [], Option, Some, None, Ok, Err, refl, ap, sym, ◌∙◌}
use Rattle.std.specs.Prelude.{◌%◌, ◌&&◌, nat_le, codes, if◌then◌else◌}
use Rattle.arm_decode.specs.Refusals.{is_move, is_test}
use Rattle.arm_decode.specs.declared.address.Direction.{Direction}
use Rattle.arm_decode.specs.declared.address.Indexing.TheVariants.{Pre}
use Rattle.arm_decode.specs.declared.address.Offset.{Offset}
use Rattle.arm_decode.specs.declared.operand.Operand.{Operand}
use Rattle.arm_decode.specs.declared.operand.Operand.TheVariants as operand
use Rattle.arm_decode.specs.declared.operation.Operation.{Operation}
use Rattle.arm_decode.specs.declared.shift.Shift.{Shift}
use Rattle.assembler_reading.specs.Expressions.{Lookup, Value, expression}
use Rattle.assembler_reading.specs.Names.{register, shift_named}
use Rattle.assembler_reading.specs.Words.{after_mark, after_word, byte, comma, is_marked, is_same_name, spaces, word, ◌>>=◌}
use Rattle.assembler_reading.specs.Reason.TheVariants.{BadImmediate}
use Rattle.assembler_reading.specs.Addresses.{address_at, as_offset, address_in_brackets, before_bracket, address_after_bracket, address_after_base, address_of_offset, address_at_label, offset_at, offset_in, offset_of_value, reached_from, signed_direction, transfer_text_at, unless_translated}
use Rattle.assembler_reading.specs.Operands.{ReadOutcome, amount_at, immediate_operand, most_places, operand_at, places_of, rotated_of, rotation_at, second_operand, shift_at, shifted_operand, register_shifted_by}
use Rattle.assembler_reading.specs.Operating.{operate_at, operate_behind, operate_on, operate_with}
use Rattle.assembler.proofs.AssembledLemmas.Rests.{by_test, expression_rests, made_rests, rest_of, rests_then}

-- two readings after the same one
pub rests_behind : {A B : Type 0} (o : Option A) (f g : A → Option (B × List ℕ)) → ((a : A) → rest_of (f a) ≡ rest_of (g a))
    → rest_of (o >>= f) ≡ rest_of (o >>= g)
rests_behind None f g same = refl
rests_behind (Some a) f g same = same a

-- whether an operand may be an offset, which one that is shifted by a register may not
abbrev may_be_offset : ReadOutcome Operand → Bool
may_be_offset (Ok (operand.Shifted s)) = true
may_be_offset (Ok _) = false
may_be_offset (Err reason) = true

-- the same of an operand that was read, with what follows it
abbrev shape_of : Option (ReadOutcome Operand × List ℕ) → Option (Bool × List ℕ)
shape_of None = None
shape_of (Some r) = Some (may_be_offset r.0, r.1)

shapes_behind : {A : Type 0} (o : Option A) (f g : A → Option (ReadOutcome Operand × List ℕ)) → ((a : A) → shape_of (f a) ≡ shape_of (g a))
    → shape_of (o >>= f) ≡ shape_of (o >>= g)
shapes_behind None f g same = refl
shapes_behind (Some a) f g same = same a

shape_by_test : (b : Bool) (x y v : Option (ReadOutcome Operand × List ℕ)) → shape_of y ≡ shape_of v
    → shape_of (if b then x else y) ≡ shape_of (if b then x else v)
shape_by_test true x y v same = refl
shape_by_test false x y v same = same

places_may : (rm : ℕ) (s : Shift) (v : Value) → may_be_offset (places_of rm s v) ≡ true
places_may rm s None = refl
places_may rm s (Some n) = by (nat_le 1 n && nat_le n (most_places s))
  where
    by : (b : Bool) → may_be_offset (if b then Ok (operand.Shifted (register_shifted_by rm s (n % 32))) else Err BadImmediate) ≡ true
    by true = refl
    by false = refl

places_shape : (rm : ℕ) (s : Shift) (o p : Option (Value × List ℕ)) → rest_of o ≡ rest_of p
    → shape_of (o >>= λ n. Some (places_of rm s n.0, n.1)) ≡ shape_of (p >>= λ n. Some (places_of rm s n.0, n.1))
places_shape rm s None None same = refl
places_shape rm s None (Some n) same = absurd (cc)
places_shape rm s (Some n) None same = absurd (cc)
places_shape rm s (Some n) (Some m) same =
    let e : n.1 ≡ m.1 = cc in
    let may : may_be_offset (places_of rm s n.0) ≡ may_be_offset (places_of rm s m.0) = places_may rm s n.0 ∙ sym (places_may rm s m.0) in
    λ i. Some (may i, e i)

amount_shape : (k l : Lookup) (rm : ℕ) (s : Shift) (text : List ℕ) (o : Option (List ℕ))
    → shape_of (amount_at k rm s text o) ≡ shape_of (amount_at l rm s text o)
amount_shape k l rm s text (Some after) = places_shape rm s (expression k after) (expression l after) (expression_rests k l after)
amount_shape k l rm s text None = refl

shift_shape : (k l : Lookup) (rm : ℕ) (text : List ℕ) (o : Option (List ℕ)) → shape_of (shift_at k rm text o) ≡ shape_of (shift_at l rm text o)
shift_shape k l rm text None = refl
shift_shape k l rm text (Some after) =
    shape_by_test (is_same_name (word after) (codes "RRX")) _ _ _
    (shapes_behind (shift_named (word after)) _ _ (λ s.
    shapes_behind (spaces (after_word after)) _ _ (λ amount. amount_shape k l rm s amount (byte 35 amount))))

shifted_shape : (k l : Lookup) (text : List ℕ) → shape_of (shifted_operand k text) ≡ shape_of (shifted_operand l text)
unfolding shifted_operand
shifted_shape k l text = shapes_behind (register text) _ _ (λ rm. shift_shape k l rm.0 rm.1 (comma rm.1))

-- the parts of a shape
abbrev may_in : Option (Bool × List ℕ) → Bool
may_in None = false
may_in (Some s) = s.0

abbrev rest_in : Option (Bool × List ℕ) → List ℕ
rest_in None = []
rest_in (Some s) = s.1

rests_of_shapes : (o p : Option (ReadOutcome Operand × List ℕ)) → shape_of o ≡ shape_of p → rest_of o ≡ rest_of p
rests_of_shapes None None same = refl
rests_of_shapes None (Some r) same = absurd (cc)
rests_of_shapes (Some r) None same = absurd (cc)
rests_of_shapes (Some r) (Some s) same = ap (λ (o : Option (Bool × List ℕ)). Some (rest_in o)) same

immediate_rests : (k l : Lookup) (text : List ℕ) → rest_of (immediate_operand k text) ≡ rest_of (immediate_operand l text)
immediate_rests k l text =
    rests_then (expression k text) (expression l text) _ _ (expression_rests k l text) (λ a b rest. by a b rest (comma rest))
  where
    by : (a b : Value) (rest : List ℕ) (o : Option (List ℕ)) → rest_of (rotation_at k a rest o) ≡ rest_of (rotation_at l b rest o)
    by a b rest None = refl
    by a b rest (Some after) = made_rests k l (rotated_of a) (rotated_of b) after

pub second_rests : (k l : Lookup) (text : List ℕ) → rest_of (second_operand k text) ≡ rest_of (second_operand l text)
unfolding second_operand
second_rests k l text = by (byte 35 text)
  where
    by : (o : Option (List ℕ)) → rest_of (operand_at k text o) ≡ rest_of (operand_at l text o)
    by (Some after) = immediate_rests k l after
    by None = rests_of_shapes (shifted_operand k text) (shifted_operand l text) (shifted_shape k l text)

-- data processing
with_rests : (k l : Lookup) (what : Operation) (sets : Bool) (n d : ℕ) (text : List ℕ)
    → rest_of (operate_with k what sets n d text) ≡ rest_of (operate_with l what sets n d text)
with_rests k l what sets n d text =
    rests_then (second_operand k text) (second_operand l text) _ _ (second_rests k l text) (λ a b rest. refl)

pub operate_rests : (k l : Lookup) (what : Operation) (flag : Bool) (text : List ℕ) → rest_of (operate_at k what flag text) ≡ rest_of (operate_at l what flag text)
unfolding operate_at
operate_rests k l what flag text =
    rests_behind (register text) _ _ (λ first. rests_behind (comma first.1) _ _ (λ rest. behind first.0 rest))
  where
    on : (d : ℕ) (t : List ℕ) → rest_of (operate_on k what flag d t) ≡ rest_of (operate_on l what flag d t)
    on d t = rests_behind (register t) _ _ (λ rn. rests_behind (comma rn.1) _ _ (λ rest. with_rests k l what flag rn.0 d rest))

    behind : (first : ℕ) (t : List ℕ) → rest_of (operate_behind k what flag first t) ≡ rest_of (operate_behind l what flag first t)
    behind first t =
        by_test (is_test what) _ _ _ _ (with_rests k l what true first (if flag then 15 else 0) t)
        (by_test (is_move what) _ _ _ _ (with_rests k l what flag 0 first t) (on first t))

-- the addresses of LDR and STR
offset_rests : (to : Direction) (o p : Option (ReadOutcome Operand × List ℕ)) → shape_of o ≡ shape_of p
    → rest_of (o >>= λ s. as_offset to s.0 >>= λ by. Some (by, s.1)) ≡ rest_of (p >>= λ s. as_offset to s.0 >>= λ by. Some (by, s.1))
offset_rests to None None same = refl
offset_rests to None (Some r) same = absurd (cc)
offset_rests to (Some r) None same = absurd (cc)
offset_rests to (Some r) (Some s) same =
    let may : may_be_offset r.0 ≡ may_be_offset s.0 = ap may_in same in
    let e : r.1 ≡ s.1 = ap rest_in same in
    let both : (if may_be_offset r.0 then Some r.1 else None) ≡ (if may_be_offset s.0 then Some s.1 else None)
    = λ i. if may i then Some (e i) else None in
    by r.0 r.1 ∙ both ∙ sym (by s.0 s.1)
  where
    by : (x : ReadOutcome Operand) (rest : List ℕ)
        → rest_of (as_offset to x >>= λ by. Some (by, rest)) ≡ (if may_be_offset x then Some rest else None)
    by (Ok (operand.Shifted t)) rest = refl
    by (Ok (operand.Immediate a b)) rest = refl
    by (Ok (operand.ShiftedByRegister a b c)) rest = refl
    by (Err reason) rest = refl

offset_in_rests : (k l : Lookup) (text : List ℕ) → rest_of (offset_in k text) ≡ rest_of (offset_in l text)
unfolding offset_in
offset_in_rests k l text = by (byte 35 text)
  where
    by : (o : Option (List ℕ)) → rest_of (offset_at k text o) ≡ rest_of (offset_at l text o)
    by (Some after) = made_rests k l (offset_of_value (signed_direction (is_marked 45 after))) (offset_of_value (signed_direction (is_marked 45 after))) (after_mark 45 after)
    by None = offset_rests (signed_direction (is_marked 45 text)) (shifted_operand k (after_mark 45 text)) (shifted_operand l (after_mark 45 text)) (shifted_shape k l (after_mark 45 text))

unless_rests : {A : Type 0} (t : Bool) (o p : Option (A × List ℕ)) → rest_of o ≡ rest_of p → rest_of (unless_translated t o) ≡ rest_of (unless_translated t p)
unless_rests false o p same = same
unless_rests true o p same = refl

closed_rests : (k l : Lookup) (t : Bool) (base : ℕ) (text : List ℕ) (o : Option (List ℕ)) → rest_of (address_after_base k t base text o) ≡ rest_of (address_after_base l t base text o)
closed_rests k l t base text (Some after) = rests_then (offset_in k after) (offset_in l after) _ _ (offset_in_rests k l after) (λ a b rest. refl)
closed_rests k l false base text None = refl
closed_rests k l true base text None = refl

before_rests : (k l : Lookup) (base : ℕ) (text : List ℕ) → rest_of (before_bracket k base text) ≡ rest_of (before_bracket l base text)
before_rests k l base text = rests_behind (comma text) _ _ (λ rest.
    rests_then (offset_in k rest) (offset_in l rest) _ _ (offset_in_rests k l rest) (λ a b t. by a b (byte 93 t)))
  where
    by : (a b : ReadOutcome (Direction × Offset)) (o : Option (List ℕ))
        → rest_of (o >>= λ after. Some (address_of_offset (Pre (is_marked 33 after)) base a, after_mark 33 after))
        ≡ rest_of (o >>= λ after. Some (address_of_offset (Pre (is_marked 33 after)) base b, after_mark 33 after))
    by a b None = refl
    by a b (Some after) = refl

based_rests : (k l : Lookup) (t : Bool) (base : ℕ) (text : List ℕ) (o : Option (List ℕ)) → rest_of (address_in_brackets k t base text o) ≡ rest_of (address_in_brackets l t base text o)
based_rests k l t base text (Some after) = closed_rests k l t base after (comma after)
based_rests k l t base text None = unless_rests t (before_bracket k base text) (before_bracket l base text) (before_rests k l base text)

bracketed_rests : (k l : Lookup) (t : Bool) (text : List ℕ) → rest_of (address_after_bracket k t text) ≡ rest_of (address_after_bracket l t text)
unfolding address_after_bracket
bracketed_rests k l t text = rests_behind (register text) _ _ (λ rn. based_rests k l t rn.0 rn.1 (byte 93 rn.1))

pub transfer_rests : (k l : Lookup) (address : ℕ) (loading of_byte t : Bool) (text : List ℕ)
    → rest_of (transfer_text_at k address loading of_byte t text) ≡ rest_of (transfer_text_at l address loading of_byte t text)
unfolding transfer_text_at
transfer_rests k l address loading of_byte t text = rests_behind (register text) _ _ (λ rd. rests_behind (comma rd.1) _ _ (λ rest.
    rests_then (address_at k address t rest (byte 91 rest)) (address_at l address t rest (byte 91 rest)) _ _ (at rest (byte 91 rest)) (λ a b more. refl)))
  where
    at : (rest : List ℕ) (o : Option (List ℕ)) → rest_of (address_at k address t rest o) ≡ rest_of (address_at l address t rest o)
    at rest (Some after) = bracketed_rests k l t after
    at rest None = unless_rests t (address_at_label k address rest) (address_at_label l address rest) (made_rests k l (reached_from address) (reached_from address) rest)
