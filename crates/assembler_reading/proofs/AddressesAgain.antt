-- The printed operands of LDR and STR are read back.
use Rattle.std.proofs.Common.{◌≡◌, ◌<◌, ◌^◌, ℕ, Bool, true, false, List, [], ◌∷◌, ◌++◌, Option, Some, None, Ok, refl, sym, ap, subst, ◌∙◌, arith, append_assoc}
use Rattle.std.proofs.lemmas.Bool.{eqb-true}
use Rattle.std.proofs.lemmas.Bool.Decides.{nat_tests}
use Rattle.std.proofs.lemmas.List.{append-nil}
use Rattle.std.specs.Prelude.{◌&&◌, not, nat_lt, codes, if◌then◌else◌}
use Rattle.arm_decode.specs.Ranges.{FitsFields, FitsOffset}
use Rattle.arm_decode.specs.Refusals.{refusal}
use Rattle.arm_decode.specs.Diagrams.{word_of_instruction}
use Rattle.arm_decode.specs.declared.action.Action.TheVariants as action
use Rattle.arm_decode.specs.declared.action.Transfer.{Transfer}
use Rattle.arm_decode.specs.declared.address.Address.{Address}
use Rattle.arm_decode.specs.declared.address.Direction.{Direction}
use Rattle.arm_decode.specs.declared.address.Direction.TheVariants.{Down, Up}
use Rattle.arm_decode.specs.declared.address.Indexing.{Indexing}
use Rattle.arm_decode.specs.declared.address.Indexing.TheVariants.{Post, Pre}
use Rattle.arm_decode.specs.declared.address.Offset.{Offset}
use Rattle.arm_decode.specs.declared.address.Offset.TheVariants as offset
use Rattle.arm_decode.specs.declared.condition.Condition.{Condition}
use Rattle.arm_decode.specs.declared.operand.Operand.TheVariants as operand
use Rattle.arm_decode.specs.declared.shift.ShiftedRegister.{ShiftedRegister}
use Rattle.assembler_text.specs.Names.{choose_text, condition_text, register_text, text_if}
use Rattle.assembler_text.specs.Numbers.{number_text}
use Rattle.assembler_text.specs.Operands.{shifted_text, shifting_text}
use Rattle.assembler_text.specs.Transfers.{operand_address_text, after_text, base_text, before_text, close_text, is_nothing, is_user, offset_text, sign_text, transfer_head, transfer_text}
use Rattle.assembler_text.specs.naming.Expressions.{Lookup}
use Rattle.assembler_text.specs.naming.Names.{register}
use Rattle.assembler_text.specs.naming.Words.{after_mark, after_spaces, byte, comma, is_marked}
use Rattle.assembler_text.specs.declared.naming.mnemonics.Command.TheVariants as command
use Rattle.assembler_reading.specs.Addresses.{address_at, address_in_brackets, before_bracket, address_after_bracket, address_after_base, number_offset, offset_in, offset_of_value, address_with_offset, shifted_offset, transfer_text_at, transfer_action}
use Rattle.assembler_reading.specs.Instructions.{instruction}
use Rattle.assembler_reading.specs.Operands.{ReadOutcome, shifted_operand}
use Rattle.assembler_reading.proofs.InstructionsAgain.{read_again, word_for_again}
use Rattle.assembler_reading.proofs.MnemonicsAgain.{kind_text, transfer_word}
use Rattle.assembler_reading.proofs.Numbers.{number_again}
use Rattle.assembler_reading.proofs.OperandsAgain.{hash_after_space, shifted_again, shifted_shape}
use Rattle.assembler_reading.proofs.Pieces.{Ends, comma_then, ends_bracket, ends_nothing, is_register, register_again}

-- an offset with its sign, as it is read
abbrev signed_read : Direction → Offset → List ℕ → Option (ReadOutcome (Direction × Offset) × List ℕ)
signed_read d o rest = Some (Ok (d, o), rest)

up_number : (labels : Lookup) (x : List ℕ) → byte 45 x ≡ None → offset_in labels (35 ∷ x) ≡ number_offset labels Up x
unfolding offset_in byte
up_number labels x e = rw e refl

down_number : (labels : Lookup) (x : List ℕ) → offset_in labels (35 ∷ (45 ∷ x)) ≡ number_offset labels Down x
unfolding offset_in byte
down_number labels x = refl

up_register : (labels : Lookup) (x : List ℕ) → byte 35 x ≡ None → byte 45 x ≡ None → offset_in labels x ≡ shifted_offset labels Up x
unfolding offset_in
up_register labels x h e = rw (h, e) refl

down_register : (labels : Lookup) (x : List ℕ) → offset_in labels (45 ∷ x) ≡ shifted_offset labels Down x
unfolding offset_in byte
down_register labels x = refl

offset_fits : (d : Direction) (n : ℕ) → n < 2 ^ 12 → offset_of_value d (Some n) ≡ Ok (d, offset.Immediate n)
offset_fits d n low = let test : nat_lt n 4096 ≡ true = grind (arith, nat_tests, low) in rw test refl

number_read : (labels : Lookup) (d : Direction) (n : ℕ) (rest : List ℕ) → n < 2 ^ 12 → Ends rest
    → number_offset labels d (number_text n ++ rest) ≡ signed_read d (offset.Immediate n) rest
number_read labels d n rest low ends =
    let word_sized : n < 2 ^ 32 = omega arith in
    rw (number_again labels n rest word_sized ends.apart ends.no_sign, offset_fits d n low) refl

register_read : (labels : Lookup) (d : Direction) (s : ShiftedRegister) (text rest : List ℕ) → shifted_operand labels text ≡ Some (Ok (operand.Shifted s), rest)
    → shifted_offset labels d text ≡ signed_read d (offset.Shifted s) rest
register_read labels d s text rest e = rw e refl

no_minus_number : (n : ℕ) (rest : List ℕ) → byte 45 (number_text n ++ rest) ≡ None
unfolding byte
no_minus_number n rest = refl

begins_plainly : (c : ℕ) (s : ShiftedRegister) (rest : List ℕ) → byte c (register_text s.rm ++ (shifting_text s.shift s.amount ++ rest)) ≡ None
    → byte c (shifted_text s ++ rest) ≡ None
begins_plainly c s rest e = subst (λ (t : List ℕ). byte c t ≡ None) (sym (shifted_shape s rest)) e

offset_again : (labels : Lookup) (d : Direction) (o : Offset) (rest : List ℕ) → FitsOffset o → Ends rest
    → offset_in labels (offset_text d o ++ rest) ≡ signed_read d o rest
offset_again labels Up (offset.Immediate n) rest fits ends =
    up_number labels (number_text n ++ rest) (no_minus_number n rest) ∙ number_read labels Up n rest fits ends
offset_again labels Down (offset.Immediate n) rest fits ends = down_number labels (number_text n ++ rest) ∙ number_read labels Down n rest fits ends
offset_again labels Up (offset.Shifted s) rest fits ends =
    let tail : List ℕ = shifting_text s.shift s.amount ++ rest in
    up_register labels (shifted_text s ++ rest) (begins_plainly 35 s rest (is_register s.rm tail fits.0).no_hash)
    (begins_plainly 45 s rest (is_register s.rm tail fits.0).no_minus)
    ∙ register_read labels Up s (shifted_text s ++ rest) rest (shifted_again labels s rest fits ends)
offset_again labels Down (offset.Shifted s) rest fits ends =
    down_register labels (shifted_text s ++ rest) ∙ register_read labels Down s (shifted_text s ++ rest) rest (shifted_again labels s rest fits ends)

minus_no_space : (x : List ℕ) → after_spaces (45 ∷ x) ≡ 45 ∷ x
unfolding after_spaces
minus_no_space x = refl

offset_no_space : (d : Direction) (o : Offset) (rest : List ℕ) → FitsOffset o → after_spaces (offset_text d o ++ rest) ≡ offset_text d o ++ rest
offset_no_space d (offset.Immediate n) rest fits = hash_after_space ((sign_text d ++ number_text n) ++ rest)
offset_no_space Down (offset.Shifted s) rest fits = minus_no_space (shifted_text s ++ rest)
offset_no_space Up (offset.Shifted s) rest fits =
    subst (λ (t : List ℕ). after_spaces t ≡ t) (sym (shifted_shape s rest)) (is_register s.rm (shifting_text s.shift s.amount ++ rest) fits.0).no_space

-- an address, as it is read
abbrev place_read : Address → List ℕ → Option (ReadOutcome Address × List ℕ)
place_read a rest = Some (Ok a, rest)

behind_open : (labels : Lookup) (user : Bool) (rn : ℕ) (x : List ℕ) → rn < 16 → register (register_text rn ++ x) ≡ Some (rn, x)
    → address_after_bracket labels user (register_text rn ++ x) ≡ address_in_brackets labels user rn x (byte 93 x)
unfolding address_after_bracket
behind_open labels user rn x h e = rw e refl

post_read : (labels : Lookup) (user : Bool) (rn : ℕ) (d : Direction) (o : Offset) → FitsOffset o
    → address_after_base labels user rn (44 ∷ offset_text d o) (comma (44 ∷ offset_text d o)) ≡ place_read (address_with_offset (Post user) d rn o) []
post_read labels user rn d o fits =
    let whole : offset_text d o ++ [] ≡ offset_text d o = append-nil (offset_text d o) in
    let no_space = subst (λ (t : List ℕ). after_spaces t ≡ t) whole (offset_no_space d o [] fits) in
    let read = subst (λ (t : List ℕ). offset_in labels t ≡ signed_read d o []) whole (offset_again labels d o [] fits ends_nothing) in
    rw (comma_then (offset_text d o) no_space, read) refl

bracket_then : (labels : Lookup) (user : Bool) (rn : ℕ) (x : List ℕ) → address_in_brackets labels user rn (93 ∷ x) (byte 93 (93 ∷ x)) ≡ address_after_base labels user rn x (comma x)
unfolding byte
bracket_then labels user rn x = refl

comma_first : (labels : Lookup) (rn : ℕ) (x : List ℕ) → address_in_brackets labels false rn (44 ∷ x) (byte 93 (44 ∷ x)) ≡ before_bracket labels rn (44 ∷ x)
unfolding byte
comma_first labels rn x = refl

alone_read : (labels : Lookup) (rn : ℕ) → address_after_base labels false rn [] (comma []) ≡ place_read (address_with_offset (Pre false) Up rn (offset.Immediate 0)) []
unfolding comma byte after_spaces
alone_read labels rn = refl

bracket_byte : (x : List ℕ) → byte 93 (93 ∷ x) ≡ Some x
unfolding byte
bracket_byte x = refl

marked_back : (w : Bool) → is_marked 33 (text_if w (codes "!")) ≡ w
unfolding byte
marked_back true = refl
marked_back false = refl

after_marked : (w : Bool) → after_mark 33 (text_if w (codes "!")) ≡ []
unfolding byte
after_marked true = refl
after_marked false = refl

before_read : (labels : Lookup) (w : Bool) (rn : ℕ) (d : Direction) (o : Offset) → FitsOffset o
    → before_bracket labels rn (44 ∷ (offset_text d o ++ (93 ∷ text_if w (codes "!")))) ≡ place_read (address_with_offset (Pre w) d rn o) []
before_read labels w rn d o fits =
    let tail : List ℕ = 93 ∷ text_if w (codes "!") in
    rw (
      comma_then (offset_text d o ++ tail) (offset_no_space d o tail fits),
      offset_again labels d o tail fits (ends_bracket (text_if w (codes "!"))),
      bracket_byte (text_if w (codes "!")),
      marked_back w,
      after_marked w,
    ) refl

-- after the bracket that opens
post_shape : (user : Bool) (d : Direction) (rn : ℕ) (o : Offset) → after_text (address_with_offset (Post user) d rn o) ≡ 91 ∷ (register_text rn ++ (93 ∷ (44 ∷ offset_text d o)))
post_shape user d rn o = ap (λ (t : List ℕ). 91 ∷ t) (append_assoc (register_text rn) (codes "],") (offset_text d o))

post_again : (labels : Lookup) (user : Bool) (d : Direction) (rn : ℕ) (o : Offset) → rn < 16 → FitsOffset o
    → address_after_bracket labels user (register_text rn ++ (93 ∷ (44 ∷ offset_text d o))) ≡ place_read (address_with_offset (Post user) d rn o) []
post_again labels user d rn o h fits =
    behind_open labels user rn (93 ∷ (44 ∷ offset_text d o)) h (register_again rn (93 ∷ (44 ∷ offset_text d o)) h refl)
    ∙ bracket_then labels user rn (44 ∷ offset_text d o) ∙ post_read labels user rn d o fits

alone_again : (labels : Lookup) (rn : ℕ) → rn < 16
    → address_after_bracket labels false (register_text rn ++ (93 ∷ [])) ≡ place_read (address_with_offset (Pre false) Up rn (offset.Immediate 0)) []
alone_again labels rn h =
    behind_open labels false rn (93 ∷ []) h (register_again rn (93 ∷ []) h refl) ∙ bracket_then labels false rn [] ∙ alone_read labels rn

before_again : (labels : Lookup) (w : Bool) (d : Direction) (rn : ℕ) (o : Offset) → rn < 16 → FitsOffset o
    → address_after_bracket labels false (register_text rn ++ (44 ∷ (offset_text d o ++ (93 ∷ text_if w (codes "!"))))) ≡ place_read (address_with_offset (Pre w) d rn o) []
before_again labels w d rn o h fits =
    let tail : List ℕ = offset_text d o ++ (93 ∷ text_if w (codes "!")) in
    behind_open labels false rn (44 ∷ tail) h (register_again rn (44 ∷ tail) h refl) ∙ comma_first labels rn tail ∙ before_read labels w rn d o fits

-- the text of an address, without the bracket that opens
abbrev pub behind_bracket : Indexing → Direction → ℕ → Offset → List ℕ
behind_bracket (Post user) d rn o = register_text rn ++ (93 ∷ (44 ∷ offset_text d o))
behind_bracket (Pre w) d rn o =
    if not w && is_nothing d o then register_text rn ++ (93 ∷ []) else register_text rn ++ (44 ∷ (offset_text d o ++ (93 ∷ text_if w (codes "!"))))

before_shape : (w : Bool) (d : Direction) (rn : ℕ) (o : Offset) → before_text w (address_with_offset (Pre w) d rn o) ≡ 91 ∷ behind_bracket (Pre w) d rn o
before_shape w d rn o = by (not w && is_nothing d o) refl
  where
    by : (t : Bool) → (not w && is_nothing d o) ≡ t → before_text w (address_with_offset (Pre w) d rn o) ≡ 91 ∷ behind_bracket (Pre w) d rn o
    by true e = rw e refl
    by false e = rw e (ap (λ (t : List ℕ). 91 ∷ t) (append_assoc (register_text rn) (codes ",") (offset_text d o ++ (codes "]" ++ text_if w (codes "!")))))

address_shape : (way : Indexing) (d : Direction) (rn : ℕ) (o : Offset) → operand_address_text (address_with_offset way d rn o) ≡ 91 ∷ behind_bracket way d rn o
address_shape (Post user) d rn o = post_shape user d rn o
address_shape (Pre w) d rn o = before_shape w d rn o

nothing_is : (w : Bool) (d : Direction) (rn : ℕ) (o : Offset) → (not w && is_nothing d o) ≡ true
    → address_with_offset (Pre false) Up rn (offset.Immediate 0) ≡ address_with_offset (Pre w) d rn o
nothing_is true d rn o e = absurd cc
nothing_is false Up rn (offset.Immediate n) e = ap (λ (k : ℕ). address_with_offset (Pre false) Up rn (offset.Immediate k)) (sym (eqb-true n 0 e))
nothing_is false Down rn (offset.Immediate n) e = absurd cc
nothing_is false d rn (offset.Shifted s) e = absurd cc

bracket_again : (labels : Lookup) (way : Indexing) (d : Direction) (rn : ℕ) (o : Offset) → rn < 16 → FitsOffset o
    → address_after_bracket labels (is_user way) (behind_bracket way d rn o) ≡ place_read (address_with_offset way d rn o) []
bracket_again labels (Post user) d rn o h fits = post_again labels user d rn o h fits
bracket_again labels (Pre w) d rn o h fits = by (not w && is_nothing d o) refl
  where
    by : (t : Bool) → (not w && is_nothing d o) ≡ t → address_after_bracket labels false (behind_bracket (Pre w) d rn o) ≡ place_read (address_with_offset (Pre w) d rn o) []
    by true e = rw e (alone_again labels rn h ∙ ap (λ (a : Address). place_read a []) (nothing_is w d rn o e))
    by false e = rw e (before_again labels w d rn o h fits)

open_bracket : (labels : Lookup) (address : ℕ) (user : Bool) (x : List ℕ) → address_at labels address user (91 ∷ x) (byte 91 (91 ∷ x)) ≡ address_after_bracket labels user x
unfolding byte
open_bracket labels address user x = refl

bracket_no_space : (x : List ℕ) → after_spaces (91 ∷ x) ≡ 91 ∷ x
unfolding after_spaces
bracket_no_space x = refl

transfer_read : (labels : Lookup) (address : ℕ) (loads of_byte : Bool) (rd : ℕ) (way : Indexing) (d : Direction) (rn : ℕ) (o : Offset)
    → rd < 16 → rn < 16 → FitsOffset o
    → transfer_text_at labels address loads of_byte (is_user way) (register_text rd ++ (44 ∷ (91 ∷ behind_bracket way d rn o)))
    ≡ Some (transfer_action loads of_byte rd (Ok (address_with_offset way d rn o)), [])
unfolding transfer_text_at
transfer_read labels address loads of_byte rd way d rn o hd hn fits =
    let x : List ℕ = behind_bracket way d rn o in
    rw (
      register_again rd (44 ∷ (91 ∷ x)) hd refl,
      comma_then (91 ∷ x) (bracket_no_space x),
      open_bracket labels address (is_user way) x,
      bracket_again labels way d rn o hn fits,
    ) refl

head_shape : (a b x y r rest : List ℕ) → (a ++ (b ++ (x ++ (y ++ (codes " " ++ (r ++ codes ",")))))) ++ rest ≡ (a ++ (b ++ (x ++ y))) ++ (32 ∷ (r ++ (44 ∷ rest)))
head_shape a b x y r rest = simp append_assoc

transfer_shape : (c : Condition) (t : Transfer)
    → transfer_text c t ≡ (choose_text t.loads (codes "LDR") (codes "STR") ++ (condition_text c ++ kind_text t.is_byte (is_user t.address.indexing)))
    ++ (32 ∷ (register_text t.rd ++ (44 ∷ (91 ∷ behind_bracket t.address.indexing t.address.direction t.address.rn t.address.offset))))
transfer_shape c t =
    head_shape (choose_text t.loads (codes "LDR") (codes "STR")) (condition_text c) (text_if t.is_byte (codes "B"))
    (text_if (is_user t.address.indexing) (codes "T")) (register_text t.rd) (operand_address_text t.address)
    ∙ ap (λ (x : List ℕ). (choose_text t.loads (codes "LDR") (codes "STR") ++ (condition_text c ++ kind_text t.is_byte (is_user t.address.indexing)))
    ++ (32 ∷ (register_text t.rd ++ (44 ∷ x))))
    (address_shape t.address.indexing t.address.direction t.address.rn t.address.offset)

pub transfer_is_read : (labels : Lookup) (address w : ℕ) (c : Condition) (t : Transfer) → FitsFields (action.Transfer t) → refusal (action.Transfer t) ≡ None
    → word_of_instruction (c, action.Transfer t) ≡ w → instruction labels address (transfer_text c t) ≡ Some (Ok w, [])
transfer_is_read labels address w c t fits free same =
    let x : List ℕ = 44 ∷ (91 ∷ behind_bracket t.address.indexing t.address.direction t.address.rn t.address.offset) in
    rw (transfer_shape c t)
    (read_again labels address w (choose_text t.loads (codes "LDR") (codes "STR") ++ (condition_text c ++ kind_text t.is_byte (is_user t.address.indexing)))
    (register_text t.rd ++ x) (command.Transfer t.loads t.is_byte (is_user t.address.indexing)) (c, action.Transfer t)
    (transfer_word c t.loads t.is_byte (is_user t.address.indexing)) (is_register t.rd x fits.0).no_space
    (transfer_read labels address t.loads t.is_byte t.rd t.address.indexing t.address.direction t.address.rn t.address.offset fits.0 fits.1 fits.2)
    (word_for_again w (c, action.Transfer t) free same))
