-- The printed operands of LDM and STM are read back.
use Rattle.std.proofs.Common.{◌≡◌, ◌<◌, ◌≤◌, ◌+◌, ◌-◌, ◌*◌, ◌/◌, ◌%◌, ◌^◌, ℕ, zero, suc, Bool, true, false, List, [], ◌∷◌, ◌++◌, length, Option, Some, None, Ok, refl, sym, ap, subst, ◌∙◌, arith, append_assoc, length-append}
use Rattle.std.proofs.lemmas.Bool.Decides.{nat_tests}
use Rattle.std.proofs.lemmas.Nat.{mod-pow-add, pow_pos}
use Rattle.std.proofs.Math.Nat.{div-eq_of_lt, mod-lt}
use Rattle.std.specs.Prelude.{◌==◌, nat_lt, codes, filter, fold}
use Rattle.std.specs.List.{prefix_len, range_with_len}
use Rattle.profile.specs.Word.{bit_of}
use Rattle.arm_decode.specs.Diagrams.{word_of_instruction}
use Rattle.arm_decode.specs.Ranges.{FitsFields}
use Rattle.arm_decode.specs.Refusals.{refusal}
use Rattle.arm_decode.specs.declared.action.Action.TheVariants as action
use Rattle.arm_decode.specs.declared.action.BlockTransfer.{BlockTransfer}
use Rattle.arm_decode.specs.declared.address.BlockMode.{BlockMode}
use Rattle.arm_decode.specs.declared.condition.Condition.{Condition}
use Rattle.assembler_text.specs.Names.{block_mode_text, choose_text, condition_text, register_text, text_if}
use Rattle.assembler_text.specs.Transfers.{block_head, block_transfer_text, braces_text, listed_from, listed_text, register_names_text}
use Rattle.assembler_text.specs.naming.Expressions.{Lookup}
use Rattle.assembler_text.specs.naming.Names.{register}
use Rattle.assembler_text.specs.naming.Words.{after_mark, after_spaces, byte, comma, is_marked, is_word_byte}
use Rattle.assembler_text.specs.declared.naming.mnemonics.Command.TheVariants as command
use Rattle.assembler_reading.specs.Instructions.{instruction}
use Rattle.assembler_reading.specs.RegisterLists.{block_transfer_text_at, block_transfer_action, last_register, more_registers, register_list, register_range, with_range, list_with_register}
use Rattle.assembler_reading.proofs.InstructionsAgain.{read_again, word_for_again}
use Rattle.assembler_reading.proofs.MnemonicsAgain.{block_word}
use Rattle.assembler_reading.proofs.Pieces.{comma_then, is_register, register_again}
use Rattle.assembler_reading.proofs.Ranges.{no_bit_value}

-- registers have numbers below 16
abbrev AreRegisters : List ℕ → Type 0
AreRegisters [] = Unit {0}
AreRegisters (n ∷ ns) = (n < 16) × AreRegisters ns

single : (list n : ℕ) → with_range list n n ≡ list_with_register list n
unfolding with_range
single list n = let one : n + 1 - n ≡ suc zero = omega arith in rw one refl

one_register : (n : ℕ) (rest : List ℕ) → register (register_text n ++ rest) ≡ Some (n, rest) → byte 45 rest ≡ None
    → register_range (register_text n ++ rest) ≡ Some ((n, n), rest)
one_register n rest e none = rw (e, none) refl

no_minus_brace : (tail : List ℕ) → byte 45 (125 ∷ tail) ≡ None
unfolding byte
no_minus_brace tail = refl

no_minus_comma : (tail : List ℕ) → byte 45 (44 ∷ tail) ≡ None
unfolding byte
no_minus_comma tail = refl

no_comma_brace : (tail : List ℕ) → comma (125 ∷ tail) ≡ None
unfolding comma byte after_spaces
no_comma_brace tail = refl

brace_byte : (tail : List ℕ) → byte 125 (125 ∷ tail) ≡ Some tail
unfolding byte
brace_byte tail = refl

last_one : (count list n : ℕ) (tail : List ℕ) → n < 16
    → more_registers (suc count) list (register_text n ++ (125 ∷ tail)) ≡ Some (list_with_register list n, tail)
unfolding more_registers
last_one count list n tail h =
    rw (one_register n (125 ∷ tail) (register_again n (125 ∷ tail) h refl) (no_minus_brace tail), no_comma_brace tail, brace_byte tail, single list n) refl

one_more : (count list n : ℕ) (others : List ℕ) → n < 16 → after_spaces others ≡ others
    → more_registers (suc count) list (register_text n ++ (44 ∷ others)) ≡ more_registers count (list_with_register list n) others
unfolding more_registers
one_more count list n others h e =
    rw (one_register n (44 ∷ others) (register_again n (44 ∷ others) h refl) (no_minus_comma others), comma_then others e, single list n) refl

-- the text of registers and the brace that closes
abbrev closed_list : ℕ → List ℕ → List ℕ → List ℕ
closed_list n ns tail = register_names_text [] (n ∷ ns) ++ (125 ∷ tail)

last_shape : (n : ℕ) (tail : List ℕ) → closed_list n [] tail ≡ register_text n ++ (125 ∷ tail)
last_shape n tail = append_assoc (register_text n) [] (125 ∷ tail)

more_shape : (n m : ℕ) (ns tail : List ℕ) → closed_list n (m ∷ ns) tail ≡ register_text n ++ (44 ∷ closed_list m ns tail)
more_shape n m ns tail = append_assoc (register_text n) (44 ∷ (register_text m ++ register_names_text (codes ",") ns)) (125 ∷ tail)

list_no_space : (n : ℕ) (ns tail : List ℕ) → n < 16 → after_spaces (closed_list n ns tail) ≡ closed_list n ns tail
list_no_space n ns tail h =
    subst (λ (t : List ℕ). after_spaces t ≡ t) (sym (append_assoc (register_text n) (register_names_text (codes ",") ns) (125 ∷ tail)))
    (is_register n (register_names_text (codes ",") ns ++ (125 ∷ tail)) h).no_space

registers_again : (count list n : ℕ) (ns tail : List ℕ) → length ns < count → AreRegisters (n ∷ ns)
    → more_registers count list (closed_list n ns tail) ≡ Some (fold list_with_register list (n ∷ ns), tail)
registers_again zero list n ns tail enough low = absurd (omega (arith, enough))
registers_again (suc count) list n [] tail enough low = rw (last_shape n tail) (last_one count list n tail low.0)
registers_again (suc count) list n (m ∷ ns) tail enough low =
    let others = registers_again count (list_with_register list n) m ns tail (omega (arith, enough)) low.1 in
    rw (more_shape n m ns tail) (one_more count list n (closed_list m ns tail) low.0 (list_no_space m ns tail low.1.0) ∙ others)

-- the registers of a list
in_range : (list first count : ℕ) → first + count ≤ 16 → AreRegisters (filter (bit_of list) (range_with_len first count))
in_range list first zero within = tt
in_range list first (suc count) within = by (bit_of list first) refl (in_range list (first + 1) count (omega (arith, within)))
  where
    by : (b : Bool) → bit_of list first ≡ b → AreRegisters (filter (bit_of list) (range_with_len (first + 1) count))
        → AreRegisters (filter (bit_of list) (range_with_len first (suc count)))
    by true e more = rw e (omega (arith, within), more)
    by false e more = rw e more

bit_value : (list n : ℕ) → bit_of list n ≡ true → list / 2 ^ n % 2 ≡ 1
bit_value list n e = grind (arith, nat_tests, e)

one_bit_more : (list n : ℕ) → list % 2 ^ (n + 1) ≡ (list / 2 ^ n % 2) * 2 ^ n + list % 2 ^ n
one_bit_more list n = ap (λ (k : ℕ). list % 2 ^ k) (swapped n) ∙ mod-pow-add list 1 n
  where
    swapped : (k : ℕ) → k + 1 ≡ 1 + k
    swapped k = omega arith

above : (list n : ℕ) → bit_of (list % 2 ^ n) n ≡ false
above list n = let none : list % 2 ^ n / 2 ^ n ≡ 0 = div-eq_of_lt (mod-lt list (pow_pos n)) in rw none refl

put_bit : (list n : ℕ) → bit_of list n ≡ true → list_with_register (list % 2 ^ n) n ≡ list % 2 ^ (n + 1)
unfolding list_with_register
put_bit list n e =
    let value : list / 2 ^ n % 2 ≡ 1 = bit_value list n e in
    rw (above list n) (sum_with (list % 2 ^ n) (2 ^ n) ∙ sym (one_bit_more list n ∙ ap (λ (b : ℕ). b * 2 ^ n + list % 2 ^ n) value))
  where
    sum_with : (x p : ℕ) → x + p ≡ 1 * p + x
    sum_with x p = omega arith

skip_bit : (list n : ℕ) → bit_of list n ≡ false → list % 2 ^ n ≡ list % 2 ^ (n + 1)
skip_bit list n e =
    let value : list / 2 ^ n % 2 ≡ 0 = no_bit_value (list / 2 ^ n) e in
    sym (one_bit_more list n ∙ ap (λ (b : ℕ). b * 2 ^ n + list % 2 ^ n) value ∙ nothing (list % 2 ^ n) (2 ^ n))
  where
    nothing : (x p : ℕ) → 0 * p + x ≡ x
    nothing x p = omega arith

listed_sum : (list first count : ℕ) → fold list_with_register (list % 2 ^ first) (filter (bit_of list) (range_with_len first count)) ≡ list % 2 ^ (first + count)
listed_sum list first zero = let e : first + 0 ≡ first = omega arith in rw e refl
listed_sum list first (suc count) = by (bit_of list first) refl (listed_sum list (first + 1) count)
  where
    later : first + 1 + count ≡ first + suc count
    later = omega arith

    by : (b : Bool) → bit_of list first ≡ b
        → fold list_with_register (list % 2 ^ (first + 1)) (filter (bit_of list) (range_with_len (first + 1) count)) ≡ list % 2 ^ (first + 1 + count)
        → fold list_with_register (list % 2 ^ first) (filter (bit_of list) (range_with_len first (suc count))) ≡ list % 2 ^ (first + suc count)
    by true e more =
        rw e (ap (λ (start : ℕ). fold list_with_register start (filter (bit_of list) (range_with_len (first + 1) count))) (put_bit list first e)
        ∙ more ∙ ap (λ (k : ℕ). list % 2 ^ k) later)
    by false e more =
        rw e (ap (λ (start : ℕ). fold list_with_register start (filter (bit_of list) (range_with_len (first + 1) count))) (skip_bit list first e)
        ∙ more ∙ ap (λ (k : ℕ). list % 2 ^ k) later)

whole_list : (list : ℕ) → list < 2 ^ 16 → fold list_with_register 0 (listed_from list 0) ≡ list
whole_list list low =
    let start : list % 2 ^ 0 ≡ 0 = omega arith in
    let all : list % 2 ^ 16 ≡ list = omega arith in
    rw start at (listed_sum list 0 16) ∙ all

-- as many bytes as registers at least
long_name : (n : ℕ) → 1 ≤ length (register_text n)
long_name n = by (n == 15) (nat_lt n 10) refl refl
  where
    by : (p q : Bool) → (n == 15) ≡ p → nat_lt n 10 ≡ q → 1 ≤ length (register_text n)
    by true q e f = rw e (omega arith)
    by false true e f = rw (e, f) (omega arith)
    by false false e f = rw (e, f) (omega arith)

long_list : (before ns : List ℕ) → length ns ≤ length (register_names_text before ns)
long_list before [] = omega arith
long_list before (n ∷ ns) =
    let parts : length (before ++ (register_text n ++ register_names_text (codes ",") ns)) ≡ length before + (length (register_text n) + length (register_names_text (codes ",") ns)) =
    length-append before (register_text n ++ register_names_text (codes ",") ns) ∙ ap (λ (k : ℕ). length before + k) (length-append (register_text n) (register_names_text (codes ",") ns)) in
    omega (arith, parts, long_name n, long_list (codes ",") ns)

enough_bytes : (ns tail : List ℕ) → length ns < length (register_names_text [] ns ++ (125 ∷ tail))
enough_bytes ns tail = omega (arith, length-append (register_names_text [] ns) (125 ∷ tail), long_list [] ns)

abbrev list_read : List ℕ → ℕ → Option (ℕ × List ℕ)
list_read rest list = Some (list, rest)

braces_read : (ns tail : List ℕ) (list : ℕ) → fold list_with_register 0 ns ≡ list → (list == 0) ≡ false → AreRegisters ns
    → register_list (123 ∷ (register_names_text [] ns ++ (125 ∷ tail))) ≡ Some (list, tail)
unfolding byte
braces_read [] tail list e some low = let none : list ≡ 0 = sym e in absurd (differs list none some)
  where
    differs : (k : ℕ) → k ≡ 0 → (k == 0) ≡ false → ⊥
    differs k zero_is nonzero = grind (arith, nat_tests, zero_is, nonzero)
braces_read (n ∷ ns) tail list e some low =
    registers_again (length (closed_list n ns tail)) 0 n ns tail (omega (arith, enough_bytes (n ∷ ns) tail)) low
    ∙ ap (list_read tail) e

braces_shape : (b : BlockTransfer) → braces_text b ≡ 123 ∷ (listed_text b.list ++ (125 ∷ text_if b.psr_or_user (codes "^")))
braces_shape b = refl

list_again : (list : ℕ) (tail : List ℕ) → list < 2 ^ 16 → (list == 0) ≡ false
    → register_list (123 ∷ (listed_text list ++ (125 ∷ tail))) ≡ Some (list, tail)
unfolding listed_text
list_again list tail low some = braces_read (listed_from list 0) tail list (whole_list list low) some (in_range list 0 16 (omega arith))

caret_back : (s : Bool) → is_marked 94 (text_if s (codes "^")) ≡ s
unfolding byte
caret_back true = refl
caret_back false = refl

after_caret : (s : Bool) → after_mark 94 (text_if s (codes "^")) ≡ []
unfolding byte
after_caret true = refl
after_caret false = refl

bang_back : (w : Bool) (x : List ℕ) → is_marked 33 (text_if w (codes "!") ++ (44 ∷ x)) ≡ w
unfolding byte
bang_back true x = refl
bang_back false x = refl

after_bang : (w : Bool) (x : List ℕ) → after_mark 33 (text_if w (codes "!") ++ (44 ∷ x)) ≡ 44 ∷ x
unfolding byte
after_bang true x = refl
after_bang false x = refl

apart_bang : (w : Bool) (x : List ℕ) → prefix_len is_word_byte (text_if w (codes "!") ++ (44 ∷ x)) ≡ 0
apart_bang true x = refl
apart_bang false x = refl

brace_no_space : (x : List ℕ) → after_spaces (123 ∷ x) ≡ 123 ∷ x
unfolding after_spaces
brace_no_space x = refl

block_read : (loads : Bool) (mode : BlockMode) (rn : ℕ) (w s : Bool) (list : ℕ) → rn < 16 → list < 2 ^ 16 → (list == 0) ≡ false
    → block_transfer_text_at loads mode (register_text rn ++ (text_if w (codes "!") ++ (44 ∷ (123 ∷ (listed_text list ++ (125 ∷ text_if s (codes "^")))))))
    ≡ Some (Ok (block_transfer_action loads mode rn w list s), [])
unfolding block_transfer_text_at
block_read loads mode rn w s list h low some =
    let tail : List ℕ = text_if s (codes "^") in
    let braces : List ℕ = listed_text list ++ (125 ∷ tail) in
    rw (
      register_again rn (text_if w (codes "!") ++ (44 ∷ (123 ∷ braces))) h (apart_bang w (123 ∷ braces)),
      after_bang w (123 ∷ braces),
      bang_back w (123 ∷ braces),
      comma_then (123 ∷ braces) (brace_no_space braces),
      list_again list tail low some,
      caret_back s,
      after_caret s,
    ) refl

head_shape : (a b m r w rest : List ℕ) → (a ++ (b ++ (m ++ (codes " " ++ (r ++ (w ++ codes ",")))))) ++ rest ≡ (a ++ (b ++ m)) ++ (32 ∷ (r ++ (w ++ (44 ∷ rest))))
head_shape a b m r w rest = simp append_assoc

block_shape : (c : Condition) (b : BlockTransfer)
    → block_transfer_text c b ≡ (choose_text b.loads (codes "LDM") (codes "STM") ++ (condition_text c ++ block_mode_text b.mode))
    ++ (32 ∷ (register_text b.rn ++ (text_if b.writes_back (codes "!") ++ (44 ∷ (123 ∷ (listed_text b.list ++ (125 ∷ text_if b.psr_or_user (codes "^"))))))))
block_shape c b =
    head_shape (choose_text b.loads (codes "LDM") (codes "STM")) (condition_text c) (block_mode_text b.mode) (register_text b.rn)
    (text_if b.writes_back (codes "!")) (123 ∷ (listed_text b.list ++ (125 ∷ text_if b.psr_or_user (codes "^"))))

not_empty : (b : BlockTransfer) → refusal (action.BlockTransfer b) ≡ None → (b.list == 0) ≡ false
not_empty b h = by (b.rn == 15) (b.list == 0) refl refl
  where
    by : (p z : Bool) → (b.rn == 15) ≡ p → (b.list == 0) ≡ z → (b.list == 0) ≡ false
    by p false e f = f
    by true true e f = let fault = rw e at h in absurd cc
    by false true e f = let fault = rw (e, f) at h in absurd cc

pub block_is_read : (labels : Lookup) (address w : ℕ) (c : Condition) (b : BlockTransfer) → FitsFields (action.BlockTransfer b)
    → refusal (action.BlockTransfer b) ≡ None → word_of_instruction (c, action.BlockTransfer b) ≡ w → instruction labels address (block_transfer_text c b) ≡ Some (Ok w, [])
block_is_read labels address w c b fits free same =
    let x : List ℕ = text_if b.writes_back (codes "!") ++ (44 ∷ (123 ∷ (listed_text b.list ++ (125 ∷ text_if b.psr_or_user (codes "^"))))) in
    rw (block_shape c b)
    (read_again labels address w (choose_text b.loads (codes "LDM") (codes "STM") ++ (condition_text c ++ block_mode_text b.mode))
    (register_text b.rn ++ x) (command.BlockTransfer b.loads b.mode) (c, action.BlockTransfer b)
    (block_word c b.loads b.mode) (is_register b.rn x fits.0).no_space
    (block_read b.loads b.mode b.rn b.writes_back b.psr_or_user b.list fits.0 fits.1 (not_empty b free))
    (word_for_again w (c, action.BlockTransfer b) free same))
