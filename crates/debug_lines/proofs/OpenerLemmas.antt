-- A line that may open no block opens none.
use Rattle.std.proofs.Common.{◌≡◌, ℕ, ◌+◌, Bool, true, false, List, [], ◌∷◌, ◌++◌, length, drop, Option, Some, None, eqb-true, ap, subst, sym, refl, arith}
use Rattle.std.specs.Char.{to_ascii_lowercase}
use Rattle.std.specs.List.{onto_first}
use Rattle.std.specs.Prelude.{◌==◌, ◌&&◌, ◌||◌, not, nat_lt, codes, if◌then◌else◌}
use Rattle.command_shell_lines.specs.Numbers.{script_number}
use Rattle.command_shell_lines.specs.Operands.{cpu_register_named, word_address, count_up_to}
use Rattle.command_shell_lines.specs.Requests.{Request, Nothing, Boot, Run, Regs, Areas, Modules, Flex, Unknown, Load, Call, Step, Break, Unbreak, Heap, Set, Poke, Mem, Code, both_numbered, is_load, is_same_word, opens_block, request_if_named, request_if_number, request_of, request_of_number, request_of_three, request_of_two, request_of_word, request_of_words, words}
use Rattle.profile.specs.images.Entries.{can_name_image}
use Rattle.debug_lines.specs.DebugRequests.{DebugRequest, Script, Remark, NotKnown, bytes_request, debug_opens_block, debug_request, is_remark, is_script_request, own_request_behind, own_request_by, repeated_line, simple_request, simple_request_behind, trace_of_own, trace_of_words, traced_request, traced_script, untraced_request}
use Rattle.command_shell_lines.specs.debug_words.Texts.{text_behind}
use Rattle.debug_lines.specs.Openers.{is_opener_letter, may_open_block}
use Rattle.debug_lines.specs.SteppingRequests.{SteppingRequest, stepping_in}
use Rattle.debug_lines.specs.Tidy.{is_blank, is_comment_start, state_in_word, tidied_from, tidied_line}
use Rattle.debug_lines.specs.declared.tidy.TidyState.TheVariants.{AtStart}
use Rattle.debug_lines.proofs.OwnRequestLemmas.{asks_block, own_behind, own_trace, some_asks_block}

-- whether the first byte of a line begins a word that opens a block
abbrev begins_opener : List ℕ → Bool
begins_opener [] = false
begins_opener (b ∷ rest) = is_opener_letter b

-- LETTERS

neither : (x y : Bool) → (x || y) ≡ false → (x ≡ false) × (y ≡ false)
neither true y none = absurd (cc)
neither false y none = (refl, none)

-- neither the letter nor, where it is a capital, its small one
lower_if : (t : Bool) (x y n : ℕ) → (x == n) ≡ false → (y == n) ≡ false → ((if t then x else y) == n) ≡ false
lower_if true x y n first other = first
lower_if false x y n first other = other

lower_other : (b n : ℕ) → (b == n) ≡ false → (b + 32 == n) ≡ false → (to_ascii_lowercase b == n) ≡ false
lower_other b n same more =
    lower_if (nat_lt b 65) b _ n same (lower_if (nat_lt b 91) (b + 32) b n more same)

no_h : (b : ℕ) → is_opener_letter b ≡ false → (to_ascii_lowercase b == 104) ≡ false
no_h b other =
    let hs = neither (b == 72) (b == 104) (neither (b == 72 || b == 104) (b == 65 || b == 97) other).0 in
    let small = hs.1 in
    let capital = hs.0 in
    lower_other b 104 small (grind (arith, capital))

no_a : (b : ℕ) → is_opener_letter b ≡ false → (to_ascii_lowercase b == 97) ≡ false
no_a b other =
    let as_letters = neither (b == 65) (b == 97) (neither (b == 72 || b == 104) (b == 65 || b == 97) other).1 in
    let small = as_letters.1 in
    let capital = as_letters.0 in
    lower_other b 97 small (grind (arith, capital))

-- a word that begins with another letter is neither HEX nor ASM
no_hex : (b : ℕ) (word : List ℕ) → is_opener_letter b ≡ false → is_same_word (b ∷ word) (codes "HEX") ≡ false
no_hex b word other = ap (λ (t : Bool). t && is_same_word word (codes "EX")) (no_h b other)

no_asm : (b : ℕ) (word : List ℕ) → is_opener_letter b ≡ false → is_same_word (b ∷ word) (codes "ASM") ≡ false
no_asm b word other = ap (λ (t : Bool). t && is_same_word word (codes "SM")) (no_a b other)

-- LINES OF A SCRIPT

opens_if : (t : Bool) (x y : Request) → opens_block x ≡ false → opens_block y ≡ false
    → opens_block (if t then x else y) ≡ false
opens_if true x y first other = first
opens_if false x y first other = other

opens_else : (t : Bool) (x y : Request) → t ≡ false → opens_block y ≡ false → opens_block (if t then x else y) ≡ false
opens_else true x y none other = absurd (cc)
opens_else false x y none other = other

word_alone : (word : List ℕ) → opens_block (request_of_word word) ≡ false
word_alone word =
    opens_if (length word == 0) Nothing _ refl
    (opens_if (is_same_word word (codes "RUN")) Run _ refl
    (opens_if (is_same_word word (codes "REGS")) Regs _ refl
    (opens_if (is_same_word word (codes "AREAS")) Areas _ refl
    (opens_if (is_same_word word (codes "MODULES")) Modules _ refl
    (opens_if (is_same_word word (codes "FLEX")) Flex Unknown refl refl)))))

number_alone : (word : List ℕ) (n : ℕ) → opens_block (request_of_number word n) ≡ false
number_alone word n =
    opens_if (is_same_word word (codes "CALL")) (Call n) _ refl
    (opens_if (is_same_word word (codes "STEP")) (Step n) _ refl
    (opens_if (is_same_word word (codes "BREAK")) (Break n) _ refl
    (opens_if (is_same_word word (codes "UNBREAK")) (Unbreak n) _ refl
    (opens_if (is_same_word word (codes "HEAP")) (Heap n) Unknown refl refl))))

named_alone : (b : Bool) (r : Request) → opens_block r ≡ false → opens_block (request_if_named b r) ≡ false
named_alone true r alone = alone
named_alone false r alone = refl

if_number_alone : (o : Option ℕ) (word : List ℕ) → opens_block (request_if_number o (request_of_number word)) ≡ false
if_number_alone (Some n) word = number_alone word n
if_number_alone None word = refl

both_alone : (o p : Option ℕ) (r : ℕ → ℕ → Request) → ((n m : ℕ) → opens_block (r n m) ≡ false)
    → opens_block (both_numbered o p r) ≡ false
both_alone (Some n) (Some m) r alone = alone n m
both_alone (Some n) None r alone = refl
both_alone None p r alone = refl

two_alone : (word other : List ℕ) → is_same_word word (codes "HEX") ≡ false → opens_block (request_of_two word other) ≡ false
two_alone word other none =
    opens_else (is_same_word word (codes "HEX")) _ _ none
    (opens_if (is_same_word word (codes "BOOT")) _ _ (named_alone (can_name_image other) (Boot other) refl)
    (if_number_alone (script_number other) word))

three_alone : (word first second : List ℕ) → is_same_word word (codes "ASM") ≡ false
    → opens_block (request_of_three word first second) ≡ false
three_alone word first second none =
    opens_else (is_same_word word (codes "ASM")) _ _ none
    (opens_if (is_same_word word (codes "SET")) _ _
    (both_alone (cpu_register_named first) (script_number second) Set (λ n m. refl))
    (opens_if (is_same_word word (codes "POKE")) _ _
    (both_alone (word_address first) (script_number second) Poke (λ n m. refl))
    (opens_if (is_same_word word (codes "MEM")) _ _
    (both_alone (script_number first) (count_up_to 4096 second) Mem (λ n m. refl))
    (opens_if (is_same_word word (codes "CODE")) _ Unknown
    (both_alone (word_address first) (count_up_to 1024 second) Code (λ n m. refl)) refl))))

words_alone : (word : List ℕ) (others : List (List ℕ)) → is_same_word word (codes "HEX") ≡ false
    → is_same_word word (codes "ASM") ≡ false → opens_block (request_of_words (word ∷ others)) ≡ false
words_alone word [] hex asm = word_alone word
words_alone word (other ∷ []) hex asm = two_alone word other hex
words_alone word (first ∷ second ∷ []) hex asm = three_alone word first second asm
words_alone word (first ∷ second ∷ third ∷ more) hex asm = refl

-- A line's first word is empty, or begins with the line's first byte.
parts_alone : (is_space : Bool) (b : ℕ) (parts : List (List ℕ)) → is_opener_letter b ≡ false
    → opens_block (request_of_words (if is_space then [] ∷ parts else onto_first b parts)) ≡ false
parts_alone true b parts other = words_alone [] parts refl refl
parts_alone false b [] other = words_alone (b ∷ []) [] (no_hex b [] other) (no_asm b [] other)
parts_alone false b (part ∷ parts) other = words_alone (b ∷ part) parts (no_hex b part other) (no_asm b part other)

line_alone : (line : List ℕ) → begins_opener line ≡ false → opens_block (request_of line) ≡ false
line_alone [] other = refl
line_alone (b ∷ rest) other =
    opens_if (is_load (b ∷ rest)) (Load (drop 5 (b ∷ rest))) (request_of_words (words (b ∷ rest))) refl
    (parts_alone (b == 32) b (words rest) other)

-- LINES OF ITS OWN

asks_alone : (d : DebugRequest) → asks_block d ≡ false → debug_opens_block d ≡ false
unfolding asks_block
asks_alone (Script request) asks = asks
asks_alone _ asks = refl

either_alone : (t : Bool) (x y : DebugRequest) → debug_opens_block x ≡ false → debug_opens_block y ≡ false
    → debug_opens_block (if t then x else y) ≡ false
either_alone true x y first other = first
either_alone false x y first other = other

untraced_alone : (line : List ℕ) → begins_opener line ≡ false → debug_opens_block (untraced_request line) ≡ false
unfolding untraced_request
untraced_alone line other =
    let expected : Option (List ℕ) = text_behind (codes "EXPECT ") line in
    let stub : Option (List ℕ) = text_behind (codes "STUB ") line in
    either_alone (is_remark line) Remark _ refl
    (either_alone (is_script_request (request_of line)) (Script (request_of line)) _ (line_alone line other)
    (asks_alone (own_request_behind expected stub (bytes_request line) line) (own_behind expected stub line)))

-- what stands behind TRACE opens none, whatever it is
script_if_alone : (opens : Bool) (request : Request) → opens_block request ≡ opens
    → debug_opens_block (if not opens then Script request else NotKnown) ≡ false
script_if_alone true request is = refl
script_if_alone false request is = is

traced_script_alone : (o : Option SteppingRequest) (request : Request)
    → debug_opens_block (traced_script o (Script request)) ≡ false
traced_script_alone (Some steps) request = refl
traced_script_alone None request = script_if_alone (opens_block request) request refl

traced_alone : (d : DebugRequest) → debug_opens_block (traced_request d) ≡ false
traced_alone (Script request) = traced_script_alone (stepping_in request) request
traced_alone _ = refl

trace_alone : (o : Option DebugRequest) (d : DebugRequest) → some_asks_block o ≡ false
    → debug_opens_block (trace_of_own o d) ≡ false
unfolding some_asks_block
trace_alone (Some own) d asks = asks_alone own asks
trace_alone None d asks = traced_alone d

simple_alone : (o : Option (List ℕ)) (line : List ℕ) → begins_opener line ≡ false
    → debug_opens_block (simple_request_behind o line) ≡ false
simple_alone (Some text) line other =
    trace_alone (trace_of_words (words text)) (untraced_request text) (own_trace (words text))
simple_alone None line other = untraced_alone line other

own_alone : (o : Option (ℕ × List ℕ)) (line : List ℕ) → begins_opener line ≡ false
    → debug_opens_block (own_request_by o line) ≡ false
unfolding simple_request
own_alone (Some repeated) line other = refl
own_alone None line other = simple_alone (text_behind (codes "TRACE ") line) line other

-- LINES AS THEY STAND

same_other : (b n : ℕ) → (b == n) ≡ true → is_opener_letter n ≡ false → is_opener_letter b ≡ false
same_other b n same other =
    let P : ℕ → Type 0 = λ k. is_opener_letter k ≡ false in
    subst P (sym (eqb-true b n same)) other

blank_if : (b : ℕ) (is_space : Bool) → (b == 32) ≡ is_space → (is_space || b == 9) ≡ true → is_opener_letter b ≡ false
blank_if b true same blank = same_other b 32 same refl
blank_if b false same blank = same_other b 9 blank refl

blank_other : (b : ℕ) → is_blank b ≡ true → is_opener_letter b ≡ false
blank_other b is = blank_if b (b == 32) refl is

-- The first byte of a line is a blank, or the first byte that is none.
first_step : (blank : Bool) (b : ℕ) (behind : Bool) → is_blank b ≡ blank
    → (if blank then behind else is_opener_letter b) ≡ false → is_opener_letter b ≡ false
first_step true b behind is none = blank_other b is
first_step false b behind is none = none

first_alone : (line : List ℕ) → may_open_block line ≡ false → begins_opener line ≡ false
first_alone [] none = refl
first_alone (b ∷ rest) none = first_step (is_blank b) b (may_open_block rest) refl none

-- A tidy line begins with the first byte that is no blank, if with any.
tidied_step : (comment blank : Bool) (b : ℕ) (rest : List ℕ)
    → (may_open_block rest ≡ false → begins_opener (tidied_from AtStart rest) ≡ false)
    → (if blank then may_open_block rest else is_opener_letter b) ≡ false
    → begins_opener (if comment then [] else (if blank then [] else b ∷ [])
    ++ tidied_from (if blank then AtStart else state_in_word b) rest) ≡ false
tidied_step true blank b rest on none = refl
tidied_step false true b rest on none = on none
tidied_step false false b rest on none = none

tidied_alone : (line : List ℕ) → may_open_block line ≡ false → begins_opener (tidied_from AtStart line) ≡ false
tidied_alone [] none = refl
tidied_alone (b ∷ rest) none = tidied_step (is_comment_start AtStart b) (is_blank b) b rest (tidied_alone rest) none

pub opens_none : (line : List ℕ) → may_open_block line ≡ false → debug_opens_block (debug_request line) ≡ false
unfolding tidied_line
opens_none line none =
    either_alone (is_script_request (request_of line)) (Script (request_of line)) _ (line_alone line (first_alone line none))
    (own_alone (repeated_line (tidied_line line)) (tidied_line line) (tidied_alone line none))
