-- How the errors of a block are found one after another, and how its lines are walked.
use Rattle.std.proofs.Common.{◌≡◌, ◌<◌, ◌≤◌, ℕ, zero, suc, ◌+◌, ◌-◌, Bool, true, false, List, [], ◌∷◌, ◌++◌, length, take, drop, slice_get, get_or, Option, Some, None, ◌⊎◌, inl, inr, refl, sym, ap, ◌∙◌, append_assoc, arith}
use Rattle.std.specs.Prelude.{if◌then◌else◌, is_none}
use Rattle.std.specs.List.{flat_map}
use Rattle.std.proofs.lemmas.List.{append-nil, drop_more}
use Rattle.debug_tables.specs.AsmError.{AsmError}
use Rattle.command_shell_lines.specs.Blocks.{block_lines}
use Rattle.command_shell_lines.specs.Requests.{Request, Nothing, Hex, Asm, Boot, Run, Regs, Set, Poke, Call, Load, Step, Break, Unbreak, Mem, Code, Heap, Areas, Modules, Flex, Unknown, is_end_of_block}
use Rattle.debug_listing.specs.BlockErrors.{BlockErrorsAreTheirLines, block_errors, further_errors, is_assembled, line_after_error, line_without, next_error, source_without, with_others}
use Rattle.debug_listing.specs.BlockErrorTexts.{block_errors_text, error_text_if, errors_text, listed_errors_text, text_with_errors}

-- THE LINES OF A BLOCK

block_ends : (left : List (List ℕ)) (line : List ℕ) (rest : List (List ℕ)) → left ≡ line ∷ rest → is_end_of_block line ≡ true
    → block_lines left ≡ []
unfolding block_lines
block_ends left line rest next is = rw (next, is) refl

block_goes_on : (left : List (List ℕ)) (line : List ℕ) (rest : List (List ℕ)) → left ≡ line ∷ rest → is_end_of_block line ≡ false
    → block_lines left ≡ line ∷ block_lines rest
unfolding block_lines
block_goes_on left line rest next is = rw (next, is) refl

block_stops : (left : List (List ℕ)) → left ≡ [] → block_lines left ≡ []
unfolding block_lines
block_stops left none = rw none refl

-- the source of lines, line by line, where all of it is known
pub source_ends : (front all : List ℕ) (errors : List AsmError) (number : ℕ) (left : List (List ℕ)) (line : List ℕ) (rest : List (List ℕ))
    → left ≡ line ∷ rest → is_end_of_block line ≡ true
    → front ++ source_without errors number (block_lines left) ≡ all → front ≡ all
unfolding source_without
source_ends front all errors number left line rest next is known = sym (append-nil front)
    ∙ ap (λ (ls : List (List ℕ)). front ++ source_without errors number ls) (sym (block_ends left line rest next is)) ∙ known

pub source_stops : (front all : List ℕ) (errors : List AsmError) (number : ℕ) (left : List (List ℕ)) → left ≡ []
    → front ++ source_without errors number (block_lines left) ≡ all → front ≡ all
unfolding source_without
source_stops front all errors number left none known = sym (append-nil front)
    ∙ ap (λ (ls : List (List ℕ)). front ++ source_without errors number ls) (sym (block_stops left none)) ∙ known

pub source_goes_on : (front mid after all kept : List ℕ) (errors : List AsmError) (number next : ℕ) (left : List (List ℕ)) (line : List ℕ)
    (rest : List (List ℕ)) → left ≡ line ∷ rest → is_end_of_block line ≡ false → next ≡ number + 1
    → kept ≡ line_without errors number line → mid ≡ front ++ kept → after ≡ mid ++ 13 ∷ 10 ∷ []
    → front ++ source_without errors number (block_lines left) ≡ all
    → after ++ source_without errors next (block_lines rest) ≡ all
unfolding source_without
source_goes_on front mid after all kept errors number next left line rest there is more cut first second known =
    let others : List ℕ = source_without errors (number + 1) (block_lines rest) in
    ap (λ (n : ℕ). after ++ source_without errors n (block_lines rest)) more
    ∙ ap (λ (xs : List ℕ). xs ++ others) (second ∙ ap (λ (xs : List ℕ). xs ++ 13 ∷ 10 ∷ []) first)
    ∙ append_assoc (front ++ kept) (13 ∷ 10 ∷ []) others
    ∙ append_assoc front kept (13 ∷ 10 ∷ others)
    ∙ ap (λ (xs : List ℕ). front ++ (xs ++ 13 ∷ 10 ∷ others)) cut
    ∙ ap (λ (ls : List (List ℕ)). front ++ source_without errors number ls) (sym (block_goes_on left line rest there is))
    ∙ known

-- and their errors as text
pub text_ends : (front all : List ℕ) (errors : List AsmError) (within number : ℕ) (left : List (List ℕ)) (line : List ℕ) (rest : List (List ℕ))
    → left ≡ line ∷ rest → is_end_of_block line ≡ true
    → front ++ errors_text errors within number (block_lines left) ≡ all → front ≡ all
unfolding errors_text
text_ends front all errors within number left line rest next is known = sym (append-nil front)
    ∙ ap (λ (ls : List (List ℕ)). front ++ errors_text errors within number ls) (sym (block_ends left line rest next is)) ∙ known

pub text_stops : (front all : List ℕ) (errors : List AsmError) (within number : ℕ) (left : List (List ℕ)) → left ≡ []
    → front ++ errors_text errors within number (block_lines left) ≡ all → front ≡ all
unfolding errors_text
text_stops front all errors within number left none known = sym (append-nil front)
    ∙ ap (λ (ls : List (List ℕ)). front ++ errors_text errors within number ls) (sym (block_stops left none)) ∙ known

pub text_goes_on : (front after all : List ℕ) (errors : List AsmError) (within number in_block next : ℕ) (left : List (List ℕ)) (line : List ℕ)
    (rest : List (List ℕ)) → left ≡ line ∷ rest → is_end_of_block line ≡ false → in_block ≡ within + 1 → next ≡ number + 1
    → after ≡ front ++ flat_map (error_text_if in_block next line) errors
    → front ++ errors_text errors within number (block_lines left) ≡ all
    → after ++ errors_text errors in_block next (block_lines rest) ≡ all
unfolding errors_text
text_goes_on front after all errors within number in_block next left line rest there is first second pushed known =
    let here : List ℕ = flat_map (error_text_if (within + 1) (number + 1) line) errors in
    let others : List ℕ = errors_text errors (within + 1) (number + 1) (block_lines rest) in
    ap (λ (xs : List ℕ). xs ++ errors_text errors in_block next (block_lines rest)) pushed
    ∙ ap (λ (n : ℕ). (front ++ flat_map (error_text_if n next line) errors) ++ errors_text errors n next (block_lines rest)) first
    ∙ ap (λ (n : ℕ). (front ++ flat_map (error_text_if (within + 1) n line) errors) ++ errors_text errors (within + 1) n (block_lines rest)) second
    ∙ append_assoc front here others
    ∙ ap (λ (ls : List (List ℕ)). front ++ errors_text errors within number ls) (sym (block_goes_on left line rest there is))
    ∙ known

-- the errors of one line
pub line_next : (errors : List AsmError) (n number : ℕ) (line : List ℕ) (e : AsmError) → n < length errors → e ≡ get_or errors n e
    → line_without (drop n errors) number line ≡ line_without (drop (n + 1) errors) number (line_after_error number line e)
line_next errors n number line e below is =
    ap (λ (es : List AsmError). line_without es number line) (drop_more errors n e below)
    ∙ ap (λ (x : AsmError). line_without (drop (n + 1) errors) number (line_after_error number line x)) (sym is)

pub shown_next : (front : List ℕ) (text : AsmError → List ℕ) (errors : List AsmError) (n : ℕ) (e : AsmError) → n < length errors
    → e ≡ get_or errors n e
    → front ++ flat_map text (drop n errors) ≡ (front ++ text e) ++ flat_map text (drop (n + 1) errors)
shown_next front text errors n e below is =
    ap (λ (es : List AsmError). front ++ flat_map text es) (drop_more errors n e below)
    ∙ ap (λ (x : AsmError). front ++ (text x ++ flat_map text (drop (n + 1) errors))) (sym is)
    ∙ sym (append_assoc front (text e) (flat_map text (drop (n + 1) errors)))

-- ERRORS, ONE AFTER ANOTHER

pub none_further : (count origin : ℕ) (lines : List (List ℕ)) (found : List AsmError) → 21 ≤ count
    → found ++ further_errors (21 - count) lines origin found ≡ found
unfolding further_errors
none_further count origin lines found enough =
    let zeros : 21 - count ≡ 0 = omega arith in rw zeros (append-nil found)

no_error : (n origin : ℕ) (lines : List (List ℕ)) (found : List AsmError) → next_error found lines origin ≡ None
    → further_errors n lines origin found ≡ []
unfolding further_errors
no_error zero origin lines found none = refl
no_error (suc n) origin lines found none = rw none refl

pub no_error_left : (n origin : ℕ) (lines : List (List ℕ)) (found : List AsmError) → next_error found lines origin ≡ None
    → found ++ further_errors n lines origin found ≡ found
no_error_left n origin lines found none =
    ap (λ (es : List AsmError). found ++ es) (no_error n origin lines found none) ∙ append-nil found

one_error : (n origin : ℕ) (lines : List (List ℕ)) (found : List AsmError) (e : AsmError) → next_error found lines origin ≡ Some e
    → further_errors (suc n) lines origin found ≡ e ∷ further_errors n lines origin (found ++ e ∷ [])
unfolding further_errors
one_error n origin lines found e some = rw some refl

pub error_found : (count origin : ℕ) (lines : List (List ℕ)) (found : List AsmError) (e : AsmError) → count < 21
    → next_error found lines origin ≡ Some e
    → found ++ further_errors (21 - count) lines origin found
    ≡ (found ++ e ∷ []) ++ further_errors (21 - (count + 1)) lines origin (found ++ e ∷ [])
error_found count origin lines found e few some =
    let left : 21 - count ≡ suc (21 - (count + 1)) = omega arith in
    let others : List AsmError = further_errors (21 - (count + 1)) lines origin (found ++ e ∷ []) in
    ap (λ (n : ℕ). found ++ further_errors n lines origin found) left
    ∙ ap (λ (es : List AsmError). found ++ es) (one_error (21 - (count + 1)) origin lines found e some)
    ∙ sym (append_assoc found (e ∷ []) others)

pub ruleset block_error_steps = (none_further, no_error_left, error_found)

-- THE LAW

-- each is the error where those before it leave their labels, by the same of fewer
each_by : (n origin : ℕ) (lines : List (List ℕ)) (found : List AsmError) (place : ℕ) (x : AsmError) (o : Option AsmError)
    → ((others : List AsmError) (k : ℕ) → slice_get (further_errors n lines origin others) k ≡ Some x
    → next_error (others ++ take k (further_errors n lines origin others)) lines origin ≡ Some x)
    → next_error found lines origin ≡ o → slice_get (with_others found (further_errors n lines origin) o) place ≡ Some x
    → next_error (found ++ take place (with_others found (further_errors n lines origin) o)) lines origin ≡ Some x
each_by n origin lines found place x None fewer is get = absurd (cc)
each_by n origin lines found zero x (Some e) fewer is get =
    ap (λ (es : List AsmError). next_error es lines origin) (append-nil found) ∙ is ∙ get
each_by n origin lines found (suc place) x (Some e) fewer is get =
    ap (λ (es : List AsmError). next_error es lines origin)
    (sym (append_assoc found (e ∷ []) (take place (further_errors n lines origin (found ++ e ∷ [])))))
    ∙ fewer (found ++ e ∷ []) place get

each_is : (n origin : ℕ) (lines : List (List ℕ)) (x : AsmError) (found : List AsmError) (place : ℕ)
    → slice_get (further_errors n lines origin found) place ≡ Some x
    → next_error (found ++ take place (further_errors n lines origin found)) lines origin ≡ Some x
unfolding further_errors
each_is zero origin lines x found place get = absurd (cc)
each_is (suc n) origin lines x found place get =
    each_by n origin lines found place x (next_error found lines origin) (each_is n origin lines x) refl get

all_by : (n origin : ℕ) (lines : List (List ℕ)) (found : List AsmError) (o : Option AsmError)
    → ((others : List AsmError) → (next_error (others ++ further_errors n lines origin others) lines origin ≡ None)
    ⊎ (length (further_errors n lines origin others) ≡ n))
    → next_error found lines origin ≡ o
    → (next_error (found ++ with_others found (further_errors n lines origin) o) lines origin ≡ None)
    ⊎ (length (with_others found (further_errors n lines origin) o) ≡ suc n)
all_by n origin lines found None fewer is =
    inl (ap (λ (es : List AsmError). next_error es lines origin) (append-nil found) ∙ is)
all_by n origin lines found (Some e) fewer is = elim (fewer (found ++ e ∷ [])) [
  | inl none ↦ inl (ap (λ (es : List AsmError). next_error es lines origin)
      (sym (append_assoc found (e ∷ []) (further_errors n lines origin (found ++ e ∷ [])))) ∙ none)
  | inr many ↦ inr (ap suc many)
]

all_is : (n origin : ℕ) (lines : List (List ℕ)) (found : List AsmError)
    → (next_error (found ++ further_errors n lines origin found) lines origin ≡ None)
    ⊎ (length (further_errors n lines origin found) ≡ n)
unfolding further_errors
all_is zero origin lines found = inr refl
all_is (suc n) origin lines found =
    all_by n origin lines found (next_error found lines origin) (all_is n origin lines) refl

pub block_errors_are_their_lines : BlockErrorsAreTheirLines
block_errors_are_their_lines lines origin = record {
  each = λ n e get. each_is 21 origin lines e [] n get;
  all = all_is 21 origin lines [];
}

-- A BLOCK WITHOUT ERRORS

nothing_listed : (within number : ℕ) (lines : List (List ℕ)) → errors_text [] within number lines ≡ []
unfolding errors_text
nothing_listed within number [] = refl
nothing_listed within number (line ∷ rest) = nothing_listed (within + 1) (number + 1) rest

is_none_of : (o : Option AsmError) → is_none o ≡ true → o ≡ None
is_none_of None is = refl
is_none_of (Some e) is = absurd (cc)

no_errors : (number origin : ℕ) (block : List (List ℕ)) → is_none (next_error [] block origin) ≡ true
    → listed_errors_text (block_errors block origin) number block ≡ []
no_errors number origin block is =
    ap (λ (es : List AsmError). listed_errors_text es number block)
    (no_error 21 origin block [] (is_none_of (next_error [] block origin) is))
    ∙ append-nil (errors_text [] 0 number block) ∙ nothing_listed 0 number block

-- behind the answer to a block that has a program nothing is listed
pub nothing_to_list : (number : ℕ) (r : Request) (block : List (List ℕ)) → is_assembled r block ≡ true
    → block_errors_text number r block ≡ []
nothing_to_list number (Asm name origin) block is = no_errors number origin block is
nothing_to_list number (Hex name) block is = refl
nothing_to_list number Nothing block is = refl
nothing_to_list number (Boot name) block is = refl
nothing_to_list number Run block is = refl
nothing_to_list number Regs block is = refl
nothing_to_list number (Set register value) block is = refl
nothing_to_list number (Poke address value) block is = refl
nothing_to_list number (Call called) block is = refl
nothing_to_list number (Load text) block is = refl
nothing_to_list number (Step count) block is = refl
nothing_to_list number (Break address) block is = refl
nothing_to_list number (Unbreak address) block is = refl
nothing_to_list number (Mem address count) block is = refl
nothing_to_list number (Code address count) block is = refl
nothing_to_list number (Heap address) block is = refl
nothing_to_list number Areas block is = refl
nothing_to_list number Modules block is = refl
nothing_to_list number Flex block is = refl
nothing_to_list number Unknown block is = refl

-- what is answered to a line, where its block has a program
pub nothing_behind : (refused : Bool) (number : ℕ) (r : Request) (block : List (List ℕ)) (text : List ℕ)
    → is_assembled r block ≡ true → text_with_errors refused number r block text ≡ text
nothing_behind false number r block text is = refl
nothing_behind true number r block text is =
    ap (λ (xs : List ℕ). text ++ xs) (nothing_to_list number r block is) ∙ append-nil text
