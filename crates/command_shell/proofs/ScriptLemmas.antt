-- How a script goes on after a line, where the lines of a block go with the line that opens it.
use Rattle.std.proofs.Common.{◌≡◌, ℕ, ◌+◌, ◌≤◌, ◌<◌, length, Bool, true, false, List, [], ◌∷◌, ◌++◌, Option, Some, None, sym, ap, subst, ◌∙◌, append_assoc, add-zero, arith, refl}
use Rattle.std.proofs.lemmas.List.{append-nil}
use Rattle.std.specs.Prelude.{if◌then◌else◌, IfSome}
use Rattle.std.specs.Str.Lines.{lines}
use Rattle.profile.specs.Sizes.{Sizes}
use Rattle.profile.specs.text_lines.Lines.{ReadingPlace}
use Rattle.command_shell_lines.specs.Blocks.{block_lines, after_block, lines_in_block, lines_after, lines_taken}
use Rattle.command_shell_lines.specs.Requests.{Request, Nothing, Hex, Asm, Boot, Run, Regs, Set, Poke, Call, Load, Step, Break, Unbreak, Mem, Code, Heap, Areas, Modules, Flex, Unknown, opens_block, request_of, is_end_of_block}
use Rattle.profile.specs.images.Entries.{Entry}
use Rattle.debugger.specs.MachineState.{machine_start}
use Rattle.debugger.specs.Value.{MachineValue}
use Rattle.command_shell.specs.declared.session.Session.{Session}
use Rattle.command_shell.specs.Session.{script_state, state_on}
use Rattle.command_shell.specs.Script.{OpenBlock, request_answer, on_opened, on_request, in_block, lines_answer, script_answer}
use Rattle.command_shell.specs.State.{ScriptState, Answered, answer, then_answered, script_start_state}
use Rattle.profile.proofs.OutputLemmas.{AddsAllBut-start, Appends-from_all_but}
use Rattle.command_shell.proofs.FrontLemmas.{AddsFront-from_all_but, AddsFront-start, IsFront-same}
use Rattle.debugger.specs.GuestState.{state_of}

-- an answer, and then the lines that are left
after_answer : Answered → ℕ → List (List ℕ) → Answered
after_answer first number left = then_answered first (λ after. lines_answer number after None left)

-- the end of a script
pub answer_end : (number : ℕ) (w : ScriptState) → lines_answer number w None [] ≡ answer w []
unfolding lines_answer
answer_end number w = refl

block_same : (w : ScriptState) (number : ℕ) (r : Request) (block block' : List (List ℕ)) (next next' : ℕ)
    (left left' : List (List ℕ))
    → block ≡ block' → next ≡ next' → left ≡ left'
    → after_answer (request_answer w number r block) next left ≡ after_answer (request_answer w number r block') next' left'
block_same w number r block block' next next' left left' e n l = cc

answer_by_end : (number : ℕ) (w : ScriptState) (o : OpenBlock) (line : List ℕ) (rest : List (List ℕ)) (b : Bool)
    → lines_answer (number + 1) w (Some (record o { block = o.block ++ line ∷ [] })) rest
    ≡ after_answer (request_answer w o.number o.request ((o.block ++ line ∷ []) ++ block_lines rest))
    (number + 1 + lines_in_block rest) (after_block rest)
    → in_block w o line b (λ after still. lines_answer (number + 1) after still rest)
    ≡ after_answer (request_answer w o.number o.request (o.block ++ (if b then [] else line ∷ block_lines rest)))
    (number + (if b then 1 else 1 + lines_in_block rest)) (if b then rest else after_block rest)
unfolding after_answer
answer_by_end number w o line rest true later =
    block_same w o.number o.request o.block (o.block ++ []) (number + 1) (number + 1) rest rest
    (sym (append-nil o.block)) refl refl
answer_by_end number w o line rest false later =
    later
    ∙ block_same w o.number o.request ((o.block ++ line ∷ []) ++ block_lines rest)
    (o.block ++ line ∷ block_lines rest) (number + 1 + lines_in_block rest) (number + (1 + lines_in_block rest))
    (after_block rest) (after_block rest) (append_assoc o.block (line ∷ []) (block_lines rest)) (omega arith) refl

nothing_after : (t : Answered) → t ≡ record { state = t.state; text = t.text ++ [] }
nothing_after t =
    ap (λ (xs : List ℕ). let reported : Answered = record { state = t.state; text = xs } in reported) (sym (append-nil t.text))

-- an open block takes its lines up to the one that ends it
answer_open : (number : ℕ) (w : ScriptState) (o : OpenBlock) (left : List (List ℕ))
    → lines_answer number w (Some o) left
    ≡ after_answer (request_answer w o.number o.request (o.block ++ block_lines left)) (number + lines_in_block left)
    (after_block left)
unfolding lines_answer block_lines after_block lines_in_block after_answer
answer_open number w o [] =
    ap (request_answer w o.number o.request) (sym (append-nil o.block))
    ∙ nothing_after (request_answer w o.number o.request (o.block ++ []))
answer_open number w o (line ∷ rest) =
    answer_by_end number w o line rest (is_end_of_block line)
    (answer_open (number + 1) w (record o { block = o.block ++ line ∷ [] }) rest)

no_lines_more : (first : Answered) (number : ℕ) (left : List (List ℕ))
    → after_answer first number left ≡ after_answer first (number + 0) left
no_lines_more first number left = ap (λ (n : ℕ). after_answer first n left) (sym (add-zero number))

-- what is answered at once doesn't depend on the lines that follow
pub at_once : (number : ℕ) (w : ScriptState) (r : Request) (block : List (List ℕ)) → opens_block r ≡ false
    → request_answer w number r [] ≡ request_answer w number r block
at_once number w (Hex name) block e = absurd (cc)
at_once number w (Asm name origin) block e = absurd (cc)
at_once number w Nothing block e = refl
at_once number w (Boot name) block e = refl
at_once number w Run block e = refl
at_once number w Regs block e = refl
at_once number w (Set register value) block e = refl
at_once number w (Poke address value) block e = refl
at_once number w (Call called) block e = refl
at_once number w (Load text) block e = refl
at_once number w (Step count) block e = refl
at_once number w (Break address) block e = refl
at_once number w (Unbreak address) block e = refl
at_once number w (Mem address count) block e = refl
at_once number w (Code address count) block e = refl
at_once number w (Heap address) block e = refl
at_once number w Areas block e = refl
at_once number w Modules block e = refl
at_once number w Flex block e = refl
at_once number w Unknown block e = refl

answer_by_opened : (number : ℕ) (w : ScriptState) (rest : List (List ℕ)) (r : Request) (b : Bool) → opens_block r ≡ b
    → on_opened w (number + 1) r b (λ after still. lines_answer (number + 1) after still rest)
    ≡ after_answer (request_answer w (number + 1) r (block_lines rest)) (number + 1 + lines_taken b rest)
    (lines_after b rest)
unfolding after_answer
answer_by_opened number w rest r false e =
    no_lines_more (request_answer w (number + 1) r []) (number + 1) rest
    ∙ ap (λ (t : Answered). after_answer t (number + 1 + 0) rest) (at_once (number + 1) w r (block_lines rest) e)
answer_by_opened number w rest r true e =
    answer_open (number + 1) w (record { request = r; number = number + 1; block = [] }) rest

answer_by_request : (number : ℕ) (w : ScriptState) (rest : List (List ℕ)) (r : Request)
    → on_request w (number + 1) r (λ after still. lines_answer (number + 1) after still rest)
    ≡ after_answer (request_answer w (number + 1) r (block_lines rest)) (number + 1 + lines_taken (opens_block r) rest)
    (lines_after (opens_block r) rest)
answer_by_request number w rest r = answer_by_opened number w rest r (opens_block r) refl

-- a line and the rest of the script
answer_step : (number : ℕ) (w : ScriptState) (line : List ℕ) (rest : List (List ℕ))
    → lines_answer number w None (line ∷ rest)
    ≡ after_answer (request_answer w (number + 1) (request_of line) (block_lines rest))
    (number + 1 + lines_taken (opens_block (request_of line)) rest) (lines_after (opens_block (request_of line)) rest)
unfolding lines_answer
answer_step number w line rest = answer_by_request number w rest (request_of line)

step_at : (number here next : ℕ) (w after : ScriptState) (line : List ℕ) (rest left : List (List ℕ)) (r : Request)
    → here ≡ number + 1 → r ≡ request_of line → after ≡ (request_answer w here r (block_lines rest)).state
    → next ≡ here + lines_taken (opens_block r) rest
    → left ≡ lines_after (opens_block r) rest
    → lines_answer number w None (line ∷ rest)
    ≡ then_answered (request_answer w here r (block_lines rest)) (λ _. lines_answer next after None left)
unfolding after_answer
step_at number here next w after line rest left r at is state counted stays =
    rw (state, counted, stays, is, at) (answer_step number w line rest)

pub text_step : (number here next : ℕ) (w after : ScriptState) (line : List ℕ) (rest left : List (List ℕ)) (r : Request)
    → here ≡ number + 1 → r ≡ request_of line → after ≡ (request_answer w here r (block_lines rest)).state
    → next ≡ here + lines_taken (opens_block r) rest
    → left ≡ lines_after (opens_block r) rest
    → (lines_answer number w None (line ∷ rest)).text
    ≡ (request_answer w here r (block_lines rest)).text ++ (lines_answer next after None left).text
text_step number here next w after line rest left r at is state counted stays =
    ap (λ (t : Answered). t.text) (step_at number here next w after line rest left r at is state counted stays)

pub state_step : (number here next : ℕ) (w after : ScriptState) (line : List ℕ) (rest left : List (List ℕ))
    (r : Request)
    → here ≡ number + 1 → r ≡ request_of line → after ≡ (request_answer w here r (block_lines rest)).state
    → next ≡ here + lines_taken (opens_block r) rest
    → left ≡ lines_after (opens_block r) rest
    → (lines_answer number w None (line ∷ rest)).state ≡ (lines_answer next after None left).state
state_step number here next w after line rest left r at is state counted stays =
    ap (λ (t : Answered). t.state) (step_at number here next w after line rest left r at is state counted stays)

pub text_end : (number : ℕ) (w : ScriptState) → (lines_answer number w None []).text ≡ []
text_end number w = ap (λ (t : Answered). t.text) (answer_end number w)

pub state_end : (number : ℕ) (w : ScriptState) → (lines_answer number w None []).state ≡ w
state_end number w = ap (λ (t : Answered). t.state) (answer_end number w)

after_block-shorter : (rest : List (List ℕ)) → length (after_block rest) ≤ length rest
unfolding after_block
after_block-shorter [] = omega arith
after_block-shorter (line ∷ rest) =
    elim (is_end_of_block line) as (λ b. length (if b then rest else after_block rest) ≤ length (line ∷ rest))
    [ true ↦ omega arith | false ↦ omega (arith, after_block-shorter rest) ]

pub lines_after-shorter : (b : Bool) (rest : List (List ℕ)) → length (lines_after b rest) ≤ length rest
lines_after-shorter false rest = omega arith
lines_after-shorter true rest = after_block-shorter rest

-- a request leaves fewer lines
pub fewer_left : (line : List ℕ) (all rest left : List (List ℕ)) (r : Request) → all ≡ line ∷ rest
    → left ≡ lines_after (opens_block r) rest → length left < length all
fewer_left line all rest left r first stays =
    rw (first, stays) (omega (arith, lines_after-shorter (opens_block r) rest))

-- a request and its block take the lines that are not left
block_and_after : (rest : List (List ℕ)) → lines_in_block rest + length (after_block rest) ≡ length rest
unfolding lines_in_block after_block
block_and_after [] = refl
block_and_after (line ∷ rest) =
    elim (is_end_of_block line) as (λ b. (if b then 1 else 1 + lines_in_block rest)
    + length (if b then rest else after_block rest) ≡ length (line ∷ rest))
    [ true ↦ omega arith | false ↦ omega (arith, block_and_after rest) ]

taken_and_after : (b : Bool) (rest : List (List ℕ)) → lines_taken b rest + length (lines_after b rest) ≡ length rest
taken_and_after false rest = omega arith
taken_and_after true rest = block_and_after rest

-- lines that are left come to be lines that were answered
pub number_step : (number here next total : ℕ) (line : List ℕ) (all rest left : List (List ℕ)) (r : Request)
    → number + length all ≡ total → all ≡ line ∷ rest → here ≡ number + 1
    → next ≡ here + lines_taken (opens_block r) rest → left ≡ lines_after (opens_block r) rest
    → next + length left ≡ total
number_step number here next total line all rest left r before first at counted stays =
    omega (arith, before, ap length first, at, counted, ap length stays, taken_and_after (opens_block r) rest)

-- the images of a session's state
pub state_images : (session : Session) (images : List Entry) → (script_state session images).images ≡ images
state_images session images = refl

-- the state on a machine that was just made
pub state_on_start : (machine : MachineValue) (sizes : Sizes) (images : List Entry) (budget : ℕ) → state_of machine.guest ≡ machine_start sizes
    → machine.sizes ≡ sizes → machine.is_fresh ≡ true → state_on machine images budget ≡ script_start_state sizes images budget
unfolding script_start_state
state_on_start machine sizes images budget start same fresh = λ i. record {
  machine = start i;
  is_fresh = fresh i;
  sizes = same i;
  images = images;
  breaks = [];
  left = budget;
  last = None;
}

-- What is so of what the lines of a script that was read are shown, on a machine that was just made,
-- is so of what the script is shown.
pub answer_of : (P : Answered → Type 0) (o : Option (List ℕ)) (sizes : Sizes) (images : List Entry) (budget : ℕ)
    (read text : List ℕ) (start : ScriptState) (place : ReadingPlace)
    → IfSome o (λ script. read ≡ script) → text ≡ read → start ≡ script_start_state sizes images budget
    → place ≡ record { left = lines text; number = 0 }
    → P (lines_answer place.number start None place.left)
    → IfSome o (λ script. P (script_answer sizes images budget script))
unfolding script_answer
answer_of P None sizes images budget read text start place is same fresh at so = tt
answer_of P (Some script) sizes images budget read text start place is same fresh at so =
    let from_first = subst (λ (p : ReadingPlace). P (lines_answer p.number start None p.left)) at so in
    let from_start = subst (λ (w : ScriptState). P (lines_answer 0 w None (lines text))) fresh from_first in
    subst (λ (xs : List ℕ). P (lines_answer 0 (script_start_state sizes images budget) None (lines xs))) (same ∙ is) from_start

-- and a part of the state that they leave
pub part_answer : {A : Type 0} (part : ScriptState → A) (reported : A) (now : ScriptState) (o : Option (List ℕ)) (sizes : Sizes)
    (images : List Entry) (budget : ℕ) (read text : List ℕ) (start : ScriptState) (place : ReadingPlace)
    → IfSome o (λ script. read ≡ script) → text ≡ read → start ≡ script_start_state sizes images budget
    → place ≡ record { left = lines text; number = 0 }
    → now ≡ (lines_answer place.number start None place.left).state → reported ≡ part now
    → IfSome o (λ script. reported ≡ part (script_answer sizes images budget script).state)
part_answer part reported now o sizes images budget read text start place is same fresh at after ends =
    answer_of (λ (t : Answered). reported ≡ part t.state) o sizes images budget read text start place is same fresh at
    (ends ∙ ap part after)

pub ruleset line_steps = (
  AddsAllBut-start,
  Appends-from_all_but,
  AddsFront-from_all_but,
  IsFront-same,
  text_end,
  state_end,
)

pub ruleset whole_steps = (AddsFront-start, state_images)
