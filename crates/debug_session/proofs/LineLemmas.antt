-- The lines of a debugging script, one after another.
use Rattle.std.proofs.Common.{◌≡◌, ◌≤◌, ◌<◌, ℕ, zero, suc, ◌+◌, Bool, true, false, List, [], ◌∷◌, ◌++◌, length, Option, Result, ap, sym, refl, subst, ◌∙◌, arith}
use Rattle.debug_tables.proofs.ScriptLemmas.{lines_after-shorter, number_step}
use Rattle.std.specs.Prelude.{OnOk, if◌then◌else◌}
use Rattle.command_shell_lines.specs.Blocks.{block_lines, lines_after, lines_taken}
use Rattle.command_shell_lines.specs.Requests.{Request, Hex, Nothing, opens_block, request_of}
use Rattle.debug_lines.specs.DebugRequests.{Script, debug_opens_block, is_script_request, own_request}
use Rattle.debug_lines.specs.Tidy.{tidied_line}
use Rattle.debug_session.specs.DebugScript.{debug_line_answer, debug_lines_answer, line_opens, script_line_answer, some_lines_answer, tidy_line_answer, unless_quit}
use Rattle.debug_session.specs.DebugState.{DebugAnswered, DebugState, IsDebugged, debug_answer}
use Rattle.debug_session.specs.declared.session.DebugSettings.{DebugSettings}

abbrev pub joined : DebugAnswered → DebugAnswered → DebugAnswered
joined first next = record { state = next.state; text = first.text ++ next.text }

-- so many lines at most, as long as these are enough
any_most : (n m : ℕ) (c : DebugSettings) (number : ℕ) (d : DebugState) (left : List (List ℕ)) → length left ≤ n → length left ≤ m
    → some_lines_answer n c number d left ≡ some_lines_answer m c number d left
unfolding some_lines_answer
any_most zero zero c number d left enough other = refl
any_most zero (suc m) c number d [] enough other = refl
any_most (suc n) zero c number d [] enough other = refl
any_most zero (suc m) c number d (line ∷ rest) enough other = absurd (omega (arith, enough))
any_most (suc n) zero c number d (line ∷ rest) enough other = absurd (omega (arith, other))
any_most (suc n) (suc m) c number d [] enough other = refl
any_most (suc n) (suc m) c number d (line ∷ rest) enough other =
    let first : DebugAnswered = debug_line_answer c d (number + 1) line (block_lines rest) in
    let next : ℕ = number + 1 + lines_taken (line_opens line) rest in
    let after : List (List ℕ) = lines_after (line_opens line) rest in
    let shorter = lines_after-shorter (line_opens line) rest in
    ap (λ (x : DebugAnswered). unless_quit d (joined first x))
    (any_most n m c next first.state after (omega (arith, enough, shorter)) (omega (arith, other, shorter)))

pub not_quit : (d : DebugState) (reported : DebugAnswered) → d.has_quit ≡ false → unless_quit d reported ≡ reported
not_quit d reported quit = rw (quit) refl

-- a line, its block, and the lines after it
lines_step : (c : DebugSettings) (number : ℕ) (d : DebugState) (line : List ℕ) (rest : List (List ℕ)) → d.has_quit ≡ false
    → debug_lines_answer c number d (line ∷ rest)
    ≡ joined (debug_line_answer c d (number + 1) line (block_lines rest))
    (debug_lines_answer c (number + 1 + lines_taken (line_opens line) rest)
    (debug_line_answer c d (number + 1) line (block_lines rest)).state (lines_after (line_opens line) rest))
unfolding some_lines_answer
lines_step c number d line rest quit =
    let first : DebugAnswered = debug_line_answer c d (number + 1) line (block_lines rest) in
    let next : ℕ = number + 1 + lines_taken (line_opens line) rest in
    let after : List (List ℕ) = lines_after (line_opens line) rest in
    not_quit d (joined first (some_lines_answer (length rest) c next first.state after)) quit
    ∙ ap (joined first) (any_most (length rest) (length after) c next first.state after
    (lines_after-shorter (line_opens line) rest) (omega arith))

-- one line more, by what its call leaves
pub step_answer : (c e : DebugSettings) (number here next : ℕ) (d after : DebugState) (line : List ℕ) (all rest left : List (List ℕ))
    → d.has_quit ≡ false → c ≡ e → all ≡ line ∷ rest → here ≡ number + 1
    → after ≡ (debug_line_answer e d here line (block_lines rest)).state
    → next ≡ here + lines_taken (line_opens line) rest → left ≡ lines_after (line_opens line) rest
    → debug_lines_answer c number d all
    ≡ joined (debug_line_answer e d here line (block_lines rest)) (debug_lines_answer c next after left)
step_answer c e number here next d after line all rest left quit setting first at state counted stays =
    rw (state, counted, stays, at, first, sym setting) (lines_step c number d line rest quit)

pub step_text : (c e : DebugSettings) (number here next : ℕ) (d after : DebugState) (line : List ℕ) (all rest left : List (List ℕ))
    → d.has_quit ≡ false → c ≡ e → all ≡ line ∷ rest → here ≡ number + 1
    → after ≡ (debug_line_answer e d here line (block_lines rest)).state
    → next ≡ here + lines_taken (line_opens line) rest → left ≡ lines_after (line_opens line) rest
    → (debug_lines_answer c number d all).text
    ≡ (debug_line_answer e d here line (block_lines rest)).text ++ (debug_lines_answer c next after left).text
step_text c e number here next d after line all rest left quit setting first at state counted stays =
    ap (λ (a : DebugAnswered). a.text) (step_answer c e number here next d after line all rest left quit setting first at state counted stays)

pub step_state : (c e : DebugSettings) (number here next : ℕ) (d after : DebugState) (line : List ℕ) (all rest left : List (List ℕ))
    → d.has_quit ≡ false → c ≡ e → all ≡ line ∷ rest → here ≡ number + 1
    → after ≡ (debug_line_answer e d here line (block_lines rest)).state
    → next ≡ here + lines_taken (line_opens line) rest → left ≡ lines_after (line_opens line) rest
    → (debug_lines_answer c number d all).state ≡ (debug_lines_answer c next after left).state
step_state c e number here next d after line all rest left quit setting first at state counted stays =
    ap (λ (a : DebugAnswered). a.state) (step_answer c e number here next d after line all rest left quit setting first at state counted stays)

-- no line is left
pub none_left : (c : DebugSettings) (number : ℕ) (d : DebugState) (left : List (List ℕ)) → left ≡ []
    → debug_lines_answer c number d left ≡ debug_answer d []
unfolding some_lines_answer
none_left c number d left none = ap (λ (ls : List (List ℕ)). debug_lines_answer c number d ls) none

-- nothing is shown after QUIT
pub none_answer : (n : ℕ) (c : DebugSettings) (number : ℕ) (d : DebugState) (left : List (List ℕ)) → d.has_quit ≡ true
    → some_lines_answer n c number d left ≡ debug_answer d []
unfolding some_lines_answer
none_answer zero c number d left quit = refl
none_answer (suc n) c number d [] quit = refl
none_answer (suc n) c number d (line ∷ rest) quit = rw (quit) refl

-- a request leaves fewer lines
pub fewer : (line : List ℕ) (all rest left : List (List ℕ)) → all ≡ line ∷ rest → left ≡ lines_after (line_opens line) rest
    → length left < length all
fewer line all rest left first stays = rw (first, stays) (omega (arith, lines_after-shorter (line_opens line) rest))

-- a line that is one of a script as it stands, by what was read of it
pub line_as_script : {A E : Type 0} (result : Result A E) (before after : Option (List ℕ)) (now d : DebugState) (c : DebugSettings)
    (number : ℕ) (line : List ℕ) (block : List (List ℕ)) (r : Request) → r ≡ request_of line → is_script_request r ≡ true
    → OnOk result (IsDebugged before after now (script_line_answer c d number r block))
    → OnOk result (IsDebugged before after now (debug_line_answer c d number line block))
line_as_script result before after now d c number line block r is script reported =
    let P : DebugAnswered → Type 0 = λ x. OnOk result (IsDebugged before after now x) in
    let by : Request → DebugAnswered = λ q. if is_script_request q then script_line_answer c d number q block
    else tidy_line_answer c d number (tidied_line line) block in
    subst P (sym (ap (λ (b : Bool). if b then script_line_answer c d number r block
    else tidy_line_answer c d number (tidied_line line) block) script) ∙ ap by is) reported

-- and whether it opens a block
pub opens_as_script : (line : List ℕ) (r : Request) → r ≡ request_of line → is_script_request r ≡ true
    → opens_block r ≡ line_opens line
opens_as_script line r is script =
    let by : Request → Bool = λ q. debug_opens_block (if is_script_request q then Script q else own_request (tidied_line line)) in
    sym (ap (λ (b : Bool). debug_opens_block (if b then Script r else own_request (tidied_line line))) script) ∙ ap by is

-- so many lines were read, and so many are left
pub lines_counted : (number here next total : ℕ) (line : List ℕ) (all rest left : List (List ℕ)) (opens : Bool)
    → number + length all ≡ total → all ≡ line ∷ rest → here ≡ number + 1
    → next ≡ here + lines_taken opens rest → left ≡ lines_after opens rest → next + length left ≡ total
lines_counted number here next total line all rest left true before first at counted stays =
    number_step number here next total line all rest left (Hex []) before first at counted stays
lines_counted number here next total line all rest left false before first at counted stays =
    number_step number here next total line all rest left Nothing before first at counted stays
