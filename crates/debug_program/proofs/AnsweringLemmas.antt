-- What a line is answered with its block, and what is left behind them.
use Rattle.std.proofs.Common.{◌≡◌, ℕ, ◌+◌, zero, suc, Bool, true, false, List, [], ◌∷◌, drop, Option, Some, ap, refl, subst, sym, ◌∙◌, arith}
use Rattle.command_shell_lines.specs.Blocks.{after_block, block_lines, lines_after, lines_in_block, lines_taken}
use Rattle.command_shell_lines.specs.Requests.{is_end_of_block}
use Rattle.debug_session.specs.DebugScript.{debug_line_answer}
use Rattle.debug_session.specs.DebugState.{DebugAnswered, DebugState, IsDebugged}
use Rattle.debug_session.specs.declared.session.DebugSettings.{DebugSettings}
use Rattle.debug_program.specs.Answering.{ScriptPlace, shown_with_block}

ended : (line : List ℕ) (rest : List (List ℕ)) → is_end_of_block line ≡ true
    → (after_block (line ∷ rest) ≡ rest) × (lines_in_block (line ∷ rest) ≡ 1)
unfolding after_block lines_in_block
ended line rest is = (rw is refl, rw is refl)

going_on : (line : List ℕ) (rest : List (List ℕ)) → is_end_of_block line ≡ false
    → (after_block (line ∷ rest) ≡ after_block rest) × (lines_in_block (line ∷ rest) ≡ 1 + lines_in_block rest)
unfolding after_block lines_in_block
going_on line rest is = (rw is refl, rw is refl)

left_by_end : (line : List ℕ) (rest : List (List ℕ)) (b : Bool) → is_end_of_block line ≡ b
    → after_block rest ≡ drop (lines_in_block rest) rest
    → after_block (line ∷ rest) ≡ drop (lines_in_block (line ∷ rest)) (line ∷ rest)
left_by_end line rest true is later =
    let here = ended line rest is in
    here.0 ∙ ap (λ (n : ℕ). drop n (line ∷ rest))
    (let e : suc zero ≡ lines_in_block (line ∷ rest) = omega (arith, here.1) in e)
left_by_end line rest false is later =
    let here = going_on line rest is in
    here.0 ∙ later ∙ ap (λ (n : ℕ). drop n (line ∷ rest))
    (let e : suc (lines_in_block rest) ≡ lines_in_block (line ∷ rest) = omega (arith, here.1) in e)

left_of_block : (behind : List (List ℕ)) → after_block behind ≡ drop (lines_in_block behind) behind
unfolding after_block lines_in_block
left_of_block [] = refl
left_of_block (line ∷ rest) = left_by_end line rest (is_end_of_block line) refl (left_of_block rest)

left_cut : (opens : Bool) (behind : List (List ℕ)) → lines_after opens behind ≡ drop (lines_taken opens behind) behind
left_cut true behind = left_of_block behind
left_cut false behind = refl

pub left_behind_line : (all behind : List (List ℕ)) (line : List ℕ) (opens : Bool) (passed : ℕ) → all ≡ line ∷ behind
    → passed ≡ 1 + lines_taken opens behind → drop passed all ≡ lines_after opens behind
left_behind_line all behind line opens passed first counted =
    ap (drop passed) first
    ∙ ap (λ (n : ℕ). drop n (line ∷ behind)) (let e : passed ≡ suc (lines_taken opens behind) = omega (arith, counted) in e)
    ∙ sym (left_cut opens behind)

-- a place, by its parts
pub place_is : (p q : ScriptPlace) → p.number ≡ q.number → p.state ≡ q.state → p.left ≡ q.left → p ≡ q
place_is p q number state left = λ i. record { number = number i; state = state i; left = left i }

pub with_block : (c : DebugSettings) (d : DebugState) (number : ℕ) (line : List ℕ) (behind : List (List ℕ))
    → shown_with_block c d number line behind ≡ debug_line_answer c d number line (block_lines behind)
unfolding shown_with_block
with_block c d number line behind = refl

-- an answer that was gathered in memory
pub debug_gathered : (held text bytes : List ℕ) (now : DebugState) (reported own : DebugAnswered) → held ≡ [] → bytes ≡ text → own ≡ reported
    → IsDebugged (Some held) (Some text) now reported → IsDebugged (Some []) (Some bytes) now own
debug_gathered held text bytes now reported own none same is answered =
    subst (λ (t : DebugAnswered). IsDebugged (Some []) (Some bytes) now t) (sym is)
    (subst (λ (xs : List ℕ). IsDebugged (Some []) (Some xs) now reported) (sym same)
    (subst (λ (xs : List ℕ). IsDebugged (Some xs) (Some text) now reported) none answered))
