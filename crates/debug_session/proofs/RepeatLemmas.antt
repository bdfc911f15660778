-- A line that is answered many times, one time after another.
use Rattle.std.proofs.Common.{◌≡◌, ℕ, zero, suc, ◌+◌, true, false, List, [], ◌++◌, Option, ap, sym, refl, subst, ◌∙◌, arith}
use Rattle.debug_session.specs.DebugScript.{repeated_answer, simple_line_answer}
use Rattle.debug_session.specs.DebugState.{DebugAnswered, DebugState, IsDebugged, debug_answer}
use Rattle.debug_session.specs.declared.session.DebugSettings.{DebugSettings}
use Rattle.debug_session.proofs.LineLemmas.{joined, not_quit}

-- an answer by other names of the setting, the line's number and what follows it
pub answer_there : (before after : Option (List ℕ)) (now d : DebugState) (c e : DebugSettings) (number here : ℕ) (line : List ℕ)
    (block own : List (List ℕ)) → e ≡ c → here ≡ number → own ≡ block
    → IsDebugged before after now (simple_line_answer e d here line own)
    → IsDebugged before after now (simple_line_answer c d number line block)
answer_there before after now d c e number here line block own setting at follows reported =
    subst (λ (x : DebugSettings). IsDebugged before after now (simple_line_answer x d number line block)) setting
    (subst (λ (n : ℕ). IsDebugged before after now (simple_line_answer e d n line block)) at
    (subst (λ (ls : List (List ℕ)). IsDebugged before after now (simple_line_answer e d here line ls)) follows reported))

repeat_step : (n m : ℕ) (c : DebugSettings) (number : ℕ) (line : List ℕ) (block : List (List ℕ)) (d : DebugState)
    → n ≡ m + 1 → d.has_quit ≡ false
    → repeated_answer n c number line block d
    ≡ joined (simple_line_answer c d number line block)
    (repeated_answer m c number line block (simple_line_answer c d number line block).state)
unfolding repeated_answer
repeat_step n m c number line block d next quit =
    let more : n ≡ suc m = omega (arith, next) in
    let first : DebugAnswered = simple_line_answer c d number line block in
    ap (λ (k : ℕ). repeated_answer k c number line block d) more
    ∙ not_quit d (joined first (repeated_answer m c number line block first.state)) quit

pub repeat_text : (n m : ℕ) (c : DebugSettings) (number : ℕ) (line : List ℕ) (block : List (List ℕ)) (d after : DebugState)
    → n ≡ m + 1 → d.has_quit ≡ false
    → after ≡ (simple_line_answer c d number line block).state
    → (repeated_answer n c number line block d).text
    ≡ (simple_line_answer c d number line block).text ++ (repeated_answer m c number line block after).text
repeat_text n m c number line block d after next quit state =
    ap (λ (a : DebugAnswered). a.text) (repeat_step n m c number line block d next quit)
    ∙ ap (λ (x : DebugState). (simple_line_answer c d number line block).text
    ++ (repeated_answer m c number line block x).text) (sym state)

pub repeat_state : (n m : ℕ) (c : DebugSettings) (number : ℕ) (line : List ℕ) (block : List (List ℕ)) (d after : DebugState)
    → n ≡ m + 1 → d.has_quit ≡ false
    → after ≡ (simple_line_answer c d number line block).state
    → (repeated_answer n c number line block d).state ≡ (repeated_answer m c number line block after).state
repeat_state n m c number line block d after next quit state =
    ap (λ (a : DebugAnswered). a.state) (repeat_step n m c number line block d next quit)
    ∙ ap (λ (x : DebugState). (repeated_answer m c number line block x).state) (sym state)

-- nothing is shown after QUIT, nor of no times
pub repeat_quit : (n : ℕ) (c : DebugSettings) (number : ℕ) (line : List ℕ) (block : List (List ℕ)) (d : DebugState)
    → d.has_quit ≡ true → repeated_answer n c number line block d ≡ debug_answer d []
unfolding repeated_answer
repeat_quit zero c number line block d quit = refl
repeat_quit (suc n) c number line block d quit = rw (quit) refl

pub repeat_none : (n : ℕ) (c : DebugSettings) (number : ℕ) (line : List ℕ) (block : List (List ℕ)) (d : DebugState)
    → n ≡ 0 → repeated_answer n c number line block d ≡ debug_answer d []
unfolding repeated_answer
repeat_none n c number line block d none = ap (λ (k : ℕ). repeated_answer k c number line block d) none
