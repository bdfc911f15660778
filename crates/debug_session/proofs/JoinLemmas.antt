-- Lines that are requests that are whole, and then more lines.
use Rattle.std.proofs.Common.{◌≡◌, ◌≤◌, ℕ, zero, suc, ◌+◌, Bool, true, false, not, List, [], ◌∷◌, ◌++◌, length, append_assoc, inl, inr, ap, sym, refl, ◌∙◌, arith}
use Rattle.std.specs.Prelude.{if◌then◌else◌}
use Rattle.std.proofs.lemmas.Bool.{cases_Bool}
use Rattle.debug_tables.proofs.ScriptLemmas.{lines_after-shorter, number_step}
use Rattle.command_shell_lines.specs.Blocks.{after_block, block_lines, lines_after, lines_in_block, lines_taken}
use Rattle.command_shell_lines.specs.Requests.{Hex, Nothing, is_end_of_block}
use Rattle.debug_lines.specs.WholeDebugRequests.{is_debug_block_open_after_lines}
use Rattle.debug_session.specs.DebugScript.{debug_line_answer, debug_lines_answer, line_opens, some_lines_answer}
use Rattle.debug_session.specs.DebugState.{DebugAnswered, DebugState, debug_answer}
use Rattle.debug_session.specs.declared.session.DebugSettings.{DebugSettings}
use Rattle.debug_session.proofs.AloneLemmas.{line_alone}
use Rattle.debug_session.proofs.LineLemmas.{joined, none_answer, step_answer}

-- A BLOCK THAT IS WHOLE

block_by : (ends : Bool) (line : List ℕ) (more rest : List (List ℕ))
    → (is_debug_block_open_after_lines true more ≡ false → block_lines (more ++ rest) ≡ block_lines more)
    → is_debug_block_open_after_lines (not ends) more ≡ false
    → (if ends then [] else line ∷ block_lines (more ++ rest)) ≡ (if ends then [] else line ∷ block_lines more)
block_by true line more rest next closed = refl
block_by false line more rest next closed = ap (λ (ls : List (List ℕ)). line ∷ ls) (next closed)

block_front : (front rest : List (List ℕ)) → is_debug_block_open_after_lines true front ≡ false
    → block_lines (front ++ rest) ≡ block_lines front
unfolding block_lines is_debug_block_open_after_lines
block_front [] rest closed = absurd (cc)
block_front (line ∷ more) rest closed = block_by (is_end_of_block line) line more rest (block_front more rest) closed

after_by : (ends : Bool) (more rest : List (List ℕ))
    → (is_debug_block_open_after_lines true more ≡ false → after_block (more ++ rest) ≡ after_block more ++ rest)
    → is_debug_block_open_after_lines (not ends) more ≡ false
    → (if ends then more ++ rest else after_block (more ++ rest)) ≡ (if ends then more else after_block more) ++ rest
after_by true more rest next closed = refl
after_by false more rest next closed = next closed

after_front : (front rest : List (List ℕ)) → is_debug_block_open_after_lines true front ≡ false
    → after_block (front ++ rest) ≡ after_block front ++ rest
unfolding after_block is_debug_block_open_after_lines
after_front [] rest closed = absurd (cc)
after_front (line ∷ more) rest closed = after_by (is_end_of_block line) more rest (after_front more rest) closed

taken_by : (ends : Bool) (more rest : List (List ℕ))
    → (is_debug_block_open_after_lines true more ≡ false → lines_in_block (more ++ rest) ≡ lines_in_block more)
    → is_debug_block_open_after_lines (not ends) more ≡ false
    → (if ends then 1 else 1 + lines_in_block (more ++ rest)) ≡ (if ends then 1 else 1 + lines_in_block more)
taken_by true more rest next closed = refl
taken_by false more rest next closed = ap (λ (n : ℕ). 1 + n) (next closed)

taken_front : (front rest : List (List ℕ)) → is_debug_block_open_after_lines true front ≡ false
    → lines_in_block (front ++ rest) ≡ lines_in_block front
unfolding lines_in_block is_debug_block_open_after_lines
taken_front [] rest closed = absurd (cc)
taken_front (line ∷ more) rest closed = taken_by (is_end_of_block line) more rest (taken_front more rest) closed

closed_by : (ends : Bool) (more : List (List ℕ))
    → (is_debug_block_open_after_lines true more ≡ false → is_debug_block_open_after_lines false (after_block more) ≡ false)
    → is_debug_block_open_after_lines (not ends) more ≡ false
    → is_debug_block_open_after_lines false (if ends then more else after_block more) ≡ false
closed_by true more next closed = closed
closed_by false more next closed = next closed

closed_after : (front : List (List ℕ)) → is_debug_block_open_after_lines true front ≡ false
    → is_debug_block_open_after_lines false (after_block front) ≡ false
unfolding after_block is_debug_block_open_after_lines
closed_after [] closed = absurd (cc)
closed_after (line ∷ more) closed = closed_by (is_end_of_block line) more (closed_after more) closed

-- THE LINES AFTER ONE, WITHOUT ITS BLOCK IF IT OPENS ONE

left_front : (opens : Bool) (front rest : List (List ℕ)) → is_debug_block_open_after_lines opens front ≡ false
    → lines_after opens (front ++ rest) ≡ lines_after opens front ++ rest
left_front true front rest closed = after_front front rest closed
left_front false front rest closed = refl

count_front : (opens : Bool) (front rest : List (List ℕ)) → is_debug_block_open_after_lines opens front ≡ false
    → lines_taken opens (front ++ rest) ≡ lines_taken opens front
count_front true front rest closed = taken_front front rest closed
count_front false front rest closed = refl

left_closed : (opens : Bool) (front : List (List ℕ)) → is_debug_block_open_after_lines opens front ≡ false
    → is_debug_block_open_after_lines false (lines_after opens front) ≡ false
left_closed true front closed = closed_after front closed
left_closed false front closed = closed

next_counted : (opens : Bool) (number more : ℕ) (line : List ℕ) (front : List (List ℕ)) → more ≡ number + 1 + length front
    → more ≡ number + 1 + lines_taken opens front + length (lines_after opens front)
next_counted true number more line front counted =
    sym (number_step number (number + 1) (number + 1 + lines_taken true front) more line (line ∷ front) front (lines_after true front)
    (Hex []) (omega (arith, counted)) refl refl refl refl)
next_counted false number more line front counted =
    sym (number_step number (number + 1) (number + 1 + lines_taken false front) more line (line ∷ front) front (lines_after false front)
    Nothing (omega (arith, counted)) refl refl refl refl)

answer_front : (opens : Bool) (c : DebugSettings) (d : DebugState) (number : ℕ) (line : List ℕ) (front rest : List (List ℕ))
    → line_opens line ≡ opens → is_debug_block_open_after_lines opens front ≡ false
    → debug_line_answer c d number line (block_lines (front ++ rest)) ≡ debug_line_answer c d number line (block_lines front)
answer_front true c d number line front rest is closed = ap (debug_line_answer c d number line) (block_front front rest closed)
answer_front false c d number line front rest is closed =
    line_alone c d number line (block_lines (front ++ rest)) (block_lines front) is

-- REQUESTS THAT ARE WHOLE

join_texts : (first next last : DebugAnswered) → joined first (joined next last) ≡ joined (joined first next) last
join_texts first next last =
    ap (λ (text : List ℕ). let reported : DebugAnswered = record { state = last.state; text = text } in reported)
    (sym (append_assoc first.text next.text last.text))

quit_join : (c : DebugSettings) (number more : ℕ) (d : DebugState) (front rest : List (List ℕ)) → d.has_quit ≡ true
    → debug_lines_answer c number d (front ++ rest)
    ≡ joined (debug_lines_answer c number d front) (debug_lines_answer c more (debug_lines_answer c number d front).state rest)
quit_join c number more d front rest quit =
    none_answer (length (front ++ rest)) c number d (front ++ rest) quit
    ∙ ap (joined (debug_answer d [])) (sym (none_answer (length rest) c more d rest quit))
    ∙ ap (λ (first : DebugAnswered). joined first (debug_lines_answer c more first.state rest))
    (sym (none_answer (length front) c number d front quit))

nothing_first : (c : DebugSettings) (number more : ℕ) (d : DebugState) (rest : List (List ℕ)) → more ≡ number
    → debug_lines_answer c number d rest
    ≡ joined (debug_lines_answer c number d []) (debug_lines_answer c more (debug_lines_answer c number d []).state rest)
unfolding some_lines_answer
nothing_first c number more d rest same = ap (λ (n : ℕ). debug_lines_answer c n d rest) (sym same)

first_of_lines : (c : DebugSettings) (number : ℕ) (d : DebugState) (line : List ℕ) (rest : List (List ℕ)) → d.has_quit ≡ false
    → debug_lines_answer c number d (line ∷ rest)
    ≡ joined (debug_line_answer c d (number + 1) line (block_lines rest))
    (debug_lines_answer c (number + 1 + lines_taken (line_opens line) rest)
    (debug_line_answer c d (number + 1) line (block_lines rest)).state (lines_after (line_opens line) rest))
first_of_lines c number d line rest quit =
    step_answer c c number (number + 1) (number + 1 + lines_taken (line_opens line) rest) d
    (debug_line_answer c d (number + 1) line (block_lines rest)).state line (line ∷ rest) rest (lines_after (line_opens line) rest)
    quit refl refl refl refl refl refl

-- one request, and the others before the rest
one_join : (c : DebugSettings) (number more : ℕ) (d : DebugState) (line : List ℕ) (front rest : List (List ℕ)) → d.has_quit ≡ false
    → is_debug_block_open_after_lines (line_opens line) front ≡ false → more ≡ number + 1 + length front
    → ((next : ℕ) (s : DebugState) → more ≡ next + length (lines_after (line_opens line) front)
    → debug_lines_answer c next s (lines_after (line_opens line) front ++ rest)
    ≡ joined (debug_lines_answer c next s (lines_after (line_opens line) front))
    (debug_lines_answer c more (debug_lines_answer c next s (lines_after (line_opens line) front)).state rest))
    → debug_lines_answer c number d (line ∷ (front ++ rest))
    ≡ joined (debug_lines_answer c number d (line ∷ front))
    (debug_lines_answer c more (debug_lines_answer c number d (line ∷ front)).state rest)
one_join c number more d line front rest quit closed counted others =
    let opens : Bool = line_opens line in
    let first : DebugAnswered = debug_line_answer c d (number + 1) line (block_lines front) in
    let next : ℕ = number + 1 + lines_taken opens front in
    let left : List (List ℕ) = lines_after opens front in
    let middle : DebugAnswered = debug_lines_answer c next first.state left in
    first_of_lines c number d line (front ++ rest) quit
    ∙ ap (λ (reported : DebugAnswered). joined reported (debug_lines_answer c (number + 1 + lines_taken opens (front ++ rest)) reported.state
    (lines_after opens (front ++ rest)))) (answer_front opens c d (number + 1) line front rest refl closed)
    ∙ ap (λ (n : ℕ). joined first (debug_lines_answer c (number + 1 + n) first.state (lines_after opens (front ++ rest))))
    (count_front opens front rest closed)
    ∙ ap (λ (ls : List (List ℕ)). joined first (debug_lines_answer c next first.state ls)) (left_front opens front rest closed)
    ∙ ap (joined first) (others next first.state (next_counted opens number more line front counted))
    ∙ join_texts first middle (debug_lines_answer c more middle.state rest)
    ∙ ap (λ (reported : DebugAnswered). joined reported (debug_lines_answer c more reported.state rest))
    (sym (first_of_lines c number d line front quit))

join_by : (n : ℕ) (c : DebugSettings) (number more : ℕ) (d : DebugState) (front rest : List (List ℕ)) → length front ≤ n
    → is_debug_block_open_after_lines false front ≡ false → more ≡ number + length front
    → debug_lines_answer c number d (front ++ rest)
    ≡ joined (debug_lines_answer c number d front) (debug_lines_answer c more (debug_lines_answer c number d front).state rest)
unfolding is_debug_block_open_after_lines
join_by n c number more d [] rest enough closed counted = nothing_first c number more d rest (omega (arith, counted))
join_by zero c number more d (line ∷ front) rest enough closed counted = absurd (omega (arith, enough))
join_by (suc n) c number more d (line ∷ front) rest enough closed counted = elim (cases_Bool d.has_quit) [
  | inl quit ↦ quit_join c number more d (line ∷ front) rest quit
  | inr still ↦
      let left : List (List ℕ) = lines_after (line_opens line) front in
      one_join c number more d line front rest still closed (omega (arith, counted))
      (λ next s here. join_by n c next more s left rest (omega (arith, enough, lines_after-shorter (line_opens line) front))
      (left_closed (line_opens line) front closed) here)
]

-- Requests that are whole are answered as they are, and then the lines that follow from where these
-- leave the session.
pub requests_join : (c : DebugSettings) (number : ℕ) (d : DebugState) (front rest : List (List ℕ))
    → is_debug_block_open_after_lines false front ≡ false
    → debug_lines_answer c number d (front ++ rest)
    ≡ joined (debug_lines_answer c number d front)
    (debug_lines_answer c (number + length front) (debug_lines_answer c number d front).state rest)
requests_join c number d front rest closed =
    join_by (length front) c number (number + length front) d front rest (omega arith) closed refl
