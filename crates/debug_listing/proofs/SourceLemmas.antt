-- How texts of lines go on, and how many digits a word has.
use Rattle.std.proofs.Common.{◌≡◌, ℕ, ◌+◌, ◌≢◌, List, [], ◌∷◌, ◌++◌, length, take, Result, Ok, Err, sym, ap, ◌∙◌, append_assoc}
use Rattle.std.specs.Fmt.{decimal}
use Rattle.std.specs.Prelude.{codes}
use Rattle.std.specs.Str.Lines.{lines}
use Rattle.std.proofs.Math.Seq.{take-length}
use Rattle.std.proofs.lemmas.List.{append-nil}
use Rattle.profile.specs.Digits.{hex_word}
use Rattle.debug_tables.specs.Passes.{labels_of_lines}
use Rattle.debug_tables.specs.AsmError.{AsmError}
use Rattle.assembler_text.specs.declared.naming.reason.Reason.TheVariants.{Memory}
use Rattle.assembler_text.specs.naming.Labels.{Entries}
use Rattle.assembler_text.specs.naming.Words.{after_word}
use Rattle.debug_tables.specs.counts.Counts.{CountTable}
use Rattle.debug_listing.specs.SourceListing.{labelled_lines, places_of_lines, row_of_line, rows_behind, rows_by, rows_text}

pub eight_digits : (word : ℕ) (digits : List ℕ) → digits ≡ hex_word word → length digits ≡ 8
unfolding hex_word
eight_digits word digits is = ap (λ (xs : List ℕ). length xs) is

-- LINES WITH LABELS OF THEIR OWN

pub labels_stop : (front all : List ℕ) (number : ℕ) (left : List (List ℕ)) → left ≡ [] → front ++ labelled_lines number left ≡ all
    → front ≡ all
unfolding labelled_lines
labels_stop front all number left none known =
    sym (append-nil front) ∙ ap (λ (ls : List (List ℕ)). front ++ labelled_lines number ls) (sym none) ∙ known

pub labels_go_on : (front after all label digits behind end : List ℕ) (number next : ℕ) (left : List (List ℕ))
    (line : List ℕ) (rest : List (List ℕ)) → left ≡ line ∷ rest → next ≡ number + 1
    → after ≡ front ++ (label ++ (digits ++ (behind ++ (end ++ [])))) → label ≡ codes "line" → end ≡ 10 ∷ []
    → digits ≡ decimal next → behind ≡ after_word line
    → front ++ labelled_lines number left ≡ all → after ++ labelled_lines next rest ≡ all
unfolding labelled_lines
labels_go_on front after all label digits behind end number next left line rest there more pushed first last is cut known =
    let others : List ℕ = labelled_lines (number + 1) rest in
    ap (λ (n : ℕ). after ++ labelled_lines n rest) more
    ∙ ap (λ (xs : List ℕ). xs ++ others) (pushed
    ∙ ap (λ (xs : List ℕ). front ++ (xs ++ (digits ++ (behind ++ (end ++ []))))) first
    ∙ ap (λ (xs : List ℕ). front ++ (codes "line" ++ (digits ++ (behind ++ (xs ++ []))))) last)
    ∙ append_assoc front (codes "line" ++ (digits ++ (behind ++ 10 ∷ []))) others
    ∙ ap (λ (xs : List ℕ). front ++ (codes "line" ++ xs)) (append_assoc digits (behind ++ 10 ∷ []) others
    ∙ ap (λ (xs : List ℕ). digits ++ xs) (append_assoc behind (10 ∷ []) others))
    ∙ ap (λ (xs : List ℕ). front ++ (codes "line" ++ (xs ++ (behind ++ (10 ∷ others))))) (is ∙ ap decimal more)
    ∙ ap (λ (xs : List ℕ). front ++ (codes "line" ++ (decimal (number + 1) ++ (xs ++ (10 ∷ others))))) cut
    ∙ ap (λ (ls : List (List ℕ)). front ++ labelled_lines number ls) (sym there) ∙ known

-- ROWS

pub rows_stop : (front all : List ℕ) (c : CountTable) (places : Entries) (start : ℕ) (bytes : List ℕ) (before : ℕ)
    (left : List (List ℕ)) → left ≡ [] → front ++ rows_behind c places start bytes before left ≡ all → front ≡ all
unfolding rows_behind
rows_stop front all c places start bytes before left none known =
    sym (append-nil front) ∙ ap (λ (ls : List (List ℕ)). front ++ rows_behind c places start bytes before ls) (sym none) ∙ known

pub rows_go_on : (front after all : List ℕ) (c : CountTable) (places : Entries) (start : ℕ) (bytes : List ℕ) (before next : ℕ)
    (left : List (List ℕ)) (line : List ℕ) (rest : List (List ℕ)) → left ≡ line ∷ rest → next ≡ before + 1
    → after ≡ front ++ row_of_line c places start bytes next line
    → front ++ rows_behind c places start bytes before left ≡ all → after ++ rows_behind c places start bytes next rest ≡ all
unfolding rows_behind
rows_go_on front after all c places start bytes before next left line rest there more pushed known =
    ap (λ (xs : List ℕ). xs ++ rows_behind c places start bytes next rest) pushed
    ∙ append_assoc front (row_of_line c places start bytes next line) (rows_behind c places start bytes next rest)
    ∙ ap (λ (n : ℕ). front ++ (row_of_line c places start bytes n line ++ rows_behind c places start bytes n rest)) more
    ∙ ap (λ (ls : List (List ℕ)). front ++ rows_behind c places start bytes before ls) (sym there) ∙ known

-- the rows of lines whose labels of their own have places
pub rows_are : (text : List ℕ) (c : CountTable) (start : ℕ) (bytes source labelled : List ℕ) (places : Entries) (count : ℕ)
    (answer : Result Entries AsmError) → text ≡ rows_behind c places start bytes 0 (lines source)
    → labelled ≡ labelled_lines 0 (lines source) → count ≡ length (lines labelled) → answer ≡ Ok places
    → (answer ≢ Err (record { line = 0; reason = Memory }) → answer ≡ labels_of_lines (take count (lines labelled)) 0)
    → text ≡ rows_text c start bytes source
rows_are text c start bytes source labelled places count answer pushed is all ok below =
    let known : answer ≡ labels_of_lines (take count (lines labelled)) 0 = below (λ e. absurd (cc)) in
    let same : Ok places ≡ places_of_lines (lines source) = sym ok ∙ known
    ∙ ap (λ (n : ℕ). labels_of_lines (take n (lines labelled)) 0) all
    ∙ ap (λ (ls : List (List ℕ)). labels_of_lines ls 0) (take-length (lines labelled))
    ∙ ap (λ (xs : List ℕ). labels_of_lines (lines xs) 0) is in
    pushed ∙ ap (λ (r : Result Entries AsmError). rows_by c start bytes (lines source) r) same
