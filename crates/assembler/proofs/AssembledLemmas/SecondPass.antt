-- The second pass over lines that are laid out.
use Rattle.std.proofs.Common.{◌≡◌, ℕ, ◌+◌, false, List, [], ◌∷◌, ◌++◌, length, Option, Some, Result, Ok, Err, refl, ap, sym, subst, ◌∙◌}
use Rattle.std.proofs.lemmas.List.{append-nil}
use Rattle.std.proofs.lemmas.List.Elements.{All-head, All-tail}
use Rattle.std.specs.List.{All}
use Rattle.assembler_reading.specs.Expressions.{Lookup}
use Rattle.assembler_reading.specs.Reason.{Reason}
use Rattle.assembler.specs.Line.{line}
use Rattle.assembler.specs.Passes.{bytes_of_line, is_program_too_long, error_with_line, second_pass, ok_unless_reason}
use Rattle.assembler.specs.assembled.Pieces.{AreInPlace, IsPiece, Piece, bytes_of_pieces, line_of_piece}
use Rattle.assembler.specs.assembled.Programs.{FitsMemory, IsUnrefused}
use Rattle.assembler.proofs.AssembledLemmas.FirstPass.{count_more}
use Rattle.assembler.proofs.AssembledLemmas.LaidOut.{bytes_more, fits_front, fits_test, texts_of}
use Rattle.assembler.proofs.AssembledLemmas.Splits.{one_more}

finished_as : (labels : Lookup) (origin : ℕ) (qs : List Piece) (q : Piece) → IsPiece labels origin (length (bytes_of_pieces qs)) q
    → FitsMemory origin (bytes_of_pieces (qs ++ (q ∷ [])))
    → bytes_of_line origin (line labels origin (bytes_of_pieces qs) q.text) ≡ ok_unless_reason q.fault (bytes_of_pieces (qs ++ (q ∷ [])))
finished_as labels origin qs q is fits =
    let short : is_program_too_long origin (bytes_of_pieces qs ++ q.bytes) ≡ false
    = fits_test origin (bytes_of_pieces qs ++ q.bytes) (subst (FitsMemory origin) (bytes_more qs q) fits) in
    ap (bytes_of_line origin) (is (bytes_of_pieces qs) refl)
    ∙ tested short
    ∙ ap (ok_unless_reason q.fault) (sym (bytes_more qs q))
  where
    tested : is_program_too_long origin (bytes_of_pieces qs ++ q.bytes) ≡ false
        → bytes_of_line origin (Some (line_of_piece (bytes_of_pieces qs) q)) ≡ ok_unless_reason q.fault (bytes_of_pieces qs ++ q.bytes)
    tested short = rw short refl

stepped : (labels : Lookup) (origin number : ℕ) (program text : List ℕ) (others : List (List ℕ)) (r : Result (List ℕ) Reason)
    → bytes_of_line origin (line labels origin program text) ≡ r
    → second_pass labels origin number program (text ∷ others) ≡ error_with_line number r (λ more. second_pass labels origin (number + 1) more others)
unfolding second_pass
stepped labels origin number program text others r e =
    ap (λ (x : Result (List ℕ) Reason). error_with_line number x (λ more. second_pass labels origin (number + 1) more others)) e

-- The pass goes over pieces that aren't refused.
pub second_over : (labels : Lookup) (qs seen : List Piece) (origin : ℕ) (rest : List (List ℕ)) → AreInPlace labels origin (seen ++ qs)
    → FitsMemory origin (bytes_of_pieces (seen ++ qs)) → All IsUnrefused qs
    → second_pass labels origin (length seen + 1) (bytes_of_pieces seen) (texts_of qs ++ rest)
    ≡ second_pass labels origin (length (seen ++ qs) + 1) (bytes_of_pieces (seen ++ qs)) rest
second_over labels [] seen origin rest are fits well =
    ap (λ (ps : List Piece). second_pass labels origin (length ps + 1) (bytes_of_pieces ps) rest) (sym (append-nil seen))
second_over labels (q ∷ qs) seen origin rest are fits well =
    let moved : (seen ++ (q ∷ [])) ++ qs ≡ seen ++ (q ∷ qs) = one_more seen q qs in
    let more : FitsMemory origin (bytes_of_pieces (seen ++ (q ∷ [])))
    = fits_front origin (seen ++ (q ∷ [])) qs (subst (λ (ps : List Piece). FitsMemory origin (bytes_of_pieces ps)) (sym moved) fits) in
    let here : bytes_of_line origin (line labels origin (bytes_of_pieces seen) q.text) ≡ Ok (bytes_of_pieces (seen ++ (q ∷ [])))
    = finished_as labels origin seen q (are seen qs q refl) more
    ∙ ap (λ (f : Option Reason). ok_unless_reason f (bytes_of_pieces (seen ++ (q ∷ [])))) (All-head IsUnrefused q qs well) in
    stepped labels origin (length seen + 1) (bytes_of_pieces seen) q.text (texts_of qs ++ rest) (Ok (bytes_of_pieces (seen ++ (q ∷ [])))) here
    ∙ ap (λ (n : ℕ). second_pass labels origin (n + 1) (bytes_of_pieces (seen ++ (q ∷ []))) (texts_of qs ++ rest)) (sym (count_more seen q))
    ∙ second_over labels qs (seen ++ (q ∷ [])) origin rest (subst (AreInPlace labels origin) (sym moved) are)
    (subst (λ (ps : List Piece). FitsMemory origin (bytes_of_pieces ps)) (sym moved) fits) (All-tail IsUnrefused q qs well)
    ∙ ap (λ (ps : List Piece). second_pass labels origin (length ps + 1) (bytes_of_pieces ps) rest) moved

-- A piece that is refused ends it.
pub second_refused : (labels : Lookup) (origin : ℕ) (before : List Piece) (q : Piece) (others : List (List ℕ)) (reason : Reason)
    → IsPiece labels origin (length (bytes_of_pieces before)) q → FitsMemory origin (bytes_of_pieces (before ++ (q ∷ []))) → q.fault ≡ Some reason
    → second_pass labels origin (length before + 1) (bytes_of_pieces before) (q.text ∷ others) ≡ Err (record { line = length before + 1; reason = reason })
second_refused labels origin before q others reason is fits why =
    stepped labels origin (length before + 1) (bytes_of_pieces before) q.text others (Err reason)
    (finished_as labels origin before q is fits ∙ ap (λ (f : Option Reason). ok_unless_reason f (bytes_of_pieces (before ++ (q ∷ [])))) why)

pub second_ends : (labels : Lookup) (origin number : ℕ) (program : List ℕ) → second_pass labels origin number program [] ≡ Ok program
unfolding second_pass
second_ends labels origin number program = refl
