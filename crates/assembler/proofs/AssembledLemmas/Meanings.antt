-- Each source is a program of pieces or is refused at its first line that can't be one, and its
-- meaning says so.
use Rattle.std.proofs.Common.{◌≡◌, ◌≤◌, ℕ, ◌+◌, ◌^◌, List, [], ◌∷◌, ◌++◌, length, Option, Some, None, Result, Ok, Err, refl, ap, sym, subst, ◌∙◌, ◌⊎◌, inl, inr}
use Rattle.std.proofs.lemmas.List.{append-nil, append_assoc, map-append}
use Rattle.std.proofs.lemmas.List.Elements.{All-cons, All-nil}
use Rattle.std.specs.List.{All}
use Rattle.std.specs.Str.Lines.{lines}
use Rattle.profile.specs.Outcome.{bind}
use Rattle.assembler_reading.specs.Expressions.{Lookup}
use Rattle.assembler_reading.specs.Labels.{Entries, address_of}
use Rattle.assembler_reading.specs.Reason.{Reason}
use Rattle.assembler_reading.specs.Reason.TheVariants.{LabelTwice, Syntax, TooLong}
use Rattle.assembler.specs.Passes.{first_pass, means, means_lines, second_pass}
use Rattle.assembler.specs.declared.error.AsmError.{AsmError}
use Rattle.assembler.specs.assembled.Laws.{LinesArePieces, LinesAreRefused, ProgramsArePieces, RefusalsAreFirst}
use Rattle.assembler.specs.assembled.Pieces.{IsPiece, Piece, bytes_of_pieces}
use Rattle.assembler.specs.assembled.Programs.{AreLaidOut, FitsMemory, IsProgram, IsLabelTable, IsUnrefused}
use Rattle.assembler.specs.assembled.Refusals.{Follows, IsRefused, IsTwice, IsUnplaced, IsUnplacedFor, IsUnvalued, no_labels}
use Rattle.assembler.proofs.AssembledLemmas.FirstPass.{after, first_ends, first_over, first_refused}
use Rattle.assembler.proofs.AssembledLemmas.LaidOut.{fits_front, fits_or_not, is_piece, laid_more, none_laid, piece_is, piece_text, texts_of}
use Rattle.assembler.proofs.AssembledLemmas.Parts.{piece_of}
use Rattle.assembler.proofs.AssembledLemmas.Relabelled.{LaidAgain, laid_again, same_entries}
use Rattle.assembler.proofs.AssembledLemmas.SecondPass.{second_ends, second_over, second_refused}
use Rattle.assembler.proofs.AssembledLemmas.Splits.{one_more}
use Rattle.assembler.proofs.AssembledLemmas.Tables.{entries_of, is_twice_or_not, one_table, table}

-- the second pass as the meaning goes on with it
abbrev then_values : ℕ → List (List ℕ) → Result Entries AsmError → Result (List ℕ) AsmError
then_values origin texts first = bind first (λ entries. second_pass (address_of entries) origin 1 [] texts)

by_passes : (texts : List (List ℕ)) (origin : ℕ) (first : Result Entries AsmError) → first_pass origin 1 (after []) texts ≡ first
    → means_lines texts origin ≡ then_values origin texts first
unfolding means_lines
by_passes texts origin first e = ap (then_values origin texts) e

-- the labels of lines that are laid out under some labels
measured : (labels : Lookup) (origin : ℕ) (texts : List (List ℕ)) (qs : List Piece) → AreLaidOut labels origin texts qs
    → first_pass origin 1 (after []) texts ≡ Ok (entries_of qs)
measured labels origin texts qs laid =
    let a : LaidAgain no_labels origin texts qs = laid_again labels no_labels origin texts qs laid in
    let l : AreLaidOut no_labels origin texts a.pieces = a.laid_out in
    ap (first_pass origin 1 (after [])) (sym (append-nil (texts_of a.pieces) ∙ l.lines))
    ∙ first_over a.pieces [] origin [] l.in_place l.own_labels l.fits
    ∙ first_ends origin (length a.pieces + 1) (after a.pieces)
    ∙ ap (λ (es : Entries). let r : Result Entries AsmError = Ok es in r) (sym (same_entries qs a.pieces a.alike))

-- and the second pass under the table of their labels
valued : (labels : Lookup) (origin : ℕ) (texts : List (List ℕ)) (qs : List Piece) → AreLaidOut labels origin texts qs → IsLabelTable labels qs
    → means_lines texts origin ≡ second_pass labels origin 1 [] texts
valued labels origin texts qs laid is =
    by_passes texts origin (Ok (entries_of qs)) (measured labels origin texts qs laid)
    ∙ ap (λ (l : Lookup). second_pass l origin 1 [] texts) (sym (one_table labels qs laid.own_labels is))

program_means : (texts : List (List ℕ)) (origin : ℕ) (program : List ℕ) → IsProgram texts origin program → means_lines texts origin ≡ Ok program
program_means texts origin program is =
    let l : AreLaidOut is.labels origin texts is.pieces = is.laid_out in
    valued is.labels origin texts is.pieces l is.table
    ∙ ap (second_pass is.labels origin 1 []) (sym (append-nil (texts_of is.pieces) ∙ l.lines))
    ∙ second_over is.labels is.pieces [] origin [] l.in_place l.fits is.unrefused
    ∙ second_ends is.labels origin (length is.pieces + 1) (bytes_of_pieces is.pieces)
    ∙ ap (λ (bs : List ℕ). let r : Result (List ℕ) AsmError = Ok bs in r) is.whole

error_at : (error : AsmError) (n : ℕ) (reason : Reason) → error.line ≡ n → error.reason ≡ reason → record { line = n; reason = reason } ≡ error
error_at error n reason p q = λ i. record { line = sym p i; reason = sym q i }

unplaced_means : (texts : List (List ℕ)) (origin : ℕ) (error : AsmError) → IsUnplaced texts origin error → means_lines texts origin ≡ Err error
unplaced_means texts origin error is =
    let l : AreLaidOut no_labels origin (texts_of is.pieces) is.pieces = is.laid_out in
    let refused : first_pass origin 1 (after []) texts ≡ Err error
    = ap (first_pass origin 1 (after [])) is.lines
    ∙ first_over is.pieces [] origin (is.text ∷ is.others) l.in_place l.own_labels l.fits
    ∙ first_refused origin is.pieces is.text is.others error.reason l.own_labels is.reason
    ∙ ap (λ (e : AsmError). let r : Result Entries AsmError = Err e in r) (error_at error (length is.pieces + 1) error.reason is.number refl) in
    by_passes texts origin (Err error) refused

unvalued_means : (texts : List (List ℕ)) (origin : ℕ) (error : AsmError) → IsUnvalued texts origin error → means_lines texts origin ≡ Err error
unvalued_means texts origin error is =
    let l : AreLaidOut is.labels origin texts is.pieces = is.laid_out in
    let split : texts ≡ texts_of is.before ++ (is.piece.text ∷ texts_of is.after)
    = sym l.lines ∙ ap texts_of is.among ∙ map-append (λ (q : Piece). q.text) is.before (is.piece ∷ is.after) in
    let parts : is.pieces ≡ (is.before ++ (is.piece ∷ [])) ++ is.after = is.among ∙ sym (one_more is.before is.piece is.after) in
    let fits_to : FitsMemory origin (bytes_of_pieces (is.before ++ (is.piece ∷ [])))
    = fits_front origin (is.before ++ (is.piece ∷ [])) is.after (subst (λ (ps : List Piece). FitsMemory origin (bytes_of_pieces ps)) parts l.fits) in
    let fits_so : FitsMemory origin (bytes_of_pieces is.before) = fits_front origin is.before (is.piece ∷ []) fits_to in
    valued is.labels origin texts is.pieces l is.table
    ∙ ap (second_pass is.labels origin 1 []) split
    ∙ second_over is.labels is.before [] origin (is.piece.text ∷ texts_of is.after)
    (λ before after q e. l.in_place before (after ++ (is.piece ∷ is.after)) q
    (is.among ∙ ap (λ (ps : List Piece). ps ++ (is.piece ∷ is.after)) e ∙ append_assoc before (q ∷ after) (is.piece ∷ is.after)))
    fits_so is.unrefused
    ∙ second_refused is.labels origin is.before is.piece (texts_of is.after) error.reason (l.in_place is.before is.after is.piece is.among) fits_to is.reason
    ∙ ap (λ (e : AsmError). let r : Result (List ℕ) AsmError = Err e in r) (error_at error (length is.before + 1) error.reason is.number refl)

refused_means : (texts : List (List ℕ)) (origin : ℕ) (error : AsmError) → IsRefused texts origin error → means_lines texts origin ≡ Err error
refused_means texts origin error (inl is) = unplaced_means texts origin error is
refused_means texts origin error (inr is) = unvalued_means texts origin error is

-- All lines can be laid out, or there is a first that can't.
pub record AllLaid (texts : List (List ℕ)) (origin : ℕ) : Type 0 where
  pub pieces : List Piece
  pub laid_out : AreLaidOut no_labels origin texts pieces

pub record OneRefused (texts : List (List ℕ)) (origin : ℕ) : Type 0 where
  pub error : AsmError
  pub is : IsUnplaced texts origin error

abbrev Layout : List (List ℕ) → ℕ → Type 0
Layout texts origin = AllLaid texts origin ⊎ OneRefused texts origin

refused_for : (texts : List (List ℕ)) (origin : ℕ) (seen : List Piece) (text : List ℕ) (others : List (List ℕ)) (reason : Reason)
    → texts ≡ texts_of seen ++ (text ∷ others) → AreLaidOut no_labels origin (texts_of seen) seen → IsUnplacedFor origin seen text reason
    → Layout texts origin
refused_for texts origin seen text others reason e laid why = inr (record {
  error = record { line = length seen + 1; reason = reason };
  is = record { pieces = seen; text = text; others = others; lines = e; laid_out = laid; number = refl; reason = why };
})

-- what comes of a line whose piece is known
next_line : (texts : List (List ℕ)) (origin : ℕ) (seen : List Piece) (text : List ℕ) (others : List (List ℕ)) (q : Piece)
    → texts ≡ texts_of seen ++ (text ∷ others) → AreLaidOut no_labels origin (texts_of seen) seen → Follows origin seen text q
    → (AreLaidOut no_labels origin (texts_of (seen ++ (q ∷ []))) (seen ++ (q ∷ [])) → Layout texts origin) → Layout texts origin
next_line texts origin seen text others q e laid follows more =
    by (is_twice_or_not seen q laid.own_labels) (fits_or_not origin (bytes_of_pieces seen ++ q.bytes))
  where
    by : IsTwice seen q ⊎ (IsTwice seen q → ⊥) → FitsMemory origin (bytes_of_pieces seen ++ q.bytes) ⊎ (FitsMemory origin (bytes_of_pieces seen ++ q.bytes) → ⊥)
        → Layout texts origin
    by (inl twice) f = refused_for texts origin seen text others LabelTwice e laid (q, (follows, twice))
    by (inr new) (inl fits) = more (laid_more no_labels origin seen q laid follows.piece new fits)
    by (inr new) (inr unfit) = refused_for texts origin seen text others TooLong e laid (q, (follows, (new, unfit)))

laid_or_not : (rest : List (List ℕ)) (texts : List (List ℕ)) (origin : ℕ) (seen : List Piece) → texts ≡ texts_of seen ++ rest
    → AreLaidOut no_labels origin (texts_of seen) seen → Layout texts origin
laid_or_not [] texts origin seen e laid =
    inl (record { pieces = seen; laid_out = subst (λ (ts : List (List ℕ)). AreLaidOut no_labels origin ts seen) (sym (e ∙ append-nil (texts_of seen))) laid })
laid_or_not (text ∷ rest) texts origin seen e laid =
    by (piece_of no_labels origin (length (bytes_of_pieces seen)) text) refl (λ q. laid_or_not rest texts origin (seen ++ (q ∷ [])))
  where
    none_follows : piece_of no_labels origin (length (bytes_of_pieces seen)) text ≡ None → (q : Piece) → Follows origin seen text q → ⊥
    none_follows none q f =
        let there : piece_of no_labels origin (length (bytes_of_pieces seen)) text ≡ Some q
        = ap (piece_of no_labels origin (length (bytes_of_pieces seen))) (sym f.line) ∙ piece_is no_labels origin (length (bytes_of_pieces seen)) q f.piece in
        absurd (cc)

    by : (o : Option Piece) → piece_of no_labels origin (length (bytes_of_pieces seen)) text ≡ o
        → ((q : Piece) → texts ≡ texts_of (seen ++ (q ∷ [])) ++ rest → AreLaidOut no_labels origin (texts_of (seen ++ (q ∷ []))) (seen ++ (q ∷ []))
        → Layout texts origin) → Layout texts origin
    by None none more = refused_for texts origin seen text rest Syntax e laid (none_follows none)
    by (Some q) there more =
        let same : q.text ≡ text = piece_text no_labels origin (length (bytes_of_pieces seen)) text q there in
        let is : IsPiece no_labels origin (length (bytes_of_pieces seen)) q = is_piece no_labels origin (length (bytes_of_pieces seen)) text q there in
        let moved : texts ≡ texts_of (seen ++ (q ∷ [])) ++ rest
        = e ∙ ap (λ (t : List ℕ). texts_of seen ++ (t ∷ rest)) (sym same)
        ∙ sym (one_more (texts_of seen) q.text rest)
        ∙ ap (λ (ts : List (List ℕ)). ts ++ rest) (sym (map-append (λ (r : Piece). r.text) seen (q ∷ []))) in
        next_line texts origin seen text rest q e laid (record { line = same; piece = is }) (more q moved)

-- Pieces are all unrefused, or there is a first that is refused.
pub record FirstFault (qs : List Piece) : Type 0 where
  pub before : List Piece
  pub piece : Piece
  pub after : List Piece
  pub among : qs ≡ before ++ (piece ∷ after)
  pub unrefused : All IsUnrefused before
  pub reason : Reason
  pub why : piece.fault ≡ Some reason

first_fault : (qs : List Piece) → All IsUnrefused qs ⊎ FirstFault qs
first_fault [] = inl (All-nil IsUnrefused)
first_fault (q ∷ qs) = by q.fault refl (first_fault qs)
  where
    by : (f : Option Reason) → q.fault ≡ f → All IsUnrefused qs ⊎ FirstFault qs → All IsUnrefused (q ∷ qs) ⊎ FirstFault (q ∷ qs)
    by None well (inl others) = inl (All-cons IsUnrefused q qs well others)
    by None well (inr f) = inr (record {
      before = q ∷ f.before;
      piece = f.piece;
      after = f.after;
      among = ap (λ (ps : List Piece). q ∷ ps) f.among;
      unrefused = All-cons IsUnrefused q f.before well f.unrefused;
      reason = f.reason;
      why = f.why;
    })
    by (Some reason) why others =
        inr (record { before = []; piece = q; after = qs; among = refl; unrefused = All-nil IsUnrefused; reason = reason; why = why })

-- What a source is: a program, or refused.
pub record SomeProgram (texts : List (List ℕ)) (origin : ℕ) : Type 0 where
  pub program : List ℕ
  pub is : IsProgram texts origin program

pub record SomeError (texts : List (List ℕ)) (origin : ℕ) : Type 0 where
  pub error : AsmError
  pub is : IsRefused texts origin error

either : (texts : List (List ℕ)) (origin : ℕ) → origin ≤ 2 ^ 26 → SomeProgram texts origin ⊎ SomeError texts origin
either texts origin low = laid (laid_or_not texts texts origin [] refl (none_laid no_labels origin low))
  where
    well : (labels : Lookup) (qs : List Piece) → AreLaidOut labels origin texts qs → IsLabelTable labels qs
        → All IsUnrefused qs ⊎ FirstFault qs → SomeProgram texts origin ⊎ SomeError texts origin
    well labels qs laid is (inl all) = inl (record {
      program = bytes_of_pieces qs;
      is = record { labels = labels; pieces = qs; laid_out = laid; table = is; unrefused = all; whole = refl };
    })
    well labels qs laid is (inr f) = inr (record {
      error = record { line = length f.before + 1; reason = f.reason };
      is = inr (record {
        labels = labels;
        pieces = qs;
        laid_out = laid;
        table = is;
        before = f.before;
        piece = f.piece;
        after = f.after;
        among = f.among;
        unrefused = f.unrefused;
        number = refl;
        reason = f.why;
      });
    })

    valued_as : (qs : List Piece) → AreLaidOut no_labels origin texts qs → SomeProgram texts origin ⊎ SomeError texts origin
    valued_as qs l =
        let labels : Lookup = address_of (entries_of qs) in
        let a : LaidAgain labels origin texts qs = laid_again no_labels labels origin texts qs l in
        let is : IsLabelTable labels a.pieces
        = subst (λ (es : Entries). IsLabelTable (address_of es) a.pieces) (sym (same_entries qs a.pieces a.alike)) (table a.pieces a.laid_out.own_labels) in
        well labels a.pieces a.laid_out is (first_fault a.pieces)

    laid : Layout texts origin → SomeProgram texts origin ⊎ SomeError texts origin
    laid (inl all) = valued_as all.pieces all.laid_out
    laid (inr one) = inr (record { error = one.error; is = inl one.is })

pub lines_are_pieces : LinesArePieces
lines_are_pieces texts program origin low = (λ e. by e (either texts origin low), program_means texts origin program)
  where
    by : means_lines texts origin ≡ Ok program → SomeProgram texts origin ⊎ SomeError texts origin → IsProgram texts origin program
    by e (inl some) =
        let there : means_lines texts origin ≡ Ok some.program = program_means texts origin some.program some.is in
        let same : some.program ≡ program = cc in
        subst (IsProgram texts origin) same some.is
    by e (inr some) =
        let there : means_lines texts origin ≡ Err some.error = refused_means texts origin some.error some.is in
        absurd (cc)

pub lines_are_refused : LinesAreRefused
lines_are_refused texts error origin low = (λ e. by e (either texts origin low), refused_means texts origin error)
  where
    by : means_lines texts origin ≡ Err error → SomeProgram texts origin ⊎ SomeError texts origin → IsRefused texts origin error
    by e (inl some) =
        let there : means_lines texts origin ≡ Ok some.program = program_means texts origin some.program some.is in
        absurd (cc)
    by e (inr some) =
        let there : means_lines texts origin ≡ Err some.error = refused_means texts origin some.error some.is in
        let same : some.error ≡ error = cc in
        subst (IsRefused texts origin) same some.is

pub programs_are_pieces : ProgramsArePieces
unfolding means
programs_are_pieces source program origin low = lines_are_pieces (lines source) program origin low

pub refusals_are_first : RefusalsAreFirst
unfolding means
refusals_are_first source error origin low = lines_are_refused (lines source) error origin low
