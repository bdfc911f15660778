-- The first pass over lines that are laid out.
use Rattle.std.proofs.Common.{◌≡◌, ℕ, ◌+◌, true, false, List, [], ◌∷◌, ◌++◌, length, Option, Some, None, Result, Ok, Err, refl, ap, sym, subst, ◌∙◌, length-append}
use Rattle.std.proofs.lemmas.List.{append-nil, append_assoc}
use Rattle.assembler_reading.specs.Expressions.{Lookup}
use Rattle.assembler_reading.specs.Labels.{Entries, address_of}
use Rattle.assembler_reading.specs.Reason.{Reason}
use Rattle.assembler_reading.specs.Reason.TheVariants.{LabelTwice, Syntax, TooLong}
use Rattle.assembler.specs.Line.{line}
use Rattle.assembler.specs.Passes.{Measured, first_pass, is_program_too_long, is_twice, measured_with_line, error_with_line, with_label}
use Rattle.assembler.specs.assembled.Pieces.{AreInPlace, HaveOwnLabels, IsPiece, Piece, bytes_of_pieces, line_of_piece}
use Rattle.assembler.specs.assembled.Programs.{FitsMemory}
use Rattle.assembler.specs.assembled.Refusals.{Follows, IsTwice, IsUnplacedFor, no_labels}
use Rattle.assembler.proofs.AssembledLemmas.LaidOut.{bytes_more, fits_front, fits_test, is_piece, piece_text, texts_of, unfit_test}
use Rattle.assembler.proofs.AssembledLemmas.Parts.{line_is, piece_behind, piece_of}
use Rattle.assembler.proofs.AssembledLemmas.Splits.{one_more}
use Rattle.assembler.proofs.AssembledLemmas.Tables.{entries-append, entries_of, entry, no_table, not_twice, twice, with_entry}

-- what the pass has after pieces
abbrev pub after : List Piece → Measured
after qs = record { entries = entries_of qs; program = bytes_of_pieces qs }

measured_from : {d e : Entries} {v w : List ℕ} → d ≡ e → v ≡ w → Path Measured (record { entries = d; program = v }) (record { entries = e; program = w })
measured_from p q = λ i. record { entries = p i; program = q i }

after_more : (qs : List Piece) (q : Piece)
    → Path Measured (record { entries = with_label (entries_of qs) q.label q.address; program = bytes_of_pieces qs ++ q.bytes }) (after (qs ++ (q ∷ [])))
after_more qs q =
    measured_from
    (with_entry (entries_of qs) q.label q.address
    ∙ sym (entries-append qs (q ∷ []) ∙ ap (λ (es : Entries). entries_of qs ++ es) (append-nil (entry q.label q.address))))
    (sym (bytes_more qs q))

read_alone : (origin : ℕ) (qs : List Piece) (q : Piece) → IsPiece no_labels origin (length (bytes_of_pieces qs)) q
    → line (address_of []) origin (bytes_of_pieces qs) q.text ≡ Some (line_of_piece (bytes_of_pieces qs) q)
read_alone origin qs q is =
    subst (λ (l : Lookup). line l origin (bytes_of_pieces qs) q.text ≡ Some (line_of_piece (bytes_of_pieces qs) q)) no_table (is (bytes_of_pieces qs) refl)

measured_well : (origin : ℕ) (qs : List Piece) (q : Piece) → is_twice q.label (entries_of qs) ≡ false
    → is_program_too_long origin (bytes_of_pieces qs ++ q.bytes) ≡ false → measured_with_line origin (after qs) (Some (line_of_piece (bytes_of_pieces qs) q)) ≡ Ok (after (qs ++ (q ∷ [])))
unfolding measured_with_line
measured_well origin qs q new short = rw (new, short) (ap (λ (m : Measured). let r : Result Measured Reason = Ok m in r) (after_more qs q))

-- one line
pub stepped : (origin number : ℕ) (qs : List Piece) (text : List ℕ) (others : List (List ℕ)) (r : Result Measured Reason)
    → measured_with_line origin (after qs) (line (address_of []) origin (bytes_of_pieces qs) text) ≡ r
    → first_pass origin number (after qs) (text ∷ others) ≡ error_with_line number r (λ next. first_pass origin (number + 1) next others)
unfolding first_pass
stepped origin number qs text others r e = ap (λ (x : Result Measured Reason). error_with_line number x (λ next. first_pass origin (number + 1) next others)) e

pub count_more : (qs : List Piece) (q : Piece) → length (qs ++ (q ∷ [])) ≡ length qs + 1
count_more qs q = length-append qs (q ∷ [])

-- a piece of a list has a label of its own among those before it
once : (qs rs : List Piece) (q : Piece) → HaveOwnLabels (qs ++ (q ∷ rs)) → IsTwice qs q → ⊥
once qs rs q own t =
    let whole : qs ++ (q ∷ rs) ≡ t.1.before ++ (t.1.piece ∷ (t.1.after ++ (q ∷ rs)))
    = ap (λ (ps : List Piece). ps ++ (q ∷ rs)) t.1.among ∙ append_assoc t.1.before (t.1.piece ∷ t.1.after) (q ∷ rs) in
    t.1.some (sym t.1.label ∙ own t.1.before t.1.after rs t.1.piece q whole t.1.label)

-- The pass goes over lines that are laid out after others.
pub first_over : (qs seen : List Piece) (origin : ℕ) (rest : List (List ℕ)) → AreInPlace no_labels origin (seen ++ qs) → HaveOwnLabels (seen ++ qs)
    → FitsMemory origin (bytes_of_pieces (seen ++ qs))
    → first_pass origin (length seen + 1) (after seen) (texts_of qs ++ rest) ≡ first_pass origin (length (seen ++ qs) + 1) (after (seen ++ qs)) rest
first_over [] seen origin rest are own fits = ap (λ (ps : List Piece). first_pass origin (length ps + 1) (after ps) rest) (sym (append-nil seen))
first_over (q ∷ qs) seen origin rest are own fits =
    let moved : (seen ++ (q ∷ [])) ++ qs ≡ seen ++ (q ∷ qs) = one_more seen q qs in
    let more : FitsMemory origin (bytes_of_pieces (seen ++ (q ∷ []))) = fits_front origin (seen ++ (q ∷ [])) qs (subst (λ (ps : List Piece). FitsMemory origin (bytes_of_pieces ps)) (sym moved) fits) in
    let short : is_program_too_long origin (bytes_of_pieces seen ++ q.bytes) ≡ false = fits_test origin (bytes_of_pieces seen ++ q.bytes) (subst (FitsMemory origin) (bytes_more seen q) more) in
    let here : measured_with_line origin (after seen) (line (address_of []) origin (bytes_of_pieces seen) q.text) ≡ Ok (after (seen ++ (q ∷ [])))
    = ap (measured_with_line origin (after seen)) (read_alone origin seen q (are seen qs q refl))
    ∙ measured_well origin seen q (not_twice seen q (once seen qs q own)) short in
    stepped origin (length seen + 1) seen q.text (texts_of qs ++ rest) (Ok (after (seen ++ (q ∷ [])))) here
    ∙ ap (λ (n : ℕ). first_pass origin (n + 1) (after (seen ++ (q ∷ []))) (texts_of qs ++ rest)) (sym (count_more seen q))
    ∙ first_over qs (seen ++ (q ∷ [])) origin rest (subst (AreInPlace no_labels origin) (sym moved) are) (subst HaveOwnLabels (sym moved) own)
    (subst (λ (ps : List Piece). FitsMemory origin (bytes_of_pieces ps)) (sym moved) fits)
    ∙ ap (λ (ps : List Piece). first_pass origin (length ps + 1) (after ps) rest) moved

-- A line that can't be laid out is refused.
no_line : (origin : ℕ) (qs : List Piece) (text : List ℕ) → ((q : Piece) → Follows origin qs text q → ⊥)
    → line (address_of []) origin (bytes_of_pieces qs) text ≡ None
no_line origin qs text none =
    subst (λ (l : Lookup). line l origin (bytes_of_pieces qs) text ≡ None) no_table
    (line_is no_labels origin (bytes_of_pieces qs) text ∙ by (piece_of no_labels origin (length (bytes_of_pieces qs)) text) refl)
  where
    by : (o : Option Piece) → piece_of no_labels origin (length (bytes_of_pieces qs)) text ≡ o
        → piece_behind (bytes_of_pieces qs) (piece_of no_labels origin (length (bytes_of_pieces qs)) text) ≡ None
    by None e = ap (piece_behind (bytes_of_pieces qs)) e
    by (Some q) e = absurd (none q (record {
      line = piece_text no_labels origin (length (bytes_of_pieces qs)) text q e;
      piece = is_piece no_labels origin (length (bytes_of_pieces qs)) text q e;
    }))

read_next : (origin : ℕ) (qs : List Piece) (text : List ℕ) (q : Piece) → Follows origin qs text q
    → line (address_of []) origin (bytes_of_pieces qs) text ≡ Some (line_of_piece (bytes_of_pieces qs) q)
read_next origin qs text q f = ap (line (address_of []) origin (bytes_of_pieces qs)) (sym f.line) ∙ read_alone origin qs q f.piece

measured_twice : (origin : ℕ) (qs : List Piece) (q : Piece) → is_twice q.label (entries_of qs) ≡ true
    → measured_with_line origin (after qs) (Some (line_of_piece (bytes_of_pieces qs) q)) ≡ Err LabelTwice
unfolding measured_with_line
measured_twice origin qs q is = rw is refl

measured_long : (origin : ℕ) (qs : List Piece) (q : Piece) → is_twice q.label (entries_of qs) ≡ false
    → is_program_too_long origin (bytes_of_pieces qs ++ q.bytes) ≡ true → measured_with_line origin (after qs) (Some (line_of_piece (bytes_of_pieces qs) q)) ≡ Err TooLong
unfolding measured_with_line
measured_long origin qs q new long = rw (new, long) refl

measured_none : (origin : ℕ) (m : Measured) → measured_with_line origin m None ≡ Err Syntax
unfolding measured_with_line
measured_none origin m = refl

unplaced : (origin : ℕ) (qs : List Piece) (text : List ℕ) (reason : Reason) → HaveOwnLabels qs → IsUnplacedFor origin qs text reason
    → measured_with_line origin (after qs) (line (address_of []) origin (bytes_of_pieces qs) text) ≡ Err reason
unplaced origin qs text Syntax own why = ap (measured_with_line origin (after qs)) (no_line origin qs text why) ∙ measured_none origin (after qs)
unplaced origin qs text LabelTwice own why =
    ap (measured_with_line origin (after qs)) (read_next origin qs text why.0 why.1.0)
    ∙ measured_twice origin qs why.0 (twice qs why.0 own why.1.1)
unplaced origin qs text TooLong own why =
    ap (measured_with_line origin (after qs)) (read_next origin qs text why.0 why.1.0)
    ∙ measured_long origin qs why.0 (not_twice qs why.0 why.1.1.0) (unfit_test origin (bytes_of_pieces qs ++ why.0.bytes) why.1.1.1)
unplaced origin qs text _ own why = absurd why

pub first_refused : (origin : ℕ) (qs : List Piece) (text : List ℕ) (others : List (List ℕ)) (reason : Reason) → HaveOwnLabels qs
    → IsUnplacedFor origin qs text reason
    → first_pass origin (length qs + 1) (after qs) (text ∷ others) ≡ Err (record { line = length qs + 1; reason = reason })
first_refused origin qs text others reason own why =
    stepped origin (length qs + 1) qs text others (Err reason) (unplaced origin qs text reason own why)

pub first_ends : (origin number : ℕ) (m : Measured) → first_pass origin number m [] ≡ Ok m.entries
unfolding first_pass
first_ends origin number m = refl
