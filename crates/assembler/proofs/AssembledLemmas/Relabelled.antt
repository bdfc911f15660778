-- The same lines under other labels: pieces of the same forms.
use Rattle.std.proofs.Common.{◌≡◌, ◌≤◌, ℕ, ◌+◌, ◌^◌, List, [], ◌∷◌, ◌++◌, length, map, Option, Some, None, refl, ap, sym, subst, ◌∙◌, length-append}
use Rattle.std.proofs.lemmas.List.{append-nil, map-append}
use Rattle.assembler_reading.specs.Expressions.{Lookup}
use Rattle.assembler_reading.specs.Labels.{Entries}
use Rattle.assembler.specs.assembled.Laws.{LabelsMoveNothing}
use Rattle.assembler.specs.assembled.Pieces.{AreInPlace, HaveOwnLabels, IsPiece, Piece, bytes_of_pieces}
use Rattle.assembler.specs.assembled.Programs.{AreLaidOut}
use Rattle.assembler.proofs.AssembledLemmas.Forms.{Form, form_of, piece_form, piece_forms}
use Rattle.assembler.proofs.AssembledLemmas.LaidOut.{in_place_more, is_piece, piece_is, texts_of}
use Rattle.assembler.proofs.AssembledLemmas.Parts.{piece_of}
use Rattle.assembler.proofs.AssembledLemmas.Splits.{Split, one_more, split_map}
use Rattle.assembler.proofs.AssembledLemmas.Tables.{entries_of, entry}

-- what the forms of pieces show
total : List Form → ℕ
total [] = 0
total (f ∷ fs) = f.size + total fs

size_of : (qs : List Piece) → length (bytes_of_pieces qs) ≡ total (map form_of qs)
unfolding total
size_of [] = refl
size_of (q ∷ qs) = length-append q.bytes (bytes_of_pieces qs) ∙ ap (λ (n : ℕ). length q.bytes + n) (size_of qs)

lines_of : List Form → List (List ℕ)
lines_of fs = map (λ f. f.text) fs

texts_are : (qs : List Piece) → texts_of qs ≡ lines_of (map form_of qs)
unfolding lines_of
texts_are [] = refl
texts_are (q ∷ qs) = ap (λ (ts : List (List ℕ)). q.text ∷ ts) (texts_are qs)

entries_in : List Form → Entries
entries_in [] = []
entries_in (f ∷ fs) = entry f.label f.address ++ entries_in fs

entries_are : (qs : List Piece) → entries_of qs ≡ entries_in (map form_of qs)
unfolding entries_in
entries_are [] = refl
entries_are (q ∷ qs) = ap (λ (es : Entries). entry q.label q.address ++ es) (entries_are qs)

-- pieces of the same forms
pub record AreAlike (qs rs : List Piece) : Type 0 where
  pub forms : map form_of qs ≡ map form_of rs

pub same_size : (qs rs : List Piece) → AreAlike qs rs → length (bytes_of_pieces qs) ≡ length (bytes_of_pieces rs)
same_size qs rs alike = size_of qs ∙ ap total alike.forms ∙ sym (size_of rs)

pub same_texts : (qs rs : List Piece) → AreAlike qs rs → texts_of qs ≡ texts_of rs
same_texts qs rs alike = texts_are qs ∙ ap lines_of alike.forms ∙ sym (texts_are rs)

pub same_entries : (qs rs : List Piece) → AreAlike qs rs → entries_of qs ≡ entries_of rs
same_entries qs rs alike = entries_are qs ∙ ap entries_in alike.forms ∙ sym (entries_are rs)

-- Labels that are one piece's each are so in the other list.
same_owners : (qs rs : List Piece) → AreAlike qs rs → HaveOwnLabels qs → HaveOwnLabels rs
same_owners qs rs alike own before between after q r e same =
    let first : Split form_of qs (map form_of before) (form_of q) (map form_of (between ++ (r ∷ after)))
    = split_map form_of qs (map form_of before) (form_of q) (map form_of (between ++ (r ∷ after)))
    (alike.forms ∙ ap (map form_of) e ∙ map-append form_of before (q ∷ (between ++ (r ∷ after)))) in
    let second : Split form_of first.back (map form_of between) (form_of r) (map form_of after)
    = split_map form_of first.back (map form_of between) (form_of r) (map form_of after) (first.backs ∙ map-append form_of between (r ∷ after)) in
    let at_q : first.element.label ≡ q.label = ap (λ (f : Form). f.label) first.image in
    let at_r : second.element.label ≡ r.label = ap (λ (f : Form). f.label) second.image in
    let whole : qs ≡ first.front ++ (first.element ∷ (second.front ++ (second.element ∷ second.back)))
    = first.whole ∙ ap (λ (ps : List Piece). first.front ++ (first.element ∷ ps)) second.whole in
    sym at_q ∙ own first.front second.front second.back first.element second.element whole (at_q ∙ same ∙ sym at_r)

-- One line under other labels has a piece of the same form.
pub record Again (labels : Lookup) (origin place : ℕ) (q : Piece) : Type 0 where
  pub piece : Piece
  pub form : form_of q ≡ form_of piece
  pub is : IsPiece labels origin place piece

pub again : (k l : Lookup) (origin place : ℕ) (q : Piece) → IsPiece k origin place q → Again l origin place q
again k l origin place q is =
    by (piece_of l origin place q.text) refl (ap piece_form (sym (piece_is k origin place q is)) ∙ piece_forms k l origin place q.text)
  where
    by : (o : Option Piece) → piece_of l origin place q.text ≡ o → Some (form_of q) ≡ piece_form (piece_of l origin place q.text) → Again l origin place q
    by None there e = let no : Some (form_of q) ≡ piece_form None = e ∙ ap piece_form there in absurd (cc)
    by (Some r) there e =
        let same : Some (form_of q) ≡ Some (form_of r) = e ∙ ap piece_form there in
        let form : form_of q ≡ form_of r = cc in
        record { piece = r; form = form; is = is_piece l origin place q.text r there }

pub labels_move_nothing : LabelsMoveNothing
labels_move_nothing k l origin place q is =
    let a : Again l origin place q = again k l origin place q is in (
      a.piece,
      (
        record {
          text = ap (λ (f : Form). f.text) (sym a.form);
          label = ap (λ (f : Form). f.label) (sym a.form);
          address = ap (λ (f : Form). f.address) (sym a.form);
          size = ap (λ (f : Form). f.size) (sym a.form);
        },
        a.is,
      ),
    )

-- all lines under other labels
pub record AllAgain (labels : Lookup) (origin : ℕ) (qs : List Piece) : Type 0 where
  pub pieces : List Piece
  pub alike : AreAlike qs pieces
  pub in_place : AreInPlace labels origin pieces

alike_more : (qs rs : List Piece) (q r : Piece) → AreAlike qs rs → form_of q ≡ form_of r → AreAlike (qs ++ (q ∷ [])) (rs ++ (r ∷ []))
alike_more qs rs q r alike same = record {
  forms = map-append form_of qs (q ∷ []) ∙ both ∙ sym (map-append form_of rs (r ∷ []));
}
  where
    both : map form_of qs ++ (form_of q ∷ []) ≡ map form_of rs ++ (form_of r ∷ [])
    both = λ i. alike.forms i ++ (same i ∷ [])

-- Those of `done` have their pieces, and the others get them.
go_on : (k l : Lookup) (origin : ℕ) (qs seen done : List Piece) → AreInPlace k origin (seen ++ qs) → AreAlike seen done → AreInPlace l origin done
    → AllAgain l origin (seen ++ qs)
go_on k l origin [] seen done are alike placed =
    record { pieces = done; alike = record { forms = ap (map form_of) (append-nil seen) ∙ alike.forms }; in_place = placed }
go_on k l origin (q ∷ qs) seen done are alike placed =
    let same : length (bytes_of_pieces seen) ≡ length (bytes_of_pieces done) = same_size seen done alike in
    let here : IsPiece k origin (length (bytes_of_pieces done)) q = subst (λ (n : ℕ). IsPiece k origin n q) same (are seen qs q refl) in
    let a : Again l origin (length (bytes_of_pieces done)) q = again k l origin (length (bytes_of_pieces done)) q here in
    let moved : (seen ++ (q ∷ [])) ++ qs ≡ seen ++ (q ∷ qs) = one_more seen q qs in
    subst (AllAgain l origin) moved
    (go_on k l origin qs (seen ++ (q ∷ [])) (done ++ (a.piece ∷ [])) (subst (AreInPlace k origin) (sym moved) are)
    (alike_more seen done q a.piece alike a.form) (in_place_more l origin done a.piece placed a.is))

no_places : (l : Lookup) (origin : ℕ) → AreInPlace l origin []
no_places l origin [] after q e = absurd (cc)
no_places l origin (b ∷ before) after q e = absurd (cc)

pub all_again : (k l : Lookup) (origin : ℕ) (qs : List Piece) → AreInPlace k origin qs → AllAgain l origin qs
all_again k l origin qs are = go_on k l origin qs [] [] are (record { forms = refl }) (no_places l origin)

-- a layout under other labels
pub record LaidAgain (labels : Lookup) (origin : ℕ) (texts : List (List ℕ)) (qs : List Piece) : Type 0 where
  pub pieces : List Piece
  pub alike : AreAlike qs pieces
  pub laid_out : AreLaidOut labels origin texts pieces

pub laid_again : (k l : Lookup) (origin : ℕ) (texts : List (List ℕ)) (qs : List Piece) → AreLaidOut k origin texts qs → LaidAgain l origin texts qs
laid_again k l origin texts qs laid =
    let a : AllAgain l origin qs = all_again k l origin qs laid.in_place in
    let size : length (bytes_of_pieces qs) ≡ length (bytes_of_pieces a.pieces) = same_size qs a.pieces a.alike in
    record {
      pieces = a.pieces;
      alike = a.alike;
      laid_out = record {
        lines = sym (same_texts qs a.pieces a.alike) ∙ laid.lines;
        in_place = a.in_place;
        own_labels = same_owners qs a.pieces a.alike laid.own_labels;
        fits = record { size = subst (λ (n : ℕ). n ≤ 1048576) size laid.fits.size; within = subst (λ (n : ℕ). origin + n ≤ 2 ^ 26) size laid.fits.within };
      };
    }
