-- Pieces as they are laid out, one more at a time, and under other labels.
use Rattle.std.proofs.Common.{◌≡◌, ◌≢◌, ◌≤◌, ◌<◌, ℕ, ◌+◌, Bool, true, false, List, [], ◌∷◌, ◌++◌, length, map, Option, Some, None, refl, ap, sym, subst, ◌∙◌, ◌⊎◌, inl, inr, arith, length-append}
use Rattle.std.proofs.lemmas.Bool.Decides.{nat_tests}
use Rattle.std.proofs.lemmas.List.{append-nil, append_assoc, append_cancel_left, length-replicate, map-append}
use Rattle.std.proofs.lemmas.Grind.{flat_map-append}
use Rattle.std.specs.Prelude.{◌||◌, nat_lt, replicate, ◌^◌}
use Rattle.assembler_reading.specs.Expressions.{Lookup}
use Rattle.assembler_reading.specs.Words.{after_word, ◌>>=◌}
use Rattle.assembler.specs.Line.{Line, Statement, label_of, line}
use Rattle.assembler.specs.Passes.{is_program_too_long}
use Rattle.assembler.specs.assembled.Pieces.{AreInPlace, HaveOwnLabels, IsPiece, Piece, bytes_of_pieces, line_of_piece}
use Rattle.assembler.specs.assembled.Programs.{AreLaidOut, FitsMemory}
use Rattle.assembler.specs.assembled.Refusals.{IsTwice}
use Rattle.assembler.proofs.AssembledLemmas.Parts.{line_is, piece, piece_behind, piece_of, rest_part}
use Rattle.assembler.proofs.AssembledLemmas.Splits.{split_last}

-- The function of the place gives the pieces of a line, and no others.
pub piece_text : (labels : Lookup) (origin place : ℕ) (text : List ℕ) (q : Piece) → piece_of labels origin place text ≡ Some q → q.text ≡ text
unfolding piece_of
piece_text labels origin place text q e = by (label_of text) (rest_part labels origin place (after_word text)) e
  where
    by : (o : Option (List ℕ)) (p : Option Statement) → (o >>= λ name. p >>= λ s. Some (piece text name s)) ≡ Some q → q.text ≡ text
    by None p e = absurd (cc)
    by (Some name) None e = absurd (cc)
    by (Some name) (Some s) e = let same : piece text name s ≡ q = cc in ap (λ (r : Piece). r.text) (sym same)

pub is_piece : (labels : Lookup) (origin place : ℕ) (text : List ℕ) (q : Piece) → piece_of labels origin place text ≡ Some q
    → IsPiece labels origin place q
is_piece labels origin place text q e program long =
    ap (line labels origin program) (piece_text labels origin place text q e)
    ∙ line_is labels origin program text
    ∙ ap (λ (n : ℕ). piece_behind program (piece_of labels origin n text)) long
    ∙ ap (piece_behind program) e

same_piece : (program : List ℕ) (q r : Piece) → r.text ≡ q.text → line_of_piece program r ≡ line_of_piece program q → r ≡ q
same_piece program q r text e =
    let label : r.label ≡ q.label = ap (λ (l : Line). l.label) e in
    let address : r.address ≡ q.address = ap (λ (l : Line). l.statement.place) e in
    let bytes : r.bytes ≡ q.bytes = append_cancel_left program r.bytes q.bytes (ap (λ (l : Line). l.statement.written.bytes) e) in
    let fault : r.fault ≡ q.fault = ap (λ (l : Line). l.statement.written.fault) e in
    λ i. record { text = text i; label = label i; address = address i; bytes = bytes i; fault = fault i }

pub piece_is : (labels : Lookup) (origin place : ℕ) (q : Piece) → IsPiece labels origin place q → piece_of labels origin place q.text ≡ Some q
piece_is labels origin place q is =
    by (piece_of labels origin place q.text) refl (ap (λ (n : ℕ). piece_behind zeros (piece_of labels origin n q.text)) (sym long)
    ∙ sym (line_is labels origin zeros q.text) ∙ is zeros long)
  where
    zeros : List ℕ
    zeros = replicate place 0

    long : length zeros ≡ place
    long = length-replicate place 0

    by : (o : Option Piece) → piece_of labels origin place q.text ≡ o → piece_behind zeros o ≡ Some (line_of_piece zeros q) → o ≡ Some q
    by None there e = absurd (cc)
    by (Some r) there e =
        let same : line_of_piece zeros r ≡ line_of_piece zeros q = cc in
        ap (λ (x : Piece). Some x) (same_piece zeros q r (piece_text labels origin place q.text r there) same)

-- the bytes of pieces
pub bytes_more : (qs : List Piece) (q : Piece) → bytes_of_pieces (qs ++ (q ∷ [])) ≡ bytes_of_pieces qs ++ q.bytes
bytes_more qs q = flat_map-append (λ (r : Piece). r.bytes) qs (q ∷ []) ∙ ap (λ (bs : List ℕ). bytes_of_pieces qs ++ bs) (append-nil q.bytes)

-- What fits into memory, and the test of it.
pub fits_front : (origin : ℕ) (qs rs : List Piece) → FitsMemory origin (bytes_of_pieces (qs ++ rs)) → FitsMemory origin (bytes_of_pieces qs)
fits_front origin qs rs fits =
    let parts : length (bytes_of_pieces (qs ++ rs)) ≡ length (bytes_of_pieces qs) + length (bytes_of_pieces rs)
    = ap length (flat_map-append (λ (r : Piece). r.bytes) qs rs) ∙ length-append (bytes_of_pieces qs) (bytes_of_pieces rs) in
    let size : length (bytes_of_pieces qs) ≤ 1048576 = omega (arith, fits.size, parts) in
    let within : origin + length (bytes_of_pieces qs) ≤ 2 ^ 26 = omega (arith, fits.within, parts) in
    record { size = size; within = within }

pub fits_test : (origin : ℕ) (program : List ℕ) → FitsMemory origin program → is_program_too_long origin program ≡ false
fits_test origin program fits =
    let size : length program ≤ 1048576 = fits.size in
    let within : origin + length program ≤ 2 ^ 26 = fits.within in
    let short : nat_lt 1048576 (length program) ≡ false = grind (arith, nat_tests, size) in
    let low : nat_lt (2 ^ 26) (origin + length program) ≡ false = grind (arith, nat_tests, within) in
    rw (short, low) refl

tested : (origin n : ℕ) (program : List ℕ) → length program ≡ n → nat_lt 1048576 n ≡ false → nat_lt (2 ^ 26) (origin + n) ≡ false → FitsMemory origin program
tested origin n program e short low =
    let size : n ≤ 1048576 = grind (arith, nat_tests, short) in
    let within : origin + n ≤ 2 ^ 26 = grind (arith, nat_tests, low) in
    record { size = omega (arith, size, e); within = omega (arith, within, e) }

too_many : (n : ℕ) → nat_lt 1048576 n ≡ true → n ≤ 1048576 → ⊥
too_many n p le = let more : 1048576 < n = grind (arith, nat_tests, p) in omega (arith, more, le)

too_far : (n : ℕ) → nat_lt (2 ^ 26) n ≡ true → n ≤ 2 ^ 26 → ⊥
too_far n p le = let more : 2 ^ 26 < n = grind (arith, nat_tests, p) in omega (arith, more, le)

pub fits_or_not : (origin : ℕ) (program : List ℕ) → FitsMemory origin program ⊎ (FitsMemory origin program → ⊥)
fits_or_not origin program = by (nat_lt 1048576 (length program)) (nat_lt (2 ^ 26) (origin + length program)) refl refl
  where
    by : (a b : Bool) → nat_lt 1048576 (length program) ≡ a → nat_lt (2 ^ 26) (origin + length program) ≡ b
        → FitsMemory origin program ⊎ (FitsMemory origin program → ⊥)
    by true b p q = inr (λ fits. too_many (length program) p fits.size)
    by false true p q = inr (λ fits. too_far (origin + length program) q fits.within)
    by false false p q = inl (tested origin (length program) program refl p q)

pub unfit_test : (origin : ℕ) (program : List ℕ) → (FitsMemory origin program → ⊥) → is_program_too_long origin program ≡ true
unfit_test origin program unfit = by (nat_lt 1048576 (length program)) (nat_lt (2 ^ 26) (origin + length program)) refl refl
  where
    by : (a b : Bool) → nat_lt 1048576 (length program) ≡ a → nat_lt (2 ^ 26) (origin + length program) ≡ b → (a || b) ≡ true
    by true b p q = refl
    by false true p q = refl
    by false false p q = absurd (unfit (tested origin (length program) program refl p q))

-- one piece more
pub in_place_more : (labels : Lookup) (origin : ℕ) (qs : List Piece) (x : Piece) → AreInPlace labels origin qs
    → IsPiece labels origin (length (bytes_of_pieces qs)) x → AreInPlace labels origin (qs ++ (x ∷ []))
in_place_more labels origin qs x are is before after q e = elim (split_last qs x before q after e) [
  | inl last ↦ at last.all last.same
  | inr among ↦ are before among.rest q among.here
]
  where
    at : before ≡ qs → q ≡ x → IsPiece labels origin (length (bytes_of_pieces before)) q
    at all same =
        subst (λ (y : Piece). IsPiece labels origin (length (bytes_of_pieces before)) y) (sym same)
        (subst (λ (ps : List Piece). IsPiece labels origin (length (bytes_of_pieces ps)) x) (sym all) is)

-- the label is of none of the pieces
abbrev pub IsNew : List Piece → Piece → Type 0
IsNew qs x = (before after : List Piece) (q : Piece) → qs ≡ before ++ (q ∷ after) → q.label ≡ x.label → q.label ≡ []

pub is_new : (qs : List Piece) (x : Piece) → (IsTwice qs x → ⊥) → IsNew qs x
is_new qs x once before after q e same = by q.label refl
  where
    by : (label : List ℕ) → q.label ≡ label → q.label ≡ []
    by [] is = is
    by (c ∷ cs) is =
        let some : x.label ≢ [] = λ none. let no : q.label ≡ [] = same ∙ none in absurd (cc) in
        absurd (once (q.address, record { before = before; piece = q; after = after; among = e; label = same; some = some; at = refl }))

pub own_more : (qs : List Piece) (x : Piece) → HaveOwnLabels qs → IsNew qs x → HaveOwnLabels (qs ++ (x ∷ []))
own_more qs x own new before between after q r e same =
    elim (split_last qs x (before ++ (q ∷ between)) r after (e ∙ sym (append_assoc before (q ∷ between) (r ∷ after)))) [
      | inl last ↦ new before between q (sym last.all) (same ∙ ap (λ (p : Piece). p.label) last.same)
      | inr among ↦ own before between among.rest q r (among.here ∙ append_assoc before (q ∷ between) (r ∷ among.rest)) same
    ]

texts_more : (qs : List Piece) (x : Piece) → map (λ q. q.text) (qs ++ (x ∷ [])) ≡ map (λ q. q.text) qs ++ (x.text ∷ [])
texts_more qs x = map-append (λ (q : Piece). q.text) qs (x ∷ [])

abbrev pub texts_of : List Piece → List (List ℕ)
texts_of qs = map (λ q. q.text) qs

pub laid_more : (labels : Lookup) (origin : ℕ) (qs : List Piece) (x : Piece) → AreLaidOut labels origin (texts_of qs) qs
    → IsPiece labels origin (length (bytes_of_pieces qs)) x → (IsTwice qs x → ⊥) → FitsMemory origin (bytes_of_pieces qs ++ x.bytes)
    → AreLaidOut labels origin (texts_of (qs ++ (x ∷ []))) (qs ++ (x ∷ []))
laid_more labels origin qs x laid is once fits = record {
  lines = refl;
  in_place = in_place_more labels origin qs x laid.in_place is;
  own_labels = own_more qs x laid.own_labels (is_new qs x once);
  fits = subst (FitsMemory origin) (sym (bytes_more qs x)) fits;
}

-- no pieces
pub none_laid : (labels : Lookup) (origin : ℕ) → origin ≤ 2 ^ 26 → AreLaidOut labels origin [] []
none_laid labels origin low = record {
  lines = refl;
  in_place = λ before after q e. no_element before after q e;
  own_labels = λ before between after q r e same. no_element before (between ++ (r ∷ after)) q e;
  fits = record { size = omega arith; within = omega arith };
}
  where
    no_element : {P : Type 0} (before after : List Piece) (q : Piece) → [] ≡ before ++ (q ∷ after) → P
    no_element [] after q e = absurd (cc)
    no_element (b ∷ before) after q e = absurd (cc)
