-- A script's pieces, and the line feed behind the last.
use Rattle.std.proofs.Common.{◌≡◌, ◌<◌, ℕ, Bool, true, false, List, [], ◌∷◌, ◌++◌, length, take, slice_set, Option, None, Some, ap, sym, subst, refl, ◌∙◌}
use Rattle.std.proofs.lemmas.Grind.{take-set_at}
use Rattle.std.specs.Prelude.{◌==◌, not, option_map}
use Rattle.std.specs.Io.KnownBytes.{Consumes, IsAtEnd}
use Rattle.debug_program.specs.GoingOn.{is_open_behind, with_line_end}

behind_piece : (was_open : Bool) (piece rest : List ℕ)
    → with_line_end was_open (piece ++ rest) ≡ piece ++ with_line_end (is_open_behind was_open piece) rest
behind_piece was_open [] rest = refl
behind_piece was_open (b ∷ piece) rest = ap (λ (xs : List ℕ). b ∷ xs) (behind_piece (not (b == 10)) piece rest)

consumes_lines : (was_open : Bool) (old now : Option (List ℕ)) (piece : List ℕ) → Consumes old now piece
    → Consumes (option_map (with_line_end was_open) old) (option_map (with_line_end (is_open_behind was_open piece)) now) piece
consumes_lines was_open None now piece taken = tt
consumes_lines was_open (Some xs) None piece taken = absurd taken
consumes_lines was_open (Some xs) (Some ys) piece taken = ap (with_line_end was_open) taken ∙ behind_piece was_open piece ys

consumes_end : (old now : Option (List ℕ)) → Consumes old now [] → IsAtEnd now
    → Consumes (option_map (with_line_end true) old) (option_map (with_line_end false) now) (10 ∷ [])
consumes_end None now taken end = tt
consumes_end (Some xs) None taken end = absurd taken
consumes_end (Some xs) (Some ys) taken end =
    ap (with_line_end true) (taken ∙ end) ∙ ap (λ (zs : List ℕ). 10 ∷ zs) (ap (with_line_end false) (sym end))

-- a piece that was given, where it is known how a line stands behind it
pub consumes_piece : (was_open is_open : Bool) (old now : Option (List ℕ)) (piece : List ℕ) → is_open ≡ is_open_behind was_open piece
    → Consumes old now piece
    → Consumes (option_map (with_line_end was_open) old) (option_map (with_line_end is_open) now) piece
consumes_piece was_open is_open old now piece is taken =
    subst (λ (b : Bool). Consumes (option_map (with_line_end was_open) old) (option_map (with_line_end b) now) piece) (sym is)
    (consumes_lines was_open old now piece taken)

-- the line feed that is given behind the last piece
pub consumes_line_feed : (is_open : Bool) (old now : Option (List ℕ)) (count : ℕ) (buffer : List ℕ) → is_open ≡ true → count ≡ 0
    → 0 < length buffer → Consumes old now (take count buffer) → (count ≡ 0 → 0 < length buffer → IsAtEnd now)
    → Consumes (option_map (with_line_end is_open) old) (option_map (with_line_end false) now) (take 1 (slice_set buffer 0 10))
consumes_line_feed is_open old now count buffer is none within taken ends =
    let first : take 1 (slice_set buffer 0 10) ≡ 10 ∷ [] = take-set_at buffer 0 1 10 refl within in
    let nothing : Consumes old now [] = subst (λ (n : ℕ). Consumes old now (take n buffer)) none taken in
    subst (λ (xs : List ℕ). Consumes (option_map (with_line_end is_open) old) (option_map (with_line_end false) now) xs) (sym first)
    (subst (λ (b : Bool). Consumes (option_map (with_line_end b) old) (option_map (with_line_end false) now) (10 ∷ [])) (sym is)
    (consumes_end old now nothing (ends none within)))
