-- What undoing a line leaves.
use Rattle.std.proofs.Common.{◌≡◌, ◌≢◌, ◌<◌, ◌≤◌, ℕ, Bool, true, false, zero, suc, ◌+◌, ◌&&◌, ◌==◌, List, [], ◌∷◌, ◌++◌, length, refl, sym, ◌∙◌, ap, arith, if◌then◌else◌}
use Rattle.std.proofs.lemmas.Bool.Decides.{nat_tests}
use Rattle.debug_history.specs.Laws.{AllOfLine, EndsOtherwise, UndoIsUndo}
use Rattle.debug_history.specs.Past.{acts_before_line}
use Rattle.debug_history.specs.declared.act.Act.{Act}
use Rattle.debug_history.proofs.StepLemmas.{never_none}

same_line : (a b : ℕ) → a ≡ b → (a == b) ≡ true
same_line a b e = grind (arith, nat_tests, e)

other_line : (a b : ℕ) → a ≢ b → (a == b) ≡ false
other_line a b e = grind (arith, nat_tests, e)

-- acts that are all of the line go
first_of_line : (line : ℕ) (act : Act) (rest : List Act) → AllOfLine line (act ∷ rest) → act.line ≡ line
first_of_line line act rest all = all [] rest act refl

rest_of_line : (line : ℕ) (act : Act) (rest : List Act) → AllOfLine line (act ∷ rest) → AllOfLine line rest
rest_of_line line act rest all = λ before after x e. all (act ∷ before) after x (ap (λ (xs : List Act). act ∷ xs) e)

all_gone : (line : ℕ) (done : List Act) → AllOfLine line done → acts_before_line line done ≡ []
unfolding acts_before_line
all_gone line [] all = refl
all_gone line (act ∷ rest) all =
    ap (λ (before : List Act). if (length before == 0) && (act.line == line) then [] else act ∷ before)
    (all_gone line rest (rest_of_line line act rest all))
    ∙ ap (λ (b : Bool). if true && b then [] else act ∷ []) (same_line act.line line (first_of_line line act rest all))

rest_ends : (line : ℕ) (act : Act) (rest : List Act) → EndsOtherwise line (act ∷ rest) → EndsOtherwise line rest
rest_ends line act rest ends = λ before x e. ends (act ∷ before) x (ap (λ (xs : List Act). act ∷ xs) e)

pub undo_undoes : UndoIsUndo
unfolding acts_before_line
undo_undoes [] done line ends all = all_gone line done all
undo_undoes (act ∷ []) done line ends all =
    ap (λ (before : List Act). if (length before == 0) && (act.line == line) then [] else act ∷ before) (all_gone line done all)
    ∙ ap (λ (b : Bool). if true && b then [] else act ∷ []) (other_line act.line line (ends [] act refl))
undo_undoes (act ∷ (next ∷ rest)) done line ends all =
    ap (λ (before : List Act). if (length before == 0) && (act.line == line) then [] else act ∷ before)
    (undo_undoes (next ∷ rest) done line (rest_ends line act (next ∷ rest) ends) all)
    ∙ ap (λ (b : Bool). if b && (act.line == line) then [] else act ∷ (next ∷ rest)) (never_none (length rest))
