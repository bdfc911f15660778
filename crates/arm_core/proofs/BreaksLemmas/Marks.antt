-- An address whose mark isn't set is no break.
use Rattle.std.proofs.Common.{◌≡◌, ◌==◌, ℕ, Bool, true, false, List, suc, take, drop, get_or, sym, arith}
use Rattle.std.specs.List.{remove}
use Rattle.std.proofs.lemmas.Bool.Decides.{nat_tests}
use Rattle.std.proofs.lemmas.List.Elements.{All-weaker, All-same, All-append, All-take, All-drop}
use Rattle.std.proofs.lemmas.List.Folds.{list_any_none}
use Rattle.arm_core.specs.breaks.Breaks.{mark_place_of, is_among, AreBreaksMarked}

other_address : (marks : List Bool) (a b : ℕ) → get_or marks (mark_place_of a) false ≡ false → get_or marks (mark_place_of b) false ≡ true → (b == a) ≡ false
other_address marks a b clear set = grind (arith, nat_tests, clear, set)

pub not_among : (marks : List Bool) (breaks : List ℕ) (a : ℕ) → AreBreaksMarked marks breaks → get_or marks (mark_place_of a) false ≡ false
    → false ≡ is_among breaks a
unfolding is_among
not_among marks breaks a marked clear =
    sym (list_any_none (λ b. b == a) breaks (All-weaker (λ b. get_or marks (mark_place_of b) false ≡ true) (λ b. (b == a) ≡ false) (λ b set. other_address marks a b clear set) breaks marked))

-- a break that is taken away leaves the others marked
pub still_marked : (marks : List Bool) (breaks rest : List ℕ) (k : ℕ) → AreBreaksMarked marks breaks → rest ≡ remove breaks k → AreBreaksMarked marks rest
still_marked marks breaks rest k marked e =
    let P : ℕ → Type 0 = λ a. get_or marks (mark_place_of a) false ≡ true in
    All-same P rest (remove breaks k) e (All-append P (take k breaks) (drop (suc k) breaks) (All-take P k breaks marked) (All-drop P (suc k) breaks marked))
