-- The words of a load placed in the registers of a list, one more at a time.
use Rattle.std.proofs.Common.{◌≡◌, ℕ, ◌+◌, ◌<◌, ◌≤◌, true, List, [], ◌∷◌, ◌++◌, length, take, get_or, refl, arith}
use Rattle.std.proofs.lemmas.List.{length-take-le, take_all, take_more}
use Rattle.arm_core.specs.Word.{bit_of}
use Rattle.arm_core.specs.Effect.{with_result_in}
use Rattle.arm_core.specs.Listed.{listed_below}
use Rattle.arm_core.specs.State.{State}
use Rattle.arm_core.specs.declared.psr.Mode.{Mode}
use Rattle.arm_core.proofs.Listing.{listed_with, listed_without, listed_none, listed_all, length_none, length_with, has_word}
use Rattle.arm_step.specs.Blocks.{with_loaded}

loaded_more : (m : Mode) (s : State) (rs ws : List ℕ) (r w : ℕ) → length rs ≡ length ws → with_loaded m s (rs ++ r ∷ []) (ws ++ w ∷ []) ≡ with_result_in m (with_loaded m s rs ws) r w
unfolding with_loaded
loaded_more m s [] [] r w h = refl
loaded_more m s [] (v ∷ ws) r w h = absurd (omega arith)
loaded_more m s (q ∷ rs) [] r w h = absurd (omega arith)
loaded_more m s (q ∷ rs) (v ∷ ws) r w h = let rest : length rs ≡ length ws = omega arith in loaded_more m (with_result_in m s q v) rs ws r w rest

pub placed_with : (m : Mode) (s : State) (list n i : ℕ) (ws : List ℕ) → bit_of list n ≡ true → i ≡ length (listed_below n list) → i < length ws
    → with_loaded m s (listed_below (n + 1) list) (take (i + 1) ws) ≡ with_result_in m (with_loaded m s (listed_below n list) (take i ws)) n (get_or ws i 0)
placed_with m s list n i ws e h g =
    let few : i ≤ length ws = omega arith in
    let same : length (listed_below n list) ≡ length (take i ws) = omega (arith, length-take-le i ws few) in
    rw (listed_with list n e, take_more ws i 0 g) (loaded_more m s (listed_below n list) (take i ws) n (get_or ws i 0) same)

pub placed_none : (m : Mode) (s : State) (list : ℕ) → with_loaded m s (listed_below 0 list) [] ≡ s
unfolding with_loaded listed_below
placed_none m s list = refl

pub ruleset placing = (placed_with, placed_none, listed_without, listed_none, listed_all, length_none, length_with, has_word, take_all)
