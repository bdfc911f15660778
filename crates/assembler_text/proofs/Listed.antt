-- The loop over the registers of a list.
use Rattle.std.proofs.Common.{◌≡◌, ◌<◌, ◌≤◌, ◌+◌, ◌-◌, ℕ, Bool, true, false, not, ◌&&◌, suc, List, [], ◌++◌, Option, refl, sym, subst, arith}
use Rattle.std.specs.Prelude.{codes}
use Rattle.std.specs.Io.KnownBytes.{Appends}
use Rattle.arm_decode.specs.Output.{AddsAllBut}
use Rattle.arm_decode.specs.Word.{bit_of}
use Rattle.arm_decode.proofs.OutputLemmas.{AddsAllBut-start, AddsAllBut-more, Appends-from_all_but}
use Rattle.assembler_text.specs.Names.{text_if}
use Rattle.assembler_text.specs.Transfers.{listed_from, listed_piece, listed_text, register_names_text}

-- the text of the registers from the n-th on
unfoldable pub listed_rest : ℕ → ℕ → Bool → List ℕ
listed_rest list n is_first = register_names_text (text_if (not is_first) (codes ",")) (listed_from list n)

pub listed_starts : (list : ℕ) → listed_rest list 0 true ≡ listed_text list
unfolding listed_rest listed_text
listed_starts list = refl

pub listed_ends : (list n : ℕ) (is_first : Bool) → 16 ≤ n → listed_rest list n is_first ≡ []
unfolding listed_rest
listed_ends list n is_first h = let k : 16 - n ≡ 0 = omega arith in rw k refl

pub listed_goes_on : (list n : ℕ) (is_first b : Bool) → n < 16 → bit_of list n ≡ b
    → listed_rest list n is_first ≡ listed_piece list n is_first ++ listed_rest list (n + 1) (is_first && not b)
unfolding listed_rest
listed_goes_on list n true true h e = let k : 16 - n ≡ suc (16 - (n + 1)) = omega arith in rw (k, e) refl
listed_goes_on list n false true h e = let k : 16 - n ≡ suc (16 - (n + 1)) = omega arith in rw (k, e) refl
listed_goes_on list n true false h e = let k : 16 - n ≡ suc (16 - (n + 1)) = omega arith in rw (k, e) refl
listed_goes_on list n false false h e = let k : 16 - n ≡ suc (16 - (n + 1)) = omega arith in rw (k, e) refl

pub listed_begins : (a : Option (List ℕ)) (list : ℕ) → AddsAllBut a a (listed_rest list 0 true) (listed_text list)
listed_begins a list = subst (λ (r : List ℕ). AddsAllBut a a r (listed_text list)) (sym (listed_starts list)) (AddsAllBut-start a (listed_text list))

pub listed_more : (a b c : Option (List ℕ)) (list n : ℕ) (is_first next : Bool) (all : List ℕ)
    → AddsAllBut a b (listed_rest list n is_first) all → Appends b c (listed_piece list n is_first) → n < 16
    → next ≡ (is_first && not (bit_of list n)) → AddsAllBut a c (listed_rest list (n + 1) next) all
listed_more a b c list n is_first next all done here h e =
    subst (λ (f : Bool). AddsAllBut a c (listed_rest list (n + 1) f) all) (sym e)
    (AddsAllBut-more a b c _ _ _ all done here (listed_goes_on list n is_first (bit_of list n) h refl))

pub listed_done : (a b : Option (List ℕ)) (list n : ℕ) (is_first : Bool) (all : List ℕ)
    → AddsAllBut a b (listed_rest list n is_first) all → 16 ≤ n → Appends a b all
listed_done a b list n is_first all done h = Appends-from_all_but a b _ all done (listed_ends list n is_first h)

pub ruleset listed_steps = (listed_begins, listed_more, listed_done)
