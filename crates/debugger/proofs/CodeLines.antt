-- The loop over the words that are shown.
use Rattle.std.proofs.Common.{◌≡◌, ◌<◌, ◌≤◌, ◌+◌, ◌-◌, ◌%◌, ◌^◌, ℕ, suc, List, [], ◌++◌, Option, refl, sym, subst, arith}
use Rattle.std.specs.Io.KnownBytes.{Appends}
use Rattle.swi_dispatch_guest.specs.Output.{AddsAllBut}
use Rattle.swi_dispatch_guest.proofs.OutputLemmas.{AddsAllBut-start, AddsAllBut-more, Appends-from_all_but}
use Rattle.swi_dispatch_guest.specs.Bytes.{Bytes}
use Rattle.debugger.specs.Code.{code_line, code_text}

pub one_line : (b : Bytes) (a n k : ℕ) → k < n
    → code_text b a (n - k) ≡ code_line b a ++ code_text b ((a + 4) % 2 ^ 32) (n - (k + 1))
one_line b a n k h = let e : n - k ≡ suc (n - (k + 1)) = omega arith in rw e refl

pub no_line : (b : Bytes) (a n k : ℕ) → n ≤ k → code_text b a (n - k) ≡ []
no_line b a n k h = let e : n - k ≡ 0 = omega arith in rw e refl

pub code_begins : (o : Option (List ℕ)) (b : Bytes) (a n : ℕ) → AddsAllBut o o (code_text b a (n - 0)) (code_text b a n)
code_begins o b a n = let e : n ≡ n - 0 = omega arith in
    subst (λ (m : ℕ). AddsAllBut o o (code_text b a m) (code_text b a n)) e (AddsAllBut-start o (code_text b a n))

pub code_more : (o p q : Option (List ℕ)) (b : Bytes) (a next n k : ℕ) (all : List ℕ)
    → AddsAllBut o p (code_text b a (n - k)) all → Appends p q (code_line b a) → k < n → next ≡ (a + 4) % 2 ^ 32
    → AddsAllBut o q (code_text b next (n - (k + 1))) all
code_more o p q b a next n k all done here h e =
    subst (λ (x : ℕ). AddsAllBut o q (code_text b x (n - (k + 1))) all) (sym e)
    (AddsAllBut-more o p q _ _ _ all done here (one_line b a n k h))

pub code_done : (o p : Option (List ℕ)) (b : Bytes) (a n k : ℕ) (all : List ℕ)
    → AddsAllBut o p (code_text b a (n - k)) all → n ≤ k → Appends o p all
code_done o p b a n k all done h = Appends-from_all_but o p _ all done (no_line b a n k h)

pub ruleset code_steps = (code_begins, code_more, code_done)
