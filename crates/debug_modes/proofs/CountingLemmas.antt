-- The loops over the words that are shown with their counts.
use Rattle.std.proofs.Common.{◌≡◌, ◌<◌, ◌≤◌, ◌+◌, ◌-◌, ◌%◌, ◌^◌, ℕ, suc, List, [], ◌++◌, Option, refl, sym, ap, subst, arith, ◌∙◌}
use Rattle.std.specs.Io.KnownBytes.{Appends}
use Rattle.profile.specs.Output.{AddsAllBut}
use Rattle.profile.proofs.OutputLemmas.{AddsAllBut-start, AddsAllBut-more, Appends-from_all_but}
use Rattle.address_map.specs.Bytes.{Bytes}
use Rattle.debug_tables.specs.counts.Counts.{CountTable}
use Rattle.debug_modes.specs.Counting.{counted_line, counted_lines, one_if_taken, words_taken}

one_line : (c : CountTable) (b : Bytes) (a n k : ℕ) → k < n
    → counted_lines c b a (n - k) ≡ counted_line c b a ++ counted_lines c b ((a + 4) % 2 ^ 32) (n - (k + 1))
one_line c b a n k h = let e : n - k ≡ suc (n - (k + 1)) = omega arith in rw e refl

no_line : (c : CountTable) (b : Bytes) (a n k : ℕ) → n ≤ k → counted_lines c b a (n - k) ≡ []
no_line c b a n k h = let e : n - k ≡ 0 = omega arith in rw e refl

pub lines_begin : (o : Option (List ℕ)) (c : CountTable) (b : Bytes) (a n : ℕ)
    → AddsAllBut o o (counted_lines c b a (n - 0)) (counted_lines c b a n)
lines_begin o c b a n = let e : n ≡ n - 0 = omega arith in
    subst (λ (m : ℕ). AddsAllBut o o (counted_lines c b a m) (counted_lines c b a n)) e (AddsAllBut-start o (counted_lines c b a n))

pub lines_more : (o p q : Option (List ℕ)) (c : CountTable) (b : Bytes) (a next n k : ℕ) (all : List ℕ)
    → AddsAllBut o p (counted_lines c b a (n - k)) all → Appends p q (counted_line c b a) → k < n → next ≡ (a + 4) % 2 ^ 32
    → AddsAllBut o q (counted_lines c b next (n - (k + 1))) all
lines_more o p q c b a next n k all done here h e =
    subst (λ (x : ℕ). AddsAllBut o q (counted_lines c b x (n - (k + 1))) all) (sym e)
    (AddsAllBut-more o p q _ _ _ all done here (one_line c b a n k h))

pub lines_done : (o p : Option (List ℕ)) (c : CountTable) (b : Bytes) (a n k : ℕ) (all : List ℕ)
    → AddsAllBut o p (counted_lines c b a (n - k)) all → n ≤ k → Appends o p all
lines_done o p c b a n k all done h = Appends-from_all_but o p _ all done (no_line c b a n k h)

pub ruleset line_steps = (lines_begin, lines_more, lines_done)

-- AT HOW MANY OF THEM STEPS WERE TAKEN

one_word : (c : CountTable) (a n k : ℕ) → k < n
    → words_taken c a (n - k) ≡ one_if_taken c a + words_taken c ((a + 4) % 2 ^ 32) (n - (k + 1))
one_word c a n k h = let e : n - k ≡ suc (n - (k + 1)) = omega arith in rw e refl

no_word : (c : CountTable) (a n k : ℕ) → n ≤ k → words_taken c a (n - k) ≡ 0
no_word c a n k h = let e : n - k ≡ 0 = omega arith in rw e refl

pub taken_begins : (c : CountTable) (a n : ℕ) → 0 + words_taken c a (n - 0) ≡ words_taken c a n
taken_begins c a n =
    let e : n - 0 ≡ n = omega arith in
    let none : 0 + words_taken c a (n - 0) ≡ words_taken c a (n - 0) = omega arith in
    none ∙ ap (words_taken c a) e

pub taken_more : (c : CountTable) (a next n k taken here all : ℕ) → taken + words_taken c a (n - k) ≡ all → here ≡ one_if_taken c a
    → k < n → next ≡ (a + 4) % 2 ^ 32 → (taken + here) + words_taken c next (n - (k + 1)) ≡ all
taken_more c a next n k taken here all done is h e =
    let first : taken + words_taken c a (n - k) ≡ taken + (one_if_taken c a + words_taken c ((a + 4) % 2 ^ 32) (n - (k + 1))) =
    ap (λ (m : ℕ). taken + m) (one_word c a n k h) in
    let rest : words_taken c next (n - (k + 1)) ≡ words_taken c ((a + 4) % 2 ^ 32) (n - (k + 1)) =
    ap (λ (x : ℕ). words_taken c x (n - (k + 1))) e in
    omega (arith, first, rest, is, done)

pub taken_done : (c : CountTable) (a n k taken all : ℕ) → taken + words_taken c a (n - k) ≡ all → n ≤ k → taken ≡ all
taken_done c a n k taken all done h = let none = no_word c a n k h in omega (arith, none, done)

pub ruleset taken_steps = (taken_begins, taken_more, taken_done)
