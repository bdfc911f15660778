-- The loop over the terms of an expression.
use Rattle.std.proofs.Common.{◌≡◌, ◌<◌, ◌≤◌, ◌+◌, ◌-◌, ℕ, suc, Bool, List, Some, None, refl, arith}
use Rattle.assembler_text.specs.naming.Expressions.{Lookup, Value, sum_or_difference, more_terms, sign, term}

pub terms_end : (count i : ℕ) (labels : Lookup) (sum : Value) (text : List ℕ) → count ≤ i → more_terms (count - i) labels sum text ≡ Some (sum, text)
unfolding more_terms
terms_end count i labels sum text h = let k : count - i ≡ 0 = omega arith in rw k refl

pub no_sign : (count i : ℕ) (labels : Lookup) (sum : Value) (text : List ℕ) → i < count → None ≡ sign text
    → more_terms (count - i) labels sum text ≡ Some (sum, text)
unfolding more_terms
no_sign count i labels sum text h e = let k : count - i ≡ suc (count - (i + 1)) = omega arith in rw (k, ← e) refl

pub no_term : (count i : ℕ) (labels : Lookup) (sum : Value) (text after : List ℕ) (is_minus : Bool) → i < count → Some (is_minus, after) ≡ sign text
    → None ≡ term labels after → more_terms (count - i) labels sum text ≡ None
unfolding more_terms
no_term count i labels sum text after is_minus h e t = let k : count - i ≡ suc (count - (i + 1)) = omega arith in rw (k, ← e, ← t) refl

pub one_term : (count i : ℕ) (labels : Lookup) (sum value : Value) (text after next : List ℕ) (is_minus : Bool) → i < count
    → Some (is_minus, after) ≡ sign text → Some (value, next) ≡ term labels after
    → more_terms (count - i) labels sum text ≡ more_terms (count - (i + 1)) labels (sum_or_difference is_minus sum value) next
unfolding more_terms
one_term count i labels sum value text after next is_minus h e r = let k : count - i ≡ suc (count - (i + 1)) = omega arith in rw (k, ← e, ← r) refl

pub ruleset term_steps = (terms_end, no_sign, no_term, one_term)
