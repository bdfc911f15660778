-- What follows after a reading is the same under all labels: readers of numbers and operands.
use Rattle.std.proofs.Common.{◌≡◌, ℕ, zero, suc, Bool, true, false, List, [], ◌∷◌, Option, Some, None, refl, ap, ◌∙◌}
use Rattle.std.specs.Prelude.{◌==◌, length, option_map, if◌then◌else◌}
use Rattle.assembler_reading.specs.Expressions.{Lookup, Value, expression, more_terms, named_term, next_term, numeral, sign, term}
use Rattle.assembler_reading.specs.Labels.{begins_with_digit, is_label}
use Rattle.assembler_reading.specs.Words.{after_word, word, ◌>>=◌}

-- what follows what was read
abbrev pub rest_of : {A : Type 0} → Option (A × List ℕ) → Option (List ℕ)
rest_of None = None
rest_of (Some r) = Some r.1

pub by_test : {A : Type 0} (b : Bool) (x y u v : Option (A × List ℕ)) → rest_of x ≡ rest_of u → rest_of y ≡ rest_of v
    → rest_of (if b then x else y) ≡ rest_of (if b then u else v)
by_test true x y u v first second = first
by_test false x y u v first second = second

-- one reading after another
pub rests_then : {A B : Type 0} (o p : Option (A × List ℕ)) (f g : A × List ℕ → Option (B × List ℕ)) → rest_of o ≡ rest_of p
    → ((a b : A) (rest : List ℕ) → rest_of (f (a, rest)) ≡ rest_of (g (b, rest))) → rest_of (o >>= f) ≡ rest_of (p >>= g)
rests_then None None f g same next = refl
rests_then None (Some s) f g same next = absurd (cc)
rests_then (Some r) None f g same next = absurd (cc)
rests_then (Some r) (Some s) f g same next =
    let e : r.1 ≡ s.1 = cc in
    next r.0 s.0 r.1 ∙ ap (λ (rest : List ℕ). rest_of (g (s.0, rest))) e

named_by : (d l : Bool) (n : Option ℕ) (x y : Value) (rest : List ℕ)
    → rest_of ((if d then option_map Some n else (if l then Some x else None)) >>= λ v. Some (v, rest))
    ≡ rest_of ((if d then option_map Some n else (if l then Some y else None)) >>= λ v. Some (v, rest))
named_by true l n x y rest = refl
named_by false true n x y rest = refl
named_by false false n x y rest = refl

named_rests : (k l : Lookup) (text : List ℕ) → rest_of (named_term k text) ≡ rest_of (named_term l text)
named_rests k l text =
    named_by (begins_with_digit (word text)) (is_label (word text)) (numeral 10 (word text)) (k (word text)) (l (word text)) (after_word text)

pub term_rests : (k l : Lookup) (text : List ℕ) → rest_of (term k text) ≡ rest_of (term l text)
unfolding term
term_rests k l [] = refl
term_rests k l (c ∷ rest) =
    by_test (c == 39) _ _ _ _ refl (by_test (c == 38) _ _ _ _ refl (named_rests k l (c ∷ rest)))

more_rests : (n : ℕ) (k l : Lookup) (a b : Value) (text : List ℕ) → rest_of (more_terms n k a text) ≡ rest_of (more_terms n l b text)
unfolding more_terms
more_rests zero k l a b text = refl
more_rests (suc n) k l a b text = by (sign text) (more_rests n k l)
  where
    by : (s : Option (Bool × List ℕ)) → ((v w : Value) (t : List ℕ) → rest_of (more_terms n k v t) ≡ rest_of (more_terms n l w t))
        → rest_of (next_term (more_terms n k) k a text s) ≡ rest_of (next_term (more_terms n l) l b text s)
    by None others = refl
    by (Some s) others = rests_then (term k s.1) (term l s.1) _ _ (term_rests k l s.1) (λ v w t. others _ _ t)

pub expression_rests : (k l : Lookup) (text : List ℕ) → rest_of (expression k text) ≡ rest_of (expression l text)
unfolding expression
expression_rests k l text =
    rests_then (term k text) (term l text) _ _ (term_rests k l text) (λ a b rest. more_rests (length rest) k l a b rest)

-- an expression and what is made of its value
pub made_rests : {A : Type 0} (k l : Lookup) (f g : Value → A) (text : List ℕ)
    → rest_of (expression k text >>= λ v. Some (f v.0, v.1)) ≡ rest_of (expression l text >>= λ v. Some (g v.0, v.1))
made_rests k l f g text = rests_then (expression k text) (expression l text) _ _ (expression_rests k l text) (λ a b rest. refl)
