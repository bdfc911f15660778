-- A list without its first item that passes a test.
use Rattle.std.proofs.Common.{◌≡◌, ℕ, ◌<◌, Bool, true, false, List, [], ◌∷◌, length, get_or, refl, ap, zero, suc, Some, None, inl, inr, arith}
use Rattle.std.specs.List.{position, position_or_len, list_any, remove}
use Rattle.std.proofs.lemmas.Bool.{cases_Bool, or_parts, lt-ltb}
use Rattle.std.proofs.lemmas.List.Quantifiers.{position-Some}
use Rattle.instances_table.specs.Changes.{without_first_passing}

-- no place where an item passes
some_place : {X : Type 0} (p : X → Bool) (xs : List X) → list_any p xs ≡ true → position_or_len p xs < length xs
some_place p [] some = absurd (let e : false ≡ true = some in cc)
some_place p (x ∷ xs) some =
    elim (cases_Bool (p x)) [
      | inl e ↦ rw e (omega arith)
      | inr e ↦ rw e (omega (arith, some_place p xs (rw e at some)))
    ]

pub nowhere : {X : Type 0} (p : X → Bool) (xs : List X) → position p xs ≡ None → list_any p xs ≡ false
nowhere p xs none =
    elim (cases_Bool (list_any p xs)) [
      | inl e ↦
          let within = lt-ltb (position_or_len p xs) (length xs) (some_place p xs e) in
          let f = rw within at none in
          absurd (cc)
      | inr e ↦ e
    ]

same_without : {X : Type 0} (p : X → Bool) (xs : List X) → list_any p xs ≡ false → without_first_passing p xs ≡ xs
same_without p [] none = refl
same_without p (x ∷ xs) none =
    let parts = or_parts (p x) (list_any p xs) none in
    rw parts.0 (ap (λ ys. x ∷ ys) (same_without p xs parts.1))

pub without_none : {X : Type 0} (p : X → Bool) (xs : List X) → position p xs ≡ None → without_first_passing p xs ≡ xs
without_none p xs none = same_without p xs (nowhere p xs none)

without_at : {X : Type 0} (p : X → Bool) (xs : List X) (i : ℕ) (d : X) → i < length xs → p (get_or xs i d) ≡ true
    → ((k : ℕ) → k < i → p (get_or xs k d) ≡ false) → without_first_passing p xs ≡ remove xs i
without_at p [] i d within here before = absurd (omega arith)
without_at p (x ∷ xs) zero d within here before = rw here refl
without_at p (x ∷ xs) (suc i) d within here before =
    rw (before 0 (omega arith)) (ap (λ ys. x ∷ ys) (without_at p xs i d (omega arith) here (λ k less. before (suc k) (omega arith))))

pub without_place : (p : ℕ → Bool) (xs : List ℕ) (i : ℕ) → position p xs ≡ Some i → without_first_passing p xs ≡ remove xs i
without_place p xs i found =
    let first = position-Some p xs i 0 found in
    without_at p xs i 0 first.0 first.1 first.2
