-- How many items of a list pass a test.
use Rattle.std.proofs.Common.{◌≡◌, ℕ, ◌+◌, ◌≤◌, Bool, true, false, List, [], ◌∷◌, ◌++◌, map, refl, ap, inl, inr, cond, zero, suc, arith}
use Rattle.std.specs.List.{list_any}
use Rattle.std.specs.Str.{str_eq_ignore_ascii_case, str_to_ascii_lowercase, bytes_eq}
use Rattle.std.proofs.lemmas.Slice.Eq.{bytes_eq-Decides}
use Rattle.std.proofs.lemmas.Bool.{cases_Bool, or_parts}
use Rattle.instances_table.specs.Modules.{number_passing, changed_at}
use Rattle.instances_table.specs.Changes.{without_first_passing}

pub count_push : {X : Type 0} (p : X → Bool) (xs : List X) (y : X) → number_passing p (xs ++ y ∷ []) ≡ number_passing p xs + cond (p y) 1 0
count_push p [] y = omega arith
count_push p (x ∷ xs) y = omega (arith, count_push p xs y)

pub count_none : {X : Type 0} (p : X → Bool) (xs : List X) → list_any p xs ≡ false → number_passing p xs ≡ 0
count_none p [] none = refl
count_none p (x ∷ xs) none =
    let parts = or_parts (p x) (list_any p xs) none in
    rw (parts.0, count_none p xs parts.1) refl

pub count_some : {X : Type 0} (p : X → Bool) (xs : List X) → list_any p xs ≡ true → 1 ≤ number_passing p xs
count_some p [] some = absurd (let e : false ≡ true = some in cc)
count_some p (x ∷ xs) some =
    elim (cases_Bool (p x)) [
      | inl e ↦ rw e (omega arith)
      | inr e ↦ rw e (omega (arith, count_some p xs (rw e at some)))
    ]

pub none_counted : {X : Type 0} (p : X → Bool) (xs : List X) → number_passing p xs ≡ 0 → list_any p xs ≡ false
none_counted p xs none =
    elim (cases_Bool (list_any p xs)) [
      | inl e ↦ absurd (omega (arith, count_some p xs e))
      | inr e ↦ e
    ]

pub count_same : {X : Type 0} (p q : X → Bool) (xs : List X) → ((x : X) → p x ≡ q x) → number_passing p xs ≡ number_passing q xs
count_same p q [] same = refl
count_same p q (x ∷ xs) same = rw (same x, count_same p q xs same) refl

pub count-map : {X Y : Type 0} (f : X → Y) (p : Y → Bool) (xs : List X) → number_passing p (map f xs) ≡ number_passing (λ x. p (f x)) xs
count-map f p [] = refl
count-map f p (x ∷ xs) = ap (λ n. cond (p (f x)) 1 0 + n) (count-map f p xs)

pub count_changed : {X : Type 0} (p : X → Bool) (change : X → X) (k : ℕ) (xs : List X) → ((x : X) → p (change x) ≡ p x)
    → number_passing p (changed_at k change xs) ≡ number_passing p xs
count_changed p change k [] same = refl
count_changed p change zero (x ∷ xs) same = rw (same x) refl
count_changed p change (suc k) (x ∷ xs) same = ap (λ n. cond (p x) 1 0 + n) (count_changed p change k xs same)

pub count_without : {X : Type 0} (p test : X → Bool) (xs : List X) → number_passing p (without_first_passing test xs) ≤ number_passing p xs
count_without p test [] = omega arith
count_without p test (x ∷ xs) =
    elim (cases_Bool (test x)) [
      | inl e ↦ rw e (omega arith)
      | inr e ↦ rw e (omega (arith, count_without p test xs))
    ]

-- a name that is the same as another, but for case, is the name of the same items
pub same_letters : (a b : List ℕ) → str_eq_ignore_ascii_case a b ≡ true → str_to_ascii_lowercase a ≡ str_to_ascii_lowercase b
same_letters a b same = (bytes_eq-Decides (str_to_ascii_lowercase a) (str_to_ascii_lowercase b)).0 same

pub same_test : (a b x : List ℕ) → str_eq_ignore_ascii_case a b ≡ true → str_eq_ignore_ascii_case x a ≡ str_eq_ignore_ascii_case x b
same_test a b x same = ap (λ l. bytes_eq (str_to_ascii_lowercase x) l) (same_letters a b same)

-- one more of a name that none has yet
pub count_named : {X : Type 0} (name : X → List ℕ) (xs : List X) (y : X)
    → list_any (λ x. str_eq_ignore_ascii_case (name x) (name y)) xs ≡ false
    → ((n : List ℕ) → number_passing (λ x. str_eq_ignore_ascii_case (name x) n) xs ≤ 1)
    → (n : List ℕ) → number_passing (λ x. str_eq_ignore_ascii_case (name x) n) (xs ++ y ∷ []) ≤ 1
count_named name xs y none few n =
    let more = count_push (λ x. str_eq_ignore_ascii_case (name x) n) xs y in
    elim (cases_Bool (str_eq_ignore_ascii_case (name y) n)) [
      | inl e ↦
          let same : number_passing (λ x. str_eq_ignore_ascii_case (name x) (name y)) xs ≡ number_passing (λ x. str_eq_ignore_ascii_case (name x) n) xs =
          count_same _ _ xs (λ x. same_test (name y) n (name x) e) in
          let zero_of = count_none (λ x. str_eq_ignore_ascii_case (name x) (name y)) xs none in
          let m = rw e at more in
          omega (arith, m, same, zero_of)
      | inr e ↦
          let m = rw e at more in
          omega (arith, m, few n)
    ]
