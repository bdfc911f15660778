-- Lists that are made of the items of others.
use Rattle.std.proofs.Common.{◌≡◌, ◌⊎◌, ℕ, ◌<◌, List, [], ◌∷◌, ◌++◌, Contains, slice_index_or, refl, sym, subst, arith, inl, inr}
use Rattle.std.proofs.lemmas.List.Elements.{Contains-append_cases, Contains-append_left, Contains-append_right, Contains-push}
use Rattle.std.specs.List.{flat_map}

pub none_in : {X : Type 0} (x : X) → Contains [] x → ⊥
none_in x h = let inside = h.1 in omega arith

one_item : {X : Type 0} (y x : X) → Contains (y ∷ []) x → x ≡ y
one_item y x h =
    let inside = h.1 in
    let first : h.0 ≡ 0 = omega arith in
    sym (subst (λ (k : ℕ). slice_index_or (y ∷ []) k x ≡ x) first h.2)

pub first_or_later : {X : Type 0} (y : X) (ys : List X) (x : X) → Contains (y ∷ ys) x → (x ≡ y) ⊎ Contains ys x
first_or_later y ys x h = elim (Contains-append_cases (y ∷ []) ys x h) [
  | inl here ↦ inl (one_item y x here)
  | inr later ↦ inr later
]

-- what is made of each item, one after another
pub in_all : {X Y : Type 0} (make : X → List Y) (xs : List X) (x : X) (y : Y) → Contains xs x → Contains (make x) y → Contains (flat_map make xs) y
in_all make [] x y h in_one = absurd (none_in x h)
in_all make (z ∷ zs) x y h in_one = elim (first_or_later z zs x h) [
  | inl here ↦ Contains-append_left (make z) (flat_map make zs) y (subst (λ w. Contains (make w) y) here in_one)
  | inr later ↦ Contains-append_right (make z) (flat_map make zs) y (in_all make zs x y later in_one)
]

pub record IsMadeOf {X Y : Type 0} (make : X → List Y) (xs : List X) (y : Y) : Type 0 where
  pub item : X
  pub there : Contains xs item
  pub made : Contains (make item) y

pub made_of : {X Y : Type 0} (make : X → List Y) (xs : List X) (y : Y) → Contains (flat_map make xs) y → IsMadeOf make xs y
made_of make [] y h = absurd (none_in y h)
made_of make (z ∷ zs) y h = elim (Contains-append_cases (make z) (flat_map make zs) y h) [
  | inl here ↦ record { item = z; there = Contains-append_left (z ∷ []) zs z (Contains-push [] z); made = here }
  | inr later ↦
      let of_rest = made_of make zs y later in
      record { item = of_rest.item; there = Contains-append_right (z ∷ []) zs of_rest.item of_rest.there; made = of_rest.made }
]
