-- Lists taken apart at an element.
use Rattle.std.proofs.Common.{◌≡◌, ◌⊎◌, List, [], ◌∷◌, ◌++◌, map, refl, ap, sym, ◌∙◌, inl, inr}
use Rattle.std.proofs.lemmas.List.{append_assoc}

-- the element at which a list with one more at its end is taken apart is that last one
pub record IsLast {A : Type 0} (xs : List A) (x : A) (before : List A) (q : A) (after : List A) : Type 0 where
  pub all : before ≡ xs
  pub same : q ≡ x
  pub none : after ≡ []

-- or it is one of the others
pub record IsAmong {A : Type 0} (xs : List A) (x : A) (before : List A) (q : A) (after : List A) : Type 0 where
  pub rest : List A
  pub here : xs ≡ before ++ (q ∷ rest)
  pub there : after ≡ rest ++ (x ∷ [])

pub split_last : {A : Type 0} (xs : List A) (x : A) (before : List A) (q : A) (after : List A) → xs ++ (x ∷ []) ≡ before ++ (q ∷ after)
    → IsLast xs x before q after ⊎ IsAmong xs x before q after
split_last [] x [] q after e =
    let same : q ≡ x = cc in let none : after ≡ [] = cc in
    inl (record { all = refl; same = same; none = none })
split_last [] x (b ∷ []) q after e = absurd (cc)
split_last [] x (b ∷ (c ∷ bs)) q after e = absurd (cc)
split_last (y ∷ ys) x [] q after e =
    let first : y ≡ q = cc in
    let there : after ≡ ys ++ (x ∷ []) = cc in
    inr (record { rest = ys; here = ap (λ z. z ∷ ys) first; there = there })
split_last (y ∷ ys) x (b ∷ bs) q after e =
    let first : y ≡ b = cc in
    let more : ys ++ (x ∷ []) ≡ bs ++ (q ∷ after) = cc in
    elim (split_last ys x bs q after more) [
      | inl last ↦ inl (record { all = ap (λ zs. b ∷ zs) last.all ∙ ap (λ z. z ∷ ys) (sym first); same = last.same; none = last.none })
      | inr among ↦ inr (record { rest = among.rest; here = ap (λ z. z ∷ ys) first ∙ ap (λ zs. b ∷ zs) among.here; there = among.there })
    ]

-- a list whose images are taken apart
pub record Split {A B : Type 0} (f : A → B) (xs : List A) (before : List B) (y : B) (after : List B) : Type 0 where
  pub front : List A
  pub element : A
  pub back : List A
  pub whole : xs ≡ front ++ (element ∷ back)
  pub fronts : map f front ≡ before
  pub image : f element ≡ y
  pub backs : map f back ≡ after

pub split_map : {A B : Type 0} (f : A → B) (xs : List A) (before : List B) (y : B) (after : List B) → map f xs ≡ before ++ (y ∷ after)
    → Split f xs before y after
split_map f [] [] y after e = absurd (cc)
split_map f [] (b ∷ bs) y after e = absurd (cc)
split_map f (x ∷ xs) [] y after e =
    let image : f x ≡ y = cc in let backs : map f xs ≡ after = cc in
    record { front = []; element = x; back = xs; whole = refl; fronts = refl; image = image; backs = backs }
split_map f (x ∷ xs) (b ∷ bs) y after e =
    let first : f x ≡ b = cc in
    let more : map f xs ≡ bs ++ (y ∷ after) = cc in
    let s : Split f xs bs y after = split_map f xs bs y after more in
    record {
      front = x ∷ s.front;
      element = s.element;
      back = s.back;
      whole = ap (λ zs. x ∷ zs) s.whole;
      fronts = ap (λ z. z ∷ map f s.front) first ∙ ap (λ zs. b ∷ zs) s.fronts;
      image = s.image;
      backs = s.backs;
    }

-- one more element after others
pub one_more : {A : Type 0} (xs : List A) (x : A) (ys : List A) → (xs ++ (x ∷ [])) ++ ys ≡ xs ++ (x ∷ ys)
one_more xs x ys = append_assoc xs (x ∷ []) ys
