-- What calls answered, the block that one found, and changes that change nothing.
use Rattle.std.proofs.Common.{◌≡◌, ℕ, ◌-◌, nat_eq, List, [], ◌∷◌, length, take, Some, None, Result, Ok, Err, arith, sym, ◌∙◌, ap, subst, inl, inr}
use Rattle.std.proofs.lemmas.Bool.{cases_Bool, eqb-true}
use Rattle.std.proofs.lemmas.List.{append-nil, length-take-le, take-append-drop}
use Rattle.std.proofs.Math.Seq.{take-length}
use Rattle.profile.specs.ErrorNumber.{ErrorNumber}
use Rattle.flex_store.specs.Blocks.{Block, contents, cut_of, find_block, more_of, bytes_with_size, bytes_after_splice, whole_words}
use Rattle.flex_store.proofs.Filled.{AreFilled}

-- two answers that are the same
abbrev pub Answers : {A : Type 0} → A → A → Type 0
Answers {A} x y = let p : Result A ErrorNumber = Ok x in let q : Result A ErrorNumber = Ok y in p ≡ q

answer_of : {A : Type 0} → A → Result A ErrorNumber → A
answer_of other (Ok a) = a
answer_of other (Err e) = other

pub same_answer : {A : Type 0} (x y : A) → Answers x y → x ≡ y
unfolding answer_of
same_answer x y is = ap (answer_of x) is

-- the block that was found
pub found_anchor : (anchor : ℕ) (bs : List Block) (b : Block) → find_block anchor bs ≡ Some b → b.anchor ≡ anchor
found_anchor anchor [] b found = absurd (let none : None ≡ Some b = found in cc)
found_anchor anchor (x ∷ bs) b found = elim (cases_Bool (nat_eq x.anchor anchor)) [
  | inl here ↦
      let found' = rw here at found in
      let same : x ≡ b = cc in
      ap (λ (y : Block). y.anchor) (sym same) ∙ eqb-true x.anchor anchor here
  | inr other ↦ found_anchor anchor bs b (rw other at found)
]

pub found_filled : (anchor : ℕ) (bs : List Block) (b : Block) → AreFilled bs → find_block anchor bs ≡ Some b → length b.bytes ≡ whole_words b.size
found_filled anchor [] b whole found = absurd (let none : None ≡ Some b = found in cc)
found_filled anchor (x ∷ bs) b whole found = elim (cases_Bool (nat_eq x.anchor anchor)) [
  | inl here ↦
      let found' = rw here at found in
      let same : x ≡ b = cc in
      subst (λ (y : Block). length y.bytes ≡ whole_words y.size) same whole.0
  | inr other ↦ found_filled anchor bs b whole.1 (rw other at found)
]

-- sizes that stay
pub resized_same : (c : List ℕ) (size : ℕ) → length c ≡ size → bytes_with_size c size ≡ c
resized_same c size len =
    let none : size - length c ≡ 0 = omega arith in
    let all : take size c ≡ c = ap (λ (n : ℕ). take n c) (sym len) ∙ take-length c in
    rw (none, all) (append-nil c)

pub contents_size : (b : Block) → length b.bytes ≡ whole_words b.size → length (contents b) ≡ b.size
contents_size b whole = length-take-le b.size b.bytes (omega (arith, whole))

-- a middle extend by 0 leaves all as it is
pub spliced_none : (c : List ℕ) (at by : ℕ) → by ≡ 0 → bytes_after_splice c at (cut_of by) (more_of by) ≡ c
spliced_none c at by none =
    let cut : cut_of by ≡ 0 = ap cut_of none in
    let more : more_of by ≡ 0 = ap more_of none in
    let whole : at - 0 ≡ at = omega arith in
    rw (cut, more, whole) (take-append-drop at c)
