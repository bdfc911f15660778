-- Each block has a name, as its anchor lies in a block before it.
use Rattle.std.proofs.Common.{◌≡◌, ℕ, zero, suc, ◌+◌, ◌<◌, ◌≤◌, false, List, [], ◌∷◌, length, Option, Some, arith, sym, ◌∙◌, ap, inl, inr, subst}
use Rattle.std.proofs.lemmas.Bool.{cases_lt}
use Rattle.law_machine.specs.flex.Numbered.{Anchor, AreElsewhere, AreNumbered, Fixed, Inside, IsBeforeBlock, SeenBlock}
use Rattle.law_machine.specs.flex_names.Laws.{NamesPrintBlocks}
use Rattle.law_machine.specs.flex_names.Names.{At, In, Name, number_from, number_named, same_place}
use Rattle.law_machine.proofs.FlexNamesLemmas.Found.{elsewhere_none, none_some, one_name, place_not, place_self}

-- a block of a list, by its number
pub data IsBlock (n m : ℕ) (bs : List SeenBlock) : Type 0 where
  block : (x : Anchor) → IsBeforeBlock m x → number_from n x bs ≡ Some m → IsBlock n m bs

not_elsewhere : (n m : ℕ) (x y : Anchor) (bs : List SeenBlock) → AreElsewhere x bs → number_from n y bs ≡ Some m → same_place x y ≡ false
not_elsewhere n m x y bs apart e = place_not x y (λ same.
    none_some m (sym (elsewhere_none n x bs apart) ∙ (ap (λ (z : Anchor). number_from n z bs) same ∙ e)))

pub block_of : (n m : ℕ) (bs : List SeenBlock) → AreNumbered n bs → n ≤ m → m < n + length bs → IsBlock n m bs
block_of n m [] numbered low high = absurd (omega (arith, low, high))
block_of n m (b ∷ bs) numbered low high = elim (cases_lt n m) [
  | inl less ↦ later (block_of (suc n) m bs numbered.1.1 less (omega (arith, high)))
  | inr equal ↦
      let same : n ≡ m = omega (arith, low, equal) in
      block b.anchor (subst (λ (k : ℕ). IsBeforeBlock k b.anchor) same numbered.0)
      (rw (place_self b.anchor) (ap (λ (k : ℕ). let o : Option ℕ = Some k in o) same))
] where
  later : IsBlock (suc n) m bs → IsBlock n m (b ∷ bs)
  later (block x before found) = block x before (rw (not_elsewhere (suc n) m b.anchor x bs numbered.1.0 found) found)

abbrev HasName : List SeenBlock → ℕ → Type 0
HasName p n = (y : Name) × (number_named p y ≡ Some n)

name_for : (p : List SeenBlock) (n : ℕ) → ((m : ℕ) → m < n → HasName p m) → IsBlock 0 n p → HasName p n
name_for p n below (block (Fixed a) before found) = (At a, found)
name_for p n below (block (Inside m o) before found) =
    let holder : HasName p m = below m before in
    (In holder.0 o, rw holder.1 found)

name_below : (p : List SeenBlock) → AreNumbered 0 p → (n m : ℕ) → n ≤ length p → m < n → HasName p m
name_below p numbered zero m fits low = absurd (omega (arith, low))
name_below p numbered (suc n) m fits low =
    name_for p m (λ k less. name_below p numbered n k (omega (arith, fits)) (omega (arith, less, low))) (block_of 0 m p numbered (omega arith) (omega (arith, fits, low)))

pub names_print_blocks : NamesPrintBlocks
names_print_blocks p numbered n low =
    let own : HasName p n = name_below p numbered (length p) n (omega arith) low in
    (own.0, (own.1, λ z e. one_name p z own.0 n e own.1))
