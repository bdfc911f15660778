-- A count that is at least the text's length is never used up.
use Rattle.std.proofs.Common.{◌≡◌, ◌≤◌, ℕ, zero, suc, Bool, List, [], ◌∷◌, length, Option, Some, None, refl, sym, ◌∙◌, arith}
use Rattle.assembler_reading.specs.Expressions.{Lookup, Value, sum_or_difference, more_terms, next_term, sign, term}
use Rattle.assembler_reading.specs.Names.{register, register_named}
use Rattle.assembler_reading.specs.Words.{after_spaces, byte, comma, word, ◌>>=◌}
use Rattle.assembler_reading.specs.RegisterLists.{more_registers, next_registers, register_range, with_range}
use Rattle.assembler.specs.Directives.{with_item_read, more_items, next_item}
use Rattle.assembler.specs.Written.{Written}
use Rattle.assembler.specs.declared.directives.Data.{Data}
use Rattle.assembler.specs.assembled.Lists.{ItemsGoOn, RegistersGoOn, TermsGoOn, all_items, all_registers, all_terms}
use Rattle.assembler.proofs.AssembledLemmas.Lengths.{IsAtMost, LeavesAtMost, comma_over, item_over, range_over, sign_over, term_over}

same_length : (text : List ℕ) → length text ≤ length text
same_length text = omega arith

one_more_length : (text : List ℕ) → length text ≤ suc (length text)
one_more_length text = omega arith

no_byte : {P : Type 0} (c : ℕ) (rest : List ℕ) → length (c ∷ rest) ≤ 0 → P
no_byte c rest short = let more : suc (length rest) ≤ 0 = short in absurd (omega (arith, more))

-- one reading, and the same others after it
then_same : {A B : Type 0} (n : ℕ) (o : Option (A × List ℕ)) (f g : A × List ℕ → Option (B × List ℕ)) → LeavesAtMost n o
    → ((a : A) (rest : List ℕ) → length rest ≤ n → f (a, rest) ≡ g (a, rest)) → (o >>= f) ≡ (o >>= g)
then_same n None f g within same = refl
then_same n (Some r) f g within same = same r.0 r.1 within

-- terms
term_then : (n : ℕ) (labels : Lookup) (sum : Value) (text : List ℕ) (others more : Value → List ℕ → Option (Value × List ℕ)) (s : Option (Bool × List ℕ))
    → LeavesAtMost n s → ((v : Value) (rest : List ℕ) → length rest ≤ n → others v rest ≡ more v rest)
    → next_term others labels sum text s ≡ next_term more labels sum text s
term_then n labels sum text others more None within same = refl
term_then n labels sum text others more (Some s) within same =
    then_same n (term labels s.1) _ _ (term_over n labels s.1 within) (λ v rest u. same _ rest u)

terms_enough : (n m : ℕ) (labels : Lookup) (sum : Value) (text : List ℕ) → length text ≤ n → length text ≤ m
    → more_terms n labels sum text ≡ more_terms m labels sum text
unfolding more_terms sign
terms_enough zero zero labels sum text p q = refl
terms_enough zero (suc m) labels sum [] p q = refl
terms_enough zero (suc m) labels sum (c ∷ rest) p q = no_byte c rest p
terms_enough (suc n) zero labels sum [] p q = refl
terms_enough (suc n) zero labels sum (c ∷ rest) p q = no_byte c rest q
terms_enough (suc n) (suc m) labels sum text p q = by (sign text) (sign_over n text p) (sign_over m text q) (terms_enough n m labels)
  where
    by : (s : Option (Bool × List ℕ)) → LeavesAtMost n s → LeavesAtMost m s
        → ((v : Value) (rest : List ℕ) → length rest ≤ n → length rest ≤ m → more_terms n labels v rest ≡ more_terms m labels v rest)
        → next_term (more_terms n labels) labels sum text s ≡ next_term (more_terms m labels) labels sum text s
    by None v w others = refl
    by (Some s) v w others = both (term labels s.1) (term_over n labels s.1 v) (term_over m labels s.1 w)
      where
        both : (o : Option (Value × List ℕ)) → LeavesAtMost n o → LeavesAtMost m o
            → (o >>= λ t. more_terms n labels (sum_or_difference s.0 sum t.0) t.1) ≡ (o >>= λ t. more_terms m labels (sum_or_difference s.0 sum t.0) t.1)
        both None x y = refl
        both (Some t) x y = others _ t.1 x y

pub terms_go_on : TermsGoOn
unfolding more_terms
terms_go_on labels sum text =
    terms_enough (length text) (suc (length text)) labels sum text (same_length text) (one_more_length text)
    ∙ term_then (length text) labels sum text (more_terms (length text) labels) (all_terms labels) (sign text)
    (sign_over (length text) text (one_more_length text))
    (λ v rest u. terms_enough (length text) (length rest) labels v rest u (same_length rest))

-- items
item_then : (n : ℕ) (kind : Data) (labels : Lookup) (written : Written) (text : List ℕ) (others more : Written → List ℕ → Option (Written × List ℕ))
    (o : Option (List ℕ)) → IsAtMost n o → ((w : Written) (rest : List ℕ) → length rest ≤ n → others w rest ≡ more w rest)
    → next_item others kind labels written text o ≡ next_item more kind labels written text o
item_then n kind labels written text others more None within same = refl
item_then n kind labels written text others more (Some after) within same =
    then_same n (with_item_read kind labels written after) _ _ (item_over n kind labels written after within) (λ w rest u. same w rest u)

items_enough : (n m : ℕ) (kind : Data) (labels : Lookup) (written : Written) (text : List ℕ) → length text ≤ n → length text ≤ m
    → more_items n kind labels written text ≡ more_items m kind labels written text
unfolding more_items comma after_spaces byte
items_enough zero zero kind labels written text p q = refl
items_enough zero (suc m) kind labels written [] p q = refl
items_enough zero (suc m) kind labels written (c ∷ rest) p q = no_byte c rest p
items_enough (suc n) zero kind labels written [] p q = refl
items_enough (suc n) zero kind labels written (c ∷ rest) p q = no_byte c rest q
items_enough (suc n) (suc m) kind labels written text p q = by (comma text) (comma_over n text p) (comma_over m text q) (items_enough n m kind labels)
  where
    by : (o : Option (List ℕ)) → IsAtMost n o → IsAtMost m o
        → ((w : Written) (rest : List ℕ) → length rest ≤ n → length rest ≤ m → more_items n kind labels w rest ≡ more_items m kind labels w rest)
        → next_item (more_items n kind labels) kind labels written text o ≡ next_item (more_items m kind labels) kind labels written text o
    by None v w others = refl
    by (Some after) v w others = both (with_item_read kind labels written after) (item_over n kind labels written after v) (item_over m kind labels written after w)
      where
        both : (o : Option (Written × List ℕ)) → LeavesAtMost n o → LeavesAtMost m o
            → (o >>= λ t. more_items n kind labels t.0 t.1) ≡ (o >>= λ t. more_items m kind labels t.0 t.1)
        both None x y = refl
        both (Some t) x y = others t.0 t.1 x y

pub items_go_on : ItemsGoOn
unfolding more_items
items_go_on kind labels written text =
    items_enough (length text) (suc (length text)) kind labels written text (same_length text) (one_more_length text)
    ∙ item_then (length text) kind labels written text (more_items (length text) kind labels) (all_items kind labels) (comma text)
    (comma_over (length text) text (one_more_length text))
    (λ w rest u. items_enough (length text) (length rest) kind labels w rest u (same_length rest))

-- registers
registers_then : (n list : ℕ) (text : List ℕ) (others more : ℕ → List ℕ → Option (ℕ × List ℕ)) (o : Option (List ℕ)) → IsAtMost n o
    → ((k : ℕ) (rest : List ℕ) → length rest ≤ n → others k rest ≡ more k rest)
    → next_registers others list text o ≡ next_registers more list text o
registers_then n list text others more None within same = refl
registers_then n list text others more (Some after) within same = same list after within

no_register : register_range [] ≡ None
unfolding register register_named word
no_register = refl

none_of_nothing : (m list : ℕ) → more_registers (suc m) list [] ≡ None
unfolding more_registers
none_of_nothing m list = rw no_register refl

registers_enough : (n m list : ℕ) (text : List ℕ) → length text ≤ n → length text ≤ m → more_registers n list text ≡ more_registers m list text
unfolding more_registers
registers_enough zero zero list text p q = refl
registers_enough zero (suc m) list [] p q = sym (none_of_nothing m list)
registers_enough zero (suc m) list (c ∷ rest) p q = no_byte c rest p
registers_enough (suc n) zero list [] p q = none_of_nothing n list
registers_enough (suc n) zero list (c ∷ rest) p q = no_byte c rest q
registers_enough (suc n) (suc m) list text p q = by (register_range text) (range_over (suc n) text p) (range_over (suc m) text q) (registers_enough n m)
  where
    by : (o : Option ((ℕ × ℕ) × List ℕ)) → LeavesAtMost (suc n) o → LeavesAtMost (suc m) o
        → ((k : ℕ) (rest : List ℕ) → length rest ≤ n → length rest ≤ m → more_registers n k rest ≡ more_registers m k rest)
        → (o >>= λ range. next_registers (more_registers n) (with_range list range.0.0 range.0.1) range.1 (comma range.1))
        ≡ (o >>= λ range. next_registers (more_registers m) (with_range list range.0.0 range.0.1) range.1 (comma range.1))
    by None v w others = refl
    by (Some r) v w others = behind (comma r.1) (comma_over n r.1 v) (comma_over m r.1 w)
      where
        behind : (o : Option (List ℕ)) → IsAtMost n o → IsAtMost m o
            → next_registers (more_registers n) (with_range list r.0.0 r.0.1) r.1 o ≡ next_registers (more_registers m) (with_range list r.0.0 r.0.1) r.1 o
        behind None x y = refl
        behind (Some after) x y = others _ after x y

pub registers_go_on : RegistersGoOn
unfolding more_registers
registers_go_on list text =
    registers_enough (length text) (suc (length text)) list text (same_length text) (one_more_length text)
    ∙ then_same (length text) (register_range text) _ _ (range_over (length text) text (same_length text))
    (λ range rest u. registers_then (length text) (with_range list range.0 range.1) rest (more_registers (length text)) all_registers (comma rest)
    (comma_over (length text) rest (wider_rest rest u))
    (λ k others v. registers_enough (length text) (length others) k others v (same_length others)))
  where
    wider_rest : (rest : List ℕ) → length rest ≤ length text → length rest ≤ suc (length text)
    wider_rest rest u = omega (arith, u)
