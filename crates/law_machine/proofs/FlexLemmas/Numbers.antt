-- Where a word is, by the numbers of blocks: in a list end to end, after the blocks moved, and with
-- the bytes that stand in memory.
use Rattle.std.proofs.Common.{◌≡◌, ℕ, ◌+◌, ◌-◌, ◌<◌, ◌≤◌, true, false, suc, List, [], ◌∷◌, ◌++◌, length, arith, refl, sym, ◌∙◌, ap, inl, inr, ◌⊎◌, subst}
use Rattle.std.specs.Prelude.{nat_le, nat_lt, if◌then◌else◌}
use Rattle.std.proofs.lemmas.Bool.{cases_Bool, false_from_ne_true, false≢true, le-leb, le-ltb, leb-true, ne_eqb, lt-ltb, eq-eqb}
use Rattle.flex_store.specs.Blocks.{Block, is_held_word, is_in_contents, bytes_taken_by, bytes_taken_by_all}
use Rattle.flex_store.specs.Memory.{standing}
use Rattle.flex_store.specs.Shifts.{following, Shifts}
use Rattle.flex_store.proofs.Words.{contents_within, held_word, IsHeld}
use Rattle.law_machine.specs.flex.Numbered.{after_removal, after_splice, Anchor, anchor_from, Fixed, Inside}

pub not_held : (at : ℕ) (b : Block) (a : ℕ) → (a < at + 8) ⊎ (at + 8 + b.size < a + 4) → is_held_word at b a ≡ false
not_held at b a out = false_from_ne_true (is_held_word at b a) (λ held.
    let h = held_word at b a held in
    elim out [ inl low ↦ omega (arith, low, h.0) | inr high ↦ omega (arith, high, h.1) ])

pub is_held : (at : ℕ) (b : Block) (a : ℕ) → at + 8 ≤ a → a + 4 ≤ at + 8 + b.size → is_held_word at b a ≡ true
is_held at b a low high = rw (le-leb (at + 8) a low, le-leb (a + 4) (at + 8 + b.size) high) refl

pub from_none : (n h : ℕ) (bs : List Block) (a : ℕ) → (a < h + 8) ⊎ (h + bytes_taken_by_all bs < a + 4) → anchor_from n h bs a ≡ Fixed a
from_none n h [] a out = refl
from_none n h (b ∷ bs) a out =
    rw (not_held h b a (elim out [ inl low ↦ inl low | inr high ↦ inr (omega (arith, high)) ]))
    (from_none (suc n) (h + bytes_taken_by b.size) bs a (elim out [ inl low ↦ inl (omega (arith, low)) | inr high ↦ inr (omega (arith, high)) ]))

pub from_front : (n h : ℕ) (xs ys : List Block) (a : ℕ) → a + 4 ≤ h + bytes_taken_by_all xs → anchor_from n h (xs ++ ys) a ≡ anchor_from n h xs a
from_front n h [] ys a low = from_none n h ys a (inl (omega (arith, low)))
from_front n h (b ∷ xs) ys a low = elim (cases_Bool (is_held_word h b a)) [
  | inl here ↦ rw here refl
  | inr other ↦ rw other (from_front (suc n) (h + bytes_taken_by b.size) xs ys a (omega (arith, low)))
]

pub from_past : (n h : ℕ) (xs ys : List Block) (a : ℕ) → h + bytes_taken_by_all xs ≤ a → anchor_from n h (xs ++ ys) a ≡ anchor_from (n + length xs) (h + bytes_taken_by_all xs) ys a
from_past n h [] ys a past =
    let e : n ≡ n + 0 = omega arith in
    let e' : h ≡ h + 0 = omega arith in
    λ i. anchor_from (e i) (e' i) ys a
from_past n h (b ∷ xs) ys a past =
    let e : suc n + length xs ≡ n + suc (length xs) = omega arith in
    let e' : h + bytes_taken_by b.size + bytes_taken_by_all xs ≡ h + (bytes_taken_by b.size + bytes_taken_by_all xs) = omega arith in
    rw (not_held h b a (inr (omega (arith, past))))
    (from_past (suc n) (h + bytes_taken_by b.size) xs ys a (omega (arith, past)) ∙ (λ i. anchor_from (e i) (e' i) ys a))

-- a word of blocks that moved
pub from_moved : (n old new : ℕ) (ss : Shifts) (bs : List Block) (a : ℕ) → is_in_contents old bs a ≡ true
    → anchor_from n new (following ss bs) (new + (a - old)) ≡ anchor_from n old bs a
from_moved n old new ss [] a held = absurd (false≢true held)
from_moved n old new ss (b ∷ bs) a held = elim (cases_Bool (is_held_word old b a)) [
  | inl here ↦
      let h = held_word old b a here in
      let e : new + (a - old) - (new + 8) ≡ a - (old + 8) = omega (arith, h.0) in
      rw (here, le-leb (new + 8) (new + (a - old)) (omega (arith, h.0)), le-leb (new + (a - old) + 4) (new + 8 + b.size) (omega (arith, h.0, h.1)))
      (ap (Inside n) e)
  | inr other ↦
      let later : is_in_contents (old + bytes_taken_by b.size) bs a ≡ true = rw other at held in
      let w : IsHeld (old + bytes_taken_by b.size) (bytes_taken_by_all bs) a = contents_within (old + bytes_taken_by b.size) bs a later in
      let e : new + bytes_taken_by b.size + (a - (old + bytes_taken_by b.size)) ≡ new + (a - old) = omega (arith, w.from) in
      let out : is_held_word new b (new + (a - old)) ≡ false = not_held new b (new + (a - old)) (inr (omega (arith, w.from))) in
      rw (other, out) (ap (anchor_from (suc n) (new + bytes_taken_by b.size) (following ss bs)) (sym e) ∙ from_moved (suc n) (old + bytes_taken_by b.size) (new + bytes_taken_by b.size) ss bs a later)
]

-- numbers that begin further on
abbrev pub further : ℕ → Anchor → Anchor
further k (Fixed a) = Fixed a
further k (Inside n o) = Inside (k + n) o

pub from_further : (k n h : ℕ) (bs : List Block) (a : ℕ) → anchor_from (k + n) h bs a ≡ further k (anchor_from n h bs a)
from_further k n h [] a = refl
from_further k n h (b ∷ bs) a = elim (cases_Bool (is_held_word h b a)) [
  | inl here ↦ rw here refl
  | inr other ↦
      let e : suc (k + n) ≡ k + suc n = omega arith in
      rw other (ap (λ (m : ℕ). anchor_from m (h + bytes_taken_by b.size) bs a) e ∙ from_further k (suc n) (h + bytes_taken_by b.size) bs a)
]

-- what a place is: the word itself, or in a block of one of some numbers
pub data IsFound (n end : ℕ) (a : ℕ) (x : Anchor) : Type 0 where
  AtWord : x ≡ Fixed a → IsFound n end a x
  InBlock : (m o : ℕ) → x ≡ Inside m o → n ≤ m → m < end → IsFound n end a x

pub found : (n h : ℕ) (bs : List Block) (a : ℕ) → IsFound n (n + length bs) a (anchor_from n h bs a)
found n h [] a = AtWord refl
found n h (b ∷ bs) a = elim (cases_Bool (is_held_word h b a)) [
  | inl here ↦ rw here (InBlock n (a - (h + 8)) refl (omega arith) (omega arith))
  | inr other ↦ rw other (more (anchor_from (suc n) (h + bytes_taken_by b.size) bs a) (found (suc n) (h + bytes_taken_by b.size) bs a))
] where
  more : (x : Anchor) → IsFound (suc n) (suc n + length bs) a x → IsFound n (n + suc (length bs)) a x
  more x (AtWord is) = AtWord is
  more x (InBlock m o is low high) = InBlock m o is (omega (arith, low)) (omega (arith, high))

-- blocks with the bytes that stand in memory
pub from_standing : (g : ℕ → ℕ) (n at h : ℕ) (bs : List Block) (a : ℕ) → anchor_from n at (standing g h bs) a ≡ anchor_from n at bs a
from_standing g n at h [] a = refl
from_standing g n at h (b ∷ bs) a =
    λ i. if is_held_word at b a then Inside n (a - (at + 8)) else from_standing g (suc n) (at + bytes_taken_by b.size) (h + bytes_taken_by b.size) bs a i

-- a splice moves anchors of its own block alone
pub splice_apart : (number place cut more m o : ℕ) → (m ≡ number → ⊥) → after_splice number place cut more (Inside m o) ≡ Inside m o
splice_apart number place cut more m o apart = rw (ne_eqb m number apart) refl

pub splice_found : (number place cut more n end a : ℕ) (x : Anchor) → (end ≤ number) ⊎ (number < n) → IsFound n end a x → after_splice number place cut more x ≡ x
splice_found number place cut more n end a x out (AtWord is) = subst (λ (y : Anchor). after_splice number place cut more y ≡ y) (sym is) refl
splice_found number place cut more n end a x out (InBlock m o is low high) = subst (λ (y : Anchor). after_splice number place cut more y ≡ y) (sym is)
    (splice_apart number place cut more m o (λ same. elim out [ inl below ↦ omega (arith, below, same, high) | inr above ↦ omega (arith, above, same, low) ]))

pub splice_before : (number place cut more o : ℕ) → o < place → after_splice number place cut more (Inside number o) ≡ Inside number o
splice_before number place cut more o low =
    let none : nat_le place o ≡ false = false_from_ne_true (nat_le place o) (λ is. past o place is low) in
    rw (eq-eqb number number refl, none) refl where
      past : (o place : ℕ) → nat_le place o ≡ true → o < place → ⊥
      past o place is low = let high : place ≤ o = leb-true place o is in omega (arith, high, low)

pub splice_past : (number place cut more o : ℕ) → place ≤ o → after_splice number place cut more (Inside number o) ≡ Inside number (place - cut + more + (o - place))
splice_past number place cut more o high = rw (eq-eqb number number refl, le-leb place o high) refl

-- and the blocks after one that goes have other numbers
pub removal_below : (number n end a : ℕ) (x : Anchor) → end ≤ number → IsFound n end a x → after_removal number x ≡ x
removal_below number n end a x low (AtWord is) = subst (λ (y : Anchor). after_removal number y ≡ y) (sym is) refl
removal_below number n end a x low (InBlock m o is from below) =
    let none : nat_lt number m ≡ false = le-ltb number m (omega (arith, low, below)) in
    subst (λ (y : Anchor). after_removal number y ≡ y) (sym is) (rw none refl)

pub removal_above : (number n end a : ℕ) (x : Anchor) → number ≤ n → IsFound n end a x → after_removal number (further 1 x) ≡ x
removal_above number n end a x high (AtWord is) = subst (λ (y : Anchor). after_removal number (further 1 y) ≡ y) (sym is) refl
removal_above number n end a x high (InBlock m o is from below) =
    let some : nat_lt number (1 + m) ≡ true = lt-ltb number (1 + m) (omega (arith, high, from)) in
    let e : 1 + m - 1 ≡ m = omega arith in
    subst (λ (y : Anchor). after_removal number (further 1 y) ≡ y) (sym is) (rw some (ap (λ (k : ℕ). Inside k o) e))

-- the place of a word in one of the blocks of a list, and in those after it
pub own_place : (start : ℕ) (xs : List Block) (c : Block) (ys : List Block) (a : ℕ) → start + bytes_taken_by_all xs + 8 ≤ a → a + 4 ≤ start + bytes_taken_by_all xs + 8 + c.size
    → anchor_from 0 start (xs ++ c ∷ ys) a ≡ Inside (length xs) (a - (start + bytes_taken_by_all xs + 8))
own_place start xs c ys a low high =
    let e : 0 + length xs ≡ length xs = omega arith in
    from_past 0 start xs (c ∷ ys) a (omega (arith, low))
    ∙ rw (is_held (start + bytes_taken_by_all xs) c a low high) (ap (λ (n : ℕ). Inside n (a - (start + bytes_taken_by_all xs + 8))) e)

pub rest_place : (start : ℕ) (xs : List Block) (c : Block) (ys : List Block) (a : ℕ) → start + bytes_taken_by_all xs + bytes_taken_by c.size ≤ a
    → anchor_from 0 start (xs ++ c ∷ ys) a ≡ anchor_from (suc (length xs)) (start + bytes_taken_by_all xs + bytes_taken_by c.size) ys a
rest_place start xs c ys a past =
    let e : suc (0 + length xs) ≡ suc (length xs) = omega arith in
    from_past 0 start xs (c ∷ ys) a (omega (arith, past))
    ∙ rw (not_held (start + bytes_taken_by_all xs) c a (inr (omega (arith, past)))) (ap (λ (n : ℕ). anchor_from n (start + bytes_taken_by_all xs + bytes_taken_by c.size) ys a) e)

-- no word after the blocks lies in one
pub none_behind : (start end : ℕ) (bs : List Block) (a : ℕ) → start + bytes_taken_by_all bs ≤ end → end ≤ a → anchor_from 0 start bs a ≡ Fixed a
none_behind start end bs a fits past = from_none 0 start bs a (inr (omega (arith, fits, past)))

-- a word in front of what changes, or after all blocks, is where it was
pub outer_place : (start end : ℕ) (front olds news : List Block) (a : ℕ) → start + bytes_taken_by_all (front ++ olds) ≤ end → start + bytes_taken_by_all (front ++ news) ≤ end
    → (a + 4 ≤ start + bytes_taken_by_all front) ⊎ (end ≤ a) → anchor_from 0 start (front ++ news) a ≡ anchor_from 0 start (front ++ olds) a
outer_place start end front olds news a old_fits new_fits (inl low) = from_front 0 start front news a low ∙ sym (from_front 0 start front olds a low)
outer_place start end front olds news a old_fits new_fits (inr past) =
    none_behind start end (front ++ news) a new_fits past ∙ sym (none_behind start end (front ++ olds) a old_fits past)
