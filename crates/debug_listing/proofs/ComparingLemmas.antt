-- The loop over the words that both images have.
use Rattle.std.proofs.Common.{◌≡◌, ◌<◌, ◌≤◌, ◌+◌, ◌-◌, ◌*◌, ◌^◌, ℕ, zero, suc, Bool, cond, true, false, List, [], ◌∷◌, ◌++◌, length, take, Option, Some, None, Result, Ok, Err, refl, sym, subst, ap, ◌∙◌, arith}
use Rattle.std.specs.Prelude.{◌==◌, not, if◌then◌else◌}
use Rattle.std.specs.Str.{bytes_eq}
use Rattle.std.specs.List.{filter, flat_map, range_with_len}
use Rattle.std.specs.Io.KnownBytes.{Appends}
use Rattle.profile.specs.Output.{AddsAllBut, Writes}
use Rattle.profile.specs.images.Entries.{AreImages, Entry, IsImageTable, bytes_of_image}
use Rattle.profile.proofs.OutputLemmas.{AddsAllBut-start, AddsAllBut-more, AddsAllBut-same, Appends-from_all_but, Appends-join}
use Rattle.debug_listing.specs.Comparing.{difference_line, word_differs, line_of_word, word_of_bytes}

-- the words that differ, of so many from one on
abbrev pub differ_from : List ℕ → List ℕ → ℕ → ℕ → List ℕ
differ_from one other k n = filter (word_differs one other) (range_with_len k n)

-- the lines of those that are shown, where so many are before them
abbrev pub lines_from : List ℕ → List ℕ → ℕ → ℕ → ℕ → List ℕ
lines_from one other k n found = flat_map (line_of_word one other) (take (16 - found) (differ_from one other k n))

-- what stands written, and the lines that are left, are all, and so is how many differ
pub record IsComparedSoFar (old new : Option (List ℕ)) (one other : List ℕ) (n k found : ℕ) : Type 0 where
  pub text : AddsAllBut old new (lines_from one other k (n - k) found) (lines_from one other 0 n 0)
  pub count : found + length (differ_from one other k (n - k)) ≡ length (differ_from one other 0 n)
  pub few : found ≤ k

other_so : (a b : ℕ) → (a ≡ b → ⊥) → not (a == b) ≡ true
other_so a b differ = grind (arith, differ)

same_so : (a b : ℕ) → a ≡ b → not (a == b) ≡ false
same_so a b same = grind (arith, same)

from_with : (one other : List ℕ) (k n : ℕ) → word_differs one other k ≡ true
    → differ_from one other k (suc n) ≡ k ∷ differ_from one other (k + 1) n
from_with one other k n is = ap (λ (b : Bool). cond b (k ∷ differ_from one other (k + 1) n) (differ_from one other (k + 1) n)) is

from_without : (one other : List ℕ) (k n : ℕ) → word_differs one other k ≡ false
    → differ_from one other k (suc n) ≡ differ_from one other (k + 1) n
from_without one other k n is = ap (λ (b : Bool). cond b (k ∷ differ_from one other (k + 1) n) (differ_from one other (k + 1) n)) is

-- of the words from one on, the first, and those behind it
step_with : (one other : List ℕ) (n k first second : ℕ) → k < n → first ≡ word_of_bytes one k → second ≡ word_of_bytes other k
    → (first ≡ second → ⊥) → differ_from one other k (n - k) ≡ k ∷ differ_from one other (k + 1) (n - (k + 1))
step_with one other n k first second within is it differ =
    let split : n - k ≡ suc (n - (k + 1)) = omega (arith, within) in
    let are = other_so (word_of_bytes one k) (word_of_bytes other k) (λ e. differ (is ∙ e ∙ sym it)) in
    ap (λ (m : ℕ). differ_from one other k m) split ∙ from_with one other k (n - (k + 1)) are

step_without : (one other : List ℕ) (n k first second : ℕ) → k < n → first ≡ word_of_bytes one k → second ≡ word_of_bytes other k
    → first ≡ second → differ_from one other k (n - k) ≡ differ_from one other (k + 1) (n - (k + 1))
step_without one other n k first second within is it same =
    let split : n - k ≡ suc (n - (k + 1)) = omega (arith, within) in
    let are = same_so (word_of_bytes one k) (word_of_bytes other k) (sym is ∙ same ∙ it) in
    ap (λ (m : ℕ). differ_from one other k m) split ∙ from_without one other k (n - (k + 1)) are

pub compared_start : (o : Option (List ℕ)) (one other : List ℕ) (n : ℕ) → IsComparedSoFar o o one other n 0 0
compared_start o one other n = let e : n ≡ n - 0 = omega arith in record {
  text = subst (λ (m : ℕ). AddsAllBut o o (lines_from one other 0 m 0) (lines_from one other 0 n 0)) e
      (AddsAllBut-start o (lines_from one other 0 n 0));
  count = let none : 0 + length (differ_from one other 0 (n - 0)) ≡ length (differ_from one other 0 (n - 0)) = omega arith in
      none ∙ ap (λ (m : ℕ). length (differ_from one other 0 m)) (sym e);
  few = omega arith;
}

pub compared_same : (o p : Option (List ℕ)) (one other : List ℕ) (n k found first second : ℕ) → k < n
    → first ≡ word_of_bytes one k → second ≡ word_of_bytes other k → first ≡ second
    → IsComparedSoFar o p one other n k found → IsComparedSoFar o p one other n (k + 1) found
compared_same o p one other n k found first second within is it same so_far =
    let step = step_without one other n k first second within is it same in record {
      text = subst (λ (xs : List ℕ). AddsAllBut o p (flat_map (line_of_word one other) (take (16 - found) xs)) (lines_from one other 0 n 0))
          step so_far.text;
      count = ap (λ (xs : List ℕ). found + length xs) (sym step) ∙ so_far.count;
      few = omega (arith, so_far.few);
    }

counted_with : (one other : List ℕ) (n k found : ℕ) (left : List ℕ) (all : ℕ) → found + length left ≡ all
    → left ≡ k ∷ differ_from one other (k + 1) (n - (k + 1)) → found + 1 + length (differ_from one other (k + 1) (n - (k + 1))) ≡ all
counted_with one other n k found left all so_far step =
    let longer : length left ≡ suc (length (differ_from one other (k + 1) (n - (k + 1)))) = ap (λ (xs : List ℕ). length xs) step in
    omega (arith, longer, so_far)

pub compared_hidden : (o p : Option (List ℕ)) (one other : List ℕ) (n k found first second : ℕ) → k < n
    → first ≡ word_of_bytes one k → second ≡ word_of_bytes other k → (first ≡ second → ⊥) → 16 ≤ found
    → IsComparedSoFar o p one other n k found → IsComparedSoFar o p one other n (k + 1) (found + 1)
compared_hidden o p one other n k found first second within is it differ many so_far =
    let step = step_with one other n k first second within is it differ in
    let none : 16 - found ≡ 0 = omega (arith, many) in
    let none_left : 16 - (found + 1) ≡ 0 = omega (arith, many) in record {
      text = AddsAllBut-same o p _ _ _ so_far.text
          (ap (λ (m : ℕ). flat_map (line_of_word one other) (take m (differ_from one other k (n - k)))) none
          ∙ sym (ap (λ (m : ℕ). flat_map (line_of_word one other) (take m (differ_from one other (k + 1) (n - (k + 1))))) none_left));
      count = counted_with one other n k found _ _ so_far.count step;
      few = omega (arith, so_far.few);
    }

pub compared_shown : (o p q : Option (List ℕ)) (one other : List ℕ) (n k found first second : ℕ) → k < n
    → first ≡ word_of_bytes one k → second ≡ word_of_bytes other k → (first ≡ second → ⊥) → found < 16
    → Appends p q (difference_line (4 * k) first second)
    → IsComparedSoFar o p one other n k found → IsComparedSoFar o q one other n (k + 1) (found + 1)
compared_shown o p q one other n k found first second within is it differ few here so_far =
    let step = step_with one other n k first second within is it differ in
    let left : 16 - found ≡ suc (16 - (found + 1)) = omega (arith, few) in
    let line = subst (λ (f : ℕ). Appends p q (difference_line (4 * k) f (word_of_bytes other k))) is
    (subst (λ (s : ℕ). Appends p q (difference_line (4 * k) first s)) it here) in record {
      text = AddsAllBut-more o p q _ (line_of_word one other k) (lines_from one other (k + 1) (n - (k + 1)) (found + 1)) _ so_far.text line
          (ap (λ (m : ℕ). flat_map (line_of_word one other) (take m (differ_from one other k (n - k)))) left
          ∙ ap (λ (xs : List ℕ). flat_map (line_of_word one other) (take (suc (16 - (found + 1))) xs)) step);
      count = counted_with one other n k found _ _ so_far.count step;
      few = omega (arith, so_far.few);
    }

nothing_taken : (f : ℕ → List ℕ) (n : ℕ) → flat_map f (take n []) ≡ []
nothing_taken f zero = refl
nothing_taken f (suc n) = refl

none_left : (one other : List ℕ) (n k : ℕ) → n ≤ k → differ_from one other k (n - k) ≡ []
none_left one other n k past =
    let e : n - k ≡ 0 = omega (arith, past) in ap (λ (m : ℕ). differ_from one other k m) e

pub compared_lines : (o p : Option (List ℕ)) (one other : List ℕ) (n k found : ℕ) → n ≤ k
    → IsComparedSoFar o p one other n k found → Appends o p (lines_from one other 0 n 0)
compared_lines o p one other n k found past so_far =
    Appends-from_all_but o p _ _ so_far.text
    (ap (λ (xs : List ℕ). flat_map (line_of_word one other) (take (16 - found) xs)) (none_left one other n k past)
    ∙ nothing_taken (line_of_word one other) (16 - found))

pub compared_count : (o p : Option (List ℕ)) (one other : List ℕ) (n k found : ℕ) → n ≤ k
    → IsComparedSoFar o p one other n k found → found ≡ length (differ_from one other 0 n)
compared_count o p one other n k found past so_far =
    let none : length (differ_from one other k (n - k)) ≡ 0 = ap (λ (xs : List ℕ). length xs) (none_left one other n k past) in
    omega (arith, none, so_far.count)

-- an image has a million bytes at most
image_by : (b : Bool) (first : List ℕ) (rest : Option (List ℕ)) (bytes : List ℕ) → length first ≤ 1048576
    → (rest ≡ Some bytes → length bytes ≤ 1048576) → (if b then Some first else rest) ≡ Some bytes → length bytes ≤ 1048576
image_by true first rest bytes few others is =
    let same : first ≡ bytes = cc in subst (λ (xs : List ℕ). length xs ≤ 1048576) same few
image_by false first rest bytes few others is = others is

images_few : (es : List Entry) (name bytes : List ℕ) → AreImages es → bytes_of_image es name ≡ Some bytes → length bytes ≤ 1048576
images_few [] name bytes are is = absurd (cc)
images_few (e ∷ es) name bytes are is =
    image_by (bytes_eq e.name name) e.bytes (bytes_of_image es name) bytes are.0.in_limit (images_few es name bytes are.1) is

pub image_few : (es : List Entry) (name bytes : List ℕ) → IsImageTable es → bytes_of_image es name ≡ Some bytes
    → length bytes < 2 ^ 32
image_few es name bytes table is = omega (arith, images_few es name bytes table.images is)

-- behind the branches of the loop's body
pub carried : {S : Type 0} (contents : S → Option (List ℕ)) (o : Option (List ℕ)) (x y : S) (one other : List ℕ) (n k f g : ℕ)
    → y ≡ x → g ≡ f → IsComparedSoFar o (contents x) one other n k f → IsComparedSoFar o (contents y) one other n k g
carried {S} contents o x y one other n k f g same found so_far =
    subst (λ (z : S). IsComparedSoFar o (contents z) one other n k g) (sym same)
    (subst (λ (h : ℕ). IsComparedSoFar o (contents x) one other n k h) (sym found) so_far)

-- three texts, one behind the other
-- a text is written, and then more
pub written_on : {S A E : Type 0} (contents : S → Option (List ℕ)) (has_failed : S → Bool) (first second last : S) (result : Result A E)
    (a b : List ℕ) → Appends (contents first) (contents second) a → has_failed second ≡ has_failed first
    → Writes contents has_failed second last result b → Writes contents has_failed first last result (a ++ b)
written_on contents has_failed first second last (Ok x) a b one same end = record {
  text = Appends-join (contents first) (contents second) (contents last) a b one end.text;
  flag = end.flag;
  same_flag = end.same_flag ∙ same;
}
written_on contents has_failed first second last (Err e) a b one same end = record {
  text = tt;
  flag = end.flag;
  same_flag = tt;
}

pub written : {S A E : Type 0} (contents : S → Option (List ℕ)) (has_failed : S → Bool) (first second third last : S) (result : Result A E)
    (a b c : List ℕ) → Appends (contents first) (contents second) a → Appends (contents second) (contents third) b
    → has_failed third ≡ has_failed first → Writes contents has_failed third last result c
    → Writes contents has_failed first last result (a ++ (b ++ c))
written contents has_failed first second third last (Ok x) a b c one two same end = record {
  text = Appends-join (contents first) (contents second) (contents last) a (b ++ c) one
      (Appends-join (contents second) (contents third) (contents last) b c two end.text);
  flag = end.flag;
  same_flag = end.same_flag ∙ same;
}
written contents has_failed first second third last (Err e) a b c one two same end = record {
  text = tt;
  flag = end.flag;
  same_flag = tt;
}
