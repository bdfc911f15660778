-- What is seen of blocks after a change: those before and those after show what they did, under the
-- names that their anchors have then.
use Rattle.std.proofs.Common.{◌≡◌, ℕ, Bool, ◌+◌, ◌<◌, ◌≤◌, true, false, nat_eq, List, [], ◌∷◌, ◌++◌, length, take, drop, replicate, Option, Some, None, arith, refl, sym, ◌∙◌, ap, inl, inr, suc, zero}
use Rattle.std.specs.Prelude.{if◌then◌else◌, slice_index}
use Rattle.std.proofs.lemmas.Bool.{both_ways, cases_Bool, false≢true, eqb-true, eqb-false, eq-eqb, ne_eqb, or_left, or_parts, or_right}
use Rattle.address_map.proofs.Viewing.{bytes_counted}
use Rattle.address_map.specs.Bytes.{bytes_between}
use Rattle.flex_store.specs.Blocks.{Block, contents, has_anchor, bytes_taken_by, bytes_taken_by_all, whole_words}
use Rattle.flex_store.specs.Memory.{Holds, standing, blocks_text_of}
use Rattle.law_machine.specs.flex.Seen.{seen_at, seen_bytes}
use Rattle.flex_store.specs.Shifts.{following, gone_to, Shifts}
use Rattle.flex_store.specs.State.{AreWhole}
use Rattle.flex_store.proofs.Following.{ArePlaced, IsMove, Move, places_apart}
use Rattle.flex_store.proofs.Laying.{contents_between}
use Rattle.flex_store.proofs.Reading.{bytes_read, IsSpelled, spelled}
use Rattle.flex_store.proofs.Splicing.{between_held}

-- bytes that are the same where they are of no anchor
pub same_seen : (A B : ℕ → Bool) (at to : ℕ) (xs ys : List ℕ) → length xs ≡ length ys
    → ((i : ℕ) → i < length xs → A (at + i) ≡ B (to + i)) → ((i : ℕ) → i < length xs → A (at + i) ≡ false → slice_index xs i ≡ slice_index ys i)
    → seen_bytes A at xs ≡ seen_bytes B to ys
same_seen A B at to [] [] len marks same = refl
same_seen A B at to [] (y ∷ ys) len marks same = absurd (omega arith)
same_seen A B at to (x ∷ xs) [] len marks same = absurd (omega arith)
same_seen A B at to (x ∷ xs) (y ∷ ys) len marks same =
    let at_is : at + 0 ≡ at = omega arith in
    let to_is : to + 0 ≡ to = omega arith in
    let mark : A at ≡ B to = ap A (sym at_is) ∙ (marks 0 (omega arith) ∙ ap B to_is) in
    let rest : seen_bytes A (at + 1) xs ≡ seen_bytes B (to + 1) ys =
    same_seen A B (at + 1) (to + 1) xs ys (omega arith)
    (λ i below.
    let one : at + 1 + i ≡ at + (i + 1) = omega arith in
    let two : to + 1 + i ≡ to + (i + 1) = omega arith in
    ap A one ∙ (marks (i + 1) (omega arith) ∙ ap B (sym two)))
    (λ i below none.
    let one : at + suc i ≡ at + 1 + i = omega arith in
    same (suc i) (omega arith) (ap A one ∙ none)) in
    first_seen (A at) (B to) x y (seen_bytes A (at + 1) xs) (seen_bytes B (to + 1) ys) mark (λ none. same 0 (omega arith) (ap A at_is ∙ none)) rest where
      first_seen : (a b : Bool) (x y : ℕ) (xs ys : List (Option ℕ)) → a ≡ b → (a ≡ false → x ≡ y) → xs ≡ ys
          → ((if a then None else Some x) ∷ xs) ≡ ((if b then None else Some y) ∷ ys)
      first_seen true true x y xs ys e same rest = ap (λ (l : List (Option ℕ)). None ∷ l) rest
      first_seen false false x y xs ys e same rest = λ i. Some (same refl i) ∷ rest i
      first_seen true false x y xs ys e same rest = absurd (both_ways true (e) refl)
      first_seen false true x y xs ys e same rest = absurd (both_ways true (sym e) refl)

-- bytes of memory
pair_seen : (A B : ℕ → Bool) (f g : ℕ → ℕ) (p q n : ℕ) → ((i : ℕ) → i < n → B (q + i) ≡ A (p + i))
    → ((i : ℕ) → i < n → B (q + i) ≡ false → g (q + i) ≡ f (p + i)) → seen_bytes B q (bytes_between g q n) ≡ seen_bytes A p (bytes_between f p n)
pair_seen A B f g p q n marks same =
    let one : length (bytes_between g q n) ≡ n = bytes_counted g q n in
    let two : length (bytes_between f p n) ≡ n = bytes_counted f p n in
    same_seen B A q p (bytes_between g q n) (bytes_between f p n) (one ∙ sym two) (λ i below. marks i (omega arith))
    (λ i below none. sym (between_held g q n i below) ∙ (same i (omega arith) none ∙ between_held f p n i (omega arith)))

-- a block's own bytes, as memory holds them
pub own_between : (f : ℕ → ℕ) (h : ℕ) (b : Block) → length b.bytes ≡ whole_words b.size → Holds f (h + 8) b.bytes → contents b ≡ bytes_between f (h + 8) b.size
own_between f h b whole held =
    ap (take b.size) (sym (bytes_read f (h + 8) (whole_words b.size) b.bytes whole held)) ∙ contents_between f (h + 8) b.size

pub block_seen : (A B : ℕ → Bool) (f f1 g : ℕ → ℕ) (h to : ℕ) (b : Block) → length b.bytes ≡ whole_words b.size → Holds f (h + 8) b.bytes → Holds f1 (to + 8) b.bytes
    → ((i : ℕ) → i < b.size → B (to + 8 + i) ≡ A (h + 8 + i)) → ((i : ℕ) → i < b.size → B (to + 8 + i) ≡ false → g (to + 8 + i) ≡ f1 (to + 8 + i))
    → seen_bytes B (to + 8) (take b.size (bytes_between g (to + 8) (whole_words b.size))) ≡ seen_bytes A (h + 8) (contents b)
block_seen A B f f1 g h to b whole old new marks same =
    ap (seen_bytes B (to + 8)) (contents_between g (to + 8) b.size)
    ∙ (pair_seen A B f g (h + 8) (to + 8) b.size marks
    (λ i below none. same i below none ∙ (new i (omega (arith, whole)) ∙ sym (old i (omega (arith, whole)))))
    ∙ ap (seen_bytes A (h + 8)) (sym (own_between f h b whole old)))

-- Blocks in front of a change.
pub front_seen : (A B : ℕ → Bool) (f g : ℕ → ℕ) (h : ℕ) (xs olds news : List Block) (y : ℕ) → AreWhole xs → Holds f h (blocks_text_of xs)
    → ((a : ℕ) → h ≤ a → a < h + bytes_taken_by_all xs → B a ≡ A a) → ((a : ℕ) → h ≤ a → a < h + bytes_taken_by_all xs → B a ≡ false → g a ≡ f a) → has_anchor xs y ≡ true
    → seen_at B h (standing g h (xs ++ news)) y ≡ seen_at A h (xs ++ olds) y
front_seen A B f g h [] olds news y whole text marks same has = absurd (false≢true has)
front_seen A B f g h (b ∷ xs) olds news y whole text marks same has =
    let s : IsSpelled f h b xs = spelled f h b xs whole.0.0 text in
    elim (cases_Bool (nat_eq b.anchor y)) [
      | inl here ↦ rw here (ap (λ (l : List (Option ℕ)). Some l) (block_seen A B f f g h h b whole.0.0 s.bytes s.bytes
          (λ i below. marks (h + 8 + i) (omega arith) (omega arith)) (λ i below none. same (h + 8 + i) (omega arith) (omega arith) none)))
      | inr other ↦
          let turned : nat_eq y b.anchor ≡ false = ne_eqb y b.anchor (λ e. eqb-false b.anchor y other (sym e)) in
          rw other (front_seen A B f g (h + bytes_taken_by b.size) xs olds news y whole.1 s.rest (λ a low high. marks a (omega arith) (omega arith))
          (λ a low high none. same a (omega arith) (omega arith) none) (rw turned at has))
    ]

-- Blocks after it.
pub rest_seen : (k : Move) (start : ℕ) (xs bs : List Block) (ss : Shifts) → IsMove k → (A B : ℕ → Bool) (f f1 g : ℕ → ℕ) (h to : ℕ) (ys : List Block) (y : ℕ)
    → ArePlaced k start xs bs ss ys → AreWhole ys → Holds f h (blocks_text_of ys) → Holds f1 to (blocks_text_of (following ss ys))
    → ((i : ℕ) → i < bytes_taken_by_all ys → B (to + i) ≡ A (h + i)) → ((i : ℕ) → i < bytes_taken_by_all ys → B (to + i) ≡ false → g (to + i) ≡ f1 (to + i)) → has_anchor ys y ≡ true
    → seen_at B to (standing g to (following ss ys)) (gone_to ss y) ≡ seen_at A h ys y
rest_seen k start xs bs ss is A B f f1 g h to [] y places whole old new marks same has = absurd (false≢true has)
rest_seen k start xs bs ss is A B f f1 g h to (b ∷ ys) y places whole old new marks same has =
    let moved : Block = record { anchor = gone_to ss b.anchor; size = b.size; bytes = b.bytes } in
    let s : IsSpelled f h b ys = spelled f h b ys whole.0.0 old in
    let s' : IsSpelled f1 to moved (following ss ys) = spelled f1 to moved (following ss ys) whole.0.0 new in
    elim (cases_Bool (nat_eq b.anchor y)) [
      | inl here ↦
          let e : gone_to ss b.anchor ≡ gone_to ss y = ap (gone_to ss) (eqb-true b.anchor y here) in
          rw (here, eq-eqb (gone_to ss b.anchor) (gone_to ss y) e) (ap (λ (l : List (Option ℕ)). Some l) (block_seen A B f f1 g h to b whole.0.0 s.bytes s'.bytes
          (λ i below.
          let one : to + 8 + i ≡ to + (8 + i) = omega arith in
          let two : h + 8 + i ≡ h + (8 + i) = omega arith in
          ap B one ∙ (marks (8 + i) (omega arith) ∙ ap A (sym two)))
          (λ i below none.
          let one : to + 8 + i ≡ to + (8 + i) = omega arith in
          ap g one ∙ (same (8 + i) (omega arith) (ap B (sym one) ∙ none) ∙ ap f1 (sym one)))))
      | inr other ↦
          let turned : nat_eq y b.anchor ≡ false = ne_eqb y b.anchor (λ e. eqb-false b.anchor y other (sym e)) in
          let later : has_anchor ys y ≡ true = rw turned at has in
          let differs : nat_eq (gone_to ss b.anchor) (gone_to ss y) ≡ false = ne_eqb (gone_to ss b.anchor) (gone_to ss y)
          (places_apart k start xs bs b.anchor y (gone_to ss b.anchor) (gone_to ss y) is
          (places b.anchor (or_left (nat_eq b.anchor b.anchor) (has_anchor ys b.anchor) (eq-eqb b.anchor b.anchor refl)))
          (places y has) (λ e. eqb-false b.anchor y other e)) in
          rw (other, differs) (rest_seen k start xs bs ss is A B f f1 g (h + bytes_taken_by b.size) (to + bytes_taken_by b.size) ys y
          (λ a own. places a (or_right (nat_eq a b.anchor) (has_anchor ys a) own)) whole.1 s.rest s'.rest
          (λ i below.
          let one : to + bytes_taken_by b.size + i ≡ to + (bytes_taken_by b.size + i) = omega arith in
          let two : h + bytes_taken_by b.size + i ≡ h + (bytes_taken_by b.size + i) = omega arith in
          ap B one ∙ (marks (bytes_taken_by b.size + i) (omega arith) ∙ ap A (sym two)))
          (λ i below none.
          let one : to + bytes_taken_by b.size + i ≡ to + (bytes_taken_by b.size + i) = omega arith in
          ap g one ∙ (same (bytes_taken_by b.size + i) (omega arith) (ap B (sym one) ∙ none) ∙ ap f1 (sym one)))
          later)
    ]

-- blocks that have not the anchor are passed over
pub seen_past : (A : ℕ → Bool) (h : ℕ) (xs ys : List Block) (y : ℕ) → has_anchor xs y ≡ false → seen_at A h (xs ++ ys) y ≡ seen_at A (h + bytes_taken_by_all xs) ys y
seen_past A h [] ys y none = let e : h ≡ h + 0 = omega arith in ap (λ (p : ℕ). seen_at A p ys y) e
seen_past A h (b ∷ xs) ys y none =
    let parts = or_parts (nat_eq y b.anchor) (has_anchor xs y) none in
    let other : nat_eq b.anchor y ≡ false = ne_eqb b.anchor y (λ e. eqb-false y b.anchor parts.0 (sym e)) in
    let e : h + bytes_taken_by b.size + bytes_taken_by_all xs ≡ h + (bytes_taken_by b.size + bytes_taken_by_all xs) = omega arith in
    rw other (seen_past A (h + bytes_taken_by b.size) xs ys y parts.1 ∙ ap (λ (p : ℕ). seen_at A p ys y) e)

pub standing_append : (g : ℕ → ℕ) (h : ℕ) (xs ys : List Block) → standing g h (xs ++ ys) ≡ standing g h xs ++ standing g (h + bytes_taken_by_all xs) ys
standing_append g h [] ys = let e : h ≡ h + 0 = omega arith in ap (λ (p : ℕ). standing g p ys) e
standing_append g h (b ∷ xs) ys =
    let e : h + bytes_taken_by b.size + bytes_taken_by_all xs ≡ h + (bytes_taken_by b.size + bytes_taken_by_all xs) = omega arith in
    ap (λ (l : List Block). record { anchor = b.anchor; size = b.size; bytes = bytes_between g (h + 8) (whole_words b.size) } ∷ l)
    (standing_append g (h + bytes_taken_by b.size) xs ys ∙ ap (λ (p : ℕ). standing g (h + bytes_taken_by b.size) xs ++ standing g p ys) e)

-- parts of what is seen
pub seen_append : (A : ℕ → Bool) (q : ℕ) (xs ys : List ℕ) → seen_bytes A q (xs ++ ys) ≡ seen_bytes A q xs ++ seen_bytes A (q + length xs) ys
seen_append A q [] ys = let e : q ≡ q + 0 = omega arith in ap (λ (p : ℕ). seen_bytes A p ys) e
seen_append A q (x ∷ xs) ys =
    let e : q + 1 + length xs ≡ q + length (x ∷ xs) = omega arith in
    ap (λ (l : List (Option ℕ)). (if A q then None else Some x) ∷ l)
    (seen_append A (q + 1) xs ys ∙ ap (λ (p : ℕ). seen_bytes A (q + 1) xs ++ seen_bytes A p ys) e)

pub take_seen : (A : ℕ → Bool) (q n : ℕ) (xs : List ℕ) → take n (seen_bytes A q xs) ≡ seen_bytes A q (take n xs)
take_seen A q zero [] = refl
take_seen A q zero (x ∷ xs) = refl
take_seen A q (suc n) [] = refl
take_seen A q (suc n) (x ∷ xs) = ap (λ (l : List (Option ℕ)). (if A q then None else Some x) ∷ l) (take_seen A (q + 1) n xs)

pub drop_seen : (A : ℕ → Bool) (q n : ℕ) (xs : List ℕ) → drop n (seen_bytes A q xs) ≡ seen_bytes A (q + n) (drop n xs)
drop_seen A q zero xs = let e : q ≡ q + 0 = omega arith in ap (λ (p : ℕ). seen_bytes A p xs) e
drop_seen A q (suc n) [] = refl
drop_seen A q (suc n) (x ∷ xs) =
    let e : q + 1 + n ≡ q + suc n = omega arith in
    drop_seen A (q + 1) n xs ∙ ap (λ (p : ℕ). seen_bytes A p (drop n xs)) e

pub zeros_seen : (A : ℕ → Bool) (q n : ℕ) → ((i : ℕ) → i < n → A (q + i) ≡ false) → seen_bytes A q (replicate n 0) ≡ replicate n (Some 0)
zeros_seen A q zero none = refl
zeros_seen A q (suc n) none =
    let at_is : q + 0 ≡ q = omega arith in
    let first : A q ≡ false = ap A (sym at_is) ∙ none 0 (omega arith) in
    let rest : seen_bytes A (q + 1) (replicate n 0) ≡ replicate n (Some 0) = zeros_seen A (q + 1) n (λ i below.
    let e : q + 1 + i ≡ q + suc i = omega arith in
    ap A e ∙ none (suc i) (omega arith)) in
    λ i. (if first i then None else Some 0) ∷ rest i
