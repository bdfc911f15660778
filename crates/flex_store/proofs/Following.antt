-- Anchors that moved with the bytes around them: where each was and is, that those of two blocks
-- differ still, and that they fit the layout to come.
use Rattle.std.proofs.Common.{◌≡◌, ℕ, Bool, ◌+◌, ◌-◌, ◌%◌, ◌^◌, ◌<◌, ◌≤◌, true, false, nat_eq, List, [], ◌∷◌, arith, refl, sym, ◌∙◌, ap, inl, inr, ◌⊎◌, subst}
use Rattle.std.proofs.lemmas.Bool.{both_ways, eqb-true, eq-eqb, false_from_ne_true, false≢true, le-leb, or_cases, or_left, or_right}
use Rattle.os_heap.specs.Bytes.{AreMapped}
use Rattle.flex_store.specs.declared.shift.Shift.{Shift}
use Rattle.flex_store.specs.Blocks.{Block, has_anchor, is_held_word, is_in_contents, bytes_taken_by, bytes_taken_by_all}
use Rattle.flex_store.specs.Shifts.{following, gone_to}
use Rattle.flex_store.specs.State.{AreAnchorWords, AreWhole, IsAnchorWord}
use Rattle.flex_store.proofs.Words.{contents_within, held_word, IsHeld}

-- The numbers of a change of the block whose header is at `at`. Of its contents what ends up to
-- `low` stays, and what begins at `from` goes to `to`; they end at `held` then. The blocks after
-- it, from `old` up to `last`, go to `new`. The store ends at `end`.
pub record Move : Type 0 where
  pub at : ℕ
  pub low : ℕ
  pub from : ℕ
  pub to : ℕ
  pub held : ℕ
  pub old : ℕ
  pub new : ℕ
  pub last : ℕ
  pub end : ℕ

pub record IsMove (k : Move) : Type 0 where
  pub low : k.at ≤ k.low
  pub to : k.low ≤ k.to
  pub low_fits : k.low ≤ k.new
  pub held : k.held ≤ k.new
  pub last : k.old ≤ k.last
  pub old_fits : k.last ≤ k.end
  pub new_fits : k.new + (k.last - k.old) ≤ k.end
  pub old_aligned : k.old % 4 ≡ 0
  pub new_aligned : k.new % 4 ≡ 0

-- Where an anchor was, `a`, and where it is then, `g`: in the blocks `xs` before that block or
-- before the store, in it, in the blocks `bs` after it, or after the store.
pub data Place (k : Move) (start : ℕ) (xs bs : List Block) (a g : ℕ) : Type 0 where
  Below : g ≡ a → a + 4 ≤ k.at → (start ≤ a → is_in_contents start xs a ≡ true) → Place k start xs bs a g
  Before : g ≡ a → k.at + 8 ≤ a → a + 4 ≤ k.low → Place k start xs bs a g
  Past : g ≡ k.to + (a - k.from) → k.from ≤ a → g % 4 ≡ 0 → g + 4 ≤ k.held → Place k start xs bs a g
  Behind : g ≡ k.new + (a - k.old) → k.old ≤ a → a + 4 ≤ k.last → is_in_contents k.old bs a ≡ true → Place k start xs bs a g
  Above : g ≡ a → k.end ≤ a → Place k start xs bs a g

-- Two anchors that differ go to words that differ.
pub places_apart : (k : Move) (start : ℕ) (xs bs : List Block) (a b g h : ℕ) → IsMove k → Place k start xs bs a g → Place k start xs bs b h → (a ≡ b → ⊥) → g ≡ h → ⊥
places_apart k start xs bs a b g h is (Below e1 low1 _) (Below e2 low2 _) differ same = differ (omega arith)
places_apart k start xs bs a b g h is (Below e1 low1 _) (Before e2 from2 below2) differ same = differ (omega arith)
places_apart k start xs bs a b g h is (Below e1 low1 _) (Past e2 from2 aligned2 below2) differ same = differ (omega arith)
places_apart k start xs bs a b g h is (Below e1 low1 _) (Behind e2 from2 below2 _) differ same = differ (omega arith)
places_apart k start xs bs a b g h is (Below e1 low1 _) (Above e2 past2) differ same = differ (omega arith)
places_apart k start xs bs a b g h is (Before e1 from1 below1) (Below e2 low2 _) differ same = differ (omega arith)
places_apart k start xs bs a b g h is (Before e1 from1 below1) (Before e2 from2 below2) differ same = differ (omega arith)
places_apart k start xs bs a b g h is (Before e1 from1 below1) (Past e2 from2 aligned2 below2) differ same = differ (omega arith)
places_apart k start xs bs a b g h is (Before e1 from1 below1) (Behind e2 from2 below2 _) differ same = differ (omega arith)
places_apart k start xs bs a b g h is (Before e1 from1 below1) (Above e2 past2) differ same = differ (omega arith)
places_apart k start xs bs a b g h is (Past e1 from1 aligned1 below1) (Below e2 low2 _) differ same = differ (omega arith)
places_apart k start xs bs a b g h is (Past e1 from1 aligned1 below1) (Before e2 from2 below2) differ same = differ (omega arith)
places_apart k start xs bs a b g h is (Past e1 from1 aligned1 below1) (Past e2 from2 aligned2 below2) differ same = differ (omega arith)
places_apart k start xs bs a b g h is (Past e1 from1 aligned1 below1) (Behind e2 from2 below2 _) differ same = differ (omega arith)
places_apart k start xs bs a b g h is (Past e1 from1 aligned1 below1) (Above e2 past2) differ same = differ (omega arith)
places_apart k start xs bs a b g h is (Behind e1 from1 below1 _) (Below e2 low2 _) differ same = differ (omega arith)
places_apart k start xs bs a b g h is (Behind e1 from1 below1 _) (Before e2 from2 below2) differ same = differ (omega arith)
places_apart k start xs bs a b g h is (Behind e1 from1 below1 _) (Past e2 from2 aligned2 below2) differ same = differ (omega arith)
places_apart k start xs bs a b g h is (Behind e1 from1 below1 _) (Behind e2 from2 below2 _) differ same = differ (omega arith)
places_apart k start xs bs a b g h is (Behind e1 from1 below1 _) (Above e2 past2) differ same = differ (omega arith)
places_apart k start xs bs a b g h is (Above e1 past1) (Below e2 low2 _) differ same = differ (omega arith)
places_apart k start xs bs a b g h is (Above e1 past1) (Before e2 from2 below2) differ same = differ (omega arith)
places_apart k start xs bs a b g h is (Above e1 past1) (Past e2 from2 aligned2 below2) differ same = differ (omega arith)
places_apart k start xs bs a b g h is (Above e1 past1) (Behind e2 from2 below2 _) differ same = differ (omega arith)
places_apart k start xs bs a b g h is (Above e1 past1) (Above e2 past2) differ same = differ (omega arith)

-- An anchor that is outside what changes then has not moved.
pub outer_place : (k : Move) (start : ℕ) (xs bs : List Block) (a g : ℕ) → IsMove k → Place k start xs bs a g → (g + 4 ≤ k.at) ⊎ (k.end ≤ g) → g ≡ a
outer_place k start xs bs a g is (Below e low _) out = e
outer_place k start xs bs a g is (Before e from below) out = e
outer_place k start xs bs a g is (Past e from aligned below) (inl low) = absurd (omega arith)
outer_place k start xs bs a g is (Past e from aligned below) (inr high) = absurd (omega arith)
outer_place k start xs bs a g is (Behind e from below _) (inl low) = absurd (omega arith)
outer_place k start xs bs a g is (Behind e from below _) (inr high) = absurd (omega arith)
outer_place k start xs bs a g is (Above e past) out = e

-- lists of blocks whose anchors moved
pub following_used : (ss : List Shift) (bs : List Block) → bytes_taken_by_all (following ss bs) ≡ bytes_taken_by_all bs
following_used ss [] = refl
following_used ss (b ∷ bs) = ap (λ (n : ℕ). bytes_taken_by b.size + n) (following_used ss bs)

pub following_whole : (ss : List Shift) (bs : List Block) → AreWhole bs → AreWhole (following ss bs)
following_whole ss [] whole = tt
following_whole ss (b ∷ bs) whole = (whole.0, following_whole ss bs whole.1)

pub has_following : (ss : List Shift) (bs : List Block) (g : ℕ) → has_anchor (following ss bs) g ≡ true
    → (a : ℕ) × ((has_anchor bs a ≡ true) × (gone_to ss a ≡ g))
has_following ss [] g has = absurd (false≢true has)
has_following ss (b ∷ bs) g has = elim (or_cases (nat_eq g (gone_to ss b.anchor)) (has_anchor (following ss bs) g) has) [
  | inl here ↦ (b.anchor, (or_left (nat_eq b.anchor b.anchor) (has_anchor bs b.anchor) (eq-eqb b.anchor b.anchor refl), sym (eqb-true g (gone_to ss b.anchor) here)))
  | inr later ↦
      let f = has_following ss bs g later in
      (f.0, (or_right (nat_eq f.0 b.anchor) (has_anchor bs f.0) f.1.0, f.1.1))
]

-- where the anchors of some blocks are
abbrev pub ArePlaced : Move → ℕ → List Block → List Block → List Shift → List Block → Type 0
ArePlaced k start xs bs ss ys = (a : ℕ) → has_anchor ys a ≡ true → Place k start xs bs a (gone_to ss a)

-- An anchor is a word of the store's range or of elsewhere then, outside the text from its block's
-- header on.
gone_word : (mapped : ℕ → Bool) (k : Move) (start : ℕ) (xs bs : List Block) (h a g : ℕ) → IsMove k → AreMapped mapped k.at (k.end - k.at) → k.end ≤ 2 ^ 26
    → k.old ≤ h → Place k start xs bs a g → IsAnchorWord mapped h k.end a → IsAnchorWord mapped (k.new + (h - k.old)) k.end g
gone_word mapped k start xs bs h a g is there low past (Below e below _) w = subst (λ (x : ℕ). IsAnchorWord mapped (k.new + (h - k.old)) k.end x) (sym e) (record {
  aligned = w.aligned;
  there = w.there;
  low = w.low;
  outside = inl (omega arith);
})
gone_word mapped k start xs bs h a g is there low past (Above e above) w = subst (λ (x : ℕ). IsAnchorWord mapped (k.new + (h - k.old)) k.end x) (sym e) (record {
  aligned = w.aligned;
  there = w.there;
  low = w.low;
  outside = inr above;
})
gone_word mapped k start xs bs h a g is there low past (Before e from below) w = subst (λ (x : ℕ). IsAnchorWord mapped (k.new + (h - k.old)) k.end x) (sym e) (record {
  aligned = w.aligned;
  there = w.there;
  low = w.low;
  outside = inl (omega arith);
})
gone_word mapped k start xs bs h a g is there low past (Past e from aligned below) w = record {
  aligned = aligned;
  there = there g (omega arith) (omega arith);
  low = omega arith;
  outside = inl (omega arith);
}
gone_word mapped k start xs bs h a g is there low past (Behind e from below _) w =
    let aligned : a % 4 ≡ 0 = w.aligned in
    record {
      aligned = omega arith;
      there = there g (omega arith) (omega arith);
      low = omega arith;
      outside = elim w.outside [ inl before ↦ inl (omega arith) | inr behind ↦ absurd (omega arith) ];
    }

pub following_words : (mapped : ℕ → Bool) (k : Move) (start : ℕ) (xs bs : List Block) (ss : List Shift) (ys : List Block) (h : ℕ) → IsMove k
    → AreMapped mapped k.at (k.end - k.at) → k.end ≤ 2 ^ 26 → k.old ≤ h → ArePlaced k start xs bs ss ys → AreAnchorWords mapped h k.end ys
    → AreAnchorWords mapped (k.new + (h - k.old)) k.end (following ss ys)
following_words mapped k start xs bs ss [] h is there low past places words = tt
following_words mapped k start xs bs ss (y ∷ ys) h is there low past places words =
    let own : Place k start xs bs y.anchor (gone_to ss y.anchor) = places y.anchor (or_left (nat_eq y.anchor y.anchor) (has_anchor ys y.anchor) (eq-eqb y.anchor y.anchor refl)) in
    let rest : ArePlaced k start xs bs ss ys = λ a has. places a (or_right (nat_eq a y.anchor) (has_anchor ys a) has) in
    let e : k.new + (h + bytes_taken_by y.size - k.old) ≡ k.new + (h - k.old) + bytes_taken_by y.size = omega arith in (
      (
        gone_word mapped k start xs bs h y.anchor (gone_to ss y.anchor) is there low past own words.0.0,
        false_from_ne_true (has_anchor (following ss ys) (gone_to ss y.anchor)) (λ has.
            let f = has_following ss ys (gone_to ss y.anchor) has in
            places_apart k start xs bs f.0 y.anchor (gone_to ss f.0) (gone_to ss y.anchor) is (rest f.0 f.1.0) own
            (λ same. both_ways (has_anchor ys y.anchor) words.0.1 (ap (has_anchor ys) (sym same) ∙ f.1.0)) f.1.1),
      ),
      rw e at (following_words mapped k start xs bs ss ys (h + bytes_taken_by y.size) is there low (omega arith) rest words.1),
    )

-- A word outside what changes is an anchor of theirs then only if it was.
pub fresh_following : (k : Move) (start : ℕ) (xs bs : List Block) (ss : List Shift) (ys : List Block) (p : ℕ) → IsMove k → ArePlaced k start xs bs ss ys
    → (p + 4 ≤ k.at) ⊎ (k.end ≤ p) → has_anchor ys p ≡ false → has_anchor (following ss ys) p ≡ false
fresh_following k start xs bs ss ys p is places out none = false_from_ne_true (has_anchor (following ss ys) p) (λ has.
    let f = has_following ss ys p has in
    let own : Place k start xs bs f.0 p = subst (λ (g : ℕ). Place k start xs bs f.0 g) f.1.1 (places f.0 f.1.0) in
    both_ways (has_anchor ys p) none (ap (has_anchor ys) (outer_place k start xs bs f.0 p is own out) ∙ f.1.0))

-- what is in contents of blocks is so where they are laid elsewhere
pub contents_moved : (old new : ℕ) (ss : List Shift) (bs : List Block) (a : ℕ) → is_in_contents old bs a ≡ true
    → is_in_contents new (following ss bs) (new + (a - old)) ≡ true
contents_moved old new ss [] a held = absurd (false≢true held)
contents_moved old new ss (b ∷ bs) a held = elim (or_cases (is_held_word old b a) (is_in_contents (old + bytes_taken_by b.size) bs a) held) [
  | inl here ↦
      let h = held_word old b a here in
      or_left (is_held_word new b (new + (a - old))) (is_in_contents (new + bytes_taken_by b.size) (following ss bs) (new + (a - old)))
      (rw (le-leb (new + 8) (new + (a - old)) (omega (arith, h.0)), le-leb (new + (a - old) + 4) (new + 8 + b.size) (omega (arith, h.0, h.1))) refl)
  | inr later ↦
      let w : IsHeld (old + bytes_taken_by b.size) (bytes_taken_by_all bs) a = contents_within (old + bytes_taken_by b.size) bs a later in
      let e : new + bytes_taken_by b.size + (a - (old + bytes_taken_by b.size)) ≡ new + (a - old) = omega (arith, w.from) in
      or_right (is_held_word new b (new + (a - old))) (is_in_contents (new + bytes_taken_by b.size) (following ss bs) (new + (a - old)))
      (rw e at (contents_moved (old + bytes_taken_by b.size) (new + bytes_taken_by b.size) ss bs a later))
]

-- Where an anchor in the store's range is then: in contents of the blocks before, of the block that
-- changed, or of those after it.
pub data Inside (k : Move) (start : ℕ) (xs bs : List Block) (ss : List Shift) (p : ℕ) : Type 0 where
  InFront : is_in_contents start xs p ≡ true → Inside k start xs bs ss p
  InBlock : k.at + 8 ≤ p → p + 4 ≤ k.held → Inside k start xs bs ss p
  InRest : is_in_contents k.new (following ss bs) p ≡ true → Inside k start xs bs ss p

pub placed_inside : (k : Move) (start : ℕ) (xs bs : List Block) (ss : List Shift) (a g : ℕ) → IsMove k → k.at + 8 ≤ k.to → k.low ≤ k.held
    → start ≤ g → g < k.end → Place k start xs bs a g → Inside k start xs bs ss g
placed_inside k start xs bs ss a g is past held up below (Below e low front) = InFront (ap (is_in_contents start xs) e ∙ front (omega arith))
placed_inside k start xs bs ss a g is past held up below (Before e from low) = InBlock (omega arith) (omega arith)
placed_inside k start xs bs ss a g is past held up below (Past e from aligned low) = InBlock (omega arith) low
placed_inside k start xs bs ss a g is past held up below (Behind e from low there) = InRest (ap (is_in_contents k.new (following ss bs)) e ∙ contents_moved k.old k.new ss bs a there)
placed_inside k start xs bs ss a g is past held up below (Above e above) = absurd (omega arith)
