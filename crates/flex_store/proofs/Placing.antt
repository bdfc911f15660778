-- Where the anchors after a block are once it has changed, or gone: what the tests of a call leave
-- of the places that they can have.
use Rattle.std.proofs.Common.{◌≡◌, ℕ, ◌+◌, ◌-◌, ◌%◌, ◌<◌, ◌≤◌, true, false, ◌&&◌, not, ◌==◌, nat_eq, List, [], ◌∷◌, ◌++◌, arith, refl, sym, ◌∙◌, ap, inl, inr, ◌⊎◌}
use Rattle.std.specs.Prelude.{nat_le, nat_lt}
use Rattle.std.proofs.lemmas.Bool.{and_parts, both_ways, cases_Bool, cases_lt, eqb-true, false_from_ne_true, le-leb, leb-true, lt-ltb, ltb-true, ne_eqb, or_cases, or_parts, or_right}
use Rattle.os_heap.proofs.Anchors.{none_among}
use Rattle.os_heap.specs.Bytes.{word_start}
use Rattle.os_heap.specs.Records.{anchor_among}
use Rattle.flex_store.specs.declared.shift.Shift.{Shift}
use Rattle.flex_store.specs.Blocks.{Block, FlexStore, has_anchor, is_held_word, is_in_contents, bytes_taken_by, bytes_taken_by_all}
use Rattle.flex_store.specs.Calls.{breaks_anchor, is_anchor_byte}
use Rattle.flex_store.specs.Shifts.{gone_to, removal_shifts, splice_shifts}
use Rattle.flex_store.specs.State.{AreInner}
use Rattle.flex_store.proofs.Following.{Above, Before, Behind, Below, IsMove, Move, Past, Place}
use Rattle.flex_store.proofs.Lists.{anchor-append, contents-append, used_aligned}
use Rattle.flex_store.proofs.Words.{contents_within, held_word, IsHeld}

-- a word among the bytes that move, and one that is not
pub gone_here : (s : Shift) (ss : List Shift) (a : ℕ) → s.from ≤ a → a < s.end → gone_to (s ∷ ss) a ≡ s.to + (a - s.from)
gone_here s ss a low high = rw (le-leb s.from a low, lt-ltb a s.end high) refl

pub gone_past : (s : Shift) (ss : List Shift) (a : ℕ) → (a < s.from) ⊎ (s.end ≤ a) → gone_to (s ∷ ss) a ≡ gone_to ss a
gone_past s ss a out =
    let none : (nat_le s.from a && nat_lt a s.end) ≡ false = false_from_ne_true _ (λ met.
    let parts = and_parts (nat_le s.from a) (nat_lt a s.end) met in
    let low : s.from ≤ a = leb-true s.from a parts.0 in
    let high : a < s.end = ltb-true a s.end parts.1 in
    elim out [ inl before ↦ omega arith | inr behind ↦ omega arith ]) in
    rw none refl

-- the numbers of a splice of the block `b`, and of its removal
abbrev pub splice_move : ℕ → Block → ℕ → ℕ → ℕ → ℕ → ℕ → Move
splice_move at b place cut more last end = record {
  at = at;
  low = at + 8 + (place - cut);
  from = at + 8 + place;
  to = at + 8 + (place - cut + more);
  held = at + 8 + (place - cut + more + (b.size - place));
  old = at + bytes_taken_by b.size;
  new = at + bytes_taken_by (place - cut + more + (b.size - place));
  last = last;
  end = end;
}

abbrev pub removal_move : ℕ → Block → ℕ → ℕ → Move
removal_move at b last end = record {
  at = at;
  low = at;
  from = at;
  to = at + 8;
  held = at;
  old = at + bytes_taken_by b.size;
  new = at;
  last = last;
  end = end;
}

-- An anchor among the contents of the changed block: it stays, or moves by whole words.
abbrev pub IsUnbroken : ℕ → ℕ → ℕ → ℕ → ℕ → Type 0
IsUnbroken c place cut more a = (a + 4 ≤ c + (place - cut)) ⊎ ((c + place ≤ a) × (more % 4 ≡ cut % 4))

module _ (start end at last : ℕ) (xs after : List Block) (b : Block) (inner : AreInner start end (xs ++ b ∷ after)) (place_is : at ≡ start + bytes_taken_by_all xs)
    (last_is : last ≡ at + (bytes_taken_by b.size + bytes_taken_by_all after)) (fits : last ≤ end) (aligned : start % 4 ≡ 0) where
  at_aligned : at % 4 ≡ 0
  at_aligned = omega (arith, aligned, place_is, used_aligned xs)

  has_all : (a : ℕ) → has_anchor after a ≡ true → has_anchor (xs ++ b ∷ after) a ≡ true
  has_all a has = anchor-append xs (b ∷ after) a ∙ or_right (has_anchor xs a) (has_anchor (b ∷ after) a) (or_right (nat_eq a b.anchor) (has_anchor after a) has)

  pub splice_numbers : (place cut more : ℕ) → cut ≤ place → place ≤ b.size
      → at + bytes_taken_by (place - cut + more + (b.size - place)) + bytes_taken_by_all after ≤ end → IsMove (splice_move at b place cut more last end)
  splice_numbers place cut more cut_fits place_fits room = record {
    low = omega arith;
    to = omega arith;
    low_fits = omega arith;
    held = omega arith;
    last = omega (arith, last_is);
    old_fits = fits;
    new_fits = omega (arith, last_is, room);
    old_aligned = omega (arith, at_aligned);
    new_aligned = omega (arith, at_aligned);
  }

  pub removal_numbers : IsMove (removal_move at b last end)
  removal_numbers = record {
    low = omega arith;
    to = omega arith;
    low_fits = omega arith;
    held = omega arith;
    last = omega (arith, last_is);
    old_fits = fits;
    new_fits = omega (arith, last_is, fits);
    old_aligned = omega (arith, at_aligned);
    new_aligned = at_aligned;
  }

  -- where it was
  data Was (a : ℕ) : Type 0 where
    Under : a + 4 ≤ at → (start ≤ a → is_in_contents start xs a ≡ true) → Was a
    Held : at + 8 ≤ a → a + 4 ≤ at + 8 + b.size → Was a
    Later : is_in_contents (at + bytes_taken_by b.size) after a ≡ true → Was a
    Over : end ≤ a → Was a

  was_inside : (a : ℕ) → is_in_contents start (xs ++ b ∷ after) a ≡ true → Was a
  was_inside a held = elim (or_cases (is_in_contents start xs a) (is_in_contents (start + bytes_taken_by_all xs) (b ∷ after) a) (sym (contents-append start xs (b ∷ after) a) ∙ held)) [
    | inl front ↦
        let w : IsHeld start (bytes_taken_by_all xs) a = contents_within start xs a front in
        Under (omega (arith, w.below, place_is)) (λ up. front)
    | inr rest ↦
        let rest' : is_in_contents at (b ∷ after) a ≡ true = ap (λ (p : ℕ). is_in_contents p (b ∷ after) a) place_is ∙ rest in
        elim (or_cases (is_held_word at b a) (is_in_contents (at + bytes_taken_by b.size) after a) rest') [
          | inl here ↦ let h = held_word at b a here in Held h.0 h.1
          | inr later ↦ Later later
        ]
  ]

  was : (a : ℕ) → a % 4 ≡ 0 → has_anchor after a ≡ true → Was a
  was a word has = elim (cases_lt a start) [
    | inl below ↦ Under (omega (arith, aligned, word, place_is)) (λ up. absurd (omega (arith, below, up)))
    | inr up ↦ elim (cases_lt a end) [
      | inr past ↦ Over past
      | inl inside ↦ was_inside a (inner a (has_all a has) up inside)
    ]
  ]

  module _ (place cut more : ℕ) (cut_fits : cut ≤ place) (place_fits : place ≤ b.size)
      (free : (a : ℕ) → a % 4 ≡ 0 → has_anchor after a ≡ true → at + 8 ≤ a → a + 4 ≤ at + 8 + b.size → IsUnbroken (at + 8) place cut more a) where
    shifts : List Shift
    shifts = splice_shifts at last b.size place cut more

    inside : Shift
    inside = record { from = at + 8 + place; end = at + 8 + b.size; to = at + 8 + (place - cut + more) }

    behind : Shift
    behind = record { from = at + bytes_taken_by b.size; end = last; to = at + bytes_taken_by (place - cut + more + (b.size - place)) }

    stays : (a : ℕ) → (a < at + 8 + place) ⊎ (last ≤ a) → gone_to (splice_shifts at last b.size place cut more) a ≡ a
    unfolding inside behind
    stays a out = gone_past inside (behind ∷ []) a (elim out [ inl low ↦ inl low | inr high ↦ inr (omega (arith, high, last_is)) ])
        ∙ gone_past behind [] a (elim out [ inl low ↦ inl (omega (arith, low, place_fits)) | inr high ↦ inr high ])

    placed_held : (a : ℕ) → a % 4 ≡ 0 → at + 8 ≤ a → a + 4 ≤ at + 8 + b.size → IsUnbroken (at + 8) place cut more a
        → Place (splice_move at b place cut more last end) start xs after a (gone_to (splice_shifts at last b.size place cut more) a)
    unfolding inside behind
    placed_held a word low high (inl before) = Before (stays a (inl (omega (arith, before, cut_fits)))) low before
    placed_held a word low high (inr moved) =
        let e : gone_to (splice_shifts at last b.size place cut more) a ≡ at + 8 + (place - cut + more) + (a - (at + 8 + place)) =
        gone_here inside (behind ∷ []) a moved.0 (omega (arith, high)) in
        Past e moved.0 (rw e (omega (arith, word, at_aligned, moved.0, moved.1, cut_fits))) (rw e (omega (arith, high, moved.0, place_fits)))

    placed_was : (a : ℕ) → a % 4 ≡ 0 → has_anchor after a ≡ true → Was a
        → Place (splice_move at b place cut more last end) start xs after a (gone_to (splice_shifts at last b.size place cut more) a)
    unfolding inside behind
    placed_was a word has (Under below front) = Below (stays a (inl (omega (arith, below)))) below front
    placed_was a word has (Held low high) = placed_held a word low high (free a word has low high)
    placed_was a word has (Over past) = Above (stays a (inr (omega (arith, fits, past)))) past
    placed_was a word has (Later later) =
        let w : IsHeld (at + bytes_taken_by b.size) (bytes_taken_by_all after) a = contents_within (at + bytes_taken_by b.size) after a later in
        Behind (gone_past inside (behind ∷ []) a (inr (omega (arith, w.from))) ∙ gone_here behind [] a (omega (arith, w.from)) (omega (arith, w.below, last_is)))
        (omega (arith, w.from)) (omega (arith, w.below, last_is)) later

    pub splice_placed : (a : ℕ) → a % 4 ≡ 0 → has_anchor after a ≡ true
        → Place (splice_move at b place cut more last end) start xs after a (gone_to (splice_shifts at last b.size place cut more) a)
    splice_placed a word has = placed_was a word has (was a word has)

  module _ (free : (a : ℕ) → a % 4 ≡ 0 → has_anchor after a ≡ true → at + 8 ≤ a → a + 4 ≤ at + 8 + b.size → ⊥) where
    closed : Shift
    closed = record { from = at + bytes_taken_by b.size; end = last; to = at }

    closed_was : (a : ℕ) → a % 4 ≡ 0 → has_anchor after a ≡ true → Was a
        → Place (removal_move at b last end) start xs after a (gone_to (removal_shifts at last b.size) a)
    unfolding closed
    closed_was a word has (Under below front) = Below (gone_past closed [] a (inl (omega (arith, below)))) below front
    closed_was a word has (Held low high) = absurd (free a word has low high)
    closed_was a word has (Over past) = Above (gone_past closed [] a (inr (omega (arith, fits, past)))) past
    closed_was a word has (Later later) =
        let w : IsHeld (at + bytes_taken_by b.size) (bytes_taken_by_all after) a = contents_within (at + bytes_taken_by b.size) after a later in
        Behind (gone_here closed [] a (omega (arith, w.from)) (omega (arith, w.below, last_is))) (omega (arith, w.from)) (omega (arith, w.below, last_is)) later

    pub removal_placed : (a : ℕ) → a % 4 ≡ 0 → has_anchor after a ≡ true
        → Place (removal_move at b last end) start xs after a (gone_to (removal_shifts at last b.size) a)
    removal_placed a word has = closed_was a word has (was a word has)

-- What the tests say: no byte of these is one of an anchor.
pub no_anchor_in : (s : FlexStore) (at len a x : ℕ) → anchor_among (is_anchor_byte s) at len ≡ false → has_anchor s.blocks a ≡ true → at ≤ x → x < at + len → word_start x ≡ a → ⊥
no_anchor_in s at len a x none has low high here =
    both_ways (has_anchor s.blocks (word_start x)) (none_among (is_anchor_byte s) at len x none low high) (ap (has_anchor s.blocks) here ∙ has)

-- A test that found no anchor to break: each in the contents stays, or moves by whole words.
unbroken_by : (s : FlexStore) (c size place cut more a : ℕ) → c % 4 ≡ 0 → cut ≤ place → 0 < cut + more → a % 4 ≡ 0 → has_anchor s.blocks a ≡ true
    → c ≤ a → a + 4 ≤ c + size → anchor_among (is_anchor_byte s) (c + place - cut) cut ≡ false
    → (not (more == 0) && (not (place % 4 == 0) && anchor_among (is_anchor_byte s) (c + place) 1)) ≡ false
    → (not (more % 4 == cut % 4) && anchor_among (is_anchor_byte s) (c + place) (size - place)) ≡ false → IsUnbroken c place cut more a
unbroken_by s c size place cut more a aligned inside some word has low high one two three = elim (cases_lt a (c + place)) [
  | inr past ↦ elim (cases_Bool (nat_eq (more % 4) (cut % 4))) [
    | inl same ↦ inr (past, eqb-true (more % 4) (cut % 4) same)
    | inr differs ↦ absurd (no_anchor_in s (c + place) (size - place) a a (rw differs at three) has past (omega (arith, past, high)) (omega (arith, word)))
  ]
  | inl before ↦ elim (cases_lt (c + (place - cut)) (a + 4)) [
    | inr stays ↦ inl stays
    | inl met ↦ absurd (elim (cases_lt 0 cut) [
      | inl cuts ↦ elim (cases_lt a (c + place - cut)) [
        | inl low' ↦ no_anchor_in s (c + place - cut) cut a (c + place - cut) one has (omega arith) (omega arith) (omega (arith, word, low', met, inside))
        | inr up ↦ no_anchor_in s (c + place - cut) cut a a one has up (omega arith) (omega (arith, word))
      ]
      | inr none ↦
          let more_is : nat_eq more 0 ≡ false = ne_eqb more 0 (λ e. omega arith) in
          let odd : nat_eq (place % 4) 0 ≡ false = ne_eqb (place % 4) 0 (λ e. omega (arith, aligned, word, before, met, none)) in
          no_anchor_in s (c + place) 1 a (c + place) (rw (more_is, odd) at two) has (omega arith) (omega arith) (omega (arith, word, before, met, none))
    ])
  ]
]

pub unbroken : (s : FlexStore) (c size place cut more a : ℕ) → breaks_anchor (is_anchor_byte s) c size place cut more ≡ false → c % 4 ≡ 0 → cut ≤ place → 0 < cut + more
    → a % 4 ≡ 0 → has_anchor s.blocks a ≡ true → c ≤ a → a + 4 ≤ c + size → IsUnbroken c place cut more a
unbroken s c size place cut more a free aligned inside some word has low high =
    let one = or_parts (anchor_among (is_anchor_byte s) (c + place - cut) cut) _ free in
    let two = or_parts (not (more == 0) && (not (place % 4 == 0) && anchor_among (is_anchor_byte s) (c + place) 1)) _ one.1 in
    unbroken_by s c size place cut more a aligned inside some word has low high one.0 two.0 two.1
