-- Which bytes are an anchor's after a change, and what stands in those that are none: before it as
-- they were, and after it where they went.
use Rattle.std.proofs.Common.{◌≡◌, ℕ, Bool, ◌+◌, ◌-◌, ◌%◌, ◌^◌, ◌<◌, ◌≤◌, true, false, ◌||◌, nat_eq, List, ◌∷◌, ◌++◌, length, take, drop, replicate, Option, Some, option_map, arith, refl, sym, ◌∙◌, ap, inl, inr, ◌⊎◌, subst}
use Rattle.std.proofs.lemmas.Bool.{both_ways, eq-eqb, false_from_ne_true, ne_eqb, or_left, or_parts, or_right}
use Rattle.std.proofs.lemmas.List.{length-replicate, length-take-le}
use Rattle.std.proofs.Math.ListN.{length-drop}
use Rattle.std.proofs.Math.Seq.{take-append_seam}
use Rattle.address_map.specs.Bytes.{AreMapped, bytes_between, with_bytes_at, word_start}
use Rattle.flex_store.specs.Blocks.{Block, contents, has_anchor, block_holding, bytes_after_splice, bytes_taken_by, bytes_taken_by_all, whole_words}
use Rattle.flex_store.specs.Memory.{Holds, laid_out, standing, blocks_text_of}
use Rattle.flex_store.specs.Shifts.{following, gone_to, Shifts}
use Rattle.flex_store.specs.State.{AreAnchorWords, AreWhole}
use Rattle.flex_store.proofs.Anchoring.{anchors_beside}
use Rattle.flex_store.proofs.Fitting.{front_fresh, own_fresh}
use Rattle.flex_store.proofs.Following.{Above, ArePlaced, Before, Behind, Below, following_words, has_following, IsMove, Move, Past, Place}
use Rattle.flex_store.proofs.Holding.{bytes_beside, bytes_held}
use Rattle.flex_store.proofs.Lists.{anchor-append, used_aligned}
use Rattle.flex_store.proofs.Reading.{spelled}
use Rattle.flex_store.proofs.Standing.{standing_has, standing_used}
use Rattle.flex_store.proofs.Words.{word_of, words_apart, words_right}
use Rattle.law_machine.specs.flex.Seen.{seen_at, seen_bytes, seen_spliced}
use Rattle.law_machine.proofs.FlexLemmas.Gone.{below_same, front_out, has_gone, IsGone, none_front, none_own, outer_anchor, rest_same}
use Rattle.os_heap.proofs.RangeTests.{same_tests}
use Rattle.law_machine.proofs.FlexLemmas.Seeing.{block_seen, drop_seen, front_seen, rest_seen, same_seen, seen_append, seen_past, standing_append, take_seen, zeros_seen}

-- what a change of the block `b` into `new` moves
pub record IsMoved (k : Move) (start : ℕ) (front after : List Block) (b new : Block) (ss : Shifts) : Type 0 where
  pub place : k.at ≡ start + bytes_taken_by_all front
  pub old : k.old ≡ k.at + bytes_taken_by b.size
  pub new_is : k.new ≡ k.at + bytes_taken_by new.size
  pub last : k.last ≡ k.old + bytes_taken_by_all after
  pub anchor : new.anchor ≡ b.anchor
  pub whole : length new.bytes ≡ whole_words new.size
  pub small : new.size < 2 ^ 32
  pub behind : (w : ℕ) → k.old ≤ w → w < k.last → gone_to ss w ≡ k.new + (w - k.old)
  pub below : (w : ℕ) → w + 4 ≤ k.at → gone_to ss w ≡ w
  pub above : (w : ℕ) → k.end ≤ w → gone_to ss w ≡ w

-- and where its own parts lie: `tail` bytes of it move
pub record IsOwn (k : Move) (tail : ℕ) : Type 0 where
  pub low : k.at + 8 ≤ k.low
  pub from : k.low ≤ k.from
  pub held : k.to + tail ≤ k.held
  pub old : k.from + tail ≤ k.old

module _ (mapped : ℕ → Bool) (start end : ℕ) (front after : List Block) (b new : Block) (k : Move) (is : IsMove k) (ss : Shifts)
    (places : ArePlaced k start front after ss after) (words : AreAnchorWords mapped start end (front ++ b ∷ after)) (end_is : k.end ≡ end)
    (v : IsMoved k start front after b new ss) where
  abbrev olds : List Block
  olds = front ++ b ∷ after

  abbrev news : List Block
  news = front ++ new ∷ following ss after

  all_gone : IsGone k start front after b ss
  all_gone = record { place = v.place; old = v.old; last = v.last; behind = v.behind; below = v.below; above = v.above }

  pub front_outside : (p : ℕ) → has_anchor front p ≡ true → (p + 4 ≤ k.at) ⊎ (k.end ≤ p)
  front_outside p has = front_out mapped start end front after b k is ss places words end_is all_gone p has

  pub outside_same : (w : ℕ) → (w + 4 ≤ k.at) ⊎ (k.end ≤ w) → has_anchor (following ss after) w ≡ has_anchor after w
  outside_same w out = outer_anchor mapped start end front after b k is ss places words end_is all_gone w out

  -- words in front
  word_below : (w : ℕ) → w + 4 ≤ k.at → has_anchor (front ++ new ∷ following ss after) w ≡ has_anchor (front ++ b ∷ after) w
  word_below w low =
      anchor-append front (new ∷ following ss after) w
      ∙ ((λ i. has_anchor front w || (nat_eq w (v.anchor i) || below_same mapped start end front after b k is ss places words end_is all_gone w low i)) ∙ sym (anchor-append front (b ∷ after) w))

  pub marks_front : (a : ℕ) → start % 4 ≡ 0 → a < k.at → has_anchor (front ++ new ∷ following ss after) (word_start a) ≡ has_anchor (front ++ b ∷ after) (word_start a)
  marks_front a aligned below = word_below (word_start a) (omega (arith, below, aligned, v.place, used_aligned front))

  -- words after it
  word_rest : (w : ℕ) → k.old ≤ w → w + 4 ≤ k.last → has_anchor (front ++ new ∷ following ss after) (k.new + (w - k.old)) ≡ has_anchor (front ++ b ∷ after) w
  word_rest w low high =
      let w' : ℕ = k.new + (w - k.old) in
      let up : k.at ≤ w' = omega (arith, is.low, is.low_fits) in
      let below : w' < k.end = omega (arith, is.new_fits, low, high) in
      let up' : k.at ≤ w = omega (arith, v.old, low) in
      let below' : w < k.end = omega (arith, is.old_fits, high) in
      let own : nat_eq w' new.anchor ≡ false = ap (nat_eq w') v.anchor ∙ none_own mapped start end front after b k is ss places words end_is all_gone w' up below in
      let one : has_anchor (front ++ new ∷ following ss after) w' ≡ has_anchor (following ss after) w' =
      anchor-append front (new ∷ following ss after) w' ∙ (λ i. none_front mapped start end front after b k is ss places words end_is all_gone w' up below i || (own i || has_anchor (following ss after) w')) in
      let two : has_anchor (front ++ b ∷ after) w ≡ has_anchor after w =
      anchor-append front (b ∷ after) w ∙ (λ i. none_front mapped start end front after b k is ss places words end_is all_gone w up' below' i || (none_own mapped start end front after b k is ss places words end_is all_gone w up' below' i || has_anchor after w)) in
      one ∙ (rest_same mapped start end front after b k is ss places words end_is all_gone w low high ∙ sym two)

  pub marks_rest : (j : ℕ) → j < bytes_taken_by_all after → has_anchor (front ++ new ∷ following ss after) (word_start (k.new + j)) ≡ has_anchor (front ++ b ∷ after) (word_start (k.old + j))
  marks_rest j inside =
      let w : ℕ = word_start (k.old + j) in
      let e : word_start (k.new + j) ≡ k.new + (w - k.old) = omega (arith, is.old_aligned, is.new_aligned) in
      ap (has_anchor (front ++ new ∷ following ss after)) e
      ∙ word_rest w (omega (arith, is.old_aligned)) (omega (arith, is.old_aligned, inside, v.last, used_aligned after))

  -- what stands there
  module _ (f g : ℕ → ℕ) (there : AreMapped mapped k.at (k.end - k.at)) (low : k.end ≤ 2 ^ 26)
      (laid : (a : ℕ) → g a ≡ laid_out k.at (new ∷ following ss after) f a) where
    abbrev written : ℕ → ℕ
    written = with_bytes_at f k.at (blocks_text_of (new ∷ following ss after))

    pub new_words : AreAnchorWords mapped k.at end (new ∷ following ss after)
    new_words =
        let old_words : AreAnchorWords mapped (start + bytes_taken_by_all front) end (b ∷ after) = words_right mapped start end front (b ∷ after) words in
        let rest : AreAnchorWords mapped k.old k.end after = rw (v.old, v.place, end_is) old_words.1 in
        let e : k.new + (k.old - k.old) ≡ k.at + bytes_taken_by new.size = omega (arith, v.new_is) in (
          (rw (v.place, v.anchor) old_words.0.0, rw v.anchor (own_fresh mapped start end front after b k is ss places words v.place end_is)),
          subst (λ (n : ℕ). AreAnchorWords mapped (k.at + bytes_taken_by new.size) n (following ss after)) end_is
              (rw e at (following_words mapped k start front after ss after k.old is there low (omega arith) places rest)),
        )

    pub stands : (a : ℕ) → has_anchor (front ++ new ∷ following ss after) (word_start a) ≡ false → g a ≡ with_bytes_at f k.at (blocks_text_of (new ∷ following ss after)) a
    unfolding laid_out
    stands a none =
        let parts = or_parts (has_anchor front (word_start a)) (has_anchor (new ∷ following ss after) (word_start a)) (sym (anchor-append front (new ∷ following ss after) (word_start a)) ∙ none) in
        laid a ∙ anchors_beside mapped k.at end k.at (new ∷ following ss after) (with_bytes_at f k.at (blocks_text_of (new ∷ following ss after))) a new_words parts.1

    pub stands_front : (a : ℕ) → a < k.at → has_anchor (front ++ new ∷ following ss after) (word_start a) ≡ false → g a ≡ f a
    stands_front a below none = stands a none ∙ bytes_beside f k.at (blocks_text_of (new ∷ following ss after)) a (inl below)

    pub rest_text : AreWhole after → Holds (with_bytes_at f k.at (blocks_text_of (new ∷ following ss after))) k.new (blocks_text_of (following ss after))
    rest_text whole =
        let h : Holds (with_bytes_at f k.at (blocks_text_of (new ∷ following ss after))) k.at (blocks_text_of (new ∷ following ss after)) = bytes_held f k.at (blocks_text_of (new ∷ following ss after)) in
        rw v.new_is (spelled (with_bytes_at f k.at (blocks_text_of (new ∷ following ss after))) k.at new (following ss after) v.whole h).rest

    pub others_seen : (y : ℕ) → start % 4 ≡ 0 → AreWhole (front ++ b ∷ after) → AreWhole front → AreWhole after → Holds f start (blocks_text_of front) → Holds f k.old (blocks_text_of after)
        → (has_anchor front y ≡ true) ⊎ (has_anchor after y ≡ true)
        → seen_at (λ p. has_anchor (front ++ new ∷ following ss after) (word_start p)) start (standing g start (front ++ new ∷ following ss after)) (gone_to ss y)
        ≡ seen_at (λ p. has_anchor (front ++ b ∷ after) (word_start p)) start (front ++ b ∷ after) y
    others_seen y aligned whole front_whole after_whole front_text after_text (inl has) =
        let gone : gone_to ss y ≡ y = elim (front_out mapped start end front after b k is ss places words end_is all_gone y has) [ inl before ↦ v.below y before | inr past ↦ v.above y past ] in
        rw gone (front_seen (λ p. has_anchor (front ++ b ∷ after) (word_start p)) (λ p. has_anchor (front ++ new ∷ following ss after) (word_start p)) f g start front (b ∷ after) (new ∷ following ss after) y
        front_whole front_text (λ a up below. marks_front a aligned (omega (arith, below, v.place)))
        (λ a up below none. stands_front a (omega (arith, below, v.place)) none) has)
    others_seen y aligned whole front_whole after_whole front_text after_text (inr has) =
        let A : ℕ → Bool = λ p. has_anchor (front ++ b ∷ after) (word_start p) in
        let B : ℕ → Bool = λ p. has_anchor (front ++ new ∷ following ss after) (word_start p) in
        let x : ℕ = gone_to ss y in
        let gone : has_anchor (following ss after) x ≡ true = has_gone ss after y has in
        let not_front : has_anchor front x ≡ false = false_from_ne_true (has_anchor front x) (λ own.
        both_ways (has_anchor (following ss after) x) (front_fresh mapped start end front after b k is ss places words v.place end_is x own) gone) in
        let not_own : nat_eq new.anchor x ≡ false = ne_eqb new.anchor x (λ same.
        both_ways (has_anchor (following ss after) b.anchor) (own_fresh mapped start end front after b k is ss places words v.place end_is)
        (ap (has_anchor (following ss after)) (sym v.anchor ∙ same) ∙ gone)) in
        let not_front' : has_anchor front y ≡ false = false_from_ne_true (has_anchor front y) (λ own.
        both_ways (has_anchor front y) (words_apart mapped start end front (b ∷ after) y words (or_right (nat_eq y b.anchor) (has_anchor after y) has)) own) in
        let none_after : has_anchor after b.anchor ≡ false = (words_right mapped start end front (b ∷ after) words).0.1 in
        let not_own' : nat_eq b.anchor y ≡ false = ne_eqb b.anchor y (λ same. both_ways (has_anchor after b.anchor) none_after (ap (has_anchor after) same ∙ has)) in
        let size : bytes_taken_by_all (standing g start front) ≡ bytes_taken_by_all front = standing_used g start front in
        let old_at : start + bytes_taken_by_all front + bytes_taken_by b.size ≡ k.old = omega (arith, v.old, v.place) in
        let new_at : start + bytes_taken_by_all front + bytes_taken_by new.size ≡ k.new = omega (arith, v.new_is, v.place) in
        let one : seen_at B start (standing g start (front ++ new ∷ following ss after)) x ≡ seen_at B k.new (standing g k.new (following ss after)) x =
        ap (λ (l : List Block). seen_at B start l x) (standing_append g start front (new ∷ following ss after))
        ∙ (seen_past B start (standing g start front) (standing g (start + bytes_taken_by_all front) (new ∷ following ss after)) x (standing_has g start front x ∙ not_front)
        ∙ (ap (λ (n : ℕ). seen_at B (start + n) (standing g (start + bytes_taken_by_all front) (new ∷ following ss after)) x) size
        ∙ rw (not_own, new_at) refl)) in
        let two : seen_at A start (front ++ b ∷ after) y ≡ seen_at A k.old after y =
        seen_past A start front (b ∷ after) y not_front' ∙ rw (not_own', old_at) refl in
        one ∙ (rest_seen k start front after ss is A B f (with_bytes_at f k.at (blocks_text_of (new ∷ following ss after))) g k.old k.new after y places after_whole after_text (rest_text after_whole)
        (λ j below. marks_rest j below) (λ j below none. stands (k.new + j) none) has ∙ sym two)

  -- the block's own bytes
  module _ (tail : ℕ) (c : IsOwn k tail) (aligned : k.at % 4 ≡ 0) where
    new_has : (w : ℕ) → k.at ≤ w → w < k.end → has_anchor (front ++ new ∷ following ss after) w ≡ has_anchor (following ss after) w
    new_has w low high =
        let own : nat_eq w new.anchor ≡ false = ap (nat_eq w) v.anchor ∙ none_own mapped start end front after b k is ss places words end_is all_gone w low high in
        anchor-append front (new ∷ following ss after) w ∙ (λ i. none_front mapped start end front after b k is ss places words end_is all_gone w low high i || (own i || has_anchor (following ss after) w))

    old_has : (w : ℕ) → k.at ≤ w → w < k.end → has_anchor (front ++ b ∷ after) w ≡ has_anchor after w
    old_has w low high = anchor-append front (b ∷ after) w ∙ (λ i. none_front mapped start end front after b k is ss places words end_is all_gone w low high i || (none_own mapped start end front after b k is ss places words end_is all_gone w low high i || has_anchor after w))

    -- before the change
    stays_before : (w g : ℕ) → k.at + 8 ≤ w → w < k.low → Place k start front after w g → g ≡ w
    stays_before w g low high (Below e under _) = e
    stays_before w g low high (Before e from under) = e
    stays_before w g low high (Past e from word under) = absurd (omega (arith, c.from))
    stays_before w g low high (Behind e from under _) = absurd (omega (arith, c.from, c.old))
    stays_before w g low high (Above e past) = e

    came_before : (q w : ℕ) → k.at + 8 ≤ w → w < k.low → Place k start front after q w → w ≡ q
    came_before q w low high (Below e under _) = e
    came_before q w low high (Before e from under) = e
    came_before q w low high (Past e from word under) = absurd (omega (arith, is.to))
    came_before q w low high (Behind e from under _) = absurd (omega (arith, is.low_fits))
    came_before q w low high (Above e past) = e

    pub marks_before : (p : ℕ) → k.at + 8 ≤ p → p < k.low → has_anchor (front ++ new ∷ following ss after) (word_start p) ≡ has_anchor (front ++ b ∷ after) (word_start p)
    marks_before p low high =
        let w : ℕ = word_start p in
        let up : k.at + 8 ≤ w = omega (arith, aligned, low) in
        let below : w < k.low = omega (arith, high) in
        let inside : w < k.end = omega (arith, below, is.low_fits, is.new_fits) in
        new_has w (omega (arith, up)) inside ∙ (same_tests (has_anchor (following ss after) w) (has_anchor after w)
        (λ has. let f = has_following ss after w has in
        ap (has_anchor after) (came_before f.0 w up below (subst (λ (g : ℕ). Place k start front after f.0 g) f.1.1 (places f.0 f.1.0))) ∙ f.1.0)
        (λ has. ap (has_anchor (following ss after)) (sym (stays_before w (gone_to ss w) up below (places w has))) ∙ has_gone ss after w has)
        ∙ sym (old_has w (omega (arith, up)) inside))

    -- among what came
    came_none : (q w p : ℕ) → k.at + 8 ≤ w → w ≤ p → p < w + 4 → k.low ≤ p → p < k.to → Place k start front after q w → ⊥
    came_none q w p up low high from below (Below e under _) = omega arith
    came_none q w p up low high from below (Before e begin under) = omega arith
    came_none q w p up low high from below (Past e begin word under) = omega arith
    came_none q w p up low high from below (Behind e begin under _) = omega (arith, c.held, is.held)
    came_none q w p up low high from below (Above e past) = omega (arith, c.held, is.held, is.new_fits)

    pub marks_none : (p : ℕ) → k.low ≤ p → p < k.to → has_anchor (front ++ new ∷ following ss after) (word_start p) ≡ false
    marks_none p low high =
        let w : ℕ = word_start p in
        let up : k.at + 8 ≤ w = omega (arith, aligned, low, c.low) in
        let inside : w < k.end = omega (arith, high, c.held, is.held, is.new_fits) in
        new_has w (omega (arith, up)) inside ∙ false_from_ne_true (has_anchor (following ss after) w) (λ has.
        let f = has_following ss after w has in
        came_none f.0 w p up (omega arith) (omega arith) low high (subst (λ (g : ℕ). Place k start front after f.0 g) f.1.1 (places f.0 f.1.0)))

    -- after it
    went_on : (w g j : ℕ) → w % 4 ≡ 0 → k.at + 8 ≤ w → w ≤ k.from + j → k.from + j < w + 4 → j < tail → Place k start front after w g → g ≡ word_start (k.to + j)
    went_on w g j word up low high inside (Below e under _) = absurd (omega arith)
    went_on w g j word up low high inside (Before e begin under) = absurd (omega (arith, c.from))
    went_on w g j word up low high inside (Past e begin at under) = omega arith
    went_on w g j word up low high inside (Behind e begin under _) = absurd (omega (arith, c.old))
    went_on w g j word up low high inside (Above e past) = absurd (omega (arith, c.old, is.last, is.old_fits))

    came_on : (q w j : ℕ) → q % 4 ≡ 0 → w % 4 ≡ 0 → k.at + 8 ≤ w → w ≤ k.to + j → k.to + j < w + 4 → j < tail → Place k start front after q w → q ≡ word_start (k.from + j)
    came_on q w j word word' up low high inside (Below e under _) = absurd (omega arith)
    came_on q w j word word' up low high inside (Before e begin under) = absurd (omega (arith, is.to))
    came_on q w j word word' up low high inside (Past e begin at under) = omega arith
    came_on q w j word word' up low high inside (Behind e begin under _) = absurd (omega (arith, c.held, is.held))
    came_on q w j word word' up low high inside (Above e past) = absurd (omega (arith, c.held, is.held, is.new_fits))

    pub marks_tail : (j : ℕ) → j < tail → has_anchor (front ++ new ∷ following ss after) (word_start (k.to + j)) ≡ has_anchor (front ++ b ∷ after) (word_start (k.from + j))
    marks_tail j inside =
        let w : ℕ = word_start (k.from + j) in
        let w' : ℕ = word_start (k.to + j) in
        let up : k.at + 8 ≤ w = omega (arith, aligned, c.low, c.from) in
        let up' : k.at + 8 ≤ w' = omega (arith, aligned, c.low, is.to) in
        let below : w < k.end = omega (arith, inside, c.old, is.last, is.old_fits) in
        let below' : w' < k.end = omega (arith, inside, c.held, is.held, is.new_fits) in
        new_has w' (omega (arith, up')) below' ∙ (same_tests (has_anchor (following ss after) w') (has_anchor after w)
        (λ has. let f = has_following ss after w' has in
        let word : f.0 % 4 ≡ 0 = (word_of mapped start end (front ++ b ∷ after) f.0 words
        (anchor-append front (b ∷ after) f.0 ∙ or_right (has_anchor front f.0) (has_anchor (b ∷ after) f.0) (or_right (nat_eq f.0 b.anchor) (has_anchor after f.0) f.1.0))).aligned in
        ap (has_anchor after) (sym (came_on f.0 w' j word (omega arith) up' (omega arith) (omega arith) inside (subst (λ (g : ℕ). Place k start front after f.0 g) f.1.1 (places f.0 f.1.0)))) ∙ f.1.0)
        (λ has. ap (has_anchor (following ss after)) (sym (went_on w (gone_to ss w) j (omega arith) up (omega arith) (omega arith) inside (places w has))) ∙ has_gone ss after w has)
        ∙ sym (old_has w (omega (arith, up)) below))

    -- what is seen of it
    module _ (f g : ℕ → ℕ) (there : AreMapped mapped k.at (k.end - k.at)) (fits : k.end ≤ 2 ^ 26)
        (laid : (a : ℕ) → g a ≡ laid_out k.at (new ∷ following ss after) f a) (place cut more : ℕ) (cut_fits : cut ≤ place) (place_fits : place ≤ b.size)
        (own_size : length (contents b) ≡ b.size) (new_is : new ≡ block_holding b (bytes_after_splice (contents b) place cut more))
        (low_is : k.low ≡ k.at + 8 + (place - cut)) (from_is : k.from ≡ k.at + 8 + place) (to_is : k.to ≡ k.low + more) (tail_is : tail ≡ b.size - place) where
      abbrev old_mark : ℕ → Bool
      old_mark = λ p. has_anchor (front ++ b ∷ after) (word_start p)

      abbrev new_mark : ℕ → Bool
      new_mark = λ p. has_anchor (front ++ new ∷ following ss after) (word_start p)

      contents_are : contents new ≡ bytes_after_splice (contents b) place cut more
      contents_are = ap contents new_is ∙ take-append_seam (bytes_after_splice (contents b) place cut more) (replicate (whole_words (length (bytes_after_splice (contents b) place cut more)) - length (bytes_after_splice (contents b) place cut more)) 0)

      own_bytes : Holds (with_bytes_at f k.at (blocks_text_of (new ∷ following ss after))) (k.at + 8) new.bytes
      own_bytes = (spelled (with_bytes_at f k.at (blocks_text_of (new ∷ following ss after))) k.at new (following ss after) v.whole (bytes_held f k.at (blocks_text_of (new ∷ following ss after)))).bytes

      parts_seen : seen_bytes new_mark (k.at + 8) (bytes_after_splice (contents b) place cut more) ≡ seen_spliced (seen_bytes old_mark (k.at + 8) (contents b)) place cut more
      parts_seen =
          let xs : List ℕ = contents b in
          let m : ℕ = place - cut in
          let len : length (take m xs) ≡ m = length-take-le m xs (omega (arith, own_size, place_fits)) in
          let rest : length (drop place xs) ≡ b.size - place = length-drop place xs ∙ ap (λ (n : ℕ). n - place) own_size in
          let at_low : k.at + 8 + length (take m xs) ≡ k.low = omega (arith, len, low_is) in
          let at_to : k.low + length (replicate {A = ℕ} more 0) ≡ k.to = omega (arith, length-replicate {A = ℕ} more 0, to_is) in
          let at_from : k.at + 8 + place ≡ k.from = sym from_is in
          let one : seen_bytes new_mark (k.at + 8) (take m xs) ≡ take m (seen_bytes old_mark (k.at + 8) xs) =
          same_seen new_mark old_mark (k.at + 8) (k.at + 8) (take m xs) (take m xs) refl
          (λ i below. marks_before (k.at + 8 + i) (omega arith) (omega (arith, below, len, low_is))) (λ i below none. refl)
          ∙ sym (take_seen old_mark (k.at + 8) m xs) in
          let two : seen_bytes new_mark k.low (replicate more 0) ≡ replicate more (Some 0) =
          zeros_seen new_mark k.low more (λ i below. marks_none (k.low + i) (omega arith) (omega (arith, below, to_is))) in
          let three : seen_bytes new_mark k.to (drop place xs) ≡ drop place (seen_bytes old_mark (k.at + 8) xs) =
          same_seen new_mark old_mark k.to k.from (drop place xs) (drop place xs) refl
          (λ i below. marks_tail i (omega (arith, below, rest, tail_is))) (λ i below none. refl)
          ∙ sym (drop_seen old_mark (k.at + 8) place xs ∙ ap (λ (q : ℕ). seen_bytes old_mark q (drop place xs)) at_from) in
          seen_append new_mark (k.at + 8) (take m xs) (replicate more 0 ++ drop place xs)
          ∙ (ap (λ (q : ℕ). seen_bytes new_mark (k.at + 8) (take m xs) ++ seen_bytes new_mark q (replicate more 0 ++ drop place xs)) at_low
          ∙ (ap (λ (l : List (Option ℕ)). seen_bytes new_mark (k.at + 8) (take m xs) ++ l)
          (seen_append new_mark k.low (replicate more 0) (drop place xs) ∙ ap (λ (q : ℕ). seen_bytes new_mark k.low (replicate more 0) ++ seen_bytes new_mark q (drop place xs)) at_to)
          ∙ (λ i. one i ++ (two i ++ three i))))

      pub new_seen : seen_bytes new_mark (k.at + 8) (take new.size (bytes_between g (k.at + 8) (whole_words new.size)))
          ≡ seen_spliced (seen_bytes old_mark (k.at + 8) (contents b)) place cut more
      new_seen =
          block_seen new_mark new_mark (with_bytes_at f k.at (blocks_text_of (new ∷ following ss after))) (with_bytes_at f k.at (blocks_text_of (new ∷ following ss after))) g k.at k.at new v.whole own_bytes own_bytes
          (λ i below. refl) (λ i below none. stands f g there fits laid (k.at + 8 + i) none)
          ∙ (ap (seen_bytes new_mark (k.at + 8)) contents_are ∙ parts_seen)

      pub own_seen : seen_at new_mark start (standing g start (front ++ new ∷ following ss after)) b.anchor
          ≡ option_map (λ l. seen_spliced l place cut more) (seen_at old_mark start (front ++ b ∷ after) b.anchor)
      own_seen =
          let here : nat_eq b.anchor b.anchor ≡ true = eq-eqb b.anchor b.anchor refl in
          let none : has_anchor front b.anchor ≡ false = words_apart mapped start end front (b ∷ after) b.anchor words (or_left (nat_eq b.anchor b.anchor) (has_anchor after b.anchor) here) in
          let own : nat_eq new.anchor b.anchor ≡ true = eq-eqb new.anchor b.anchor v.anchor in
          let size : bytes_taken_by_all (standing g start front) ≡ bytes_taken_by_all front = standing_used g start front in
          let one : seen_at new_mark start (standing g start (front ++ new ∷ following ss after)) b.anchor
          ≡ Some (seen_bytes new_mark (k.at + 8) (take new.size (bytes_between g (k.at + 8) (whole_words new.size)))) =
          ap (λ (l : List Block). seen_at new_mark start l b.anchor) (standing_append g start front (new ∷ following ss after))
          ∙ (seen_past new_mark start (standing g start front) (standing g (start + bytes_taken_by_all front) (new ∷ following ss after)) b.anchor (standing_has g start front b.anchor ∙ none)
          ∙ (ap (λ (n : ℕ). seen_at new_mark (start + n) (standing g (start + bytes_taken_by_all front) (new ∷ following ss after)) b.anchor) size
          ∙ rw (own, ← v.place) refl)) in
          let two : seen_at old_mark start (front ++ b ∷ after) b.anchor ≡ Some (seen_bytes old_mark (k.at + 8) (contents b)) =
          seen_past old_mark start front (b ∷ after) b.anchor none ∙ rw (here, ← v.place) refl in
          one ∙ (ap (λ (l : List (Option ℕ)). Some l) new_seen ∙ sym (ap (option_map (λ l. seen_spliced l place cut more)) two))
