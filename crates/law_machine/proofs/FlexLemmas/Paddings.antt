-- The padding of blocks: no byte of it is one of an anchor's, so it stands in memory as it was laid
-- out.
use Rattle.std.proofs.Common.{◌≡◌, ℕ, Bool, ◌+◌, ◌%◌, ◌<◌, ◌≤◌, false, ◌||◌, zero, suc, List, [], ◌∷◌, ◌++◌, length, drop, slice_index, arith, refl, sym, ◌∙◌, ap, inl, inr}
use Rattle.std.proofs.lemmas.Bool.{both_ways, false_from_ne_true, or_from, or_parts}
use Rattle.address_map.proofs.Viewing.{bytes_counted}
use Rattle.address_map.specs.Bytes.{bytes_between, with_bytes_at, word_start}
use Rattle.flex_store.specs.Blocks.{Block, FlexStore, has_anchor, is_held_word, is_in_contents, bytes_taken_by, bytes_taken_by_all, whole_words}
use Rattle.flex_store.specs.Calls.{FlexState}
use Rattle.flex_store.specs.Memory.{Holds, laid_out, standing, blocks_text_of}
use Rattle.flex_store.specs.Shifts.{following, Shifts}
use Rattle.flex_store.specs.State.{AreAnchorWords}
use Rattle.flex_store.proofs.Anchoring.{anchors_beside}
use Rattle.flex_store.proofs.Holding.{bytes_beside, bytes_held}
use Rattle.flex_store.proofs.Lists.{anchor-append}
use Rattle.flex_store.proofs.Reading.{IsSpelled, spelled}
use Rattle.flex_store.proofs.Splicing.{between_held}
use Rattle.flex_store.proofs.Standing.{standing_has}
use Rattle.flex_store.proofs.Words.{contents_within, IsHeld, words_right}
use Rattle.law_machine.specs.flex.Laws.{IsSpelledState}
use Rattle.law_machine.specs.flex.Padding.{padding, paddings}
use Rattle.law_machine.proofs.FlexLemmas.Numbers.{not_held}
use Rattle.law_machine.proofs.FlexLemmas.Seeing.{standing_append}

-- a fact of each byte of the padding of blocks, where the first one's header is at `h`
abbrev pub Each : (ℕ → Type 0) → ℕ → List Block → Type 0
Each P h [] = Unit {0}
Each P h (b ∷ bs) = ((i : ℕ) → b.size ≤ i → i < whole_words b.size → P (h + 8 + i)) × Each P (h + bytes_taken_by b.size) bs

pub each_two : (P Q R : ℕ → Type 0) (h : ℕ) (bs : List Block) → ((a : ℕ) → P a → Q a → R a) → Each P h bs → Each Q h bs → Each R h bs
each_two P Q R h [] both one two = tt
each_two P Q R h (b ∷ bs) both one two = (
  λ i low high. both (h + 8 + i) (one.0 i low high) (two.0 i low high),
  each_two P Q R (h + bytes_taken_by b.size) bs both one.1 two.1,
)

pub each_all : (P : ℕ → Type 0) (h : ℕ) (bs : List Block) → ((a : ℕ) → P a) → Each P h bs
each_all P h [] all = tt
each_all P h (b ∷ bs) all = (λ i low high. all (h + 8 + i), each_all P (h + bytes_taken_by b.size) bs all)

pub each_left : (P : ℕ → Type 0) (h : ℕ) (xs ys : List Block) → Each P h (xs ++ ys) → Each P h xs
each_left P h [] ys each = tt
each_left P h (b ∷ xs) ys each = (each.0, each_left P (h + bytes_taken_by b.size) xs ys each.1)

each_right : (P : ℕ → Type 0) (h : ℕ) (xs ys : List Block) → Each P h (xs ++ ys) → Each P (h + bytes_taken_by_all xs) ys
each_right P h [] ys each = let e : h + 0 ≡ h = omega arith in rw e each
each_right P h (b ∷ xs) ys each =
    let e : h + (bytes_taken_by b.size + bytes_taken_by_all xs) ≡ h + bytes_taken_by b.size + bytes_taken_by_all xs = omega arith in
    rw e (each_right P (h + bytes_taken_by b.size) xs ys each.1)

each_standing : (P : ℕ → Type 0) (g : ℕ → ℕ) (at h : ℕ) (bs : List Block) → Each P h (standing g at bs) → Each P h bs
each_standing P g at h [] each = tt
each_standing P g at h (b ∷ bs) each = (each.0, each_standing P g (at + bytes_taken_by b.size) (h + bytes_taken_by b.size) bs each.1)

-- where these bytes are
above : (low h : ℕ) (bs : List Block) → low ≤ h → Each (λ a. low + 8 ≤ a) h bs
above low h [] under = tt
above low h (b ∷ bs) under = (λ i from below. omega (arith, under), above low (h + bytes_taken_by b.size) bs (omega (arith, under)))

below_end : (end h : ℕ) (bs : List Block) → h + bytes_taken_by_all bs ≤ end → Each (λ a. a < end) h bs
below_end end h [] fits = tt
below_end end h (b ∷ bs) fits = (λ i from below. omega (arith, fits, below), below_end end (h + bytes_taken_by b.size) bs (omega (arith, fits)))

-- they lie in no word of contents
no_contents : (h : ℕ) (bs : List Block) → h % 4 ≡ 0 → Each (λ a. is_in_contents h bs (word_start a) ≡ false) h bs
no_contents h [] aligned = tt
no_contents h (b ∷ bs) aligned = (
  λ i low high.
      or_from (is_held_word h b (word_start (h + 8 + i))) (is_in_contents (h + bytes_taken_by b.size) bs (word_start (h + 8 + i)))
      (not_held h b (word_start (h + 8 + i)) (inr (omega (arith, low, aligned))))
      (false_from_ne_true (is_in_contents (h + bytes_taken_by b.size) bs (word_start (h + 8 + i))) (λ held.
      let w : IsHeld (h + bytes_taken_by b.size) (bytes_taken_by_all bs) (word_start (h + 8 + i)) = contents_within (h + bytes_taken_by b.size) bs (word_start (h + 8 + i)) held in
      omega (arith, w.from, high))),
  each_two (λ a. is_in_contents (h + bytes_taken_by b.size) bs (word_start a) ≡ false) (λ a. h + bytes_taken_by b.size + 8 ≤ a)
      (λ a. (is_held_word h b (word_start a) || is_in_contents (h + bytes_taken_by b.size) bs (word_start a)) ≡ false) (h + bytes_taken_by b.size) bs
      (λ a none low.
      or_from (is_held_word h b (word_start a)) (is_in_contents (h + bytes_taken_by b.size) bs (word_start a))
      (not_held h b (word_start a) (inr (omega (arith, low, aligned)))) none)
      (no_contents (h + bytes_taken_by b.size) bs (omega (arith, aligned))) (above (h + bytes_taken_by b.size) (h + bytes_taken_by b.size) bs (omega arith)),
)

-- and so none of them is an anchor's
pub plain : (t : FlexState) (s : FlexStore) → IsSpelledState t s → Each (λ a. has_anchor s.blocks (word_start a) ≡ false) s.start s.blocks
plain t s sp =
    each_two (λ a. is_in_contents s.start s.blocks (word_start a) ≡ false) (λ a. (s.start + 8 ≤ a) × (a < s.end))
    (λ a. has_anchor s.blocks (word_start a) ≡ false) s.start s.blocks
    (λ a none within. false_from_ne_true (has_anchor s.blocks (word_start a)) (λ has.
    both_ways (is_in_contents s.start s.blocks (word_start a)) none
    (sp.inner (word_start a) has (omega (arith, within.0, sp.range.start_aligned)) (omega (arith, within.1)))))
    (no_contents s.start s.blocks sp.range.start_aligned)
    (each_two (λ a. s.start + 8 ≤ a) (λ a. a < s.end) (λ a. (s.start + 8 ≤ a) × (a < s.end)) s.start s.blocks (λ a low high. (low, high))
    (above s.start s.start s.blocks (omega arith)) (below_end s.end s.start s.blocks sp.fits))

-- lists that are the same from an index on
lists_same : (xs ys : List ℕ) → length xs ≡ length ys → ((k : ℕ) → k < length xs → slice_index xs k ≡ slice_index ys k) → xs ≡ ys
lists_same [] [] len each = refl
lists_same [] (y ∷ ys) len each = absurd (omega (arith, len))
lists_same (x ∷ xs) [] len each = absurd (omega (arith, len))
lists_same (x ∷ xs) (y ∷ ys) len each =
    let rest : xs ≡ ys = lists_same xs ys (omega (arith, len)) (λ k below. each (suc k) (omega (arith, below))) in
    let first : x ≡ y = each 0 (omega arith) in
    λ i. first i ∷ rest i

drop_same : (n : ℕ) (xs ys : List ℕ) → length xs ≡ length ys → ((k : ℕ) → n ≤ k → k < length xs → slice_index xs k ≡ slice_index ys k) → drop n xs ≡ drop n ys
drop_same zero xs ys len each = lists_same xs ys len (λ k below. each k (omega arith) below)
drop_same (suc n) [] [] len each = refl
drop_same (suc n) [] (y ∷ ys) len each = absurd (omega (arith, len))
drop_same (suc n) (x ∷ xs) [] len each = absurd (omega (arith, len))
drop_same (suc n) (x ∷ xs) (y ∷ ys) len each =
    drop_same n xs ys (omega (arith, len)) (λ k low below. each (suc k) (omega (arith, low)) (omega (arith, below)))

-- blocks with as many bytes as their sizes say
abbrev pub AreFilled : List Block → Type 0
AreFilled [] = Unit {0}
AreFilled (b ∷ bs) = (length b.bytes ≡ whole_words b.size) × AreFilled bs

-- blocks whose padding stands in memory as in a text
read_again : (g f : ℕ → ℕ) (h : ℕ) (bs : List Block) → AreFilled bs → Holds f h (blocks_text_of bs) → Each (λ a. g a ≡ f a) h bs
    → paddings (standing g h bs) ≡ paddings bs
read_again g f h [] whole text same = refl
read_again g f h (b ∷ bs) whole text same =
    let s : IsSpelled f h b bs = spelled f h b bs whole.0 text in
    let size : length (bytes_between g (h + 8) (whole_words b.size)) ≡ whole_words b.size = bytes_counted g (h + 8) (whole_words b.size) in
    let own : drop b.size (bytes_between g (h + 8) (whole_words b.size)) ≡ drop b.size b.bytes =
    drop_same b.size (bytes_between g (h + 8) (whole_words b.size)) b.bytes (size ∙ sym whole.0) (λ k low below.
    sym (between_held g (h + 8) (whole_words b.size) k below) ∙ (same.0 k low (omega (arith, below, size)) ∙ s.bytes k (omega (arith, below, size, whole.0)))) in
    let rest = read_again g f (h + bytes_taken_by b.size) bs whole.1 s.rest same.1 in
    λ i. own i ∷ rest i

-- lists of blocks
pub paddings_append : (xs ys : List Block) → paddings (xs ++ ys) ≡ paddings xs ++ paddings ys
paddings_append [] ys = refl
paddings_append (b ∷ xs) ys = ap (λ (l : List (List ℕ)). padding b ∷ l) (paddings_append xs ys)

pub paddings_following : (ss : Shifts) (bs : List Block) → paddings (following ss bs) ≡ paddings bs
paddings_following ss [] = refl
paddings_following ss (b ∷ bs) = ap (λ (l : List (List ℕ)). padding b ∷ l) (paddings_following ss bs)

pub paddings_count : (bs : List Block) → length (paddings bs) ≡ length bs
paddings_count [] = refl
paddings_count (b ∷ bs) = ap suc (paddings_count bs)

words_standing : (mapped : ℕ → Bool) (start end : ℕ) (g : ℕ → ℕ) (at : ℕ) (bs : List Block) → AreAnchorWords mapped start end (standing g at bs)
    → AreAnchorWords mapped start end bs
words_standing mapped start end g at [] words = tt
words_standing mapped start end g at (b ∷ bs) words = (
  (words.0.0, sym (standing_has g (at + bytes_taken_by b.size) bs b.anchor) ∙ words.0.1),
  words_standing mapped (start + bytes_taken_by b.size) end g (at + bytes_taken_by b.size) bs words.1,
)

-- Blocks after some that stayed were laid out anew: `f` is what memory held, and `cleared` what it
-- held then, with the same padding of those that stay.
module _ (u : FlexState) (start end : ℕ) (f cleared : ℕ → ℕ) (olds news : List Block)
    (sp : (let s : FlexStore = record { start = start; end = end; blocks = standing (laid_out (start + bytes_taken_by_all olds) news cleared) start (olds ++ news) } in IsSpelledState u s))
    (old_filled : AreFilled olds) (old_text : Holds f start (blocks_text_of olds)) (new_filled : AreFilled news) (same : Each (λ a. cleared a ≡ f a) start olds) where
  abbrev g : ℕ → ℕ
  g = laid_out (start + bytes_taken_by_all olds) news cleared

  none : Each (λ a. has_anchor (olds ++ news) (word_start a) ≡ false) start (olds ++ news)
  none =
      each_standing (λ a. has_anchor (olds ++ news) (word_start a) ≡ false) g start start (olds ++ news)
      (each_two (λ a. has_anchor (standing g start (olds ++ news)) (word_start a) ≡ false) (λ a. Unit {0})
      (λ a. has_anchor (olds ++ news) (word_start a) ≡ false) start (standing g start (olds ++ news))
      (λ a is any. sym (standing_has g start (olds ++ news) (word_start a)) ∙ is)
      (plain u (record { start = start; end = end; blocks = standing g start (olds ++ news) }) sp)
      (each_all (λ a. Unit {0}) start (standing g start (olds ++ news)) (λ a. tt)))

  new_words : AreAnchorWords u.bytes.mapped (start + bytes_taken_by_all olds) end news
  new_words = words_right u.bytes.mapped start end olds news (words_standing u.bytes.mapped start end g start (olds ++ news) sp.words)

  stands : (a : ℕ) → has_anchor (olds ++ news) (word_start a) ≡ false → g a ≡ with_bytes_at cleared (start + bytes_taken_by_all olds) (blocks_text_of news) a
  unfolding laid_out
  stands a is =
      let parts = or_parts (has_anchor olds (word_start a)) (has_anchor news (word_start a)) (sym (anchor-append olds news (word_start a)) ∙ is) in
      anchors_beside u.bytes.mapped (start + bytes_taken_by_all olds) end (start + bytes_taken_by_all olds) news (with_bytes_at cleared (start + bytes_taken_by_all olds) (blocks_text_of news)) a new_words parts.1

  old_stays : Each (λ a. g a ≡ f a) start olds
  old_stays =
      each_two (λ a. (has_anchor (olds ++ news) (word_start a) ≡ false) × (a < start + bytes_taken_by_all olds)) (λ a. cleared a ≡ f a) (λ a. g a ≡ f a) start olds
      (λ a is kept. stands a is.0 ∙ (bytes_beside cleared (start + bytes_taken_by_all olds) (blocks_text_of news) a (inl is.1) ∙ kept))
      (each_two (λ a. has_anchor (olds ++ news) (word_start a) ≡ false) (λ a. a < start + bytes_taken_by_all olds)
      (λ a. (has_anchor (olds ++ news) (word_start a) ≡ false) × (a < start + bytes_taken_by_all olds)) start olds (λ a is below. (is, below))
      (each_left (λ a. has_anchor (olds ++ news) (word_start a) ≡ false) start olds news none)
      (below_end (start + bytes_taken_by_all olds) start olds (omega arith)))
      same

  new_stays : Each (λ a. g a ≡ with_bytes_at cleared (start + bytes_taken_by_all olds) (blocks_text_of news) a) (start + bytes_taken_by_all olds) news
  new_stays =
      each_two (λ a. has_anchor (olds ++ news) (word_start a) ≡ false) (λ a. Unit {0})
      (λ a. g a ≡ with_bytes_at cleared (start + bytes_taken_by_all olds) (blocks_text_of news) a) (start + bytes_taken_by_all olds) news
      (λ a is any. stands a is)
      (each_right (λ a. has_anchor (olds ++ news) (word_start a) ≡ false) start olds news none)
      (each_all (λ a. Unit {0}) (start + bytes_taken_by_all olds) news (λ a. tt))

  pub laid_paddings : paddings (standing (laid_out (start + bytes_taken_by_all olds) news cleared) start (olds ++ news)) ≡ paddings olds ++ paddings news
  laid_paddings =
      ap paddings (standing_append g start olds news)
      ∙ (paddings_append (standing g start olds) (standing g (start + bytes_taken_by_all olds) news)
      ∙ (λ i. read_again g f start olds old_filled old_text old_stays i
      ++ read_again g (with_bytes_at cleared (start + bytes_taken_by_all olds) (blocks_text_of news)) (start + bytes_taken_by_all olds) news new_filled
      (bytes_held cleared (start + bytes_taken_by_all olds) (blocks_text_of news)) new_stays i))
