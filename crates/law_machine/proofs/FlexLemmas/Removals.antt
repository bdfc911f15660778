-- A store without one of its blocks: what is seen of the others, by their numbers, and that memory
-- spells these.
use Rattle.std.proofs.Common.{◌≡◌, ℕ, Bool, suc, ◌+◌, ◌-◌, ◌%◌, ◌<◌, ◌≤◌, true, false, not, ◌&&◌, ◌||◌, nat_eq, List, [], ◌∷◌, ◌++◌, length, Option, Some, arith, refl, sym, ◌∙◌, ap, inl, inr, ◌⊎◌, subst}
use Rattle.std.specs.Prelude.{if◌then◌else◌}
use Rattle.std.proofs.lemmas.Bool.{both_ways, cases_Bool, cases_lt, eqb-true, eq-eqb, ne_eqb, or_cases, or_left, or_parts, or_right}
use Rattle.std.proofs.lemmas.Bool.Decides.{nat_tests}
use Rattle.address_map.specs.Bytes.{in_range, with_bytes_at, with_word_at, word_start}
use Rattle.address_map.specs.Records.{anchor_among}
use Rattle.flex_store.specs.Blocks.{Block, contents, FlexStore, has_anchor, is_header, is_in_contents, bytes_taken_by, bytes_taken_by_all}
use Rattle.flex_store.specs.Calls.{FlexState, header_place_in, is_anchor_byte, with_blocks, state_without_anchor}
use Rattle.flex_store.specs.Memory.{AreAnchored, laid_out, standing, blocks_text_of}
use Rattle.flex_store.specs.Places.{IsSplit}
use Rattle.flex_store.specs.Shifts.{following, gone_to, removal_shifts, Shifts}
use Rattle.flex_store.specs.State.{AreAnchorWords}
use Rattle.flex_store.proofs.Anchoring.{anchors_beside, other_word}
use Rattle.flex_store.proofs.Fitting.{front_fresh, front_inner, MayFollow, own_fresh, rest_inside, rest_old}
use Rattle.flex_store.proofs.Following.{Above, ArePlaced, Before, Behind, Below, following_used, following_whole, following_words, InBlock, InFront, InRest, Inside as InsideMoved, IsMove, Move, Past, Place}
use Rattle.flex_store.proofs.Holding.{bytes_beside, bytes_held, word_beside}
use Rattle.flex_store.proofs.Lists.{anchor-append, header-append, text_used, used-append, used_aligned}
use Rattle.flex_store.proofs.Placing.{gone_here, gone_past, no_anchor_in, removal_move, removal_numbers, removal_placed}
use Rattle.flex_store.proofs.Releasing.{anchored_other}
use Rattle.flex_store.proofs.Standing.{standing_has, standing_text, standing_used}
use Rattle.flex_store.proofs.Words.{anchor_no_header, word_of, words_apart, words_left, words_right}
use Rattle.law_machine.specs.flex.Laws.{AreBytes, IsLeftBy, IsSpelledState, outside_without_anchor as gone_anchor}
use Rattle.law_machine.specs.flex.Numbered.{after_removal, Anchor, anchor_from, blocks_seen, IsRemovedSeen, list_seen, anchor_place_of, place_shown, with_places}
use Rattle.law_machine.specs.flex.Seen.{seen_bytes}
use Rattle.law_machine.proofs.FlexLemmas.Gone.{below_same, front_out, IsGone, none_front, none_own, outer_anchor, own_out, rest_same}
use Rattle.law_machine.proofs.FlexLemmas.Lists.{byte_alike, byte_seen, held_standing, held_text, held_shown, in_word, IsWordPlace, list_append, list_length, list_rest, word_in}
use Rattle.law_machine.proofs.FlexLemmas.Numbers.{found, from_front, from_further, from_moved, from_none, from_past, from_standing, removal_above, removal_below, rest_place, none_behind, outer_place}
use Rattle.law_machine.proofs.FlexLemmas.OneBlock.{IsOneBlock, one_block}
use Rattle.law_machine.proofs.FlexLemmas.Relaying.{relaid_spelled}
use Rattle.law_machine.proofs.FlexLemmas.Seeing.{standing_append}
use Rattle.law_machine.proofs.FlexLemmas.Small.{AreSmallBlocks, laid_small, small_following, word_small}
use Rattle.os_heap.specs.Store.{Store}

zero_word : (f : ℕ → ℕ) (anchor a : ℕ) → word_start a ≡ anchor → with_word_at f anchor 0 a ≡ 0
zero_word f anchor a is =
    let low : anchor ≤ a = omega (arith, is) in
    let high : a ≤ anchor + 3 = omega (arith, is) in
    grind (arith, nat_tests)

module _ (t u : FlexState) (s : FlexStore) (anchor : ℕ) (front after : List Block) (b : Block) (sp : IsSpelledState t s) (p : IsSplit anchor s.blocks front b after)
    (free : anchor_among (is_anchor_byte s) (header_place_in s anchor + 8) b.size ≡ false)
    (done : u ≡ with_blocks (state_without_anchor t anchor) s front (following (removal_shifts (s.start + bytes_taken_by_all front) (s.start + bytes_taken_by_all s.blocks) b.size) after)) where
  abbrev at : ℕ
  at = s.start + bytes_taken_by_all front

  abbrev last : ℕ
  last = s.start + bytes_taken_by_all s.blocks

  abbrev shifts : Shifts
  shifts = removal_shifts (s.start + bytes_taken_by_all front) (s.start + bytes_taken_by_all s.blocks) b.size

  abbrev news : List Block
  news = following shifts after

  abbrev k : Move
  k = removal_move (s.start + bytes_taken_by_all front) b (s.start + bytes_taken_by_all s.blocks) s.end

  abbrev cleared : ℕ → ℕ
  cleared = with_word_at t.bytes.at anchor 0

  abbrev bytes_then : ℕ → ℕ
  bytes_then = laid_out (s.start + bytes_taken_by_all front) news cleared

  abbrev old_mark : ℕ → Bool
  old_mark = λ q. has_anchor (front ++ b ∷ after) (word_start q)

  abbrev new_mark : ℕ → Bool
  new_mark = λ q. has_anchor (front ++ news) (word_start q)

  abbrev old_place : ℕ → Anchor
  old_place = λ a. anchor_from 0 s.start (front ++ b ∷ after) a

  abbrev new_place : ℕ → Anchor
  new_place = λ a. anchor_from 0 s.start (front ++ news) a

  known : IsOneBlock t s anchor front after b
  known = one_block t s anchor front after b sp p

  is : IsMove k
  is = removal_numbers s.start s.end at last front after b known.inner refl known.last_is sp.fits sp.range.start_aligned

  none_among : anchor_among (is_anchor_byte s) (s.start + bytes_taken_by_all front + 8) b.size ≡ false
  none_among = ap (λ (l : List Block). anchor_among (is_anchor_byte s) (s.start + bytes_taken_by_all l + 8) b.size) (sym p.front_is) ∙ free

  places : ArePlaced k s.start front after shifts after
  places x has =
      removal_placed s.start s.end at last front after b known.inner refl known.last_is sp.fits sp.range.start_aligned
      (λ y word own low high. no_anchor_in s (at + 8) b.size y y none_among (ap (λ (l : List Block). has_anchor l y) p.list ∙ known.has_all y own) low (omega (arith, high)) (omega (arith, word)))
      x (word_of t.bytes.mapped s.start s.end (front ++ b ∷ after) x known.words (known.has_all x has)).aligned has

  moved : IsGone k s.start front after b shifts
  moved = record {
    place = refl;
    old = refl;
    last = omega (arith, known.last_is);
    behind = λ w low high. gone_here (record { from = at + bytes_taken_by b.size; end = last; to = at }) [] w low high;
    below = λ w low. gone_past (record { from = at + bytes_taken_by b.size; end = last; to = at }) [] w (inl (omega (arith, low)));
    above = λ w high. gone_past (record { from = at + bytes_taken_by b.size; end = last; to = at }) [] w (inr (omega (arith, high, sp.fits)));
  }

  news_words : AreAnchorWords t.bytes.mapped (s.start + bytes_taken_by_all front) s.end news
  news_words =
      let old : AreAnchorWords t.bytes.mapped (at + bytes_taken_by b.size) s.end after = (words_right t.bytes.mapped s.start s.end front (b ∷ after) known.words).1 in
      let e : at + (at + bytes_taken_by b.size - (at + bytes_taken_by b.size)) ≡ at = omega arith in
      rw e at (following_words t.bytes.mapped k s.start front after shifts after (at + bytes_taken_by b.size) is known.there known.low_end
      (omega arith) places old)

  -- which words are anchors then
  word_same : (w : ℕ) → w + 4 ≤ at → (w ≡ b.anchor → ⊥) → has_anchor (front ++ news) w ≡ has_anchor (front ++ b ∷ after) w
  word_same w low other =
      anchor-append front news w
      ∙ ((λ i. has_anchor front w || (sym (ne_eqb w b.anchor other) i || below_same t.bytes.mapped s.start s.end front after b k is shifts places known.words refl moved w low i))
      ∙ sym (anchor-append front (b ∷ after) w))

  own_none : has_anchor (front ++ news) b.anchor ≡ false
  own_none =
      let first : has_anchor front b.anchor ≡ false = words_apart t.bytes.mapped s.start s.end front (b ∷ after) b.anchor known.words
      (or_left (nat_eq b.anchor b.anchor) (has_anchor after b.anchor) (eq-eqb b.anchor b.anchor refl)) in
      let none : has_anchor news b.anchor ≡ false = own_fresh t.bytes.mapped s.start s.end front after b k is shifts places known.words refl refl in
      anchor-append front news b.anchor ∙ (λ i. first i || none i)

  word_rest : (w : ℕ) → k.old ≤ w → w + 4 ≤ last → has_anchor (front ++ news) (at + (w - k.old)) ≡ has_anchor (front ++ b ∷ after) w
  word_rest w low high =
      let one : has_anchor (front ++ news) (at + (w - k.old)) ≡ has_anchor news (at + (w - k.old)) =
      anchor-append front news (at + (w - k.old))
      ∙ (λ i. none_front t.bytes.mapped s.start s.end front after b k is shifts places known.words refl moved (at + (w - k.old)) (omega arith) (omega (arith, low, high, sp.fits)) i || has_anchor news (at + (w - k.old))) in
      let two : has_anchor (front ++ b ∷ after) w ≡ has_anchor after w =
      anchor-append front (b ∷ after) w
      ∙ (λ i. none_front t.bytes.mapped s.start s.end front after b k is shifts places known.words refl moved w (omega (arith, low)) (omega (arith, high, sp.fits)) i
      || (none_own t.bytes.mapped s.start s.end front after b k is shifts places known.words refl moved w (omega (arith, low)) (omega (arith, high, sp.fits)) i || has_anchor after w)) in
      one ∙ (rest_same t.bytes.mapped s.start s.end front after b k is shifts places known.words refl moved w low high ∙ sym two)

  marks_rest : (j : ℕ) → j < bytes_taken_by_all after → has_anchor (front ++ news) (word_start (at + j)) ≡ has_anchor (front ++ b ∷ after) (word_start (k.old + j))
  marks_rest j inside =
      let w : ℕ = word_start (k.old + j) in
      let e : word_start (at + j) ≡ at + (w - k.old) = omega (arith, known.at_aligned) in
      ap (has_anchor (front ++ news)) e
      ∙ word_rest w (omega (arith, known.at_aligned)) (omega (arith, known.at_aligned, inside, known.last_is, used_aligned after))

  -- what stands there
  stands : (a : ℕ) → has_anchor (front ++ news) (word_start a) ≡ false → bytes_then a ≡ with_bytes_at cleared (s.start + bytes_taken_by_all front) (blocks_text_of news) a
  unfolding laid_out
  stands a none =
      let parts = or_parts (has_anchor front (word_start a)) (has_anchor news (word_start a)) (sym (anchor-append front news (word_start a)) ∙ none) in
      anchors_beside t.bytes.mapped (s.start + bytes_taken_by_all front) s.end (s.start + bytes_taken_by_all front) news (with_bytes_at cleared (s.start + bytes_taken_by_all front) (blocks_text_of news)) a news_words parts.1

  stands_front : (a : ℕ) → a < at → has_anchor (front ++ news) (word_start a) ≡ false → bytes_then a ≡ cleared a
  stands_front a below none = stands a none ∙ bytes_beside cleared (s.start + bytes_taken_by_all front) (blocks_text_of news) a (inl below)

  own_is : b.anchor ≡ anchor
  own_is = p.anchor

  cleared_same : (a : ℕ) → (word_start a ≡ b.anchor → ⊥) → cleared a ≡ t.bytes.at a
  cleared_same a other = word_beside t.bytes.at anchor 0 a
      (other_word anchor a (ap (λ (x : ℕ). x % 4) (sym own_is) ∙ known.own_word) (λ here. other (here ∙ sym own_is)))

  -- a byte in front
  byte_front : (a : ℕ) → s.start ≤ a → a < s.start + bytes_taken_by_all front
      → byte_seen new_mark bytes_then a ≡ (if in_range b.anchor 4 a then Some 0 else byte_seen old_mark t.bytes.at a)
  byte_front a low high = elim (cases_Bool (in_range b.anchor 4 a)) [
    | inl inside ↦
        let here : word_start a ≡ b.anchor = word_in b.anchor a known.own_word inside in
        let mark : new_mark a ≡ false = ap (has_anchor (front ++ news)) here ∙ own_none in
        let zero : bytes_then a ≡ 0 = stands_front a high mark ∙ zero_word t.bytes.at anchor a (here ∙ own_is) in
        rw (inside, mark) (ap (λ (n : ℕ). let o : Option ℕ = Some n in o) zero)
    | inr outside ↦
        let other : word_start a ≡ b.anchor → ⊥ = λ here. both_ways (in_range b.anchor 4 a) outside (in_word b.anchor a here) in
        rw outside (byte_alike old_mark new_mark t.bytes.at bytes_then a (word_same (word_start a) (omega (arith, high, known.at_aligned)) other)
        (λ none. stands_front a high none ∙ cleared_same a other))
  ]

  new_fits : s.start + bytes_taken_by_all (front ++ news) ≤ s.end
  new_fits = omega (arith, known.last_is, sp.fits, used-append front news, following_used shifts after)

  outer_same : (a : ℕ) → (a + 4 ≤ s.start + bytes_taken_by_all front) ⊎ (s.end ≤ a) → new_place a ≡ old_place a
  outer_same a out = outer_place s.start s.end front (b ∷ after) news a known.fits new_fits out

  own_outer : (b.anchor + 4 ≤ s.start + bytes_taken_by_all front) ⊎ (s.end ≤ b.anchor)
  own_outer = own_out t.bytes.mapped s.start s.end front after b k is shifts places known.words refl moved

  -- where the released anchor was
  own_place_is : anchor_from 0 s.start front b.anchor ≡ old_place b.anchor
  own_place_is = elim own_outer [
    | inl low ↦ sym (from_front 0 s.start front (b ∷ after) b.anchor low)
    | inr past ↦ from_none 0 s.start front b.anchor (inr (omega (arith, past, known.fits, used-append front (b ∷ after)))) ∙ sym (none_behind s.start s.end (front ++ b ∷ after) b.anchor known.fits past)
  ]

  own_at : IsWordPlace s.start front b.anchor
  own_at = elim (cases_lt b.anchor s.start) [
    | inl low ↦ inr (inl (omega (arith, low, known.own_word, sp.range.start_aligned)))
    | inr up ↦ elim (cases_lt b.anchor s.end) [
      | inr past ↦ inr (inr (omega (arith, past, known.fits, used-append front (b ∷ after))))
      | inl below ↦ inl (front_inner s.start s.end front (b ∷ after) b.anchor known.inner own_outer known.has_own up below)
    ]
  ]

  place_then : (a x : ℕ) → Place k s.start front after a x → new_place x ≡ after_removal (length front) (old_place a)
  place_then a x (Below e under held) =
      ap new_place e ∙ (from_front 0 s.start front news a under
      ∙ (sym (removal_below (length front) 0 (0 + length front) a (anchor_from 0 s.start front a) (omega arith) (found 0 s.start front a))
      ∙ ap (after_removal (length front)) (sym (from_front 0 s.start front (b ∷ after) a under))))
  place_then a x (Before e low under) = absurd (omega (arith, low, under))
  place_then a x (Past e from word under) = absurd (omega (arith, e, under))
  place_then a x (Behind e from under held) =
      let n : ℕ = length front in
      let e' : 0 + n ≡ n = omega arith in
      let next : 1 + n ≡ suc n = omega arith in
      from_past 0 s.start front news x (omega (arith, e))
      ∙ ((λ i. anchor_from (e' i) (s.start + bytes_taken_by_all front) news (e i))
      ∙ (from_moved n k.old (s.start + bytes_taken_by_all front) shifts after a held
      ∙ (sym (removal_above n n (n + length after) a (anchor_from n k.old after a) (omega arith) (found n k.old after a))
      ∙ (ap (after_removal n) (sym (from_further 1 n k.old after a) ∙ ap (λ (m : ℕ). anchor_from m k.old after a) next)
      ∙ ap (after_removal n) (sym (rest_place s.start front b after a (omega (arith, from))))))))
  place_then a x (Above e past) =
      ap new_place e ∙ (none_behind s.start s.end (front ++ news) a new_fits past
      ∙ ap (after_removal (length front)) (sym (none_behind s.start s.end (front ++ b ∷ after) a known.fits past)))

  front_list : list_seen new_mark new_place s.start (standing bytes_then s.start front)
      ≡ place_shown (Some 0) (old_place b.anchor) (list_seen old_mark old_place s.start front)
  front_list =
      held_standing new_mark new_place bytes_then s.start front
      ∙ (held_shown (Some 0) b.anchor known.own_word (byte_seen old_mark t.bytes.at) (byte_seen new_mark bytes_then) old_place new_place s.start front sp.range.start_aligned
      byte_front (λ a has. outer_same a (front_out t.bytes.mapped s.start s.end front after b k is shifts places known.words refl moved a has)) own_at
      ∙ (λ i. place_shown (Some 0) (own_place_is i)
      (sym (held_text old_mark old_place t.bytes.at s.start front known.front_whole known.front_text) i)))

  rest_list : list_seen new_mark new_place (s.start + bytes_taken_by_all front) (standing bytes_then (s.start + bytes_taken_by_all front) news)
      ≡ with_places (after_removal (length front)) (list_seen old_mark old_place k.old after)
  rest_list =
      list_rest (after_removal (length front)) shifts old_mark new_mark old_place new_place t.bytes.at (with_bytes_at cleared (s.start + bytes_taken_by_all front) (blocks_text_of news)) bytes_then
      k.old (s.start + bytes_taken_by_all front) after known.own_whole.1 known.after_text (bytes_held cleared (s.start + bytes_taken_by_all front) (blocks_text_of news)) marks_rest
      (λ j below none. stands (s.start + bytes_taken_by_all front + j) none) (λ a has. place_then a (gone_to shifts a) (places a has))

  list_then : blocks_seen u.flex ≡ place_shown (Some 0) (old_place b.anchor) (list_seen old_mark old_place s.start front)
      ++ with_places (after_removal (length front)) (list_seen old_mark old_place k.old after)
  list_then =
      ap (λ (v : FlexState). blocks_seen v.flex) done
      ∙ ((λ i. list_seen (λ q. standing_has bytes_then s.start (front ++ news) (word_start q) i) (λ q. from_standing bytes_then 0 s.start s.start (front ++ news) q i) s.start
      (standing bytes_then s.start (front ++ news)))
      ∙ (ap (list_seen new_mark new_place s.start) (standing_append bytes_then s.start front news)
      ∙ (list_append new_mark new_place s.start (standing bytes_then s.start front) (standing bytes_then (s.start + bytes_taken_by_all front) news)
      ∙ (ap (λ (n : ℕ). list_seen new_mark new_place s.start (standing bytes_then s.start front) ++ list_seen new_mark new_place (s.start + n) (standing bytes_then (s.start + bytes_taken_by_all front) news))
      (standing_used bytes_then s.start front)
      ∙ (λ i. front_list i ++ rest_list i)))))

  removed_seen : (let o : Option FlexStore = Some s in IsRemovedSeen (anchor_place_of s anchor) (blocks_seen o) (blocks_seen u.flex))
  removed_seen =
      let n : length (list_seen old_mark old_place s.start front) ≡ length front = list_length old_mark old_place s.start front in
      record {
        front = list_seen old_mark old_place s.start front;
        own = seen_bytes old_mark (s.start + bytes_taken_by_all front + 8) (contents b);
        rest = list_seen old_mark old_place k.old after;
        was = known.list_is;
        now = list_then ∙ (λ i. place_shown (Some 0) (known.place_is i) (list_seen old_mark old_place s.start front)
            ++ with_places (after_removal (sym n i)) (list_seen old_mark old_place k.old after));
      }

  -- and memory spells the blocks that are left
  kept_header : (a : ℕ) → is_header s.start front (word_start a) ≡ true → cleared a ≡ t.bytes.at a
  kept_header a header_word = cleared_same a (λ here.
      let none = anchor_no_header s.start s.end (front ++ b ∷ after) b.anchor known.fits known.inner known.has_own in
      both_ways (is_header s.start (front ++ b ∷ after) b.anchor) none
      (header-append s.start front (b ∷ after) b.anchor ∙ or_left (is_header s.start front b.anchor) (is_header (s.start + bytes_taken_by_all front) (b ∷ after) b.anchor)
      (ap (is_header s.start front) (sym here) ∙ header_word)))

  in_rest : (x : ℕ) → InsideMoved k s.start front after shifts x → (is_in_contents s.start front x || is_in_contents (s.start + bytes_taken_by_all front) news x) ≡ true
  in_rest x (InFront held) = or_left (is_in_contents s.start front x) (is_in_contents (s.start + bytes_taken_by_all front) news x) held
  in_rest x (InBlock low high) = absurd (omega (arith, low, high))
  in_rest x (InRest held) = or_right (is_in_contents s.start front x) (is_in_contents (s.start + bytes_taken_by_all front) news x) held

  may_follow : MayFollow t.bytes.mapped s.start s.end front news
  may_follow = record {
    fits = omega (arith, sp.fits, known.last_is, following_used shifts after);
    whole = following_whole shifts after known.own_whole.1;
    words = news_words;
    fresh = front_fresh t.bytes.mapped s.start s.end front after b k is shifts places known.words refl refl;
    inner = λ x has up below. in_rest x
        (rest_inside t.bytes.mapped s.start s.end front after b k is shifts places known.words refl refl x (omega arith) (omega arith) has up below);
  }

  front_anchored : AreAnchored cleared s.start front
  front_anchored =
      anchored_other t.bytes.mapped s.start s.end t.bytes.at cleared s.start front b.anchor (words_left t.bytes.mapped s.start s.end front (b ∷ after) known.words)
      (words_apart t.bytes.mapped s.start s.end front (b ∷ after) b.anchor known.words (or_left (nat_eq b.anchor b.anchor) (has_anchor after b.anchor) (eq-eqb b.anchor b.anchor refl)))
      cleared_same known.front_anchored

  outside_anchor : (w : ℕ) → (w + 4 ≤ s.start) ⊎ (s.end ≤ w) → has_anchor (front ++ news) w ≡ (not (nat_eq w anchor) && has_anchor s.blocks w)
  outside_anchor w out =
      let out' : (w + 4 ≤ s.start + bytes_taken_by_all front) ⊎ (s.end ≤ w) = elim out [ inl low ↦ inl (omega (arith, low)) | inr past ↦ inr past ] in
      elim (cases_Bool (nat_eq w anchor)) [
        | inl here ↦ rw here (ap (has_anchor (front ++ news)) (eqb-true w anchor here ∙ sym own_is) ∙ own_none)
        | inr other ↦
            let none : nat_eq w b.anchor ≡ false = ap (nat_eq w) own_is ∙ other in
            rw other (anchor-append front news w
            ∙ ((λ i. has_anchor front w || (sym none i || outer_anchor t.bytes.mapped s.start s.end front after b k is shifts places known.words refl moved w out' i))
            ∙ (sym (anchor-append front (b ∷ after) w) ∙ ap (λ (l : List Block). has_anchor l w) (sym p.list))))
      ]

  outside_byte : (a : ℕ) → (a < s.start) ⊎ (s.end ≤ a) → has_anchor (front ++ news) (word_start a) ≡ false
      → bytes_then a ≡ (if in_range anchor 4 a then 0 else t.bytes.at a)
  outside_byte a out none =
      let size : length (blocks_text_of news) ≡ bytes_taken_by_all news = text_used news may_follow.whole in
      let here : bytes_then a ≡ cleared a = stands a none ∙ bytes_beside cleared (s.start + bytes_taken_by_all front) (blocks_text_of news) a
      (elim out [
        | inl low ↦ inl (omega (arith, low))
        | inr past ↦ inr (omega (
          arith,
          past,
          size,
          sp.fits,
          known.last_is,
          following_used shifts after,
        ))
      ]) in
      let aligned : anchor % 4 ≡ 0 = ap (λ (x : ℕ). x % 4) (sym own_is) ∙ known.own_word in
      elim (cases_Bool (in_range anchor 4 a)) [
        | inl inside ↦ rw inside (here ∙ zero_word t.bytes.at anchor a (word_in anchor a aligned inside))
        | inr beside ↦ rw beside (here ∙ cleared_same a (λ own. both_ways (in_range anchor 4 a) beside (in_word anchor a (own ∙ own_is))))
      ]

  came : (w : ℕ) → has_anchor (front ++ news) w ≡ true → (has_anchor s.blocks w ≡ true) ⊎ ((s.start ≤ w) × (w + 4 ≤ s.end))
  came w has =
      let all : has_anchor (front ++ b ∷ after) w ≡ true → (has_anchor s.blocks w ≡ true) ⊎ ((s.start ≤ w) × (w + 4 ≤ s.end)) =
      λ had. inl (ap (λ (l : List Block). has_anchor l w) p.list ∙ had) in
      elim (or_cases (has_anchor front w) (has_anchor news w) (sym (anchor-append front news w) ∙ has)) [
        | inl own ↦ all (anchor-append front (b ∷ after) w ∙ or_left (has_anchor front w) (has_anchor (b ∷ after) w) own)
        | inr rest ↦ elim (rest_old t.bytes.mapped s.start s.end front after b k is shifts places known.words refl refl w rest) [
          | inl was ↦ all (known.has_all w was)
          | inr within ↦ inr (omega (arith, within.0), within.1)
        ]
      ]

  news_small : AreBytes t.bytes.at → AreSmallBlocks news
  news_small bytes = small_following shifts after (known.small bytes).1

  outside_kept : (a : ℕ) → has_anchor s.blocks (word_start a) ≡ false → (if in_range anchor 4 a then 0 else t.bytes.at a) ≡ t.bytes.at a
  outside_kept a none = elim (cases_Bool (in_range anchor 4 a)) [
    | inr beside ↦ rw beside refl
    | inl inside ↦
        let aligned : anchor % 4 ≡ 0 = ap (λ (x : ℕ). x % 4) (sym own_is) ∙ known.own_word in
        let here : word_start a ≡ b.anchor = word_in anchor a aligned inside ∙ sym own_is in
        absurd (both_ways (has_anchor s.blocks (word_start a)) none (ap (λ (l : List Block). has_anchor l (word_start a)) p.list ∙ (ap (has_anchor (front ++ b ∷ after)) here ∙ known.has_own)))
  ]

  pub released_left : (ground : Store) → (let o : Option FlexStore = Some s in IsLeftBy ground t u s (gone_anchor anchor) (IsRemovedSeen (anchor_place_of s anchor) (blocks_seen o)))
  released_left ground = record {
    blocks = standing bytes_then s.start (front ++ news);
    flex = ap (λ (v : FlexState). v.flex) done;
    spelled = subst (λ (v : FlexState). IsSpelledState v (record { start = s.start; end = s.end; blocks = standing bytes_then s.start (front ++ news) })) (sym done)
        (relaid_spelled t.bytes.mapped s.start s.end cleared front (b ∷ after) news sp.range known.low_end known.front_whole known.words known.inner
        (standing_text t.bytes.at cleared s.start front sp.range.start_aligned known.front_whole kept_header known.front_text)
        front_anchored may_follow
        (Some (record { start = s.start; end = s.end; blocks = standing bytes_then s.start (front ++ news) })));
    seen = removed_seen;
    aligned = ap (λ (x : ℕ). x % 4) (sym own_is) ∙ known.own_word;
    had = (λ i. has_anchor (p.list i) (sym own_is i)) ∙ known.has_own;
    mapped = ap (λ (v : FlexState). v.bytes.mapped) done;
    anchors = λ w out. standing_has bytes_then s.start (front ++ news) w ∙ outside_anchor w out;
    bytes = λ a out none. ap (λ (v : FlexState). v.bytes.at a) done ∙ outside_byte a out (sym (standing_has bytes_then s.start (front ++ news) (word_start a)) ∙ none);
    kept = λ a out old none. ap (λ (v : FlexState). v.bytes.at a) done
        ∙ (outside_byte a out (sym (standing_has bytes_then s.start (front ++ news) (word_start a)) ∙ none) ∙ outside_kept a old);
    came = λ w has. elim (came w (sym (standing_has bytes_then s.start (front ++ news) w) ∙ has)) [ inl was ↦ inl was | inr within ↦ inr (inr within) ];
    small = λ bytes. subst (λ (v : FlexState). AreBytes v.bytes.at) (sym done)
        (laid_small (s.start + bytes_taken_by_all front) news cleared (word_small t.bytes.at anchor 0 bytes) (news_small bytes));
  }
