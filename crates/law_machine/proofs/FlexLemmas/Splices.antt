-- A change of one block shows all others as they were, by the addresses of anchors and by the
-- numbers of blocks.
use Rattle.std.proofs.Common.{◌≡◌, ℕ, Bool, suc, take, ◌+◌, ◌-◌, ◌%◌, ◌<◌, ◌≤◌, true, false, ◌||◌, nat_eq, List, [], ◌∷◌, ◌++◌, length, Option, Some, option_map, Ok, Err, arith, refl, sym, ◌∙◌, ap, inl, inr, ◌⊎◌, subst}
use Rattle.std.specs.Prelude.{if◌then◌else◌, nat_le}
use Rattle.std.proofs.lemmas.Bool.{eqb-true, eq-eqb, or_cases, or_from, or_left, or_right, true≢false}
use Rattle.flex_store.specs.Blocks.{Block, contents, FlexStore, has_anchor, block_holding, is_held_word, is_in_contents, bytes_after_splice, bytes_taken_by, bytes_taken_by_all, whole_words}
use Rattle.flex_store.specs.Calls.{breaks_anchor, end_in, flex_if_room, FlexState, header_place_in, is_anchor_byte, spliced_at}
use Rattle.flex_store.specs.Memory.{Holds, laid_out, standing, blocks_text_of}
use Rattle.flex_store.specs.Places.{IsSplit}
use Rattle.flex_store.specs.Shifts.{following, gone_to, Shifts, splice_shifts}
use Rattle.address_map.specs.Bytes.{bytes_between, with_bytes_at, word_start}
use Rattle.flex_store.proofs.Following.{Above, ArePlaced, Before, Behind, Below, following_used, following_whole, InBlock, InFront, InRest, Inside as InsideMoved, IsMove, Move, Past, Place}
use Rattle.flex_store.proofs.Fitting.{front_differs, front_fresh, front_inner, MayFollow, own_outside, rest_inside, rest_old}
use Rattle.flex_store.proofs.Holding.{bytes_beside}
use Rattle.flex_store.proofs.LawLemmas.{contents_size}
use Rattle.flex_store.proofs.Lists.{anchor-append, text_used, used-append}
use Rattle.flex_store.proofs.Placing.{gone_here, gone_past, splice_move, splice_numbers, splice_placed, unbroken}
use Rattle.flex_store.proofs.Splicing.{filled_length, spliced_length}
use Rattle.flex_store.proofs.Standing.{standing_has, standing_same, standing_used}
use Rattle.flex_store.proofs.Words.{word_of}
use Rattle.profile.specs.ErrorNumber.TheVariants.{FlexHoldsAnchor}
use Rattle.law_machine.specs.flex.Laws.{all_stay, AreBytes, IsLeftBy, IsSpelledState, SpliceGoesByNumbers, SpliceShowsItsOwn, SpliceShowsOthers}
use Rattle.law_machine.specs.flex.Numbered.{after_splice, Anchor, anchor_from, blocks_seen, Inside, IsSplicedSeen, list_seen, anchor_place_of, SeenBlock, with_places}
use Rattle.law_machine.specs.flex.Seen.{seen_at, seen_bytes, seen_in, seen_spliced}
use Rattle.law_machine.proofs.FlexLemmas.Lists.{byte_alike, byte_seen, held_alike, held_standing, held_text, list_append, list_length, list_rest, seen_length}
use Rattle.law_machine.proofs.FlexLemmas.Moving.{front_outside, IsMoved, IsOwn, marks_front, marks_rest, new_seen, new_words, others_seen, outside_same, own_seen, rest_text, stands, stands_front}
use Rattle.law_machine.proofs.FlexLemmas.Numbers.{found, from_front, from_moved, from_standing, is_held, own_place, rest_place, splice_before, splice_found, splice_past, none_behind, outer_place}
use Rattle.law_machine.proofs.FlexLemmas.OneBlock.{IsOneBlock, one_block, split_found}
use Rattle.law_machine.proofs.FlexLemmas.Relaying.{relaid_spelled}
use Rattle.law_machine.proofs.FlexLemmas.Room.{IsFitted, fitted_by, unbroken_by}
use Rattle.law_machine.proofs.FlexLemmas.Seeing.{standing_append}
use Rattle.law_machine.proofs.FlexLemmas.Small.{AreSmallBlocks, laid_small, small_following, small_spliced}
use Rattle.os_heap.specs.Store.{Store}

module _ (t u : FlexState) (s : FlexStore) (anchor : ℕ) (front after : List Block) (b : Block) (place cut more : ℕ) (sp : IsSpelledState t s)
    (p : IsSplit anchor s.blocks front b after) (cut_fits : cut ≤ place) (place_fits : place ≤ b.size) (some : 0 < cut + more)
    (done : spliced_at t s anchor b place cut more ≡ Ok (u, true)) where
  abbrev at : ℕ
  at = s.start + bytes_taken_by_all front

  abbrev last : ℕ
  last = s.start + bytes_taken_by_all s.blocks

  abbrev new : Block
  new = block_holding b (bytes_after_splice (contents b) place cut more)

  abbrev shifts : Shifts
  shifts = splice_shifts (s.start + bytes_taken_by_all front) (s.start + bytes_taken_by_all s.blocks) b.size place cut more

  abbrev news : List Block
  news = new ∷ following shifts after

  abbrev k : Move
  k = splice_move (s.start + bytes_taken_by_all front) b place cut more (s.start + bytes_taken_by_all s.blocks) s.end

  header_is : header_place_in s anchor ≡ s.start + bytes_taken_by_all front
  header_is = ap (λ (l : List Block). s.start + bytes_taken_by_all l) p.front_is

  reported : (breaks_anchor (is_anchor_byte s) (s.start + bytes_taken_by_all front + 8) b.size place cut more ≡ false)
      × (let given : FlexState × Bool = (u, true) in flex_if_room t s front news ≡ given)
  reported = unbroken_by (breaks_anchor (is_anchor_byte s) (at + 8) b.size place cut more) (flex_if_room t s front news) u
      ((λ i. if breaks_anchor (is_anchor_byte s) (sym header_is i + 8) b.size place cut more then Err FlexHoldsAnchor else
      Ok (flex_if_room t s (sym p.front_is i) (new ∷ following (splice_shifts (sym header_is i) last b.size place cut more) (sym p.rest_is i)))) ∙ done)

  pub done_by : IsFitted t u s front news
  done_by = fitted_by t u s front news (nat_le (s.start + bytes_taken_by_all (front ++ news)) s.end) refl reported.1

  known : IsOneBlock t s anchor front after b
  known = one_block t s anchor front after b sp p

  count : length (bytes_after_splice (contents b) place cut more) ≡ place - cut + more + (b.size - place)
  count =
      let size : length (contents b) ≡ b.size = contents_size b known.own_whole.0.0 in
      spliced_length (contents b) place cut more (omega (arith, size)) ∙ ap (λ (n : ℕ). place - cut + more + (n - place)) size

  room : s.start + bytes_taken_by_all front + bytes_taken_by (place - cut + more + (b.size - place)) + bytes_taken_by_all after ≤ s.end
  room = omega (arith, done_by.fits, used-append front news, count, following_used shifts after)

  is : IsMove k
  is =
      splice_numbers s.start s.end at last front after b known.inner refl known.last_is sp.fits sp.range.start_aligned place cut more
      cut_fits place_fits room

  places : ArePlaced k s.start front after shifts after
  places x has =
      splice_placed s.start s.end at last front after b known.inner refl known.last_is sp.fits sp.range.start_aligned place cut more
      cut_fits place_fits
      (λ y word own low high. unbroken s (at + 8) b.size place cut more y reported.0 (omega (arith, known.at_aligned)) cut_fits some word
      (ap (λ (l : List Block). has_anchor l y) p.list ∙ known.has_all y own) low high)
      x (word_of t.bytes.mapped s.start s.end (front ++ b ∷ after) x known.words (known.has_all x has)).aligned has

  moved : IsMoved k s.start front after b new shifts
  moved = record {
    place = refl;
    old = refl;
    new_is = ap (λ (n : ℕ). s.start + bytes_taken_by_all front + bytes_taken_by n) (sym count);
    last = omega (arith, known.last_is);
    anchor = refl;
    whole = filled_length (bytes_after_splice (contents b) place cut more);
    small = omega (arith, count, room, known.low_end);
    behind = λ w low high. gone_past (record { from = at + 8 + place; end = at + 8 + b.size; to = at + 8 + (place - cut + more) }) ((record { from = at + bytes_taken_by b.size; end = last; to = at + bytes_taken_by (place - cut + more + (b.size - place)) }) ∷ []) w (inr (omega (arith, low))) ∙ gone_here (record { from = at + bytes_taken_by b.size; end = last; to = at + bytes_taken_by (place - cut + more + (b.size - place)) }) [] w low high;
    below = λ w low. gone_past (record { from = at + 8 + place; end = at + 8 + b.size; to = at + 8 + (place - cut + more) }) ((record { from = at + bytes_taken_by b.size; end = last; to = at + bytes_taken_by (place - cut + more + (b.size - place)) }) ∷ []) w (inl (omega (arith, low))) ∙ gone_past (record { from = at + bytes_taken_by b.size; end = last; to = at + bytes_taken_by (place - cut + more + (b.size - place)) }) [] w (inl (omega (arith, low)));
    above = λ w high. gone_past (record { from = at + 8 + place; end = at + 8 + b.size; to = at + 8 + (place - cut + more) }) ((record { from = at + bytes_taken_by b.size; end = last; to = at + bytes_taken_by (place - cut + more + (b.size - place)) }) ∷ []) w (inr (omega (arith, high, sp.fits, known.last_is))) ∙ gone_past (record { from = at + bytes_taken_by b.size; end = last; to = at + bytes_taken_by (place - cut + more + (b.size - place)) }) [] w (inr (omega (arith, high, sp.fits)));
  }

  pub shows_others : (a : ℕ) → has_anchor s.blocks a ≡ true → nat_eq anchor a ≡ false
      → seen_in u.flex (gone_to (splice_shifts (header_place_in s anchor) (end_in s) b.size place cut more) a) ≡ seen_in (Some s) a
  shows_others a has other =
      let g : ℕ → ℕ = laid_out at news t.bytes.at in
      let x : ℕ = gone_to shifts a in
      let has' : (has_anchor front a || (nat_eq a b.anchor || has_anchor after a)) ≡ true =
      sym (anchor-append front (b ∷ after) a) ∙ (ap (λ (l : List Block). has_anchor l a) (sym p.list) ∙ has) in
      let either : (has_anchor front a ≡ true) ⊎ (has_anchor after a ≡ true) =
      elim (or_cases (has_anchor front a) (nat_eq a b.anchor || has_anchor after a) has') [
        | inl own ↦ inl own
        | inr rest ↦ elim (or_cases (nat_eq a b.anchor) (has_anchor after a) rest) [
          | inr later ↦ inr later
          | inl here ↦ absurd (true≢false (sym (eq-eqb anchor a (sym p.anchor ∙ sym (eqb-true a b.anchor here))) ∙ other))
        ]
      ] in
      let seen = others_seen t.bytes.mapped s.start s.end front after b new k is shifts places known.words refl moved t.bytes.at g known.there
      known.low_end (λ q. refl) a sp.range.start_aligned known.whole known.front_whole known.own_whole.1 known.front_text known.after_text either in
      let gone : gone_to (splice_shifts (header_place_in s anchor) (end_in s) b.size place cut more) a ≡ x =
      ap (λ (h : ℕ). gone_to (splice_shifts h last b.size place cut more) a) header_is in
      ap (seen_in u.flex) gone ∙ (ap (λ (o : Option FlexStore). seen_in o x) done_by.flex
      ∙ ((λ i. seen_at (λ q. standing_has g s.start (front ++ news) (word_start q) i) s.start (standing g s.start (front ++ news)) x)
      ∙ (seen ∙ (λ i. seen_at (λ q. has_anchor (sym p.list i) (word_start q)) s.start (sym p.list i) a))))

  own_parts : IsOwn k (b.size - place)
  own_parts = record { low = omega arith; from = omega arith; held = omega arith; old = omega arith }

  pub shows_own : seen_in u.flex anchor ≡ option_map (λ l. seen_spliced l place cut more) (seen_in (Some s) anchor)
  shows_own =
      let g : ℕ → ℕ = laid_out at news t.bytes.at in
      let size : length (contents b) ≡ b.size = contents_size b known.own_whole.0.0 in
      let seen = own_seen t.bytes.mapped s.start s.end front after b new k is shifts places known.words refl moved (b.size - place) own_parts known.at_aligned t.bytes.at g known.there known.low_end (λ q. refl)
      place cut more cut_fits place_fits size refl refl refl (omega arith) refl in
      ap (seen_in u.flex) (sym p.anchor) ∙ (ap (λ (o : Option FlexStore). seen_in o b.anchor) done_by.flex
      ∙ ((λ i. seen_at (λ q. standing_has g s.start (front ++ news) (word_start q) i) s.start (standing g s.start (front ++ news)) b.anchor)
      ∙ (seen ∙ ap (option_map (λ l. seen_spliced l place cut more)) (λ i. seen_at (λ q. has_anchor (sym p.list i) (word_start q)) s.start (sym p.list i) (p.anchor i)))))

  -- the same by the numbers of blocks
  abbrev old_place : ℕ → Anchor
  old_place = λ a. anchor_from 0 s.start (front ++ b ∷ after) a

  abbrev new_place : ℕ → Anchor
  new_place = λ a. anchor_from 0 s.start (front ++ news) a

  abbrev old_mark : ℕ → Bool
  old_mark = λ q. has_anchor (front ++ b ∷ after) (word_start q)

  abbrev new_mark : ℕ → Bool
  new_mark = λ q. has_anchor (front ++ news) (word_start q)

  abbrev bytes_then : ℕ → ℕ
  bytes_then = laid_out (s.start + bytes_taken_by_all front) news t.bytes.at

  outer_same : (a : ℕ) → (a + 4 ≤ s.start + bytes_taken_by_all front) ⊎ (s.end ≤ a) → new_place a ≡ old_place a
  outer_same a out = outer_place s.start s.end front (b ∷ after) news a known.fits done_by.fits out

  place_then : (a x : ℕ) → Place k s.start front after a x → new_place x ≡ after_splice (length front) place cut more (old_place a)
  place_then a x (Below e under held) =
      ap new_place e ∙ (from_front 0 s.start front news a under
      ∙ (sym (splice_found (length front) place cut more 0 (0 + length front) a (anchor_from 0 s.start front a) (inl (omega arith)) (found 0 s.start front a))
      ∙ ap (after_splice (length front) place cut more) (sym (from_front 0 s.start front (b ∷ after) a under))))
  place_then a x (Before e low under) =
      ap new_place e ∙ (own_place s.start front new (following shifts after) a (omega (arith, low)) (omega (arith, under, count))
      ∙ (sym (splice_before (length front) place cut more (a - (s.start + bytes_taken_by_all front + 8)) (omega (arith, low, under, cut_fits)))
      ∙ ap (after_splice (length front) place cut more) (sym (own_place s.start front b after a (omega (arith, low)) (omega (arith, under, place_fits))))))
  place_then a x (Past e from word under) =
      let o : x - (s.start + bytes_taken_by_all front + 8) ≡ place - cut + more + (a - (s.start + bytes_taken_by_all front + 8) - place) = omega (arith, e, from) in
      own_place s.start front new (following shifts after) x (omega (arith, e)) (omega (arith, under, count))
      ∙ (ap (Inside (length front)) o
      ∙ (sym (splice_past (length front) place cut more (a - (s.start + bytes_taken_by_all front + 8)) (omega (arith, from)))
      ∙ ap (after_splice (length front) place cut more) (sym (own_place s.start front b after a (omega (arith, from)) (omega (arith, e, from, under, place_fits))))))
  place_then a x (Behind e from under held) =
      let at_new : s.start + bytes_taken_by_all front + bytes_taken_by new.size ≡ k.new = sym moved.new_is in
      rest_place s.start front new (following shifts after) x (omega (arith, e, count))
      ∙ ((λ i. anchor_from (suc (length front)) (at_new i) (following shifts after) (e i))
      ∙ (from_moved (suc (length front)) k.old k.new shifts after a held
      ∙ (sym (splice_found (length front) place cut more (suc (length front)) (suc (length front) + length after) a
      (anchor_from (suc (length front)) k.old after a) (inr (omega arith)) (found (suc (length front)) k.old after a))
      ∙ ap (after_splice (length front) place cut more) (sym (rest_place s.start front b after a (omega (arith, from)))))))
  place_then a x (Above e past) =
      ap new_place e ∙ (none_behind s.start s.end (front ++ news) a done_by.fits past
      ∙ ap (after_splice (length front) place cut more) (sym (none_behind s.start s.end (front ++ b ∷ after) a known.fits past)))

  front_list : list_seen new_mark new_place s.start (standing bytes_then s.start front) ≡ list_seen old_mark old_place s.start front
  front_list =
      held_standing new_mark new_place bytes_then s.start front
      ∙ (held_alike (byte_seen old_mark t.bytes.at) (byte_seen new_mark bytes_then) old_place new_place s.start front
      (λ a low high. byte_alike old_mark new_mark t.bytes.at bytes_then a
      (marks_front t.bytes.mapped s.start s.end front after b new k is shifts places known.words refl moved a sp.range.start_aligned
      (omega (arith, high)))
      (λ none. stands_front t.bytes.mapped s.start s.end front after b new k is shifts places known.words refl moved t.bytes.at bytes_then known.there known.low_end (λ q. refl) a (omega (arith, high)) none))
      (λ a has. outer_same a (front_outside t.bytes.mapped s.start s.end front after b new k is shifts places known.words refl moved a has))
      ∙ sym (held_text old_mark old_place t.bytes.at s.start front known.front_whole known.front_text))

  rest_list : list_seen new_mark new_place k.new (standing bytes_then k.new (following shifts after))
      ≡ with_places (after_splice (length front) place cut more) (list_seen old_mark old_place k.old after)
  rest_list =
      list_rest (after_splice (length front) place cut more) shifts old_mark new_mark old_place new_place t.bytes.at
      (with_bytes_at t.bytes.at (s.start + bytes_taken_by_all front) (blocks_text_of news)) bytes_then k.old k.new after known.own_whole.1 known.after_text
      (rest_text t.bytes.mapped s.start s.end front after b new k is shifts places known.words refl moved t.bytes.at bytes_then known.there known.low_end (λ q. refl) known.own_whole.1)
      (λ j below. marks_rest t.bytes.mapped s.start s.end front after b new k is shifts places known.words refl moved j below)
      (λ j below none. stands t.bytes.mapped s.start s.end front after b new k is shifts places known.words refl moved t.bytes.at bytes_then known.there known.low_end (λ q. refl) (k.new + j) none)
      (λ a has. place_then a (gone_to shifts a) (places a has))

  own_list : seen_bytes new_mark (s.start + bytes_taken_by_all front + 8) (take new.size (bytes_between bytes_then (s.start + bytes_taken_by_all front + 8) (whole_words new.size)))
      ≡ seen_spliced (seen_bytes old_mark (s.start + bytes_taken_by_all front + 8) (contents b)) place cut more
  own_list =
      new_seen t.bytes.mapped s.start s.end front after b new k is shifts places known.words refl moved (b.size - place) own_parts known.at_aligned t.bytes.at bytes_then known.there known.low_end (λ q. refl)
      place cut more cut_fits place_fits (contents_size b known.own_whole.0.0) refl refl refl (omega arith) refl

  own_same : new_place b.anchor ≡ old_place b.anchor
  own_same = outer_same b.anchor (own_outside t.bytes.mapped s.start s.end front after b k is shifts places known.words refl refl)

  abbrev own_then : SeenBlock
  own_then = record { anchor = old_place b.anchor; bytes = seen_spliced (seen_bytes old_mark (s.start + bytes_taken_by_all front + 8) (contents b)) place cut more }

  -- what is seen then, and what was seen
  list_then : blocks_seen u.flex ≡ list_seen old_mark old_place s.start front
      ++ own_then ∷ with_places (after_splice (length front) place cut more) (list_seen old_mark old_place k.old after)
  list_then =
      let at_new : s.start + bytes_taken_by_all front + bytes_taken_by new.size ≡ k.new = sym moved.new_is in
      ap blocks_seen done_by.flex
      ∙ ((λ i. list_seen (λ q. standing_has bytes_then s.start (front ++ news) (word_start q) i) (λ q. from_standing bytes_then 0 s.start s.start (front ++ news) q i) s.start
      (standing bytes_then s.start (front ++ news)))
      ∙ (ap (list_seen new_mark new_place s.start) (standing_append bytes_then s.start front news)
      ∙ (list_append new_mark new_place s.start (standing bytes_then s.start front) (standing bytes_then (s.start + bytes_taken_by_all front) news)
      ∙ (ap (λ (n : ℕ). list_seen new_mark new_place s.start (standing bytes_then s.start front) ++ list_seen new_mark new_place (s.start + n) (standing bytes_then (s.start + bytes_taken_by_all front) news))
      (standing_used bytes_then s.start front)
      ∙ ((λ i. list_seen new_mark new_place s.start (standing bytes_then s.start front)
      ++ record { anchor = new_place b.anchor; bytes = own_list i } ∷ list_seen new_mark new_place (at_new i) (standing bytes_then (at_new i) (following shifts after)))
      ∙ (λ i. front_list i ++ record { anchor = own_same i; bytes = seen_spliced (seen_bytes old_mark (s.start + bytes_taken_by_all front + 8) (contents b)) place cut more } ∷ rest_list i))))))

  pub spliced_seen : (let o : Option FlexStore = Some s in IsSplicedSeen (anchor_place_of s anchor) b.size place cut more (blocks_seen o) (blocks_seen u.flex))
  spliced_seen =
      let n : length (list_seen old_mark old_place s.start front) ≡ length front = list_length old_mark old_place s.start front in
      record {
        front = list_seen old_mark old_place s.start front;
        own = seen_bytes old_mark (s.start + bytes_taken_by_all front + 8) (contents b);
        rest = list_seen old_mark old_place k.old after;
        was = known.list_is;
        own_size = seen_length old_mark (s.start + bytes_taken_by_all front + 8) (contents b) ∙ contents_size b known.own_whole.0.0;
        now = list_then ∙ (λ i. list_seen old_mark old_place s.start front
            ++ record { anchor = known.place_is i; bytes = seen_spliced (seen_bytes old_mark (s.start + bytes_taken_by_all front + 8) (contents b)) place cut more }
            ∷ with_places (after_splice (sym n i) place cut more) (list_seen old_mark old_place k.old after));
      }

  -- and memory spells it
  in_rest : (x : ℕ) → InsideMoved k s.start front after shifts x → (is_in_contents s.start front x || is_in_contents (s.start + bytes_taken_by_all front) news x) ≡ true
  in_rest x (InFront held) = or_left (is_in_contents s.start front x) (is_in_contents (s.start + bytes_taken_by_all front) news x) held
  in_rest x (InBlock low high) =
      or_right (is_in_contents s.start front x) (is_in_contents (s.start + bytes_taken_by_all front) news x)
      (or_left (is_held_word (s.start + bytes_taken_by_all front) new x) (is_in_contents (s.start + bytes_taken_by_all front + bytes_taken_by new.size) (following shifts after) x)
      (is_held (s.start + bytes_taken_by_all front) new x low (omega (arith, high, count))))
  in_rest x (InRest held) =
      or_right (is_in_contents s.start front x) (is_in_contents (s.start + bytes_taken_by_all front) news x)
      (or_right (is_held_word (s.start + bytes_taken_by_all front) new x) (is_in_contents (s.start + bytes_taken_by_all front + bytes_taken_by new.size) (following shifts after) x)
      (ap (λ (q : ℕ). is_in_contents q (following shifts after) x) (sym moved.new_is) ∙ held))

  new_inner : (x : ℕ) → has_anchor news x ≡ true → s.start ≤ x → x < s.end → (is_in_contents s.start front x || is_in_contents (s.start + bytes_taken_by_all front) news x) ≡ true
  new_inner x has up below = elim (or_cases (nat_eq x b.anchor) (has_anchor (following shifts after) x) has) [
    | inl own ↦
        let same : x ≡ b.anchor = eqb-true x b.anchor own in
        let out = own_outside t.bytes.mapped s.start s.end front after b k is shifts places known.words refl refl in
        or_left (is_in_contents s.start front x) (is_in_contents (s.start + bytes_taken_by_all front) news x)
        (front_inner s.start s.end front (b ∷ after) x known.inner
        (elim out [ inl before ↦ inl (omega (arith, before, same)) | inr past ↦ inr (omega (arith, past, same)) ])
        (anchor-append front (b ∷ after) x ∙ or_right (has_anchor front x) (has_anchor (b ∷ after) x) (or_left (nat_eq x b.anchor) (has_anchor after x) own)) up below)
    | inr later ↦ in_rest x (rest_inside t.bytes.mapped s.start s.end front after b k is shifts places known.words refl refl x (omega arith) (omega arith) later up below)
  ]

  may_follow : MayFollow t.bytes.mapped s.start s.end front news
  may_follow = record {
    fits = omega (arith, done_by.fits, used-append front news);
    whole = ((moved.whole, moved.small), following_whole shifts after known.own_whole.1);
    words = new_words t.bytes.mapped s.start s.end front after b new k is shifts places known.words refl moved t.bytes.at bytes_then known.there known.low_end (λ q. refl);
    fresh = λ x has. or_from (nat_eq x b.anchor) (has_anchor (following shifts after) x)
        (front_differs t.bytes.mapped s.start s.end front after b k is shifts places known.words refl refl x has)
        (front_fresh t.bytes.mapped s.start s.end front after b k is shifts places known.words refl refl x has);
    inner = new_inner;
  }

  outside_anchor : (w : ℕ) → (w + 4 ≤ s.start) ⊎ (s.end ≤ w) → has_anchor (front ++ news) w ≡ has_anchor s.blocks w
  outside_anchor w out =
      let out' : (w + 4 ≤ s.start + bytes_taken_by_all front) ⊎ (s.end ≤ w) = elim out [ inl low ↦ inl (omega (arith, low)) | inr past ↦ inr past ] in
      anchor-append front news w
      ∙ ((λ i. has_anchor front w || (nat_eq w b.anchor || outside_same t.bytes.mapped s.start s.end front after b new k is shifts places known.words refl moved w out' i))
      ∙ (sym (anchor-append front (b ∷ after) w) ∙ ap (λ (l : List Block). has_anchor l w) (sym p.list)))

  outside_byte : (a : ℕ) → (a < s.start) ⊎ (s.end ≤ a) → has_anchor (front ++ news) (word_start a) ≡ false → bytes_then a ≡ t.bytes.at a
  outside_byte a out none =
      let size : length (blocks_text_of news) ≡ bytes_taken_by_all news = text_used news may_follow.whole in
      stands t.bytes.mapped s.start s.end front after b new k is shifts places known.words refl moved t.bytes.at bytes_then known.there
      known.low_end (λ q. refl) a none
      ∙ bytes_beside t.bytes.at (s.start + bytes_taken_by_all front) (blocks_text_of news) a
      (elim out [ inl low ↦ inl (omega (arith, low)) | inr past ↦ inr (omega (arith, past, size, done_by.fits, used-append front news)) ])

  came : (w : ℕ) → has_anchor (front ++ news) w ≡ true → (has_anchor s.blocks w ≡ true) ⊎ ((s.start ≤ w) × (w + 4 ≤ s.end))
  came w has =
      let all : has_anchor (front ++ b ∷ after) w ≡ true → (has_anchor s.blocks w ≡ true) ⊎ ((s.start ≤ w) × (w + 4 ≤ s.end)) =
      λ had. inl (ap (λ (l : List Block). has_anchor l w) p.list ∙ had) in
      elim (or_cases (has_anchor front w) (has_anchor news w) (sym (anchor-append front news w) ∙ has)) [
        | inl own ↦ all (anchor-append front (b ∷ after) w ∙ or_left (has_anchor front w) (has_anchor (b ∷ after) w) own)
        | inr later ↦ elim (or_cases (nat_eq w b.anchor) (has_anchor (following shifts after) w) later) [
          | inl here ↦ all (anchor-append front (b ∷ after) w ∙ or_right (has_anchor front w) (has_anchor (b ∷ after) w) (or_left (nat_eq w b.anchor) (has_anchor after w) here))
          | inr rest ↦ elim (rest_old t.bytes.mapped s.start s.end front after b k is shifts places known.words refl refl w rest) [
            | inl was ↦ all (known.has_all w was)
            | inr within ↦ inr (omega (arith, within.0), within.1)
          ]
        ]
      ]

  news_small : AreBytes t.bytes.at → AreSmallBlocks news
  news_small bytes = let olds = known.small bytes in (small_spliced b place cut more olds.0, small_following shifts after olds.1)

  pub spliced_left : (ground : Store) → (let o : Option FlexStore = Some s in IsLeftBy ground t u s (all_stay anchor) (IsSplicedSeen (anchor_place_of s anchor) b.size place cut more (blocks_seen o)))
  spliced_left ground = record {
    blocks = standing bytes_then s.start (front ++ news);
    flex = done_by.flex;
    spelled = subst (λ (v : FlexState). IsSpelledState v (record { start = s.start; end = s.end; blocks = standing bytes_then s.start (front ++ news) })) (sym done_by.is)
        (relaid_spelled t.bytes.mapped s.start s.end t.bytes.at front (b ∷ after) news sp.range known.low_end known.front_whole
        known.words known.inner
        (subst (λ (l : List Block). Holds t.bytes.at s.start (blocks_text_of l)) (sym (standing_same t.bytes.at s.start front known.front_whole known.front_text)) known.front_text)
        known.front_anchored may_follow
        (Some (record { start = s.start; end = s.end; blocks = standing bytes_then s.start (front ++ news) })));
    seen = spliced_seen;
    aligned = ap (λ (x : ℕ). x % 4) (sym p.anchor) ∙ known.own_word;
    had = (λ i. has_anchor (p.list i) (sym p.anchor i)) ∙ known.has_own;
    mapped = ap (λ (v : FlexState). v.bytes.mapped) done_by.is;
    anchors = λ w out. standing_has bytes_then s.start (front ++ news) w ∙ outside_anchor w out;
    bytes = λ a out none. ap (λ (v : FlexState). v.bytes.at a) done_by.is ∙ outside_byte a out (sym (standing_has bytes_then s.start (front ++ news) (word_start a)) ∙ none);
    kept = λ a out old none. ap (λ (v : FlexState). v.bytes.at a) done_by.is ∙ outside_byte a out (sym (standing_has bytes_then s.start (front ++ news) (word_start a)) ∙ none);
    came = λ w has. elim (came w (sym (standing_has bytes_then s.start (front ++ news) w) ∙ has)) [ inl was ↦ inl was | inr within ↦ inr (inr within) ];
    small = λ bytes. subst (λ (v : FlexState). AreBytes v.bytes.at) (sym done_by.is) (laid_small (s.start + bytes_taken_by_all front) news t.bytes.at bytes (news_small bytes));
  }

pub splice_shows_others : SpliceShowsOthers
splice_shows_others t u s anchor b place cut more a sp found cut_fits place_fits some done has other =
    let p = split_found anchor s.blocks b found in
    shows_others t u s anchor p.0.before p.0.after b place cut more sp p.1 cut_fits place_fits some done a has other

pub splice_shows_its_own : SpliceShowsItsOwn
splice_shows_its_own t u s anchor b place cut more sp found cut_fits place_fits some done =
    let p = split_found anchor s.blocks b found in
    shows_own t u s anchor p.0.before p.0.after b place cut more sp p.1 cut_fits place_fits some done

pub splice_goes_by_numbers : SpliceGoesByNumbers
splice_goes_by_numbers ground t u s anchor b place cut more sp found_is cut_fits place_fits some done =
    let p = split_found anchor s.blocks b found_is in
    spliced_left t u s anchor p.0.before p.0.after b place cut more sp p.1 cut_fits place_fits some done ground
