-- A block that comes, by the numbers of blocks.
use Rattle.std.proofs.Common.{◌≡◌, ℕ, Bool, ◌+◌, ◌-◌, ◌%◌, ◌^◌, ◌<◌, ◌≤◌, true, false, not, ◌&&◌, ◌||◌, nat_eq, List, [], ◌∷◌, ◌++◌, length, replicate, take, Option, Some, None, Result, Ok, Err, ok_or, arith, refl, sym, ◌∙◌, ap, inl, inr, ◌⊎◌, subst}
use Rattle.std.specs.Prelude.{if◌then◌else◌, nat_le}
use Rattle.std.proofs.lemmas.Bool.{and_parts, both_ways, cases_Bool, eqb-true, eq-eqb, false_from_ne_true, false≢true, ne_eqb, not-true, or_cases, or_left, or_parts, or_right}
use Rattle.std.proofs.lemmas.List.{append-nil, take-replicate}
use Rattle.profile.specs.ErrorNumber.{ErrorNumber}
use Rattle.profile.specs.ErrorNumber.TheVariants.{FlexAnchorInUse, FlexBadAnchor, FlexNotReady}
use Rattle.profile.specs.Outcome.{bind}
use Rattle.address_map.specs.Bytes.{Bytes, bytes_between, in_range, with_bytes_at, word_start}
use Rattle.os_heap.specs.Store.{Store}
use Rattle.flex_store.proofs.Allocating.{beside}
use Rattle.flex_store.specs.Blocks.{Block, FlexStore, has_anchor, is_in_contents, new_block, bytes_taken_by, bytes_taken_by_all, whole_words}
use Rattle.flex_store.specs.Calls.{flex_after_alloc, flex_if_room, FlexState, is_anchor_place, is_in_store, may_stand}
use Rattle.flex_store.specs.Memory.{Holds, laid_out, standing, blocks_text_of}
use Rattle.flex_store.specs.State.{AreAnchorWords, AreInner}
use Rattle.flex_store.proofs.Anchoring.{anchors_beside}
use Rattle.flex_store.proofs.Filled.{new_filled}
use Rattle.flex_store.proofs.Fitting.{MayFollow}
use Rattle.flex_store.proofs.Holding.{bytes_beside, bytes_held}
use Rattle.flex_store.proofs.Keeping.{IsPlace, place_parts}
use Rattle.flex_store.proofs.Lists.{anchor-append, text_used, used-append, used_aligned}
use Rattle.flex_store.proofs.Reading.{spelled}
use Rattle.flex_store.proofs.Standing.{standing_has, standing_same, standing_used}
use Rattle.flex_store.proofs.Words.{contents_within, IsHeld, outside_behind}
use Rattle.law_machine.specs.flex.Laws.{AllocGoesByNumbers, AreBytes, IsLeftBy, IsSpelledState, with_anchor}
use Rattle.law_machine.specs.flex.Numbered.{Anchor, anchor_from, blocks_seen, IsAddedSeen, list_seen, anchor_place_of, place_shown}
use Rattle.law_machine.specs.flex.Seen.{seen_bytes}
use Rattle.law_machine.proofs.FlexLemmas.Lists.{byte_alike, byte_seen, held_standing, held_text, held_shown, in_word, IsWordPlace, list_append, word_in}
use Rattle.law_machine.proofs.FlexLemmas.Numbers.{from_front, from_none, from_standing}
use Rattle.law_machine.proofs.FlexLemmas.Relaying.{relaid_spelled}
use Rattle.law_machine.proofs.FlexLemmas.Seeing.{block_seen, standing_append, zeros_seen}
use Rattle.law_machine.proofs.FlexLemmas.Small.{laid_small, small_zeros}
use Rattle.law_machine.proofs.FlexLemmas.Room.{fitted_by, IsFitted, ok_same, refused}

-- a word that may be a new anchor
pub record IsNewWord (t : FlexState) (s : FlexStore) (anchor : ℕ) : Type 0 where
  pub aligned : anchor % 4 ≡ 0
  pub there : t.bytes.mapped anchor ≡ true
  pub low : anchor < 2 ^ 26
  pub stands : may_stand s anchor ≡ true
  pub none : has_anchor s.blocks anchor ≡ false

module _ (t u : FlexState) (s : FlexStore) (anchor size : ℕ) (sp : IsSpelledState t s) (w : IsNewWord t s anchor) (done : IsFitted t u s s.blocks (new_block anchor size ∷ [])) where
  abbrev at : ℕ
  at = s.start + bytes_taken_by_all s.blocks

  abbrev new : Block
  new = new_block anchor size

  abbrev news : List Block
  news = new ∷ []

  abbrev bytes_then : ℕ → ℕ
  bytes_then = laid_out (s.start + bytes_taken_by_all s.blocks) news t.bytes.at

  abbrev old_mark : ℕ → Bool
  old_mark = λ q. has_anchor s.blocks (word_start q)

  abbrev new_mark : ℕ → Bool
  new_mark = λ q. has_anchor (s.blocks ++ news) (word_start q)

  abbrev old_place : ℕ → Anchor
  old_place = λ a. anchor_from 0 s.start s.blocks a

  abbrev new_place : ℕ → Anchor
  new_place = λ a. anchor_from 0 s.start (s.blocks ++ news) a

  total : bytes_taken_by_all (s.blocks ++ news) ≡ bytes_taken_by_all s.blocks + (bytes_taken_by size + 0)
  total = used-append s.blocks news

  room : s.start + bytes_taken_by_all s.blocks + bytes_taken_by size ≤ s.end
  room = omega (arith, done.fits, total)

  low_end : s.end ≤ 2 ^ 26
  low_end = sp.low (omega (arith, room))

  at_aligned : (s.start + bytes_taken_by_all s.blocks) % 4 ≡ 0
  at_aligned = omega (arith, sp.range.start_aligned, used_aligned s.blocks)

  -- where the new anchor is: in contents of a block, or outside the store
  word_at : (is_in_contents s.start s.blocks anchor ≡ true) ⊎ ((anchor + 4 ≤ s.start) ⊎ (s.end ≤ anchor))
  word_at = elim (or_cases (not (is_in_store s anchor)) (is_in_contents s.start s.blocks anchor) w.stands) [
    | inr held ↦ inl held
    | inl clear ↦ inr (beside s.start s.end anchor (omega (arith, room)) sp.range.start_aligned w.aligned (not-true (is_in_store s anchor) clear))
  ]

  word_out : (anchor + 4 ≤ s.start + bytes_taken_by_all s.blocks) ⊎ (s.end ≤ anchor)
  word_out = elim word_at [
    | inl held ↦ let h : IsHeld s.start (bytes_taken_by_all s.blocks) anchor = contents_within s.start s.blocks anchor held in inl (omega (arith, h.below))
    | inr out ↦ elim out [ inl low ↦ inl (omega (arith, low)) | inr past ↦ inr past ]
  ]

  word_place : IsWordPlace s.start s.blocks anchor
  word_place = elim word_at [
    | inl held ↦ inl held
    | inr out ↦ inr (elim out [ inl low ↦ inl low | inr past ↦ inr (omega (arith, past, sp.fits)) ])
  ]

  own_only : (p : ℕ) → (nat_eq p anchor || false) ≡ true → p ≡ anchor
  own_only p has = elim (or_cases (nat_eq p anchor) false has) [ inl here ↦ eqb-true p anchor here | inr never ↦ absurd (false≢true never) ]

  may_follow : MayFollow t.bytes.mapped s.start s.end s.blocks news
  may_follow = record {
    fits = omega (arith, room);
    whole = ((new_filled anchor size, omega (arith, room, low_end)), tt);
    words = ((record { aligned = w.aligned; there = w.there; low = w.low; outside = word_out }, refl), tt);
    fresh = λ p has. false_from_ne_true (nat_eq p anchor || false) (λ own. both_ways (has_anchor s.blocks anchor) w.none (ap (has_anchor s.blocks) (sym (own_only p own)) ∙ has));
    inner = λ p has up below.
        let same : p ≡ anchor = own_only p has in
        or_left (is_in_contents s.start s.blocks p) (is_in_contents (s.start + bytes_taken_by_all s.blocks) news p)
        (elim word_at [
          | inl held ↦ ap (is_in_contents s.start s.blocks) same ∙ held
          | inr out ↦ absurd (elim out [ inl low ↦ omega (arith, low, up, same) | inr past ↦ omega (arith, past, below, same) ])
        ]);
  }

  -- which words are anchors then
  mark_own : new_mark anchor ≡ true
  mark_own =
      let here : word_start anchor ≡ anchor = omega (arith, w.aligned) in
      ap (has_anchor (s.blocks ++ news)) here
      ∙ (anchor-append s.blocks news anchor ∙ or_right (has_anchor s.blocks anchor) (nat_eq anchor anchor || false) (or_left (nat_eq anchor anchor) false (eq-eqb anchor anchor refl)))

  or_none : (b : Bool) → (b || (false || false)) ≡ b
  or_none true = refl
  or_none false = refl

  mark_other : (q : ℕ) → (q ≡ anchor → ⊥) → has_anchor (s.blocks ++ news) q ≡ has_anchor s.blocks q
  mark_other q other =
      anchor-append s.blocks news q ∙ ((λ i. has_anchor s.blocks q || (ne_eqb q anchor other i || false)) ∙ or_none (has_anchor s.blocks q))

  stands : (a : ℕ) → has_anchor (s.blocks ++ news) (word_start a) ≡ false → bytes_then a ≡ with_bytes_at t.bytes.at (s.start + bytes_taken_by_all s.blocks) (blocks_text_of news) a
  unfolding laid_out
  stands a none =
      let parts = or_parts (has_anchor s.blocks (word_start a)) (has_anchor news (word_start a)) (sym (anchor-append s.blocks news (word_start a)) ∙ none) in
      anchors_beside t.bytes.mapped (s.start + bytes_taken_by_all s.blocks) s.end (s.start + bytes_taken_by_all s.blocks) news (with_bytes_at t.bytes.at (s.start + bytes_taken_by_all s.blocks) (blocks_text_of news)) a may_follow.words parts.1

  byte_front : (a : ℕ) → s.start ≤ a → a < s.start + bytes_taken_by_all s.blocks
      → byte_seen new_mark bytes_then a ≡ (if in_range anchor 4 a then None else byte_seen old_mark t.bytes.at a)
  byte_front a low high = elim (cases_Bool (in_range anchor 4 a)) [
    | inl inside ↦
        let here : word_start a ≡ anchor = word_in anchor a w.aligned inside in
        let own : word_start anchor ≡ anchor = omega (arith, w.aligned) in
        let mark : new_mark a ≡ true = ap (has_anchor (s.blocks ++ news)) (here ∙ sym own) ∙ mark_own in
        rw (inside, mark) refl
    | inr outside ↦
        let other : word_start a ≡ anchor → ⊥ = λ here. both_ways (in_range anchor 4 a) outside (in_word anchor a here) in
        rw outside (byte_alike old_mark new_mark t.bytes.at bytes_then a (mark_other (word_start a) other)
        (λ none. stands a none ∙ bytes_beside t.bytes.at (s.start + bytes_taken_by_all s.blocks) (blocks_text_of news) a (inl high)))
  ]

  outer_same : (a : ℕ) → (a + 4 ≤ s.start + bytes_taken_by_all s.blocks) ⊎ (s.end ≤ a) → new_place a ≡ old_place a
  outer_same a (inl low) = from_front 0 s.start s.blocks news a low
  outer_same a (inr past) = from_none 0 s.start (s.blocks ++ news) a (inr (omega (arith, past, done.fits))) ∙ sym (from_none 0 s.start s.blocks a (inr (omega (arith, past, sp.fits))))

  front_list : list_seen new_mark new_place s.start (standing bytes_then s.start s.blocks)
      ≡ place_shown None (old_place anchor) (list_seen old_mark old_place s.start s.blocks)
  front_list =
      held_standing new_mark new_place bytes_then s.start s.blocks
      ∙ (held_shown None anchor w.aligned (byte_seen old_mark t.bytes.at) (byte_seen new_mark bytes_then) old_place new_place s.start s.blocks sp.range.start_aligned
      byte_front (λ a has. outer_same a (outside_behind t.bytes.mapped s.start s.end s.blocks a sp.words has)) word_place
      ∙ ap (place_shown None (old_place anchor)) (sym (held_text old_mark old_place t.bytes.at s.start s.blocks sp.whole sp.text)))

  -- the new block: none of its bytes is an anchor's
  none_new : (a : ℕ) → s.start + bytes_taken_by_all s.blocks ≤ a → a < s.end → new_mark a ≡ false
  none_new a low high = false_from_ne_true (has_anchor (s.blocks ++ news) (word_start a)) (λ has.
      elim (or_cases (has_anchor s.blocks (word_start a)) (has_anchor news (word_start a)) (sym (anchor-append s.blocks news (word_start a)) ∙ has)) [
        | inl old ↦ elim (outside_behind t.bytes.mapped s.start s.end s.blocks (word_start a) sp.words old) [
          | inl before ↦ omega (arith, before, low)
          | inr past ↦ omega (arith, past, high)
        ]
        | inr own ↦
            let same : word_start a ≡ anchor = own_only (word_start a) own in
            elim word_out [ inl before ↦ omega (arith, before, low, same) | inr past ↦ omega (arith, past, high, same) ]
      ])

  new_bytes : seen_bytes new_mark (s.start + bytes_taken_by_all s.blocks + 8) (take size (bytes_between bytes_then (s.start + bytes_taken_by_all s.blocks + 8) (whole_words size))) ≡ replicate size (Some 0)
  new_bytes =
      let f : ℕ → ℕ = with_bytes_at t.bytes.at at (blocks_text_of news) in
      let held = (spelled f at new [] (new_filled anchor size) (bytes_held t.bytes.at at (blocks_text_of news))).bytes in
      let zeros : take size (replicate {A = ℕ} (whole_words size) 0) ≡ replicate size 0 = take-replicate size (whole_words size) 0 (omega arith) in
      block_seen new_mark new_mark f f bytes_then at at new (new_filled anchor size) held held (λ i below. refl) (λ i below none. stands (at + 8 + i) none)
      ∙ (ap (seen_bytes new_mark (at + 8)) zeros
      ∙ zeros_seen new_mark (at + 8) size (λ i below. none_new (at + 8 + i) (omega arith) (omega (arith, below, room))))

  own_same : new_place anchor ≡ old_place anchor
  own_same = outer_same anchor word_out

  list_then : (let o : Option FlexStore = Some s in IsAddedSeen (anchor_place_of s anchor) size (blocks_seen o) (blocks_seen u.flex))
  list_then =
      ap blocks_seen done.flex
      ∙ ((λ i. list_seen (λ q. standing_has bytes_then s.start (s.blocks ++ news) (word_start q) i) (λ q. from_standing bytes_then 0 s.start s.start (s.blocks ++ news) q i) s.start
      (standing bytes_then s.start (s.blocks ++ news)))
      ∙ (ap (list_seen new_mark new_place s.start) (standing_append bytes_then s.start s.blocks news)
      ∙ (list_append new_mark new_place s.start (standing bytes_then s.start s.blocks) (standing bytes_then (s.start + bytes_taken_by_all s.blocks) news)
      ∙ (ap (λ (n : ℕ). list_seen new_mark new_place s.start (standing bytes_then s.start s.blocks) ++ list_seen new_mark new_place (s.start + n) (standing bytes_then (s.start + bytes_taken_by_all s.blocks) news))
      (standing_used bytes_then s.start s.blocks)
      ∙ (λ i. front_list i ++ record { anchor = own_same i; bytes = new_bytes i } ∷ [])))))

  turned : (b c : Bool) → (b || (c || false)) ≡ (c || b)
  turned true true = refl
  turned true false = refl
  turned false true = refl
  turned false false = refl

  outside_byte : (a : ℕ) → (a < s.start) ⊎ (s.end ≤ a) → has_anchor (s.blocks ++ news) (word_start a) ≡ false → bytes_then a ≡ t.bytes.at a
  outside_byte a out none =
      let size : length (blocks_text_of news) ≡ bytes_taken_by_all news = text_used news may_follow.whole in
      stands a none ∙ bytes_beside t.bytes.at (s.start + bytes_taken_by_all s.blocks) (blocks_text_of news) a
      (elim out [ inl low ↦ inl (omega (arith, low)) | inr past ↦ inr (omega (arith, past, size, room)) ])

  came : (ground : Store) → is_anchor_place ground anchor ≡ true → (q : ℕ) → has_anchor (s.blocks ++ news) q ≡ true
      → (has_anchor s.blocks q ≡ true) ⊎ ((is_anchor_place ground q ≡ true) ⊎ ((s.start ≤ q) × (q + 4 ≤ s.end)))
  came ground place q has = elim (or_cases (has_anchor s.blocks q) (has_anchor news q) (sym (anchor-append s.blocks news q) ∙ has)) [
    | inl old ↦ inl old
    | inr own ↦ inr (inl (ap (is_anchor_place ground) (own_only q own) ∙ place))
  ]

  pub allocated_left : (ground : Store) → is_anchor_place ground anchor ≡ true → (let o : Option FlexStore = Some s in IsLeftBy ground t u s (with_anchor anchor) (IsAddedSeen (anchor_place_of s anchor) size (blocks_seen o)))
  allocated_left ground place = record {
    blocks = standing bytes_then s.start (s.blocks ++ news);
    flex = done.flex;
    spelled = subst (λ (v : FlexState). IsSpelledState v (record { start = s.start; end = s.end; blocks = standing bytes_then s.start (s.blocks ++ news) })) (sym done.is)
        (relaid_spelled t.bytes.mapped s.start s.end t.bytes.at s.blocks [] news sp.range low_end sp.whole
        (subst (λ (l : List Block). AreAnchorWords t.bytes.mapped s.start s.end l) (sym (append-nil s.blocks)) sp.words)
        (subst (λ (l : List Block). AreInner s.start s.end l) (sym (append-nil s.blocks)) sp.inner)
        (subst (λ (l : List Block). Holds t.bytes.at s.start (blocks_text_of l)) (sym (standing_same t.bytes.at s.start s.blocks sp.whole sp.text)) sp.text)
        sp.anchored may_follow (Some (record { start = s.start; end = s.end; blocks = standing bytes_then s.start (s.blocks ++ news) })));
    seen = list_then;
    aligned = w.aligned;
    had = w.none;
    mapped = ap (λ (v : FlexState). v.bytes.mapped) done.is;
    anchors = λ w out. standing_has bytes_then s.start (s.blocks ++ news) w ∙ (anchor-append s.blocks news w ∙ turned (has_anchor s.blocks w) (nat_eq w anchor));
    bytes = λ a out none. ap (λ (v : FlexState). v.bytes.at a) done.is ∙ outside_byte a out (sym (standing_has bytes_then s.start (s.blocks ++ news) (word_start a)) ∙ none);
    kept = λ a out old none. ap (λ (v : FlexState). v.bytes.at a) done.is ∙ outside_byte a out (sym (standing_has bytes_then s.start (s.blocks ++ news) (word_start a)) ∙ none);
    came = λ q has. came ground place q (sym (standing_has bytes_then s.start (s.blocks ++ news) q) ∙ has);
    small = λ bytes. subst (λ (v : FlexState). AreBytes v.bytes.at) (sym done.is)
        (laid_small (s.start + bytes_taken_by_all s.blocks) news t.bytes.at bytes (small_zeros (whole_words size), tt));
  }

-- what was tested where an alloc was done
pub record IsAllocated (places : Store) (t u : FlexState) (s : FlexStore) (anchor size : ℕ) : Type 0 where
  pub place : is_anchor_place places anchor ≡ true
  pub stands : may_stand s anchor ≡ true
  pub none : has_anchor s.blocks anchor ≡ false
  pub fits : (let given : FlexState × Bool = (u, true) in flex_if_room t s s.blocks (new_block anchor size ∷ []) ≡ given)

alloc_by : (may in_use : Bool) (x y : FlexState × Bool)
    → (let r : Result (FlexState × Bool) ErrorNumber = if not may then Err FlexBadAnchor else (if in_use then Err FlexAnchorInUse else Ok x) in r ≡ Ok y)
    → (may ≡ true) × ((in_use ≡ false) × (x ≡ y))
alloc_by false in_use x y e = absurd (refused FlexBadAnchor y e)
alloc_by true true x y e = absurd (refused FlexAnchorInUse y e)
alloc_by true false x y e = (refl, (refl, ok_same x y e))

pub alloc_done : (places : Store) (t u : FlexState) (s : FlexStore) (anchor size : ℕ) → t.flex ≡ Some s → flex_after_alloc places t anchor size ≡ Ok (u, true)
    → IsAllocated places t u s anchor size
unfolding flex_after_alloc
alloc_done places t u s anchor size own done =
    let next : FlexStore → Result (FlexState × Bool) ErrorNumber = λ x.
    if not (is_anchor_place places anchor && may_stand x anchor) then Err FlexBadAnchor else (
    if has_anchor x.blocks anchor then Err FlexAnchorInUse else Ok (flex_if_room t x x.blocks (new_block anchor size ∷ []))) in
    let parts = alloc_by (is_anchor_place places anchor && may_stand s anchor) (has_anchor s.blocks anchor) (flex_if_room t s s.blocks (new_block anchor size ∷ [])) (u, true)
    (subst (λ (o : Option FlexStore). bind (ok_or o FlexNotReady) next ≡ Ok (u, true)) own done) in
    let both = and_parts (is_anchor_place places anchor) (may_stand s anchor) parts.0 in
    record { place = both.0; stands = both.1; none = parts.1.0; fits = parts.1.1 }

pub alloc_goes_by_numbers : AllocGoesByNumbers
alloc_goes_by_numbers places t u s anchor size own sp bytes low done =
    let d : IsAllocated places t u s anchor size = alloc_done places t u s anchor size own done in
    let w : IsPlace places anchor = place_parts places anchor d.place in
    let there : t.bytes.mapped anchor ≡ true = ap (λ (b : Bytes). b.mapped anchor) (sym bytes) ∙ w.mapped in
    allocated_left t u s anchor size sp (record { aligned = w.aligned; there = there; low = low anchor there; stands = d.stands; none = d.none })
    (fitted_by t u s s.blocks (new_block anchor size ∷ []) (nat_le (s.start + bytes_taken_by_all (s.blocks ++ new_block anchor size ∷ [])) s.end) refl d.fits) places d.place
