-- A block that goes, whose anchor is 0 then.
use Rattle.std.proofs.Common.{◌≡◌, ℕ, Bool, ◌+◌, ◌-◌, ◌%◌, ◌^◌, ◌<◌, ◌≤◌, ◌||◌, true, false, nat_eq, List, [], ◌∷◌, ◌++◌, Some, Result, Ok, Err, arith, refl, sym, ◌∙◌, ap, inl, inr, ◌⊎◌, subst}
use Rattle.std.specs.Prelude.{if◌then◌else◌}
use Rattle.std.proofs.lemmas.Bool.{both_ways, cases_Bool, eqb-false, eq-eqb, or_cases, or_left, or_parts, or_right, true≢false}
use Rattle.profile.specs.Outcome.{Gives}
use Rattle.profile.specs.ErrorNumber.{ErrorNumber}
use Rattle.profile.specs.ErrorNumber.TheVariants.{FlexHoldsAnchor}
use Rattle.os_heap_words.specs.RawStoreRegion.{word_bytes}
use Rattle.os_heap.specs.Records.{anchor_among}
use Rattle.os_heap.proofs.Bytes.{is_mapped-layout}
use Rattle.os_heap.specs.Bytes.{AreMapped, with_word_at, word_start}
use Rattle.os_heap.specs.Classes.{is_heap_class}
use Rattle.os_heap.specs.Memory.{anchor_of, byte_at, bytes_of, class_of, is_mapped, layout}
use Rattle.os_heap.specs.Class.{Class}
use Rattle.os_heap.specs.AddressMap.{AddressMap}
use Rattle.flex_store.specs.declared.flex.Extent.{Extent}
use Rattle.flex_store.specs.declared.shift.Shift.{Shift}
use Rattle.flex_store.specs.Blocks.{Block, FlexStore, has_anchor, is_header, is_in_contents, bytes_taken_by, bytes_taken_by_all, without_block}
use Rattle.flex_store.specs.Calls.{end_in, FlexState, header_place_in, is_anchor_byte, flex_after_release, with_blocks, state_without_anchor}
use Rattle.flex_store.specs.Changes.{GotBlocks}
use Rattle.flex_store.specs.Memory.{AreAnchored, blocks_in, laid_out, standing}
use Rattle.flex_store.specs.Relaid.{blocks_behind_first, blocks_after_removal, first_at, MayLie, Relaid}
use Rattle.flex_store.specs.Shifts.{following, removal_shifts}
use Rattle.flex_store.specs.State.{AreAnchorWords, IsAnchorAllowed, IsMappedWord, IsStoreAt, IsText, KeepsBesidesFlex, KeepsHeads, blocks_of, held_in, flex_store_in}
use Rattle.flex_store.proofs.Anchoring.{other_word}
use Rattle.flex_store.proofs.Changing.{AreHeadless, got, no_heap_anchor}
use Rattle.flex_store.proofs.Finding.{IsPlaced}
use Rattle.flex_store.proofs.Fitting.{before_laid, front_fresh, MayFollow, rest_inside, rest_old}
use Rattle.flex_store.proofs.Following.{ArePlaced, following_used, following_whole, following_words, InBlock, InFront, InRest, Inside, IsMove, Move}
use Rattle.flex_store.proofs.Holding.{holds_kept, word_beside}
use Rattle.flex_store.proofs.Lists.{anchor-append, anchored_left, header-append, used-append}
use Rattle.flex_store.proofs.Placing.{no_anchor_in, removal_move, removal_numbers, removal_placed}
use Rattle.flex_store.proofs.Reading.{block_read}
use Rattle.flex_store.proofs.Standing.{standing_has}
use Rattle.flex_store.proofs.Texts.{IsFirst, text_first, text_kept, text_next, text_read}
use Rattle.flex_store.proofs.Words.{anchor_no_header, word_of, words_apart, words_left, words_right, words_within}

-- what memory spells first, and what after that
pub record IsSpelledAt (m : AddressMap) (h end : ℕ) (b : Block) (after : List Block) : Type 0 where
  pub first : first_at m h ≡ b
  pub rest : blocks_behind_first m h end ≡ after

pub spelled_at : (m : AddressMap) (h end : ℕ) (b : Block) (after : List Block) → IsText (bytes_of m) h end (b ∷ after) → IsSpelledAt m h end b after
spelled_at m h end b after text =
    let first : IsFirst (bytes_of m) h end b after = text_first (bytes_of m) h end b after text in
    let low : b.anchor < 2 ^ 26 = first.low in
    let is_first : first_at m h ≡ b = block_read (byte_at m) h b after first.whole (omega arith) text.whole.0.1 first.spelled in
    record {
      first = is_first;
      rest = ap (λ (x : Block). blocks_in (byte_at m) (h + bytes_taken_by x.size) end) is_first
          ∙ text_read (bytes_of m) (h + bytes_taken_by b.size) end after (text_next (bytes_of m) h end b after text);
    }

-- anchors that stay where one word changes that is none of them
pub anchored_other : (mapped : ℕ → Bool) (start end : ℕ) (f g : ℕ → ℕ) (at : ℕ) (bs : List Block) (word : ℕ) → AreAnchorWords mapped start end bs → has_anchor bs word ≡ false
    → ((a : ℕ) → (word_start a ≡ word → ⊥) → g a ≡ f a) → AreAnchored f at bs → AreAnchored g at bs
anchored_other mapped start end f g at [] word words none same anchored = tt
anchored_other mapped start end f g at (b ∷ bs) word words none same anchored =
    let parts = or_parts (nat_eq word b.anchor) (has_anchor bs word) none in
    let aligned : b.anchor % 4 ≡ 0 = words.0.0.aligned in (
      holds_kept f g b.anchor (word_bytes (at + 8))
          (λ a low high. same a (λ here. let there : word_start a ≡ b.anchor = omega arith in eqb-false word b.anchor parts.0 (sym here ∙ there))) anchored.0,
      anchored_other mapped (start + bytes_taken_by b.size) end f g (at + bytes_taken_by b.size) bs word words.1 parts.1 same anchored.1,
    )

-- an anchor that was made 0
pub record IsCleared (m m2 : AddressMap) (anchor : ℕ) : Type 0 where
  pub bytes : (a : ℕ) → byte_at m2 a ≡ with_word_at (byte_at m) anchor 0 a
  pub marks : class_of m2 ≡ class_of m
  pub same : layout m2 ≡ layout m

has_here : (xs : List Block) (b : Block) (ys : List Block) (x : ℕ) → b.anchor ≡ x → has_anchor (xs ++ b ∷ ys) x ≡ true
has_here [] b ys x same = rw (eq-eqb x b.anchor (sym same)) refl
has_here (y ∷ xs) b ys x same = or_right (nat_eq x y.anchor) (has_anchor (xs ++ b ∷ ys) x) (has_here xs b ys x same)

pub anchor_word : (m : AddressMap) (e : Extent) (anchor header : ℕ) (before : List Block) → IsPlaced m e anchor header before → IsMappedWord (is_mapped m) anchor
anchor_word m e anchor header before p =
    word_of (is_mapped m) e.start e.end (before ++ first_at m header ∷ blocks_behind_first m header (e.start + e.used)) anchor p.store.words
    (has_here before (first_at m header) (blocks_behind_first m header (e.start + e.used)) anchor p.split.anchor)

-- it lies outside the text from its block's header on
own_outside : (m : AddressMap) (e : Extent) (anchor header : ℕ) (before : List Block) → IsPlaced m e anchor header before
    → (anchor + 4 ≤ header) ⊎ (e.start + e.used ≤ anchor)
own_outside m e anchor header before p =
    subst (λ (x : ℕ). (x + 4 ≤ header) ⊎ (e.start + e.used ≤ x)) p.split.anchor p.words.0.0.outside

cleared_same : (m m2 : AddressMap) (anchor a : ℕ) → IsCleared m m2 anchor → anchor % 4 ≡ 0 → (word_start a ≡ anchor → ⊥) → byte_at m2 a ≡ byte_at m a
cleared_same m m2 anchor a c aligned other = c.bytes a ∙ word_beside (byte_at m) anchor 0 a (other_word anchor a aligned other)

pub inside_other : (start end anchor a : ℕ) → start % 4 ≡ 0 → (anchor + 4 ≤ start) ⊎ (end ≤ anchor) → start ≤ a → a < end → word_start a ≡ anchor → ⊥
inside_other start end anchor a aligned outside low high here = elim outside [ inl before ↦ omega arith | inr behind ↦ omega arith ]

pub cleared_text : (m m2 : AddressMap) (e : Extent) (anchor header : ℕ) (before : List Block) → IsPlaced m e anchor header before → IsCleared m m2 anchor
    → IsText (bytes_of m2) header (e.start + e.used) (first_at m header ∷ blocks_behind_first m header (e.start + e.used))
cleared_text m m2 e anchor header before p c =
    let w : IsMappedWord (is_mapped m) anchor = anchor_word m e anchor header before p in
    text_kept (bytes_of m) (bytes_of m2) header (e.start + e.used) (first_at m header ∷ blocks_behind_first m header (e.start + e.used)) (is_mapped-layout m m2 c.same)
    (λ a low high. cleared_same m m2 anchor a c w.aligned (inside_other header (e.start + e.used) anchor a p.text.aligned (own_outside m e anchor header before p) low high)) p.text

-- a release, by the place of its block
released_is : (m : AddressMap) (e : Extent) (anchor header : ℕ) (front : List Block) → IsStoreAt m e → IsPlaced m e anchor header front
    → flex_after_release (held_in m e) anchor
    ≡ (if anchor_among (anchor_of m) (header + 8) (first_at m header).size then Err FlexHoldsAnchor else
    Ok (with_blocks (state_without_anchor (held_in m e) anchor) (flex_store_in m e) front (following (removal_shifts header (e.start + e.used) (first_at m header).size) (blocks_behind_first m header (e.start + e.used))), tt))
unfolding flex_after_release
released_is m e anchor header front is p =
    let size : ℕ = (first_at m header).size in
    let at_is : header_place_in (flex_store_in m e) anchor ≡ header = ap (λ (l : List Block). e.start + bytes_taken_by_all l) p.split.front_is ∙ sym p.place in
    let end_is : end_in (flex_store_in m e) ≡ e.start + e.used = ap (λ (n : ℕ). e.start + n) is.used_is in
    let anchors : is_anchor_byte (flex_store_in m e) ≡ anchor_of m = λ i a. sym (is.store.anchors a) i in
    rw p.split.found (λ i. if anchor_among (anchors i) (at_is i + 8) size then Err FlexHoldsAnchor else
    Ok (with_blocks (state_without_anchor (held_in m e) anchor) (flex_store_in m e) (p.split.front_is i) (following (removal_shifts (at_is i) (end_is i) size) (p.split.rest_is i)), tt))

pub release_refused : (m : AddressMap) (e : Extent) (anchor header : ℕ) (front : List Block) → IsStoreAt m e → IsPlaced m e anchor header front
    → anchor_among (anchor_of m) (header + 8) (first_at m header).size ≡ true
    → Gives {U = Unit {0}} {E = ErrorNumber} (held_in m e) (flex_after_release (held_in m e) anchor) (Err FlexHoldsAnchor) (held_in m e)
release_refused m e anchor header front is p holds =
    let way = released_is m e anchor header front is p
    ∙ ap (λ (t : Bool). let r : Result (FlexState × Unit {0}) ErrorNumber = if t then Err FlexHoldsAnchor else
    Ok (with_blocks (state_without_anchor (held_in m e) anchor) (flex_store_in m e) front (following (removal_shifts header (e.start + e.used) (first_at m header).size) (blocks_behind_first m header (e.start + e.used))), tt) in r) holds in
    subst (λ (x : Result (FlexState × Unit {0}) ErrorNumber). Gives (held_in m e) x (Err FlexHoldsAnchor) (held_in m e)) (sym way) (refl, refl)

-- what its removal asks for
pub record MayRemove (m2 : AddressMap) (header end : ℕ) : Type 0 where
  pub text : IsText (bytes_of m2) header end (first_at m2 header ∷ blocks_behind_first m2 header end)
  pub words : AreAnchorWords (is_mapped m2) header end (first_at m2 header ∷ blocks_behind_first m2 header end)
  pub room : MayLie m2 header (blocks_after_removal m2 header end)

-- Its removal, where none of its bytes is one of an anchor.
module _ (m : AddressMap) (e : Extent) (anchor header : ℕ) (front : List Block) (p : IsPlaced m e anchor header front)
    (free : anchor_among (anchor_of m) (header + 8) (first_at m header).size ≡ false) where
  abbrev last : ℕ
  last = e.start + e.used

  abbrev b : Block
  b = first_at m header

  abbrev after : List Block
  after = blocks_behind_first m header (e.start + e.used)

  abbrev shifts : List Shift
  shifts = removal_shifts header last b.size

  abbrev k : Move
  k = removal_move header b last e.end

  abbrev news : List Block
  news = following shifts after

  fits : last ≤ e.end
  fits = omega (arith, p.store.fits, used-append front (b ∷ after), p.total)

  is : IsMove k
  is = removal_numbers e.start e.end header last front after b p.store.inner p.place p.text.length fits p.store.range.start_aligned

  store : FlexStore
  store = record { start = e.start; end = e.end; blocks = front ++ b ∷ after }

  none_among : anchor_among (is_anchor_byte store) (header + 8) b.size ≡ false
  unfolding store
  none_among =
      let same : anchor_of m ≡ is_anchor_byte (record { start = e.start; end = e.end; blocks = front ++ b ∷ after }) = λ i a. p.store.anchors a i in
      ap (λ (f : ℕ → Bool). anchor_among f (header + 8) b.size) (sym same) ∙ free

  has_all : (a : ℕ) → has_anchor after a ≡ true → has_anchor (front ++ b ∷ after) a ≡ true
  has_all a has = anchor-append front (b ∷ after) a ∙ or_right (has_anchor front a) (has_anchor (b ∷ after) a) (or_right (nat_eq a b.anchor) (has_anchor after a) has)

  places : ArePlaced k e.start front after shifts after
  unfolding store none_among
  places a has =
      removal_placed e.start e.end header last front after b p.store.inner p.place p.text.length fits p.store.range.start_aligned
      (λ x word own low high. no_anchor_in store (header + 8) b.size x x none_among (has_all x own) low (omega (arith, high)) (omega (arith, word)))
      a (word_of (is_mapped m) e.start e.end (front ++ b ∷ after) a p.store.words (has_all a has)).aligned has

  there : AreMapped (is_mapped m) header (e.end - header)
  there a low high = p.store.range.there a (omega (arith, low, p.place)) (omega (arith, low, high, p.place))

  rest_words : AreAnchorWords (is_mapped m) header e.end news
  rest_words =
      let old : AreAnchorWords (is_mapped m) (header + bytes_taken_by b.size) e.end after =
      subst (λ (n : ℕ). AreAnchorWords (is_mapped m) (n + bytes_taken_by b.size) e.end after) (sym p.place) (words_right (is_mapped m) e.start e.end front (b ∷ after) p.store.words).1 in
      let e' : header + (header + bytes_taken_by b.size - (header + bytes_taken_by b.size)) ≡ header = omega arith in
      rw e' at (following_words (is_mapped m) k e.start front after shifts after (header + bytes_taken_by b.size) is there p.low (omega arith) places old)

  in_rest : (x : ℕ) → Inside k e.start front after shifts x → (is_in_contents e.start front x || is_in_contents (e.start + bytes_taken_by_all front) news x) ≡ true
  in_rest x (InFront held) = or_left (is_in_contents e.start front x) (is_in_contents (e.start + bytes_taken_by_all front) news x) held
  in_rest x (InBlock low high) = absurd (omega (arith, low, high))
  in_rest x (InRest held) =
      or_right (is_in_contents e.start front x) (is_in_contents (e.start + bytes_taken_by_all front) news x) (ap (λ (q : ℕ). is_in_contents q news x) (sym p.place) ∙ held)

  may_follow : MayFollow (is_mapped m) e.start e.end front news
  may_follow = record {
    fits = omega (arith, fits, p.total, following_used shifts after);
    whole = following_whole shifts after p.text.whole.1;
    words = subst (λ (n : ℕ). AreAnchorWords (is_mapped m) n e.end news) p.place rest_words;
    fresh = front_fresh (is_mapped m) e.start e.end front after b k is shifts places p.store.words p.place refl;
    inner = λ x has up below. in_rest x
        (rest_inside (is_mapped m) e.start e.end front after b k is shifts places p.store.words p.place refl x (omega arith) (omega arith) has up below);
  }

  may_lie : MayLie m header news
  may_lie = record {
    words = words_within (is_mapped m) header e.end header (header + bytes_taken_by_all news) news (omega arith) (omega (arith, fits, p.total, p.place, following_used shifts after)) rest_words;
    there = λ a low high. p.text.mapped a low (omega (arith, high, following_used shifts after));
  }

  -- an anchor then: it was one, or it lies in the store
  new_old : (x : ℕ) → has_anchor news x ≡ true → (has_anchor (front ++ b ∷ after) x ≡ true) ⊎ ((header ≤ x) × (x + 4 ≤ e.end))
  new_old x has = elim (rest_old (is_mapped m) e.start e.end front after b k is shifts places p.store.words p.place refl x has) [
    | inl was ↦ inl (has_all x was)
    | inr within ↦ inr within
  ]

  headless : AreHeadless m e news
  headless clear a has = elim (new_old (word_start a) has) [
    | inl was ↦ no_heap_anchor (class_of m a) (p.store.anchors a ∙ was)
    | inr within ↦ clear a (omega (arith, within.0, p.place)) (omega (arith, within.1))
  ]

  module _ (m2 : AddressMap) (c : IsCleared m m2 anchor) where
    own_word : IsMappedWord (is_mapped m) anchor
    own_word = anchor_word m e anchor header front p

    -- what it asks for
    pub removes : MayRemove m2 header (e.start + e.used)
    removes =
        let text : IsText (bytes_of m2) header last (b ∷ after) = cleared_text m m2 e anchor header front p c in
        let s : IsSpelledAt m2 header last b after = spelled_at m2 header last b after text in
        let mapped : is_mapped m2 ≡ is_mapped m = is_mapped-layout m m2 c.same in
        let words : AreAnchorWords (is_mapped m2) header last (b ∷ after) = subst (λ (q : ℕ → Bool). AreAnchorWords q header last (b ∷ after)) (sym mapped) p.words in
        let same : b ∷ after ≡ first_at m2 header ∷ blocks_behind_first m2 header last = λ i. sym s.first i ∷ sym s.rest i in
        let room : MayLie m2 header news = record {
          words = subst (λ (q : ℕ → Bool). AreAnchorWords q header (header + bytes_taken_by_all news) news) (sym mapped) may_lie.words;
          there = subst (λ (q : ℕ → Bool). AreMapped q header (bytes_taken_by_all news)) (sym mapped) may_lie.there;
        } in
        record {
          text = subst (λ (l : List Block). IsText (bytes_of m2) header last l) same text;
          words = subst (λ (l : List Block). AreAnchorWords (is_mapped m2) header last l) same words;
          room = subst (λ (l : List Block). MayLie m2 header l) (λ i. following (removal_shifts header last (sym s.first i).size) (sym s.rest i)) room;
        }

    kept_header : (a : ℕ) → is_header e.start front (word_start a) ≡ true → byte_at m2 a ≡ byte_at m a
    kept_header a header_word = cleared_same m m2 anchor a c own_word.aligned (λ here.
        let none = anchor_no_header e.start e.end (front ++ b ∷ after) anchor p.store.fits p.store.inner (has_here front b after anchor p.split.anchor) in
        both_ways (is_header e.start (front ++ b ∷ after) anchor) none
        (header-append e.start front (b ∷ after) anchor ∙ or_left (is_header e.start front anchor) (is_header (e.start + bytes_taken_by_all front) (b ∷ after) anchor)
        (ap (is_header e.start front) (sym here) ∙ header_word)))

    kept_anchors : AreAnchored (byte_at m2) e.start front
    kept_anchors =
        anchored_other (is_mapped m) e.start e.end (byte_at m) (byte_at m2) e.start front anchor (words_left (is_mapped m) e.start e.end front (b ∷ after) p.store.words)
        (words_apart (is_mapped m) e.start e.end front (b ∷ after) anchor p.store.words (or_left (nat_eq anchor b.anchor) (has_anchor after anchor) (eq-eqb anchor b.anchor (sym p.split.anchor))))
        (λ a other. cleared_same m m2 anchor a c own_word.aligned other)
        (anchored_left (byte_at m) e.start front (b ∷ after) p.store.anchored)

    pub release_gets : (n : AddressMap) (f : Extent) → Relaid m2 n header (first_at m2 header ∷ blocks_behind_first m2 header last) (blocks_after_removal m2 header last)
        → f.start ≡ e.start → f.end ≡ e.end → f.used ≡ e.used - bytes_taken_by b.size → GotBlocks m2 e front news n f
    release_gets n f r same_start same_end used_is =
        let text : IsText (bytes_of m2) header last (b ∷ after) = cleared_text m m2 e anchor header front p c in
        let s : IsSpelledAt m2 header last b after = spelled_at m2 header last b after text in
        let r' : Relaid m2 n header (b ∷ after) news = subst (λ (l : List Block). Relaid m2 n header l news) (λ i. s.first i ∷ s.rest i)
        (subst (λ (l : List Block). Relaid m2 n header (first_at m2 header ∷ blocks_behind_first m2 header last) l) (λ i. following (removal_shifts header last (s.first i).size) (s.rest i)) r) in
        let total : e.used ≡ bytes_taken_by_all front + (bytes_taken_by b.size + bytes_taken_by_all after) = p.total in
        got m2 n e f (byte_at m2) front (b ∷ after) news
        (before_laid m m2 e.start e.end front (b ∷ after) news p.store c.marks c.same kept_header kept_anchors may_follow)
        (subst (λ (q : ℕ). Relaid m2 n q (b ∷ after) news) p.place r')
        (λ clear a has. ap (λ (q : ℕ → Class). is_heap_class (q a)) c.marks ∙ headless (λ x low high. ap (λ (q : ℕ → Class). is_heap_class (q x)) (sym c.marks) ∙ clear x low high) a has)
        same_start same_end (omega (arith, used_is, total, used-append front news, following_used shifts after))

    release_state : (n : AddressMap) (f : Extent) → GotBlocks m2 e front news n f
        → held_in n f ≡ with_blocks (state_without_anchor (held_in m e) anchor) (flex_store_in m e) front news
    release_state n f g =
        let zeroed : byte_at m2 ≡ with_word_at (byte_at m) anchor 0 = λ i a. c.bytes a i in
        let bytes : byte_at n ≡ laid_out (e.start + bytes_taken_by_all front) news (with_word_at (byte_at m) anchor 0) =
        (λ i a. g.bytes a i) ∙ ap (λ (h : ℕ → ℕ). laid_out (e.start + bytes_taken_by_all front) news h) zeroed in
        let blocks : blocks_of n f ≡ standing (laid_out (e.start + bytes_taken_by_all front) news (with_word_at (byte_at m) anchor 0)) e.start (front ++ news) =
        g.blocks_are ∙ ap (λ (h : ℕ → ℕ). standing h e.start (front ++ news)) bytes in
        λ i. record {
          bytes = record { mapped = (is_mapped-layout m2 n g.same ∙ is_mapped-layout m m2 c.same) i; at = bytes i };
          flex = Some (record { start = g.start i; end = g.end i; blocks = blocks i });
        }

    pub release_gives : (n : AddressMap) (f : Extent) → IsStoreAt m e → GotBlocks m2 e front news n f
        → Gives {U = Unit {0}} {E = ErrorNumber} (held_in m e) (flex_after_release (held_in m e) anchor) (Ok tt) (held_in n f)
    release_gives n f s g =
        let way = released_is m e anchor header front s p
        ∙ ap (λ (t : Bool). let r : Result (FlexState × Unit {0}) ErrorNumber = if t then Err FlexHoldsAnchor else Ok (with_blocks (state_without_anchor (held_in m e) anchor) (flex_store_in m e) front news, tt) in r) free in
        subst (λ (x : Result (FlexState × Unit {0}) ErrorNumber). Gives (held_in m e) x (Ok tt) (held_in n f)) (sym way) (release_state n f g, refl)

    allowed : (a : ℕ) → has_anchor (front ++ news) a ≡ true → IsAnchorAllowed m e a
    allowed a has =
        let was : has_anchor (front ++ b ∷ after) a ≡ true → IsAnchorAllowed m e a = λ had. inl (ap (λ (l : List Block). has_anchor l a) p.split.list ∙ had) in
        elim (or_cases (has_anchor front a) (has_anchor news a) (sym (anchor-append front news a) ∙ has)) [
          | inl own ↦ was (anchor-append front (b ∷ after) a ∙ or_left (has_anchor front a) (has_anchor (b ∷ after) a) own)
          | inr new ↦ elim (new_old a new) [
            | inl had ↦ was had
            | inr within ↦ inr (inr (omega (arith, within.0, p.place), omega (arith, within.1)))
          ]
        ]

    pub release_keeps : (n : AddressMap) (f : Extent) → GotBlocks m2 e front news n f → KeepsBesidesFlex m e n f
    release_keeps n f g =
        let live : (a : ℕ) → word_start a ≡ anchor → is_heap_class (class_of m a) ≡ false = λ a here.
        no_heap_anchor (class_of m a) (p.store.anchors a ∙ (ap (has_anchor (front ++ b ∷ after)) here ∙ has_here front b after anchor p.split.anchor)) in
        let classes : (a : ℕ) → is_heap_class (class_of m2 a) ≡ is_heap_class (class_of m a) = λ a. ap (λ (q : ℕ → Class). is_heap_class (q a)) c.marks in
        record {
          store = g.store;
          same = g.same ∙ c.same;
          heads = λ clear.
              let h : KeepsHeads m2 n = g.heads (λ a low high. classes a ∙ clear a low high) in
              record {
                bytes = λ a heap. h.bytes a (classes a ∙ heap) ∙ cleared_same m m2 anchor a c own_word.aligned (λ here. true≢false (sym heap ∙ live a here));
                classes = λ a. h.classes a ∙ classes a;
              };
          anchors = λ a has. allowed a (sym (standing_has (byte_at n) e.start (front ++ news) a) ∙ (ap (λ (l : List Block). has_anchor l a) (sym g.blocks_are) ∙ has));
          start = g.start;
          end = g.end;
        }

pub has_without : (anchor : ℕ) (bs : List Block) (a : ℕ) → has_anchor (without_block anchor bs) a ≡ true → has_anchor bs a ≡ true
has_without anchor [] a has = has
has_without anchor (b ∷ bs) a has = elim (cases_Bool (nat_eq b.anchor anchor)) [
  | inl here ↦ or_right (nat_eq a b.anchor) (has_anchor bs a) (rw here at has)
  | inr other ↦
      let has' = rw other at has in
      elim (cases_Bool (nat_eq a b.anchor)) [
        | inl own ↦ or_left (nat_eq a b.anchor) (has_anchor bs a) own
        | inr apart ↦ or_right (nat_eq a b.anchor) (has_anchor bs a) (has_without anchor bs a (rw apart at has'))
      ]
]
