-- A block whose bytes change, where that breaks no anchor: what then holds of the store.
use Rattle.std.proofs.Common.{◌≡◌, ℕ, Bool, ◌+◌, ◌-◌, ◌%◌, ◌<◌, ◌≤◌, ◌||◌, true, false, nat_eq, List, ◌∷◌, ◌++◌, length, arith, refl, sym, ◌∙◌, ap, inl, inr, ◌⊎◌, subst}
use Rattle.std.proofs.lemmas.Bool.{eqb-true, le-leb, or_cases, or_from, or_left, or_right}
use Rattle.os_heap.specs.Bytes.{AreMapped, word_start}
use Rattle.os_heap.specs.Memory.{anchor_of, byte_at, class_of, is_mapped}
use Rattle.os_heap.specs.AddressMap.{AddressMap}
use Rattle.flex_store.specs.declared.flex.Extent.{Extent}
use Rattle.flex_store.specs.declared.shift.Shift.{Shift}
use Rattle.flex_store.specs.declared.splice.Splice.{Splice}
use Rattle.flex_store.specs.Blocks.{Block, contents, FlexStore, has_anchor, block_holding, is_held_word, is_in_contents, bytes_after_splice, bytes_taken_by, bytes_taken_by_all}
use Rattle.flex_store.specs.Calls.{breaks_anchor, is_anchor_byte}
use Rattle.flex_store.specs.Changes.{Fits}
use Rattle.flex_store.specs.Relaid.{blocks_behind_first, first_at, MayLie, Relaid, blocks_after_splice}
use Rattle.flex_store.specs.Shifts.{following, splice_shifts}
use Rattle.flex_store.specs.Splices.{size_after_splice}
use Rattle.flex_store.specs.State.{AreAnchorWords}
use Rattle.flex_store.proofs.Changing.{AreHeadless, got, no_heap_anchor}
use Rattle.flex_store.proofs.Finding.{IsPlaced}
use Rattle.flex_store.proofs.Fitting.{before_laid, front_fresh, front_differs, front_inner, MayFollow, own_fresh, own_outside, rest_inside, rest_old}
use Rattle.flex_store.proofs.Following.{ArePlaced, following_used, following_whole, following_words, InBlock, InFront, InRest, Inside, IsMove, Move}
use Rattle.flex_store.proofs.Lists.{anchor-append, anchored_left, used-append}
use Rattle.flex_store.proofs.Placing.{splice_move, splice_numbers, splice_placed, unbroken}
use Rattle.flex_store.proofs.Sliding.{new_length}
use Rattle.flex_store.proofs.Splicing.{filled_length}
use Rattle.flex_store.proofs.Words.{word_of, words_right, words_within}

-- a change that breaks no anchor, and for which there is room
pub record IsChange (m : AddressMap) (e : Extent) (header : ℕ) (s : Splice) : Type 0 where
  pub cut : s.cut ≤ s.at
  pub at : s.at ≤ (first_at m header).size
  pub some : 0 < s.cut + s.more
  pub free : breaks_anchor (anchor_of m) (header + 8) (first_at m header).size s.at s.cut s.more ≡ false
  pub room : e.start + (e.used - bytes_taken_by (first_at m header).size + bytes_taken_by (size_after_splice s (first_at m header).size)) ≤ e.end

-- what the blocks use then
pub total_after : (m : AddressMap) (e : Extent) (anchor header : ℕ) (front : List Block) (s : Splice) → IsPlaced m e anchor header front → s.at ≤ (first_at m header).size
    → bytes_taken_by_all (front ++ blocks_after_splice m header (e.start + e.used) s) ≡ e.used - bytes_taken_by (first_at m header).size + bytes_taken_by (size_after_splice s (first_at m header).size)
total_after m e anchor header front s p inside =
    let b : Block = first_at m header in
    let after : List Block = blocks_behind_first m header (e.start + e.used) in
    let count : length (bytes_after_splice (contents b) s.at s.cut s.more) ≡ size_after_splice s b.size = new_length m header s.at s.cut s.more inside in
    let rest : bytes_taken_by_all (following (splice_shifts header (e.start + e.used) b.size s.at s.cut s.more) after) ≡ bytes_taken_by_all after =
    following_used (splice_shifts header (e.start + e.used) b.size s.at s.cut s.more) after in
    let total : e.used ≡ bytes_taken_by_all front + (bytes_taken_by b.size + bytes_taken_by_all after) = p.total in
    used-append front (blocks_after_splice m header (e.start + e.used) s)
    ∙ ((λ i. bytes_taken_by_all front + (bytes_taken_by (count i) + rest i)) ∙ omega arith)

module _ (m : AddressMap) (e : Extent) (anchor header : ℕ) (front : List Block) (s : Splice) (p : IsPlaced m e anchor header front) (c : IsChange m e header s) where
  abbrev last : ℕ
  last = e.start + e.used

  abbrev b : Block
  b = first_at m header

  abbrev after : List Block
  after = blocks_behind_first m header (e.start + e.used)

  abbrev shifts : List Shift
  shifts = splice_shifts header last b.size s.at s.cut s.more

  abbrev k : Move
  k = splice_move header b s.at s.cut s.more last e.end

  abbrev news : List Block
  news = blocks_after_splice m header last s

  fits : last ≤ e.end
  fits = omega (arith, p.store.fits, used-append front (b ∷ after), p.total)

  room : header + bytes_taken_by (s.at - s.cut + s.more + (b.size - s.at)) + bytes_taken_by_all after ≤ e.end
  room = omega (arith, c.room, p.total, p.place)

  is : IsMove k
  is = splice_numbers e.start e.end header last front after b p.store.inner p.place p.text.length fits p.store.range.start_aligned s.at s.cut s.more c.cut c.at room

  store : FlexStore
  store = record { start = e.start; end = e.end; blocks = front ++ b ∷ after }

  anchors_are : anchor_of m ≡ is_anchor_byte store
  unfolding store
  anchors_are = λ i a. p.store.anchors a i

  header_aligned : header % 4 ≡ 0
  header_aligned = p.text.aligned

  has_all : (a : ℕ) → has_anchor after a ≡ true → has_anchor (front ++ b ∷ after) a ≡ true
  has_all a has = anchor-append front (b ∷ after) a ∙ or_right (has_anchor front a) (has_anchor (b ∷ after) a) (or_right (nat_eq a b.anchor) (has_anchor after a) has)

  places : ArePlaced k e.start front after shifts after
  unfolding store
  places a has =
      splice_placed e.start e.end header last front after b p.store.inner p.place p.text.length fits p.store.range.start_aligned s.at s.cut s.more c.cut c.at
      (λ x word own low high. unbroken store (header + 8) b.size s.at s.cut s.more x
      (ap (λ (f : ℕ → Bool). breaks_anchor f (header + 8) b.size s.at s.cut s.more) (sym anchors_are) ∙ c.free)
      (omega (arith, header_aligned)) c.cut c.some word (has_all x own) low high)
      a (word_of (is_mapped m) e.start e.end (front ++ b ∷ after) a p.store.words (has_all a has)).aligned has

  count : length (bytes_after_splice (contents b) s.at s.cut s.more) ≡ s.at - s.cut + s.more + (b.size - s.at)
  count = new_length m header s.at s.cut s.more c.at

  there : AreMapped (is_mapped m) header (e.end - header)
  there a low high = p.store.range.there a (omega (arith, low, p.place)) (omega (arith, low, high, p.place))

  rest_words : AreAnchorWords (is_mapped m) (header + bytes_taken_by (s.at - s.cut + s.more + (b.size - s.at))) e.end (following shifts after)
  rest_words =
      let old : AreAnchorWords (is_mapped m) (header + bytes_taken_by b.size) e.end after =
      subst (λ (n : ℕ). AreAnchorWords (is_mapped m) (n + bytes_taken_by b.size) e.end after) (sym p.place) (words_right (is_mapped m) e.start e.end front (b ∷ after) p.store.words).1 in
      let e' : header + bytes_taken_by (s.at - s.cut + s.more + (b.size - s.at)) + (header + bytes_taken_by b.size - (header + bytes_taken_by b.size))
      ≡ header + bytes_taken_by (s.at - s.cut + s.more + (b.size - s.at)) = omega arith in
      rw e' at (following_words (is_mapped m) k e.start front after shifts after (header + bytes_taken_by b.size) is there p.low (omega arith) places old)

  new_words : AreAnchorWords (is_mapped m) (e.start + bytes_taken_by_all front) e.end news
  new_words =
      let first = words_right (is_mapped m) e.start e.end front (b ∷ after) p.store.words in
      let e' : header + bytes_taken_by (s.at - s.cut + s.more + (b.size - s.at)) ≡ e.start + bytes_taken_by_all front + bytes_taken_by (length (bytes_after_splice (contents b) s.at s.cut s.more)) =
      (λ i. p.place i + bytes_taken_by (sym count i)) in (
        (first.0.0, own_fresh (is_mapped m) e.start e.end front after b k is shifts places p.store.words p.place refl),
        subst (λ (n : ℕ). AreAnchorWords (is_mapped m) n e.end (following shifts after)) e' rest_words,
      )

  in_rest : (x : ℕ) → Inside k e.start front after shifts x → (is_in_contents e.start front x || is_in_contents (e.start + bytes_taken_by_all front) news x) ≡ true
  in_rest x (InFront held) = or_left (is_in_contents e.start front x) (is_in_contents (e.start + bytes_taken_by_all front) news x) held
  in_rest x (InBlock low high) =
      let n : ℕ = length (bytes_after_splice (contents b) s.at s.cut s.more) in
      or_right (is_in_contents e.start front x) (is_in_contents (e.start + bytes_taken_by_all front) news x)
      (or_left (is_held_word (e.start + bytes_taken_by_all front) (block_holding b (bytes_after_splice (contents b) s.at s.cut s.more)) x) (is_in_contents (e.start + bytes_taken_by_all front + bytes_taken_by n) (following shifts after) x)
      (rw (le-leb (e.start + bytes_taken_by_all front + 8) x (omega (arith, low, p.place)), le-leb (x + 4) (e.start + bytes_taken_by_all front + 8 + n) (omega (arith, high, p.place, count))) refl))
  in_rest x (InRest held) =
      let n : ℕ = length (bytes_after_splice (contents b) s.at s.cut s.more) in
      let e' : header + bytes_taken_by (s.at - s.cut + s.more + (b.size - s.at)) ≡ e.start + bytes_taken_by_all front + bytes_taken_by n = (λ i. p.place i + bytes_taken_by (sym count i)) in
      or_right (is_in_contents e.start front x) (is_in_contents (e.start + bytes_taken_by_all front) news x)
      (or_right (is_held_word (e.start + bytes_taken_by_all front) (block_holding b (bytes_after_splice (contents b) s.at s.cut s.more)) x) (is_in_contents (e.start + bytes_taken_by_all front + bytes_taken_by n) (following shifts after) x)
      (ap (λ (q : ℕ). is_in_contents q (following shifts after) x) (sym e') ∙ held))

  new_inner : (x : ℕ) → has_anchor news x ≡ true → e.start ≤ x → x < e.end → (is_in_contents e.start front x || is_in_contents (e.start + bytes_taken_by_all front) news x) ≡ true
  new_inner x has up below = elim (or_cases (nat_eq x b.anchor) (has_anchor (following shifts after) x) has) [
    | inl own ↦
        let same : x ≡ b.anchor = eqb-true x b.anchor own in
        let out : (b.anchor + 4 ≤ header) ⊎ (e.end ≤ b.anchor) = own_outside (is_mapped m) e.start e.end front after b k is shifts places p.store.words p.place refl in
        or_left (is_in_contents e.start front x) (is_in_contents (e.start + bytes_taken_by_all front) news x)
        (front_inner e.start e.end front (b ∷ after) x p.store.inner
        (elim out [ inl before ↦ inl (omega (arith, before, same, p.place)) | inr past ↦ inr (omega (arith, past, same)) ])
        (anchor-append front (b ∷ after) x ∙ or_right (has_anchor front x) (has_anchor (b ∷ after) x) (or_left (nat_eq x b.anchor) (has_anchor after x) own)) up below)
    | inr later ↦ in_rest x (rest_inside (is_mapped m) e.start e.end front after b k is shifts places p.store.words p.place refl x (omega arith) (omega arith) later up below)
  ]

  pub may_follow : MayFollow (is_mapped m) e.start e.end front news
  may_follow = record {
    fits = omega (arith, c.room, total_after m e anchor header front s p c.at, used-append front news);
    whole = ((filled_length (bytes_after_splice (contents b) s.at s.cut s.more), omega (arith, count, room, p.low)), following_whole shifts after p.text.whole.1);
    words = new_words;
    fresh = λ x has. or_from (nat_eq x b.anchor) (has_anchor (following shifts after) x)
        (front_differs (is_mapped m) e.start e.end front after b k is shifts places p.store.words p.place refl x has)
        (front_fresh (is_mapped m) e.start e.end front after b k is shifts places p.store.words p.place refl x has);
    inner = new_inner;
  }

  pub may_replace : MayLie m header news
  may_replace =
      let total = total_after m e anchor header front s p c.at in
      record {
        words = words_within (is_mapped m) (e.start + bytes_taken_by_all front) e.end header (header + bytes_taken_by_all news) news (omega (arith, p.place))
            (omega (arith, c.room, total, used-append front news, p.place)) new_words;
        there = λ a low high. p.store.range.there a (omega (arith, low, p.place)) (omega (arith, low, high, c.room, total, used-append front news, p.place));
      }

  -- an anchor then: it was one, or it lies in the store
  pub new_old : (x : ℕ) → has_anchor news x ≡ true → (has_anchor (front ++ b ∷ after) x ≡ true) ⊎ ((header ≤ x) × (x + 4 ≤ e.end))
  new_old x has = elim (or_cases (nat_eq x b.anchor) (has_anchor (following shifts after) x) has) [
    | inl own ↦ inl (anchor-append front (b ∷ after) x ∙ or_right (has_anchor front x) (has_anchor (b ∷ after) x) (or_left (nat_eq x b.anchor) (has_anchor after x) own))
    | inr later ↦ elim (rest_old (is_mapped m) e.start e.end front after b k is shifts places p.store.words p.place refl x later) [
      | inl was ↦ inl (has_all x was)
      | inr within ↦ inr within
    ]
  ]

  headless : AreHeadless m e news
  headless clear a has = elim (new_old (word_start a) has) [
    | inl was ↦ no_heap_anchor (class_of m a) (p.store.anchors a ∙ was)
    | inr within ↦ clear a (omega (arith, within.0, p.place)) (omega (arith, within.1))
  ]

  pub changed : (n : AddressMap) (f : Extent) → Relaid m n header (b ∷ after) news → f.start ≡ e.start → f.end ≡ e.end
      → f.used ≡ e.used - bytes_taken_by b.size + bytes_taken_by (size_after_splice s b.size) → Fits m e front news true n f
  changed n f r same_start same_end used_is =
      let total = total_after m e anchor header front s p c.at in (
        omega (arith, c.room, total),
        got m n e f (byte_at m) front (b ∷ after) news
            (before_laid m m e.start e.end front (b ∷ after) news p.store refl refl (λ a is. refl) (anchored_left (byte_at m) e.start front (b ∷ after) p.store.anchored) may_follow)
            (subst (λ (q : ℕ). Relaid m n q (b ∷ after) news) p.place r) headless same_start same_end (used_is ∙ sym total),
      )

-- where there is no room
pub no_room : (m : AddressMap) (e : Extent) (anchor header : ℕ) (front : List Block) (s : Splice) → IsPlaced m e anchor header front → s.at ≤ (first_at m header).size
    → e.end < e.start + (e.used - bytes_taken_by (first_at m header).size + bytes_taken_by (size_after_splice s (first_at m header).size))
    → Fits m e front (blocks_after_splice m header (e.start + e.used) s) false m e
no_room m e anchor header front s p inside past = (rw (total_after m e anchor header front s p inside) past, (refl, refl))
