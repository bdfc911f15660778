-- Blocks that may be laid out after some that stay, and what then holds of the store before it is
-- done.
use Rattle.std.proofs.Common.{◌≡◌, ℕ, Bool, ◌+◌, ◌<◌, ◌≤◌, true, false, ◌||◌, nat_eq, List, ◌∷◌, ◌++◌, arith, refl, sym, ◌∙◌, ap, inl, inr, ◌⊎◌, subst}
use Rattle.std.proofs.lemmas.Bool.{both_ways, false_from_ne_true, or_cases, or_left, or_parts}
use Rattle.os_heap.proofs.Bytes.{is_mapped-layout}
use Rattle.os_heap.specs.Bytes.{word_start}
use Rattle.os_heap.specs.Classes.{is_anchor, is_flex_header}
use Rattle.os_heap.specs.Memory.{byte_at, class_of, is_mapped, layout}
use Rattle.os_heap.specs.Class.{Class}
use Rattle.os_heap.specs.AddressMap.{AddressMap}
use Rattle.flex_store.specs.declared.shift.Shift.{Shift}
use Rattle.flex_store.specs.Blocks.{Block, has_anchor, is_header, is_in_contents, bytes_taken_by_all}
use Rattle.flex_store.specs.Memory.{AreAnchored, Holds, standing, blocks_text_of}
use Rattle.flex_store.specs.Shifts.{following}
use Rattle.flex_store.specs.State.{AreAnchorWords, AreInner, AreWhole, IsFlexRange, IsFlexStore}
use Rattle.flex_store.proofs.Following.{Above, ArePlaced, Before, Behind, Below, fresh_following, has_following, Inside, IsMove, Move, Past, Place, placed_inside}
use Rattle.flex_store.proofs.Lists.{anchor-append, contents-append, header-append, text-append, used-append, whole-append, whole_left}
use Rattle.flex_store.proofs.Holding.{holds_left}
use Rattle.flex_store.proofs.Standing.{all_there, KeepsHeaders, standing_anchored, standing_contents, standing_has, standing_header, standing_text, standing_used, standing_whole, standing_words}
use Rattle.flex_store.proofs.Storing.{IsBefore}
use Rattle.flex_store.proofs.Words.{contents_within, IsHeld, outside_behind, words_apart, words_joined, words_left, word_of, words_right}

-- blocks that may be laid out after those before them, which stay
pub record MayFollow (mapped : ℕ → Bool) (start end : ℕ) (front news : List Block) : Type 0 where
  pub fits : start + (bytes_taken_by_all front + bytes_taken_by_all news) ≤ end
  pub whole : AreWhole news
  pub words : AreAnchorWords mapped (start + bytes_taken_by_all front) end news
  pub fresh : (p : ℕ) → has_anchor front p ≡ true → has_anchor news p ≡ false
  pub inner : (p : ℕ) → has_anchor news p ≡ true → start ≤ p → p < end → (is_in_contents start front p || is_in_contents (start + bytes_taken_by_all front) news p) ≡ true

-- an anchor of a block in front lies in contents of one of these
pub front_inner : (start end : ℕ) (front olds : List Block) (p : ℕ) → AreInner start end (front ++ olds) → (p + 4 ≤ start + bytes_taken_by_all front) ⊎ (end ≤ p)
    → has_anchor (front ++ olds) p ≡ true → start ≤ p → p < end → is_in_contents start front p ≡ true
front_inner start end front olds p inner out has up below =
    elim (or_cases (is_in_contents start front p) (is_in_contents (start + bytes_taken_by_all front) olds p) (sym (contents-append start front olds p) ∙ inner p has up below)) [
      | inl held ↦ held
      | inr later ↦
          let h : IsHeld (start + bytes_taken_by_all front) (bytes_taken_by_all olds) p = contents_within (start + bytes_taken_by_all front) olds p later in
          absurd (elim out [ inl before ↦ omega (arith, h.from) | inr behind ↦ omega arith ])
    ]

-- What holds before they are laid out. The blocks in front have the bytes that stand there: one of
-- their words may have been written.
pub before_laid : (m m2 : AddressMap) (start end : ℕ) (front olds news : List Block) → IsFlexStore m start end (front ++ olds) → class_of m2 ≡ class_of m
    → layout m2 ≡ layout m → KeepsHeaders (byte_at m) (byte_at m2) start front → AreAnchored (byte_at m2) start front → MayFollow (is_mapped m) start end front news
    → IsBefore m2 start end (standing (byte_at m2) start front) olds news
before_laid m m2 start end front olds news s marks same kept anchored may =
    let g : ℕ → ℕ = byte_at m2 in
    let now : List Block = standing g start front in
    let mapped : is_mapped m2 ≡ is_mapped m = is_mapped-layout m m2 same in
    let size : bytes_taken_by_all now ≡ bytes_taken_by_all front = standing_used g start front in
    let sum : bytes_taken_by_all (now ++ news) ≡ bytes_taken_by_all now + bytes_taken_by_all news = used-append now news in
    let sum' : bytes_taken_by_all (front ++ olds) ≡ bytes_taken_by_all front + bytes_taken_by_all olds = used-append front olds in
    let whole : AreWhole front = whole_left front olds s.whole in
    let words : AreAnchorWords (is_mapped m) start end front = words_left (is_mapped m) start end front olds s.words in
    let words' : AreAnchorWords (is_mapped m) start end now =
    standing_words (is_mapped m) (is_mapped m) start end g start front (all_there (is_mapped m) front (λ a has. (word_of (is_mapped m) start end front a words has).there)) words in
    let at_is : start + bytes_taken_by_all front ≡ start + bytes_taken_by_all now = ap (λ (n : ℕ). start + n) (sym size) in
    record {
      range = subst (λ (q : ℕ → Bool). IsFlexRange q start end) (sym mapped) s.range;
      fits = omega (arith, may.fits);
      fitted = omega (arith, s.fits);
      whole = whole-append now news (standing_whole g start front whole) may.whole;
      words = subst (λ (q : ℕ → Bool). AreAnchorWords q start end (now ++ news)) (sym mapped)
          (words_joined (is_mapped m) start end now news words' (rw at_is at may.words) (λ p has. may.fresh p (sym (standing_has g start front p) ∙ has)));
      inner = λ p has up below. contents-append start now news p ∙ (ap (λ (t : Bool). t || is_in_contents (start + bytes_taken_by_all now) news p) (standing_contents g start start front p)
          ∙ (ap (λ (n : ℕ). is_in_contents start front p || is_in_contents n news p) (sym at_is) ∙ in_either p has up below));
      text = standing_text (byte_at m) g start front s.range.start_aligned whole kept
          (holds_left (byte_at m) start (blocks_text_of front) (blocks_text_of olds) (subst (λ (t : List ℕ). Holds (byte_at m) start t) (text-append front olds) s.text));
      anchored = standing_anchored (is_mapped m) start end g g g start front words (λ a has. refl) anchored;
      headers = λ a. ap (λ (k : ℕ → Class). is_flex_header (k a)) marks ∙ (s.headers a ∙ (header-append start front olds (word_start a)
          ∙ (ap (λ (t : Bool). t || is_header (start + bytes_taken_by_all front) olds (word_start a)) (sym (standing_header g start front (word_start a)))
          ∙ ap (λ (n : ℕ). is_header start now (word_start a) || is_header n olds (word_start a)) at_is)));
      anchors = λ a. ap (λ (k : ℕ → Class). is_anchor (k a)) marks ∙ (s.anchors a ∙ (anchor-append front olds (word_start a)
          ∙ ap (λ (t : Bool). t || has_anchor olds (word_start a)) (sym (standing_has g start front (word_start a)))));
      apart = λ p has. standing_has g start front p ∙ words_apart (is_mapped m) start end front olds p s.words has;
    } where
      in_either : (p : ℕ) → has_anchor (standing (byte_at m2) start front ++ news) p ≡ true → start ≤ p → p < end
          → (is_in_contents start front p || is_in_contents (start + bytes_taken_by_all front) news p) ≡ true
      in_either p has up below =
          elim (or_cases (has_anchor (standing (byte_at m2) start front) p) (has_anchor news p) (sym (anchor-append (standing (byte_at m2) start front) news p) ∙ has)) [
            | inl own ↦
                let had : has_anchor front p ≡ true = sym (standing_has (byte_at m2) start front p) ∙ own in
                or_left (is_in_contents start front p) (is_in_contents (start + bytes_taken_by_all front) news p)
                (front_inner start end front olds p s.inner (outside_behind (is_mapped m) start end front p (words_left (is_mapped m) start end front olds s.words) had)
                (anchor-append front olds p ∙ or_left (has_anchor front p) (has_anchor olds p) had) up below)
            | inr new ↦ may.inner p new up below
          ]

-- Later blocks, whose anchors moved: no anchor of a block in front is one of theirs, and theirs lie
-- in contents where they lie in the store.
module _ (mapped : ℕ → Bool) (start end : ℕ) (front after : List Block) (b : Block) (k : Move) (is : IsMove k) (ss : List Shift)
    (places : ArePlaced k start front after ss after) (words : AreAnchorWords mapped start end (front ++ b ∷ after)) (at_is : k.at ≡ start + bytes_taken_by_all front) (end_is : k.end ≡ end) where
  -- the block's own anchor, and those in front of it
  pub own_outside : (b.anchor + 4 ≤ k.at) ⊎ (k.end ≤ b.anchor)
  own_outside =
      elim (words_right mapped start end front (b ∷ after) words).0.0.outside [ inl before ↦ inl (omega (arith, before, at_is)) | inr behind ↦ inr (omega (arith, behind, end_is)) ]

  pub own_fresh : has_anchor (following ss after) b.anchor ≡ false
  own_fresh = fresh_following k start front after ss after b.anchor is places own_outside (words_right mapped start end front (b ∷ after) words).0.1

  pub front_fresh : (p : ℕ) → has_anchor front p ≡ true → has_anchor (following ss after) p ≡ false
  front_fresh p has =
      let none : has_anchor (b ∷ after) p ≡ false =
      false_from_ne_true (has_anchor (b ∷ after) p) (λ later. both_ways (has_anchor front p) (words_apart mapped start end front (b ∷ after) p words later) has) in
      fresh_following k start front after ss after p is places
      (elim (outside_behind mapped start end front p (words_left mapped start end front (b ∷ after) words) has) [
        | inl before ↦ inl (omega (arith, before, at_is))
        | inr behind ↦ inr (omega (arith, behind, end_is))
      ])
      (or_parts (nat_eq p b.anchor) (has_anchor after p) none).1

  pub front_differs : (p : ℕ) → has_anchor front p ≡ true → nat_eq p b.anchor ≡ false
  front_differs p has = false_from_ne_true (nat_eq p b.anchor) (λ same.
      both_ways (has_anchor front p) (words_apart mapped start end front (b ∷ after) p words (or_left (nat_eq p b.anchor) (has_anchor after p) same)) has)

  pub rest_inside : (p : ℕ) → k.at + 8 ≤ k.to → k.low ≤ k.held → has_anchor (following ss after) p ≡ true → start ≤ p → p < end → Inside k start front after ss p
  rest_inside p past held has up below =
      let f = has_following ss after p has in
      placed_inside k start front after ss f.0 p is past held up (omega (arith, below, end_is)) (subst (λ (g : ℕ). Place k start front after f.0 g) f.1.1 (places f.0 f.1.0))

  -- and they were anchors, or lie in the store
  pub rest_old : (p : ℕ) → has_anchor (following ss after) p ≡ true → (has_anchor after p ≡ true) ⊎ ((k.at ≤ p) × (p + 4 ≤ k.end))
  rest_old p has =
      let f = has_following ss after p has in
      elim (place_old f.0 p (subst (λ (g : ℕ). Place k start front after f.0 g) f.1.1 (places f.0 f.1.0))) [
        | inl same ↦ inl (ap (has_anchor after) same ∙ f.1.0)
        | inr within ↦ inr within
      ] where
        place_old : (a g : ℕ) → Place k start front after a g → (g ≡ a) ⊎ ((k.at ≤ g) × (g + 4 ≤ k.end))
        place_old a g (Below e low _) = inl e
        place_old a g (Before e from low) = inl e
        place_old a g (Past e from aligned low) = inr (omega arith, omega arith)
        place_old a g (Behind e from low _) = inr (omega arith, omega arith)
        place_old a g (Above e past) = inl e
