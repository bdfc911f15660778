-- A flex call lays out blocks in the store's range and writes the words of their anchors. So a byte
-- outside the range that was of no anchor stays, and is of none then, unless an alloc names its
-- word.
use Rattle.std.proofs.Common.{ℕ, ◌||◌, ◌+◌, ◌-◌, ◌%◌, ◌&&◌, ◌≡◌, ◌≤◌, ◌<◌, ◌∙◌, ◌⊎◌, nat_eq, Bool, true, false, List, [], ◌∷◌, ◌++◌, length, Option, Some, None, refl, sym, ap, subst, inl, inr, arith}
use Rattle.std.specs.Prelude.{if◌then◌else◌, nat_le, nat_lt}
use Rattle.std.proofs.lemmas.Bool.{and_parts, both_ways, cases_Bool, eq-eqb, eqb-false, leb-true, ltb-true, ne_eqb, or_parts, or_right}
use Rattle.std.proofs.Math.ListN.{length-append}
use Rattle.address_map.specs.Bytes.{with_bytes_at, with_word_at, word_start}
use Rattle.law_machine.specs.sliding_stores.Ground.{anchors_in}
use Rattle.flex_store.proofs.Anchoring.{other_word}
use Rattle.flex_store.proofs.Filled.{AreFilled, holding_filled, whole_filled}
use Rattle.flex_store.proofs.Following.{following_used}
use Rattle.flex_store.proofs.Holding.{bytes_beside, word_beside}
use Rattle.flex_store.proofs.LawLemmas.{Answers, contents_size, same_answer}
use Rattle.flex_store.proofs.Lists.{anchor-append, split, used-append, whole_right}
use Rattle.flex_store.proofs.Splicing.{spliced_length}
use Rattle.flex_store.proofs.Standing.{standing_has}
use Rattle.flex_store.specs.Blocks.{Block, FlexStore, before, behind_of, contents, find_block, has_anchor, block_holding, bytes_after_splice, bytes_taken_by, bytes_taken_by_all}
use Rattle.flex_store.specs.Calls.{FlexState, end_in, flex_if_room, header_place_in, with_blocks, state_without_anchor}
use Rattle.flex_store.specs.Memory.{laid_out, blocks_text_of, with_anchors}
use Rattle.flex_store.specs.Places.{Split}
use Rattle.flex_store.specs.Shifts.{Shifts, following, gone_to, removal_shifts, splice_shifts}
use Rattle.flex_store.specs.State.{AreWhole}
use Rattle.law_machine.proofs.FlexLemmas.OneBlock.{found_has, same_block}

-- what goes to its place stays in a range
AreWithin : ℕ → ℕ → Shifts → Type 0
AreWithin start end [] = Unit {0}
AreWithin start end (s ∷ ss) = ((start ≤ s.to) × (s.to + (s.end - s.from) ≤ end)) × AreWithin start end ss

gone_within : (start end : ℕ) (ss : Shifts) (p : ℕ) → AreWithin start end ss → (gone_to ss p ≡ p) ⊎ ((start ≤ gone_to ss p) × (gone_to ss p < end))
unfolding AreWithin
gone_within start end [] p within = inl refl
gone_within start end (s ∷ ss) p within = elim (cases_Bool (nat_le s.from p && nat_lt p s.end)) [
  | inr out ↦ rw out (gone_within start end ss p within.1)
  | inl inside ↦
      let parts = and_parts (nat_le s.from p) (nat_lt p s.end) inside in
      let low : s.from ≤ p = leb-true s.from p parts.0 in
      let high : p < s.end = ltb-true p s.end parts.1 in
      rw inside (inr (omega (arith, within.0.0), omega (arith, low, high, within.0.1)))
]

-- so no anchor comes to a word outside it
following_none : (start end w : ℕ) (ss : Shifts) (bs : List Block) → AreWithin start end ss → (w < start) ⊎ (end ≤ w) → has_anchor bs w ≡ false
    → has_anchor (following ss bs) w ≡ false
following_none start end w ss [] within out none = refl
following_none start end w ss (b ∷ bs) within out none =
    let parts = or_parts (nat_eq w b.anchor) (has_anchor bs w) none in
    let other : w ≡ gone_to ss b.anchor → ⊥ = λ e. elim (gone_within start end ss b.anchor within) [
      | inl same ↦ eqb-false w b.anchor parts.0 (e ∙ same)
      | inr inside ↦ elim out [ inl low ↦ omega (arith, low, e, inside.0) | inr high ↦ omega (arith, high, e, inside.1) ]
    ] in
    rw (ne_eqb w (gone_to ss b.anchor) other) (following_none start end w ss bs within out parts.1)

-- anchors at whole words
AreAligned : List Block → Type 0
AreAligned [] = Unit {0}
AreAligned (b ∷ bs) = (b.anchor % 4 ≡ 0) × AreAligned bs

aligned_by : (bs : List Block) → ((p : ℕ) → has_anchor bs p ≡ true → p % 4 ≡ 0) → AreAligned bs
unfolding AreAligned
aligned_by [] each = tt
aligned_by (b ∷ bs) each = (
  each b.anchor (rw (eq-eqb b.anchor b.anchor refl) refl),
  aligned_by bs (λ p has. each p (or_right (nat_eq p b.anchor) (has_anchor bs p) has)),
)

-- the bytes beside blocks that were laid out
words_beside : (at : ℕ) (bs : List Block) (f : ℕ → ℕ) (a : ℕ) → AreAligned bs → has_anchor bs (word_start a) ≡ false → with_anchors at bs f a ≡ f a
unfolding AreAligned
words_beside at [] f a aligned none = refl
words_beside at (b ∷ bs) f a aligned none =
    let parts = or_parts (nat_eq (word_start a) b.anchor) (has_anchor bs (word_start a)) none in
    words_beside (at + bytes_taken_by b.size) bs (with_word_at f b.anchor (at + 8)) a aligned.1 parts.1
    ∙ word_beside f b.anchor (at + 8) a (other_word b.anchor a aligned.0 (eqb-false (word_start a) b.anchor parts.0))

filled_length : (bs : List Block) → AreFilled bs → length (blocks_text_of bs) ≡ bytes_taken_by_all bs
filled_length [] filled = refl
filled_length (b ∷ bs) filled = omega (arith, length-append b.bytes (blocks_text_of bs), filled_length bs filled.1, filled.0)

laid_beside : (at : ℕ) (bs : List Block) (f : ℕ → ℕ) (a : ℕ) → AreFilled bs → AreAligned bs → (a < at) ⊎ (at + bytes_taken_by_all bs ≤ a)
    → has_anchor bs (word_start a) ≡ false
    → laid_out at bs f a ≡ f a
unfolding laid_out
laid_beside at bs f a filled aligned out none =
    let size : length (blocks_text_of bs) ≡ bytes_taken_by_all bs = filled_length bs filled in
    words_beside at bs (with_bytes_at f at (blocks_text_of bs)) a aligned none
    ∙ bytes_beside f at (blocks_text_of bs) a (elim out [ inl low ↦ inl low | inr high ↦ inr (omega (arith, size, high)) ])

following_filled : (ss : Shifts) (bs : List Block) → AreFilled bs → AreFilled (following ss bs)
following_filled ss [] filled = tt
following_filled ss (b ∷ bs) filled = (filled.0, following_filled ss bs filled.1)

-- the anchors of a store, if there is one, are at whole words
abbrev pub HasAligned : Option FlexStore → Type 0
HasAligned None = Unit {0}
HasAligned (Some s) = (p : ℕ) → has_anchor s.blocks p ≡ true → p % 4 ≡ 0

-- a byte outside a store's range, and of none of its anchors
pub record IsBesideStore (s : FlexStore) (a : ℕ) : Type 0 where
  pub whole : AreWhole s.blocks
  pub aligned : (p : ℕ) → has_anchor s.blocks p ≡ true → p % 4 ≡ 0
  pub fits : s.start + bytes_taken_by_all s.blocks ≤ s.end
  pub even : s.end % 4 ≡ 0
  pub out : (a < s.start) ⊎ (s.end ≤ a)
  pub none : has_anchor s.blocks (word_start a) ≡ false

abbrev pub IsBeside : Option FlexStore → ℕ → Type 0
IsBeside None a = Unit {0}
IsBeside (Some s) a = IsBesideStore s a

abbrev pub answered : FlexState → Bool → FlexState × Bool
answered v answer = (v, answer)

-- a splice that was done, and found room or not
pub record IsSpliced (t v : FlexState) (s : FlexStore) (answer : Bool) (place cut more : ℕ) : Type 0 where
  pub front : List Block
  pub b : Block
  pub after : List Block
  pub list : s.blocks ≡ front ++ b ∷ after
  pub inside : place ≤ b.size
  pub done : Answers (flex_if_room t s front (block_holding b (bytes_after_splice (contents b) place cut more)
      ∷ following (splice_shifts (s.start + bytes_taken_by_all front) (s.start + bytes_taken_by_all s.blocks) b.size place cut more) after)) (answered v answer)

-- a block that was found, with those before it and after it
pub split_list : (anchor : ℕ) (bs : List Block) (b : Block) → find_block anchor bs ≡ Some b → bs ≡ before anchor bs ++ b ∷ behind_of anchor bs
split_list anchor bs b found =
    let p : Split anchor bs = split anchor bs (found_has anchor bs b found) in
    let same : p.block ≡ b = same_block p.block b (sym p.is.found ∙ found) in
    p.is.list ∙ (λ i. sym p.is.front_is i ++ same i ∷ sym p.is.rest_is i)

module _ (a : ℕ) where
  -- the byte is what it was, and of no anchor
  pub record IsStill (t v : FlexState) : Type 0 where
    pub byte : v.bytes.at a ≡ t.bytes.at a
    pub none : anchors_in v.flex a ≡ false

  pub still_same : (t v : FlexState) → t ≡ v → anchors_in t.flex a ≡ false → IsStill t v
  still_same t v same none = subst (IsStill t) same (record { byte = refl; none = none })

  module _ (s : FlexStore) (beside : IsBesideStore s a) where
    word_out : (word_start a < s.start) ⊎ (s.end ≤ word_start a)
    word_out = elim beside.out [ inl low ↦ inl (omega (arith, low)) | inr high ↦ inr (omega (arith, high, beside.even)) ]

    with_still : (t : FlexState) (front news : List Block) → s.start + bytes_taken_by_all (front ++ news) ≤ s.end → AreFilled news → has_anchor front (word_start a) ≡ false
        → has_anchor news (word_start a) ≡ false → HasAligned (with_blocks t s front news).flex → IsStill t (with_blocks t s front news)
    with_still t front news fits filled none none' aligned =
        let h : ℕ → ℕ = laid_out (s.start + bytes_taken_by_all front) news t.bytes.at in
        record {
          byte = laid_beside (s.start + bytes_taken_by_all front) news t.bytes.at a filled
              (aligned_by news (λ p has. aligned p (standing_has h s.start (front ++ news) p
              ∙ (anchor-append front news p ∙ or_right (has_anchor front p) (has_anchor news p) has))))
              (elim beside.out [ inl low ↦ inl (omega (arith, low)) | inr high ↦ inr (omega (arith, high, fits, used-append front news)) ]) none';
          none = standing_has h s.start (front ++ news) (word_start a)
              ∙ (anchor-append front news (word_start a) ∙ (ap (λ (q : Bool). q || has_anchor news (word_start a)) none ∙ none'));
        }

    pub fit_still : (t : FlexState) (front news : List Block) (fits : Bool) (q : FlexState × Bool) → nat_le (s.start + bytes_taken_by_all (front ++ news)) s.end ≡ fits
        → (if fits then (with_blocks t s front news, true) else (t, false)) ≡ q → anchors_in t.flex a ≡ false → AreFilled news
        → has_anchor front (word_start a) ≡ false
        → (s.start + bytes_taken_by_all (front ++ news) ≤ s.end → with_blocks t s front news ≡ q.0 → has_anchor news (word_start a) ≡ false) → HasAligned q.0.flex
        → IsStill t q.0
    fit_still t front news true q room is own filled none none' aligned =
        let fits : s.start + bytes_taken_by_all (front ++ news) ≤ s.end = leb-true (s.start + bytes_taken_by_all (front ++ news)) s.end room in
        let same : with_blocks t s front news ≡ q.0 = ap (λ (r : FlexState × Bool). r.0) is in
        subst (IsStill t) same
        (with_still t front news fits filled none (none' fits same) (subst (λ (w : FlexState). HasAligned w.flex) (sym same) aligned))
    fit_still t front news false q room is own filled none none' aligned = still_same t q.0 (ap (λ (r : FlexState × Bool). r.0) is) own

    -- what lay in the store before a change of one block, where that one and those after it are
    -- laid out anew
    parts : (front after : List Block) (b : Block) → s.blocks ≡ front ++ b ∷ after
        → (has_anchor front (word_start a) ≡ false) × ((nat_eq (word_start a) b.anchor ≡ false) × (has_anchor after (word_start a) ≡ false))
    parts front after b list =
        let all : has_anchor (front ++ b ∷ after) (word_start a) ≡ false = ap (λ (l : List Block). has_anchor l (word_start a)) (sym list) ∙ beside.none in
        let two = or_parts (has_anchor front (word_start a)) (has_anchor (b ∷ after) (word_start a))
        (sym (anchor-append front (b ∷ after) (word_start a)) ∙ all) in
        (two.0, or_parts (nat_eq (word_start a) b.anchor) (has_anchor after (word_start a)) two.1)

    whole : (front after : List Block) (b : Block) → s.blocks ≡ front ++ b ∷ after → AreWhole (b ∷ after)
    whole front after b list = whole_right front (b ∷ after) (subst AreWhole list beside.whole)

    last_is : (front after : List Block) (b : Block) → s.blocks ≡ front ++ b ∷ after
        → s.start + bytes_taken_by_all s.blocks ≡ s.start + bytes_taken_by_all front + (bytes_taken_by b.size + bytes_taken_by_all after)
    last_is front after b list = ap (λ (l : List Block). s.start + bytes_taken_by_all l) list ∙ (ap (λ (n : ℕ). s.start + n) (used-append front (b ∷ after)) ∙ omega arith)

    pub splice_still : (t v : FlexState) (answer : Bool) (place cut more : ℕ) → anchors_in t.flex a ≡ false → IsSpliced t v s answer place cut more
        → HasAligned v.flex
        → IsStill t v
    unfolding AreWithin
    splice_still t v answer place cut more own p aligned =
        let b : Block = p.b in
        let at : ℕ = s.start + bytes_taken_by_all p.front in
        let shifts : Shifts = splice_shifts (s.start + bytes_taken_by_all p.front) (s.start + bytes_taken_by_all s.blocks) b.size place cut more in
        let new : Block = block_holding b (bytes_after_splice (contents b) place cut more) in
        let news : List Block = new ∷ following shifts p.after in
        let old = parts p.front p.after b p.list in
        let ends = last_is p.front p.after b p.list in
        let all : AreWhole (b ∷ p.after) = whole p.front p.after b p.list in
        let size : length (contents b) ≡ b.size = contents_size b all.0.0 in
        let count : length (bytes_after_splice (contents b) place cut more) ≡ place - cut + more + (b.size - place) =
        spliced_length (contents b) place cut more (omega (arith, size, p.inside)) ∙ ap (λ (n : ℕ). place - cut + more + (n - place)) size in
        fit_still t p.front news (nat_le (s.start + bytes_taken_by_all (p.front ++ news)) s.end) (v, answer) refl
        (same_answer (flex_if_room t s p.front news) (answered v answer) p.done) own
        (holding_filled b (bytes_after_splice (contents b) place cut more), following_filled shifts p.after (whole_filled p.after all.1)) old.0
        (λ fits same. rw old.1.0 (following_none s.start s.end (word_start a) shifts p.after (
          (omega arith, omega (arith, fits, used-append p.front news, count, following_used shifts p.after, p.inside)),
          ((omega arith, omega (arith, fits, used-append p.front news, count, following_used shifts p.after, ends)), tt),
        ) word_out old.1.1))
        aligned

    pub release_still : (t v : FlexState) (anchor : ℕ) (b : Block) → find_block anchor s.blocks ≡ Some b
        → with_blocks (state_without_anchor t anchor) s (before anchor s.blocks)
        (following (removal_shifts (header_place_in s anchor) (end_in s) b.size) (behind_of anchor s.blocks)) ≡ v
        → HasAligned v.flex → IsStill t v
    unfolding AreWithin
    release_still t v anchor b found same aligned =
        let front : List Block = before anchor s.blocks in
        let after : List Block = behind_of anchor s.blocks in
        let shifts : Shifts = removal_shifts (header_place_in s anchor) (end_in s) b.size in
        let list : s.blocks ≡ front ++ b ∷ after = split_list anchor s.blocks b found in
        let old = parts front after b list in
        let all : AreWhole (b ∷ after) = whole front after b list in
        let has : has_anchor s.blocks anchor ≡ true = found_has anchor s.blocks b found in
        let still : IsStill (state_without_anchor t anchor) (with_blocks (state_without_anchor t anchor) s front (following shifts after)) =
        with_still (state_without_anchor t anchor) front (following shifts after)
        (omega (arith, beside.fits, used-append front (following shifts after), following_used shifts after, last_is front after b list))
        (following_filled shifts after (whole_filled after all.1)) old.0
        (following_none s.start s.end (word_start a) shifts after ((omega arith, omega (arith, beside.fits, last_is front after b list)), tt) word_out old.1.1)
        (subst (λ (w : FlexState). HasAligned w.flex) (sym same) aligned) in
        subst (IsStill t) same (record {
          byte = still.byte ∙ word_beside t.bytes.at anchor 0 a (other_word anchor a (beside.aligned anchor has) (λ here.
              both_ways (has_anchor s.blocks anchor) (sym (ap (has_anchor s.blocks) here) ∙ beside.none) has));
          none = still.none;
        })
