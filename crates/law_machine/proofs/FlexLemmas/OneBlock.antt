-- A store of which one block is looked at: those before it, the block of an anchor, and those after
-- it.
use Rattle.std.proofs.Common.{◌≡◌, ℕ, Bool, ◌+◌, ◌-◌, ◌%◌, ◌^◌, ◌≤◌, true, nat_eq, List, [], ◌∷◌, ◌++◌, length, Option, Some, None, arith, refl, sym, ◌∙◌, ap, inl, inr, subst}
use Rattle.std.proofs.lemmas.Bool.{cases_Bool, eqb-true, eq-eqb, or_left, or_right}
use Rattle.address_map.specs.Bytes.{AreMapped, word_start}
use Rattle.flex_store.specs.Blocks.{Block, contents, find_block, FlexStore, has_anchor, bytes_taken_by, bytes_taken_by_all}
use Rattle.flex_store.specs.Calls.{FlexState}
use Rattle.flex_store.specs.Memory.{AreAnchored, Holds, blocks_text_of}
use Rattle.flex_store.specs.Places.{IsSplit, Split}
use Rattle.flex_store.specs.State.{AreAnchorWords, AreInner, AreWhole}
use Rattle.flex_store.proofs.Holding.{holds_left, holds_right}
use Rattle.flex_store.proofs.Lists.{anchor-append, anchored_left, split, text-append, text_used, used-append, used_aligned, whole_left, whole_right}
use Rattle.flex_store.proofs.Reading.{spelled}
use Rattle.flex_store.proofs.Words.{word_of}
use Rattle.law_machine.specs.flex.Laws.{AreBytes, IsSpelledState}
use Rattle.law_machine.specs.flex.Numbered.{Anchor, anchor_from, blocks_seen, list_seen, anchor_place_of}
use Rattle.law_machine.specs.flex.Seen.{seen_bytes}
use Rattle.law_machine.proofs.FlexLemmas.Lists.{list_append}
use Rattle.law_machine.proofs.FlexLemmas.Small.{AreSmallBlocks, blocks_small, small_held, small_right}

pub found_has : (anchor : ℕ) (bs : List Block) (b : Block) → find_block anchor bs ≡ Some b → has_anchor bs anchor ≡ true
found_has anchor [] b is = absurd (let none : None ≡ Some b = is in cc)
found_has anchor (x ∷ bs) b is = elim (cases_Bool (nat_eq x.anchor anchor)) [
  | inl here ↦ or_left (nat_eq anchor x.anchor) (has_anchor bs anchor) (eq-eqb anchor x.anchor (sym (eqb-true x.anchor anchor here)))
  | inr other ↦ or_right (nat_eq anchor x.anchor) (has_anchor bs anchor) (found_has anchor bs b (rw other at is))
]

pub same_block : (x y : Block) → (let o : Option Block = Some x in o ≡ Some y) → x ≡ y
same_block x y is = cc

-- the store is split at a block that is found
pub split_found : (anchor : ℕ) (bs : List Block) (b : Block) → find_block anchor bs ≡ Some b
    → (p : Split anchor bs) × IsSplit anchor bs p.before b p.after
split_found anchor bs b found =
    let p : Split anchor bs = split anchor bs (found_has anchor bs b found) in
    (p, subst (λ (x : Block). IsSplit anchor bs p.before x p.after) (same_block p.block b (sym p.is.found ∙ found)) p.is)

-- a store in which the block of an anchor stands after those before it, and before those after it
pub record IsOneBlock (t : FlexState) (s : FlexStore) (anchor : ℕ) (front after : List Block) (b : Block) : Type 0 where
  pub words : AreAnchorWords t.bytes.mapped s.start s.end (front ++ b ∷ after)
  pub inner : AreInner s.start s.end (front ++ b ∷ after)
  pub whole : AreWhole (front ++ b ∷ after)
  pub front_whole : AreWhole front
  pub own_whole : AreWhole (b ∷ after)
  pub fits : s.start + bytes_taken_by_all (front ++ b ∷ after) ≤ s.end
  pub last_is : s.start + bytes_taken_by_all s.blocks ≡ s.start + bytes_taken_by_all front + (bytes_taken_by b.size + bytes_taken_by_all after)
  pub low_end : s.end ≤ 2 ^ 26
  pub at_aligned : (s.start + bytes_taken_by_all front) % 4 ≡ 0
  pub has_all : (x : ℕ) → has_anchor after x ≡ true → has_anchor (front ++ b ∷ after) x ≡ true
  pub has_own : has_anchor (front ++ b ∷ after) b.anchor ≡ true
  pub own_word : b.anchor % 4 ≡ 0
  pub front_text : Holds t.bytes.at s.start (blocks_text_of front)
  pub after_text : Holds t.bytes.at (s.start + bytes_taken_by_all front + bytes_taken_by b.size) (blocks_text_of after)
  pub front_anchored : AreAnchored t.bytes.at s.start front
  pub there : AreMapped t.bytes.mapped (s.start + bytes_taken_by_all front) (s.end - (s.start + bytes_taken_by_all front))
  pub small : AreBytes t.bytes.at → AreSmallBlocks (b ∷ after)
  pub place_is : anchor_from 0 s.start (front ++ b ∷ after) b.anchor ≡ anchor_place_of s anchor
  pub list_is : (let o : Option FlexStore = Some s in blocks_seen o)
      ≡ list_seen (λ q. has_anchor (front ++ b ∷ after) (word_start q)) (λ a. anchor_from 0 s.start (front ++ b ∷ after) a) s.start front
      ++ record {
        anchor = anchor_place_of s anchor;
        bytes = seen_bytes (λ q. has_anchor (front ++ b ∷ after) (word_start q)) (s.start + bytes_taken_by_all front + 8) (contents b);
      } ∷ list_seen (λ q. has_anchor (front ++ b ∷ after) (word_start q)) (λ a. anchor_from 0 s.start (front ++ b ∷ after) a)
      (s.start + bytes_taken_by_all front + bytes_taken_by b.size) after

module _ (t : FlexState) (s : FlexStore) (anchor : ℕ) (front after : List Block) (b : Block) (sp : IsSpelledState t s)
    (p : IsSplit anchor s.blocks front b after) where
  abbrev mark : ℕ → Bool
  mark = λ q. has_anchor (front ++ b ∷ after) (word_start q)

  abbrev place : ℕ → Anchor
  place = λ a. anchor_from 0 s.start (front ++ b ∷ after) a

  words : AreAnchorWords t.bytes.mapped s.start s.end (front ++ b ∷ after)
  words = subst (λ (l : List Block). AreAnchorWords t.bytes.mapped s.start s.end l) p.list sp.words

  whole : AreWhole (front ++ b ∷ after)
  whole = subst AreWhole p.list sp.whole

  front_whole : AreWhole front
  front_whole = whole_left front (b ∷ after) whole

  own_whole : AreWhole (b ∷ after)
  own_whole = whole_right front (b ∷ after) whole

  last_is : s.start + bytes_taken_by_all s.blocks ≡ s.start + bytes_taken_by_all front + (bytes_taken_by b.size + bytes_taken_by_all after)
  last_is = ap (λ (l : List Block). s.start + bytes_taken_by_all l) p.list ∙ (ap (λ (n : ℕ). s.start + n) (used-append front (b ∷ after)) ∙ omega arith)

  has_own : has_anchor (front ++ b ∷ after) b.anchor ≡ true
  has_own = anchor-append front (b ∷ after) b.anchor
      ∙ or_right (has_anchor front b.anchor) (has_anchor (b ∷ after) b.anchor)
      (or_left (nat_eq b.anchor b.anchor) (has_anchor after b.anchor) (eq-eqb b.anchor b.anchor refl))

  text : Holds t.bytes.at s.start (blocks_text_of front ++ blocks_text_of (b ∷ after))
  text = subst (λ (l : List ℕ). Holds t.bytes.at s.start l) (ap blocks_text_of p.list ∙ text-append front (b ∷ after)) sp.text

  after_text : Holds t.bytes.at (s.start + bytes_taken_by_all front + bytes_taken_by b.size) (blocks_text_of after)
  after_text =
      let size : length (blocks_text_of front) ≡ bytes_taken_by_all front = text_used front front_whole in
      let rest : Holds t.bytes.at (s.start + length (blocks_text_of front)) (blocks_text_of (b ∷ after)) =
      holds_right t.bytes.at s.start (blocks_text_of front) (blocks_text_of (b ∷ after)) text in
      (spelled t.bytes.at (s.start + bytes_taken_by_all front) b after own_whole.0.0 (rw size at rest)).rest

  place_is : anchor_from 0 s.start (front ++ b ∷ after) b.anchor ≡ anchor_place_of s anchor
  place_is = λ i. anchor_from 0 s.start (sym p.list i) (p.anchor i)

  list_is : (let o : Option FlexStore = Some s in blocks_seen o) ≡ list_seen mark place s.start front
      ++ record { anchor = anchor_place_of s anchor; bytes = seen_bytes mark (s.start + bytes_taken_by_all front + 8) (contents b) }
      ∷ list_seen mark place (s.start + bytes_taken_by_all front + bytes_taken_by b.size) after
  list_is =
      (λ i. list_seen (λ q. has_anchor (p.list i) (word_start q)) (λ a. anchor_from 0 s.start (p.list i) a) s.start (p.list i))
      ∙ (list_append mark place s.start front (b ∷ after)
      ∙ (λ i. list_seen mark place s.start front
      ++ record { anchor = place_is i; bytes = seen_bytes mark (s.start + bytes_taken_by_all front + 8) (contents b) }
      ∷ list_seen mark place (s.start + bytes_taken_by_all front + bytes_taken_by b.size) after))

  pub one_block : IsOneBlock t s anchor front after b
  one_block = record {
    words = words;
    inner = subst (λ (l : List Block). AreInner s.start s.end l) p.list sp.inner;
    whole = whole;
    front_whole = front_whole;
    own_whole = own_whole;
    fits = subst (λ (l : List Block). s.start + bytes_taken_by_all l ≤ s.end) p.list sp.fits;
    last_is = last_is;
    low_end = sp.low (omega (arith, sp.fits, last_is));
    at_aligned = omega (arith, sp.range.start_aligned, used_aligned front);
    has_all = λ x has. anchor-append front (b ∷ after) x
        ∙ or_right (has_anchor front x) (has_anchor (b ∷ after) x) (or_right (nat_eq x b.anchor) (has_anchor after x) has);
    has_own = has_own;
    own_word = (word_of t.bytes.mapped s.start s.end (front ++ b ∷ after) b.anchor words has_own).aligned;
    front_text = holds_left t.bytes.at s.start (blocks_text_of front) (blocks_text_of (b ∷ after)) text;
    after_text = after_text;
    front_anchored = anchored_left t.bytes.at s.start front (b ∷ after) (subst (AreAnchored t.bytes.at s.start) p.list sp.anchored);
    there = λ x low high. sp.range.there x (omega (arith, low)) (omega (arith, low, high));
    small = λ bytes. small_right front (b ∷ after) (blocks_small (front ++ b ∷ after)
        (small_held t.bytes.at s.start (blocks_text_of (front ++ b ∷ after)) bytes
        (subst (λ (l : List Block). Holds t.bytes.at s.start (blocks_text_of l)) p.list sp.text)));
    place_is = place_is;
    list_is = list_is;
  }
