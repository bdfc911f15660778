-- The block of an anchor: by its mark, and by the address that it holds.
use Rattle.std.proofs.Common.{◌≡◌, ℕ, Bool, ◌+◌, ◌-◌, ◌%◌, ◌^◌, ◌<◌, ◌≤◌, ◌&&◌, true, false, nat_eq, List, ◌∷◌, ◌++◌, Some, None, arith, sym, ◌∙◌, ap, inl, inr, subst}
use Rattle.std.proofs.lemmas.Bool.{and_parts, and_from, cases_Bool, eq-eqb, eqb-true, true≢false}
use Rattle.os_heap_words.proofs.Spans.{mapped_below}
use Rattle.os_heap.specs.Bytes.{word_at, word_start}
use Rattle.os_heap.specs.Classes.{is_anchor}
use Rattle.os_heap.specs.Memory.{byte_at, bytes_of, class_of, is_mapped}
use Rattle.os_heap.specs.AddressMap.{AddressMap}
use Rattle.flex_store.specs.declared.flex.Extent.{Extent}
use Rattle.flex_store.specs.Blocks.{Block, find_block, has_anchor, bytes_taken_by, bytes_taken_by_all}
use Rattle.flex_store.specs.Memory.{AreAnchored, blocks_in}
use Rattle.flex_store.specs.Places.{IsHeaderOf, IsSplit, Split}
use Rattle.flex_store.specs.Relaid.{blocks_behind_first, first_at}
use Rattle.flex_store.specs.State.{AreAnchorWords, IsFlexStore, IsMappedWord, IsStoreAt, IsText, blocks_of}
use Rattle.flex_store.proofs.Holding.{word_read}
use Rattle.flex_store.proofs.Lists.{anchored_right, none_found, split, used-append}
use Rattle.flex_store.proofs.Reading.{block_read}
use Rattle.flex_store.proofs.Storing.{tail_text}
use Rattle.flex_store.proofs.Texts.{IsFirst, text_first, text_next, text_read}
use Rattle.flex_store.proofs.Words.{word_of, words_right, words_within}

abbrev pub is_live : AddressMap → ℕ → Bool
is_live m anchor = nat_eq (anchor % 4) 0 && is_anchor (class_of m anchor)

pub has_by : (m : AddressMap) (e : Extent) (anchor : ℕ) → IsStoreAt m e → anchor % 4 ≡ 0 → is_anchor (class_of m anchor) ≡ has_anchor (blocks_of m e) anchor
has_by m e anchor s aligned =
    let start : word_start anchor ≡ anchor = omega arith in
    s.store.anchors anchor ∙ ap (has_anchor (blocks_of m e)) start

pub not_live : (m : AddressMap) (e : Extent) (anchor : ℕ) → IsStoreAt m e → is_live m anchor ≡ false → find_block anchor (blocks_of m e) ≡ None
not_live m e anchor s dead = none_found anchor (blocks_of m e) (elim (cases_Bool (has_anchor (blocks_of m e) anchor)) [
  | inr none ↦ none
  | inl has ↦
      let w : IsMappedWord (is_mapped m) anchor = word_of (is_mapped m) e.start e.end (blocks_of m e) anchor s.store.words has in
      let both : is_live m anchor ≡ true = and_from (nat_eq (anchor % 4) 0) (is_anchor (class_of m anchor)) (eq-eqb (anchor % 4) 0 w.aligned) (has_by m e anchor s w.aligned ∙ has) in
      absurd (true≢false (sym both ∙ dead))
])

-- the store lies below 2^26
pub store_low : (m : AddressMap) (start end : ℕ) (bs : List Block) → IsFlexStore m start end bs → start < end → end ≤ 2 ^ 26
store_low m start end bs s some =
    omega (arith, mapped_below m (end - 1) (s.range.there (end - 1) (omega arith) (omega arith)))

pub record IsFound (m : AddressMap) (e : Extent) (anchor : ℕ) : Type 0 where
  pub aligned : anchor % 4 ≡ 0
  pub there : is_mapped m anchor ≡ true
  pub above : 8 ≤ word_at (byte_at m) anchor
  pub header : IsHeaderOf e.start anchor (blocks_of m e) (word_at (byte_at m) anchor - 8)

found_by : (m : AddressMap) (e : Extent) (anchor : ℕ) → IsStoreAt m e → IsMappedWord (is_mapped m) anchor → Split anchor (blocks_of m e) → IsFound m e anchor
found_by m e anchor s w p =
    let list : blocks_of m e ≡ p.before ++ p.block ∷ p.after = p.is.list in
    let store : IsFlexStore m e.start e.end (p.before ++ p.block ∷ p.after) = subst (λ (l : List Block). IsFlexStore m e.start e.end l) list s.store in
    let tail : AreAnchored (byte_at m) (e.start + bytes_taken_by_all p.before) (p.block ∷ p.after) = anchored_right (byte_at m) e.start p.before (p.block ∷ p.after) store.anchored in
    let total : bytes_taken_by_all (p.before ++ p.block ∷ p.after) ≡ bytes_taken_by_all p.before + (bytes_taken_by p.block.size + bytes_taken_by_all p.after) = used-append p.before (p.block ∷ p.after) in
    let fits : e.start + bytes_taken_by_all (p.before ++ p.block ∷ p.after) ≤ e.end = store.fits in
    let low : e.end ≤ 2 ^ 26 = store_low m e.start e.end (p.before ++ p.block ∷ p.after) store (omega arith) in
    let value : word_at (byte_at m) p.block.anchor ≡ e.start + bytes_taken_by_all p.before + 8 =
    word_read (byte_at m) p.block.anchor (e.start + bytes_taken_by_all p.before + 8) (omega arith) tail.0 in
    let value' : word_at (byte_at m) anchor ≡ e.start + bytes_taken_by_all p.before + 8 = rw p.is.anchor at value in
    record {
      aligned = w.aligned;
      there = w.there;
      above = omega arith;
      header = record { split = p; place = omega arith };
    }

pub found : (m : AddressMap) (e : Extent) (anchor : ℕ) → IsStoreAt m e → is_live m anchor ≡ true → IsFound m e anchor
found m e anchor s live =
    let parts = and_parts (nat_eq (anchor % 4) 0) (is_anchor (class_of m anchor)) live in
    let aligned : anchor % 4 ≡ 0 = eqb-true (anchor % 4) 0 parts.0 in
    let has : has_anchor (blocks_of m e) anchor ≡ true = sym (has_by m e anchor s aligned) ∙ parts.1 in
    found_by m e anchor s (word_of (is_mapped m) e.start e.end (blocks_of m e) anchor s.store.words has) (split anchor (blocks_of m e) has)

-- the block at its place, and those after it, as memory spells them
pub record IsPlaced (m : AddressMap) (e : Extent) (anchor header : ℕ) (before : List Block) : Type 0 where
  pub split : IsSplit anchor (blocks_of m e) before (first_at m header) (blocks_behind_first m header (e.start + e.used))
  pub store : IsFlexStore m e.start e.end (before ++ first_at m header ∷ blocks_behind_first m header (e.start + e.used))
  pub text : IsText (bytes_of m) header (e.start + e.used) (first_at m header ∷ blocks_behind_first m header (e.start + e.used))
  pub words : AreAnchorWords (is_mapped m) header (e.start + e.used) (first_at m header ∷ blocks_behind_first m header (e.start + e.used))
  pub place : header ≡ e.start + bytes_taken_by_all before
  pub total : e.used ≡ bytes_taken_by_all before + (bytes_taken_by (first_at m header).size + bytes_taken_by_all (blocks_behind_first m header (e.start + e.used)))
  pub low : e.end ≤ 2 ^ 26

placed_by : (m : AddressMap) (e : Extent) (anchor header : ℕ) (before : List Block) (b : Block) (after : List Block)
    → IsStoreAt m e → header ≡ e.start + bytes_taken_by_all before → IsSplit anchor (blocks_of m e) before b after
    → IsText (bytes_of m) header (e.start + e.used) (b ∷ after) → b ≡ first_at m header → after ≡ blocks_behind_first m header (e.start + e.used)
    → IsPlaced m e anchor header before
placed_by m e anchor header before b after s place p text is_first is_behind =
    let p' : IsSplit anchor (blocks_of m e) before (first_at m header) (blocks_behind_first m header (e.start + e.used)) =
    subst (λ (x : Block). IsSplit anchor (blocks_of m e) before x (blocks_behind_first m header (e.start + e.used))) is_first
    (subst (λ (l : List Block). IsSplit anchor (blocks_of m e) before b l) is_behind p) in
    let store : IsFlexStore m e.start e.end (before ++ first_at m header ∷ blocks_behind_first m header (e.start + e.used)) =
    subst (λ (l : List Block). IsFlexStore m e.start e.end l) p'.list s.store in
    let all : bytes_taken_by_all (blocks_of m e) ≡ bytes_taken_by_all (before ++ first_at m header ∷ blocks_behind_first m header (e.start + e.used)) = ap bytes_taken_by_all p'.list in
    let fits : e.start + bytes_taken_by_all (before ++ first_at m header ∷ blocks_behind_first m header (e.start + e.used)) ≤ e.end = store.fits in
    let sum : bytes_taken_by_all (before ++ first_at m header ∷ blocks_behind_first m header (e.start + e.used)) ≡ bytes_taken_by_all before + (bytes_taken_by (first_at m header).size + bytes_taken_by_all (blocks_behind_first m header (e.start + e.used))) =
    used-append before (first_at m header ∷ blocks_behind_first m header (e.start + e.used)) in
    record {
      split = p';
      store = store;
      text = subst (λ (x : Block). IsText (bytes_of m) header (e.start + e.used) (x ∷ blocks_behind_first m header (e.start + e.used))) is_first
          (subst (λ (l : List Block). IsText (bytes_of m) header (e.start + e.used) (b ∷ l)) is_behind text);
      words = words_within (is_mapped m) (e.start + bytes_taken_by_all before) e.end header (e.start + e.used) (first_at m header ∷ blocks_behind_first m header (e.start + e.used))
          (omega arith) (omega (arith, s.used_is))
          (words_right (is_mapped m) e.start e.end before (first_at m header ∷ blocks_behind_first m header (e.start + e.used)) store.words);
      place = place;
      total = sym s.used_is ∙ all ∙ sum;
      low = store_low m e.start e.end (before ++ first_at m header ∷ blocks_behind_first m header (e.start + e.used)) store (omega arith);
    }

pub placed : (m : AddressMap) (e : Extent) (anchor header : ℕ) → IsStoreAt m e → (h : IsHeaderOf e.start anchor (blocks_of m e) header)
    → IsPlaced m e anchor header h.split.before
placed m e anchor header s h =
    let p = h.split in
    let list : blocks_of m e ≡ p.before ++ p.block ∷ p.after = p.is.list in
    let store : IsFlexStore m e.start e.end (p.before ++ p.block ∷ p.after) = subst (λ (l : List Block). IsFlexStore m e.start e.end l) list s.store in
    let all : bytes_taken_by_all (p.before ++ p.block ∷ p.after) ≡ e.used = ap bytes_taken_by_all (sym list) ∙ s.used_is in
    let end_is : e.start + bytes_taken_by_all (p.before ++ p.block ∷ p.after) ≡ e.start + e.used = ap (λ (n : ℕ). e.start + n) all in
    let text' : IsText (bytes_of m) (e.start + bytes_taken_by_all p.before) (e.start + bytes_taken_by_all (p.before ++ p.block ∷ p.after)) (p.block ∷ p.after) = tail_text m e.start e.end p.before (p.block ∷ p.after) store in
    let text : IsText (bytes_of m) header (e.start + e.used) (p.block ∷ p.after) =
    subst (λ (n : ℕ). IsText (bytes_of m) n (e.start + e.used) (p.block ∷ p.after)) (sym h.place)
    (subst (λ (n : ℕ). IsText (bytes_of m) (e.start + bytes_taken_by_all p.before) n (p.block ∷ p.after)) end_is text') in
    let first : IsFirst (bytes_of m) header (e.start + e.used) p.block p.after = text_first (bytes_of m) header (e.start + e.used) p.block p.after text in
    let low : p.block.anchor < 2 ^ 26 = first.low in
    let is_first : first_at m header ≡ p.block = block_read (byte_at m) header p.block p.after first.whole (omega arith) text.whole.0.1 first.spelled in
    let rest : blocks_behind_first m header (e.start + e.used) ≡ p.after =
    ap (λ (x : Block). blocks_in (byte_at m) (header + bytes_taken_by x.size) (e.start + e.used)) is_first
    ∙ text_read (bytes_of m) (header + bytes_taken_by p.block.size) (e.start + e.used) p.after (text_next (bytes_of m) header (e.start + e.used) p.block p.after text) in
    placed_by m e anchor header p.before p.block p.after s h.place p.is text (sym is_first) (sym rest)

-- the words of the header of an anchor's block
pub record IsHeaderWord (m : AddressMap) (e : Extent) (anchor header : ℕ) : Type 0 where
  pub low : header + 8 ≤ 2 ^ 26
  pub aligned : (header + 4) % 4 ≡ 0
  pub there : is_mapped m (header + 4) ≡ true
  pub fits : bytes_taken_by (first_at m header).size ≤ e.used
  pub found : find_block anchor (blocks_of m e) ≡ Some (first_at m header)

pub header_word : (m : AddressMap) (e : Extent) (anchor header : ℕ) → IsStoreAt m e → IsHeaderOf e.start anchor (blocks_of m e) header → IsHeaderWord m e anchor header
header_word m e anchor header s h =
    let p : IsPlaced m e anchor header h.split.before = placed m e anchor header s h in
    let first : IsFirst (bytes_of m) header (e.start + e.used) (first_at m header) (blocks_behind_first m header (e.start + e.used)) =
    text_first (bytes_of m) header (e.start + e.used) (first_at m header) (blocks_behind_first m header (e.start + e.used)) p.text in
    let fits : header + bytes_taken_by (first_at m header).size ≤ e.start + e.used = first.fits in
    let all : e.start + bytes_taken_by_all (blocks_of m e) ≤ e.end = s.store.fits in
    let used_is : bytes_taken_by_all (blocks_of m e) ≡ e.used = s.used_is in
    let aligned : header % 4 ≡ 0 = first.aligned in
    record {
      low = omega (arith, p.low);
      aligned = omega arith;
      there = first.second;
      fits = omega (arith, p.total);
      found = p.split.found;
    }
