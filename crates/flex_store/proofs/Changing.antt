-- The store after the blocks from a place on were laid out anew, as calls show it.
use Rattle.std.proofs.Common.{◌≡◌, ℕ, Bool, ◌+◌, ◌<◌, ◌≤◌, true, false, List, ◌++◌, length, Some, arith, refl, sym, ◌∙◌, ap, inl, inr, ◌⊎◌, subst}
use Rattle.std.proofs.lemmas.Bool.{cases_lt, false_from_ne_true, or_cases, or_right, true≢false, false≢true}
use Rattle.os_heap.specs.Bytes.{with_bytes_at, word_start}
use Rattle.os_heap.specs.Classes.{is_anchor, is_heap_class}
use Rattle.os_heap.specs.Memory.{byte_at, class_of, is_mapped}
use Rattle.os_heap.specs.Class.{Class}
use Rattle.os_heap.specs.Class.TheVariants as class
use Rattle.os_heap.specs.AddressMap.{AddressMap}
use Rattle.flex_store.specs.declared.flex.Extent.{Extent}
use Rattle.flex_store.specs.Blocks.{Block, has_anchor, is_header, bytes_taken_by_all}
use Rattle.flex_store.specs.Changes.{GotBlocks}
use Rattle.flex_store.specs.Memory.{blocks_in, laid_out, standing, blocks_text_of}
use Rattle.flex_store.specs.Relaid.{Relaid}
use Rattle.flex_store.specs.State.{AreAnchorWords, AreWhole, HasNoHead, IsFlexStore, KeepsHeads, blocks_of}
use Rattle.flex_store.proofs.Anchoring.{anchors_beside}
use Rattle.flex_store.proofs.Headers.{heap_by, IsWithin, header_within}
use Rattle.flex_store.proofs.Holding.{bytes_beside}
use Rattle.flex_store.proofs.Lists.{text_used, used-append, whole_right}
use Rattle.flex_store.proofs.Reading.{reads}
use Rattle.flex_store.proofs.Standing.{standing_again, standing_used}
use Rattle.flex_store.proofs.Storing.{IsBefore, relaid_marks, relaid_store}
use Rattle.flex_store.proofs.Words.{words_low, words_right}

-- bytes beside the text and the anchors
laid_beside : (mapped : ℕ → Bool) (start end : ℕ) (bs : List Block) (f : ℕ → ℕ) (a : ℕ) → AreWhole bs → AreAnchorWords mapped start end bs → start + bytes_taken_by_all bs ≤ end
    → (a < start) ⊎ (end ≤ a) → has_anchor bs (word_start a) ≡ false → laid_out start bs f a ≡ f a
unfolding laid_out
laid_beside mapped start end bs f a whole words fits out none =
    let size : length (blocks_text_of bs) ≡ bytes_taken_by_all bs = text_used bs whole in
    anchors_beside mapped start end start bs (with_bytes_at f start (blocks_text_of bs)) a words none
    ∙ bytes_beside f start (blocks_text_of bs) a (elim out [ inl low ↦ inl low | inr high ↦ inr (omega arith) ])

pub no_heap_anchor : (own : Class) → is_anchor own ≡ true → is_heap_class own ≡ false
no_heap_anchor class.Anchor is = refl
no_heap_anchor class.Heap is = absurd (false≢true is)
no_heap_anchor class.FlexHeader is = absurd (false≢true is)
no_heap_anchor class.Plain is = absurd (false≢true is)

-- no anchor of these blocks is a word of a heap, where none lies in the store
abbrev pub AreHeadless : AddressMap → Extent → List Block → Type 0
AreHeadless m e news = HasNoHead m (Some e) → (a : ℕ) → has_anchor news (word_start a) ≡ true → is_heap_class (class_of m a) ≡ false

-- the heads of heaps stay, where none of them is to be an anchor
heads_kept : (m n : AddressMap) (e : Extent) (xs olds news : List Block) → IsBefore m e.start e.end xs olds news
    → Relaid m n (e.start + bytes_taken_by_all xs) olds news → AreHeadless m e news → HasNoHead m (Some e) → KeepsHeads m n
heads_kept m n e xs olds news b r free clear =
    let at : ℕ = e.start + bytes_taken_by_all xs in
    let fits : at + bytes_taken_by_all news ≤ e.end = omega (arith, b.fits, used-append xs news) in
    let fitted : at + bytes_taken_by_all olds ≤ e.end = b.fitted in
    record {
      bytes = λ a is. r.bytes a ∙ laid_beside (is_mapped m) at e.end news (byte_at m) a (whole_right xs news b.whole) (words_right (is_mapped m) e.start e.end xs news b.words) fits
          (elim (cases_lt a at) [
            | inl low ↦ inl low
            | inr up ↦ elim (cases_lt a e.end) [
              | inl inside ↦ absurd (true≢false (sym is ∙ clear a (omega arith) inside))
              | inr high ↦ inr high
            ]
          ])
          (false_from_ne_true (has_anchor news (word_start a)) (λ has. true≢false (sym is ∙ free clear a has)));
      classes = λ a.
          ap is_heap_class (relaid_marks m n e.start e.end xs olds news b r a)
          ∙ heap_by (class_of m a) (is_header at news (word_start a)) (has_anchor news (word_start a)) (is_header at olds (word_start a)) (has_anchor olds (word_start a))
          (λ met. elim (or_cases (is_header at news (word_start a)) _ met) [
            | inl new ↦ let w : IsWithin at (bytes_taken_by_all news) (word_start a) = header_within at news (word_start a) new in
                clear a (omega (arith, w.from)) (omega (arith, w.below))
            | inr rest ↦ elim (or_cases (has_anchor news (word_start a)) _ rest) [
              | inl has ↦ free clear a has
              | inr olds_met ↦ elim (or_cases (is_header at olds (word_start a)) (has_anchor olds (word_start a)) olds_met) [
                | inl old ↦ let w : IsWithin at (bytes_taken_by_all olds) (word_start a) = header_within at olds (word_start a) old in
                    clear a (omega (arith, w.from)) (omega (arith, w.below))
                | inr had ↦ no_heap_anchor (class_of m a) (b.anchors a ∙ or_right (has_anchor xs (word_start a)) (has_anchor olds (word_start a)) had)
              ]
            ]
          ]);
    }

-- The blocks in front have the bytes that stood there before: one of their words may have been
-- written.
pub got : (m n : AddressMap) (e f : Extent) (base : ℕ → ℕ) (front olds news : List Block) → IsBefore m e.start e.end (standing base e.start front) olds news
    → Relaid m n (e.start + bytes_taken_by_all front) olds news → AreHeadless m e news → f.start ≡ e.start → f.end ≡ e.end → f.used ≡ bytes_taken_by_all (front ++ news)
    → GotBlocks m e front news n f
got m n e f base front olds news b r free same_start same_end used_is =
    let now : List Block = standing base e.start front in
    let bs : List Block = standing (byte_at n) e.start (front ++ news) in
    let at_is : e.start + bytes_taken_by_all front ≡ e.start + bytes_taken_by_all now = ap (λ (k : ℕ). e.start + k) (sym (standing_used base e.start front)) in
    let r' : Relaid m n (e.start + bytes_taken_by_all now) olds news = subst (λ (q : ℕ). Relaid m n q olds news) at_is r in
    let store : IsFlexStore n e.start e.end bs =
    subst (λ (l : List Block). IsFlexStore n e.start e.end l) (standing_again base (byte_at n) e.start front news) (relaid_store m n e.start e.end now olds news b r') in
    let total : f.used ≡ bytes_taken_by_all bs = used_is ∙ sym (standing_used (byte_at n) e.start (front ++ news)) in
    let read : blocks_of n f ≡ bs =
    (λ i. blocks_in (byte_at n) (same_start i) (same_start i + total i))
    ∙ reads (byte_at n) e.start bs store.whole (words_low (is_mapped n) e.start e.end bs store.words) store.text in
    record {
      bytes = r.bytes;
      blocks_are = read;
      start = same_start;
      end = same_end;
      store = record {
        store = rw (read, same_start, same_end) store;
        used_is = ap bytes_taken_by_all read ∙ sym total;
      };
      same = r.same;
      heads = heads_kept m n e now olds news b r' free;
    }
