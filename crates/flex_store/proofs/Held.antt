-- A flex store stays one where the words of its headers and its anchors keep their bytes and their
-- marks, and all of it stays mapped and recorded. The bytes of its blocks are then those that stand
-- there: a guest may have written them.
use Rattle.std.proofs.Common.{◌≡◌, ℕ, Bool, ◌+◌, ◌-◌, true, List, sym, ap, subst, ◌∙◌, arith}
use Rattle.os_heap.specs.Bytes.{AreMapped, word_start}
use Rattle.os_heap.specs.Classes.{is_anchor, is_flex_header}
use Rattle.os_heap.specs.Memory.{byte_at, class_of, is_mapped}
use Rattle.os_heap.specs.Store.{store_of}
use Rattle.os_heap.specs.AddressMap.{AddressMap}
use Rattle.flex_store.specs.declared.flex.Extent.{Extent}
use Rattle.flex_store.specs.Blocks.{Block, has_anchor, bytes_taken_by_all}
use Rattle.flex_store.specs.Memory.{Holds, blocks_in, standing, blocks_text_of}
use Rattle.flex_store.specs.State.{AreAnchorWords, AreWhole, blocks_of, IsFlexStore, IsMappedWord, IsRecordedStore, is_recorded}
use Rattle.flex_store.proofs.Reading.{reads}
use Rattle.flex_store.proofs.Standing.{all_there, AreThere, standing_anchored, standing_contents, standing_has, standing_header, standing_text, standing_used, standing_whole, standing_words}
use Rattle.flex_store.proofs.Words.{word_of, words_low}

-- what a call or a store to memory leaves of the flex store
pub record LeavesFlex (m n : AddressMap) (e : Extent) : Type 0 where
  pub anchors : (a : ℕ) → is_anchor (class_of n a) ≡ is_anchor (class_of m a)
  pub headers : (a : ℕ) → is_flex_header (class_of n a) ≡ is_flex_header (class_of m a)
  pub anchor_bytes : (a : ℕ) → is_anchor (class_of m a) ≡ true → byte_at n a ≡ byte_at m a
  pub header_bytes : (a : ℕ) → is_flex_header (class_of m a) ≡ true → byte_at n a ≡ byte_at m a
  pub there : (a : ℕ) → is_anchor (class_of m a) ≡ true → is_mapped n a ≡ true
  pub range : AreMapped (is_mapped n) e.start (e.end - e.start)
  pub recorded : is_recorded (store_of n).others e.start e.end ≡ true

aligned_has : (mapped : ℕ → Bool) (start end : ℕ) (bs : List Block) (a : ℕ) → AreAnchorWords mapped start end bs → has_anchor bs a ≡ true → word_start a ≡ a
aligned_has mapped start end bs a words has =
    let w : IsMappedWord mapped a = word_of mapped start end bs a words has in
    omega (arith, w.aligned)

pub flex_left : (m n : AddressMap) (e : Extent) → IsRecordedStore m e → LeavesFlex m n e → IsRecordedStore n e
flex_left m n e is k =
    let bs : List Block = blocks_of m e in
    let s : IsFlexStore m e.start e.end bs = is.held.store in
    let news : List Block = standing (byte_at n) e.start bs in
    let whole : AreWhole news = standing_whole (byte_at n) e.start bs s.whole in
    let there : AreThere (is_mapped n) bs = all_there (is_mapped n) bs (λ a has.
    let here : word_start a ≡ a = aligned_has (is_mapped m) e.start e.end bs a s.words has in
    k.there a (s.anchors a ∙ ap (has_anchor bs) here ∙ has)) in
    let words : AreAnchorWords (is_mapped n) e.start e.end news = standing_words (is_mapped m) (is_mapped n) e.start e.end (byte_at n) e.start bs there s.words in
    let text : Holds (byte_at n) e.start (blocks_text_of news) =
    standing_text (byte_at m) (byte_at n) e.start bs s.range.start_aligned s.whole (λ a header. k.header_bytes a (s.headers a ∙ header)) s.text in
    let size : bytes_taken_by_all news ≡ bytes_taken_by_all bs = standing_used (byte_at n) e.start bs in
    let total : bytes_taken_by_all news ≡ e.used = size ∙ is.held.used_is in
    let read : blocks_of n e ≡ news =
    ap (λ (u : ℕ). blocks_in (byte_at n) e.start (e.start + u)) (sym total) ∙
    reads (byte_at n) e.start news whole (words_low (is_mapped n) e.start e.end news words) text in
    record {
      held = record {
        store = subst (λ (l : List Block). IsFlexStore n e.start e.end l) (sym read) (record {
          range = record { start_aligned = s.range.start_aligned; end_aligned = s.range.end_aligned; there = k.range };
          fits = omega (arith, size, s.fits);
          whole = whole;
          words = words;
          inner = λ a has low high. standing_contents (byte_at n) e.start e.start bs a ∙ s.inner a (sym (standing_has (byte_at n) e.start bs a) ∙ has) low high;
          text = text;
          anchored = standing_anchored (is_mapped m) e.start e.end (byte_at m) (byte_at n) (byte_at n) e.start bs s.words
              (λ a has. k.anchor_bytes a (s.anchors a ∙ has)) s.anchored;
          headers = λ a. k.headers a ∙ (s.headers a ∙ sym (standing_header (byte_at n) e.start bs (word_start a)));
          anchors = λ a. k.anchors a ∙ (s.anchors a ∙ sym (standing_has (byte_at n) e.start bs (word_start a)));
        });
        used_is = ap bytes_taken_by_all read ∙ total;
      };
      recorded = k.recorded;
    }
