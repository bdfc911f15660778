-- The flex store as the words of a store spell it.
use Rattle.std.proofs.Common.{ℕ, ◌≡◌, ◌≤◌, ◌<◌, ◌+◌, Bool, List, [], ◌∷◌, Option, Some, None, refl, ap, arith}
use Rattle.std.proofs.lemmas.Bool.{or_left}
use Rattle.address_map.specs.Bytes.{Bytes}
use Rattle.address_map.specs.declared.map.AddressMap.{AddressMap}
use Rattle.os_heap.specs.Store.{Store, is_in_flex_store, store_of}
use Rattle.rma.specs.flex_frame.Keeping.{IsFlexKept}
use Rattle.flex_store.proofs.Keeping.{in_store}
use Rattle.flex_store.proofs.Texts.{text_kept, text_read}
use Rattle.flex_store.proofs.Words.{words_low}
use Rattle.flex_store.specs.Blocks.{Block, FlexStore, bytes_taken_by}
use Rattle.flex_store.specs.declared.flex.Flex.{Flex}
use Rattle.flex_store.specs.Laws.{HaveDistinctAnchors, HasBlocks}
use Rattle.flex_store.specs.State.{AreAnchorWords, IsFlexAt, IsText}
use Rattle.flex_store.specs.declared.flex.Extent.{Extent}
use Rattle.swi_dispatch_guest.specs.Ground.{HasFlex, spelled_store}
use Rattle.law_machine.specs.sliding_stores.FlexStore.{HasFlexStore, IsFlexRangeSpelled, IsSpelledAt, spelled_blocks}

pub spelled_at : (m : AddressMap) (o : Option Extent) → IsFlexAt m o → IsSpelledAt (store_of m) o
unfolding store_of
spelled_at m None is = record { headers = is.headers; anchors = is.anchors }
spelled_at m (Some e) is =
    let s = is.held.store in
    record {
      range = s.range;
      fits = s.fits;
      whole = s.whole;
      words = s.words;
      inner = s.inner;
      text = s.text;
      anchored = s.anchored;
      headers = s.headers;
      anchors = s.anchors;
      used_is = is.held.used_is;
      recorded = is.recorded;
    }

-- the anchors of such blocks differ
distinct : (mapped : ℕ → Bool) (start end : ℕ) (bs : List Block) → AreAnchorWords mapped start end bs → HaveDistinctAnchors bs
distinct mapped start end [] words = tt
distinct mapped start end (b ∷ bs) words = (words.0.1, distinct mapped (start + bytes_taken_by b.size) end bs words.1)

pub has_blocks : (s : Store) (o : Option Extent) → IsSpelledAt s o → HasBlocks (spelled_store s.bytes.at o)
has_blocks s None is = tt
has_blocks s (Some e) is = (is.whole, distinct s.bytes.mapped e.start e.end (spelled_blocks s e) is.words)

pub has_store : (m : AddressMap) (f : Flex) → HasFlex m f → HasFlexStore (store_of m) f
has_store m f has = record { is = spelled_at m f.extent has.is; free = has.free; beside = has.beside }

-- The store is the same as long as its bytes are.
store_text : (s : Store) (e : Extent) → IsFlexRangeSpelled s e → IsText s.bytes e.start (e.start + e.used) (spelled_blocks s e)
store_text s e is = record {
  whole = is.whole;
  low = words_low s.bytes.mapped e.start e.end (spelled_blocks s e) is.words;
  text = is.text;
  length = omega (arith, is.used_is);
  aligned = is.range.start_aligned;
  mapped = λ a low high. is.range.there a low (omega (arith, is.fits, high));
}

pub kept_blocks : (s t : Store) (e : Extent) → IsFlexRangeSpelled s e → IsFlexKept s t → spelled_blocks t e ≡ spelled_blocks s e
kept_blocks s t e is kept =
    let bytes : Bytes = record { mapped = s.bytes.mapped; at = t.bytes.at } in
    let same : (a : ℕ) → e.start ≤ a → a < e.start + e.used → t.bytes.at a ≡ s.bytes.at a = λ a low high.
    kept.bytes a (or_left (is_in_flex_store s.others a) (s.anchor a)
    (in_store s.others e.start e.end a is.recorded low (omega (arith, is.fits, is.used_is, high)))) in
    text_read bytes e.start (e.start + e.used) (spelled_blocks s e)
    (text_kept s.bytes bytes e.start (e.start + e.used) (spelled_blocks s e) refl same (store_text s e is))

pub spelled_kept : (s t : Store) (o : Option Extent) → IsSpelledAt s o → IsFlexKept s t → spelled_store t.bytes.at o ≡ spelled_store s.bytes.at o
spelled_kept s t None is kept = refl
spelled_kept s t (Some e) is kept =
    ap (λ (bs : List Block). let o : Option FlexStore = Some (record { start = e.start; end = e.end; blocks = bs }) in o) (kept_blocks s t e is kept)
