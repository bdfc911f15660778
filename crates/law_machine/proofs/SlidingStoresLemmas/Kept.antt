-- The flex store of a store whose words and marks are kept.
use Rattle.std.proofs.Common.{ℕ, Bool, true, nat_eq, ◌+◌, ◌%◌, ◌≡◌, ◌≤◌, ◌∙◌, List, [], ◌∷◌, length, Option, Some, None, sym, ap, subst, arith}
use Rattle.std.proofs.lemmas.Bool.{eq-eqb, or_left, or_right}
use Rattle.address_map.specs.Bytes.{word_start}
use Rattle.address_map.specs.RawStoreRegion.{word_bytes}
use Rattle.address_map.specs.declared.region.Region.{Region}
use Rattle.os_heap.specs.Store.{Store, is_in_flex_store}
use Rattle.rma.specs.flex_frame.Keeping.{IsFlexKept, KeepsFlex}
use Rattle.flex_store.proofs.Holding.{holds_kept}
use Rattle.flex_store.proofs.Keeping.{in_store}
use Rattle.flex_store.proofs.Lists.{text_used}
use Rattle.flex_store.specs.Blocks.{Block, has_anchor, is_header, bytes_taken_by, bytes_taken_by_all}
use Rattle.flex_store.specs.Memory.{AreAnchored, Holds, blocks_text_of}
use Rattle.flex_store.specs.State.{AreAnchorWords, AreInner, AreWhole, IsFlexRange, is_recorded}
use Rattle.flex_store.specs.declared.flex.Extent.{Extent}
use Rattle.flex_store.specs.declared.flex.Flex.{Flex}
use Rattle.law_machine.proofs.SlidingStoresLemmas.Spelled.{kept_blocks}
use Rattle.law_machine.specs.sliding_stores.FlexStore.{HasFlexStore, IsFlexRangeSpelled, IsSpelledAt, spelled_blocks}
use Rattle.swi_dispatch_guest.proofs.SwiDispatchPlansKept.{count_is, recorded_beside}

-- the words of anchors
anchored_same : (mapped : ℕ → Bool) (start end : ℕ) (f g : ℕ → ℕ) (at : ℕ) (bs : List Block) → AreAnchorWords mapped start end bs
    → ((a : ℕ) → has_anchor bs (word_start a) ≡ true → g a ≡ f a) → AreAnchored f at bs → AreAnchored g at bs
anchored_same mapped start end f g at [] words same anchored = tt
anchored_same mapped start end f g at (b ∷ bs) words same anchored =
    let aligned : b.anchor % 4 ≡ 0 = words.0.0.aligned in (
      holds_kept f g b.anchor (word_bytes (at + 8))
          (λ a low high.
          let here : word_start a ≡ b.anchor = omega (arith, aligned, low, high) in
          same a (or_left (nat_eq (word_start a) b.anchor) (has_anchor bs (word_start a)) (eq-eqb (word_start a) b.anchor here))) anchored.0,
      anchored_same mapped (start + bytes_taken_by b.size) end f g (at + bytes_taken_by b.size) bs words.1
          (λ a has. same a (or_right (nat_eq (word_start a) b.anchor) (has_anchor bs (word_start a)) has)) anchored.1,
    )

kept_spelled : (s t : Store) (e : Extent) → IsFlexRangeSpelled s e → IsFlexKept s t → t.bytes.mapped ≡ s.bytes.mapped → IsFlexRangeSpelled t e
kept_spelled s t e is kept mapped =
    let bs : List Block = spelled_blocks s e in
    let same : spelled_blocks t e ≡ bs = kept_blocks s t e is kept in
    let size : length (blocks_text_of bs) ≡ bytes_taken_by_all bs = text_used bs is.whole in
    let text : Holds t.bytes.at e.start (blocks_text_of bs) = holds_kept s.bytes.at t.bytes.at e.start (blocks_text_of bs) (λ a low high.
    kept.bytes a (or_left (is_in_flex_store s.others a) (s.anchor a)
    (in_store s.others e.start e.end a is.recorded low (omega (arith, is.fits, size, high))))) is.text in
    let anchored : AreAnchored t.bytes.at e.start bs = anchored_same s.bytes.mapped e.start e.end s.bytes.at t.bytes.at e.start bs is.words (λ a has.
    kept.bytes a (or_right (is_in_flex_store s.others a) (s.anchor a) (is.anchors a ∙ has))) is.anchored in
    record {
      range = subst (λ (p : ℕ → Bool). IsFlexRange p e.start e.end) (sym mapped) is.range;
      fits = subst (λ (xs : List Block). e.start + bytes_taken_by_all xs ≤ e.end) (sym same) is.fits;
      whole = subst AreWhole (sym same) is.whole;
      words = subst (λ (xs : List Block). AreAnchorWords t.bytes.mapped e.start e.end xs) (sym same)
          (subst (λ (p : ℕ → Bool). AreAnchorWords p e.start e.end bs) (sym mapped) is.words);
      inner = subst (λ (xs : List Block). AreInner e.start e.end xs) (sym same) is.inner;
      text = subst (λ (xs : List Block). Holds t.bytes.at e.start (blocks_text_of xs)) (sym same) text;
      anchored = subst (λ (xs : List Block). AreAnchored t.bytes.at e.start xs) (sym same) anchored;
      headers = λ a. kept.headers a ∙ (is.headers a ∙ ap (λ (xs : List Block). is_header e.start xs (word_start a)) (sym same));
      anchors = λ a. kept.anchors a ∙ (is.anchors a ∙ ap (λ (xs : List Block). has_anchor xs (word_start a)) (sym same));
      used_is = ap bytes_taken_by_all same ∙ is.used_is;
      recorded = recorded_beside t.others e.start e.end ∙ (ap (λ (rs : List Region). is_recorded rs e.start e.end) kept.beside
          ∙ (sym (recorded_beside s.others e.start e.end) ∙ is.recorded));
    }

kept_at : (s t : Store) (o : Option Extent) → IsSpelledAt s o → IsFlexKept s t → t.bytes.mapped ≡ s.bytes.mapped → IsSpelledAt t o
kept_at s t None is kept mapped = record { headers = λ a. kept.headers a ∙ is.headers a; anchors = λ a. kept.anchors a ∙ is.anchors a }
kept_at s t (Some e) is kept mapped = kept_spelled s t e is kept mapped

pub kept_store : (s t : Store) (f : Flex) → HasFlexStore s f → KeepsFlex s t → t.bytes.mapped ≡ s.bytes.mapped → HasFlexStore t f
unfolding KeepsFlex
kept_store s t f has keeps mapped =
    let kept = keeps has.free in
    record {
      is = kept_at s t f.extent has.is kept.0 mapped;
      free = kept.1;
      beside = count_is t.others ∙ (ap length kept.0.beside ∙ (sym (count_is s.others) ∙ has.beside));
    }
