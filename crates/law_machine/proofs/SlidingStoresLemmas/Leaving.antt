-- The store after a flex call: its words spell the blocks that the call left, and all that holds of
-- stores between calls holds of it.
use Rattle.std.proofs.Common.{ℕ, Bool, true, false, ◌+◌, ◌-◌, ◌%◌, ◌^◌, ◌≡◌, ◌≤◌, ◌<◌, ◌⊎◌, ◌∙◌, List, Option, Some, refl, sym, ap, subst, inl, inr, arith}
use Rattle.std.proofs.lemmas.Bool.{both_ways, cases_lt, false_from_ne_true}
use Rattle.address_map.specs.Bytes.{Bytes, word_start}
use Rattle.os_heap.proofs.FlexSound.{flex_unspelled, place_unspelled}
use Rattle.os_heap.proofs.Frame.{parts_kept}
use Rattle.os_heap.proofs.PayloadLemmas.{anchor_placed}
use Rattle.os_heap.specs.Store.{AreHeapsIn, IsAnchorPlace, IsSound, Store}
use Rattle.os_heap_words.proofs.ListsLemmas.HeadWords.{are_owned}
use Rattle.rma.proofs.FlexFrameLemmas.Writes.{flex_alone}
use Rattle.rma.specs.flex_frame.Keeping.{AreAnchorsFree}
use Rattle.swi_dispatch_guest.proofs.SwiDispatchPlansCalls.{place_free}
use Rattle.swi_dispatch_guest.specs.Ground.{flex_of, spelled_store, store_flexed}
use Rattle.law_machine.specs.flex.Laws.{IsLeftBy, IsSpelledState, anchor_of_call, outside_of}
use Rattle.law_machine.specs.flex.Numbered.{IsCalledSeen, blocks_seen, anchor_place_of}
use Rattle.flex_store.proofs.Headers.{header_within}
use Rattle.flex_store.proofs.Keeping.{IsPlace, in_store, place_parts, store_place}
use Rattle.flex_store.proofs.Texts.{text_read}
use Rattle.flex_store.proofs.Words.{words_low}
use Rattle.flex_store.specs.Blocks.{Block, FlexStore, has_anchor, is_header, bytes_taken_by_all}
use Rattle.flex_store.specs.Calls.{FlexState, is_anchor_place}
use Rattle.flex_store.specs.Memory.{AreAnchored, Holds, blocks_text_of}
use Rattle.flex_store.specs.Runs.{FlexCall}
use Rattle.flex_store.specs.State.{AreAnchorWords, AreInner, AreWhole, IsFlexRange, IsText}
use Rattle.flex_store.specs.declared.flex.Extent.{Extent}
use Rattle.flex_store.specs.declared.flex.Flex.{Flex}
use Rattle.swi_dispatch_guest.specs.Sound.{count_beside}
use Rattle.law_machine.specs.sliding_stores.FlexStore.{HasFlexStore, IsFlexRangeSpelled, spelled_blocks}
use Rattle.law_machine.specs.sliding_stores.Meaning.{IsMemory}

abbrev pub store_at : Store → Extent → FlexStore
store_at s e = record { start = e.start; end = e.end; blocks = spelled_blocks s e }

abbrev pub state_at : Store → Extent → FlexState
state_at s e = record { bytes = s.bytes; flex = Some (store_at s e) }

-- what the store before a call has
pub record IsBefore (s : Store) (e : Extent) : Type 0 where
  pub spelled : IsFlexRangeSpelled s e
  pub memory : IsMemory s.bytes
  pub sound : IsSound s
  pub free : AreAnchorsFree s
  pub beside : count_beside s.others ≡ 2

-- and that after it
pub record IsAfter (s : Store) (v : FlexState) : Type 0 where
  pub sound : IsSound (store_flexed s v)
  pub flex : HasFlexStore (store_flexed s v) (flex_of v.flex)
  pub memory : IsMemory v.bytes
  pub mapped : v.bytes.mapped ≡ s.bytes.mapped
  pub spelled : spelled_store v.bytes.at (flex_of v.flex).extent ≡ v.flex

-- what a call that found room leaves
abbrev pub IsCalledBy : Store → Extent → FlexCall → FlexState → Type 0
IsCalledBy s e call v =
    let o : Option FlexStore = Some (store_at s e) in
    IsLeftBy s (state_at s e) v (store_at s e) (outside_of call) (IsCalledSeen call (anchor_place_of (store_at s e) (anchor_of_call call)) (blocks_seen o))

-- memory spells the store before it
pub state_spelled : (s : Store) (e : Extent) → IsBefore s e → IsSpelledState (state_at s e) (store_at s e)
state_spelled s e b = record {
  range = b.spelled.range;
  low = λ some. omega (arith, some, b.memory.low (e.end - 1) (b.spelled.range.there (e.end - 1) (omega (arith, some)) (omega (arith, some))));
  fits = b.spelled.fits;
  whole = b.spelled.whole;
  words = b.spelled.words;
  inner = b.spelled.inner;
  text = b.spelled.text;
  anchored = b.spelled.anchored;
}

module _ (s : Store) (e : Extent) (b : IsBefore s e) (call : FlexCall) (v : FlexState) (left : IsCalledBy s e call v) where
  bs : List Block
  bs = left.blocks

  t : Store
  t = store_flexed s (record { bytes = v.bytes; flex = Some (record { start = e.start; end = e.end; blocks = left.blocks }) })

  f : Extent
  f = record { start = e.start; end = e.end; used = bytes_taken_by_all left.blocks }

  text : IsText v.bytes e.start (e.start + bytes_taken_by_all left.blocks) left.blocks
  text = record {
    whole = left.spelled.whole;
    low = words_low v.bytes.mapped e.start e.end left.blocks left.spelled.words;
    text = left.spelled.text;
    length = refl;
    aligned = b.spelled.range.start_aligned;
    mapped = λ a low high. left.spelled.range.there a low (omega (arith, left.spelled.fits, high));
  }

  blocks : spelled_blocks t f ≡ left.blocks
  unfolding t f
  blocks = text_read v.bytes e.start (e.start + bytes_taken_by_all left.blocks) left.blocks text

  spelled : IsFlexRangeSpelled t f
  unfolding t f blocks
  spelled = record {
    range = left.spelled.range;
    fits = subst (λ (xs : List Block). e.start + bytes_taken_by_all xs ≤ e.end) (sym blocks) left.spelled.fits;
    whole = subst AreWhole (sym blocks) left.spelled.whole;
    words = subst (λ (xs : List Block). AreAnchorWords v.bytes.mapped e.start e.end xs) (sym blocks) left.spelled.words;
    inner = subst (λ (xs : List Block). AreInner e.start e.end xs) (sym blocks) left.spelled.inner;
    text = subst (λ (xs : List Block). Holds v.bytes.at e.start (blocks_text_of xs)) (sym blocks) left.spelled.text;
    anchored = subst (λ (xs : List Block). AreAnchored v.bytes.at e.start xs) (sym blocks) left.spelled.anchored;
    headers = λ a. ap (λ (xs : List Block). is_header e.start xs (word_start a)) (sym blocks);
    anchors = λ a. ap (λ (xs : List Block). has_anchor xs (word_start a)) (sym blocks);
    used_is = ap bytes_taken_by_all blocks;
    recorded = b.spelled.recorded;
  }

  -- a byte of an anchor that lies in the store
  in_words : (a : ℕ) → e.start ≤ word_start a → word_start a + 4 ≤ e.end → (e.start ≤ a) × (a < e.end)
  in_words a low high = (omega (arith, low), omega (arith, high))

  -- where its anchors are
  placed : (a : ℕ) → has_anchor left.blocks (word_start a) ≡ true → (s.bytes.mapped a ≡ true) × IsAnchorPlace s.heaps a
  placed a is = elim (left.came (word_start a) is) [
    | inl was ↦ b.sound.anchors a (b.spelled.anchors a ∙ was)
    | inr other ↦ elim other [
      | inl new ↦
          let p : IsPlace s (word_start a) = place_parts s (word_start a) new in (
            b.memory.words a ∙ p.mapped,
            anchor_placed s.bytes s.heaps (word_start a) a b.sound.heaps p.aligned refl p.held,
          )
      | inr within ↦
          let at = in_words a within.0 within.1 in (
            b.spelled.range.there a at.0 (omega (arith, at.0, at.1)),
            store_place s.heaps s.others a b.sound.placed (in_store s.others e.start e.end a b.spelled.recorded at.0 at.1),
          )
    ]
  ]

  free : AreAnchorsFree t
  unfolding t AreAnchorsFree
  free = λ a is. elim (left.came (word_start a) is) [
    | inl was ↦ b.free a (b.spelled.anchors a ∙ was)
    | inr other ↦ elim other [
      | inl new ↦ place_free s a new
      | inr within ↦
          let at = in_words a within.0 within.1 in
          flex_alone s.others a b.sound.apart (in_store s.others e.start e.end a b.spelled.recorded at.0 at.1)
    ]
  ]

  -- the words of heaps
  out_of_store : (a : ℕ) → are_owned s.heaps a ≡ true → (a < e.start) ⊎ (e.end ≤ a)
  out_of_store a owned = elim (cases_lt a e.start) [
    | inl low ↦ inl low
    | inr up ↦ elim (cases_lt a e.end) [
      | inr high ↦ inr high
      | inl below ↦ absurd (both_ways (are_owned s.heaps a)
          (flex_unspelled s.bytes s.heaps s.others a b.sound.heaps b.sound.placed
          (in_store s.others e.start e.end a b.spelled.recorded up below)) owned)
    ]
  ]

  no_anchor : (a : ℕ) → are_owned s.heaps a ≡ true → has_anchor left.blocks (word_start a) ≡ false
  no_anchor a owned = false_from_ne_true (has_anchor left.blocks (word_start a)) (λ is.
      both_ways (are_owned s.heaps a) (place_unspelled s.bytes s.heaps a b.sound.heaps (placed a is).1) owned)

  no_old : (a : ℕ) → are_owned s.heaps a ≡ true → has_anchor (spelled_blocks s e) (word_start a) ≡ false
  no_old a owned = false_from_ne_true (has_anchor (spelled_blocks s e) (word_start a)) (λ is.
      both_ways (are_owned s.heaps a)
      (place_unspelled s.bytes s.heaps a b.sound.heaps (b.sound.anchors a (b.spelled.anchors a ∙ is)).1) owned)

  heaps : AreHeapsIn v.bytes s.heaps
  heaps = parts_kept s.bytes v.bytes s.heaps left.mapped (λ a owned. left.kept a (out_of_store a owned) (no_old a owned) (no_anchor a owned)) b.sound.heaps

  sound : IsSound t
  unfolding t
  sound = record {
    heaps = heaps;
    limits = b.sound.limits;
    placed = b.sound.placed;
    apart = b.sound.apart;
    few = b.sound.few;
    anchors = λ a is. (ap (λ (p : ℕ → Bool). p a) left.mapped ∙ (placed a is).0, (placed a is).1);
    headers = λ a is.
        let within = header_within e.start left.blocks (word_start a) is in
        in_store s.others e.start e.end a b.spelled.recorded (omega (arith, within.from))
        (omega (arith, within.below, left.spelled.fits, b.spelled.range.start_aligned, b.spelled.range.end_aligned));
  }

  memory : IsMemory v.bytes
  memory = record {
    bytes = left.small b.memory.bytes;
    low = λ a there. b.memory.low a (ap (λ (p : ℕ → Bool). p a) (sym left.mapped) ∙ there);
    words = λ a. ap (λ (p : ℕ → Bool). p a) left.mapped ∙ (b.memory.words a ∙ ap (λ (p : ℕ → Bool). p (word_start a)) (sym left.mapped));
  }

  abbrev state_left : FlexState
  state_left = record { bytes = v.bytes; flex = Some (record { start = e.start; end = e.end; blocks = left.blocks }) }

  after_left : IsAfter s state_left
  unfolding t f blocks
  after_left = record {
    sound = sound;
    flex = record { is = spelled; free = free; beside = b.beside };
    memory = memory;
    mapped = left.mapped;
    spelled = ap (λ (xs : List Block). let o : Option FlexStore = Some (record { start = e.start; end = e.end; blocks = xs }) in o) blocks;
  }

  pub after_called : IsAfter s v
  after_called = subst (λ (o : Option FlexStore). IsAfter s (record { bytes = v.bytes; flex = o })) (sym left.flex) after_left

-- where nothing was changed
pub same_store : (s : Store) (e : Extent) → IsFlexRangeSpelled s e → store_flexed s (state_at s e) ≡ s
same_store s e is = λ i. record {
  bytes = s.bytes;
  heaps = s.heaps;
  others = s.others;
  anchor = λ a. sym (is.anchors a) i;
  header = λ a. sym (is.headers a) i;
}

pub same_flex : (s : Store) (e : Extent) → IsFlexRangeSpelled s e → flex_of (state_at s e).flex ≡ record { extent = Some e }
same_flex s e is = ap (λ (u : ℕ). record { extent = Some (record { start = e.start; end = e.end; used = u }) }) is.used_is
