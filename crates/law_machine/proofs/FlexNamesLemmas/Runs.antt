-- Calls one after another, by names.
use Rattle.std.proofs.Common.{◌≡◌, ℕ, Bool, ◌+◌, ◌-◌, ◌^◌, ◌<◌, ◌≤◌, true, nat_eq, List, [], ◌∷◌, Option, Some, arith, refl, sym, ◌∙◌, ap, inl, inr, subst}
use Rattle.std.proofs.lemmas.Bool.{eq-eqb, or_left, or_right}
use Rattle.address_map.proofs.InRange.{range_inside}
use Rattle.address_map.specs.RawStoreRegion.{word_bytes}
use Rattle.address_map.specs.Bytes.{in_range, word_start}
use Rattle.os_heap.specs.Store.{Store}
use Rattle.flex_store.specs.Blocks.{Block, FlexStore, has_anchor, bytes_taken_by}
use Rattle.flex_store.specs.Calls.{FlexState, is_anchor_byte}
use Rattle.flex_store.specs.Memory.{AreAnchored, blocks_text_of}
use Rattle.flex_store.specs.Runs.{Alloc, Extend, FlexCall, MidExtend, Release}
use Rattle.flex_store.specs.State.{AreAnchorWords}
use Rattle.flex_store.proofs.Holding.{holds_kept}
use Rattle.flex_store.proofs.Lists.{text_used}
use Rattle.flex_store.proofs.Standing.{first_word}
use Rattle.law_machine.specs.flex.Laws.{anchor_of_call, IsDoneIn, IsOfWords, IsSpelledState}
use Rattle.law_machine.specs.flex.Numbered.{blocks_seen, anchor_place_of}
use Rattle.law_machine.proofs.FlexLemmas.Calls.{calls_go_by_numbers, no_room_changes_nothing}
use Rattle.law_machine.specs.flex_names.Laws.{IsCalledNamed}
use Rattle.law_machine.specs.flex_names.Names.{Name, place_named}
use Rattle.law_machine.specs.flex_names.Runs.{Apart, Called, FindsNoRoom, is_of_store, GoesByAnswer, IsLeftAlone, IsNameOf, IsFlexSpelled, IsFlexTurn, IsTurnNamed, flex_after_turn, RunsGoByNames, FlexStep}
use Rattle.law_machine.proofs.FlexNamesLemmas.Done.{done_calls_go_by_names}
use Rattle.law_machine.proofs.FlexNamesLemmas.Found.{some_same}
use Rattle.law_machine.proofs.FlexNamesLemmas.Words.{words_have_names}

-- memory that is mapped lies below 2^26
abbrev IsLow : FlexState → Type 0
IsLow t = (a : ℕ) → t.bytes.mapped a ≡ true → a < 2 ^ 26

-- anchors are what they were where their bytes are
module _ (mapped now : ℕ → Bool) (f g : ℕ → ℕ) where
  words_stay : (at end : ℕ) (bs : List Block) → ((a : ℕ) → has_anchor bs (word_start a) ≡ true → now a ≡ mapped a) → AreAnchorWords mapped at end bs
      → AreAnchorWords now at end bs
  words_stay at end [] same words = tt
  words_stay at end (b ∷ bs) same words =
      let own = words.0.0 in
      let here : word_start b.anchor ≡ b.anchor = first_word b.anchor b.anchor own.aligned (omega arith) (omega arith) in (
        (
          record {
            aligned = own.aligned;
            there = same b.anchor (rw here (or_left (nat_eq b.anchor b.anchor) (has_anchor bs b.anchor) (eq-eqb b.anchor b.anchor refl))) ∙ own.there;
            low = own.low;
            outside = own.outside;
          },
          words.0.1,
        ),
        words_stay (at + bytes_taken_by b.size) end bs (λ a is. same a (or_right (nat_eq (word_start a) b.anchor) (has_anchor bs (word_start a)) is)) words.1,
      )

  anchored_stay : (start end at : ℕ) (bs : List Block) → ((a : ℕ) → has_anchor bs (word_start a) ≡ true → g a ≡ f a) → AreAnchorWords mapped start end bs
      → AreAnchored f at bs → AreAnchored g at bs
  anchored_stay start end at [] same words anchored = tt
  anchored_stay start end at (b ∷ bs) same words anchored = (
    holds_kept f g b.anchor (word_bytes (at + 8)) (λ a low high.
        let here : word_start a ≡ b.anchor = first_word b.anchor a words.0.0.aligned low high in
        same a (rw here (or_left (nat_eq b.anchor b.anchor) (has_anchor bs b.anchor) (eq-eqb b.anchor b.anchor refl))))
        anchored.0,
    anchored_stay (start + bytes_taken_by b.size) end (at + bytes_taken_by b.size) bs
        (λ a is. same a (or_right (nat_eq (word_start a) b.anchor) (has_anchor bs (word_start a)) is)) words.1 anchored.1,
  )

-- what leaves the store alone leaves it spelled
stays_spelled : (t u : FlexState) (s : FlexStore) → IsSpelledState t s → IsLeftAlone t u s → IsSpelledState u s
stays_spelled t u s sp alone =
    let n : ℕ = s.end - s.start in
    let within : (a : ℕ) → s.start ≤ a → a < s.start + n → is_of_store s a ≡ true =
    λ a low high. or_left (in_range s.start n a) (is_anchor_byte s a) (range_inside s.start n a low high) in
    let word : (a : ℕ) → has_anchor s.blocks (word_start a) ≡ true → is_of_store s a ≡ true =
    λ a is. or_right (in_range s.start n a) (is_anchor_byte s a) is in
    record {
      range = record {
        start_aligned = sp.range.start_aligned;
        end_aligned = sp.range.end_aligned;
        there = λ a low high. alone.mapped a (within a low high) ∙ sp.range.there a low high;
      };
      low = sp.low;
      fits = sp.fits;
      whole = sp.whole;
      words = words_stay t.bytes.mapped u.bytes.mapped t.bytes.at u.bytes.at s.start s.end s.blocks (λ a is. alone.mapped a (word a is)) sp.words;
      inner = sp.inner;
      text = holds_kept t.bytes.at u.bytes.at s.start (blocks_text_of s.blocks)
          (λ a low high. let size = text_used s.blocks sp.whole in alone.bytes a (within a low (omega (arith, high, size, sp.fits)))) sp.text;
      anchored = anchored_stay t.bytes.mapped u.bytes.mapped t.bytes.at u.bytes.at s.start s.end s.start s.blocks (λ a is. alone.bytes a (word a is)) sp.words sp.anchored;
    }

no_room : (places : Store) (t u : FlexState) (call : FlexCall) → FindsNoRoom places t call u → u ≡ t
no_room places t u (Alloc anchor size) none = (no_room_changes_nothing t u).alloc places anchor size none
no_room places t u (Release anchor) none = absurd none
no_room places t u (Extend anchor size) none = (no_room_changes_nothing t u).extend anchor size none
no_room places t u (MidExtend anchor at by) none = (no_room_changes_nothing t u).mid_extend anchor at by none

-- what a turn leaves
record IsTurned (t : FlexState) (x : FlexStep) : Type 0 where
  named : IsTurnNamed t x
  spelled : IsFlexSpelled (flex_after_turn x)
  low : IsLow (flex_after_turn x)

room_named : (places : Store) (t u : FlexState) (call : FlexCall) (s : FlexStore) → t.flex ≡ Some s → IsSpelledState t s → IsLow t → IsOfWords call
    → places.bytes ≡ t.bytes → IsDoneIn places t call u
    → (name : Name) × (IsNameOf name t (anchor_of_call call) × IsCalledNamed call name (blocks_seen t.flex) (blocks_seen u.flex))
room_named places t u call s own sp low word bytes done =
    let name = words_have_names t s sp (anchor_of_call call) in (
      name.0,
      (
        λ v is. subst (λ (w : FlexStore). place_named (blocks_seen t.flex) name.0 ≡ Some (anchor_place_of w (anchor_of_call call))) (some_same s v (sym own ∙ is))
            (subst (λ (f : Option FlexStore). place_named (blocks_seen f) name.0 ≡ Some (anchor_place_of s (anchor_of_call call))) (sym own) name.1),
        subst (λ (f : Option FlexStore). IsCalledNamed call name.0 (blocks_seen f) (blocks_seen u.flex)) (sym own)
            (done_calls_go_by_names places t u s call name.0 word own sp bytes low done name.1),
      ),
    )

call_named : (places : Store) (t u : FlexState) (call : FlexCall) (s : FlexStore) → t.flex ≡ Some s → IsSpelledState t s → IsLow t → IsOfWords call
    → places.bytes ≡ t.bytes → GoesByAnswer places t call u
call_named places t u call s own sp low word bytes = record {
  room = room_named places t u call s own sp low word bytes;
  none = no_room places t u call;
}

called : (places : Store) (t u : FlexState) (call : FlexCall) (s : FlexStore) → t.flex ≡ Some s → IsSpelledState t s → IsLow t → IsOfWords call
    → places.bytes ≡ t.bytes → IsDoneIn places t call u → IsTurned t (Called places call u)
called places t u call s own sp low word bytes done =
    let left = calls_go_by_numbers places t u s call word own sp bytes low done in
    record {
      named = call_named places t u call s own sp low word bytes;
      spelled = (record { start = s.start; end = s.end; blocks = left.blocks }, (left.flex, left.spelled));
      low = λ a is. low a (sym (ap (λ (f : ℕ → Bool). f a) left.mapped) ∙ is);
    }

turned : (t : FlexState) (x : FlexStep) → IsFlexSpelled t → IsLow t → IsFlexTurn t x → IsTurned t x
turned t (Called places call u) spelled low is = elim is.1.1 [
  | inl done ↦ called places t u call spelled.0 spelled.1.0 spelled.1.1 low is.0 is.1.0 done
  | inr none ↦
      let same : u ≡ t = no_room places t u call none in
      record { named = call_named places t u call spelled.0 spelled.1.0 spelled.1.1 low is.0 is.1.0; spelled = subst (λ (x : FlexState). IsFlexSpelled x) (sym same) spelled; low = subst (λ (x : FlexState). IsLow x) (sym same) low }
]
turned t (Apart u) spelled low is =
    let alone : IsLeftAlone t u spelled.0 = is spelled.0 spelled.1.0 in
    record {
      named = ap blocks_seen alone.flex;
      spelled = (spelled.0, (alone.flex ∙ spelled.1.0, stays_spelled t u spelled.0 spelled.1.1 alone));
      low = alone.low;
    }

pub runs_go_by_names : RunsGoByNames
runs_go_by_names t [] spelled low are = (tt, spelled)
runs_go_by_names t (x ∷ xs) spelled low are =
    let first : IsTurned t x = turned t x spelled low are.0 in
    let rest = runs_go_by_names (flex_after_turn x) xs first.spelled first.low are.1 in
    ((first.named, rest.0), rest.1)
