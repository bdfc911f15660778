-- What each flex call writes.
use Rattle.std.proofs.Common.{ℕ, ◌+◌, ◌-◌, ◌%◌, ◌&&◌, ◌≡◌, ◌∙◌, ◌⊎◌, nat_eq, Bool, true, false, List, [], ◌∷◌, Option, Some, None, Result, Ok, refl, sym, ap, subst, inl, inr}
use Rattle.std.specs.Prelude.{nat_lt}
use Rattle.std.proofs.lemmas.Bool.{both_ways, cases_Bool}
use Rattle.profile.specs.ErrorNumber.{ErrorNumber}
use Rattle.address_map.specs.Bytes.{Bytes, word_start}
use Rattle.address_map.specs.Records.{anchor_among}
use Rattle.os_heap.specs.Store.{Store}
use Rattle.swi_dispatch_guest.specs.Ground.{anchors_in, spelled_store, store_flexed}
use Rattle.flex_store.proofs.Anchoring.{other_word}
use Rattle.flex_store.proofs.Filled.{AreFilled, holding_filled, new_filled, whole_filled}
use Rattle.flex_store.proofs.Holding.{word_beside}
use Rattle.flex_store.proofs.LawLemmas.{Answers, same_answer}
use Rattle.flex_store.specs.Blocks.{Block, FlexStore, before, behind_of, block_holding, bytes_after_splice, bytes_taken_by_all, contents, cut_of, find_block, has_anchor, more_of, new_block}
use Rattle.flex_store.specs.Calls.{FlexState, breaks_anchor, end_in, flex_after_alloc, flex_after_extend, flex_after_release, flex_if_room, header_place_in, is_anchor_byte, is_anchor_place, may_stand, mid_extended, spliced_at, state_without_anchor, with_blocks}
use Rattle.flex_store.specs.Runs.{Alloc, Extend, FlexCall, IsFlexCallDone, MidExtend, Release}
use Rattle.flex_store.specs.Shifts.{following, removal_shifts, splice_shifts}
use Rattle.flex_store.specs.declared.flex.Extent.{Extent}
use Rattle.law_machine.proofs.FlexLemmas.OneBlock.{found_has}
use Rattle.law_machine.proofs.HeapFrameLemmas.FlexBesides.{HasAligned}
use Rattle.law_machine.proofs.HeapFrameLemmas.FlexCalls.{anchors_are, spelled_aligned}
use Rattle.law_machine.proofs.HeapFrameLemmas.Turns.{call_is_done, called_aligned}
use Rattle.law_machine.specs.sliding_stores.FlexStore.{IsSpelledAt, spelled_blocks}
use Rattle.law_machine.specs.sliding_stores.Meaning.{store_in}
use Rattle.law_machine.specs.live_bytes.FlexLaws.{IsAnchorByte}
use Rattle.law_machine.proofs.OtherBytesLemmas.FlexLaid.{IsLaidFrom, Lays, first_fits, laid_written, none_fit, rest_follows, room_lays}
use Rattle.law_machine.specs.other_bytes.FlexWrites.{FlexCallsKeepOthers, IsLaidOut}

-- A byte stays, or it is of an anchor before the call or after it, or of what the call lays out.
abbrev Writes : FlexState → FlexState → FlexCall → ℕ → Type 0
Writes t v call a = (v.bytes.at a ≡ t.bytes.at a)
    ⊎ ((anchors_in t.flex a ≡ true) ⊎ ((anchors_in v.flex a ≡ true) ⊎ IsLaidOut t v call a))

module _ (b : Bytes) (s : FlexStore) (filled : AreFilled s.blocks) (a : ℕ) where
  abbrev t : FlexState
  t = record { bytes = b; flex = Some s }

  -- what is laid out from the place that a call names
  laid_by : (v : FlexState) (call : FlexCall) (from : ℕ) → ((new : FlexStore) → v.flex ≡ Some new → IsLaidFrom v from a → IsLaidOut t v call a)
      → Lays b.at v from a → Writes t v call a
  laid_by v call from laid (inl same) = inl same
  laid_by v call from laid (inr (inl anchor)) = inr (inr (inl anchor))
  laid_by v call from laid (inr (inr text)) = inr (inr (inr (laid text.new text.left text)))

  -- nothing is changed
  same_by : (v : FlexState) (call : FlexCall) (answer : Bool) → (let r : Result (FlexState × Bool) ErrorNumber = Ok (t, true) in r ≡ Ok (v, answer)) → Writes t v call a
  same_by v call answer is =
      let was : FlexState × Bool = (t, true) in
      let given : FlexState × Bool = (v, answer) in
      let done : Answers was given = is in
      inl (sym (ap (λ (q : FlexState × Bool). q.0.bytes.at a) (same_answer was given done)))

  alloc_writes : (places : Store) (v : FlexState) (anchor size : ℕ) (answer : Bool) → flex_after_alloc places t anchor size ≡ Ok (v, answer) → HasAligned v.flex
      → Writes t v (Alloc anchor size) a
  unfolding flex_after_alloc
  alloc_writes places v anchor size answer is aligned = elim (cases_Bool (is_anchor_place places anchor && may_stand s anchor)) [
    | inr bad ↦ let is' = rw bad at is in absurd (cc)
    | inl may ↦ elim (cases_Bool (has_anchor s.blocks anchor)) [
      | inl in_use ↦ let is' = rw (may, in_use) at is in absurd (cc)
      | inr none ↦
          let news : List Block = new_block anchor size ∷ [] in
          let left : FlexState × Bool = flex_if_room t s s.blocks news in
          let given : FlexState × Bool = (v, answer) in
          let done : Answers left given = rw (may, none) at is in
          laid_by v (Alloc anchor size) (s.start + bytes_taken_by_all s.blocks)
          (λ new there text. record { old = s; found = refl; new = text.new; left = text.left; byte = text.byte })
          (room_lays t s s.blocks news a (first_fits (new_block anchor size) [] (new_filled anchor size) none_fit) v answer done aligned)
    ]
  ]

  -- a block that is spliced, with those after it
  spliced_writes : (v : FlexState) (call : FlexCall) (anchor : ℕ) (x : Block) (place cut more : ℕ) (answer : Bool)
      → (IsLaidFrom v (header_place_in s anchor) a → IsLaidOut t v call a) → spliced_at t s anchor x place cut more ≡ Ok (v, answer) → HasAligned v.flex
      → Writes t v call a
  spliced_writes v call anchor x place cut more answer laid is aligned =
      elim (cases_Bool (breaks_anchor (is_anchor_byte s) (header_place_in s anchor + 8) x.size place cut more)) [
        | inl breaks ↦ let is' = rw breaks at is in absurd (cc)
        | inr free ↦
            let c : List ℕ = bytes_after_splice (contents x) place cut more in
            let shifts = splice_shifts (header_place_in s anchor) (end_in s) x.size place cut more in
            let news : List Block = block_holding x c ∷ following shifts (behind_of anchor s.blocks) in
            let left : FlexState × Bool = flex_if_room t s (before anchor s.blocks) news in
            let given : FlexState × Bool = (v, answer) in
            let done : Answers left given = rw free at is in
            laid_by v call (header_place_in s anchor) (λ new there text. laid text)
            (room_lays t s (before anchor s.blocks) news a
            (first_fits (block_holding x c) (following shifts (behind_of anchor s.blocks)) (holding_filled x c) (rest_follows shifts anchor s.blocks filled))
            v answer done aligned)
      ]

  extend_writes : (v : FlexState) (anchor size : ℕ) (answer : Bool) (found : Option Block) → find_block anchor s.blocks ≡ found
      → flex_after_extend t anchor size ≡ Ok (v, answer) → HasAligned v.flex → Writes t v (Extend anchor size) a
  unfolding flex_after_extend
  extend_writes v anchor size answer None none is aligned = let is' = rw none at is in absurd (cc)
  extend_writes v anchor size answer (Some x) found is aligned = elim (cases_Bool (nat_eq size x.size)) [
    | inl stays ↦ same_by v (Extend anchor size) answer (rw (found, stays) at is)
    | inr other ↦
        spliced_writes v (Extend anchor size) anchor x x.size (x.size - size) (size - x.size) answer
        (λ text. record { old = s; found = refl; new = text.new; left = text.left; byte = text.byte }) (rw (found, other) at is) aligned
  ]

  mid_found : (v : FlexState) (anchor at by : ℕ) (answer : Bool) (found : Option Block) → find_block anchor s.blocks ≡ found → nat_lt at (cut_of by) ≡ false
      → mid_extended t anchor at by ≡ Ok (v, answer) → HasAligned v.flex → Writes t v (MidExtend anchor at by) a
  unfolding mid_extended
  mid_found v anchor at by answer None none inside is aligned = let is' = rw (inside, none) at is in absurd (cc)
  mid_found v anchor at by answer (Some x) found inside is aligned = elim (cases_Bool (nat_lt x.size at)) [
    | inl past ↦ let is' = rw (inside, found, past) at is in absurd (cc)
    | inr within ↦ elim (cases_Bool (nat_eq by 0)) [
      | inl none ↦ same_by v (MidExtend anchor at by) answer (rw (inside, found, within, none) at is)
      | inr some ↦
          spliced_writes v (MidExtend anchor at by) anchor x at (cut_of by) (more_of by) answer
          (λ text. record { old = s; found = refl; new = text.new; left = text.left; byte = text.byte }) (rw (inside, found, within, some) at is) aligned
    ]
  ]

  mid_writes : (v : FlexState) (anchor at by : ℕ) (answer : Bool) → mid_extended t anchor at by ≡ Ok (v, answer) → HasAligned v.flex
      → Writes t v (MidExtend anchor at by) a
  unfolding mid_extended
  mid_writes v anchor at by answer is aligned = elim (cases_Bool (nat_lt at (cut_of by))) [
    | inl past ↦ let is' = rw past at is in absurd (cc)
    | inr inside ↦ mid_found v anchor at by answer (find_block anchor s.blocks) refl inside is aligned
  ]

  -- a release: the anchor is 0, and the blocks after it slide down
  released_lays : (v : FlexState) (anchor : ℕ) → anchor % 4 ≡ 0 → has_anchor s.blocks anchor ≡ true
      → Lays (state_without_anchor t anchor).bytes.at v (header_place_in s anchor) a → Writes t v (Release anchor) a
  released_lays v anchor even has (inr (inl now)) = inr (inr (inl now))
  released_lays v anchor even has (inr (inr text)) =
      inr (inr (inr (record { old = s; found = refl; new = text.new; left = text.left; byte = text.byte })))
  released_lays v anchor even has (inl same) = elim (cases_Bool (has_anchor s.blocks (word_start a))) [
    | inl was ↦ inr (inl was)
    | inr none ↦
        let other : word_start a ≡ anchor → ⊥ = λ here. both_ways (has_anchor s.blocks anchor) (sym (ap (has_anchor s.blocks) here) ∙ none) has in
        inl (same ∙ word_beside b.at anchor 0 a (other_word anchor a even other))
  ]

  release_writes : (v : FlexState) (anchor : ℕ) (found : Option Block) → find_block anchor s.blocks ≡ found → flex_after_release t anchor ≡ Ok (v, tt)
      → ((p : ℕ) → has_anchor s.blocks p ≡ true → p % 4 ≡ 0) → HasAligned v.flex → Writes t v (Release anchor) a
  unfolding flex_after_release
  release_writes v anchor None none is old aligned = let is' = rw none at is in absurd (cc)
  release_writes v anchor (Some x) found is old aligned =
      elim (cases_Bool (anchor_among (is_anchor_byte s) (header_place_in s anchor + 8) x.size)) [
        | inl holds ↦ let is' = rw (found, holds) at is in absurd (cc)
        | inr free ↦
            let u : FlexState = state_without_anchor t anchor in
            let olds : List Block = before anchor s.blocks in
            let news : List Block = following (removal_shifts (header_place_in s anchor) (end_in s) x.size) (behind_of anchor s.blocks) in
            let after : FlexState × Unit {0} = (with_blocks u s olds news, tt) in
            let given : FlexState × Unit {0} = (v, tt) in
            let done : Answers after given = rw (found, free) at is in
            let same : with_blocks u s olds news ≡ v = ap (λ (q : FlexState × Unit {0}). q.0) (same_answer after given done) in
            let has : has_anchor s.blocks anchor ≡ true = found_has anchor s.blocks x found in
            released_lays v anchor (old anchor has) has
            (subst (λ (w : FlexState). Lays u.bytes.at w (header_place_in s anchor) a) same
            (laid_written u s olds news a
            (rest_follows (removal_shifts (header_place_in s anchor) (end_in s) x.size) anchor s.blocks filled)
            (subst (λ (w : FlexState). HasAligned w.flex) (sym same) aligned)))
      ]

  done_writes : (v : FlexState) (call : FlexCall) (answer : Bool) → IsFlexCallDone t call answer v → ((p : ℕ) → has_anchor s.blocks p ≡ true → p % 4 ≡ 0)
      → HasAligned v.flex → Writes t v call a
  done_writes v (Alloc anchor size) answer is old aligned = alloc_writes is.0 v anchor size answer is.1 aligned
  done_writes v (Release anchor) answer is old aligned = release_writes v anchor (find_block anchor s.blocks) refl is.1 old aligned
  done_writes v (Extend anchor size) answer is old aligned = extend_writes v anchor size answer (find_block anchor s.blocks) refl is aligned
  done_writes v (MidExtend anchor at by) answer is old aligned = mid_writes v anchor at by answer is aligned

-- without a store each call is refused
none_done : (b : Bytes) (v : FlexState) (call : FlexCall) (answer : Bool) → IsFlexCallDone (record { bytes = b; flex = None }) call answer v → ⊥
unfolding flex_after_alloc flex_after_release flex_after_extend mid_extended
none_done b v (Alloc anchor size) answer is = let no = is.1 in cc
none_done b v (Release anchor) answer is = let no = is.1 in cc
none_done b v (Extend anchor size) answer is = cc
none_done b v (MidExtend anchor at by) answer is = cc

store_writes : (s : Store) (o : Option Extent) (v : FlexState) (call : FlexCall) (answer : Bool) (a : ℕ) → IsSpelledAt s o
    → (let t : FlexState = record { bytes = s.bytes; flex = spelled_store s.bytes.at o } in IsFlexCallDone t call answer v → HasAligned v.flex → Writes t v call a)
store_writes s None v call answer a is done aligned = absurd (none_done s.bytes v call answer done)
store_writes s (Some e) v call answer a is done aligned =
    let old : FlexStore = record { start = e.start; end = e.end; blocks = spelled_blocks s e } in
    done_writes s.bytes old (whole_filled (spelled_blocks s e) is.whole) a v call answer done (spelled_aligned s (Some e) is) aligned

-- the anchors are those that the store has marked
marked : (s : Store) (o : Option Extent) (v : FlexState) (call : FlexCall) (a : ℕ) → IsSpelledAt s o
    → (let t : FlexState = record { bytes = s.bytes; flex = spelled_store s.bytes.at o } in Writes t v call a
    → (v.bytes.at a ≡ s.bytes.at a) ⊎ (IsAnchorByte s (store_flexed s v) a ⊎ IsLaidOut t v call a))
marked s o v call a is (inl same) = inl same
marked s o v call a is (inr (inl was)) = inr (inl (inl (sym (anchors_are s o a is) ∙ was)))
marked s o v call a is (inr (inr (inl now))) = inr (inl (inr now))
marked s o v call a is (inr (inr (inr text))) = inr (inr text)

pub flex_calls_keep_others : FlexCallsKeepOthers
flex_calls_keep_others x call v answer a are is =
    let s : Store = store_in x in
    marked s x.flex.extent v call a are.flex.is
    (store_writes s x.flex.extent v call answer a are.flex.is (call_is_done s x.flex call v answer is) (called_aligned x are call v answer is))
