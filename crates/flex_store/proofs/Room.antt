-- A call answers that there was room just where the blocks that it is to leave fit.
use Rattle.std.proofs.Common.{◌≡◌, ℕ, Bool, ◌+◌, ◌-◌, ◌≤◌, ◌&&◌, true, false, nat_eq, List, [], ◌∷◌, ◌++◌, length, Option, Some, None, Result, Ok, Err, arith, refl, sym, ◌∙◌, ap, subst, inl, inr}
use Rattle.std.specs.Prelude.{nat_le, nat_lt, if◌then◌else◌}
use Rattle.std.proofs.lemmas.Bool.{cases_Bool, eqb-true, le-leb}
use Rattle.profile.specs.ErrorNumber.{ErrorNumber}
use Rattle.profile.specs.ErrorNumber.TheVariants.{FlexHoldsAnchor}
use Rattle.os_heap.specs.Bytes.{Bytes}
use Rattle.os_heap.specs.Store.{Store}
use Rattle.flex_store.specs.declared.shift.Shift.{Shift}
use Rattle.flex_store.specs.Blocks.{before, behind_of, Block, contents, cut_of, find_block, FlexStore, has_anchor, block_holding, more_of, new_block, bytes_with_size, bytes_after_splice, bytes_taken_by, bytes_taken_by_all, with_block, without_block}
use Rattle.flex_store.specs.Calls.{flex_after_alloc, breaks_anchor, end_in, flex_after_extend, flex_if_room, FlexState, header_place_in, is_anchor_byte, is_anchor_place, may_stand, mid_extended, spliced_at, with_blocks}
use Rattle.flex_store.specs.Laws.{HasBlocks}
use Rattle.flex_store.specs.Runs.{Alloc, AnswersAreRoom, blocks_after, blocks_changed, Extend, FlexCall, IsFlexCallDone, MidExtend, Release}
use Rattle.flex_store.specs.Shifts.{following, splice_shifts}
use Rattle.flex_store.specs.State.{AreWhole}
use Rattle.flex_store.proofs.Answering.{resized_is}
use Rattle.flex_store.proofs.Filled.{AreFilled, used_with, used_without, whole_filled}
use Rattle.flex_store.proofs.Following.{following_used}
use Rattle.flex_store.proofs.LawLemmas.{Answers, contents_size, found_filled, resized_same, same_answer, spliced_none}

-- blocks that fit, and blocks that don't
abbrev pub fit_if : FlexState → FlexStore → List Block → List Block → Bool → FlexState × Bool
fit_if t s olds news fits = if fits then (with_blocks t s olds news, true) else (t, false)

fit_answer : (t : FlexState) (s : FlexStore) (olds news : List Block) (fits : Bool) (q : FlexState × Bool) → fit_if t s olds news fits ≡ q → q.1 ≡ fits
fit_answer t s olds news true q is = sym (ap (λ (r : FlexState × Bool). r.1) is)
fit_answer t s olds news false q is = sym (ap (λ (r : FlexState × Bool). r.1) is)

fitted_room : (t : FlexState) (s : FlexStore) (olds news bs : List Block) (v : FlexState) (answer : Bool) → bytes_taken_by_all (olds ++ news) ≡ bytes_taken_by_all bs
    → (let given : FlexState × Bool = (v, answer) in Answers (flex_if_room t s olds news) given) → answer ≡ nat_le (s.start + bytes_taken_by_all bs) s.end
fitted_room t s olds news bs v answer same done =
    let given : FlexState × Bool = (v, answer) in
    fit_answer t s olds news (nat_le (s.start + bytes_taken_by_all (olds ++ news)) s.end) given (same_answer (flex_if_room t s olds news) given done)
    ∙ ap (λ (n : ℕ). nat_le (s.start + n) s.end) same

stays_room : (t v : FlexState) (s : FlexStore) (bs : List Block) (answer : Bool)
    → (let was : FlexState × Bool = (t, true) in let given : FlexState × Bool = (v, answer) in Answers was given)
    → s.start + bytes_taken_by_all s.blocks ≤ s.end → bytes_taken_by_all bs ≤ bytes_taken_by_all s.blocks → answer ≡ nat_le (s.start + bytes_taken_by_all bs) s.end
stays_room t v s bs answer done fits fewer =
    let was : FlexState × Bool = (t, true) in
    let given : FlexState × Bool = (v, answer) in
    sym (ap (λ (r : FlexState × Bool). r.1) (same_answer was given done)) ∙ sym (le-leb (s.start + bytes_taken_by_all bs) s.end (omega arith))

-- a block in its place, and those after it with other anchors
used_spliced : (anchor : ℕ) (b new : Block) (ss : List Shift) (bs : List Block) → find_block anchor bs ≡ Some b
    → bytes_taken_by_all (before anchor bs ++ new ∷ following ss (behind_of anchor bs)) ≡ bytes_taken_by_all (with_block anchor new bs)
used_spliced anchor b new ss [] found = absurd (let none : None ≡ Some b = found in cc)
used_spliced anchor b new ss (x ∷ bs) found = elim (cases_Bool (nat_eq x.anchor anchor)) [
  | inl here ↦ rw here (ap (λ (n : ℕ). bytes_taken_by new.size + n) (following_used ss bs))
  | inr other ↦ rw other (ap (λ (n : ℕ). bytes_taken_by x.size + n) (used_spliced anchor b new ss bs (rw other at found)))
]

unbroken : (broken : Bool) (q : FlexState × Bool) (v : FlexState) (answer : Bool)
    → (let r : Result (FlexState × Bool) ErrorNumber = if broken then Err FlexHoldsAnchor else Ok q in r ≡ Ok (v, answer))
    → (let given : FlexState × Bool = (v, answer) in Answers q given)
unbroken true q v answer is = absurd (cc)
unbroken false q v answer is = is

spliced_room : (t : FlexState) (s : FlexStore) (anchor : ℕ) (b : Block) (place cut more : ℕ) (v : FlexState) (answer : Bool) → find_block anchor s.blocks ≡ Some b
    → spliced_at t s anchor b place cut more ≡ Ok (v, answer)
    → answer ≡ nat_le (s.start + bytes_taken_by_all (with_block anchor (block_holding b (bytes_after_splice (contents b) place cut more)) s.blocks)) s.end
spliced_room t s anchor b place cut more v answer found is =
    let new : Block = block_holding b (bytes_after_splice (contents b) place cut more) in
    let shifts : List Shift = splice_shifts (header_place_in s anchor) (end_in s) b.size place cut more in
    let news : List Block = new ∷ following shifts (behind_of anchor s.blocks) in
    fitted_room t s (before anchor s.blocks) news (with_block anchor new s.blocks) v answer (used_spliced anchor b new shifts s.blocks found)
    (unbroken (breaks_anchor (is_anchor_byte s) (header_place_in s anchor + 8) b.size place cut more) (flex_if_room t s (before anchor s.blocks) news) v answer is)

module _ (b : Bytes) (s : FlexStore) (filled : AreFilled s.blocks) (fits : s.start + bytes_taken_by_all s.blocks ≤ s.end) where
  abbrev state : FlexState
  state = record { bytes = b; flex = Some s }

  alloc_room : (places : Store) (v : FlexState) (anchor size : ℕ) (answer : Bool) → flex_after_alloc places (record { bytes = b; flex = Some s }) anchor size ≡ Ok (v, answer)
      → answer ≡ nat_le (s.start + bytes_taken_by_all (s.blocks ++ new_block anchor size ∷ [])) s.end
  unfolding flex_after_alloc
  alloc_room places v anchor size answer is = elim (cases_Bool (is_anchor_place places anchor && may_stand s anchor)) [
    | inr bad ↦ let is' = rw bad at is in absurd (cc)
    | inl may ↦ elim (cases_Bool (has_anchor s.blocks anchor)) [
      | inl used_up ↦ let is' = rw (may, used_up) at is in absurd (cc)
      | inr none ↦ fitted_room state s s.blocks (new_block anchor size ∷ []) (s.blocks ++ new_block anchor size ∷ []) v answer refl (rw (may, none) at is)
    ]
  ]

  extend_room : (v : FlexState) (anchor size : ℕ) (answer : Bool) (found : Option Block) → find_block anchor s.blocks ≡ found
      → flex_after_extend (record { bytes = b; flex = Some s }) anchor size ≡ Ok (v, answer)
      → answer ≡ nat_le (s.start + bytes_taken_by_all (blocks_changed anchor (λ c. bytes_with_size c size) found s.blocks)) s.end
  unfolding flex_after_extend
  extend_room v anchor size answer None none is = let is' = rw none at is in absurd (cc)
  extend_room v anchor size answer (Some x) found is =
      let own : length (contents x) ≡ x.size = contents_size x (found_filled anchor s.blocks x filled found) in
      elim (cases_Bool (nat_eq size x.size)) [
        | inl stays ↦
            let len : length (contents x) ≡ size = own ∙ sym (eqb-true size x.size stays) in
            let same : bytes_taken_by_all (with_block anchor (block_holding x (bytes_with_size (contents x) size)) s.blocks) ≡ bytes_taken_by_all s.blocks =
            used_with anchor x (block_holding x (bytes_with_size (contents x) size)) s.blocks found (ap length (resized_same (contents x) size len) ∙ own) in
            stays_room state v s (with_block anchor (block_holding x (bytes_with_size (contents x) size)) s.blocks) answer (rw (found, stays) at is) fits (omega arith)
        | inr other ↦
            spliced_room state s anchor x x.size (x.size - size) (size - x.size) v answer found (rw (found, other) at is)
            ∙ ap (λ (c : List ℕ). nat_le (s.start + bytes_taken_by_all (with_block anchor (block_holding x c) s.blocks)) s.end) (sym (resized_is (contents x) x.size size own))
      ]

  mid_room : (v : FlexState) (anchor at by : ℕ) (answer : Bool) (found : Option Block) → find_block anchor s.blocks ≡ found → nat_lt at (cut_of by) ≡ false
      → mid_extended (record { bytes = b; flex = Some s }) anchor at by ≡ Ok (v, answer)
      → answer ≡ nat_le (s.start + bytes_taken_by_all (blocks_changed anchor (λ c. bytes_after_splice c at (cut_of by) (more_of by)) found s.blocks)) s.end
  unfolding mid_extended
  mid_room v anchor at by answer None none inside is = let is' = rw (inside, none) at is in absurd (cc)
  mid_room v anchor at by answer (Some x) found inside is = elim (cases_Bool (nat_lt x.size at)) [
    | inl past ↦ let is' = rw (inside, found, past) at is in absurd (cc)
    | inr within ↦ elim (cases_Bool (nat_eq by 0)) [
      | inl none ↦
          let c : List ℕ = bytes_after_splice (contents x) at (cut_of by) (more_of by) in
          let same : c ≡ contents x = spliced_none (contents x) at by (eqb-true by 0 none) in
          let size : bytes_taken_by_all (with_block anchor (block_holding x c) s.blocks) ≡ bytes_taken_by_all s.blocks =
          used_with anchor x (block_holding x c) s.blocks found (ap length same ∙ contents_size x (found_filled anchor s.blocks x filled found)) in
          stays_room state v s (with_block anchor (block_holding x c) s.blocks) answer (rw (inside, found, within, none) at is) fits (omega arith)
      | inr some ↦ spliced_room state s anchor x at (cut_of by) (more_of by) v answer found (rw (inside, found, within, some) at is)
    ]
  ]

  past_range : (v : FlexState) (anchor at by : ℕ) (answer : Bool) → nat_lt at (cut_of by) ≡ true
      → mid_extended (record { bytes = b; flex = Some s }) anchor at by ≡ Ok (v, answer) → ⊥
  unfolding mid_extended
  past_range v anchor at by answer past is = let is' = rw past at is in cc

  call_room : (v : FlexState) (call : FlexCall) (answer : Bool) → IsFlexCallDone (record { bytes = b; flex = Some s }) call answer v
      → answer ≡ nat_le (s.start + bytes_taken_by_all (blocks_after call s.blocks)) s.end
  call_room v (Alloc anchor size) answer done = alloc_room done.0 v anchor size answer done.1
  call_room v (Release anchor) answer done =
      done.0 ∙ sym (le-leb (s.start + bytes_taken_by_all (without_block anchor s.blocks)) s.end (omega (arith, used_without anchor s.blocks, fits)))
  call_room v (Extend anchor size) answer done = extend_room v anchor size answer (find_block anchor s.blocks) refl done
  call_room v (MidExtend anchor at by) answer done = elim (cases_Bool (nat_lt at (cut_of by))) [
    | inl past ↦ absurd (past_range v anchor at by answer past done)
    | inr inside ↦ mid_room v anchor at by answer (find_block anchor s.blocks) refl inside done
  ]

-- the store of a state
some_or : FlexStore → Option FlexStore → FlexStore
some_or y None = y
some_or y (Some z) = z

pub some_same : (x s : FlexStore) → (let o : Option FlexStore = Some x in o ≡ Some s) → x ≡ s
unfolding some_or
some_same x s is = ap (some_or x) is

room_at : (b : Bytes) (o : Option FlexStore) (u : FlexState) (s : FlexStore) (call : FlexCall) (answer : Bool) → HasBlocks o → o ≡ Some s
    → s.start + bytes_taken_by_all s.blocks ≤ s.end → IsFlexCallDone (record { bytes = b; flex = o }) call answer u → answer ≡ nat_le (s.start + bytes_taken_by_all (blocks_after call s.blocks)) s.end
room_at b None u s call answer has is fits done = absurd (cc)
room_at b (Some x) u s call answer has is fits done =
    let same : x ≡ s = some_same x s is in
    let done' : IsFlexCallDone (record { bytes = b; flex = Some s }) call answer u = subst (λ (y : FlexStore). IsFlexCallDone (record { bytes = b; flex = Some y }) call answer u) same done in
    let whole : AreWhole s.blocks = subst (λ (y : FlexStore). AreWhole y.blocks) same has.0 in
    call_room b s (whole_filled s.blocks whole) fits u call answer done'

pub answers_are_room : AnswersAreRoom
answers_are_room t u s call answer has is fits done = room_at t.bytes t.flex u s call answer has is fits done
