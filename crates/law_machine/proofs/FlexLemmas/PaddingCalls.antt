-- The padding of blocks after each call.
use Rattle.std.proofs.Common.{◌≡◌, ℕ, Bool, ◌+◌, ◌-◌, ◌%◌, ◌^◌, ◌<◌, ◌≤◌, true, false, nat_eq, List, [], ◌∷◌, ◌++◌, length, replicate, Option, Some, None, Result, Ok, Err, ok_or, arith, refl, sym, ◌∙◌, ap, inl, inr, subst}
use Rattle.std.specs.Prelude.{if◌then◌else◌, nat_le, nat_lt}
use Rattle.std.proofs.lemmas.Bool.{both_ways, cases_Bool, eq-eqb, eqb-false, eqb-true, ltb-false, ne_eqb}
use Rattle.std.proofs.lemmas.List.{drop-replicate, length-replicate}
use Rattle.std.proofs.Math.Seq.{drop-append_seam}
use Rattle.profile.specs.Outcome.{bind}
use Rattle.profile.specs.ErrorNumber.{ErrorNumber}
use Rattle.profile.specs.ErrorNumber.TheVariants.{FlexBadAnchor, FlexBadRange, FlexNotReady}
use Rattle.address_map.specs.Bytes.{with_word_at, word_start}
use Rattle.os_heap.specs.Store.{Store}
use Rattle.flex_store.specs.Blocks.{Block, contents, cut_of, find_block, FlexStore, has_anchor, block_holding, more_of, new_block, bytes_after_splice, bytes_taken_by, bytes_taken_by_all, whole_words}
use Rattle.flex_store.specs.Calls.{flex_after_alloc, flex_after_extend, FlexState, mid_extended, flex_after_release, spliced_at, with_blocks, state_without_anchor}
use Rattle.flex_store.specs.Memory.{Holds, laid_out, standing, blocks_text_of}
use Rattle.flex_store.specs.Places.{IsSplit}
use Rattle.flex_store.specs.Runs.{Alloc, Extend, FlexCall, MidExtend, Release}
use Rattle.flex_store.specs.Shifts.{following, removal_shifts, Shifts, splice_shifts}
use Rattle.flex_store.proofs.Anchoring.{other_word}
use Rattle.flex_store.proofs.Filled.{whole_filled}
use Rattle.flex_store.proofs.Following.{following_whole}
use Rattle.flex_store.proofs.Holding.{word_beside}
use Rattle.flex_store.proofs.LawLemmas.{contents_size}
use Rattle.flex_store.proofs.Room.{some_same}
use Rattle.flex_store.proofs.Splicing.{filled_length, spliced_length}
use Rattle.law_machine.specs.flex.Laws.{anchor_of_call, IsDoneIn, IsLeftBy, IsOfWords, IsSpelledState, outside_of}
use Rattle.law_machine.specs.flex.Numbered.{Anchor, anchor_from, blocks_seen, IsCalledSeen, list_seen, anchor_place_of}
use Rattle.law_machine.specs.flex.Seen.{seen_bytes}
use Rattle.law_machine.specs.flex.Padding.{all_paddings, IsCalledPadding, IsOwnPadding, padding, padding_left, PaddingGoesByNumbers, paddings, zero_padding}
use Rattle.law_machine.proofs.FlexLemmas.Allocs.{alloc_done, IsAllocated}
use Rattle.law_machine.proofs.FlexLemmas.Calls.{calls_go_by_numbers, changed, some_change}
use Rattle.law_machine.proofs.FlexLemmas.Lists.{list_length, seen_length}
use Rattle.law_machine.proofs.FlexLemmas.OneBlock.{found_has, IsOneBlock, one_block, split_found}
use Rattle.law_machine.proofs.FlexLemmas.Paddings.{AreFilled, Each, each_all, each_left, each_two, laid_paddings, paddings_append, paddings_count, paddings_following, plain}
use Rattle.law_machine.proofs.FlexLemmas.Releases.{release_found}
use Rattle.law_machine.proofs.FlexLemmas.Room.{fitted_by, IsFitted, ok_same, refused}
use Rattle.law_machine.proofs.FlexLemmas.Splices.{done_by}

-- the padding of what is laid out
new_padding : (anchor size : ℕ) → padding (new_block anchor size) ≡ zero_padding size
new_padding anchor size = drop-replicate size (whole_words size) 0

held_padding : (b : Block) (c : List ℕ) → padding (block_holding b c) ≡ zero_padding (length c)
held_padding b c = drop-append_seam c (replicate (whole_words (length c) - length c) 0)

-- A call left blocks, some of them laid out anew.
abbrev laid_store : FlexStore → (ℕ → ℕ) → List Block → List Block → FlexStore
laid_store s cleared olds news = record {
  start = s.start;
  end = s.end;
  blocks = standing (laid_out (s.start + bytes_taken_by_all olds) news cleared) s.start (olds ++ news);
}

-- blocks that a call leaves, which memory spells
record IsLeft (u : FlexState) (s : FlexStore) : Type 0 where
  blocks : List Block
  flex : u.flex ≡ Some (record { start = s.start; end = s.end; blocks = blocks })
  spelled : IsSpelledState u (record { start = s.start; end = s.end; blocks = blocks })

paddings_then : (t u : FlexState) (s : FlexStore) (cleared : ℕ → ℕ) (olds news : List Block) → IsLeft u s → u.flex ≡ Some (laid_store s cleared olds news) → AreFilled olds
    → Holds t.bytes.at s.start (blocks_text_of olds) → AreFilled news → Each (λ a. cleared a ≡ t.bytes.at a) s.start olds
    → all_paddings u.flex ≡ paddings olds ++ paddings news
paddings_then t u s cleared olds news left flex old_filled old_text new_filled same =
    let was : FlexStore = record { start = s.start; end = s.end; blocks = left.blocks } in
    let is : was ≡ laid_store s cleared olds news = some_same was (laid_store s cleared olds news) (sym left.flex ∙ flex) in
    ap all_paddings flex
    ∙ laid_paddings u s.start s.end t.bytes.at cleared olds news (subst (IsSpelledState u) is left.spelled) old_filled old_text new_filled same

-- an alloc
alloc_padding : (places : Store) (t u : FlexState) (s : FlexStore) (anchor size : ℕ) → t.flex ≡ Some s → IsSpelledState t s → IsLeft u s
    → flex_after_alloc places t anchor size ≡ Ok (u, true) → all_paddings u.flex ≡ paddings s.blocks ++ zero_padding size ∷ []
alloc_padding places t u s anchor size own sp left done =
    let d : IsAllocated places t u s anchor size = alloc_done places t u s anchor size own done in
    let f : IsFitted t u s s.blocks (new_block anchor size ∷ []) =
    fitted_by t u s s.blocks (new_block anchor size ∷ []) (nat_le (s.start + bytes_taken_by_all (s.blocks ++ new_block anchor size ∷ [])) s.end) refl d.fits in
    paddings_then t u s t.bytes.at s.blocks (new_block anchor size ∷ []) left f.flex (whole_filled s.blocks sp.whole) sp.text
    (length-replicate (whole_words size) 0, tt) (each_all (λ a. t.bytes.at a ≡ t.bytes.at a) s.start s.blocks (λ a. refl))
    ∙ ap (λ (l : List ℕ). paddings s.blocks ++ l ∷ []) (new_padding anchor size)

-- One block of the store is looked at.
module _ (t u : FlexState) (s : FlexStore) (anchor : ℕ) (front after : List Block) (b : Block) (sp : IsSpelledState t s)
    (p : IsSplit anchor s.blocks front b after) (left : IsLeft u s) where
  abbrev mark : ℕ → Bool
  mark = λ q. has_anchor (front ++ b ∷ after) (word_start q)

  abbrev place_then : ℕ → Anchor
  place_then = λ a. anchor_from 0 s.start (front ++ b ∷ after) a

  known : IsOneBlock t s anchor front after b
  known = one_block t s anchor front after b sp p

  was_padding : paddings s.blocks ≡ paddings front ++ padding b ∷ paddings after
  was_padding = ap paddings p.list ∙ paddings_append front (b ∷ after)

  own_size : length (seen_bytes mark (s.start + bytes_taken_by_all front + 8) (contents b)) ≡ b.size
  own_size = seen_length mark (s.start + bytes_taken_by_all front + 8) (contents b) ∙ contents_size b known.own_whole.0.0

  own_padding : (change : ℕ → List ℕ → List (List ℕ)) (q : List (List ℕ)) → q ≡ paddings front ++ (change b.size (padding b) ++ paddings after)
      → (let o : Option FlexStore = Some s in IsOwnPadding (anchor_place_of s anchor) (blocks_seen o) change (paddings s.blocks) q)
  own_padding change q is = record {
    block = record {
      front = list_seen mark place_then s.start front;
      own = seen_bytes mark (s.start + bytes_taken_by_all front + 8) (contents b);
      rest = list_seen mark place_then (s.start + bytes_taken_by_all front + bytes_taken_by b.size) after;
      is = known.list_is;
    };
    front = paddings front;
    own = padding b;
    rest = paddings after;
    number = paddings_count front ∙ sym (list_length mark place_then s.start front);
    was = was_padding;
    now = is ∙ ap (λ (n : ℕ). paddings front ++ (change n (padding b) ++ paddings after)) (sym own_size);
  }

  -- it goes
  cleared_same : (a : ℕ) → has_anchor s.blocks (word_start a) ≡ false → with_word_at t.bytes.at anchor 0 a ≡ t.bytes.at a
  cleared_same a none =
      let aligned : anchor % 4 ≡ 0 = ap (λ (x : ℕ). x % 4) (sym p.anchor) ∙ known.own_word in
      word_beside t.bytes.at anchor 0 a (other_word anchor a aligned (λ here.
      both_ways (has_anchor s.blocks (word_start a)) none (ap (has_anchor s.blocks) here ∙ found_has anchor s.blocks b p.found)))

  front_cleared : Each (λ a. with_word_at t.bytes.at anchor 0 a ≡ t.bytes.at a) s.start front
  front_cleared =
      each_two (λ a. has_anchor s.blocks (word_start a) ≡ false) (λ a. Unit {0}) (λ a. with_word_at t.bytes.at anchor 0 a ≡ t.bytes.at a) s.start front
      (λ a none any. cleared_same a none)
      (each_left (λ a. has_anchor s.blocks (word_start a) ≡ false) s.start front (b ∷ after)
      (subst (Each (λ a. has_anchor s.blocks (word_start a) ≡ false) s.start) p.list (plain t s sp)))
      (each_all (λ a. Unit {0}) s.start front (λ a. tt))

  removed_padding : (ss : Shifts) → u ≡ with_blocks (state_without_anchor t anchor) s front (following ss after)
      → (let o : Option FlexStore = Some s in IsOwnPadding (anchor_place_of s anchor) (blocks_seen o) (λ old own. []) (paddings s.blocks) (all_paddings u.flex))
  removed_padding ss done =
      own_padding (λ old own. []) (all_paddings u.flex)
      (paddings_then t u s (with_word_at t.bytes.at anchor 0) front (following ss after) left (ap (λ (v : FlexState). v.flex) done)
      (whole_filled front known.front_whole) known.front_text (whole_filled (following ss after) (following_whole ss after known.own_whole.1)) front_cleared
      ∙ ap (λ (l : List (List ℕ)). paddings front ++ l) (paddings_following ss after))

  -- it is changed, or stays as it is
  spliced_padding : (place cut more : ℕ) → cut ≤ place → place ≤ b.size → 0 < cut + more → spliced_at t s anchor b place cut more ≡ Ok (u, true)
      → all_paddings u.flex ≡ paddings front ++ zero_padding (b.size - cut + more) ∷ paddings after
  spliced_padding place cut more cut_fits place_fits some done =
      let ss : Shifts = splice_shifts (s.start + bytes_taken_by_all front) (s.start + bytes_taken_by_all s.blocks) b.size place cut more in
      let c : List ℕ = bytes_after_splice (contents b) place cut more in
      let d : IsFitted t u s front (block_holding b c ∷ following ss after) = done_by t u s anchor front after b place cut more sp p cut_fits place_fits some done in
      let whole : length (contents b) ≡ b.size = contents_size b known.own_whole.0.0 in
      let count : length c ≡ b.size - cut + more =
      spliced_length (contents b) place cut more (omega (arith, whole, place_fits)) ∙ omega (arith, whole, cut_fits, place_fits) in
      paddings_then t u s t.bytes.at front (block_holding b c ∷ following ss after) left d.flex
      (whole_filled front known.front_whole) known.front_text
      (filled_length c, whole_filled (following ss after) (following_whole ss after known.own_whole.1))
      (each_all (λ a. t.bytes.at a ≡ t.bytes.at a) s.start front (λ a. refl))
      ∙ (λ i. paddings front ++ (held_padding b c ∙ ap zero_padding count) i ∷ paddings_following ss after i)

  changed_padding : (place cut more new : ℕ) (same : Bool) → t.flex ≡ Some s → cut ≤ place → place ≤ b.size → b.size - cut + more ≡ new
      → (same ≡ true → new ≡ b.size) → (same ≡ false → (0 < cut + more) × (new ≡ b.size → ⊥)) → changed t s anchor b place cut more same ≡ Ok (u, true)
      → all_paddings u.flex ≡ paddings front ++ padding_left b.size new (padding b) ∷ paddings after
  changed_padding place cut more new true own cut_fits place_fits size stays grows done =
      let e : t ≡ u = ap (λ (q : FlexState × Bool). q.0) (ok_same (t, true) (u, true) done) in
      rw (eq-eqb new b.size (stays refl)) (ap (λ (v : FlexState). all_paddings v.flex) (sym e) ∙ (ap all_paddings own ∙ was_padding))
  changed_padding place cut more new false own cut_fits place_fits size stays grows done =
      let other = grows refl in
      rw (ne_eqb new b.size other.1)
      (spliced_padding place cut more cut_fits place_fits other.0 done
      ∙ ap (λ (n : ℕ). paddings front ++ zero_padding n ∷ paddings after) size)

-- a release
release_padding : (t u : FlexState) (s : FlexStore) (anchor : ℕ) → t.flex ≡ Some s → IsSpelledState t s → IsLeft u s → flex_after_release t anchor ≡ Ok (u, tt)
    → (let o : Option FlexStore = Some s in IsOwnPadding (anchor_place_of s anchor) (blocks_seen o) (λ old own. []) (paddings s.blocks) (all_paddings u.flex))
release_padding t u s anchor own sp left done =
    let r = release_found t u s anchor (find_block anchor s.blocks) refl own done in
    let b : Block = r.0 in
    let p = split_found anchor s.blocks b r.1.0 in
    let is : IsSplit anchor s.blocks p.0.before b p.0.after = p.1 in
    removed_padding t u s anchor p.0.before p.0.after b sp is left (removal_shifts (s.start + bytes_taken_by_all p.0.before) (s.start + bytes_taken_by_all s.blocks) b.size)
    (r.1.1.is ∙ (λ i. with_blocks (state_without_anchor t anchor) s (is.front_is i) (following (removal_shifts (s.start + bytes_taken_by_all (is.front_is i)) (s.start + bytes_taken_by_all s.blocks) b.size) (is.rest_is i))))

-- an extend that was done
extend_by : (t u : FlexState) (s : FlexStore) (anchor size : ℕ) (o : Option Block)
    → bind (ok_or o FlexBadAnchor) (λ b. changed t s anchor b b.size (b.size - size) (size - b.size) (nat_eq size b.size)) ≡ Ok (u, true)
    → (b : Block) × ((o ≡ Some b) × (changed t s anchor b b.size (b.size - size) (size - b.size) (nat_eq size b.size) ≡ Ok (u, true)))
extend_by t u s anchor size None done = absurd (refused FlexBadAnchor (u, true) done)
extend_by t u s anchor size (Some b) done = (b, (refl, done))

extend_done : (t u : FlexState) (s : FlexStore) (anchor size : ℕ) → t.flex ≡ Some s → flex_after_extend t anchor size ≡ Ok (u, true)
    → (b : Block) × ((find_block anchor s.blocks ≡ Some b) × (changed t s anchor b b.size (b.size - size) (size - b.size) (nat_eq size b.size) ≡ Ok (u, true)))
unfolding flex_after_extend
extend_done t u s anchor size own done =
    let next : FlexStore → Result (FlexState × Bool) ErrorNumber = λ x. bind (ok_or (find_block anchor x.blocks) FlexBadAnchor) (λ b. changed t x anchor b b.size (b.size - size) (size - b.size) (nat_eq size b.size)) in
    extend_by t u s anchor size (find_block anchor s.blocks) (subst (λ (o : Option FlexStore). bind (ok_or o FlexNotReady) next ≡ Ok (u, true)) own done)

extend_padding : (t u : FlexState) (s : FlexStore) (anchor size : ℕ) → t.flex ≡ Some s → IsSpelledState t s → IsLeft u s → flex_after_extend t anchor size ≡ Ok (u, true)
    → (let o : Option FlexStore = Some s in IsOwnPadding (anchor_place_of s anchor) (blocks_seen o) (λ old own. padding_left old size own ∷ []) (paddings s.blocks) (all_paddings u.flex))
extend_padding t u s anchor size own sp left done =
    let r = extend_done t u s anchor size own done in
    let b : Block = r.0 in
    let p = split_found anchor s.blocks b r.1.0 in
    own_padding t u s anchor p.0.before p.0.after b sp p.1 left (λ old own. padding_left old size own ∷ []) (all_paddings u.flex)
    (changed_padding t u s anchor p.0.before p.0.after b sp p.1 left b.size (b.size - size) (size - b.size) size (nat_eq size b.size) own (omega arith) (omega arith)
    (omega arith) (λ same. eqb-true size b.size same)
    (λ other. let differs = eqb-false size b.size other in
    (some_change (b.size - size) (size - b.size) (λ one two. differs (omega (arith, one, two))), differs)) r.1.1)

-- a middle extend that was done
record IsMid (t u : FlexState) (s : FlexStore) (anchor at by : ℕ) (b : Block) : Type 0 where
  found : find_block anchor s.blocks ≡ Some b
  cut : cut_of by ≤ at
  place : at ≤ b.size
  done : changed t s anchor b at (cut_of by) (more_of by) (nat_eq by 0) ≡ Ok (u, true)

mid_place : (t u : FlexState) (s : FlexStore) (anchor at by : ℕ) (b : Block) (past : Bool) → nat_lt b.size at ≡ past → find_block anchor s.blocks ≡ Some b → cut_of by ≤ at
    → (let r : Result (FlexState × Bool) ErrorNumber = if past then Err FlexBadRange else changed t s anchor b at (cut_of by) (more_of by) (nat_eq by 0) in r ≡ Ok (u, true))
    → IsMid t u s anchor at by b
mid_place t u s anchor at by b true past found fits done = absurd (refused FlexBadRange (u, true) done)
mid_place t u s anchor at by b false past found fits done = record { found = found; cut = fits; place = ltb-false b.size at past; done = done }

mid_found : (t u : FlexState) (s : FlexStore) (anchor at by : ℕ) (o : Option Block) → find_block anchor s.blocks ≡ o → cut_of by ≤ at
    → bind (ok_or o FlexBadAnchor) (λ b. if nat_lt b.size at then Err FlexBadRange else changed t s anchor b at (cut_of by) (more_of by) (nat_eq by 0)) ≡ Ok (u, true)
    → (b : Block) × IsMid t u s anchor at by b
mid_found t u s anchor at by None found fits done = absurd (refused FlexBadAnchor (u, true) done)
mid_found t u s anchor at by (Some b) found fits done = (b, mid_place t u s anchor at by b (nat_lt b.size at) refl found fits done)

mid_cut : (t u : FlexState) (s : FlexStore) (anchor at by : ℕ) (before : Bool) → nat_lt at (cut_of by) ≡ before
    → (let r : Result (FlexState × Bool) ErrorNumber = if before then Err FlexBadRange else
    bind (ok_or (find_block anchor s.blocks) FlexBadAnchor) (λ b. if nat_lt b.size at then Err FlexBadRange else changed t s anchor b at (cut_of by) (more_of by) (nat_eq by 0)) in r ≡ Ok (u, true))
    → (b : Block) × IsMid t u s anchor at by b
mid_cut t u s anchor at by true before done = absurd (refused FlexBadRange (u, true) done)
mid_cut t u s anchor at by false before done = mid_found t u s anchor at by (find_block anchor s.blocks) refl (ltb-false at (cut_of by) before) done

mid_done : (t u : FlexState) (s : FlexStore) (anchor at by : ℕ) → t.flex ≡ Some s → mid_extended t anchor at by ≡ Ok (u, true) → (b : Block) × IsMid t u s anchor at by b
unfolding mid_extended
mid_done t u s anchor at by own done =
    let next : FlexStore → Result (FlexState × Bool) ErrorNumber = λ x. if nat_lt at (cut_of by) then Err FlexBadRange else
    bind (ok_or (find_block anchor x.blocks) FlexBadAnchor) (λ b. if nat_lt b.size at then Err FlexBadRange else changed t x anchor b at (cut_of by) (more_of by) (nat_eq by 0)) in
    mid_cut t u s anchor at by (nat_lt at (cut_of by)) refl (subst (λ (o : Option FlexStore). bind (ok_or o FlexNotReady) next ≡ Ok (u, true)) own done)

-- it gives the block another size
mid_changes : (size at by : ℕ) → by < 2 ^ 32 → (by ≡ 0 → ⊥) → cut_of by ≤ at → at ≤ size
    → (0 < cut_of by + more_of by) × (size - cut_of by + more_of by ≡ size → ⊥)
mid_changes size at by word some cut place = elim (cases_Bool (nat_le (2 ^ 31) by)) [
  | inl high ↦
      let cut' : 2 ^ 32 - by ≤ at = rw high at cut in
      rw high (omega (arith, word), λ same. omega (arith, same, cut', place, word))
  | inr low ↦
      let above : 0 < by = omega (arith, some_change by 0 (λ one two. some one)) in
      rw low (omega (arith, above), λ same. omega (arith, same, above))
]

mid_padding : (t u : FlexState) (s : FlexStore) (anchor at by : ℕ) → by < 2 ^ 32 → t.flex ≡ Some s → IsSpelledState t s → IsLeft u s → mid_extended t anchor at by ≡ Ok (u, true)
    → (let o : Option FlexStore = Some s in IsOwnPadding (anchor_place_of s anchor) (blocks_seen o) (λ old own. padding_left old (old - cut_of by + more_of by) own ∷ []) (paddings s.blocks) (all_paddings u.flex))
mid_padding t u s anchor at by word own sp left done =
    let r = mid_done t u s anchor at by own done in
    let b : Block = r.0 in
    let p = split_found anchor s.blocks b r.1.found in
    own_padding t u s anchor p.0.before p.0.after b sp p.1 left (λ old own. padding_left old (old - cut_of by + more_of by) own ∷ []) (all_paddings u.flex)
    (changed_padding t u s anchor p.0.before p.0.after b sp p.1 left at (cut_of by) (more_of by) (b.size - cut_of by + more_of by) (nat_eq by 0) own r.1.cut r.1.place
    refl (λ none. let e : by ≡ 0 = eqb-true by 0 none in
    let same : b.size - 0 + 0 ≡ b.size = omega arith in
    ap (λ (n : ℕ). b.size - cut_of n + more_of n) e ∙ same)
    (λ some. mid_changes b.size at by word (eqb-false by 0 some) r.1.cut r.1.place) r.1.done)

padding_by : (places : Store) (t u : FlexState) (s : FlexStore) (call : FlexCall) → IsOfWords call → t.flex ≡ Some s → IsSpelledState t s → IsLeft u s
    → IsDoneIn places t call u
    → (let o : Option FlexStore = Some s in IsCalledPadding call (anchor_place_of s (anchor_of_call call)) (blocks_seen o) (paddings s.blocks) (all_paddings u.flex))
padding_by places t u s (Alloc anchor size) word own sp left done = alloc_padding places t u s anchor size own sp left done
padding_by places t u s (Release anchor) word own sp left done = release_padding t u s anchor own sp left done
padding_by places t u s (Extend anchor size) word own sp left done = extend_padding t u s anchor size own sp left done
padding_by places t u s (MidExtend anchor at by) word own sp left done = mid_padding t u s anchor at by word own sp left done

pub padding_goes_by_numbers : PaddingGoesByNumbers
padding_goes_by_numbers places t u s call word own sp bytes low done =
    let o : Option FlexStore = Some s in
    let left : IsLeftBy places t u s (outside_of call) (IsCalledSeen call (anchor_place_of s (anchor_of_call call)) (blocks_seen o)) =
    calls_go_by_numbers places t u s call word own sp bytes low done in
    padding_by places t u s call word own sp (record { blocks = left.blocks; flex = left.flex; spelled = left.spelled }) done
