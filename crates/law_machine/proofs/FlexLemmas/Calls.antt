-- Each call by the numbers of blocks.
use Rattle.std.proofs.Common.{◌≡◌, ℕ, Bool, ◌+◌, ◌-◌, ◌^◌, ◌<◌, ◌≤◌, true, false, not, ◌&&◌, nat_eq, List, [], ◌∷◌, ◌++◌, Option, Some, None, Result, Ok, Err, ok_or, arith, refl, sym, ap, inl, inr, subst}
use Rattle.std.specs.Prelude.{if◌then◌else◌, nat_le, nat_lt}
use Rattle.std.proofs.lemmas.Bool.{cases_Bool, cases_lt, eqb-false, eqb-true, false≢true, ltb-false}
use Rattle.profile.specs.Outcome.{bind}
use Rattle.profile.specs.ErrorNumber.{ErrorNumber}
use Rattle.profile.specs.ErrorNumber.TheVariants.{FlexAnchorInUse, FlexBadAnchor, FlexBadRange, FlexHoldsAnchor, FlexNotReady}
use Rattle.os_heap.specs.Store.{Store}
use Rattle.flex_store.specs.Blocks.{before, behind_of, Block, contents, cut_of, find_block, FlexStore, has_anchor, block_holding, more_of, new_block, bytes_after_splice, bytes_taken_by_all}
use Rattle.flex_store.specs.Calls.{flex_after_alloc, breaks_anchor, end_in, flex_after_extend, FlexState, header_place_in, is_anchor_byte, is_anchor_place, may_stand, mid_extended, spliced_at, with_blocks}
use Rattle.flex_store.specs.Shifts.{following, splice_shifts}
use Rattle.flex_store.specs.Runs.{Alloc, Extend, MidExtend, Release}
use Rattle.law_machine.specs.flex.Laws.{all_stay, CallsGoByNumbers, IsLeftBy, IsSpelledState, NoRoomChangesNothing}
use Rattle.law_machine.specs.flex.Numbered.{blocks_seen, IsCalledSeen, IsSplicedSeen, anchor_place_of}
use Rattle.law_machine.proofs.FlexLemmas.Allocs.{alloc_goes_by_numbers}
use Rattle.law_machine.proofs.FlexLemmas.OneBlock.{split_found}
use Rattle.law_machine.proofs.FlexLemmas.Releases.{release_goes_by_numbers}
use Rattle.law_machine.proofs.FlexLemmas.Room.{ok_same, refused}
use Rattle.law_machine.proofs.FlexLemmas.Same.{same_left}
use Rattle.law_machine.proofs.FlexLemmas.Splices.{splice_goes_by_numbers}

-- a block that is found is changed, or nothing is
abbrev pub changed : FlexState → FlexStore → ℕ → Block → ℕ → ℕ → ℕ → Bool → Result (FlexState × Bool) ErrorNumber
changed t s anchor b place cut more same = if same then Ok (t, true) else spliced_at t s anchor b place cut more

pub some_change : (cut more : ℕ) → ((cut ≡ 0) → (more ≡ 0) → ⊥) → 0 < cut + more
some_change cut more some = elim (cases_lt 0 (cut + more)) [ inl above ↦ above | inr none ↦ absurd (some (omega (arith, none)) (omega (arith, none))) ]

module _ (places : Store) (t u : FlexState) (s : FlexStore) (anchor : ℕ) (own : t.flex ≡ Some s) (sp : IsSpelledState t s) where
  change_by : (b : Block) (place cut more : ℕ) (same : Bool) → find_block anchor s.blocks ≡ Some b → cut ≤ place → place ≤ b.size
      → (same ≡ true → (cut ≡ 0) × (more ≡ 0)) → (same ≡ false → 0 < cut + more) → changed t s anchor b place cut more same ≡ Ok (u, true)
      → (let o : Option FlexStore = Some s in IsLeftBy places t u s (all_stay anchor) (IsSplicedSeen (anchor_place_of s anchor) b.size place cut more (blocks_seen o)))
  change_by b place cut more false found cut_fits place_fits none some done = splice_goes_by_numbers places t u s anchor b place cut more sp found cut_fits place_fits (some refl) done
  change_by b place cut more true found cut_fits place_fits none some done =
      let e : t ≡ u = ap (λ (q : FlexState × Bool). q.0) (ok_same (t, true) (u, true) done) in
      let p = split_found anchor s.blocks b found in
      let left = same_left t s anchor p.0.before p.0.after b place sp p.1 places own in
      let numbers = none refl in
      subst (λ (v : FlexState). IsLeftBy places t v s (all_stay anchor) (IsSplicedSeen (anchor_place_of s anchor) b.size place cut more (blocks_seen (Some s)))) e
      (subst (λ (n : ℕ). IsLeftBy places t t s (all_stay anchor) (IsSplicedSeen (anchor_place_of s anchor) b.size place n more (blocks_seen (Some s)))) (sym numbers.0)
      (subst (λ (n : ℕ). IsLeftBy places t t s (all_stay anchor) (IsSplicedSeen (anchor_place_of s anchor) b.size place 0 n (blocks_seen (Some s)))) (sym numbers.1) left))

  extend_found : (size : ℕ) (o : Option Block) → find_block anchor s.blocks ≡ o
      → bind (ok_or o FlexBadAnchor) (λ b. changed t s anchor b b.size (b.size - size) (size - b.size) (nat_eq size b.size)) ≡ Ok (u, true)
      → (b : Block) × (let o : Option FlexStore = Some s in IsLeftBy places t u s (all_stay anchor) (IsSplicedSeen (anchor_place_of s anchor) b.size b.size (b.size - size) (size - b.size) (blocks_seen o)))
  extend_found size None found done = absurd (refused FlexBadAnchor (u, true) done)
  extend_found size (Some b) found done = (
    b,
    change_by b b.size (b.size - size) (size - b.size) (nat_eq size b.size) found (omega arith) (omega arith)
        (λ same. let e : size ≡ b.size = eqb-true size b.size same in (omega (arith, e), omega (arith, e)))
        (λ other. some_change (b.size - size) (size - b.size) (λ one two. eqb-false size b.size other (omega (arith, one, two)))) done,
  )

  mid_by : (b : Block) (at by : ℕ) (past : Bool) → by < 2 ^ 32 → nat_lt b.size at ≡ past → find_block anchor s.blocks ≡ Some b → cut_of by ≤ at
      → (let r : Result (FlexState × Bool) ErrorNumber = if past then Err FlexBadRange else changed t s anchor b at (cut_of by) (more_of by) (nat_eq by 0) in r ≡ Ok (u, true))
      → (let o : Option FlexStore = Some s in IsLeftBy places t u s (all_stay anchor) (IsSplicedSeen (anchor_place_of s anchor) b.size at (cut_of by) (more_of by) (blocks_seen o)))
  mid_by b at by true word past found fits done = absurd (refused FlexBadRange (u, true) done)
  mid_by b at by false word past found fits done = change_by b at (cut_of by) (more_of by) (nat_eq by 0) found fits (ltb-false b.size at past)
      (λ none. let e : by ≡ 0 = eqb-true by 0 none in (ap cut_of e, ap more_of e)) (λ some. some_by by word (eqb-false by 0 some)) done where
        some_by : (by : ℕ) → by < 2 ^ 32 → (by ≡ 0 → ⊥) → 0 < cut_of by + more_of by
        some_by by word some = elim (cases_Bool (nat_le (2 ^ 31) by)) [
          | inl high ↦ rw high (omega (arith, word))
          | inr low ↦ rw low (omega (arith, some_change by 0 (λ one two. some one)))
        ]

  mid_found : (at by : ℕ) (o : Option Block) → by < 2 ^ 32 → find_block anchor s.blocks ≡ o → cut_of by ≤ at
      → bind (ok_or o FlexBadAnchor) (λ b. if nat_lt b.size at then Err FlexBadRange else changed t s anchor b at (cut_of by) (more_of by) (nat_eq by 0)) ≡ Ok (u, true)
      → (b : Block) × (let o : Option FlexStore = Some s in IsLeftBy places t u s (all_stay anchor) (IsSplicedSeen (anchor_place_of s anchor) b.size at (cut_of by) (more_of by) (blocks_seen o)))
  mid_found at by None word found fits done = absurd (refused FlexBadAnchor (u, true) done)
  mid_found at by (Some b) word found fits done = (b, mid_by b at by (nat_lt b.size at) word refl found fits done)

  mid_range : (at by : ℕ) (before : Bool) → by < 2 ^ 32 → nat_lt at (cut_of by) ≡ before
      → (let r : Result (FlexState × Bool) ErrorNumber = if before then Err FlexBadRange else
      bind (ok_or (find_block anchor s.blocks) FlexBadAnchor) (λ b. if nat_lt b.size at then Err FlexBadRange else changed t s anchor b at (cut_of by) (more_of by) (nat_eq by 0)) in r ≡ Ok (u, true))
      → (b : Block) × (let o : Option FlexStore = Some s in IsLeftBy places t u s (all_stay anchor) (IsSplicedSeen (anchor_place_of s anchor) b.size at (cut_of by) (more_of by) (blocks_seen o)))
  mid_range at by true word before done = absurd (refused FlexBadRange (u, true) done)
  mid_range at by false word before done = mid_found at by (find_block anchor s.blocks) word refl (ltb-false at (cut_of by) before) done

-- a rule that names the size of a block, and one that leaves it open
with_size : (places : Store) (t u : FlexState) (s : FlexStore) (place cut more : ℕ → ℕ) (anchor n : ℕ)
    → (let o : Option FlexStore = Some s in IsLeftBy places t u s (all_stay anchor) (IsSplicedSeen (anchor_place_of s anchor) n (place n) (cut n) (more n) (blocks_seen o)))
    → (let o : Option FlexStore = Some s in IsLeftBy places t u s (all_stay anchor) (λ q. (old : ℕ) × IsSplicedSeen (anchor_place_of s anchor) old (place old) (cut old) (more old) (blocks_seen o) q))
with_size places t u s place cut more anchor n left = record {
  blocks = left.blocks;
  flex = left.flex;
  spelled = left.spelled;
  seen = (n, left.seen);
  aligned = left.aligned;
  had = left.had;
  mapped = left.mapped;
  anchors = left.anchors;
  bytes = left.bytes;
  kept = left.kept;
  came = left.came;
  small = left.small;
}

extend_goes : (places : Store) (t u : FlexState) (s : FlexStore) (anchor size : ℕ) → t.flex ≡ Some s → IsSpelledState t s → flex_after_extend t anchor size ≡ Ok (u, true)
    → (let o : Option FlexStore = Some s in IsLeftBy places t u s (all_stay anchor) (IsCalledSeen (Extend anchor size) (anchor_place_of s anchor) (blocks_seen o)))
unfolding flex_after_extend
extend_goes places t u s anchor size own sp done =
    let next : FlexStore → Result (FlexState × Bool) ErrorNumber = λ x. bind (ok_or (find_block anchor x.blocks) FlexBadAnchor) (λ b. changed t x anchor b b.size (b.size - size) (size - b.size) (nat_eq size b.size)) in
    let found = extend_found places t u s anchor own sp size (find_block anchor s.blocks) refl (subst (λ (o : Option FlexStore). bind (ok_or o FlexNotReady) next ≡ Ok (u, true)) own done) in
    with_size places t u s (λ n. n) (λ n. n - size) (λ n. size - n) anchor found.0.size found.1

mid_goes : (places : Store) (t u : FlexState) (s : FlexStore) (anchor at by : ℕ) → by < 2 ^ 32 → t.flex ≡ Some s → IsSpelledState t s → mid_extended t anchor at by ≡ Ok (u, true)
    → (let o : Option FlexStore = Some s in IsLeftBy places t u s (all_stay anchor) (IsCalledSeen (MidExtend anchor at by) (anchor_place_of s anchor) (blocks_seen o)))
unfolding mid_extended
mid_goes places t u s anchor at by word own sp done =
    let next : FlexStore → Result (FlexState × Bool) ErrorNumber = λ x. if nat_lt at (cut_of by) then Err FlexBadRange else
    bind (ok_or (find_block anchor x.blocks) FlexBadAnchor) (λ b. if nat_lt b.size at then Err FlexBadRange else changed t x anchor b at (cut_of by) (more_of by) (nat_eq by 0)) in
    let found = mid_range places t u s anchor own sp at by (nat_lt at (cut_of by)) word refl (subst (λ (o : Option FlexStore). bind (ok_or o FlexNotReady) next ≡ Ok (u, true)) own done) in
    with_size places t u s (λ n. at) (λ n. cut_of by) (λ n. more_of by) anchor found.0.size found.1

pub calls_go_by_numbers : CallsGoByNumbers
calls_go_by_numbers places t u s (Alloc anchor size) word own sp bytes low done = alloc_goes_by_numbers places t u s anchor size own sp bytes low done
calls_go_by_numbers places t u s (Release anchor) word own sp bytes low done = release_goes_by_numbers places t u s anchor own sp done
calls_go_by_numbers places t u s (Extend anchor size) word own sp bytes low done = extend_goes places t u s anchor size own sp done
calls_go_by_numbers places t u s (MidExtend anchor at by) word own sp bytes low done = mid_goes places t u s anchor at by word own sp done

-- Where there is no room nothing is changed.
none_by : (broken fits : Bool) (t u w : FlexState)
    → (let r : Result (FlexState × Bool) ErrorNumber = if broken then Err FlexHoldsAnchor else Ok (if fits then (w, true) else (t, false)) in r ≡ Ok (u, false)) → u ≡ t
none_by true fits t u w e = absurd (refused FlexHoldsAnchor (u, false) e)
none_by false true t u w e = absurd (false≢true (sym (ap (λ (q : FlexState × Bool). q.1) (ok_same (w, true) (u, false) e))))
none_by false false t u w e = sym (ap (λ (q : FlexState × Bool). q.0) (ok_same (t, false) (u, false) e))

none_changed : (t u : FlexState) (s : FlexStore) (anchor : ℕ) (b : Block) (place cut more : ℕ) (same : Bool) → changed t s anchor b place cut more same ≡ Ok (u, false) → u ≡ t
none_changed t u s anchor b place cut more true e = absurd (false≢true (sym (ap (λ (q : FlexState × Bool). q.1) (ok_same (t, true) (u, false) e))))
none_changed t u s anchor b place cut more false e =
    let news : List Block = block_holding b (bytes_after_splice (contents b) place cut more) ∷ following (splice_shifts (header_place_in s anchor) (end_in s) b.size place cut more) (behind_of anchor s.blocks) in
    none_by (breaks_anchor (is_anchor_byte s) (header_place_in s anchor + 8) b.size place cut more) (nat_le (s.start + bytes_taken_by_all (before anchor s.blocks ++ news)) s.end) t u
    (with_blocks t s (before anchor s.blocks) news) e

none_found : (t u : FlexState) (o : Option Block) (next : Block → Result (FlexState × Bool) ErrorNumber) → ((b : Block) → next b ≡ Ok (u, false) → u ≡ t)
    → bind (ok_or o FlexBadAnchor) next ≡ Ok (u, false) → u ≡ t
none_found t u None next by e = absurd (refused FlexBadAnchor (u, false) e)
none_found t u (Some b) next by e = by b e

none_past : (t u : FlexState) (past : Bool) (r : Result (FlexState × Bool) ErrorNumber) → (r ≡ Ok (u, false) → u ≡ t)
    → (let q : Result (FlexState × Bool) ErrorNumber = if past then Err FlexBadRange else r in q ≡ Ok (u, false)) → u ≡ t
none_past t u true r by e = absurd (refused FlexBadRange (u, false) e)
none_past t u false r by e = by e

none_ready : (t u : FlexState) (o : Option FlexStore) (next : FlexStore → Result (FlexState × Bool) ErrorNumber) → ((s : FlexStore) → next s ≡ Ok (u, false) → u ≡ t)
    → bind (ok_or o FlexNotReady) next ≡ Ok (u, false) → u ≡ t
none_ready t u None next by e = absurd (refused FlexNotReady (u, false) e)
none_ready t u (Some s) next by e = by s e

none_extended : (t u : FlexState) (anchor size : ℕ) → flex_after_extend t anchor size ≡ Ok (u, false) → u ≡ t
unfolding flex_after_extend
none_extended t u anchor size e = none_ready t u t.flex _ (λ s found.
    none_found t u (find_block anchor s.blocks) _ (λ b last. none_changed t u s anchor b b.size (b.size - size) (size - b.size) (nat_eq size b.size) last) found) e

none_mid : (t u : FlexState) (anchor at by : ℕ) → mid_extended t anchor at by ≡ Ok (u, false) → u ≡ t
unfolding mid_extended
none_mid t u anchor at by e = none_ready t u t.flex _ (λ s first.
    none_past t u (nat_lt at (cut_of by)) _ (λ found.
    none_found t u (find_block anchor s.blocks) _ (λ b next.
    none_past t u (nat_lt b.size at) _ (λ last. none_changed t u s anchor b at (cut_of by) (more_of by) (nat_eq by 0) last) next) found) first) e

none_alloc_by : (may in_use fits : Bool) (t u w : FlexState)
    → (let r : Result (FlexState × Bool) ErrorNumber = if not may then Err FlexBadAnchor else (if in_use then Err FlexAnchorInUse else Ok (if fits then (w, true) else (t, false))) in r ≡ Ok (u, false))
    → u ≡ t
none_alloc_by false in_use fits t u w e = absurd (refused FlexBadAnchor (u, false) e)
none_alloc_by true true fits t u w e = absurd (refused FlexAnchorInUse (u, false) e)
none_alloc_by true false fits t u w e = none_by false fits t u w e

none_allocated : (places : Store) (t u : FlexState) (anchor size : ℕ) → flex_after_alloc places t anchor size ≡ Ok (u, false) → u ≡ t
unfolding flex_after_alloc
none_allocated places t u anchor size e = none_ready t u t.flex _ (λ s last.
    none_alloc_by (is_anchor_place places anchor && may_stand s anchor) (has_anchor s.blocks anchor) (nat_le (s.start + bytes_taken_by_all (s.blocks ++ new_block anchor size ∷ [])) s.end) t u
    (with_blocks t s s.blocks (new_block anchor size ∷ [])) last) e

pub no_room_changes_nothing : NoRoomChangesNothing
no_room_changes_nothing t u = record {
  alloc = λ places anchor size e. none_allocated places t u anchor size e;
  extend = λ anchor size e. none_extended t u anchor size e;
  mid_extend = λ anchor at by e. none_mid t u anchor at by e;
}
