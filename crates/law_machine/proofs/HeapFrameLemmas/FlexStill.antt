-- What each flex call leaves of a byte outside the store: it stays, and no anchor comes to its word
-- but by an alloc that names it.
use Rattle.std.proofs.Common.{ℕ, ◌||◌, ◌+◌, ◌-◌, ◌%◌, ◌&&◌, ◌≡◌, ◌≤◌, ◌^◌, ◌∙◌, ◌⊎◌, nat_eq, Bool, true, false, List, [], ◌∷◌, ◌++◌, Option, Some, None, Result, Ok, refl, sym, ap, subst, inl, inr, arith}
use Rattle.std.specs.Prelude.{if◌then◌else◌, nat_le, nat_lt}
use Rattle.std.proofs.lemmas.Bool.{and_parts, cases_Bool, le-leb, leb-true, ltb-false, ne_eqb, or_cases, or_left, or_parts, or_right}
use Rattle.address_map.specs.Bytes.{Bytes, word_start}
use Rattle.address_map.specs.Records.{anchor_among}
use Rattle.os_heap.specs.Store.{Store}
use Rattle.profile.specs.ErrorNumber.{ErrorNumber}
use Rattle.law_machine.specs.sliding_stores.Ground.{anchors_in}
use Rattle.flex_store.proofs.Filled.{new_filled}
use Rattle.flex_store.proofs.Following.{has_following}
use Rattle.flex_store.proofs.Keeping.{place_parts}
use Rattle.flex_store.proofs.LawLemmas.{Answers, same_answer}
use Rattle.flex_store.proofs.Lists.{anchor-append}
use Rattle.flex_store.proofs.Standing.{standing_has}
use Rattle.flex_store.specs.Blocks.{Block, FlexStore, before, behind_of, contents, cut_of, find_block, has_anchor, block_holding, more_of, new_block, bytes_after_splice, bytes_taken_by, bytes_taken_by_all}
use Rattle.flex_store.specs.Calls.{FlexState, flex_after_alloc, breaks_anchor, end_in, flex_after_extend, flex_if_room, header_place_in, is_anchor_byte, is_anchor_place, may_stand, mid_extended, flex_after_release, spliced_at, with_blocks, state_without_anchor}
use Rattle.flex_store.specs.Memory.{laid_out}
use Rattle.flex_store.specs.Runs.{Alloc, Extend, FlexCall, IsFlexCallDone, MidExtend, Release}
use Rattle.flex_store.specs.Shifts.{Shifts, following, gone_to, removal_shifts, splice_shifts}
use Rattle.law_machine.proofs.HeapFrameLemmas.FlexBesides.{HasAligned, IsBeside, IsBesideStore, IsSpliced, IsStill, answered, fit_still, release_still, splice_still, split_list, still_same}

-- an extend or a middle extend that was done: nothing is changed, or a block is spliced
abbrev HasSpliced : FlexState → FlexStore → FlexState → Bool → ℕ → ℕ → ℕ → Type 0
HasSpliced t s v answer place cut more = (t ≡ v) ⊎ IsSpliced t v s answer place cut more

spliced_by : (t v : FlexState) (s : FlexStore) (anchor : ℕ) (b : Block) (place cut more : ℕ) (answer : Bool) → find_block anchor s.blocks ≡ Some b
    → place ≤ b.size
    → spliced_at t s anchor b place cut more ≡ Ok (v, answer) → HasSpliced t s v answer place cut more
spliced_by t v s anchor b place cut more answer found inside is =
    elim (cases_Bool (breaks_anchor (is_anchor_byte s) (header_place_in s anchor + 8) b.size place cut more)) [
      | inl breaks ↦ let is' = rw breaks at is in absurd (cc)
      | inr free ↦
          let news : List Block = block_holding b (bytes_after_splice (contents b) place cut more)
          ∷ following (splice_shifts (header_place_in s anchor) (end_in s) b.size place cut more) (behind_of anchor s.blocks) in
          let left : FlexState × Bool = flex_if_room t s (before anchor s.blocks) news in
          let given : FlexState × Bool = (v, answer) in
          let done : Answers left given = rw free at is in
          inr (record {
            front = before anchor s.blocks;
            b = b;
            after = behind_of anchor s.blocks;
            list = split_list anchor s.blocks b found;
            inside = inside;
            done = done;
          })
    ]

same_by : (t v : FlexState) (answer : Bool) → (let r : Result (FlexState × Bool) ErrorNumber = Ok (t, true) in r ≡ Ok (v, answer)) → t ≡ v
same_by t v answer is =
    let was : FlexState × Bool = (t, true) in
    let given : FlexState × Bool = (v, answer) in
    let done : Answers was given = is in
    ap (λ (q : FlexState × Bool). q.0) (same_answer was given done)

extend_found : (b : Bytes) (s : FlexStore) (v : FlexState) (anchor size : ℕ) (answer : Bool) (found : Option Block) → find_block anchor s.blocks ≡ found
    → flex_after_extend (record { bytes = b; flex = Some s }) anchor size ≡ Ok (v, answer)
    → (n : ℕ) × HasSpliced (record { bytes = b; flex = Some s }) s v answer n (n - size) (size - n)
unfolding flex_after_extend
extend_found b s v anchor size answer None none is = let is' = rw none at is in absurd (cc)
extend_found b s v anchor size answer (Some x) found is =
    let t : FlexState = record { bytes = b; flex = Some s } in (
      x.size,
      elim (cases_Bool (nat_eq size x.size)) [
        | inl stays ↦ inl (same_by t v answer (rw (found, stays) at is))
        | inr other ↦ spliced_by t v s anchor x x.size (x.size - size) (size - x.size) answer found (omega arith) (rw (found, other) at is)
      ],
    )

mid_found : (b : Bytes) (s : FlexStore) (v : FlexState) (anchor at by : ℕ) (answer : Bool) (found : Option Block) → find_block anchor s.blocks ≡ found
    → nat_lt at (cut_of by) ≡ false → mid_extended (record { bytes = b; flex = Some s }) anchor at by ≡ Ok (v, answer)
    → HasSpliced (record { bytes = b; flex = Some s }) s v answer at (cut_of by) (more_of by)
unfolding mid_extended
mid_found b s v anchor at by answer None none inside is = let is' = rw (inside, none) at is in absurd (cc)
mid_found b s v anchor at by answer (Some x) found inside is =
    let t : FlexState = record { bytes = b; flex = Some s } in
    elim (cases_Bool (nat_lt x.size at)) [
      | inl past ↦ let is' = rw (inside, found, past) at is in absurd (cc)
      | inr within ↦ elim (cases_Bool (nat_eq by 0)) [
        | inl none ↦ inl (same_by t v answer (rw (inside, found, within, none) at is))
        | inr some ↦ spliced_by t v s anchor x at (cut_of by) (more_of by) answer found (ltb-false x.size at within) (rw (inside, found, within, some) at is)
      ]
    ]

mid_spliced : (b : Bytes) (s : FlexStore) (v : FlexState) (anchor at by : ℕ) (answer : Bool)
    → mid_extended (record { bytes = b; flex = Some s }) anchor at by ≡ Ok (v, answer)
    → HasSpliced (record { bytes = b; flex = Some s }) s v answer at (cut_of by) (more_of by)
unfolding mid_extended
mid_spliced b s v anchor at by answer is = elim (cases_Bool (nat_lt at (cut_of by))) [
  | inl past ↦ let is' = rw past at is in absurd (cc)
  | inr inside ↦ mid_found b s v anchor at by answer (find_block anchor s.blocks) refl inside is
]

-- where an alloc does not name the word of a byte, or that word is no anchor after it
abbrev pub IsUnnamed : FlexCall → FlexState → ℕ → Type 0
IsUnnamed (Alloc anchor size) v a = (anchors_in v.flex a ≡ false) ⊎ (anchor % 4 ≡ 0 → word_start a ≡ anchor → ⊥)
IsUnnamed other v a = Unit {0}

pub none_after : (call : FlexCall) (v : FlexState) (a : ℕ) → anchors_in v.flex a ≡ false → IsUnnamed call v a
none_after (Alloc anchor size) v a none = inl none
none_after (Release anchor) v a none = tt
none_after (Extend anchor size) v a none = tt
none_after (MidExtend anchor at by) v a none = tt

module _ (a : ℕ) where
  has_still : (t : FlexState) (s : FlexStore) (v : FlexState) (answer : Bool) (place cut more : ℕ) → anchors_in t.flex a ≡ false → IsBesideStore s a
      → HasSpliced t s v answer place cut more → HasAligned v.flex → IsStill a t v
  has_still t s v answer place cut more own beside (inl same) aligned = still_same a t v same own
  has_still t s v answer place cut more own beside (inr p) aligned = splice_still a s beside t v answer place cut more own p aligned

  alloc_still : (places : Store) (b : Bytes) (o : Option FlexStore) (v : FlexState) (anchor size : ℕ) (answer : Bool)
      → flex_after_alloc places (record { bytes = b; flex = o }) anchor size ≡ Ok (v, answer) → HasAligned v.flex → IsBeside o a → IsUnnamed (Alloc anchor size) v a
      → IsStill a (record { bytes = b; flex = o }) v
  unfolding flex_after_alloc
  alloc_still places b None v anchor size answer is aligned beside unnamed = absurd (cc)
  alloc_still places b (Some s) v anchor size answer is aligned beside unnamed =
      elim (cases_Bool (is_anchor_place places anchor && may_stand s anchor)) [
        | inr bad ↦ let is' = rw bad at is in absurd (cc)
        | inl may ↦ elim (cases_Bool (has_anchor s.blocks anchor)) [
          | inl in_use ↦ let is' = rw (may, in_use) at is in absurd (cc)
          | inr none ↦
              let t : FlexState = record { bytes = b; flex = Some s } in
              let news : List Block = new_block anchor size ∷ [] in
              let left : FlexState × Bool = flex_if_room t s s.blocks news in
              let given : FlexState × Bool = (v, answer) in
              let done : Answers left given = rw (may, none) at is in
              let even : anchor % 4 ≡ 0 = (place_parts places anchor (and_parts (is_anchor_place places anchor) (may_stand s anchor) may).0).aligned in
              fit_still a s beside t s.blocks news (nat_le (s.start + bytes_taken_by_all (s.blocks ++ news)) s.end) given refl (same_answer left given done) beside.none
              (new_filled anchor size, tt) beside.none
              (λ fits same. elim unnamed [
                | inr other ↦ ap (λ (q : Bool). q || false) (ne_eqb (word_start a) anchor (other even))
                | inl after ↦
                    let h : ℕ → ℕ = laid_out (s.start + bytes_taken_by_all s.blocks) news b.at in
                    (or_parts (has_anchor s.blocks (word_start a)) (has_anchor news (word_start a))
                    (sym (anchor-append s.blocks news (word_start a)) ∙ (sym (standing_has h s.start (s.blocks ++ news) (word_start a))
                    ∙ (ap (λ (w : FlexState). anchors_in w.flex a) same ∙ after)))).1
              ])
              aligned
        ]
      ]

  release_found : (b : Bytes) (s : FlexStore) (v : FlexState) (anchor : ℕ) (found : Option Block) → find_block anchor s.blocks ≡ found
      → flex_after_release (record { bytes = b; flex = Some s }) anchor ≡ Ok (v, tt)
      → HasAligned v.flex → IsBesideStore s a → IsStill a (record { bytes = b; flex = Some s }) v
  unfolding flex_after_release
  release_found b s v anchor None none is aligned beside = let is' = rw none at is in absurd (cc)
  release_found b s v anchor (Some x) found is aligned beside =
      elim (cases_Bool (anchor_among (is_anchor_byte s) (header_place_in s anchor + 8) x.size)) [
        | inl holds ↦ let is' = rw (found, holds) at is in absurd (cc)
        | inr free ↦
            let t : FlexState = record { bytes = b; flex = Some s } in
            let left : FlexState = with_blocks (state_without_anchor t anchor) s (before anchor s.blocks)
            (following (removal_shifts (header_place_in s anchor) (end_in s) x.size) (behind_of anchor s.blocks)) in
            let after : FlexState × Unit {0} = (left, tt) in
            let given : FlexState × Unit {0} = (v, tt) in
            let done : Answers after given = rw (found, free) at is in
            release_still a s beside t v anchor x found (ap (λ (q : FlexState × Unit {0}). q.0) (same_answer after given done)) aligned
      ]

  release_some : (b : Bytes) (o : Option FlexStore) (v : FlexState) (anchor : ℕ) → flex_after_release (record { bytes = b; flex = o }) anchor ≡ Ok (v, tt)
      → HasAligned v.flex → IsBeside o a → IsStill a (record { bytes = b; flex = o }) v
  unfolding flex_after_release
  release_some b None v anchor is aligned beside = absurd (cc)
  release_some b (Some s) v anchor is aligned beside = release_found b s v anchor (find_block anchor s.blocks) refl is aligned beside

  extend_still : (b : Bytes) (o : Option FlexStore) (v : FlexState) (anchor size : ℕ) (answer : Bool)
      → flex_after_extend (record { bytes = b; flex = o }) anchor size ≡ Ok (v, answer) → HasAligned v.flex → IsBeside o a → IsStill a (record { bytes = b; flex = o }) v
  unfolding flex_after_extend
  extend_still b None v anchor size answer is aligned beside = absurd (cc)
  extend_still b (Some s) v anchor size answer is aligned beside =
      let p = extend_found b s v anchor size answer (find_block anchor s.blocks) refl is in
      has_still (record { bytes = b; flex = Some s }) s v answer p.0 (p.0 - size) (size - p.0) beside.none beside p.1 aligned

  mid_still : (b : Bytes) (o : Option FlexStore) (v : FlexState) (anchor at by : ℕ) (answer : Bool)
      → mid_extended (record { bytes = b; flex = o }) anchor at by ≡ Ok (v, answer)
      → HasAligned v.flex → IsBeside o a → IsStill a (record { bytes = b; flex = o }) v
  unfolding mid_extended
  mid_still b None v anchor at by answer is aligned beside = absurd (cc)
  mid_still b (Some s) v anchor at by answer is aligned beside =
      has_still (record { bytes = b; flex = Some s }) s v answer at (cut_of by) (more_of by) beside.none beside
      (mid_spliced b s v anchor at by answer is) aligned

  pub call_still : (t v : FlexState) (call : FlexCall) (answer : Bool) → IsFlexCallDone t call answer v → HasAligned v.flex → IsBeside t.flex a → IsUnnamed call v a
      → IsStill a t v
  call_still t v (Alloc anchor size) answer is aligned beside unnamed = alloc_still is.0 t.bytes t.flex v anchor size answer is.1 aligned beside unnamed
  call_still t v (Release anchor) answer is aligned beside unnamed = release_some t.bytes t.flex v anchor is.1 aligned beside
  call_still t v (Extend anchor size) answer is aligned beside unnamed = extend_still t.bytes t.flex v anchor size answer is aligned beside
  call_still t v (MidExtend anchor at by) answer is aligned beside unnamed = mid_still t.bytes t.flex v anchor at by answer is aligned beside

-- a middle extend by no word cuts nothing and adds nothing, so each anchor stays where it is
AreStill : Shifts → Type 0
AreStill [] = Unit {0}
AreStill (s ∷ ss) = (s.to % 4 ≡ s.from % 4) × AreStill ss

gone_aligned : (ss : Shifts) (p : ℕ) → AreStill ss → p % 4 ≡ 0 → gone_to ss p % 4 ≡ 0
unfolding AreStill
gone_aligned [] p still even = even
gone_aligned (s ∷ ss) p still even = elim (cases_Bool (nat_le s.from p && nat_lt p s.end)) [
  | inr out ↦ rw out (gone_aligned ss p still.1 even)
  | inl inside ↦
      let low : s.from ≤ p = leb-true s.from p (and_parts (nat_le s.from p) (nat_lt p s.end) inside).0 in
      rw inside (omega (arith, low, still.0, even))
]

news_aligned : (s : FlexStore) (front after : List Block) (b : Block) (shifts : Shifts) (c : List ℕ) (p : ℕ)
    → ((q : ℕ) → has_anchor s.blocks q ≡ true → q % 4 ≡ 0)
    → s.blocks ≡ front ++ b ∷ after → AreStill shifts → has_anchor (front ++ block_holding b c ∷ following shifts after) p ≡ true → p % 4 ≡ 0
news_aligned s front after b shifts c p aligned list still has =
    let whole : (q : ℕ) → (has_anchor front q || has_anchor (b ∷ after) q) ≡ true → q % 4 ≡ 0 = λ q in_either.
    aligned q (ap (λ (l : List Block). has_anchor l q) list ∙ (anchor-append front (b ∷ after) q ∙ in_either)) in
    elim (or_cases (has_anchor front p) (has_anchor (block_holding b c ∷ following shifts after) p)
    (sym (anchor-append front (block_holding b c ∷ following shifts after) p) ∙ has)) [
      | inl first ↦ whole p (or_left (has_anchor front p) (has_anchor (b ∷ after) p) first)
      | inr later ↦ elim (or_cases (nat_eq p b.anchor) (has_anchor (following shifts after) p) later) [
        | inl own ↦ whole p (or_right (has_anchor front p) (has_anchor (b ∷ after) p) (or_left (nat_eq p b.anchor) (has_anchor after p) own))
        | inr rest ↦
            let q = has_following shifts after p rest in
            let even : q.0 % 4 ≡ 0 =
            whole q.0 (or_right (has_anchor front q.0) (has_anchor (b ∷ after) q.0) (or_right (nat_eq q.0 b.anchor) (has_anchor after q.0) q.1.0)) in
            subst (λ (x : ℕ). x % 4 ≡ 0) q.1.1 (gone_aligned shifts q.0 still even)
      ]
    ]

fit_aligned : (t : FlexState) (s : FlexStore) (front news : List Block) (fits : Bool) (q : FlexState × Bool)
    → (if fits then (with_blocks t s front news, true) else (t, false)) ≡ q
    → HasAligned t.flex → ((p : ℕ) → has_anchor (front ++ news) p ≡ true → p % 4 ≡ 0) → HasAligned q.0.flex
fit_aligned t s front news true q is own each =
    subst (λ (r : FlexState × Bool). HasAligned r.0.flex) is
    (λ p has. each p (sym (standing_has (laid_out (s.start + bytes_taken_by_all front) news t.bytes.at) s.start (front ++ news) p) ∙ has))
fit_aligned t s front news false q is own each = subst (λ (r : FlexState × Bool). HasAligned r.0.flex) is own

none_aligned : (t v : FlexState) (s : FlexStore) (answer : Bool) (place : ℕ) → t.flex ≡ Some s → ((q : ℕ) → has_anchor s.blocks q ≡ true → q % 4 ≡ 0)
    → HasSpliced t s v answer place 0 0 → HasAligned v.flex
unfolding AreStill
none_aligned t v s answer place own aligned (inl same) =
    subst (λ (w : FlexState). HasAligned w.flex) same (subst HasAligned (sym own) aligned)
none_aligned t v s answer place own aligned (inr p) =
    let shifts : Shifts = splice_shifts (s.start + bytes_taken_by_all p.front) (s.start + bytes_taken_by_all s.blocks) p.b.size place 0 0 in
    let c : List ℕ = bytes_after_splice (contents p.b) place 0 0 in
    let news : List Block = block_holding p.b c ∷ following shifts p.after in
    let inside : place ≤ p.b.size = p.inside in
    let same : place - 0 + 0 + (p.b.size - place) ≡ p.b.size = omega (arith, inside) in
    fit_aligned t s p.front news (nat_le (s.start + bytes_taken_by_all (p.front ++ news)) s.end) (v, answer)
    (same_answer (flex_if_room t s p.front news) (answered v answer) p.done) (subst HasAligned (sym own) aligned)
    (λ q has. news_aligned s p.front p.after p.b shifts c q aligned p.list (omega arith, (ap (λ (n : ℕ). (s.start + bytes_taken_by_all p.front + bytes_taken_by n) % 4) same, tt)) has)

pub past_aligned : (t v : FlexState) (s : FlexStore) (anchor at by : ℕ) (answer : Bool) → t.flex ≡ Some s → HasAligned t.flex → 2 ^ 32 ≤ by
    → mid_extended t anchor at by ≡ Ok (v, answer) → HasAligned v.flex
past_aligned t v s anchor at by answer own aligned past is =
    let u : FlexState = record { bytes = t.bytes; flex = Some s } in
    let same : t ≡ u = ap (λ (o : Option FlexStore). let w : FlexState = record { bytes = t.bytes; flex = o } in w) own in
    let high : nat_le (2 ^ 31) by ≡ true = le-leb (2 ^ 31) by (omega (arith, past)) in
    let cut : cut_of by ≡ 0 = rw high (omega (arith, past)) in
    let more : more_of by ≡ 0 = rw high refl in
    let done : HasSpliced u s v answer at (cut_of by) (more_of by) =
    mid_spliced t.bytes s v anchor at by answer (subst (λ (w : FlexState). mid_extended w anchor at by ≡ Ok (v, answer)) same is) in
    none_aligned u v s answer at refl (subst HasAligned own aligned)
    (subst (λ (n : ℕ). HasSpliced u s v answer at 0 n) more (subst (λ (n : ℕ). HasSpliced u s v answer at n (more_of by)) cut done))
