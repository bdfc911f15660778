-- A release that was done leaves the store without the block.
use Rattle.std.proofs.Common.{◌≡◌, ℕ, Bool, ◌+◌, true, false, Option, Some, None, Result, Ok, Err, refl, sym, ◌∙◌, ap}
use Rattle.std.specs.Prelude.{if◌then◌else◌}
use Rattle.profile.specs.ErrorNumber.{ErrorNumber}
use Rattle.profile.specs.ErrorNumber.TheVariants.{FlexHoldsAnchor}
use Rattle.address_map.specs.Records.{anchor_among}
use Rattle.flex_store.specs.Blocks.{before, behind_of, Block, find_block, FlexStore, bytes_taken_by_all}
use Rattle.flex_store.specs.Calls.{end_in, FlexState, header_place_in, is_anchor_byte, flex_after_release, with_blocks, state_without_anchor}
use Rattle.flex_store.specs.Places.{IsSplit}
use Rattle.flex_store.specs.Shifts.{following, removal_shifts}
use Rattle.law_machine.specs.flex.Laws.{ReleaseGoesByNumbers}
use Rattle.law_machine.proofs.FlexLemmas.OneBlock.{split_found}
use Rattle.law_machine.proofs.FlexLemmas.Removals.{released_left}

-- what is so where a release was done
pub record IsReleased (t u : FlexState) (s : FlexStore) (anchor : ℕ) (b : Block) : Type 0 where
  pub free : anchor_among (is_anchor_byte s) (header_place_in s anchor + 8) b.size ≡ false
  pub is : u ≡ with_blocks (state_without_anchor t anchor) s (before anchor s.blocks) (following (removal_shifts (header_place_in s anchor) (end_in s) b.size) (behind_of anchor s.blocks))

ok_same : (x y : FlexState × Unit {0}) → (let r : Result (FlexState × Unit {0}) ErrorNumber = Ok x in r ≡ Ok y) → x ≡ y
ok_same x y e = cc

free_by : (held : Bool) (x u : FlexState) → (let r : Result (FlexState × Unit {0}) ErrorNumber = if held then Err FlexHoldsAnchor else Ok (x, tt) in r ≡ Ok (u, tt))
    → (held ≡ false) × (u ≡ x)
free_by true x u e = absurd (cc)
free_by false x u e = (refl, sym (ap (λ (q : FlexState × Unit {0}). q.0) (ok_same (x, tt) (u, tt) e)))

no_block : (u : FlexState) (e : ErrorNumber) → (let r : Result (FlexState × Unit {0}) ErrorNumber = Err e in r ≡ Ok (u, tt)) → ⊥
no_block u e same = cc

pub release_found : (t u : FlexState) (s : FlexStore) (anchor : ℕ) (o : Option Block) → find_block anchor s.blocks ≡ o → t.flex ≡ Some s → flex_after_release t anchor ≡ Ok (u, tt)
    → (b : Block) × ((o ≡ Some b) × IsReleased t u s anchor b)
unfolding flex_after_release
release_found t u s anchor None none own done = let done' = rw (own, none) at done in absurd (no_block u _ done')
release_found t u s anchor (Some b) has own done =
    let x : FlexState = with_blocks (state_without_anchor t anchor) s (before anchor s.blocks) (following (removal_shifts (header_place_in s anchor) (end_in s) b.size) (behind_of anchor s.blocks)) in
    let both = free_by (anchor_among (is_anchor_byte s) (header_place_in s anchor + 8) b.size) x u (rw (own, has) at done) in
    (b, (refl, record { free = both.0; is = both.1 }))

pub release_goes_by_numbers : ReleaseGoesByNumbers
release_goes_by_numbers ground t u s anchor own sp done =
    let r = release_found t u s anchor (find_block anchor s.blocks) refl own done in
    let b : Block = r.0 in
    let p = split_found anchor s.blocks b r.1.0 in
    let is : IsSplit anchor s.blocks p.0.before b p.0.after = p.1 in
    released_left t u s anchor p.0.before p.0.after b sp is r.1.1.free
    (r.1.1.is ∙ (λ i. with_blocks (state_without_anchor t anchor) s (is.front_is i) (following (removal_shifts (s.start + bytes_taken_by_all (is.front_is i)) (s.start + bytes_taken_by_all s.blocks) b.size) (is.rest_is i)))) ground
