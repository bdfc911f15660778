-- The list of the items that differ, address by address, and what is kept of it.
use Rattle.std.proofs.Common.{◌≡◌, ℕ, zero, suc, ◌+◌, ◌*◌, ◌<◌, ◌≤◌, ◌^◌, Bool, true, false, List, [], ◌∷◌, ◌++◌, length, take, Option, Some, None, refl, sym, ap, subst, ◌∙◌, arith, length-append, if◌then◌else◌}
use Rattle.std.proofs.lemmas.List.{append-nil, length-take, take-append-le, take_all}
use Rattle.address_map.specs.declared.item.Item.{Item}
use Rattle.store_copies.specs.Store.{Store}
use Rattle.trace_store_text.specs.items.Changes.{IsItemSummary, changes_between, is_same_item, item_change_at, item_changes, item_changes_below, item_shown}
use Rattle.trace_store_text.specs.items.Places.{PlacedItems, item_there, placed_items}
use Rattle.trace_store_text.specs.declared.items.changes.ItemChange.{ItemChange}
use Rattle.trace_store_text.specs.declared.items.changes.ItemChanges.{ItemChanges}

pub none_below : (old new : ℕ → Option Item) → item_changes_below old new 0 ≡ []
unfolding item_changes_below
none_below old new = refl

pub suc_below : (old new : ℕ → Option Item) (a : ℕ) → item_changes_below old new (suc a) ≡ item_changes_below old new a ++ item_change_at a (old a) (new a)
unfolding item_changes_below
suc_below old new a = refl

few_shown : (a : ℕ) (o : Option Item) (is_new : Bool) → length (item_shown a o is_new) ≤ 1
few_shown a None is_new = omega arith
few_shown a (Some x) is_new = omega arith

few_here : (same : Bool) (a : ℕ) (old new : Option Item) → length (if same then [] else item_shown a old false ++ item_shown a new true) ≤ 2
few_here true a old new = omega arith
few_here false a old new =
    omega (arith, length-append (item_shown a old false) (item_shown a new true), few_shown a old false, few_shown a new true)

few_below : (old new : ℕ → Option Item) (n : ℕ) → length (item_changes_below old new n) ≤ 2 * n
few_below old new zero = let none = ap length (none_below old new) in omega (arith, none)
few_below old new (suc n) =
    let before = few_below old new n in
    let more = ap length (suc_below old new n) ∙ length-append (item_changes_below old new n) (item_change_at n (old n) (new n)) in
    let here = few_here (is_same_item (old n) (new n)) n (old n) (new n) in
    omega (arith, before, more, here)

few_between : (old new : PlacedItems) → length (changes_between old new) ≤ 134217728
few_between old new = few_below (item_there old) (item_there new) 67108864

pub few_changes : (s s' : Store) (heap : ℕ) → length (item_changes s s' heap) ≤ 134217728
unfolding item_changes
few_changes s s' heap = few_between (placed_items s heap) (placed_items s' heap)

-- what is kept of some changes, and those that are still to come are all
pub record IsSummaryAllBut (kept : ItemChanges) (left all : List ItemChange) : Type 0 where
  pub passed : List ItemChange
  pub summary : IsItemSummary kept passed
  pub split : all ≡ passed ++ left

pub few_kept : (kept : ItemChanges) (left all : List ItemChange) → length all ≤ 134217728 → IsSummaryAllBut kept left all → kept.count < 2 ^ 28
few_kept kept left all few is =
    let count = is.summary.count in
    omega (arith, few, count, ap length is.split ∙ length-append is.passed left)

-- the first of some changes, with one change more
pub first_pushed : (first all : List ItemChange) (c : ItemChange) → length first < 64 → first ≡ take 64 all → first ++ c ∷ [] ≡ take 64 (all ++ c ∷ [])
first_pushed first all c room is =
    let len = ap length is ∙ length-take 64 all in
    let few : length all < 64 = omega (arith, len) in
    let more : length (all ++ c ∷ []) ≤ 64 = omega (arith, length-append all (c ∷ [])) in
    ap (λ (xs : List ItemChange). xs ++ c ∷ []) (is ∙ take_all 64 all (omega arith)) ∙ sym (take_all 64 (all ++ c ∷ []) more)

pub first_full : (first all : List ItemChange) (c : ItemChange) → 64 ≤ length first → first ≡ take 64 all → first ≡ take 64 (all ++ c ∷ [])
first_full first all c full is =
    let len = ap length is ∙ length-take 64 all in
    let many : 64 ≤ length all = omega (arith, len) in
    is ∙ sym (take-append-le 64 all (c ∷ []) many)

pub one_more : (all : List ItemChange) (c : ItemChange) (count : ℕ) → count ≡ length all → count + 1 ≡ length (all ++ c ∷ [])
one_more all c count is = omega (arith, length-append all (c ∷ []))
