-- A walk over the items before and after, from each address at which one stands to the next.
use Rattle.std.proofs.Common.{◌≡◌, ℕ, zero, suc, ◌+◌, ◌<◌, ◌≤◌, ◌==◌, ◌^◌, Bool, true, false, List, [], ◌∷◌, ◌++◌, length, Option, Some, None, ◌⊎◌, refl, sym, ap, subst, ◌∙◌, arith, inl, inr}
use Rattle.std.proofs.lemmas.Bool.{cases_Bool, cases_lt, eqb-true, eqb-false, eq-eqb, ne_eqb, leb-true, leb-false}
use Rattle.std.proofs.lemmas.List.{append_assoc, append-nil}
use Rattle.std.specs.Option.{option_map}
use Rattle.std.specs.Prelude.{nat_le}
use Rattle.address_map.specs.Items.{size_of, total_of}
use Rattle.address_map.specs.declared.item.Item.{Item}
use Rattle.address_map.specs.declared.item.Item.TheVariants.{Free, Live}
use Rattle.store_copies.proofs.Reading.{total_facts}
use Rattle.store_copies.specs.Heap.{AreTotals}
use Rattle.store_copies.specs.Store.{Store}
use Rattle.trace_store_text.specs.items.Changes.{IsItemSummary, changes_between, item_change_at, item_changes, item_changes_below}
use Rattle.trace_store_text.specs.items.Places.{PlacedItems, after_taking_by, first_item, item_placed, item_taken, item_there, items_after_taking, lower_place, place_next, placed_items, taken_by}
use Rattle.trace_store_text.specs.declared.items.changes.ItemChange.{ItemChange}
use Rattle.trace_store_text.specs.declared.items.changes.ItemChanges.{ItemChanges}
use Rattle.trace_store_text.proofs.ItemsLemmas.ChangeLemmas.{IsSummaryAllBut, none_below, suc_below}

unequal : (a b : ℕ) → b < a → (b == a) ≡ false
unequal a b below = ne_eqb b a (λ e. omega (arith, below, e))

-- no item stands below the first
nothing_placed : (at : ℕ) (items : List Item) (a : ℕ) → a < at → item_placed at items a ≡ None
nothing_placed at [] a below = refl
nothing_placed at (x ∷ xs) a below = rw (unequal at a below) (nothing_placed (at + total_of x) xs a (omega (arith, below)))

-- the items of a walk, and those that are left once what stands at an address was taken
record AreAhead (items rest : ℕ → Option Item) (here : Option Item) (at : ℕ) : Type 0 where
  low : (a : ℕ) → a < at → items a ≡ None
  is_here : items at ≡ here
  high : (a : ℕ) → at < a → items a ≡ rest a
  gone : (a : ℕ) → a ≤ at → rest a ≡ None

-- the first of some items stands at an address or above it, if there is one
abbrev pub IsFrom : ℕ → ℕ → List Item → Type 0
IsFrom a at [] = Unit {0}
IsFrom a at (x ∷ xs) = a ≤ at

nothing_from : (a at : ℕ) (items : List Item) → IsFrom a at items → (b : ℕ) → b < a → item_placed at items b ≡ None
nothing_from a at [] from b below = refl
nothing_from a at (x ∷ xs) from b below = nothing_placed at (x ∷ xs) b (omega (arith, from, below))

above_first : (x : Item) (xs : List Item) → AreTotals (x ∷ xs) → 0 < total_of x
above_first (Live t) xs totals = omega (arith, (total_facts t totals.0).0)
above_first (Free t) xs totals = omega (arith, (total_facts t totals.0).0)

ahead_by : (at : ℕ) (items : List Item) (a : ℕ) → AreTotals items → IsFrom a at items
    → AreAhead (item_placed at items) (item_there (after_taking_by a at items)) (taken_by a at items) a
ahead_by at [] a totals from = record { low = λ b _. refl; is_here = refl; high = λ b _. refl; gone = λ b _. refl }
ahead_by at (x ∷ xs) a totals from =
    let positive = above_first x xs totals in
    elim (cases_Bool (at == a)) [
      | inl is ↦
          let same = eqb-true at a is in
          rw is (record {
            low = λ b below. nothing_from a at (x ∷ xs) from b below;
            is_here = rw (eq-eqb a at (sym same)) refl;
            high = λ b above. rw (ne_eqb b at (λ e. omega (arith, above, e, same))) refl;
            gone = λ b upto. nothing_placed (at + total_of x) xs b (omega (arith, upto, same, positive));
          })
      | inr isnt ↦
          let other = eqb-false at a isnt in
          let below : a < at = omega (arith, from, other) in
          rw isnt (record {
            low = λ b below. nothing_from a at (x ∷ xs) from b below;
            is_here = nothing_placed at (x ∷ xs) a below;
            high = λ b _. refl;
            gone = λ b upto. nothing_placed at (x ∷ xs) b (omega (arith, upto, below));
          })
    ]

nothing_below : (f g : ℕ → Option Item) (n : ℕ) → ((b : ℕ) → b < n → f b ≡ None) → ((b : ℕ) → b < n → g b ≡ None) → item_changes_below f g n ≡ []
nothing_below f g zero none none' = none_below f g
nothing_below f g (suc n) none none' =
    rw (
      suc_below f g n,
      nothing_below f g n (λ b below. none b (omega (arith, below))) (λ b below. none' b (omega (arith, below))),
      none n (omega arith),
      none' n (omega arith),
    ) refl

at_place : (f g f' g' : ℕ → Option Item) (o o' : Option Item) (a : ℕ) → AreAhead f f' o a → AreAhead g g' o' a
    → item_changes_below f g (suc a) ≡ item_change_at a o o' ++ item_changes_below f' g' (suc a)
at_place f g f' g' o o' a one other =
    rw (
      suc_below f g a,
      nothing_below f g a one.low other.low,
      one.is_here,
      other.is_here,
      nothing_below f' g' (suc a) (λ b below. one.gone b (omega (arith, below))) (λ b below. other.gone b (omega (arith, below))),
    )
    (sym (append-nil (item_change_at a o o')))

split_below : (f g f' g' : ℕ → Option Item) (o o' : Option Item) (a : ℕ) → AreAhead f f' o a → AreAhead g g' o' a
    → (n : ℕ) → a < n → item_changes_below f g n ≡ item_change_at a o o' ++ item_changes_below f' g' n
split_below f g f' g' o o' a one other zero below = absurd (omega (arith, below))
split_below f g f' g' o o' a one other (suc n) below =
    elim (cases_lt a n) [
      | inl lower ↦
          rw (suc_below f g n, suc_below f' g' n, one.high n lower, other.high n lower, split_below f g f' g' o o' a one other n lower)
          (append_assoc (item_change_at a o o') (item_changes_below f' g' n) (item_change_at n (f' n) (g' n)))
      | inr upper ↦
          let same : a ≡ n = omega (arith, below, upper) in
          subst (λ (k : ℕ). item_changes_below f g (suc k) ≡ item_change_at a o o' ++ item_changes_below f' g' (suc k)) same
          (at_place f g f' g' o o' a one other)
    ]

-- the lower of two places is that of one of the walks, and the other is not below it
abbrev pub IsAt : ℕ → ℕ → List Item → Type 0
IsAt a at [] = ⊥
IsAt a at (x ∷ xs) = at ≡ a

record IsNext (at : ℕ) (items : List Item) (at' : ℕ) (items' : List Item) (a : ℕ) : Type 0 where
  one : IsFrom a at items
  other : IsFrom a at' items'
  either : IsAt a at items ⊎ IsAt a at' items'

next_by : (at : ℕ) (items : List Item) (at' : ℕ) (items' : List Item) (a : ℕ)
    → lower_place (option_map (λ _. at) (first_item items)) (option_map (λ _. at') (first_item items')) ≡ Some a → IsNext at items at' items' a
next_by at [] at' [] a e = absurd (cc)
next_by at [] at' (y ∷ ys) a e =
    let same : at' ≡ a = cc in
    record { one = tt; other = omega (arith, same); either = inr same }
next_by at (x ∷ xs) at' [] a e =
    let same : at ≡ a = cc in
    record { one = omega (arith, same); other = tt; either = inl same }
next_by at (x ∷ xs) at' (y ∷ ys) a e =
    elim (cases_Bool (nat_le at at')) [
      | inl is ↦
          let lower = leb-true at at' is in
          let e' : Some at ≡ Some a = rw is at e in
          let same : at ≡ a = cc in
          record { one = omega (arith, same); other = omega (arith, same, lower); either = inl same }
      | inr isnt ↦
          let upper = leb-false at at' isnt in
          let e' : Some at' ≡ Some a = rw isnt at e in
          let same : at' ≡ a = cc in
          record { one = omega (arith, same, upper); other = omega (arith, same); either = inr same }
    ]

low_enough : (at : ℕ) (items : List Item) (a : ℕ) → AreTotals items → IsAt a at items → at + size_of items ≤ 2 ^ 26 → a < 2 ^ 26
low_enough at [] a totals is below = absurd is
low_enough at (x ∷ xs) a totals is below =
    let positive = above_first x xs totals in
    let room : at + (total_of x + size_of xs) ≤ 2 ^ 26 = below in
    omega (arith, is, room, positive)

next_split : (p q : PlacedItems) (a : ℕ) → AreTotals p.items → AreTotals q.items → p.at + size_of p.items ≤ 2 ^ 26 → q.at + size_of q.items ≤ 2 ^ 26
    → lower_place (place_next p) (place_next q) ≡ Some a
    → changes_between p q ≡ item_change_at a (item_taken a p) (item_taken a q) ++ changes_between (items_after_taking a p) (items_after_taking a q)
next_split p q a totals totals' below below' e =
    let next = next_by p.at p.items q.at q.items a e in
    let low : a < 2 ^ 26 = elim next.either [
      | inl is ↦ low_enough p.at p.items a totals is below
      | inr is ↦ low_enough q.at q.items a totals' is below'
    ] in
    split_below (item_there p) (item_there q) (item_there (items_after_taking a p)) (item_there (items_after_taking a q)) (item_taken a p) (item_taken a q) a
    (ahead_by p.at p.items a totals next.one) (ahead_by q.at q.items a totals' next.other) 67108864 low

ended_by : (at : ℕ) (items : List Item) (at' : ℕ) (items' : List Item)
    → lower_place (option_map (λ _. at) (first_item items)) (option_map (λ _. at') (first_item items')) ≡ None → (items ≡ []) × (items' ≡ [])
ended_by at [] at' [] e = (refl, refl)
ended_by at [] at' (y ∷ ys) e = absurd (cc)
ended_by at (x ∷ xs) at' [] e = absurd (cc)
ended_by at (x ∷ xs) at' (y ∷ ys) e =
    elim (cases_Bool (nat_le at at')) [
      | inl is ↦ let e' : Some at ≡ None = rw is at e in absurd (cc)
      | inr isnt ↦ let e' : Some at' ≡ None = rw isnt at e in absurd (cc)
    ]

pub ended_split : (p q : PlacedItems) → lower_place (place_next p) (place_next q) ≡ None → changes_between p q ≡ []
ended_split p q e =
    let ends = ended_by p.at p.items q.at q.items e in
    nothing_below (item_there p) (item_there q) 67108864 (λ b _. ap (λ (xs : List Item). item_placed p.at xs b) ends.0)
    (λ b _. ap (λ (xs : List Item). item_placed q.at xs b) ends.1)

-- what is taken is no longer left
no_longer : (a at : ℕ) (items : List Item) → length (after_taking_by a at items).items ≤ length items
no_longer a at [] = omega arith
no_longer a at (x ∷ xs) =
    elim (cases_Bool (at == a)) [
      | inl is ↦ rw is (omega arith)
      | inr isnt ↦ rw isnt (omega arith)
    ]

shorter : (a at : ℕ) (items : List Item) → IsAt a at items → length (after_taking_by a at items).items < length items
shorter a at [] is = absurd is
shorter a at (x ∷ xs) is = rw (eq-eqb at a is) (omega arith)

pub fewer_left : (p q : PlacedItems) (a : ℕ) → lower_place (place_next p) (place_next q) ≡ Some a
    → length (items_after_taking a p).items + length (items_after_taking a q).items < length p.items + length q.items
fewer_left p q a e =
    let next = next_by p.at p.items q.at q.items a e in
    elim next.either [
      | inl is ↦ omega (arith, shorter a p.at p.items is, no_longer a q.at q.items)
      | inr is ↦ omega (arith, no_longer a p.at p.items, shorter a q.at q.items is)
    ]

-- the changes of one address more
kept_one_more : (kept kept' : ItemChanges) (here left all : List ItemChange) → IsSummaryAllBut kept (here ++ left) all
    → ((passed : List ItemChange) → IsItemSummary kept passed → IsItemSummary kept' (passed ++ here)) → IsSummaryAllBut kept' left all
kept_one_more kept kept' here left all is more = record {
  passed = is.passed ++ here;
  summary = more is.passed is.summary;
  split = is.split ∙ sym (append_assoc is.passed here left);
}

pub all_kept : (kept : ItemChanges) (left all : List ItemChange) → left ≡ [] → IsSummaryAllBut kept left all → IsItemSummary kept all
all_kept kept left all none is =
    let e : all ≡ is.passed = is.split ∙ (ap (λ (xs : List ItemChange). is.passed ++ xs) none ∙ append-nil is.passed) in
    subst (λ (xs : List ItemChange). IsItemSummary kept xs) (sym e) is.summary

pub kept_next : (kept kept' : ItemChanges) (p q : PlacedItems) (a : ℕ) (all : List ItemChange) (o o' : Option Item) (p' q' : PlacedItems)
    → AreTotals p.items → AreTotals q.items → p.at + size_of p.items ≤ 2 ^ 26 → q.at + size_of q.items ≤ 2 ^ 26
    → lower_place (place_next p) (place_next q) ≡ Some a
    → o ≡ item_taken a p → o' ≡ item_taken a q → p' ≡ items_after_taking a p → q' ≡ items_after_taking a q
    → IsSummaryAllBut kept (changes_between p q) all
    → ((passed : List ItemChange) → IsItemSummary kept passed → IsItemSummary kept' (passed ++ item_change_at a o o'))
    → IsSummaryAllBut kept' (changes_between p' q') all
kept_next kept kept' p q a all o o' p' q' totals totals' below below' next is_old is_new is_left is_left' is more =
    let split : changes_between p q ≡ item_change_at a o o' ++ changes_between p' q' =
    rw (is_old, is_new, is_left, is_left') (next_split p q a totals totals' below below' next) in
    kept_one_more kept kept' (item_change_at a o o') (changes_between p' q') all
    (subst (λ (xs : List ItemChange). IsSummaryAllBut kept xs all) split is) more

pub all_left : (kept : ItemChanges) (s s' : Store) (heap : ℕ) (p q : PlacedItems) → p ≡ placed_items s heap → q ≡ placed_items s' heap
    → IsItemSummary kept [] → IsSummaryAllBut kept (changes_between p q) (item_changes s s' heap)
unfolding item_changes
all_left kept s s' heap p q is_old is_new is = record { passed = []; summary = is; split = rw (is_old, is_new) refl }
