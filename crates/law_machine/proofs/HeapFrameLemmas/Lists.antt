-- Lists that releases and changes of size leave: their lengths are those of items, and they have no
-- more bytes than there is room.
use Rattle.std.proofs.Common.{ℕ, ◌+◌, ◌-◌, ◌%◌, ◌==◌, ◌≡◌, ◌≤◌, ◌++◌, true, List, [], ◌∷◌, Option, Some, None, nat_le, inl, inr, arith}
use Rattle.std.proofs.lemmas.Bool.{cases_Bool, eqb-false, leb-true}
use Rattle.std.specs.Option.{option_map}
use Rattle.address_map.specs.Items.{is_total, size_of}
use Rattle.address_map.specs.declared.item.Item.{Item}
use Rattle.address_map.specs.declared.item.Item.TheVariants.{Live, Free}
use Rattle.os_heap_words.proofs.ListsLemmas.Reading.{total_facts}
use Rattle.os_heap_words.proofs.ListsLemmas.Spelling.{total_of-numbers}
use Rattle.os_heap_words.specs.lists.Heap.{AreTotals}
use Rattle.os_heap_words.specs.lists.Lists.{items_after_free, items_with_gap, items_after_growth, left_free, items_after_refit, items_after_release, resized_in_place}

abbrev pub HasRoomFor : ℕ → List Item → Type 0
HasRoomFor room xs = AreTotals xs × (size_of xs ≤ room)

abbrev pub HasRoomIfSome : ℕ → Option (List Item) → Type 0
HasRoomIfSome room None = Unit {0}
HasRoomIfSome room (Some xs) = HasRoomFor room xs

-- two lengths of items are one together
sum_total : (n t : ℕ) → is_total n ≡ true → is_total t ≡ true → is_total (n + t) ≡ true
sum_total n t own other =
    let first = total_facts n own in
    let second = total_facts t other in
    total_of-numbers (n + t) (omega (arith, first.0, second.0)) (omega (arith, first.1, second.1))

freed_room : (n : ℕ) (xs : List Item) → is_total n ≡ true → AreTotals xs → HasRoomFor (n + size_of xs) (items_after_free n xs)
freed_room n [] total totals = (tt, omega arith)
freed_room n (Live t ∷ xs) total totals = ((total, totals), omega arith)
freed_room n (Free t ∷ xs) total totals = ((sum_total n t total totals.0, totals.1), omega arith)

-- an item before others
live_room : (room t size : ℕ) (o : Option (List Item)) → is_total t ≡ true → t + size ≤ room → HasRoomIfSome size o
    → HasRoomIfSome room (option_map (λ ys. Live t ∷ ys) o)
live_room room t size None total fits has = tt
live_room room t size (Some ys) total fits has = ((total, has.0), omega (arith, has.1, fits))

free_room : (room t size : ℕ) (o : Option (List Item)) → is_total t ≡ true → t + size ≤ room → HasRoomIfSome size o
    → HasRoomIfSome room (option_map (λ ys. Free t ∷ ys) o)
free_room room t size None total fits has = tt
free_room room t size (Some ys) total fits has = ((total, has.0), omega (arith, has.1, fits))

joined_room : (room t size : ℕ) (o : Option (List Item)) → is_total t ≡ true → t + size ≤ room → HasRoomIfSome size o
    → HasRoomIfSome room (option_map (λ ys. items_after_free t ys) o)
joined_room room t size None total fits has = tt
joined_room room t size (Some ys) total fits has =
    let joined : HasRoomFor (t + size_of ys) (items_after_free t ys) = freed_room t ys total has.0 in
    (joined.0, omega (arith, joined.1, has.1, fits))

-- the list after a release
pub released_room : (block at : ℕ) (xs : List Item) → AreTotals xs → HasRoomIfSome (size_of xs) (items_after_release block at xs)
released_room block at [] totals = tt
released_room block at (Live t ∷ xs) totals = elim (cases_Bool (at + 4 == block)) [
  | inl here ↦ rw here (freed_room t xs totals.0 totals.1)
  | inr other ↦ rw other (live_room (t + size_of xs) t (size_of xs) (items_after_release block (at + t) xs) totals.0 (omega arith) (released_room block (at + t) xs totals.1))
]
released_room block at (Free t ∷ xs) totals =
    joined_room (t + size_of xs) t (size_of xs) (items_after_release block (at + t) xs) totals.0 (omega arith) (released_room block (at + t) xs totals.1)

-- what is left of a free item
left_room : (n room : ℕ) (xs : List Item) → n % 8 ≡ 0 → AreTotals xs → n + size_of xs ≤ room → HasRoomFor room (left_free n ++ xs)
left_room n room xs whole totals fits = elim (cases_Bool (n == 0)) [
  | inl none ↦ rw none (totals, omega (arith, fits))
  | inr some ↦
      let other : n ≡ 0 → ⊥ = eqb-false n 0 some in
      rw some ((total_of-numbers n (omega (arith, other, whole)) whole, totals), omega (arith, fits))
]

glued_room : (gap room : ℕ) (xs : List Item) → gap % 8 ≡ 0 → AreTotals xs → gap + size_of xs ≤ room → HasRoomFor room (items_with_gap gap xs)
glued_room gap room xs whole totals fits = elim (cases_Bool (gap == 0)) [
  | inl none ↦ rw none (totals, omega (arith, fits))
  | inr some ↦
      let other : gap ≡ 0 → ⊥ = eqb-false gap 0 some in
      let joined : HasRoomFor (gap + size_of xs) (items_after_free gap xs) = freed_room gap xs (total_of-numbers gap (omega (arith, other, whole)) whole) totals in
      rw some (joined.0, omega (arith, joined.1, fits))
]

block_room : (new room : ℕ) (ys : List Item) → is_total new ≡ true → new ≤ room → HasRoomFor (room - new) ys → HasRoomFor room (Live new ∷ ys)
block_room new room ys total fits has = ((total, has.0), omega (arith, has.1, fits))

-- the list once a block, with what is after it, got another length
refitted_room : (room new old : ℕ) (xs : List Item) → is_total new ≡ true → is_total old ≡ true → AreTotals xs → old + size_of xs ≤ room
    → HasRoomIfSome room (items_after_refit room new old xs)
refitted_room room new old xs total own totals fits =
    let first = total_facts new total in
    let second = total_facts old own in
    elim (cases_Bool (nat_le new old)) [
      | inl less ↦
          let fewer : new ≤ old = leb-true new old less in
          rw less (block_room new room (items_with_gap (old - new) xs) total (omega (arith, fewer, fits))
          (glued_room (old - new) (room - new) xs (omega (arith, first.1, second.1, fewer)) totals (omega (arith, fewer, fits))))
      | inr more ↦ rw more (grown_room xs totals fits)
    ] where
      grown_room : (ys : List Item) → AreTotals ys → old + size_of ys ≤ room → HasRoomIfSome room (items_after_growth room new old ys)
      grown_room [] totals fits = elim (cases_Bool (nat_le new room)) [
        | inl enough ↦ rw enough ((total, tt), omega (arith, leb-true new room enough))
        | inr short ↦ rw short tt
      ]
      grown_room (Live t ∷ ys) totals fits = tt
      grown_room (Free t ∷ ys) totals fits = elim (cases_Bool (nat_le new (old + t))) [
        | inr short ↦ rw short tt
        | inl enough ↦
            let first = total_facts new total in
            let second = total_facts old own in
            let third = total_facts t totals.0 in
            let less : new ≤ old + t = leb-true new (old + t) enough in
            rw enough (block_room new room (left_free (old + t - new) ++ ys) total (omega (arith, less, fits))
            (left_room (old + t - new) (room - new) ys (omega (arith, first.1, second.1, third.1, less)) totals.1 (omega (arith, less, fits))))
      ]

pub resized_room : (block end new at : ℕ) (xs : List Item) → is_total new ≡ true → AreTotals xs → at + size_of xs ≤ end
    → HasRoomIfSome (end - at) (resized_in_place block end new at xs)
resized_room block end new at [] total totals fits = tt
resized_room block end new at (Live t ∷ xs) total totals fits = elim (cases_Bool (at + 4 == block)) [
  | inl here ↦ rw here (refitted_room (end - at) new t xs total totals.0 totals.1 (omega (arith, fits)))
  | inr other ↦ rw other (live_room (end - at) t (end - (at + t)) (resized_in_place block end new (at + t) xs) totals.0 (omega (arith, fits))
      (resized_room block end new (at + t) xs total totals.1 (omega (arith, fits))))
]
resized_room block end new at (Free t ∷ xs) total totals fits =
    free_room (end - at) t (end - (at + t)) (resized_in_place block end new (at + t) xs) totals.0 (omega (arith, fits))
    (resized_room block end new (at + t) xs total totals.1 (omega (arith, fits)))
