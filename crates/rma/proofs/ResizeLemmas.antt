-- Where a claim, and a change of a block's size, can't be refused.
use Rattle.std.proofs.Common.{if◌then◌else◌, ◌≡◌, ◌≢◌, ℕ, ◌+◌, ◌-◌, ◌==◌, ◌<◌, ◌≤◌, ◌⊎◌, Bool, true, false, List, [], ◌∷◌, refl, sym, ap, ◌∙◌, Some, None, Ok, Err, inl, inr, option_map, arith}
use Rattle.std.specs.Prelude.{Option, Result, is_some, is_ok, ok_or, nat_le}
use Rattle.std.proofs.lemmas.Bool.{cases_Bool, cases_eq, le-leb, leb-true, eqb-true, false_from_ne_true}
use Rattle.dynamic_areas.specs.Outcome.{bind}
use Rattle.dynamic_areas.specs.ErrorNumber.{ErrorNumber}
use Rattle.dynamic_areas.specs.ErrorNumber.TheVariants.{BlockHoldsHeap, HeapNoRoom, HeapNotABlock}
use Rattle.dynamic_areas.proofs.Anchors.{among_none, none_among}
use Rattle.dynamic_areas.specs.Items.{size_of}
use Rattle.dynamic_areas.specs.Records.{anchor_among}
use Rattle.dynamic_areas.specs.Item.{Item}
use Rattle.dynamic_areas.specs.Item.TheVariants.{Live, Free}
use Rattle.dynamic_areas.specs.Heap.{HeapList, AreTotals}
use Rattle.dynamic_areas.specs.OsHeapWordsLists.{Claim, changed_by, claim_in_items, first_fit, live_total, or_at_base, items_after_refit, items_after_release, resized_in_place, round_up_8, total_for}
use Rattle.dynamic_areas.proofs.LiveBlocks.{IsStill, LiveBytes, claim_still, law_live_bytes}
use Rattle.dynamic_areas.proofs.Reading.{total_facts}
use Rattle.dynamic_areas.proofs.Resizes.{last_some, unreleased}
use Rattle.dynamic_areas.specs.Calls.{store_after_copy, gave_back, store_after_get, handed_over, store_holding, holds_anchor, store_after_move, store_after_resize, resized_or_moved}
use Rattle.dynamic_areas.specs.Forgetting.{store_after_forget, holds_heap}
use Rattle.dynamic_areas.specs.Store.{Store, find_heap, has_image}
use Rattle.dynamic_areas.proofs.Moving.{found_held}
use Rattle.rma.specs.Calls.{is_full}

some_ok : {A B : Type 0} (o : Option A) (e : ErrorNumber) (f : A → B) → is_some o ≡ true
    → (let r : Result B ErrorNumber = bind (ok_or o e) (λ x. Ok (f x)) in is_ok r ≡ true)
some_ok None e f some = some
some_ok (Some x) e f some = refl

then_ok : {A B : Type 0} (r : Result A ErrorNumber) (f : A → B) → is_ok r ≡ true
    → (let q : Result B ErrorNumber = bind r (λ x. Ok (f x)) in is_ok q ≡ true)
then_ok (Ok x) f ok = refl
then_ok (Err e) f ok = ok

-- a claim, where there is room at the base
base_claimed : (n room : ℕ) (xs : List Item) (o : Option Claim) → size_of xs + n ≤ room → is_some (or_at_base n room xs o) ≡ true
base_claimed n room xs (Some c) fits = refl
base_claimed n room xs None fits = rw (le-leb (size_of xs + n) room fits) refl

claim_fits : (n room : ℕ) (xs : List Item) → size_of xs + n ≤ room → is_some (claim_in_items n room xs) ≡ true
unfolding claim_in_items
claim_fits n room xs fits = base_claimed n room xs (first_fit n xs) fits

pub got_fits : (s : Store) (heap size : ℕ) (h : HeapList) → find_heap heap s.heaps ≡ Some h → 16 + size_of h.items + total_for size ≤ h.end
    → is_ok (store_after_get s heap size) ≡ true
unfolding store_after_get
got_fits s heap size h found fits =
    rw found (some_ok (claim_in_items (total_for size) (h.end - 16) h.items) HeapNoRoom (λ c. (store_holding s h c.items, h.start + 16 + c.offset + 4))
    (claim_fits (total_for size) (h.end - 16) h.items (omega arith)))

-- a block of the guest's
pub record IsGuests (s : Store) (h : HeapList) (block total : ℕ) : Type 0 where
  pub own : has_image block s.others ≡ false
  pub live : live_total block (h.start + 16) h.items ≡ Some total

can_release : (block at total : ℕ) (xs : List Item) → live_total block at xs ≡ Some total → is_some (items_after_release block at xs) ≡ true
can_release block at total xs live = go (items_after_release block at xs) refl where
  go : (o : Option (List Item)) → items_after_release block at xs ≡ o → is_some o ≡ true
  go None none = absurd (let no : None ≡ Some total = sym (unreleased block at xs none) ∙ live in cc)
  go (Some ys) is = refl

given_back : (s : Store) (h : HeapList) (block total : ℕ) → find_heap h.start s.heaps ≡ Some h → IsGuests s h block total
    → holds_anchor s.anchor block (Some total) ≡ false → is_ok (gave_back s h.start block) ≡ true
unfolding gave_back
given_back s h block total found own none =
    rw (found, own.own, own.live, none)
    (some_ok (items_after_release block (h.start + 16) h.items) HeapNotABlock (λ items. (store_holding (store_after_forget s block total block) h items, tt))
    (can_release block (h.start + 16) total h.items own.live))

-- a move, where there is room at the base
moved_by : (s : Store) (h : HeapList) (block total : ℕ) (c : Claim) → find_heap h.start s.heaps ≡ Some h → IsGuests s h block total
    → live_total block (h.start + 16) c.items ≡ Some total → holds_anchor s.anchor block (Some total) ≡ false
    → is_ok (handed_over h.start block (total - 4) (store_holding s h c.items) (h.start + 16 + c.offset + 4)) ≡ true
moved_by s h block total c found own still none =
    let new : ℕ = h.start + 16 + c.offset + 4 in
    let t : Store = store_after_copy (store_holding s h c.items) block new (total - 4) in
    let k : HeapList = record { kind = h.kind; start = h.start; end = h.end; items = c.items } in
    then_ok (gave_back t h.start block) (λ r. (r.0, new))
    (given_back t k block total (found_held h.start c.items s.heaps h found) (record { own = own.own; live = still }) none)

moved_fits : (s : Store) (h : HeapList) (block total new : ℕ) → find_heap h.start s.heaps ≡ Some h → AreTotals h.items → IsGuests s h block total
    → holds_anchor s.anchor block (Some total) ≡ false → holds_heap s.heaps block (total - 4) ≡ false → 16 + size_of h.items + new ≤ h.end
    → is_ok (store_after_move s h block total new) ≡ true
moved_fits s h block total new found totals own free empty fits =
    go (claim_in_items new (h.end - 16) h.items) (claim_fits new (h.end - 16) h.items (omega arith))
    (claim_still new (h.end - 16) block total (h.start + 16) h.items own.live totals) where
      go : (o : Option Claim) → is_some o ≡ true → IsStill block total (h.start + 16) o
          → is_ok (bind (ok_or o HeapNoRoom) (λ c. if holds_heap s.heaps block (total - 4) then Err BlockHoldsHeap else
          handed_over h.start block (total - 4) (store_holding s h c.items) (h.start + 16 + c.offset + 4))) ≡ true
      go None some still = absurd (let no : false ≡ true = some in cc)
      go (Some c) some still = rw empty (moved_by s h block total c found own still free)

-- and of one in which a heap lies, which is not done
moved_holds : (s : Store) (h : HeapList) (block total new : ℕ) → holds_heap s.heaps block (total - 4) ≡ true → 16 + size_of h.items + new ≤ h.end
    → store_after_move s h block total new ≡ Err BlockHoldsHeap
moved_holds s h block total new holds fits = go (claim_in_items new (h.end - 16) h.items) (claim_fits new (h.end - 16) h.items (omega arith)) where
  go : (o : Option Claim) → is_some o ≡ true
      → bind (ok_or o HeapNoRoom) (λ c. if holds_heap s.heaps block (total - 4) then Err BlockHoldsHeap else
      handed_over h.start block (total - 4) (store_holding s h c.items) (h.start + 16 + c.offset + 4)) ≡ Err BlockHoldsHeap
  go None some = absurd (let no : false ≡ true = some in cc)
  go (Some c) some = rw holds refl

-- no anchor lies in what is cut off a block that holds none, or off one that grows
uncut : (anchor : ℕ → Bool) (at old new : ℕ) → old ≤ new → anchor_among anchor at (old - new) ≡ false
uncut anchor at old new more = among_none anchor at (old - new) (λ a low high. absurd (omega (arith, more, low, high)))

part_free : (anchor : ℕ → Bool) (at old new : ℕ) → anchor_among anchor at old ≡ false → anchor_among anchor (at + new) (old - new) ≡ false
part_free anchor at old new none =
    among_none anchor (at + new) (old - new) (λ a low high. none_among anchor at old a none (omega (arith, low)) (omega (arith, low, high)))

-- a change of a block's size, where there is room for more in its place, or at the base for one
-- that holds no anchor
placed_or_moved : (s : Store) (h : HeapList) (block total new : ℕ) → find_heap h.start s.heaps ≡ Some h → AreTotals h.items → IsGuests s h block total
    → (o : Option (List Item))
    → ((is_some o ≡ true) × (total < new))
    ⊎ ((holds_anchor s.anchor block (Some total) ≡ false) × ((holds_heap s.heaps block (total - 4) ≡ false) × (16 + size_of h.items + new ≤ h.end)))
    → is_ok (resized_or_moved s h block total new o) ≡ true
placed_or_moved s h block total new found totals own (Some items) (inl room) =
    rw (uncut s.anchor (block - 4 + new) total new (omega (arith, room.1))) refl
placed_or_moved s h block total new found totals own (Some items) (inr room) = rw (part_free s.anchor (block - 4) total new room.0) refl
placed_or_moved s h block total new found totals own None (inl room) = absurd (let some = room.0 in let no : false ≡ true = some in cc)
placed_or_moved s h block total new found totals own None (inr room) =
    let none = room.0 in
    rw none (moved_fits s h block total new found totals own room.0 room.1.0 room.1.1)

pub resized_fits : (s : Store) (h : HeapList) (block total change : ℕ) → find_heap h.start s.heaps ≡ Some h → AreTotals h.items
    → IsGuests s h block total
    → ((is_some (resized_in_place block (h.start + h.end) (round_up_8 (changed_by total change)) (h.start + 16) h.items) ≡ true)
    × (total < round_up_8 (changed_by total change)))
    ⊎ ((holds_anchor s.anchor block (Some total) ≡ false)
    × ((holds_heap s.heaps block (total - 4) ≡ false) × (16 + size_of h.items + round_up_8 (changed_by total change) ≤ h.end)))
    → is_ok (store_after_resize s h.start block change) ≡ true
unfolding store_after_resize
resized_fits s h block total change found totals own room =
    let place : LiveBytes block total (h.start + 16) (h.start + 16 + size_of h.items) = law_live_bytes block total (h.start + 16) h.items totals own.live in
    elim (cases_Bool (nat_le (changed_by total change) 4)) [
      | inl few ↦ elim room [
        | inl grows ↦ absurd (omega (arith, leb-true (changed_by total change) 4 few, grows.1, place.size))
        | inr free ↦ rw (found, own.own, own.live, few) (then_ok (gave_back s h.start block) (λ r. (r.0, 0)) (given_back s h block total found own free.0))
      ]
      | inr more ↦ rw (found, own.own, own.live, more) (placed_or_moved s h block total (round_up_8 (changed_by total change)) found totals own
          (resized_in_place block (h.start + h.end) (round_up_8 (changed_by total change)) (h.start + 16) h.items) room)
    ]

-- a block that finds no room holds no anchor
pub full_free : (s : Store) (heap : ℕ) (h : HeapList) (block total change : ℕ) → find_heap heap s.heaps ≡ Some h → IsGuests s h block total
    → is_full (store_after_resize s heap block change) ≡ true → holds_anchor s.anchor block (Some total) ≡ false
unfolding store_after_resize gave_back
full_free s heap h block total change found own full =
    false_from_ne_true (holds_anchor s.anchor block (Some total)) (λ held. elim (cases_Bool (nat_le (changed_by total change) 4)) [
      | inl few ↦ not_freed held few (items_after_release block (h.start + 16) h.items) refl
      | inr more ↦ not_moved held more (resized_in_place block (h.start + h.end) (round_up_8 (changed_by total change)) (h.start + 16) h.items) refl
    ]) where
      not_freed : holds_anchor s.anchor block (Some total) ≡ true → nat_le (changed_by total change) 4 ≡ true → (o : Option (List Item))
          → items_after_release block (h.start + 16) h.items ≡ o → ⊥
      not_freed held few None is = let t = rw (found, own.own, own.live, few, is) at full in let no : false ≡ true = t in cc
      not_freed held few (Some items) is = let t = rw (found, own.own, own.live, few, is, held) at full in let no : false ≡ true = t in cc

      not_moved : holds_anchor s.anchor block (Some total) ≡ true → nat_le (changed_by total change) 4 ≡ false → (o : Option (List Item))
          → resized_in_place block (h.start + h.end) (round_up_8 (changed_by total change)) (h.start + 16) h.items ≡ o → ⊥
      not_moved held more None is = let t = rw (found, own.own, own.live, more, is, held) at full in let no : false ≡ true = t in cc
      not_moved held more (Some items) is =
          elim (cases_Bool (anchor_among s.anchor (block - 4 + round_up_8 (changed_by total change)) (total - round_up_8 (changed_by total change)))) [
            | inl cut ↦ let t = rw (found, own.own, own.live, more, is, cut) at full in let no : false ≡ true = t in cc
            | inr none ↦ let t = rw (found, own.own, own.live, more, is, none) at full in let no : false ≡ true = t in cc
          ]

-- and would have to move
pub record IsMoving (h : HeapList) (block total change : ℕ) : Type 0 where
  pub more : nat_le (changed_by total change) 4 ≡ false
  pub none : resized_in_place block (h.start + h.end) (round_up_8 (changed_by total change)) (h.start + 16) h.items ≡ None

pub full_moves : (s : Store) (heap : ℕ) (h : HeapList) (block total change : ℕ) → find_heap heap s.heaps ≡ Some h → IsGuests s h block total
    → is_full (store_after_resize s heap block change) ≡ true → IsMoving h block total change
unfolding store_after_resize gave_back
full_moves s heap h block total change found own full = elim (cases_Bool (nat_le (changed_by total change) 4)) [
  | inl few ↦ absurd (not_freed few (items_after_release block (h.start + 16) h.items) refl)
  | inr more ↦ record {
    more = more;
    none = stuck more (resized_in_place block (h.start + h.end) (round_up_8 (changed_by total change)) (h.start + 16) h.items) refl;
  }
] where
  not_freed : nat_le (changed_by total change) 4 ≡ true → (o : Option (List Item)) → items_after_release block (h.start + 16) h.items ≡ o → ⊥
  not_freed few None is = let t = rw (found, own.own, own.live, few, is) at full in let no : false ≡ true = t in cc
  not_freed few (Some items) is = elim (cases_Bool (holds_anchor s.anchor block (Some total))) [
    | inl held ↦ let t = rw (found, own.own, own.live, few, is, held) at full in let no : false ≡ true = t in cc
    | inr free ↦ let t = rw (found, own.own, own.live, few, is, free) at full in let no : false ≡ true = t in cc
  ]

  stuck : nat_le (changed_by total change) 4 ≡ false → (o : Option (List Item))
      → resized_in_place block (h.start + h.end) (round_up_8 (changed_by total change)) (h.start + 16) h.items ≡ o
      → resized_in_place block (h.start + h.end) (round_up_8 (changed_by total change)) (h.start + 16) h.items ≡ None
  stuck more None is = is
  stuck more (Some items) is =
      absurd (elim (cases_Bool (anchor_among s.anchor (block - 4 + round_up_8 (changed_by total change)) (total - round_up_8 (changed_by total change)))) [
        | inl cut ↦ let t = rw (found, own.own, own.live, more, is, cut) at full in let no : false ≡ true = t in cc
        | inr none ↦ let t = rw (found, own.own, own.live, more, is, none) at full in let no : false ≡ true = t in cc
      ])

pub resized_holds : (s : Store) (h : HeapList) (block total change : ℕ) → find_heap h.start s.heaps ≡ Some h → IsGuests s h block total
    → IsMoving h block total change → holds_anchor s.anchor block (Some total) ≡ false → holds_heap s.heaps block (total - 4) ≡ true
    → 16 + size_of h.items + round_up_8 (changed_by total change) ≤ h.end → store_after_resize s h.start block change ≡ Err BlockHoldsHeap
unfolding store_after_resize
resized_holds s h block total change found own moving free holds fits =
    rw (found, own.own, own.live, moving.more, moving.none, free) (moved_holds s h block total (round_up_8 (changed_by total change)) holds fits)

-- a block that is not the last gets no room by a later end of its heap
refit_stays : (room more new t : ℕ) (xs : List Item) → 0 < size_of xs → items_after_refit room new t xs ≡ items_after_refit more new t xs
refit_stays room more new t [] some = absurd (omega arith)
refit_stays room more new t (Live u ∷ xs) some = refl
refit_stays room more new t (Free u ∷ xs) some = refl

pub in_place_stays : (block end later new at total : ℕ) (xs : List Item) → live_total block at xs ≡ Some total → block + total ≢ at + size_of xs + 4
    → resized_in_place block end new at xs ≡ resized_in_place block later new at xs
in_place_stays block end later new at total [] live other = absurd (let no : None ≡ Some total = live in cc)
in_place_stays block end later new at total (Free t ∷ xs) live other =
    ap (option_map (λ ys. Free t ∷ ys)) (in_place_stays block end later new (at + t) total xs live (λ (e : block + total ≡ at + t + size_of xs + 4). other (omega arith)))
in_place_stays block end later new at total (Live t ∷ xs) live other = elim (cases_Bool (at + 4 == block)) [
  | inl here ↦
      let found = rw here at live in
      let same : t ≡ total = cc in
      let e : at + 4 ≡ block = eqb-true (at + 4) block here in
      let some : 0 < size_of xs = elim (cases_eq (size_of xs) 0) [
        | inl none ↦ absurd (other (omega (arith, e, same, none)))
        | inr more ↦ omega arith
      ] in
      rw here (refit_stays (end - at) (later - at) new t xs some)
  | inr away ↦
      let live' = rw away at live in
      rw away (ap (option_map (λ ys. Live t ∷ ys))
      (in_place_stays block end later new (at + t) total xs live' (λ (e : block + total ≡ at + t + size_of xs + 4). other (omega arith))))
]

-- the last block gets what bytes there are after it
some_mapped : (f : List Item → List Item) (o : Option (List Item)) → is_some o ≡ true → is_some (option_map f o) ≡ true
some_mapped f None some = some
some_mapped f (Some ys) some = refl

last_refitted : (room new t : ℕ) (xs : List Item) → AreTotals xs → size_of xs ≡ 0 → new ≤ room → is_some (items_after_refit room new t xs) ≡ true
last_refitted room new t [] totals none fits = ap is_some (last_some room new t fits)
last_refitted room new t (Live u ∷ xs) totals none fits = absurd (omega (arith, (total_facts u totals.0).0, none))
last_refitted room new t (Free u ∷ xs) totals none fits = absurd (omega (arith, (total_facts u totals.0).0, none))

pub last_fits : (block end new at total : ℕ) (xs : List Item) → AreTotals xs → live_total block at xs ≡ Some total
    → block + total ≡ at + size_of xs + 4 → block + new ≤ end + 4 → is_some (resized_in_place block end new at xs) ≡ true
last_fits block end new at total [] totals live last fits = absurd (let no : None ≡ Some total = live in cc)
last_fits block end new at total (Live t ∷ xs) totals live last fits = elim (cases_Bool (at + 4 == block)) [
  | inl here ↦
      let found = rw here at live in
      let same : t ≡ total = cc in
      let e : at + 4 ≡ block = eqb-true (at + 4) block here in
      rw here (last_refitted (end - at) new t xs totals.1 (omega (arith, same, e, last)) (omega (arith, e, fits)))
  | inr other ↦
      let found = rw other at live in
      rw other (some_mapped (λ ys. Live t ∷ ys) (resized_in_place block end new (at + t) xs)
      (last_fits block end new (at + t) total xs totals.1 found (omega (arith, last)) fits))
]
last_fits block end new at total (Free t ∷ xs) totals live last fits =
    some_mapped (λ ys. Free t ∷ ys) (resized_in_place block end new (at + t) xs)
    (last_fits block end new (at + t) total xs totals.1 live (omega (arith, last)) fits)
