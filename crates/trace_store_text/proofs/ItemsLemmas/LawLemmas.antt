-- The list of the items that differ is complete, and true.
use Rattle.std.proofs.Common.{◌≡◌, ◌≢◌, ℕ, zero, suc, ◌+◌, ◌<◌, ◌≤◌, ◌==◌, ◌^◌, Bool, true, false, List, [], ◌∷◌, ◌++◌, Contains, slice_index_or, Option, Some, None, refl, sym, ap, subst, ◌∙◌, arith, inl, inr, if◌then◌else◌}
use Rattle.std.proofs.lemmas.Bool.{cases_Bool, cases_lt, eq-eqb, eqb-true, ne_eqb, false≢true}
use Rattle.std.proofs.lemmas.List.Elements.{Contains-append_cases}
use Rattle.address_map.specs.declared.item.Item.{Item}
use Rattle.address_map.specs.declared.item.Item.TheVariants.{Free, Live}
use Rattle.store_copies.specs.Store.{Store}
use Rattle.trace_store_text.specs.items.Changes.{changes_between, is_same_item, item_change_at, item_changes, item_changes_below, item_shown}
use Rattle.trace_store_text.specs.items.Laws.{ExplainsHeaps, IsItemChange, ListsItems, with_item_change, with_item_changes}
use Rattle.trace_store_text.specs.items.Places.{PlacedItems, item_there, placed_items}
use Rattle.trace_store_text.specs.declared.items.changes.ItemChange.{ItemChange}
use Rattle.trace_store_text.proofs.ItemsLemmas.ChangeLemmas.{none_below, suc_below}

alike : (o o' : Option Item) → is_same_item o o' ≡ true → o ≡ o'
alike None None is = refl
alike None (Some new) is = absurd (cc)
alike (Some old) None is = absurd (cc)
alike (Some (Live old)) (Some (Live new)) is = ap (λ (t : ℕ). Some (Live t)) (eqb-true old new is)
alike (Some (Live old)) (Some (Free new)) is = absurd (cc)
alike (Some (Free old)) (Some (Live new)) is = absurd (cc)
alike (Some (Free old)) (Some (Free new)) is = ap (λ (t : ℕ). Some (Free t)) (eqb-true old new is)

same_as_itself : (o : Option Item) → is_same_item o o ≡ true
same_as_itself None = refl
same_as_itself (Some (Live t)) = eq-eqb t t refl
same_as_itself (Some (Free t)) = eq-eqb t t refl

unlike : (o o' : Option Item) → is_same_item o o' ≡ false → o ≢ o'
unlike o o' differs same =
    false≢true (sym differs ∙ (ap (λ (p : Option Item). is_same_item o p) (sym same) ∙ same_as_itself o))

-- what is gone and new at one address, one after another
replayed_after : (xs ys : List ItemChange) (items : ℕ → Option Item) → with_item_changes (xs ++ ys) items ≡ with_item_changes ys (with_item_changes xs items)
replayed_after [] ys items = refl
replayed_after (c ∷ cs) ys items = replayed_after cs ys (with_item_change c items)

shown_here : (n : ℕ) (o o' : Option Item) (items : ℕ → Option Item) → items n ≡ o
    → with_item_changes (item_shown n o false ++ item_shown n o' true) items n ≡ o'
shown_here n None None items is = is
shown_here n None (Some y) items is = rw (eq-eqb n n refl) refl
shown_here n (Some x) None items is = rw (eq-eqb n n refl) refl
shown_here n (Some x) (Some y) items is = rw (eq-eqb n n refl) refl

shown_elsewhere : (n : ℕ) (o o' : Option Item) (items : ℕ → Option Item) (a : ℕ) → a ≢ n
    → with_item_changes (item_shown n o false ++ item_shown n o' true) items a ≡ items a
shown_elsewhere n None None items a other = refl
shown_elsewhere n None (Some y) items a other = rw (ne_eqb a n other) refl
shown_elsewhere n (Some x) None items a other = rw (ne_eqb a n other) refl
shown_elsewhere n (Some x) (Some y) items a other = rw (ne_eqb a n other) refl

replayed_here : (n : ℕ) (o o' : Option Item) (items : ℕ → Option Item) → items n ≡ o → with_item_changes (item_change_at n o o') items n ≡ o'
replayed_here n o o' items is =
    elim (cases_Bool (is_same_item o o')) [
      | inl same ↦ rw same (is ∙ alike o o' same)
      | inr differs ↦ rw differs (shown_here n o o' items is)
    ]

replayed_elsewhere : (n : ℕ) (o o' : Option Item) (items : ℕ → Option Item) (a : ℕ) → a ≢ n → with_item_changes (item_change_at n o o') items a ≡ items a
replayed_elsewhere n o o' items a other =
    elim (cases_Bool (is_same_item o o')) [
      | inl same ↦ rw same refl
      | inr differs ↦ rw differs (shown_elsewhere n o o' items a other)
    ]

-- the changes of so many addresses are replayed
replayed_above : (old new : ℕ → Option Item) (n a : ℕ) → n ≤ a → with_item_changes (item_changes_below old new n) old a ≡ old a
replayed_above old new zero a above = rw (none_below old new) refl
replayed_above old new (suc n) a above =
    rw (suc_below old new n, replayed_after (item_changes_below old new n) (item_change_at n (old n) (new n)) old)
    (replayed_elsewhere n (old n) (new n) (with_item_changes (item_changes_below old new n) old) a (λ e. omega (arith, above, e))
    ∙ replayed_above old new n a (omega (arith, above)))

replayed_below : (old new : ℕ → Option Item) (n a : ℕ) → a < n → with_item_changes (item_changes_below old new n) old a ≡ new a
replayed_below old new zero a below = absurd (omega (arith, below))
replayed_below old new (suc n) a below =
    rw (suc_below old new n, replayed_after (item_changes_below old new n) (item_change_at n (old n) (new n)) old)
    (elim (cases_lt a n) [
      | inl lower ↦ replayed_elsewhere n (old n) (new n) (with_item_changes (item_changes_below old new n) old) a (λ e. omega (arith, lower, e))
          ∙ replayed_below old new n a lower
      | inr upper ↦
          let same : n ≡ a = omega (arith, below, upper) in
          subst (λ (k : ℕ). with_item_changes (item_change_at n (old n) (new n)) (with_item_changes (item_changes_below old new n) old) k ≡ new k) same
          (replayed_here n (old n) (new n) (with_item_changes (item_changes_below old new n) old) (replayed_above old new n n (omega arith)))
    ])

pub explains : ExplainsHeaps
unfolding item_changes
explains s s' heap a below = sym (replayed_below (item_there (placed_items s heap)) (item_there (placed_items s' heap)) 67108864 a below)

none_in : (c : ItemChange) → Contains [] c → ⊥
none_in c h = let inside = h.1 in omega arith

one_in : (d c : ItemChange) → Contains (d ∷ []) c → c ≡ d
one_in d c h =
    let inside = h.1 in
    let first : h.0 ≡ 0 = omega arith in
    sym (subst (λ (k : ℕ). slice_index_or (d ∷ []) k c ≡ c) first h.2)

shown_gone : (old new : ℕ → Option Item) (n : ℕ) (o : Option Item) (c : ItemChange) → old n ≡ o → o ≢ new n → Contains (item_shown n o false) c
    → IsItemChange old new c c.is_new
shown_gone old new n None c is differs h = absurd (none_in c h)
shown_gone old new n (Some x) c is differs h =
    let e = one_in (record { at = n; item = x; is_new = false }) c h in
    subst (λ (d : ItemChange). IsItemChange old new d d.is_new) (sym e) (is, λ same. differs (sym same))

shown_new : (old new : ℕ → Option Item) (n : ℕ) (o : Option Item) (c : ItemChange) → new n ≡ o → old n ≢ o → Contains (item_shown n o true) c
    → IsItemChange old new c c.is_new
shown_new old new n None c is differs h = absurd (none_in c h)
shown_new old new n (Some y) c is differs h =
    let e = one_in (record { at = n; item = y; is_new = true }) c h in
    subst (λ (d : ItemChange). IsItemChange old new d d.is_new) (sym e) (is, λ same. differs same)

true_at : (old new : ℕ → Option Item) (n : ℕ) (c : ItemChange) → Contains (item_change_at n (old n) (new n)) c → IsItemChange old new c c.is_new
true_at old new n c h =
    elim (cases_Bool (is_same_item (old n) (new n))) [
      | inl same ↦ absurd (none_in c (rw same at h))
      | inr differs ↦
          let unlike_here = unlike (old n) (new n) differs in
          elim (Contains-append_cases (item_shown n (old n) false) (item_shown n (new n) true) c (rw differs at h)) [
            | inl gone ↦ shown_gone old new n (old n) c refl unlike_here gone
            | inr made ↦ shown_new old new n (new n) c refl unlike_here made
          ]
    ]

true_below : (old new : ℕ → Option Item) (n : ℕ) (c : ItemChange) → Contains (item_changes_below old new n) c → IsItemChange old new c c.is_new
true_below old new zero c h = absurd (none_in c (rw (none_below old new) at h))
true_below old new (suc n) c h =
    elim (Contains-append_cases (item_changes_below old new n) (item_change_at n (old n) (new n)) c (rw (suc_below old new n) at h)) [
      | inl before ↦ true_below old new n c before
      | inr here ↦ true_at old new n c here
    ]

pub are_true : ListsItems
unfolding item_changes
are_true s s' heap c h = true_below (item_there (placed_items s heap)) (item_there (placed_items s' heap)) 67108864 c h
