-- Blocks of which the four bytes of a word are seen otherwise than before.
use Rattle.std.proofs.Common.{ℕ, Bool, false, zero, suc, ◌+◌, ◌-◌, ◌%◌, ◌≡◌, ◌≤◌, ◌<◌, ◌⊎◌, ◌∙◌, List, [], ◌∷◌, map, Option, Some, None, option_map, refl, sym, ap, inl, inr, arith}
use Rattle.std.specs.Prelude.{if◌then◌else◌}
use Rattle.std.specs.List.{range_with_len}
use Rattle.std.proofs.lemmas.Bool.{false_from_ne_true}
use Rattle.address_map.proofs.Stores.{in_range-cases}
use Rattle.address_map.specs.Bytes.{in_range}
use Rattle.address_map.specs.Items.{size_of}
use Rattle.address_map.specs.declared.item.Item.{Item}
use Rattle.address_map.specs.declared.item.Item.TheVariants.{Free, Live}
use Rattle.os_heap.proofs.Apart.{range_parts}
use Rattle.os_heap_words.proofs.ListsLemmas.Reading.{total_facts}
use Rattle.os_heap_words.specs.lists.Heap.{AreTotals}
use Rattle.law_machine.proofs.SlidingStoresLemmas.SlidLists.{map_same}
use Rattle.law_machine.specs.sliding_stores.Meaning.{PayloadPlace, one_further, payloads, place_among}
use Rattle.law_machine.specs.sliding_stores.Rules.{with_place_seen, with_word_seen}
use Rattle.law_machine.proofs.FlexLemmas.Lists.{shifted}

pub out_of_range : (at len a : ℕ) → (a < at) ⊎ (at + len ≤ a) → in_range at len a ≡ false
out_of_range at len a out = false_from_ne_true (in_range at len a) (λ is.
    let p = range_parts at len a is in
    elim out [ inl low ↦ omega (arith, p.0, low) | inr high ↦ omega (arith, p.1, high) ])

-- a byte beside a word
beside_word : (f : ℕ → Option ℕ) (byte : Option ℕ) (w a : ℕ) → (a < w) ⊎ (w + 4 ≤ a) → (if in_range w 4 a then byte else f a) ≡ f a
beside_word f byte w a out = ap (λ (b : Bool). if b then byte else f a) (out_of_range w 4 a out)

word_seen : (f g : ℕ → Option ℕ) (byte : Option ℕ) (w at n offset i : ℕ) → at + offset ≡ w + i
    → ((a : ℕ) → at ≤ a → a < at + n → g a ≡ (if in_range w 4 a then byte else f a))
    → map g (range_with_len at n) ≡ with_word_seen byte offset i (map f (range_with_len at n))
word_seen f g byte w at zero offset i e left = refl
word_seen f g byte w at (suc n) offset i e left =
    let rest = word_seen f g byte w (at + 1) n offset (i + 1) (omega (arith, e)) (λ a low high. left a (omega (arith, low)) (omega (arith, high))) in
    let here : g at ≡ (if in_range offset 4 i then byte else f at) =
    left at (omega arith) (omega arith) ∙ ap (λ (b : Bool). if b then byte else f at) (sym (shifted w offset at i e)) in
    rw (here, rest) refl

pub payloads_alike : (f g : ℕ → Option ℕ) (at : ℕ) (xs : List Item) → AreTotals xs → ((a : ℕ) → at ≤ a → a < at + size_of xs → g a ≡ f a)
    → payloads g at xs ≡ payloads f at xs
payloads_alike f g at [] totals same = refl
payloads_alike f g at (Free t ∷ xs) totals same =
    payloads_alike f g (at + t) xs totals.1 (λ a low high. same a (omega (arith, low)) (omega (arith, high)))
payloads_alike f g at (Live t ∷ xs) totals same =
    let least = total_facts t totals.0 in
    let here = map_same f g (at + 4) (at + 4) (t - 4) (λ k less. same (at + 4 + k) (omega arith) (omega (arith, less))) in
    let rest = payloads_alike f g (at + t) xs totals.1 (λ a low high. same a (omega (arith, low)) (omega (arith, high))) in
    rw (here, rest) refl

-- a place after the first block
further : (byte : Option ℕ) (o : Option PayloadPlace) (b : List (Option ℕ)) (bs : List (List (Option ℕ)))
    → with_place_seen byte (option_map one_further o) (b ∷ bs) ≡ b ∷ with_place_seen byte o bs
further byte None b bs = refl
further byte (Some p) b bs = refl

-- The bytes of a word of whole blocks are seen as described, and all others as they were.
pub payloads_seen : (f g : ℕ → Option ℕ) (byte : Option ℕ) (w at : ℕ) (xs : List Item) → w % 4 ≡ 0 → at % 4 ≡ 0 → AreTotals xs
    → ((a : ℕ) → at ≤ a → a < at + size_of xs → g a ≡ (if in_range w 4 a then byte else f a))
    → payloads g at xs ≡ with_place_seen byte (place_among w at xs) (payloads f at xs)
payloads_seen f g byte w at [] aligned whole totals left = refl
payloads_seen f g byte w at (Free t ∷ xs) aligned whole totals left =
    payloads_seen f g byte w (at + t) xs aligned (omega (arith, whole, total_facts t totals.0)) totals.1
    (λ a low high. left a (omega (arith, low)) (omega (arith, high)))
payloads_seen f g byte w at (Live t ∷ xs) aligned whole totals left =
    let least = total_facts t totals.0 in
    let later : (a : ℕ) → at + t ≤ a → a < at + t + size_of xs → g a ≡ (if in_range w 4 a then byte else f a) =
    λ a low high. left a (omega (arith, low)) (omega (arith, high)) in
    elim (in_range-cases (at + 4) (t - 4) w) [
      | inl r ↦
          let here : map g (range_with_len (at + 4) (t - 4)) ≡ with_word_seen byte (w - (at + 4)) 0 (map f (range_with_len (at + 4) (t - 4))) =
          word_seen f g byte w (at + 4) (t - 4) (w - (at + 4)) 0 (omega (arith, r.1)) (λ a low high. left a (omega (arith, low)) (omega (arith, high, least.0))) in
          let rest : payloads g (at + t) xs ≡ payloads f (at + t) xs =
          payloads_alike f g (at + t) xs totals.1 (λ a low high.
          later a low high ∙ beside_word f byte w a (inr (omega (arith, low, aligned, whole, least.0, least.1, r.2)))) in
          rw (r.0, here, rest) refl
      | inr r ↦
          let beside : (k : ℕ) → k < t - 4 → (at + 4 + k < w) ⊎ (w + 4 ≤ at + 4 + k) = λ k less. elim r.1 [
            | inl low ↦ inr (omega (arith, low, aligned, whole))
            | inr high ↦ inl (omega (arith, high, less))
          ] in
          let here : map g (range_with_len (at + 4) (t - 4)) ≡ map f (range_with_len (at + 4) (t - 4)) =
          map_same f g (at + 4) (at + 4) (t - 4) (λ k less.
          left (at + 4 + k) (omega arith) (omega (arith, less)) ∙ beside_word f byte w (at + 4 + k) (beside k less)) in
          let rest = payloads_seen f g byte w (at + t) xs aligned (omega (arith, whole, least.1)) totals.1 later in
          rw (r.0, here, rest)
          (sym (further byte (place_among w (at + t) xs) (map f (range_with_len (at + 4) (t - 4))) (payloads f (at + t) xs)))
    ]
