-- How far a title goes, place by place.
use Rattle.std.proofs.Common.{◌≡◌, ℕ, true, false, ◌+◌, ◌-◌, ◌<◌, ◌≤◌, List, [], ◌∷◌, ◌++◌, length, take, drop, get_or, Some, nat_le, nat_lt, refl, ◌∙◌, ap, arith}
use Rattle.std.specs.List.{prefix_len}
use Rattle.std.proofs.lemmas.List.{places, same_lists, drop_more}
use Rattle.std.proofs.lemmas.Bool.{le-leb, lt-ltb}
use Rattle.profile.specs.images.module_header.Title.{is_title_byte, title_len, title_at}

pub goes_on : (bytes : List ℕ) (i j : ℕ) → j ≡ i + 1 → i < length bytes → is_title_byte (get_or bytes i 0) ≡ true → title_len bytes i ≡ title_len bytes j + 1
goes_on bytes i j next inside good =
    let here : drop i bytes ≡ get_or bytes i 0 ∷ drop (i + 1) bytes = drop_more bytes i 0 inside in
    let step : prefix_len is_title_byte (get_or bytes i 0 ∷ drop (i + 1) bytes) ≡ 1 + prefix_len is_title_byte (drop (i + 1) bytes) = rw good refl in
    rw next (ap (prefix_len is_title_byte) here ∙ step ∙ omega arith)

pub ends_here : (bytes : List ℕ) (i : ℕ) → i < length bytes → is_title_byte (get_or bytes i 0) ≡ false → title_len bytes i ≡ 0
ends_here bytes i inside bad =
    let here : drop i bytes ≡ get_or bytes i 0 ∷ drop (i + 1) bytes = drop_more bytes i 0 inside in
    let step : prefix_len is_title_byte (get_or bytes i 0 ∷ drop (i + 1) bytes) ≡ 0 = rw bad refl in
    ap (prefix_len is_title_byte) here ∙ step

nothing_left : (bytes : List ℕ) (i : ℕ) → length bytes ≤ i → drop i bytes ≡ []
nothing_left bytes i past = same_lists _ _ (grind (arith, places)) (λ k d h. grind (arith, places))

pub ends_past : (bytes : List ℕ) (i : ℕ) → length bytes ≤ i → title_len bytes i ≡ 0
ends_past bytes i past = ap (prefix_len is_title_byte) (nothing_left bytes i past)

pub one_more : (bytes : List ℕ) (at place k : ℕ) → at ≤ place → place < length bytes → k ≡ place + 1 - at
    → take k (drop at bytes) ≡ take (place - at) (drop at bytes) ++ get_or bytes place 0 ∷ []
one_more bytes at place k above inside next = same_lists _ _ (grind (arith, places)) (λ x d h. grind (arith, places))

pub title_found : (bytes kept : List ℕ) (at place : ℕ) → at ≤ place → place < length bytes → get_or bytes place 0 ≡ 0
    → kept ≡ take (place - at) (drop at bytes) → title_len bytes at ≡ title_len bytes place + (place - at)
    → 1 ≤ length kept → length kept ≤ 31 → Some kept ≡ title_at bytes at
title_found bytes kept at place above inside zero same len some few =
    let ends : title_len bytes place ≡ 0 = ends_here bytes place inside (ap is_title_byte zero) in
    let count : length (take (place - at) (drop at bytes)) ≡ place - at = grind (arith, places) in
    let long : length kept ≡ place - at = ap length same ∙ count in
    let n : title_len bytes at ≡ place - at = omega (arith, len, ends) in
    let there : at + (place - at) ≡ place = omega (arith, above) in
    let least : nat_le 1 (place - at) ≡ true = le-leb 1 (place - at) (omega (arith, some, long)) in
    let most : nat_le (place - at) 31 ≡ true = le-leb (place - at) 31 (omega (arith, few, long)) in
    let within : nat_lt place (length bytes) ≡ true = lt-ltb place (length bytes) inside in
    rw (n, there, least, most, within, zero) (ap Some same)

pub ruleset title_steps = (goes_on, ends_here, ends_past, one_more)
