-- What a write to the store leaves in memory.
use Rattle.std.proofs.Common.{◌≡◌, ℕ, ◌+◌, ◌-◌, ◌/◌, ◌%◌, ◌<◌, ◌≤◌, ◌⊎◌, true, false, List, [], ◌∷◌, ◌++◌, length, replicate, slice_set, Option, Some, None, arith, refl, ◌∙◌, ap, inl, inr, add-zero}
use Rattle.std.specs.List.{All}
use Rattle.std.proofs.lemmas.Bool.{cases_lt, le-leb, lt-ltb, lt-leb, le-ltb}
use Rattle.std.proofs.lemmas.List.Elements.{All-cons, All-nil, All-append, All-replicate}
use Rattle.std.proofs.lemmas.List.{set_split, places, length-append, length-replicate, get_or-replicate}
use Rattle.raw_store.specs.Region.{bytes_after_write, word_bytes, bytes_after_zero, bytes_after_growth}
use Rattle.raw_store.proofs.Written.{length-written, written_inside, written_before, written_past}
use Rattle.std.proofs.lemmas.Bool.Decides.{nat_tests}
use Rattle.address_map.specs.declared.map.AddressMap.{AddressMap}
use Rattle.address_map.specs.Bytes.{in_range, with_bytes_at, with_word_at, with_byte_at}
use Rattle.address_map.specs.Memory.{place, byte_in, byte_at, Layout, Mapping, free_pages, regions, layout, mapping}
use Rattle.address_map.specs.Pages.{place_in}
use Rattle.address_map.proofs.Loads.{place_next, place_only, place_fits, place_fits_word}

pub in_range-cases : (at len a : ℕ)
    → ((in_range at len a ≡ true) × (at ≤ a) × (a < at + len)) ⊎ ((in_range at len a ≡ false) × ((a < at) ⊎ (at + len ≤ a)))
in_range-cases at len a =
    elim (cases_lt a at) [
      | inl low ↦ inr (rw (lt-leb at a low) refl, inl low)
      | inr high ↦ elim (cases_lt a (at + len)) [
        | inl below ↦ inl (rw (le-leb at a high, lt-ltb a (at + len) below) refl, high, below)
        | inr past ↦ inr (rw (le-leb at a high, le-ltb a (at + len) past) refl, inr past)
      ]
    ]

pub slice_set-written : (bytes : List ℕ) (at v : ℕ) → at + 1 ≤ length bytes → slice_set bytes at v ≡ bytes_after_write bytes at (v ∷ [])
slice_set-written bytes at v below = rw (set_split bytes at v (omega arith)) (grind arith)

-- a list written over the place of `at` in the store is, by addresses, the list written over `at`
written_over : (place : ℕ → Option ℕ) (old new : List ℕ) (at k : ℕ) → k + length new ≤ length old
    → ((j : ℕ) → j < length new → place (at + j) ≡ Some (k + j))
    → ((a b p : ℕ) → place a ≡ Some p → place b ≡ Some p → a ≡ b)
    → (a : ℕ) (there : Option ℕ) → place a ≡ there
    → byte_in (bytes_after_write old k new) there ≡ with_bytes_at (λ b. byte_in old (place b)) at new a
written_over place old new at k fits run only a None h =
    elim (in_range-cases at (length new) a) [
      | inl r ↦
          let e : at + (a - at) ≡ a = omega arith in
          let g : place (at + (a - at)) ≡ Some (k + (a - at)) = run (a - at) (omega arith) in
          let g' = rw e at g in cc
      | inr r ↦ rw (r.0, h) refl
    ]
written_over place old new at k fits run only a (Some p) h =
    elim (in_range-cases at (length new) a) [
      | inl r ↦
          let e : at + (a - at) ≡ a = omega arith in
          let g : place (at + (a - at)) ≡ Some (k + (a - at)) = run (a - at) (omega arith) in
          let g' = rw e at g in
          let same : p ≡ k + (a - at) = cc in
          rw (r.0, same) (written_inside old new k (a - at) 0 fits (omega arith))
      | inr r ↦ rw (r.0, h) (elim (cases_lt p k) [
        | inl low ↦ written_before old new k p 0 fits low
        | inr high ↦ elim (cases_lt p (k + length new)) [
          | inl inside ↦
              let e : k + (p - k) ≡ p = omega arith in
              let g : place (at + (p - k)) ≡ Some (k + (p - k)) = run (p - k) (omega arith) in
              let same : a ≡ at + (p - k) = only a (at + (p - k)) p h (rw e at g) in
              absurd (omega (arith, r.1))
          | inr past ↦ written_past old new k p 0 fits past
        ]
      ])
    ]

pub bytes_written : (m n : AddressMap) (at k : ℕ) (new : List ℕ)
    → place n ≡ place m → n.store.items ≡ bytes_after_write m.store.items k new → k + length new ≤ length m.store.items
    → ((j : ℕ) → j < length new → place m (at + j) ≡ Some (k + j))
    → (a : ℕ) → byte_at n a ≡ with_bytes_at (byte_at m) at new a
unfolding byte_at
bytes_written m n at k new same store fits run a =
    let e : place n a ≡ place m a = ap (λ f. f a) same in
    rw (e, store) (written_over (place m) m.store.items new at k fits run (place_only m) a (place m a) refl)

-- the four bytes of a word, and one byte
pub with_bytes-word : (bytes : ℕ → ℕ) (at word a : ℕ) → with_bytes_at bytes at (word_bytes word) a ≡ with_word_at bytes at word a
with_bytes-word bytes at word a = grind (arith, nat_tests, places)

pub with_bytes-byte : (bytes : ℕ → ℕ) (at byte a : ℕ) → with_bytes_at bytes at (byte ∷ []) a ≡ with_byte_at bytes at byte a
with_bytes-byte bytes at byte a = grind (arith, nat_tests, places)

pub same_layout : (m n : AddressMap) → n.frames ≡ m.frames → n.free ≡ m.free → n.regions ≡ m.regions → layout n ≡ layout m
unfolding place free_pages regions
same_layout m n frames free records =
    λ i. record { regions = (records i).items; place = place_in (frames i); free_pages = length (free i).items }

pub layout-place : (m n : AddressMap) → layout n ≡ layout m → place n ≡ place m
layout-place m n same = ap (λ l. l.place) same

pub layout-mapping : (m n : AddressMap) → layout n ≡ layout m → mapping n ≡ mapping m
layout-mapping m n same = ap (λ (l : Layout). let kept : Mapping = record { place = l.place; free_pages = l.free_pages } in kept) same

pub word_put : (m n : AddressMap) (a k word : ℕ) → a % 4 ≡ 0 → place m a ≡ Some k → layout n ≡ layout m
    → n.store.items ≡ bytes_after_write m.store.items k (word_bytes word)
    → (b : ℕ) → byte_at n b ≡ with_word_at (byte_at m) a word b
word_put m n a k word aligned h same store b =
    bytes_written m n a k (word_bytes word) (layout-place m n same) store (place_fits_word m a k aligned h)
    (λ j below. place_next m a j k aligned below h) b ∙ with_bytes-word (byte_at m) a word b

-- the bytes of a region after a write are still bytes
pub All-written : (bytes new : List ℕ) (at : ℕ) → at + length new ≤ length bytes → All (λ b. b < 256) bytes → All (λ b. b < 256) new
    → All (λ b. b < 256) (bytes_after_write bytes at new)
All-written bytes new at fits old fresh k d below =
    let below' : k < length bytes = rw length-written at below in
    elim (cases_lt k at) [
      | inl low ↦ rw (written_before bytes new at k d fits low) (old k d below')
      | inr high ↦ elim (cases_lt k (at + length new)) [
        | inl inside ↦
            let e : at + (k - at) ≡ k = omega arith in
            let g = written_inside bytes new at (k - at) d fits (omega arith) in
            let g' = rw e at g in
            rw g' (fresh (k - at) d (omega arith))
        | inr past ↦ rw (written_past bytes new at k d fits past) (old k d below')
      ]
    ]

pub All-word_bytes : (word : ℕ) → All (λ b. b < 256) (word_bytes word)
All-word_bytes word =
    let P : ℕ → Type 0 = λ b. b < 256 in
    let b0 = word % 256 in
    let b1 = word / 256 % 256 in
    let b2 = word / 65536 % 256 in
    let b3 = word / 16777216 % 256 in
    All-cons P b0 (b1 ∷ (b2 ∷ (b3 ∷ []))) (omega arith) (All-cons P b1 (b2 ∷ (b3 ∷ [])) (omega arith)
    (All-cons P b2 (b3 ∷ []) (omega arith) (All-cons P b3 [] (omega arith) (All-nil P))))

pub All-byte : (byte : ℕ) → byte < 256 → All (λ b. b < 256) (byte ∷ [])
All-byte byte fits = let P : ℕ → Type 0 = λ b. b < 256 in All-cons P byte [] fits (All-nil P)

-- so the store keeps its length, and its bytes
pub store_written : (m : AddressMap) (store new : List ℕ) (k : ℕ) → store ≡ bytes_after_write m.store.items k new → k + length new ≤ length m.store.items
    → All (λ b. b < 256) new → All (λ b. b < 256) store × (length store ≡ length m.store.items)
store_written m store new k is fits fresh =
    rw is (All-written m.store.items new k fits m.bytes_fit fresh, length-written m.store.items new k fits)

pub byte_put : (m n : AddressMap) (a k byte : ℕ) → place m a ≡ Some k → layout n ≡ layout m
    → n.store.items ≡ slice_set m.store.items k byte
    → (b : ℕ) → byte_at n b ≡ with_byte_at (byte_at m) a byte b
byte_put m n a k byte h same store b =
    let fits : k + 1 ≤ length m.store.items = place_fits m a k h in
    bytes_written m n a k (byte ∷ []) (layout-place m n same) (store ∙ slice_set-written m.store.items k byte fits) fits
    (λ j below. let e : j ≡ 0 = omega arith in rw (e, add-zero a, add-zero k) h) b ∙ with_bytes-byte (byte_at m) a byte b

abbrev pub zeros : ℕ → List ℕ
zeros len = replicate len 0

pub length-zeros : (len : ℕ) → length (zeros len) ≡ len
length-zeros len = length-replicate {A = ℕ} len 0

pub store_zeroed : (m : AddressMap) (store : List ℕ) (at len : ℕ) → store ≡ bytes_after_zero m.store.items at len → at + len ≤ length m.store.items
    → All (λ b. b < 256) store × (length store ≡ length m.store.items)
store_zeroed m store at len is fits =
    let fits' : at + length (zeros len) ≤ length m.store.items = rw (length-zeros len) fits in
    store_written m store (zeros len) at is fits'
    (λ k d below. let b : k < len = rw (length-zeros len) at below in rw (get_or-replicate len k 0 d b) (omega arith))

-- zeros written in a store, after its bytes too
pub All-grown : (bytes : List ℕ) (n : ℕ) → All (λ b. b < 256) bytes → All (λ b. b < 256) (bytes_after_growth bytes n)
All-grown bytes n fit =
    let P : ℕ → Type 0 = λ b. b < 256 in
    All-append P bytes (zeros (n - length bytes)) fit (All-replicate P (n - length bytes) 0 (omega arith))

pub length-grown : (bytes : List ℕ) (n : ℕ) → (n ≤ length (bytes_after_growth bytes n)) × (length bytes ≤ length (bytes_after_growth bytes n))
length-grown bytes n =
    let e = length-append bytes (zeros (n - length bytes)) in
    let z = length-zeros (n - length bytes) in
    (omega (arith, e, z), omega (arith, e))

pub zeros_written : (bytes store : List ℕ) (at len : ℕ) → store ≡ bytes_after_zero (bytes_after_growth bytes (at + len)) at len → All (λ b. b < 256) bytes
    → All (λ b. b < 256) store × (length store ≡ length (bytes_after_growth bytes (at + len)))
zeros_written bytes store at len is fit =
    let long = length-grown bytes (at + len) in
    let fits : at + length (zeros len) ≤ length (bytes_after_growth bytes (at + len)) = rw (length-zeros len) long.0 in
    rw is (
      All-written (bytes_after_growth bytes (at + len)) (zeros len) at fits (All-grown bytes (at + len) fit) (All-replicate (λ b. b < 256) len 0 (omega arith)),
      length-written (bytes_after_growth bytes (at + len)) (zeros len) at fits,
    )

-- two writes side by side are one
pub two_writes : (old : ℕ → ℕ) (at : ℕ) (xs : List ℕ) (y a : ℕ)
    → with_bytes_at (with_bytes_at old at xs) (at + length xs) (y ∷ []) a ≡ with_bytes_at old at (xs ++ y ∷ []) a
two_writes old at xs y a = grind (arith, nat_tests, places, length-append)
