-- Bytes that are copied in the store, piece by piece, and what that leaves in memory.
use Rattle.std.proofs.Common.{◌≡◌, ℕ, ◌+◌, ◌-◌, ◌<◌, ◌≤◌, List, length, take, drop, get_or, arith, refl, sym, ap, ◌∙◌, inl, inr}
use Rattle.std.specs.List.{All}
use Rattle.std.proofs.lemmas.Bool.Decides.{nat_tests}
use Rattle.std.proofs.lemmas.List.{places}
use Rattle.raw_store.specs.Region.{bytes_after_copy}
use Rattle.address_map.specs.declared.map.AddressMap.{AddressMap}
use Rattle.address_map.specs.Bytes.{with_moved_at}
use Rattle.address_map.specs.Memory.{byte_at, layout, IsSpan}
use Rattle.address_map.proofs.Loads.{byte_found}
use Rattle.address_map.proofs.Stores.{in_range-cases, bytes_written, layout-place, store_written}

pub moved_in : (f : ℕ → ℕ) (from to len k : ℕ) → k < len → with_moved_at f from to len (to + k) ≡ f (from + k)
moved_in f from to len k below = let e : from + (to + k - to) ≡ from + k = omega arith in grind (arith, nat_tests, ap f e)

pub length-piece : (store : List ℕ) (from len : ℕ) → from + len ≤ length store → length (take len (drop from store)) ≡ len
length-piece store from len fits = grind (arith, places)

pub get_or-piece : (store : List ℕ) (from len k d : ℕ) → from + len ≤ length store → k < len → get_or (take len (drop from store)) k d ≡ get_or store (from + k) d
get_or-piece store from len k d fits below = grind (arith, places)

pub bytes_copied : (m n : AddressMap) (from k span to at other len : ℕ) → IsSpan m from k span → IsSpan m to at other → len ≤ span → len ≤ other
    → layout n ≡ layout m → n.store.items ≡ bytes_after_copy m.store.items k at len
    → (a : ℕ) → byte_at n a ≡ with_moved_at (byte_at m) from to len a
bytes_copied m n from k span to at other len source target within inside same store a =
    let fits : k + len ≤ length m.store.items = omega (arith, source.within) in
    let e : length (take len (drop k m.store.items)) ≡ len = length-piece m.store.items k len fits in
    let room : at + length (take len (drop k m.store.items)) ≤ length m.store.items = rw e (omega (arith, target.within)) in
    bytes_written m n to at (take len (drop k m.store.items)) (layout-place m n same) store room
    (λ j below. let less : j < len = rw e at below in target.places j (omega arith)) a
    ∙ elim (in_range-cases to len a) [
      | inl r ↦ rw (e, r.0) (get_or-piece m.store.items k len (a - to) 0 fits (omega arith)
          ∙ sym (byte_found m (from + (a - to)) (k + (a - to)) (source.places (a - to) (omega arith))))
      | inr r ↦ rw (e, r.0) refl
    ]

pub store_copied : (m : AddressMap) (store : List ℕ) (k at len : ℕ) → store ≡ bytes_after_copy m.store.items k at len
    → k + len ≤ length m.store.items → at + len ≤ length m.store.items → All (λ b. b < 256) store × (length store ≡ length m.store.items)
store_copied m store k at len is fits room =
    let e : length (take len (drop k m.store.items)) ≡ len = length-piece m.store.items k len fits in
    store_written m store (take len (drop k m.store.items)) at is (rw e room)
    (λ j d below. let less : j < len = rw e at below in
    rw (get_or-piece m.store.items k len j d fits less) (m.bytes_fit (k + j) d (omega arith)))

-- a piece more, going up and going down
pub moved_up : (bytes : ℕ → ℕ) (from to done more a : ℕ) → to ≤ from
    → with_moved_at (with_moved_at bytes from to done) (from + done) (to + done) more a ≡ with_moved_at bytes from to (done + more) a
moved_up bytes from to done more a down =
    elim (in_range-cases (to + done) more a) [
      | inl r ↦ elim (in_range-cases to done (from + done + (a - (to + done)))) [
        | inl s ↦ absurd (omega arith)
        | inr s ↦ elim (in_range-cases to (done + more) a) [
          | inl t ↦ let e : from + done + (a - (to + done)) ≡ from + (a - to) = omega arith in rw (r.0, s.0, t.0, e) refl
          | inr t ↦ absurd (omega arith)
        ]
      ]
      | inr r ↦ grind (arith, nat_tests)
    ]

pub moved_down : (bytes : ℕ → ℕ) (from to left more len a : ℕ) → from ≤ to → more ≤ left → left ≤ len
    → with_moved_at (with_moved_at bytes (from + left) (to + left) (len - left)) (from + (left - more)) (to + (left - more)) more a
    ≡ with_moved_at bytes (from + (left - more)) (to + (left - more)) (len - (left - more)) a
moved_down bytes from to left more len a up some within = grind (arith, nat_tests)
