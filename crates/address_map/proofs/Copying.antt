-- A memory that becomes a copy of another has its bytes.
use Rattle.std.proofs.Common.{◌≡◌, ℕ, ◌+◌, ◌<◌, ◌≤◌, List, length, get_or, slice_range, Option, Some, None, arith, refl, sym, ◌∙◌, ap}
use Rattle.std.proofs.lemmas.List.{places, same_lists}
use Rattle.raw_store.specs.Region.{bytes_after_write, bytes_after_growth}
use Rattle.raw_store.proofs.Written.{written_inside}
use Rattle.address_map.specs.declared.map.AddressMap.{AddressMap}
use Rattle.address_map.specs.Memory.{byte_in, byte_at, place}
use Rattle.address_map.specs.Pages.{place_in}
use Rattle.address_map.proofs.Loads.{place_fits}
use Rattle.address_map.proofs.Stores.{length-grown}

pub whole_range : (bytes lent : List ℕ) (n : ℕ) → lent ≡ slice_range bytes 0 (0 + n) → n ≡ length bytes → lent ≡ bytes
whole_range bytes lent n is long =
    let all : slice_range bytes 0 (0 + n) ≡ bytes = same_lists _ _ (grind (arith, places, long)) (λ k d h. grind (arith, places, long)) in
    is ∙ all

-- the store's first bytes are those of the other's store, and pages have the frames that they have
-- there
pub bytes_alike : (m : AddressMap) (store old bytes : List ℕ) (frames : List (Option ℕ)) (n : ℕ) → store ≡ bytes_after_write (bytes_after_growth old n) 0 bytes → n ≡ length bytes
    → bytes ≡ m.store.items → frames ≡ m.frames → (a : ℕ) → byte_in store (place_in frames a) ≡ byte_at m a
unfolding byte_at place
bytes_alike m store old bytes frames n is long same table a =
    ap (λ (fs : List (Option ℕ)). byte_in store (place_in fs a)) table ∙ alike (place_in m.frames a) refl where
      alike : (there : Option ℕ) → place_in m.frames a ≡ there → byte_in store there ≡ byte_in m.store.items there
      alike None h = refl
      alike (Some k) h =
          let size = (length-grown old n).0 in
          let within : 0 + length bytes ≤ length (bytes_after_growth old n) = omega (arith, size, long) in
          let e : length bytes ≡ length m.store.items = ap length same in
          let below : k < length bytes = omega (arith, place_fits m a k h, e) in
          let at : 0 + k ≡ k = omega arith in
          ap (λ (xs : List ℕ). get_or xs k 0) is
          ∙ ap (λ (j : ℕ). get_or (bytes_after_write (bytes_after_growth old n) 0 bytes) j 0) (sym at)
          ∙ written_inside (bytes_after_growth old n) bytes 0 k 0 within below
          ∙ ap (λ (xs : List ℕ). get_or xs k 0) same
