-- Facts of memory that need no call: bytes are below 256 and words below 2^32, addresses that are
-- not mapped read as 0, and pages are mapped whole.
use Rattle.std.proofs.Common.{◌≡◌, ℕ, ◌+◌, ◌/◌, ◌%◌, ◌<◌, false, Option, Some, None, is_some, arith, refl, sym, ◌∙◌, ap}
use Rattle.std.proofs.lemmas.Bool.{false≢true}
use Rattle.address_map.specs.declared.map.AddressMap.{AddressMap}
use Rattle.address_map.specs.Pages.{frame_at, place_in_frame}
use Rattle.address_map.specs.Memory.{place, byte_in, byte_at, is_mapped, layout}
use Rattle.address_map.proofs.Loads.{place_fits}
use Rattle.address_map.proofs.Stores.{layout-place}

pub byte_at-lt : (m : AddressMap) (a : ℕ) → byte_at m a < 256
unfolding byte_at
byte_at-lt m a = below (place m a) refl where
  below : (there : Option ℕ) → place m a ≡ there → byte_in m.store.items there < 256
  below None none = omega arith
  below (Some k) some = m.bytes_fit k 0 (omega (arith, place_fits m a k some))

pub byte_at-unmapped : (m : AddressMap) (a : ℕ) → is_mapped m a ≡ false → byte_at m a ≡ 0
unfolding byte_at
byte_at-unmapped m a h = zero_at (place m a) h where
  zero_at : (there : Option ℕ) → is_some there ≡ false → byte_in m.store.items there ≡ 0
  zero_at None none = refl
  zero_at (Some k) some = absurd (false≢true (sym some))

pub is_mapped-layout : (m n : AddressMap) → layout n ≡ layout m → is_mapped n ≡ is_mapped m
is_mapped-layout m n same = ap (λ (p : ℕ → Option ℕ). λ (a : ℕ). is_some (p a)) (layout-place m n same)

-- an address is mapped with all of its page, so with all of its word
pub is_mapped-page : (m : AddressMap) (a b : ℕ) → a / 4096 ≡ b / 4096 → is_mapped m a ≡ is_mapped m b
unfolding place
is_mapped-page m a b same =
    ap (λ (p : ℕ). is_some (place_in_frame a (frame_at m.frames p))) same ∙ alike (frame_at m.frames (b / 4096)) where
      alike : (there : Option ℕ) → is_some (place_in_frame a there) ≡ is_some (place_in_frame b there)
      alike None = refl
      alike (Some frame) = refl

pub is_mapped-word : (m : AddressMap) (a j : ℕ) → a % 4 ≡ 0 → j < 4 → is_mapped m (a + j) ≡ is_mapped m a
is_mapped-word m a j aligned below = is_mapped-page m (a + j) a (omega arith)
