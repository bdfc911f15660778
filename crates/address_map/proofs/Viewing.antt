-- The bytes of a mapped range, one by one: each is loaded where it stands.
use Rattle.std.proofs.Common.{◌≡◌, ℕ, ◌+◌, ◌^◌, ◌<◌, true, length, Ok, arith, refl, slice_index}
use Rattle.std.proofs.lemmas.Bool.{lt-leb}
use Rattle.std.proofs.lemmas.List.FromFn.{get_or-map-range_with_len, length-map-range_with_len}
use Rattle.address_map.specs.declared.map.AddressMap.{AddressMap}
use Rattle.address_map.specs.Bytes.{AreMapped, bytes_between, byte_loaded}
use Rattle.address_map.specs.Memory.{is_mapped, byte_at, bytes_of}
use Rattle.address_map.proofs.Spans.{mapped_below}

pub bytes_counted : (f : ℕ → ℕ) (at len : ℕ) → length (bytes_between f at len) ≡ len
bytes_counted f at len = length-map-range_with_len f at len

-- a byte of the range is where its place says, and is loaded as it stands there
pub record IsViewed (m : AddressMap) (at i byte : ℕ) : Type 0 where
  pub below : at + i < 2 ^ 26
  pub loaded : byte_loaded (bytes_of m) (at + i) ≡ Ok byte

pub byte_viewed : (m : AddressMap) (at len i : ℕ) → AreMapped (is_mapped m) at len → i < len
    → IsViewed m at i (slice_index (bytes_between (byte_at m) at len) i)
unfolding byte_loaded
byte_viewed m at len i mapped within =
    let is : is_mapped m (at + i) ≡ true = mapped (at + i) (omega arith) (omega (arith, within)) in
    let below : at + i < 2 ^ 26 = mapped_below m (at + i) is in
    let byte : slice_index (bytes_between (byte_at m) at len) i ≡ byte_at m (at + i) =
    get_or-map-range_with_len (byte_at m) at len i (at + i) 0 within refl in
    record {
      below = below;
      loaded = rw (lt-leb (2 ^ 26) (at + i) below, is, byte) refl;
    }
