-- One word read or written.
use Rattle.std.proofs.Common.{arith, ◌≡◌, refl, ℕ, Ok, true, ◌%◌, ◌^◌, ◌<◌, Bool, ◌∙◌, ap}
use Rattle.std.proofs.lemmas.Bool.{lt-leb}
use Rattle.address_map.proofs.Bytes.{is_mapped-layout}
use Rattle.address_map.proofs.Spans.{mapped_below}
use Rattle.address_map.specs.Bytes.{word_loaded, word_at, word_start}
use Rattle.address_map.specs.Memory.{is_mapped, bytes_of, byte_at, layout}
use Rattle.address_map.specs.declared.map.AddressMap.{AddressMap}

pub word_mapped : (m : AddressMap) (at : ℕ) → at % 4 ≡ 0 → is_mapped m at ≡ true → word_loaded (bytes_of m) at ≡ Ok (word_at (byte_at m) at)
unfolding word_loaded
word_mapped m at aligned mapped =
    let e : word_start at ≡ at = omega arith in
    let low : at < 2 ^ 26 = mapped_below m at mapped in
    rw (e, lt-leb (2 ^ 26) at low, mapped) refl

pub still_mapped : (m n : AddressMap) (a : ℕ) → layout n ≡ layout m → is_mapped m a ≡ true → is_mapped n a ≡ true
still_mapped m n a same mapped = ap (λ (p : ℕ → Bool). p a) (is_mapped-layout m n same) ∙ mapped
