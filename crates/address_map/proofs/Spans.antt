-- The bytes from an address on to the end of its page, and what a walk over a range by such pieces
-- leaves.
use Rattle.std.proofs.Common.{◌≡◌, ℕ, ◌+◌, ◌-◌, ◌%◌, ◌^◌, ◌<◌, ◌≤◌, true, false, List, length, take, Option, Some, None, is_some, arith, refl, ◌∙◌, ap, inl, inr, slice_range}
use Rattle.std.proofs.lemmas.Bool.{cases_lt, both_ways}
use Rattle.std.proofs.lemmas.Bool.Decides.{nat_tests}
use Rattle.std.proofs.lemmas.List.{places, get_or-replicate}
use Rattle.raw_store.specs.Region.{bytes_after_zero}
use Rattle.address_map.specs.declared.map.AddressMap.{AddressMap}
use Rattle.address_map.specs.Bytes.{AreMapped, with_bytes_at, with_zeros_at}
use Rattle.address_map.specs.Memory.{place, is_mapped, byte_at, layout, IsSpan}
use Rattle.address_map.proofs.Loads.{place_below}
use Rattle.address_map.proofs.PageTable.{place_within, place_written, place_near}
use Rattle.address_map.proofs.Stores.{in_range-cases, bytes_written, layout-place, zeros, length-zeros}

-- the page that an address lies in
pub page_span : (m : AddressMap) (a k : ℕ) → place m a ≡ Some k → IsSpan m (a - a % 4096) (k - a % 4096) 4096
unfolding place
page_span m a k h =
    let low = place_written m.frames (length m.store.items) a k m.written h in
    record {
      some = omega arith;
      within = omega (arith, low.0, low.1);
      places = λ j more.
          let e : k - a % 4096 + (a - a % 4096 + j) % 4096 ≡ k - a % 4096 + j = omega arith in
          place_near m.frames a (a - a % 4096 + j) k (omega arith) h ∙ ap Some e;
    }

pub place_offset : (m : AddressMap) (a k : ℕ) → place m a ≡ Some k → a % 4096 ≤ k
unfolding place
place_offset m a k h = omega (arith, (place_within m.frames m.free.items a k m.table h).0)

-- parts of a span: from a byte on, and up to one
pub span_from : (m : AddressMap) (a k len offset : ℕ) → IsSpan m a k len → offset < len → IsSpan m (a + offset) (k + offset) (len - offset)
span_from m a k len offset is below = record {
  some = omega arith;
  within = omega (arith, is.within);
  places = λ j more.
      let there : place m (a + (offset + j)) ≡ Some (k + (offset + j)) = is.places (offset + j) (omega arith) in
      let e : a + (offset + j) ≡ a + offset + j = omega arith in
      let e' : k + (offset + j) ≡ k + offset + j = omega arith in
      rw (e, e') at there;
}

pub span_last : (m : AddressMap) (a k len less a' k' len' : ℕ) → IsSpan m a k len → 0 < less → less ≤ len
    → a' ≡ a + (len - less) → k' ≡ k + (len - less) → len' ≡ less → IsSpan m a' k' len'
span_last m a k len less a' k' len' is some below ea ek el =
    let e : len - (len - less) ≡ less = omega arith in
    let part = span_from m a k len (len - less) is (omega arith) in
    let part' = rw e at part in
    rw (ea, ek, el) part'

pub span_up_to : (m : AddressMap) (a k len less : ℕ) → IsSpan m a k len → 0 < less → less ≤ len → IsSpan m a k less
span_up_to m a k len less is some below = record {
  some = some;
  within = omega (arith, is.within);
  places = λ j more. is.places j (omega arith);
}

pub mapped_there : (m : AddressMap) (a k : ℕ) → place m a ≡ Some k → is_mapped m a ≡ true
mapped_there m a k h = ap is_some h

-- mapped addresses lie below 2^26
pub mapped_below : (m : AddressMap) (a : ℕ) → is_mapped m a ≡ true → a < 2 ^ 26
mapped_below m a h = found (place m a) refl where
  found : (there : Option ℕ) → place m a ≡ there → a < 2 ^ 26
  found None none = absurd (let no : is_some (place m a) ≡ false = ap is_some none in both_ways _ no h)
  found (Some k) some = place_below m a k some

pub range_below : (m : AddressMap) (at len done : ℕ) → AreMapped (is_mapped m) at len → done < len → at + done < 2 ^ 26
range_below m at len done mapped below = mapped_below m (at + done) (mapped (at + done) (omega arith) (omega arith))

pub range_fits : (m : AddressMap) (at len : ℕ) → AreMapped (is_mapped m) at len → at < 2 ^ 32 → at + len < 2 ^ 32
range_fits m at len mapped fits =
    elim (cases_lt 0 len) [
      | inl some ↦ omega (arith, range_below m at len (len - 1) mapped (omega arith))
      | inr none ↦ omega arith
    ]

pub span_below : (m : AddressMap) (a place len : ℕ) → IsSpan m a place len → a + len ≤ 2 ^ 26
span_below m a place len span = omega (arith, place_below m (a + (len - 1)) _ (span.places (len - 1) (omega (arith, span.some))), span.some)

-- a range and its next span
pub mapped_more : (m : AddressMap) (at done place more : ℕ) → AreMapped (is_mapped m) at done → IsSpan m (at + done) place more
    → AreMapped (is_mapped m) at (done + more)
mapped_more m at done place more before span a low high =
    elim (cases_lt a (at + done)) [
      | inl passed ↦ before a low passed
      | inr later ↦
          let e : at + done + (a - (at + done)) ≡ a = omega arith in
          let there = mapped_there m (at + done + (a - (at + done))) _ (span.places (a - (at + done)) (omega arith)) in
          rw e at there
    ]

pub with_bytes-more : (bytes : ℕ → ℕ) (at : ℕ) (new : List ℕ) (done end a : ℕ) → done ≤ end → end ≤ length new
    → with_bytes_at (with_bytes_at bytes at (take done new)) (at + done) (slice_range new done end) a ≡ with_bytes_at bytes at (take end new) a
with_bytes-more bytes at new done end a low high = grind (arith, nat_tests, places)

with_bytes-zeros : (bytes : ℕ → ℕ) (at len a : ℕ) → with_bytes_at bytes at (zeros len) a ≡ with_zeros_at bytes at len a
with_bytes-zeros bytes at len a =
    elim (in_range-cases at len a) [
      | inl r ↦ rw (length-zeros len, r.0) (get_or-replicate len (a - at) 0 0 (omega arith))
      | inr r ↦ rw (length-zeros len, r.0) refl
    ]

pub bytes_zeroed : (m n : AddressMap) (a k span len : ℕ) → IsSpan m a k span → len ≤ span → layout n ≡ layout m → n.store.items ≡ bytes_after_zero m.store.items k len
    → (b : ℕ) → byte_at n b ≡ with_zeros_at (byte_at m) a len b
bytes_zeroed m n a k span len is within same store b =
    let fits : k + length (zeros len) ≤ length m.store.items = rw (length-zeros len) (omega (arith, is.within)) in
    bytes_written m n a k (zeros len) (layout-place m n same) store fits
    (λ j below. let more : j < len = rw (length-zeros len) at below in is.places j (omega arith)) b ∙ with_bytes-zeros (byte_at m) a len b
