-- What a mapped address reads: the byte, or the word, at its place in the store.
use Rattle.std.proofs.Common.{◌≡◌, ℕ, ◌+◌, ◌-◌, ◌/◌, ◌%◌, ◌^◌, ◌<◌, ◌≤◌, true, false, get_or, length, nat_le, Option, Some, None, is_some, Ok, Err, arith, refl, sym, ap, ◌∙◌, slice_index}
use Rattle.std.proofs.lemmas.Bool.{false≢true}
use Rattle.std.proofs.lemmas.Bool.Decides.{nat_tests}
use Rattle.std.proofs.lemmas.List.{get_or_past, get_or_default}
use Rattle.raw_store.specs.declared.fault.Fault.{Fault}
use Rattle.raw_store.specs.declared.fault.Fault.TheVariants.{DataUnmapped}
use Rattle.raw_store.specs.Region.{word_in}
use Rattle.address_map.specs.declared.map.AddressMap.{AddressMap}
use Rattle.address_map.specs.Bytes.{Bytes, load_fault, word_start, word_at, byte_loaded, word_loaded}
use Rattle.address_map.specs.Memory.{place, is_mapped, byte_in, byte_at, bytes_of}
use Rattle.address_map.specs.Pages.{frame_at, place_in_frame}
use Rattle.address_map.proofs.PageTable.{place_within, place_written, place_same, place_near, place_limit}

pub place_fits : (m : AddressMap) (a k : ℕ) → place m a ≡ Some k → k + 1 ≤ length m.store.items
unfolding place
place_fits m a k h = omega (arith, (place_written m.frames (length m.store.items) a k m.written h).1)

pub place_next : (m : AddressMap) (a j k : ℕ) → a % 4 ≡ 0 → j < 4 → place m a ≡ Some k → place m (a + j) ≡ Some (k + j)
unfolding place
place_next m a j k aligned below h =
    let low = (place_within m.frames m.free.items a k m.table h).0 in
    let e : k - a % 4096 + (a + j) % 4096 ≡ k + j = omega arith in
    place_near m.frames a (a + j) k (omega arith) h ∙ ap Some e

pub place_only : (m : AddressMap) (a b k : ℕ) → place m a ≡ Some k → place m b ≡ Some k → a ≡ b
unfolding place
place_only m a b k h g = place_same m.frames m.free.items a b k m.table h g

pub place_below : (m : AddressMap) (a k : ℕ) → place m a ≡ Some k → a < 2 ^ 26
unfolding place
place_below m a k h = place_limit m.frames m.free.items a k m.table h

pub place_past : (m : AddressMap) (a : ℕ) → 2 ^ 26 ≤ a → place m a ≡ None
unfolding place
place_past m a past = ap (place_in_frame a) (get_or_past m.frames (a / 4096) None (omega (arith, m.table.size)))

-- the frame that was read from the table
pub frame_read : (m : AddressMap) (a : ℕ) (there : Option ℕ) → a < 2 ^ 26 → there ≡ get_or m.frames (a / 4096) there
    → frame_at m.frames (a / 4096) ≡ there
frame_read m a there below read = get_or_default m.frames (a / 4096) None there (omega (arith, m.table.size)) ∙ sym read

pub place_read : (m : AddressMap) (a : ℕ) (there : Option ℕ) → a < 2 ^ 26 → there ≡ get_or m.frames (a / 4096) there
    → place m a ≡ place_in_frame a there
unfolding place
place_read m a there below read = ap (place_in_frame a) (frame_read m a there below read)

-- a page that is not mapped has no frame
pub unmapped_page : (m : AddressMap) (a : ℕ) → is_mapped m a ≡ false → frame_at m.frames (a / 4096) ≡ None
unfolding place
unmapped_page m a h = none (frame_at m.frames (a / 4096)) h where
  none : (there : Option ℕ) → is_some (place_in_frame a there) ≡ false → there ≡ None
  none None e = refl
  none (Some frame) e = absurd (false≢true (sym e))

-- and one that is mapped has one
pub mapped_page : (m : AddressMap) (a : ℕ) → is_mapped m a ≡ true → is_some (frame_at m.frames (a / 4096)) ≡ true
unfolding place
mapped_page m a h = some (frame_at m.frames (a / 4096)) h where
  some : (there : Option ℕ) → is_some (place_in_frame a there) ≡ true → is_some there ≡ true
  some None e = e
  some (Some frame) e = refl

pub place_fits_word : (m : AddressMap) (a k : ℕ) → a % 4 ≡ 0 → place m a ≡ Some k → k + 4 ≤ length m.store.items
place_fits_word m a k aligned h = omega (arith, place_fits m (a + 3) (k + 3) (place_next m a 3 k aligned (omega arith) h))

pub byte_found : (m : AddressMap) (a k : ℕ) → place m a ≡ Some k → byte_at m a ≡ slice_index m.store.items k
unfolding byte_at
byte_found m a k h = ap (byte_in m.store.items) h

pub word_found : (m : AddressMap) (a k : ℕ) → a % 4 ≡ 0 → place m a ≡ Some k → word_in m.store.items k ≡ word_at (byte_at m) a
word_found m a k aligned h =
    let b0 = byte_found m a k h in
    let b1 = byte_found m (a + 1) (k + 1) (place_next m a 1 k aligned (omega arith) h) in
    let b2 = byte_found m (a + 2) (k + 2) (place_next m a 2 k aligned (omega arith) h) in
    let b3 = byte_found m (a + 3) (k + 3) (place_next m a 3 k aligned (omega arith) h) in
    cc

pub byte_read : (m : AddressMap) (a k : ℕ) → load_fault (bytes_of m) a ≡ None → place m a ≡ Some k
    → Ok (slice_index m.store.items k) ≡ byte_loaded (bytes_of m) a
unfolding byte_loaded
byte_read m a k clear h = rw clear (ap Ok (sym (byte_found m a k h)))

pub word_read : (m : AddressMap) (a k : ℕ) → load_fault (bytes_of m) (word_start a) ≡ None → place m (word_start a) ≡ Some k
    → Ok (word_in m.store.items k) ≡ word_loaded (bytes_of m) a
unfolding word_loaded
word_read m a k clear h = rw clear (ap Ok (word_found m (word_start a) k (omega arith) h))

pub byte_refused : (b : Bytes) (a : ℕ) (fault : Fault) → load_fault b a ≡ Some fault → Err fault ≡ byte_loaded b a
unfolding byte_loaded
byte_refused b a fault h = rw h refl

pub word_refused : (b : Bytes) (a : ℕ) (fault : Fault) → load_fault b (word_start a) ≡ Some fault → Err fault ≡ word_loaded b a
unfolding word_loaded
word_refused b a fault h = rw h refl

-- what a fetch meets at an address of 26 bits
pub fetch_clear : (m : AddressMap) (a k : ℕ) → a < 2 ^ 26 → place m a ≡ Some k → load_fault (bytes_of m) a ≡ None
fetch_clear m a k below h =
    let within : nat_le (2 ^ 26) a ≡ false = grind (arith, nat_tests) in
    let there : is_mapped m a ≡ true = ap is_some h in
    rw (within, there) refl

pub fetch_refused : (m : AddressMap) (a : ℕ) → a < 2 ^ 26 → place m a ≡ None → load_fault (bytes_of m) a ≡ Some DataUnmapped
fetch_refused m a below h =
    let within : nat_le (2 ^ 26) a ≡ false = grind (arith, nat_tests) in
    let none : is_mapped m a ≡ false = ap is_some h in
    rw (within, none) refl

-- the word at a place that is known
pub word_known : (m : AddressMap) (a k w : ℕ) → a % 4 ≡ 0 → place m a ≡ Some k → w ≡ word_in m.store.items k → word_loaded (bytes_of m) a ≡ Ok w
word_known m a k w aligned h is =
    let start : word_start a ≡ a = omega (arith, aligned) in
    let there : place m (word_start a) ≡ Some k = ap (place m) start ∙ h in
    let below : word_start a < 2 ^ 26 = omega (arith, start, place_below m a k h) in
    sym (word_read m a k (fetch_clear m (word_start a) k below there) there) ∙ ap Ok (sym is)
