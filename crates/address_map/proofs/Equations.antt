-- From the bytes one by one to memory as a whole: what a call that writes leaves of `bytes_of`, for
-- the layers above.
use Rattle.std.proofs.Common.{◌≡◌, ℕ, Bool, List, Some, None, Ok, Err, refl, is_some}
use Rattle.raw_store.specs.declared.fault.Fault.{Fault}
use Rattle.address_map.specs.declared.map.AddressMap.{AddressMap}
use Rattle.address_map.specs.Bytes.{Bytes, with_byte, with_word, with_bytes, with_moved, with_moved_at, with_bytes_at, with_byte_at, with_word_at, store_fault, byte_stored, word_stored, word_start}
use Rattle.address_map.specs.Memory.{place, byte_at, is_mapped, bytes_of, layout}
use Rattle.address_map.proofs.Stores.{layout-place}

-- the same addresses are mapped, and each byte is that of a function
pub same_bytes : (m n : AddressMap) (bytes : ℕ → ℕ) → layout n ≡ layout m → ((a : ℕ) → byte_at n a ≡ bytes a)
    → bytes_of n ≡ record { mapped = is_mapped m; at = bytes }
same_bytes m n bytes same h =
    let e : place n ≡ place m = layout-place m n same in
    λ i. record { mapped = λ a. is_some (e i a); at = λ a. h a i }

pub stored_byte : (m n : AddressMap) (a byte : ℕ) → layout n ≡ layout m
    → ((b : ℕ) → byte_at n b ≡ with_byte_at (byte_at m) a byte b) → bytes_of n ≡ with_byte (bytes_of m) a byte
stored_byte m n a byte same h = same_bytes m n (with_byte_at (byte_at m) a byte) same h

pub stored_word : (m n : AddressMap) (a word : ℕ) → layout n ≡ layout m
    → ((b : ℕ) → byte_at n b ≡ with_word_at (byte_at m) a word b) → bytes_of n ≡ with_word (bytes_of m) a word
stored_word m n a word same h = same_bytes m n (with_word_at (byte_at m) a word) same h

pub stored_bytes : (m n : AddressMap) (a : ℕ) (new : List ℕ) → layout n ≡ layout m
    → ((b : ℕ) → byte_at n b ≡ with_bytes_at (byte_at m) a new b) → bytes_of n ≡ with_bytes (bytes_of m) a new
stored_bytes m n a new same h = same_bytes m n (with_bytes_at (byte_at m) a new) same h

pub stored_moved : (m n : AddressMap) (from to len : ℕ) → layout n ≡ layout m
    → ((b : ℕ) → byte_at n b ≡ with_moved_at (byte_at m) from to len b) → bytes_of n ≡ with_moved (bytes_of m) from to len
stored_moved m n from to len same h = same_bytes m n (with_moved_at (byte_at m) from to len) same h

-- a guest's store, where it is refused and where not
pub byte_stored-refused : (owned : ℕ → Bool) (b : Bytes) (a byte : ℕ) (fault : Fault) → store_fault owned b a ≡ Some fault
    → byte_stored owned b a byte ≡ Err fault
unfolding byte_stored
byte_stored-refused owned b a byte fault h = rw h refl

pub byte_stored-done : (owned : ℕ → Bool) (b : Bytes) (a byte : ℕ) → store_fault owned b a ≡ None
    → byte_stored owned b a byte ≡ Ok (with_byte b a byte)
unfolding byte_stored
byte_stored-done owned b a byte h = rw h refl

pub word_stored-refused : (owned : ℕ → Bool) (b : Bytes) (a word : ℕ) (fault : Fault) → store_fault owned b (word_start a) ≡ Some fault
    → word_stored owned b a word ≡ Err fault
unfolding word_stored
word_stored-refused owned b a word fault h = rw h refl

pub word_stored-done : (owned : ℕ → Bool) (b : Bytes) (a word : ℕ) → store_fault owned b (word_start a) ≡ None
    → word_stored owned b a word ≡ Ok (with_word b (word_start a) word)
unfolding word_stored
word_stored-done owned b a word h = rw h refl
