-- An error's number, its text and a zero byte, written one after another, are its block.
use Rattle.address_map.specs.MemoryMap.{error_block_start}
use Rattle.std.proofs.Common.{◌≡◌, ℕ, ◌+◌, List, [], ◌∷◌, length, ◌++◌, ◌∙◌, ap}
use Rattle.address_map.specs.declared.map.AddressMap.{AddressMap}
use Rattle.address_map.specs.Bytes.{Bytes, with_word, with_word_at, with_bytes_at, with_bytes}
use Rattle.address_map.specs.Memory.{bytes_of, byte_at, is_mapped, layout}
use Rattle.address_map.proofs.Equations.{stored_word, stored_bytes}
use Rattle.address_map.proofs.Stores.{two_writes}
use Rattle.swi_dispatch_answers.specs.Errors.{memory_with_error}

pub error_written : (m n1 n2 n : AddressMap) (number code : ℕ) (text name : List ℕ) → number ≡ code → text ≡ name
    → layout n1 ≡ layout m → ((a : ℕ) → byte_at n1 a ≡ with_word_at (byte_at m) error_block_start number a)
    → layout n2 ≡ layout n1 → ((a : ℕ) → byte_at n2 a ≡ with_bytes_at (byte_at n1) 0x01C02104 text a)
    → layout n ≡ layout n2 → ((a : ℕ) → byte_at n a ≡ with_bytes_at (byte_at n2) (0x01C02104 + length text) (0 ∷ []) a)
    → bytes_of n ≡ memory_with_error (bytes_of m) code name
error_written m n1 n2 n number code text name is_code is_name same1 put1 same2 put2 same put =
    let one : bytes_of n1 ≡ with_word (bytes_of m) error_block_start code = stored_word m n1 error_block_start number same1 put1 ∙ ap (λ (k : ℕ). with_word (bytes_of m) error_block_start k) is_code in
    let two : bytes_of n2 ≡ with_bytes (with_word (bytes_of m) error_block_start code) 0x01C02104 text =
    stored_bytes n1 n2 0x01C02104 text same2 put2 ∙ ap (λ (b : Bytes). with_bytes b 0x01C02104 text) one in
    let three : bytes_of n ≡ with_bytes (with_bytes (with_word (bytes_of m) error_block_start code) 0x01C02104 text) (0x01C02104 + length text) (0 ∷ []) =
    stored_bytes n2 n (0x01C02104 + length text) (0 ∷ []) same put ∙ ap (λ (b : Bytes). with_bytes b (0x01C02104 + length text) (0 ∷ [])) two in
    let whole : with_bytes (with_bytes (with_word (bytes_of m) error_block_start code) 0x01C02104 text) (0x01C02104 + length text) (0 ∷ [])
    ≡ with_bytes (with_word (bytes_of m) error_block_start code) 0x01C02104 (text ++ 0 ∷ []) =
    λ i. record { mapped = is_mapped m; at = λ a. two_writes (with_word_at (byte_at m) error_block_start code) 0x01C02104 text 0 a i } in
    three ∙ whole ∙ ap (λ (xs : List ℕ). with_bytes (with_word (bytes_of m) error_block_start code) 0x01C02104 (xs ++ 0 ∷ [])) is_name
