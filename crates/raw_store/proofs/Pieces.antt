-- Copies and fills made of pieces: one byte, one lane, and two pieces one after the other.
use Rattle.std.proofs.Common.{◌≡◌, ℕ, ◌+◌, ◌<◌, ◌≤◌, ◌⊎◌, List, ◌∷◌, ◌++◌, suc, length, take, drop, set, get_or, replicate, ◌∙◌, ap, arith, drop-cons, drop-drop, take-append-drop}
use Rattle.std.proofs.lemmas.List.{places, same_lists, set_split}
use Rattle.std.proofs.lemmas.Simd.{length-chunk, put_chunk_is}
use lib.Lanes.{chunk, put_chunk}
use Rattle.raw_store.specs.Region.{bytes_after_write, bytes_after_copy, bytes_after_zero, bytes_after_growth}

pub put_is_written : (bytes lane : List ℕ) (at : ℕ) → at + length lane ≤ length bytes → put_chunk at bytes lane ≡ bytes_after_write bytes at lane
put_is_written bytes lane at fits = put_chunk_is at bytes lane fits ∙ ap (λ rest. take at bytes ++ (lane ++ rest)) (drop-drop (length lane) at bytes)

pub copied_lane : (bytes : List ℕ) (from to n : ℕ) → from + n ≤ length bytes → to + n ≤ length bytes
    → put_chunk to bytes (chunk from n bytes) ≡ bytes_after_copy bytes from to n
copied_lane bytes from to n source target =
    let long : length (chunk from n bytes) ≡ n = length-chunk from n bytes source in
    put_is_written bytes (chunk from n bytes) to (omega (arith, long))

pub copied_byte : (bytes : List ℕ) (from to : ℕ) → from + 1 ≤ length bytes → to + 1 ≤ length bytes
    → set bytes to (get_or bytes from 0) ≡ bytes_after_copy bytes from to 1
copied_byte bytes from to source target =
    let first : drop from bytes ≡ get_or bytes from 0 ∷ drop (suc from) bytes = drop-cons bytes from 0 (omega arith) in
    let next : to + 1 ≡ suc to = omega arith in
    rw (first, next) (set_split bytes to (get_or bytes from 0) (omega arith))

pub copied_none : (bytes : List ℕ) (from to : ℕ) → bytes_after_copy bytes from to 0 ≡ bytes
copied_none bytes from to = let e : to + 0 ≡ to = omega arith in rw e (take-append-drop to bytes)

-- the first piece, and then the one after it, to a lower place
pub copied_down : (bytes : List ℕ) (from to k n i j m : ℕ) → i ≡ from + k → j ≡ to + k → m ≡ k + n → to ≤ from → from + m ≤ length bytes
    → bytes_after_copy (bytes_after_copy bytes from to k) i j n ≡ bytes_after_copy bytes from to m
copied_down bytes from to k n i j m at_i at_j both below fits = same_lists _ _ (grind (arith, places)) (λ x d h. grind (arith, places))

-- the last piece, and then the one before it, to a higher place
pub copied_up : (bytes : List ℕ) (from to k n i j m : ℕ) → i ≡ from + n → j ≡ to + n → m ≡ n + k → from ≤ to → to + m ≤ length bytes
    → bytes_after_copy (bytes_after_copy bytes i j k) from to n ≡ bytes_after_copy bytes from to m
copied_up bytes from to k n i j m at_i at_j both above fits = same_lists _ _ (grind (arith, places)) (λ x d h. grind (arith, places))

pub zeroed_byte : (bytes : List ℕ) (at : ℕ) → at < length bytes → set bytes at 0 ≡ bytes_after_zero bytes at 1
zeroed_byte bytes at fits = let next : at + 1 ≡ suc at = omega arith in rw next (set_split bytes at 0 fits)

pub zeroed_none : (bytes : List ℕ) (at : ℕ) → bytes_after_zero bytes at 0 ≡ bytes
zeroed_none bytes at = let e : at + 0 ≡ at = omega arith in rw e (take-append-drop at bytes)

pub zeroed_more : (bytes : List ℕ) (at k n i m : ℕ) → i ≡ at + k → m ≡ k + n → at + m ≤ length bytes → bytes_after_zero (bytes_after_zero bytes at k) i n ≡ bytes_after_zero bytes at m
zeroed_more bytes at k n i m at_i both fits = same_lists _ _ (grind (arith, places)) (λ x d h. grind (arith, places))

pub zeroed_front : (bytes : List ℕ) (k n m : ℕ) → m ≡ k + n → m ≤ length bytes → bytes_after_zero (bytes_after_zero bytes 0 k) k n ≡ bytes_after_zero bytes 0 m
zeroed_front bytes k n m both fits = zeroed_more bytes 0 k n k m (omega arith) both (omega (arith, fits))

pub zeroed_whole : (bytes : List ℕ) (k n : ℕ) → length bytes ≡ k + n → bytes_after_zero (bytes_after_zero bytes 0 k) k n ≡ replicate (length bytes) 0
zeroed_whole bytes k n whole = same_lists _ _ (grind (arith, places)) (λ x d h. grind (arith, places))

-- bytes made zero, some of which were not written yet
pub cleared_inside : (bytes : List ℕ) (at len inside : ℕ) → at + inside ≤ length bytes → inside ≤ len → (inside ≡ len) ⊎ (at + inside ≡ length bytes)
    → bytes_after_growth (bytes_after_zero bytes at inside) (at + len) ≡ bytes_after_zero (bytes_after_growth bytes (at + len)) at len
cleared_inside bytes at len inside fits below ends = same_lists _ _ (grind (arith, places)) (λ x d h. grind (arith, places))

pub cleared_past : (bytes : List ℕ) (at len : ℕ) → length bytes ≤ at → bytes_after_growth bytes (at + len) ≡ bytes_after_zero (bytes_after_growth bytes (at + len)) at len
cleared_past bytes at len past = same_lists _ _ (grind (arith, places)) (λ x d h. grind (arith, places))

pub ruleset pieces = (copied_none, copied_down, copied_up, zeroed_none, zeroed_more, zeroed_front, zeroed_whole)
