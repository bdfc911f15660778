-- The words of a memory, and pages of two memories whose words are alike.
use Rattle.std.proofs.Common.{◌≡◌, ℕ, ◌+◌, ◌*◌, ◌/◌, ◌%◌, ◌^◌, ◌<◌, ◌≤◌, ◌&&◌, Bool, true, false, nat_le, List, Option, Some, None, is_some, Ok, Err, refl, sym, ap, ◌∙◌, arith, cond, inl, inr}
use Rattle.std.proofs.lemmas.Bool.{cases_Bool, eq-eqb}
use Rattle.std.proofs.lemmas.Bool.Decides.{nat_tests}
use Rattle.profile.specs.Fault.{Fault}
use Rattle.profile.specs.Fault.TheVariants.{AddressException, DataUnmapped}
use Rattle.address_map.specs.Bytes.{Bytes, load_fault, ok_unless_fault, word_at, word_loaded, word_start}
use Rattle.address_map.specs.Lent.{IsLent}
use Rattle.address_map.specs.Memory.{byte_at, bytes_of, is_mapped}
use Rattle.address_map.specs.declared.map.AddressMap.{AddressMap}
use Rattle.address_map.proofs.Bytes.{byte_at-unmapped, is_mapped-page, is_mapped-word}
use Rattle.address_map.proofs.Loads.{place_past}
use Rattle.store_copies.specs.Words.{AreSameBytes, has_word_changed}

value_loaded : (fault : Option Fault) (value word : ℕ) → ok_unless_fault fault value ≡ Ok word → word ≡ value
value_loaded None value word loaded = cc
value_loaded (Some fault) value word loaded = cc

pub word_is_loaded : (b : Bytes) (a word : ℕ) → a % 4 ≡ 0 → Ok word ≡ word_loaded b a → word ≡ word_at b.at a
unfolding word_loaded
word_is_loaded b a word aligned loaded =
    let start : word_start a ≡ a = omega arith in
    value_loaded (load_fault b (word_start a)) (word_at b.at (word_start a)) word (sym loaded) ∙ ap (word_at b.at) start

unmapped_by : (past mapped : Bool) (value : ℕ) (fault : Fault)
    → Err fault ≡ ok_unless_fault (cond past (Some AddressException) (cond mapped None (Some DataUnmapped))) value
    → past ≡ false → mapped ≡ false
unmapped_by true mapped value fault refused below = cc
unmapped_by false false value fault refused below = refl
unmapped_by false true value fault refused below = cc

past_limit : (m : AddressMap) (a : ℕ) → nat_le (2 ^ 26) a ≡ true → is_mapped m a ≡ false
past_limit m a past = let far : 2 ^ 26 ≤ a = grind (arith, nat_tests) in ap is_some (place_past m a far)

pub is_unmapped : (m : AddressMap) (a : ℕ) (fault : Fault) → a % 4 ≡ 0 → Err fault ≡ word_loaded (bytes_of m) a → is_mapped m a ≡ false
unfolding word_loaded
is_unmapped m a fault aligned refused =
    let start : word_start a ≡ a = omega arith in
    elim (cases_Bool (nat_le (2 ^ 26) (word_start a))) [
      | inl past ↦ past_limit m a (ap (nat_le (2 ^ 26)) (sym start) ∙ past)
      | inr below ↦ ap (is_mapped m) (sym start)
          ∙ unmapped_by (nat_le (2 ^ 26) (word_start a)) (is_mapped m (word_start a)) (word_at (byte_at m) (word_start a)) fault refused below
    ]

pub no_word : (m : AddressMap) (a : ℕ) → a % 4 ≡ 0 → is_mapped m a ≡ false → 0 ≡ word_at (byte_at m) a
no_word m a aligned unmapped =
    let b0 = byte_at-unmapped m a unmapped in
    let b1 = byte_at-unmapped m (a + 1) (is_mapped-word m a 1 aligned (omega arith) ∙ unmapped) in
    let b2 = byte_at-unmapped m (a + 2) (is_mapped-word m a 2 aligned (omega arith) ∙ unmapped) in
    let b3 = byte_at-unmapped m (a + 3) (is_mapped-word m a 3 aligned (omega arith) ∙ unmapped) in
    rw (b0, b1, b2, b3) refl

pub never_with : (p q : Bool) → q ≡ false → (p && q) ≡ false
never_with true q is = is
never_with false q is = refl

pub same_word : (b b' : Bytes) (a : ℕ) → word_at b.at a ≡ word_at b'.at a → has_word_changed b b' a ≡ false
same_word b b' a same = rw (eq-eqb (word_at b.at a) (word_at b'.at a) same) (never_with (b'.mapped a) _ refl)

pub unmapped_word : (b b' : Bytes) (a : ℕ) → b'.mapped a ≡ false → has_word_changed b b' a ≡ false
unmapped_word b b' a unmapped = rw unmapped refl

-- a word of a page that isn't mapped
pub unmapped_in_page : (b : Bytes) (m : AddressMap) (page j : ℕ) → is_mapped m (4096 * page) ≡ false → j < 1024
    → has_word_changed b (bytes_of m) (4 * (1024 * page + j)) ≡ false
unmapped_in_page b m page j unmapped inside =
    unmapped_word b (bytes_of m) (4 * (1024 * page + j)) (is_mapped-page m (4 * (1024 * page + j)) (4096 * page) (omega arith) ∙ unmapped)

byte_lent : (b b' : Bytes) (page k from to : ℕ) (xs ys : List ℕ) → IsLent b page 4096 xs → IsLent b' page 4096 ys → AreSameBytes xs ys from to
    → from ≤ k → k < to → to ≤ 4096 → b.at (page + k) ≡ b'.at (page + k)
byte_lent b b' page k from to xs ys old new same low high most =
    sym (old.bytes k (omega (arith, high, most))) ∙ (same k low high ∙ new.bytes k (omega (arith, high, most)))

-- a word of a lane whose bytes are as they were
pub same_in_lane : (b b' : Bytes) (page lane j : ℕ) (xs ys : List ℕ) → IsLent b (4096 * page) 4096 xs → IsLent b' (4096 * page) 4096 ys → lane < 64
    → AreSameBytes xs ys (64 * lane) (64 * lane + 64) → j < 16 → has_word_changed b b' (4 * (1024 * page + 16 * lane + j)) ≡ false
same_in_lane b b' page lane j xs ys old new few same inside =
    let k : ℕ = 64 * lane + 4 * j in
    let p0 : 4 * (1024 * page + 16 * lane + j) ≡ 4096 * page + k = omega arith in
    let p1 : 4096 * page + k + 1 ≡ 4096 * page + (k + 1) = omega arith in
    let p2 : 4096 * page + k + 2 ≡ 4096 * page + (k + 2) = omega arith in
    let p3 : 4096 * page + k + 3 ≡ 4096 * page + (k + 3) = omega arith in
    let byte = λ (i : ℕ) (low : 64 * lane ≤ i) (high : i < 64 * lane + 64).
    byte_lent b b' (4096 * page) i (64 * lane) (64 * lane + 64) xs ys old new same low high (omega (arith, few)) in
    let b0 = byte k (omega arith) (omega (arith, inside)) in
    let b1 = ap b.at p1 ∙ (byte (k + 1) (omega arith) (omega (arith, inside)) ∙ ap b'.at (sym p1)) in
    let b2 = ap b.at p2 ∙ (byte (k + 2) (omega arith) (omega (arith, inside)) ∙ ap b'.at (sym p2)) in
    let b3 = ap b.at p3 ∙ (byte (k + 3) (omega arith) (omega (arith, inside)) ∙ ap b'.at (sym p3)) in
    ap (has_word_changed b b') p0 ∙ same_word b b' (4096 * page + k) (rw (b0, b1, b2, b3) refl)

-- and one of a page
pub same_in_page : (b b' : Bytes) (page : ℕ) (xs ys : List ℕ) → IsLent b (4096 * page) 4096 xs → IsLent b' (4096 * page) 4096 ys
    → AreSameBytes xs ys 0 4096 → (j : ℕ) → j < 1024 → has_word_changed b b' (4 * (1024 * page + j)) ≡ false
same_in_page b b' page xs ys old new same j inside =
    let e : 4 * (1024 * page + j) ≡ 4 * (1024 * page + 16 * (j / 16) + j % 16) = omega arith in
    ap (has_word_changed b b') e
    ∙ same_in_lane b b' page (j / 16) (j % 16) xs ys old new (omega (arith, inside)) (λ k from to. same k (omega arith) (omega (arith, to, inside))) (omega arith)
