-- The words of a memory, and pages of two memories whose words are alike.
use Rattle.std.proofs.Common.{◌≡◌, ℕ, ◌+◌, ◌*◌, ◌%◌, ◌^◌, ◌<◌, ◌≤◌, Bool, true, false, nat_le, List, slice_index, Option, Some, None, is_some, Ok, Err, refl, sym, ap, ◌∙◌, arith, cond, inl, inr}
use Rattle.std.proofs.lemmas.Bool.{cases_Bool}
use Rattle.std.proofs.lemmas.Bool.Decides.{nat_tests}
use Rattle.profile.specs.Fault.{Fault}
use Rattle.profile.specs.Fault.TheVariants.{AddressException, DataUnmapped}
use Rattle.arm_step.specs.Bytes.{Bytes, load_fault, ok_unless_fault, word_at, word_loaded, word_start}
use Rattle.arm_step.specs.Lent.{IsLent}
use Rattle.arm_step.specs.Memory.{byte_at, bytes_of, is_mapped}
use Rattle.arm_step.specs.AddressMap.{AddressMap}
use Rattle.arm_step.proofs.Bytes.{byte_at-unmapped, is_mapped-page, is_mapped-word}
use Rattle.arm_step.proofs.Loads.{place_past}

value_loaded : (fault : Option Fault) (value word : ℕ) → ok_unless_fault fault value ≡ Ok word → word ≡ value
value_loaded None value word loaded = cc
value_loaded (Some fault) value word loaded = cc

pub word_is_loaded : (b : Bytes) (a word : ℕ) → a % 4 ≡ 0 → Ok word ≡ word_loaded b a → word ≡ word_at b.at a
unfolding word_loaded
word_is_loaded b a word aligned loaded =
    let start : word_start a ≡ a = omega arith in
    value_loaded (load_fault b (word_start a)) (word_at b.at (word_start a)) word (sym loaded) ∙ ap (word_at b.at) start

unmapped_by : (past mapped : Bool) (value : ℕ) (fault : Fault)
    → Err fault ≡ ok_unless_fault (cond past (Some AddressException) (cond mapped None (Some DataUnmapped))) value
    → past ≡ false → mapped ≡ false
unmapped_by true mapped value fault refused below = cc
unmapped_by false false value fault refused below = refl
unmapped_by false true value fault refused below = cc

past_limit : (m : AddressMap) (a : ℕ) → nat_le (2 ^ 26) a ≡ true → is_mapped m a ≡ false
past_limit m a past = let far : 2 ^ 26 ≤ a = grind (arith, nat_tests) in ap is_some (place_past m a far)

pub is_unmapped : (m : AddressMap) (a : ℕ) (fault : Fault) → a % 4 ≡ 0 → Err fault ≡ word_loaded (bytes_of m) a → is_mapped m a ≡ false
unfolding word_loaded
is_unmapped m a fault aligned refused =
    let start : word_start a ≡ a = omega arith in
    elim (cases_Bool (nat_le (2 ^ 26) (word_start a))) [
      | inl past ↦ past_limit m a (ap (nat_le (2 ^ 26)) (sym start) ∙ past)
      | inr below ↦ ap (is_mapped m) (sym start)
          ∙ unmapped_by (nat_le (2 ^ 26) (word_start a)) (is_mapped m (word_start a)) (word_at (byte_at m) (word_start a)) fault refused below
    ]

pub no_word : (m : AddressMap) (a : ℕ) → a % 4 ≡ 0 → is_mapped m a ≡ false → 0 ≡ word_at (byte_at m) a
no_word m a aligned unmapped =
    let b0 = byte_at-unmapped m a unmapped in
    let b1 = byte_at-unmapped m (a + 1) (is_mapped-word m a 1 aligned (omega arith) ∙ unmapped) in
    let b2 = byte_at-unmapped m (a + 2) (is_mapped-word m a 2 aligned (omega arith) ∙ unmapped) in
    let b3 = byte_at-unmapped m (a + 3) (is_mapped-word m a 3 aligned (omega arith) ∙ unmapped) in
    rw (b0, b1, b2, b3) refl

-- past the end of memory no word is mapped
pub both_past : (m n : AddressMap) (a : ℕ) → 2 ^ 26 ≤ a → a % 4 ≡ 0 → word_at (byte_at m) a ≡ word_at (byte_at n) a
both_past m n a past aligned =
    sym (no_word m a aligned (ap is_some (place_past m a past))) ∙ no_word n a aligned (ap is_some (place_past n a past))

pub both_unmapped : (m n : AddressMap) (page : ℕ) → page % 4096 ≡ 0 → is_mapped m page ≡ false → is_mapped n page ≡ false → (j : ℕ) → j < 1024
    → word_at (byte_at m) (page + 4 * j) ≡ word_at (byte_at n) (page + 4 * j)
both_unmapped m n page aligned unmapped unmapped' j inside =
    sym (no_word m (page + 4 * j) (omega arith) (is_mapped-page m (page + 4 * j) page (omega arith) ∙ unmapped))
    ∙ no_word n (page + 4 * j) (omega arith) (is_mapped-page n (page + 4 * j) page (omega arith) ∙ unmapped')

byte_lent : (b b' : Bytes) (page k : ℕ) (xs ys : List ℕ) → IsLent b page 4096 xs → IsLent b' page 4096 ys → xs ≡ ys → k < 4096
    → b.at (page + k) ≡ b'.at (page + k)
byte_lent b b' page k xs ys old new same inside =
    sym (old.bytes k inside) ∙ (ap (λ (zs : List ℕ). slice_index zs k) same ∙ new.bytes k inside)

-- a page whose bytes are as they were
pub same_page : (b b' : Bytes) (page : ℕ) (xs ys : List ℕ) → IsLent b page 4096 xs → IsLent b' page 4096 ys → xs ≡ ys → (j : ℕ) → j < 1024
    → word_at b.at (page + 4 * j) ≡ word_at b'.at (page + 4 * j)
same_page b b' page xs ys old new same j inside =
    let p1 : page + 4 * j + 1 ≡ page + (4 * j + 1) = omega arith in
    let p2 : page + 4 * j + 2 ≡ page + (4 * j + 2) = omega arith in
    let p3 : page + 4 * j + 3 ≡ page + (4 * j + 3) = omega arith in
    let b0 = byte_lent b b' page (4 * j) xs ys old new same (omega arith) in
    let b1 = ap b.at p1 ∙ (byte_lent b b' page (4 * j + 1) xs ys old new same (omega arith) ∙ ap b'.at (sym p1)) in
    let b2 = ap b.at p2 ∙ (byte_lent b b' page (4 * j + 2) xs ys old new same (omega arith) ∙ ap b'.at (sym p2)) in
    let b3 = ap b.at p3 ∙ (byte_lent b b' page (4 * j + 3) xs ys old new same (omega arith) ∙ ap b'.at (sym p3)) in
    rw (b0, b1, b2, b3) refl
