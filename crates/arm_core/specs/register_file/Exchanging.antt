-- A file of which some registers have changed places with others.
use Rattle.std.proofs.Common.{ℕ, Bool, true, false, ◌≡◌, ◌≢◌, ◌<◌, ◌≤◌, ◌+◌, ◌-◌, ◌*◌, ◌/◌, ◌^◌, IsTrue, List}
use Rattle.std.proofs.Common.{slice_index, slice_set, length, map, refl, sym, ◌∙◌, ap, arith, nat_lt, nat_eq}
use Rattle.std.proofs.Common.{subst}
use Rattle.std.specs.List.{range_with_len}
use Rattle.std.proofs.lemmas.Bool.Decides.{nat_tests}
use Rattle.std.proofs.lemmas.Grind.{same_number_lists, get_or-set_at}
use Rattle.std.proofs.lemmas.List.{get_or-set_other, length-set, get_or_past}
use Rattle.std.proofs.lemmas.List.FromFn.{get_or-map-range_with_len, length-map-range_with_len}
use Rattle.arm_core.specs.register_file.Banks.{changed_place, bank_exchanged, is_bank}
use Rattle.arm_core.specs.register_file.Places.{place_turned, place_below, other_place, bounds, here_changed}
use Rattle.arm_core.specs.register_file.Places.{there_unchanged, here_unchanged, there_changed, others_stay}

-- a place of the file
pub at_place : (first ahead : ℕ) (file : List ℕ) (k : ℕ) → k < 26 → slice_index (bank_exchanged first ahead
    file) k ≡ slice_index file (changed_place first 15 ahead k)
unfolding bank_exchanged
at_place first ahead file k h = get_or-map-range_with_len (λ (j : ℕ). slice_index file (changed_place first
    15 ahead j)) 0 26 k k 0 h (omega arith)

pub size : (first ahead : ℕ) (file : List ℕ) → length (bank_exchanged first ahead file) ≡ 26
unfolding bank_exchanged
size first ahead file = length-map-range_with_len (λ (j : ℕ). slice_index file (changed_place first 15 ahead
    j)) 0 26

pub twice_exchanged : (first ahead : ℕ) (file : List ℕ) → IsTrue (is_bank first ahead) → length file ≡ 26 →
    bank_exchanged first ahead (bank_exchanged first ahead file) ≡ file
twice_exchanged first ahead file h len =
    same_number_lists _ _ (size first ahead (bank_exchanged first ahead file) ∙ sym len) (λ (k : ℕ) (low : k
    < length (bank_exchanged first ahead (bank_exchanged first ahead file))).
    let within : k < 26 = omega (arith, low, size first ahead (bank_exchanged first ahead file)) in
    at_place first ahead (bank_exchanged first ahead file) k within ∙ at_place first ahead file
    (changed_place first 15 ahead k) (place_below first ahead k h within)
    ∙ ap (λ (j : ℕ). slice_index file j) (place_turned first ahead k h))

-- where a counter of words gives one of bytes
pub quarter : (at : ℕ) → 4 * at / 4 ≡ at
quarter at = omega arith

-- a register, read where it has gone
pub reading : (first ahead : ℕ) (file : List ℕ) (k p : ℕ) → k < 26 → p ≡ changed_place first 15 ahead k →
    slice_index file p ≡ slice_index (bank_exchanged first ahead file) k
reading first ahead file k p h e = ap (λ (j : ℕ). slice_index file j) e ∙ sym (at_place first ahead file k h)

pub same_by : (k n : ℕ) → nat_eq k n ≡ true → k ≡ n
same_by k n e = grind (arith, nat_tests)

pub other_by : (k n : ℕ) → nat_eq k n ≡ false → k ≢ n
other_by k n e same = grind (arith, nat_tests)

set_at : (first ahead : ℕ) (file : List ℕ) (j v k : ℕ) (b : Bool) → IsTrue (is_bank first ahead) → j < 26 →
    length file ≡ 26 → k < 26 → nat_eq k j ≡ b
    → slice_index (slice_set file (changed_place first 15 ahead j) v) (changed_place first 15 ahead k) ≡
    slice_index (slice_set (bank_exchanged first ahead file) j v) k
set_at first ahead file j v k true bank h len low e =
    let here : k ≡ j = same_by k j e in
    let there : changed_place first 15 ahead k ≡ changed_place first 15 ahead j = ap (changed_place first 15
    ahead) here in
    let below : changed_place first 15 ahead j < 26 = place_below first ahead j bank h in
    get_or-set_at file (changed_place first 15 ahead j) (changed_place first 15 ahead k) v 0 there (omega
    (arith, below, len))
    ∙ sym (get_or-set_at (bank_exchanged first ahead file) j k v 0 here (omega (
      arith,
      h,
      size first ahead
          file,
    )))
set_at first ahead file j v k false bank h len low e =
    let other : k ≢ j = other_by k j e in
    get_or-set_other file (changed_place first 15 ahead j) (changed_place first 15 ahead k) v 0 (other_place
    first ahead k j bank other)
    ∙ sym (at_place first ahead file k low)
    ∙ sym (get_or-set_other (bank_exchanged first ahead file) j k v 0 other)

pub setting : (first ahead : ℕ) (file : List ℕ) (j v p : ℕ) → IsTrue (is_bank first ahead) → j < 26 → p ≡
    changed_place first 15 ahead j → length file ≡ 26
    → bank_exchanged first ahead (slice_set file p v) ≡ slice_set (bank_exchanged first ahead file) j v
setting first ahead file j v p bank h e len =
    let long : length (slice_set (bank_exchanged first ahead file) j v) ≡ 26 = length-set (bank_exchanged
    first ahead file) j v ∙ size first ahead file in
    ap (λ (q : ℕ). bank_exchanged first ahead (slice_set file q v)) e
    ∙ same_number_lists _ _ (size first ahead (slice_set file (changed_place first 15 ahead j) v) ∙ sym long)
    (λ (k : ℕ) (low : k < length (bank_exchanged first ahead (slice_set file (changed_place first 15 ahead j)
    v))).
    let within : k < 26 = omega (
      arith,
      low,
      size first ahead (slice_set file (changed_place first 15 ahead
          j) v),
    ) in
    at_place first ahead (slice_set file (changed_place first 15 ahead j) v) k within ∙ set_at first ahead
    file j v k (nat_eq k j) bank h len within refl)

pub exchanged_by : (first ahead : ℕ) (old new : List ℕ) → length new ≡ 26 → ((k : ℕ) → k < 26 → slice_index
    new k ≡ slice_index old (changed_place first 15 ahead k)) → new ≡ bank_exchanged first ahead old
exchanged_by first ahead old new len h = same_number_lists _ _ (len ∙ sym (size first ahead old)) (λ (k : ℕ)
    (low : k < length new).
    let within : k < 26 = omega (arith, low, len) in
    h k within ∙ sym (at_place first ahead old k within))

-- one more register exchanged
changed_at : (f g : List ℕ) (first ahead n k : ℕ) (here there : Bool) → length f ≡ 26 → first ≤ n → n < 15 →
    15 ≤ first + ahead → ahead ≤ 11
    → ((j : ℕ) → j < 26 → slice_index f j ≡ slice_index g (changed_place first n ahead j)) → k < 26 → nat_eq
    k n ≡ here → nat_eq k (n + ahead) ≡ there
    → slice_index (slice_set (slice_set f n (slice_index f (n + ahead))) (n + ahead) (slice_index f n)) k ≡
    slice_index g (changed_place first (n + 1) ahead k)
changed_at f g first ahead n k here true len low top apart within h below e d =
    let is : k ≡ n + ahead = same_by k (n + ahead) d in
    let long : length (slice_set f n (slice_index f (n + ahead))) ≡ 26 = length-set f n (slice_index f (n +
    ahead)) ∙ len in
    let inside : n < 26 = omega arith in
    get_or-set_at (slice_set f n (slice_index f (n + ahead))) (n + ahead) k (slice_index f n) 0 is (omega
    (arith, long, within, top))
    ∙ h n inside ∙ ap (λ (j : ℕ). slice_index g j) (here_unchanged first ahead n low top apart ∙ sym
    (there_changed first ahead n low top apart))
    ∙ ap (λ (j : ℕ). slice_index g (changed_place first (n + 1) ahead j)) (sym is)
changed_at f g first ahead n k true false len low top apart within h below e d =
    let is : k ≡ n = same_by k n e in
    let inside : n + ahead < 26 = omega arith in
    get_or-set_other (slice_set f n (slice_index f (n + ahead))) (n + ahead) k (slice_index f n) 0 (other_by
    k (n + ahead) d)
    ∙ get_or-set_at f n k (slice_index f (n + ahead)) 0 is (omega (arith, len, top))
    ∙ h (n + ahead) inside ∙ ap (λ (j : ℕ). slice_index g j) (there_unchanged first ahead n low top apart ∙
    sym (here_changed first ahead n low top))
    ∙ ap (λ (j : ℕ). slice_index g (changed_place first (n + 1) ahead j)) (sym is)
changed_at f g first ahead n k false false len low top apart within h below e d =
    get_or-set_other (slice_set f n (slice_index f (n + ahead))) (n + ahead) k (slice_index f n) 0 (other_by
    k (n + ahead) d)
    ∙ get_or-set_other f n k (slice_index f (n + ahead)) 0 (other_by k n e)
    ∙ h k below ∙ ap (λ (j : ℕ). slice_index g j) (sym (others_stay first ahead n k low top apart (other_by k
    n e) (other_by k (n + ahead) d)))

pub one_more_changed : (f g : List ℕ) (first ahead n : ℕ) → IsTrue (is_bank first ahead) → length f ≡ 26 →
    first ≤ n → n < 15
    → ((j : ℕ) → j < 26 → slice_index f j ≡ slice_index g (changed_place first n ahead j))
    → (k : ℕ) → k < 26 → slice_index (slice_set (slice_set f n (slice_index f (n + ahead))) (n + ahead)
    (slice_index f n)) k ≡ slice_index g (changed_place first (n + 1) ahead k)
one_more_changed f g first ahead n bank len low top h k below =
    let b = bounds first ahead bank in
    changed_at f g first ahead n k (nat_eq k n) (nat_eq k (n + ahead)) len low top b.apart b.within h below
    refl refl

-- registers stay words
words_by : (first ahead : ℕ) (file : List ℕ) (k : ℕ) (b : Bool) → nat_lt k 26 ≡ b → ((j : ℕ) → slice_index
    file j < 2 ^ 32) → slice_index (bank_exchanged first ahead file) k < 2 ^ 32
words_by first ahead file k true e h =
    let within : k < 26 = grind (arith, nat_tests) in
    subst (λ (x : ℕ). x < 2 ^ 32) (sym (at_place first ahead file k within)) (h (changed_place first 15 ahead
    k))
words_by first ahead file k false e h =
    let past : 26 ≤ k = grind (arith, nat_tests) in
    let none : slice_index (bank_exchanged first ahead file) k ≡ 0 = get_or_past (bank_exchanged first ahead
    file) k 0 (omega (arith, size first ahead file, past)) in
    omega (arith, none)

pub words_exchanged : (first ahead : ℕ) (file : List ℕ) → ((j : ℕ) → slice_index file j < 2 ^ 32) → (k : ℕ) →
    slice_index (bank_exchanged first ahead file) k < 2 ^ 32
words_exchanged first ahead file h k = words_by first ahead file k (nat_lt k 26) refl h
