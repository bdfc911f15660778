-- Words that lie in one page: what they read as, what a store of them leaves, and the faults over all of them.
use Rattle.std.proofs.Common.{◌≡◌, ℕ, zero, suc, ◌+◌, ◌*◌, ◌%◌, ◌/◌, ◌^◌, ◌<◌, ◌≤◌, Bool, true, false, cond, not, ◌&&◌, ◌||◌, nat_lt, ltb, List, ◌∷◌, slice_index, refl, ap, sym, ◌∙◌, arith, Some, None, is_some, Ok, Err}
use Rattle.std.proofs.lemmas.Bool.{le-ltb, lt-ltb}
use Rattle.std.proofs.lemmas.Bool.Decides.{nat_tests}
use Rattle.arm_core.specs.Fault.TheVariants.{OwnedWord}
use Rattle.address_map.specs.Bytes.{Bytes, word_at}
use Rattle.address_map.specs.Lent.{IsLent, any_owned}
use Rattle.address_map.specs.Memory.{bytes_of, place, is_mapped, is_owned}
use Rattle.address_map.specs.declared.map.AddressMap.{AddressMap}
use Rattle.address_map.proofs.Bytes.{is_mapped-page}
use Rattle.address_map.proofs.Spans.{mapped_below}
use Rattle.arm_step.specs.PageWords.{are_in_page, missing, words_in}
use Rattle.arm_step.specs.Words.{are_words_mapped, are_free, memory_words_at, words_store_fault, words_loaded}
use Rattle.arm_step.proofs.SeveralWords.{words_all}

record IsInPage (a n : ℕ) : Type 0 where
  some : 0 < n
  within : a % 4096 + 4 * n ≤ 4096

in_page : (a n : ℕ) → are_in_page a n ≡ true → IsInPage a n
in_page a n e = record { some = grind (arith, nat_tests); within = grind (arith, nat_tests) }

pub page_within : (a n : ℕ) → are_in_page a n ≡ true → a % 4096 + 4 * n ≤ 4096
page_within a n e = (in_page a n e).within

-- all words of a page are mapped, or none
all_mapped : (b : Bytes) (a n : ℕ) → ((i : ℕ) → i < n → b.mapped (a + 4 * i) ≡ true) → are_words_mapped b a n ≡ true
unfolding are_words_mapped
all_mapped b a zero h = refl
all_mapped b a (suc n) h =
    let first : b.mapped a ≡ true = let e : a + 4 * 0 ≡ a = omega arith in ap b.mapped (sym e) ∙ h 0 (omega arith) in
    rw first (all_mapped b (a + 4) n (λ i below.
    let e : a + 4 + 4 * i ≡ a + 4 * (i + 1) = omega arith in ap b.mapped e ∙ h (i + 1) (omega arith)))

none_mapped : (b : Bytes) (a n : ℕ) → 0 < n → b.mapped a ≡ false → are_words_mapped b a n ≡ false
unfolding are_words_mapped
none_mapped b a zero some h = absurd (omega arith)
none_mapped b a (suc n) some h = rw h refl

pub page_mapped : (m : AddressMap) (a n : ℕ) → are_in_page a n ≡ true → is_mapped m a ≡ true → are_words_mapped (bytes_of m) a n ≡ true
page_mapped m a n e h =
    let page = in_page a n e in
    all_mapped (bytes_of m) a n (λ i below.
    let same : (a + 4 * i) / 4096 ≡ a / 4096 = omega (arith, page.within) in is_mapped-page m (a + 4 * i) a same ∙ h)

pub page_inside : (m : AddressMap) (a n : ℕ) → are_in_page a n ≡ true → is_mapped m a ≡ true → a + 4 * n ≤ 2 ^ 26
page_inside m a n e h = let page = in_page a n e in omega (arith, page.within, mapped_below m a h)

-- words that are lent
word_lent : (b : Bytes) (a len at : ℕ) (lent : List ℕ) → IsLent b a len lent → at + 4 ≤ len → word_at b.at (a + at) ≡ word_at (slice_index lent) at
word_lent b a len at lent is within =
    let e1 : a + at + 1 ≡ a + (at + 1) = omega arith in
    let e2 : a + at + 2 ≡ a + (at + 2) = omega arith in
    let e3 : a + at + 3 ≡ a + (at + 3) = omega arith in
    let b0 : slice_index lent at ≡ b.at (a + at) = is.bytes at (omega arith) in
    let b1 : slice_index lent (at + 1) ≡ b.at (a + at + 1) = is.bytes (at + 1) (omega arith) ∙ ap b.at (sym e1) in
    let b2 : slice_index lent (at + 2) ≡ b.at (a + at + 2) = is.bytes (at + 2) (omega arith) ∙ ap b.at (sym e2) in
    let b3 : slice_index lent (at + 3) ≡ b.at (a + at + 3) = is.bytes (at + 3) (omega arith) ∙ ap b.at (sym e3) in
    rw (b0, b1, b2, b3) refl

words_lent : (b : Bytes) (a len at n : ℕ) (lent : List ℕ) → IsLent b a len lent → at + 4 * n ≤ len → memory_words_at b (a + at) n ≡ words_in lent at n
unfolding memory_words_at words_in
words_lent b a len at zero lent is within = refl
words_lent b a len at (suc n) lent is within =
    let e : a + at + 4 ≡ a + (at + 4) = omega arith in
    let rest : memory_words_at b (a + at + 4) n ≡ words_in lent (at + 4) n =
    ap (λ x. memory_words_at b x n) e ∙ words_lent b a len (at + 4) n lent is (omega arith) in
    rw (word_lent b a len at lent is (omega arith)) (ap (λ ws. word_at (slice_index lent) at ∷ ws) rest)

pub page_lent : (m : AddressMap) (a n : ℕ) (lent : List ℕ) → are_in_page a n ≡ true → IsLent (bytes_of m) a (4 * n) lent
    → words_loaded (bytes_of m) a n ≡ Ok (words_in lent 0 n)
page_lent m a n lent e is =
    let page = in_page a n e in
    let start : a + 0 ≡ a = omega arith in
    let there : is_mapped m a ≡ true = ap (is_mapped m) (sym start) ∙ is.mapped 0 (omega (arith, page.some)) in
    words_all (bytes_of m) a n (words_in lent 0 n) (page_inside m a n e there) (page_mapped m a n e there)
    (ap (λ x. memory_words_at (bytes_of m) x n) (sym start) ∙ words_lent (bytes_of m) a (4 * n) 0 n lent is (omega arith))

-- where the page is not mapped
load_missing : (far mapped below : Bool) (b : Bytes) (a n : ℕ) → far ≡ not below → mapped ≡ false → nat_lt (2 ^ 26) (a + 4 * n) ≡ far → are_words_mapped b a n ≡ mapped
    → nat_lt a (2 ^ 26) ≡ below → words_loaded b a n ≡ Err (missing a)
load_missing far mapped true b a n f m near gone low = rw (near, gone, f, m, low) refl
load_missing far mapped false b a n f m near gone low = rw (near, f, low) refl

far_by : (a n : ℕ) (below : Bool) → IsInPage a n → nat_lt a (2 ^ 26) ≡ below → nat_lt (2 ^ 26) (a + 4 * n) ≡ not below
far_by a n true page low =
    let l : a < 2 ^ 26 = grind (arith, nat_tests) in
    le-ltb (2 ^ 26) (a + 4 * n) (omega (arith, page.within))
far_by a n false page low =
    let l : 2 ^ 26 ≤ a = grind (arith, nat_tests) in
    lt-ltb (2 ^ 26) (a + 4 * n) (omega (arith, page.some))

pub page_missing : (m : AddressMap) (a n : ℕ) → are_in_page a n ≡ true → is_mapped m a ≡ false → words_loaded (bytes_of m) a n ≡ Err (missing a)
page_missing m a n e h =
    let page = in_page a n e in
    load_missing _ _ (nat_lt a (2 ^ 26)) (bytes_of m) a n (far_by a n _ page refl) (none_mapped (bytes_of m) a n page.some h) refl refl refl

-- a store of words in one page, by what meets it
de_morgan : (x y : Bool) → (not x && not y) ≡ not (x || y)
de_morgan true y = refl
de_morgan false y = refl

pub free_not_owned : (owned : ℕ → Bool) (a n : ℕ) → are_free owned a n ≡ not (any_owned owned a n)
unfolding are_free any_owned
free_not_owned owned a zero = refl
free_not_owned owned a (suc n) =
    ap (λ x. not (owned a) && x) (free_not_owned owned (a + 4) n) ∙ de_morgan (owned a) (any_owned owned (a + 4) n)

fault_missing : (below : Bool) (owned : ℕ → Bool) (b : Bytes) (a n : ℕ) → nat_lt a (2 ^ 26) ≡ below
    → nat_lt (2 ^ 26) (a + 4 * n) ≡ not below → are_words_mapped b a n ≡ false → words_store_fault owned b a n ≡ Some (missing a)
fault_missing true owned b a n low near gone = rw (near, gone, low) refl
fault_missing false owned b a n low near gone = rw (near, low) refl

pub page_refused : (owned : ℕ → Bool) (m : AddressMap) (a n : ℕ) → are_in_page a n ≡ true → is_mapped m a ≡ false
    → words_store_fault owned (bytes_of m) a n ≡ Some (missing a)
page_refused owned m a n e h =
    let page = in_page a n e in
    fault_missing (nat_lt a (2 ^ 26)) owned (bytes_of m) a n refl (far_by a n _ page refl) (none_mapped (bytes_of m) a n page.some h)

fault_by : (any : Bool) (owned : ℕ → Bool) (b : Bytes) (a n : ℕ) → a + 4 * n ≤ 2 ^ 26 → are_words_mapped b a n ≡ true
    → any_owned owned a n ≡ any → words_store_fault owned b a n ≡ cond any (Some OwnedWord) None
fault_by true owned b a n inside mapped any =
    let near : ltb (2 ^ 26) (a + 4 * n) ≡ false = le-ltb (2 ^ 26) (a + 4 * n) inside in
    let free : are_free owned a n ≡ false = free_not_owned owned a n ∙ ap not any in
    rw (near, mapped, free) refl
fault_by false owned b a n inside mapped any =
    let near : ltb (2 ^ 26) (a + 4 * n) ≡ false = le-ltb (2 ^ 26) (a + 4 * n) inside in
    let free : are_free owned a n ≡ true = free_not_owned owned a n ∙ ap not any in
    rw (near, mapped, free) refl

pub page_owned : (m : AddressMap) (a n : ℕ) → are_in_page a n ≡ true → is_mapped m a ≡ true → any_owned (is_owned m) a n ≡ true
    → words_store_fault (is_owned m) (bytes_of m) a n ≡ Some OwnedWord
page_owned m a n e there any = fault_by true (is_owned m) (bytes_of m) a n (page_inside m a n e there) (page_mapped m a n e there) any

pub page_free : (m : AddressMap) (a n : ℕ) → are_in_page a n ≡ true → is_mapped m a ≡ true → any_owned (is_owned m) a n ≡ false
    → words_store_fault (is_owned m) (bytes_of m) a n ≡ None
page_free m a n e there any = fault_by false (is_owned m) (bytes_of m) a n (page_inside m a n e there) (page_mapped m a n e there) any

pub unplaced : (m : AddressMap) (a : ℕ) → None ≡ place m a → is_mapped m a ≡ false
unplaced m a h = ap is_some (sym h)

pub placed : (m : AddressMap) (a k : ℕ) → Some k ≡ place m a → is_mapped m a ≡ true
placed m a k h = ap is_some (sym h)

pub ruleset loading = (page_lent, page_missing)

pub ruleset storing = (page_refused, page_owned, page_free, page_within, unplaced, placed)
