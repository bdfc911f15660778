-- The list of the words that differ, word by word, and what is kept of it.
use Rattle.std.proofs.Common.{◌≡◌, ◌≢◌, ℕ, zero, suc, ◌+◌, ◌-◌, ◌*◌, ◌<◌, ◌≤◌, ◌⊎◌, ◌&&◌, Bool, true, false, not, List, [], ◌∷◌, ◌++◌, length, take, Option, is_some, refl, sym, ap, subst, ◌∙◌, arith, inl, inr, length-append, if◌then◌else◌}
use Rattle.std.proofs.lemmas.Bool.{ne_eqb}
use Rattle.std.proofs.lemmas.List.{append-nil, length-take, take-append-le, take_all}
use Rattle.address_map.specs.Bytes.{Bytes, word_at}
use Rattle.address_map.specs.Memory.{byte_at, bytes_of, place}
use Rattle.address_map.specs.declared.map.AddressMap.{AddressMap}
use Rattle.store_copies.specs.declared.changes.WordChange.{WordChange}
use Rattle.store_copies.specs.declared.changes.WordChanges.{WordChanges}
use Rattle.store_copies.specs.declared.changes.PageRange.{PageRange}
use Rattle.store_copies.specs.Words.{AreListedWithin, IsSummary, word_change_at, word_changes_below, has_word_changed, word_change}
use Rattle.store_copies.proofs.WordLemmas.{never_with}

pub suc_below : (reported : ℕ → Bool) (b b' : Bytes) (n : ℕ) → word_changes_below reported b b' (suc n) ≡ word_changes_below reported b b' n ++ word_change_at reported b b' (4 * n)
unfolding word_changes_below
suc_below reported b b' n = refl

pub none_yet : (reported : ℕ → Bool) (b b' : Bytes) → word_changes_below reported b b' 0 ≡ []
unfolding word_changes_below
none_yet reported b b' = refl

next_below : (reported : ℕ → Bool) (b b' : Bytes) (n : ℕ) → word_changes_below reported b b' (n + 1) ≡ word_changes_below reported b b' n ++ word_change_at reported b b' (4 * n)
next_below reported b b' n = let next : n + 1 ≡ suc n = omega arith in ap (word_changes_below reported b b') next ∙ suc_below reported b b' n

nothing_here : (reported : ℕ → Bool) (b b' : Bytes) (n : ℕ) → word_change_at reported b b' (4 * n) ≡ [] → word_changes_below reported b b' (n + 1) ≡ word_changes_below reported b b' n
nothing_here reported b b' n none =
    next_below reported b b' n ∙ (ap (λ more. word_changes_below reported b b' n ++ more) none ∙ append-nil (word_changes_below reported b b' n))

pub unchanged_here : (reported : ℕ → Bool) (b b' : Bytes) (n : ℕ) → has_word_changed b b' (4 * n) ≡ false → word_changes_below reported b b' (n + 1) ≡ word_changes_below reported b b' n
unchanged_here reported b b' n same = nothing_here reported b b' n (rw same refl)

pub shown_here : (reported : ℕ → Bool) (b b' : Bytes) (n : ℕ) → reported (4 * n) ≡ true → word_changes_below reported b b' (n + 1) ≡ word_changes_below reported b b' n
shown_here reported b b' n is = nothing_here reported b b' n (rw (is, never_with (has_word_changed b b' (4 * n)) _ refl) refl)

changed_here : (reported : ℕ → Bool) (b b' : Bytes) (n : ℕ) → has_word_changed b b' (4 * n) ≡ true → reported (4 * n) ≡ false
    → word_changes_below reported b b' (n + 1) ≡ word_changes_below reported b b' n ++ word_change b b' (4 * n) ∷ []
changed_here reported b b' n is untold =
    next_below reported b b' n ∙ ap (λ more. word_changes_below reported b b' n ++ more) (rw (is, untold) refl)

-- words of which none differs
pub unchanged_ahead : (reported : ℕ → Bool) (b b' : Bytes) (n k : ℕ) → ((j : ℕ) → j < k → has_word_changed b b' (4 * (n + j)) ≡ false)
    → word_changes_below reported b b' (n + k) ≡ word_changes_below reported b b' n
unchanged_ahead reported b b' n zero same = let e : n + 0 ≡ n = omega arith in ap (word_changes_below reported b b') e
unchanged_ahead reported b b' n (suc k) same =
    let e : n + suc k ≡ n + k + 1 = omega arith in
    ap (word_changes_below reported b b') e
    ∙ (unchanged_here reported b b' (n + k) (same k (omega arith)) ∙ unchanged_ahead reported b b' n k (λ j below. same j (omega (arith, below))))

-- words none of which is listed
pub unlisted_ahead : (reported : ℕ → Bool) (b b' : Bytes) (n k : ℕ) → ((j : ℕ) → j < k → word_change_at reported b b' (4 * (n + j)) ≡ [])
    → word_changes_below reported b b' (n + k) ≡ word_changes_below reported b b' n
unlisted_ahead reported b b' n zero none = let e : n + 0 ≡ n = omega arith in ap (word_changes_below reported b b') e
unlisted_ahead reported b b' n (suc k) none =
    let e : n + suc k ≡ n + k + 1 = omega arith in
    ap (word_changes_below reported b b') e
    ∙ (nothing_here reported b b' (n + k) (none k (omega arith)) ∙ unlisted_ahead reported b b' n k (λ j below. none j (omega (arith, below))))

-- those before some pages, and those behind them
pub none_before : (reported : ℕ → Bool) (b b' : Bytes) (pages : PageRange) (page : ℕ) → page ≤ pages.first → page ≤ 16384
    → AreListedWithin reported b b' pages → word_changes_below reported b b' (1024 * page) ≡ []
none_before reported b b' pages page low inside within =
    let e : 1024 * page ≡ 0 + 1024 * page = omega arith in
    ap (word_changes_below reported b b') e
    ∙ (unlisted_ahead reported b b' 0 (1024 * page) (λ j below. within (0 + j) (omega (arith, below, inside)) (inl (omega (arith, below, low))))
    ∙ none_yet reported b b')

pub none_behind : (reported : ℕ → Bool) (b b' : Bytes) (pages : PageRange) (page : ℕ) → page ≤ 16384 → (pages.end ≤ page) ⊎ (16384 ≤ page)
    → AreListedWithin reported b b' pages → word_changes_below reported b b' 16777216 ≡ word_changes_below reported b b' (1024 * page)
none_behind reported b b' pages page inside behind within =
    let e : 16777216 ≡ 1024 * page + (16777216 - 1024 * page) = omega (arith, inside) in
    ap (word_changes_below reported b b') e
    ∙ unlisted_ahead reported b b' (1024 * page) (16777216 - 1024 * page) (λ j below. within (1024 * page + j) (omega (arith, below))
    (inr (elim behind [ inl end ↦ omega (arith, end) | inr last ↦ absurd (omega (arith, below, last)) ])))

-- a page of which no word differs
pub page_passed : (reported : ℕ → Bool) (b b' : Bytes) (page : ℕ) → ((j : ℕ) → j < 1024 → has_word_changed b b' (4 * (1024 * page + j)) ≡ false)
    → word_changes_below reported b b' (1024 * (page + 1)) ≡ word_changes_below reported b b' (1024 * page)
page_passed reported b b' page same =
    let e : 1024 * (page + 1) ≡ 1024 * page + 1024 = omega arith in
    ap (word_changes_below reported b b') e ∙ unchanged_ahead reported b b' (1024 * page) 1024 same

pub few_changes : (reported : ℕ → Bool) (b b' : Bytes) (n : ℕ) → length (word_changes_below reported b b' n) ≤ n
few_changes reported b b' zero = let none = ap length (none_yet reported b b') in omega (arith, none)
few_changes reported b b' (suc n) =
    let before = few_changes reported b b' n in
    let more = ap length (suc_below reported b b' n) ∙ length-append (word_changes_below reported b b' n) (word_change_at reported b b' (4 * n)) in
    let one = at_most_one (has_word_changed b b' (4 * n) && not (reported (4 * n))) (word_change b b' (4 * n)) in
    omega (arith, before, more, one) where
      at_most_one : (listed : Bool) (c : WordChange) → length (if listed then c ∷ [] else []) ≤ 1
      at_most_one true c = omega arith
      at_most_one false c = omega arith

-- what is kept, by what is listed
pub same_summary : (kept : WordChanges) (all more : List WordChange) → more ≡ all → IsSummary kept all → IsSummary kept more
same_summary kept all more same is = subst (λ (changes : List WordChange). IsSummary kept changes) (sym same) is

-- the same that is kept, of the same words
pub kept_on : (reported : ℕ → Bool) (b b' : Bytes) (kept kept' : WordChanges) (n m : ℕ) → kept' ≡ kept → m ≡ n
    → IsSummary kept (word_changes_below reported b b' n) → IsSummary kept' (word_changes_below reported b b' m)
kept_on reported b b' kept kept' n m same at is =
    subst (λ (k : WordChanges). IsSummary k (word_changes_below reported b b' m)) (sym same)
    (subst (λ (i : ℕ). IsSummary kept (word_changes_below reported b b' i)) (sym at) is)

pub kept_here : (reported : ℕ → Bool) (m n : AddressMap) (number old new : ℕ) (there : Option ℕ) (kept kept' : WordChanges)
    → old ≡ word_at (byte_at m) (4 * number) → new ≡ word_at (byte_at n) (4 * number) → old ≢ new
    → there ≡ place n (4 * number) → is_some there ≡ true → reported (4 * number) ≡ false
    → IsSummary kept (word_changes_below reported (bytes_of m) (bytes_of n) number)
    → ((all : List WordChange) → IsSummary kept all → IsSummary kept' (all ++ record { at = 4 * number; old = old; new = new } ∷ []))
    → IsSummary kept' (word_changes_below reported (bytes_of m) (bytes_of n) (number + 1))
kept_here reported m n number old new there kept kept' is_old is_new differs is_there some untold before add =
    let mapped : is_some (place n (4 * number)) ≡ true = sym (ap is_some is_there) ∙ some in
    let unlike : word_at (byte_at m) (4 * number) ≢ word_at (byte_at n) (4 * number) = λ e. differs (is_old ∙ (e ∙ sym is_new)) in
    let is : has_word_changed (bytes_of m) (bytes_of n) (4 * number) ≡ true =
    rw (mapped, ne_eqb (word_at (byte_at m) (4 * number)) (word_at (byte_at n) (4 * number)) unlike) refl in
    let change : record { at = 4 * number; old = old; new = new } ≡ word_change (bytes_of m) (bytes_of n) (4 * number) = rw (is_old, is_new) refl in
    same_summary kept' (word_changes_below reported (bytes_of m) (bytes_of n) number ++ record { at = 4 * number; old = old; new = new } ∷ [])
    (word_changes_below reported (bytes_of m) (bytes_of n) (number + 1))
    (changed_here reported (bytes_of m) (bytes_of n) number is untold
    ∙ ap (λ (c : WordChange). word_changes_below reported (bytes_of m) (bytes_of n) number ++ c ∷ []) (sym change))
    (add (word_changes_below reported (bytes_of m) (bytes_of n) number) before)

-- the first of some changes, with one change more
pub first_pushed : (first all : List WordChange) (c : WordChange) → length first < 16 → first ≡ take 16 all → first ++ c ∷ [] ≡ take 16 (all ++ c ∷ [])
first_pushed first all c room is =
    let len = ap length is ∙ length-take 16 all in
    let few : length all < 16 = omega (arith, len) in
    let more : length (all ++ c ∷ []) ≤ 16 = omega (arith, length-append all (c ∷ [])) in
    ap (λ (xs : List WordChange). xs ++ c ∷ []) (is ∙ take_all 16 all (omega arith)) ∙ sym (take_all 16 (all ++ c ∷ []) more)

pub first_full : (first all : List WordChange) (c : WordChange) → 16 ≤ length first → first ≡ take 16 all → first ≡ take 16 (all ++ c ∷ [])
first_full first all c full is =
    let len = ap length is ∙ length-take 16 all in
    let many : 16 ≤ length all = omega (arith, len) in
    is ∙ sym (take-append-le 16 all (c ∷ []) many)

pub one_more : (all : List WordChange) (c : WordChange) (count : ℕ) → count ≡ length all → count + 1 ≡ length (all ++ c ∷ [])
one_more all c count is = omega (arith, length-append all (c ∷ []))
