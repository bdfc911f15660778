-- Counts are exact.
use Rattle.std.proofs.Common.{◌≡◌, ◌≢◌, ◌≤◌, ◌<◌, ℕ, suc, ◌+◌, ◌/◌, ◌%◌, ◌==◌, Bool, true, false, List, [], ◌∷◌, ◌⊎◌, inl, inr, if◌then◌else◌, length, slice_index_or, replicate, refl, sym, ap, subst, arith, ◌∙◌}
use Rattle.std.proofs.lemmas.Bool.{cases_Bool, cases_eq, cases_lt}
use Rattle.std.proofs.lemmas.Bool.Decides.{eqb_tells}
use Rattle.std.proofs.lemmas.Grind.{get_or-set_at}
use Rattle.std.proofs.lemmas.List.{get_or-replicate, get_or-set_other, get_or_past, length-replicate, length-set, set_past}
use Rattle.std.specs.Prelude.{filter, min}
use Rattle.debug_tables.specs.counts.Counts.{CountTable, counts_begun, counts_of_page, counts_with, most_times, no_pages, one_count, page_counted, pages_counted, step_counted, steps_at, steps_counted, times_at, times_of_word, word_counted, zero_counts}

-- a word that a page hasn't
pub counted_past : (counts : List ℕ) (word : ℕ) → length counts ≤ word → counts ≡ counts_with counts word
counted_past counts word past = sym (set_past counts word (one_count (slice_index_or counts word 0)) past)

-- a word of no page
pub pages_past : (pages : List (List ℕ)) (word : ℕ) → length pages ≤ word / 1024 → pages ≡ pages_counted pages word
pages_past pages word past =
    sym (set_past pages (word / 1024) (page_counted (slice_index_or pages (word / 1024) []) (word % 1024)) past)

pub zero_counts_are : replicate {A = ℕ} 1024 0 ≡ zero_counts
unfolding zero_counts
zero_counts_are = refl

pub no_pages_are : replicate {A = List ℕ} 16384 [] ≡ no_pages
unfolding no_pages
no_pages_are = refl

-- where steps aren't counted, none is
pub uncounted : (steps : List ℕ) (c : CountTable) → c.is_on ≡ false → steps_counted steps c ≡ c
uncounted [] c off = refl
uncounted (x ∷ xs) c off =
    let same : step_counted c x ≡ c = rw off refl in
    ap (steps_counted xs) same ∙ uncounted xs c off

-- a page has no counts yet, or one for each of its words
abbrev IsPage : List ℕ → Type 0
IsPage page = (length page ≡ 0) ⊎ (length page ≡ 1024)

record AreCounts (pages : List (List ℕ)) : Type 0 where
  count : length pages ≡ 16384
  each : (p : ℕ) → IsPage (slice_index_or pages p [])

whole_page : (page : List ℕ) → IsPage page → length page ≢ 0 → length page ≡ 1024
whole_page page (inl none) some = absurd (some none)
whole_page page (inr whole) some = whole

filled : (page : List ℕ) → IsPage page → length (counts_of_page page) ≡ 1024
unfolding zero_counts
filled page is = elim (eqb_tells (length page) 0) [
  | inl none ↦ rw (none.0) (length-replicate {A = ℕ} 1024 0)
  | inr some ↦ rw (some.0) (whole_page page is some.1)
]

zeros : (n word : ℕ) → slice_index_or {A = ℕ} (replicate n 0) word 0 ≡ 0
zeros n word = elim (cases_lt word n) [
  | inl within ↦ get_or-replicate n word 0 0 within
  | inr past ↦ get_or_past (replicate n 0) word 0 (omega (arith, past, length-replicate {A = ℕ} n 0))
]

same_counts : (page : List ℕ) (word : ℕ) → slice_index_or (counts_of_page page) word 0 ≡ slice_index_or page word 0
unfolding zero_counts
same_counts page word = elim (eqb_tells (length page) 0) [
  | inl none ↦ rw (none.0) (zeros 1024 word ∙ sym (get_or_past page word 0 (omega (arith, none.1))))
  | inr some ↦ rw (some.0) refl
]

-- A STEP AT A WORD OF A PAGE

page_same : (page : List ℕ) (word : ℕ) → IsPage page → word < 1024
    → slice_index_or (page_counted page word) word 0 ≡ one_count (slice_index_or page word 0)
page_same page word is within =
    let counts = counts_of_page page in
    get_or-set_at counts word word (one_count (slice_index_or counts word 0)) 0 refl (omega (arith, within, filled page is))
    ∙ ap one_count (same_counts page word)

page_other : (page : List ℕ) (at word : ℕ) → word ≢ at → slice_index_or (page_counted page at) word 0 ≡ slice_index_or page word 0
page_other page at word other =
    let counts = counts_of_page page in
    get_or-set_other counts at word (one_count (slice_index_or counts at 0)) 0 other ∙ same_counts page word

page_stays : (page : List ℕ) (word : ℕ) → IsPage page → IsPage (page_counted page word)
page_stays page word is =
    let counts = counts_of_page page in
    inr (length-set counts word (one_count (slice_index_or counts word 0)) ∙ filled page is)

-- AND OF MEMORY

same_word : (pages : List (List ℕ)) (word : ℕ) → AreCounts pages → word < 16777216
    → times_of_word (pages_counted pages word) word ≡ one_count (times_of_word pages word)
same_word pages word are below =
    let p = word / 1024 in
    let page = slice_index_or pages p [] in
    ap (λ (xs : List ℕ). slice_index_or xs (word % 1024) 0)
    (get_or-set_at pages p p (page_counted page (word % 1024)) [] refl (omega (arith, below, are.count)))
    ∙ page_same page (word % 1024) (are.each p) (omega arith)

in_page : (pages : List (List ℕ)) (at word : ℕ) → AreCounts pages → at / 1024 ≡ word / 1024 → at ≢ word → word < 16777216
    → times_of_word (pages_counted pages at) word ≡ times_of_word pages word
in_page pages at word are same other below =
    let p = at / 1024 in
    let page = slice_index_or pages p [] in
    let apart : word % 1024 ≢ at % 1024 = λ e. other (omega (arith, same, e)) in
    ap (λ (xs : List ℕ). slice_index_or xs (word % 1024) 0)
    (get_or-set_at pages p (word / 1024) (page_counted page (at % 1024)) [] (sym same) (omega (arith, below, same, are.count)))
    ∙ (page_other page (at % 1024) (word % 1024) apart
    ∙ ap (λ (q : ℕ). slice_index_or (slice_index_or pages q []) (word % 1024) 0) same)

out_of_page : (pages : List (List ℕ)) (at word : ℕ) → word / 1024 ≢ at / 1024
    → times_of_word (pages_counted pages at) word ≡ times_of_word pages word
out_of_page pages at word other =
    let page = slice_index_or pages (at / 1024) [] in
    ap (λ (xs : List ℕ). slice_index_or xs (word % 1024) 0)
    (get_or-set_other pages (at / 1024) (word / 1024) (page_counted page (at % 1024)) [] other)

other_word : (pages : List (List ℕ)) (at word : ℕ) → AreCounts pages → at ≢ word → word < 16777216
    → times_of_word (pages_counted pages at) word ≡ times_of_word pages word
other_word pages at word are other below = elim (cases_eq (at / 1024) (word / 1024)) [
  | inl same ↦ in_page pages at word are same other below
  | inr apart ↦ out_of_page pages at word (λ e. apart (sym e))
]

times_after : (pages : List (List ℕ)) (at word : ℕ) → AreCounts pages → word < 16777216
    → times_of_word (pages_counted pages at) word
    ≡ (if at == word then one_count (times_of_word pages word) else times_of_word pages word)
times_after pages at word are below = elim (eqb_tells at word) [
  | inl same ↦ rw (same.0)
      (ap (λ (w : ℕ). times_of_word (pages_counted pages w) word) same.1 ∙ same_word pages word are below)
  | inr other ↦ rw (other.0) (other_word pages at word are other.1 below)
]

pages_stay : (pages : List (List ℕ)) (at : ℕ) → AreCounts pages → AreCounts (pages_counted pages at)
pages_stay pages at are =
    let p = at / 1024 in
    let page = slice_index_or pages p [] in
    let after = page_counted page (at % 1024) in
    record {
      count = length-set pages p after ∙ are.count;
      each = λ q. elim (cases_eq q p) [
        | inl same ↦ elim (cases_lt p (length pages)) [
          | inl within ↦
              subst IsPage (sym (get_or-set_at pages p q after [] same within)) (page_stays page (at % 1024) (are.each p))
          | inr past ↦
              subst IsPage (sym (ap (λ (xs : List (List ℕ)). slice_index_or xs q []) (set_past pages p after past))) (are.each q)
        ]
        | inr other ↦ subst IsPage (sym (get_or-set_other pages p q after [] other)) (are.each q)
      ];
    }

-- BEFORE THE FIRST STEP

none_there : (p : ℕ) → slice_index_or no_pages p [] ≡ []
unfolding no_pages
none_there p = elim (cases_lt p 16384) [
  | inl within ↦ get_or-replicate 16384 p [] [] within
  | inr past ↦ get_or_past (replicate 16384 []) p [] (omega (arith, past, length-replicate {A = List ℕ} 16384 []))
]

begun_pages : AreCounts no_pages
unfolding no_pages
begun_pages = record {
  count = length-replicate {A = List ℕ} 16384 [];
  each = λ p. inl (ap length (none_there p));
}

none_taken : (word : ℕ) → times_of_word no_pages word ≡ 0
none_taken word =
    ap (λ (page : List ℕ). slice_index_or page (word % 1024) 0) (none_there (word / 1024))
    ∙ get_or_past [] (word % 1024) 0 (omega arith)

-- ALL STEPS

one_more_there : (test : ℕ → Bool) (x : ℕ) (xs : List ℕ)
    → length (filter test (x ∷ xs)) ≡ (if test x then suc (length (filter test xs)) else length (filter test xs))
one_more_there test x xs = elim (cases_Bool (test x)) [
  | inl is ↦ rw is refl
  | inr is ↦ rw is refl
]

step_adds : (here : Bool) (times more : ℕ)
    → min ((if here then one_count times else times) + more) most_times
    ≡ min (times + (if here then suc more else more)) most_times
step_adds true times more = omega arith
step_adds false times more = refl

stays_few : (here : Bool) (times : ℕ) → times ≤ most_times → (if here then one_count times else times) ≤ most_times
stays_few true times few = omega arith
stays_few false times few = few

counted_from : (steps : List ℕ) (c : CountTable) (address : ℕ) → c.is_on ≡ true → AreCounts c.pages → address < 67108864
    → times_at c address ≤ most_times
    → times_at (steps_counted steps c) address ≡ min (times_at c address + steps_at address steps) most_times
counted_from [] c address on are below few = omega (arith, few)
counted_from (x ∷ xs) c address on are below few =
    let next = word_counted c (x / 4) in
    let here = (x / 4) == (address / 4) in
    let more = steps_at address xs in
    let once : step_counted c x ≡ next = rw on refl in
    let times : times_at next address ≡ (if here then one_count (times_at c address) else times_at c address) =
    times_after c.pages (x / 4) (address / 4) are (omega (arith, below)) in
    let still : times_at next address ≤ most_times =
    subst (λ (n : ℕ). n ≤ most_times) (sym times) (stays_few here (times_at c address) few) in
    ap (λ (d : CountTable). times_at (steps_counted xs d) address) once
    ∙ (counted_from xs next address on (pages_stay c.pages (x / 4) are) below still
    ∙ (ap (λ (n : ℕ). min (n + more) most_times) times
    ∙ (step_adds here (times_at c address) more
    ∙ ap (λ (n : ℕ). min (times_at c address + n) most_times)
    (sym (one_more_there (λ at. at / 4 == address / 4) x xs)))))

-- from the first step on
pub exact : (steps : List ℕ) (address : ℕ) → address < 67108864
    → times_at (steps_counted steps counts_begun) address ≡ min (steps_at address steps) most_times
exact steps address below =
    let none : times_at counts_begun address ≡ 0 = none_taken (address / 4) in
    let few : times_at counts_begun address ≤ most_times = omega (arith, none) in
    let all : min (0 + steps_at address steps) most_times ≡ min (steps_at address steps) most_times = omega arith in
    counted_from steps counts_begun address refl begun_pages below few
    ∙ (ap (λ (n : ℕ). min (n + steps_at address steps) most_times) none ∙ all)
