-- How often steps were taken at each word of memory, while they are counted: each word has a count,
-- up to 2^32 - 1. The counts stand by pages of 1024 words; a page at which no step was taken has none.
use Rattle.std.specs.Prelude.{ℕ, Bool, true, false, ◌+◌, ◌-◌, ◌%◌, ◌/◌, ◌^◌, ◌==◌, min, List, [], ◌∷◌, filter, length, replicate, slice_index_or, slice_set, if◌then◌else◌}

-- whether steps are counted, and the pages of all addresses
pub record CountTable : Type 0 where
  pub is_on : Bool
  pub pages : List (List ℕ)

-- before steps are counted at first
abbrev pub no_counts : CountTable
no_counts = record { is_on = false; pages = [] }

-- the most that a count shows
abbrev pub most_times : ℕ
most_times = 2 ^ 32 - 1

-- one more, and no more than that
abbrev pub one_count : ℕ → ℕ
one_count times = min (times + 1) most_times

-- of a page at whose words no step was taken
unfoldable pub zero_counts : List ℕ
zero_counts = replicate 1024 0

-- a page's counts, where they are all 0 before the first step there
abbrev pub counts_of_page : List ℕ → List ℕ
counts_of_page page = if length page == 0 then zero_counts else page

-- one step more at a word of a page
abbrev pub counts_with : List ℕ → ℕ → List ℕ
counts_with counts word = slice_set counts word (one_count (slice_index_or counts word 0))

abbrev pub page_counted : List ℕ → ℕ → List ℕ
page_counted page word = counts_with (counts_of_page page) word

-- one step more at a word of memory, by the word's number
abbrev pub pages_counted : List (List ℕ) → ℕ → List (List ℕ)
pages_counted pages word =
    slice_set pages (word / 1024) (page_counted (slice_index_or pages (word / 1024) []) (word % 1024))

abbrev pub word_counted : CountTable → ℕ → CountTable
word_counted c word = record c { pages = pages_counted c.pages word }

-- a step at an address, where steps are counted
abbrev pub step_counted : CountTable → ℕ → CountTable
step_counted c address = if c.is_on then word_counted c (address / 4) else c

-- steps one after another
abbrev pub steps_counted : List ℕ → CountTable → CountTable
steps_counted [] c = c
steps_counted (address ∷ others) c = steps_counted others (step_counted c address)

-- COUNT ON: no step was counted
unfoldable pub no_pages : List (List ℕ)
no_pages = replicate 16384 []

abbrev pub counts_begun : CountTable
counts_begun = record { is_on = true; pages = no_pages }

-- COUNT OFF: what was counted stays
abbrev pub counts_stopped : CountTable → CountTable
counts_stopped c = record c { is_on = false }

-- how often steps were taken at the word of an address
abbrev pub times_of_word : List (List ℕ) → ℕ → ℕ
times_of_word pages word = slice_index_or (slice_index_or pages (word / 1024) []) (word % 1024) 0

abbrev pub times_at : CountTable → ℕ → ℕ
times_at c address = times_of_word c.pages (address / 4)

-- how many of some steps were at the word of an address
abbrev pub steps_at : ℕ → List ℕ → ℕ
steps_at address steps = length (filter (λ at. at / 4 == address / 4) steps)
