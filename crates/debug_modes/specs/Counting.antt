-- Words of memory with how often steps were taken at them: a line for each, its count in ten columns
-- and then what CODE has for it; and behind these at how many of them steps were taken.
use Rattle.std.specs.Prelude.{ℕ, zero, suc, ◌+◌, ◌-◌, ◌/◌, ◌%◌, ◌^◌, min, nat_lt, List, [], ◌++◌, codes, length, take, Option, Some, None, if◌then◌else◌}
use Rattle.std.specs.Fmt.{decimal}
use Rattle.address_map.specs.Bytes.{Bytes}
use Rattle.command_shell.specs.Code.{code_text}
use Rattle.command_shell.specs.Answers.{refused_text}
use Rattle.debug_labels.specs.Images.{image_place}
use Rattle.debug_labels.specs.Words.{Naming}
use Rattle.debug_labels.specs.declared.images.ImagePlace.{ImagePlace}
use Rattle.debug_tables.specs.counts.Counts.{CountTable, times_at}

-- behind as many blanks as fill ten columns
abbrev pub ten_columns : List ℕ → List ℕ
ten_columns digits = take (10 - length digits) (codes "          ") ++ digits

abbrev pub count_column : ℕ → List ℕ
count_column times = ten_columns (decimal times) ++ codes " "

abbrev pub counted_line : CountTable → Bytes → ℕ → List ℕ
counted_line c b a = count_column (times_at c a) ++ code_text b a 1

abbrev pub counted_lines : CountTable → Bytes → ℕ → ℕ → List ℕ
counted_lines c b a zero = []
counted_lines c b a (suc n) = counted_line c b a ++ counted_lines c b ((a + 4) % 2 ^ 32) n

-- 1 where a step was taken
abbrev pub one_if_taken : CountTable → ℕ → ℕ
one_if_taken c a = if nat_lt 0 (times_at c a) then 1 else 0

abbrev pub words_taken : CountTable → ℕ → ℕ → ℕ
words_taken c a zero = 0
words_taken c a (suc n) = one_if_taken c a + words_taken c ((a + 4) % 2 ^ 32) n

-- `5 of 6 words`
abbrev pub taken_line : ℕ → ℕ → List ℕ
taken_line taken count = decimal taken ++ (codes " of " ++ (decimal count ++ codes " words\n"))

abbrev pub counts_shown : CountTable → Bytes → ℕ → ℕ → List ℕ
counts_shown c b a count = counted_lines c b a count ++ taken_line (words_taken c a count) count

-- how many words so many bytes lie in
abbrev pub words_of_size : ℕ → ℕ
words_of_size size = min ((size + 3) / 4) (2 ^ 32 - 1)

abbrev pub counts_text_from : CountTable → Bytes → ImagePlace → List ℕ
counts_text_from c b place = counts_shown c b place.start (words_of_size place.size)

abbrev pub counts_text_of : CountTable → Bytes → Option ImagePlace → List ℕ
counts_text_of c b (Some place) = counts_text_from c b place
counts_text_of c b None = refused_text (codes "NoImage")

-- of the image of that name, where it stands now
abbrev pub counts_text : CountTable → Naming → Bytes → List ℕ → List ℕ
counts_text c n b name = counts_text_of c b (image_place n name)
