-- The columns of a trace, counted from 1: the address in 1 to 8, the word in 10 to 17, the instruction
-- in 19 to 44, and what the step leaves from 45 on, each part of it after a space. Lines below a step
-- begin in column 19.
use Rattle.std.specs.Prelude.{ℕ, ◌-◌, ◌==◌, List, [], ◌++◌, codes, length, take, if◌then◌else◌}

abbrev pub blanks : List ℕ
blanks = codes "                         "

-- what stands between a text in column 19 and the space of what follows on it
abbrev pub column_padding : ℕ → List ℕ
column_padding len = take (25 - len) blanks

-- Words each have a space before them. Where there are none, nothing follows on the text.
unfoldable pub words_behind : ℕ → List ℕ → List ℕ
words_behind len words = if length words == 0 then [] else column_padding len ++ words

-- the columns 1 to 18, a text, and words
unfoldable pub columns_text : List ℕ → List ℕ → List ℕ → List ℕ
columns_text front text words = front ++ (text ++ (words_behind (length text) words ++ codes "\n"))

-- a line below a step, where there are words for it
unfoldable pub below_text : List ℕ → List ℕ
below_text words = if length words == 0 then [] else take 17 blanks ++ (words ++ codes "\n")
