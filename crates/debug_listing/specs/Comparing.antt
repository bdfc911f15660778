-- Two images, compared word by word: the words that differ, the first 16 of them each with its offset and as the
-- instruction that it is there, how many differ, and whether one image is longer. How it reads is this project's own.
use Rattle.std.specs.Prelude.{ℕ, Bool, not, ◌*◌, ◌/◌, ◌==◌, min, List, [], ◌++◌, length, take, drop, codes, Option, Some, None, if◌then◌else◌}
use Rattle.std.specs.Fmt.{decimal}
use Rattle.std.specs.List.{filter, flat_map, range_with_len}
use Rattle.std.specs.Str.{bytes_eq}
use Rattle.byteorder.specs.Endian.{little_number}
use Rattle.profile.specs.Digits.{hex_word}
use Rattle.profile.specs.images.Entries.{Entry, bytes_of_image}
use Rattle.assembler_text.specs.Printing.{print}
use Rattle.debug_tables.specs.Answers.{refused_text}

-- a word by its number, its lowest byte first
abbrev pub word_of_bytes : List ℕ → ℕ → ℕ
word_of_bytes bytes k = little_number 4 (take 4 (drop (4 * k) bytes))

-- how many words both have
abbrev pub words_of_both : List ℕ → List ℕ → ℕ
words_of_both one other = min (length one) (length other) / 4

-- the numbers of those that differ
abbrev pub word_differs : List ℕ → List ℕ → ℕ → Bool
word_differs one other k = not (word_of_bytes one k == word_of_bytes other k)

abbrev pub words_that_differ : List ℕ → List ℕ → List ℕ
words_that_differ one other = filter (word_differs one other) (range_with_len 0 (words_of_both one other))

-- `E3A00003 MOV R0,#&3`
abbrev pub compared_word : ℕ → ℕ → List ℕ
compared_word at word = hex_word word ++ (codes " " ++ print word at)

-- `00000010 E3A00003 MOV R0,#&3 | E3A00004 MOV R0,#&4`
abbrev pub difference_line : ℕ → ℕ → ℕ → List ℕ
difference_line at first second = hex_word at ++ (codes " " ++ (compared_word at first ++ (codes " | "
    ++ (compared_word at second ++ codes "\n"))))

abbrev pub line_of_word : List ℕ → List ℕ → ℕ → List ℕ
line_of_word one other k = difference_line (4 * k) (word_of_bytes one k) (word_of_bytes other k)

-- `3 of 12 words differ`
abbrev pub differences_counted : ℕ → ℕ → List ℕ
differences_counted found words = decimal found ++ (codes " of " ++ (decimal words ++ codes " words differ\n"))

-- behind the words: which lengths differ, or that the last one to three bytes do
abbrev pub last_bytes : List ℕ → List ℕ
last_bytes bytes = drop (length bytes / 4 * 4) bytes

abbrev pub lengths_compared : List ℕ → List ℕ → List ℕ
lengths_compared one other =
    if length one == length other
    then (if bytes_eq (last_bytes one) (last_bytes other) then [] else codes "the last bytes differ\n")
    else decimal (length one) ++ (codes " bytes and " ++ (decimal (length other) ++ codes " bytes\n"))

abbrev pub comparison_text : List ℕ → List ℕ → List ℕ
comparison_text one other = let found = words_that_differ one other in
    flat_map (line_of_word one other) (take 16 found)
    ++ (differences_counted (length found) (words_of_both one other) ++ lengths_compared one other)

-- of two names, which both are those of images
abbrev pub compared_if_both : Option (List ℕ) → Option (List ℕ) → List ℕ
compared_if_both (Some one) (Some other) = comparison_text one other
compared_if_both (Some one) None = refused_text (codes "NoImage")
compared_if_both None other = refused_text (codes "NoImage")

abbrev pub images_compared : List Entry → List ℕ → List ℕ → List ℕ
images_compared images one other = compared_if_both (bytes_of_image images one) (bytes_of_image images other)
