-- Scripts in which lines INCLUDE name other scripts: in place of such a line stands a remark that says which lines
-- are those of its file, and behind it these lines, each with its end. A line SAVE stands as a remark. A line of a
-- block is the block's.
use Rattle.std.specs.Prelude.{◌≡◌, ◌⊎◌, IsUtf8, ℕ, ◌==◌, ◌&&◌, ◌||◌, not, nat_lt, Bool, false, List, [], ◌∷◌, ◌++◌, length, drop, Option, Some, None, IfSome, codes, decimal, option_map, option_and_then, is_some, unwrap_or, suc, zero, if◌then◌else◌}
use Rattle.std.specs.List.{list_any}
use Rattle.std.specs.Path.{path_join, path_parent}
use Rattle.std.specs.Str.Lines.{strip_carriage_return}
use Rattle.command_shell_lines.specs.Requests.{is_same_word}
use Rattle.command_shell_lines.specs.debug_words.Texts.{text_behind}
use Rattle.debug_lines.specs.BlockEnds.{one_line_more}
use Rattle.debug_lines.specs.Tidy.{tidied_line}
use Rattle.debug_lines.specs.WholeDebugRequests.{is_debug_block_open_after}

-- what lies behind a word of a tidy line, which may be nothing; the opening is the word with a blank behind it
abbrev pub text_of_word : List ℕ → List ℕ → List ℕ → Option (List ℕ)
text_of_word word opening tidy = if is_same_word tidy word then Some [] else text_behind opening tidy

-- the same of any line, if it stands in no block
abbrev pub words_of_line : List ℕ → List ℕ → Bool → List ℕ → Option (List ℕ)
words_of_line word opening is_in_block line =
    if is_in_block then None else text_of_word word opening (tidied_line line)

abbrev pub include_of : Bool → List ℕ → Option (List ℕ)
include_of is_in_block line = words_of_line (codes "INCLUDE") (codes "INCLUDE ") is_in_block line

abbrev pub save_of : Bool → List ℕ → Option (List ℕ)
save_of is_in_block line = words_of_line (codes "SAVE") (codes "SAVE ") is_in_block line

-- a line with its end, or the remark in its place, by what it asks to be saved
abbrev pub saved_line : Option (List ℕ) → List ℕ → List ℕ
saved_line None line = line
saved_line (Some words) line = codes "; " ++ line

-- one word
abbrev pub is_path : List ℕ → Bool
is_path text = not (length text == 0) && not (list_any (λ b. b == 32) text)

-- Why words name no file to include, where files may include one another so many deep: none deeper may, they aren't one
-- word, or no text.
abbrev pub NamesNoFile : ℕ → List ℕ → Type 0
NamesNoFile depth words = (depth ≡ 0) ⊎ ((is_path words ≡ false) ⊎ ¬ (IsUtf8 words))

-- a path counts from the folder of the script that names it
abbrev pub path_beside : List ℕ → List ℕ → List ℕ
path_beside script path = path_join (unwrap_or (path_parent script) []) path

-- the remark in place of a line INCLUDE: which lines of the whole text are its file's
abbrev pub note_text : List ℕ → ℕ → ℕ → List ℕ
note_text path first last = if nat_lt last first then codes "; INCLUDE " ++ (path ++ codes ": no lines\n") else
    codes "; INCLUDE " ++ (path ++ (codes ": lines " ++ (decimal first
    ++ (codes " to " ++ (decimal last ++ codes " here\n")))))

-- The text that a script has given, and where its reading stands: the bytes of the line that has no end yet, whether
-- a block is open before it, and how many lines were given.
pub record GivenSoFar : Type 0 where
  pub text : List ℕ
  pub line : List ℕ
  pub is_in_block : Bool
  pub number : ℕ

-- before the first line of a file, where so many lines were given before it
abbrev pub given_none : ℕ → GivenSoFar
given_none number = record { text = []; line = []; is_in_block = false; number = number }

-- what the file of a path gives, where so many lines were given before it
abbrev pub Included : Type 0
Included = List ℕ → ℕ → Option GivenSoFar

-- what the line asks to be saved
abbrev pub save_asked : GivenSoFar → Option (List ℕ)
save_asked g = save_of g.is_in_block (strip_carriage_return g.line)

-- a line stands as it is, or as a remark where it asks to save something
abbrev pub given_line : GivenSoFar → List ℕ → GivenSoFar
given_line g end = record {
  text = g.text ++ saved_line (save_asked g) (g.line ++ end);
  line = [];
  is_in_block = is_debug_block_open_after g.is_in_block (strip_carriage_return g.line);
  number = one_line_more g.number;
}

-- a file's lines stand in place of a line
abbrev pub given_file : GivenSoFar → List ℕ → GivenSoFar → GivenSoFar
given_file g path h = record {
  text = g.text ++ (note_text path (one_line_more (one_line_more g.number)) h.number ++ h.text);
  line = [];
  is_in_block = h.is_in_block;
  number = h.number;
}

-- the file that a script names, if one is named, in place of its line
abbrev pub given_wanted : Included → List ℕ → GivenSoFar → Option (List ℕ) → Option GivenSoFar
given_wanted files script g None = Some g
given_wanted files script g (Some path) = if is_path path then option_map (given_file g (path_beside script path))
    (files (path_beside script path) (one_line_more g.number)) else None

abbrev pub given_read : Included → List ℕ → List ℕ → GivenSoFar → Option (List ℕ) → Option GivenSoFar
given_read files script end g None = Some (given_line g end)
given_read files script end g (Some path) = given_wanted files script g (Some path)

-- the line that ends here
abbrev pub given_ended : Included → List ℕ → List ℕ → GivenSoFar → Option GivenSoFar
given_ended files script end g =
    given_read files script end g (include_of g.is_in_block (strip_carriage_return g.line))

-- one byte more
abbrev pub given_byte : Included → List ℕ → GivenSoFar → ℕ → Option GivenSoFar
given_byte files script g byte = if byte == 10 then given_ended files script (byte ∷ []) g
    else Some (record g { line = g.line ++ byte ∷ [] })

unfoldable pub given_bytes : Included → List ℕ → GivenSoFar → List ℕ → Option GivenSoFar
given_bytes files script g [] = Some g
given_bytes files script g (byte ∷ rest) =
    option_and_then (λ h. given_bytes files script h rest) (given_byte files script g byte)

-- nothing follows: a line without its end is one, too
abbrev pub given_last : Included → List ℕ → List ℕ → GivenSoFar → Option GivenSoFar
given_last files script end g = if length g.line == 0 then Some g else given_ended files script end g

abbrev pub given_all : Included → List ℕ → List ℕ → GivenSoFar → List ℕ → Option GivenSoFar
given_all files script end g bytes =
    option_and_then (given_last files script end) (given_bytes files script g bytes)

-- what a file gives, where files include one another so many deep at most, by what is known of the files' bytes
unfoldable pub file_given : (List ℕ → Option (List ℕ)) → ℕ → Included
file_given text_of zero path number = None
file_given text_of (suc depth) path number = option_and_then
    (given_all (file_given text_of depth) path (10 ∷ []) (given_none number)) (text_of path)

-- what is left to give of a script of which some bytes are still to be read, as far as these are known
abbrev pub script_left : Included → List ℕ → ℕ → GivenSoFar → List ℕ → Option (List ℕ) → Option (List ℕ)
script_left files script shown g unread known = option_and_then
    (λ bytes. option_map (λ h. drop shown h.text) (given_all files script [] g (unread ++ bytes))) known

-- what was known stays so
abbrev pub StaysKnown : Option GivenSoFar → Option GivenSoFar → Type 0
StaysKnown old new = IfSome old (λ g. new ≡ Some g)

-- whether one of the lines that are left asks to save something, as far as they are known
unfoldable pub asks_save : Included → List ℕ → GivenSoFar → List ℕ → Bool
asks_save files script g [] = is_some (save_asked g)
asks_save files script g (byte ∷ rest) = ((byte == 10) && is_some (save_asked g))
    || unwrap_or (option_map (λ h. asks_save files script h rest) (given_byte files script g byte)) false

-- A script of which all is known though no file is: it has no line INCLUDE outside its blocks. Where it has no line SAVE
-- there either its own text is given, byte for byte.
abbrev pub PlainTextStays : Type 0
PlainTextStays = (files : Included) → ((path : List ℕ) (number : ℕ) → files path number ≡ None)
    → (script bytes : List ℕ) → asks_save files script (given_none 0) bytes ≡ false
    → IfSome (given_all files script [] (given_none 0) bytes) (λ g. g.text ≡ bytes)
