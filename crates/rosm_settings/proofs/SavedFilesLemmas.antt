-- How the words behind SAVE name bytes and a file: lines of one word, of two, three and more.
use Rattle.std.proofs.Common.{◌≡◌, ◌++◌, ℕ, Bor, Bool, true, false, List, [], ◌∷◌, Option, Some, None, ap, arith, length, refl, subst, sym, ◌∙◌}
use Rattle.std.specs.Prelude.{◌==◌, ◌^◌, IsUtf8, cond, is_some}
use Rattle.std.specs.List.{All, join_with_byte, onto_first}
use Rattle.std.specs.Option.{option_map_or}
use Rattle.profile.proofs.TextLinesLemmas.LineLemmas.{some_part}
use Rattle.std.proofs.lemmas.List.Elements.{All-nil, All-cons, All-head, All-tail}
use Rattle.std.proofs.lemmas.List.Splits.{join_with_byte-slice_split, slice_split_at, slice_split_none}
use Rattle.command_shell_lines.specs.Numbers.{script_number}
use Rattle.command_shell_lines.specs.Operands.{count_up_to}
use Rattle.command_shell_lines.specs.Requests.{words}
use Rattle.rosm_settings.specs.SavedFiles.{IsLineOf, IsWord, NamesMemory, NamesSaved}
use Rattle.rosm_settings.specs.declared.saved_files.SavedBytes.{SavedBytes}
use Rattle.rosm_settings.specs.declared.saved_files.SavedBytes.TheVariants as saved

-- a byte more in front of parts that are words
more_words : (b : ℕ) (parts : List (List ℕ)) (is_blank : Bool) → (b == 32) ≡ is_blank → All IsWord parts
    → All IsWord (cond is_blank ([] ∷ parts) (onto_first b parts))
more_words b parts true e all = All-cons IsWord [] parts (All-nil (λ c. (c == 32) ≡ false)) all
more_words b [] false e all = All-cons IsWord (b ∷ []) []
    (All-cons (λ c. (c == 32) ≡ false) b [] e (All-nil (λ c. (c == 32) ≡ false))) (All-nil IsWord)
more_words b (part ∷ parts) false e all = All-cons IsWord (b ∷ part) parts
    (All-cons (λ c. (c == 32) ≡ false) b part e (All-head IsWord part parts all)) (All-tail IsWord part parts all)

parts_are_words : (line : List ℕ) → All IsWord (words line)
parts_are_words [] = All-cons IsWord [] [] (All-nil (λ c. (c == 32) ≡ false)) (All-nil IsWord)
parts_are_words (b ∷ rest) = more_words b (words rest) (b == 32) refl (parts_are_words rest)

-- a line is put together of the parts between its blanks
pub line_of_parts : (line : List ℕ) (parts : List (List ℕ)) → words line ≡ parts → IsLineOf line parts
line_of_parts line parts is = record {
  words = subst (λ (ps : List (List ℕ)). All IsWord ps) is (parts_are_words line);
  joined = sym (join_with_byte-slice_split 32 line) ∙ ap (λ (ps : List (List ℕ)). join_with_byte 32 ps) is;
}

-- and of no others
two_parts : (one other : List ℕ) → IsWord one → IsWord other → words (one ++ 32 ∷ other) ≡ one ∷ other ∷ []
two_parts one other first second = slice_split_at (λ b. b == 32) one 32 other first refl
    ∙ ap (λ (ps : List (List ℕ)). one ∷ ps) (slice_split_none (λ b. b == 32) other second)

parts_of_two : (line one other : List ℕ) → IsLineOf line (one ∷ other ∷ []) → words line ≡ one ∷ other ∷ []
parts_of_two line one other l = ap (λ (t : List ℕ). words t) l.joined ∙ two_parts one other
    (All-head IsWord one (other ∷ []) l.words)
    (All-head IsWord other [] (All-tail IsWord one (other ∷ []) l.words))

parts_of_three : (line one other last : List ℕ) → IsLineOf line (one ∷ other ∷ last ∷ [])
    → words line ≡ one ∷ other ∷ last ∷ []
parts_of_three line one other last l =
    let behind : All IsWord (other ∷ last ∷ []) = All-tail IsWord one (other ∷ last ∷ []) l.words in
    ap (λ (t : List ℕ). words t) l.joined
    ∙ slice_split_at (λ b. b == 32) one 32 (other ++ 32 ∷ last) (All-head IsWord one (other ∷ last ∷ []) l.words) refl
    ∙ ap (λ (ps : List (List ℕ)). one ∷ ps) (two_parts other last
    (All-head IsWord other (last ∷ []) behind) (All-head IsWord last [] (All-tail IsWord other (last ∷ []) behind)))

-- what other words would have to be that name bytes
unnamed : (line : List ℕ) (parts : List (List ℕ)) → words line ≡ parts
    → ((name path : List ℕ) → parts ≡ name ∷ path ∷ [] → ¬ (IsUtf8 path))
    → ((one other path : List ℕ) (address count : ℕ) → parts ≡ one ∷ other ∷ path ∷ []
    → script_number one ≡ Some address → count_up_to (2 ^ 26) other ≡ Some count → ¬ (IsUtf8 path))
    → (named : SavedBytes) (path : List ℕ) → ¬ (NamesSaved line named path)
unnamed line parts is no_image no_memory (saved.Image name) path n =
    no_image name.now path (sym is ∙ parts_of_two line name.now path n.0) n.1
unnamed line parts is no_image no_memory (saved.Memory address count) path n =
    no_memory n.0.one n.0.other path address count (sym is ∙ parts_of_three line n.0.one n.0.other path n.0.line_of)
    n.0.address_of n.0.count_of n.1

-- a word alone
pub one_word : (line first : List ℕ) (rest : Option (Bor (List ℕ)))
    → words line ≡ first ∷ option_map_or (λ (r : Bor (List ℕ)). words r.now) rest [] → rest ≡ None
    → (named : SavedBytes) (path : List ℕ) → ¬ (NamesSaved line named path)
one_word line first (Some r) is none = absurd (cc)
one_word line first None is none = unnamed line (first ∷ []) is
    (λ name path e utf8. cc) (λ one other path address count e a b utf8. cc)

-- two words
pub image_named : (line name path text : List ℕ) → text ≡ path → IsUtf8 path → words line ≡ name ∷ path ∷ []
    → IsLineOf line (name ∷ text ∷ []) × IsUtf8 text
image_named line name path text same utf8 is = (
  line_of_parts line (name ∷ text ∷ []) (is ∙ ap (λ (t : List ℕ). name ∷ t ∷ []) (sym same)),
  subst (λ (t : List ℕ). IsUtf8 t) (sym same) utf8,
)

pub no_image : (line name path : List ℕ) → ¬ (IsUtf8 path) → words line ≡ name ∷ path ∷ []
    → (named : SavedBytes) (file : List ℕ) → ¬ (NamesSaved line named file)
no_image line name path bad is = unnamed line (name ∷ path ∷ []) is
    (λ other file e utf8. let same : file ≡ path = cc in bad (subst (λ (t : List ℕ). IsUtf8 t) same utf8))
    (λ one other file address count e a b utf8. cc)

-- three words: the parts behind the second are one
parts_behind : (line address count path file : List ℕ) (more : Option (Bor (List ℕ)))
    → words path ≡ file ∷ option_map_or (λ (r : Bor (List ℕ)). words r.now) more [] → is_some more ≡ false
    → words line ≡ address ∷ count ∷ words path → words line ≡ address ∷ count ∷ file ∷ []
parts_behind line address count path file (Some r) parts none is = absurd (cc)
parts_behind line address count path file None parts none is =
    is ∙ ap (λ (ps : List (List ℕ)). address ∷ count ∷ ps) parts

pub memory_named : (line address count path file text : List ℕ) (more : Option (Bor (List ℕ))) (a n : ℕ)
    → words path ≡ file ∷ option_map_or (λ (r : Bor (List ℕ)). words r.now) more [] → is_some more ≡ false
    → script_number address ≡ Some a → count_up_to (2 ^ 26) count ≡ Some n → text ≡ file → IsUtf8 file
    → words line ≡ address ∷ count ∷ words path → NamesMemory line a n text × IsUtf8 text
memory_named line address count path file text more a n parts none at long same utf8 is = (
  record {
    one = address;
    other = count;
    line_of = line_of_parts line (address ∷ count ∷ text ∷ [])
        (parts_behind line address count path file more parts none is
        ∙ ap (λ (t : List ℕ). address ∷ count ∷ t ∷ []) (sym same));
    address_of = at;
    count_of = long;
  },
  subst (λ (t : List ℕ). IsUtf8 t) (sym same) utf8,
)

pub no_memory : (line address count path file : List ℕ) (more : Option (Bor (List ℕ)))
    → words path ≡ file ∷ option_map_or (λ (r : Bor (List ℕ)). words r.now) more [] → is_some more ≡ false
    → ¬ (IsUtf8 file) → words line ≡ address ∷ count ∷ words path
    → (named : SavedBytes) (text : List ℕ) → ¬ (NamesSaved line named text)
no_memory line address count path file more parts none bad is =
    unnamed line (address ∷ count ∷ file ∷ []) (parts_behind line address count path file more parts none is)
    (λ name text e utf8. cc)
    (λ one other text a n e at long utf8. let same : text ≡ file = cc in bad (subst (λ (t : List ℕ). IsUtf8 t) same utf8))

-- no address, or no number
no_third : (name path : List ℕ) (address count rest : List ℕ) → address ∷ count ∷ words rest ≡ name ∷ path ∷ [] → ⊥
no_third name path address count rest e =
    let none : words rest ≡ [] = cc in
    let long : length (words rest) ≡ 0 = ap (λ (ps : List (List ℕ)). length ps) none in
    omega (arith, long, some_part (λ b. b == 32) rest)

pub no_address : (line address count path : List ℕ) → script_number address ≡ None
    → words line ≡ address ∷ count ∷ words path
    → (named : SavedBytes) (text : List ℕ) → ¬ (NamesSaved line named text)
no_address line address count path none is = unnamed line (address ∷ count ∷ words path) is
    (λ name text e utf8. no_third name text address count path e)
    (λ one other text a n e at long utf8. let same : one ≡ address = cc in
    let at_none : script_number one ≡ None = ap (λ (t : List ℕ). script_number t) same ∙ none in cc (at, at_none))

pub no_count : (line address count path : List ℕ) → count_up_to (2 ^ 26) count ≡ None
    → words line ≡ address ∷ count ∷ words path
    → (named : SavedBytes) (text : List ℕ) → ¬ (NamesSaved line named text)
no_count line address count path none is = unnamed line (address ∷ count ∷ words path) is
    (λ name text e utf8. no_third name text address count path e)
    (λ one other text a n e at long utf8. let same : other ≡ count = cc in
    let none_now : count_up_to (2 ^ 26) other ≡ None = ap (λ (t : List ℕ). count_up_to (2 ^ 26) t) same ∙ none in
    cc (long, none_now))

-- more words
pub more_words_behind : (line address count path file : List ℕ) (more : Option (Bor (List ℕ)))
    → words path ≡ file ∷ option_map_or (λ (r : Bor (List ℕ)). words r.now) more [] → is_some more ≡ true
    → words line ≡ address ∷ count ∷ words path
    → (named : SavedBytes) (text : List ℕ) → ¬ (NamesSaved line named text)
more_words_behind line address count path file None parts some is = absurd (cc)
more_words_behind line address count path file (Some r) parts some is =
    unnamed line (address ∷ count ∷ file ∷ words r.now)
    (is ∙ ap (λ (ps : List (List ℕ)). address ∷ count ∷ ps) parts)
    (λ name text e utf8. cc)
    (λ one other text a n e at long utf8. let behind : count ∷ file ∷ words r.now ≡ other ∷ text ∷ [] = cc in
    no_third other text count file r.now behind)
