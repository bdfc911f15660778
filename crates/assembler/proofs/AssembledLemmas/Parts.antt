-- A line's piece as a function of its place, and the line after any program from it.
use Rattle.std.proofs.Common.{◌≡◌, ℕ, zero, suc, ◌+◌, ◌-◌, ◌%◌, Bool, true, false, List, [], ◌++◌, length, take, drop, Option, Some, None, refl, ap, sym, ◌∙◌, append_assoc, length-append}
use Rattle.std.proofs.lemmas.List.{append-nil}
use Rattle.std.specs.Prelude.{replicate, if◌then◌else◌}
use Rattle.std.specs.List.{prefix_len}
use Rattle.assembler_reading.specs.Expressions.{Lookup, expression}
use Rattle.assembler_reading.specs.Words.{after_word, byte, comma, is_end_of_line, spaces, word, ◌>>=◌}
use Rattle.assembler_reading.specs.Reason.{Reason}
use Rattle.assembler_reading.specs.Instructions.{instruction}
use Rattle.assembler_reading.specs.Operands.{ReadOutcome}
use Rattle.assembler.specs.Directives.{directive_named, is_text_byte, with_item_read, items, more_items, next_item, size, text_or_byte}
use Rattle.assembler.specs.Line.{Line, Statement, statement_of_directive, instruction_at, label_of, line, listed_at, listed_start, statement_at, statement_of}
use Rattle.assembler.specs.Written.{Written, program_to_whole_words, byte_item, instruction_item, written_without_fault, with_fault, with_item, word_item}
use Rattle.assembler.specs.declared.directives.Data.{Data}
use Rattle.assembler.specs.declared.directives.Data.TheVariants.{Bytes, Words}
use Rattle.assembler.specs.declared.directives.Directive.{Directive}
use Rattle.assembler.specs.declared.directives.Directive.TheVariants as directive
use Rattle.assembler.specs.assembled.Pieces.{Piece, line_of_piece}

-- what is written, after a program
abbrev pub onto : List ℕ → Written → Written
onto program w = record { bytes = program ++ w.bytes; fault = w.fault }

abbrev pub behind : List ℕ → Statement → Statement
behind program s = record { place = s.place; written = onto program s.written }

-- the same of what was read, with what follows it
abbrev pub read_onto : List ℕ → Option (Written × List ℕ) → Option (Written × List ℕ)
read_onto program None = None
read_onto program (Some r) = Some (onto program r.0, r.1)

abbrev pub read_behind : List ℕ → Option (Statement × List ℕ) → Option (Statement × List ℕ)
read_behind program None = None
read_behind program (Some r) = Some (behind program r.0, r.1)

-- the zeros up to the next multiple of 4
abbrev pub padding : ℕ → List ℕ
padding place = replicate ((4 - place % 4) % 4) 0

abbrev pub part : ℕ → List ℕ → Written → Statement
part address padded w = record { place = address; written = onto padded w }

abbrev pub instruction_part : Lookup → ℕ → ℕ → List ℕ → Option (Statement × List ℕ)
instruction_part labels origin place text = do
  read ← instruction labels (origin + (place + length (padding place))) text
  Some (part (origin + (place + length (padding place))) (padding place) (instruction_item read.0), read.1)

abbrev pub listed_padding : Data → ℕ → List ℕ
listed_padding Words place = padding place
listed_padding Bytes place = []

abbrev pub listed_part : Data → Lookup → ℕ → ℕ → List ℕ → Option (Statement × List ℕ)
listed_part kind labels origin place text = do
  rest ← spaces text
  written ← items kind labels (written_without_fault []) rest
  Some (part (origin + (place + length (listed_padding kind place))) (listed_padding kind place) written.0, written.1)

abbrev pub space_part : ℕ → ℕ → List ℕ → Option (Statement × List ℕ)
space_part origin place text = do
  rest ← spaces text
  count ← size rest
  Some (part (origin + place) [] (written_without_fault (replicate count.0 0)), count.1)

abbrev pub directed_part : Lookup → ℕ → ℕ → List ℕ → Option Directive → Option (Statement × List ℕ)
directed_part labels origin place text None = instruction_part labels origin place text
directed_part labels origin place text (Some (directive.Listed kind)) = listed_part kind labels origin place (after_word text)
directed_part labels origin place text (Some directive.Space) = space_part origin place (after_word text)
directed_part labels origin place text (Some directive.Align) = Some (part (origin + place) [] (written_without_fault (padding place)), after_word text)

abbrev pub statement_part : Lookup → ℕ → ℕ → List ℕ → Option (Statement × List ℕ)
statement_part labels origin place text = directed_part labels origin place text (directive_named (word text))

abbrev pub ended : Option (Statement × List ℕ) → Option Statement
ended read = read >>= λ r. if is_end_of_line r.1 then Some r.0 else None

abbrev pub rest_part : Lookup → ℕ → ℕ → List ℕ → Option Statement
rest_part labels origin place text = if is_end_of_line text then Some (part (origin + place) [] (written_without_fault [])) else (do
  rest ← spaces text
  ended (statement_part labels origin place rest))

abbrev pub piece : List ℕ → List ℕ → Statement → Piece
piece text name s = record { text = text; label = name; address = s.place; bytes = s.written.bytes; fault = s.written.fault }

-- the piece of a line, so many bytes after the origin
unfoldable pub piece_of : Lookup → ℕ → ℕ → List ℕ → Option Piece
piece_of labels origin place text = do
  name ← label_of text
  read ← rest_part labels origin place (after_word text)
  Some (piece text name read)

-- Items go after what stands written.
pub fault_alone : (f : Option Reason) → with_fault None f ≡ f
fault_alone None = refl
fault_alone (Some reason) = refl

item_onto : (start : List ℕ) (w item : Written) → with_item (onto start w) item ≡ onto start (with_item w item)
item_onto start w item =
    ap (λ (bs : List ℕ). let x : Written = record { bytes = bs; fault = with_fault w.fault item.fault } in x) (append_assoc start w.bytes item.bytes)

alone : (start : List ℕ) (item : Written) → with_item (written_without_fault start) item ≡ onto start item
alone start item =
    ap (λ (f : Option Reason). let x : Written = record { bytes = start ++ item.bytes; fault = f } in x) (fault_alone item.fault)

then_onto : {A : Type 0} (start : List ℕ) (o : Option A) (f g : A → Option (Written × List ℕ)) → ((a : A) → f a ≡ read_onto start (g a))
    → (o >>= f) ≡ read_onto start (o >>= g)
then_onto start None f g same = refl
then_onto start (Some a) f g same = same a

put_onto : (start : List ℕ) (w item : Written) (rest : List ℕ) → Some (with_item (onto start w) item, rest) ≡ read_onto start (Some (with_item w item, rest))
put_onto start w item rest = ap (λ (x : Written). Some (x, rest)) (item_onto start w item)

item_at_onto : (kind : Data) (labels : Lookup) (start : List ℕ) (w : Written) (text : List ℕ)
    → with_item_read kind labels (onto start w) text ≡ read_onto start (with_item_read kind labels w text)
unfolding with_item_read
item_at_onto Words labels start w text = then_onto start (expression labels text) _ _ (λ v. put_onto start w (word_item v.0) v.1)
item_at_onto Bytes labels start w text = by (byte 34 text)
  where
    by : (o : Option (List ℕ)) → text_or_byte labels (onto start w) text o ≡ read_onto start (text_or_byte labels w text o)
    by (Some after) =
        then_onto start (byte 34 (drop (prefix_len is_text_byte after) after)) _ _ (λ rest. put_onto start w (written_without_fault (take (prefix_len is_text_byte after) after)) rest)
    by None = then_onto start (expression labels text) _ _ (λ v. put_onto start w (byte_item v.0) v.1)

items_then : (start : List ℕ) (o : Option (Written × List ℕ)) (f : Written × List ℕ → Option (Written × List ℕ))
    → ((w : Written) (rest : List ℕ) → f (onto start w, rest) ≡ read_onto start (f (w, rest))) → (read_onto start o >>= f) ≡ read_onto start (o >>= f)
items_then start None f same = refl
items_then start (Some r) f same = same r.0 r.1

more_onto : (n : ℕ) (kind : Data) (labels : Lookup) (start : List ℕ) (w : Written) (text : List ℕ)
    → more_items n kind labels (onto start w) text ≡ read_onto start (more_items n kind labels w text)
unfolding more_items
more_onto zero kind labels start w text = refl
more_onto (suc n) kind labels start w text = by (comma text) (more_onto n kind labels start)
  where
    by : (o : Option (List ℕ))
        → ((v : Written) (rest : List ℕ) → more_items n kind labels (onto start v) rest ≡ read_onto start (more_items n kind labels v rest))
        → next_item (more_items n kind labels) kind labels (onto start w) text o ≡ read_onto start (next_item (more_items n kind labels) kind labels w text o)
    by None others = refl
    by (Some after) others =
        ap (λ (o : Option (Written × List ℕ)). o >>= λ item. more_items n kind labels item.0 item.1) (item_at_onto kind labels start w after)
        ∙ items_then start (with_item_read kind labels w after) (λ item. more_items n kind labels item.0 item.1) others

items_onto : (kind : Data) (labels : Lookup) (start : List ℕ) (w : Written) (text : List ℕ)
    → items kind labels (onto start w) text ≡ read_onto start (items kind labels w text)
items_onto kind labels start w text =
    ap (λ (o : Option (Written × List ℕ)). o >>= λ item. more_items (length item.1) kind labels item.0 item.1) (item_at_onto kind labels start w text)
    ∙ items_then start (with_item_read kind labels w text) (λ item. more_items (length item.1) kind labels item.0 item.1)
    (λ v rest. more_onto (length rest) kind labels start v rest)

-- The statements of a line go after the program.
then_behind : {A : Type 0} (program : List ℕ) (o : Option A) (f g : A → Option (Statement × List ℕ)) → ((a : A) → f a ≡ read_behind program (g a))
    → (o >>= f) ≡ read_behind program (o >>= g)
then_behind program None f g same = refl
then_behind program (Some a) f g same = same a

statement_from : {address end : ℕ} {v w : Written} → address ≡ end → v ≡ w → Path Statement (record { place = address; written = v }) (record { place = end; written = w })
statement_from p q = λ i. record { place = p i; written = q i }

read_from : {s t : Statement} (rest : List ℕ) → s ≡ t → Path (Option (Statement × List ℕ)) (Some (s, rest)) (Some (t, rest))
read_from rest p = λ i. Some (p i, rest)

onto_twice : (a b : List ℕ) (w : Written) → onto (a ++ b) w ≡ onto a (onto b w)
onto_twice a b w = ap (λ (bs : List ℕ). let x : Written = record { bytes = bs; fault = w.fault } in x) (append_assoc a b w.bytes)

end_of : (origin : ℕ) (program padded : List ℕ) → origin + length (program ++ padded) ≡ origin + (length program + length padded)
end_of origin program padded = ap (λ (n : ℕ). origin + n) (length-append program padded)

instruction_behind : (labels : Lookup) (origin : ℕ) (program text : List ℕ)
    → instruction_at labels origin (program_to_whole_words program) text ≡ read_behind program (instruction_part labels origin (length program) text)
instruction_behind labels origin program text =
    ap (λ (a : ℕ). instruction labels a text >>= λ read. Some (at (origin + length (program ++ padded)) read.0, read.1)) (end_of origin program padded)
    ∙ then_behind program (instruction labels (origin + (length program + length padded)) text) _ _ (λ read.
    read_from read.1 (statement_from (end_of origin program padded)
    (alone (program ++ padded) (instruction_item read.0) ∙ onto_twice program padded (instruction_item read.0))))
  where
    padded : List ℕ
    padded = padding (length program)

    at : ℕ → ReadOutcome ℕ → Statement
    at a read = record { place = a; written = with_item (written_without_fault (program ++ padded)) (instruction_item read) }

listed_is : (kind : Data) (program : List ℕ) → listed_start kind program ≡ program ++ listed_padding kind (length program)
listed_is Words program = refl
listed_is Bytes program = sym (append-nil program)

unrefused_onto : (start : List ℕ) → written_without_fault start ≡ onto start (written_without_fault [])
unrefused_onto start = ap written_without_fault (sym (append-nil start))

listed_behind : (kind : Data) (labels : Lookup) (origin : ℕ) (program text : List ℕ)
    → listed_at kind labels origin (listed_start kind program) text ≡ read_behind program (listed_part kind labels origin (length program) text)
listed_behind kind labels origin program text =
    ap (λ (start : List ℕ). listed_at kind labels origin start text) (listed_is kind program)
    ∙ then_behind program (spaces text) _ _ (λ rest. by rest)
  where
    padded : List ℕ
    padded = listed_padding kind (length program)

    put : List ℕ → Written × List ℕ → Option (Statement × List ℕ)
    put start w = Some (record { place = origin + length start; written = w.0 }, w.1)

    laid : Written × List ℕ → Option (Statement × List ℕ)
    laid w = Some (part (origin + (length program + length padded)) padded w.0, w.1)

    each : (o : Option (Written × List ℕ)) → (read_onto (program ++ padded) o >>= put (program ++ padded)) ≡ read_behind program (o >>= laid)
    each None = refl
    each (Some w) = read_from w.1 (statement_from (end_of origin program padded) (onto_twice program padded w.0))

    by : (rest : List ℕ) → (items kind labels (written_without_fault (program ++ padded)) rest >>= put (program ++ padded))
        ≡ read_behind program (items kind labels (written_without_fault []) rest >>= laid)
    by rest =
        ap (λ (o : Option (Written × List ℕ)). o >>= put (program ++ padded))
        (ap (λ (w : Written). items kind labels w rest) (unrefused_onto (program ++ padded)) ∙ items_onto kind labels (program ++ padded) (written_without_fault []) rest)
        ∙ each (items kind labels (written_without_fault []) rest)

directed_behind : (labels : Lookup) (origin : ℕ) (program text : List ℕ) (d : Option Directive)
    → statement_of_directive labels origin program text d ≡ read_behind program (directed_part labels origin (length program) text d)
directed_behind labels origin program text None = instruction_behind labels origin program text
directed_behind labels origin program text (Some (directive.Listed kind)) = listed_behind kind labels origin program (after_word text)
directed_behind labels origin program text (Some directive.Space) =
    then_behind program (spaces (after_word text)) _ _ (λ rest. then_behind program (size rest) _ _ (λ count. refl))
directed_behind labels origin program text (Some directive.Align) = refl

-- the same without what follows
abbrev pub option_behind : List ℕ → Option Statement → Option Statement
option_behind program None = None
option_behind program (Some s) = Some (behind program s)

ended_behind : (program : List ℕ) (o : Option (Statement × List ℕ)) → ended (read_behind program o) ≡ option_behind program (ended o)
ended_behind program None = refl
ended_behind program (Some r) = by (is_end_of_line r.1)
  where
    by : (b : Bool) → (if b then Some (behind program r.0) else None) ≡ option_behind program (if b then Some r.0 else None)
    by true = refl
    by false = refl

rest_behind : (labels : Lookup) (origin : ℕ) (program text : List ℕ)
    → statement_of labels origin program text ≡ option_behind program (rest_part labels origin (length program) text)
rest_behind labels origin program text = by (is_end_of_line text) (spaces text)
  where
    read : List ℕ → Option Statement
    read rest = ended (statement_at labels origin program rest)

    laid : List ℕ → Option Statement
    laid rest = ended (statement_part labels origin (length program) rest)

    by : (b : Bool) (o : Option (List ℕ))
        → (if b then Some (record { place = origin + length program; written = written_without_fault program }) else (o >>= read))
        ≡ option_behind program (if b then Some (part (origin + length program) [] (written_without_fault [])) else (o >>= laid))
    by true o = ap (λ (w : Written). let s : Statement = record { place = origin + length program; written = w } in Some s) (unrefused_onto program)
    by false None = refl
    by false (Some rest) =
        ap ended (directed_behind labels origin program rest (directive_named (word rest)))
        ∙ ended_behind program (statement_part labels origin (length program) rest)

-- the line after a program
abbrev pub piece_behind : List ℕ → Option Piece → Option Line
piece_behind program None = None
piece_behind program (Some q) = Some (line_of_piece program q)

pub line_is : (labels : Lookup) (origin : ℕ) (program text : List ℕ)
    → line labels origin program text ≡ piece_behind program (piece_of labels origin (length program) text)
unfolding line piece_of
line_is labels origin program text = by (label_of text)
  where
    named : List ℕ → Option Statement → Option Line
    named name o = o >>= λ s. Some (record { label = name; statement = s })

    laid : List ℕ → Option Statement → Option Piece
    laid name o = o >>= λ s. Some (piece text name s)

    each : (name : List ℕ) (o : Option Statement) → named name (option_behind program o) ≡ piece_behind program (laid name o)
    each name None = refl
    each name (Some s) = refl

    by : (o : Option (List ℕ)) → (o >>= λ name. named name (statement_of labels origin program (after_word text)))
        ≡ piece_behind program (o >>= λ name. laid name (rest_part labels origin (length program) (after_word text)))
    by None = refl
    by (Some name) =
        ap (named name) (rest_behind labels origin program (after_word text))
        ∙ each name (rest_part labels origin (length program) (after_word text))
