-- Where a line's label stands and how many bytes its piece has is the same under all labels.
use Rattle.std.proofs.Common.{◌≡◌, ℕ, zero, suc, ◌+◌, Bool, true, false, List, [], ◌∷◌, ◌++◌, length, take, drop, Option, Some, None, Ok, Err, refl, ap, sym, ◌∙◌, length-append}
use Rattle.std.specs.Prelude.{nat_le, if◌then◌else◌}
use Rattle.std.specs.List.{prefix_len}
use Rattle.assembler_reading.specs.Expressions.{Lookup, Value, expression}
use Rattle.assembler_reading.specs.Words.{after_word, byte, comma, is_end_of_line, spaces, word, ◌>>=◌}
use Rattle.assembler_reading.specs.Reason.TheVariants.{BadImmediate}
use Rattle.assembler_reading.specs.Instructions.{instruction}
use Rattle.assembler_reading.specs.Operands.{ReadOutcome}
use Rattle.assembler.specs.Directives.{directive_named, is_text_byte, with_item_read, items, more_items, next_item, text_or_byte}
use Rattle.assembler.specs.Line.{Statement, label_of}
use Rattle.assembler.specs.Written.{Written, byte_item, instruction_item, written_without_fault, with_item, word_item}
use Rattle.assembler.specs.declared.directives.Data.{Data}
use Rattle.assembler.specs.declared.directives.Data.TheVariants.{Bytes, Words}
use Rattle.assembler.specs.declared.directives.Directive.{Directive}
use Rattle.assembler.specs.declared.directives.Directive.TheVariants as directive
use Rattle.assembler.specs.assembled.Pieces.{Piece}
use Rattle.assembler.proofs.AssembledLemmas.InstructionRests.{instruction_rests}
use Rattle.assembler.proofs.AssembledLemmas.Parts.{directed_part, ended, instruction_part, listed_padding, listed_part, padding, part, piece, piece_of, rest_part, statement_part}
use Rattle.assembler.proofs.AssembledLemmas.Rests.{expression_rests, rest_of}

-- how many bytes are written, and what follows
abbrev written_form : Option (Written × List ℕ) → Option (ℕ × List ℕ)
written_form None = None
written_form (Some r) = Some (length r.0.bytes, r.1)

abbrev written_pair : ℕ → List ℕ → Option (ℕ × List ℕ)
written_pair n rest = Some (n, rest)

written_same : (m n : ℕ) (s t : List ℕ) → m ≡ n → s ≡ t → written_pair m s ≡ written_pair n t
written_same m n s t p q = λ i. written_pair (p i) (q i)

first_same : (m n : ℕ) (s t : List ℕ) → written_pair m s ≡ written_pair n t → m ≡ n
first_same m n s t e = ap count e
  where
    count : Option (ℕ × List ℕ) → ℕ
    count None = 0
    count (Some r) = r.0

rest_same : (m n : ℕ) (s t : List ℕ) → written_pair m s ≡ written_pair n t → s ≡ t
rest_same m n s t e = ap count e
  where
    count : Option (ℕ × List ℕ) → List ℕ
    count None = []
    count (Some r) = r.1

-- a value, and what is written of it
value_form : (o p : Option (Value × List ℕ)) (f g : Value → Written) → rest_of o ≡ rest_of p → ((a b : Value) → length (f a).bytes ≡ length (g b).bytes)
    → written_form (o >>= λ v. Some (f v.0, v.1)) ≡ written_form (p >>= λ v. Some (g v.0, v.1))
value_form None None f g same as_long = refl
value_form None (Some s) f g same as_long = absurd (cc)
value_form (Some r) None f g same as_long = absurd (cc)
value_form (Some r) (Some s) f g same as_long =
    let e : r.1 ≡ s.1 = cc in written_same _ _ _ _ (as_long r.0 s.0) e

form_then : (o p : Option (Written × List ℕ)) (f g : Written × List ℕ → Option (Written × List ℕ)) → written_form o ≡ written_form p
    → ((v w : Written) (rest : List ℕ) → length v.bytes ≡ length w.bytes → written_form (f (v, rest)) ≡ written_form (g (w, rest)))
    → written_form (o >>= f) ≡ written_form (p >>= g)
form_then None None f g same next = refl
form_then None (Some s) f g same next = absurd (cc)
form_then (Some r) None f g same next = absurd (cc)
form_then (Some r) (Some s) f g same next =
    next r.0 s.0 r.1 (first_same _ _ r.1 s.1 same) ∙ ap (λ (rest : List ℕ). written_form (g (s.0, rest))) (rest_same _ _ r.1 s.1 same)

word_size : (v : Value) → length (word_item v).bytes ≡ 4
word_size None = refl
word_size (Some n) = refl

byte_size : (v : Value) → length (byte_item v).bytes ≡ 1
byte_size None = refl
byte_size (Some n) = by (nat_le n 255) (record { bytes = n ∷ []; fault = None }) (record { bytes = 0 ∷ []; fault = Some BadImmediate }) refl refl
  where
    by : (b : Bool) (v w : Written) → length v.bytes ≡ 1 → length w.bytes ≡ 1 → length (if b then v else w).bytes ≡ 1
    by true v w p q = p
    by false v w p q = q

pub instruction_size : (o : ReadOutcome ℕ) → length (instruction_item o).bytes ≡ 4
instruction_size (Ok w) = refl
instruction_size (Err reason) = refl

with_size : (v w item other : Written) → length v.bytes ≡ length w.bytes → length item.bytes ≡ length other.bytes
    → length (with_item v item).bytes ≡ length (with_item w other).bytes
with_size v w item other p q =
    let sums : length v.bytes + length item.bytes ≡ length w.bytes + length other.bytes = λ i. p i + q i in
    length-append v.bytes item.bytes ∙ sums ∙ sym (length-append w.bytes other.bytes)

item_form : (kind : Data) (k l : Lookup) (v w : Written) (text : List ℕ) → length v.bytes ≡ length w.bytes
    → written_form (with_item_read kind k v text) ≡ written_form (with_item_read kind l w text)
unfolding with_item_read
item_form Words k l v w text as_long =
    value_form (expression k text) (expression l text) (λ a. with_item v (word_item a)) (λ b. with_item w (word_item b)) (expression_rests k l text)
    (λ a b. with_size v w (word_item a) (word_item b) as_long (word_size a ∙ sym (word_size b)))
item_form Bytes k l v w text as_long = by (byte 34 text)
  where
    quote : (bytes : List ℕ) (o : Option (List ℕ))
        → written_form (o >>= λ rest. Some (with_item v (written_without_fault bytes), rest)) ≡ written_form (o >>= λ rest. Some (with_item w (written_without_fault bytes), rest))
    quote bytes None = refl
    quote bytes (Some rest) = written_same _ _ _ _ (with_size v w (written_without_fault bytes) (written_without_fault bytes) as_long refl) refl

    by : (o : Option (List ℕ)) → written_form (text_or_byte k v text o) ≡ written_form (text_or_byte l w text o)
    by (Some after) = quote (take (prefix_len is_text_byte after) after) (byte 34 (drop (prefix_len is_text_byte after) after))
    by None =
        value_form (expression k text) (expression l text) (λ a. with_item v (byte_item a)) (λ b. with_item w (byte_item b)) (expression_rests k l text)
        (λ a b. with_size v w (byte_item a) (byte_item b) as_long (byte_size a ∙ sym (byte_size b)))

more_form : (n : ℕ) (kind : Data) (k l : Lookup) (v w : Written) (text : List ℕ) → length v.bytes ≡ length w.bytes
    → written_form (more_items n kind k v text) ≡ written_form (more_items n kind l w text)
unfolding more_items
more_form zero kind k l v w text as_long = written_same _ _ _ _ as_long refl
more_form (suc n) kind k l v w text as_long = by (comma text) (more_form n kind k l)
  where
    by : (o : Option (List ℕ))
        → ((x y : Written) (rest : List ℕ) → length x.bytes ≡ length y.bytes → written_form (more_items n kind k x rest) ≡ written_form (more_items n kind l y rest))
        → written_form (next_item (more_items n kind k) kind k v text o) ≡ written_form (next_item (more_items n kind l) kind l w text o)
    by None others = written_same _ _ _ _ as_long refl
    by (Some after) others =
        form_then (with_item_read kind k v after) (with_item_read kind l w after) _ _ (item_form kind k l v w after as_long) (λ x y rest. others x y rest)

items_form : (kind : Data) (k l : Lookup) (text : List ℕ) → written_form (items kind k (written_without_fault []) text) ≡ written_form (items kind l (written_without_fault []) text)
items_form kind k l text =
    form_then (with_item_read kind k (written_without_fault []) text) (with_item_read kind l (written_without_fault []) text) _ _ (item_form kind k l (written_without_fault []) (written_without_fault []) text refl)
    (λ x y rest. more_form (length rest) kind k l x y rest)

-- where a label stands and how many bytes are written, and what follows
abbrev form : Statement → ℕ × ℕ
form s = (s.place, length s.written.bytes)

abbrev statement_form : Option (Statement × List ℕ) → Option ((ℕ × ℕ) × List ℕ)
statement_form None = None
statement_form (Some r) = Some (form r.0, r.1)

part_form : (address : ℕ) (padded : List ℕ) (v w : Written) (s t : List ℕ) → length v.bytes ≡ length w.bytes → s ≡ t
    → statement_form (Some (part address padded v, s)) ≡ statement_form (Some (part address padded w, t))
part_form address padded v w s t p q =
    let e : length (padded ++ v.bytes) ≡ length (padded ++ w.bytes)
    = length-append padded v.bytes ∙ ap (λ (n : ℕ). length padded + n) p ∙ sym (length-append padded w.bytes) in
    λ i. Some ((address, e i), q i)

instruction_form : (k l : Lookup) (origin place : ℕ) (text : List ℕ)
    → statement_form (instruction_part k origin place text) ≡ statement_form (instruction_part l origin place text)
instruction_form k l origin place text =
    by (instruction k address text) (instruction l address text) (instruction_rests k l address text)
  where
    address : ℕ
    address = origin + (place + length (padding place))

    by : (o p : Option (ReadOutcome ℕ × List ℕ)) → rest_of o ≡ rest_of p
        → statement_form (o >>= λ r. Some (part address (padding place) (instruction_item r.0), r.1))
        ≡ statement_form (p >>= λ r. Some (part address (padding place) (instruction_item r.0), r.1))
    by None None same = refl
    by None (Some s) same = absurd (cc)
    by (Some r) None same = absurd (cc)
    by (Some r) (Some s) same =
        let e : r.1 ≡ s.1 = cc in
        part_form address (padding place) (instruction_item r.0) (instruction_item s.0) r.1 s.1 (instruction_size r.0 ∙ sym (instruction_size s.0)) e

listed_form : (kind : Data) (k l : Lookup) (origin place : ℕ) (text : List ℕ)
    → statement_form (listed_part kind k origin place text) ≡ statement_form (listed_part kind l origin place text)
listed_form kind k l origin place text = spaced (spaces text)
  where
    address : ℕ
    address = origin + (place + length (listed_padding kind place))

    laid : Written × List ℕ → Option (Statement × List ℕ)
    laid w = Some (part address (listed_padding kind place) w.0, w.1)

    by : (o p : Option (Written × List ℕ)) → written_form o ≡ written_form p → statement_form (o >>= laid) ≡ statement_form (p >>= laid)
    by None None same = refl
    by None (Some s) same = absurd (cc)
    by (Some r) None same = absurd (cc)
    by (Some r) (Some s) same =
        part_form address (listed_padding kind place) r.0 s.0 r.1 s.1 (first_same _ _ r.1 s.1 same) (rest_same _ _ r.1 s.1 same)

    spaced : (o : Option (List ℕ)) → statement_form (o >>= λ rest. items kind k (written_without_fault []) rest >>= laid)
        ≡ statement_form (o >>= λ rest. items kind l (written_without_fault []) rest >>= laid)
    spaced None = refl
    spaced (Some rest) = by (items kind k (written_without_fault []) rest) (items kind l (written_without_fault []) rest) (items_form kind k l rest)

directed_form : (k l : Lookup) (origin place : ℕ) (text : List ℕ) (d : Option Directive)
    → statement_form (directed_part k origin place text d) ≡ statement_form (directed_part l origin place text d)
directed_form k l origin place text None = instruction_form k l origin place text
directed_form k l origin place text (Some (directive.Listed kind)) = listed_form kind k l origin place (after_word text)
directed_form k l origin place text (Some directive.Space) = refl
directed_form k l origin place text (Some directive.Align) = refl

-- the form of what a line is after its label
abbrev end_form : Option Statement → Option (ℕ × ℕ)
end_form None = None
end_form (Some s) = Some (form s)

ended_form : (o p : Option (Statement × List ℕ)) → statement_form o ≡ statement_form p → end_form (ended o) ≡ end_form (ended p)
ended_form o p same = through o ∙ ap kept same ∙ sym (through p)
  where
    kept : Option ((ℕ × ℕ) × List ℕ) → Option (ℕ × ℕ)
    kept None = None
    kept (Some r) = if is_end_of_line r.1 then Some r.0 else None

    by : (b : Bool) (s : Statement) → end_form (if b then Some s else None) ≡ (if b then Some (form s) else None)
    by true s = refl
    by false s = refl

    through : (o : Option (Statement × List ℕ)) → end_form (ended o) ≡ kept (statement_form o)
    through None = refl
    through (Some r) = by (is_end_of_line r.1) r.0

rest_form : (k l : Lookup) (origin place : ℕ) (text : List ℕ) → end_form (rest_part k origin place text) ≡ end_form (rest_part l origin place text)
rest_form k l origin place text = by (is_end_of_line text) (spaces text)
  where
    by : (b : Bool) (o : Option (List ℕ))
        → end_form (if b then Some (part (origin + place) [] (written_without_fault [])) else (o >>= λ rest. ended (statement_part k origin place rest)))
        ≡ end_form (if b then Some (part (origin + place) [] (written_without_fault [])) else (o >>= λ rest. ended (statement_part l origin place rest)))
    by true o = refl
    by false None = refl
    by false (Some rest) =
        ended_form (statement_part k origin place rest) (statement_part l origin place rest) (directed_form k l origin place rest (directive_named (word rest)))

-- a piece without its bytes: their number is left
pub record Form : Type 0 where
  pub text : List ℕ
  pub label : List ℕ
  pub address : ℕ
  pub size : ℕ

abbrev pub form_of : Piece → Form
form_of q = record { text = q.text; label = q.label; address = q.address; size = length q.bytes }

abbrev pub piece_form : Option Piece → Option Form
piece_form None = None
piece_form (Some q) = Some (form_of q)

pub piece_forms : (k l : Lookup) (origin place : ℕ) (text : List ℕ) → piece_form (piece_of k origin place text) ≡ piece_form (piece_of l origin place text)
unfolding piece_of
piece_forms k l origin place text = by (label_of text)
  where
    named : List ℕ → Option (ℕ × ℕ) → Option Form
    named name None = None
    named name (Some f) = Some (record { text = text; label = name; address = f.0; size = f.1 })

    through : (name : List ℕ) (o : Option Statement) → piece_form (o >>= λ s. Some (piece text name s)) ≡ named name (end_form o)
    through name None = refl
    through name (Some s) = refl

    by : (o : Option (List ℕ))
        → piece_form (o >>= λ name. rest_part k origin place (after_word text) >>= λ s. Some (piece text name s))
        ≡ piece_form (o >>= λ name. rest_part l origin place (after_word text) >>= λ s. Some (piece text name s))
    by None = refl
    by (Some name) =
        through name (rest_part k origin place (after_word text))
        ∙ ap (named name) (rest_form k l origin place (after_word text))
        ∙ sym (through name (rest_part l origin place (after_word text)))
