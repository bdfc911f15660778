use Rattle.std.proofs.Common.{ℕ, ◌≡◌, ◌+◌, ◌-◌, ap, refl, sym, subst, arith, List, [], ◌∷◌, ◌∙◌}
use Rattle.os_heap.specs.Memory.{byte_at, bytes_of, class_of, is_mapped}
use Rattle.os_heap.specs.Class.{Class}
use Rattle.os_heap.specs.Class.TheVariants as class
use Rattle.flex_store.specs.Blocks.{bytes_taken_by}
use Rattle.flex_store.specs.declared.shift.Shift.{Shift}
use Rattle.flex_store.specs.Marks.{with_marks}
use Rattle.flex_store.specs.Memory.{blocks_in, laid_out}
use Rattle.flex_store.specs.Relaid.{blocks_behind_first, first_at}
use Rattle.flex_store.specs.Shifts.{following, removal_shifts}
use Rattle.flex_store.specs.State.{AreAnchorWords}
use Rattle.flex_store.proofs.Sliding.{AreClosed, closing, IsWrittenText, as_read, closed_step, relaid_from, unmarked, words_read}
use Rattle.flex_store.proofs.slide.remove.Goals as goal

pub unmark-requires-clause-text : goal.unmark-requires-clause-text
unmark-requires-clause-text c =
    as_read (bytes_of c.args.map.now) c.args.header c.args.end (first_at c.args.map.now c.args.header ∷ blocks_behind_first c.args.map.now c.args.header c.args.end) c.requires.text

pub unmark-requires-clause-words : goal.unmark-requires-clause-words
unmark-requires-clause-words c =
    words_read c.args.map.now c.args.map.now c.args.header c.args.end (first_at c.args.map.now c.args.header ∷ blocks_behind_first c.args.map.now c.args.header c.args.end) refl c.requires.text c.requires.words

pub settle-requires-clause-text : goal.settle-requires-clause-text
settle-requires-clause-text c =
    let w : IsWrittenText (removal_shifts c.args.header c.args.end (first_at c.args.map.now c.args.header).size) c.args.map.now c.move_bytes.new.self c.args.header (c.args.header + (c.args.end - (c.args.header + c.taken.result))) (blocks_behind_first c.args.map.now c.args.header c.args.end) =
    closed_step c.args.map.now c.unmark.new.map c.move_bytes.new.self c.args.header c.args.end c.taken.result c.requires.text c.requires.room
    (c.taken.ensures ∙ ap bytes_taken_by (c.from.ensures ∙ c.word-size.ensures)) c.unmark.ensures.kept.bytes (c.move_bytes.ensures.layout ∙ c.unmark.ensures.kept.layout) c.move_bytes.ensures.bytes in
    as_read (bytes_of c.move_bytes.new.self) c.args.header (c.args.header + (c.args.end - (c.args.header + c.taken.result))) (blocks_behind_first c.args.map.now c.args.header c.args.end) w.text

pub settle-requires-clause-words : goal.settle-requires-clause-words
settle-requires-clause-words c =
    let next : c.args.header + c.taken.result ≡ c.args.header + bytes_taken_by (first_at c.args.map.now c.args.header).size =
    ap (λ (n : ℕ). c.args.header + n) (c.taken.ensures ∙ ap bytes_taken_by (c.from.ensures ∙ c.word-size.ensures)) in
    let one : Shift = record { from = c.args.header + c.taken.result; end = c.args.end; to = c.args.header } in
    let shifts_is : one ∷ [] ≡ (removal_shifts c.args.header c.args.end (first_at c.args.map.now c.args.header).size) = λ i. record { from = next i; end = c.args.end; to = c.args.header } ∷ [] in
    let w : IsWrittenText (removal_shifts c.args.header c.args.end (first_at c.args.map.now c.args.header).size) c.args.map.now c.move_bytes.new.self c.args.header (c.args.header + (c.args.end - (c.args.header + c.taken.result))) (blocks_behind_first c.args.map.now c.args.header c.args.end) =
    closed_step c.args.map.now c.unmark.new.map c.move_bytes.new.self c.args.header c.args.end c.taken.result c.requires.text c.requires.room
    (c.taken.ensures ∙ ap bytes_taken_by (c.from.ensures ∙ c.word-size.ensures)) c.unmark.ensures.kept.bytes (c.move_bytes.ensures.layout ∙ c.unmark.ensures.kept.layout) c.move_bytes.ensures.bytes in
    subst (λ (l : List Shift). AreAnchorWords (is_mapped c.move_bytes.new.self) c.args.header (c.args.header + (c.args.end - (c.args.header + c.taken.result)))
    (following l (blocks_in (byte_at c.move_bytes.new.self) c.args.header (c.args.header + (c.args.end - (c.args.header + c.taken.result)))))) (sym shifts_is) w.words

pub settle-requires-clause-short : goal.settle-requires-clause-short
settle-requires-clause-short c =
    let k : AreClosed c.args.map.now c.args.header c.args.end = closing c.args.map.now c.args.header c.args.end c.requires.text in
    (omega (arith, k.low, k.fits), tt)

pub returns : goal.returns
returns c =
    let next : c.args.header + c.taken.result ≡ c.args.header + bytes_taken_by (first_at c.args.map.now c.args.header).size =
    ap (λ (n : ℕ). c.args.header + n) (c.taken.ensures ∙ ap bytes_taken_by (c.from.ensures ∙ c.word-size.ensures)) in
    let one : Shift = record { from = c.args.header + c.taken.result; end = c.args.end; to = c.args.header } in
    let shifts_is : one ∷ [] ≡ (removal_shifts c.args.header c.args.end (first_at c.args.map.now c.args.header).size) = λ i. record { from = next i; end = c.args.end; to = c.args.header } ∷ [] in
    let w : IsWrittenText (removal_shifts c.args.header c.args.end (first_at c.args.map.now c.args.header).size) c.args.map.now c.move_bytes.new.self c.args.header (c.args.header + (c.args.end - (c.args.header + c.taken.result))) (blocks_behind_first c.args.map.now c.args.header c.args.end) =
    closed_step c.args.map.now c.unmark.new.map c.move_bytes.new.self c.args.header c.args.end c.taken.result c.requires.text c.requires.room
    (c.taken.ensures ∙ ap bytes_taken_by (c.from.ensures ∙ c.word-size.ensures)) c.unmark.ensures.kept.bytes (c.move_bytes.ensures.layout ∙ c.unmark.ensures.kept.layout) c.move_bytes.ensures.bytes in
    relaid_from (removal_shifts c.args.header c.args.end (first_at c.args.map.now c.args.header).size) c.args.map.now c.move_bytes.new.self c.settle.new.map c.args.header (c.args.header + (c.args.end - (c.args.header + c.taken.result)))
    (first_at c.args.map.now c.args.header ∷ blocks_behind_first c.args.map.now c.args.header c.args.end)
    (blocks_behind_first c.args.map.now c.args.header c.args.end)
    w.text
    (λ a. ap (λ (k : ℕ → Class). k a) c.move_bytes.ensures.marks
    ∙ unmarked c.args.map.now c.unmark.new.map c.args.header c.args.end (first_at c.args.map.now c.args.header ∷ blocks_behind_first c.args.map.now c.args.header c.args.end) c.requires.text c.unmark.ensures.marks a)
    (c.settle.ensures.layout ∙ (c.move_bytes.ensures.layout ∙ c.unmark.ensures.kept.layout))
    w.bytes
    (λ a. c.settle.ensures.bytes a ∙ ap (λ (l : List Shift). laid_out c.args.header (following l (blocks_in (byte_at c.move_bytes.new.self) c.args.header (c.args.header + (c.args.end - (c.args.header + c.taken.result))))) (byte_at c.move_bytes.new.self) a) shifts_is)
    (λ a. c.settle.ensures.marks a
    ∙ ap (λ (l : List Shift). with_marks class.FlexHeader class.Anchor c.args.header (following l (blocks_in (byte_at c.move_bytes.new.self) c.args.header (c.args.header + (c.args.end - (c.args.header + c.taken.result))))) (class_of c.move_bytes.new.self) a) shifts_is)
