use Rattle.std.proofs.Common.{ℕ, ◌≡◌, ◌+◌, ◌-◌, List, ◌∷◌, arith, ap, refl, sym, subst, ◌∙◌}
use Rattle.os_heap.specs.Memory.{byte_at, bytes_of, class_of, is_mapped}
use Rattle.os_heap.specs.Class.{Class}
use Rattle.os_heap.specs.Class.TheVariants as class
use Rattle.flex_store.specs.Blocks.{Block, contents, block_holding, bytes_after_splice, bytes_taken_by}
use Rattle.flex_store.specs.declared.shift.Shift.{Shift}
use Rattle.flex_store.specs.Marks.{with_marks}
use Rattle.flex_store.specs.Memory.{blocks_in, laid_out}
use Rattle.flex_store.specs.Relaid.{blocks_behind_first, first_at, Relaid}
use Rattle.flex_store.specs.Shifts.{AreShort, following, splice_shifts}
use Rattle.flex_store.specs.State.{AreAnchorWords}
use Rattle.flex_store.specs.Splices.{size_after_splice}
use Rattle.flex_store.proofs.Sliding.{AreNumbers, IsWrittenText, as_read, numbers, relaid_from, replaced_is, replaced_step, rest_for, room_for, short_splice, unmarked, words_read}
use Rattle.flex_store.proofs.slide.replace.Goals as goal

pub overflow_cast-new_size : goal.overflow_cast-new_size
overflow_cast-new_size c =
    let s = c.args.splice.now in
    let k : AreNumbers c.args.map.now c.args.header c.args.end s.at s.cut s.more = numbers c.args.map.now c.args.header c.args.end s.at s.cut s.more c.requires.text c.requires.splice.at c.requires.room in
    let new : c.size_after-new_size.result ≡ s.at - s.cut + s.more + ((first_at c.args.map.now c.args.header).size - s.at) =
    c.size_after-new_size.ensures ∙ ap (λ (n : ℕ). s.at - s.cut + s.more + (n - s.at)) c.word-size.ensures in
    omega (arith, k.new_low)

pub overflow_cast-new_next : goal.overflow_cast-new_next
overflow_cast-new_next c =
    let s = c.args.splice.now in
    let k : AreNumbers c.args.map.now c.args.header c.args.end s.at s.cut s.more = numbers c.args.map.now c.args.header c.args.end s.at s.cut s.more c.requires.text c.requires.splice.at c.requires.room in
    let new : c.size_after-new_size.result ≡ s.at - s.cut + s.more + ((first_at c.args.map.now c.args.header).size - s.at) =
    c.size_after-new_size.ensures ∙ ap (λ (n : ℕ). s.at - s.cut + s.more + (n - s.at)) c.word-size.ensures in
    let total : c.taken-2.result ≡ bytes_taken_by (s.at - s.cut + s.more + ((first_at c.args.map.now c.args.header).size - s.at)) = c.taken-2.ensures ∙ ap bytes_taken_by (c.from-2.ensures ∙ new) in
    omega (arith, k.new_low)

pub overflow_add-new_next : goal.overflow_add-new_next
overflow_add-new_next c =
    let s = c.args.splice.now in
    let k : AreNumbers c.args.map.now c.args.header c.args.end s.at s.cut s.more = numbers c.args.map.now c.args.header c.args.end s.at s.cut s.more c.requires.text c.requires.splice.at c.requires.room in
    let new : c.size_after-new_size.result ≡ s.at - s.cut + s.more + ((first_at c.args.map.now c.args.header).size - s.at) =
    c.size_after-new_size.ensures ∙ ap (λ (n : ℕ). s.at - s.cut + s.more + (n - s.at)) c.word-size.ensures in
    let total : c.taken-2.result ≡ bytes_taken_by (s.at - s.cut + s.more + ((first_at c.args.map.now c.args.header).size - s.at)) = c.taken-2.ensures ∙ ap bytes_taken_by (c.from-2.ensures ∙ new) in
    omega (arith, k.new_low)

pub unmark-requires-clause-text : goal.unmark-requires-clause-text
unmark-requires-clause-text c = as_read (bytes_of c.args.map.now) c.args.header c.args.end (first_at c.args.map.now c.args.header ∷ blocks_behind_first c.args.map.now c.args.header c.args.end) c.requires.text

pub unmark-requires-clause-words : goal.unmark-requires-clause-words
unmark-requires-clause-words c =
    words_read c.args.map.now c.args.map.now c.args.header c.args.end (first_at c.args.map.now c.args.header ∷ blocks_behind_first c.args.map.now c.args.header c.args.end) refl c.requires.text c.requires.words

pub respace-requires-clause-room : goal.respace-requires-clause-room
respace-requires-clause-room c =
    let s = c.args.splice.now in
    let k : AreNumbers c.args.map.now c.args.header c.args.end s.at s.cut s.more = numbers c.args.map.now c.args.header c.args.end s.at s.cut s.more c.requires.text c.requires.splice.at c.requires.room in
    room_for c.args.map.now c.unmark.new.map c.args.header c.args.end c.word-size.result (size_after_splice s c.word-size.result) s.at s.cut s.more
    c.unmark.ensures.kept.layout c.word-size.ensures refl c.requires.text k c.requires.room

pub overflow_add-new_next-2 : goal.overflow_add-new_next-2
overflow_add-new_next-2 c =
    let s = c.args.splice.now in
    let k : AreNumbers c.args.map.now c.args.header c.args.end s.at s.cut s.more = numbers c.args.map.now c.args.header c.args.end s.at s.cut s.more c.requires.text c.requires.splice.at c.requires.room in
    let new : c.size_after-new_size.result ≡ s.at - s.cut + s.more + ((first_at c.args.map.now c.args.header).size - s.at) =
    c.size_after-new_size.ensures ∙ ap (λ (n : ℕ). s.at - s.cut + s.more + (n - s.at)) c.word-size.ensures in
    let total : c.taken-2.result ≡ bytes_taken_by (s.at - s.cut + s.more + ((first_at c.args.map.now c.args.header).size - s.at)) = c.taken-2.ensures ∙ ap bytes_taken_by (c.from-2.ensures ∙ new) in
    let old : c.taken.result ≡ bytes_taken_by (first_at c.args.map.now c.args.header).size = c.taken.ensures ∙ ap bytes_taken_by (c.from.ensures ∙ c.word-size.ensures) in
    omega (arith, k.new_low, k.used_is)

pub settle-requires-clause-text : goal.settle-requires-clause-text
settle-requires-clause-text c =
    let w : IsWrittenText (splice_shifts c.args.header c.args.end (first_at c.args.map.now c.args.header).size c.args.splice.now.at c.args.splice.now.cut c.args.splice.now.more) c.args.map.now c.put_word.new.self c.args.header (c.args.header + c.taken-2.result + (c.args.end - (c.args.header + c.taken.result))) (block_holding (first_at c.args.map.now c.args.header) (bytes_after_splice (contents (first_at c.args.map.now c.args.header)) c.args.splice.now.at c.args.splice.now.cut c.args.splice.now.more) ∷ blocks_behind_first c.args.map.now c.args.header c.args.end) =
    replaced_step c.args.map.now c.unmark.new.map c.respace.new.map c.put_word.new.self c.args.header c.args.end c.word-size.result c.size_after-new_size.result
    c.taken.result c.taken-2.result c.args.splice.now.at c.args.splice.now.cut c.args.splice.now.more c.requires.text c.requires.splice.at c.requires.words c.requires.room
    c.word-size.ensures c.size_after-new_size.ensures (c.taken.ensures ∙ ap bytes_taken_by c.from.ensures) (c.taken-2.ensures ∙ ap bytes_taken_by c.from-2.ensures)
    c.unmark.ensures.kept.bytes (c.put_word.ensures.layout ∙ (c.respace.ensures.kept.layout ∙ c.unmark.ensures.kept.layout)) c.respace.ensures.bytes c.put_word.ensures.bytes in
    as_read (bytes_of c.put_word.new.self) c.args.header (c.args.header + c.taken-2.result + (c.args.end - (c.args.header + c.taken.result))) (block_holding (first_at c.args.map.now c.args.header) (bytes_after_splice (contents (first_at c.args.map.now c.args.header)) c.args.splice.now.at c.args.splice.now.cut c.args.splice.now.more) ∷ blocks_behind_first c.args.map.now c.args.header c.args.end) w.text

pub settle-requires-clause-words : goal.settle-requires-clause-words
settle-requires-clause-words c =
    let shifts_is : c.splice_shifts-shifts.result ≡ (splice_shifts c.args.header c.args.end (first_at c.args.map.now c.args.header).size c.args.splice.now.at c.args.splice.now.cut c.args.splice.now.more) =
    c.splice_shifts-shifts.ensures ∙ ap (λ (n : ℕ). splice_shifts c.args.header c.args.end n c.args.splice.now.at c.args.splice.now.cut c.args.splice.now.more) c.word-size.ensures in
    let w : IsWrittenText (splice_shifts c.args.header c.args.end (first_at c.args.map.now c.args.header).size c.args.splice.now.at c.args.splice.now.cut c.args.splice.now.more) c.args.map.now c.put_word.new.self c.args.header (c.args.header + c.taken-2.result + (c.args.end - (c.args.header + c.taken.result))) (block_holding (first_at c.args.map.now c.args.header) (bytes_after_splice (contents (first_at c.args.map.now c.args.header)) c.args.splice.now.at c.args.splice.now.cut c.args.splice.now.more) ∷ blocks_behind_first c.args.map.now c.args.header c.args.end) =
    replaced_step c.args.map.now c.unmark.new.map c.respace.new.map c.put_word.new.self c.args.header c.args.end c.word-size.result c.size_after-new_size.result
    c.taken.result c.taken-2.result c.args.splice.now.at c.args.splice.now.cut c.args.splice.now.more c.requires.text c.requires.splice.at c.requires.words c.requires.room
    c.word-size.ensures c.size_after-new_size.ensures (c.taken.ensures ∙ ap bytes_taken_by c.from.ensures) (c.taken-2.ensures ∙ ap bytes_taken_by c.from-2.ensures)
    c.unmark.ensures.kept.bytes (c.put_word.ensures.layout ∙ (c.respace.ensures.kept.layout ∙ c.unmark.ensures.kept.layout)) c.respace.ensures.bytes c.put_word.ensures.bytes in
    subst (λ (l : List Shift). AreAnchorWords (is_mapped c.put_word.new.self) c.args.header (c.args.header + c.taken-2.result + (c.args.end - (c.args.header + c.taken.result)))
    (following l (blocks_in (byte_at c.put_word.new.self) c.args.header (c.args.header + c.taken-2.result + (c.args.end - (c.args.header + c.taken.result)))))) (sym shifts_is) w.words

pub settle-requires-clause-short : goal.settle-requires-clause-short
settle-requires-clause-short c =
    let s = c.args.splice.now in
    let k : AreNumbers c.args.map.now c.args.header c.args.end s.at s.cut s.more = numbers c.args.map.now c.args.header c.args.end s.at s.cut s.more c.requires.text c.requires.splice.at c.requires.room in
    let shifts_is : c.splice_shifts-shifts.result ≡ (splice_shifts c.args.header c.args.end (first_at c.args.map.now c.args.header).size c.args.splice.now.at c.args.splice.now.cut c.args.splice.now.more) =
    c.splice_shifts-shifts.ensures ∙ ap (λ (n : ℕ). splice_shifts c.args.header c.args.end n c.args.splice.now.at c.args.splice.now.cut c.args.splice.now.more) c.word-size.ensures in
    subst AreShort (sym shifts_is) (short_splice c.args.map.now c.args.header c.args.end s.at s.cut s.more c.requires.splice.at k)

pub splice_shifts-shifts-requires-clause-old : goal.splice_shifts-shifts-requires-clause-old
splice_shifts-shifts-requires-clause-old c =
    let s = c.args.splice.now in
    let k : AreNumbers c.args.map.now c.args.header c.args.end s.at s.cut s.more = numbers c.args.map.now c.args.header c.args.end s.at s.cut s.more c.requires.text c.requires.splice.at c.requires.room in
    let size : c.word-size.result ≡ (first_at c.args.map.now c.args.header).size = c.word-size.ensures in
    omega (arith, k.old_fits, k.old_low)

pub splice_shifts-shifts-requires-clause-new : goal.splice_shifts-shifts-requires-clause-new
splice_shifts-shifts-requires-clause-new c =
    let s = c.args.splice.now in
    let k : AreNumbers c.args.map.now c.args.header c.args.end s.at s.cut s.more = numbers c.args.map.now c.args.header c.args.end s.at s.cut s.more c.requires.text c.requires.splice.at c.requires.room in
    let size : c.word-size.result ≡ (first_at c.args.map.now c.args.header).size = c.word-size.ensures in
    rw size (omega (arith, k.new_low))

pub respace-requires-clause-rest : goal.respace-requires-clause-rest
respace-requires-clause-rest c =
    let s = c.args.splice.now in
    let k : AreNumbers c.args.map.now c.args.header c.args.end s.at s.cut s.more = numbers c.args.map.now c.args.header c.args.end s.at s.cut s.more c.requires.text c.requires.splice.at c.requires.room in
    rest_for c.args.map.now c.unmark.new.map c.args.header c.args.end c.word-size.result (size_after_splice s c.word-size.result) s.at s.cut s.more
    c.unmark.ensures.kept.layout c.word-size.ensures refl c.requires.text k c.requires.room

pub returns : goal.returns
returns c =
    let shifts_is : c.splice_shifts-shifts.result ≡ (splice_shifts c.args.header c.args.end (first_at c.args.map.now c.args.header).size c.args.splice.now.at c.args.splice.now.cut c.args.splice.now.more) =
    c.splice_shifts-shifts.ensures ∙ ap (λ (n : ℕ). splice_shifts c.args.header c.args.end n c.args.splice.now.at c.args.splice.now.cut c.args.splice.now.more) c.word-size.ensures in
    let w : IsWrittenText (splice_shifts c.args.header c.args.end (first_at c.args.map.now c.args.header).size c.args.splice.now.at c.args.splice.now.cut c.args.splice.now.more) c.args.map.now c.put_word.new.self c.args.header (c.args.header + c.taken-2.result + (c.args.end - (c.args.header + c.taken.result))) (block_holding (first_at c.args.map.now c.args.header) (bytes_after_splice (contents (first_at c.args.map.now c.args.header)) c.args.splice.now.at c.args.splice.now.cut c.args.splice.now.more) ∷ blocks_behind_first c.args.map.now c.args.header c.args.end) =
    replaced_step c.args.map.now c.unmark.new.map c.respace.new.map c.put_word.new.self c.args.header c.args.end c.word-size.result c.size_after-new_size.result
    c.taken.result c.taken-2.result c.args.splice.now.at c.args.splice.now.cut c.args.splice.now.more c.requires.text c.requires.splice.at c.requires.words c.requires.room
    c.word-size.ensures c.size_after-new_size.ensures (c.taken.ensures ∙ ap bytes_taken_by c.from.ensures) (c.taken-2.ensures ∙ ap bytes_taken_by c.from-2.ensures)
    c.unmark.ensures.kept.bytes (c.put_word.ensures.layout ∙ (c.respace.ensures.kept.layout ∙ c.unmark.ensures.kept.layout)) c.respace.ensures.bytes c.put_word.ensures.bytes in
    subst (λ (l : List Block). Relaid c.args.map.now c.settle.new.map c.args.header (first_at c.args.map.now c.args.header ∷ blocks_behind_first c.args.map.now c.args.header c.args.end) l)
    (replaced_is c.args.map.now c.args.header c.args.end c.args.splice.now.at c.args.splice.now.cut c.args.splice.now.more c.requires.text c.requires.words)
    (relaid_from (splice_shifts c.args.header c.args.end (first_at c.args.map.now c.args.header).size c.args.splice.now.at c.args.splice.now.cut c.args.splice.now.more) c.args.map.now c.put_word.new.self c.settle.new.map c.args.header (c.args.header + c.taken-2.result + (c.args.end - (c.args.header + c.taken.result)))
    (first_at c.args.map.now c.args.header ∷ blocks_behind_first c.args.map.now c.args.header c.args.end)
    (block_holding (first_at c.args.map.now c.args.header) (bytes_after_splice (contents (first_at c.args.map.now c.args.header)) c.args.splice.now.at c.args.splice.now.cut c.args.splice.now.more) ∷ blocks_behind_first c.args.map.now c.args.header c.args.end)
    w.text
    (λ a. ap (λ (k : ℕ → Class). k a) (c.put_word.ensures.marks ∙ c.respace.ensures.kept.marks)
    ∙ unmarked c.args.map.now c.unmark.new.map c.args.header c.args.end (first_at c.args.map.now c.args.header ∷ blocks_behind_first c.args.map.now c.args.header c.args.end) c.requires.text c.unmark.ensures.marks a)
    (c.settle.ensures.layout ∙ (c.put_word.ensures.layout ∙ (c.respace.ensures.kept.layout ∙ c.unmark.ensures.kept.layout)))
    w.bytes
    (λ a. c.settle.ensures.bytes a ∙ ap (λ (l : List Shift). laid_out c.args.header (following l (blocks_in (byte_at c.put_word.new.self) c.args.header (c.args.header + c.taken-2.result + (c.args.end - (c.args.header + c.taken.result))))) (byte_at c.put_word.new.self) a) shifts_is)
    (λ a. c.settle.ensures.marks a
    ∙ ap (λ (l : List Shift). with_marks class.FlexHeader class.Anchor c.args.header (following l (blocks_in (byte_at c.put_word.new.self) c.args.header (c.args.header + c.taken-2.result + (c.args.end - (c.args.header + c.taken.result))))) (class_of c.put_word.new.self) a) shifts_is))
