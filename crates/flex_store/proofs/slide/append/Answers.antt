use Rattle.std.proofs.Common.{ℕ, ◌≡◌, ◌+◌, [], ◌∷◌, arith, ap, ◌∙◌}
use Rattle.os_heap.specs.Memory.{bytes_of}
use Rattle.os_heap.specs.Class.{Class}
use Rattle.flex_store.specs.Blocks.{new_block, bytes_taken_by, whole_words}
use Rattle.flex_store.proofs.Sliding.{IsWrittenText, appended_step, as_read, lie_low, relaid_from}
use Rattle.flex_store.proofs.slide.append.Goals as goal

pub overflow_add-header : goal.overflow_add-header
overflow_add-header c = omega (arith, lie_low c.args.map.now c.args.header (new_block c.args.anchor c.args.size ∷ []) c.requires.room (omega arith))

pub overflow_add-header-2 : goal.overflow_add-header-2
overflow_add-header-2 c = omega (arith, lie_low c.args.map.now c.args.header (new_block c.args.anchor c.args.size ∷ []) c.requires.room (omega arith))

pub overflow_cast-whole_words : goal.overflow_cast-whole_words
overflow_cast-whole_words c =
    let size : c.whole_words.result ≡ whole_words c.args.size = c.whole_words.ensures ∙ ap whole_words c.from.ensures in
    omega (arith, lie_low c.args.map.now c.args.header (new_block c.args.anchor c.args.size ∷ []) c.requires.room (omega arith))

pub overflow_cast-taken : goal.overflow_cast-taken
overflow_cast-taken c =
    let size : c.taken.result ≡ bytes_taken_by c.args.size = c.taken.ensures ∙ ap bytes_taken_by c.from-2.ensures in
    omega (arith, lie_low c.args.map.now c.args.header (new_block c.args.anchor c.args.size ∷ []) c.requires.room (omega arith))

pub overflow_add-header-3 : goal.overflow_add-header-3
overflow_add-header-3 c =
    let size : c.taken.result ≡ bytes_taken_by c.args.size = c.taken.ensures ∙ ap bytes_taken_by c.from-2.ensures in
    omega (arith, lie_low c.args.map.now c.args.header (new_block c.args.anchor c.args.size ∷ []) c.requires.room (omega arith))

pub settle-requires-clause-text : goal.settle-requires-clause-text
settle-requires-clause-text c =
    let w : IsWrittenText [] c.args.map.now c.zero_bytes.new.self c.args.header (c.args.header + c.taken.result) (new_block c.args.anchor c.args.size ∷ []) =
    appended_step c.args.map.now c.put_word.new.self c.put_word-2.new.self c.zero_bytes.new.self c.args.header c.args.anchor c.args.size
    c.whole_words.result c.taken.result (omega arith) c.requires.aligned c.requires.room (c.whole_words.ensures ∙ ap whole_words c.from.ensures) (c.taken.ensures ∙ ap bytes_taken_by c.from-2.ensures)
    (c.zero_bytes.ensures.layout ∙ (c.put_word-2.ensures.layout ∙ c.put_word.ensures.layout)) c.put_word.ensures.bytes c.put_word-2.ensures.bytes c.zero_bytes.ensures.bytes in
    as_read (bytes_of c.zero_bytes.new.self) c.args.header (c.args.header + c.taken.result) (new_block c.args.anchor c.args.size ∷ []) w.text

pub settle-requires-clause-words : goal.settle-requires-clause-words
settle-requires-clause-words c =
    let w : IsWrittenText [] c.args.map.now c.zero_bytes.new.self c.args.header (c.args.header + c.taken.result) (new_block c.args.anchor c.args.size ∷ []) =
    appended_step c.args.map.now c.put_word.new.self c.put_word-2.new.self c.zero_bytes.new.self c.args.header c.args.anchor c.args.size
    c.whole_words.result c.taken.result (omega arith) c.requires.aligned c.requires.room (c.whole_words.ensures ∙ ap whole_words c.from.ensures) (c.taken.ensures ∙ ap bytes_taken_by c.from-2.ensures)
    (c.zero_bytes.ensures.layout ∙ (c.put_word-2.ensures.layout ∙ c.put_word.ensures.layout)) c.put_word.ensures.bytes c.put_word-2.ensures.bytes c.zero_bytes.ensures.bytes in
    w.words

pub returns : goal.returns
returns c =
    let w : IsWrittenText [] c.args.map.now c.zero_bytes.new.self c.args.header (c.args.header + c.taken.result) (new_block c.args.anchor c.args.size ∷ []) =
    appended_step c.args.map.now c.put_word.new.self c.put_word-2.new.self c.zero_bytes.new.self c.args.header c.args.anchor c.args.size
    c.whole_words.result c.taken.result (omega arith) c.requires.aligned c.requires.room (c.whole_words.ensures ∙ ap whole_words c.from.ensures) (c.taken.ensures ∙ ap bytes_taken_by c.from-2.ensures)
    (c.zero_bytes.ensures.layout ∙ (c.put_word-2.ensures.layout ∙ c.put_word.ensures.layout)) c.put_word.ensures.bytes c.put_word-2.ensures.bytes c.zero_bytes.ensures.bytes in
    relaid_from [] c.args.map.now c.zero_bytes.new.self c.settle.new.map c.args.header (c.args.header + c.taken.result)
    []
    (new_block c.args.anchor c.args.size ∷ [])
    w.text
    (λ a. ap (λ (k : ℕ → Class). k a) (c.zero_bytes.ensures.marks ∙ (c.put_word-2.ensures.marks ∙ c.put_word.ensures.marks)))
    (c.settle.ensures.layout ∙ (c.zero_bytes.ensures.layout ∙ (c.put_word-2.ensures.layout ∙ c.put_word.ensures.layout)))
    w.bytes c.settle.ensures.bytes c.settle.ensures.marks
