use Rattle.std.proofs.Common.{ℕ, Bool, true, false, ◌≡◌, ◌+◌, ◌-◌, arith, refl, sym, ap, ◌∙◌}
use Rattle.os_heap.specs.AddressMap.{AddressMap}
use Rattle.os_heap.specs.Memory.{anchor_of}
use Rattle.os_heap.specs.Records.{anchor_among}
use Rattle.flex_store.specs.Blocks.{bytes_taken_by}
use Rattle.flex_store.specs.Relaid.{first_at}
use Rattle.flex_store.proofs.Finding.{header_word, placed}
use Rattle.flex_store.proofs.Releasing.{anchor_word, release_gets, release_gives, release_keeps, release_refused, removes}
use Rattle.flex_store.proofs.block.release_block.Goals as goal

holds_by : (m : AddressMap) (header size : ℕ) (holds t : Bool) → holds ≡ anchor_among (anchor_of m) (header + 8) size → size ≡ (first_at m header).size → holds ≡ t
    → anchor_among (anchor_of m) (header + 8) (first_at m header).size ≡ t
holds_by m header size holds t is size_is reported = ap (λ (n : ℕ). anchor_among (anchor_of m) (header + 8) n) (sym size_is) ∙ (sym is ∙ reported)

pub overflow_add-header : goal.overflow_add-header
overflow_add-header c = omega (arith, (header_word c.args.map.now c.args.extent.now c.args.anchor c.in-Some.header c.requires c.in-Some.ensures).low)

pub word-size-requires-clause-aligned : goal.word-size-requires-clause-aligned
word-size-requires-clause-aligned c = (header_word c.args.map.now c.args.extent.now c.args.anchor c.in-Some.header c.requires c.in-Some.ensures).aligned

pub word-size-requires-clause-mapped : goal.word-size-requires-clause-mapped
word-size-requires-clause-mapped c = (header_word c.args.map.now c.args.extent.now c.args.anchor c.in-Some.header c.requires c.in-Some.ensures).there

pub overflow_add-header-2 : goal.overflow_add-header-2
overflow_add-header-2 c = omega (arith, (header_word c.args.map.now c.args.extent.now c.args.anchor c.in-Some.header c.requires c.in-Some.ensures).low)

pub returns-then-anchor_in-clause-state : goal.returns-then-anchor_in-clause-state
returns-then-anchor_in-clause-state c =
    release_refused c.args.map.now c.args.extent.now c.args.anchor c.in-Some.header c.in-Some.ensures.split.before c.requires (placed c.args.map.now c.args.extent.now c.args.anchor c.in-Some.header c.requires c.in-Some.ensures)
    (holds_by c.args.map.now c.in-Some.header c.word-size.result c.anchor_in.result true c.anchor_in.ensures c.word-size.ensures c.if-anchor_in.true)

pub put_word-requires-clause-aligned : goal.put_word-requires-clause-aligned
put_word-requires-clause-aligned c = (anchor_word c.args.map.now c.args.extent.now c.args.anchor c.in-Some.header c.in-Some.ensures.split.before (placed c.args.map.now c.args.extent.now c.args.anchor c.in-Some.header c.requires c.in-Some.ensures)).aligned

pub put_word-requires-clause-mapped : goal.put_word-requires-clause-mapped
put_word-requires-clause-mapped c = (anchor_word c.args.map.now c.args.extent.now c.args.anchor c.in-Some.header c.in-Some.ensures.split.before (placed c.args.map.now c.args.extent.now c.args.anchor c.in-Some.header c.requires c.in-Some.ensures)).there

pub remove-requires-clause-text : goal.remove-requires-clause-text
remove-requires-clause-text c = (removes c.args.map.now c.args.extent.now c.args.anchor c.in-Some.header c.in-Some.ensures.split.before (placed c.args.map.now c.args.extent.now c.args.anchor c.in-Some.header c.requires c.in-Some.ensures) (holds_by c.args.map.now c.in-Some.header c.word-size.result c.anchor_in.result false c.anchor_in.ensures c.word-size.ensures c.if-anchor_in.false) c.put_word.new.self (record { bytes = c.put_word.ensures.bytes; marks = c.put_word.ensures.marks; same = c.put_word.ensures.layout })).text

pub remove-requires-clause-words : goal.remove-requires-clause-words
remove-requires-clause-words c = (removes c.args.map.now c.args.extent.now c.args.anchor c.in-Some.header c.in-Some.ensures.split.before (placed c.args.map.now c.args.extent.now c.args.anchor c.in-Some.header c.requires c.in-Some.ensures) (holds_by c.args.map.now c.in-Some.header c.word-size.result c.anchor_in.result false c.anchor_in.ensures c.word-size.ensures c.if-anchor_in.false) c.put_word.new.self (record { bytes = c.put_word.ensures.bytes; marks = c.put_word.ensures.marks; same = c.put_word.ensures.layout })).words

pub remove-requires-clause-room : goal.remove-requires-clause-room
remove-requires-clause-room c = (removes c.args.map.now c.args.extent.now c.args.anchor c.in-Some.header c.in-Some.ensures.split.before (placed c.args.map.now c.args.extent.now c.args.anchor c.in-Some.header c.requires c.in-Some.ensures) (holds_by c.args.map.now c.in-Some.header c.word-size.result c.anchor_in.result false c.anchor_in.ensures c.word-size.ensures c.if-anchor_in.false) c.put_word.new.self (record { bytes = c.put_word.ensures.bytes; marks = c.put_word.ensures.marks; same = c.put_word.ensures.layout })).room

pub overflow_cast-extent : goal.overflow_cast-extent
overflow_cast-extent c =
    let w = (header_word c.args.map.now c.args.extent.now c.args.anchor c.in-Some.header c.requires c.in-Some.ensures) in
    let p = (placed c.args.map.now c.args.extent.now c.args.anchor c.in-Some.header c.requires c.in-Some.ensures) in
    let size : c.taken.result ≡ bytes_taken_by (first_at c.args.map.now c.in-Some.header).size = c.taken.ensures ∙ ap bytes_taken_by (c.from.ensures ∙ c.word-size.ensures) in
    omega (arith, w.fits, p.low, p.total, p.store.fits)

pub overflow_sub-extent : goal.overflow_sub-extent
overflow_sub-extent c =
    let w = (header_word c.args.map.now c.args.extent.now c.args.anchor c.in-Some.header c.requires c.in-Some.ensures) in
    let size : c.taken.result ≡ bytes_taken_by (first_at c.args.map.now c.in-Some.header).size = c.taken.ensures ∙ ap bytes_taken_by (c.from.ensures ∙ c.word-size.ensures) in
    omega (arith, w.fits)

pub returns-clause-state : goal.returns-clause-state
returns-clause-state c =
    let e = c.args.extent.now in
    let size : c.taken.result ≡ bytes_taken_by (first_at c.args.map.now c.in-Some.header).size = c.taken.ensures ∙ ap bytes_taken_by (c.from.ensures ∙ c.word-size.ensures) in
    release_gives c.args.map.now c.args.extent.now c.args.anchor c.in-Some.header c.in-Some.ensures.split.before (placed c.args.map.now c.args.extent.now c.args.anchor c.in-Some.header c.requires c.in-Some.ensures) (holds_by c.args.map.now c.in-Some.header c.word-size.result c.anchor_in.result false c.anchor_in.ensures c.word-size.ensures c.if-anchor_in.false) c.put_word.new.self (record { bytes = c.put_word.ensures.bytes; marks = c.put_word.ensures.marks; same = c.put_word.ensures.layout }) c.remove.new.map (record { start = e.start; end = e.end; used = e.used - c.taken.result }) c.requires
    (release_gets c.args.map.now c.args.extent.now c.args.anchor c.in-Some.header c.in-Some.ensures.split.before (placed c.args.map.now c.args.extent.now c.args.anchor c.in-Some.header c.requires c.in-Some.ensures) (holds_by c.args.map.now c.in-Some.header c.word-size.result c.anchor_in.result false c.anchor_in.ensures c.word-size.ensures c.if-anchor_in.false) c.put_word.new.self (record { bytes = c.put_word.ensures.bytes; marks = c.put_word.ensures.marks; same = c.put_word.ensures.layout }) c.remove.new.map (record { start = e.start; end = e.end; used = e.used - c.taken.result })
    c.remove.ensures refl refl (ap (λ (n : ℕ). e.used - n) size))

pub returns-clause-keeps : goal.returns-clause-keeps
returns-clause-keeps c =
    let e = c.args.extent.now in
    let size : c.taken.result ≡ bytes_taken_by (first_at c.args.map.now c.in-Some.header).size = c.taken.ensures ∙ ap bytes_taken_by (c.from.ensures ∙ c.word-size.ensures) in
    release_keeps c.args.map.now c.args.extent.now c.args.anchor c.in-Some.header c.in-Some.ensures.split.before (placed c.args.map.now c.args.extent.now c.args.anchor c.in-Some.header c.requires c.in-Some.ensures) (holds_by c.args.map.now c.in-Some.header c.word-size.result c.anchor_in.result false c.anchor_in.ensures c.word-size.ensures c.if-anchor_in.false) c.put_word.new.self (record { bytes = c.put_word.ensures.bytes; marks = c.put_word.ensures.marks; same = c.put_word.ensures.layout }) c.remove.new.map (record { start = e.start; end = e.end; used = e.used - c.taken.result })
    (release_gets c.args.map.now c.args.extent.now c.args.anchor c.in-Some.header c.in-Some.ensures.split.before (placed c.args.map.now c.args.extent.now c.args.anchor c.in-Some.header c.requires c.in-Some.ensures) (holds_by c.args.map.now c.in-Some.header c.word-size.result c.anchor_in.result false c.anchor_in.ensures c.word-size.ensures c.if-anchor_in.false) c.put_word.new.self (record { bytes = c.put_word.ensures.bytes; marks = c.put_word.ensures.marks; same = c.put_word.ensures.layout }) c.remove.new.map (record { start = e.start; end = e.end; used = e.used - c.taken.result })
    c.remove.ensures refl refl (ap (λ (n : ℕ). e.used - n) size))
