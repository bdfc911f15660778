use Rattle.std.proofs.Common.{ℕ, Bool, true, false, ◌≡◌, ◌+◌, ◌-◌, arith, refl, sym, ◌∙◌, ap}
use Rattle.os_heap.specs.AddressMap.{AddressMap}
use Rattle.os_heap.specs.Memory.{anchor_of}
use Rattle.flex_store.specs.declared.splice.Splice.{Splice}
use Rattle.flex_store.specs.Blocks.{bytes_taken_by}
use Rattle.flex_store.specs.Calls.{breaks_anchor}
use Rattle.flex_store.specs.Relaid.{first_at, blocks_after_splice}
use Rattle.flex_store.specs.Splices.{size_after_splice}
use Rattle.flex_store.proofs.Answering.{fits_keeps, splice_allowed, splice_broken, splice_done}
use Rattle.flex_store.proofs.Finding.{header_word, placed}
use Rattle.flex_store.proofs.Replacing.{changed, IsChange, may_replace, no_room}
use Rattle.flex_store.proofs.block.splice_block.Goals as goal

breaks_by : (m : AddressMap) (header size : ℕ) (s : Splice) (breaks t : Bool) → breaks ≡ breaks_anchor (anchor_of m) (header + 8) size s.at s.cut s.more
    → size ≡ (first_at m header).size → breaks ≡ t → breaks_anchor (anchor_of m) (header + 8) (first_at m header).size s.at s.cut s.more ≡ t
breaks_by m header size s breaks t is size_is reported = ap (λ (n : ℕ). breaks_anchor (anchor_of m) (header + 8) n s.at s.cut s.more) (sym size_is) ∙ (sym is ∙ reported)

pub overflow_add-header : goal.overflow_add-header
overflow_add-header c = omega (arith, (header_word c.args.map.now c.args.extent.now c.args.anchor c.args.header c.requires.store c.requires.place).low)

pub word-size-requires-clause-aligned : goal.word-size-requires-clause-aligned
word-size-requires-clause-aligned c = (header_word c.args.map.now c.args.extent.now c.args.anchor c.args.header c.requires.store c.requires.place).aligned

pub word-size-requires-clause-mapped : goal.word-size-requires-clause-mapped
word-size-requires-clause-mapped c = (header_word c.args.map.now c.args.extent.now c.args.anchor c.args.header c.requires.store c.requires.place).there

pub overflow_add-header-2 : goal.overflow_add-header-2
overflow_add-header-2 c = omega (arith, (header_word c.args.map.now c.args.extent.now c.args.anchor c.args.header c.requires.store c.requires.place).low)

pub breaks_anchor-requires-clause-low : goal.breaks_anchor-requires-clause-low
breaks_anchor-requires-clause-low c =
    let size : c.word-size.result ≡ (first_at c.args.map.now c.args.header).size = c.word-size.ensures in
    let p = (placed c.args.map.now c.args.extent.now c.args.anchor c.args.header c.requires.store c.requires.place) in
    omega (arith, p.low, p.total, p.place, p.store.fits, (header_word c.args.map.now c.args.extent.now c.args.anchor c.args.header c.requires.store c.requires.place).fits, p.text.length)

pub returns-then-breaks_anchor-clause-state : goal.returns-then-breaks_anchor-clause-state
returns-then-breaks_anchor-clause-state c =
    splice_broken c.args.map.now c.args.extent.now c.args.anchor c.args.header c.requires.place.split.before c.args.splice.now c.requires.store (placed c.args.map.now c.args.extent.now c.args.anchor c.args.header c.requires.store c.requires.place)
    (breaks_by c.args.map.now c.args.header c.word-size.result c.args.splice.now c.breaks_anchor.result true c.breaks_anchor.ensures c.word-size.ensures c.if-breaks_anchor.true)

pub overflow_sub-others : goal.overflow_sub-others
overflow_sub-others c =
    let total : c.taken.result ≡ bytes_taken_by (first_at c.args.map.now c.args.header).size = c.taken.ensures ∙ ap bytes_taken_by (c.from-2.ensures ∙ c.word-size.ensures) in
    let all : c.from.result ≡ c.args.extent.now.used = c.from.ensures in
    omega (arith, (header_word c.args.map.now c.args.extent.now c.args.anchor c.args.header c.requires.store c.requires.place).fits)

pub returns-then-from-used-clause-state : goal.returns-then-from-used-clause-state
returns-then-from-used-clause-state c =
    let s = c.args.splice.now in
    let old : c.taken.result ≡ bytes_taken_by (first_at c.args.map.now c.args.header).size = c.taken.ensures ∙ ap bytes_taken_by (c.from-2.ensures ∙ c.word-size.ensures) in
    let new : c.taken-2.result ≡ bytes_taken_by (size_after_splice s (first_at c.args.map.now c.args.header).size) = c.taken-2.ensures ∙ ap bytes_taken_by (c.size_after.ensures ∙ ap (size_after_splice s) c.word-size.ensures) in
    let all : c.from.result ≡ c.args.extent.now.used = c.from.ensures in
    let start : c.from-3.result ≡ c.args.extent.now.start = c.from-3.ensures in
    let end : c.from-4.result ≡ c.args.extent.now.end = c.from-4.ensures in
    splice_done c.args.map.now c.args.map.now c.args.extent.now c.args.extent.now c.args.anchor c.args.header c.requires.place.split.before s false c.requires.store (placed c.args.map.now c.args.extent.now c.args.anchor c.args.header c.requires.store c.requires.place) (breaks_by c.args.map.now c.args.header c.word-size.result s c.breaks_anchor.result false c.breaks_anchor.ensures c.word-size.ensures c.if-breaks_anchor.false)
    (no_room c.args.map.now c.args.extent.now c.args.anchor c.args.header c.requires.place.split.before s (placed c.args.map.now c.args.extent.now c.args.anchor c.args.header c.requires.store c.requires.place) c.requires.splice.at (rw (← all, ← old, ← new, ← start, ← end) c.if-from-used.true))

pub replace-requires-clause-text : goal.replace-requires-clause-text
replace-requires-clause-text c = (placed c.args.map.now c.args.extent.now c.args.anchor c.args.header c.requires.store c.requires.place).text

pub replace-requires-clause-words : goal.replace-requires-clause-words
replace-requires-clause-words c = (placed c.args.map.now c.args.extent.now c.args.anchor c.args.header c.requires.store c.requires.place).words

pub replace-requires-clause-room : goal.replace-requires-clause-room
replace-requires-clause-room c =
    let s = c.args.splice.now in
    let old : c.taken.result ≡ bytes_taken_by (first_at c.args.map.now c.args.header).size = c.taken.ensures ∙ ap bytes_taken_by (c.from-2.ensures ∙ c.word-size.ensures) in
    let new : c.taken-2.result ≡ bytes_taken_by (size_after_splice s (first_at c.args.map.now c.args.header).size) = c.taken-2.ensures ∙ ap bytes_taken_by (c.size_after.ensures ∙ ap (size_after_splice s) c.word-size.ensures) in
    let all : c.from.result ≡ c.args.extent.now.used = c.from.ensures in
    let start : c.from-3.result ≡ c.args.extent.now.start = c.from-3.ensures in
    let end : c.from-4.result ≡ c.args.extent.now.end = c.from-4.ensures in
    let change : IsChange c.args.map.now c.args.extent.now c.args.header s = record {
      cut = c.requires.splice.cut;
      at = c.requires.splice.at;
      some = c.requires.some;
      free = breaks_by c.args.map.now c.args.header c.word-size.result s c.breaks_anchor.result false c.breaks_anchor.ensures c.word-size.ensures c.if-breaks_anchor.false;
      room = rw (← all, ← old, ← new, ← start, ← end) c.if-from-used.false;
    } in
    may_replace c.args.map.now c.args.extent.now c.args.anchor c.args.header c.requires.place.split.before s (placed c.args.map.now c.args.extent.now c.args.anchor c.args.header c.requires.store c.requires.place) change

pub returns-clause-state : goal.returns-clause-state
returns-clause-state c =
    let s = c.args.splice.now in
    let old : c.taken.result ≡ bytes_taken_by (first_at c.args.map.now c.args.header).size = c.taken.ensures ∙ ap bytes_taken_by (c.from-2.ensures ∙ c.word-size.ensures) in
    let new : c.taken-2.result ≡ bytes_taken_by (size_after_splice s (first_at c.args.map.now c.args.header).size) = c.taken-2.ensures ∙ ap bytes_taken_by (c.size_after.ensures ∙ ap (size_after_splice s) c.word-size.ensures) in
    let all : c.from.result ≡ c.args.extent.now.used = c.from.ensures in
    let start : c.from-3.result ≡ c.args.extent.now.start = c.from-3.ensures in
    let end : c.from-4.result ≡ c.args.extent.now.end = c.from-4.ensures in
    let change : IsChange c.args.map.now c.args.extent.now c.args.header s = record {
      cut = c.requires.splice.cut;
      at = c.requires.splice.at;
      some = c.requires.some;
      free = breaks_by c.args.map.now c.args.header c.word-size.result s c.breaks_anchor.result false c.breaks_anchor.ensures c.word-size.ensures c.if-breaks_anchor.false;
      room = rw (← all, ← old, ← new, ← start, ← end) c.if-from-used.false;
    } in
    splice_done c.args.map.now c.replace.new.map c.args.extent.now (record { start = c.args.extent.now.start; end = c.args.extent.now.end; used = c.from.result - c.taken.result + c.taken-2.result }) c.args.anchor c.args.header c.requires.place.split.before s true c.requires.store (placed c.args.map.now c.args.extent.now c.args.anchor c.args.header c.requires.store c.requires.place) (breaks_by c.args.map.now c.args.header c.word-size.result s c.breaks_anchor.result false c.breaks_anchor.ensures c.word-size.ensures c.if-breaks_anchor.false)
    (changed c.args.map.now c.args.extent.now c.args.anchor c.args.header c.requires.place.split.before s (placed c.args.map.now c.args.extent.now c.args.anchor c.args.header c.requires.store c.requires.place) change c.replace.new.map (record { start = c.args.extent.now.start; end = c.args.extent.now.end; used = c.from.result - c.taken.result + c.taken-2.result }) c.replace.ensures refl refl (rw (all, old, new) refl))

pub returns-clause-keeps : goal.returns-clause-keeps
returns-clause-keeps c =
    let s = c.args.splice.now in
    let old : c.taken.result ≡ bytes_taken_by (first_at c.args.map.now c.args.header).size = c.taken.ensures ∙ ap bytes_taken_by (c.from-2.ensures ∙ c.word-size.ensures) in
    let new : c.taken-2.result ≡ bytes_taken_by (size_after_splice s (first_at c.args.map.now c.args.header).size) = c.taken-2.ensures ∙ ap bytes_taken_by (c.size_after.ensures ∙ ap (size_after_splice s) c.word-size.ensures) in
    let all : c.from.result ≡ c.args.extent.now.used = c.from.ensures in
    let start : c.from-3.result ≡ c.args.extent.now.start = c.from-3.ensures in
    let end : c.from-4.result ≡ c.args.extent.now.end = c.from-4.ensures in
    let change : IsChange c.args.map.now c.args.extent.now c.args.header s = record {
      cut = c.requires.splice.cut;
      at = c.requires.splice.at;
      some = c.requires.some;
      free = breaks_by c.args.map.now c.args.header c.word-size.result s c.breaks_anchor.result false c.breaks_anchor.ensures c.word-size.ensures c.if-breaks_anchor.false;
      room = rw (← all, ← old, ← new, ← start, ← end) c.if-from-used.false;
    } in
    fits_keeps c.args.map.now c.replace.new.map c.args.extent.now (record { start = c.args.extent.now.start; end = c.args.extent.now.end; used = c.from.result - c.taken.result + c.taken-2.result }) c.requires.place.split.before (blocks_after_splice c.args.map.now c.args.header (c.args.extent.now.start + c.args.extent.now.used) s) true c.requires.store
    (splice_allowed c.args.map.now c.args.extent.now c.args.anchor c.args.header c.requires.place.split.before s (placed c.args.map.now c.args.extent.now c.args.anchor c.args.header c.requires.store c.requires.place) change)
    (changed c.args.map.now c.args.extent.now c.args.anchor c.args.header c.requires.place.split.before s (placed c.args.map.now c.args.extent.now c.args.anchor c.args.header c.requires.store c.requires.place) change c.replace.new.map (record { start = c.args.extent.now.start; end = c.args.extent.now.end; used = c.from.result - c.taken.result + c.taken-2.result }) c.replace.ensures refl refl (rw (all, old, new) refl))
