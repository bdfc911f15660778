use Rattle.std.proofs.Common.{◌≡◌, ◌+◌, arith, refl, ap, ◌∙◌}
use Rattle.flex_store.specs.Blocks.{bytes_taken_by}
use Rattle.flex_store.proofs.Allocating.{alloc_done, alloc_none, alloc_numbers}
use Rattle.flex_store.proofs.block.append_block.Goals as goal

pub returns-then-from-used : goal.returns-then-from-used
returns-then-from-used c =
    let new : c.taken.result ≡ bytes_taken_by c.args.size = c.taken.ensures ∙ ap bytes_taken_by c.from-2.ensures in
    let all : c.from.result ≡ c.args.extent.now.used = c.from.ensures in
    let start : c.from-3.result ≡ c.args.extent.now.start = c.from-3.ensures in
    let end : c.from-4.result ≡ c.args.extent.now.end = c.from-4.ensures in
    alloc_none c.args.map.now c.args.extent.now c.args.anchor c.args.size c.requires.store (rw (← all, ← new, ← start, ← end) c.if-from-used.true)

pub append-requires-clause-aligned : goal.append-requires-clause-aligned
append-requires-clause-aligned c =
    let new : c.taken.result ≡ bytes_taken_by c.args.size = c.taken.ensures ∙ ap bytes_taken_by c.from-2.ensures in
    let all : c.from.result ≡ c.args.extent.now.used = c.from.ensures in
    let start : c.from-3.result ≡ c.args.extent.now.start = c.from-3.ensures in
    let end : c.from-4.result ≡ c.args.extent.now.end = c.from-4.ensures in
    (alloc_numbers c.args.map.now c.args.extent.now c.args.size c.requires.store (rw (← all, ← new, ← start, ← end) c.if-from-used.false)).aligned

pub returns : goal.returns
returns c =
    let e = c.args.extent.now in
    let new : c.taken.result ≡ bytes_taken_by c.args.size = c.taken.ensures ∙ ap bytes_taken_by c.from-2.ensures in
    let all : c.from.result ≡ c.args.extent.now.used = c.from.ensures in
    let start : c.from-3.result ≡ c.args.extent.now.start = c.from-3.ensures in
    let end : c.from-4.result ≡ c.args.extent.now.end = c.from-4.ensures in
    alloc_done c.args.map.now c.append.new.map e (record { start = e.start; end = e.end; used = c.from.result + c.taken.result }) c.args.anchor c.args.size (e.start + e.used)
    c.requires.store c.requires.place c.requires.free c.requires.head (omega arith)
    (rw (← all, ← new, ← start, ← end) c.if-from-used.false) refl c.append.ensures refl refl (rw (all, new) refl)
