use Rattle.std.proofs.Common.{ℕ, ◌≡◌, ◌-◌, Option, ap, sym, ◌∙◌, arith}
use Rattle.os_heap_words.specs.Memory.{anchor_of}
use Rattle.os_heap_words.specs.Records.{anchor_among}
use Rattle.os_heap.specs.Calls.{holds_anchor}
use Rattle.os_heap_words.specs.Outcomes.{end_at}
use Rattle.os_heap_words.proofs.Freeing.{block_facts}
use Rattle.os_heap_words.proofs.Refitted.{block_total}
use Rattle.os_heap.proofs.free.holds_anchor.Goals as goal

pub returns : goal.returns
returns c =
    let m = c.args.map.now in
    let b = c.requires.block in
    let f = block_facts m c.args.heap (end_at m c.args.heap) c.args.block c.args.cursor.now.from c.args.cursor.now.at c.args.cursor.now.free
    c.args.cursor.now.gap c.requires.heap b in
    let at : c.args.cursor.now.at ≡ c.args.block - 4 = omega (arith, b.here) in
    let total : c.own_total.result ≡ b.total = c.own_total.ensures.word ∙ f.facts.total_word in
    let live = block_total m c.args.heap (end_at m c.args.heap) c.args.block c.args.cursor.now.from c.args.cursor.now.at c.args.cursor.now.free
    c.args.cursor.now.gap c.requires.heap b in
    c.anchor_in.ensures ∙ ap (λ (a : ℕ). anchor_among (anchor_of m) a c.own_total.result) at
    ∙ ap (λ (n : ℕ). anchor_among (anchor_of m) (c.args.block - 4) n) total
    ∙ sym (ap (λ (o : Option ℕ). holds_anchor (anchor_of m) c.args.block o) live)
