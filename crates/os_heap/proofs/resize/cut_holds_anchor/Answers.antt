use Rattle.std.proofs.Common.{◌+◌, ◌-◌, sym, arith}
use Rattle.os_heap_words.proofs.Anchors.{among_none}
use Rattle.os_heap_words.specs.Memory.{anchor_of}
use Rattle.os_heap.proofs.resize.cut_holds_anchor.Goals as goal

pub returns-then-needed-from : goal.returns-then-needed-from
returns-then-needed-from c =
    sym (among_none (anchor_of c.args.map.now) (c.args.block - 4 + c.args.needed) (c.args.total - c.args.needed)
    (λ a low high. absurd (omega (arith, c.if-needed-from.true, c.from.ensures, low, high))))
