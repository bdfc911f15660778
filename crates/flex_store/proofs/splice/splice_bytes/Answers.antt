use Rattle.std.proofs.Common.{ℕ, ◌+◌, ◌-◌, ◌∙◌, ap}
use Rattle.os_heap.specs.Memory.{byte_at}
use Rattle.flex_store.specs.Blocks.{whole_words}
use Rattle.flex_store.proofs.Splicing.{three_writes}
use Rattle.flex_store.proofs.splice.splice_bytes.Goals as goal

pub returns-clause-bytes : goal.returns-clause-bytes
returns-clause-bytes c =
    let s = c.args.splice.now in
    let new : ℕ = s.at - s.cut + s.more + (c.args.size - s.at) in
    three_writes (byte_at c.args.map.now) (byte_at c.move_bytes.new.self) (byte_at c.zero_bytes.new.self) (byte_at c.zero_bytes-2.new.self)
    c.args.contents c.args.size s.at s.cut s.more (c.whole_words.result - new) c.requires.splice.at
    (ap (λ (n : ℕ). n - new) (c.whole_words.ensures ∙ ap whole_words c.from.ensures))
    c.move_bytes.ensures.bytes c.zero_bytes.ensures.bytes c.zero_bytes-2.ensures.bytes
