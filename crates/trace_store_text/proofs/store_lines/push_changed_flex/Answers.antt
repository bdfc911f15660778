use Rattle.std.proofs.Common.{sym, subst}
use Rattle.store_copies.specs.State.{IsFlex}
use Rattle.store_copies.specs.Flex.{Flex}
use Rattle.trace_store_text.proofs.store_lines.push_changed_flex.Goals as goal

pub push_flex-requires-clause-old : goal.push_flex-requires-clause-old
push_flex-requires-clause-old g c = subst (λ (f : Flex). IsFlex c.memory.result.now f) (sym c.flex.ensures) c.memory.ensures.flex

pub push_flex-requires-clause-new : goal.push_flex-requires-clause-new
push_flex-requires-clause-new g c = subst (λ (f : Flex). IsFlex c.memory-2.result.now f) (sym c.flex-2.ensures) c.memory-2.ensures.flex

pub returns : goal.returns
returns g c =
    rw (sym c.memory.ensures.bytes, sym c.flex.ensures, sym c.memory-2.ensures.bytes, sym c.flex-2.ensures) c.push_flex.ensures.writes
