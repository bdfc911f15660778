use Rattle.std.proofs.Common.{sym, subst}
use Rattle.flex_store.specs.State.{IsFlex}
use Rattle.flex_store.specs.declared.flex.Flex.{Flex}
use Rattle.trace_json.proofs.changes.push_flex_changes.Goals as goal

pub push_changed_flex-requires-clause-old : goal.push_changed_flex-requires-clause-old
push_changed_flex-requires-clause-old c = subst (λ (f : Flex). IsFlex c.memory.result.now f) (sym c.flex.ensures) c.memory.ensures.flex

pub push_changed_flex-requires-clause-new : goal.push_changed_flex-requires-clause-new
push_changed_flex-requires-clause-new c = subst (λ (f : Flex). IsFlex c.memory-2.result.now f) (sym c.flex-2.ensures) c.memory-2.ensures.flex
