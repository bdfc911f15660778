use Rattle.std.proofs.Common.{sym, ◌∙◌}
use Rattle.store_copies.specs.Store.{store_of}
use Rattle.trace_store_text.proofs.HeapsLemmas.LimitLemmas.{both_limits, is_there, no_limits}
use Rattle.trace_store_text.proofs.heaps.limits.limits_of.Goals as goal

pub returns-in_default : goal.returns-in_default
returns-in_default c = record { value = no_limits (store_of c.args.memory.now) c.args.heap (sym c.blocks-2.ensures ∙ c.in_default.is) }

pub base_of-requires-clause-there : goal.base_of-requires-clause-there
base_of-requires-clause-there c = is_there (store_of c.args.memory.now) c.args.heap c.in-Some._items (sym c.blocks-2.ensures ∙ c.in-Some.is)

pub end_of-requires-clause-there : goal.end_of-requires-clause-there
end_of-requires-clause-there c = is_there (store_of c.args.memory.now) c.args.heap c.in-Some._items (sym c.blocks-2.ensures ∙ c.in-Some.is)

pub returns : goal.returns
returns c = record {
  value = both_limits (store_of c.args.memory.now) c.args.heap c.base_of.result c.end_of.result
      (is_there (store_of c.args.memory.now) c.args.heap c.in-Some._items (sym c.blocks-2.ensures ∙ c.in-Some.is)) c.base_of.ensures c.end_of.ensures;
}
