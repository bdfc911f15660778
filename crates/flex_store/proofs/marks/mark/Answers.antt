use Rattle.std.proofs.Common.{◌∙◌}
use Rattle.os_heap_words.proofs.Marking.{same_parts, word_below}
use Rattle.os_heap.specs.Memory.{regions}
use Rattle.flex_store.proofs.Walks.{with_word_region}
use Rattle.flex_store.proofs.marks.mark.Goals as goal

pub own-requires-clause-region : goal.own-requires-clause-region
own-requires-clause-region c = record {
  aligned = c.requires.aligned;
  end = word_below c.args.map.now c.args.at c.requires.aligned c.requires.mapped;
}

pub returns-clause-kept : goal.returns-clause-kept
returns-clause-kept c = record {
  bytes = c.own.ensures.bytes;
  layout = same_parts c.args.map.now c.own.new.self c.own.ensures.mapping
      (c.own.ensures.regions ∙ with_word_region (regions c.args.map.now) c.args.kind c.args.at c.requires.kind);
}
