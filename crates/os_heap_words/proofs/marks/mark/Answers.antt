use Rattle.std.proofs.Common.{◌∙◌, rules}
use Rattle.os_heap_words.proofs.Marking.{same_parts, without_word, word_below}
use Rattle.os_heap_words.proofs.marks.mark.Goals as goal

pub own-requires-clause-region : goal.own-requires-clause-region
own-requires-clause-region c = record {
  aligned = c.requires.aligned;
  end = word_below c.args.map.now c.args.at c.requires.aligned c.requires.mapped;
}

pub returns-else-is_head : goal.returns-else-is_head
returns-else-is_head c = record {
  marks = search rules;
  bytes = search rules;
  layout = same_parts c.args.map.now c.disown.new.self c.disown.ensures.mapping (c.disown.ensures.regions ∙ without_word _ c.args.at);
}
