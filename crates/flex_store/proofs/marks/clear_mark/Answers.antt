use Rattle.std.proofs.Common.{◌∙◌, sym}
use Rattle.os_heap_words.proofs.AddressMapMarking.{without_word}
use Rattle.os_heap_words.proofs.Marking.{same_parts}
use Rattle.os_heap.specs.Memory.{regions}
use Rattle.flex_store.proofs.marks.clear_mark.Goals as goal

pub returns-clause-kept : goal.returns-clause-kept
returns-clause-kept c = record {
  bytes = c.disown.ensures.bytes;
  layout = same_parts c.args.map.now c.disown.new.self c.disown.ensures.mapping
      (c.disown.ensures.regions ∙ sym (without_word (regions c.args.map.now) c.args.kind c.args.at c.requires.kind));
}
