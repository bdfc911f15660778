use Rattle.std.proofs.Common.{◌<◌, ◌^◌}
use Rattle.address_map.specs.Memory.{bytes_of}
use Rattle.swi_dispatch_answers.specs.Strings.{ends}
use Rattle.swi_dispatch_answers.proofs.StringLemmas.{IsReading}
use Rattle.swi_dispatch_answers.proofs.strings.text_at.Given as goal

-- the bytes so far are the text's, none of which ends it
abbrev pub invariant-loop-index : goal.invariant-loop-index
invariant-loop-index g l = record {
  reading : IsReading (ends l.end) g.row.MAX (bytes_of l.memory) l.at l.index l.text.items;
  low : l.at < 2 ^ 26;
}
