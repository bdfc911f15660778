-- Each way out is what the definition says there.
use Rattle.std.proofs.Common.{rules}
use Rattle.assembler.specs.Directives.{with_item_read}
use Rattle.assembler.proofs.items.put_item.Goals as goal

pub returns-in-Words : goal.returns-in-Words
unfolding with_item_read
returns-in-Words c = search rules

pub returns-in-Some : goal.returns-in-Some
unfolding with_item_read
returns-in-Some c = search rules

pub returns-in-None : goal.returns-in-None
unfolding with_item_read
returns-in-None c = search rules
