use Rattle.store_copies.proofs.CopyLemmas.{same_store}
use Rattle.store_copies.proofs.store_copy.copy_over.Goals as goal

pub returns-clause-store : goal.returns-clause-store
returns-clause-store c = same_store c.args.memory.now c.copy_from.new.self c.copy_from.ensures.bytes c.copy_from.ensures.layout c.copy_from.ensures.marks
