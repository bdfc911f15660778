use Rattle.std.proofs.Common.{refl}
use Rattle.os_heap.specs.Store.{store_of}
use Rattle.os_heap.proofs.Added.{begun_done}
use Rattle.os_heap.proofs.init.begin.Goals as goal

pub returns-in-Ok-clause-store : goal.returns-in-Ok-clause-store
returns-in-Ok-clause-store c =
    let may = rw c.in-Ok.is at c.may_begin-tested.ensures.answer in
    rw (c.in-Ok.is, begun_done (store_of c.args.map.now) c.args.heap c.args.size may) (c.make.ensures.store, refl)
