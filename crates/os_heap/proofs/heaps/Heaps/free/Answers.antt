use Rattle.std.proofs.Common.{refl, sym}
use Rattle.os_heap.proofs.Calls.{free_refused, free_counted_none}
use Rattle.os_heap.proofs.LostRecords.{rest_kept}
use Rattle.os_heap.proofs.heaps.Heaps.free.Goals as goal

pub release-requires-clause-found : goal.release-requires-clause-found
release-requires-clause-found c = rw c.in-Some.ensures.1 refl

pub returns-in-Some : goal.returns-in-Some
returns-in-Some c = record {
  store = c.release.ensures.store;
  kept = c.release.ensures.kept;
  probes = c.release.ensures.probes;
}

pub returns-in-None : goal.returns-in-None
returns-in-None c = record {
  store = rw (c.refused.ensures, free_refused c.args.map.now c.args.heap c.args.block c.in-None.ensures) (refl, refl);
  kept = rest_kept c.args.map.now c.requires.state;
  probes = rw c.refused.ensures (sym (free_counted_none c.args.map.now c.args.heap c.args.block c.in-None.ensures));
}
