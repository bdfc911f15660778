use Rattle.std.proofs.Common.{◌++◌, arith}
use Rattle.address_map.specs.Memory.{bytes_of}
use Rattle.gdb_machine.specs.Watches.{bytes_seen}
use Rattle.gdb_machine.proofs.WatchLemmas.{seen_end}
use Rattle.gdb_machine.proofs.watches.push_seen.Goals as goal

pub returns : goal.returns
returns c =
    let l = c.loop-left in
    seen_end (bytes_of c.args.map.now) c.args.kind l.address l.left l.seen.items
    (c.args.seen.now.items ++ bytes_seen (bytes_of c.args.map.now) c.args.kind c.args.start c.args.count)
    (omega (arith, c.loop-left-test.false)) c.loop-left.invariant.all
