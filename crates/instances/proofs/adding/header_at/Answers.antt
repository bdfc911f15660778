use Rattle.rma.specs.Bytes.{bytes_between}
use Rattle.rma.specs.Memory.{byte_at}
use Rattle.instances_table.specs.plans.ModuleHeaderHeader.{header_of}
use Rattle.rma.specs.Store.{store_of}
use Rattle.instances.proofs.AddingLemmas.{header_good}
use Rattle.instances.proofs.adding.header_at.Goals as goal

pub returns-clause-there : goal.returns-clause-there
unfolding store_of
returns-clause-there c =
    rw (c.good_header.ensures, c.read_from.ensures, c.view.ensures)
    (header_good (header_of (bytes_between (byte_at c.args.map.now) c.args.at c.args.len)))
