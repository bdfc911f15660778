-- The core and the bytes of the machine.
use Rattle.std.proofs.Common.{ap}
use Rattle.trace_text.specs.Copies.{KeptStore}
use Rattle.trace_json.proofs.changes.MachineCopy.of.Goals as goal

pub returns : goal.returns
returns c = record { core = c.cpu.ensures; bytes = ap (λ (k : KeptStore). k.store.bytes) c.in_ok-of.ensures.kept }
