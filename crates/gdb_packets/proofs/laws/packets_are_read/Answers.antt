use Rattle.gdb_packets.proofs.ReadingLemmas.{packets_are_read}
use Rattle.gdb_packets.proofs.laws.packets_are_read.Goals as goal

pub returns : goal.returns
returns c = packets_are_read
