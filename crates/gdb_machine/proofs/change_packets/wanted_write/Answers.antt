use Rattle.std.proofs.Common.{ap, ◌∙◌}
use Rattle.gdb_machine.specs.Changes.{register_write}
use Rattle.gdb_machine.proofs.PacketLemmas.{write_read}
use Rattle.gdb_machine.proofs.change_packets.wanted_write.Goals as goal

pub returns-in-Ok-clause-value : goal.returns-in-Ok-clause-value
returns-in-Ok-clause-value c =
    c.register_write.ensures.value ∙ ap (register_write c.args.number) c.from_le_bytes.ensures
    ∙ write_read c.args.number c.decode_to_slice.new.out c.decode_to_slice.result c.in-Ok.field-0 _ c.decode_to_slice.ensures.value c.in-Ok.is
