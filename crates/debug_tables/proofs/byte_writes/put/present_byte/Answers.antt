use Rattle.std.proofs.Common.{◌∙◌, sym}
use Rattle.address_map.specs.Memory.{bytes_of}
use Rattle.address_map.proofs.Bytes.{byte_at-unmapped}
use Rattle.debug_tables.proofs.ByteWritesLemmas.WordLemmas.{not_loaded}
use Rattle.debug_tables.proofs.byte_writes.put.present_byte.Goals as goal

pub returns-in-Err : goal.returns-in-Err
returns-in-Err c =
    sym (byte_at-unmapped c.args.map.now c.args.address
    (not_loaded (bytes_of c.args.map.now) c.args.address c.in-Err.field-0 c.requires (sym c.load_byte.ensures ∙ c.in-Err.is)))
