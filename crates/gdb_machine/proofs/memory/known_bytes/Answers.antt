use Rattle.std.proofs.Common.{◌∙◌, sym, arith}
use Rattle.address_map.specs.Memory.{bytes_of}
use Rattle.gdb_machine.specs.Memory.{known_bytes}
use Rattle.gdb_machine.proofs.MemoryLemmas.{known_end, known_fault}
use Rattle.gdb_machine.proofs.memory.known_bytes.Goals as goal

pub returns-in_default : goal.returns-in_default
returns-in_default c =
    let l = c.loop-left in
    known_fault (bytes_of c.args.map.now) l.address l.left c.in_default.field-0 l.bytes.items
    (known_bytes (bytes_of c.args.map.now) c.args.start c.args.count) (omega (arith, c.loop-left-test.true))
    (sym c.load_byte.ensures ∙ c.in_default.is) c.loop-left.invariant.text

pub returns : goal.returns
returns c =
    let l = c.loop-left in
    known_end (bytes_of c.args.map.now) l.address l.left l.bytes.items
    (known_bytes (bytes_of c.args.map.now) c.args.start c.args.count) (omega (arith, c.loop-left-test.false)) c.loop-left.invariant.text
