use Rattle.std.proofs.Common.{◌<◌, length, ap, ◌∙◌, sym, rules}
use Rattle.command_shell.specs.GuestState.{state_of}
use Rattle.command_shell.specs.Value.{MachineValue}
use Rattle.debug_tables.specs.byte_writes.Put.{put_fault}
use Rattle.command_shell.specs.Session.{script_state}
use Rattle.debug_tables.proofs.ByteWritesLemmas.PutLemmas.{put_done}
use Rattle.debug_tables.proofs.byte_writes.put.put_bytes.Goals as goal

pub returns-in-None : goal.returns-in-None
returns-in-None c images =
    let some : 0 < length c.args.bytes.now = search rules in
    let there = ap (λ (m : MachineValue). put_fault (state_of m.guest).store c.args.at (length c.args.bytes.now)) c.machine.ensures in
    put_done (script_state c.args.session.now images) (script_state c.store_words.new.session images) c.args.at
    c.args.bytes.now _ some (sym there ∙ sym c.put_fault.ensures ∙ c.in-None.is) (c.store_words.ensures images)
