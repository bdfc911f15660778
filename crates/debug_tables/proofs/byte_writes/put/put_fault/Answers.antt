use Rattle.std.proofs.Common.{◌≡◌, sym, subst}
use Rattle.address_map.specs.Memory.{is_owned}
use Rattle.address_map.specs.declared.map.AddressMap.{AddressMap}
use Rattle.command_shell.specs.Store.{AreClasses, owned_in, store_of}
use Rattle.command_shell.proofs.Owned.{owned_marks}
use Rattle.debug_tables.proofs.byte_writes.put.put_fault.Goals as goal

pub returns : goal.returns
returns c =
    let map : AddressMap = c.memory.result.now in
    let owned : is_owned map ≡ owned_in (store_of map) =
    owned_marks map (subst AreClasses (sym c.memory.ensures.map) c.known.ensures.guest.well_formed.classes) in
    cc (c.memory.ensures.store, c.memory.ensures.bytes, c.words_fault.ensures, c.word_count.ensures)
