use Rattle.std.proofs.Common.{◌≡◌, ◌≤◌, ◌+◌, ◌*◌, ◌%◌, List, length}
use Rattle.std.specs.Prelude.{None}
use Rattle.address_map.specs.Bytes.{word_start}
use Rattle.debug_tables.specs.byte_writes.Put.{words_fault}
use Rattle.command_shell.specs.Session.{script_state}
use Rattle.profile.specs.images.Entries.{Entry}
use Rattle.command_shell.specs.Store.{owned_in}
use Rattle.command_shell.specs.GuestState.{state_of}
use Rattle.debug_tables.proofs.ByteWritesLemmas.PutLemmas.{script_put_below}
use Rattle.debug_tables.proofs.byte_writes.put.store_words.Given as goal

-- the bytes below the address are written, the words from there on reach past the last, and none of
-- them refuses
abbrev pub invariant-loop-left : goal.invariant-loop-left
invariant-loop-left l = record {
  aligned : l.address % 4 ≡ 0;
  high : word_start l.at ≤ l.address;
  reach : l.at + length l.bytes ≤ l.address + 4 * l.left;
  free : words_fault (owned_in (state_of l.fn.session.machine.guest).store)
      (state_of l.fn.session.machine.guest).store.bytes l.address l.left ≡ None;
  state : (images : List Entry) → script_state l.session images
      ≡ script_put_below (script_state l.fn.session images) l.at l.bytes l.address;
}

abbrev pub decreases-loop-left : goal.decreases-loop-left
decreases-loop-left l = l.left
