-- Registers that were set are read, and writes are whole.
use Rattle.std.proofs.Common.{◌≡◌, ℕ, Bool, true, false, List, [], ◌∷◌, length, refl, ap, sym, subst, ◌∙◌, arith}
use Rattle.std.proofs.lemmas.Bool.{eqb-false}
use Rattle.std.proofs.lemmas.Bool.Decides.{nat_tests}
use Rattle.std.proofs.lemmas.Option.{none-some}
use Rattle.std.specs.Int.{from_le_bytes, w32}
use Rattle.std.specs.Prelude.{Option, Some, None, Result, ◌==◌, codes, if◌then◌else◌}
use Rattle.hex.specs.Hex.{decode_of, decode_sized}
use Rattle.hex.specs.declared.error.FromHexError.{FromHexError}
use Rattle.profile.specs.Fault.{Fault}
use Rattle.profile.specs.Fault.TheVariants as fault
use Rattle.address_map.specs.Bytes.{ok_unless_fault, with_bytes_at}
use Rattle.arm_core.specs.State.{IsCore, State}
use Rattle.debug_session.specs.Put.{put_fault, script_after_put, script_with_bytes}
use Rattle.debug_session.specs.State.{ScriptState}
use Rattle.debug_session.specs.Writes.{machine_with_register}
use Rattle.gdb_machine.specs.Changes.{core_with_change, register_write}
use Rattle.gdb_machine.specs.Registers.{register_shown}
use Rattle.gdb_machine.specs.declared.changes.RegisterWrite.{RegisterWrite}
use Rattle.gdb_machine.specs.declared.changes.RegisterWrite.TheVariants as change
use Rattle.gdb_machine.proofs.WriteLemmas.{register_writes_are_read}
use Rattle.gdb_packets.specs.Requests.{SetRegister, StoreBytes, StorePairs}
use Rattle.gdb_packets.specs.declared.requests.ByteRange.{ByteRange}
use Rattle.gdb_machine.specs.ChangePackets.{bytes_of_pairs, store_refusal, write_wanted}
use Rattle.gdb_server.specs.session.Changes.{decoded_stored, register_changed, script_with_change}
use Rattle.gdb_server.specs.session.Laws.{AreBytesWhole, GdbRegistersAreRead, GdbWritesAreWhole, IsRegisterSet}
use Rattle.gdb_server.specs.session.Requests.{gdb_answered}
use Rattle.gdb_server.specs.session.State.{GdbAnswered, GdbState, packet_reply}
use Rattle.gdb_server.specs.session.Stores.{bytes_stored, store_shown}

-- a reply of three bytes is not `OK`
not_ok : (text : List ℕ) → length text ≡ 3 → Some text ≡ Some (codes "OK") → ⊥
not_ok text three is =
    let same : text ≡ codes "OK" = cc in
    let two : length text ≡ 2 = ap length same in
    absurd (omega (arith, three, two))

-- REGISTERS

core_changed : (s : ScriptState) (c : RegisterWrite) → (script_with_change s c).machine.cpu ≡ core_with_change s.machine.cpu c
unfolding machine_with_register
core_changed s (change.Present n value) = refl
core_changed s (change.Place address) = refl
core_changed s (change.Status status) = refl
core_changed s (change.Banked mode n value) = refl

register_is_set : (g : GdbState) (n value : ℕ) (o : Option RegisterWrite) → IsCore g.debug.script.machine.cpu → register_write n value ≡ o
    → IsRegisterSet g n value (register_changed g o)
register_is_set g n value None core e = record {
  done = λ is. absurd (not_ok (codes "E16") refl is);
  refused = λ other. refl;
}
register_is_set g n value (Some c) core e = record {
  done = λ is. ap (λ (s : State). register_shown s n) (core_changed g.debug.script c)
      ∙ register_writes_are_read g.debug.script.machine.cpu n value c core e;
  refused = λ other. absurd (other refl);
}

register_answered : (g : GdbState) (n : ℕ) (pairs : List ℕ)
    → gdb_answered g (SetRegister n pairs) ≡ register_changed g (write_wanted n (decode_sized pairs 4))
unfolding gdb_answered
register_answered g n pairs = refl

pub registers_are_read : GdbRegistersAreRead
registers_are_read g n pairs bytes core is =
    let value = from_le_bytes w32 bytes in
    let reported = register_answered g n pairs
    ∙ ap (λ (r : Result (List ℕ) FromHexError). register_changed g (write_wanted n r)) is in
    subst (λ (a : GdbAnswered). IsRegisterSet g n value a) (sym reported) (register_is_set g n value (register_write n value) core refl)

-- BYTES

refusal_length : (f : Fault) → length (store_refusal f) ≡ 3
refusal_length fault.OwnedWord = refl
refusal_length other = refl

-- of no byte nothing is stored
none_stored : (bytes : ℕ → ℕ) (at address : ℕ) → bytes address ≡ with_bytes_at bytes at [] address
none_stored bytes at address = grind (arith, nat_tests)

-- bytes, by the fault that their words meet
met : (g : GdbState) (range : ByteRange) (byte : ℕ) (bytes : List ℕ) (o : Option Fault)
    → put_fault g.debug.script.machine.store range.start (length (byte ∷ bytes)) ≡ o
    → AreBytesWhole g range (byte ∷ bytes)
    (bytes_stored g range.start (byte ∷ bytes) (ok_unless_fault o (script_with_bytes g.debug.script range.start (byte ∷ bytes))))
met g range byte bytes None e = record {
  done = λ is address. refl;
  refused = λ other. absurd (other refl);
  owned = λ fits some owns. absurd (none-some fault.OwnedWord (sym e ∙ owns));
}
met g range byte bytes (Some f) e = record {
  done = λ is. absurd (not_ok (store_refusal f) (refusal_length f) is);
  refused = λ other. refl;
  owned = λ fits some owns. let same : f ≡ fault.OwnedWord = cc in ap (λ (x : Fault). Some (store_refusal x)) same;
}

stored : (g : GdbState) (range : ByteRange) (bytes : List ℕ)
    → AreBytesWhole g range bytes (bytes_stored g range.start bytes (script_after_put g.debug.script range.start bytes))
stored g range [] = record {
  done = λ is address. none_stored g.debug.script.machine.store.bytes.at range.start address;
  refused = λ other. absurd (other refl);
  owned = λ fits some owns. absurd (omega (arith, some));
}
stored g range (byte ∷ bytes) =
    met g range byte bytes (put_fault g.debug.script.machine.store range.start (length (byte ∷ bytes))) refl

store_is_whole : (g : GdbState) (range : ByteRange) (bytes : List ℕ) → AreBytesWhole g range bytes (store_shown g range bytes)
store_is_whole g range bytes = by (length bytes == range.count) refl
  where
    by : (b : Bool) → (length bytes == range.count) ≡ b
        → AreBytesWhole g range bytes (if b then bytes_stored g range.start bytes (script_after_put g.debug.script range.start bytes) else packet_reply g (codes "E16"))
    by true e = stored g range bytes
    by false e = record {
      done = λ is. absurd (not_ok (codes "E16") refl is);
      refused = λ other. refl;
      owned = λ fits some owns. absurd (eqb-false (length bytes) range.count e fits);
    }

bytes_answered : (g : GdbState) (range : ByteRange) (bytes : List ℕ)
    → gdb_answered g (StoreBytes range bytes) ≡ store_shown g range bytes
unfolding gdb_answered
bytes_answered g range bytes = refl

pairs_answered : (g : GdbState) (range : ByteRange) (pairs : List ℕ)
    → gdb_answered g (StorePairs range pairs) ≡ decoded_stored g range (bytes_of_pairs (decode_of pairs))
unfolding gdb_answered
pairs_answered g range pairs = refl

pub writes_are_whole : GdbWritesAreWhole
writes_are_whole g range bytes = record {
  plain = subst (λ (a : GdbAnswered). AreBytesWhole g range bytes a) (sym (bytes_answered g range bytes))
      (store_is_whole g range bytes);
  in_pairs = λ pairs is. subst (λ (a : GdbAnswered). AreBytesWhole g range bytes a)
      (sym (pairs_answered g range pairs
      ∙ ap (λ (r : Result (List ℕ) FromHexError). decoded_stored g range (bytes_of_pairs r)) is))
      (store_is_whole g range bytes);
}
