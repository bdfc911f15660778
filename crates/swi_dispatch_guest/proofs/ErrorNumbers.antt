-- The number of an error that a call answers, found where R0 points after the call went back.
use Rattle.profile.specs.MemoryMap.{error_block_start}
use Rattle.std.proofs.Common.{◌≡◌, ◌≢◌, ◌<◌, ◌^◌, ◌+◌, ◌*◌, ◌/◌, ◌%◌, ℕ, Bool, true, List, length, refl, sym, ◌∙◌, ap, arith, rules, get_or-set_other, get_or-set_same}
use Rattle.profile.specs.ErrorNumber.{ErrorNumber}
use Rattle.profile.specs.ErrorNames.{error_code, error_name}
use Rattle.os_heap.specs.Bytes.{Bytes, word_loaded}
use Rattle.os_heap.specs.Memory.{free_pages}
use Rattle.arm_run.specs.Mode.{Mode}
use Rattle.arm_run.specs.Psr.{Psr}
use Rattle.arm_run.specs.State.{State, slot_of, register_of, with_register}
use Rattle.os_heap.specs.Store.{store_of}
use Rattle.swi_dispatch_plans.proofs.HeapCalls.{system_mapped}
use Rattle.swi_dispatch_plans.specs.Refusal.TheVariants as refusal
use Rattle.swi_dispatch_plans.proofs.ModuleCode.{first_slot}
use Rattle.swi_dispatch_guest.specs.MachineState.{MachineState}
use Rattle.swi_dispatch_guest.specs.Errors.{error_number, with_error}
use Rattle.swi_dispatch_plans.specs.Errors.{error_at, memory_with_error}
use Rattle.swi_dispatch_guest.specs.Returns.{gone_back}
use Rattle.swi_dispatch_plans.specs.Returns.{state_after_return, return_word}
use Rattle.swi_dispatch_guest.specs.GuestState.{GuestState, IsWellFormed, state_of}

-- R0 is the same register in all modes
zero_apart : (m : Mode) → slot_of m 0 ≢ 25
zero_apart m same = let zero : slot_of m 0 ≡ 0 = first_slot m in omega (arith, zero, same)

pub zero_kept : (caller : Psr) (cpu : State) (v : Bool) (next : ℕ) → register_of (state_after_return caller cpu v next) 0 ≡ register_of cpu 0
unfolding state_after_return
zero_kept caller cpu v next = get_or-set_other cpu.file 25 (slot_of cpu.psr.mode 0) (return_word caller next) 0 (zero_apart cpu.psr.mode)

pub zero_set : (s : State) (v : ℕ) → length s.file ≡ 26 → register_of (with_register s 0 v) 0 ≡ v
zero_set s v size =
    let zero : slot_of s.psr.mode 0 ≡ 0 = first_slot s.psr.mode in
    let inside : slot_of s.psr.mode 0 < length s.file = omega (arith, zero, size) in
    get_or-set_same s.file (slot_of s.psr.mode 0) v 0 inside

-- going back changes no number
pub number_kept : (s : MachineState) (caller : Psr) (v : Bool) (next : ℕ) → error_number s ≡ error_number (gone_back caller s v next)
number_kept s caller v next = ap (error_at s.store.bytes) (sym (zero_kept caller s.cpu v next))

-- the error block has its number
word_back : (n : ℕ) → n < 2 ^ 32 → n % 256 + 256 * (n / 256 % 256 + 256 * (n / 65536 % 256 + 256 * (n / 16777216 % 256))) ≡ n
word_back n fits = omega arith

block_number : (b : Bytes) (n : ℕ) (text : List ℕ) → b.mapped error_block_start ≡ true → n < 2 ^ 32 → error_at (memory_with_error b n text) error_block_start ≡ n
unfolding error_at word_loaded
block_number b n text mapped fits = rw mapped (word_back n fits)

short_code : (e : ErrorNumber) → error_code e < 2 ^ 32
short_code e = search rules

-- an error of the system, in any state where its block is mapped
pub block_read : (s : MachineState) (caller : Psr) (next : ℕ) (e : ErrorNumber) → s.store.bytes.mapped error_block_start ≡ true → length s.cpu.file ≡ 26
    → error_number (gone_back caller (with_error s (refusal.System e)) true next) ≡ error_code e
block_read s caller next e mapped size =
    sym (number_kept (with_error s (refusal.System e)) caller true next)
    ∙ ap (error_at (memory_with_error s.store.bytes (error_code e) (error_name e))) (zero_set s.cpu error_block_start size)
    ∙ block_number s.store.bytes (error_code e) (error_name e) mapped (short_code e)

pub system_number : (p : GuestState) (caller : Psr) (next : ℕ) (e : ErrorNumber) → IsWellFormed p → length p.cpu.file ≡ 26
    → error_number (gone_back caller (with_error (state_of p) (refusal.System e)) true next) ≡ error_code e
system_number p caller next e well size =
    block_read (state_of p) caller next e (system_mapped (store_of p.map) (free_pages p.map) p.tables.area_table well.areas error_block_start refl) size
