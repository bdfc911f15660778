-- What OS_Heap does to the core and to memory is what the call on the heap comes to, whatever heap
-- that is.
use Rattle.std.proofs.Common.{ℕ, ◌≡◌, ◌∙◌, Bool, Some, Result, Ok, Err, length, refl, arith, get_or-set_other, get_or-set_same}
use Rattle.profile.specs.Outcome.{bind}
use Rattle.profile.specs.ErrorNumber.{ErrorNumber}
use Rattle.profile.specs.declared.reason.HeapReason.{HeapReason}
use Rattle.profile.specs.declared.reason.HeapReason.TheVariants as reason
use Rattle.arm_core.specs.declared.psr.Mode.{Mode}
use Rattle.arm_core.specs.declared.psr.Mode.TheVariants.{User, FastInterrupt, Interrupt, Supervisor}
use Rattle.arm_core.specs.declared.psr.Psr.{Psr}
use Rattle.std.proofs.lemmas.List.{length-set}
use Rattle.arm_core.specs.State.{State, register_of, slot_of, with_register}
use Rattle.os_heap.specs.Calls.{store_after_init, block_sized, store_after_change, heap_description, gave_back, store_after_get, store_after_resize}
use Rattle.os_heap.specs.Store.{Store}
use Rattle.swi_dispatch_guest.specs.Refusals.{or_error}
use Rattle.swi_dispatch_guest.specs.SwiDispatchAnswersReturns.{return_word, state_after_return}
use Rattle.swi_dispatch_guest.specs.Refusal.{Refusal}
use Rattle.swi_dispatch_guest.specs.Refusal.TheVariants as refusal
use Rattle.swi_dispatch_guest.specs.Heaps.{heap_called_for}
use Rattle.law_machine.specs.heap_calls.Turns.{call_on}

-- R2 and R3 are the same registers in all modes, and so are those of a call that goes back
slot_two : (m : Mode) → slot_of m 2 ≡ 2
slot_two User = refl
slot_two FastInterrupt = refl
slot_two Interrupt = refl
slot_two Supervisor = refl

slot_three : (m : Mode) → slot_of m 3 ≡ 3
slot_three User = refl
slot_three FastInterrupt = refl
slot_three Interrupt = refl
slot_three Supervisor = refl

two_set : (cpu : State) (v : ℕ) → length cpu.file ≡ 26 → register_of (with_register cpu 2 v) 2 ≡ v
two_set cpu v size = let at : slot_of cpu.psr.mode 2 ≡ 2 = slot_two cpu.psr.mode in
    get_or-set_same cpu.file (slot_of cpu.psr.mode 2) v 0 (omega (arith, at, size))

three_set : (cpu : State) (v : ℕ) → length cpu.file ≡ 26 → register_of (with_register cpu 3 v) 3 ≡ v
three_set cpu v size = let at : slot_of cpu.psr.mode 3 ≡ 3 = slot_three cpu.psr.mode in
    get_or-set_same cpu.file (slot_of cpu.psr.mode 3) v 0 (omega (arith, at, size))

pub set_length : (cpu : State) (n v : ℕ) → length cpu.file ≡ 26 → length (with_register cpu n v).file ≡ 26
set_length cpu n v size = length-set cpu.file (slot_of cpu.psr.mode n) v ∙ size

two_beside : (cpu : State) (v : ℕ) → register_of (with_register cpu 3 v) 2 ≡ register_of cpu 2
two_beside cpu v =
    let two : slot_of cpu.psr.mode 2 ≡ 2 = slot_two cpu.psr.mode in
    let three : slot_of cpu.psr.mode 3 ≡ 3 = slot_three cpu.psr.mode in
    get_or-set_other cpu.file (slot_of cpu.psr.mode 3) (slot_of cpu.psr.mode 2) v 0 (λ same. absurd (omega (arith, two, three, same)))

three_beside : (cpu : State) (v : ℕ) → register_of (with_register cpu 2 v) 3 ≡ register_of cpu 3
three_beside cpu v =
    let two : slot_of cpu.psr.mode 2 ≡ 2 = slot_two cpu.psr.mode in
    let three : slot_of cpu.psr.mode 3 ≡ 3 = slot_three cpu.psr.mode in
    get_or-set_other cpu.file (slot_of cpu.psr.mode 2) (slot_of cpu.psr.mode 3) v 0 (λ same. absurd (omega (arith, two, three, same)))

pub two_back : (caller : Psr) (cpu : State) (v : Bool) (next : ℕ) → register_of (state_after_return caller cpu v next) 2 ≡ register_of cpu 2
unfolding state_after_return
two_back caller cpu v next =
    let two : slot_of cpu.psr.mode 2 ≡ 2 = slot_two cpu.psr.mode in
    get_or-set_other cpu.file 25 (slot_of cpu.psr.mode 2) (return_word caller next) 0 (λ same. absurd (omega (arith, two, same)))

pub three_back : (caller : Psr) (cpu : State) (v : Bool) (next : ℕ) → register_of (state_after_return caller cpu v next) 3 ≡ register_of cpu 3
unfolding state_after_return
three_back caller cpu v next =
    let three : slot_of cpu.psr.mode 3 ≡ 3 = slot_three cpu.psr.mode in
    get_or-set_other cpu.file 25 (slot_of cpu.psr.mode 3) (return_word caller next) 0 (λ same. absurd (omega (arith, three, same)))

pub overflow_back : (caller : Psr) (cpu : State) (v : Bool) (next : ℕ) → (state_after_return caller cpu v next).psr.overflow ≡ v
unfolding state_after_return
overflow_back caller cpu v next = refl

-- the call, and what the core is shown of it
abbrev pub Agree : Result (State × Store) Refusal → Result (Store × (ℕ × ℕ)) ErrorNumber → Type 0
Agree (Ok q) (Ok r) = (q.1 ≡ r.0) × ((register_of q.0 2 ≡ r.1.0) × (register_of q.0 3 ≡ r.1.1))
Agree (Err e) (Err number) = e ≡ refusal.System number
Agree q r = ⊥

module _ (cpu : State) (size : length cpu.file ≡ 26) where
  agree_shown : (A : Type 0) (k : A → Store × State) (l : A → Store × (ℕ × ℕ)) (r : Result A ErrorNumber)
      → ((x : A) → ((k x).0 ≡ (l x).0) × ((register_of (k x).1 2 ≡ (l x).1.0) × (register_of (k x).1 3 ≡ (l x).1.1)))
      → Agree (bind (or_error r) (λ x. Ok ((k x).1, (k x).0))) (bind r (λ x. Ok (l x)))
  agree_shown A k l (Ok x) same = same x
  agree_shown A k l (Err e) same = refl

  pub heap_agrees : (s : Store) (why : HeapReason)
      → Agree (heap_called_for cpu s (Some why)) (call_on s (register_of cpu 1) why (register_of cpu 2) (register_of cpu 3))
  heap_agrees s reason.Initialise =
      agree_shown (Store × Unit {0}) (λ r. (r.0, cpu)) (λ r. (r.0, (register_of cpu 2, register_of cpu 3))) (store_after_init s (register_of cpu 1) (register_of cpu 3))
      (λ x. (refl, (refl, refl)))
  heap_agrees s reason.Describe =
      agree_shown (ℕ × ℕ) (λ r. (s, with_register (with_register cpu 2 r.0) 3 r.1)) (λ r. (s, r)) (heap_description s (register_of cpu 1))
      (λ x. (refl, (two_beside (with_register cpu 2 x.0) x.1 ∙ two_set cpu x.0 size, three_set (with_register cpu 2 x.0) x.1 (set_length cpu 2 x.0 size))))
  heap_agrees s reason.Get =
      agree_shown (Store × ℕ) (λ r. (r.0, with_register cpu 2 r.1)) (λ r. (r.0, (r.1, register_of cpu 3))) (store_after_get s (register_of cpu 1) (register_of cpu 3))
      (λ x. (refl, (two_set cpu x.1 size, three_beside cpu x.1)))
  heap_agrees s reason.Free =
      agree_shown (Store × Unit {0}) (λ r. (r.0, cpu)) (λ r. (r.0, (register_of cpu 2, register_of cpu 3))) (gave_back s (register_of cpu 1) (register_of cpu 2))
      (λ x. (refl, (refl, refl)))
  heap_agrees s reason.Resize =
      agree_shown (Store × ℕ) (λ r. (r.0, with_register cpu 2 r.1)) (λ r. (r.0, (r.1, register_of cpu 3)))
      (store_after_resize s (register_of cpu 1) (register_of cpu 2) (register_of cpu 3)) (λ x. (refl, (two_set cpu x.1 size, three_beside cpu x.1)))
  heap_agrees s reason.ChangeSize =
      agree_shown (Store × Unit {0}) (λ r. (r.0, cpu)) (λ r. (r.0, (register_of cpu 2, register_of cpu 3))) (store_after_change s (register_of cpu 1) (register_of cpu 3))
      (λ x. (refl, (refl, refl)))
  heap_agrees s reason.BlockSize =
      agree_shown ℕ (λ n. (s, with_register cpu 3 n)) (λ n. (s, (register_of cpu 2, n))) (block_sized s (register_of cpu 1) (register_of cpu 2))
      (λ x. (refl, (two_beside cpu x, three_set cpu x size)))
