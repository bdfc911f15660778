-- A register that was written is read with the value that it was given.
use Rattle.std.proofs.Common.{◌≡◌, ◌<◌, ◌-◌, ◌%◌, ◌^◌, ℕ, Bool, true, false, ◌&&◌, length, refl, ap, sym, subst, ◌∙◌, arith, get_or-set_same}
use Rattle.std.proofs.lemmas.Bool.{eqb-true, ltb-true}
use Rattle.std.proofs.lemmas.Bool.Decides.{nat_tests}
use Rattle.std.proofs.lemmas.Option.{none-some}
use Rattle.std.specs.Prelude.{Option, Some, None, ◌==◌, nat_lt, if◌then◌else◌}
use Rattle.arm_core.specs.declared.psr.Mode.{Mode}
use Rattle.arm_core.specs.declared.psr.Mode.TheVariants.{User, FastInterrupt, Interrupt, Supervisor}
use Rattle.arm_core.specs.State.{IsCore, State, register_in, register_of, slot_of, with_psr, with_register, with_register_in}
use Rattle.arm_core.proofs.Exchanging.{slot_below}
use Rattle.gdb_machine.specs.Changes.{bank_change, core_with_change, place_change, status_change, status_in}
use Rattle.gdb_machine.specs.Laws.{RegisterWritesAreRead}
use Rattle.gdb_machine.specs.Registers.{bank_shown, register_bank, register_shown, status_word}
use Rattle.gdb_machine.specs.declared.changes.RegisterWrite.{RegisterWrite}
use Rattle.gdb_machine.specs.declared.changes.RegisterWrite.TheVariants as change

set_is_read : (m : Mode) (s : State) (n value : ℕ) → length s.file ≡ 26 → n < 15
    → register_in m (with_register_in m s n value) n ≡ value
set_is_read m s n value size few =
    let inside : slot_of m n < length s.file = omega (arith, slot_below m n few) in
    get_or-set_same s.file (slot_of m n) value 0 inside

-- what a choice of two comes to
chosen : {A B : Type 0} (b : Bool) (x y : Option A) (z : A) → (if b then x else y) ≡ Some z → (b ≡ true → x ≡ Some z → B)
    → (b ≡ false → y ≡ Some z → B) → B
chosen true x y z h first second = first refl h
chosen false x y z h first second = second refl h

few_in_bank : (n : ℕ) (bank : Mode × ℕ) → register_bank n ≡ Some bank → bank.1 < 15
few_in_bank n bank is =
    chosen (nat_lt n 18) None _ bank is (λ a h. absurd (none-some bank h))
    (λ a h. chosen (nat_lt n 25) (Some (User, n - 10)) _ bank h
    (λ b k. let e : n - 10 ≡ bank.1 = cc in omega (arith, e, ltb-true n 25 b))
    (λ b k. chosen (nat_lt n 32) (Some (FastInterrupt, n - 17)) _ bank k
    (λ c l. let e : n - 17 ≡ bank.1 = cc in omega (arith, e, ltb-true n 32 c))
    (λ c l. chosen (nat_lt n 34) (Some (Interrupt, n - 19)) _ bank l
    (λ d m. let e : n - 19 ≡ bank.1 = cc in omega (arith, e, ltb-true n 34 d))
    (λ d m. chosen (nat_lt n 36) (Some (Supervisor, n - 21)) None bank m
    (λ f o. let e : n - 21 ≡ bank.1 = cc in omega (arith, e, ltb-true n 36 f))
    (λ f o. absurd (none-some bank o))))))

some_same : {A : Type 0} (x y : A) → Some x ≡ Some y → x ≡ y
some_same x y e = cc

-- a change that is known
changed_to : (s : State) (n value : ℕ) (made c : RegisterWrite) → Some made ≡ Some c
    → register_shown (core_with_change s made) n ≡ Some value → register_shown (core_with_change s c) n ≡ Some value
changed_to s n value made c is reads =
    subst (λ (w : RegisterWrite). register_shown (core_with_change s w) n ≡ Some value) (some_same made c is) reads

present_read : (s : State) (n value : ℕ) → IsCore s → nat_lt n 15 ≡ true → register_shown (with_register s n value) n ≡ Some value
present_read s n value core few =
    let below : n < 15 = ltb-true n 15 few in
    let other : (n == 15) ≡ false = grind (arith, nat_tests, below) in
    rw (few, other) (ap (λ (v : ℕ). Some v) (set_is_read s.psr.mode s n value core.size below))

place_read : (s : State) (n value : ℕ) → nat_lt n 15 ≡ false → (n == 15) ≡ true
    → register_shown (core_with_change s (change.Place value)) n ≡ Some value
place_read s n value past is = rw (past, is) refl

status_read : (s : State) (n value : ℕ) → nat_lt n 15 ≡ false → (n == 15) ≡ false → (n == 16) ≡ true
    → status_word (status_in value) ≡ value → register_shown (with_psr s (status_in value)) n ≡ Some value
status_read s n value past other is same = rw (past, other, is) (ap (λ (v : ℕ). Some v) same)

bank_read : (s : State) (n value : ℕ) (bank : Mode × ℕ) → IsCore s → nat_lt n 15 ≡ false → (n == 15) ≡ false → (n == 16) ≡ false
    → register_bank n ≡ Some bank → register_shown (with_register_in bank.0 s bank.1 value) n ≡ Some value
bank_read s n value bank core past other last is =
    rw (past, other, last) (by (n == 17) refl)
  where
    now : State
    now = with_register_in bank.0 s bank.1 value

    by : (b : Bool) → (n == 17) ≡ b → (if b then Some (register_of now 15) else bank_shown now (register_bank n)) ≡ Some value
    by true e =
        let seventeen : n ≡ 17 = eqb-true n 17 e in
        let none : register_bank n ≡ None = ap register_bank seventeen in
        absurd (none-some bank (sym none ∙ is))
    by false e = ap (bank_shown now) is
        ∙ ap (λ (v : ℕ). Some v) (set_is_read bank.0 s bank.1 value core.size (few_in_bank n bank is))

pub register_writes_are_read : RegisterWritesAreRead
register_writes_are_read s n value c core is =
    chosen (nat_lt n 15) (Some (change.Present n value)) _ c is
    (λ few h. changed_to s n value (change.Present n value) c h (present_read s n value core few))
    (λ past h. chosen (n == 15) (place_change value) _ c h
    (λ there k. chosen (value % 4 == 0 && nat_lt value (2 ^ 26)) (Some (change.Place value)) None c k
    (λ fits l. changed_to s n value (change.Place value) c l (place_read s n value past there))
    (λ fits l. absurd (none-some c l)))
    (λ other k. chosen (n == 16) (status_change value) _ c k
    (λ there l. chosen (status_word (status_in value) == value) (Some (change.Status (status_in value))) None c l
    (λ same m. changed_to s n value (change.Status (status_in value)) c m
    (status_read s n value past other there (eqb-true (status_word (status_in value)) value same)))
    (λ same m. absurd (none-some c m)))
    (λ last l. banked (register_bank n) refl l past other last)))
  where
    banked : (o : Option (Mode × ℕ)) → register_bank n ≡ o → bank_change o value ≡ Some c → nat_lt n 15 ≡ false → (n == 15) ≡ false
        → (n == 16) ≡ false → register_shown (core_with_change s c) n ≡ Some value
    banked None e l past other last = absurd (none-some c l)
    banked (Some bank) e l past other last =
        changed_to s n value (change.Banked bank.0 bank.1 value) c l (bank_read s n value bank core past other last e)
