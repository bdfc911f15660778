-- The register file of a core, in which the registers of the present mode have changed places with those of user mode.
use Rattle.std.proofs.Common.{ℕ, ◌≡◌, ◌<◌, ◌*◌, ◌/◌, ◌%◌, ◌^◌, sym, ap, arith}
use Rattle.std.proofs.lemmas.Bool.Decides.{nat_tests}
use Rattle.arm_core.specs.declared.psr.Mode.{Mode}
use Rattle.arm_core.specs.declared.psr.Mode.TheVariants.{User, FastInterrupt, Interrupt, Supervisor}
use Rattle.arm_core.specs.Banks.{exchanged_place}
use Rattle.arm_core.specs.State.{State, slot_of, with_pc, with_mode}

pub slot_below : (m : Mode) (n : ℕ) → n < 15 → slot_of m n < 26
slot_below User n h = omega (arith, h)
slot_below FastInterrupt n h = grind (arith, nat_tests)
slot_below Interrupt n h = grind (arith, nat_tests)
slot_below Supervisor n h = grind (arith, nat_tests)

-- the registers of the present mode stand in the first places
pub present_place : (m : Mode) (n : ℕ) → n < 15 → exchanged_place m (slot_of m n) ≡ n
present_place User n h = grind (arith, nat_tests)
present_place FastInterrupt n h = grind (arith, nat_tests)
present_place Interrupt n h = grind (arith, nat_tests)
present_place Supervisor n h = grind (arith, nat_tests)

-- status and counter
pub counter : (s : State) (a : ℕ) → (let t : State = record s { pc = 4 * (a % 2 ^ 26 / 4) } in t ≡ with_pc s a)
counter s a = let e : 4 * (a % 2 ^ 26 / 4) ≡ a / 4 % 2 ^ 24 * 4 = omega arith in ap (λ (p : ℕ). let t : State = record s { pc = p } in t) e

pub same_mode : (s : State) (m : Mode) → m ≡ s.psr.mode → s ≡ with_mode s m
same_mode s m e = ap (with_mode s) (sym e)
