-- How the registers' text goes on.
use Rattle.std.proofs.Common.{◌≡◌, ◌<◌, ◌+◌, ◌-◌, ℕ, suc, List, [], ◌++◌, append_assoc, refl, ap, sym, ◌∙◌, arith}
use Rattle.std.proofs.lemmas.List.{append-nil}
use Rattle.arm_core.specs.State.{State}
use Rattle.gdb_machine.specs.Registers.{register_reply, registers_text}

one_more : (s : State) (n left : ℕ) → registers_text s n (suc left) ≡ register_reply s n ++ registers_text s (n + 1) left
unfolding registers_text
one_more s n left = refl

next_register : (s : State) (n left : ℕ) → 0 < left
    → registers_text s n left ≡ register_reply s n ++ registers_text s (n + 1) (left - 1)
next_register s n left some =
    let split : left ≡ suc (left - 1) = omega arith in
    ap (registers_text s n) split ∙ one_more s n (left - 1)

-- what stands, and the registers that are left, is all
pub register_more : (s : State) (n left : ℕ) (done all : List ℕ) → 0 < left → done ++ registers_text s n left ≡ all
    → (done ++ register_reply s n) ++ registers_text s (n + 1) (left - 1) ≡ all
register_more s n left done all some so =
    append_assoc done (register_reply s n) (registers_text s (n + 1) (left - 1))
    ∙ ap (λ (xs : List ℕ). done ++ xs) (sym (next_register s n left some)) ∙ so

no_registers : (s : State) (n left : ℕ) → left ≡ 0 → registers_text s n left ≡ []
unfolding registers_text
no_registers s n left e = rw e refl

pub register_end : (s : State) (n left : ℕ) (done all : List ℕ) → left ≡ 0 → done ++ registers_text s n left ≡ all
    → done ≡ all
register_end s n left done all none so =
    sym (append-nil done) ∙ ap (λ (xs : List ℕ). done ++ xs) (sym (no_registers s n left none)) ∙ so

pub ruleset register_steps = (register_more, register_end)
