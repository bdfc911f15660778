-- How registers get their old words, one by one.
use Rattle.std.proofs.Common.{◌≡◌, ℕ, suc, ◌+◌, ◌-◌, ◌<◌, ◌≤◌, List, slice_index, ap, arith}
use Rattle.arm_core.specs.declared.psr.Mode.TheVariants.{User}
use Rattle.arm_core.specs.State.{State, with_register_in}
use Rattle.swi_dispatch_answers.specs.frames.Leaving.{state_with_saved_words}

pub one_restored : (n : ℕ) (saved : List ℕ) (cpu : State) → n < 13
    → state_with_saved_words n (13 - n) saved cpu ≡ state_with_saved_words (n + 1) (13 - (n + 1)) saved (with_register_in User cpu n (slice_index saved n))
one_restored n saved cpu inside =
    let more : 13 - n ≡ suc (13 - (n + 1)) = omega arith in
    ap (λ count. state_with_saved_words n count saved cpu) more

pub all_restored : (n : ℕ) (saved : List ℕ) (cpu : State) → 13 ≤ n → state_with_saved_words n (13 - n) saved cpu ≡ cpu
all_restored n saved cpu past =
    let none : 13 - n ≡ 0 = omega arith in
    ap (λ count. state_with_saved_words n count saved cpu) none

pub ruleset restoring = (one_restored, all_restored)
