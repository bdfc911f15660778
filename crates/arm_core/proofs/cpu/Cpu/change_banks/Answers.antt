use Rattle.std.proofs.Common.{◌*◌, ◌∙◌, ℕ, List, ap, length}
use Rattle.arm_core.specs.register_file.Exchanging.{size}
use Rattle.arm_core.specs.Banks.{exchanged_file, first_own, own_ahead, file_comes_back}
use Rattle.arm_core.specs.State.{State, with_mode}
use Rattle.arm_core.proofs.cpu.Cpu.change_banks.Goals as goal

pub invariant_of-self : goal.invariant_of-self
invariant_of-self c =
    let m = c.args.mode in
    (c.self.invariant.0, ap length c.exchange_bank-2.ensures ∙ size (first_own m) (own_ahead m) c.exchange_bank.new.file)

pub returns : goal.returns
returns c =
    let m = c.args.mode in
    let present = c.self.inside.psr.mode in
    let file : List ℕ = c.self.inside.file in
    let with_file : List ℕ → State = λ (xs : List ℕ). record { file = xs; psr = record c.self.inside.psr { mode = m }; pc = 4 * c.self.inside.at } in
    ap (λ (xs : List ℕ). with_file (exchanged_file m xs)) (c.exchange_bank-2.ensures ∙ ap (exchanged_file m) c.exchange_bank.ensures)
    ∙ ap with_file (file_comes_back m (exchanged_file present file) (size (first_own present) (own_ahead present) file))
    ∙ ap (λ (s : State). with_mode s m) c.self.view_is
