use Rattle.std.proofs.Common.{◌<◌, ◌+◌, ℕ, List, ap, drop, length, sym, ◌∙◌, arith}
use Rattle.command_shell.specs.Memory.{script_with_bank_register}
use Rattle.command_shell.specs.Session.{script_state}
use Rattle.debug_tables.specs.Stubs.{script_with_settings}
use Rattle.debug_tables.specs.declared.stub_deeds.BankSetting.{BankSetting}
use Rattle.debug_tables.proofs.StubLemmas.{next_set}
use Rattle.debug_tables.proofs.stubbing.set_registers.Goals as goal

pub loop-set-preserved : goal.loop-set-preserved
loop-set-preserved c images =
    let i : ℕ = c.loop-set.set-index in
    let xs : List BankSetting = c.args.settings.now in
    let x : BankSetting = c.set-item.result in
    let old = script_state c.loop-set.session images in
    let within : i < length xs = omega arith in
    let set = c.set_register_in.ensures images
    ∙ ap (λ (n : ℕ). script_with_bank_register old x.mode n x.value) c.number.ensures.value in
    ap (script_with_settings (drop (i + 1) xs)) set ∙ sym (next_set xs i x old within c.set-item.is) ∙ c.loop-set.invariant images
