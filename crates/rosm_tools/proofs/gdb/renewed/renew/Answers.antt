use Rattle.std.proofs.Common.{sym, ◌∙◌}
use Rattle.rosm_tools.proofs.GdbLemmas.RenewedLemmas.{not_renewed, renewed_there}
use Rattle.rosm_tools.proofs.gdb.renewed.renew.Goals as goal

pub returns-then-is_run_ahead : goal.returns-then-is_run_ahead
returns-then-is_run_ahead g c =
    renewed_there _ _ _ _ (sym (c.is_run_ahead.ensures c.args.images.now) ∙ c.if-is_run_ahead.true) c.give_files.ensures

pub returns-else-is_run_ahead : goal.returns-else-is_run_ahead
returns-else-is_run_ahead g c =
    not_renewed _ _ _ (sym (c.is_run_ahead.ensures c.args.images.now) ∙ c.if-is_run_ahead.false)
