use Rattle.instances_table.specs.ErrorNumber.TheVariants.{BadPointer}
use Rattle.std.proofs.Common.{sym, ◌∙◌}
use Rattle.rma.specs.Store.{store_of}
use Rattle.rma.specs.Ground.{area_store_of}
use Rattle.std.proofs.lemmas.Result.{err_from_is_err_and}
use Rattle.instances.proofs.AddingLemmas.{copied_mapped, none_in_block}
use Rattle.instances.proofs.instances.Instances.insert_copy.Goals as goal

pub header_at-requires : goal.header_at-requires
unfolding store_of
header_at-requires c =
    copied_mapped (area_store_of c.args.map.now c.args.areas.now) c.args.at c.args.len (sym c.may_be_copied.ensures ∙ c.if-not-may_be_copied.false)

pub returns-then-not-may_be_copied-clause-kept : goal.returns-then-not-may_be_copied-clause-kept
returns-then-not-may_be_copied-clause-kept c = none_in_block c.args.map.now c.args.areas.now c.args.self.now BadPointer c.requires.state

pub returns-in_err-header-clause-kept : goal.returns-in_err-header-clause-kept
returns-in_err-header-clause-kept c =
    let p = err_from_is_err_and c.from_residual.result c.from_residual.ensures.1 in
    rw p.1 (none_in_block c.args.map.now c.args.areas.now c.args.self.now _ c.requires.state)
