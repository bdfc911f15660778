use Rattle.instances_table.specs.ErrorNumber.TheVariants.{BadPointer}
use Rattle.std.proofs.Common.{◌≡◌, true, sym, ◌∙◌}
use Rattle.rma.specs.Store.{store_of}
use Rattle.rma.specs.NewImages.{may_be_in_place}
use Rattle.rma.proofs.InPlaceLemmas.{may_be}
use Rattle.std.proofs.lemmas.Result.{err_from_is_err_and}
use Rattle.instances.proofs.AddingLemmas.{none_in_place}
use Rattle.instances.proofs.instances.Instances.insert_in_place.Goals as goal

pub header_at-requires : goal.header_at-requires
unfolding store_of
header_at-requires c =
    let may : may_be_in_place (store_of c.args.map.now) c.args.at c.args.len ≡ true = sym c.may_be_in_place.ensures ∙ c.if-not-may_be_in_place.false in
    (may_be (store_of c.args.map.now) c.args.at c.args.len may).mapped

pub returns-then-not-may_be_in_place-clause-kept : goal.returns-then-not-may_be_in_place-clause-kept
returns-then-not-may_be_in_place-clause-kept c = none_in_place c.args.map.now c.args.areas.now c.args.self.now BadPointer c.requires.state

pub returns-in_err-header-clause-kept : goal.returns-in_err-header-clause-kept
returns-in_err-header-clause-kept c =
    let p = err_from_is_err_and c.from_residual.result c.from_residual.ensures.1 in
    rw p.1 (none_in_place c.args.map.now c.args.areas.now c.args.self.now _ c.requires.state)
