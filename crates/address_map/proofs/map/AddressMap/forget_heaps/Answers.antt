use Rattle.std.proofs.Common.{not, sym, subst, take}
use Rattle.std.proofs.lemmas.List.Elements.{All-filter, All-take}
use Rattle.std.specs.List.{All}
use Rattle.address_map.specs.Records.{IsRegion, starts_heap}
use Rattle.address_map.proofs.map.AddressMap.forget_heaps.Goals as goal

pub invariant_of-self-clause-recorded : goal.invariant_of-self-clause-recorded
invariant_of-self-clause-recorded c =
    let now = c.args.self.now in
    let i = c.loop-region.region-index in
    subst (All IsRegion) (sym c.loop-region.invariant.left)
    (All-filter (λ r. not (starts_heap c.args.at c.args.len r)) IsRegion (take i now.regions.items) (All-take IsRegion i now.regions.items now.recorded))
