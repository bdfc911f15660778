use Rattle.std.proofs.Common.{sym, subst, take}
use Rattle.std.proofs.lemmas.List.Elements.{All-take}
use Rattle.std.specs.List.{All}
use Rattle.address_map.proofs.Following.{recorded_after}
use Rattle.address_map.specs.Records.{IsRegion}
use Rattle.address_map.proofs.map.AddressMap.follow.Goals as goal

pub invariant_of-self-clause-recorded : goal.invariant_of-self-clause-recorded
invariant_of-self-clause-recorded c =
    let now = c.args.self.now in
    subst (All IsRegion) (sym c.loop-region.invariant)
    (recorded_after c.args.moves.now (take c.loop-region.region-index now.regions.items) c.requires (All-take IsRegion c.loop-region.region-index now.regions.items now.recorded))
