use Rattle.std.proofs.Common.{sym}
use Rattle.address_map.proofs.Lending.{page_fits, is_lent}
use Rattle.address_map.proofs.map.AddressMap.lend.Goals as goal

pub lend-requires : goal.lend-requires
lend-requires c = page_fits c.args.self.now c.args.addr c.in_ok-place.place c.args.len (sym c.in_ok-place.ensures) c.requires

pub returns : goal.returns
returns c = is_lent c.args.self.now c.args.addr c.in_ok-place.place c.args.len _ (sym c.in_ok-place.ensures) c.requires c.lend.ensures
