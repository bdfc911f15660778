use Rattle.std.proofs.Common.{◌∙◌, sym}
use Rattle.address_map.proofs.Loads.{place_fits}
use Rattle.address_map.proofs.Words.{class_found, class_none}
use Rattle.address_map.proofs.map.AddressMap.class.Goals as goal

pub class_at-requires : goal.class_at-requires
class_at-requires c = place_fits c.args.self.now c.args.addr _ (sym c.in-Some.ensures)

pub returns-in-Some : goal.returns-in-Some
returns-in-Some c = c.class_at.ensures ∙ sym (class_found c.args.self.now c.args.addr _ (sym c.in-Some.ensures))

pub returns-in-None : goal.returns-in-None
returns-in-None c = sym (class_none c.args.self.now c.args.addr (sym c.in-None.ensures))
