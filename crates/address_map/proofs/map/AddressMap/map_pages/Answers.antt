use Rattle.address_map.proofs.Words.{is_owned-same}
use Rattle.address_map.proofs.map.AddressMap.map_pages.Goals as goal

pub returns-clause-marks : goal.returns-clause-marks
returns-clause-marks c = λ i a. c.loop-done.invariant.marks a i

pub returns-clause-owned : goal.returns-clause-owned
returns-clause-owned c = is_owned-same c.args.self.now c.loop-done.self (returns-clause-marks c)
