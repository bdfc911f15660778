use Rattle.address_map.proofs.Loads.{place_fits, byte_read, byte_refused}
use Rattle.address_map.proofs.map.AddressMap.load_byte.Goals as goal
use Rattle.std.proofs.lemmas.Result.{err_from_is_err_and}

pub returns-in_err-place : goal.returns-in_err-place
returns-in_err-place c = let p = err_from_is_err_and c.from_residual.result c.from_residual.ensures.1 in rw (p.1, p.2) (byte_refused _ _ _ c.in_err-place.ensures)

pub read_byte-requires : goal.read_byte-requires
read_byte-requires c = place_fits c.args.self.now c.args.addr _ c.in_ok-place.ensures.1

pub returns : goal.returns
returns c = let h = c.in_ok-place.ensures in let e = c.read_byte.ensures in rw e (byte_read c.args.self.now c.args.addr _ h.0 h.1)
