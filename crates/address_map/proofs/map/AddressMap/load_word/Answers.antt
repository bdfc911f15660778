use Rattle.std.proofs.Common.{arith}
use Rattle.address_map.specs.Bytes.{word_start}
use Rattle.address_map.proofs.Loads.{place_fits_word, word_read, word_refused}
use Rattle.address_map.proofs.map.AddressMap.load_word.Goals as goal
use Rattle.std.proofs.lemmas.Result.{err_from_is_err_and}

pub returns-in_err-place : goal.returns-in_err-place
returns-in_err-place c = let p = err_from_is_err_and c.from_residual.result c.from_residual.ensures.1 in rw (p.1, p.2) (word_refused _ _ _ c.in_err-place.ensures)

pub read_word-requires : goal.read_word-requires
read_word-requires c = place_fits_word c.args.self.now (word_start c.args.addr) _ (omega arith) c.in_ok-place.ensures.1

pub returns : goal.returns
returns c = let h = c.in_ok-place.ensures in let e = c.read_word.ensures in rw e (word_read c.args.self.now c.args.addr _ h.0 h.1)
