use Rattle.std.proofs.Common.{◌∙◌, arith, sym}
use Rattle.raw_store.specs.declared.fault.Fault.TheVariants.{DataUnmapped}
use Rattle.address_map.specs.Bytes.{word_start}
use Rattle.address_map.specs.Memory.{bytes_of}
use Rattle.address_map.proofs.Loads.{fetch_clear, fetch_refused, place_fits_word, word_read, word_refused}
use Rattle.address_map.proofs.map.AddressMap.fetch_word.Goals as goal

pub read_word-requires : goal.read_word-requires
read_word-requires c = place_fits_word c.args.self.now (word_start c.args.addr) _ (omega arith) (sym c.place_of.ensures ∙ c.in-Some.is)

pub returns-in-Some : goal.returns-in-Some
returns-in-Some c =
    let there = sym c.place_of.ensures ∙ c.in-Some.is in
    rw c.read_word.ensures
    (word_read c.args.self.now c.args.addr _ (fetch_clear c.args.self.now (word_start c.args.addr) _ (omega (arith, c.requires)) there) there)

pub returns-in-None : goal.returns-in-None
returns-in-None c =
    word_refused (bytes_of c.args.self.now) c.args.addr DataUnmapped
    (fetch_refused c.args.self.now (word_start c.args.addr) (omega (arith, c.requires)) (sym c.place_of.ensures ∙ c.in-None.is))
