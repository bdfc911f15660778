use Rattle.std.proofs.Common.{arith, sym}
use Rattle.address_map.proofs.Loads.{place_below}
use Rattle.address_map.proofs.Lending.{page_fits, marks_within, plain_words}
use Rattle.address_map.proofs.map.AddressMap.owns_any.Goals as goal

pub overflow_add-end : goal.overflow_add-end
overflow_add-end c = omega (arith, page_fits c.args.self.now c.args.addr c.args.at 0 c.requires.there (omega arith), c.args.self.now.in_limit, c.args.self.now.frames_fit)

pub overflow_add-end-2 : goal.overflow_add-end-2
overflow_add-end-2 c = omega (arith, page_fits c.args.self.now c.args.addr c.args.at 0 c.requires.there (omega arith), c.args.self.now.in_limit, c.args.self.now.frames_fit)

pub are_plain-requires : goal.are_plain-requires
are_plain-requires c = marks_within c.args.self.now c.args.addr c.args.at c.args.count c.requires.page c.requires.there

pub returns-then-are_plain : goal.returns-then-are_plain
returns-then-are_plain c =
    sym (plain_words c.args.self.now c.args.addr c.args.at c.args.count c.requires.aligned c.requires.page c.requires.there (c.are_plain.ensures c.if-are_plain.true))

pub owns_one_of-requires : goal.owns_one_of-requires
owns_one_of-requires c = omega (arith, place_below c.args.self.now c.args.addr c.args.at c.requires.there)
