use Rattle.std.proofs.Common.{arith, sym}
use Rattle.address_map.proofs.Spans.{page_span, place_offset}
use Rattle.address_map.proofs.map.AddressMap.page_at.Goals as goal

pub overflow_sub-result-2 : goal.overflow_sub-result-2
overflow_sub-result-2 c = place_offset c.args.self.now c.args.addr _ (sym c.in_ok-place.ensures)

pub returns : goal.returns
returns c = (omega arith, omega arith, page_span c.args.self.now c.args.addr _ (sym c.in_ok-place.ensures))
