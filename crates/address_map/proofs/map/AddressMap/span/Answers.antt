use Rattle.std.proofs.Common.{◌≡◌, ◌+◌, ◌-◌, arith, refl}
use Rattle.address_map.proofs.Spans.{span_from}
use Rattle.address_map.proofs.map.AddressMap.span.Goals as goal

pub returns : goal.returns
returns c =
    let page = c.in_ok-page.ensures in
    let e : c.in_ok-page.page.addr + (c.args.addr - c.in_ok-page.page.addr) ≡ c.args.addr = omega arith in
    let part = span_from c.args.self.now c.in_ok-page.page.addr c.in_ok-page.page.place c.in_ok-page.page.len (c.args.addr - c.in_ok-page.page.addr) page.2 (omega arith) in
    (refl, rw e at part)
