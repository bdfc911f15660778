use Rattle.std.proofs.Common.{sym, ◌∙◌, arith}
use Rattle.dynamic_areas.specs.Ground.{AreaStore, area_store_of}
use Rattle.rma.proofs.CopyLemmas.{IsPart, none_met, shown_inside, shown_other}
use Rattle.rma.proofs.copies.has_bare.Goals as goal

pub returns-then-from-to : goal.returns-then-from-to
returns-then-from-to c =
    let e : AreaStore = area_store_of c.args.map.now c.args.areas.now in
    let part : IsPart e c.args.at c.args.len c.max-first.result c.min-to.result = record { first = omega arith; end = omega arith } in
    sym (none_met e c.args.at c.args.len c.max-first.result c.min-to.result part (omega arith))

pub returns-in-Inside : goal.returns-in-Inside
returns-in-Inside c =
    let e : AreaStore = area_store_of c.args.map.now c.args.areas.now in
    let part : IsPart e c.args.at c.args.len c.max-first.result c.min-to.result = record { first = omega arith; end = omega arith } in
    rw (c.from-in-Inside.ensures, c.from-in-Inside-2.ensures)
    (shown_inside e c.args.at c.args.len c.max-first.result c.min-to.result c.in-Inside.block c.in-Inside.held c.requires part (omega arith)
    (sym c.live_payload_in.ensures ∙ c.in-Inside.is))

pub returns-in_default : goal.returns-in_default
returns-in_default c =
    let e : AreaStore = area_store_of c.args.map.now c.args.areas.now in
    let part : IsPart e c.args.at c.args.len c.max-first.result c.min-to.result = record { first = omega arith; end = omega arith } in
    sym (shown_other e c.args.at c.args.len c.max-first.result c.min-to.result c.requires part (omega arith)
    (λ block held is. c.in_default.not-Inside block held (c.live_payload_in.ensures ∙ is)))
