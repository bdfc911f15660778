use Rattle.std.proofs.Common.{arith, ap, sym, ◌∙◌, refl, ◌-◌, ◌&&◌, not, Bool}
use Rattle.os_heap.specs.Records.{meets_record}
use Rattle.os_heap.specs.Memory.{regions}
use Rattle.flex_store.proofs.Starting.{range_tested}
use Rattle.flex_store.proofs.flex.is_flex_range.Goals as goal

pub returns : goal.returns
returns c =
    ap (λ (t : Bool). t && not c.meets_record.result) (sym c.if-not-maps.false)
    ∙ range_tested c.args.map.now c.args.start c.args.end c.maps.result c.meets_record.result (omega arith) (omega arith) (omega arith) c.maps.ensures c.meets_record.ensures

pub returns-then-not-maps : goal.returns-then-not-maps
returns-then-not-maps c =
    let met : Bool = meets_record (regions c.args.map.now) c.args.start (c.args.end - c.args.start) in
    sym (ap (λ (t : Bool). t && not met) c.if-not-maps.true)
    ∙ range_tested c.args.map.now c.args.start c.args.end c.maps.result met (omega arith) (omega arith) (omega arith) c.maps.ensures refl
