use Rattle.std.proofs.Common.{◌||◌, sym, ◌∙◌, ap, Bool}
use Rattle.dynamic_areas.specs.Memory.{anchor_of}
use Rattle.dynamic_areas.specs.Records.{anchor_among}
use Rattle.dynamic_areas.proofs.RangeTests.{meets_recorded}
use Rattle.rma.proofs.in_place.meets_any.Goals as goal

pub returns-then-meets_record : goal.returns-then-meets_record
returns-then-meets_record c =
    c.if-meets_record.true
    ∙ ap (λ (t : Bool). t || anchor_among (anchor_of c.args.map.now) c.args.at c.args.len) (sym c.if-meets_record.true ∙ c.meets_record.ensures)
    ∙ meets_recorded c.args.map.now c.args.at c.args.len

pub returns-else-meets_record : goal.returns-else-meets_record
returns-else-meets_record c =
    c.anchor_in.ensures
    ∙ ap (λ (t : Bool). t || anchor_among (anchor_of c.args.map.now) c.args.at c.args.len) (sym c.if-meets_record.false ∙ c.meets_record.ensures)
    ∙ meets_recorded c.args.map.now c.args.at c.args.len
