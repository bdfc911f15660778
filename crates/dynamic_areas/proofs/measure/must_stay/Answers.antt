use Rattle.std.proofs.Common.{Bool, true, false, ◌≡◌, ◌∙◌, ◌||◌, ap, rules}
use Rattle.std.proofs.lemmas.Bool.{ne_eqb}
use Rattle.os_heap.specs.Memory.{anchor_of}
use Rattle.os_heap.specs.Records.{anchor_among}
use Rattle.os_heap.specs.Ranges.{meets_any}
use Rattle.os_heap.specs.Store.{store_of}
use Rattle.os_heap.proofs.RangeTests.{meets_recorded}
use Rattle.dynamic_areas.specs.Changing.{must_stay}
use Rattle.dynamic_areas.proofs.measure.must_stay.Goals as goal

pub returns-then-meets_record : goal.returns-then-meets_record
unfolding must_stay
returns-then-meets_record c =
    let m = c.args.map.now in
    let yes : c.meets_record.result ≡ true = cc in
    let all : (c.meets_record.result || anchor_among (anchor_of m) c.args.page 4096) ≡ meets_any c.args.page 4096 (store_of m) =
    ap (λ (t : Bool). t || anchor_among (anchor_of m) c.args.page 4096) c.meets_record.ensures ∙ meets_recorded m c.args.page 4096 in
    rw (ne_eqb c.args.number 1 c.if-number-eq-MODULE_AREA.false) (yes ∙ (rw yes at all))

pub returns-else-meets_record : goal.returns-else-meets_record
unfolding must_stay
returns-else-meets_record c =
    let m = c.args.map.now in
    let no : c.meets_record.result ≡ false = cc in
    let all : (c.meets_record.result || anchor_among (anchor_of m) c.args.page 4096) ≡ meets_any c.args.page 4096 (store_of m) =
    ap (λ (t : Bool). t || anchor_among (anchor_of m) c.args.page 4096) c.meets_record.ensures ∙ meets_recorded m c.args.page 4096 in
    rw (ne_eqb c.args.number 1 c.if-number-eq-MODULE_AREA.false) (c.anchor_in.ensures ∙ (rw no at all))

pub returns-then-number-eq-MODULE_AREA : goal.returns-then-number-eq-MODULE_AREA
unfolding must_stay
returns-then-number-eq-MODULE_AREA c = search rules
