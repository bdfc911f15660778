use Rattle.dynamic_areas.specs.Ranges.{are_bytes_mapped}
use Rattle.dynamic_areas.specs.Store.{store_of}
use Rattle.dynamic_areas.proofs.RangeTests.{are_mapped_all, are_mapped_from, same_tests}
use Rattle.dynamic_areas.specs.Memory.{is_mapped}
use Rattle.rma.proofs.in_place.are_mapped.Goals as goal

pub returns : goal.returns
unfolding store_of
returns c =
    same_tests c.maps.result (are_bytes_mapped (is_mapped c.args.map.now) c.args.at c.args.len)
    (λ e. are_mapped_from (is_mapped c.args.map.now) c.args.at c.args.len (c.maps.ensures.0 e))
    (λ e. c.maps.ensures.1 (are_mapped_all (is_mapped c.args.map.now) c.args.at c.args.len e))
