use Rattle.std.proofs.Common.{ℕ, List, ◌∙◌, refl, ap}
use Rattle.raw_store.specs.Region.{bytes_after_write}
use Rattle.address_map.specs.Memory.{byte_at, place}
use Rattle.address_map.proofs.Copying.{bytes_alike, whole_range}
use Rattle.address_map.proofs.Marking.{copied_marks}
use Rattle.address_map.proofs.map.AddressMap.copy_from.Goals as goal

pub returns-clause-bytes : goal.returns-clause-bytes
unfolding byte_at place
returns-clause-bytes c =
    let same = whole_range c.args.other.now.store.items c.lend-bytes.result.now c.len.result c.lend-bytes.ensures c.len.ensures in
    λ i a. bytes_alike c.args.other.now _ c.args.self.now.store.items c.lend-bytes.result.now _ _ (c.write.ensures.bytes ∙ ap (λ (xs : List ℕ). bytes_after_write xs 0 c.lend-bytes.result.now) c.grow.ensures.bytes) refl same
    c.copy_from-2.ensures a i

pub returns-clause-marks : goal.returns-clause-marks
returns-clause-marks c = copied_marks c.args.other.now _ c.copy_from-2.ensures c.copy_from.ensures
