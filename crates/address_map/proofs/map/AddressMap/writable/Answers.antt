use Rattle.std.proofs.Common.{◌≡◌, ◌/◌, true, false, arith}
use Rattle.address_map.specs.Marks.{class_at}
use Rattle.address_map.specs.Memory.{is_plain}
use Rattle.address_map.proofs.Loads.{place_fits}
use Rattle.address_map.proofs.Words.{store_by_class}
use Rattle.address_map.proofs.map.AddressMap.writable.Goals as goal

pub is_plain-requires : goal.is_plain-requires
is_plain-requires c = let m = c.args.self.now in omega (arith, place_fits m c.args.addr _ c.in_ok-place.ensures.1, m.marks_fit)

pub returns-then-not-is_plain : goal.returns-then-not-is_plain
returns-then-not-is_plain c =
    let e = store_by_class c.args.self.now c.args.addr c.in_ok-place.place c.in_ok-place.ensures.0 c.in_ok-place.ensures.1 in
    let owned : is_plain (class_at c.args.self.now.marks (c.in_ok-place.place / 4)) ≡ false = cc in
    rw owned at e

pub returns : goal.returns
returns c =
    let e = store_by_class c.args.self.now c.args.addr c.in_ok-place.place c.in_ok-place.ensures.0 c.in_ok-place.ensures.1 in
    let plain : is_plain (class_at c.args.self.now.marks (c.in_ok-place.place / 4)) ≡ true = cc in
    (rw plain at e, c.in_ok-place.ensures.1)
