use Rattle.std.proofs.Common.{◌≡◌, ◌&&◌, true, false, refl, sym, ◌∙◌}
use Rattle.os_heap_words.specs.Bytes.{in_range}
use Rattle.os_heap_words.specs.Memory.{bytes_of}
use Rattle.os_heap_words.specs.Records.{is_heap_kind}
use Rattle.os_heap.specs.Store.{heap_in}
use Rattle.os_heap.proofs.Found.{found_at, found_heap_kind}
use Rattle.os_heap.proofs.heaps.Heaps.live_payload_in.Goals as goal

pub payload_at-requires : goal.payload_at-requires
payload_at-requires c =
    found_at c.args.map.now c.args.heap c.in-Some.region c.requires c.in-Some.ensures.0 c.in-Some.ensures.1

pub returns-else-is_round : goal.returns-else-is_round
returns-else-is_round c =
    let m = c.args.map.now in
    let r = c.in-Some.region in
    let heap : is_heap_kind r.kind ≡ true = found_heap_kind m c.args.heap (heap_in (bytes_of m) r) c.in-Some.ensures.1 in
    let not_round : (is_heap_kind r.kind && in_range r.at r.len c.args.address) ≡ false = sym c.is_round.ensures ∙ c.if-is_round.false in
    let out : in_range r.at r.len c.args.address ≡ false = rw heap at not_round in
    rw (c.in-Some.ensures.1, out) refl
