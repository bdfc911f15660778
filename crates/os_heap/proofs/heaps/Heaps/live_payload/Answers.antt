use Rattle.std.proofs.Common.{List, ◌≡◌, ◌∷◌, drop, suc, slice_index_or, drop-cons, subst, sym, ◌∙◌, arith}
use Rattle.os_heap_words.specs.Memory.{bytes_of}
use Rattle.os_heap_words.specs.Kind.TheVariants as kind
use Rattle.os_heap_words.specs.Region.{Region}
use Rattle.os_heap.specs.Store.{AreHeapsIn, heaps_in}
use Rattle.os_heap.proofs.PayloadLemmas.{heap_round}
use Rattle.os_heap.proofs.heaps.Heaps.live_payload.Goals as goal

pub payload_at-requires : goal.payload_at-requires
payload_at-requires c =
    let none : Region = record { kind = kind.Heap; at = 0; len = 0 } in
    let rs : List Region = c.regions-regions.result.now in
    let k = c.loop-region.region-index in
    let split : drop k rs ≡ slice_index_or rs k none ∷ drop (suc k) rs = drop-cons rs k none (omega arith) in
    heap_round (bytes_of c.args.map.now) (slice_index_or rs k none) (drop (suc k) rs) c.args.address (sym c.is_round.ensures ∙ c.if-is_round.true)
    (subst (λ (l : List Region). AreHeapsIn (bytes_of c.args.map.now) (heaps_in (bytes_of c.args.map.now) l)) split c.loop-region.invariant.heaps)
