use Rattle.std.proofs.Common.{Bool, ◌≡◌, ◌+◌, ◌∙◌, None, Some, not, true, sym, ap}
use Rattle.std.proofs.lemmas.Bool.{or_left, or_right}
use Rattle.std.specs.List.{list_any}
use Rattle.os_heap_words.specs.Memory.{anchor_of, bytes_of, regions}
use Rattle.os_heap_words.specs.Records.{anchor_among}
use Rattle.os_heap.proofs.Innermost.{last_spelled}
use Rattle.os_heap.proofs.Obstructions.{barred_probes, obstructed_barred, obstructed_shown, walk_probes_of}
use Rattle.os_heap.specs.Bars.{bars_record}
use Rattle.os_heap.specs.Laws.{passes_if_there}
use Rattle.os_heap.specs.Nesting.{holds_range, is_round}
use Rattle.os_heap.specs.Store.{heap_in, heaps_in, store_of}
use Rattle.os_heap.proofs.obstacles.is_obstructed.Goals as goal

pub returns-in_default-clause-yes : goal.returns-in_default-clause-yes
returns-in_default-clause-yes c =
    let m = c.args.map.now in
    let barred : Bool = list_any (bars_record c.args.at c.args.len c.args.new c.args.more) (regions m) in
    let anchors : Bool = anchor_among (anchor_of m) c.args.new c.args.more in
    let is : barred ≡ true = rw c.regions.ensures at c.in_default.ensures in
    sym (obstructed_barred m c.args.at c.args.len c.args.new c.args.more c.requires.sound.sound (or_left barred anchors is))

pub returns-then-anchor_in-clause-yes : goal.returns-then-anchor_in-clause-yes
returns-then-anchor_in-clause-yes c =
    let m = c.args.map.now in
    let barred : Bool = list_any (bars_record c.args.at c.args.len c.args.new c.args.more) (regions m) in
    let anchors : Bool = anchor_among (anchor_of m) c.args.new c.args.more in
    sym (obstructed_barred m c.args.at c.args.len c.args.new c.args.more c.requires.sound.sound
    (or_right barred anchors (sym c.anchor_in.ensures ∙ c.if-anchor_in.true)))

pub returns-in_default-round-clause-yes : goal.returns-in_default-round-clause-yes
returns-in_default-round-clause-yes c =
    let m = c.args.map.now in
    let found = rw c.in_default-round.is at (rw c.regions.ensures at c.in-Ok.ensures) in
    let reported = obstructed_shown m c.args.at c.args.len c.args.new c.args.more c.requires.sound.sound c.requires.some found.free
    (sym c.anchor_in.ensures ∙ c.if-anchor_in.false) in
    sym (reported ∙ ap (passes_if_there (λ h. not (holds_range (h.start + 16) h.items c.args.at c.args.len))) (found.last (bytes_of m)))

pub holds_range-held-requires-clause-heap : goal.holds_range-held-requires-clause-heap
unfolding store_of
holds_range-held-requires-clause-heap c =
    let m = c.args.map.now in
    let found = rw c.in-Some.is at (rw c.regions.ensures at c.in-Ok.ensures) in
    last_spelled (bytes_of m) (is_round c.args.at c.args.len) (heaps_in (bytes_of m) (regions m)) (heap_in (bytes_of m) c.in-Some.outer) c.requires.sound.sound.heaps
    (found.last (bytes_of m))

pub returns-clause-yes : goal.returns-clause-yes
returns-clause-yes c =
    let m = c.args.map.now in
    let found = rw c.in-Some.is at (rw c.regions.ensures at c.in-Ok.ensures) in
    let reported = obstructed_shown m c.args.at c.args.len c.args.new c.args.more c.requires.sound.sound c.requires.some found.free
    (sym c.anchor_in.ensures ∙ c.if-anchor_in.false) in
    ap not c.holds_range-held.ensures.yes
    ∙ sym (reported ∙ ap (passes_if_there (λ h. not (holds_range (h.start + 16) h.items c.args.at c.args.len))) (found.last (bytes_of m)))

pub returns-in_default-clause-probes : goal.returns-in_default-clause-probes
returns-in_default-clause-probes c =
    let m = c.args.map.now in
    let barred : Bool = list_any (bars_record c.args.at c.args.len c.args.new c.args.more) (regions m) in
    let anchors : Bool = anchor_among (anchor_of m) c.args.new c.args.more in
    let is : barred ≡ true = rw c.regions.ensures at c.in_default.ensures in
    sym (barred_probes m c.args.at c.args.len c.args.new c.args.more (or_left barred anchors is))

pub returns-then-anchor_in-clause-probes : goal.returns-then-anchor_in-clause-probes
returns-then-anchor_in-clause-probes c =
    let m = c.args.map.now in
    let barred : Bool = list_any (bars_record c.args.at c.args.len c.args.new c.args.more) (regions m) in
    let anchors : Bool = anchor_among (anchor_of m) c.args.new c.args.more in
    sym (barred_probes m c.args.at c.args.len c.args.new c.args.more (or_right barred anchors (sym c.anchor_in.ensures ∙ c.if-anchor_in.true)))

pub returns-in_default-round-clause-probes : goal.returns-in_default-round-clause-probes
returns-in_default-round-clause-probes c =
    let m = c.args.map.now in
    let found = rw c.in_default-round.is at (rw c.regions.ensures at c.in-Ok.ensures) in
    sym (walk_probes_of m c.args.at c.args.len c.args.new c.args.more None found.free (sym c.anchor_in.ensures ∙ c.if-anchor_in.false)
    (found.last (bytes_of m)))

pub returns-clause-probes : goal.returns-clause-probes
returns-clause-probes c =
    let m = c.args.map.now in
    let found = rw c.in-Some.is at (rw c.regions.ensures at c.in-Ok.ensures) in
    c.holds_range-held.ensures.probes
    ∙ sym (walk_probes_of m c.args.at c.args.len c.args.new c.args.more (Some (heap_in (bytes_of m) c.in-Some.outer)) found.free
    (sym c.anchor_in.ensures ∙ c.if-anchor_in.false) (found.last (bytes_of m)))
