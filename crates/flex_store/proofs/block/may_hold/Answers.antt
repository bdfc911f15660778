use Rattle.std.proofs.Common.{ℕ, Bool, true, ◌≡◌, ◌&&◌, ◌||◌, not, List, arith, ap, refl, ◌∙◌, sym}
use Rattle.std.specs.List.{list_any}
use Rattle.os_heap.specs.Bytes.{shares_address}
use Rattle.os_heap.specs.Memory.{regions}
use Rattle.os_heap.specs.Records.{is_heap_kind}
use Rattle.os_heap.specs.Region.{Region}
use Rattle.os_heap.specs.Store.{is_flex_store, store_of}
use Rattle.os_heap.specs.Payloads.{is_other, payload_of}
use Rattle.flex_store.specs.Calls.{may_stand}
use Rattle.flex_store.specs.State.{blocks_of, flex_store_in}
use Rattle.flex_store.specs.Blocks.{is_in_contents}
use Rattle.flex_store.proofs.Listing.{text_of_store}
use Rattle.flex_store.proofs.Allocating.{place_tested, place_unaligned}
use Rattle.flex_store.proofs.block.may_hold.Goals as goal

abbrev met_in : ℕ → List Region → Bool
met_in anchor rs = list_any (λ r. not (is_heap_kind r.kind) && (not (is_flex_store r.kind) && shares_address anchor 4 r.at r.len)) rs

pub returns-then-anchor-ne0 : goal.returns-then-anchor-ne0
returns-then-anchor-ne0 c = place_unaligned c.args.map.now c.args.anchor (may_stand (flex_store_in c.args.map.now c.args.extent.now) c.args.anchor) c.if-anchor-ne0.true

pub returns-then-not-maps : goal.returns-then-not-maps
returns-then-not-maps c =
    let m = c.args.map.now in
    let stood : Bool = may_stand (flex_store_in m c.args.extent.now) c.args.anchor in
    let met : Bool = met_in c.args.anchor (regions m) in
    let other : Bool = is_other (payload_of (store_of m).heaps c.args.anchor) in
    sym (ap (λ (t : Bool). t && ((not met && not other) && stood)) c.if-not-maps.true)
    ∙ place_tested m c.args.anchor c.maps.result met other stood (omega arith) refl c.maps.ensures refl

pub returns-then-meets_other : goal.returns-then-meets_other
returns-then-meets_other c =
    let m = c.args.map.now in
    let stood : Bool = may_stand (flex_store_in m c.args.extent.now) c.args.anchor in
    let met : Bool = c.meets_other.result in
    let other : Bool = is_other (payload_of (store_of m).heaps c.args.anchor) in
    sym (ap (λ (t : Bool). t && ((not met && not other) && stood)) c.if-not-maps.false ∙ ap (λ (t : Bool). (not t && not other) && stood) c.if-meets_other.true)
    ∙ place_tested m c.args.anchor c.maps.result met other stood (omega arith) refl c.maps.ensures
    (c.meets_other.ensures ∙ ap (λ (rs : List Region). met_in c.args.anchor rs) c.regions.ensures)

pub returns-then-is_other : goal.returns-then-is_other
returns-then-is_other c =
    let m = c.args.map.now in
    let stood : Bool = may_stand (flex_store_in m c.args.extent.now) c.args.anchor in
    let met : Bool = c.meets_other.result in
    let other : Bool = c.is_other.result in
    sym (ap (λ (t : Bool). t && ((not met && not other) && stood)) c.if-not-maps.false ∙ ap (λ (t : Bool). (not t && not other) && stood) c.if-meets_other.false
    ∙ ap (λ (t : Bool). not t && stood) c.if-is_other.true)
    ∙ place_tested m c.args.anchor c.maps.result met other stood (omega arith) (c.is_other.ensures ∙ ap is_other c.live_payload-place.ensures) c.maps.ensures
    (c.meets_other.ensures ∙ ap (λ (rs : List Region). met_in c.args.anchor rs) c.regions.ensures)

pub is_in_contents-requires : goal.is_in_contents-requires
is_in_contents-requires c = text_of_store c.args.map.now c.args.extent.now c.requires.flex.held

pub returns-then-not-is_met : goal.returns-then-not-is_met
returns-then-not-is_met c =
    let m = c.args.map.now in
    let met : Bool = c.meets_other.result in
    let other : Bool = c.is_other.result in
    let stood : Bool = may_stand (flex_store_in m c.args.extent.now) c.args.anchor in
    let stands : stood ≡ true =
    ap (λ (t : Bool). not t || is_in_contents c.args.extent.now.start (blocks_of m c.args.extent.now) c.args.anchor) (sym c.is_met.ensures ∙ c.if-not-is_met.true) in
    sym (ap (λ (t : Bool). t && ((not met && not other) && stood)) c.if-not-maps.false ∙ (ap (λ (t : Bool). (not t && not other) && stood) c.if-meets_other.false
    ∙ (ap (λ (t : Bool). not t && stood) c.if-is_other.false ∙ stands)))
    ∙ place_tested m c.args.anchor c.maps.result met other stood (omega arith) (c.is_other.ensures ∙ ap is_other c.live_payload-place.ensures) c.maps.ensures
    (c.meets_other.ensures ∙ ap (λ (rs : List Region). met_in c.args.anchor rs) c.regions.ensures)

pub returns : goal.returns
returns c =
    let m = c.args.map.now in
    let met : Bool = c.meets_other.result in
    let other : Bool = c.is_other.result in
    let stood : Bool = may_stand (flex_store_in m c.args.extent.now) c.args.anchor in
    let stands : stood ≡ c.is_in_contents.result =
    ap (λ (t : Bool). not t || is_in_contents c.args.extent.now.start (blocks_of m c.args.extent.now) c.args.anchor) (sym c.is_met.ensures ∙ c.if-not-is_met.false)
    ∙ sym c.is_in_contents.ensures in
    sym (ap (λ (t : Bool). t && ((not met && not other) && stood)) c.if-not-maps.false ∙ (ap (λ (t : Bool). (not t && not other) && stood) c.if-meets_other.false
    ∙ (ap (λ (t : Bool). not t && stood) c.if-is_other.false ∙ stands)))
    ∙ place_tested m c.args.anchor c.maps.result met other stood (omega arith) (c.is_other.ensures ∙ ap is_other c.live_payload-place.ensures) c.maps.ensures
    (c.meets_other.ensures ∙ ap (λ (rs : List Region). met_in c.args.anchor rs) c.regions.ensures)
