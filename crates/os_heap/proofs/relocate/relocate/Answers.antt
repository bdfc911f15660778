use Rattle.std.proofs.Common.{◌≡◌, ◌-◌, ◌∙◌, false, sym, arith}
use Rattle.os_heap.specs.Forgetting.{holds_heap}
use Rattle.os_heap.specs.Store.{store_of}
use Rattle.os_heap.proofs.ForgetLemmas.{lies_at, shown_held}
use Rattle.os_heap.proofs.Frame.{layout-regions}
use Rattle.os_heap.proofs.MoveRefusals.{is_held_back, is_refused, refused_kept}
use Rattle.os_heap.proofs.Moving.{part_there, is_claimed, are_inside, is_copied, is_moved, moved_probes, probes_fit}
use Rattle.os_heap.proofs.Resizing.{has_block}
use Rattle.os_heap.proofs.LostRecords.{rest_kept}
use Rattle.os_heap.proofs.relocate.relocate.Goals as goal

pub returns-in_default-clause-store : goal.returns-in_default-clause-store
returns-in_default-clause-store c =
    λ h found. (is_refused c.args.map.now c.claim_total-claim.new.map c.args.heap c.args.block c.args.total c.args.needed h c.claim_total-claim.result.answer c.in_default.field-0 c.requires.state.sound found c.claim_total-claim.ensures.claim c.in_default.is).0

pub returns-in_default-clause-probes : goal.returns-in_default-clause-probes
returns-in_default-clause-probes c =
    λ h found. c.claim_total-claim.ensures.probes ∙ (is_refused c.args.map.now c.claim_total-claim.new.map c.args.heap c.args.block c.args.total c.args.needed h c.claim_total-claim.result.answer c.in_default.field-0 c.requires.state.sound found c.claim_total-claim.ensures.claim c.in_default.is).1

pub overflow_sub-total : goal.overflow_sub-total
overflow_sub-total c =
    let block = has_block c.args.map.now c.args.heap c.args.block c.args.total c.requires.may.found c.requires.may.live in
    omega (arith, (lies_at c.args.map.now c.args.block c.args.total c.requires.state block).some)

pub move_bytes-requires : goal.move_bytes-requires
move_bytes-requires c =
    let part = part_there c.args.heap (store_of c.args.map.now).heaps c.requires.may.found in
    let claim = is_claimed c.args.map.now c.claim_total-claim.new.map c.args.heap c.args.block c.args.total c.args.needed c.in-Ok.new _ part c.requires.state.sound c.requires.state.classes c.requires.may.live
    c.claim_total-claim.ensures.claim c.in-Ok.is in
    let inside = are_inside c.args.map.now c.claim_total-claim.new.map part.part.kind c.args.heap c.args.block c.args.total c.args.needed c.in-Ok.new c.requires.larger claim in
    record { source = inside.source; target = inside.target }

pub find_by_links-cursor-requires : goal.find_by_links-cursor-requires
find_by_links-cursor-requires c =
    let part = part_there c.args.heap (store_of c.args.map.now).heaps c.requires.may.found in
    let claim = is_claimed c.args.map.now c.claim_total-claim.new.map c.args.heap c.args.block c.args.total c.args.needed c.in-Ok.new _ part c.requires.state.sound c.requires.state.classes c.requires.may.live
    c.claim_total-claim.ensures.claim c.in-Ok.is in
    let copy = is_copied c.args.map.now c.claim_total-claim.new.map c.move_bytes.new.self part.part.kind c.args.heap c.args.block c.args.total c.args.needed c.in-Ok.new
    c.requires.larger claim c.move_bytes.ensures.layout c.move_bytes.ensures.bytes c.move_bytes.ensures.marks in
    record { heap = copy.there; live = copy.live }

pub give_back-requires : goal.give_back-requires
give_back-requires c =
    let part = part_there c.args.heap (store_of c.args.map.now).heaps c.requires.may.found in
    let claim = is_claimed c.args.map.now c.claim_total-claim.new.map c.args.heap c.args.block c.args.total c.args.needed c.in-Ok.new _ part c.requires.state.sound c.requires.state.classes c.requires.may.live
    c.claim_total-claim.ensures.claim c.in-Ok.is in
    let copy = is_copied c.args.map.now c.claim_total-claim.new.map c.move_bytes.new.self part.part.kind c.args.heap c.args.block c.args.total c.args.needed c.in-Ok.new
    c.requires.larger claim c.move_bytes.ensures.layout c.move_bytes.ensures.bytes c.move_bytes.ensures.marks in
    record { heap = copy.there; block = c.find_by_links-cursor.ensures.block }

pub overflow_add-result : goal.overflow_add-result
overflow_add-result c =
    let part = part_there c.args.heap (store_of c.args.map.now).heaps c.requires.may.found in
    let claim = is_claimed c.args.map.now c.claim_total-claim.new.map c.args.heap c.args.block c.args.total c.args.needed c.in-Ok.new _ part c.requires.state.sound c.requires.state.classes c.requires.may.live
    c.claim_total-claim.ensures.claim c.in-Ok.is in
    let copy = is_copied c.args.map.now c.claim_total-claim.new.map c.move_bytes.new.self part.part.kind c.args.heap c.args.block c.args.total c.args.needed c.in-Ok.new
    c.requires.larger claim c.move_bytes.ensures.layout c.move_bytes.ensures.bytes c.move_bytes.ensures.marks in
    let fit = probes_fit c.args.map.now c.claim_total-claim.new.map c.move_bytes.new.self part.part.kind c.args.heap c.args.block c.args.total c.args.needed c.in-Ok.new
    claim copy c.requires.may.heap in
    omega (arith, fit, c.claim_total-claim.ensures.probes, c.find_by_links-cursor.ensures.probes)

pub returns : goal.returns
returns c =
    let reported = shown_held c.args.map.now _ c.args.block (c.args.total - 4) c.holds_heap.result c.regions.ensures c.holds_heap.ensures in
    let empty : holds_heap (store_of c.args.map.now).heaps c.args.block (c.args.total - 4) ≡ false = sym reported ∙ c.if-holds_heap.false in
    let part = part_there c.args.heap (store_of c.args.map.now).heaps c.requires.may.found in
    let claim = is_claimed c.args.map.now c.claim_total-claim.new.map c.args.heap c.args.block c.args.total c.args.needed c.in-Ok.new _ part c.requires.state.sound c.requires.state.classes c.requires.may.live
    c.claim_total-claim.ensures.claim c.in-Ok.is in
    let copy = is_copied c.args.map.now c.claim_total-claim.new.map c.move_bytes.new.self part.part.kind c.args.heap c.args.block c.args.total c.args.needed c.in-Ok.new
    c.requires.larger claim c.move_bytes.ensures.layout c.move_bytes.ensures.bytes c.move_bytes.ensures.marks in
    let moved = is_moved c.args.map.now c.claim_total-claim.new.map c.move_bytes.new.self c.give_back.new.map part.part.kind c.args.heap c.args.block c.args.total c.args.needed
    c.in-Ok.new claim copy c.move_bytes.ensures.layout (rw (layout-regions _ _ (c.move_bytes.ensures.layout ∙ claim.same)) c.requires.may.own) c.requires.may.unheld empty c.give_back.ensures in
    record {
      store = moved.store;
      kept = moved.kept;
      probes = λ h found. rw (c.claim_total-claim.ensures.probes, c.find_by_links-cursor.ensures.probes)
          (moved_probes c.args.map.now c.claim_total-claim.new.map c.move_bytes.new.self part.part.kind c.args.heap c.args.block c.args.total c.args.needed c.in-Ok.new h claim copy empty found);
    }

pub returns-then-holds_heap-clause-store : goal.returns-then-holds_heap-clause-store
returns-then-holds_heap-clause-store c h found =
    let m = c.args.map.now in
    let reported = shown_held m _ c.args.block (c.args.total - 4) c.holds_heap.result c.regions.ensures c.holds_heap.ensures in
    let back = is_held_back m c.args.heap c.args.block c.args.total c.args.needed h c.requires.state.sound found (sym reported ∙ c.if-holds_heap.true) in
    let answer = rw c.find_room-room.ensures.answer at c.and-answer.ensures in
    rw answer back.0

pub returns-then-holds_heap-clause-probes : goal.returns-then-holds_heap-clause-probes
returns-then-holds_heap-clause-probes c h found =
    let m = c.args.map.now in
    let reported = shown_held m _ c.args.block (c.args.total - 4) c.holds_heap.result c.regions.ensures c.holds_heap.ensures in
    let back = is_held_back m c.args.heap c.args.block c.args.total c.args.needed h c.requires.state.sound found (sym reported ∙ c.if-holds_heap.true) in
    c.find_room-room.ensures.probes ∙ back.1

pub returns-in_default-clause-kept : goal.returns-in_default-clause-kept
returns-in_default-clause-kept c =
    refused_kept c.args.map.now c.claim_total-claim.new.map c.args.heap c.args.needed c.claim_total-claim.result.answer c.in_default.field-0 c.requires.state
    c.claim_total-claim.ensures.claim c.in_default.is

pub overflow_sub-total-2 : goal.overflow_sub-total-2
overflow_sub-total-2 c =
    let block = has_block c.args.map.now c.args.heap c.args.block c.args.total c.requires.may.found c.requires.may.live in
    omega (arith, (lies_at c.args.map.now c.args.block c.args.total c.requires.state block).some)

pub returns-then-holds_heap-clause-kept : goal.returns-then-holds_heap-clause-kept
returns-then-holds_heap-clause-kept c = rest_kept c.args.map.now c.requires.state
