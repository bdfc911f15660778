use Rattle.std.proofs.Common.{ℕ, cond, ◌≡◌, [], ◌∷◌, ◌++◌, is_some, ap, sym, subst, ◌∙◌, arith}
use Rattle.std.proofs.lemmas.Bool.{both_ways}
use Rattle.os_heap_words.specs.Region.{Region}
use Rattle.os_heap_words.specs.Bytes.{in_range, word_start}
use Rattle.os_heap_words.specs.Memory.{byte_at, bytes_of, class_of, regions}
use Rattle.os_heap_words.specs.Class.{Class}
use Rattle.os_heap_words.specs.Class.TheVariants as class
use Rattle.os_heap_words.proofs.Equations.{same_bytes}
use Rattle.os_heap_words.proofs.AddressMapMarking.{heap_is_no_word}
use Rattle.os_heap_words.proofs.Stores.{layout-mapping}
use Rattle.os_heap_words.specs.lists.Heap.{with_heap}
use Rattle.os_heap.specs.Store.{store_of, IsSound}
use Rattle.os_heap.specs.Calls.{store_with_new_heap}
use Rattle.os_heap.proofs.FlexWords.{flex_begun}
use Rattle.os_heap.proofs.Frame.{layout-regions}
use Rattle.os_heap.proofs.Added.{begun_unflexed, recorded, store_begun, begun_sound, classes_begun}
use Rattle.os_heap.proofs.RangeTests.{CanHold, can_hold, range_end}
use Rattle.os_heap.proofs.Limits.{records_room}
use Rattle.os_heap_words.proofs.Marking.{heap_unmarked}
use Rattle.os_heap.proofs.Order.{order_added}
use Rattle.os_heap_words.proofs.Writing.{still_mapped}
use Rattle.os_heap.proofs.init.make.Goals as goal

pub write_descriptor-requires-clause-aligned : goal.write_descriptor-requires-clause-aligned
unfolding store_of
write_descriptor-requires-clause-aligned c = (can_hold (bytes_of c.args.map.now) c.args.heap c.args.size c.requires.may.region).aligned

pub write_descriptor-requires-clause-room : goal.write_descriptor-requires-clause-room
unfolding store_of
write_descriptor-requires-clause-room c = (can_hold (bytes_of c.args.map.now) c.args.heap c.args.size c.requires.may.region).low

pub write_descriptor-requires-clause-mapped : goal.write_descriptor-requires-clause-mapped
unfolding store_of
write_descriptor-requires-clause-mapped c = (can_hold (bytes_of c.args.map.now) c.args.heap c.args.size c.requires.may.region).mapped

pub own-requires-clause-region : goal.own-requires-clause-region
unfolding store_of
own-requires-clause-region c =
    let can : CanHold (bytes_of c.args.map.now) c.args.heap c.args.size = can_hold (bytes_of c.args.map.now) c.args.heap c.args.size c.requires.may.region in
    record {
      aligned = can.aligned;
      end = range_end c.args.map.now c.args.heap c.args.size can.mapped (omega (arith, can.low));
    }

pub mark_descriptor-requires-clause-aligned : goal.mark_descriptor-requires-clause-aligned
unfolding store_of
mark_descriptor-requires-clause-aligned c = (can_hold (bytes_of c.args.map.now) c.args.heap c.args.size c.requires.may.region).aligned

pub mark_descriptor-requires-clause-mapped : goal.mark_descriptor-requires-clause-mapped
unfolding store_of
mark_descriptor-requires-clause-mapped c =
    let can : CanHold (bytes_of c.args.map.now) c.args.heap c.args.size = can_hold (bytes_of c.args.map.now) c.args.heap c.args.size c.requires.may.region in
    λ a low high. still_mapped _ _ a c.write_descriptor.ensures.kept.layout (can.mapped a low (omega (arith, high, can.low)))

pub own-requires-clause-room : goal.own-requires-clause-room
own-requires-clause-room c =
    let same : regions c.mark_descriptor.new.map ≡ regions c.args.map.now =
    layout-regions _ _ (c.mark_descriptor.ensures.layout ∙ c.write_descriptor.ensures.kept.layout) in
    λ _. rw same (records_room c.args.map.now c.args.kind c.args.heap c.requires.state.sound c.requires.may.room)

pub own-requires-clause-mapped : goal.own-requires-clause-mapped
own-requires-clause-mapped c = λ is. absurd (both_ways _ (heap_is_no_word c.args.kind c.requires.kind) is)

pub returns-clause-store : goal.returns-clause-store
returns-clause-store c =
    let r : Region = record { kind = c.args.kind; at = c.args.heap; len = c.args.size } in
    let records : regions c.own.new.self ≡ regions c.args.map.now ++ r ∷ [] =
    c.own.ensures.regions ∙ recorded (regions c.mark_descriptor.new.map) c.args.kind c.args.heap c.args.size c.requires.kind
    ∙ ap (λ rs. rs ++ r ∷ []) (layout-regions _ _ (c.mark_descriptor.ensures.layout ∙ c.write_descriptor.ensures.kept.layout)) in
    let moved : bytes_of c.own.new.self ≡ bytes_of c.mark_descriptor.new.map =
    λ i. record { mapped = λ a. is_some ((c.own.ensures.mapping i).place a); at = c.own.ensures.bytes i } in
    let written = same_bytes c.args.map.now c.mark_descriptor.new.map (with_heap (byte_at c.args.map.now) c.args.heap c.args.size [])
    (c.mark_descriptor.ensures.layout ∙ c.write_descriptor.ensures.kept.layout)
    (λ a. ap (λ (f : ℕ → ℕ). f a) c.mark_descriptor.ensures.bytes ∙ c.write_descriptor.ensures.bytes a) in
    let marks : (a : ℕ) → class_of c.own.new.self a ≡ cond (in_range c.args.heap 16 (word_start a)) class.Heap (class_of c.args.map.now a) =
    λ a. c.own.ensures.marks a ∙ heap_unmarked c.args.kind c.args.heap (class_of c.mark_descriptor.new.map) a c.requires.kind
    ∙ c.mark_descriptor.ensures.marks a
    ∙ ap (λ (f : ℕ → Class). cond (in_range c.args.heap 16 (word_start a)) class.Heap (f a)) c.write_descriptor.ensures.kept.marks in
    store_begun c.args.map.now c.own.new.self c.args.kind c.args.heap c.args.size c.requires.kind c.requires.may c.requires.state.sound records (moved ∙ written)
    (flex_begun (class_of c.args.map.now) (class_of c.own.new.self) c.args.heap marks (λ a inside. begun_unflexed c.args.map.now c.args.kind c.args.heap c.args.size c.requires.may c.requires.state.sound a inside))

pub returns-clause-kept : goal.returns-clause-kept
returns-clause-kept c =
    let store : store_of c.own.new.self ≡ store_with_new_heap c.args.kind (store_of c.args.map.now) c.args.heap c.args.size = returns-clause-store c in
    record {
      sound = subst IsSound (sym store) (begun_sound c.args.kind (store_of c.args.map.now) c.args.heap c.args.size c.requires.may c.requires.state.sound);
      classes = classes_begun c.args.map.now c.own.new.self c.args.kind c.args.heap c.args.size store
          (λ a. c.own.ensures.marks a ∙ heap_unmarked c.args.kind c.args.heap (class_of c.mark_descriptor.new.map) a c.requires.kind
          ∙ c.mark_descriptor.ensures.marks a
          ∙ ap (λ (f : ℕ → Class). cond (in_range c.args.heap 16 (word_start a)) class.Heap (f a)) c.write_descriptor.ensures.kept.marks)
          c.requires.state.classes;
      others = ap (λ s. s.others) store;
      mapping = c.own.ensures.mapping ∙ layout-mapping _ _ (c.mark_descriptor.ensures.layout ∙ c.write_descriptor.ensures.kept.layout);
    }

pub returns-clause-order : goal.returns-clause-order
returns-clause-order c =
    let r : Region = record { kind = c.args.kind; at = c.args.heap; len = c.args.size } in
    order_added c.args.map.now c.own.new.self r (
    c.own.ensures.regions ∙ recorded (regions c.mark_descriptor.new.map) c.args.kind c.args.heap c.args.size c.requires.kind
    ∙ ap (λ rs. rs ++ r ∷ []) (layout-regions _ _ (c.mark_descriptor.ensures.layout ∙ c.write_descriptor.ensures.kept.layout)))
