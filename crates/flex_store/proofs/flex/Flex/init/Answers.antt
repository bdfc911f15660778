use Rattle.std.proofs.Common.{◌≡◌, sym, ◌∙◌, arith}
use Rattle.os_heap.specs.Memory.{class_of}
use Rattle.os_heap.proofs.Limits.{range_room}
use Rattle.flex_store.proofs.Recording.{begun_store}
use Rattle.flex_store.proofs.Starting.{begins_gives, good_range, no_flex, range_low, starts_empty}
use Rattle.flex_store.proofs.flex.Flex.init.Goals as goal

pub overflow_sub-end : goal.overflow_sub-end
overflow_sub-end c =
    let g = good_range c.args.map.now c.args.start c.args.end (sym c.is_flex_range.ensures ∙ c.if-not-is_flex_range.false) in
    omega (arith, g.some)

pub own-requires-clause-region : goal.own-requires-clause-region
own-requires-clause-region c =
    let g = good_range c.args.map.now c.args.start c.args.end (sym c.is_flex_range.ensures ∙ c.if-not-is_flex_range.false) in
    record { aligned = g.start_aligned; end = omega (arith, g.some, range_low c.args.map.now c.args.start c.args.end g) }

pub own-requires-clause-room : goal.own-requires-clause-room
own-requires-clause-room c = omega (arith, range_room c.args.map.now c.requires.state.sound c.requires.few)

pub returns-clause-kept : goal.returns-clause-kept
returns-clause-kept c =
    let m = c.args.map.now in
    let n = c.own.new.self in
    let did = c.own.ensures in
    let is = c.requires.state in
    let range = sym c.is_flex_range.ensures ∙ c.if-not-is_flex_range.false in
    let marks : class_of n ≡ class_of m = λ i a. did.marks a i in
    let begun = begun_store m n c.args.start c.args.end is.sound is.classes c.requires.few range did.regions did.mapping did.bytes marks in
    record {
      flex = record {
        held = starts_empty m n c.args.start c.args.end (no_flex m _ (sym c.is_some.ensures ∙ c.if-is_some.false) is.flex) range did.mapping marks;
        recorded = begun.recorded;
      };
      sound = begun.sound;
      classes = begun.classes;
      mapping = did.mapping;
      marks = marks;
      heaps = begun.heaps;
    }

pub returns-clause-state : goal.returns-clause-state
returns-clause-state c =
    begins_gives c.args.map.now c.own.new.self c.args.self.now c.args.start c.args.end (sym c.is_some.ensures ∙ c.if-is_some.false)
    (sym c.is_flex_range.ensures ∙ c.if-not-is_flex_range.false) c.own.ensures.mapping c.own.ensures.bytes
