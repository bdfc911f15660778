use Rattle.std.proofs.Common.{◌≡◌, true, false, ap, sym, ◌∙◌, refl}
use Rattle.std.proofs.lemmas.Bool.{both_ways}
use Rattle.address_map.specs.Classes.{is_heap_class}
use Rattle.address_map.specs.Memory.{class_of}
use Rattle.os_heap_words.proofs.Marking.{heap_class, heap_unheaded, other_unheaded}
use Rattle.os_heap_words.proofs.marks.unmark_head.Goals as goal

pub returns-then-is_heap_class : goal.returns-then-is_heap_class
returns-then-is_heap_class c =
    let is : is_heap_class (class_of c.args.map.now c.args.at) ≡ true =
    ap is_heap_class (sym c.class.ensures) ∙ sym c.is_heap_class.ensures ∙ c.if-is_heap_class.true in
    record {
      marks = λ a. c.mark.ensures.marks a ∙ heap_unheaded c.args.map.now c.args.at a c.requires.aligned (heap_class (class_of c.args.map.now c.args.at) is);
      bytes = c.mark.ensures.bytes;
      layout = c.mark.ensures.layout;
    }

pub returns-else-is_heap_class : goal.returns-else-is_heap_class
returns-else-is_heap_class c =
    let none : is_heap_class (class_of c.args.map.now c.args.at) ≡ false =
    ap is_heap_class (sym c.class.ensures) ∙ sym c.is_heap_class.ensures ∙ c.if-is_heap_class.false in
    record {
      marks = λ a. other_unheaded c.args.map.now c.args.at a c.requires.aligned (λ e. both_ways _ none (ap is_heap_class e));
      bytes = refl;
      layout = refl;
    }
