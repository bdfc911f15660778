use Rattle.std.proofs.Common.{sym, ◌∙◌, arith}
use Rattle.std.proofs.lemmas.Bool.{not-false}
use Rattle.address_map.proofs.Anchors.{low_words, unmapped_words}
use Rattle.address_map.proofs.Lending.{page_fits}
use Rattle.address_map.proofs.map.AddressMap.may_hold_anchor.Goals as goal

pub overflow_add-end : goal.overflow_add-end
overflow_add-end c =
    let m = c.args.self.now in
    omega (arith, page_fits m c.args.addr c.in-Some.place c.args.len (sym c.translate.ensures ∙ c.in-Some.is) c.requires.page, m.in_limit, m.frames_fit)

pub overflow_add-end-in-Some : goal.overflow_add-end-in-Some
overflow_add-end-in-Some c =
    let m = c.args.self.now in
    omega (arith, page_fits m c.args.addr c.in-Some.place c.args.len (sym c.translate.ensures ∙ c.in-Some.is) c.requires.page, m.in_limit, m.frames_fit)

pub are_plain_or_heap-requires : goal.are_plain_or_heap-requires
are_plain_or_heap-requires c =
    let m = c.args.self.now in
    omega (arith, page_fits m c.args.addr c.in-Some.place c.args.len (sym c.translate.ensures ∙ c.in-Some.is) c.requires.page, m.marks_fit)

pub returns-in-Some : goal.returns-in-Some
returns-in-Some c clear =
    low_words c.args.self.now c.args.addr c.in-Some.place c.args.len (sym c.translate.ensures ∙ c.in-Some.is) c.requires.page
    (c.are_plain_or_heap.ensures (not-false c.are_plain_or_heap.result clear))

pub returns-in-None : goal.returns-in-None
returns-in-None c clear = unmapped_words c.args.self.now c.args.addr c.args.len (sym c.translate.ensures ∙ c.in-None.is) c.requires.page
