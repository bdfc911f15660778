use Rattle.std.proofs.Common.{◌-◌, ◌^◌, arith, sym, ◌∙◌, inl, inr}
use Rattle.std.proofs.lemmas.Bool.{cases_lt}
use Rattle.address_map.proofs.Anchors.{among_wider, marks_none, unanchored}
use Rattle.address_map.specs.Memory.{anchor_of}
use Rattle.address_map.proofs.Words.{class_past}
use Rattle.address_map.proofs.map.AddressMap.anchor_in.Goals as goal

pub returns : goal.returns
returns c =
    marks_none c.args.self.now c.args.at c.args.len (λ a low high. elim (cases_lt a (2 ^ 26)) [
      | inl below ↦ c.loop-addr.invariant.clear a low (omega arith)
      | inr past ↦ λ is. let plain = class_past c.args.self.now a past in cc (is, plain)
    ])

pub returns-then-page_holds_anchor : goal.returns-then-page_holds_anchor
returns-then-page_holds_anchor c =
    let some = sym c.page_holds_anchor.ensures ∙ c.if-page_holds_anchor.true in
    sym (among_wider (anchor_of c.args.self.now) c.args.at c.args.len c.loop-addr.addr (c.min-next.result - c.loop-addr.addr) c.loop-addr.invariant.from
    (omega arith) some)

pub loop-addr-preserved : goal.loop-addr-preserved
loop-addr-preserved c = record {
  from = omega arith;
  clear = λ a low high. elim (cases_lt a c.loop-addr.addr) [
    | inl before ↦ c.loop-addr.invariant.clear a low before
    | inr later ↦
        let none = sym c.page_holds_anchor.ensures ∙ c.if-page_holds_anchor.false in
        unanchored c.args.self.now c.loop-addr.addr (c.min-next.result - c.loop-addr.addr) none a later (omega arith)
  ];
}
