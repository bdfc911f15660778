use Rattle.std.proofs.Common.{◌≡◌, ◌-◌, true, false, ap, arith, sym, ◌∙◌}
use Rattle.std.proofs.lemmas.Bool.{false≢true}
use Rattle.address_map.specs.Classes.{is_anchor}
use Rattle.address_map.proofs.Anchors.{marks_none, marks_some}
use Rattle.address_map.proofs.Words.{none_more}
use Rattle.address_map.proofs.map.AddressMap.holds_anchor_between.Goals as goal

pub loop-addr-preserved : goal.loop-addr-preserved
loop-addr-preserved c = record {
  from = omega arith;
  clear = none_more c.args.self.now c.args.from c.loop-addr.addr c.loop-addr.invariant.clear (λ is.
      let no : is_anchor c.class.result ≡ false = cc in
      let yes : is_anchor c.class.result ≡ true = ap is_anchor (c.class.ensures ∙ is) in
      false≢true (sym no ∙ yes));
}

pub returns : goal.returns
returns c =
    marks_none c.args.self.now c.args.from (c.args.end - c.args.from) (λ a low high. c.loop-addr.invariant.clear a low (omega arith))

pub returns-then-is_anchor : goal.returns-then-is_anchor
returns-then-is_anchor c =
    let yes : is_anchor c.class.result ≡ true = cc in
    marks_some c.args.self.now c.args.from (c.args.end - c.args.from) c.loop-addr.addr c.loop-addr.invariant.from (omega arith) (ap is_anchor (sym c.class.ensures) ∙ yes)
