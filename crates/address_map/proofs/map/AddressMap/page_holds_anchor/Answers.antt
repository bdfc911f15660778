use Rattle.std.proofs.Common.{◌-◌, ◌∙◌}
use Rattle.address_map.proofs.Anchors.{marks_none}
use Rattle.address_map.proofs.map.AddressMap.page_holds_anchor.Goals as goal

pub returns-else-may_hold_anchor : goal.returns-else-may_hold_anchor
returns-else-may_hold_anchor c =
    c.if-may_hold_anchor.false
    ∙ marks_none c.args.self.now c.args.from (c.args.end - c.args.from) (c.may_hold_anchor.ensures c.if-may_hold_anchor.false)
