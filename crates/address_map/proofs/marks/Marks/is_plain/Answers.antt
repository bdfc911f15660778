use Rattle.std.proofs.Common.{◌≡◌, ◌/◌, get_or, ap, sym, ◌∙◌}
use Rattle.std.proofs.lemmas.List.{get_or_default}
use Rattle.address_map.specs.Marks.{class_at}
use Rattle.address_map.specs.Memory.{is_plain}
use Rattle.address_map.proofs.Lanes.{class_zero}
use Rattle.address_map.proofs.marks.Marks.is_plain.Goals as goal

pub returns-then-get-eq0 : goal.returns-then-get-eq0
unfolding class_at
returns-then-get-eq0 c =
    let items = c.args.self.now.bytes in
    let read : get_or items (c.args.word / 4) 0 ≡ 0 =
    get_or_default items (c.args.word / 4) 0 c.get.result c.requires ∙ sym c.get.ensures ∙ c.if-get-eq0.true in
    sym (ap is_plain (class_zero items c.args.word read))
