use Rattle.std.proofs.Common.{arith, sym, ◌∙◌, ◌/◌}
use Rattle.std.proofs.lemmas.List.{get_or_default}
use Rattle.address_map.specs.Marks.{class_at}
use Rattle.address_map.proofs.Lanes.{class_set}
use Rattle.address_map.proofs.marks.Marks.set.Goals as goal

pub returns-clause-classes : goal.returns-clause-classes
unfolding class_at
returns-clause-classes c k =
    let m = c.args.self.now in
    rw (c.set.ensures, c.weight-weight.ensures, c.number.ensures)
    (class_set m.bytes c.args.word c.get-byte.result c.args.class c.requires
    (get_or_default m.bytes (c.args.word / 4) 0 c.get-byte.result c.requires ∙ sym c.get-byte.ensures) (omega arith) k)
