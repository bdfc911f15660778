use Rattle.std.proofs.Common.{ℕ, Option, is_some, ap, sym, ◌∙◌}
use Rattle.address_map.specs.declared.class.Class.{Class}
use Rattle.address_map.specs.Memory.{regions, class_of}
use Rattle.address_map.specs.Records.{plain_if_some, with_class_of}
use Rattle.address_map.proofs.Marking.{without_word}
use Rattle.address_map.proofs.map.AddressMap.disown.Goals as goal

pub returns-in-Some-clause-regions : goal.returns-in-Some-clause-regions
returns-in-Some-clause-regions c =
    c.mark-in-Some.ensures.regions ∙ without_word (regions c.args.self.now) c.args.kind c.args.at (ap is_some (sym c.in-Some.ensures))

pub returns-in-Some-clause-marks : goal.returns-in-Some-clause-marks
returns-in-Some-clause-marks c a =
    c.mark-in-Some.ensures.marks a
    ∙ ap (λ (mark : Option Class). with_class_of (plain_if_some mark) c.args.at (class_of c.args.self.now) a) c.in-Some.ensures

pub returns-in-None-clause-marks : goal.returns-in-None-clause-marks
returns-in-None-clause-marks c a =
    ap (λ (f : ℕ → Class). f a) c.forget.ensures.marks
    ∙ ap (λ (mark : Option Class). with_class_of (plain_if_some mark) c.args.at (class_of c.args.self.now) a) c.in-None.ensures
