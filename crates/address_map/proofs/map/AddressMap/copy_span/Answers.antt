use Rattle.std.proofs.Common.{refl}
use Rattle.address_map.proofs.Stores.{same_layout}
use Rattle.address_map.proofs.Moving.{bytes_copied}
use Rattle.address_map.proofs.Marking.{same_marks}
use Rattle.address_map.proofs.map.AddressMap.copy_span.Goals as goal

pub returns-clause-bytes : goal.returns-clause-bytes
returns-clause-bytes c = bytes_copied c.args.self.now _ _ _ _ _ _ _ _ c.requires.source c.requires.target c.requires.source_len c.requires.target_len
    (same_layout _ _ refl refl refl) c.copy.ensures.bytes

pub returns-clause-layout : goal.returns-clause-layout
returns-clause-layout c = same_layout _ _ refl refl refl

pub returns-clause-marks : goal.returns-clause-marks
returns-clause-marks c = same_marks _ _ refl refl
