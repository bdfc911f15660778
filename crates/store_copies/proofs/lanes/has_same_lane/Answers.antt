use Rattle.std.proofs.Common.{ℕ, ◌*◌, arith}
use Rattle.std.proofs.lemmas.Bool.{eqb-true}
use Rattle.store_copies.proofs.SameLemmas.{same_lane}
use Rattle.store_copies.proofs.lanes.has_same_lane.Goals as goal

pub returns : goal.returns
returns c empty k from to =
    let at : ℕ = 4 * (16 * c.args.lane) in
    same_lane c.args.old.now c.args.new.now at (omega (arith, c.requires.old, c.requires.lane)) (omega (arith, c.requires.new, c.requires.lane))
    (eqb-true _ 0 empty) k (omega (arith, from)) (omega (arith, to))
