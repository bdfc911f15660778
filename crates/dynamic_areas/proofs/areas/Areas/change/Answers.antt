use Rattle.std.proofs.Common.{◌≡◌, true, false, sym, ap, ◌∙◌, arith}
use Rattle.dynamic_areas.specs.declared.area.Changed.{Changed}
use Rattle.dynamic_areas.specs.Changing.{change_answer, is_growth}
use Rattle.dynamic_areas.proofs.RoomLemmas.{found_room}
use Rattle.dynamic_areas.proofs.areas.Areas.change.Goals as goal

pub extend-requires-clause-room : goal.extend-requires-clause-room
unfolding change_answer
extend-requires-clause-room c a found =
    let grows : is_growth c.args.amount ≡ true = sym c.is_growth.ensures ∙ c.if-is_growth.true in
    let answer = rw (found, grows) at c.measure-answer.ensures in
    omega (arith, ap (λ (x : Changed). x.bytes) answer, (found_room c.args.number c.args.self.now.areas a c.requires.state.area_store.ground.table.rooms found).within)

pub extend-requires-clause-pool : goal.extend-requires-clause-pool
unfolding change_answer
extend-requires-clause-pool c a found =
    let grows : is_growth c.args.amount ≡ true = sym c.is_growth.ensures ∙ c.if-is_growth.true in
    let answer = rw (found, grows) at c.measure-answer.ensures in
    omega (arith, ap (λ (x : Changed). x.bytes) answer)

pub reduce-requires-clause-loose : goal.reduce-requires-clause-loose
unfolding change_answer
reduce-requires-clause-loose c a found =
    let shrinks : is_growth c.args.amount ≡ false = sym c.is_growth.ensures ∙ c.if-is_growth.false in
    let answer = rw (found, shrinks) at c.measure-answer.ensures in
    omega (arith, ap (λ (x : Changed). x.bytes) answer)
