use Rattle.std.proofs.Common.{◌<◌, ◌≤◌, ℕ, List, length, arith}
use Rattle.debug_tables.specs.Session.{script_state}
use Rattle.debug_history.specs.declared.act.Act.{Act}
use Rattle.debug_history.proofs.AgainLemmas.{acts_end, acts_go_on}
use Rattle.debug_history.proofs.again.acts_again.Goals as goal

pub loop-act-preserved : goal.loop-act-preserved
loop-act-preserved c =
    let acts : List Act = c.args.acts.now in
    let i : ℕ = c.loop-act.act-index in
    let below : i < length acts = omega arith in
    acts_go_on (script_state c.args.session.now c.args.images.now) (script_state c.loop-act.session c.loop-act.images)
    (script_state c.deed_again.new.session c.deed_again.new.images) acts i c.act-item.result below c.act-item.is
    c.loop-act.invariant c.in_ok-deed_again.ensures.moment

pub returns-clause-moment : goal.returns-clause-moment
returns-clause-moment c =
    let acts : List Act = c.args.acts.now in
    let i : ℕ = c.loop-act.act-index in
    let all : length acts ≤ i = omega arith in
    acts_end (script_state c.args.session.now c.args.images.now) (script_state c.loop-act.session c.loop-act.images) acts i all
    c.loop-act.invariant
