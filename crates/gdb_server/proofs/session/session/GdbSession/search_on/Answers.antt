use Rattle.std.proofs.Common.{◌≡◌, ◌<◌, ◌≤◌, ℕ, List, [], length, get_or, ap, subst, sym, ◌∙◌, arith}
use Rattle.profile.specs.images.Entries.{Entry}
use Rattle.gdb_machine.specs.declared.back_ends.BackGoal.{BackGoal}
use Rattle.gdb_machine.specs.declared.back_ends.BackSearch.{BackSearch}
use Rattle.gdb_machine.specs.declared.back_ends.UnderWay.TheVariants as under
use Rattle.gdb_server.specs.session.Back.{back_goals, gone_back_to, search_further}
use Rattle.gdb_server.specs.session.Runs.{asking, gdb_stop_shown}
use Rattle.gdb_server.specs.session.Session.{gdb_state}
use Rattle.gdb_server.specs.session.State.{GdbState}
use Rattle.gdb_server.proofs.SessionLemmas.BackLemmas.{goal_sought, goals_sought}
use Rattle.gdb_server.proofs.SessionLemmas.RunLemmas.{answered_as}
use Rattle.gdb_server.proofs.session.session.GdbSession.search_on.Goals as goal

pub returns-then-so_far-len-clause-reported : goal.returns-then-so_far-len-clause-reported
returns-then-so_far-len-clause-reported c =
    let images = c.args.images.now in
    let after = c.go_back.new.images in
    let g : GdbState = gdb_state c.args.self.now images in
    let b : BackSearch = c.args.so_far in
    let over : length c.in_ok-goals.goals.items ≤ b.goal = omega (arith, c.if-so_far-len.true) in
    let all = subst (λ (xs : List BackGoal). length xs ≤ b.goal) (c.in_ok-goals.ensures images) over in
    answered_as _ _ _ _ (ap (λ (s : GdbState). gdb_stop_shown s [] b.end.why) c.in_ok-go_back.ensures.reported
    ∙ goals_sought g b all)
    (c.stand.ensures.reported after)

pub returns-clause-reported : goal.returns-clause-reported
returns-clause-reported c =
    let images = c.args.images.now in
    let after = c.search_further.new.images in
    let self = c.args.self.now in
    let g : GdbState = gdb_state self images in
    let b : BackSearch = c.args.so_far in
    let x : BackGoal = c.index.result.now in
    let within : b.goal < length c.in_ok-goals.goals.items = omega (arith, c.if-so_far-len.false) in
    let below = subst (λ (xs : List BackGoal). b.goal < length xs) (c.in_ok-goals.ensures images) within in
    let is : x ≡ get_or (back_goals g) b.goal x = c.index.ensures ∙ ap (λ (xs : List BackGoal). get_or xs b.goal x) (c.in_ok-goals.ensures images) in
    answered_as _ _ _ _ (ap (λ (t : List ℕ). asking (gdb_state self after) (under.Search c.in_ok-further.further) t) c.new.ensures
    ∙ ap (λ (xs : List Entry). asking (gdb_state self xs) (under.Search c.in_ok-further.further) []) c.in_ok-further.ensures.images
    ∙ ap (λ (s : BackSearch). asking g (under.Search s) []) c.in_ok-further.ensures.found
    ∙ goal_sought g b x below is)
    (c.ask.ensures.reported after)
