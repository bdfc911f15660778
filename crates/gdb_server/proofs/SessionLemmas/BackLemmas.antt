-- What requests that go back come to.
use Rattle.std.proofs.Common.{◌≡◌, ◌<◌, ◌≤◌, ◌+◌, ◌-◌, ℕ, zero, suc, Bool, true, false, List, [], ◌∷◌, length, get_or, drop, refl, ap, sym, ◌∙◌, arith}
use Rattle.std.specs.Prelude.{if◌then◌else◌}
use Rattle.std.proofs.lemmas.List.{drop_all, drop_more}
use Rattle.debug_session.specs.State.{ScriptState}
use Rattle.debug_session.specs.PastActs.{steps_of_acts}
use Rattle.debug_session.specs.Past.{PastState}
use Rattle.gdb_machine.specs.BackEnds.{search_begin}
use Rattle.gdb_machine.specs.declared.back_ends.BackGoal.{BackGoal}
use Rattle.gdb_machine.specs.declared.back_ends.BackSearch.{BackSearch}
use Rattle.gdb_machine.specs.declared.back_ends.UnderWay.TheVariants as under
use Rattle.gdb_machine.specs.declared.stops.GdbStop.{GdbStop}
use Rattle.gdb_machine.specs.declared.stops.GdbStop.TheVariants as reason
use Rattle.gdb_machine.specs.declared.watches.WatchedPlace.{WatchedPlace}
use Rattle.gdb_server.specs.session.Back.{back_goals, back_to_end, continue_back_from, continue_back_shown, gone_back_to, search_by, search_further, search_shown, step_back_after, step_back_from, step_back_shown, stepped_back, steps_back}
use Rattle.gdb_server.specs.session.Runs.{asking, break_here, gdb_stop_shown, stands_at_break, stop_here, unless_stepped}
use Rattle.gdb_server.specs.session.State.{GdbState}
use Rattle.gdb_server.specs.session.Steps.{is_other_list}

-- WHERE A STEP LEADS

pub breaks_here : (g : GdbState) → stands_at_break g ≡ true → break_here g ≡ stop_here g
breaks_here g is = by (stands_at_break g) is
  where
    by : (b : Bool) → b ≡ true → break_here g ≡ (if b then break_here g else reason.Stepped)
    by b is = rw is refl

pub steps_here : (g : GdbState) → stands_at_break g ≡ false → reason.Stepped ≡ stop_here g
steps_here g is = by (stands_at_break g) is
  where
    by : (b : Bool) → b ≡ false → reason.Stepped ≡ (if b then break_here g else reason.Stepped)
    by b is = rw is refl

pub not_stepped : (g : GdbState) (why : GdbStop) → (why ≡ reason.Stepped → ⊥) → why ≡ unless_stepped g why
not_stepped g reason.Stepped other = absurd (other refl)
not_stepped g (reason.Ran x) other = refl
not_stepped g reason.Asked other = refl
not_stepped g (reason.Watched place) other = refl
not_stepped g reason.Library other = refl
not_stepped g (reason.Killed f) other = refl
not_stepped g (reason.WatchedBack place) other = refl
not_stepped g reason.Begin other = refl
not_stepped g reason.End other = refl

-- A STEP BACK

pub steps_kept : (p : PastState) → p.is_kept ≡ true → steps_of_acts p.acts ≡ steps_back p
steps_kept p is = rw is refl

pub no_steps_kept : (p : PastState) → p.is_kept ≡ false → 0 ≡ steps_back p
no_steps_kept p is = rw is refl

pub gone_so : (g : GdbState) (s t : ScriptState) (p q : PastState) → s ≡ t → p ≡ q
    → record g { debug = record g.debug { script = s; past = p } } ≡ record g { debug = record g.debug { script = t; past = q } }
gone_so g s t p q script past = λ i. record g { debug = record g.debug { script = script i; past = past i } }

-- a step that is to be taken
back_anew : (g : GdbState) (why : GdbStop) → ((place : WatchedPlace) → why ≡ reason.WatchedBack place → ⊥)
    → step_back_from g (steps_back g.debug.past) ≡ step_back_after why g
back_anew g (reason.WatchedBack place) other = absurd (other place refl)
back_anew g reason.Stepped other = refl
back_anew g (reason.Ran x) other = refl
back_anew g reason.Asked other = refl
back_anew g (reason.Watched place) other = refl
back_anew g reason.Library other = refl
back_anew g (reason.Killed f) other = refl
back_anew g reason.Begin other = refl
back_anew g reason.End other = refl

pub stays_at_begin : (g : GdbState) (steps : ℕ) → ((place : WatchedPlace) → g.stop ≡ reason.WatchedBack place → ⊥)
    → steps ≡ steps_back g.debug.past → steps ≡ 0 → gdb_stop_shown g [] reason.Begin ≡ step_back_shown g
stays_at_begin g steps other is none =
    sym (ap (step_back_from g) (sym is ∙ none)) ∙ back_anew g g.stop other

pub steps_once : (g : GdbState) (steps : ℕ) → ((place : WatchedPlace) → g.stop ≡ reason.WatchedBack place → ⊥)
    → steps ≡ steps_back g.debug.past → 0 < steps → stepped_back g (gone_back_to g (steps - 1)) ≡ step_back_shown g
steps_once g steps other is some =
    let split : steps ≡ suc (steps - 1) = omega (arith, some) in
    sym (ap (step_back_from g) (sym is ∙ split)) ∙ back_anew g g.stop other

-- AS FAR AS SOMETHING STOPS IT

pub back_library : (g : GdbState) → is_other_list g.libraries g.debug.script ≡ true
    → gdb_stop_shown g [] reason.Library ≡ continue_back_shown g
back_library g is = rw is refl

same_list : (g : GdbState) → is_other_list g.libraries g.debug.script ≡ false
    → continue_back_from g (steps_back g.debug.past) ≡ continue_back_shown g
same_list g is = rw is refl

pub begins_there : (g : GdbState) (steps : ℕ) → is_other_list g.libraries g.debug.script ≡ false
    → steps ≡ steps_back g.debug.past → steps ≡ 0 → gdb_stop_shown g [] reason.Begin ≡ continue_back_shown g
begins_there g steps same is none =
    sym (ap (continue_back_from g) (sym is ∙ none)) ∙ same_list g same

pub searches_back : (g : GdbState) (steps : ℕ) → is_other_list g.libraries g.debug.script ≡ false
    → steps ≡ steps_back g.debug.past → 0 < steps
    → search_shown g (search_begin (length g.debug.past.acts)) ≡ continue_back_shown g
searches_back g steps same is some =
    let split : steps ≡ suc (steps - 1) = omega (arith, some) in
    sym (ap (continue_back_from g) (sym is ∙ split)) ∙ same_list g same

-- the next goal, or none that is left
pub goal_sought : (g : GdbState) (b : BackSearch) (x : BackGoal) → b.goal < length (back_goals g) → x ≡ get_or (back_goals g) b.goal x
    → asking g (under.Search (search_further g b x)) [] ≡ search_shown g b
goal_sought g b x below is =
    let rest : List BackGoal = drop (b.goal + 1) (back_goals g) in
    sym (ap (search_by g b) (drop_more (back_goals g) b.goal x below ∙ ap (λ (y : BackGoal). y ∷ rest) (sym is)))

pub goals_sought : (g : GdbState) (b : BackSearch) → length (back_goals g) ≤ b.goal → back_to_end g b.end ≡ search_shown g b
goals_sought g b over = sym (ap (search_by g b) (drop_all b.goal (back_goals g) over))
