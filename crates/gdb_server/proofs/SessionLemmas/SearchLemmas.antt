-- Searches in pieces come to what one search comes to.
use Rattle.std.proofs.Common.{◌≡◌, ◌<◌, ◌≤◌, ◌+◌, ◌-◌, ℕ, zero, suc, Bool, false, List, [], ◌∷◌, length, take, drop, refl, ap, subst, sym, ◌∙◌, arith}
use Rattle.std.specs.Prelude.{Option, Some, None, map, min, unwrap_or, if◌then◌else◌}
use Rattle.std.specs.Option.{option_or}
use Rattle.std.proofs.Math.Seq.{take-length}
use Rattle.std.proofs.lemmas.Bool.Decides.{nat_tests}
use Rattle.debug_session.proofs.PastPieceLemmas.{found_in_pieces}
use Rattle.debug_session.specs.PastActs.{fresh_moment}
use Rattle.debug_session.specs.PastFound.{PastFound}
use Rattle.debug_session.specs.PastSearch.{last_found, units}
use Rattle.gdb_machine.specs.BackEnds.{first_met, is_met_before, met_first, piece_before, search_after, search_begin, the_begin}
use Rattle.gdb_machine.specs.declared.back_ends.ActRange.{ActRange}
use Rattle.gdb_machine.specs.declared.back_ends.BackEnd.{BackEnd}
use Rattle.gdb_machine.specs.declared.back_ends.BackGoal.{BackGoal}
use Rattle.gdb_machine.specs.declared.back_ends.BackSearch.{BackSearch}
use Rattle.gdb_machine.specs.declared.back_ends.UnderWay.{UnderWay}
use Rattle.gdb_machine.specs.declared.back_ends.UnderWay.TheVariants as under
use Rattle.gdb_machine.specs.declared.stops.GdbStop.{GdbStop}
use Rattle.gdb_machine.specs.declared.stops.GdbStop.TheVariants as reason
use Rattle.gdb_packets.specs.Requests.{ContinueBack, HostAnswer}
use Rattle.gdb_server.specs.session.Back.{back_goals, back_to_end, end_of_goal, end_found, found_among, gone_back_to, search_by, search_further, search_shown, sought_of, steps_back}
use Rattle.gdb_server.specs.session.Laws.{GdbSearchesAreOneSearch, after_answers}
use Rattle.gdb_server.specs.session.Requests.{gdb_answered}
use Rattle.gdb_server.specs.session.Runs.{libraries_after}
use Rattle.gdb_server.specs.session.State.{GdbAnswered, GdbState}
use Rattle.gdb_server.specs.session.Steps.{is_other_list}
use Rattle.gdb_server.proofs.SessionLemmas.BackLemmas.{searches_back}

-- LISTS

drop_next : {X : Type 0} (i : ℕ) (xs : List X) → drop (suc i) xs ≡ drop 1 (drop i xs)
drop_next zero [] = refl
drop_next zero (x ∷ xs) = refl
drop_next (suc i) [] = refl
drop_next (suc i) (x ∷ xs) = drop_next i xs

drop_rest : {X : Type 0} (i : ℕ) (xs : List X) (x : X) (others : List X) → drop i xs ≡ x ∷ others → drop (i + 1) xs ≡ others
drop_rest {X} i xs x others is =
    let e : i + 1 ≡ suc i = omega arith in
    ap (λ (n : ℕ). drop n xs) e ∙ drop_next i xs ∙ ap (drop 1) is

take_fewer : {X : Type 0} (n m : ℕ) (xs : List X) → n ≤ m → take n (take m xs) ≡ take n xs
take_fewer zero m xs h = refl
take_fewer (suc n) zero xs h = absurd (omega (arith, h))
take_fewer (suc n) (suc m) [] h = refl
take_fewer {X} (suc n) (suc m) (x ∷ xs) h =
    let less : n ≤ m = omega (arith, h) in
    ap (λ (ys : List X). x ∷ ys) (take_fewer n m xs less)

-- PIECES

-- after some answers the machine goes back to that end
abbrev Reaches : GdbState → BackSearch → BackEnd → Type 0
Reaches g b end = (count : ℕ) × (after_answers count (search_shown g b) ≡ back_to_end g end)

-- what is under way changes nothing of where a search comes to
libraries_so : (why : GdbStop) (g : GdbState) (way : Option UnderWay) → libraries_after why (record g { going = way }) ≡ libraries_after why g
libraries_so reason.Stepped g way = refl
libraries_so (reason.Ran x) g way = refl
libraries_so reason.Asked g way = refl
libraries_so (reason.Watched place) g way = refl
libraries_so reason.Library g way = refl
libraries_so (reason.Killed f) g way = refl
libraries_so (reason.WatchedBack place) g way = refl
libraries_so reason.Begin g way = refl
libraries_so reason.End g way = refl

end_so : (g : GdbState) (way : Option UnderWay) (end : BackEnd) → back_to_end (record g { going = way }) end ≡ back_to_end g end
end_so g way end =
    let a : GdbAnswered = back_to_end g end in
    ap (λ (l : List ℕ). record a { state = record a.state { libraries = l } })
    (libraries_so end.why (gone_back_to g end.step) way)

search_so : (g : GdbState) (way : Option UnderWay) (b : BackSearch) (goals : List BackGoal)
    → search_by (record g { going = way }) b goals ≡ search_by g b goals
search_so g way b [] = end_so g way b.end
search_so g way b (x ∷ others) = refl

answered_no : (g : GdbState) (b : BackSearch)
    → gdb_answered (record g { going = Some (under.Search b) }) (HostAnswer false) ≡ search_shown g b
unfolding gdb_answered
answered_no g b = search_so g (Some (under.Search b)) b (drop b.goal (back_goals g))

none_left : (g : GdbState) (b : BackSearch) → drop b.goal (back_goals g) ≡ [] → Reaches g b b.end
unfolding after_answers
none_left g b none = (0, ap (search_by g b) none)

piece_later : (g : GdbState) (b : BackSearch) (x : BackGoal) (others : List BackGoal) (end : BackEnd)
    → drop b.goal (back_goals g) ≡ x ∷ others → Reaches g (search_further g b x) end → Reaches g b end
unfolding after_answers
piece_later g b x others end some later = (
  suc later.0,
  ap (λ (xs : List BackGoal). after_answers (suc later.0) (search_by g b xs)) some
      ∙ ap (after_answers later.0) (answered_no g (search_further g b x)) ∙ later.1,
)

-- what is found of a goal among the first acts
abbrev found_until : GdbState → BackGoal → ℕ → Option PastFound
found_until g x until = last_found g.debug.script.images g.setting.config (sought_of x) (fresh_moment g.setting.config) 0
    (units (take until g.debug.past.acts))

abbrev end_until : GdbState → BackGoal → ℕ → BackEnd
end_until g x until = unwrap_or (end_found x (found_until g x until)) the_begin

found_split : (g : GdbState) (x : BackGoal) (from until : ℕ) → from ≤ until
    → found_until g x until ≡ option_or (found_among g x (record { from = from; until = until })) (found_until g x from)
found_split g x from until less =
    let acts = g.debug.past.acts in
    let images = g.debug.script.images in
    let config = g.setting.config in
    found_in_pieces images config acts (sought_of x) from until
    ∙ (λ i. option_or (found_among g x (record { from = from; until = until }))
    (last_found images config (sought_of x) (fresh_moment config) 0 (units (take_fewer from until acts less i))))

none_at_first : (g : GdbState) (x : BackGoal) → found_until g x 0 ≡ None
unfolding last_found
none_at_first g x = refl

begin_comes_last : (end : BackEnd) → met_first end the_begin ≡ end
begin_comes_last end = by (is_met_before the_begin end) (grind (arith, nat_tests))
  where
    by : (b : Bool) → b ≡ false → (if b then the_begin else end) ≡ end
    by b is = rw is refl

-- A goal is looked for in all pieces.
abbrev at_goal : ℕ → ℕ → BackEnd → BackSearch
at_goal i until end = record { goal = i; until = until; end = end }

-- from so many acts on the search comes to what it comes to at the next goal
abbrev GoesOn : GdbState → BackGoal → ℕ → BackEnd → BackEnd → ℕ → Type 0
GoesOn g x i end last until = Reaches g (at_goal (i + 1) (length g.debug.past.acts) (met_first end (end_until g x until))) last
    → Reaches g (at_goal i until end) last

piece_is : (until acts : ℕ) → until ≤ acts → piece_before until acts ≡ record { from = (until - (acts - until)) - 10; until = until }
piece_is until acts within =
    let e : min until acts ≡ until = grind (arith, nat_tests) in
    ap (λ (n : ℕ). record { from = (n - (acts - n)) - 10; until = n }) e

goal_step : (g : GdbState) (x : BackGoal) (others : List BackGoal) (i : ℕ) (end last : BackEnd) (until : ℕ)
    → drop i (back_goals g) ≡ x ∷ others → until ≤ length g.debug.past.acts
    → ((k : ℕ) → k < until → GoesOn g x i end last k) → GoesOn g x i end last until
goal_step g x others i end last until some within earlier later =
    let acts : ℕ = length g.debug.past.acts in
    let from : ℕ = (until - (acts - until)) - 10 in
    let less : from ≤ until = omega arith in
    let piece : ActRange = record { from = from; until = until } in
    piece_later g (at_goal i until end) x others last some
    (subst (λ (p : ActRange). Reaches g (search_after (at_goal i until end) p.from acts (end_found x (found_among g x p))) last)
    (sym (piece_is until acts within))
    (by (found_among g x piece) from (found_split g x from until less) refl less))
  where
    by : (o : Option PastFound) (from : ℕ) → found_until g x until ≡ option_or o (found_until g x from)
        → from ≡ (until - (length g.debug.past.acts - until)) - 10 → from ≤ until
        → Reaches g (search_after (at_goal i until end) from (length g.debug.past.acts) (end_found x o)) last
    by (Some f) from split is less =
        subst (λ (e : BackEnd). Reaches g (at_goal (i + 1) (length g.debug.past.acts) e) last)
        (ap (λ (o : Option PastFound). met_first end (unwrap_or (end_found x o) the_begin)) split) later
    by None zero split is less =
        subst (λ (e : BackEnd). Reaches g (at_goal (i + 1) (length g.debug.past.acts) e) last)
        (ap (λ (o : Option PastFound). met_first end (unwrap_or (end_found x o) the_begin)) (split ∙ none_at_first g x)
        ∙ begin_comes_last end) later
    by None (suc k) split is less =
        let fewer : suc k < until = omega (arith, is) in
        earlier (suc k) fewer
        (subst (λ (e : BackEnd). Reaches g (at_goal (i + 1) (length g.debug.past.acts) e) last)
        (ap (λ (o : Option PastFound). met_first end (unwrap_or (end_found x o) the_begin)) split) later)

goal_goes_on : (g : GdbState) (x : BackGoal) (others : List BackGoal) (i : ℕ) (end last : BackEnd) (most until : ℕ)
    → drop i (back_goals g) ≡ x ∷ others → until ≤ length g.debug.past.acts → until ≤ most → GoesOn g x i end last until
goal_goes_on g x others i end last zero until some within few =
    goal_step g x others i end last until some within (λ k less. absurd (omega (arith, few, less)))
goal_goes_on g x others i end last (suc most) until some within few =
    goal_step g x others i end last until some within
    (λ k less. goal_goes_on g x others i end last most k some (omega (arith, within, less)) (omega (arith, few, less)))

found_of_all : (g : GdbState) (x : BackGoal) → end_until g x (length g.debug.past.acts) ≡ end_of_goal g x
found_of_all g x =
    λ i. unwrap_or (end_found x (last_found g.debug.script.images g.setting.config (sought_of x)
    (fresh_moment g.setting.config) 0 (units (take-length g.debug.past.acts i)))) the_begin

goals_go_on : (g : GdbState) (goals : List BackGoal) (i : ℕ) (end : BackEnd) → drop i (back_goals g) ≡ goals
    → Reaches g (at_goal i (length g.debug.past.acts) end) (first_met end (map (end_of_goal g) goals))
unfolding first_met
goals_go_on g [] i end is = none_left g (at_goal i (length g.debug.past.acts) end) is
goals_go_on g (x ∷ others) i end is =
    let acts : ℕ = length g.debug.past.acts in
    let last : BackEnd = first_met (met_first end (end_of_goal g x)) (map (end_of_goal g) others) in
    let all : acts ≤ acts = omega arith in
    goal_goes_on g x others i end last acts acts is all all
    (subst (λ (e : BackEnd). Reaches g (at_goal (i + 1) acts (met_first end e)) last) (sym (found_of_all g x))
    (goals_go_on g others (i + 1) (met_first end (end_of_goal g x)) (drop_rest i (back_goals g) x others is)))

begun : (g : GdbState) (step : ℕ) → is_other_list g.libraries g.debug.script ≡ false → steps_back g.debug.past ≡ suc step
    → gdb_answered g ContinueBack ≡ search_shown g (search_begin (length g.debug.past.acts))
unfolding gdb_answered
begun g step same is =
    let some : 0 < suc step = omega arith in
    sym (searches_back g (suc step) same (sym is) some)

pub searches_are_one : GdbSearchesAreOneSearch
searches_are_one g step same is =
    let found = goals_go_on g (back_goals g) 0 the_begin refl in
    (found.0, ap (after_answers found.0) (begun g step same is) ∙ found.1)
