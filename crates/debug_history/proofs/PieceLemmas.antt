-- A past is searched in pieces: what is found is what is found last.
use Rattle.std.proofs.Common.{◌≡◌, ◌≤◌, ℕ, Bool, true, false, zero, suc, ◌+◌, ◌&&◌, ◌==◌, Option, None, List, [], ◌∷◌, ◌++◌, take, drop, refl, sym, ◌∙◌, ap, arith}
use Rattle.std.specs.Option.{option_or}
use Rattle.std.proofs.lemmas.Grind.{flat_map-append}
use Rattle.std.proofs.lemmas.List.{take-append-drop}
use Rattle.profile.specs.images.Entries.{Entry}
use Rattle.command_shell_lines.specs.declared.debug_words.stubs.Stub.{Stub}
use Rattle.profile.specs.Sizes.{Sizes}
use Rattle.debug_history.specs.Acts.{PastMoment, fresh_moment, moment_after_acts, moment_after_deed, moment_after_steps, steps_of_acts}
use Rattle.debug_history.specs.Search.{last_among, last_found, single_steps, units, units_of, units_of_act}
use Rattle.debug_history.specs.Steps.{steps_after}
use Rattle.debug_history.specs.declared.act.Act.{Act}
use Rattle.debug_history.specs.declared.act.PastDeed.{PastDeed}
use Rattle.debug_history.specs.declared.act.PastDeed.TheVariants as deed
use Rattle.debug_history.specs.declared.search.PastFound.{PastFound}
use Rattle.debug_history.specs.declared.search.Sought.{Sought}
use Rattle.debug_history.proofs.ActLemmas.{acts_joined}
use Rattle.debug_history.proofs.ScanLemmas.{last_joined, units_count}
use Rattle.debug_history.proofs.StepLemmas.{never_none, none_left}

-- steps one by one lead where all of them lead
fresh_no_more : (fresh : Bool) (k : ℕ) → ((fresh && (1 == 0)) && (k == 0)) ≡ (fresh && (suc k == 0))
fresh_no_more false k = refl
fresh_no_more true k = sym (never_none k)

step_first : (stubs : List Stub) (images : List Entry) (k : ℕ) (m : PastMoment)
    → moment_after_steps stubs images k (moment_after_steps stubs images 1 m) ≡ moment_after_steps stubs images (suc k) m
unfolding steps_after
step_first stubs images k m = ap (λ (b : Bool). record { machine = steps_after stubs images (suc k) m.machine; is_fresh = b }) (fresh_no_more m.is_fresh k)

singles_lead : (images : List Entry) (sizes : Sizes) (line : ℕ) (stubs : List Stub) (count : ℕ) (m : PastMoment)
    → moment_after_acts images sizes (single_steps line stubs count) m ≡ moment_after_steps stubs images count m
unfolding moment_after_acts single_steps
singles_lead images sizes line stubs zero m = sym (none_left stubs images m)
singles_lead images sizes line stubs (suc k) m =
    singles_lead images sizes line stubs k (moment_after_steps stubs images 1 m) ∙ step_first stubs images k m

unit_leads : (images : List Entry) (sizes : Sizes) (line : ℕ) (d : PastDeed) (m : PastMoment)
    → moment_after_acts images sizes (units_of line d) m ≡ moment_after_deed images sizes d m
unfolding moment_after_acts
unit_leads images sizes line (deed.Steps stubs count) m = singles_lead images sizes line stubs count m
unit_leads images sizes line d m = refl

units_lead : (images : List Entry) (sizes : Sizes) (acts : List Act) (m : PastMoment)
    → moment_after_acts images sizes (units acts) m ≡ moment_after_acts images sizes acts m
unfolding moment_after_acts
units_lead images sizes [] m = refl
units_lead images sizes (act ∷ rest) m =
    acts_joined images sizes (units_of_act act) (units rest) m
    ∙ ap (moment_after_acts images sizes (units rest)) (unit_leads images sizes act.line act.deed m)
    ∙ units_lead images sizes rest (moment_after_deed images sizes act.deed m)

-- of the acts up to one: the last of those from another on, or else of those before that
pub found_in_pieces : (images : List Entry) (sizes : Sizes) (acts : List Act) (x : Sought) (from until : ℕ)
    → let start = fresh_moment sizes in let done = take until acts in
    last_found images sizes x start 0 (units done)
    ≡ option_or (last_among images sizes acts x from until) (last_found images sizes x start 0 (units (take from done)))
found_in_pieces images sizes acts x from until =
    let start : PastMoment = fresh_moment sizes in
    let done : List Act = take until acts in
    let before : List Act = take from done in
    let part : List Act = drop from done in
    let split = ap units (sym (take-append-drop from done)) ∙ flat_map-append units_of_act before part in
    let counted : 0 + steps_of_acts (units before) ≡ steps_of_acts before = (let e = units_count before in omega (arith, e)) in
    ap (last_found images sizes x start 0) split
    ∙ last_joined images sizes x start 0 (units before) (units part)
    ∙ (λ i. option_or (last_found images sizes x (units_lead images sizes before start i) (counted i) (units part))
    (last_found images sizes x start 0 (units before)))
