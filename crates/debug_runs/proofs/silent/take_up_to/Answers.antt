-- By the lemmas that are named.
use Rattle.std.proofs.Common.{◌≡◌, ◌++◌, ◌∷◌, ℕ, [], List, true, false, sym, ap, arith, ◌∙◌}
use Rattle.debug_tables.specs.Run.{is_among}
use Rattle.debug_tables.specs.Session.{script_state}
use Rattle.debug_tables.specs.State.{ScriptState}
use Rattle.debug_tables.specs.Stepping.{script_with_break}
use Rattle.debug_runs.proofs.BreakLemmas.{added, none_up_to, not_added, same_breaks, up_to_its_break}
use Rattle.debug_runs.proofs.silent.take_up_to.Goals as goal

pub returns-then-has-clause-taken : goal.returns-then-has-clause-taken
returns-then-has-clause-taken c images =
    let s = script_state c.args.session.now images in
    let ahead : is_among s.breaks c.args.address ≡ true =
    ap (λ (xs : List ℕ). is_among xs c.args.address) (sym c.breaks.ensures) ∙ (sym c.has.ensures ∙ c.if-has.true) in
    up_to_its_break c.args.address c.take_silent_steps.result.taken s (script_state c.take_silent_steps.new.self images)
    c.take_silent_steps.result.stop ahead (c.take_silent_steps.ensures.taken images)

pub returns-in-Ok-clause-taken : goal.returns-in-Ok-clause-taken
returns-in-Ok-clause-taken c images =
    let s = script_state c.args.session.now images in
    let mid = script_state c.insert_break.new.self images in
    let other : is_among s.breaks c.args.address ≡ false =
    ap (λ (xs : List ℕ). is_among xs c.args.address) (sym c.breaks.ensures) ∙ (sym c.has.ensures ∙ c.if-has.false) in
    let is = added _ s mid c.args.address other (c.in-Ok.ensures images) in
    same_breaks c.args.address c.take_to_break.result s mid (script_state c.take_to_break.new.session images) (s.breaks ++ c.args.address ∷ []) is
    (c.take_to_break.ensures.taken images s.breaks (ap (λ (w : ScriptState). w.breaks) is) other)

pub returns-in-Err-clause-taken : goal.returns-in-Err-clause-taken
returns-in-Err-clause-taken c images =
    let s = script_state c.args.session.now images in
    let mid = script_state c.insert_break.new.self images in
    none_up_to c.args.address s mid c.requires.unhalted (not_added (Unit {0}) s mid (script_with_break s c.args.address) c.in-Err.field-0 (c.in-Err.ensures images))

pub take_to_break-requires-clause-enough : goal.take_to_break-requires-clause-enough
take_to_break-requires-clause-enough c =
    let s = script_state c.args.session.now [] in
    let mid = script_state c.insert_break.new.self [] in
    let other : is_among s.breaks c.args.address ≡ false =
    ap (λ (xs : List ℕ). is_among xs c.args.address) (sym c.breaks.ensures) ∙ (sym c.has.ensures ∙ c.if-has.false) in
    let is = added _ s mid c.args.address other (c.in-Ok.ensures []) in
    let left = ap (λ (w : ScriptState). w.left) is in
    omega (arith, c.requires.enough, left)

pub take_to_break-requires-clause-unhalted : goal.take_to_break-requires-clause-unhalted
take_to_break-requires-clause-unhalted c =
    let s = script_state c.args.session.now [] in
    let mid = script_state c.insert_break.new.self [] in
    let other : is_among s.breaks c.args.address ≡ false =
    ap (λ (xs : List ℕ). is_among xs c.args.address) (sym c.breaks.ensures) ∙ (sym c.has.ensures ∙ c.if-has.false) in
    let is = added _ s mid c.args.address other (c.in-Ok.ensures []) in
    ap (λ (w : ScriptState). w.machine.halt) is ∙ c.requires.unhalted
