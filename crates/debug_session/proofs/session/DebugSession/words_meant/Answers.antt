-- By the line with numbers, where it means nothing as it is.
use Rattle.std.proofs.Common.{◌≡◌, ◌∙◌, Bool, List, ap, false, subst, sym, ℕ}
use Rattle.std.specs.Prelude.{IfOk, if◌then◌else◌}
use Rattle.debug_lines.specs.DebugRequests.{is_known, simple_request}
use Rattle.debug_session.specs.Naming.{naming_of, numbered_line}
use Rattle.debug_session.specs.Session.{debug_state}
use Rattle.debug_session.proofs.session.DebugSession.words_meant.Goals as goal

pub returns : goal.returns
returns c images =
    let n = naming_of (debug_state c.args.self.now images) in
    let words = c.args.words.now in
    let unknown : is_known (simple_request words) ≡ false = sym c.is_known_line.ensures ∙ c.if-is_known_line.false in
    subst (λ (xs : List ℕ). IfOk c.with_numbers.result (λ meant. meant.items ≡ xs))
    (sym (ap (λ (b : Bool). if b then words else numbered_line n words) unknown)) (c.with_numbers.ensures images)
