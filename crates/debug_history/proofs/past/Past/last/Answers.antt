use Rattle.std.proofs.Common.{◌≡◌, length, ap, subst, ◌∙◌}
use Rattle.std.specs.Prelude.{Option, IfOk}
use Rattle.debug_history.specs.declared.search.PastFound.{PastFound}
use Rattle.debug_history.proofs.ScanLemmas.{all_among}
use Rattle.debug_history.proofs.past.Past.last.Goals as goal

pub returns-clause-found : goal.returns-clause-found
returns-clause-found c =
    subst (λ (o : Option PastFound). IfOk c.last_among.result (λ (found : Option PastFound). found ≡ o))
    (all_among c.args.images.now c.args.config c.args.self.now.acts c.args.sought (length c.acts.result.now) (ap length c.acts.ensures))
    c.last_among.ensures.found
