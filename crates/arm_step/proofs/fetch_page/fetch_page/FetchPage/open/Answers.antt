use Rattle.std.proofs.Common.{refl, sym, ◌∙◌, arith}
use Rattle.arm_step.proofs.FetchPageLemmas.Opened.{opened}
use Rattle.arm_step.proofs.fetch_page.fetch_page.FetchPage.open.Goals as goal

pub returns-in-Some-clause-fetch_page : goal.returns-in-Some-clause-fetch_page
returns-in-Some-clause-fetch_page c =
    opened c.args.memory.now _ c.args.at (omega (arith, c.if-at-ge-POSITIONS.false)) refl c.if-address-eq-RETURN_GATE.false (sym c.translate.ensures ∙ c.in-Some.is)
