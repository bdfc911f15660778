use Rattle.std.proofs.Common.{◌≡◌, ℕ, List, [], replicate, ap, ◌∙◌, arith}
use Rattle.debug_tables.proofs.CountsLemmas.CountLemmas.{no_pages_are}
use Rattle.debug_tables.proofs.counts.counts.no_pages.Goals as goal

pub returns : goal.returns
returns c =
    let all : c.loop-page._page ≡ 16384 = omega (arith, c.loop-page-test.false) in
    c.loop-page.invariant ∙ ap (λ (n : ℕ). replicate {A = List ℕ} n []) all ∙ no_pages_are
