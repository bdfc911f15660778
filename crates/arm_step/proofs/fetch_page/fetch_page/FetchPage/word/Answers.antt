use Rattle.std.proofs.Common.{arith}
use Rattle.arm_step.proofs.FetchPageLemmas.Opened.{place_small}
use Rattle.arm_step.proofs.fetch_page.fetch_page.FetchPage.word.Goals as goal

pub overflow_add-self : goal.overflow_add-self
overflow_add-self c = omega (arith, place_small c.args.memory.now c.args.self.now c.args.at c.requires.fetch_page c.requires.there c.requires.below)

pub returns-clause-gate : goal.returns-clause-gate
returns-clause-gate c = c.requires.fetch_page.gate c.args.at c.requires.there
