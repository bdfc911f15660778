use Rattle.std.proofs.Common.{◌-◌, ◌≤◌, ℕ, sym, ◌∙◌, subst}
use Rattle.flex_store.specs.Places.{IsHeaderOf}
use Rattle.flex_store.specs.State.{blocks_of}
use Rattle.flex_store.proofs.Finding.{found, not_live}
use Rattle.flex_store.proofs.block.find_header.Goals as goal

pub returns-then-not-is_live : goal.returns-then-not-is_live
returns-then-not-is_live c = not_live c.args.map.now c.args.extent.now c.args.anchor c.requires (sym c.is_live.ensures ∙ c.if-not-is_live.true)

pub word-requires-clause-aligned : goal.word-requires-clause-aligned
word-requires-clause-aligned c = (found c.args.map.now c.args.extent.now c.args.anchor c.requires (sym c.is_live.ensures ∙ c.if-not-is_live.false)).aligned

pub word-requires-clause-mapped : goal.word-requires-clause-mapped
word-requires-clause-mapped c = (found c.args.map.now c.args.extent.now c.args.anchor c.requires (sym c.is_live.ensures ∙ c.if-not-is_live.false)).there

pub overflow_sub-result : goal.overflow_sub-result
overflow_sub-result c = subst (λ (n : ℕ). 8 ≤ n) (sym c.word.ensures) (found c.args.map.now c.args.extent.now c.args.anchor c.requires (sym c.is_live.ensures ∙ c.if-not-is_live.false)).above

pub returns : goal.returns
returns c =
    subst (λ (n : ℕ). IsHeaderOf c.args.extent.now.start c.args.anchor (blocks_of c.args.map.now c.args.extent.now) (n - 8)) (sym c.word.ensures)
    (found c.args.map.now c.args.extent.now c.args.anchor c.requires (sym c.is_live.ensures ∙ c.if-not-is_live.false)).header
