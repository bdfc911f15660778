use Rattle.std.proofs.Common.{◌≡◌, ◌-◌}
use Rattle.assembler_text.specs.naming.Expressions.{more_terms}
use Rattle.assembler_text.specs.naming.Labels.{address_of}
use Rattle.assembler_text.proofs.naming.expressions.more_terms.Given as goal

-- the terms that are left, after the sum so far
abbrev pub invariant-loop-terms : goal.invariant-loop-terms
invariant-loop-terms l =
    more_terms (l.count - l._terms) (address_of l.labels) l.sum l.rest ≡ more_terms l.count (address_of l.labels) l.fn.first l.text
