use Rattle.std.proofs.Common.{ℕ, Option, sym, ap, ◌∙◌, arith}
use Rattle.command_shell_lines.proofs.HexLemmas.{with_pair, takes_two, no_pair, takes_pair, hex_steps}
use Rattle.command_shell_lines.proofs.hex_pairs.append_spelled.Goals as goal

pub returns-in_default-hex_pair : goal.returns-in_default-hex_pair
returns-in_default-hex_pair c =
    let l = c.loop-first in
    let first = c.in-Some in
    let second = c.in-Some-split_first in
    c.loop-first.invariant
    ∙ takes_two l.bytes.items l.rest.now first.others.now second.others.now first.first.now second.second.now
    first.ensures.cases.0 c.if-first-ne32.true second.ensures.cases.0
    ∙ ap (λ (o : Option ℕ). with_pair l.bytes.items o second.others.now) (sym c.hex_pair.ensures ∙ c.in_default-hex_pair.is)
    ∙ no_pair l.bytes.items second.others.now

pub loop-first-preserved-then-first-ne32 : goal.loop-first-preserved-then-first-ne32
loop-first-preserved-then-first-ne32 c =
    let l = c.loop-first in
    let first = c.in-Some in
    let second = c.in-Some-split_first in
    rw c.in_ok-push.ensures.items (c.loop-first.invariant
    ∙ takes_two l.bytes.items l.rest.now first.others.now second.others.now first.first.now second.second.now
    first.ensures.cases.0 c.if-first-ne32.true second.ensures.cases.0
    ∙ ap (λ (o : Option ℕ). with_pair l.bytes.items o second.others.now) (sym c.hex_pair.ensures ∙ c.in-Some-hex_pair.is)
    ∙ takes_pair l.bytes.items second.others.now c.in-Some-hex_pair.byte)

pub returns-in_default-split_first : goal.returns-in_default-split_first
returns-in_default-split_first c = grind (arith, hex_steps)

pub loop-first-preserved : goal.loop-first-preserved
loop-first-preserved c = grind (arith, hex_steps)

pub returns : goal.returns
returns c = grind (arith, hex_steps)
