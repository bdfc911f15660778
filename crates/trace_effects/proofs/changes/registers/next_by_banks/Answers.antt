use Rattle.std.proofs.Common.{◌≡◌, ◌∙◌, max, ap, sym, arith}
use Rattle.trace_effects.specs.changes.Registers.{changes_below}
use Rattle.trace_effects.proofs.ChangesLemmas.ChangeLemmas.{fast_bank, interrupt_bank, next_at_last, next_further, none_further, supervisor_bank, user_bank}
use Rattle.trace_effects.proofs.changes.registers.next_by_banks.Goals as goal

pub next_in_bank-users-requires-clause-bank : goal.next_in_bank-users-requires-clause-bank
next_in_bank-users-requires-clause-bank c = user_bank

pub next_in_bank-fast-requires-clause-bank : goal.next_in_bank-fast-requires-clause-bank
next_in_bank-fast-requires-clause-bank c = fast_bank

pub next_in_bank-interrupts-requires-clause-bank : goal.next_in_bank-interrupts-requires-clause-bank
next_in_bank-interrupts-requires-clause-bank c = interrupt_bank

pub next_in_bank-requires-clause-bank : goal.next_in_bank-requires-clause-bank
next_in_bank-requires-clause-bank c = supervisor_bank

pub returns-then-is_some : goal.returns-then-is_some
returns-then-is_some c =
    let f = c.args.before.now.file in
    let g = c.args.after.now.file in
    let from = c.args.from in
    let start : max from 0 ≡ from = omega arith in
    next_further f g from (max from 0) (max from 15) 26 c.next_in_bank-users.result (ap (changes_below f g) start) (omega arith)
    (omega (arith, c.requires)) c.next_in_bank-users.ensures (sym c.is_some.ensures ∙ c.if-is_some.true)

pub returns-then-is_some-2 : goal.returns-then-is_some-2
returns-then-is_some-2 c =
    let f = c.args.before.now.file in
    let g = c.args.after.now.file in
    let from = c.args.from in
    let start : max from 0 ≡ from = omega arith in
    let users : changes_below f g (max from 15) ≡ changes_below f g from =
    none_further f g (max from 0) (max from 15) c.next_in_bank-users.result c.next_in_bank-users.ensures (sym c.is_some.ensures ∙ c.if-is_some.false)
    ∙ ap (changes_below f g) start in
    next_further f g from (max from 15) (max from 22) 26 c.next_in_bank-fast.result users (omega arith) (omega (arith, c.requires))
    c.next_in_bank-fast.ensures (sym c.is_some-2.ensures ∙ c.if-is_some-2.true)

pub returns-then-is_some-3 : goal.returns-then-is_some-3
returns-then-is_some-3 c =
    let f = c.args.before.now.file in
    let g = c.args.after.now.file in
    let from = c.args.from in
    let start : max from 0 ≡ from = omega arith in
    let users : changes_below f g (max from 15) ≡ changes_below f g from =
    none_further f g (max from 0) (max from 15) c.next_in_bank-users.result c.next_in_bank-users.ensures (sym c.is_some.ensures ∙ c.if-is_some.false)
    ∙ ap (changes_below f g) start in
    let fast : changes_below f g (max from 22) ≡ changes_below f g from =
    none_further f g (max from 15) (max from 22) c.next_in_bank-fast.result c.next_in_bank-fast.ensures (sym c.is_some-2.ensures ∙ c.if-is_some-2.false)
    ∙ users in
    next_further f g from (max from 22) (max from 24) 26 c.next_in_bank-interrupts.result fast (omega arith) (omega (arith, c.requires))
    c.next_in_bank-interrupts.ensures (sym c.is_some-3.ensures ∙ c.if-is_some-3.true)

pub returns : goal.returns
returns c =
    let f = c.args.before.now.file in
    let g = c.args.after.now.file in
    let from = c.args.from in
    let start : max from 0 ≡ from = omega arith in
    let users : changes_below f g (max from 15) ≡ changes_below f g from =
    none_further f g (max from 0) (max from 15) c.next_in_bank-users.result c.next_in_bank-users.ensures (sym c.is_some.ensures ∙ c.if-is_some.false)
    ∙ ap (changes_below f g) start in
    let fast : changes_below f g (max from 22) ≡ changes_below f g from =
    none_further f g (max from 15) (max from 22) c.next_in_bank-fast.result c.next_in_bank-fast.ensures (sym c.is_some-2.ensures ∙ c.if-is_some-2.false)
    ∙ users in
    let interrupts : changes_below f g (max from 24) ≡ changes_below f g from =
    none_further f g (max from 22) (max from 24) c.next_in_bank-interrupts.result c.next_in_bank-interrupts.ensures
    (sym c.is_some-3.ensures ∙ c.if-is_some-3.false)
    ∙ fast in
    next_at_last f g from (max from 24) (max from 26) 26 c.next_in_bank.result interrupts (omega arith) (omega (arith, c.requires))
    c.next_in_bank.ensures
