use Rattle.std.proofs.Common.{◌<◌, ◌∙◌, ◌++◌, List, Some, ap, arith, length, sym}
use Rattle.debug_history.specs.Cutting.{acts_behind, acts_cut}
use Rattle.debug_history.specs.Past.{acts_from, acts_until}
use Rattle.debug_history.specs.declared.act.Act.{Act}
use Rattle.debug_history.proofs.AheadLemmas.{count_between, count_within, cut_between}
use Rattle.debug_history.proofs.past.split_at.Goals as goal

pub returns-then-cut-eq0-clause-items : goal.returns-then-cut-eq0-clause-items
returns-then-cut-eq0-clause-items c =
    let acts : List Act = c.args.acts.now.items in
    let cut = c.in-Some.cut in
    let same = c.as_slice.ensures.value in
    let until = sym (ap (acts_until c.args.step) same) ∙ c.in-Some.ensures.until ∙ ap (λ (xs : List Act). acts_cut xs (Some cut)) same in
    let behind = sym (ap (acts_from c.args.step) same) ∙ c.in-Some.ensures.from ∙ ap (λ (xs : List Act). acts_behind xs (Some cut)) same in
    cut_between acts cut.index cut.left c.if-cut-eq0.true ∙ sym (λ i. (until i) ++ (behind i))

pub returns-then-cut-eq0-clause-count : goal.returns-then-cut-eq0-clause-count
returns-then-cut-eq0-clause-count c =
    let acts : List Act = c.args.acts.now.items in
    let cut = c.in-Some.cut in
    let same = c.as_slice.ensures.value in
    let within = c.in-Some.ensures.within in
    let many = ap length same in
    let below : cut.index < length acts = omega (arith, within, many) in
    let until = sym (ap (acts_until c.args.step) same) ∙ c.in-Some.ensures.until ∙ ap (λ (xs : List Act). acts_cut xs (Some cut)) same in
    count_between acts cut.index cut.left below c.if-cut-eq0.true ∙ ap length (sym until)

pub split_within-requires-clause-there : goal.split_within-requires-clause-there
split_within-requires-clause-there c =
    let within = c.in-Some.ensures.within in
    let many = ap length c.as_slice.ensures.value in
    omega (arith, within, many)

pub returns-clause-items : goal.returns-clause-items
returns-clause-items c =
    let cut = c.in-Some.cut in
    let same = c.as_slice.ensures.value in
    let until = sym (ap (acts_until c.args.step) same) ∙ c.in-Some.ensures.until ∙ ap (λ (xs : List Act). acts_cut xs (Some cut)) same in
    let behind = sym (ap (acts_from c.args.step) same) ∙ c.in-Some.ensures.from ∙ ap (λ (xs : List Act). acts_behind xs (Some cut)) same in
    c.in_ok-split_within.ensures.items ∙ sym (λ i. (until i) ++ (behind i))

pub returns-clause-count : goal.returns-clause-count
returns-clause-count c =
    let acts : List Act = c.args.acts.now.items in
    let cut = c.in-Some.cut in
    let same = c.as_slice.ensures.value in
    let within = c.in-Some.ensures.within in
    let many = ap length same in
    let below : cut.index < length acts = omega (arith, within, many) in
    let some = c.if-cut-eq0.false in
    let until = sym (ap (acts_until c.args.step) same) ∙ c.in-Some.ensures.until ∙ ap (λ (xs : List Act). acts_cut xs (Some cut)) same in
    count_within acts cut.index cut.left below (omega (arith, some)) ∙ ap length (sym until)
