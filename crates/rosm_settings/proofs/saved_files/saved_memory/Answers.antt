use Rattle.std.proofs.Common.{sym, ◌∙◌}
use Rattle.rosm_settings.proofs.SavedFilesLemmas.{memory_named, more_words_behind, no_address, no_count, no_memory}
use Rattle.rosm_settings.proofs.saved_files.saved_memory.Goals as goal

pub returns-then-is_some-clause-none : goal.returns-then-is_some-clause-none
returns-then-is_some-clause-none c = λ line is. more_words_behind line c.args.address.now c.args.count.now c.args.path.now
    c.cut.result.0.now c.cut.result.1 c.cut.ensures.parts (sym c.is_some.ensures ∙ c.if-is_some.true) is

pub returns-in_default-clause-none : goal.returns-in_default-clause-none
returns-in_default-clause-none c = λ line is.
    no_address line c.args.address.now c.args.count.now c.args.path.now (sym c.number_of.ensures ∙ c.in_default.is) is

pub returns-in_default-count_up_to-clause-none : goal.returns-in_default-count_up_to-clause-none
returns-in_default-count_up_to-clause-none c = λ line is.
    no_count line c.args.address.now c.args.count.now c.args.path.now (sym c.count_up_to.ensures ∙ c.in_default-count_up_to.is) is

pub returns-in-Ok-clause-named : goal.returns-in-Ok-clause-named
returns-in-Ok-clause-named c = λ line is. memory_named line c.args.address.now c.args.count.now c.args.path.now
    c.cut.result.0.now c.in-Ok.file.now c.cut.result.1 c.in-Some.address c.in-Some-count_up_to.count c.cut.ensures.parts
    (sym c.is_some.ensures ∙ c.if-is_some.false) (sym c.number_of.ensures ∙ c.in-Some.is) (sym c.count_up_to.ensures ∙ c.in-Some-count_up_to.is)
    c.in-Ok.ensures.cases.0 c.in-Ok.ensures.cases.1 is

pub returns-in-Err-clause-none : goal.returns-in-Err-clause-none
returns-in-Err-clause-none c = λ line is. no_memory line c.args.address.now c.args.count.now c.args.path.now
    c.cut.result.0.now c.cut.result.1 c.cut.ensures.parts (sym c.is_some.ensures ∙ c.if-is_some.false)
    c.in-Err.ensures.cases.0 is
