use Rattle.std.proofs.Common.{◌∙◌, ap, codes}
use Rattle.std.proofs.lemmas.Result.{IfOk-weaker}
use Rattle.clap.specs.Words.{with_rule}
use Rattle.rosm_settings.specs.command_line.Settings.{file_rule, option_rule, rosm}
use Rattle.rosm_settings.proofs.command_line.reading.command.Goals as goal

pub returns : goal.returns
unfolding rosm
returns c =
    let pages = c.in_ok-pages.ensures
    ∙ ap (λ a. with_rule a (option_rule (codes "pages") (codes "256"))) c.new-named.ensures.app in
    let app = c.in_ok-app.ensures ∙ ap (λ a. with_rule a (option_rule (codes "app") (codes "64"))) pages in
    let rma = c.in_ok-rma.ensures ∙ ap (λ a. with_rule a (option_rule (codes "rma") (codes "16"))) app in
    let budget = c.in_ok-budget.ensures
    ∙ ap (λ a. with_rule a (option_rule (codes "budget") (codes "1000000"))) rma in
    IfOk-weaker c.with_files.result _ _ (λ r h. h ∙ ap (λ a. with_rule a file_rule) budget) c.with_files.ensures
