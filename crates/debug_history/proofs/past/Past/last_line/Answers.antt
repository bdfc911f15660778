use Rattle.std.proofs.Common.{◌-◌, ◌∙◌, List, None, ap, length, sym}
use Rattle.std.specs.List.{slice_get}
use Rattle.std.specs.Option.{option_copied}
use Rattle.debug_history.specs.declared.act.Act.{Act}
use Rattle.debug_history.proofs.PastLemmas.{last_line, no_line}
use Rattle.debug_history.proofs.past.Past.last_line.Goals as goal

pub returns-in_err-last : goal.returns-in_err-last
returns-in_err-last c =
    let acts : List Act = c.args.self.now.acts in
    let same = ap (λ (xs : List Act). slice_get xs (length xs - 1)) c.acts.ensures in
    c.from_residual.ensures ∙ no_line acts (sym same ∙ sym c.last.ensures.value ∙ ap option_copied c.in_err-last.was)

pub returns : goal.returns
returns c =
    let acts : List Act = c.args.self.now.acts in
    let same = ap (λ (xs : List Act). slice_get xs (length xs - 1)) c.acts.ensures in
    sym (last_line acts _ None (sym same ∙ sym c.last.ensures.value ∙ ap option_copied c.in_ok-last.was))
