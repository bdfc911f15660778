use Rattle.std.proofs.Common.{◌∙◌, List, ap, sym, true}
use Rattle.std.specs.Option.{option_copied}
use Rattle.debug_history.specs.declared.act.Act.{Act}
use Rattle.debug_history.proofs.PastLemmas.{last_anew, none_anew}
use Rattle.debug_history.proofs.past.ends_anew.Goals as goal

pub returns-in-Some : goal.returns-in-Some
returns-in-Some c =
    let acts : List Act = c.args.acts.now in
    let last = sym c.last.ensures.value ∙ ap option_copied c.in-Some.is in
    c.is_anew.ensures ∙ sym (last_anew acts _ true last)

pub returns-in-None : goal.returns-in-None
returns-in-None c =
    let acts : List Act = c.args.acts.now in
    none_anew acts true (sym c.last.ensures.value ∙ ap option_copied c.in-None.is)
