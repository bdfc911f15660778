use Rattle.std.proofs.lemmas.Bool.Decides.{Decides-eqb}
use Rattle.std.proofs.lemmas.Slice.Eq.{slice_eq-Decides}
use Rattle.arm_step.specs.Memory.{bytes_of}
use Rattle.trace_effects.proofs.ShownWordsLemmas.WordLemmas.{both_unmapped, same_page}
use Rattle.trace_effects.proofs.shown_words.words.has_alike_page.Goals as goal

pub returns-in-Some-new : goal.returns-in-Some-new
returns-in-Some-new c alike =
    same_page (bytes_of c.args.before.now) (bytes_of c.args.after.now) c.args.page c.in-Some.old.now c.in-Some-new.new.now
    c.in-Some.ensures c.in-Some-new.ensures ((slice_eq-Decides Decides-eqb _ _ _ c.eq.ensures).0 alike)

pub returns-in-None-new-2 : goal.returns-in-None-new-2
returns-in-None-new-2 c alike = both_unmapped c.args.before.now c.args.after.now c.args.page c.requires c.in-None.ensures c.in-None-new-2.ensures
