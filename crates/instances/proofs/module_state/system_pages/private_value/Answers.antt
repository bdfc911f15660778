use Rattle.std.proofs.Common.{Ok, refl, sym, ap, ◌∙◌}
use Rattle.instances.proofs.ModuleStateLemmas.Writes.{private_is, private_loaded}
use Rattle.instances.proofs.module_state.system_pages.private_value.Goals as goal

pub unwrap-requires : goal.unwrap-requires
unwrap-requires c =
    let e = c.load_word.ensures ∙ private_loaded c.args.map.now c.args.slot c.private_word.result c.private_word.ensures c.requires.below c.requires.mapped in
    rw e refl

pub returns-clause-value : goal.returns-clause-value
returns-clause-value c =
    let e = sym c.unwrap.ensures ∙ c.load_word.ensures
    ∙ private_loaded c.args.map.now c.args.slot c.private_word.result c.private_word.ensures c.requires.below c.requires.mapped in
    cc

pub returns-clause-area_store : goal.returns-clause-area_store
returns-clause-area_store c = λ l.
    let e = sym c.unwrap.ensures ∙ c.load_word.ensures
    ∙ private_loaded c.args.map.now c.args.slot c.private_word.result c.private_word.ensures c.requires.below c.requires.mapped
    ∙ ap Ok (private_is c.args.map.now l c.args.slot) in
    cc
