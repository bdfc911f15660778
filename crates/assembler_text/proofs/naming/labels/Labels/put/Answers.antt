use Rattle.std.proofs.Common.{◌≡◌, ◌++◌, ◌∷◌, [], None, ℕ, List, Bor, ap, subst, sym, ◌∙◌}
use Rattle.std.specs.Prelude.{bytes_eq}
use Rattle.indexmap.specs.IndexMap.{insert_entry}
use Rattle.assembler_text.specs.naming.Labels.{Entries, address_of, named_entries}
use Rattle.assembler_text.proofs.NamingLemmas.Entries.{put_last}
use Rattle.assembler_text.proofs.naming.labels.Labels.put.Goals as goal

pub returns-clause-put : goal.returns-clause-put
unfolding address_of
returns-clause-put c =
    let e : c.insert.new.self.entries ≡ insert_entry (λ (a b : Bor (List ℕ)). bytes_eq a.now b.now) c.self.inside.map.entries c.args.name c.args.address =
    c.in-Ok.ensures.entries in
    let absent : address_of (named_entries c.self.inside.map.entries) c.args.name.now ≡ None =
    subst (λ (es : Entries). address_of es c.args.name.now ≡ None) (sym c.self.view_is) c.requires in
    ap named_entries e ∙ put_last c.args.name c.args.address c.self.inside.map.entries absent
    ∙ ap (λ (es : Entries). es ++ (c.args.name.now, c.args.address) ∷ []) c.self.view_is
