use Rattle.std.proofs.Common.{◌≡◌, ℕ, List, Option, None, Some, map, option_map, string_bytes, sym, ap, ◌∙◌}
use Rattle.std.proofs.lemmas.Result.{IfOk-weaker}
use denote.Ref.{Bor}
use Rattle.rosm_settings.specs.gdb.Options.{last_gdb_word, machine_words, machine_words_from, start_path_wanted, start_paths_from, stays_from}
use Rattle.rosm_settings.specs.declared.gdb.options.GdbWord.TheVariants as taken
use Rattle.rosm_settings.proofs.GdbLemmas.WordLemmas.{asks_by_parts, most_by_parts, path_by_parts, refused_by_parts, refused_by_script}
use Rattle.rosm_settings.proofs.gdb.words.wanted_of.Goals as goal

pub returns-in_default-clause-refused : goal.returns-in_default-clause-refused
returns-in_default-clause-refused c =
    let words : List (List ℕ) = map string_bytes c.args.words.now in
    let lent : List (Bor (List ℕ)) → List (List ℕ) = λ ws. map (λ (w : Bor (List ℕ)). w.now) ws in
    let asked : lent c.as_slice.result.now ≡ words = ap lent c.as_slice.ensures.value ∙ c.in_ok-texts.ensures in
    refused_by_script words c.refused_line.result
    (path_by_parts words (lent c.in_ok-parted.parted.paths.items) c.in_ok-parted.parted.next None
    (sym (ap (λ (r : Option (Option (Bor (List ℕ)))). option_map (option_map (λ (w : Bor (List ℕ)). w.now)) r) c.in_default.is)
    ∙ c.path_of.ensures)
    (c.in_ok-parted.ensures.paths ∙ ap (start_paths_from taken.Option) asked)
    (c.in_ok-parted.ensures.next ∙ ap (last_gdb_word taken.Option) asked))
    c.refused_line.ensures

pub returns-clause-asks : goal.returns-clause-asks
returns-clause-asks c =
    let words : List (List ℕ) = map string_bytes c.args.words.now in
    let lent : List (Bor (List ℕ)) → List (List ℕ) = λ ws. map (λ (w : Bor (List ℕ)). w.now) ws in
    let asked : lent c.as_slice.result.now ≡ words = ap lent c.as_slice.ensures.value ∙ c.in_ok-texts.ensures in
    let others : lent c.in_ok-parted.parted.others.items ≡ machine_words words =
    c.in_ok-parted.ensures.others ∙ ap (machine_words_from taken.Option) asked in
    let path : Option (List ℕ) = option_map (λ (w : Bor (List ℕ)). w.now) c.in-Some.path in
    let some : Some path ≡ start_path_wanted words =
    path_by_parts words (lent c.in_ok-parted.parted.paths.items) c.in_ok-parted.parted.next (Some path)
    (sym (ap (λ (r : Option (Option (Bor (List ℕ)))). option_map (option_map (λ (w : Bor (List ℕ)). w.now)) r) c.in-Some.is)
    ∙ c.path_of.ensures)
    (c.in_ok-parted.ensures.paths ∙ ap (start_paths_from taken.Option) asked)
    (c.in_ok-parted.ensures.next ∙ ap (last_gdb_word taken.Option) asked) in
    asks_by_parts words _ c.wanted_with.result others path some c.wanted_with.ensures.script c.wanted_with.ensures.settings

pub returns-clause-most : goal.returns-clause-most
returns-clause-most c =
    let words : List (List ℕ) = map string_bytes c.args.words.now in
    let lent : List (Bor (List ℕ)) → List (List ℕ) = λ ws. map (λ (w : Bor (List ℕ)). w.now) ws in
    let asked : lent c.as_slice.result.now ≡ words = ap lent c.as_slice.ensures.value ∙ c.in_ok-texts.ensures in
    let others : lent c.in_ok-parted.parted.others.items ≡ machine_words words =
    c.in_ok-parted.ensures.others ∙ ap (machine_words_from taken.Option) asked in
    most_by_parts words _ c.wanted_with.result others c.wanted_with.ensures.most

pub returns-clause-stays : goal.returns-clause-stays
returns-clause-stays c =
    let words : List (List ℕ) = map string_bytes c.args.words.now in
    let lent : List (Bor (List ℕ)) → List (List ℕ) = λ ws. map (λ (w : Bor (List ℕ)). w.now) ws in
    let asked : lent c.as_slice.result.now ≡ words = ap lent c.as_slice.ensures.value ∙ c.in_ok-texts.ensures in
    IfOk-weaker c.wanted_with.result _ _
    (λ wanted is. is ∙ c.in_ok-parted.ensures.stays ∙ ap (stays_from taken.Option) asked) c.wanted_with.ensures.stays

pub returns-clause-refused : goal.returns-clause-refused
returns-clause-refused c =
    let words : List (List ℕ) = map string_bytes c.args.words.now in
    let lent : List (Bor (List ℕ)) → List (List ℕ) = λ ws. map (λ (w : Bor (List ℕ)). w.now) ws in
    let asked : lent c.as_slice.result.now ≡ words = ap lent c.as_slice.ensures.value ∙ c.in_ok-texts.ensures in
    let others : lent c.in_ok-parted.parted.others.items ≡ machine_words words =
    c.in_ok-parted.ensures.others ∙ ap (machine_words_from taken.Option) asked in
    let path : Option (List ℕ) = option_map (λ (w : Bor (List ℕ)). w.now) c.in-Some.path in
    let some : Some path ≡ start_path_wanted words =
    path_by_parts words (lent c.in_ok-parted.parted.paths.items) c.in_ok-parted.parted.next (Some path)
    (sym (ap (λ (r : Option (Option (Bor (List ℕ)))). option_map (option_map (λ (w : Bor (List ℕ)). w.now)) r) c.in-Some.is)
    ∙ c.path_of.ensures)
    (c.in_ok-parted.ensures.paths ∙ ap (start_paths_from taken.Option) asked)
    (c.in_ok-parted.ensures.next ∙ ap (last_gdb_word taken.Option) asked) in
    refused_by_parts words _ c.wanted_with.result others path some c.wanted_with.ensures.refused
