-- The words that are left to be looked at, one after another.
use Rattle.std.proofs.Common.{◌≡◌, ◌≤◌, ◌<◌, ◌+◌, ℕ, Bool, true, false, ◌||◌, ◌++◌, ◌∷◌, List, [], length, get_or, drop, map, refl, sym, ap, append-nil, append_assoc, ◌∙◌}
use Rattle.std.specs.Prelude.{codes, if◌then◌else◌}
use Rattle.std.specs.Str.{bytes_eq}
use Rattle.std.proofs.lemmas.List.{at_drop_more, at_drop_all}
use denote.Ref.{Bor}
use Rattle.rosm_settings.specs.gdb.Options.{any_sets_budget, asks_to_stay, sets_budget, stays_from, and_machine_word, and_start_path, gdb_word_after, is_machine_word, is_start_path, last_gdb_word, machine_words_from, start_paths_from}
use Rattle.rosm_settings.specs.declared.gdb.options.GdbWord.{GdbWord}
use Rattle.rosm_settings.specs.declared.gdb.options.GdbWord.TheVariants as taken

abbrev word_texts : List (Bor (List ℕ)) → List (List ℕ)
word_texts words = map (λ (w : Bor (List ℕ)). w.now) words

pub paths_more : (t : GdbWord) (words : List (Bor (List ℕ))) (place : ℕ) (d : Bor (List ℕ)) → place < length words
    → start_paths_from t (word_texts (drop place words))
    ≡ and_start_path t (get_or words place d).now
    (start_paths_from (gdb_word_after t (get_or words place d).now) (word_texts (drop (place + 1) words)))
paths_more t words place d within = at_drop_more (λ (ws : List (Bor (List ℕ))). start_paths_from t (word_texts ws)) words place d within

pub paths_end : (t : GdbWord) (words : List (Bor (List ℕ))) (place : ℕ) → length words ≤ place
    → start_paths_from t (word_texts (drop place words)) ≡ []
paths_end t words place all = at_drop_all (λ (ws : List (Bor (List ℕ))). start_paths_from t (word_texts ws)) words place all

pub machine_more : (t : GdbWord) (words : List (Bor (List ℕ))) (place : ℕ) (d : Bor (List ℕ)) → place < length words
    → machine_words_from t (word_texts (drop place words))
    ≡ and_machine_word (is_machine_word t (get_or words place d).now) (get_or words place d).now
    (machine_words_from (gdb_word_after t (get_or words place d).now) (word_texts (drop (place + 1) words)))
machine_more t words place d within = at_drop_more (λ (ws : List (Bor (List ℕ))). machine_words_from t (word_texts ws)) words place d within

pub machine_end : (t : GdbWord) (words : List (Bor (List ℕ))) (place : ℕ) → length words ≤ place
    → machine_words_from t (word_texts (drop place words)) ≡ []
machine_end t words place all = at_drop_all (λ (ws : List (Bor (List ℕ))). machine_words_from t (word_texts ws)) words place all

pub last_more : (t : GdbWord) (words : List (Bor (List ℕ))) (place : ℕ) (d : Bor (List ℕ)) → place < length words
    → last_gdb_word t (word_texts (drop place words))
    ≡ last_gdb_word (gdb_word_after t (get_or words place d).now) (word_texts (drop (place + 1) words))
last_more t words place d within = at_drop_more (λ (ws : List (Bor (List ℕ))). last_gdb_word t (word_texts ws)) words place d within

pub last_end : (t : GdbWord) (words : List (Bor (List ℕ))) (place : ℕ) → length words ≤ place
    → last_gdb_word t (word_texts (drop place words)) ≡ t
last_end t words place all = at_drop_all (λ (ws : List (Bor (List ℕ))). last_gdb_word t (word_texts ws)) words place all

or_so : (a b c : Bool) → (a || b) || c ≡ a || (b || c)
or_so true b c = refl
or_so false b c = refl

pub stays_more : (stays : Bool) (t : GdbWord) (words : List (Bor (List ℕ))) (place : ℕ) (d : Bor (List ℕ)) → place < length words
    → (stays || asks_to_stay t (get_or words place d).now)
    || stays_from (gdb_word_after t (get_or words place d).now) (word_texts (drop (place + 1) words))
    ≡ stays || stays_from t (word_texts (drop place words))
stays_more stays t words place d within =
    or_so stays (asks_to_stay t (get_or words place d).now)
    (stays_from (gdb_word_after t (get_or words place d).now) (word_texts (drop (place + 1) words)))
    ∙ ap (λ (b : Bool). stays || b)
    (sym (at_drop_more (λ (ws : List (Bor (List ℕ))). stays_from t (word_texts ws)) words place d within))

pub stays_end : (t : GdbWord) (words : List (Bor (List ℕ))) (place : ℕ) → length words ≤ place
    → stays_from t (word_texts (drop place words)) ≡ false
stays_end t words place all = at_drop_all (λ (ws : List (Bor (List ℕ))). stays_from t (word_texts ws)) words place all

and_word_behind : (b : Bool) (old : List (List ℕ)) (word : List ℕ) (rest : List (List ℕ))
    → (old ++ and_machine_word b word []) ++ rest ≡ old ++ and_machine_word b word rest
and_word_behind true old word rest = append_assoc old (word ∷ []) rest
and_word_behind false old word rest = ap (λ (ws : List (List ℕ)). ws ++ rest) (append-nil old)

path_is_word : (t : GdbWord) (word : List ℕ) (rest : List (List ℕ))
    → and_machine_word (is_start_path t) word rest ≡ and_start_path t word rest
path_is_word taken.Path word rest = refl
path_is_word taken.Option word rest = refl
path_is_word taken.File word rest = refl

-- what is shown of all words stays the same when the next one is put where it belongs
module _ (t after : GdbWord) (words : List (Bor (List ℕ))) (place : ℕ) (d : Bor (List ℕ)) (within : place < length words)
    (of_after : after ≡ gdb_word_after t (get_or words place d).now) where
  pub paths_kept : (old new all : List (List ℕ)) (b : Bool) → b ≡ is_start_path t
      → new ≡ old ++ and_machine_word b (get_or words place d).now []
      → old ++ start_paths_from t (word_texts (drop place words)) ≡ all
      → new ++ start_paths_from after (word_texts (drop (place + 1) words)) ≡ all
  paths_kept old new all b of_b of_new kept =
      let word : List ℕ = (get_or words place d).now in
      let rest : List (List ℕ) = start_paths_from (gdb_word_after t word) (word_texts (drop (place + 1) words)) in
      ap (λ (ws : List (List ℕ)). ws ++ start_paths_from after (word_texts (drop (place + 1) words))) of_new
      ∙ ap (λ (n : GdbWord). (old ++ and_machine_word b word []) ++ start_paths_from n (word_texts (drop (place + 1) words))) of_after
      ∙ and_word_behind b old word rest
      ∙ ap (λ (x : Bool). old ++ and_machine_word x word rest) of_b
      ∙ ap (λ (ws : List (List ℕ)). old ++ ws) (path_is_word t word rest ∙ sym (paths_more t words place d within)) ∙ kept

  pub machine_kept : (old new all : List (List ℕ)) (b : Bool) → b ≡ is_machine_word t (get_or words place d).now
      → new ≡ old ++ and_machine_word b (get_or words place d).now []
      → old ++ machine_words_from t (word_texts (drop place words)) ≡ all
      → new ++ machine_words_from after (word_texts (drop (place + 1) words)) ≡ all
  machine_kept old new all b of_b of_new kept =
      let word : List ℕ = (get_or words place d).now in
      let rest : List (List ℕ) = machine_words_from (gdb_word_after t word) (word_texts (drop (place + 1) words)) in
      ap (λ (ws : List (List ℕ)). ws ++ machine_words_from after (word_texts (drop (place + 1) words))) of_new
      ∙ ap (λ (n : GdbWord). (old ++ and_machine_word b word []) ++ machine_words_from n (word_texts (drop (place + 1) words))) of_after
      ∙ and_word_behind b old word rest
      ∙ ap (λ (x : Bool). old ++ and_machine_word x word rest) of_b
      ∙ ap (λ (ws : List (List ℕ)). old ++ ws) (sym (machine_more t words place d within)) ∙ kept

  pub last_kept : (all : GdbWord) → last_gdb_word t (word_texts (drop place words)) ≡ all
      → last_gdb_word after (word_texts (drop (place + 1) words)) ≡ all
  last_kept all kept =
      ap (λ (n : GdbWord). last_gdb_word n (word_texts (drop (place + 1) words))) of_after
      ∙ sym (last_more t words place d within) ∙ kept

  pub stays_kept : (old new all : Bool) → new ≡ (old || asks_to_stay t (get_or words place d).now)
      → (old || stays_from t (word_texts (drop place words))) ≡ all
      → (new || stays_from after (word_texts (drop (place + 1) words))) ≡ all
  stays_kept old new all of_new kept =
      ap (λ (b : Bool). b || stays_from after (word_texts (drop (place + 1) words))) of_new
      ∙ ap (λ (n : GdbWord). (old || asks_to_stay t (get_or words place d).now) || stays_from n (word_texts (drop (place + 1) words))) of_after
      ∙ stays_more old t words place d within ∙ kept

pub ruleset option_steps =
    (paths_more, paths_end, machine_more, machine_end, last_more, last_end, stays_more, stays_end)

-- whether one of the words that are left sets the budget
budget_by : (words : List (Bor (List ℕ))) (place : ℕ) (d : Bor (List ℕ)) → place < length words
    → any_sets_budget (word_texts (drop place words))
    ≡ (if bytes_eq (get_or words place d).now (codes "--") then false else (if sets_budget (get_or words place d).now then true
    else any_sets_budget (word_texts (drop (place + 1) words))))
budget_by words place d within = at_drop_more (λ (ws : List (Bor (List ℕ))). any_sets_budget (word_texts ws)) words place d within

if_past : (y a b : Bool) → a ≡ true → (if a then false else (if b then true else y)) ≡ false
if_past y a b is = rw is refl

if_set : (y a b : Bool) → a ≡ false → b ≡ true → (if a then false else (if b then true else y)) ≡ true
if_set y a b other is = rw (other, is) refl

if_more : (y a b : Bool) → a ≡ false → b ≡ false → (if a then false else (if b then true else y)) ≡ y
if_more y a b other is = rw (other, is) refl

pub budget_past : (words : List (Bor (List ℕ))) (place : ℕ) (d : Bor (List ℕ)) → place < length words
    → bytes_eq (get_or words place d).now (codes "--") ≡ true → any_sets_budget (word_texts (drop place words)) ≡ false
budget_past words place d within is = budget_by words place d within
    ∙ if_past (any_sets_budget (word_texts (drop (place + 1) words))) (bytes_eq (get_or words place d).now (codes "--"))
    (sets_budget (get_or words place d).now) is

pub budget_set : (words : List (Bor (List ℕ))) (place : ℕ) (d : Bor (List ℕ)) → place < length words
    → bytes_eq (get_or words place d).now (codes "--") ≡ false → sets_budget (get_or words place d).now ≡ true
    → any_sets_budget (word_texts (drop place words)) ≡ true
budget_set words place d within other is = budget_by words place d within
    ∙ if_set (any_sets_budget (word_texts (drop (place + 1) words))) (bytes_eq (get_or words place d).now (codes "--"))
    (sets_budget (get_or words place d).now) other is

pub budget_more : (words : List (Bor (List ℕ))) (place : ℕ) (d : Bor (List ℕ)) → place < length words
    → bytes_eq (get_or words place d).now (codes "--") ≡ false → sets_budget (get_or words place d).now ≡ false
    → any_sets_budget (word_texts (drop place words)) ≡ any_sets_budget (word_texts (drop (place + 1) words))
budget_more words place d within other is = budget_by words place d within
    ∙ if_more (any_sets_budget (word_texts (drop (place + 1) words))) (bytes_eq (get_or words place d).now (codes "--"))
    (sets_budget (get_or words place d).now) other is

pub budget_end : (words : List (Bor (List ℕ))) (place : ℕ) → length words ≤ place
    → any_sets_budget (word_texts (drop place words)) ≡ false
budget_end words place all = at_drop_all (λ (ws : List (Bor (List ℕ))). any_sets_budget (word_texts ws)) words place all

pub ruleset budget_steps = (budget_past, budget_set, budget_more, budget_end)
