-- What the words ask for, and why they are refused, by the parts of them.
use Rattle.std.proofs.Common.{◌≡◌, ℕ, List, Option, None, Some, Result, Ok, Err, ap, option_map, string_bytes, subst, sym, ◌∙◌}
use Rattle.std.specs.Prelude.{IfErr, IfOk}
use Rattle.rosm_settings.specs.command_line.Settings.{settings_for}
use Rattle.rosm_settings.specs.declared.command_line.options.Settings.{Settings}
use Rattle.rosm_settings.specs.declared.command_line.options.SettingsError.{SettingsError}
use Rattle.rosm_settings.specs.gdb.Endings.{AsksForGdb, IsGdbRefusalOf, IsMachineRefusal, IsRefusalOfWords}
use Rattle.rosm_settings.specs.gdb.Options.{last_gdb_word, machine_words, most_wanted, one_start_path, start_path_wanted, start_paths, unless_path_lacks}
use Rattle.rosm_settings.specs.declared.gdb.options.GdbWord.{GdbWord}
use Rattle.rosm_settings.specs.declared.gdb.options.GdbWord.TheVariants as taken
use Rattle.rosm_settings.specs.declared.gdb.refusal.GdbRefusal.{GdbRefusal}
use Rattle.rosm_settings.specs.declared.gdb.refusal.GdbRefusal.TheVariants as refusal
use Rattle.rosm_settings.specs.declared.gdb.words.WantedGdb.{WantedGdb}

memory_fits : (path : Option (Option (List ℕ))) (answer : Result Settings SettingsError) → IsRefusalOfWords path answer refusal.Memory
memory_fits None answer = tt
memory_fits (Some path) answer = tt

-- memory may run out at any point
pub refused_by_memory : (words : List (List ℕ)) → IsGdbRefusalOf words refusal.Memory
refused_by_memory words = memory_fits (start_path_wanted words) (settings_for (machine_words words))

-- the path of the script, by the paths and what a word after the last would be
pub path_by_parts : (words paths : List (List ℕ)) (next : GdbWord) (path : Option (Option (List ℕ)))
    → path ≡ unless_path_lacks next (one_start_path paths) → paths ≡ start_paths words → next ≡ last_gdb_word taken.Option words
    → path ≡ start_path_wanted words
path_by_parts words paths next path is of_paths of_next =
    is ∙ ap (λ (n : GdbWord). unless_path_lacks n (one_start_path paths)) of_next
    ∙ ap (λ (ps : List (List ℕ)). unless_path_lacks (last_gdb_word taken.Option words) (one_start_path ps)) of_paths

pub refused_by_script : (words : List (List ℕ)) (reported : GdbRefusal) → None ≡ start_path_wanted words
    → ((answer : Result Settings SettingsError) → IsRefusalOfWords None answer reported) → IsGdbRefusalOf words reported
refused_by_script words reported none refused =
    subst (λ (path : Option (Option (List ℕ))). IsRefusalOfWords path (settings_for (machine_words words)) reported) none
    (refused (settings_for (machine_words words)))

pub refused_by_others : (words : List (List ℕ)) (reported : GdbRefusal) (path : Option (List ℕ)) → Some path ≡ start_path_wanted words
    → IsMachineRefusal (settings_for (machine_words words)) reported → IsGdbRefusalOf words reported
refused_by_others words reported path some refused =
    subst (λ (p : Option (Option (List ℕ))). IsRefusalOfWords p (settings_for (machine_words words)) reported) some refused

-- what is made of the path and the other words is what all words ask for, or why they are refused
module _ (words others : List (List ℕ)) (r : Result WantedGdb GdbRefusal) (of_others : others ≡ machine_words words) where
  pub asks_by_parts : (path : Option (List ℕ)) → Some path ≡ start_path_wanted words
      → IfOk r (λ wanted. option_map string_bytes wanted.script ≡ path)
      → IfOk r (λ wanted. settings_for others ≡ Ok wanted.settings) → IfOk r (AsksForGdb words)
  asks_by_parts path some script settings = by_outcome r script settings
    where
      by_outcome : (o : Result WantedGdb GdbRefusal) → IfOk o (λ wanted. option_map string_bytes wanted.script ≡ path)
          → IfOk o (λ wanted. settings_for others ≡ Ok wanted.settings) → IfOk o (AsksForGdb words)
      by_outcome (Ok wanted) of_script of_settings = record {
        script = sym some ∙ ap Some (sym of_script);
        settings = ap settings_for (sym of_others) ∙ of_settings;
      }
      by_outcome (Err e) of_script of_settings = tt

  pub most_by_parts : IfOk r (λ wanted. wanted.most ≡ most_wanted others wanted.settings.budget)
      → IfOk r (λ wanted. wanted.most ≡ most_wanted (machine_words words) wanted.settings.budget)
  most_by_parts most =
      subst (λ (os : List (List ℕ)). IfOk r (λ wanted. wanted.most ≡ most_wanted os wanted.settings.budget)) of_others most

  pub refused_by_parts : (path : Option (List ℕ)) → Some path ≡ start_path_wanted words
      → IfErr r (IsMachineRefusal (settings_for others)) → IfErr r (IsGdbRefusalOf words)
  refused_by_parts path some refused = by_outcome r refused
    where
      by_outcome : (o : Result WantedGdb GdbRefusal) → IfErr o (IsMachineRefusal (settings_for others))
          → IfErr o (IsGdbRefusalOf words)
      by_outcome (Ok wanted) h = tt
      by_outcome (Err e) h =
          refused_by_others words e path some
          (subst (λ (os : List (List ℕ)). IsMachineRefusal (settings_for os) e) of_others h)
