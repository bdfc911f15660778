-- What a run over the standard streams shows, by what the run to a stream does.
use Rattle.std.proofs.Common.{◌≡◌, ℕ, List, Option, IfSome, subst}
use Rattle.profile.specs.declared.stop.Stop.{Stop}
use Rattle.rosm_settings.specs.declared.command_line.options.Settings.{Settings}
use Rattle.rosm_settings.specs.Answering.{AnswersScript, StopsWithScript, answers_to}

-- the last stop of a script that a reader shows
pub stops_with : {F R : Type 0} (of_file : F → Option (List ℕ)) (of_reader : R → Option (List ℕ))
    (settings : Settings) (reader : R) (script before after : Option (List ℕ)) (last : Option Stop)
    → script ≡ of_reader reader → AnswersScript of_file settings script before after last
    → StopsWithScript of_file of_reader settings last
stops_with of_file of_reader settings reader script before after last e answers = record {
  reader = reader;
  images = answers.images;
  files = answers.files;
  stop = subst (λ (o : Option (List ℕ)). IfSome o (λ bytes. last ≡ (answers_to settings answers.images bytes).state.last))
      e answers.stop;
}
