-- What is shown of a refusal whose text finds no memory.
use Rattle.std.proofs.Common.{◌≡◌, ◌++◌, ℕ, List, Option, Some, None, Result, Ok, Err, inr, refl, subst, sym}
use Rattle.std.specs.Prelude.{OnOk, codes}
use Rattle.std.specs.Io.KnownBytes.{Appends}
use Rattle.rosm_settings.specs.Endings.{IsAnswer, ShowsLine}

no_memory_answer : (reported : Option (List ℕ)) → IsAnswer reported (codes "out of memory")
no_memory_answer None = tt
no_memory_answer (Some text) = inr refl

pub shows_no_memory : {A E : Type 0} (r : Result A E) (reported before after : Option (List ℕ)) (text : List ℕ)
    → text ≡ codes "out of memory" → OnOk r (Appends before after (codes "rosm: " ++ (text ++ codes "\n")))
    → OnOk r (ShowsLine reported before after)
shows_no_memory (Err fault) reported before after text is line = tt
shows_no_memory (Ok done) reported before after text is line = record {
  text = text;
  is_shown = subst (IsAnswer reported) (sym is) (no_memory_answer reported);
  line = line;
}
