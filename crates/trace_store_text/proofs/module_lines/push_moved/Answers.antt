-- As the definition says.
use Rattle.std.proofs.Common.{◌≡◌, ℕ, List, ◌++◌, [], subst, ◌∙◌}
use Rattle.std.specs.Prelude.{OnOk, codes}
use Rattle.std.specs.Fmt.{decimal}
use Rattle.std.specs.Io.KnownBytes.{Appends}
use Rattle.profile.specs.Digits.{hex_word}
use Rattle.trace_store_text.specs.ModuleLines.{moved_instance_line}
use Rattle.trace_store_text.proofs.LineLemmas.{nine_parts}
use Rattle.trace_store_text.proofs.module_lines.push_moved.Goals as goal

pub returns : goal.returns
unfolding moved_instance_line
returns g c =
    let is : c.as_slice.result.now ++ (c.as_slice-2.result.now ++ (c.as_slice-3.result.now ++ (c.as_slice-4.result.now ++ (c.as_slice-5.result.now ++ (c.as_slice-6.result.now ++ (c.as_slice-7.result.now ++ (c.as_slice-8.result.now ++ (c.as_slice-9.result.now ++ [])))))))) ≡ moved_instance_line c.args.mark.now c.args.was c.args.mark.now.at =
    nine_parts (c.as_slice.result.now) (c.as_slice-2.result.now) (c.as_slice-3.result.now) (c.as_slice-4.result.now) (c.as_slice-5.result.now) (c.as_slice-6.result.now) (c.as_slice-7.result.now) (c.as_slice-8.result.now) (c.as_slice-9.result.now) (codes "                  module ") (c.args.mark.now.title.items) (codes "%") (c.args.mark.now.name.items) (codes " at ") (hex_word c.args.mark.now.at) (codes " was ") (hex_word c.args.was) (codes "\n") (c.as_slice.ensures) (cc) (c.as_slice-3.ensures) (cc) (c.as_slice-5.ensures) (c.as_slice-6.ensures ∙ c.word.ensures) (c.as_slice-7.ensures) (c.as_slice-8.ensures ∙ c.word-2.ensures) (c.as_slice-9.ensures) in
    record {
      text = subst (λ (t : List ℕ). OnOk c.push_parts.result (Appends (g.W.Sink.contents c.args.sink.now) (g.W.Sink.contents c.push_parts.new.sink) t)) is
          c.push_parts.ensures.text;
      flag = c.push_parts.ensures.flag;
      same_flag = c.push_parts.ensures.same_flag;
    }
