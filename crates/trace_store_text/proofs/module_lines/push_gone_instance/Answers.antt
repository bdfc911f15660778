-- As the definition says.
use Rattle.std.proofs.Common.{◌≡◌, ℕ, List, ◌++◌, [], subst, sym, ◌∙◌}
use Rattle.std.specs.Prelude.{OnOk, codes}
use Rattle.std.specs.Fmt.{decimal}
use Rattle.std.specs.Io.KnownBytes.{Appends}
use Rattle.profile.specs.Digits.{hex_word}
use Rattle.trace_store_text.specs.ModuleLines.{gone_instance_line, gone_instance_lines}
use Rattle.trace_store_text.proofs.LineLemmas.{gone_lines, seven_parts}
use Rattle.trace_store_text.proofs.module_lines.push_gone_instance.Goals as goal

pub returns : goal.returns
unfolding gone_instance_line
returns g c =
    let is : c.as_slice.result.now ++ (c.as_slice-2.result.now ++ (c.as_slice-3.result.now ++ (c.as_slice-4.result.now ++ (c.as_slice-5.result.now ++ (c.as_slice-6.result.now ++ (c.as_slice-7.result.now ++ [])))))) ≡ gone_instance_line c.args.mark.now c.args.mark.now.at =
    seven_parts (c.as_slice.result.now) (c.as_slice-2.result.now) (c.as_slice-3.result.now) (c.as_slice-4.result.now) (c.as_slice-5.result.now) (c.as_slice-6.result.now) (c.as_slice-7.result.now) (codes "                  module ") (c.args.mark.now.title.items) (codes "%") (c.args.mark.now.name.items) (codes " gone at ") (hex_word c.args.mark.now.at) (codes "\n") (c.as_slice.ensures) (cc) (c.as_slice-3.ensures) (cc) (c.as_slice-5.ensures) (c.as_slice-6.ensures ∙ c.word.ensures) (c.as_slice-7.ensures) in
    let whole : gone_instance_line c.args.mark.now c.args.mark.now.at ≡ gone_instance_lines c.args.after.now c.args.mark.now =
    gone_lines c.args.after.now c.args.mark.now (sym c.has_same.ensures ∙ c.if-has_same.false) in
    record {
      text = subst (λ (t : List ℕ). OnOk c.push_parts.result (Appends (g.W.Sink.contents c.args.sink.now) (g.W.Sink.contents c.push_parts.new.sink) t)) (is ∙ whole)
          c.push_parts.ensures.text;
      flag = c.push_parts.ensures.flag;
      same_flag = c.push_parts.ensures.same_flag;
    }
