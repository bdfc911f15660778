-- As the definition says.
use Rattle.std.proofs.Common.{◌≡◌, ℕ, List, ◌++◌, [], subst, ◌∙◌}
use Rattle.std.specs.Prelude.{OnOk, codes}
use Rattle.std.specs.Io.KnownBytes.{Appends}
use Rattle.profile.specs.Digits.{hex_word}
use Rattle.trace_store_text.specs.FlexLines.{new_store_line}
use Rattle.trace_store_text.proofs.LineLemmas.{five_parts}
use Rattle.trace_store_text.proofs.flex_lines.push_new_store.Goals as goal

pub returns : goal.returns
unfolding new_store_line
returns g c =
    let is : c.as_slice.result.now ++ (c.as_slice-2.result.now ++ (c.as_slice-3.result.now ++ (c.as_slice-4.result.now ++ (c.as_slice-5.result.now ++ [])))) ≡ new_store_line c.args.start c.args.end =
    five_parts (c.as_slice.result.now) (c.as_slice-2.result.now) (c.as_slice-3.result.now) (c.as_slice-4.result.now) (c.as_slice-5.result.now) (codes "                  flex ") (hex_word c.args.start) (codes " ") (hex_word c.args.end) (codes " new\n") (c.as_slice.ensures) (c.as_slice-2.ensures ∙ c.word.ensures) (c.as_slice-3.ensures) (c.as_slice-4.ensures ∙ c.word-2.ensures) (c.as_slice-5.ensures) in
    record {
      text = subst (λ (t : List ℕ). OnOk c.push_parts.result (Appends (g.W.Sink.contents c.args.sink.now) (g.W.Sink.contents c.push_parts.new.sink) t)) is
          c.push_parts.ensures.text;
      flag = c.push_parts.ensures.flag;
      same_flag = c.push_parts.ensures.same_flag;
    }
