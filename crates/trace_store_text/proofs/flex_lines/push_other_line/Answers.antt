-- As the definition says.
use Rattle.std.proofs.Common.{◌≡◌, ℕ, List, ◌++◌, [], subst, ◌∙◌}
use Rattle.std.specs.Prelude.{OnOk, codes}
use Rattle.std.specs.Fmt.{decimal}
use Rattle.std.specs.Io.KnownBytes.{Appends}
use Rattle.profile.specs.Digits.{hex_word}
use Rattle.trace_store_text.specs.FlexLines.{other_block_line}
use Rattle.trace_store_text.proofs.LineLemmas.{eleven_parts}
use Rattle.trace_store_text.proofs.flex_lines.push_other_line.Goals as goal

pub returns : goal.returns
unfolding other_block_line
returns g c =
    let is : c.as_slice.result.now ++ (c.as_slice-2.result.now ++ (c.as_slice-3.result.now ++ (c.as_slice-4.result.now ++ (c.as_slice-5.result.now ++ (c.as_bytes.result.now ++ (c.as_slice-6.result.now ++ (c.as_slice-7.result.now ++ (c.as_slice-8.result.now ++ (c.as_bytes-2.result.now ++ (c.as_slice-9.result.now ++ [])))))))))) ≡ other_block_line c.args.old.now c.args.block.now =
    eleven_parts (c.as_slice.result.now) (c.as_slice-2.result.now) (c.as_slice-3.result.now) (c.as_slice-4.result.now) (c.as_slice-5.result.now) (c.as_bytes.result.now) (c.as_slice-6.result.now) (c.as_slice-7.result.now) (c.as_slice-8.result.now) (c.as_bytes-2.result.now) (c.as_slice-9.result.now) (codes "                  block anchor ") (hex_word c.args.block.now.anchor) (codes " at ") (hex_word c.args.block.now.at) (codes " size ") (decimal c.args.block.now.size) (codes " was ") (hex_word c.args.old.now.at) (codes " ") (decimal c.args.old.now.size) (codes "\n") (c.as_slice.ensures) (c.as_slice-2.ensures ∙ c.word.ensures) (c.as_slice-3.ensures) (c.as_slice-4.ensures ∙ c.word-2.ensures) (c.as_slice-5.ensures) (cc) (c.as_slice-6.ensures) (c.as_slice-7.ensures ∙ c.word-3.ensures) (c.as_slice-8.ensures) (cc) (c.as_slice-9.ensures) in
    record {
      text = subst (λ (t : List ℕ). OnOk c.push_parts.result (Appends (g.W.Sink.contents c.args.sink.now) (g.W.Sink.contents c.push_parts.new.sink) t)) is
          c.push_parts.ensures.text;
      flag = c.push_parts.ensures.flag;
      same_flag = c.push_parts.ensures.same_flag;
    }
