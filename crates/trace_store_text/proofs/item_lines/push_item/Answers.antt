-- As the definition says.
use Rattle.std.proofs.Common.{◌≡◌, ℕ, List, ◌++◌, [], subst, ◌∙◌}
use Rattle.std.specs.Prelude.{OnOk, codes}
use Rattle.std.specs.Fmt.{decimal}
use Rattle.std.specs.Io.KnownBytes.{Appends}
use Rattle.profile.specs.Digits.{hex_word}
use Rattle.address_map.specs.Items.{total_of}
use Rattle.trace_store_text.specs.ItemLines.{verb_and_use, item_line}
use Rattle.trace_store_text.proofs.LineLemmas.{seven_parts}
use Rattle.trace_store_text.proofs.item_lines.push_item.Goals as goal

pub returns : goal.returns
unfolding item_line
returns g c =
    let is : c.as_slice.result.now ++ (c.as_slice-2.result.now ++ (c.verb_and_use.result.now ++ (c.as_slice-3.result.now ++ (c.as_slice-4.result.now ++ (c.as_bytes.result.now ++ (c.as_slice-5.result.now ++ [])))))) ≡ item_line c.args.heap c.args.change.now =
    seven_parts (c.as_slice.result.now) (c.as_slice-2.result.now) (c.verb_and_use.result.now) (c.as_slice-3.result.now) (c.as_slice-4.result.now) (c.as_bytes.result.now) (c.as_slice-5.result.now) (codes "                  heap ") (hex_word c.args.heap) (verb_and_use c.args.change.now.is_new c.args.change.now.item) (hex_word c.args.change.now.at) (codes " ") (decimal (total_of c.args.change.now.item)) (codes "\n") (c.as_slice.ensures) (c.as_slice-2.ensures ∙ c.word.ensures) (c.verb_and_use.ensures) (c.as_slice-3.ensures ∙ c.word-2.ensures) (c.as_slice-4.ensures) (cc) (c.as_slice-5.ensures) in
    record {
      text = subst (λ (t : List ℕ). OnOk c.push_parts.result (Appends (g.W.Sink.contents c.args.sink.now) (g.W.Sink.contents c.push_parts.new.sink) t)) is
          c.push_parts.ensures.text;
      flag = c.push_parts.ensures.flag;
      same_flag = c.push_parts.ensures.same_flag;
    }
