-- As the definition says.
use Rattle.std.proofs.Common.{◌≡◌, ℕ, true, List, ◌++◌, [], subst, refl, sym, ◌∙◌}
use Rattle.std.specs.Prelude.{OnOk, codes}
use Rattle.std.specs.Fmt.{decimal}
use Rattle.std.specs.Io.KnownBytes.{Appends}
use Rattle.profile.specs.Digits.{hex_word}
use Rattle.trace_store_text.specs.ImageLines.{image_line, is_lone_image, lone_image_line}
use Rattle.trace_store_text.proofs.LineLemmas.{five_parts, shown_if}
use Rattle.trace_store_text.proofs.image_lines.push_lone_image.Goals as goal

pub returns : goal.returns
unfolding image_line
returns g c =
    let is : c.as_slice.result.now ++ (c.as_slice-2.result.now ++ (c.as_slice-3.result.now ++ (c.as_bytes.result.now ++ (c.args.verb.now ++ [])))) ≡ image_line c.args.verb.now c.args.region.now =
    five_parts (c.as_slice.result.now) (c.as_slice-2.result.now) (c.as_slice-3.result.now) (c.as_bytes.result.now) (c.args.verb.now) (codes "                  image ") (hex_word c.args.region.now.at) (codes " ") (decimal c.args.region.now.len) (c.args.verb.now) (c.as_slice.ensures) (c.as_slice-2.ensures ∙ c.word.ensures) (c.as_slice-3.ensures) (cc) (refl) in
    let lone : is_lone_image c.args.others.now c.args.region.now ≡ true =
    rw (sym c.is_image.ensures ∙ c.if-not-is_image.false, sym c.has_image.ensures ∙ c.if-has_image.false) refl in
    let whole : image_line c.args.verb.now c.args.region.now ≡ lone_image_line c.args.others.now c.args.verb.now c.args.region.now =
    shown_if (is_lone_image c.args.others.now c.args.region.now) (image_line c.args.verb.now c.args.region.now) lone in
    record {
      text = subst (λ (t : List ℕ). OnOk c.push_parts.result (Appends (g.W.Sink.contents c.args.sink.now) (g.W.Sink.contents c.push_parts.new.sink) t)) (is ∙ whole)
          c.push_parts.ensures.text;
      flag = c.push_parts.ensures.flag;
      same_flag = c.push_parts.ensures.same_flag;
    }
