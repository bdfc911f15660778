-- As the definition says.
use Rattle.std.proofs.Common.{◌≡◌, ℕ, List, ◌++◌, [], subst, sym, ◌∙◌}
use Rattle.std.specs.Prelude.{OnOk, codes}
use Rattle.std.specs.Io.KnownBytes.{Appends}
use Rattle.trace_store_text.specs.ModuleLines.{preferred_line, preferred_lines}
use Rattle.trace_store_text.specs.modules.Changes.{is_preferred_anew}
use Rattle.trace_store_text.proofs.LineLemmas.{five_parts, shown_if}
use Rattle.trace_store_text.proofs.module_lines.push_preferred_instance.Goals as goal

pub returns : goal.returns
unfolding preferred_line
returns g c =
    let is : c.as_slice.result.now ++ (c.as_slice-2.result.now ++ (c.as_slice-3.result.now ++ (c.as_slice-4.result.now ++ (c.as_slice-5.result.now ++ [])))) ≡ preferred_line c.args.mark.now =
    five_parts (c.as_slice.result.now) (c.as_slice-2.result.now) (c.as_slice-3.result.now) (c.as_slice-4.result.now) (c.as_slice-5.result.now) (codes "                  module ") (c.args.mark.now.title.items) (codes "%") (c.args.mark.now.name.items) (codes " preferred\n") (c.as_slice.ensures) (cc) (c.as_slice-3.ensures) (cc) (c.as_slice-5.ensures) in
    let whole : preferred_line c.args.mark.now ≡ preferred_lines c.args.before.now c.args.mark.now =
    shown_if (is_preferred_anew c.args.before.now c.args.mark.now) (preferred_line c.args.mark.now)
    (sym c.is_preferred_anew.ensures ∙ c.if-not-is_preferred_anew.false) in
    record {
      text = subst (λ (t : List ℕ). OnOk c.push_parts.result (Appends (g.W.Sink.contents c.args.sink.now) (g.W.Sink.contents c.push_parts.new.sink) t)) (is ∙ whole)
          c.push_parts.ensures.text;
      flag = c.push_parts.ensures.flag;
      same_flag = c.push_parts.ensures.same_flag;
    }
