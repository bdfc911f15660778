-- As the definition says.
use Rattle.std.proofs.Common.{◌≡◌, ℕ, ◌==◌, false, List, ◌++◌, [], subst, refl, ◌∙◌, arith}
use Rattle.std.proofs.lemmas.Bool.Decides.{nat_tests}
use Rattle.std.specs.Prelude.{OnOk, codes}
use Rattle.std.specs.Fmt.{decimal}
use Rattle.std.specs.Io.KnownBytes.{Appends}
use Rattle.profile.specs.Digits.{hex_word}
use Rattle.trace_store_text.specs.HeapLines.{changed_limit_line, limit_line}
use Rattle.trace_store_text.proofs.LineLemmas.{seven_parts, shown_unless}
use Rattle.trace_store_text.proofs.heap_lines.push_limit.Goals as goal

pub returns : goal.returns
unfolding changed_limit_line
returns g c =
    let is : c.as_slice.result.now ++ (c.as_slice-2.result.now ++ (c.args.name.now ++ (c.as_bytes.result.now ++ (c.as_slice-3.result.now ++ (c.as_bytes-2.result.now ++ (c.as_slice-4.result.now ++ [])))))) ≡ changed_limit_line c.args.start c.args.name.now c.args.old c.args.new =
    seven_parts (c.as_slice.result.now) (c.as_slice-2.result.now) (c.args.name.now) (c.as_bytes.result.now) (c.as_slice-3.result.now) (c.as_bytes-2.result.now) (c.as_slice-4.result.now) (codes "                  heap ") (hex_word c.args.start) (c.args.name.now) (decimal c.args.new) (codes " was ") (decimal c.args.old) (codes "\n") (c.as_slice.ensures) (c.as_slice-2.ensures ∙ c.word.ensures) (refl) (cc) (c.as_slice-3.ensures) (cc) (c.as_slice-4.ensures) in
    let differ : (c.args.old == c.args.new) ≡ false = grind (arith, nat_tests, c.if-old-new.false) in
    let whole : changed_limit_line c.args.start c.args.name.now c.args.old c.args.new ≡ limit_line c.args.start c.args.name.now c.args.old c.args.new =
    shown_unless (c.args.old == c.args.new) (changed_limit_line c.args.start c.args.name.now c.args.old c.args.new) differ in
    record {
      text = subst (λ (t : List ℕ). OnOk c.push_parts.result (Appends (g.W.Sink.contents c.args.sink.now) (g.W.Sink.contents c.push_parts.new.sink) t)) (is ∙ whole)
          c.push_parts.ensures.text;
      flag = c.push_parts.ensures.flag;
      same_flag = c.push_parts.ensures.same_flag;
    }
