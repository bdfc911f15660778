use Rattle.std.proofs.Common.{refl, ◌≡◌, ◌∙◌, [], ◌++◌, sym, subst, List, ℕ, Option, Some}
use Rattle.std.specs.Prelude.{unwrap_or}
use Rattle.std.specs.Io.KnownBytes.{Appends}
use Rattle.swi_dispatch_guest.proofs.OutputLemmas.{Appends-join}
use Rattle.swi_dispatch_guest.specs.AddressMapMemory.{bytes_of}
use Rattle.swi_dispatch_guest.specs.Listed.{all_listed}
use Rattle.swi_dispatch_guest.specs.State.{flex_in}
use Rattle.debugger.specs.Flex.{flex_blocks_text, flex_text, range_text}
use Rattle.debugger.proofs.FlexLemmas.{shown}
use Rattle.debugger.proofs.flex.show_store.Goals as goal

pub returns-clause-writes : goal.returns-clause-writes
returns-clause-writes g c =
    let m = c.args.memory.now in
    let f = c.args.flex.now in
    let line = range_text c.in-Some.start c.in-Some.end c.in-Some.used in
    let blocks = all_listed (flex_in m f.extent) in
    let lines = flex_blocks_text blocks in
    let from = g.W.Sink.contents c.args.sink.now in
    let between = g.W.Sink.contents c.show_range.new.sink in
    let to = g.W.Sink.contents c.show_all.new.sink in
    let text : flex_text (bytes_of m) f ≡ Some (line ++ lines) =
    shown m f c.in-Some.start c.in-Some.end c.in-Some.used c.in-Some.ensures blocks refl in
    record {
      text = subst (λ (o : Option (List ℕ)). Appends from to (unwrap_or o [])) (sym text)
          (Appends-join from between to line lines c.in_ok-show_range.ensures.text c.in_ok-show_all.ensures.text);
      flag = tt;
      same_flag = c.in_ok-show_all.ensures.same_flag ∙ c.in_ok-show_range.ensures.same_flag;
    }
