use Rattle.std.proofs.Common.{Bool, List, Option, ℕ, ◌≡◌, ◌∷◌, ◌+◌, ◌||◌, ◌∙◌, drop, suc, slice_index_or, drop-cons, subst, sym, ap, option_map, arith}
use Rattle.std.specs.List.{list_any}
use Rattle.os_heap_words.specs.Kind.TheVariants as kind
use Rattle.os_heap_words.specs.Region.{Region}
use Rattle.os_heap_words.specs.lists.Heap.{HeapList}
use Rattle.os_heap.specs.Bars.{bars_record}
use Rattle.os_heap.specs.Nesting.{innermost_heap, later_heap}
use Rattle.os_heap.specs.Store.{heap_in, heaps_in}
use Rattle.os_heap.proofs.Innermost.{round_next, round_passed}
use Rattle.os_heap.proofs.obstacles.innermost.Goals as goal
use Rattle.os_heap.proofs.obstacles.innermost.Goals.{then-is_round, else-is_round}

pub loop-region-preserved : goal.loop-region-preserved
loop-region-preserved c =
    let none : Region = record { kind = kind.Heap; at = 0; len = 0 } in
    let rs : List Region = c.args.regions.now in
    let k = c.loop-region.region-index in
    let r : Region = slice_index_or rs k none in
    let more : suc k ≡ k + 1 = omega arith in
    let split : drop k rs ≡ r ∷ drop (k + 1) rs = subst (λ (j : ℕ). drop k rs ≡ r ∷ drop j rs) more (drop-cons rs k none (omega arith)) in
    let test : Region → Bool = bars_record c.args.at c.args.len c.args.new c.args.more in
    let all : (test r || list_any test (drop (k + 1) rs)) ≡ list_any test rs =
    subst (λ (l : List Region). list_any test l ≡ list_any test rs) split c.loop-region.invariant.free in
    record {
      free = ap (λ (t : Bool). t || list_any test (drop (k + 1) rs)) (sym c.if-bars.false ∙ c.bars.ensures) ∙ all;
      last = λ b.
          let last : Option HeapList = option_map (heap_in b) c.loop-region.last in
          let next : later_heap last (innermost_heap c.args.at c.args.len (heaps_in b (r ∷ drop (k + 1) rs))) ≡ innermost_heap c.args.at c.args.len (heaps_in b rs) =
          subst (λ (l : List Region). later_heap last (innermost_heap c.args.at c.args.len (heaps_in b l)) ≡ innermost_heap c.args.at c.args.len (heaps_in b rs)) split
          (c.loop-region.invariant.last b) in
          elim c.if-is_round.branch [
            | then-is_round w ↦ rw w.last-is (round_next c.args.at c.args.len b r w.later.result (drop (k + 1) rs) c.loop-region.last
                (c.is_round.ensures b ∙ w.if-is_round.true) (w.later.ensures b) ∙ next)
            | else-is_round w ↦ rw w.last-is (ap (later_heap last)
                (round_passed c.args.at c.args.len b r (drop (k + 1) rs) (c.is_round.ensures b ∙ w.if-is_round.false)) ∙ next)
          ];
    }
