-- By the places among the addresses that are left.
use Rattle.std.proofs.Common.{◌≡◌, ℕ, suc, ◌+◌, ◌-◌, ◌%◌, ◌++◌, ◌∙◌, take, length, ap, sym, refl, arith}
use Rattle.std.specs.Int.{from_bool}
use Rattle.std.specs.List.{flat_map}
use Rattle.address_map.specs.Memory.{bytes_of}
use Rattle.profile.proofs.OutputLemmas.{AddsAllBut-more, Appends-from_all_but}
use Rattle.debug_tables.specs.byte_writes.Find.{byte_places, place_text, shown_place}
use Rattle.debug_tables.proofs.ByteWritesLemmas.FindLemmas.{at_most_one, next_counted, next_shown, no_places, none_shown}
use Rattle.debug_tables.proofs.byte_writes.find.show_places.Goals as goal

pub loop-place-preserved : goal.loop-place-preserved
loop-place-preserved g c =
    let b = bytes_of c.args.map.now in
    let bytes = c.args.bytes.now in
    let at = c.loop-place.at in
    let found = c.loop-place.found in
    let left : ℕ = c.args.count - c.loop-place._place in
    let rest : ℕ = c.args.count - (c.loop-place._place + 1) in
    let next : ℕ = (at + 1) % 4294967296 in
    let stand = c.stand_at-stand.result in
    let split : c.args.count - c.loop-place._place ≡ suc (c.args.count - (c.loop-place._place + 1)) =
    omega (arith, c.loop-place-test.true) in
    let counted : c.from-found.result ≡ from_bool stand = c.from-found.ensures in
    record {
      text = AddsAllBut-more (g.W.Sink.contents c.args.sink.now) (g.W.Sink.contents c.loop-place.sink)
          (g.W.Sink.contents c.show_place.new.sink)
          (flat_map place_text (take (64 - found) (byte_places b at left bytes))) (shown_place stand found at)
          (flat_map place_text (take (64 - (found + c.from-found.result)) (byte_places b next rest bytes)))
          (flat_map place_text (take 64 (byte_places b c.args.address c.args.count bytes)))
          c.loop-place.invariant.text c.in_ok-show_place.ensures.text
          (next_shown b at next left rest found bytes stand split refl c.stand_at-stand.ensures
          ∙ ap (λ (n : ℕ). shown_place stand found at
          ++ flat_map place_text (take (64 - (found + n)) (byte_places b next rest bytes))) (sym counted));
      same_flag = c.in_ok-show_place.ensures.same_flag ∙ c.loop-place.invariant.same_flag;
      found = omega (
        arith,
        c.loop-place.invariant.found,
        counted,
        next_counted b at next left rest bytes stand split refl c.stand_at-stand.ensures,
      );
      few = omega (arith, c.loop-place.invariant.few, counted, at_most_one stand);
    }

pub returns-clause-text : goal.returns-clause-text
returns-clause-text g c =
    let b = bytes_of c.args.map.now in
    let left : ℕ = c.args.count - c.loop-place._place in
    let none : c.args.count - c.loop-place._place ≡ 0 = omega (arith, c.loop-place-test.false) in
    record {
      text = Appends-from_all_but (g.W.Sink.contents c.args.sink.now) (g.W.Sink.contents c.loop-place.sink)
          (flat_map place_text (take (64 - c.loop-place.found) (byte_places b c.loop-place.at left c.args.bytes.now)))
          (flat_map place_text (take 64 (byte_places b c.args.address c.args.count c.args.bytes.now)))
          c.loop-place.invariant.text (none_shown b c.loop-place.at left c.loop-place.found c.args.bytes.now none);
      flag = tt;
      same_flag = c.loop-place.invariant.same_flag;
    }

pub returns-clause-found : goal.returns-clause-found
returns-clause-found g c =
    let left : ℕ = c.args.count - c.loop-place._place in
    let none : c.args.count - c.loop-place._place ≡ 0 = omega (arith, c.loop-place-test.false) in
    omega (
      arith,
      c.loop-place.invariant.found,
      ap length (no_places (bytes_of c.args.map.now) c.loop-place.at left c.args.bytes.now none),
    )
