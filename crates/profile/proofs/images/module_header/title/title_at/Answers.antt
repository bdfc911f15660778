use Rattle.std.proofs.Common.{◌<◌, ◌≤◌, length, sym, ◌∙◌, arith}
use Rattle.profile.proofs.ImagesLemmas.ModuleHeaderLemmas.TitleLemmas.{title_found}
use Rattle.profile.proofs.images.module_header.title.title_at.Goals as goal

pub returns-then-not-is_empty : goal.returns-then-not-is_empty
returns-then-not-is_empty g c =
    let bytes = g.B.ImageBytes.bytes c.args.image.now in
    let inside : c.loop-place.place < length bytes = omega (arith, c.loop-place-test.true, c.len-place-end.ensures) in
    let some : 1 ≤ length c.loop-place.title.items = grind (arith, c.is_empty.ensures, c.if-not-is_empty.true) in
    title_found bytes _ _ _ c.loop-place.auto.place inside (sym c.byte-byte.ensures ∙ c.if-byte-eq0.true)
    c.loop-place.invariant.kept c.loop-place.invariant.counted some c.loop-place.invariant.within
