use Rattle.std.proofs.Common.{◌≡◌, None, length}
use Rattle.std.proofs.lemmas.List.{map-append}
use Rattle.profile.specs.images.Entries.{refusal_for}
use Rattle.profile.specs.images.Table.{entries_of}
use Rattle.profile.proofs.ImagesLemmas.EntriesLemmas.{IsTable-push}
use Rattle.profile.proofs.images.table.Images.add.Goals as goal

pub invariant_of-self : goal.invariant_of-self
invariant_of-self c =
    let free : refusal_for (entries_of c.self.inside.list.items) c.args.name.now (length c.args.bytes.now) ≡ None = cc (c.refusal.ensures, c.in_default.is) in
    simp (c.push.ensures.items, map-append, c.in_ok-image.ensures) (IsTable-push _ _ _ c.self.invariant free)
