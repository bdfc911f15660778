-- An image has a million bytes at most.
use Rattle.std.proofs.Common.{sym}
use Rattle.debug_listing.proofs.ComparingLemmas.{image_few}
use Rattle.debug_modules.proofs.comparing.images_compared.Goals as goal

pub push_comparison-requires : goal.push_comparison-requires
push_comparison-requires c =
    image_few c.args.images.now c.args.one.now c.in-Some.first.now c.in-Some.ensures.table (sym c.in-Some.ensures.bytes)
