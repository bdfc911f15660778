-- Each way out is what the definition says there.
use Rattle.std.proofs.Common.{rules}
use Rattle.dynamic_areas.specs.Creating.{area_wanted}
use Rattle.dynamic_areas.proofs.areas.Areas.area_wanted.Goals as goal

pub returns-then-not-is_good : goal.returns-then-not-is_good
unfolding area_wanted
returns-then-not-is_good c = search rules

pub returns-then-has_area : goal.returns-then-has_area
unfolding area_wanted
returns-then-has_area c = search rules

pub returns-in_err-base : goal.returns-in_err-base
unfolding area_wanted
returns-in_err-base c = search rules

pub returns-then-areas-ge-MOST_AREAS : goal.returns-then-areas-ge-MOST_AREAS
unfolding area_wanted
returns-then-areas-ge-MOST_AREAS c = search rules

pub returns-then-free-pages : goal.returns-then-free-pages
unfolding area_wanted
returns-then-free-pages c = search rules

pub returns : goal.returns
unfolding area_wanted
returns c = search rules
