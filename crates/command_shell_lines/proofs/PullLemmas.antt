-- How often a source was pulled, from one call to the next.
use Rattle.std.proofs.Common.{◌≡◌, ◌≤◌, ◌+◌, ℕ, Option, Some, None, arith, refl}
use Rattle.assembler_text.specs.Pulls.{PullsOnce, PullsAtMost}

-- so many calls at most
pub record HasPulled (from now : Option ℕ) (most : ℕ) : Type 0 where
  pub pulls : PullsAtMost from now most

pub pulls_none : (from : Option ℕ) → HasPulled from from 0
pulls_none None = record { pulls = tt }
pulls_none (Some n) =
    record { pulls = record { count = n; shows = refl; no_fewer = omega arith; in_limit = omega arith } }

pub pulls_more : (a b c : Option ℕ) (most : ℕ) → HasPulled a b most → PullsOnce b c → HasPulled a c (most + 1)
pulls_more None b c most pulled once = record { pulls = tt }
pulls_more (Some n) None c most pulled once = absurd (grind (arith, pulled.pulls.shows))
pulls_more (Some n) (Some m) c most pulled once =
    let at : Some m ≡ Some pulled.pulls.count = pulled.pulls.shows in
    let more = pulled.pulls.no_fewer in
    let limit = pulled.pulls.in_limit in
    record {
      pulls = record {
        count = m + 1;
        shows = once;
        no_fewer = grind (arith, at, more);
        in_limit = grind (arith, at, limit);
      };
    }

pub pulls_within : (a b : Option ℕ) (most limit : ℕ) → HasPulled a b most → most ≤ limit → PullsAtMost a b limit
pulls_within None b most limit pulled within = tt
pulls_within (Some n) b most limit pulled within =
    let at_most = pulled.pulls.in_limit in
    record {
      count = pulled.pulls.count;
      shows = pulled.pulls.shows;
      no_fewer = pulled.pulls.no_fewer;
      in_limit = omega (arith, at_most, within);
    }
