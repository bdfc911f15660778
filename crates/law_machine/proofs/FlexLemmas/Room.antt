-- What a call that was done says: it was not refused, and the blocks that it left have room in the
-- store.
use Rattle.std.proofs.Common.{◌≡◌, Bool, ◌+◌, ◌≤◌, true, false, List, ◌++◌, Option, Some, Result, Ok, Err, refl, sym, ap}
use Rattle.std.specs.Prelude.{if◌then◌else◌, nat_le}
use Rattle.std.proofs.lemmas.Bool.{false≢true, leb-true}
use Rattle.flex_store.specs.Blocks.{Block, FlexStore, bytes_taken_by_all}
use Rattle.flex_store.specs.Calls.{FlexState, with_blocks}
use Rattle.flex_store.specs.Memory.{laid_out, standing}
use Rattle.profile.specs.ErrorNumber.{ErrorNumber}
use Rattle.profile.specs.ErrorNumber.TheVariants.{FlexHoldsAnchor}

-- it was done: no anchor broke, and there was room
pub record IsFitted (t u : FlexState) (s : FlexStore) (front news : List Block) : Type 0 where
  pub fits : s.start + bytes_taken_by_all (front ++ news) ≤ s.end
  pub is : u ≡ with_blocks t s front news
  pub flex : u.flex ≡ (let o : Option FlexStore = Some (record {
    start = s.start;
    end = s.end;
    blocks = standing (laid_out (s.start + bytes_taken_by_all front) news t.bytes.at) s.start (front ++ news);
  }) in o)

pub fitted_by : (t u : FlexState) (s : FlexStore) (front news : List Block) (fits : Bool) → nat_le (s.start + bytes_taken_by_all (front ++ news)) s.end ≡ fits
    → (let given : FlexState × Bool = (u, true) in (if fits then (with_blocks t s front news, true) else (t, false)) ≡ given) → IsFitted t u s front news
fitted_by t u s front news true room done = record {
  fits = leb-true (s.start + bytes_taken_by_all (front ++ news)) s.end room;
  is = sym (ap (λ (q : FlexState × Bool). q.0) done);
  flex = sym (ap (λ (q : FlexState × Bool). q.0.flex) done);
}
fitted_by t u s front news false room done = absurd (false≢true (ap (λ (q : FlexState × Bool). q.1) done))

-- what was not refused
pub ok_same : (x y : FlexState × Bool) → (let r : Result (FlexState × Bool) ErrorNumber = Ok x in r ≡ Ok y) → x ≡ y
ok_same x y is = cc

pub refused : (e : ErrorNumber) (y : FlexState × Bool) → (let r : Result (FlexState × Bool) ErrorNumber = Err e in r ≡ Ok y) → ⊥
refused e y same = cc

pub unbroken_by : (broken : Bool) (q : FlexState × Bool) (u : FlexState)
    → (let r : Result (FlexState × Bool) ErrorNumber = if broken then Err FlexHoldsAnchor else Ok q in r ≡ Ok (u, true))
    → (broken ≡ false) × (let given : FlexState × Bool = (u, true) in q ≡ given)
unbroken_by true q u is = absurd (cc)
unbroken_by false q u is = (refl, ok_same q (u, true) is)
