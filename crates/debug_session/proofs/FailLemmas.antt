-- What stands written where a line fails: a front of what all lines are answered.
use Rattle.std.proofs.Common.{◌≡◌, ℕ, List, [], ◌++◌, Option, Some, None, Result, Ok, Err, sym, ap, subst, ◌∙◌, append_assoc, arith}
use Rattle.std.proofs.lemmas.List.{append-nil}
use Rattle.std.specs.Io.KnownBytes.{Appends}
use Rattle.std.specs.Prelude.{OnOk}
use Rattle.profile.specs.Output.{AddsAllBut, AddsFront}
use Rattle.profile.proofs.OutputLemmas.{AddsAllBut-more}
use Rattle.debug_tables.proofs.FrontLemmas.{AddsFront-from_all_but}
pub use Rattle.debug_tables.proofs.FrontLemmas.{AddsFront-start as front_start}
pub use Rattle.debug_modules.proofs.EnteringLemmas.{anyhow}

-- a writer that is as it was
pub unwritten : {S : Type 0} (contents : S → Option (List ℕ)) (old new : S) (all : List ℕ) → new ≡ old
    → AddsFront (contents old) (contents new) all
unwritten {S = S} contents old new all same =
    subst (λ (s : S). AddsFront (contents old) (contents s) all) (sym same) (front_start (contents old) all)

-- all but some of a text was appended, and then nothing more
pub unwritten_then : {S : Type 0} (contents : S → Option (List ℕ)) (held : Option (List ℕ)) (old new : S) (rest all : List ℕ)
    → AddsAllBut held (contents old) rest all → new ≡ old → AddsFront held (contents new) all
unwritten_then {S = S} contents held old new rest all done same =
    subst (λ (s : S). AddsFront held (contents s) all) (sym same) (AddsFront-from_all_but held (contents old) rest all done)

-- what stands written of a front
record WrittenOf (before after : Option (List ℕ)) (text : List ℕ) : Type 0 where
  pub written : List ℕ
  pub left : List ℕ
  pub appends : Appends before after written
  pub whole : written ++ left ≡ text

written_of : (before after : Option (List ℕ)) (text : List ℕ) → AddsFront before after text → WrittenOf before after text
written_of None after text front = record { written = text; left = []; appends = tt; whole = append-nil text }
written_of (Some held) None text front = absurd (grind (arith, front.front.adds.holds))
written_of (Some held) (Some now) text front = record {
  written = front.front.adds.part;
  left = front.rest;
  appends = (let e : Some now ≡ Some (held ++ front.front.adds.part) = front.front.adds.holds in cc);
  whole = front.front.adds.whole;
}

-- all but some of a text was appended, and then a front of that
pub front_then : (a b c : Option (List ℕ)) (rest piece more all : List ℕ) → AddsAllBut a b rest all → rest ≡ piece ++ more
    → AddsFront b c piece → AddsFront a c all
front_then a b c rest piece more all done split here =
    let w = written_of b c piece here in
    record {
      rest = w.left ++ more;
      front = AddsAllBut-more a b c rest w.written (w.left ++ more) all done w.appends
          (split ∙ ap (λ (p : List ℕ). p ++ more) (sym w.whole) ∙ append_assoc w.written w.left more);
    }

-- what holds of a call's result holds also where more follows from it
pub and_so : {A E : Type 0} (result : Result A E) (P Q : Type 0) → (P → Q) → OnOk result P → OnOk result Q
and_so (Ok a) P Q more holds = more holds
and_so (Err e) P Q more holds = record {}
