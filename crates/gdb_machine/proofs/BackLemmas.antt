-- None is met before the one that is met first.
use Rattle.std.proofs.Common.{◌≡◌, ◌<◌, ◌≤◌, ◌⊎◌, inl, inr, ℕ, Bool, true, false, ◌&&◌, List, [], ◌∷◌, refl, ap, sym, ◌∙◌, arith}
use Rattle.std.specs.Prelude.{◌==◌, ◌||◌, nat_lt, if◌then◌else◌}
use Rattle.std.specs.List.{All}
use Rattle.std.proofs.Math.Bool.{and-false}
use Rattle.std.proofs.lemmas.Bool.{eqb-true, le-ltb, ltb-false, ltb-true, or_from, or_parts}
use Rattle.std.proofs.lemmas.Bool.Decides.{nat_tests}
use Rattle.std.proofs.lemmas.List.Elements.{All-cons, All-nil}
use Rattle.gdb_packets.proofs.ReadingLemmas.{both_true}
use Rattle.gdb_packets.proofs.RequestLawsLemmas.PartLemmas.{or_either}
use Rattle.gdb_machine.specs.BackEnds.{FirstIsMetFirst, first_met, is_met_before, met_first, turn_of}
use Rattle.gdb_machine.specs.declared.back_ends.BackEnd.{BackEnd}

differ : (x y : ℕ) → x < y → (x == y) ≡ false
differ x y less = grind (arith, nat_tests, less)

none_left : (x y : Bool) → x ≡ false → (x && y) ≡ false
none_left x y e = rw e refl

-- where the one is not met before the second, and a third is, it is not met before that
later_still : (a b c p q r : ℕ) → (nat_lt b a || (a == b && nat_lt q p)) ≡ false → (nat_lt b c || (c == b && nat_lt q r)) ≡ true
    → (nat_lt c a || (a == c && nat_lt r p)) ≡ false
later_still a b c p q r not_before before =
    let parts = or_parts (nat_lt b a) (a == b && nat_lt q p) not_before in
    by (ltb-false b a parts.0) parts.1 (or_either (nat_lt b c) (c == b && nat_lt q r) before)
  where
    after : a ≤ b → b < c → (nat_lt c a || (a == c && nat_lt r p)) ≡ false
    after h less =
        let up : a < c = omega (arith, h, less) in
        let within : a ≤ c = omega (arith, h, less) in
        or_from (nat_lt c a) (a == c && nat_lt r p) (le-ltb c a within) (none_left (a == c) (nat_lt r p) (differ a c up))

    turns : (t : Bool) → (a == c) ≡ t → (a == b && nat_lt q p) ≡ false → c ≡ b → q < r → (t && nat_lt r p) ≡ false
    turns false e none same less = refl
    turns true e none same less =
        let both : (a == b) ≡ true = ap (λ (n : ℕ). a == n) (sym same) ∙ e in
        let not_less : nat_lt q p ≡ false = sym (ap (λ (t : Bool). t && nat_lt q p) both) ∙ none in
        let most : p ≤ q = ltb-false q p not_less in
        let within : p ≤ r = omega (arith, most, less) in
        le-ltb r p within

    at_once : a ≤ b → (a == b && nat_lt q p) ≡ false → c ≡ b → q < r → (nat_lt c a || (a == c && nat_lt r p)) ≡ false
    at_once h none same less =
        let within : a ≤ c = omega (arith, h, same) in
        or_from (nat_lt c a) (a == c && nat_lt r p) (le-ltb c a within) (turns (a == c) refl none same less)

    by : a ≤ b → (a == b && nat_lt q p) ≡ false → ((nat_lt b c ≡ true) ⊎ ((c == b && nat_lt q r) ≡ true))
        → (nat_lt c a || (a == c && nat_lt r p)) ≡ false
    by h none (inl e) = after h (ltb-true b c e)
    by h none (inr e) =
        let both = both_true (c == b) (nat_lt q r) e in
        at_once h none (eqb-true c b both.0) (ltb-true q r both.1)

never_itself : (a p : ℕ) → (nat_lt a a || (a == a && nat_lt p p)) ≡ false
never_itself a p =
    let at_most : a ≤ a = omega arith in
    let no_more : p ≤ p = omega arith in
    or_from (nat_lt a a) (a == a && nat_lt p p) (le-ltb a a at_most) (ap (λ (t : Bool). (a == a) && t) (le-ltb p p no_more) ∙ and-false (a == a))

stays : (x e o : BackEnd) → is_met_before x e ≡ false → is_met_before x (met_first e o) ≡ false
stays x e o h = by (is_met_before o e) refl
  where
    by : (b : Bool) → is_met_before o e ≡ b → is_met_before x (if b then o else e) ≡ false
    by true before = later_still x.step e.step o.step (turn_of x.why) (turn_of e.why) (turn_of o.why) h before
    by false same = h

other_not_before : (e o : BackEnd) → is_met_before o (met_first e o) ≡ false
other_not_before e o = by (is_met_before o e) refl
  where
    by : (b : Bool) → is_met_before o e ≡ b → is_met_before o (if b then o else e) ≡ false
    by true before = never_itself o.step (turn_of o.why)
    by false not_before = not_before

-- what is not met before one isn't met before the first of it and others
not_before_first : (x e : BackEnd) (others : List BackEnd) → is_met_before x e ≡ false → is_met_before x (first_met e others) ≡ false
unfolding first_met
not_before_first x e [] h = h
not_before_first x e (o ∷ others) h = not_before_first x (met_first e o) others (stays x e o h)

none_before : (e : BackEnd) (others : List BackEnd) → All (λ o. is_met_before o (first_met e others) ≡ false) others
unfolding first_met
none_before e [] = All-nil (λ (x : BackEnd). is_met_before x (first_met e []) ≡ false)
none_before e (o ∷ others) =
    All-cons (λ (x : BackEnd). is_met_before x (first_met (met_first e o) others) ≡ false) o others
    (not_before_first o (met_first e o) others (other_not_before e o)) (none_before (met_first e o) others)

pub first_is_met_first : FirstIsMetFirst
first_is_met_first e others =
    All-cons (λ (x : BackEnd). is_met_before x (first_met e others) ≡ false) e others
    (not_before_first e e others (never_itself e.step (turn_of e.why))) (none_before e others)
