-- Which blocks images of modules and private words name.
use Rattle.std.proofs.Common.{List, ℕ, [], ◌∷◌, ◌≡◌, ◌≤◌, ◌==◌, ◌∙◌, zero, suc, map, true, false, refl, sym, ap, inl, inr, Some, None, arith}
use Rattle.std.specs.Prelude.{slice_get}
use Rattle.std.specs.List.{count_by}
use Rattle.std.proofs.lemmas.List.Recursion.{is_count_by}
use Rattle.std.proofs.lemmas.Bool.{and_from, and_parts, both_ways, cases_Bool, eq-eqb, eqb-true, false≢true, ne_eqb, or_cases, or_left, or_right}
use Rattle.instances_table.specs.plans.Doable.{is_used}
use Rattle.instances_table.specs.Lookup.{has_image_at}
use Rattle.instances_table.specs.ModuleArea.{is_in_module_area}
use Rattle.instances_table.specs.Modules.{Module, number_passing}
use Rattle.law_machine.specs.modules.Tidied.{IsImageOf}

-- images
pub image_there : (modules : List Module) (block : ℕ) → has_image_at block modules ≡ true → IsImageOf modules block
image_there [] block is = absurd (false≢true is)
image_there (m ∷ ms) block is = elim (or_cases _ (has_image_at block ms) is) [
  | inl here ↦ record {
    number = 0;
    owner = m;
    there = refl;
    stands = eqb-true m.image.at block (and_parts (is_in_module_area m.image.at) (m.image.at == block) here).1;
  }
  | inr later ↦
      let rest : IsImageOf ms block = image_there ms block later in
      record { number = suc rest.number; owner = rest.owner; there = rest.there; stands = rest.stands }
]

there_image : (modules : List Module) (block number : ℕ) (m : Module) → is_in_module_area block ≡ true → slice_get modules number ≡ Some m → m.image.at ≡ block
    → has_image_at block modules ≡ true
there_image [] block number m inside there stands = absurd (let none : None ≡ Some m = there in cc)
there_image (n ∷ ms) block zero m inside there stands =
    let same : n ≡ m = cc in
    let at : n.image.at ≡ block = ap (λ (x : Module). x.image.at) same ∙ stands in
    or_left _ (has_image_at block ms)
    (and_from (is_in_module_area n.image.at) (n.image.at == block) (ap is_in_module_area at ∙ inside) (eq-eqb n.image.at block at))
there_image (n ∷ ms) block (suc number) m inside there stands = or_right _ (has_image_at block ms) (there_image ms block number m inside there stands)

pub image_found : (modules : List Module) (block : ℕ) → is_in_module_area block ≡ true → IsImageOf modules block → has_image_at block modules ≡ true
image_found modules block inside image = there_image modules block image.number image.owner inside image.there image.stands

-- one of some words names a block
pub record IsOnce (f : ℕ → ℕ) (b : ℕ) (ss : List ℕ) : Type 0 where
  pub slot : ℕ
  pub used : is_used slot ss ≡ true
  pub names : f slot ≡ b
  pub alone : (other : ℕ) → is_used other ss ≡ true → f other ≡ b → other ≡ slot

abbrev NamesNone : (ℕ → ℕ) → ℕ → List ℕ → Type 0
NamesNone f b ss = (other : ℕ) → is_used other ss ≡ true → f other ≡ b → ⊥

abbrev pub times : (ℕ → ℕ) → ℕ → List ℕ → ℕ
times f b ss = number_passing (λ (w : ℕ). w == b) (map f ss)

none_named : (f : ℕ → ℕ) (b : ℕ) (ss : List ℕ) → times f b ss ≡ 0 → NamesNone f b ss
none_named f b [] none other used names = false≢true used
none_named f b (s ∷ ss) none other used names = elim (cases_Bool (f s == b)) [
  | inl own ↦ (let some = rw own at none in omega (arith, some))
  | inr away ↦
      let rest : times f b ss ≡ 0 = (let n = rw away at none in omega (arith, n)) in
      elim (or_cases (s == other) (is_used other ss) used) [
        | inl here ↦
            let same : s ≡ other = eqb-true s other here in
            both_ways (f s == b) away (eq-eqb (f s) b (ap f same ∙ names))
        | inr later ↦ none_named f b ss rest other later names
      ]
]

pub once_named : (f : ℕ → ℕ) (b : ℕ) (ss : List ℕ) → times f b ss ≡ 1 → IsOnce f b ss
once_named f b [] one = absurd (omega (arith, one))
once_named f b (s ∷ ss) one = elim (cases_Bool (f s == b)) [
  | inl own ↦
      let rest : times f b ss ≡ 0 = (let n = rw own at one in omega (arith, n)) in
      record {
        slot = s;
        used = or_left (s == s) (is_used s ss) (eq-eqb s s refl);
        names = eqb-true (f s) b own;
        alone = λ other used names. elim (or_cases (s == other) (is_used other ss) used) [
          | inl here ↦ sym (eqb-true s other here)
          | inr later ↦ absurd (none_named f b ss rest other later names)
        ];
      }
  | inr away ↦
      let rest : IsOnce f b ss = once_named f b ss (let n = rw away at one in omega (arith, n)) in
      record {
        slot = rest.slot;
        used = or_right (s == rest.slot) (is_used rest.slot ss) rest.used;
        names = rest.names;
        alone = λ other used names. elim (or_cases (s == other) (is_used other ss) used) [
          | inl here ↦
              let same : s ≡ other = eqb-true s other here in
              absurd (both_ways (f s == b) away (eq-eqb (f s) b (ap f same ∙ names)))
          | inr later ↦ rest.alone other later names
        ];
      }
]

named_none : (f : ℕ → ℕ) (b : ℕ) (ss : List ℕ) → NamesNone f b ss → times f b ss ≡ 0
named_none f b [] none = refl
named_none f b (s ∷ ss) none =
    let away : (f s == b) ≡ false = ne_eqb (f s) b (λ e. none s (or_left (s == s) (is_used s ss) (eq-eqb s s refl)) e) in
    let rest : times f b ss ≡ 0 = named_none f b ss (λ other used names. none other (or_right (s == other) (is_used other ss) used) names) in
    rw (away, rest) refl

pub words_counted : (b : ℕ) (ws : List ℕ) → number_passing (λ (w : ℕ). w == b) ws ≡ count_by (λ (w : ℕ). w == b) ws
words_counted b ws = is_count_by (number_passing (λ (w : ℕ). w == b)) (λ (w : ℕ). w == b) refl (λ w others. elim (cases_Bool (w == b)) [
  | inl one ↦ rw one refl
  | inr none ↦ rw none (omega arith)
]) ws

-- slots that differ
abbrev pub Differ : List ℕ → Type 0
Differ ss = (x : ℕ) → number_passing (λ (s : ℕ). s == x) ss ≤ 1

unused : (x : ℕ) (ss : List ℕ) → number_passing (λ (s : ℕ). s == x) ss ≡ 0 → is_used x ss ≡ true → ⊥
unused x [] none used = false≢true used
unused x (s ∷ ss) none used = elim (cases_Bool (s == x)) [
  | inl here ↦ (let some = rw here at none in omega (arith, some))
  | inr other ↦ unused x ss (let n = rw other at none in omega (arith, n)) (rw other at used)
]

fewer : (s : ℕ) (ss : List ℕ) → Differ (s ∷ ss) → Differ ss
fewer s ss differ x = elim (cases_Bool (s == x)) [
  | inl here ↦ (let some = rw here at (differ x) in omega (arith, some))
  | inr other ↦ (let same = rw other at (differ x) in omega (arith, same))
]

pub named_once : (f : ℕ → ℕ) (b : ℕ) (ss : List ℕ) → Differ ss → IsOnce f b ss → times f b ss ≡ 1
named_once f b [] differ once = absurd (false≢true once.used)
named_once f b (s ∷ ss) differ once = elim (cases_Bool (f s == b)) [
  | inl own ↦
      let first : number_passing (λ (x : ℕ). x == s) ss ≡ 0 = (let most = rw (eq-eqb s s refl) at (differ s) in omega (arith, most)) in
      let is : s ≡ once.slot = once.alone s (or_left (s == s) (is_used s ss) (eq-eqb s s refl)) (eqb-true (f s) b own) in
      let rest : times f b ss ≡ 0 = named_none f b ss (λ other used names.
      (let same : other ≡ once.slot = once.alone other (or_right (s == other) (is_used other ss) used) names in
      let again : is_used s ss ≡ true = ap (λ (x : ℕ). is_used x ss) (is ∙ sym same) ∙ used in
      unused s ss first again)) in
      rw (own, rest) refl
  | inr away ↦
      let later : is_used once.slot ss ≡ true = elim (or_cases (s == once.slot) (is_used once.slot ss) once.used) [
        | inl here ↦
            let same : s ≡ once.slot = eqb-true s once.slot here in
            absurd (both_ways (f s == b) away (eq-eqb (f s) b (ap f same ∙ once.names)))
        | inr later ↦ later
      ] in
      let rest : times f b ss ≡ 1 = named_once f b ss (fewer s ss differ) (record {
        slot = once.slot;
        used = later;
        names = once.names;
        alone = λ other used names. once.alone other (or_right (s == other) (is_used other ss) used) names;
      }) in
      rw (away, rest) refl
]
