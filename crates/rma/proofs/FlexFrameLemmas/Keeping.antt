-- Calls one after another keep the flex store as each does.
use Rattle.std.proofs.Common.{ℕ, ◌≡◌, ◌&&◌, ◌||◌, ◌∙◌, Bool, false, List, [], ◌∷◌, refl, sym, ap, subst, inl, inr}
use Rattle.std.proofs.lemmas.Bool.{cases_Bool, false_from_ne_true}
use Rattle.dynamic_areas.specs.Bytes.{in_range}
use Rattle.dynamic_areas.specs.Region.{Region}
use Rattle.dynamic_areas.proofs.Anchored.{not_flex}
use Rattle.dynamic_areas.specs.Store.{Store, is_flex_store, is_image, is_in_flex_store}
use Rattle.rma.specs.flex_frame.Keeping.{IsFlexKept, KeepsFlex, beside_images, is_flex_byte}

-- the flex store's range is one beside the module images
flex_beside : (rs : List Region) (a : ℕ) → is_in_flex_store (beside_images rs) a ≡ is_in_flex_store rs a
flex_beside [] a = refl
flex_beside (r ∷ rs) a = elim (cases_Bool (is_image r.kind)) [
  | inl image ↦
      let other : is_flex_store r.kind ≡ false = false_from_ne_true _ (λ flex. not_flex r.kind flex image) in
      rw (image, other) (flex_beside rs a)
  | inr other ↦ rw other (ap (λ (b : Bool). (is_flex_store r.kind && in_range r.at r.len a) || b) (flex_beside rs a))
]

pub same_store : (rs qs : List Region) (a : ℕ) → beside_images qs ≡ beside_images rs → is_in_flex_store qs a ≡ is_in_flex_store rs a
same_store rs qs a same = sym (flex_beside qs a) ∙ ap (λ (os : List Region). is_in_flex_store os a) same ∙ flex_beside rs a

-- the flex store's bytes are the same ones after a call that keeps it
pub same_flex : (s t : Store) (a : ℕ) → IsFlexKept s t → is_flex_byte t a ≡ is_flex_byte s a
same_flex s t a kept = rw (same_store s.others t.others a kept.beside, kept.anchors a) refl

pub keeps_same : (s : Store) → KeepsFlex s s
unfolding KeepsFlex
keeps_same s free = (record { bytes = λ a is. refl; anchors = λ a. refl; headers = λ a. refl; beside = refl }, free)

pub keeps_equal : (s t : Store) → t ≡ s → KeepsFlex s t
keeps_equal s t e = subst (λ (u : Store). KeepsFlex s u) (sym e) (keeps_same s)

pub keeps_then : (s t u : Store) → KeepsFlex s t → KeepsFlex t u → KeepsFlex s u
unfolding KeepsFlex
keeps_then s t u one two free =
    let first = one free in
    let then = two first.1 in (
      record {
        bytes = λ a is. then.0.bytes a (same_flex s t a first.0 ∙ is) ∙ first.0.bytes a is;
        anchors = λ a. then.0.anchors a ∙ first.0.anchors a;
        headers = λ a. then.0.headers a ∙ first.0.headers a;
        beside = then.0.beside ∙ first.0.beside;
      },
      then.1,
    )
