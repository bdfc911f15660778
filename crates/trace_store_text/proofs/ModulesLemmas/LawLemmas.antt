-- The list of the instances that differ is complete, and true.
use Rattle.std.proofs.Common.{◌≡◌, ◌≢◌, ◌⊎◌, ℕ, ◌+◌, ◌<◌, ◌==◌, Bool, true, false, List, [], ◌∷◌, ◌++◌, Contains, Option, Some, None, refl, sym, ap, subst, ◌∙◌, arith, inl, inr, if◌then◌else◌}
use Rattle.std.proofs.lemmas.Bool.{cases_Bool, eqb-true, eqb-false}
use Rattle.std.proofs.lemmas.List.Elements.{Contains-append_cases, Contains-append_left, Contains-append_right, Contains-push}
use Rattle.std.specs.List.{flat_map, list_any}
use Rattle.trace_store_text.proofs.ItemsLemmas.MadeLemmas.{first_or_later, in_all, made_of, none_in}
use Rattle.instances_table.specs.Modules.{Module}
use Rattle.trace_store_text.specs.declared.modules.marks.InstanceMark.{InstanceMark}
use Rattle.trace_store_text.specs.modules.Changes.{InstanceChange, gone_instance, instance_changes, is_same_instance, kept_instance, kept_instance_by, old_address}
use Rattle.trace_store_text.specs.modules.Laws.{ExplainsModules, IsGoneInstance, IsInstanceChange, IsInstanceExplained, IsKeptInstance, ListsInstances}
use Rattle.trace_store_text.specs.modules.Marks.{instance_marks}

was_explained : (before after : List InstanceMark) (x : InstanceMark) → Contains before x → (list_any (is_same_instance x) after ≡ true)
    ⊎ Contains (flat_map (gone_instance after) before) (record { mark = x; was = Some x.at; is = None })
was_explained before after x h =
    elim (cases_Bool (list_any (is_same_instance x) after)) [
      | inl is ↦ inl is
      | inr isnt ↦ inr (in_all (gone_instance after) before x (record { mark = x; was = Some x.at; is = None }) h
          (rw isnt (Contains-push [] (record { mark = x; was = Some x.at; is = None }))))
    ]

kept_by : (x : InstanceMark) (o : Option ℕ) → (o ≡ Some x.at) ⊎ Contains (kept_instance_by x o) (record { mark = x; was = o; is = Some x.at })
kept_by x None = inr (Contains-push [] (record { mark = x; was = None; is = Some x.at }))
kept_by x (Some old) =
    elim (cases_Bool (old == x.at)) [
      | inl is ↦ inl (ap (λ (n : ℕ). Some n) (eqb-true old x.at is))
      | inr isnt ↦ inr (rw isnt (Contains-push [] (record { mark = x; was = Some old; is = Some x.at })))
    ]

is_explained : (before after : List InstanceMark) (x : InstanceMark) → Contains after x → (old_address before x ≡ Some x.at)
    ⊎ Contains (flat_map (kept_instance before) after) (record { mark = x; was = old_address before x; is = Some x.at })
is_explained before after x h =
    elim (kept_by x (old_address before x)) [
      | inl same ↦ inl same
      | inr reported ↦ inr (in_all (kept_instance before) after x (record { mark = x; was = old_address before x; is = Some x.at }) h reported)
    ]

pub explains : ExplainsModules
explains before after x = record {
  was = λ h. elim (was_explained (instance_marks before) (instance_marks after) x h) [
    | inl is ↦ inl is
    | inr reported ↦ inr (Contains-append_left (flat_map (gone_instance (instance_marks after)) (instance_marks before))
        (flat_map (kept_instance (instance_marks before)) (instance_marks after)) (record { mark = x; was = Some x.at; is = None }) reported)
  ];
  is = λ h. elim (is_explained (instance_marks before) (instance_marks after) x h) [
    | inl is ↦ inl is
    | inr reported ↦ inr (Contains-append_right (flat_map (gone_instance (instance_marks after)) (instance_marks before))
        (flat_map (kept_instance (instance_marks before)) (instance_marks after))
        (record { mark = x; was = old_address (instance_marks before) x; is = Some x.at }) reported)
  ];
}

gone_is_true : (before after : List Module) (x : InstanceMark) (c : InstanceChange) → Contains (instance_marks before) x
    → Contains (gone_instance (instance_marks after) x) c → IsInstanceChange before after c c.is
gone_is_true before after x c there h =
    elim (cases_Bool (list_any (is_same_instance x) (instance_marks after))) [
      | inl is ↦ absurd (none_in c (rw is at h))
      | inr isnt ↦ elim (first_or_later (record { mark = x; was = Some x.at; is = None }) [] c (rw isnt at h)) [
        | inl e ↦ subst (λ (d : InstanceChange). IsInstanceChange before after d d.is) (sym e) (record { there = there; none = isnt; was = refl })
        | inr none ↦ absurd (none_in c none)
      ]
    ]

kept_is_true_by : (before after : List Module) (x : InstanceMark) (o : Option ℕ) (c : InstanceChange) → Contains (instance_marks after) x
    → o ≡ old_address (instance_marks before) x → Contains (kept_instance_by x o) c → IsInstanceChange before after c c.is
kept_is_true_by before after x None c there was h =
    elim (first_or_later (record { mark = x; was = None; is = Some x.at }) [] c h) [
      | inl e ↦ subst (λ (d : InstanceChange). IsInstanceChange before after d d.is) (sym e)
          (record { there = there; is = refl; was = was; differs = λ (same : None ≡ Some x.at). absurd (cc) })
      | inr none ↦ absurd (none_in c none)
    ]
kept_is_true_by before after x (Some old) c there was h =
    elim (cases_Bool (old == x.at)) [
      | inl is ↦ absurd (none_in c (rw is at h))
      | inr isnt ↦ elim (first_or_later (record { mark = x; was = Some old; is = Some x.at }) [] c (rw isnt at h)) [
        | inl e ↦ subst (λ (d : InstanceChange). IsInstanceChange before after d d.is) (sym e)
            (record { there = there; is = refl; was = was; differs = λ same. eqb-false old x.at isnt (cc) })
        | inr none ↦ absurd (none_in c none)
      ]
    ]

pub are_true : ListsInstances
are_true before after c h =
    elim (Contains-append_cases (flat_map (gone_instance (instance_marks after)) (instance_marks before))
    (flat_map (kept_instance (instance_marks before)) (instance_marks after)) c h) [
      | inl gone ↦
          let one = made_of (gone_instance (instance_marks after)) (instance_marks before) c gone in
          gone_is_true before after one.item c one.there one.made
      | inr kept ↦
          let one = made_of (kept_instance (instance_marks before)) (instance_marks after) c kept in
          kept_is_true_by before after one.item (old_address (instance_marks before) one.item) c one.there refl one.made
    ]
