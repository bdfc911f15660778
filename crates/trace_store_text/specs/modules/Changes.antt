-- Which instances of modules a store call made, moved and took away. An instance is the same where its
-- module's title and its own name are, but for the case of their letters, and where its image has as
-- many bytes.
use Rattle.std.specs.Prelude.{ℕ, Bool, ◌==◌, ◌&&◌, not, List, [], ◌∷◌, ◌++◌, Option, Some, None, option_map, slice_get, if◌then◌else◌}
use Rattle.std.specs.List.{flat_map, list_any, position}
use Rattle.std.specs.Str.{str_eq_ignore_ascii_case}
use Rattle.instances_table.specs.Modules.{Module}
use Rattle.trace_store_text.specs.declared.modules.marks.InstanceMark.{InstanceMark}
use Rattle.trace_store_text.specs.modules.Marks.{instance_marks}

abbrev pub is_same_instance : InstanceMark → InstanceMark → Bool
is_same_instance x y = str_eq_ignore_ascii_case x.title.items y.title.items
    && (str_eq_ignore_ascii_case x.name.items y.name.items && x.len == y.len)

-- where the image of the first that is the same stands, if one is
abbrev pub marked_address : List InstanceMark → Option ℕ → Option ℕ
marked_address marks None = None
marked_address marks (Some n) = option_map (λ (y : InstanceMark). y.at) (slice_get marks n)

abbrev pub old_address : List InstanceMark → InstanceMark → Option ℕ
old_address marks x = marked_address marks (position (is_same_instance x) marks)

-- An instance that is shown: where its image stood, and where it stands now.
pub record InstanceChange : Type 0 where
  pub mark : InstanceMark
  pub was : Option ℕ
  pub is : Option ℕ

-- one that isn't there after the call
abbrev pub gone_instance : List InstanceMark → InstanceMark → List InstanceChange
gone_instance after x = if list_any (is_same_instance x) after then []
    else record { mark = x; was = Some x.at; is = None } ∷ []

-- one that is there: new, or moved
abbrev pub kept_instance_by : InstanceMark → Option ℕ → List InstanceChange
kept_instance_by x None = record { mark = x; was = None; is = Some x.at } ∷ []
kept_instance_by x (Some old) = if old == x.at then []
    else record { mark = x; was = Some old; is = Some x.at } ∷ []

abbrev pub kept_instance : List InstanceMark → InstanceMark → List InstanceChange
kept_instance before x = kept_instance_by x (old_address before x)

-- all, by the instances before and after
abbrev pub changes_of_marks : List InstanceMark → List InstanceMark → List InstanceChange
changes_of_marks before after = flat_map (gone_instance after) before ++ flat_map (kept_instance before) after

abbrev pub instance_changes : List Module → List Module → List InstanceChange
instance_changes before after = changes_of_marks (instance_marks before) (instance_marks after)

-- An instance that is the preferred one of its module, where another was before: of a module with the same
-- title, and of another name.
abbrev pub was_preferred_beside : InstanceMark → InstanceMark → Bool
was_preferred_beside x y = y.preferred && (str_eq_ignore_ascii_case x.title.items y.title.items
    && not (str_eq_ignore_ascii_case x.name.items y.name.items))

abbrev pub is_preferred_anew : List InstanceMark → InstanceMark → Bool
is_preferred_anew before x = x.preferred && list_any (was_preferred_beside x) before
