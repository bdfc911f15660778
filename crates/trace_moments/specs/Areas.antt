-- The dynamic areas as records show them, with how many pages are in the pool (RISC OS 3 Programmer's
-- Reference Manual, supplement, "OS_DynamicArea"): not their flags, nor their workspace.
use Rattle.std.specs.Prelude.{ℕ, List, map}
use Rattle.dynamic_areas.specs.declared.area.Area.{Area}
use Rattle.trace_moments.specs.declared.areas.ShownArea.{ShownArea}
use Rattle.trace_moments.specs.declared.areas.ShownAreas.{ShownAreas}

abbrev pub shown_area : Area → ShownArea
shown_area a = record {
  number = a.number;
  name = a.name;
  base = a.base;
  pages = a.pages;
  maximum = a.maximum;
}

abbrev pub shown_areas : List Area → ℕ → ShownAreas
shown_areas areas pool = record { list = record { items = map shown_area areas }; pool = pool }
