-- What a call on modules is given that its actions need. What it isn't given is 0, or empty (this
-- project's own).
use Rattle.std.specs.Prelude.{ℕ, Bool, nat_lt, List, [], length}
use Rattle.arrayvec.specs.ArrayVec.{ArrayVec}
use Rattle.instances_table.specs.plans.Header.{Header}
use Rattle.instances_table.specs.declared.plans.given.Given.{Given}
use Rattle.instances_table.specs.declared.parts.Image.{Image}
use Rattle.instances_table.specs.declared.parts.NewInstance.{NewInstance}

abbrev pub no_header : Header
no_header = record {
  title = record { items = [] };
  start = 0;
  initialise = 0;
  finalise = 0;
  chunk = 0;
  handler = 0;
}

-- Of a text at most 255 bytes are kept.
abbrev pub is_text_too_long : List ℕ → Bool
is_text_too_long text = nat_lt 255 (length text)

-- a call that names an instance
abbrev pub given_only : List ℕ → ℕ → Given
given_only text return = record {
  header = no_header;
  image = 0;
  len = 0;
  name = record { items = [] };
  text = record { items = text };
  return_address = return;
}

-- a call that adds an instance to the module of a title
abbrev pub given_instance : ArrayVec ℕ → NewInstance → List ℕ → Given
given_instance title new text = record (given_only text 0)
    { header = record no_header { title = title }; name = new.name }

-- a call that adds a module
abbrev pub given_module : Header → Image → List ℕ → Given
given_module header image text = record (given_only text 0)
    { header = header; image = image.at; len = image.len }
