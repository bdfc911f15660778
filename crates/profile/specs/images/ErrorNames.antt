-- The names of the refusals, as the script language prints them.
use Rattle.std.specs.Prelude.{ℕ, List, codes}
use Rattle.profile.specs.declared.images.error.ImageError.{ImageError}
use Rattle.profile.specs.declared.images.error.ImageError.TheVariants.{BadName, NameTaken, TooLarge, TableFull, Memory}

abbrev pub image_error_name : ImageError → List ℕ
image_error_name BadName = codes "BadName"
image_error_name NameTaken = codes "NameTaken"
image_error_name TooLarge = codes "TooLarge"
image_error_name TableFull = codes "TableFull"
image_error_name Memory = codes "Memory"
