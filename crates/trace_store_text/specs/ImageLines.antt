-- What a store call changes in the recorded images, a line below the call for each that is gone or
-- new: its address, and how many bytes its record covers, in the module area all that its block holds.
use Rattle.std.specs.Prelude.{ℕ, Bool, not, ◌==◌, ◌&&◌, List, [], ◌++◌, codes, if◌then◌else◌}
use Rattle.std.specs.Fmt.{decimal}
use Rattle.std.specs.List.{flat_map, list_any}
use Rattle.profile.specs.Digits.{hex_word}
use Rattle.address_map.specs.declared.region.Region.{Region}
use Rattle.store_copies.specs.Store.{Store, is_image}

-- `image 01800014 76 new`
unfoldable pub image_line : List ℕ → Region → List ℕ
image_line verb r = codes "                  image " ++ (hex_word r.at ++
    (codes " " ++ (decimal r.len ++ verb)))

abbrev pub is_same_image : Region → Region → Bool
is_same_image r other = is_image other.kind && (other.at == r.at && other.len == r.len)

abbrev pub is_lone_image : List Region → Region → Bool
is_lone_image others r = is_image r.kind && not (list_any (is_same_image r) others)

-- the line of an image that isn't among some others
abbrev pub lone_image_line : List Region → List ℕ → Region → List ℕ
lone_image_line others verb r = if is_lone_image others r then image_line verb r else []

unfoldable pub image_lines : Store → Store → List ℕ
image_lines s s' = flat_map (lone_image_line s'.others (codes " gone\n")) s.others
    ++ flat_map (lone_image_line s.others (codes " new\n")) s'.others
