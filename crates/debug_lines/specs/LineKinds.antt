-- What a line of a script is: whether it asks for nothing, takes steps, or names an image that is there.
use Rattle.std.specs.Prelude.{Bool, true, false, ◌&&◌, ◌||◌, not, List, is_some}
use Rattle.profile.specs.images.Entries.{Entry, bytes_of_image}
use Rattle.command_shell_lines.specs.Requests.{Request, Nothing, Hex, Asm, Run, Call, Load, Step, opens_block}

abbrev pub takes_steps : Request → Bool
takes_steps Run = true
takes_steps (Step count) = true
takes_steps (Call number) = true
takes_steps (Load text) = true
takes_steps request = false

-- whether the image of a line that opens a block is among these
abbrev pub is_named_image : List Entry → Request → Bool
is_named_image images (Hex name) = is_some (bytes_of_image images name)
is_named_image images (Asm name origin) = is_some (bytes_of_image images name)
is_named_image images request = false

-- A block is refused where its image was there before, or isn't there after it.
abbrev pub is_refused_block : List Entry → List Entry → Request → Bool
is_refused_block before after request =
    opens_block request && (is_named_image before request || not (is_named_image after request))

abbrev pub asks_nothing : Request → Bool
asks_nothing Nothing = true
asks_nothing request = false
