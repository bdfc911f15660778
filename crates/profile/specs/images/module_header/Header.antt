-- A module's header as a function of its image's bytes (RISC OS 3 Programmer's Reference Manual,
-- "Modules", "Module header format"): words at &00 the start, &04 initialise, &08 finalise, &10 the
-- title, &1C the SWI chunk base, &20 the SWI handler. The faults are this project's own, the first
-- of a fixed order. A start word that is no entry counts as none.
use Rattle.std.specs.Prelude.{ℕ, List, length, Result, Ok, Err, nat_lt, if◌then◌else◌, unwrap_or}
use Rattle.std.specs.Option.{ok_or}
use Rattle.raw_store.specs.Outcome.{bind}
use Rattle.profile.specs.declared.images.module_header.fault.HeaderFault.{HeaderFault}
use Rattle.profile.specs.declared.images.module_header.fault.HeaderFault.TheVariants.{Short, Initialise, Finalise, Title}
use Rattle.profile.specs.declared.images.module_header.header.Header.{Header}
use Rattle.profile.specs.images.module_header.Words.{image_word_at, entry_at}
use Rattle.profile.specs.images.module_header.Title.{title_at}
use Rattle.profile.specs.images.module_header.Swis.{has_swis}

abbrev pub header_of : List ℕ → Result Header HeaderFault
header_of image = if nat_lt (length image) 28 then Err Short else (
    bind (ok_or (entry_at image 0x04) Initialise) (λ initialise.
    bind (ok_or (entry_at image 0x08) Finalise) (λ finalise.
    bind (ok_or (title_at image (image_word_at image 0x10)) Title) (λ title.
    Ok (record {
      title = record { items = title };
      start = unwrap_or (entry_at image 0x00) 0;
      initialise = initialise;
      finalise = finalise;
      chunk = if has_swis image then image_word_at image 0x1C else 0;
      handler = if has_swis image then image_word_at image 0x20 else 0;
    })))))
