use Rattle.std.proofs.Common.{◌≡◌, ◌≤◌, ◌+◌, ◌-◌, length, take, drop}
use Rattle.profile.specs.images.module_header.Title.{title_len}
use Rattle.profile.proofs.images.module_header.title.title_at.Given as goal

-- all bytes so far are the title's
abbrev pub invariant-loop-place : goal.invariant-loop-place
invariant-loop-place g l = record {
  within : length l.title.items ≤ 31;
  kept : l.title.items ≡ take (l.place - l.at) (drop l.at (g.B.ImageBytes.bytes l.image));
  counted : title_len (g.B.ImageBytes.bytes l.image) l.at ≡ title_len (g.B.ImageBytes.bytes l.image) l.place + (l.place - l.at);
}
