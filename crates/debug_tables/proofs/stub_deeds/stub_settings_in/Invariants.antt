use Rattle.std.proofs.Common.{◌≡◌, length, take}
use Rattle.debug_tables.specs.Stubs.{stub_settings_in}
use Rattle.debug_tables.proofs.stub_deeds.stub_settings_in.Given as goal

-- the settings so far
abbrev pub invariant-loop-set : goal.invariant-loop-set
invariant-loop-set l = record {
  items : l.settings.items ≡ stub_settings_in l.mode (take l.set-index l.registers);
  count : length l.settings.items ≡ l.set-index;
}
