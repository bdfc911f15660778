-- The names of the refusals of a stub.
use Rattle.std.specs.Prelude.{ℕ, List, codes}
use Rattle.debug_tables.specs.declared.stubs.StubError.{StubError}
use Rattle.debug_tables.specs.declared.stubs.StubError.TheVariants.{Known, StubTableFull, NoStub}

abbrev pub stub_error_name : StubError → List ℕ
stub_error_name Known = codes "Known"
stub_error_name StubTableFull = codes "StubTableFull"
stub_error_name NoStub = codes "NoStub"
