-- `version_of` meets its contract: the rows passed are other GUIDs.
use mathlib.Core.Path.{◌≡◌}
use Rattle.dependency.specs.Installed.{first_with}
use Rattle.dependency.proofs.installed.Installed.version_of.Given as goal

abbrev pub invariant-loop-row : goal.invariant-loop-row
invariant-loop-row l = first_with l.row-iterator.a.rest.now l.row-iterator.b.rest.now l.guid ≡ first_with l.self.rows.now l.self.versions.now l.guid
