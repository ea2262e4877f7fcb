-- `step` meets its contract: each opcode by what it takes and leaves.
use mathlib.Core.Bool.{◌&&◌, ◌||◌}
use mathlib.Core.Logic.{inl, inr}
use lib.Dec.{eqb, ltb, leb}
use Rattle.std.proofs.Common.{rules, refl}
use Rattle.dependency.specs.Opcodes.{version, truth, opcodes, row_of, row_among}
use Rattle.dependency.specs.Validation.{kinds_after}
use Rattle.dependency.specs.Evaluation.{step, applied, result_cells, cell_of}
use Rattle.dependency.specs.Stack.{Stepped, number_cell}
use Rattle.dependency.proofs.evaluation.Steps.{put_one, put_other, put_for_two}
use Rattle.dependency.proofs.evaluation.Values.step.Goals as goal

pub returns-in-True : goal.returns-in-True
unfolding Stepped opcodes row_of row_among kinds_after step applied result_cells cell_of number_cell
returns-in-True c = rw c.in-True.is (λ kinds long top installed operand given. put_one truth kinds _ _ _ long c.push-in-True.ensures)

pub returns-in-False : goal.returns-in-False
unfolding Stepped opcodes row_of row_among kinds_after step applied result_cells cell_of number_cell
returns-in-False c = rw c.in-False.is (λ kinds long top installed operand given. put_one truth kinds _ _ _ long c.push-in-False.ensures)

pub returns-in-Not : goal.returns-in-Not
unfolding Stepped opcodes row_of row_among kinds_after step applied result_cells cell_of number_cell
returns-in-Not c = rw c.in-Not.is (λ kinds long top installed operand given. put_other kinds _ _ _ _ top long c.pop-top.ensures (search rules))

pub returns-in-Gt : goal.returns-in-Gt
unfolding Stepped opcodes row_of row_among kinds_after step applied result_cells cell_of number_cell
returns-in-Gt c = rw c.in-Gt.is (λ kinds long top installed operand given. put_for_two version (λ l r. ltb r l) kinds _ _ _ top long (search rules) c.join-in-Gt.ensures.2)

pub returns-in-And : goal.returns-in-And
unfolding Stepped opcodes row_of row_among kinds_after step applied result_cells cell_of number_cell
returns-in-And c = rw c.in-And.is (λ kinds long top installed operand given. put_for_two truth (λ l r. l && r) kinds _ _ _ top long (search rules) c.join.ensures.2)

pub returns-in-Or : goal.returns-in-Or
unfolding Stepped opcodes row_of row_among kinds_after step applied result_cells cell_of number_cell
returns-in-Or c = rw c.in-Or.is (λ kinds long top installed operand given. put_for_two truth (λ l r. l || r) kinds _ _ _ top long (search rules) c.join-in-Or.ensures.2)

pub returns-in-Eq : goal.returns-in-Eq
unfolding Stepped opcodes row_of row_among kinds_after step applied result_cells cell_of number_cell
returns-in-Eq c = rw c.in-Eq.is (λ kinds long top installed operand given. put_for_two version (λ l r. eqb l r) kinds _ _ _ top long (search rules) c.join-in-Eq.ensures.2)

pub returns-in-Gte : goal.returns-in-Gte
unfolding Stepped opcodes row_of row_among kinds_after step applied result_cells cell_of number_cell
returns-in-Gte c = rw c.in-Gte.is (λ kinds long top installed operand given. put_for_two version (λ l r. leb r l) kinds _ _ _ top long (search rules) c.join-in-Gte.ensures.2)

pub returns-in-Lt : goal.returns-in-Lt
unfolding Stepped opcodes row_of row_among kinds_after step applied result_cells cell_of number_cell
returns-in-Lt c = rw c.in-Lt.is (λ kinds long top installed operand given. put_for_two version (λ l r. ltb l r) kinds _ _ _ top long (search rules) c.join-in-Lt.ensures.2)

pub returns-in-Lte : goal.returns-in-Lte
unfolding Stepped opcodes row_of row_among kinds_after step applied result_cells cell_of number_cell
returns-in-Lte c = rw c.in-Lte.is (λ kinds long top installed operand given. put_for_two version (λ l r. leb l r) kinds _ _ _ top long (search rules) c.join-in-Lte.ensures.2)

pub returns-in-PushGuid : goal.returns-in-PushGuid
unfolding Stepped opcodes row_of row_among kinds_after step applied result_cells cell_of number_cell
returns-in-PushGuid c =
    elim c.in-PushGuid.is [
      | inl e ↦ rw e (λ kinds long top installed operand given. rw (← given.found refl) (put_one version kinds _ _ _ long c.push.ensures))
      | inr e ↦ rw e (λ kinds long top installed operand given. rw (← given.number refl) (put_one version kinds _ _ _ long c.push.ensures))
    ]

pub returns-in-VersionStr : goal.returns-in-VersionStr
unfolding Stepped opcodes row_of row_among kinds_after step applied result_cells cell_of number_cell
returns-in-VersionStr c =
    elim c.in-VersionStr.is [
      | inl e ↦ rw e (λ kinds long top installed operand given. (long, refl))
      | inr e ↦ rw e (λ kinds long top installed operand given. (long, refl))
    ]
