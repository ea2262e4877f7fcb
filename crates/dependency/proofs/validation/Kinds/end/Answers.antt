-- `end` meets its contract: by the depth, and by the one kind.
use Rattle.std.proofs.Common.{rules}
use Rattle.dependency.proofs.validation.Digits.{end_depth, end_kind, end_passed}
use Rattle.dependency.proofs.validation.Kinds.end.Goals as goal
use Rattle.dependency.proofs.validation.Kinds.end.Goals.{else-self-eq1-via-then-self-eq1+else-self, else-self-eq1-via-else-self-eq1}

pub returns-then-self : goal.returns-then-self
returns-then-self c = end_passed _ _ (search rules) (search rules)

pub returns : goal.returns
returns c =
    elim c.else-self-eq1.branch [
      | else-self-eq1-via-then-self-eq1+else-self w ↦ end_kind _ _ w.if-self-eq1.true c.args.self.now.small w.if-self.false
      | else-self-eq1-via-else-self-eq1 w ↦ end_depth _ _ w.if-self-eq1.false
    ]
