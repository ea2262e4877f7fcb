-- `leaf_header` meets its contract: in Framework mode a header is short, in PI mode it is long where a short one would not do.
use mathlib.Core.Path.{sym}
use native.Mathlib.Omega.{arith}
use Rattle.sections.proofs.append.Refusals.{append_long, append_short, append_framework}
use Rattle.sections.proofs.header.Mode.leaf_header.Goals as goal

pub returns-then-m : goal.returns-then-m
returns-then-m c = rw c.in-Pi.is (sym (append_short _ (omega arith)))

pub returns-in-Framework : goal.returns-in-Framework
returns-in-Framework c = rw c.in-Framework.is (sym (append_framework _))

pub returns-else-m : goal.returns-else-m
returns-else-m c = rw c.in-Pi.is (sym (append_long _ (omega arith)))
