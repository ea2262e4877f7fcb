-- `replace` meets its contract: too few, too many, another kind, or the digits after it.
use Rattle.std.proofs.Common.{rules}
use Rattle.dependency.specs.Stack.{Follows}
use Rattle.dependency.proofs.validation.Digits.{digit_small, power, replace_short, replace_full, replace_wrong, replace_follows, replace_small}
use Rattle.dependency.proofs.validation.Kinds.replace.Goals as goal
use Rattle.dependency.proofs.validation.Kinds.replace.Goals.{then-self-taken-via-then-self-taken, then-self-taken-via-else-self-taken+then-self-taken-ge-STACK_LIMIT}

pub returns-then-self-taken : goal.returns-then-self-taken
unfolding Follows
returns-then-self-taken c =
    elim c.then-self-taken.branch [
      | then-self-taken-via-then-self-taken w ↦ replace_short _ _ _ _ c.requires.few c.requires.digits _ w.if-self-taken.true
      | then-self-taken-via-else-self-taken+then-self-taken-ge-STACK_LIMIT w ↦
          replace_full _ _ _ _ c.requires.few c.requires.digits w.if-self-taken.false _ w.if-self-taken-ge-STACK_LIMIT.true
    ]

pub returns-then-self-taken-2 : goal.returns-then-self-taken-2
unfolding Follows
returns-then-self-taken-2 c =
    replace_wrong _ _ _ _ c.requires.few c.requires.digits c.if-self-taken.false c.if-self-taken-ge-STACK_LIMIT.false _ (rw (power _ c.requires.few) at c.if-self-taken-2.true)

pub invariant_of-self : goal.invariant_of-self
invariant_of-self c =
    record { within = search rules; small = rw (power _ c.requires.few) (replace_small _ _ _ _ c.requires.few c.if-self-taken.false c.args.self.now.small (digit_small c.args.left)) }

pub returns : goal.returns
returns c =
    rw (power _ c.requires.few)
    (replace_follows _ _ _ _ c.requires.few c.requires.digits c.if-self-taken.false c.if-self-taken-ge-STACK_LIMIT.false _ (rw (power _ c.requires.few) at c.if-self-taken-2.false))
