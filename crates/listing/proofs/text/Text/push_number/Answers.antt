-- `listing::text::Text::push_number` meets its contract: the digits made and those of what is left are the number's.
use Rattle.std.proofs.Common.{◌≡◌, ℕ, ◌+◌, ◌-◌, List, ◌++◌, drop, refl, ap, ◌∙◌, arith, length-drop, length-set, take_all}
use lib.ListN.{set}
use Rattle.listing.specs.Decimal.{decimal}
use Rattle.listing.specs.Text.{text_of}
use Rattle.listing.proofs.text.Decimal.{places_bound, room_left, spelled_start, spelled_next, spelled_end}
use Rattle.listing.proofs.text.Text.push_number.Goals as goal

pub loop-rest-init : goal.loop-rest-init
loop-rest-init c = (refl, spelled_start c.args.x _ refl (places_bound 19 c.args.x (omega arith)))

pub overflow_sub-start-in-loop-rest : goal.overflow_sub-start-in-loop-rest
overflow_sub-start-in-loop-rest c = let i = c.loop-rest.invariant in room_left _ _ _ _ i.0 i.1 c.loop-rest-test.true

pub loop-rest-preserved : goal.loop-rest-preserved
loop-rest-preserved c = let i = c.loop-rest.invariant in (simp length-set i.0, spelled_next _ _ _ _ i.0 i.1 c.loop-rest-test.true)

pub returns-clause-text : goal.returns-clause-text
returns-clause-text c =
    let i = c.loop-rest.invariant in
    let e = spelled_end _ _ _ _ i.0 i.1 (omega arith) in
    let last = 48 + c.loop-rest.rest in
    let rest : drop c.loop-rest.start (set c.loop-rest.digits c.loop-rest.start last) ≡ decimal c.args.x = e in
    c.push.ensures.text ∙ ap (λ (l : List ℕ). text_of c.args.self.now ++ l) (take_all (20 - c.loop-rest.start) _ (rw length-drop (simp length-set (omega arith))) ∙ rest)
