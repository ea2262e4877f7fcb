-- `listing::push_map_lines` meets its contract: the lines so far and those of the entries left are the map's.
use Rattle.std.proofs.Common.{ℕ, ◌+◌, ◌*◌, List, ◌++◌, drop, sym, ap, ◌∙◌, append_assoc, append-nil, arith}
use Rattle.listing.specs.Listing.{map_line, map_lines}
use Rattle.listing.specs.Text.{text_of}
use Rattle.listing.proofs.Lines.{map_next, map_end}
use Rattle.listing.proofs.push_map_lines.Goals as goal

pub loop-i-preserved : goal.loop-i-preserved
loop-i-preserved c =
    let l = c.loop-i in
    let w = c.args.words.now in
    let b = c.push_line.ensures.bound in
    let count = c.from-count.ensures in
    let size = c.from.ensures in
    let split = rw (← count, ← size) at (map_next w l.first l.i (omega arith)) in (
      omega arith,
      omega arith,
      rw c.push_line.ensures.text (append_assoc (text_of l.text) (map_line l.first c.from-count.result c.from.result) (map_lines (l.first + c.from-count.result) (drop (2 * (l.i + 1)) w)))
          ∙ ap (λ (x : List ℕ). text_of l.text ++ x) (sym split) ∙ l.invariant.2,
    )

pub returns-clause-text : goal.returns-clause-text
returns-clause-text c =
    let l = c.loop-i in
    let none = map_end c.args.words.now l.first l.i (omega arith) in
    sym (append-nil (text_of l.text)) ∙ ap (λ (x : List ℕ). text_of l.text ++ x) (sym none) ∙ l.invariant.2
