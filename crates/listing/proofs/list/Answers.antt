-- `listing::list` meets its contract: the lines of the state, or the refusal's.
use Rattle.std.proofs.Common.{◌*◌, sym, ap, length-take, arith, rules}
use Rattle.volume.specs.Header.{Opens, opening_of}
use Rattle.volume.specs.State.{map_of}
use Rattle.listing.specs.Listing.{refused_line}
use Rattle.listing.proofs.Lines.{lines_opened, lines_refused}
use Rattle.listing.proofs.list.Goals as goal

pub push_map_lines-requires : goal.push_map_lines-requires
unfolding map_of
push_map_lines-requires c =
    let st = c.in-Ok.state in
    (rw (c.map_words.ensures, length-take (2 * st.entries) st.map) (search rules), omega (arith, c.push_line.ensures.bound, c.new-text.ensures.len))

pub returns-in-Ok-clause-text : goal.returns-in-Ok-clause-text
unfolding opening_of
returns-in-Ok-clause-text c =
    let st = c.in-Ok.state in
    rw (c.push_map_lines.ensures.text, c.push_line.ensures.text, c.new-text.ensures.text, c.from.ensures, c.map_words.ensures) (sym (lines_opened c.args.volume.now st (sym c.in-Ok.ensures)))

pub returns-in-Err-clause-text : goal.returns-in-Err-clause-text
unfolding opening_of refused_line
returns-in-Err-clause-text c =
    let e = ap (λ (o : Opens). o.answer) c.in-Err.ensures in
    rw (c.push-in-Err.ensures.text, c.push_field.ensures.text, c.push.ensures.text, c.new-text.ensures.text, c.from-in-Err.ensures, c.number.ensures)
    (sym (lines_refused c.args.volume.now _ (sym e)))
