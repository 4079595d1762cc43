use Rattle.zf_scan.proofs.Prelude.{◌∙◌, ap, rules, match_of}
use Rattle.zf_scan.specs.Steps.{closing}
use Rattle.zf_scan.proofs.MarkedCommands.{mark_found, backslash, open_brace, close_brace}
use Rattle.zf_scan.proofs.inside.command_at.Goals as goal

pub returns-in-92 : goal.returns-in-92
returns-in-92 c = ap (match_of c.args.rest.now) c.of.ensures ∙ mark_found (closing c.args.place) c.args.rest.now 92 _ backslash c.requires.end_len
    c.requires.end_second c.in-92.len_at_least c.requires.first (search rules)

pub returns-in-123 : goal.returns-in-123
returns-in-123 c = ap (match_of c.args.rest.now) c.of-in-123.ensures ∙ mark_found
    (closing c.args.place) c.args.rest.now 123 _ open_brace c.requires.end_len c.requires.end_second c.in-123.len_at_least c.requires.first (search rules)

pub returns-in-125 : goal.returns-in-125
returns-in-125 c = ap (match_of c.args.rest.now) c.of-in-125.ensures ∙ mark_found
    (closing c.args.place) c.args.rest.now 125 _ close_brace c.requires.end_len c.requires.end_second c.in-125.len_at_least c.requires.first (search rules)
