-- What is reported beside an offence, and the symbols that a fault is about, as the program has them. No public clause rests on this file.
use Rattle.zf_messages.specs.declared.aside.Aside as whole
use Rattle.zf_messages.specs.declared.aside.Remark as program
use Rattle.zf_messages.specs.declared.aside.Remark.TheVariants as variant
use Rattle.std.specs.Prelude.{ℕ, List, map}
use Rattle.zf_tree.specs.declared.span.Span.{Span}
use Rattle.zf_parse.specs.declared.left_out.LeftOut.{LeftOut}
use Rattle.zf_parse.specs.declared.unread.About.{About}
use Rattle.zf_messages.specs.Details.{Aside, Cited, like, lost, meant, no_remark, Remark, term}

abbrev pub remark_of : program.Remark → Remark
remark_of variant.Nothing = no_remark
remark_of (variant.Term s) = term s
remark_of (variant.Like name) = like name
remark_of (variant.Command symbol) = like symbol.now
remark_of (variant.Meant s symbol) = meant s symbol.now
remark_of (variant.Lost line) = lost line

abbrev pub aside_of : whole.Aside → Aside
aside_of a = record { remark = remark_of a.remark; causes = a.causes }

-- a symbol that is left out begins there
abbrev pub other_of : LeftOut → List ℕ × Span
other_of o = (o.symbol.now, record { start = o.start; stop = o.start })

abbrev pub cited_of : About → Cited
cited_of a = record { symbol = a.symbol.now; other = a.other.now; span = a.span; like = a.like.now; across = a.across; entry = a.entry.now; others = map other_of a.others.now }
