-- Further declared sets of a component. No public clause rests on this.
use Rattle.std.specs.Prelude.{List, ◌++◌}
use Rattle.zf_term.specs.declared.schema.Component.{Component}
use Rattle.zf_term.specs.declared.schema.Domain.{Domain}

-- a component with these declared sets in place of its own
abbrev pub with_domains : Component → List Domain → Component
with_domains c domains = record { name = c.name; ztype = c.ztype; domains = domains }

-- with further ones
abbrev pub enriched : Component → List Domain → Component
enriched c domains = with_domains c (c.domains ++ domains)
