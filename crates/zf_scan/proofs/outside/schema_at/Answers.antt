use Rattle.zf_scan.proofs.Prelude.{◌+◌, ◌∙◌, ◌≡◌, drop, rules, take, found, schema_found, Symbol, BeginSchema}
use Rattle.zf_scan.proofs.Spelled.{schema_told}
use Rattle.zf_scan.proofs.outside.schema_at.Goals as goal

pub returns : goal.returns
unfolding schema_found
returns c =
    let found_is : found (Symbol (BeginSchema (take c.base_len-len.result (drop 15 c.args.rest.now)))) (16 + c.base_len-len.result) ≡ schema_found c.args.rest.now = search rules in
    schema_told c.args.rest.now c.base_len-len.result ∙ found_is
