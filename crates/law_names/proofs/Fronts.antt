-- What a tree spells is a front of the symbols: the rest stands after it.
use Rattle.law_names.proofs.Prelude.{◌++◌, ◌∙◌, ◌∷◌, ◌≡◌, [], ap, append_assoc, List, sym, DeclTree, include, schema_reference, SchemaTree, Tree, vars, Name, separator, Symbol, symbol, Kind, Begins, Ends, Next, PartedBy, Span, Spells, SpellsDecl, SpellsMarked, SpellsName, SpellsPredicates, SpellsSchema, And, Delta, Or, Plain, RefMark, Xi}
use Rattle.zf_scan.specs.declared.token.Kind.TheVariants as k
use Rattle.zf_tree.specs.Trees as shape
use Rattle.zf_grammar.proofs.TermsApart.{Spelling, Own, names_own, term_own}

-- these symbols are a front and the rest
pub record Behind (ts us : List Symbol) : Type 0 where
  pub front : List Symbol
  pub whole : ts ≡ front ++ us

pub nothing : {ts us : List Symbol} → ts ≡ us → Behind ts us
nothing e = record { front = []; whole = e }

pub next_behind : {kind : Kind} {ts us : List Symbol} → Next kind ts us → Behind ts us
next_behind {kind = kind} h = record { front = symbol kind h.0 ∷ []; whole = h.1 }

pub begins_behind : {kind : Kind} (s : Span) {ts us : List Symbol} → Begins kind s ts us → Behind ts us
begins_behind {kind = kind} s h = next_behind {kind = kind} (h.0, h.1)

pub ends_behind : {kind : Kind} (s : Span) {ts us : List Symbol} → Ends kind s ts us → Behind ts us
ends_behind {kind = kind} s h = next_behind {kind = kind} (h.0, h.1)

pub name_behind : {n : Name} {ts us : List Symbol} → SpellsName n ts us → Behind ts us
name_behind {n = n} h = next_behind {kind = k.Name n.base n.strokes} (n.span, h)

pub then : {ts a us : List Symbol} → Behind ts a → Behind a us → Behind ts us
then {us = us} p q = record { front = p.front ++ q.front; whole = p.whole ∙ ap (λ r. p.front ++ r) q.whole ∙ sym (append_assoc p.front q.front us) }

own_behind : {S : Spelling} {ts us : List Symbol} → Own S ts us → Behind ts us
own_behind {us = us} o = record { front = o.own []; whole = o.whole ∙ o.appends [] us }

pub term_behind : (t : Tree) {ts us : List Symbol} → Spells t ts us → Behind ts us
term_behind t {ts = ts} {us = us} h = own_behind (term_own t ts us h)

pub names_behind : (ns : List Name) {ts us : List Symbol} → PartedBy k.Comma SpellsName ns ts us → Behind ts us
names_behind ns {ts = ts} {us = us} h = own_behind (names_own ns ts us h)

-- one or more, parted by a symbol
pub parted_behind : {A : Type 0} (kind : Kind) (spells : A → Spelling) → ((x : A) (ts us : List Symbol) → spells x ts us → Behind ts us)
    → (xs : List A) (ts us : List Symbol) → PartedBy kind spells xs ts us → Behind ts us
parted_behind kind spells each [] ts us h = absurd h
parted_behind kind spells each (x ∷ []) ts us h = each x ts us h
parted_behind kind spells each (x ∷ (y ∷ ys)) ts us h = then (each x ts h.0 h.2) (then (next_behind {kind = kind} h.3) (parted_behind kind spells each (y ∷ ys) h.1 us h.4))

-- ---- declarations and schema expressions

marked_behind : (m : RefMark) (n : Name) (ts us : List Symbol) → SpellsMarked m n ts us → Behind ts us
marked_behind Plain n ts us h = name_behind {n = n} h
marked_behind Delta n ts us h = then (next_behind {kind = k.Delta} h.1) (name_behind {n = n} h.2)
marked_behind Xi n ts us h = then (next_behind {kind = k.Xi} h.1) (name_behind {n = n} h.2)

pub decl_behind : (d : DeclTree) (ts us : List Symbol) → SpellsDecl d ts us → Behind ts us
decl_behind (vars ns t) ts us h = then (names_behind ns h.2) (then (next_behind {kind = k.Colon} h.3) (term_behind t h.4))
decl_behind (include r) ts us h = marked_behind r.mark r.name ts us h

pub decls_behind : (ds : List DeclTree) {ts us : List Symbol} → PartedBy separator SpellsDecl ds ts us → Behind ts us
decls_behind ds {ts = ts} {us = us} h = parted_behind separator SpellsDecl decl_behind ds ts us h

pub predicates_behind : (kind : Kind) (ps : List Tree) {ts us : List Symbol} → SpellsPredicates kind ps ts us → Behind ts us
predicates_behind kind [] h = nothing h
predicates_behind kind (p ∷ ps) {us = us} h = then (next_behind {kind = kind} h.1) (parted_behind separator Spells (λ t ts us h. term_behind t h) (p ∷ ps) h.0 us h.2)

pub schema_behind : (x : SchemaTree) {ts us : List Symbol} → SpellsSchema x ts us → Behind ts us
schema_behind (shape.schema_text s ds ps) h =
    then (begins_behind {kind = k.OpenSquare} s h.3)
    (then (decls_behind ds h.4) (then (predicates_behind k.Bar ps h.5) (ends_behind {kind = k.CloseSquare} s h.6)))
schema_behind (schema_reference s r) {ts = ts} {us = us} h = marked_behind r.mark r.name ts us h.1
schema_behind (shape.both s x y) h = then (schema_behind x h.3) (then (next_behind {kind = k.Connective And} h.4) (schema_behind y h.5))
schema_behind (shape.either s x y) h = then (schema_behind x h.3) (then (next_behind {kind = k.Connective Or} h.4) (schema_behind y h.5))
schema_behind (shape.schema_bracket s x) h =
    then (begins_behind {kind = k.OpenRound} s h.2) (then (schema_behind x h.3) (ends_behind {kind = k.CloseRound} s h.4))
