-- A levelled tree that spells symbols is what is read of them.
use Rattle.zf_grammar.proofs.Prelude.{last_tree, over_links, Span, through, ◌+◌, ◌-◌, ◌<◌, ◌∙◌, ◌∷◌, ◌≡◌, ◌≤◌, [], ap, arith, false, length, List, max, Ok, refl, subst, suc, sym, zero, ℕ, le-leb, lt-leb, bracket, chain, constant, span_of, link, Links, named, no_links, no_trees, numeral, Tree, tree, tree_of, Operator, Relation, Term, is_mark, Symbol, symbol, tree_height, links_height, chain_level, expression_level, IsLevelled, left_place, level, LinksAreLevelled, operator_level, postfix_level, product_level, right_place, first, Behind, Spells, SpellsLinks, Role, Tall, Outcome}
use Rattle.zf_scan.specs.declared.next.Mark.TheVariants as mark
use Rattle.zf_scan.specs.declared.next.Next as code
use Rattle.zf_scan.specs.declared.next.Next.TheVariants as next
use Rattle.zf_grammar.specs.declared.role.Role.TheVariants as role
use Rattle.zf_scan.specs.declared.token.Kind.TheVariants as k
use Rattle.zf_tree.specs.declared.operator.Listed.TheVariants as list
use Rattle.zf_tree.specs.declared.operator.Operator.TheVariants as operator
use Rattle.zf_tree.specs.declared.operator.Unary.TheVariants as one
use Rattle.zf_tree.specs.declared.tree.Term.TheVariants as term
use Rattle.zf_grammar.specs.{beginning, binary, binds, bound_by, chain_links, chained, climb, ended_by, longer_by, place_before, read_term, role_of, tall, whole}
use Rattle.zf_tree.specs.Trees as shape
use Rattle.zf_grammar.proofs.Marks.{ends_next, is_through, ok_expect}
use Rattle.zf_grammar.proofs.TermFirsts.{Joins, joined}
use Rattle.zf_tree.proofs.TermSeen as of
use Rattle.zf_grammar.proofs.TermParts.{links_of}
use Rattle.zf_grammar.proofs.TermBeginsRead.{Closing, name_begins, numeral_begins, constant_begins, empty_set_begins, bracket_begins, listed_complete, tuple_begins, display_begins, comprehension_begins, quantified_begins, sign_begins, not_begins}
use Rattle.zf_grammar.proofs.TermPartsRead.{IsRead, Reader, IsComplete, first_is, some_height, split_links, links_complete}
use Rattle.zf_grammar.proofs.TermTables.{operator_closing, closing, level_closes, closes, chain_gap, cross_gap, operator_gap, postfix_gap, stands}

-- ---- what stands after two operands

ended : (op : Operator) (l : Span) (t : Tree) (ts us : List Symbol) → Behind op l t ts us
    → (end : Span) × (ended_by op (span_of t) ts ≡ Ok (end, us)) × (l.stop ≡ end.stop)
ended operator.Image l t ts us h = (h.0, ok_expect mark.CloseImage ts us (ends_next h), h.2)
ended _ l t ts us h = (span_of t, ap (λ ts. Ok (span_of t, ts)) h.1, h.0)

behind_stops : (op : Operator) (l : Span) (t : Tree) (ts us : List Symbol) → binds (first us) ≤ operator_closing op → Behind op l t ts us → binds (first ts) ≤ right_place op
behind_stops operator.Image l t ts us stop h = first_is (λ x. binds x ≤ expression_level) ts us (ends_next h) (omega arith)
behind_stops _ l t ts us stop h = omega (arith, ap (λ ts. binds (first ts)) h.1)

-- and after the terms of a product
no_cross : (x : code.Next) → binds x ≤ product_level → is_mark mark.Cross x ≡ false
no_cross next.Cross stop = absurd (omega arith)
no_cross _ stop = refl

closes_product : (last : Span) (ts us : List Symbol) → binds (first us) ≤ product_level → ts ≡ us → Closing list.Product last last ts us
closes_product last ts us stop h =
    let here : binds (first ts) ≤ product_level = omega (arith, ap (λ ts. binds (first ts)) h) in
    record { closed = ap (λ ts. Ok (last, ts)) h; none = no_cross (first ts) here; stop = omega arith }

-- one turn of going on with a term
goes_on : (below : Reader) (highest least n : ℕ) (x : Tall Term) (ts : List Symbol) → least < binds (first ts) → place_before (role_of (first ts)) ≤ level (tree_of x.part)
    → (y : Tall Term) (us : List Symbol) → longer_by below x (role_of (first ts)) ts ≡ Ok (y, us) → y.height ≤ highest
    → climb below highest least (suc n) x ts ≡ climb below highest least n y us
unfolding climb
goes_on below highest least n x ts tight fits y us e low = rw (lt-leb (binds (first ts)) least tight, le-leb _ _ fits, e, le-leb y.height highest low) refl

module _ (below : Reader) (n : ℕ) (ok : IsComplete n below) where
  abbrev reads : ℕ → List Symbol → Outcome (Tall Term)
  reads least ts = whole below (n + 1) least ts

  -- reading comes to the point where the tree stands on the left
  record Reaches (least : ℕ) (t : Tree) (ts us : List Symbol) : Type 0 where
    term : Term
    is : tree_of term ≡ t
    turns : ℕ
    enough : n + 1 < turns + tree_height t
    same : reads least ts ≡ climb below (n + 1) least turns (tall term (tree_height t)) us

  begun : (least : ℕ) (t : Tree) (ts us : List Symbol) → IsRead (beginning below least ts) t us → Reaches least t ts us
  unfolding whole
  begun least t ts us r = record { term = r.term; is = r.is; turns = n + 1; enough = omega (arith, some_height t); same = rw (r.read) refl }

  -- one turn
  turn : (least : ℕ) (t u : Tree) (ts mid us : List Symbol) (r : Role) → role_of (first mid) ≡ r → Reaches least t ts mid → tree_height t < tree_height u
      → tree_height u ≤ n + 1 → least < bound_by r → place_before r ≤ level t
      → ((x : Term) → tree_of x ≡ t → IsRead (longer_by below (tall x (tree_height t)) r mid) u us) → Reaches least u ts us
  turn least t u ts mid us r role_is before taller low b l longer =
      let enough = before.enough in
      let is : before.turns ≡ suc (before.turns - 1) = omega arith in
      let x = longer before.term before.is in
      let tight : least < binds (first mid) = omega (arith, ap bound_by role_is) in
      let fits : place_before (role_of (first mid)) ≤ level (tree_of before.term) = omega (arith, ap level before.is, ap place_before role_is) in
      let read = ap (λ r. longer_by below (tall before.term (tree_height t)) r mid) role_is ∙ x.read in
      record {
        term = x.term;
        is = x.is;
        turns = before.turns - 1;
        enough = omega arith;
        same = before.same ∙ ap (λ m. climb below (n + 1) least m (tall before.term (tree_height t)) mid) is
            ∙ goes_on below (n + 1) least (before.turns - 1) (tall before.term (tree_height t)) mid tight fits (tall x.term (tree_height u)) us read low;
      }

  binary_complete : (l : Span) (op : Operator) (x : Term) (s t : Tree) (a b c us : List Symbol) → tree_of x ≡ s → l.start ≡ (span_of s).start → Joins op a b
      → right_place op ≤ level t → IsLevelled t → tree_height t ≤ n → Spells t b c → Behind op l t c us
      → binds (first us) ≤ operator_closing op → IsRead (binary below op (tall x (tree_height s)) a) (shape.binary l op s t) us
  unfolding binary
  binary_complete l op x s t a b c us is span joins fits lev low h close stop =
      let y = ok (right_place op) t b c fits lev low h (behind_stops op l t c us stop close) in
      let is_t = y.is in
      let end = ended op l t c us close in
      let first = span_of (tree_of x) in
      let span_is : through first end.0 ≡ l = is_through l first end.0 (span ∙ sym (ap (λ t. (span_of t).start) is)) end.2 in
      let same : shape.binary (through first end.0) op (tree_of x) (tree_of y.term) ≡ shape.binary l op s t = cc in
      record {
        term = term.Binary (through first end.0) op x y.term;
        is = of.of-Binary (through first end.0) op x y.term ∙ same;
        read = rw (joins.passed, y.read, y.is, end.1) refl;
      }

  chained_complete : (l : Span) (x : Term) (t : Tree) (r : Relation) (u : Tree) (ks : Links) (a us : List Symbol) → tree_of x ≡ t
      → l ≡ over_links t (link r u ks)
      → LinksAreLevelled (link r u ks) → links_height (link r u ks) ≤ n → SpellsLinks (link r u ks) a us
      → binds (first us) ≤ chain_level → IsRead (chained below (tall x (tree_height t)) a) (chain l t (link r u ks)) us
  unfolding chained chain_links
  chained_complete l x t r u ks a us is span lev low h stop =
      let more = links_complete below n ok (link r u ks) (length a) (tall [] 0) a us lev low (omega arith) stop h in
      let are = more.are in
      let whole = over_links (tree_of x) (links_of more.more) in
      let span_is : whole ≡ l = ap (λ t. over_links t (links_of more.more)) is ∙ ap (over_links t) more.are ∙ sym span in
      let same : chain whole (tree_of x) (links_of more.more) ≡ chain l t (link r u ks) = cc in
      let high : max (tree_height t) (max 0 (links_height (link r u ks))) + 1 ≡ max (tree_height t) (links_height (link r u ks)) + 1 = omega arith in
      record {
        term = term.Chain whole x more.more;
        is = of.of-Chain whole x more.more ∙ same;
        read = rw more.read (ap (λ h. Ok (tall (term.Chain whole x more.more) h, us)) high);
      }

  inverse_seen : (l end : Span) (x : Term) (t : Tree) → tree_of x ≡ t → l.start ≡ (span_of t).start → l.stop ≡ end.stop
      → tree_of (term.Unary (through (span_of (tree_of x)) end) one.Inverse x) ≡ shape.unary l one.Inverse t
  inverse_seen l end x t is start stop =
      let span_is = is_through l (span_of (tree_of x)) end (start ∙ sym (ap (λ t. (span_of t).start) is)) stop in
      of.of-Unary _ one.Inverse x ∙ ap (λ l. shape.unary l one.Inverse (tree_of x)) span_is ∙ ap (shape.unary l one.Inverse) is

  spine : (t : Tree) (least : ℕ) (ts us : List Symbol) → least ≤ level t → IsLevelled t → tree_height t ≤ n + 1 → Spells t ts us → binds (first us) ≤ closing t → Reaches least t ts us
  spine (named m) least ts us fits lev low h stop = begun least (named m) ts us (name_begins below n ok least m ts us h)
  spine (numeral l v) least ts us fits lev low h stop = begun least (numeral l v) ts us (numeral_begins below n ok least l v ts us h)
  spine (constant l c) least ts us fits lev low h stop = begun least (constant l c) ts us (constant_begins below n ok least l c ts us h)
  spine (shape.empty_set l t) least ts us fits lev low h stop = begun least _ ts us (empty_set_begins below n ok least l t ts us lev low h)
  spine (bracket l t) least ts us fits lev low h stop = begun least _ ts us (bracket_begins below n ok least l t ts us lev (omega arith) h)
  spine (shape.listed l list.Tuple (tree t (tree u vs))) least ts us fits lev low h stop = begun least _ ts us (tuple_begins below n ok least l t u vs ts us lev.1 (omega arith) h)
  spine (shape.listed l list.Tuple _) least ts us fits lev low h stop = absurd lev.0
  spine (shape.listed l list.Display no_trees) least ts us fits lev low h stop = absurd h.3
  spine (shape.listed l list.Display (tree t vs)) least ts us fits lev low h stop = begun least _ ts us (display_begins below n ok least l t vs ts us lev.1 (omega arith) h)
  spine (shape.listed l list.Product (tree t (tree u vs))) least ts us fits lev low h stop =
      let (a, b, (span, same), (c, s, (d, e, cross, s_u, further_u)), close) = h in
      let at : List Symbol = symbol k.Cross cross.0 ∷ d in
      let whole_s = subst (λ ts. Spells t ts at) (sym same) (subst (Spells t a) cross.1 s) in
      let left = spine t least ts at (omega (arith, lev.1.0)) lev.1.1 (omega arith) whole_s (closes t (product_level + 1) (product_level + 1) cross_gap (omega arith) lev.1.0) in
      turn least t _ ts at us role.Cross refl left (omega arith) low (omega arith) lev.1.0 (λ x is.
      listed_complete below n ok list.Product (span_of (tree_of x)) (last_tree (span_of (tree_of x)) (tree t (tree u vs))) l x t (tree u vs) at b us
      (ap (λ t. through (span_of t) (last_tree (span_of u) vs)) is ∙ sym span) is lev.1.2 (omega arith)
      (d, e, (cross.0, refl), s_u, further_u) (closes_product _ b us stop close))
  spine (shape.listed l list.Product _) least ts us fits lev low h stop = absurd lev.0
  spine (shape.comprehension l ds p t) least ts us fits lev low h stop = begun least _ ts us (comprehension_begins below n ok least l ds p t ts us lev low h)
  spine (shape.unary l (one.Sign s) t) least ts us fits lev low h stop = begun least _ ts us (sign_begins below n ok s least l t ts us fits lev (omega arith) h stop)
  spine (shape.unary l one.Not t) least ts us fits lev low h stop = begun least _ ts us (not_begins below n ok least l t ts us fits lev (omega arith) h stop)
  spine (shape.quantified l w ds p t) least ts us fits lev low h stop = begun least _ ts us (quantified_begins below n ok least l w ds p t ts us fits lev low h stop)
  spine (shape.unary l one.Inverse t) least ts us fits lev low h stop =
      let (a, b, (span, same), s, after) = h in
      let at : List Symbol = symbol k.Inverse after.0 ∷ us in
      let whole_s = subst (λ ts. Spells t ts at) (sym same) (subst (Spells t a) after.1 s) in
      let left = spine t least ts at (omega arith) lev.1 (omega arith) whole_s (closes t postfix_level (postfix_level + 1) postfix_gap (omega arith) lev.0) in
      turn least t _ ts at us role.Inverse refl left (omega arith) low (omega arith) lev.0
      (λ x is. record { term = term.Unary (through (span_of (tree_of x)) after.0) one.Inverse x; is = inverse_seen l after.0 x t is span after.2; read = refl })
  spine (shape.binary l op x y) least ts us fits lev low h stop =
      let (a, b, c, span, s, between, s_y, close) = h in
      let joins = joined op y a b c lev.2 lev.3 between s_y in
      let place = stands op in
      let tight : binds (first a) ≤ closing x = omega (
        arith,
        ap bound_by joins.role,
        closes x (left_place op) (operator_level op + 1)
            (operator_gap op) place.some lev.0,
      ) in
      let left = spine x least ts a (omega (arith, place.left, lev.0)) lev.1 (omega arith) s tight in
      turn least x _ ts a us (role.Operator op) joins.role left (omega arith) low (omega arith) lev.0
      (λ z is. binary_complete l op z x y a b c us is span joins lev.2 lev.3 (omega arith) s_y close stop)
  spine (chain l t no_links) least ts us fits lev low h stop = absurd h.3
  spine (chain l t (link r u ks)) least ts us fits lev low h stop =
      let (a, span, s, more) = h in
      let split = split_links r u ks a us more in
      let relates = split.2 in
      let at : List Symbol = symbol (k.Relation r) relates.0 ∷ split.0 in
      let left = spine t least ts at (omega arith) lev.1 (omega arith) (subst (Spells t ts) relates.1 s) (closes t expression_level (chain_level + 1) chain_gap (omega arith) lev.0) in
      turn least t (chain l t (link r u ks)) ts at us role.Relation refl left (omega arith) low (omega arith) lev.0
      (λ x is. chained_complete l x t r u ks at us is span lev.2 (omega arith) (subst (λ a. SpellsLinks (link r u ks) a us) relates.1 more) stop)

  stops : (least j : ℕ) (x : Tall Term) (us : List Symbol) → 0 < j → binds (first us) ≤ least → climb below (n + 1) least j x us ≡ Ok (x, us)
  unfolding climb
  stops least zero x us some stop = absurd (omega arith)
  stops least (suc j) x us some stop = rw (le-leb (binds (first us)) least stop) refl

  whole_complete : (least : ℕ) (t : Tree) (ts us : List Symbol) → least ≤ level t → IsLevelled t → tree_height t ≤ n + 1 → Spells t ts us → binds (first us) ≤ least → IsRead (reads least ts) t us
  whole_complete least t ts us fits lev low h stop =
      let r = spine t least ts us fits lev low h (omega (arith, level_closes t)) in
      let enough = r.enough in
      record { term = r.term; is = r.is; read = r.same ∙ stops least r.turns (tall r.term (tree_height t)) us (omega arith) stop }

-- a levelled tree that is spelled at a place, and with which what follows does not go on, is read
pub term_complete : (n : ℕ) → IsComplete n (read_term n)
unfolding read_term
term_complete zero least t ts us fits lev low h stop = absurd (omega (arith, some_height t))
term_complete (suc n) least t ts us fits lev low h stop = whole_complete (read_term n) n (term_complete n) least t ts us fits lev (omega arith) h stop
