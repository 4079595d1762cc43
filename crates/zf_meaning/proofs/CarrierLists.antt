-- The carriers of several types, one after another.
use Rattle.zf_meaning.proofs.Prelude.{◌+◌, ◌<◌, ◌∙◌, ◌∷◌, ◌≡◌, [], ap, drop, get_or, length, List, map, None, Option, refl, Some, subst, sym, ℕ, drop_more, MatchOption, Bor, Outcome, Value, Defined, definition_of, type_of, types, AreCarriers, IsCarrier, definition_number, Environment, found_number, lack_with, several_by, values_with, one_more, Several, values, Lack, Nothing, first_named}
use Rattle.zf_term.specs.declared.globals.Entry.{Entry}
use Rattle.zf_term.specs.declared.ztype.ZType.{ZType}
use Rattle.zf_meaning.proofs.Gathering.{joined, joined-begun, joined-all, joined-more}

abbrev pub CarriersTo : Environment → List ZType → List ZType → Lack → List Value → Type 0
CarriersTo e all rest l vs = (s : Several) → AreCarriers e (types (map type_of rest)) s → AreCarriers e (types (map type_of all)) (joined l vs s)

pub carriers-begun : (e : Environment) (all : List ZType) (l : Lack) (vs : List Value) → l ≡ Nothing → vs ≡ [] → CarriersTo e all all l vs
carriers-begun e all l vs f g s h = rw (f, g) (subst (AreCarriers e (types (map type_of all))) (sym (joined-begun s)) h)

pub carriers-more : (e : Environment) (all : List ZType) (i : ℕ) (t : ZType) (l k : Lack) (vs ws : List Value) (x : Outcome) → i < length all
    → t ≡ get_or all i t → CarriersTo e all (drop i all) l vs → IsCarrier e (type_of t) x → k ≡ lack_with l x → ws ≡ values_with vs x
    → CarriersTo e all (drop (i + 1) all) k ws
carriers-more e all i t l k vs ws x h d g o f w s r =
    let split : drop i all ≡ t ∷ drop (i + 1) all = drop_more all i t h ∙ ap (λ y. y ∷ drop (i + 1) all) (sym d) in
    let one = g (one_more x s) (subst (λ ts. AreCarriers e (types (map type_of ts)) (one_more x s)) (sym split) (x, s, o, r, refl)) in
    rw (f, w) (subst (AreCarriers e (types (map type_of all))) (joined-more l vs x s) one)

pub carriers-all : (e : Environment) (all rest : List ZType) (l : Lack) (vs : List Value) → rest ≡ [] → CarriersTo e all rest l vs → AreCarriers e (types (map type_of all)) (several_by l vs)
carriers-all e all rest l vs d g = subst (AreCarriers e (types (map type_of all))) (joined-all l vs) (g (values []) (subst (λ ts. AreCarriers e (types (map type_of ts)) (values [])) (sym d) refl))

-- ---- the number of a type by name

abbrev number_by : Option (Bor Entry) → Option ℕ
number_by None = None
number_by (Some e) = definition_number (definition_of e.now)

pub named_number : (g : List Defined) (name : List ℕ) (r : Option (Bor Entry))
    → MatchOption r (first_named (λ d. d.name) name g ≡ None) (λ e. (i : ℕ)
    × (first_named (λ d. d.name) name g ≡ Some (i, record { name = name; definition = definition_of e.now })))
    → (o : Option ℕ) → o ≡ number_by r → o ≡ found_number (first_named (λ d. d.name) name g)
named_number g name None h o e = e ∙ sym (ap found_number h)
named_number g name (Some x) h o e = e ∙ sym (ap found_number h.1)
