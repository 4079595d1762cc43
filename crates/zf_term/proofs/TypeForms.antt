-- Which form a type has, by what it is seen as.
use Rattle.zf_term.proofs.Prelude.{◌+◌, ◌<◌, ◌↔◌, ◌∙◌, ◌≡◌, ◌≤◌, ◌⊎◌, ap, arith, List, map, None, Option, refl, Some, sym, ℕ, ⊎_elim, basic, int, type_nodes, nodes_of_all, power, product, Ty, type_step, types, Tys, type_of, map-ZType, out-ZType, roll-out-ZType, roll-ZType, ZType, ZType-F}
use Rattle.std.specs.Prelude.{MatchOption}
use Rattle.zf_term.specs.declared.ztype.ZType.TheVariants as v
use Rattle.zf_term.proofs.TypesSeen.{rolled, of-Int, of-Basic, of-Power, of-Product}

abbrev pub form_of : ZType-F ZType → Ty
form_of x = type_step (map-ZType ZType Ty type_of x)

pub seen_type : (a : ZType) → type_of a ≡ form_of (out-ZType a)
seen_type a = ap type_of (sym (roll-out-ZType a)) ∙ rolled (out-ZType a)

opened : (a : ZType) (x : ZType-F ZType) → out-ZType a ≡ x → a ≡ roll-ZType x
opened a x e = sym (roll-out-ZType a) ∙ ap roll-ZType e

form_of_int : (x : ZType-F ZType) → form_of x ≡ int → x ≡ ZType-F.Int
form_of_int ZType-F.Int e = refl
form_of_int (ZType-F.Basic n) e = (cc)
form_of_int (ZType-F.Power b) e = (cc)
form_of_int (ZType-F.Product xs) e = (cc)

form_of_power : (x : ZType-F ZType) (t : Ty) → form_of x ≡ power t → (b : ZType) × (x ≡ ZType-F.Power b)
form_of_power ZType-F.Int t e = absurd (cc)
form_of_power (ZType-F.Basic n) t e = absurd (cc)
form_of_power (ZType-F.Power b) t e = (b, refl)
form_of_power (ZType-F.Product xs) t e = absurd (cc)

form_of_product : (x : ZType-F ZType) (ts : Tys) → form_of x ≡ product ts → (xs : List ZType) × (x ≡ ZType-F.Product xs)
form_of_product ZType-F.Int ts e = absurd (cc)
form_of_product (ZType-F.Basic n) ts e = absurd (cc)
form_of_product (ZType-F.Power b) ts e = absurd (cc)
form_of_product (ZType-F.Product xs) ts e = (xs, refl)

pub is_int : (a : ZType) → type_of a ≡ int → a ≡ v.Int
is_int a e = opened a _ (form_of_int (out-ZType a) (sym (seen_type a) ∙ e)) ∙ v.rolls-Int

pub is_power : (a : ZType) (t : Ty) → type_of a ≡ power t → (b : ZType) × (a ≡ v.Power b)
is_power a t e = let p = form_of_power (out-ZType a) t (sym (seen_type a) ∙ e) in (p.0, opened a _ p.1 ∙ v.rolls-Power p.0)

pub is_product : (a : ZType) (ts : Tys) → type_of a ≡ product ts → (xs : List ZType) × (a ≡ v.Product xs)
is_product a ts e = let p = form_of_product (out-ZType a) ts (sym (seen_type a) ∙ e) in (p.0, opened a _ p.1 ∙ v.rolls-Product p.0)

-- ---- types of one form

pub same_basics : (m n : List ℕ) (a b : ZType) → a ≡ v.Basic m → b ≡ v.Basic n → (type_of a ≡ type_of b) ↔ (m ≡ n)
same_basics m n a b p q =
    let l = ap type_of p ∙ of-Basic m in
    let r = ap type_of q ∙ of-Basic n in
    (λ e. (cc), λ e. l ∙ ap basic e ∙ sym r)

pub same_powers : (x y a b : ZType) → a ≡ v.Power x → b ≡ v.Power y → (type_of a ≡ type_of b) ↔ (type_of x ≡ type_of y)
same_powers x y a b p q =
    let l = ap type_of p ∙ of-Power x in
    let r = ap type_of q ∙ of-Power y in
    (λ e. (cc), λ e. l ∙ ap power e ∙ sym r)

-- a set's members have the type that is in it
pub of_members : (a b c : ZType) → a ≡ v.Power b → c ≡ b → type_of a ≡ power (type_of c)
of_members a b c e f = ap type_of e ∙ of-Power b ∙ ap (λ x. power (type_of x)) (sym f)

pub members_of : (a b c : ZType) (t : Ty) → a ≡ v.Power b → c ≡ b → type_of a ≡ power t → type_of c ≡ t
members_of a b c t e f h = let g : power (type_of c) ≡ power t = sym (of_members a b c e f) ∙ h in (cc)

-- ---- nodes

pub some_nodes : (t : Ty) → 1 ≤ type_nodes t
some_nodes int = (omega arith)
some_nodes (basic name) = (omega arith)
some_nodes (power t) = (omega arith)
some_nodes (product ts) = (omega arith)

pub one_node : (a : ZType) → (a ≡ v.Int) ⊎ ((n : List ℕ) × (a ≡ v.Basic n)) → type_nodes (type_of a) ≡ 1
one_node a e = ⊎_elim (λ i. ap type_nodes (ap type_of i ∙ of-Int)) (λ b. ap type_nodes (ap type_of b.1 ∙ of-Basic b.0)) e

pub nodes-Power : (a b : ZType) → a ≡ v.Power b → type_nodes (type_of a) ≡ type_nodes (type_of b) + 1
nodes-Power a b e = ap type_nodes (ap type_of e ∙ of-Power b)

pub nodes-Product : (a : ZType) (xs : List ZType) → a ≡ v.Product xs → type_nodes (type_of a) ≡ nodes_of_all (types (map type_of xs)) + 1
nodes-Product a xs e = ap type_nodes (ap type_of e ∙ of-Product xs)

-- what is left of the room for all is left of what the rest of it has
pub left_of_both : (o : Option ℕ) (room left n m : ℕ) → left + n ≡ room + m → MatchOption o (left < m) (λ k. k + m ≡ left) → MatchOption o (room < n) (λ k. k + n ≡ room)
left_of_both None room left n m e h = omega (arith, e, h)
left_of_both (Some k) room left n m e h = omega (arith, e, h)

pub ruleset int_form = (is_int, of-Int)

pub ruleset set_form = (is_power, of-Power)
