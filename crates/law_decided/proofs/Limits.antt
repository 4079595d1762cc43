-- What can be decided of schemas: whether their components agree, and whether they are within the limits. So there is a next schema, or it is known why not.
use Rattle.law_decided.proofs.Prelude.{◌∷◌, ◌≡◌, ◌≤◌, ◌⊎◌, [], inl, inr, length, List, None, Option, refl, Some, ℕ, Comp, Schema, clash, Limit, Offence, too_large, Agree, Agrees, comp_named, decorated, HasTypeOf, MarkAgrees, prime, schema_nodes, AreFew, components_max, conjuncts_max, declared_sets, height_max, IsLow, IsTooLarge, IsWithin, KeepsTo, nodes_max, sets_max, Clashes, Differs, IsNext, MarkClashes, OneClashes, Stops, SomeOffence, AllByRecursion, height, Span}
use Rattle.zf_tree.specs.declared.tree.RefMark.{RefMark}
use Rattle.zf_tree.specs.declared.tree.RefMark.TheVariants.{Plain, Delta, Xi}
use Rattle.zf_term.specs.declared.fault.Limit.TheVariants as limit
use Rattle.law_decided.proofs.Decided.{Decided, decided_all, at_most, same_type}

-- it holds, or it is known why not
abbrev pub OrTold : Type 0 → (Offence → Type 0) → Type 0
OrTold P Q = P ⊎ ((k : Offence) × Q k)

pub is_within : (a : Schema) → OrTold (IsWithin a) (IsTooLarge a)
is_within a =
    by (at_most (length a.comps) components_max) (at_most (declared_sets a) sets_max) (at_most (length a.conjuncts) conjuncts_max) (at_most (schema_nodes a) nodes_max)
    (decided_all IsLow (λ t. at_most (height t) height_max) a.conjuncts)
  where
    passed : (l : Limit) → (KeepsTo l a → ⊥) → OrTold (IsWithin a) (IsTooLarge a)
    passed l p = inr (too_large l, (l, refl, p))

    by :
        Decided (AreFew a.comps) → Decided (declared_sets a ≤ sets_max) → Decided (length a.conjuncts ≤ conjuncts_max) → Decided (schema_nodes a ≤ nodes_max)
        → Decided (AllByRecursion IsLow a.conjuncts) → OrTold (IsWithin a) (IsTooLarge a)
    by (inr p) sets conjuncts nodes low = passed limit.Components p
    by (inl comps) (inr p) conjuncts nodes low = passed limit.Sets p
    by (inl comps) (inl sets) (inr p) nodes low = passed limit.Conjuncts p
    by (inl comps) (inl sets) (inl conjuncts) (inr p) low = passed limit.Nodes p
    by (inl comps) (inl sets) (inl conjuncts) (inl nodes) (inr p) = passed limit.Height p
    by (inl comps) (inl sets) (inl conjuncts) (inl nodes) (inl low) = inl (record { comps = comps; sets = sets; conjuncts = conjuncts; nodes = nodes; low = low })

-- ---- components agree, or one gets two types

has_type_of : (o : Option (ℕ × Comp)) (c : Comp) → OrTold (HasTypeOf o c) (Differs o c)
has_type_of None c = inl tt
has_type_of (Some p) c = elim (same_type p.1.type c.type) [
  | inl e ↦ inl e
  | inr e ↦ inr (clash c.name p.1.type c.type, (e, refl))
]

pub agrees : (cs : List Comp) (c : Comp) → OrTold (Agrees cs c) (Clashes cs c)
agrees cs c = has_type_of (comp_named c.name cs) c

pub agree : (cs ds : List Comp) → OrTold (Agree cs ds) (OneClashes cs ds)
agree cs [] = inl tt
agree cs (d ∷ ds) = by (agrees cs d) (agree cs ds)
  where
    by : OrTold (Agrees cs d) (Clashes cs d) → OrTold (Agree cs ds) (OneClashes cs ds) → OrTold (Agree cs (d ∷ ds)) (OneClashes cs (d ∷ ds))
    by (inr k) rest = inr (k.0, inl k.1)
    by (inl a) (inr k) = inr (k.0, inr k.1)
    by (inl a) (inl all) = inl (a, all)

pub mark_agrees : (mark : RefMark) (a : Schema) → OrTold (MarkAgrees mark a) (MarkClashes mark a)
mark_agrees Plain a = inl tt
mark_agrees Delta a = agree a.comps (decorated prime a).comps
mark_agrees Xi a = agree a.comps (decorated prime a).comps

-- ---- the next schema, or what stops it

pub next_or_stopped : (Clashing : Offence → Type 0) (Agreed : Type 0) (next : Schema) → OrTold Agreed Clashing → OrTold (Agreed × IsNext next next) (Stops Clashing Agreed next)
next_or_stopped Clashing Agreed next (inr k) = inr (k.0, inl k.1)
next_or_stopped Clashing Agreed next (inl agreed) = elim (is_within next) [
  | inl within ↦ inl (agreed, (refl, within))
  | inr k ↦ inr (k.0, inr (agreed, k.1))
]

-- where a stop has a place
pub next_at :
    (span : Span) (Clashing : Offence → Type 0) (Agreed : Type 0) (next : Schema) → OrTold Agreed Clashing
    → ((b : Schema) × (Agreed × IsNext next b)) ⊎ SomeOffence (λ k m. (m ≡ span) × Stops Clashing Agreed next k)
next_at span Clashing Agreed next agreed = elim (next_or_stopped Clashing Agreed next agreed) [
  | inl p ↦ inl (next, p)
  | inr k ↦ inr (k.0, span, (refl, k.1))
]
