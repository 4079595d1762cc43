-- References to schemas, out of what is named and what it is marked to be.
use Rattle.zf_schema.proofs.Prelude.{◌∙◌, ◌≡◌, ap, inl, inr, List, refl, Some, subst, ℕ, SchemaRef, Defined, Schema, schema, first_named, Offence, decorated, MarkAgrees, marked, IsNext, Stops, Refers, IsNamed, LacksSchema, MarkClashes, OffendsRef}
use Rattle.zf_calculus.proofs.Decorating.{within_decorated, keeps_undecorated}
use Rattle.zf_calculus.proofs.Monotony.{still_large}

found : (g : List Defined) (x y : List ℕ) (a : Schema) (n : IsNamed g x a) → x ≡ y → first_named (λ d. d.name) y g ≡ Some (n.0, record { name = x; definition = schema a })
found g x y a n e = subst (λ (z : List ℕ). first_named (λ (d : Defined). d.name) z g ≡ Some (n.0, record { name = x; definition = schema a })) e n.1

pub refers : (g : List Defined) (r : SchemaRef) (x strokes : List ℕ) (a m b : Schema) → IsNamed g x a → x ≡ r.name.base → strokes ≡ r.name.strokes
    → MarkAgrees r.mark a → IsNext (marked r.mark r.name.span a) m → b ≡ decorated strokes m → Refers g r b
refers g r x strokes a m b n e f agree next h =
    let made : b ≡ decorated r.name.strokes (marked r.mark r.name.span a) = h ∙ ap (λ (s : List ℕ). decorated s m) f ∙ ap (decorated r.name.strokes) next.0 in
    (n.0, x, a, found g x r.name.base a n e, agree, (made, within_decorated r.name.strokes (marked r.mark r.name.span a) next.1))

pub cant_refer : (g : List Defined) (r : SchemaRef) (x : List ℕ) (a : Schema) → IsNamed g x a → x ≡ r.name.base → (k : Offence)
    → Stops (MarkClashes r.mark a) (MarkAgrees r.mark a) (marked r.mark r.name.span a) k → OffendsRef g r k r.name.span
cant_refer g r x a n e k (inl h) = (refl, inr (inr (n.0, x, a, found g x r.name.base a n e, inl h)))
cant_refer g r x a n e k (inr h) =
    let b = marked r.mark r.name.span a in
    (refl, inr (inr (n.0, x, a, found g x r.name.base a n e, inr (h.0, still_large b (decorated r.name.strokes b) k (λ l. keeps_undecorated l r.name.strokes b) h.1))))

pub lacks : (g : List Defined) (r : SchemaRef) (k : Offence) → LacksSchema g r.name k → OffendsRef g r k r.name.span
lacks g r k (inl h) = (refl, inl h)
lacks g r k (inr h) = (refl, inr (inl h))
