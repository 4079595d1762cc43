-- A name is that of a schema, or of none; and what need be reported beside what makes a schema infinite.
use Rattle.zf_schema.proofs.Named.{named_there}
use Rattle.law_answered.proofs.Prelude.{◌∙◌, ◌≡◌, ◌⊎◌, [], ap, inl, inr, List, None, Option, refl, Some, sym, ℕ, same_Some, Defined, Definition, IsNamed, NotFinite, Schema, schema, IsReportedBeside, first_named, ◌∷◌, Bool, first, finite_without_cause, causes, is_mended, IsFinite, Status, BadSpec, TellsInfinite, Message, not_finite_message}
use Rattle.zf_finite.specs.declared.not_finite.NotFinite.TheVariants.{Offends, Unbounded}

-- a definition is a schema, or none
schema_or_none : (d : Definition) → ((a : Schema) × (d ≡ schema a)) ⊎ ((a : Schema) → d ≡ schema a → ⊥)
schema_or_none (schema a) = inl (a, refl)
schema_or_none _ = inr (λ a e. cc)

-- a name is that of a schema, or of none
pub named_or_none : (g : List Defined) (name : List ℕ) → ((a : Schema) × IsNamed g name a) ⊎ ((a : Schema) → IsNamed g name a → ⊥)
named_or_none g name = by (first_named (λ d. d.name) name g) refl
  where
    by : (o : Option (ℕ × Defined)) → first_named (λ d. d.name) name g ≡ o → ((a : Schema) × IsNamed g name a) ⊎ ((a : Schema) → IsNamed g name a → ⊥)
    by None there = inr (λ a n. let z : None ≡ Some (n.0, record { name = name; definition = schema a }) = sym there ∙ n.1 in cc)
    by (Some p) there = elim (schema_or_none p.1.definition) [
      | inl s ↦
          let whole : p.1 ≡ record { name = name; definition = schema s.0 } =
          ap (λ (n : List ℕ). record { name = n; definition = p.1.definition }) (named_there (λ (d : Defined). d.name) name g p there).1 ∙ ap
          (λ (d : Definition). record { name = name; definition = d }) s.1 in
          inl (s.0, (p.0, there ∙ ap (λ (d : Defined). Some (p.0, d)) whole))
      | inr none ↦ inr (λ a n. none a (ap (λ (q : ℕ × Defined). q.1.definition) (same_Some p (n.0, record { name = name; definition = schema a }) (sym there ∙ n.1))))
    ]

-- nothing need be reported beside what makes a schema infinite
pub none_beside : (g : List Defined) (cause : NotFinite) → IsReportedBeside g cause []
none_beside g (Unbounded l name) = tt
none_beside g (Offends o) = refl

-- a schema is finite, or the first that makes it infinite is reported
pub finite_or_told : (numbers : Option ℕ) (g : List Defined) (a : Schema) (details : Bool) (source : List ℕ)
    → IsFinite numbers g a ⊎ ((b : List Message × Status) × TellsInfinite numbers g a details source b.0 b.1)
finite_or_told numbers g a details source = by (causes numbers g a) refl
  where
    by : (them : List NotFinite) → causes numbers g a ≡ them
        → IsFinite numbers g a ⊎ ((b : List Message × Status) × TellsInfinite numbers g a details source b.0 b.1)
    by [] none = inl ((finite_without_cause numbers g a).1 none)
    by (cause ∷ them) some = inr ((not_finite_message details source g cause [] (is_mended numbers g a) ∷ [], BadSpec), (cause, [], ap first some, none_beside g cause, refl, refl))
