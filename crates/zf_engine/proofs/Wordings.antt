-- What is shown is in the wording of the request.
use Rattle.zf_engine.proofs.Prelude.{◌∙◌, ◌≡◌, ap, List, ℕ, Request, spellings, wording, row_wording, comps_at, part_wording, schema_of, environment_in, IsSubjectOf, schema_in, Subject}
use Rattle.zf_answers.specs.declared.bounds.Chosen.{Chosen}

module _ (r : Request) (source : List ℕ) (s : Subject) (is : IsSubjectOf r source s) where
  pub worded : row_wording s.style.now.format s.style.now.elements.now (schema_in s).comps ≡ wording r (environment_in s).globals (schema_in s)
  worded = ap (λ f. row_wording f s.style.now.elements.now (schema_in s).comps) is.formed ∙ ap (λ k. row_wording r.format k (schema_in s).comps) is.spelled

  -- the wording of parts, where these are their components
  pub part_worded : (places : List ℕ) (c : Chosen) → (schema_of c.schema.now).comps ≡ comps_at (schema_in s).comps places
      → part_wording s.style.now.format s.style.now.elements.now (schema_of c.schema.now).comps (schema_in s).comps
      ≡ part_wording r.format (spellings (environment_in s).globals) (comps_at (schema_in s).comps places) (schema_in s).comps
  part_worded places c same =
      ap (λ f. part_wording f s.style.now.elements.now (schema_of c.schema.now).comps (schema_in s).comps) is.formed
      ∙ ap (λ k. part_wording r.format k (schema_of c.schema.now).comps (schema_in s).comps) is.spelled
      ∙ ap (λ cs. part_wording r.format (spellings (environment_in s).globals) cs (schema_in s).comps) same
