-- The steps before the first state make answers: refusals, in their order.
use Rattle.zf_engine.proofs.Prelude.{[], ◌+◌, ◌++◌, ◌<◌, ◌∙◌, ◌∷◌, ◌≡◌, ap, get_or, inl, inr, length, List, Option, Result, subst, sym, take, ℕ, Defined, Environment, Status, AnswersExploration, Checks, IfAnswered, IsUnexplored, IsUnfit, numbers_of, Reaches, stated, Stop, Tells, TellsInfinite, TellsMisfit, TellsNumbers, TellsOut, AllByRecursion, AllZip, option_to_list, take_more, Exploration, Reach, IsFinite, RunFault, Message, all_of, FirstFails, HasShape, Named, Schemas, AreComplete, given_sets, IsEnvironment, IsNoneOut, AreSchemasOf, AreSmall, HasInfinite, HasLacking, HasOut, HasSchemas, IsBounded, IsSchemaOf, IsSearchable, IsSettled, LacksSchema, names_of, RefusesExploration, IsOfSchema}
use Rattle.zf_engine.proofs.Writing.{reach_refused, told_written}
use Rattle.zf_answers.proofs.Refusing.{weaker}

-- ---- lists beside each other

zip_push : {A B : Type 0} (R : A → B → Type 0) (xs : List A) (ys : List B) (x : A) (y : B) → AllZip R xs ys → R x y → AllZip R (xs ++ x ∷ []) (ys ++ y ∷ [])
zip_push R [] [] x y all here = (here, tt)
zip_push R [] (b ∷ ys) x y all here = absurd all
zip_push R (a ∷ xs) [] x y all here = absurd all
zip_push R (a ∷ xs) (b ∷ ys) x y all here = (all.0, zip_push R xs ys x y all.1 here)

-- one more beside the next
pub zip_more : {A B : Type 0} (R : A → B → Type 0) (xs : List A) (ys : List B) (i : ℕ) (x : A) (y : B) → x ≡ get_or xs i x → i < length xs → AllZip R (take i xs) ys → R x y
    → AllZip R (take (i + 1) xs) (ys ++ y ∷ [])
zip_more R xs ys i x y at l all here =
    subst (λ zs. AllZip R zs (ys ++ y ∷ [])) (sym (take_more xs i x l ∙ ap (λ z. take i xs ++ z ∷ []) (sym at))) (zip_push R (take i xs) ys x y all here)

zip_joined : {A B : Type 0} (R : A → B → Type 0) (xs us : List A) (ys vs : List B) → AllZip R xs ys → AllZip R us vs → AllZip R (xs ++ us) (ys ++ vs)
zip_joined R [] us [] vs all more = more
zip_joined R [] us (y ∷ ys) vs all more = absurd all
zip_joined R (x ∷ xs) us [] vs all more = absurd all
zip_joined R (x ∷ xs) us (y ∷ ys) vs all more = (all.0, zip_joined R xs us ys vs all.1 more)

-- the schemas beside their names, in their order
pub in_order : (g : List Defined) (x : Exploration) (p : Schemas) → AreSchemasOf g x p → AllZip (IsSchemaOf g) (names_of x) (all_of p)
in_order g x p are = (are.state, (are.init, zip_joined (IsSchemaOf g) x.operations (option_to_list x.sought) p.operations (option_to_list p.sought) are.operations are.sought))

-- ---- some, and then others

-- one of them fails
pub fails_before : {A : Type 0} (P F : A → Type 0) (xs ys : List A) → FirstFails P F xs → FirstFails P F (xs ++ ys)
fails_before P F [] ys h = absurd h
fails_before P F (x ∷ xs) ys (inl here) = inl here
fails_before P F (x ∷ xs) ys (inr later) = inr (later.0, fails_before P F xs ys later.1)

pub fails_behind : {A : Type 0} (P F : A → Type 0) (xs ys : List A) → AllByRecursion P xs → FirstFails P F ys → FirstFails P F (xs ++ ys)
fails_behind P F [] ys all h = h
fails_behind P F (x ∷ xs) ys all h = inr (all.0, fails_behind P F xs ys all.1 h)

-- each of the names that stand beside a schema is of one
pub all_named : (g : List Defined) (names : List (List ℕ)) (ns : List Named) → AllZip (IsSchemaOf g) names ns → AllByRecursion (IsOfSchema g) names
all_named g [] [] named = tt
all_named g [] (n ∷ ns) named = absurd named
all_named g (name ∷ names) [] named = absurd named
all_named g (name ∷ names) (n ∷ ns) named = ((n.schema, named.0.1), all_named g names ns named.1)

-- ---- schemas one after another

-- this one is finite; what is told of one that is not
abbrev pub Ends : Environment → Named → Type 0
Ends e n = IsFinite e.numbers e.globals n.schema

abbrev pub TellsEndless : Exploration → (source : List ℕ) → Environment → List Message × Status → Named → Type 0
TellsEndless x source e b n = TellsInfinite e.numbers e.globals n.schema x.details source b.0 b.1

-- this one has no declared set that is out; what is told of one that has
abbrev pub StaysIn : Environment → Named → Type 0
StaysIn e n = IsNoneOut e n.schema.comps

abbrev pub TellsLeaving : Environment → List Message × Status → Named → Type 0
TellsLeaving e b n = TellsOut e n.schema.comps b.0 b.1

-- ---- refusals

pub reach_told : (x : Exploration) (file source : List ℕ) (stop : Stop) (a b : Option (List ℕ)) (result : Result Status RunFault)
    → AnswersExploration x source stop → Tells x.format file stop a b result
    → Reaches x file source a b result
reach_told x file source stop a b result answer h =
    told_written (Reach x) x.format (IsUnexplored x source) file source (reach_refused x file source) stop a b result answer h

unfit_unexplored : (x : Exploration) (source : List ℕ) (told : List Message) (status : Status) → IsUnfit x.details source told status
    → IsUnexplored x source told status
unfit_unexplored x source told status (inl unread) = inl unread
unfit_unexplored x source told status (inr ill) = inr (RefusesExploration.ill_typed ill)

pub unfit_explored : (x : Exploration) (source : List ℕ) (stop : Stop) → IfAnswered stop (IsUnfit x.details source) → AnswersExploration x source stop
unfit_explored x source stop told = weaker stop (unfit_unexplored x source) told

module _ (x : Exploration) (source : List ℕ) (g : List Defined) (checks : Checks source g []) where
  pub lacks_schema : (stop : Stop) → IfAnswered stop (LacksSchema x g) → AnswersExploration x source stop
  lacks_schema stop h = weaker stop (λ told status t. inr (RefusesExploration.no_schema g checks t)) h

  module _ (p : Schemas) (named : AreSchemasOf g x p) where
    has_schemas : HasSchemas x source g p
    has_schemas = record { checks = checks; named = named }

    pub lacks_component : (stop : Stop) → IfAnswered stop (HasLacking p) → AnswersExploration x source stop
    lacks_component stop h = weaker stop (λ told status t. inr (RefusesExploration.no_component g p has_schemas t)) h

    module _ (shape : HasShape p) where
      pub has_large_numbers : (stop : Stop) → IfAnswered stop (TellsNumbers (numbers_of x.setting)) → AnswersExploration x source stop
      has_large_numbers stop h = weaker stop (λ told status t. inr (RefusesExploration.large_numbers g p has_schemas shape t)) h

      module _ (small : AreSmall (numbers_of x.setting)) where
        pub has_bad_sizes : (stop : Stop) → IfAnswered stop (TellsMisfit x.details g (stated g x.setting)) → AnswersExploration x source stop
        has_bad_sizes stop h = weaker stop (λ told status t. inr (RefusesExploration.bad_sizes g p has_schemas shape small t)) h

        module _ (complete : AreComplete (given_sets g) (stated g x.setting)) (e : Environment) (is : IsEnvironment g (stated g x.setting) (numbers_of x.setting) e) where
          settled : IsSettled x source g p
          settled = record { has_schemas = has_schemas; shape = shape; small = small; complete = complete }

          -- the globals and the numbers of the environment are those
          pub has_infinite : (stop : Stop) → IfAnswered stop (HasInfinite x source e.numbers e.globals p) → AnswersExploration x source stop
          has_infinite stop h =
              let here = subst (λ n. IfAnswered stop (HasInfinite x source n g p)) is.3
              (subst (λ (f : List Defined). IfAnswered stop (HasInfinite x source e.numbers f p)) is.0 h) in
              weaker stop (λ told status t. inr (RefusesExploration.not_finite g p settled t)) here

          module _ (finite : AllByRecursion (λ n. IsFinite e.numbers e.globals n.schema) (all_of p)) where
            bounded : IsBounded x source g p e
            bounded = record { settled = settled; environment = is; finite = subst (λ (f : List Defined). AllByRecursion (λ n. IsFinite e.numbers f n.schema) (all_of p)) is.0 finite }

            pub has_out : (stop : Stop) → IfAnswered stop (HasOut e p) → AnswersExploration x source stop
            has_out stop h = weaker stop (λ told status t. inr (RefusesExploration.declared_out g p e bounded t)) h

            pub searchable : AllByRecursion (λ n. IsNoneOut e n.schema.comps) (all_of p) → IsSearchable x source e.globals p e
            searchable none = subst (λ f. IsSearchable x source f p e) (sym is.0) (record { bounded = bounded; none_out = none })
