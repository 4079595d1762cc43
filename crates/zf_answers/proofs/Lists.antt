-- What holds of each of a list.
use Rattle.zf_answers.proofs.Prelude.{[], ◌++◌, ◌∷◌, List, map, AllByRecursion}

module _ {A : Type 0} (P : A → Type 0) where
  pub all_joined : (xs ys : List A) → AllByRecursion P xs → AllByRecursion P ys → AllByRecursion P (xs ++ ys)
  all_joined [] ys all more = more
  all_joined (x ∷ xs) ys all more = (all.0, all_joined xs ys all.1 more)

  pub all_weaker : (Q : A → Type 0) → ((x : A) → P x → Q x) → (xs : List A) → AllByRecursion P xs → AllByRecursion Q xs
  all_weaker Q weaker [] all = tt
  all_weaker Q weaker (x ∷ xs) all = (weaker x all.0, all_weaker Q weaker xs all.1)

  -- of each that is made of one
  pub all_mapped : {B : Type 0} (Q : B → Type 0) (f : A → B) → ((x : A) → P x → Q (f x)) → (xs : List A) → AllByRecursion P xs → AllByRecursion Q (map f xs)
  all_mapped Q f made [] all = tt
  all_mapped Q f made (x ∷ xs) all = (made x all.0, all_mapped Q f made xs all.1)
