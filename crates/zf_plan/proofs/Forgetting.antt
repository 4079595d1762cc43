-- What is known of leaves of which some are forgotten.
use Rattle.zf_plan.proofs.Prelude.{◌<◌, ◌∙◌, ◌≡◌, get_or, length, List, None, Option, sym, ℕ, ◌≢◌, Conjuncts, Truth, AreDues, Forgets, Memory}

-- nothing is known of the leaves that need k values, and all that was of the others
pub record AreForgotten {V : Type 0} (l : Conjuncts V) (k : ℕ) (old new : List (Option Truth)) : Type 0 where
  pub all : length new ≡ length old
  pub others : (c : ℕ) → c < l.number → l.due c ≢ k → get_or new c None ≡ get_or old c None
  pub none : (c : ℕ) → c < l.number → l.due c ≡ k → get_or new c None ≡ None

pub are-forgotten : {V : Type 0} (l : Conjuncts V) (k : ℕ) (old new : Memory) → AreDues l old.dues → Forgets k old new → AreForgotten l k old.truths new.truths
are-forgotten l k old new dues f = record {
  all = f.all;
  others = λ c near ne. f.others c (λ e. ne (sym (dues c near) ∙ e));
  none = λ c near e. f.none c (dues c near ∙ e);
}
