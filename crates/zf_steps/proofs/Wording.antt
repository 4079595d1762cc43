-- What is said in any form.
use Rattle.zf_steps.proofs.Prelude.{◌++◌, ◌∙◌, ◌≡◌, [], ap, append-nil, List, refl, sym, ℕ, Root, System, words, words_in}
use Rattle.zf_steps.specs.declared.form.Form.{Form}
use Rattle.zf_steps.specs.declared.form.Form.TheVariants as forms

no_words : (f : Form) (m : System) (from number : ℕ) → (words_in f m).node from number Root ≡ []
no_words forms.Lines m from number = refl
no_words forms.Graph m from number = refl
no_words forms.Objects m from number = refl

-- nothing is said of what is before the initial states
pub nothing_of_root : (m : System) (from number : ℕ) (line : List ℕ) → line ≡ line ++ (words m).node from number Root
nothing_of_root m from number line = let nothing : (l : List ℕ) → l ++ [] ≡ l = append-nil in sym (nothing line) ∙ ap (λ t. line ++ t) (sym (no_words m.form m from number))
