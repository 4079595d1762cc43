-- Lists that are gone over from the front: what is counted, and what holds of each.
use Rattle.zf_calculus.proofs.Prelude.{◌+◌, ◌↔◌, ◌<◌, ◌∙◌, ◌∷◌, ◌≡◌, [], ap, arith, drop, get_or, length, List, map, subst, suc, sym, zero, ℕ, sum_by-cons, AllByRecursion, sum_by, dropped}

-- what is counted of the rest is counted of its first, and of what is after it
pub counted_at : {X Y : Type 0} (f : Y → ℕ) (g : X → Y) (xs : List X) (i : ℕ) (x : X) → i < length xs → x ≡ get_or xs i x → sum_by f (map g (drop i xs)) ≡ f (g x) + sum_by f (map g (drop (i + 1) xs))
counted_at f g xs i x l e = ap (λ ys. sum_by f (map g ys)) (dropped xs i x l e) ∙ sum_by-cons f (g x) (map g (drop (i + 1) xs))

-- all of the rest, where its first and all after it are
pub all_at : {X Y : Type 0} (P : Y → Type 0) (g : X → Y) (xs : List X) (i : ℕ) (x : X) → i < length xs → x ≡ get_or xs i x → P (g x)
    → AllByRecursion P (map g (drop (i + 1) xs)) → AllByRecursion P (map g (drop i xs))
all_at P g xs i x l e h r = subst (λ ys. AllByRecursion P (map g ys)) (sym (dropped xs i x l e)) (h, r)

-- what holds of all holds of one
pub one_of_all : {X Y : Type 0} (P : Y → Type 0) (g : X → Y) (xs : List X) (i : ℕ) (x : X) → i < length xs → x ≡ get_or xs i x → AllByRecursion P (map g xs) → P (g x)
one_of_all P g [] i x l e h = absurd (omega arith)
one_of_all P g (y ∷ ys) zero x l e h = subst (λ z. P (g z)) (sym e) h.0
one_of_all P g (y ∷ ys) (suc i) x l e h = one_of_all P g ys i x (omega arith) e h.1

-- what is counted of what is ahead is counted of the first, and of what is after it
pub counted_ahead : {X Y : Type 0} (f : Y → ℕ) (g : X → Y) (ahead rest : List X) (x : X) → ahead ≡ x ∷ rest → sum_by f (map g ahead) ≡ f (g x) + sum_by f (map g rest)
counted_ahead f g ahead rest x step = ap (λ ys. sum_by f (map g ys)) step ∙ sum_by-cons f (g x) (map g rest)

-- all of what is ahead, where the first and all after it are
pub all_ahead : {X Y : Type 0} (P : Y → Type 0) (g : X → Y) (ahead rest : List X) (x : X) → ahead ≡ x ∷ rest → AllByRecursion P (map g ahead) ↔ (P (g x) × AllByRecursion P (map g rest))
all_ahead P g ahead rest x step =
    (λ h. subst (λ ys. AllByRecursion P (map g ys)) step h, λ h. subst (λ ys. AllByRecursion P (map g ys)) (sym step) h)
