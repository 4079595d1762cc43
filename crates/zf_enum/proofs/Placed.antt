-- The places at which several values stand, one after another.
use Rattle.zf_enum.proofs.Prelude.{◌≡◌, ⊎_elim, ℕ, suc, ◌+◌, ◌<◌, ◌≤◌, List, length, take, get_or, sym, subst, add-one, Value, IsMember, members-take_more, take_all, StaysIn, HasPlace}

placed_next : (xs : List Value) (i : ℕ) (x : Value) (range : List Value) (old new : List ℕ) → x ≡ get_or xs i x → i < length xs → StaysIn old new
    → HasPlace x range new → ((v : Value) → IsMember v (take i xs) → HasPlace v range old) → (v : Value) → IsMember v (take (suc i) xs) → HasPlace v range new
placed_next xs i x range old new at l stay here before v m =
    ⊎_elim (λ b j there. stay j (before v b j there)) (λ same. subst (λ u. HasPlace u range new) same here) ((members-take_more xs i x at l v).0 m)

pub placed_more : (xs : List Value) (i : ℕ) (x : Value) (range : List Value) (old new : List ℕ) → x ≡ get_or xs i x → i < length xs → StaysIn old new
    → HasPlace x range new → ((v : Value) → IsMember v (take i xs) → HasPlace v range old) → (v : Value) → IsMember v (take (i + 1) xs) → HasPlace v range new
placed_more xs i x range old new at l stay here before = rw add-one (placed_next xs i x range old new at l stay here before)

pub placed_all : (xs : List Value) (i : ℕ) (range : List Value) (new : List ℕ) → length xs ≤ i → ((v : Value) → IsMember v (take i xs) → HasPlace v range new)
    → (v : Value) → IsMember v xs → HasPlace v range new
placed_all xs i range new l h v m = h v (subst (λ ys. IsMember v ys) (sym (take_all i xs l)) m)
