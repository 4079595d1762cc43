-- What a comprehension has built of the rows that are done.
use Rattle.zf_meaning.proofs.Prelude.{◌++◌, ◌↔◌, ◌∷◌, ◌≡◌, ◌⊎◌, [], false, inl, inr, List, refl, subst, sym, true, ⊎_elim, every_also, members-push, same_set, IsDisplay, IsMember, HaveSameMembers, Outcome, Is, Out, Undefined, Truth, Value, AddsRow, IsBuiltBy, IsBuiltOver, IsWithinBounds}
use Rattle.zf_value.specs.declared.value.Truth.TheVariants as truth
use Rattle.zf_meaning.proofs.AllRows.{IsAmong}

-- each test has one answer
abbrev pub IsSingle : {A : Type 0} → (List Value → A → Type 0) → Type 0
IsSingle {A} T = (vs : List Value) (x y : A) → T vs x → T vs y → x ≡ y

pub record HasBuilt (F : List Value → Truth → Type 0) (T : List Value → Outcome → Type 0) (done : List (List Value)) (built : List Value) : Type 0 where
  pub within : (vs : List Value) → IsAmong vs done → IsWithinBounds F T vs
  pub members : (z : Value) → IsMember z built ↔ IsBuiltBy (λ vs. IsAmong vs done) F T z

pub nothing : (F : List Value → Truth → Type 0) (T : List Value → Outcome → Type 0) (built : List Value) → built ≡ [] → HasBuilt F T [] built
nothing F T built e = record { within = λ vs m. absurd m; members = λ z. (λ m. absurd (subst (IsMember z) e m), λ p. absurd p.1) }

-- a row that adds nothing
passed : (F : List Value → Truth → Type 0) (T : List Value → Outcome → Type 0) (done : List (List Value)) (built : List Value) (v : List Value)
    → IsWithinBounds F T v → ((z : Value) → F v truth.True → T v (Is z) → ⊥) → HasBuilt F T done built → HasBuilt F T (v ∷ done) built
passed F T done built v w f h = record {
  within = λ vs m. ⊎_elim (λ e. subst (IsWithinBounds F T) e w) (λ a. h.within vs a) m;
  members = λ z. (
    λ m. let p = (h.members z).0 m in (p.0, inr p.1, p.2, p.3),
    λ p. ⊎_elim (λ e. absurd (f z (subst (λ us. F us truth.True) (sym e) p.2) (subst (λ us. T us (Is z)) (sym e) p.3))) (λ a. (h.members z).1 (p.0, a, p.2, p.3)) p.1,
  );
}

added : (F : List Value → Truth → Type 0) (T : List Value → Outcome → Type 0) (done : List (List Value)) (built : List Value) (v : List Value) (x : Value)
    → IsSingle T → F v truth.True → T v (Is x) → HasBuilt F T done built → HasBuilt F T (v ∷ done) (built ++ x ∷ [])
added F T done built v x g p q h = record {
  within = λ vs m. ⊎_elim (λ e. subst (IsWithinBounds F T) e (inr (p, inr (x, q)))) (λ a. h.within vs a) m;
  members = λ z. (
    λ m. ⊎_elim (λ n. let r = (h.members z).0 n in (r.0, inr r.1, r.2, r.3)) (λ e. (v, inl refl, p, subst (λ y. T v (Is y)) e q)) ((members-push built x z).0 m),
    λ r. (members-push built x z).1 (⊎_elim (λ e. let d = g v _ _ q (subst (λ us. T us (Is z)) (sym e) r.3) in let s : x ≡ z = (cc) in inr s) (λ a. inl ((h.members z).1 (r.0, a, r.2, r.3))) r.1),
  );
}

pub built-more : (F : List Value → Truth → Type 0) (T : List Value → Outcome → Type 0) (done : List (List Value)) (old new : List Value) (v : List Value)
    → IsSingle F → IsSingle T → AddsRow (F v) (T v) old new true → HasBuilt F T done old → HasBuilt F T (v ∷ done) new
built-more F T done old new v f g a h =
    ⊎_elim (λ x. subst (HasBuilt F T (v ∷ done)) (sym x.1) (passed F T done old v (inl x.0) (λ z p q. let d = f v _ _ x.0 p in (cc)) h))
    (λ x. ⊎_elim (λ y. subst (HasBuilt F T (v ∷ done)) (sym y.1) (passed F T done old v (inr (x.0, inl y.0)) (λ z p q. let d = g v _ _ y.0 q in (cc)) h))
    (λ y. subst (HasBuilt F T (v ∷ done)) (sym y.2) (added F T done old v y.0 g x.0 y.1 h)) x.1) a

-- out by a row that R admits
pub built-out : (R : List Value → Type 0) (F : List Value → Truth → Type 0) (T : List Value → Outcome → Type 0) (old new : List Value) (v : List Value) → R v
    → AddsRow (F v) (T v) old new false → IsBuiltOver R F T Out
built-out R F T old new v r a = inl (v, r, a)

pub built-same : (F : List Value → Truth → Type 0) (T : List Value → Outcome → Type 0) (done : List (List Value)) (old new : List Value)
    → HaveSameMembers old new → HasBuilt F T done old → HasBuilt F T done new
unfolding HaveSameMembers
built-same F T done old new s h = record { within = h.within; members = λ z. (λ m. (h.members z).0 ((s z).1 m), λ p. (s z).0 ((h.members z).1 p)) }

-- out by the values of the rows that are done, which are more than a set may have
pub built-too-many : (R : List Value → Type 0) (F : List Value → Truth → Type 0) (T : List Value → Outcome
    → Type 0) (done : List (List Value)) (built : List Value) → ((vs : List Value) → IsAmong vs done → R vs) → HasBuilt F T done built → IsDisplay built Out
    → IsBuiltOver R F T Out
unfolding IsDisplay
built-too-many R F T done built s h d = inr (d.0, d.1, d.2, every_also (λ z. IsMember z built) (IsBuiltBy R F T) d.0 (λ z m. let p = (h.members z).0 m in (p.0, s p.0 p.1, p.2, p.3)) d.3)

-- a row whose filter is false builds nothing
counts : (F : List Value → Truth → Type 0) (done : List (List Value)) (vs : List Value) → IsSingle F → F vs truth.True → IsAmong vs done ⊎ F vs truth.False → IsAmong vs done
counts F done vs f p h = ⊎_elim (λ m. m) (λ n. let d = f vs truth.True truth.False p n in absurd (cc)) h

-- of rows that are done or whose filter is false
pub built-all : (R : List Value → Type 0) (F : List Value → Truth → Type 0) (T : List Value → Outcome
    → Type 0) (done : List (List Value)) (built : List Value) (o : Outcome) → IsSingle F → ((vs : List Value) → R vs → IsAmong vs done ⊎ F vs truth.False)
    → ((vs : List Value) → IsAmong vs done → R vs) → HasBuilt F T done built → IsDisplay built o → IsBuiltOver R F T o
unfolding IsDisplay
built-all R F T done built (Is v) f r s h d = (
  λ vs k. ⊎_elim (λ m. h.within vs m) (λ n. inl n) (r vs k),
  same_set (λ z. IsMember z built) (IsBuiltBy R F T) (Is v)
      (λ z. (λ m. let p = (h.members z).0 m in (p.0, s p.0 p.1, p.2, p.3), λ p. (h.members z).1 (p.0, counts F done p.0 f p.2 (r p.0 p.1), p.2, p.3))) d,
)
built-all R F T done built Undefined f r s h d = d
built-all R F T done built Out f r s h d =
    inr (same_set (λ z. IsMember z built) (IsBuiltBy R F T) Out (λ z. (
      λ m. let p = (h.members z).0 m in (p.0, s p.0 p.1, p.2, p.3),
      λ p. (h.members z).1 (p.0, counts F done p.0 f p.2 (r p.0 p.1), p.2, p.3),
    )) d)
