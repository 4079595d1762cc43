-- The links of a chain, one after another.
use Rattle.zf_meaning.proofs.Prelude.{◌+◌, ◌<◌, ◌∙◌, ◌∷◌, ◌≡◌, ◌≤◌, ap, drop, get_or, inl, length, List, map, None, Option, refl, subst, sym, ℕ, drop_more, IfOk-weaker, Result, IfOk, AllocError, Outcome, Truth, False, True, Relation, link-seen, chain, links, resolved_link_of, resolved_of, ResolvedTree, Infinite, Resolved, ResolvedLink, conjunction, IsDescribed, Describes, IsTruthIn, Context, AreLinked, HasOutcome, infinite_right, IsLink, IsTruth, Described, Span}
use Rattle.zf_meaning.specs.{IsLastLink}
use Rattle.zf_meaning.proofs.Connecting.{conjoined, conjunction-assoc, conjunction-true, conjunction-false}
use Rattle.zf_meaning.proofs.Gathering.{drop-past}

-- the truth of all links is that of those before, and of the rest
abbrev pub LinksTo : Context → List ResolvedLink → List ResolvedLink → Outcome → Outcome → Truth → Type 0
LinksTo c all rest x first t = (u : Truth) → AreLinked c x (links (map resolved_link_of rest)) u → AreLinked c first (links (map resolved_link_of all)) (conjunction t u)

here : (c : Context) (all : List ResolvedLink) (i : ℕ) (k : ResolvedLink) (x y : Outcome) (p u : Truth) → i < length all → k ≡ get_or all i k
    → HasOutcome c (resolved_of k.right) y → IsLink (infinite_right c k.relation (resolved_of k.right)) k.relation x y p
    → AreLinked c y (links (map resolved_link_of (drop (i + 1) all))) u → AreLinked c x (links (map resolved_link_of (drop i all))) (conjunction p u)
here c all i k x y p u l e o h r =
    let rest = links (map resolved_link_of (drop (i + 1) all)) in
    let split : drop i all ≡ k ∷ drop (i + 1) all = drop_more all i k l ∙ ap (λ z. z ∷ drop (i + 1) all) (sym e) in
    let seen : AreLinked c x (links (resolved_link_of k ∷ map resolved_link_of (drop (i + 1) all))) (conjunction p u) =
    subst (λ z. AreLinked c x (links (z ∷ map resolved_link_of (drop (i + 1) all))) (conjunction p u)) (sym (link-seen k))
    (y, o, conjoined p u (λ w. IsLink (infinite_right c k.relation (resolved_of k.right)) k.relation x y w) (λ w. AreLinked c y rest w) h r) in
    subst (λ ks. AreLinked c x (links (map resolved_link_of ks)) (conjunction p u)) (sym split) seen

pub link-more : (c : Context) (all : List ResolvedLink) (i : ℕ) (k : ResolvedLink) (x y first : Outcome) (t p s : Truth) → i < length all → k ≡ get_or all i k
    → LinksTo c all (drop i all) x first t → HasOutcome c (resolved_of k.right) y
    → IsLink (infinite_right c k.relation (resolved_of k.right)) k.relation x y p → s ≡ conjunction t p → LinksTo c all (drop (i + 1) all) y first s
link-more c all i k x y first t p s l e f o h d u r =
    subst (AreLinked c first (links (map resolved_link_of all))) (conjunction-assoc t p u ∙ ap (λ w. conjunction w u) (sym d)) (f (conjunction p u) (here c all i k x y p u l e o h r))

-- a link that is false
pub link-false : (c : Context) (all : List ResolvedLink) (i : ℕ) (k : ResolvedLink) (x y first : Outcome) (t p : Truth) → i < length all → k ≡ get_or all i k
    → LinksTo c all (drop i all) x first t → HasOutcome c (resolved_of k.right) y
    → IsLink (infinite_right c k.relation (resolved_of k.right)) k.relation x y p → p ≡ False → AreLinked c first (links (map resolved_link_of all)) False
link-false c all i k x y first t p l e f o h d =
    let rest = links (map resolved_link_of (drop (i + 1) all)) in
    let split : drop i all ≡ k ∷ drop (i + 1) all = drop_more all i k l ∙ ap (λ z. z ∷ drop (i + 1) all) (sym e) in
    let seen : AreLinked c x (links (resolved_link_of k ∷ map resolved_link_of (drop (i + 1) all))) False =
    subst (λ z. AreLinked c x (links (z ∷ map resolved_link_of (drop (i + 1) all))) False) (sym (link-seen k))
    (y, o, inl (subst (IsLink (infinite_right c k.relation (resolved_of k.right)) k.relation x y) d h)) in
    subst (AreLinked c first (links (map resolved_link_of all))) (conjunction-false t) (f False (subst (λ ks. AreLinked c x (links (map resolved_link_of ks)) False) (sym split) seen))

pub link-all : (c : Context) (all : List ResolvedLink) (n : ℕ) (x first : Outcome) (t : Truth) → length all ≤ n → LinksTo c all (drop n all) x first t
    → AreLinked c first (links (map resolved_link_of all)) t
link-all c all n x first t l f =
    subst (AreLinked c first (links (map resolved_link_of all))) (conjunction-true t) (f True (subst (λ ks. AreLinked c x (links (map resolved_link_of ks)) True) (sym (drop-past n all l)) refl))

-- the last link
pub link-last : (c : Context) (all : List ResolvedLink) (i : ℕ) (k : ResolvedLink) (x first : Outcome) (t p s : Truth) → i < length all → k ≡ get_or all i k
    → length all ≤ i + 1 → LinksTo c all (drop i all) x first t
    → IsLastLink c k.relation (resolved_of k.right) x p → s ≡ conjunction t p → AreLinked c first (links (map resolved_link_of all)) s
unfolding IsLastLink
link-last c all i k x first t p s l e m f h q =
    let r = subst (λ ks. AreLinked c h.0 (links (map resolved_link_of ks)) True) (sym (drop-past (i + 1) all m)) refl in
    let told = subst (AreLinked c x (links (map resolved_link_of (drop i all)))) (conjunction-true p) (here c all i k x h.0 p True l e h.1 h.2 r) in
    subst (AreLinked c first (links (map resolved_link_of all))) (sym q) (f p told)

pub last-described : (c : Context) (r : Relation) (t : ResolvedTree) (x : Outcome) (d : Described) (i : Option Infinite) (u : Truth) → i ≡ infinite_right c r t
    → i ≡ None → Describes (HasOutcome c t) d → IsTruthIn (IsDescribed d) r x u → IsLastLink c r t x u
unfolding IsLastLink Describes IsTruthIn
last-described c r t x d i u e n f h = (h.0, f h.0 h.1, subst (λ j. IsLink j r x h.0 u) (sym n ∙ e) h.2)

pub last-worked : (c : Context) (r : Relation) (t : ResolvedTree) (x y : Outcome) (i : Option Infinite) (u : Truth) → i ≡ infinite_right c r t
    → HasOutcome c t y → IsLink i r x y u → IsLastLink c r t x u
unfolding IsLastLink
last-worked c r t x y i u e h k = (y, h, subst (λ j. IsLink j r x y u) e k)

-- a whole chain
pub chain-told : (c : Context) (d : ResolvedTree) (l : Span) (t a : Resolved) (ks sl : List ResolvedLink) (x : Outcome) (r : Result Truth AllocError)
    → d ≡ chain l (resolved_of t) (links (map resolved_link_of ks)) → a ≡ t → sl ≡ ks → HasOutcome c (resolved_of a) x
    → IfOk r (AreLinked c x (links (map resolved_link_of sl))) → IfOk r (IsTruth c d)
chain-told c d l t a ks sl x r e f g h k =
    let o = subst (λ z. HasOutcome c (resolved_of z) x) f h in
    subst (λ z. IfOk r (IsTruth c z)) (sym e)
    (IfOk-weaker r (AreLinked c x (links (map resolved_link_of ks))) (IsTruth c (chain l (resolved_of t) (links (map resolved_link_of ks)))) (λ u q. (x, o, q))
    (subst (λ zs. IfOk r (AreLinked c x (links (map resolved_link_of zs)))) g k))
