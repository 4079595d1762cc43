-- Types that are seen as the same are equal.
use Rattle.zf_term.proofs.Prelude.{◌∙◌, ◌∷◌, ◌≡◌, [], ap, List, map, refl, sym, types, type_of, ind-ZType, map-ZType, out-ZType, roll-out-ZType, roll-ZType, ZType, ZType-F}
use Rattle.zf_term.proofs.TypeForms.{form_of, seen_type}
use Rattle.zf_term.proofs.TypesSeen.{rolled}

abbrev IsOne : ZType → Type 0
IsOne a = (b : ZType) → type_of a ≡ type_of b → a ≡ b

one_list : (es : List ((a : ZType) × IsOne a)) (bs : List ZType) → types (map type_of (map (λ e. e.0) es)) ≡ types (map type_of bs) → map (λ e. e.0) es ≡ bs
one_list [] [] h = refl
one_list [] (b ∷ bs) h = (cc)
one_list (e ∷ es) [] h = (cc)
one_list (e ∷ es) (b ∷ bs) h =
    let both : (type_of e.0 ≡ type_of b) × (types (map type_of (map (λ e. e.0) es)) ≡ types (map type_of bs)) = ((cc), (cc)) in
    let here = e.1 b both.0 in
    let rest = one_list es bs both.1 in
    (cc)

one_form : (y : ZType-F ((a : ZType) × IsOne a)) (u : ZType-F ZType) → form_of (map-ZType _ _ (λ e. e.0) y) ≡ form_of u → map-ZType _ _ (λ e. e.0) y ≡ u
one_form ZType-F.Int ZType-F.Int h = refl
one_form (ZType-F.Basic m) (ZType-F.Basic n) h = (cc)
one_form (ZType-F.Power e) (ZType-F.Power b) h =
    let inside : type_of e.0 ≡ type_of b = (cc) in
    ap ZType-F.Power (e.1 b inside)
one_form (ZType-F.Product es) (ZType-F.Product bs) h =
    let inside : types (map type_of (map (λ e. e.0) es)) ≡ types (map type_of bs) = (cc) in
    ap ZType-F.Product (one_list es bs inside)
one_form y u h = (cc)

pub one_type : (a b : ZType) → type_of a ≡ type_of b → a ≡ b
one_type = ind-ZType IsOne (λ x y is b h.
    let forms : form_of x ≡ form_of (out-ZType b) = sym (rolled x) ∙ h ∙ seen_type b in
    let same = one_form y (out-ZType b) (ap form_of is ∙ forms) in
    ap roll-ZType (sym is ∙ same) ∙ roll-out-ZType b)
