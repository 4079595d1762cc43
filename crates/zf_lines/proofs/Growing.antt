-- The lines of a search grow with each event that is written.
use Rattle.zf_lines.proofs.Prelude.{◌++◌, ◌+◌, ◌∙◌, ◌∷◌, ◌≡◌, [], ap, append-nil, append_assoc, arith, length, length-append, List, None, Option, refl, Some, subst, sym, ℕ, Event, Hold, IsBegun, IsBelow, IsNotAbove, lines, Wording}

module _ {V : Type 0} (words : Wording V) where
  pub one_more_line : (front : List (Event V)) (e : Event V) → lines words (front ++ e ∷ []) ≡ lines words front ++ words.line e.row
  one_more_line [] e = append-nil (words.line e.row)
  one_more_line (f ∷ front) e = ap (λ t. words.line f.row ++ t) (one_more_line front e) ∙ sym (append_assoc (words.line f.row) (lines words front) (words.line e.row))

  below_within : (limit : Option ℕ) (n : ℕ) → IsBelow limit n → IsNotAbove limit (n + 1)
  below_within None n h = tt
  below_within (Some m) n h = omega (arith, h)

  -- the lines so far, after one more
  pub begun : (limit : Option ℕ) (front : List (Event V)) (e : Event V) (text : List ℕ) → Hold (front ++ e ∷ []) → IsBelow limit (length front) → text ≡ lines words front
      → IsBegun words limit (front ++ e ∷ []) (Some e.row) (text ++ words.line e.row)
  begun limit front e text h b t = record {
    front = front;
    event = e;
    listed = refl;
    up_to = refl;
    hold = h;
    within = subst (IsNotAbove limit) (sym (length-append front (e ∷ []))) (below_within limit (length front) b);
    written = ap (λ u. u ++ words.line e.row) t ∙ sym (one_more_line front e);
  }
