use Rattle.zf_lines.proofs.Prelude.{◌++◌, ◌-◌, ◌∙◌, ◌≡◌, ap, append_assoc, drop, length, List, rules, sym, take, take-append-drop, ℕ, Appends-trans, take_rest}
use Rattle.zf_lines.proofs.writing.write_text.Goals as goal

-- the front of what is left moves to what is done
moved : (text done rest : List ℕ) (n : ℕ) → text ≡ done ++ rest → text ≡ (done ++ take n rest) ++ take (length rest - n) (drop n rest)
moved text done rest n split =
    let parted : rest ≡ take n rest ++ take (length rest - n) (drop n rest) = sym (take-append-drop n rest) ∙ ap (λ l. take n rest ++ l) (sym (take_rest rest n)) in
    split ∙ ap (λ l. done ++ l) parted ∙ sym (append_assoc done (take n rest) _)

pub loop-rest-preserved : goal.loop-rest-preserved
loop-rest-preserved g c =
    let (done, split, appended, unfailed) = c.loop-rest.invariant in (
      done ++ take c.in-Ok.n c.loop-rest.rest.now,
      moved _ done c.loop-rest.rest.now c.in-Ok.n split,
      Appends-trans _ _ _ _ _ appended c.in-Ok.ensures.bytes,
      search rules,
    )
