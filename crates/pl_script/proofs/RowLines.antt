-- Lines of rows, one behind another behind a first line.
use Rattle.std.proofs.Common.{◌≡◌, ◌∙◌, ◌++◌, ◌∷◌, ◌+◌, ◌<◌, ◌≤◌, [], List, ℕ, ap, get_or, length, map, sym, take}
use Rattle.std.specs.List.{flat_map}
use Rattle.std.proofs.lemmas.List.{flat_map_more, take_all, take_more}
use Rattle.std.proofs.lemmas.List.Folds.{flat_map-map}
use Rattle.pl_script.specs.Reply.{line_text}

-- the line of a row more
pub one_more : {A : Type 0} (line : A → List ℕ) (first old new written : List ℕ) (rows : List A) (k : ℕ) (row : A)
    → k < length rows → row ≡ get_or rows k row → old ≡ first ++ flat_map line (take k rows) → written ≡ line row
    → new ≡ old ++ written → new ≡ first ++ flat_map line (take (k + 1) rows)
one_more line first old new written rows k row within at front is more =
    more ∙ rw (front, is) (flat_map_more line first (take k rows) row)
    ∙ ap (λ r. first ++ flat_map line (take k rows ++ r ∷ [])) at
    ∙ ap (λ l. first ++ flat_map line l) (sym (take_more rows k row within))

-- those of all rows
pub all_rows : {A : Type 0} (fields : A → List (List ℕ)) (first text : List ℕ) (rows : List A) (k : ℕ)
    → length rows ≤ k → text ≡ first ++ flat_map (λ row. line_text (fields row)) (take k rows)
    → text ≡ first ++ flat_map line_text (map fields rows)
all_rows fields first text rows k all is =
    is ∙ ap (λ l. first ++ flat_map (λ row. line_text (fields row)) l) (take_all k rows all)
    ∙ ap (λ lines. first ++ lines) (sym (flat_map-map line_text fields rows))
