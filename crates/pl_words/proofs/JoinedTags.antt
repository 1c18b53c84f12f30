-- Names of tags that commas join: a cut at the commas gives them back.
use Rattle.std.proofs.Common.{◌≡◌, ◌∙◌, ◌==◌, ℕ, false, List, [], ◌∷◌, All, ap, refl}
use Rattle.std.specs.List.{AllByRecursion, slice_split}
use Rattle.std.proofs.lemmas.Bool.{ne_eqb}
use Rattle.std.proofs.lemmas.List.Splits.{slice_split_at, slice_split_none}
use Rattle.pl_base.specs.Good.{IsTagName}
use Rattle.pl_base.specs.Tags.{comma_joined}

no_comma : (name : List ℕ) → IsTagName name → All (λ b. (b == 44) ≡ false) name
no_comma name is = λ k d within. ne_eqb _ _ (is.no_comma k d within)

pub cut_again : (name : List ℕ) (names : List (List ℕ)) → AllByRecursion IsTagName (name ∷ names)
    → slice_split (λ b. b == 44) (comma_joined (name ∷ names)) ≡ name ∷ names
cut_again name [] all = slice_split_none (λ b. b == 44) name (no_comma name all.0)
cut_again name (next ∷ names) all =
    slice_split_at (λ b. b == 44) name 44 (comma_joined (next ∷ names)) (no_comma name all.0) refl
    ∙ ap (λ (more : List (List ℕ)). name ∷ more) (cut_again next names all.1)
