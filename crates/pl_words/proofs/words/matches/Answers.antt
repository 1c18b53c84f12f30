use Rattle.std.proofs.Common.{◌≡◌, ◌∙◌, Bool, true, false, ap, ap₂, refl, sym}
use Rattle.std.specs.Ordering.{partial_ge}
use Rattle.pl_words.specs.contracts.stands.StandingPartialOrd.TheImpl.{partial_cmp-value}
use Rattle.pl_words.specs.declared.stands.Standing.{Standing}
use Rattle.pl_words.specs.declared.stands.Standing.TheVariants.{Boundary, Inside, Nowhere}
use Rattle.pl_words.specs.Pieces.{found}
use Rattle.pl_words.proofs.FoundLaws.{found_somewhere}
use Rattle.pl_words.proofs.StandingSteps.{best}
use Rattle.pl_words.proofs.words.matches.Goals as goal
use Rattle.pl_words.proofs.words.matches.Goals.{then-boundary, else-boundary}

abbrev is_at_least : Standing → Standing → Bool
is_at_least = partial_ge partial_cmp-value.it

on_boundary : (boundary inside : Bool)
    → is_at_least (best Nowhere boundary inside) Boundary ≡ boundary
on_boundary true inside = refl
on_boundary false true = refl
on_boundary false false = refl

anywhere : (boundary inside : Bool) → (boundary ≡ true → inside ≡ true)
    → is_at_least (best Nowhere boundary inside) Inside ≡ inside
anywhere true inside too = sym (too refl)
anywhere false true too = refl
anywhere false false too = refl

pub returns : goal.returns
returns c =
    let word = c.args.word.now in
    let text = c.args.text.now in
    let on = found true word text in
    let at = found false word text in
    c.ge.ensures
    ∙ elim c.if-boundary.branch [
      | then-boundary w ↦ ap₂ is_at_least c.standing.ensures w.least-is ∙ on_boundary on at
          ∙ ap (λ boundary. found boundary word text) (sym w.if-boundary.true)
      | else-boundary w ↦ ap₂ is_at_least c.standing.ensures w.least-is
          ∙ anywhere on at (found_somewhere word text)
          ∙ ap (λ boundary. found boundary word text) (sym w.if-boundary.false)
    ]
