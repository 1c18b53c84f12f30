-- What a stop shows while a text is said.
use Rattle.std.specs.Option.{option_map}
use Rattle.std.proofs.Common.{◌≡◌, ◌≤◌, ◌+◌, ◌-◌, ℕ, List, ◌++◌, length, take, drop, Option, Some, sym, ap, ◌∙◌}
use Rattle.std.proofs.Common.{append-nil}
use Rattle.std.proofs.lemmas.Option.{same_Some}
use Rattle.pl_desk.specs.Desk.{Elapses, ShowsSaying}
use Rattle.pl_desk.proofs.Moments.{started, goes_on}
use Rattle.pl_desk.specs.declared.desk.Desk.{Ghosts}
use Rattle.pl_desk.specs.Shown.{ShowsOnly}
use Rattle.pl_desk.proofs.AnyMoment.{OnlyNow}
use Rattle.places.specs.Said.{Says}
use Rattle.places.specs.Stops.{ShowsFront}
use Rattle.places.proofs.SaidLemmas.{says_more, take_further}

-- a front of the rest behind what was said is a longer front
pub front_further : (before bytes line : List ℕ) (s k : ℕ) (at_first now : Option (List ℕ)) → s ≤ length bytes
    → at_first ≡ Some before → Says at_first (take s bytes) now
    → option_map (λ said. said ++ take k (take (length bytes - s) (drop s bytes))) now ≡ Some line
    → line ≡ before ++ take (s + k) bytes
front_further before bytes line s k at_first now within is front shown =
    let whole : Says at_first (take s bytes ++ take k (take (length bytes - s) (drop s bytes))) (Some line) =
    says_more at_first now (Some line) _ _ front (sym shown) in
    let said : Some line ≡ Some (before ++ (take s bytes ++ take k (take (length bytes - s) (drop s bytes)))) =
    whole ∙ ap (option_map (λ said. said ++ (take s bytes ++ take k (take (length bytes - s) (drop s bytes)))))
    is in
    same_Some _ _ said ∙ ap (λ tail. before ++ tail) (sym (take_further bytes s k within))

module _ {D : Type 0} (desk : Ghosts D) where
  -- before the first call
  pub says_none : OnlyNow desk → (old : D) (before bytes : List ℕ) → desk.said old ≡ Some before
      → ShowsOnly desk old old (ShowsFront desk old before bytes)
  says_none only_now old before bytes is = started desk old (ShowsFront desk old before bytes)
      (λ file line shown. let now = only_now old before file line is shown in
      (now.0, (0, now.1 ∙ sym (append-nil before))))

  -- one call more
  pub says_on : (old mid new : D) (before bytes : List ℕ) (s n : ℕ) → s ≤ length bytes → desk.said old ≡ Some before
      → Says (desk.said old) (take s bytes) (desk.said mid)
      → ((file : List ℕ) → desk.may_leave mid file → desk.may_leave old file)
      → ((file : List ℕ) → desk.may_leave new file → desk.may_leave mid file)
      → ShowsOnly desk old mid (ShowsFront desk old before bytes)
      → Elapses (desk.moment mid) (desk.moment new) (desk.shown_since mid) (desk.shown_since new)
      (ShowsSaying (desk.may_leave new) (desk.said mid) (take (length bytes - s) (drop s bytes)) n)
      → ShowsOnly desk old new (ShowsFront desk old before bytes)
  says_on old mid new before bytes s n within is front left leaves so_far time =
      goes_on desk old mid new (ShowsFront desk old before bytes)
      (ShowsSaying (desk.may_leave new) (desk.said mid) (take (length bytes - s) (drop s bytes)) n) so_far time
      (λ file line shows. (
        left file (leaves file shows.0),
        (
          s + shows.1.0,
          front_further before bytes line s shows.1.0 (desk.said old) (desk.said mid) within is front
              shows.1.2,
        ),
      ))
