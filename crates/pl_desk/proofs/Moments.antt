-- How a run of a desk's calls goes on.
use Rattle.std.specs.Prelude.{ℕ, List}
use Rattle.std.proofs.Common.{inl, inr, ⊎_elim, arith}
use Rattle.pl_desk.specs.Desk.{Elapses}
use Rattle.pl_desk.specs.Shown.{ShowsOnly}
use Rattle.pl_desk.specs.declared.desk.Desk.{Ghosts}

module _ {D : Type 0} (desk : Ghosts D) where
  -- before the first call
  pub started : (old : D) (P : List ℕ → List ℕ → Type 0)
      → ((file line : List ℕ) → desk.shown_since old (desk.moment old) file line → P file line)
      → ShowsOnly desk old old P
  started old P here =
      record { later = omega arith; each = here; before = λ t file line le shown. inl shown }

  -- one call more, which shows what has P
  pub goes_on : (old mid new : D) (P shows : List ℕ → List ℕ → Type 0) → ShowsOnly desk old mid P
      → Elapses (desk.moment mid) (desk.moment new) (desk.shown_since mid) (desk.shown_since new)
      shows
      → ((file line : List ℕ) → shows file line → P file line) → ShowsOnly desk old new P
  goes_on old mid new P shows so_far time here = record {
    later = omega (arith, so_far.later, time.later);
    each = λ file line shown. ⊎_elim (so_far.each file line) (here file line)
        (time.nothing_else (desk.moment old) file line so_far.later shown);
    before =
        λ t file line le shown. ⊎_elim (so_far.before t file line le)
        (λ now. inr (here file line now))
        (time.nothing_else t file line (omega (arith, le, so_far.later)) shown);
  }

  -- further calls, of which as much is known
  pub and_on : (old mid new : D) (P Q : List ℕ → List ℕ → Type 0) → ShowsOnly desk old mid P
      → ShowsOnly desk mid new Q → ((file line : List ℕ) → Q file line → P file line)
      → ShowsOnly desk old new P
  and_on old mid new P Q first second to = record {
    later = omega (arith, first.later, second.later);
    each = λ file line shown. ⊎_elim (first.each file line) (to file line)
        (second.before (desk.moment old) file line first.later shown);
    before =
        λ t file line le shown. ⊎_elim (first.before t file line le) (λ has. inr (to file line has))
        (second.before t file line (omega (arith, le, first.later)) shown);
  }

  pub shows_less : (old new : D) (P Q : List ℕ → List ℕ → Type 0) → ShowsOnly desk old new P
      → ((file line : List ℕ) → P file line → Q file line) → ShowsOnly desk old new Q
  shows_less old new P Q shows to = record {
    later = shows.later;
    each = λ file line shown. to file line (shows.each file line shown);
    before = λ t file line le shown. ⊎_elim (λ past. inl past) (λ has. inr (to file line has))
        (shows.before t file line le shown);
  }
