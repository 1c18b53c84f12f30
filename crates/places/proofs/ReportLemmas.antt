-- A report from the opening of the file to the text that is said.
use Rattle.std.proofs.Common.{◌≡◌, ◌<◌, ℕ, List, ◌++◌, length, take, Some}
use Rattle.std.proofs.Common.{ap, append-nil, inl, inr, subst, sym, ◌∙◌, ⊎_elim}
use Rattle.std.proofs.lemmas.Option.{MatchOption-at_some, same_Some}
use Rattle.pl_base.specs.Store.{Store}
use Rattle.pl_desk.proofs.AnyMoment.{CountsNow, rests_less, still_rests}
use Rattle.pl_desk.specs.Calls.{KeepsFile}
use Rattle.pl_desk.proofs.Moments.{shows_less}
use Rattle.pl_desk.proofs.SettlingLaws.{left_settled, shows_then_less}
use Rattle.pl_desk.specs.Settling.{Settles, ShowsThen}
use Rattle.pl_desk.specs.Shown.{Rests, ShowsOnly, Unsaid}
use Rattle.pl_desk.specs.declared.desk.Desk.{Ghosts}
use Rattle.pl_store.specs.declared.ended.Ended.{Ended}
use Rattle.pl_store.specs.declared.ended.Ended.TheVariants as ended
use Rattle.pl_store.specs.declared.reader.Reader.{Reader}
use Rattle.pl_store.specs.Ending.{FailsToOpen}
use Rattle.pl_store.specs.Session.{IsSettledToRead, Stands, StandsAlike, reader_bytes, reader_store}
use Rattle.pl_store.proofs.StandsLaws.{stands_by}
use Rattle.places.specs.declared.status.Status.{Status}
use Rattle.places.specs.declared.status.Status.TheVariants as status
use Rattle.places.specs.Reporting.{EndsReport, ShowsReport}
use Rattle.places.specs.Said.{Says}
use Rattle.places.specs.Status.{without_session}
use Rattle.places.specs.Stops.{ShowsFront, ShowsUnopened}

-- an opening that gives no session is never done
pub not_done : (e : Ended) (s : Status) → s ≡ without_session e → s ≡ status.Done → ⊥
not_done ended.DeviceFault s is done = absurd (cc)
not_done ended.NoMemory s is done = absurd (cc)
not_done ended.NotAStore s is done = absurd (cc)
not_done (ended.NotEmpty n) s is done = absurd (cc)

module _ {D : Type 0} (desk : Ghosts D) where
  -- ---- the opening

  -- until the file is settled nothing is said, and from then on nothing yet
  pub opened_shows : {Fault Fault' : Type 0} (file : List ℕ) (start : Store) (text before : List ℕ) (old new : D)
      → Stands file start → desk.said old ≡ Some before → Settles desk Fault old new (StandsAlike file)
      → (Fault → Fault')
      → ShowsThen desk Fault' old new (ShowsUnopened desk old before) (ShowsReport start text before)
  opened_shows file start text before old new stands is settles fault =
      shows_then_less desk old new (Unsaid desk old (desk.may_leave old)) (Unsaid desk old (StandsAlike file))
      (ShowsUnopened desk old before) (ShowsReport start text before) settles fault
      (λ later line shows. (shows.0, sym (same_Some before line (sym is ∙ shows.1))))
      (λ later line shows. (
        (shows.0 start).0 stands,
        (0, sym (same_Some before line (sym is ∙ shows.1)) ∙ sym (append-nil before)),
      ))

  -- what an opening leaves that ends with no store
  pub report_unopened : {Fault : Type 0} (e : Ended) (s : Status) (file : List ℕ) (start : Store)
      (text before : List ℕ)
      (old new : D)
      → CountsNow desk → s ≡ without_session e → desk.held old ≡ Some file → FailsToOpen desk e old new
      → Stands file start → desk.said new ≡ desk.said old → desk.said old ≡ Some before
      → Settles desk Fault old new (StandsAlike file) → EndsReport desk s text old start before new
  report_unopened ended.DeviceFault s file start text before old new counts_now is held opens stands kept begun settles =
      subst (λ (t : Status). EndsReport desk t text old start before new) (sym is) (
        kept ∙ begun,
        ⊎_elim (λ open_. inl open_) (λ settled. inr (λ later is_left. (settled later is_left start).0 stands))
            (left_settled desk counts_now old new (StandsAlike file) before (kept ∙ begun) settles),
      )
  report_unopened ended.NoMemory s file start text before old new counts_now is held opens stands kept begun settles =
      subst (λ (t : Status). EndsReport desk t text old start before new) (sym is) (
        kept ∙ begun,
        rests_less desk new (StandsAlike file) (λ later. Stands later start) (opens file held)
            (λ later alike. (alike start).0 stands),
      )
  report_unopened ended.NotAStore s file start text before old new counts_now is held opens stands kept begun settles =
      absurd (MatchOption-at_some _ _ file held opens.was_none start stands)
  report_unopened (ended.NotEmpty n) s file start text before old new counts_now is held opens stands kept begun settles =
      absurd opens

  -- ---- the file

  -- it holds the store of the reader
  pub settled_rests : (reader : Reader) (start : Store) (mid : D) → reader_store reader ≡ start
      → IsSettledToRead desk reader mid → Rests desk mid (λ f. Stands f start)
  settled_rests reader start mid is settled =
      rests_less desk mid _ (λ f. Stands f start) settled.rests (λ f closed.
      subst (Stands f) is (stands_by (reader_bytes reader) f (reader_store reader) settled.stands closed.holds))

  -- and holds it still
  pub rests_still : (start : Store) (mid new : D) → Rests desk mid (λ f. Stands f start) → KeepsFile desk mid new
      → Rests desk new (λ f. Stands f start)
  rests_still start mid new rests kept = still_rests desk mid new (λ f. Stands f start) kept.held kept.left rests

  -- ---- what is said

  pub said_whole : (before piece text : List ℕ) (mid new : D) → desk.said mid ≡ Some before
      → Says (desk.said mid) piece (desk.said new) → piece ≡ text → desk.said new ≡ Some (before ++ text)
  said_whole before piece text mid new begun says is =
      rw begun at says ∙ ap (λ (p : List ℕ). Some (before ++ p)) is

  pub said_part : (before piece text : List ℕ) (mid new : D) → desk.said mid ≡ Some before
      → (n : ℕ) × (n < length piece) × Says (desk.said mid) (take n piece) (desk.said new) → piece ≡ text
      → (n : ℕ) × (n < length text) × (desk.said new ≡ Some (before ++ take n text))
  said_part before piece text mid new begun says is =
      subst (λ (p : List ℕ). (n : ℕ) × (n < length p) × (desk.said new ≡ Some (before ++ take n p))) is
      (says.0, says.1, rw begun at says.2)

  -- a stop meanwhile shows the same store and a front of the text
  pub said_shows : (start : Store) (text before piece : List ℕ) (mid new : D) → Rests desk mid (λ f. Stands f start)
      → piece ≡ text → ShowsOnly desk mid new (ShowsFront desk mid before piece)
      → ShowsOnly desk mid new (ShowsReport start text before)
  said_shows start text before piece mid new rests is shows =
      shows_less desk mid new (ShowsFront desk mid before piece) (ShowsReport start text before) shows
      (λ file line front. (
        subst (λ (f : List ℕ). Stands f start) (sym (rests.only file front.0)) rests.has,
        (front.1.0, front.1.1 ∙ ap (λ (p : List ℕ). before ++ take front.1.0 p) is),
      ))
