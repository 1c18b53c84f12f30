-- Calls of a desk's file, one after another, and what a stop within them shows.
use Rattle.std.proofs.Common.{◌≡◌, ◌↔◌, ℕ, List, IsSome, sym, subst}
use Rattle.pl_desk.proofs.AnyMoment.{OnlyNow, and_call, and_more, begun, some_said, weaker}
use Rattle.pl_desk.specs.Calls.{OnlyReads}
use Rattle.pl_desk.specs.Desk.{Elapses, Shows}
use Rattle.pl_desk.specs.Shown.{AtAnyMoment, LeftBy, Rests, ShowsStep}
use Rattle.pl_desk.specs.declared.desk.Desk.{Ghosts}

module _ {D : Type 0} (desk : Ghosts D) where
  -- before the first call
  pub began : OnlyNow desk → (old : D) (step : List ℕ → List ℕ → Type 0) → ((file : List ℕ) → step file file)
      → ShowsStep desk old old step
  began only_now old step same = λ some.
      begun desk only_now old (LeftBy step (desk.may_leave old)) some (λ file left. (file, left, same file))

  -- one call more
  pub went : (old mid new : D) (step : List ℕ → List ℕ → Type 0) → ShowsStep desk old mid step
      → desk.said mid ≡ desk.said old
      → Elapses (desk.moment mid) (desk.moment new) (desk.shown_since mid) (desk.shown_since new)
      (Shows (desk.may_leave new) (desk.said mid))
      → ((file : List ℕ) → desk.may_leave new file → LeftBy step (desk.may_leave old) file)
      → ShowsStep desk old new step
  went old mid new step so_far unsaid time leaves = λ some.
      and_call desk old mid new (LeftBy step (desk.may_leave old)) unsaid (so_far some) time leaves

  -- several calls more
  pub went_on : (old mid new : D) (step more : List ℕ → List ℕ → Type 0) → ShowsStep desk old mid step
      → desk.said mid ≡ desk.said old → ShowsStep desk mid new more
      → ((file : List ℕ) → desk.may_leave mid file → (next : List ℕ) → more file next
      → LeftBy step (desk.may_leave old) next)
      → ShowsStep desk old new step
  went_on old mid new step more so_far unsaid further leaves = λ some.
      and_more desk old mid new (LeftBy step (desk.may_leave old)) (LeftBy more (desk.may_leave mid)) unsaid
      (so_far some)
      (further (subst IsSome (sym unsaid) some)) (λ file by. leaves by.0 by.1 file by.2)

  -- reads show what a step shows that a stop may cut short at once
  pub read_as : (old new : D) (step : List ℕ → List ℕ → Type 0) → ((file : List ℕ) → step file file)
      → OnlyReads desk old new → ShowsStep desk old new step
  read_as old new step same reads = λ some.
      weaker desk old new (desk.may_leave old) (LeftBy step (desk.may_leave old)) (reads.shows some)
      (λ file left. (file, left, same file))

  -- ---- on a desk that tells its content

  -- the first calls of a desk at rest
  pub from_rest : (old new : D) (P Q : List ℕ → Type 0) (step : List ℕ → List ℕ → Type 0)
      → IsSome (desk.held old) ↔ IsSome (desk.said old) → Rests desk old P → ShowsStep desk old new step
      → ((file : List ℕ) → desk.may_leave old file → (next : List ℕ) → step file next → Q next)
      → AtAnyMoment desk old new Q
  from_rest old new P Q step told rests shows to =
      weaker desk old new (LeftBy step (desk.may_leave old)) Q
      (shows (some_said desk old rests.file told rests.is_held))
      (λ file by. to by.0 by.1 file by.2)

  -- further calls
  pub and_then : (old mid new : D) (Q : List ℕ → Type 0) (step : List ℕ → List ℕ → Type 0)
      → desk.said mid ≡ desk.said old → IsSome (desk.said old) → AtAnyMoment desk old mid Q
      → ShowsStep desk mid new step
      → ((file : List ℕ) → desk.may_leave mid file → (next : List ℕ) → step file next → Q next)
      → AtAnyMoment desk old new Q
  and_then old mid new Q step unsaid some so_far shows to =
      and_more desk old mid new Q (LeftBy step (desk.may_leave mid)) unsaid so_far
      (shows (subst IsSome (sym unsaid) some))
      (λ file by. to by.0 by.1 file by.2)
