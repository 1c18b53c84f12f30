-- What a stop at any moment of several calls shows of a file, where the line stays as it was.
use Rattle.std.proofs.Common.{◌≡◌, ◌↔◌, ◌≤◌, false, ℕ, List, Option, Some, None, IfSome, IsSome}
use Rattle.std.proofs.Common.{inr, ⊎_elim}
use Rattle.std.proofs.Common.{refl, sym, ◌∙◌, ap, subst, arith}
use Rattle.std.proofs.lemmas.Bool.{both_ways}
use Rattle.std.proofs.lemmas.Option.{MatchOption-at_some}
use Rattle.pl_desk.specs.Calls.{LeavesFile, LeavesNoMore, OnlyReads}
use Rattle.pl_desk.specs.Desk.{Elapses, Only, Shows}
use Rattle.pl_desk.proofs.Moments.{goes_on, shows_less, started}
use Rattle.pl_desk.specs.Shown.{AtAnyMoment, Rests, Unsaid}
use Rattle.pl_desk.specs.declared.desk.Desk.{Ghosts}

module _ {D : Type 0} (desk : Ghosts D) where
  -- ---- the laws of a desk

  -- since this moment there is no other
  abbrev pub OnlyNow : Type 0
  OnlyNow = (now : D) (line_now file line : List ℕ) → desk.said now ≡ Some line_now
      → desk.shown_since now (desk.moment now) file line
      → desk.may_leave now file × (line ≡ line_now)

  -- a stop may always show what a read gives now, and what was said
  abbrev pub ShownNow : Type 0
  ShownNow =
      (now : D) (t : ℕ) (file line : List ℕ) → t ≤ desk.moment now → desk.held now ≡ Some file
      → desk.said now ≡ Some line → desk.shown_since now t file line

  -- this moment is one of those since an earlier one
  abbrev pub CountsNow : Type 0
  CountsNow = (now : D) (t : ℕ) (file line : List ℕ) → t ≤ desk.moment now → desk.may_leave now file
      → desk.said now ≡ Some line → desk.shown_since now t file line

  -- where the file is told, so is the line
  pub some_said : (now : D) (file : List ℕ) → IsSome (desk.held now) ↔ IsSome (desk.said now)
      → desk.held now ≡ Some file → IsSome (desk.said now)
  some_said now file told is = told.0 (subst IsSome (sym is) refl)

  -- ---- a desk at rest

  -- after a sync
  pub rests_at : (now : D) (P : List ℕ → Type 0) (file : List ℕ) → desk.held now ≡ Some file
      → IfSome (desk.held now) (λ f. Only f (desk.may_leave now)) → P file → Rests desk now P
  rests_at now P file is durable has = record {
    file = file;
    is_held = is;
    only = MatchOption-at_some _ _ file is durable;
    has = has;
  }

  pub rests_synced : (before now : D) (P : List ℕ → Type 0) (file : List ℕ)
      → desk.held now ≡ desk.held before
      → desk.held before ≡ Some file → IfSome (desk.held before) (λ f. Only f (desk.may_leave now))
      → P file
      → Rests desk now P
  rests_synced before now P file same is durable has = record {
    file = file;
    is_held = same ∙ is;
    only = MatchOption-at_some _ _ file is durable;
    has = has;
  }

  -- calls that leave the file leave it at rest
  pub still_rests : (old new : D) (P : List ℕ → Type 0) → desk.held new ≡ desk.held old
      → LeavesNoMore desk old new
      → Rests desk old P → Rests desk new P
  still_rests old new P same left rests = record {
    file = rests.file;
    is_held = same ∙ rests.is_held;
    only = λ file may. rests.only file (left file may);
    has = rests.has;
  }

  pub rests_less : (now : D) (P Q : List ℕ → Type 0) → Rests desk now P
      → ((file : List ℕ) → P file → Q file)
      → Rests desk now Q
  rests_less now P Q rests to = record {
    file = rests.file;
    is_held = rests.is_held;
    only = rests.only;
    has = to rests.file rests.has;
  }

  -- ---- what a stop shows

  -- before the first call
  pub begun : OnlyNow → (old : D) (Q : List ℕ → Type 0) → IsSome (desk.said old)
      → ((file : List ℕ) → desk.may_leave old file → Q file) → AtAnyMoment desk old old Q
  begun only_now old Q some left = at (desk.said old) refl some
    where
      at : (line : Option (List ℕ)) → desk.said old ≡ line → IsSome line
          → AtAnyMoment desk old old Q
      at None is some = absurd (both_ways false refl some)
      at (Some before) is some = started desk old (Unsaid desk old Q) (λ file line shown.
          let now = only_now old before file line is shown in
          (left file now.0, is ∙ ap Some (sym now.1)))

  -- one call more
  pub and_call : (old mid new : D) (Q : List ℕ → Type 0) → desk.said mid ≡ desk.said old
      → AtAnyMoment desk old mid Q
      → Elapses (desk.moment mid) (desk.moment new) (desk.shown_since mid) (desk.shown_since new)
      (Shows (desk.may_leave new) (desk.said mid))
      → ((file : List ℕ) → desk.may_leave new file → Q file) → AtAnyMoment desk old new Q
  and_call old mid new Q unsaid so_far time left =
      goes_on desk old mid new (Unsaid desk old Q) (Shows (desk.may_leave new) (desk.said mid))
      so_far time
      (λ file line shows. (left file shows.0, sym unsaid ∙ shows.1))

  -- further calls, of which as much is known
  pub and_more : (old mid new : D) (Q R : List ℕ → Type 0) → desk.said mid ≡ desk.said old
      → AtAnyMoment desk old mid Q
      → AtAnyMoment desk mid new R → ((file : List ℕ) → R file → Q file)
      → AtAnyMoment desk old new Q
  and_more old mid new Q R unsaid first second to = record {
    later = omega (arith, first.later, second.later);
    each =
        λ file line shown. ⊎_elim (first.each file line)
        (λ has. (to file has.0, sym unsaid ∙ has.1))
        (second.before (desk.moment old) file line first.later shown);
    before = λ t file line le shown. ⊎_elim (first.before t file line le)
        (λ has. inr (to file has.0, sym unsaid ∙ has.1))
        (second.before t file line (omega (arith, le, first.later)) shown);
  }

  pub weaker : (old new : D) (Q R : List ℕ → Type 0) → AtAnyMoment desk old new Q
      → ((file : List ℕ) → Q file → R file) → AtAnyMoment desk old new R
  weaker old new Q R shows to =
      shows_less desk old new (Unsaid desk old Q) (Unsaid desk old R) shows
      (λ file line has. (to file has.0, has.1))

  -- what a read gives is one of the files that a stop may leave
  pub held_left : OnlyNow → ShownNow → (now : D) (file : List ℕ) → IsSome (desk.said now)
      → desk.held now ≡ Some file
      → desk.may_leave now file
  held_left only_now shown_now now file some is = at (desk.said now) refl some
    where
      at : (line : Option (List ℕ)) → desk.said now ≡ line → IsSome line → desk.may_leave now file
      at None none some = absurd (both_ways false refl some)
      at (Some line) said_is some =
          (only_now now line file line said_is
          (shown_now now (desk.moment now) file line (omega arith) is said_is)).0

  -- what a stop may leave now is one of the files that a stop shows
  pub left_now : CountsNow → (old new : D) (P : List ℕ → Type 0) → IsSome (desk.said new)
      → AtAnyMoment desk old new P
      → (file : List ℕ) → desk.may_leave new file → P file
  left_now counts_now old new P some shows file left = at (desk.said new) refl some
    where
      at : (line : Option (List ℕ)) → desk.said new ≡ line → IsSome line → P file
      at None is none = absurd (both_ways false refl none)
      at (Some line) is told =
          (shows.each file line (counts_now new (desk.moment old) file line shows.later left is)).0

  -- ---- reads

  -- no call
  pub reads_none : OnlyNow → (now : D) → OnlyReads desk now now
  reads_none only_now now = record {
    file = record { held = refl; written = refl; left = λ file may. may };
    line = record { said = refl; faults = refl };
    shows = λ some. begun only_now now (desk.may_leave now) some (λ file may. may);
  }

  -- one read more
  pub read_call : (old mid new : D) → OnlyReads desk old mid → desk.held new ≡ desk.held mid
      → desk.said new ≡ desk.said mid → desk.written new ≡ desk.written mid
      → desk.line_faults new ≡ desk.line_faults mid → LeavesNoMore desk mid new
      → Elapses (desk.moment mid) (desk.moment new) (desk.shown_since mid) (desk.shown_since new)
      (Shows (desk.may_leave new) (desk.said mid))
      → OnlyReads desk old new
  read_call old mid new so_far held said written line left time = record {
    file = record {
      held = held ∙ so_far.file.held;
      written = written ∙ so_far.file.written;
      left = λ f may. so_far.file.left f (left f may);
    };
    line = record { said = said ∙ so_far.line.said; faults = line ∙ so_far.line.faults };
    shows =
        λ some. and_call old mid new (desk.may_leave old) so_far.line.said (so_far.shows some) time
        (λ f may. so_far.file.left f (left f may));
  }

  -- further reads
  pub read_on : (old mid new : D) → OnlyReads desk old mid → OnlyReads desk mid new
      → OnlyReads desk old new
  read_on old mid new first second = record {
    file = record {
      held = second.file.held ∙ first.file.held;
      written = second.file.written ∙ first.file.written;
      left = λ f may. first.file.left f (second.file.left f may);
    };
    line = record {
      said = second.line.said ∙ first.line.said;
      faults = second.line.faults ∙ first.line.faults;
    };
    shows =
        λ some. and_more old mid new (desk.may_leave old) (desk.may_leave mid) first.line.said
        (first.shows some)
        (second.shows (subst IsSome (sym first.line.said) some)) first.file.left;
  }

  -- ---- a file that is left alone

  pub left_alone : (now : D) → LeavesFile desk now now
  left_alone now = record {
    kept = record { held = refl; written = refl; left = λ file may. may };
    faults = refl;
  }

  pub alone_on : (old mid new : D) → LeavesFile desk old mid → LeavesFile desk mid new
      → LeavesFile desk old new
  alone_on old mid new first second = record {
    kept = record {
      held = second.kept.held ∙ first.kept.held;
      written = second.kept.written ∙ first.kept.written;
      left = λ file may. first.kept.left file (second.kept.left file may);
    };
    faults = second.faults ∙ first.faults;
  }
