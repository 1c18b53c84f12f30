-- The marks that the definitions give the pages of a file.
use Rattle.std.specs.Prelude.{◌≡◌, ◌==◌, ◌&&◌, ◌||◌, not, Bool, List, length}
use Rattle.std.specs.List.{list_all}
use Rattle.pl_base.specs.declared.row.Mark.{Mark}
use Rattle.pl_base.specs.Frecency.{frecency_of}
use Rattle.pl_base.specs.Marks.{is_framed, is_hidden, visit_count}
use Rattle.pl_base.specs.Redirects.{is_redirect_source, source_transition}
use Rattle.pl_base.specs.Tables.{bonus_of}
use Rattle.pl_check.specs.Items.{AreReferences}
use Rattle.pl_score.specs.declared.sample.Sampled.{Sampled}
use Rattle.pl_sound.specs.declared.marks.Sources.{Sources}
use Rattle.pl_sound.specs.Visits.{AreByPage}
use Rattle.pl_stored.specs.declared.stored.StoredPage.{StoredPage}
use Rattle.pl_stored.specs.declared.stored.StoredVisit.{StoredVisit}
use Rattle.pl_stored.specs.Stored.{Stored, stored_page, stored_store, visit_of}

-- what the definitions give of a page on the store's day
abbrev pub right_mark : Stored → StoredPage → Mark
right_mark rows p =
    record {
      frecency = frecency_of (stored_store rows) (stored_page p);
      count = visit_count (stored_store rows) p.id;
      typed = p.typed;
      hidden = is_hidden (stored_store rows) (stored_page p);
    }

-- ---- what they are computed from

pub record AreSources (rows : Stored) (sources : Sources) : Type 0 where
  pub visits : AreByPage rows.visits sources.visits
  pub redirects : sources.redirects ≡ rows
  pub references : AreReferences rows.items sources.references

-- what a visit counts, whose page is told to be an item's or not
abbrev pub told_sample : Stored → Bool → StoredVisit → Sampled
told_sample rows referenced v =
    record {
      date = v.date;
      bonus =
          bonus_of v.transition (source_transition (stored_store rows) (visit_of v))
          (is_redirect_source (stored_store rows) (visit_of v)) referenced;
    }

-- a visit within a frame, or one that led to a redirect
abbrev pub is_unseen : Stored → StoredVisit → Bool
is_unseen rows v = is_framed v.transition || is_redirect_source (stored_store rows) (visit_of v)

-- there are visits, and each is such
abbrev pub are_unseen : Stored → List StoredVisit → Bool
are_unseen rows visits = not (length visits == 0) && list_all (is_unseen rows) visits
