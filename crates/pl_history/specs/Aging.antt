-- What a day makes of the view of a page.
use Rattle.std.specs.Prelude.{ℕ, ◌+◌}
use Rattle.std.specs.List.{Contains}
use Rattle.pl_base.specs.declared.date.Day.{Day}
use Rattle.pl_base.specs.declared.view.View.{View}
use Rattle.pl_base.specs.Days.{on_day}
use Rattle.pl_base.specs.Store.{Page, Store}
use Rattle.pl_base.specs.View.{IsViewOf}
use Rattle.pl_marks.specs.declared.mark.Aged.{Aged}
use Rattle.pl_marks.specs.Aged.{aged_reads, mark_reads}

-- the store has a page with this view
pub record HasPageOf (store : Store) (view : View) : Type 0 where
  pub page : Page
  pub there : Contains store.pages page
  pub seen : IsViewOf store page view

-- on some day it had
abbrev pub HadPageOf : Store → View → Type 0
HadPageOf store view = (day : Day) × HasPageOf (on_day day store) view

-- the view with another frecency and another due day
abbrev pub with_aged : View → Aged → View
with_aged view aged = record view { frecency = aged.frecency; due = aged.due }

-- the most records that are read for a page that gets the frecency of a new day
abbrev pub page_reads : ℕ
page_reads = aged_reads + mark_reads
