use Rattle.std.proofs.Common.{◌≡◌, ◌∙◌, ◌↔◌, ◌≤◌, ◌⊎◌, ℕ, List, Some, ap, length, subst, sym}
use Rattle.std.specs.List.{All}
use Rattle.std.proofs.lemmas.Result.{IfOk-weaker, on_ok_weaker}
use Rattle.pl_base.specs.Touched.{Change, IsWithin, MayDiffer, bytes_before, changed, page_numbers}
use Rattle.pl_record.specs.Form.{bytes_in}
use Rattle.pl_record.specs.LinkedRows.{IsBaseOf, changes}
use Rattle.pl_record.proofs.Changes.{none_listed}
use Rattle.pl_record.proofs.TouchedRows.{after, needed, settled_base, some, still_keeps, still_kept, whole, within}
use Rattle.pl_slotted.proofs.slotted.Slotted.touched.Given.{Over}
use Rattle.pl_slotted.proofs.slotted.Slotted.touched.Goals as goal
use Rattle.pl_slotted.proofs.slotted.Slotted.touched.Goals.{After-touched}
use Rattle.pl_sheets.specs.Sheets.{Pages, change_of, settled}
use Rattle.pl_slot.proofs.Settled.{either}

told : (g : Over) (c : After-touched g)
    → (c.touched.new.self ≡ settled c.args.self.now.arena) ⊎ (c.touched.new.self ≡ c.args.self.now.arena)
told g c = either c.touched.result _ _ c.touched.ensures.ok c.touched.ensures.err

pub invariant_of-self : goal.invariant_of-self
invariant_of-self g c =
    let s = c.args.self.now in
    record {
      rows =
          still_keeps s.arena c.touched.new.self s.pages.entries s.visits.entries s.items.entries (told g c) s.rows;
    }

pub returns-clause-whole : goal.returns-clause-whole
returns-clause-whole g c =
    let s = c.args.self.now in
    IfOk-weaker c.touched.result (λ (change : Change). change ≡ change_of s.arena)
    (λ (change : Change). (bytes : List ℕ) → IsBaseOf s.arena bytes → changed change bytes ≡ bytes_in s.arena)
    (λ change is bytes base.
    ap (λ (ch : Change). changed ch bytes) is
    ∙ whole s.arena s.pages.entries s.visits.entries s.items.entries s.rows bytes base) c.touched.ensures.listed

pub returns-clause-after : goal.returns-clause-after
returns-clause-after g c =
    let s = c.args.self.now in
    IfOk-weaker c.touched.result (λ (change : Change). change ≡ change_of s.arena)
    (λ (change : Change). length (bytes_in s.arena) ≡ bytes_before change.after)
    (λ change is.
    after s.arena s.pages.entries s.visits.entries s.items.entries s.rows
    ∙ sym (ap (λ (ch : Change). bytes_before ch.after) is)) c.touched.ensures.listed

pub returns-clause-within : goal.returns-clause-within
returns-clause-within g c =
    let s = c.args.self.now in
    IfOk-weaker c.touched.result (λ (change : Change). change ≡ change_of s.arena) IsWithin
    (λ change is.
    subst IsWithin (sym is) (within s.arena s.pages.entries s.visits.entries s.items.entries s.rows))
    c.touched.ensures.listed

pub returns-clause-some : goal.returns-clause-some
returns-clause-some g c =
    let s = c.args.self.now in
    IfOk-weaker c.touched.result (λ (change : Change). change ≡ change_of s.arena) (λ (change : Change). 1 ≤ change.before)
    (λ change is.
    subst (λ (ch : Change). 1 ≤ ch.before) (sym is)
    (some s.arena s.pages.entries s.visits.entries s.items.entries s.rows)) c.touched.ensures.listed

pub returns-clause-needed : goal.returns-clause-needed
returns-clause-needed g c =
    let s = c.args.self.now in
    IfOk-weaker c.touched.result (λ (change : Change). change ≡ change_of s.arena)
    (λ (change : Change). All (MayDiffer (IsBaseOf s.arena) (bytes_in s.arena)) (page_numbers change.pages))
    (λ change is.
    subst (λ (ch : Change). All (MayDiffer (IsBaseOf s.arena) (bytes_in s.arena)) (page_numbers ch.pages)) (sym is)
    (needed s.arena s.pages.entries s.visits.entries s.items.entries s.rows)) c.touched.ensures.listed

pub returns-clause-pending : goal.returns-clause-pending
returns-clause-pending g c =
    let s = c.args.self.now in
    on_ok_weaker c.touched.result
    (λ is. ap (λ (p : Pages). Some (changes p)) is ∙ ap (λ (ns : List ℕ). Some (length ns)) (none_listed s.arena))
    c.touched.ensures.ok

pub returns-clause-kept : goal.returns-clause-kept
returns-clause-kept g c =
    let s = c.args.self.now in
    still_kept s.arena c.touched.new.self s.pages.entries s.visits.entries s.items.entries
    (either c.touched.result _ _ c.touched.ensures.ok c.touched.ensures.err) s.rows c.self-1.given.0

pub returns-clause-base : goal.returns-clause-base
returns-clause-base g c =
    let s = c.args.self.now in
    on_ok_weaker c.touched.result
    (λ is bytes.
    subst (λ (p : Pages). IsBaseOf p bytes ↔ (bytes ≡ bytes_in s.arena)) (sym is)
    (settled_base s.arena s.pages.entries s.visits.entries s.items.entries s.rows bytes)) c.touched.ensures.ok
