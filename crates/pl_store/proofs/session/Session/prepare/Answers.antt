use Rattle.std.proofs.Common.{◌≡◌, ◌≤◌, ◌∙◌, ℕ, All, IfSome, List, [], ◌∷◌, ap, arith, length, take, inl, inr, ⊎_elim}
use Rattle.std.proofs.Common.{refl, sym, subst}
use Rattle.std.proofs.Math.Seq.{take-length}
use Rattle.std.proofs.lemmas.Bool.{both_ways}
use Rattle.std.proofs.lemmas.List.{length-map}
use Rattle.pl_base.specs.Rows.{store_of}
use Rattle.pl_base.specs.Touched.{MayDiffer, PageImage, page_of, page_numbers}
use Rattle.pl_linked.specs.declared.linked.Linked.{Linked}
use Rattle.pl_linked.specs.Linked.{IsBase, bytes_of, kept_of, sheets_of}
use Rattle.pl_record.specs.Form.{StandsFor}
use Rattle.pl_record.specs.LinkedRows.{changes}
use Rattle.pl_store.specs.Bounds.{most_pages}
use Rattle.pl_store.specs.OwnBase.{HasOwnBase}
use Rattle.pl_store.specs.Session.{LeadsTo, pages_of_change, session_store}
use Rattle.pl_store.proofs.BoundLaws.{any_some, few_listed}
use Rattle.pl_store.proofs.OwnPages.{none_pending}
use Rattle.pl_store.proofs.session.Session.prepare.Goals.{Then-changes_nothing}
use Rattle.pl_store.proofs.session.Session.prepare.Goals as goal

-- where the command changes nothing the rows are the very same
same_rows : (c : Then-changes_nothing) → c.in_ok-engine.engine.rows ≡ c.args.self.engine.rows
same_rows c =
    ⊎_elim (λ refused. c.in_ok-engine.ensures.refused refused.0 refused.1) c.in_ok-engine.ensures.unchanged
    (c.changes_nothing.ensures.0 c.if-changes_nothing.true)

pub invariant_of-result : goal.invariant_of-result
invariant_of-result c =
    record { base = subst HasOwnBase (sym (same_rows c)) c.args.self.base }

pub returns-then-changes_nothing-clause-from : goal.returns-then-changes_nothing-clause-from
returns-then-changes_nothing-clause-from c = record {
  leads =
      subst (λ (rows : Linked). take (length (bytes_of rows)) (bytes_of c.args.self.engine.rows) ≡ bytes_of rows)
      (sym (same_rows c.before)) (take-length (bytes_of c.args.self.engine.rows));
  stands = c.in_ok-engine.ensures.stands;
}

pub returns-clause-from : goal.returns-clause-from
returns-clause-from c =
    let before = bytes_of c.args.self.engine.rows in
    let base = c.in_ok-engine.ensures.base before ((c.args.self.base before).1 refl) in
    let mid = c.in_ok-engine.engine.rows in let new = c.touched.new.engine.rows in
    record {
      leads =
          subst (λ (bytes : List ℕ). LeadsTo before c.of-change.result bytes)
          (c.in_ok-touched.ensures.whole before base)
          (c.of-change.ensures.leads before (c.in_ok-touched.ensures.before before base));
      stands = subst (λ (bytes : List ℕ). StandsFor bytes (store_of (kept_of new))) (sym c.touched.ensures.bytes)
          (subst (λ kept. StandsFor (bytes_of mid) (store_of kept)) (sym c.touched.ensures.kept)
          c.in_ok-engine.ensures.stands);
    }

pub returns-clause-refused : goal.returns-clause-refused
returns-clause-refused c refusal is =
    absurd (both_ways c.changes_nothing.result c.if-changes_nothing.false
    (c.changes_nothing.ensures.1 (inl (refusal, is))))

pub returns-clause-unchanged : goal.returns-clause-unchanged
returns-clause-unchanged c is =
    absurd (both_ways c.changes_nothing.result c.if-changes_nothing.false (c.changes_nothing.ensures.1 (inr is)))

-- a visit is written in few pages
pub returns-then-changes_nothing-clause-few : goal.returns-then-changes_nothing-clause-few
returns-then-changes_nothing-clause-few c =
    any_some (most_pages c.args.command.now (session_store c.args.self)) (λ most. 0 ≤ most) (λ most. omega arith)

pub returns-clause-few : goal.returns-clause-few
returns-clause-few c =
    let command = c.args.command.now in let store = session_store c.args.self in
    let mid = c.in_ok-engine.engine.rows in
    let pages : ℕ = pages_of_change c.of-change.result in
    let listed : changes (sheets_of mid) ≡ pages = sym (c.of-change.ensures.pages ∙ c.in_ok-touched.ensures.listed) in
    subst (λ (n : ℕ). IfSome (most_pages command store) (λ most. n ≤ most)) listed
    (few_listed command store (changes (sheets_of c.args.self.engine.rows)) (changes (sheets_of mid))
    (none_pending c.args.self.engine.rows c.args.self.base) c.in_ok-engine.ensures.pages)

-- no page differs from itself
none_differ : (base : List ℕ → Type 0) (bytes pages : List ℕ) → ((before : List ℕ) → base before → before ≡ bytes)
    → All (MayDiffer base bytes) pages → length pages ≡ 0
none_differ base bytes [] own differ = refl
none_differ base bytes (page ∷ pages) own differ =
    absurd (differ 0 page (omega arith) (λ before was. ap (page_of page) (own before was)))

pub returns-clause-idle : goal.returns-clause-idle
returns-clause-idle c idle =
    let mid = c.in_ok-engine.engine.rows in
    let pages : List PageImage = c.in_ok-touched.touched.pages in
    let own : HasOwnBase mid = subst HasOwnBase (sym (c.in_ok-engine.ensures.idle idle)) c.args.self.base in
    c.of-change.ensures.none
    (sym (length-map pages (λ (p : PageImage). p.page))
    ∙ none_differ (IsBase mid) (bytes_of c.touched.new.engine.rows) (page_numbers pages)
    (λ before was. (own before).0 was ∙ sym c.touched.ensures.bytes) c.in_ok-touched.ensures.needed)
