use Rattle.std.proofs.Common.{◌≡◌, ℕ, List, [], refl, sym, subst, arith}
use Rattle.pl_base.specs.Rows.{Kept, store_of}
use Rattle.pl_linked.specs.declared.linked.Linked.{Linked}
use Rattle.pl_linked.specs.Linked.{IsBase, bytes_of, kept_of}
use Rattle.pl_record.specs.Form.{StandsFor}
use Rattle.pl_store.proofs.start.start.Goals as goal

-- the rows are made over nothing
over_nothing : (linked rows : Linked) → rows ≡ linked → IsBase linked [] → IsBase rows []
over_nothing linked rows same base = subst (λ (r : Linked). IsBase r []) (sym same) base

pub returns-clause-stands : goal.returns-clause-stands
returns-clause-stands c =
    let rows = c.in_ok-engine.engine.rows in let new = c.touched.new.engine.rows in
    let own =
    subst (λ (r : Linked). StandsFor (bytes_of r) (store_of (kept_of r))) (sym c.in_ok-engine.ensures.rows)
    c.in_ok-engine.ensures.stands in
    subst (λ (bytes : List ℕ). StandsFor bytes (store_of (kept_of new))) (sym c.touched.ensures.bytes)
    (subst (λ (kept : Kept). StandsFor (bytes_of rows) (store_of kept)) (sym c.touched.ensures.kept) own)

pub returns-clause-whole : goal.returns-clause-whole
returns-clause-whole c =
    c.in_ok-touched.ensures.whole []
    (over_nothing c.in_ok-rows.rows c.in_ok-engine.engine.rows c.in_ok-engine.ensures.rows
    ((c.in_ok-rows.ensures.base []).1 refl))

pub returns-clause-before : goal.returns-clause-before
returns-clause-before c =
    let base =
    over_nothing c.in_ok-rows.rows c.in_ok-engine.engine.rows c.in_ok-engine.ensures.rows
    ((c.in_ok-rows.ensures.base []).1 refl) in
    omega (arith, c.in_ok-touched.ensures.before [] base, c.in_ok-touched.ensures.some)
