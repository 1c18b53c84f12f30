use Rattle.std.proofs.Common.{◌≡◌, ◌∙◌, ◌&&◌, Bool, List, false, subst, sym, true}
use Rattle.std.proofs.lemmas.Bool.{true≢false}
use Rattle.std.proofs.lemmas.Result.{err_from_is_err_and}
use Rattle.std.specs.List.{list_all}
use Rattle.pl_load.specs.Owners.{names_origin, names_parent}
use Rattle.pl_load.proofs.HeldKinds.{same_held}
use Rattle.pl_record.specs.declared.rows.Item.{Item}
use Rattle.pl_record.specs.declared.rows.Place.{Place}
use Rattle.pl_load.proofs.read.read_file.Goals as goal

both_true : (a b : Bool) → a ≡ true → b ≡ true → (a && b) ≡ true
both_true true b first second = second
both_true false b first second = first

pub returns-in_err-held-clause-none : goal.returns-in_err-held-clause-none
returns-in_err-held-clause-none g c told reads from owners =
    let p = err_from_is_err_and c.from_residual.result c.from_residual.ensures.1 in
    c.in_err-held.ensures.none (let both = sym p.1 ∙ told in let alike = p.2 in cc) reads from

pub returns-then-not-name_owners-clause-none : goal.returns-then-not-name_owners-clause-none
returns-then-not-name_owners-clause-none g c told reads from owners =
    let h = c.in_ok-held.held in
    let pages = c.args.arena.now in
    let same = same_held pages h reads c.in_ok-held.ensures.held from in
    true≢false
    (sym
    (both_true (list_all (names_origin pages) h.places.items) (list_all (names_parent pages) h.items.items)
    (subst (λ (ps : List Place). list_all (names_origin pages) ps ≡ true) same.places owners.origins)
    (subst (λ (is : List Item). list_all (names_parent pages) is ≡ true) same.items owners.parents))
    ∙ sym c.name_owners.ensures ∙ c.if-not-name_owners.true)

pub returns-in_err-meet-clause-none : goal.returns-in_err-meet-clause-none
returns-in_err-meet-clause-none g c told reads from owners =
    let p = err_from_is_err_and c.from_residual-in_err-meet.result c.from_residual-in_err-meet.ensures.1 in
    c.in_err-meet.ensures.none (let both = sym p.1 ∙ told in let alike = p.2 in cc) reads from

pub returns-in_err-stored-clause-none : goal.returns-in_err-stored-clause-none
returns-in_err-stored-clause-none g c told reads from owners =
    let p = err_from_is_err_and c.from_residual-in_err-stored.result c.from_residual-in_err-stored.ensures.1 in
    c.in_err-stored.ensures.none (let both = sym p.1 ∙ told in let alike = p.2 in cc) reads from
